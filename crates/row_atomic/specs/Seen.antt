-- The view of a cluster.
use Rattle.std.specs.Prelude.{Option}
use Rattle.file_store.specs.Store.{Contents}
use Rattle.rows.specs.Calls.{View}
use Rattle.row_atomic.specs.Changes.{Holds}
use Rattle.row_atomic.specs.Clusters.{ClusterState, IsReadable, Overfills, cells_in, storage_of}
use Rattle.row_atomic.specs.ReadableLaw.{all_readable}

-- the view of a cluster over the bytes of its files
abbrev pub seen_of : {F : Type 0} → (F → Option Contents) → View (ClusterState F)
seen_of contents = record {
  holds = λ state. Holds contents state;
  readable = λ state row. IsReadable (contents state.files) state.places state.tablets row;
  each_readable = λ state held row.
      all_readable (contents state.files) state.next_name state.places state.tablets held.0 row;
  cells = λ state. cells_in (contents state.files) state.tablets;
  overfills = λ state row edits. Overfills state.places state.tablets row edits;
  storage = λ state. storage_of contents state;
}
