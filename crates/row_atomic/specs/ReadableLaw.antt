-- Lemmas used by a ghost member; no promise is made here. If tablets are in order, every row can be read.
use Rattle.std.proofs.Common.{◌≡◌, ℕ, zero, suc, List, [], ◌∷◌, Option, Some, slice_get, subst, sym}
use Rattle.std.specs.Prelude.{IsSomeAnd}
use Rattle.std.specs.List.{AllByRecursion}
use Rattle.file_store.specs.Store.{Contents}
use Rattle.metadata_table.specs.Places.{PlaceView}
use Rattle.tablet.specs.Views.{Holds}
use Rattle.tablet.specs.declared.tablet.Tablet.{Tablet}
use Rattle.row_atomic.specs.Clusters.{InOrder, IsReadable, tablet_numbered}

each_at : (P : Tablet → Type 0) (ts : List Tablet) → AllByRecursion P ts → (i : ℕ) (t : Tablet)
    → slice_get ts i ≡ Some t → P t
each_at P [] all i t e = cc
each_at P (u ∷ ts) all zero t e = let same : u ≡ t = cc in subst P same all.0
each_at P (u ∷ ts) all (suc i) t e = each_at P ts all.1 i t e

numbered : (P : Tablet → Type 0) (ts : List Tablet) → AllByRecursion P ts → (n : ℕ) (t : Tablet)
    → tablet_numbered n ts ≡ Some t → P t
numbered P ts all zero t e = cc
numbered P ts all (suc i) t e = each_at P ts all i t e

pub all_readable : (disk : Option Contents) (next : ℕ) (places : List PlaceView)
    (ts : List Tablet) → InOrder disk next ts → (row : List ℕ) → IsReadable disk places ts row
all_readable disk next places ts order row p t holder is =
    subst (λ (o : Option Contents). IsSomeAnd o (λ m. Holds m t)) (sym order.on_disk)
    (numbered (Holds order.contents) ts order.each_open p.tablet t is)
