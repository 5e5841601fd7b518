-- What a transaction does to the rows, and its stamps, by what the call has.
use Rattle.std.proofs.Common.{◌≡◌, ◌≢◌, ◌∙◌, ℕ, ◌+◌, inl, inr, List, [], ◌∷◌, ◌++◌, length, map, sym, subst, ap, arith}
use Rattle.std.specs.List.{AllByRecursion}
use Rattle.cell_key.specs.Cells.{Cells, after_edits}
use Rattle.rows.specs.Calls.{AppliesAll, OnlyReads, View}
use Rattle.rows.specs.RowEdits.{all_edits}
use Rattle.rows.specs.declared.row_edits.RowEdits.{RowEdits}
use Rattle.si_model.specs.Machine.{Writes}
use Rattle.si_model.specs.PutCells.{all_put_cells}
use Rattle.txn_client.specs.Commits.{Commits, CommitsIn, HasNoRoomToCommit, HasNoRoomToPut, HasWrites, IsCommitStamp, IsTransaction, MeetsConflict, PutsWith}
use Rattle.txn_client.specs.Puts.{ArePuttings}
use Rattle.txn_client.specs.Takings.{AreFree, AreReadable, IsFirstTaken}
use Rattle.si_model.specs.Takings.{TakesAll}
use Rattle.txn_client.specs.Writes.{write_of}
use Rattle.txn_client.specs.declared.sessions.Clients.{Clients}
use Rattle.txn_client.specs.declared.writes.Write.{Write}

module _ {R : Type 0} (seen : View R) (old mid new : R) (reads : OnlyReads seen old mid) where
  each_still : (changes : List RowEdits) → AllByRecursion (λ (change : RowEdits). seen.readable old change.row) changes → AllByRecursion (λ (change : RowEdits). seen.readable mid change.row) changes
  each_still [] h = tt
  each_still (change ∷ changes) h = (reads.readable change.row h.0, each_still changes h.1)

  applies_after : (changes : List RowEdits) → AppliesAll seen changes mid new → AppliesAll seen changes old new
  applies_after changes a = record {
    still = λ h. a.still (reads.still h);
    readable = λ row h. a.readable row (reads.readable row h);
    made = λ whole. a.made (each_still changes whole) ∙ ap (λ (m : Cells). after_edits m (all_edits changes)) reads.kept;
    room = λ r later over. elim (a.room r later over) [ inl h ↦ inl (reads.room r later h) | inr h ↦ inr (reads.room r (all_edits changes ++ later) h) ];
    stays = a.stays ∙ reads.stays;
  }

  module _ (clients : Clients) (last start : ℕ) (asked : Writes) (before ws : List Write) (s n : ℕ) (same : n ≡ last) (has : CommitsIn clients n start s before) (takes : TakesAll (map write_of before) asked (map write_of ws)) where
    writes : HasWrites clients last start asked s ws
    writes = record {
      before = before;
      session = subst (λ (m : ℕ). CommitsIn clients m start s before) same has;
      takes = takes;
    }

    transaction_of : (c : ℕ) (changes : List RowEdits) → IsCommitStamp last start c → ArePuttings s c (map write_of ws) changes → IsTransaction clients last start asked s c ws changes
    transaction_of c changes stamp puts = record { writes = writes; stamp = stamp; puts = puts }

    pub conflicts_by : (slice : List Write) (key place : ℕ) → slice ≡ ws → key ≡ s → (AreReadable seen old slice → IsFirstTaken (seen.cells old) key slice place) → MeetsConflict seen clients last start asked key place old mid
    conflicts_by slice key place is key_is taken = subst (λ (n : ℕ). MeetsConflict seen clients last start asked n place old mid) (sym key_is) (record {
      all = ws;
      writes = writes;
      taken = subst (λ (p : ℕ × List Write). AreReadable seen old p.1 → IsFirstTaken (seen.cells old) p.0 p.1 place) (λ j. (key_is j, is j)) taken;
      reads = reads;
    })

    pub commits_by : (slice slice' : List Write) (c key : ℕ) → slice ≡ ws → slice' ≡ ws → key ≡ s → IsCommitStamp last start c → (AreReadable seen old slice → AreFree (seen.cells old) key slice (length slice)) → PutsWith seen (map write_of slice') s c mid new → Commits seen clients last start asked key c old new
    commits_by slice slice' c key is is' key_is stamp free puts =
        subst (λ (n : ℕ). Commits seen clients last start asked n c old new) (sym key_is) (
        let now = subst (λ (l : List Write). PutsWith seen (map write_of l) s c mid new) is' puts in
        record {
          all = ws;
          changes = now.changes;
          transaction = transaction_of c now.changes stamp now.puts;
          free = subst (λ (p : ℕ × List Write). AreReadable seen old p.1 → AreFree (seen.cells old) p.0 p.1 (length p.1)) (λ j. (key_is j, is j)) free;
          applied = applies_after now.changes now.applied;
          made = λ held. now.made (reads.still held) ∙ ap (λ (m : Cells). all_put_cells m (map write_of ws) s c) reads.kept;
        })

    pub no_room_by : (slice : List Write) (c : ℕ) → slice ≡ ws → IsCommitStamp last start c → HasNoRoomToPut seen (map write_of slice) s c mid → HasNoRoomToCommit seen clients last start asked old
    no_room_by slice c is stamp full =
        let now = subst (λ (l : List Write). HasNoRoomToPut seen (map write_of l) s c mid) is full in
        record {
          s = s;
          c = c;
          all = ws;
          changes = now.0;
          transaction = transaction_of c now.0 stamp now.1;
          over = record { change = now.2.change; among = now.2.among; over = reads.room _ _ now.2.over };
        }

-- ---- stamps

pub commit_stamp : (last start n count c : ℕ) → n ≡ last → (start ≡ 0 → count ≡ 2) → (start ≢ 0 → count ≡ 1) → c ≡ n + count → IsCommitStamp last start c
commit_stamp last start n count c same new named is = record {
  named = λ ne. let one = named ne in omega (arith, same, one, is);
  new = λ is0. let two = new is0 in omega (arith, same, two, is);
}
