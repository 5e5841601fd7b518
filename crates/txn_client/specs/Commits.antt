-- Transactions in one call: their session, their writes, the edits that put them, and their stamps.
use Rattle.std.specs.Prelude.{◌≡◌, ◌≢◌, ◌⊎◌, ℕ, ◌+◌, ◌-◌, ◌<◌, ◌^◌, List, [], length, map, Option, Some, None}
use Rattle.std.specs.Ordering.{nat_cmp}
use Rattle.std.specs.BTreeMap as btree
use Rattle.std.specs.BTreeMap.{Updates}
use Rattle.cell_key.specs.declared.refusals.Refusal.{Refusal}
use Rattle.cell_key.specs.declared.refusals.Refusal.TheVariants.{NoMemory}
use Rattle.oracle.specs.Marks.{MayHold}
use Rattle.oracle.specs.Ranges.{OracleState, next_range_end}
use Rattle.rows.specs.Calls.{AppliesAll, OnlyReads, View}
use Rattle.rows.specs.Room.{OverfillsOne}
use Rattle.rows.specs.declared.row_edits.RowEdits.{RowEdits}
use Rattle.si_model.specs.Machine.{Writes}
use Rattle.si_model.specs.PutCells.{all_put_cells}
use Rattle.si_model.specs.declared.transactions.CommitReply.{CommitReply}
use Rattle.si_model.specs.declared.transactions.CommitReply.TheVariants.{Committed, Conflict}
use Rattle.txn_client.specs.Buffers.{BuffersNone}
use Rattle.txn_client.specs.Puts.{ArePuttings}
use Rattle.txn_client.specs.Shows.{IsOpenSession}
use Rattle.txn_client.specs.Takings.{AreFree, AreReadable, IsFirstTaken}
use Rattle.si_model.specs.Takings.{TakesAll}
use Rattle.txn_client.specs.Transactions.{IsSessionRefusal}
use Rattle.txn_client.specs.Writes.{write_of}
use Rattle.txn_client.specs.declared.session.Phase.TheVariants.{Open}
use Rattle.txn_client.specs.declared.session.Session.{Session}
use Rattle.txn_client.specs.declared.sessions.Clients.{Clients}
use Rattle.txn_client.specs.declared.writes.Write.{Write}

-- the session at t is open, began at s, and has these writes
abbrev pub IsOpenWith : Clients → ℕ → ℕ → List Write → Type 0
IsOpenWith clients t s ws =
    (session : Session) × (btree.get nat_cmp clients.sessions t ≡ Some session)
    × (session.phase ≡ Open) × (s ≡ session.start) × (ws ≡ session.writes)

-- the session of a transaction and its writes so far: the one that is named, which is open, or one that may begin with
-- the next stamp
pub record CommitsIn (clients : Clients) (last start s : ℕ) (ws : List Write) : Type 0 where
  pub is_open : start ≢ 0 → IsOpenWith clients start s ws
  pub is_new : start ≡ 0 → (s ≡ last + 1) × (s < 2 ^ 63)
      × (btree.btree_map_len clients.sessions < 1024) × (ws ≡ [])

-- why it has none, or can't be copied
abbrev pub IsCopyRefusal : Clients → ℕ → ℕ → Refusal → Type 0
IsCopyRefusal clients last start NoMemory = (start ≢ 0) × IsOpenSession clients start
IsCopyRefusal clients last start refusal = IsSessionRefusal clients last start refusal

-- its commit stamp: the next stamp, or the one after the start of a new session
pub record IsCommitStamp (last start c : ℕ) : Type 0 where
  pub named : start ≢ 0 → c ≡ last + 1
  pub new : start ≡ 0 → c ≡ last + 2

-- the stamps that it would draw aren't there
pub record LacksStamps (last start : ℕ) : Type 0 where
  pub named : start ≢ 0 → 2 ^ 63 - 1 < last + 1
  pub new : start ≡ 0 → 2 ^ 63 - 1 < last + 2

-- its session began at s, and all these are its writes: the session's, and then the ones asked for
pub record HasWrites (clients : Clients) (last start : ℕ) (asked : Writes) (s : ℕ)
    (all : List Write) : Type 0 where
  pub before : List Write
  pub session : CommitsIn clients last start s before
  pub takes : TakesAll (map write_of before) asked (map write_of all)

-- it puts its writes with records at c by these edits
pub record IsTransaction (clients : Clients) (last start : ℕ) (asked : Writes) (s c : ℕ)
    (all : List Write) (changes : List RowEdits) : Type 0 where
  pub writes : HasWrites clients last start asked s all
  pub stamp : IsCommitStamp last start c
  pub puts : ArePuttings s c (map write_of all) changes

-- writes of s were put with their records at c
pub record PutsWith {R : Type 0} (seen : View R) (all : Writes) (s c : ℕ) (old new : R)
    : Type 0 where
  pub changes : List RowEdits
  pub puts : ArePuttings s c all changes
  pub applied : AppliesAll seen changes old new
  pub made : seen.holds old → seen.cells new ≡ all_put_cells (seen.cells old) all s c

-- the edits that put them would exceed a limit of the memory
abbrev pub HasNoRoomToPut : {R : Type 0} → View R → Writes → ℕ → ℕ → R → Type 0
HasNoRoomToPut seen all s c old =
    (changes : List RowEdits)
    × ArePuttings s c all changes × OverfillsOne seen.overfills changes old

-- A transaction is committed: its cells were free, and its edits are made and take their room.
pub record Commits {R : Type 0} (seen : View R) (clients : Clients) (last start : ℕ)
    (asked : Writes) (s c : ℕ) (old new : R) : Type 0 where
  pub all : List Write
  pub changes : List RowEdits
  pub transaction : IsTransaction clients last start asked s c all changes
  pub free : AreReadable seen old all → AreFree (seen.cells old) s all (length all)
  pub applied : AppliesAll seen changes old new
  pub made : seen.holds old
      → seen.cells new ≡ all_put_cells (seen.cells old) (map write_of all) s c

-- A transaction meets a conflict: its session began at s, and the cell at this place is the first of its writes that
-- isn't free. Nothing is changed.
pub record MeetsConflict {R : Type 0} (seen : View R) (clients : Clients) (last start : ℕ)
    (asked : Writes) (s place : ℕ) (old new : R) : Type 0 where
  pub all : List Write
  pub writes : HasWrites clients last start asked s all
  pub taken : AreReadable seen old all → IsFirstTaken (seen.cells old) s all place
  pub reads : OnlyReads seen old new

-- what a transaction that isn't refused does to the rows
abbrev pub CommitDoes : {R : Type 0}
    → View R → Clients → ℕ → ℕ → Writes → R → R → CommitReply → Type 0
CommitDoes seen clients last start asked old new (Committed s c) =
    Commits seen clients last start asked s c old new
CommitDoes seen clients last start asked old new (Conflict s place) =
    MeetsConflict seen clients last start asked s place old new

-- the edits of the transaction would exceed a limit of the memory
pub record HasNoRoomToCommit {R : Type 0} (seen : View R) (clients : Clients) (last start : ℕ)
    (asked : Writes) (old : R) : Type 0 where
  pub s : ℕ
  pub c : ℕ
  pub all : List Write
  pub changes : List RowEdits
  pub transaction : IsTransaction clients last start asked s c all changes
  pub over : OverfillsOne seen.overfills changes old

-- A refused transaction leaves the rows and the last stamp unchanged. The oracle's range and mark are unchanged too, or
-- its next range has begun.
pub record CommitLeaves {R M : Type 0} (seen : View R) (mark_of : M → Option ℕ) (old new : R)
    (oracle oracle' : OracleState M) : Type 0 where
  pub same : OnlyReads seen old new
  pub stays : oracle'.last ≡ oracle.last
  pub range : (oracle'.range_end ≡ oracle.range_end)
      ⊎ (oracle'.range_end ≡ next_range_end oracle.range_end)
  pub mark : MayHold (next_range_end oracle.range_end)
      (mark_of oracle.marks) (mark_of oracle'.marks)

-- the stamps that it draws: the start of a new session, and then its commit stamp, unless it met a conflict
abbrev pub CommitDraws : ℕ → ℕ → ℕ → CommitReply → Type 0
CommitDraws before now start (Committed s c) =
    (c ≡ now) × IsCommitStamp before start c × (start ≡ 0 → s ≡ before + 1)
CommitDraws before now start (Conflict s place) =
    (start ≢ 0 → now ≡ before) × (start ≡ 0 → (now ≡ before + 1) × (s ≡ before + 1))

-- the session of a transaction that isn't refused began at t
abbrev pub BeganAt : ℕ → CommitReply → Type 0
BeganAt t (Committed s c) = s ≡ t
BeganAt t (Conflict s place) = s ≡ t

-- the session that is named has ended, and this is the top; without a name, no session changes
pub record EndsAt (old new : Clients) (start now : ℕ) : Type 0 where
  pub top : new.top ≡ now
  pub new_ends : start ≡ 0 → new ≡ record old { top = now }
  pub updates : start ≢ 0 → Updates nat_cmp old.sessions new.sessions start None
  pub len : start ≢ 0 → (session : Session) → btree.get nat_cmp old.sessions start ≡ Some session
      → btree.btree_map_len new.sessions + 1 ≡ btree.btree_map_len old.sessions
  pub buffered : start ≢ 0 → BuffersNone old new start
