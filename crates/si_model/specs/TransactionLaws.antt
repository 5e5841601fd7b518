-- The laws of requests that stand for several of the machine's.
use Rattle.std.specs.Prelude.{◌≡◌, ℕ, ◌≤◌, ⊤, List, [], ◌∷◌, length, Option}
use Rattle.std.specs.FinMap.{remove}
use Rattle.cell_key.specs.Cells.{Cells}
use Rattle.cell_key.specs.declared.refusals.Refusal.{Refusal}
use Rattle.si_model.specs.Machine.{State, Item, Change, Writes, Wrote, Gives, Clashes, Draws, CommittedAt, Refused, IsReached}
use Rattle.si_model.specs.PutCells.{all_put_cells}
use Rattle.si_model.specs.Scans.{IsSaid}
use Rattle.si_model.specs.ShowsCells.{ShowsCells}
use Rattle.si_model.specs.Transactions.{Answer, Said, CommitDone, CommitConflict, Opens, Buffers, ReadsAll, HasEnded, ClashesFirst, Transacts, Goes, Operation}
use Rattle.si_model.specs.declared.replies.Cell.{Cell}

-- a request leads from a reached state to a reached state
abbrev pub StaysReached : Type 0
StaysReached =
    (st next : State) (operation : Operation) (answer : Answer) → IsReached st
    → Goes st operation answer next → IsReached next

-- each of the cells is said this of
abbrev pub EachSaid : (Cell → Option Item → Type 0) → List Cell → List (Option Item) → Type 0
EachSaid Is [] [] = ⊤
EachSaid Is (x ∷ xs) (said ∷ more) = Is x said × EachSaid Is xs more
EachSaid Is [] (said ∷ more) = ⊥
EachSaid Is (x ∷ xs) [] = ⊥

-- What is read together holds at one moment: a scan of one state could say it of each cell.
abbrev pub ReadsOneMoment : Type 0
ReadsOneMoment =
    (st next : State) (s used : ℕ) (cells : List Cell) (said : List (Option Item))
    → ReadsAll s used st cells said next → EachSaid (IsSaid st s) cells said

-- none of the session's writes clashes
abbrev pub IsAllFree : State → ℕ → Writes → Type 0
IsAllFree st s ws = (x : Cell) (v : Change) → Gives ws x v → ¬ Clashes st x s

-- the state after the session of s committed at c and ended, with its marks removed
abbrev pub committed_state : State → ℕ → ℕ → Writes → State
committed_state st s c ws = record st {
  top = c;
  active = remove st.active s;
  commits = record { start = s; stamp = c; writes = ws } ∷ st.commits;
}

-- If none of a session's writes clashes, its transaction may be answered as committed, at any stamp that may be drawn.
-- This leaves no mark. The cells with data and record of each write, and no lock, show the state after it.
abbrev pub PutsAtOnce : Type 0
PutsAtOnce =
    (cells : Cells) (st mid written : State) (start s c : ℕ) (ws all : Writes) → IsReached st
    → ShowsCells cells st → Opens st start s mid → Buffers s mid ws written → Wrote written s all
    → 1 ≤ length all → IsAllFree written s all → Draws written c
    → Transacts st start ws (CommitDone s c) (committed_state written s c all)
    × ShowsCells (all_put_cells cells all s c) (committed_state written s c all)

-- the same marks, and the same commits
pub record SameHeld (st next : State) : Type 0 where
  pub marks : next.marks ≡ st.marks
  pub commits : next.commits ≡ st.commits

-- The session of s met a conflict: the cell at this place of its writes is the first that clashes. It has ended, and
-- holds nothing.
pub record HasClashed (st : State) (s place : ℕ) (next : State) : Type 0 where
  pub first : ClashesFirst next s place
  pub ended : HasEnded next s
  pub held : SameHeld st next

-- The answer of a transaction is true: it is committed, or it met a conflict and holds nothing, or it leaves nothing if
-- it is refused.
pub record TellsTruth (st : State) (start : ℕ) (ws : Writes) (next : State) : Type 0 where
  pub committed : (s c : ℕ) → Transacts st start ws (CommitDone s c) next → CommittedAt next s c
  pub conflict : (s place : ℕ) → Transacts st start ws (CommitConflict s place) next
      → HasClashed st s place next
  pub refused : (n : Refusal) → Transacts st start ws (Said (Refused n)) next → next ≡ st

abbrev pub AnswersTruly : Type 0
AnswersTruly =
    (st : State) (start : ℕ) (ws : Writes) (next : State) → IsReached st
    → TellsTruth st start ws next
