-- The snapshot machine: its steps, its runs and its reached states.
use Rattle.std.specs.Prelude.{◌≡◌, ◌≢◌, ℕ, ◌+◌, ◌<◌, ◌≤◌, Bool, true, false, ◌⊎◌, List, [], ◌∷◌, length, Option, None, Some, nat_eq, cond, max}
use Rattle.std.specs.Ordering.{nat_cmp}
use Rattle.std.specs.declared.cmp.Ordering.TheVariants.{Less}
use Rattle.std.specs.Cmp.Lexicographic.{slice_cmp}
use Rattle.std.specs.FinMap.{FinMap, get, insert, remove}
use Rattle.cell_key.specs.declared.keys.Qualifier.{Qualifier}
use Rattle.cell_key.specs.declared.refusals.Refusal.{Refusal}
use Rattle.si_model.specs.Sets.{◌∈◌, IsWithout}
use Rattle.si_model.specs.declared.replies.Cell.{Cell}
pub use Rattle.si_model.specs.State.{State, Value, Change, Writes, Phase, Open, Holding, Stamped, Finishing, Commit, Read, Range, Item, Valued, Locked, Unsent, Reach, ToEnd, UpTo, Scan, Cleaner, Place, new_machine, reopened, most_sessions, most_cleaners, most_collectors, most_tablets, most_servers, most_writes, most_value, most_visits, most_scanned, end_of_stamps, InPhase, Wrote, Marked, Puts, Gives, Names, IsDead, CommittedAt, IsCommitted, HasTablet, IsEnd}
pub use Rattle.si_model.specs.Messages.{Request, Begin, Get, Set, Delete, ScanFrom, Advance, Stop, CleanBegin, CleanStep, CollectBegin, CollectStep, Minor, Merge, Major, Split, Move, Sweep, OracleRestart, Raw, Checkpoint, Status, Reply, Begun, Answered, Pending, SetDone, DeleteDone, Scanned, Held, Conflict, Drawn, Committed, Lost, Finished, StopDone, NoLock, Cleaning, Decided, RolledForward, RolledBack, Gone, Collecting, More, Blocked, Collected, MinorDone, MergeDone, MajorDone, SplitOff, MoveDone, Swept, RestartDone, RawFound, CheckpointDone, Reported, Refused}
pub use Rattle.si_model.specs.Refusing.{Applies, IsFirstRefusal, IsAcceptable, IsStorageRefusal, Refuses}
pub use Rattle.si_model.specs.Snapshots.{IsSnapshot}
use Rattle.si_model.specs.Scans.{IsScanned}

-- A stamp that may be drawn: any above the greatest one answered, up to the limit. (Percolator, timestamp oracle.)
abbrev pub Draws : State → ℕ → Type 0
Draws st s = (st.top < s) × (s < end_of_stamps)

-- t may not hold x: x has a mark, or was written after t began. (Percolator, Prewrite.)
abbrev pub Clashes : State → Cell → ℕ → Type 0
Clashes st x t =
    ((u : ℕ) × Marked st x u) ⊎ ((a : Commit) × (a ∈ st.commits) × Names a.writes x × (t < a.stamp))

-- the session has held this many of its cells and has drawn no commit stamp
abbrev pub HasHeld : State → ℕ → ℕ → Type 0
HasHeld st t k = InPhase st t (Holding k) ⊎ (InPhase st t Open × (k ≡ 0))

-- the writes after a Set or a Delete: an earlier write of the cell keeps its place and gets the new change; otherwise
-- the write comes last
pub data Sets (x : Cell) (v : Change) : Writes → Writes → Type 0 where
  appends : Sets x v [] ((x, v) ∷ [])
  replaces : {old : Change} {ws : Writes} → Sets x v ((x, old) ∷ ws) ((x, v) ∷ ws)
  passes : {y : Cell} {w : Change} {ws ws' : Writes} → y ≢ x → Sets x v ws ws'
      → Sets x v ((y, w) ∷ ws) ((y, w) ∷ ws')

-- the active sessions after one has finished k of its n cells: it ends with the last
abbrev pub finishing : FinMap nat_cmp Phase → ℕ → ℕ → ℕ → ℕ → FinMap nat_cmp Phase
finishing active t c k n = cond (nat_eq k n) (remove active t) (insert active t (Finishing c k))

-- no session that is active now or later has a start below the floor: it is the least active start, or the top plus one
pub data IsFloor (st : State) : ℕ → Type 0 where
  least : {t : ℕ} {p : Phase} → InPhase st t p → ((u : ℕ) (q : Phase) → InPhase st u q → t ≤ u)
      → IsFloor st t
  none_active : ((u : ℕ) (q : Phase) → ¬ InPhase st u q) → IsFloor st (st.top + 1)

-- the tablet with the row is split there; the left part, which ends with the row, is tablet n (Bigtable, tablets)
pub data Cuts (row : List ℕ) (n : ℕ) : List Place → List Place → Type 0 where
  cuts_last : {k server : ℕ} → Cuts row n (record { end = None; tablet = k; server = server } ∷ [])
      (record { end = Some row; tablet = n; server = server }
      ∷ record { end = None; tablet = k; server = server } ∷ [])
  cuts : {end : List ℕ} {k server : ℕ} {ps : List Place} → slice_cmp nat_cmp row end ≡ Less
      → Cuts row n (record { end = Some end; tablet = k; server = server } ∷ ps)
      (record { end = Some row; tablet = n; server = server }
      ∷ record { end = Some end; tablet = k; server = server } ∷ ps)
  cuts_later : {end : List ℕ} {k server : ℕ} {ps ps' : List Place}
      → slice_cmp nat_cmp end row ≡ Less → Cuts row n ps ps'
      → Cuts row n (record { end = Some end; tablet = k; server = server } ∷ ps)
      (record { end = Some end; tablet = k; server = server } ∷ ps')

-- the tablet is moved to this server
pub data Moves (tablet server : ℕ) : List Place → List Place → Type 0 where
  moves : {end : Option (List ℕ)} {old : ℕ} {ps : List Place}
      → Moves tablet server (record { end = end; tablet = tablet; server = old } ∷ ps)
      (record { end = end; tablet = tablet; server = server } ∷ ps)
  moves_later : {p : Place} {ps ps' : List Place} → p.tablet ≢ tablet → Moves tablet server ps ps'
      → Moves tablet server (p ∷ ps) (p ∷ ps')

-- Accepted requests that change nothing.
pub data Tells (st : State) : Request → Reply → Type 0 where
  -- a mark at or below the session's start blocks its read (Percolator, Get)
  waits : {s t : ℕ} {x : Cell} → InPhase st s Open
      → Marked st x t → t ≤ s → Tells st (Get s x) (Pending t)
  finds_none : {x : Cell} → ((t : ℕ) → ¬ Marked st x t) → Tells st (CleanBegin x) NoLock
  -- a collector may stop at any mark below its floor, and continue at any time
  is_blocked : {i n f t : ℕ} {x : Cell} → get st.collectors i ≡ Some f → Marked st x t → t < f
      → Tells st (CollectStep i n) (Blocked x t)
  goes_further : {i n f : ℕ} → get st.collectors i ≡ Some f → Tells st (CollectStep i n) More
  -- compactions, sweeps, raw reads, checkpoints and restarts of the oracle don't affect transactions
  minors : {k : ℕ} → Tells st (Minor k) MinorDone
  merges : {k n : ℕ} → Tells st (Merge k n) MergeDone
  majors : {k : ℕ} → Tells st (Major k) MajorDone
  sweeps : {n : ℕ} → Tells st Sweep (Swept n)
  restarts : Tells st OracleRestart RestartDone
  finds_raw : {x : Cell} {q : Qualifier} {low high : ℕ} {found : Option (ℕ × Value)}
      → Tells st (Raw x q low high) (RawFound found)
  checkpoints : Tells st Checkpoint CheckpointDone
  -- the machine doesn't know how the storage is: any report may be answered
  reports : {k : ℕ} {report : List ℕ} → Tells st (Status k) (Reported report)

-- An accepted request in st: its reply and the next state.
pub data Acts (st : State) : Request → Reply → State → Type 0 where
  tells : {q : Request} {r : Reply} → Tells st q r → Acts st q r st
  -- sessions (Percolator, Get, Set, Prewrite and Commit; a Delete is buffered like a Set, and a scan answers like a
  -- series of Gets)
  begins : {s : ℕ} → Draws st s
      → Acts st Begin (Begun s)
      (record st { top = s; begun = insert st.begun s []; active = insert st.active s Open })
  reads : {s : ℕ} {x : Cell} {answer : Option Value} → InPhase st s Open
      → ((t : ℕ) → Marked st x t → s < t) → IsSnapshot st.commits s x answer
      → Acts st (Get s x) (Answered answer)
      (record st { reads = record { start = s; cell = x; answer = answer } ∷ st.reads })
  scans : {s cells : ℕ} {range : Range} {keys_only : Bool} {items : List (Cell × Item)}
      {reach : Reach} → InPhase st s Open → IsScanned st s range keys_only cells items reach
      → Acts st (ScanFrom s range keys_only cells) (Scanned items reach)
      (record st {
        scans = record { start = s; range = range; reach = reach; items = items } ∷ st.scans;
      })
  sets : {s : ℕ} {x : Cell} {v : Value} {ws ws' : Writes} → InPhase st s Open
      → Wrote st s ws → Sets x (Some v) ws ws'
      → Acts st (Set s x v) SetDone (record st { begun = insert st.begun s ws' })
  deletes : {s : ℕ} {x : Cell} {ws ws' : Writes} → InPhase st s Open
      → Wrote st s ws → Sets x None ws ws'
      → Acts st (Delete s x) DeleteDone (record st { begun = insert st.begun s ws' })
  holds : {t k : ℕ} {ws : Writes} {x : Cell} {v : Change} → HasHeld st t k
      → Wrote st t ws → Puts ws k x v → ¬ Clashes st x t
      → Acts st (Advance t) (Held (k + 1) (length ws))
      (record st { marks = (x, t) ∷ st.marks; active = insert st.active t (Holding (k + 1)) })
  conflicts : {t k : ℕ} {ws : Writes} {x : Cell} {v : Change} → HasHeld st t k
      → Wrote st t ws → Puts ws k x v → Clashes st x t
      → Acts st (Advance t) (Conflict (k + 1)) (record st { active = remove st.active t })
  draws : {t c : ℕ} {ws : Writes} → InPhase st t (Holding (length ws)) → Wrote st t ws → Draws st c
      → Acts st (Advance t) (Drawn c)
      (record st { top = c; active = insert st.active t (Stamped c) })
  loses : {t c : ℕ} → InPhase st t (Stamped c) → IsDead st t
      → Acts st (Advance t) Lost (record st { active = remove st.active t })
  -- the commit: it makes all writes at once, and removes the mark of the first cell
  commits : {t c : ℕ} {ws : Writes} {x : Cell} {v : Change} {marks' : List (Cell × ℕ)}
      → InPhase st t (Stamped c)
      → ¬ IsDead st t → Wrote st t ws → Puts ws 0 x v → IsWithout st.marks (x, t) marks'
      → Acts st (Advance t) (Committed c) (record st {
        commits = record { start = t; stamp = c; writes = ws } ∷ st.commits;
        marks = marks';
        active = finishing st.active t c 1 (length ws);
      })
  finishes : {t c k : ℕ} {ws : Writes} {x : Cell} {v : Change} {marks' : List (Cell × ℕ)}
      → InPhase st t (Finishing c k)
      → Wrote st t ws → Puts ws k x v → IsWithout st.marks (x, t) marks'
      → Acts st (Advance t) (Finished (k + 1) (length ws))
      (record st { marks = marks'; active = finishing st.active t c (k + 1) (length ws) })
  stops : {t : ℕ} {p : Phase} → InPhase st t p
      → Acts st (Stop t) StopDone (record st { active = remove st.active t })
  -- clean-up (after Percolator's clean-up of locks)
  opens : {x : Cell} {t : ℕ} → Marked st x t → st.next_cleaner < end_of_stamps
      → Acts st (CleanBegin x) (Cleaning st.next_cleaner t) (record st {
        cleaners =
            insert st.cleaners st.next_cleaner (record { cell = x; start = t; decided = false });
        next_cleaner = st.next_cleaner + 1;
      })
  -- the first step decides the fate of the start at its first cell, if it is undecided
  kills : {i t : ℕ} {x y : Cell} {v : Change} {ws : Writes} {marks' : List (Cell × ℕ)}
      → get st.cleaners i ≡ Some (record { cell = x; start = t; decided = false })
      → ¬ IsCommitted st t → ¬ IsDead st t → Wrote st t ws → Puts ws 0 y v
      → IsWithout st.marks (y, t) marks'
      → Acts st (CleanStep i) Decided (record st {
        dead = t ∷ st.dead;
        marks = marks';
        cleaners = insert st.cleaners i (record { cell = x; start = t; decided = true });
      })
  learns : {i t : ℕ} {x : Cell}
      → get st.cleaners i ≡ Some (record { cell = x; start = t; decided = false })
      → IsCommitted st t ⊎ IsDead st t
      → Acts st (CleanStep i) Decided (record st {
        cleaners = insert st.cleaners i (record { cell = x; start = t; decided = true });
      })
  -- the second step clears the cell, according to that fate
  rolls_forward : {i t c : ℕ} {x : Cell} {marks' : List (Cell × ℕ)}
      → get st.cleaners i ≡ Some (record { cell = x; start = t; decided = true })
      → Marked st x t → CommittedAt st t c → IsWithout st.marks (x, t) marks'
      → Acts st (CleanStep i) (RolledForward c)
      (record st { marks = marks'; cleaners = remove st.cleaners i })
  rolls_back : {i t : ℕ} {x : Cell} {marks' : List (Cell × ℕ)}
      → get st.cleaners i ≡ Some (record { cell = x; start = t; decided = true })
      → Marked st x t → ¬ IsCommitted st t → IsWithout st.marks (x, t) marks'
      → Acts st (CleanStep i) RolledBack
      (record st { marks = marks'; cleaners = remove st.cleaners i })
  finds_gone : {i t : ℕ} {x : Cell}
      → get st.cleaners i ≡ Some (record { cell = x; start = t; decided = true })
      → ¬ Marked st x t → Acts st (CleanStep i) Gone (record st { cleaners = remove st.cleaners i })
  -- collection
  collects : {f : ℕ} → IsFloor st f → st.next_collector < end_of_stamps
      → Acts st CollectBegin (Collecting st.next_collector f) (record st {
        collectors = insert st.collectors st.next_collector f;
        next_collector = st.next_collector + 1;
        floor = max st.floor f;
      })
  has_collected : {i n f : ℕ} → get st.collectors i ≡ Some f
      → ((x : Cell) (t : ℕ) → Marked st x t → f ≤ t)
      → Acts st (CollectStep i n) Collected (record st { collectors = remove st.collectors i })
  -- tablets (Bigtable, tablets)
  splits : {row : List ℕ} {places' : List Place} → Cuts row st.next_tablet st.places places'
      → Acts st (Split row) (SplitOff st.next_tablet)
      (record st { places = places'; next_tablet = st.next_tablet + 1 })
  moves_tablet : {k server : ℕ} {places' : List Place} → Moves k server st.places places'
      → Acts st (Move k server) MoveDone (record st { places = places' })

-- From st the machine may give this reply to the request, and go to st'.
pub data Step (st : State) : Request → Reply → State → Type 0 where
  -- a refusal changes nothing
  refuses : {q : Request} {n : Refusal} → Refuses st q n → Step st q (Refused n) st
  -- a request is accepted only if no refusal applies
  accepts : {q : Request} {r : Reply} {st' : State} → IsAcceptable st q → Acts st q r st'
      → Step st q r st'

-- one request after the other
pub data Run : State → List Request → List Reply → State → Type 0 where
  rests : {st : State} → Run st [] [] st
  goes_on : {st mid st' : State} {q : Request} {r : Reply} {qs : List Request} {rs : List Reply}
      → Step st q r mid → Run mid qs rs st' → Run st (q ∷ qs) (r ∷ rs) st'

-- runs and clean restarts lead from the new machine to the state
pub data IsReached : State → Type 0 where
  begins_new : IsReached new_machine
  runs : {st st' : State} {qs : List Request} {rs : List Reply} → IsReached st → Run st qs rs st'
      → IsReached st'
  reopens : {st : State} → IsReached st → IsReached (reopened st)
