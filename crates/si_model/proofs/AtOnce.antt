-- A transaction whose cells are free puts data and record of each, and no lock.
use Rattle.std.proofs.Common.{◌≡◌, ℕ, suc, ◌≤◌, [], ◌∷◌, length, Some, None, refl, sym, subst, ◌∙◌, arith}
use Rattle.std.proofs.lemmas.Option.{none-some}
use Rattle.cell_key.specs.Cells.{Cells}
use Rattle.si_model.specs.Sets.{◌∈◌, here, there}
use Rattle.si_model.specs.Laws.{Goes, IsCleared}
use Rattle.si_model.specs.Machine.{State, Change, Writes, Open, InPhase, Wrote, Marked, Gives, Clashes, Draws, IsReached, Request, Reply, Step, accepts, tells, sets, deletes}
use Rattle.si_model.specs.Machine as machine
use Rattle.si_model.specs.ShowsCells.{ShowsCells}
use Rattle.si_model.specs.declared.replies.Cell.{Cell}
use Rattle.si_model.proofs.Tools.{each_remove, get_same, get_removed, put_in}
use Rattle.si_model.proofs.ByServers.{by_servers, servers_step}
use Rattle.si_model.proofs.Steps.{servers_sound, reached_step}
use Rattle.si_model.proofs.Floors.{servers_floors}
use Rattle.si_model.proofs.Goes.{goes}
use Rattle.si_model.proofs.ShownKept.{shows_beside}
use Rattle.si_model.specs.Transactions.{request_of, reply_of, Opens, is_open, begins, Buffers, all_taken, takes, Transacts, CommitDone, commits}
use Rattle.si_model.specs.Servers.{IsReachedByServers}
use Rattle.si_model.specs.TransactionLaws.{IsAllFree, PutsAtOnce, committed_state}
use Rattle.si_model.specs.PutCells.{all_put_cells}
use Rattle.si_model.proofs.AllSteps.{servers_steps}
use Rattle.si_model.proofs.ShownPut.{shows_put}

-- what a step changes neither marks nor commits of
record Beside (st next : State) : Type 0 where
  marks : next.marks ≡ st.marks
  commits : next.commits ≡ st.commits

shown_beside : (cells : Cells) (st next : State) → Goes st next → Beside st next → ShowsCells cells st → ShowsCells cells next
shown_beside cells st next go same shown = shows_beside cells st next go shown
    (λ y u m. subst (λ ms. (y, u) ∈ ms) same.marks m) (λ y u m. subst (λ ms. (y, u) ∈ ms) (sym same.marks) m) same.commits

-- ---- the session begins and takes its writes

-- the session is open, the cells are shown, and the state is reached so
pub record Opened (IsSo : State → Type 0) (cells : Cells) (s : ℕ) (st : State) : Type 0 where
  pub reached : IsSo st
  pub shown : ShowsCells cells st
  pub active : InPhase st s Open

module _ (IsSo : State → Type 0) (stays : (st next : State) (q : Request) (r : Reply) → IsSo st → Step st q r next → IsSo next) (by : (st : State) → IsSo st → IsReachedByServers st)
    (cells : Cells) (s : ℕ) where
  opens_on : (st next : State) (start : ℕ) → IsSo st → ShowsCells cells st → Opens st start s next → Opened IsSo cells s next
  opens_on st next start r shown (is_open h) = record { reached = r; shown = shown; active = h }
  opens_on st next start r shown (begins step) = begun next step
    where
      begun : (next : State) → Step st machine.Begin (machine.Begun s) next → Opened IsSo cells s next
      begun next (accepts ok (machine.begins d)) = let step = accepts ok (machine.begins d) in record {
        reached = stays st _ _ _ r step;
        shown = shown_beside cells st _ (goes (by st r) step) (record { marks = refl; commits = refl }) shown;
        active = get_same st.active s Open;
      }
      begun next (accepts ok (tells t)) = elim t [ ]

  one_taken : (st next : State) (x : Cell) (v : Change) → Step st (request_of s x v) (reply_of v) next → Opened IsSo cells s st → Opened IsSo cells s next
  one_taken st next x (Some value) (accepts ok (sets h w by_set)) o = let step = accepts ok (sets h w by_set) in
      record { reached = stays st _ _ _ o.reached step; shown = shown_beside cells st _ (goes (by st o.reached) step) (record { marks = refl; commits = refl }) o.shown; active = o.active }
  one_taken st next x (Some value) (accepts ok (tells t)) o = elim t [ ]
  one_taken st next x None (accepts ok (deletes h w by_set)) o = let step = accepts ok (deletes h w by_set) in
      record { reached = stays st _ _ _ o.reached step; shown = shown_beside cells st _ (goes (by st o.reached) step) (record { marks = refl; commits = refl }) o.shown; active = o.active }
  one_taken st next x None (accepts ok (tells t)) o = elim t [ ]

  takes_on : {st next : State} {ws : Writes} → Buffers s st ws next → Opened IsSo cells s st → Opened IsSo cells s next
  takes_on all_taken o = o
  takes_on (takes {st = st} {mid = mid} {x = x} {v = v} step more) o = takes_on more (one_taken st mid x v step o)

pub opened : (cells : Cells) (s : ℕ) (st next : State) (start : ℕ) → IsReached st → ShowsCells cells st → Opens st start s next → Opened IsReached cells s next
opened cells s = opens_on IsReached (λ st next q r reached step. reached_step reached step) (λ st r. by_servers r) cells s

pub servers_opened : (cells : Cells) (s : ℕ) (st next : State) (start : ℕ) → IsReachedByServers st → ShowsCells cells st → Opens st start s next → Opened IsReachedByServers cells s next
servers_opened cells s = opens_on IsReachedByServers (λ st next q r reached step. servers_step reached step) (λ st r. r) cells s

pub buffered : (cells : Cells) (s : ℕ) {st next : State} {ws : Writes} → Buffers s st ws next → Opened IsReachedByServers cells s st → Opened IsReachedByServers cells s next
buffered cells s = takes_on IsReachedByServers (λ st next q r reached step. servers_step reached step) (λ st r. r) cells s

-- ---- and commits

given_by : (ws : Writes) (w : Cell × Change) → w ∈ ws → Gives ws w.0 w.1
given_by [] w i = elim i [ ]
given_by (u ∷ ws) w here = (0, refl)
given_by (u ∷ ws) w (there i) = let g = given_by ws w i in (suc g.0, g.1)

module _ (cells : Cells) (st : State) (s c : ℕ) (ws : Writes) (o : Opened IsReachedByServers cells s st) (wrote : Wrote st s ws) (d : Draws st c) where
  abbrev next : State
  next = committed_state st s c ws

  none : (x : Cell) → ¬ Marked st x s
  none x m = ((servers_sound o.reached).placed x s m).past Open o.active

  still_open : (u : ℕ) → InPhase next u Open → InPhase st u Open
  still_open u = each_remove st.active s (λ u q. InPhase st u q) (λ u q ne g. g) u Open

  go : Goes st next
  go = record {
    wrote = λ u us w late. w;
    marked = λ x u us m w. w;
    late = λ u us w late h. late (still_open u h);
    cleared = λ n k. k;
  }

  shown_next : ShowsCells (all_put_cells cells ws s c) next
  shown_next = shows_put s c cells st next go o.shown ws wrote (λ h. none-some Open (sym (get_removed st.active s) ∙ h)) refl refl none
      (λ w i. given_by ws w i) (λ x v g. put_in ws g.0 x v g.1) above
    where
      above : (n : ℕ) → IsCleared st n → n ≤ c
      above n k = let low = (servers_floors o.reached).low in let under = k.0 in let new = d.0 in omega arith

-- the same, in a state that is reached by servers
pub puts_at_once : (cells : Cells) (st mid written : State) (start s c : ℕ) (ws all : Writes) → IsReachedByServers st
    → ShowsCells cells st → Opens st start s mid → Buffers s mid ws written → Wrote written s all
    → 1 ≤ length all → IsAllFree written s all → Draws written c
    → Transacts st start ws (CommitDone s c) (committed_state written s c all)
    × ShowsCells (all_put_cells cells all s c) (committed_state written s c all)
puts_at_once cells st mid written start s c ws all r shown opens buffers wrote some free d =
    let o = buffered cells s buffers (servers_opened cells s st mid start r shown opens) in
    let run = servers_steps written s c all o.reached o.active wrote some ((servers_sound o.reached).cells_differ s all wrote) (λ w i. free w.0 w.1 (given_by all w i)) (none cells written s c all o wrote d) d in
    (commits opens buffers run.run run.is_in (get_removed written.active s), shown_next cells written s c all o wrote d)

pub reached_puts_at_once : PutsAtOnce
reached_puts_at_once cells st mid written start s c ws all r = puts_at_once cells st mid written start s c ws all (by_servers r)
