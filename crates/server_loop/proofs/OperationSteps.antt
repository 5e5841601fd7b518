-- An operation that stands for several requests is a run of steps of sessions.
use Rattle.std.proofs.Common.{◌≡◌, ◌≢◌, ◌∙◌, ℕ, ◌≤◌, ◌⊎◌, inl, inr, Bool, true, false, List, Option, Some, None, refl, sym, subst}
use Rattle.si_model.specs.Kinds.{OfCleaners, OfCollectors, OfPlaces, OfSessions, SameCollectors, SamePlaces, kind_of}
use Rattle.si_model.specs.Machine.{State, Commit, Change, Writes, Item, Request, Reply, Marked, IsReached, Step}
use Rattle.si_model.specs.Sets.{◌∈◌}
use Rattle.si_model.specs.Transactions.{Operation, Answer, Opens, is_open, begins, request_of, Buffers, all_taken, takes, Advances, rests, advances, Transacts, commits, conflicts, is_unknown, is_late, gives_up, refuses, ReadsAll, all_read, finds, StaysOrEnds, ReadsTogether, miscounts, gives_up_reads, reads, names_unknown, names_late, refuses_begin, refuses_read, Goes, steps, transacts, reads_together}
use Rattle.si_model.specs.declared.replies.Cell.{Cell}
use Rattle.si_model.specs.declared.replies.Progress.{Progress}
use Rattle.si_model.proofs.ChangedParts.{leaves_others}
use Rattle.si_model.proofs.LastingMarks.{endures}
use Rattle.si_model.proofs.Steps.{reached_step}
use Rattle.server_loop.specs.OperationLaws.{StandsForSeveral}
use Rattle.server_loop.proofs.OthersShown.{sessions_not_cleaners, sessions_not_collectors}

-- steps of sessions, one after the other
pub data SessionRun : State → State → Type 0 where
  at_rest : {st : State} → SessionRun st st
  goes_on : {st mid next : State} {q : Request} {r : Reply} → Step st q r mid → kind_of q ≡ OfSessions → SessionRun mid next → SessionRun st next

pub append : {st mid next : State} → SessionRun st mid → SessionRun mid next → SessionRun st next
append at_rest more = more
append (goes_on step kind rest) more = goes_on step kind (append rest more)

one_step : {st next : State} {q : Request} {r : Reply} → Step st q r next → kind_of q ≡ OfSessions → SessionRun st next
one_step step kind = goes_on step kind at_rest

-- ---- the parts of an operation

pub run_opens : {st next : State} {start s : ℕ} → Opens st start s next → SessionRun st next
run_opens (is_open h) = at_rest
run_opens (begins step) = one_step step refl

of_sessions : (s : ℕ) (x : Cell) (v : Change) → kind_of (request_of s x v) ≡ OfSessions
of_sessions s x (Some value) = refl
of_sessions s x None = refl

pub run_buffers : {s : ℕ} {st next : State} {ws : Writes} → Buffers s st ws next → SessionRun st next
run_buffers all_taken = at_rest
run_buffers {s = s} (takes {x = x} {v = v} step more) = goes_on step (of_sessions s x v) (run_buffers more)

pub run_advances : {s : ℕ} {st next : State} {ps : List Progress} → Advances s st ps next → SessionRun st next
run_advances rests = at_rest
run_advances (advances step more) = goes_on step refl (run_advances more)

run_reads : {s used : ℕ} {st next : State} {xs : List Cell} {said : List (Option Item)} → ReadsAll s used st xs said next → SessionRun st next
run_reads all_read = at_rest
run_reads (finds reply step told more) = goes_on step refl (run_reads more)

run_ends : (stays_open : Bool) (st next : State) (s : ℕ) → StaysOrEnds stays_open st s next → SessionRun st next
run_ends true st next s e = subst (λ (n : State). SessionRun st n) (sym e) at_rest
run_ends false st next s step = one_step step refl

-- ---- all of it

run_transacts : {st next : State} {start : ℕ} {ws : Writes} {a : Answer} → Transacts st start ws a next → SessionRun st next
run_transacts (commits opens buffers run is_in ended) = append (run_opens opens) (append (run_buffers buffers) (run_advances run))
run_transacts (conflicts opens buffers clash end) = append (run_opens opens) (append (run_buffers buffers) (one_step end refl))
run_transacts (is_unknown some none) = at_rest
run_transacts (is_late some h late) = at_rest
run_transacts (gives_up storage) = at_rest
run_transacts (refuses comes refused) = at_rest

run_together : {st next : State} {start : ℕ} {xs : List Cell} {b : Bool} {a : Answer} → ReadsTogether st start xs b a next → SessionRun st next
run_together (miscounts many) = at_rest
run_together (gives_up_reads storage) = at_rest
run_together {b = b} (reads few opens all end) = append (run_opens opens) (append (run_reads all) (run_ends b _ _ _ end))
run_together (refuses_begin few none refused) = at_rest
run_together (refuses_read after few is opens all refused) = at_rest
run_together (names_unknown few some none) = at_rest
run_together (names_late few some h late) = at_rest

pub operation_runs : (st next : State) (operation : Operation) (answer : Answer) → StandsForSeveral operation → Goes st operation answer next → SessionRun st next
operation_runs st next operation answer several (steps step) = absurd several
operation_runs st next operation answer several (transacts t) = run_transacts t
operation_runs st next operation answer several (reads_together t) = run_together t

-- ---- what such a run keeps

sessions_not_places : OfSessions ≢ OfPlaces
sessions_not_places is = cc

-- a step of a session is none of a cleaner
pub not_cleaners : (q : Request) → kind_of q ≡ OfSessions → kind_of q ≢ OfCleaners
not_cleaners q is same = sessions_not_cleaners (sym is ∙ same)

-- the collectors and the floor, the places, and each commit; and a mark that is added is at or above the floor
pub record RunKeeps (st next : State) : Type 0 where
  pub reached : IsReached next
  pub collectors : SameCollectors st next
  pub places : SamePlaces st next
  pub joins : (x : Cell) (t : ℕ) → Marked next x t → Marked st x t ⊎ (st.floor ≤ t)
  pub committed : (a : Commit) → a ∈ st.commits → a ∈ next.commits

step_keeps : (st mid next : State) (q : Request) (r : Reply) → IsReached st → Step st q r mid → kind_of q ≡ OfSessions → RunKeeps mid next → RunKeeps st next
step_keeps st mid next q r reached step kind later =
    let left = leaves_others st mid q r step in
    let collectors = left.collectors (λ same. sessions_not_collectors (sym kind ∙ same)) in
    let places = left.places (λ same. sessions_not_places (sym kind ∙ same)) in
    let now = endures st mid q r reached step in
    record {
      reached = later.reached;
      collectors = record {
        collectors = later.collectors.collectors ∙ collectors.collectors;
        next_collector = later.collectors.next_collector ∙ collectors.next_collector;
        floor = later.collectors.floor ∙ collectors.floor;
      };
      places = record {
        places = later.places.places ∙ places.places;
        next_tablet = later.places.next_tablet ∙ places.next_tablet;
      };
      joins = λ x t m. elim (later.joins x t m) [
        | inl was ↦ now.joins x t was
        | inr up ↦ inr (subst (λ (f : ℕ). f ≤ t) collectors.floor up)
      ];
      committed = λ a i. later.committed a (now.committed a i);
    }

pub run_keeps : {st next : State} → IsReached st → SessionRun st next → RunKeeps st next
run_keeps reached at_rest = record {
  reached = reached;
  collectors = record { collectors = refl; next_collector = refl; floor = refl };
  places = record { places = refl; next_tablet = refl };
  joins = λ x t m. inl m;
  committed = λ a i. i;
}
run_keeps {st} {next} reached (goes_on {mid = mid} {q = q} {r = r} step kind rest) = step_keeps st mid next q r reached step kind (run_keeps (reached_step reached step) rest)
