-- What a request does is a run of steps.
use Rattle.std.proofs.Common.{ℕ, List, Option, Bool, true, false, sym, subst}
use Rattle.si_model.specs.Machine.{State, Item, Writes, IsReached}
use Rattle.si_model.specs.declared.replies.Cell.{Cell}
use Rattle.si_model.specs.declared.replies.Progress.{Progress}
use Rattle.si_model.proofs.Steps.{reached_step}
use Rattle.si_model.specs.Transactions.{Operation, Answer, Opens, is_open, begins, Buffers, all_taken, takes, Advances, rests, advances, Transacts, commits, conflicts, is_unknown, is_late, gives_up, refuses, ReadsAll, all_read, finds, StaysOrEnds, ReadsTogether, miscounts, gives_up_reads, reads, names_unknown, names_late, refuses_begin, refuses_read, Goes, steps, transacts, reads_together}

pub reached_open : {st next : State} {start s : ℕ} → IsReached st → Opens st start s next → IsReached next
reached_open r (is_open h) = r
reached_open r (begins step) = reached_step r step

pub reached_buffers : {s : ℕ} {st next : State} {ws : Writes} → IsReached st → Buffers s st ws next → IsReached next
reached_buffers r all_taken = r
reached_buffers r (takes step more) = reached_buffers (reached_step r step) more

pub reached_advances : {s : ℕ} {st next : State} {ps : List Progress} → IsReached st → Advances s st ps next → IsReached next
reached_advances r rests = r
reached_advances r (advances step more) = reached_advances (reached_step r step) more

reached_reads : {s used : ℕ} {st next : State} {xs : List Cell} {said : List (Option Item)} → IsReached st → ReadsAll s used st xs said next → IsReached next
reached_reads r all_read = r
reached_reads r (finds reply step told more) = reached_reads (reached_step r step) more

reached_ends : (b : Bool) (st next : State) (s : ℕ) → IsReached st → StaysOrEnds b st s next → IsReached next
reached_ends true st next s r e = subst (λ (st : State). IsReached st) (sym e) r
reached_ends false st next s r step = reached_step r step

reached_transacts : {st next : State} {start : ℕ} {ws : Writes} {a : Answer} → IsReached st → Transacts st start ws a next → IsReached next
reached_transacts r (commits opens buffers run is_in ended) = reached_advances (reached_buffers (reached_open r opens) buffers) run
reached_transacts r (conflicts opens buffers clash end) = reached_step (reached_buffers (reached_open r opens) buffers) end
reached_transacts r (is_unknown some none) = r
reached_transacts r (is_late some h late) = r
reached_transacts r (gives_up storage) = r
reached_transacts r (refuses comes refused) = r

reached_together : {st next : State} {start : ℕ} {xs : List Cell} {b : Bool} {a : Answer} → IsReached st → ReadsTogether st start xs b a next → IsReached next
reached_together r (miscounts many) = r
reached_together r (gives_up_reads storage) = r
reached_together {b = b} r (reads few opens all end) = reached_ends b _ _ _ (reached_reads (reached_open r opens) all) end
reached_together r (names_unknown few some none) = r
reached_together r (names_late few some h late) = r
reached_together r (refuses_begin few none refused) = r
reached_together r (refuses_read after few is opens all refused) = r

pub stays_reached : (st next : State) (operation : Operation) (answer : Answer) → IsReached st → Goes st operation answer next → IsReached next
stays_reached st next operation answer r (steps step) = reached_step r step
stays_reached st next operation answer r (transacts t) = reached_transacts r t
stays_reached st next operation answer r (reads_together t) = reached_together r t
