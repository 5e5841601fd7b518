-- What a transaction answers is true.
use Rattle.std.proofs.Common.{◌≡◌, ◌∙◌, ℕ, List, Some, None, refl}
use Rattle.cell_key.specs.declared.refusals.Refusal.{Refusal}
use Rattle.si_model.specs.Sets.{◌∈◌, here, there}
use Rattle.si_model.specs.Machine as machine
use Rattle.si_model.specs.Machine.{State, Change, Writes, CommittedAt, IsReached, Request, Reply, StopDone, Refused, Step, accepts, tells, sets, deletes, stops}
use Rattle.si_model.specs.declared.replies.Cell.{Cell}
use Rattle.si_model.specs.declared.replies.Progress.{Progress}
use Rattle.si_model.specs.declared.replies.Progress.TheVariants as progress
use Rattle.si_model.proofs.LastingMarks.{endures}
use Rattle.si_model.proofs.Steps.{reached_sound, reached_step}
use Rattle.si_model.proofs.Told.{tells_fate}
use Rattle.si_model.proofs.Tools.{get_removed}
use Rattle.si_model.specs.TransactionLaws.{AnswersTruly, HasClashed, SameHeld}
use Rattle.si_model.specs.Transactions.{request_of, reply_of, Opens, is_open, Buffers, all_taken, takes, Advances, rests, advances, ClashesFirst, Transacts, Said, CommitDone, CommitConflict}
use Rattle.si_model.specs.Transactions as transacts
use Rattle.si_model.proofs.Reached.{reached_open, reached_buffers}

-- ---- it is committed

stays_by : {st next : State} {q : Request} {r : Reply} → IsReached st → Step st q r next → (s c : ℕ) → CommittedAt st s c → CommittedAt next s c
stays_by {st} {next} {q} {r} reached step s c (ws, is_in) = (ws, (endures st next q r reached step).committed (record { start = s; stamp = c; writes = ws }) is_in)

stays_committed : {s : ℕ} {st next : State} {ps : List Progress} (c : ℕ) → IsReached st → Advances s st ps next → CommittedAt st s c → CommittedAt next s c
stays_committed c reached rests is = is
stays_committed {s = s} c reached (advances step more) is = stays_committed c (reached_step reached step) more (stays_by reached step s c is)

has_committed : {s : ℕ} {st next : State} {ps : List Progress} (c : ℕ) → IsReached st → Advances s st ps next → progress.Committed c ∈ ps → CommittedAt next s c
has_committed c reached rests i = elim i [ ]
has_committed {s = s} {st = st} c reached (advances {mid = mid} step more) here = stays_committed c (reached_step reached step) more ((tells_fate st (reached_sound reached)).committed s c mid step)
has_committed c reached (advances step more) (there i) = has_committed c (reached_step reached step) more i

-- ---- nothing is held

same_open : {st next : State} {start s : ℕ} → Opens st start s next → SameHeld st next
same_open (is_open h) = record { marks = refl; commits = refl }
same_open (transacts.begins (accepts ok (machine.begins d))) = record { marks = refl; commits = refl }
same_open (transacts.begins (accepts ok (tells t))) = elim t [ ]

same_taken : (s : ℕ) (st next : State) (x : Cell) (v : Change) → Step st (request_of s x v) (reply_of v) next → SameHeld st next
same_taken s st next x (Some value) (accepts ok (sets h w by)) = record { marks = refl; commits = refl }
same_taken s st next x (Some value) (accepts ok (tells t)) = elim t [ ]
same_taken s st next x None (accepts ok (deletes h w by)) = record { marks = refl; commits = refl }
same_taken s st next x None (accepts ok (tells t)) = elim t [ ]

same_then : {st mid next : State} → SameHeld st mid → SameHeld mid next → SameHeld st next
same_then a b = record { marks = b.marks ∙ a.marks; commits = b.commits ∙ a.commits }

same_buffers : {s : ℕ} {st next : State} {ws : Writes} → Buffers s st ws next → SameHeld st next
same_buffers all_taken = record { marks = refl; commits = refl }
same_buffers {s = s} (takes {st = st} {mid = mid} {x = x} {v = v} step more) = same_then (same_taken s st mid x v step) (same_buffers more)

stopped : (s place : ℕ) (st next : State) → ClashesFirst st s place → Step st (machine.Stop s) StopDone next → HasClashed st s place next
stopped s place st next first (accepts ok (stops h)) = record { first = first; ended = get_removed st.active s; held = record { marks = refl; commits = refl } }
stopped s place st next first (accepts ok (tells t)) = elim t [ ]

committed : {st next : State} {start s c : ℕ} {ws : Writes} → IsReached st → Transacts st start ws (CommitDone s c) next → CommittedAt next s c
committed {c = c} reached (transacts.commits opens buffers run is_in ended) = has_committed c (reached_buffers (reached_open reached opens) buffers) run is_in

conflict : {st next : State} {start s place : ℕ} {ws : Writes} → Transacts st start ws (CommitConflict s place) next → HasClashed st s place next
conflict {next = next} {s = s} {place = place} (transacts.conflicts {written = written} opens buffers clash end) =
    let met = stopped s place written next clash end in
    record { first = met.first; ended = met.ended; held = same_then (same_open opens) (same_then (same_buffers buffers) met.held) }

refused : {st next : State} {start : ℕ} {ws : Writes} {n : Refusal} → Transacts st start ws (Said (Refused n)) next → next ≡ st
refused (transacts.is_unknown some none) = refl
refused (transacts.is_late some h late) = refl
refused (transacts.gives_up storage) = refl
refused (transacts.refuses comes why) = refl

pub answers_truly : AnswersTruly
answers_truly st start ws next reached = record {
  committed = λ s c is. committed reached is;
  conflict = λ s place is. conflict is;
  refused = λ n is. refused is;
}
