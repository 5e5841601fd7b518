use Rattle.std.proofs.Common.{◌≡◌, ◌+◌, ◌<◌, ◌≤◌, length, Option, Some, None, true, false, subst, rules, arith}
use Rattle.std.specs.Prelude.{IfNone, IfSome}
use Rattle.request_codec.specs.Stream.{longest}
use Rattle.tablet_audit.specs.Judges.{Keeps}
use Rattle.tablet_audit.specs.Pairs.{GoesOn, StopsAt}
use Rattle.tablet_audit.specs.Reopenings.{JudgesReopening}
use Rattle.tablet_audit.specs.Runs.{beginning, reopening_behind}
use Rattle.tablet_audit.specs.declared.sharing.Sharing.{Sharing}
use Rattle.tablet_audit.specs.declared.verdicts.Verdict.{Verdict}
use Rattle.tablet_audit.proofs.Recordings.{all_correct, badly_opened, length-left, passes_more, passes_none, stopped}
use Rattle.tablet_audit.proofs.judge.judge.Goals as goal

pub pairs-init : goal.pairs-init
pairs-init c =
    let keeps : (sharing : Sharing) → Keeps sharing c.in_ok-judge.judge beginning = search rules in
    record {
      passes = passes_none c.args.sharing c.args.reopenings.now c.args.requests.now c.args.replies.now c.in_ok-judge.judge (keeps c.args.sharing);
      few = omega arith;
    }

pub returns-in-Some-clause-verdict : goal.returns-in-Some-clause-verdict
returns-in-Some-clause-verdict c =
    let rest = c.pairs.recording.requests.now in
    let more = c.pairs.recording.replies.now in
    let stops = subst (λ (f : Option Verdict). IfSome f (λ verdict. StopsAt c.args.sharing c.pairs.judge (c.pairs.count + 1) rest more verdict)) c.in-Some.is c.in_ok-verdict.ensures.ended in
    stopped c.args.sharing c.args.reopenings.now c.args.requests.now c.args.replies.now c.pairs.count rest more c.pairs.judge c.in-Some.verdict c.pairs.invariant.passes stops

pub returns-then-not-branch-clause-verdict : goal.returns-then-not-branch-clause-verdict
returns-then-not-branch-clause-verdict c =
    let rest = c.pairs.recording.requests.now in
    let more = c.pairs.recording.replies.now in
    let left = c.judge_next.new.self.requests.now in
    let after = c.judge_next.new.self.replies.now in
    let none : c.in_ok-verdict.field-0 ≡ None = search rules in
    let goes = subst (λ (f : Option Verdict). IfNone f (GoesOn c.args.sharing c.pairs.judge c.judge_next.new.judge rest more left after)) none c.in_ok-verdict.ensures.passed in
    let bad : c.in_ok-reopen.field-0 ≡ false = search rules in
    let behind = reopening_behind (c.pairs.count + 1) c.args.reopenings.now in
    badly_opened c.args.sharing c.args.reopenings.now c.args.requests.now c.args.replies.now c.pairs.count rest more left after c.pairs.judge c.judge_next.new.judge c.reopen.new.judge
    c.pairs.invariant.passes goes (subst (JudgesReopening behind c.judge_next.new.judge c.reopen.new.judge) bad c.in_ok-reopen.ensures.judged)

pub pairs-smaller : goal.pairs-smaller
pairs-smaller c =
    let rest = c.pairs.recording.requests.now in
    let more = c.pairs.recording.replies.now in
    let left = c.judge_next.new.self.requests.now in
    let after = c.judge_next.new.self.replies.now in
    let none : c.in_ok-verdict.field-0 ≡ None = search rules in
    let goes = subst (λ (f : Option Verdict). IfNone f (GoesOn c.args.sharing c.pairs.judge c.judge_next.new.judge rest more left after)) none c.in_ok-verdict.ensures.passed in
    length-left longest rest goes.body left goes.request_splits

pub pairs-preserved : goal.pairs-preserved
pairs-preserved c =
    let rest = c.pairs.recording.requests.now in
    let more = c.pairs.recording.replies.now in
    let left = c.judge_next.new.self.requests.now in
    let after = c.judge_next.new.self.replies.now in
    let none : c.in_ok-verdict.field-0 ≡ None = search rules in
    let goes = subst (λ (f : Option Verdict). IfNone f (GoesOn c.args.sharing c.pairs.judge c.judge_next.new.judge rest more left after)) none c.in_ok-verdict.ensures.passed in
    let well : c.in_ok-reopen.field-0 ≡ true = search rules in
    let behind = reopening_behind (c.pairs.count + 1) c.args.reopenings.now in
    let less : length left < length rest = length-left longest rest goes.body left goes.request_splits in
    record {
      passes = passes_more c.args.sharing c.args.reopenings.now c.args.requests.now c.args.replies.now c.pairs.count rest more left after c.pairs.judge c.judge_next.new.judge c.reopen.new.judge
          c.pairs.invariant.passes goes (subst (JudgesReopening behind c.judge_next.new.judge c.reopen.new.judge) well c.in_ok-reopen.ensures.judged);
      few = omega (arith, less, c.pairs.invariant.few);
    }

pub returns-clause-verdict : goal.returns-clause-verdict
returns-clause-verdict c =
    let ends : c.is_at_end.result ≡ true = search rules in
    all_correct c.args.sharing c.args.reopenings.now c.args.requests.now c.args.replies.now c.pairs.count c.pairs.recording.requests.now c.pairs.recording.replies.now c.pairs.judge
    c.pairs.invariant.passes (c.is_at_end.ensures.0 ends)
