use Rattle.std.proofs.Common.{◌≡◌, ◌+◌, ◌-◌, ◌<◌, ℕ, Bool, true, false, arith, refl, subst}
use Rattle.cell_key.specs.declared.refusals.Refusal.{Refusal}
use Rattle.request_codec.specs.Replies.{replied}
use Rattle.request_codec.specs.declared.replies.Reply.{Reply}
use Rattle.server_loop.specs.Runs.{IfRefused}
use Rattle.si_model.specs.Machine as machine
use Rattle.row_server.specs.Answers.{IsAttempt, no_attempt, one_more}
use Rattle.row_server.proofs.Attempts.{attempts_step, if_refused}
use Rattle.row_server.proofs.handler.RowServerHandler.reply_to.Goals as goal

-- a request that wasn't raced needn't be made again
calm_enough : (raced : Bool) (count : ℕ) → raced ≡ false → raced ≡ true → count + 1 ≡ 1000
calm_enough raced count calm is = absurd cc

-- nor one that was made often enough
often_enough : (reply : machine.Reply) (raced : Bool) (count : ℕ) → count + 1 ≡ 1000 → IfRefused (λ (_ : Refusal). raced ≡ true → count + 1 ≡ 1000) reply
often_enough (machine.Refused refusal) raced count is = λ _. is
often_enough _ raced count is = tt

last_one : (count left : ℕ) → 0 < left → count + left ≡ 1000 → left - 1 ≡ 0 → count + 1 ≡ 1000
last_one count left some sum none = omega arith

one_less : (count left : ℕ) → 0 < left → count + left ≡ 1000 → (count + 1) + (left - 1) ≡ 1000
one_less count left some sum = omega arith

still_some : (left : ℕ) → (left - 1 ≡ 0 → ⊥) → 0 < left - 1
still_some left not = omega (arith, not)

pub loop-reply-init : goal.loop-reply-init
loop-reply-init g c = record { some = omega arith; failed = (0, refl, no_attempt) }

pub returns-then-not-is_raced-clause-says : goal.returns-then-not-is_raced-clause-says
returns-then-not-is_raced-clause-says g c =
    let (count, sum, failed) = c.loop-reply.invariant.failed in
    record {
      count = count;
      mid = c.loop-reply.self;
      failed = failed;
      last = c.attempt-reply.ensures;
      enough = if_refused _ _ (replied c.attempt-reply.result) (λ refusal calm. calm_enough _ _ calm) (c.is_raced.ensures.calm c.if-not-is_raced.true);
    }

pub returns-then-not-is_raced-clause-step : goal.returns-then-not-is_raced-clause-step
returns-then-not-is_raced-clause-step g c =
    let (count, sum, failed) = c.loop-reply.invariant.failed in
    attempts_step g.R.Rows g.R.SharedRows.forgot g.R.SharedRows.raced g.S.Stamps g.S.SharedStamps.allows _ _ count c.loop-reply.self _ _ failed c.attempt-reply.ensures

pub returns-then-left-eq0-clause-says : goal.returns-then-left-eq0-clause-says
returns-then-left-eq0-clause-says g c =
    let (count, sum, failed) = c.loop-reply.invariant.failed in
    record {
      count = count;
      mid = c.loop-reply.self;
      failed = failed;
      last = c.attempt-reply.ensures;
      enough = often_enough _ _ count (last_one count _ c.loop-reply.invariant.some sum c.if-left-eq0.true);
    }

pub returns-then-left-eq0-clause-step : goal.returns-then-left-eq0-clause-step
returns-then-left-eq0-clause-step g c =
    let (count, sum, failed) = c.loop-reply.invariant.failed in
    attempts_step g.R.Rows g.R.SharedRows.forgot g.R.SharedRows.raced g.S.Stamps g.S.SharedStamps.allows _ _ count c.loop-reply.self _ _ failed c.attempt-reply.ensures

pub loop-reply-preserved : goal.loop-reply-preserved
loop-reply-preserved g c =
    let (count, sum, failed) = c.loop-reply.invariant.failed in
    let (refusal, same) = c.is_raced.ensures.refused c.if-not-is_raced.false in
    record {
      some = still_some _ c.if-left-eq0.false;
      failed = (
        count + 1,
        one_less count _ c.loop-reply.invariant.some sum,
        one_more failed (subst (λ (r : Reply). IsAttempt g.R.Rows g.R.SharedRows.forgot g.R.SharedRows.raced g.S.Stamps g.S.SharedStamps.allows c.loop-reply.self c.args.request r c.attempt-reply.new.self) same c.attempt-reply.ensures)
            (c.is_raced.ensures.raced c.if-not-is_raced.false),
      );
    }
