use Rattle.std.proofs.Common.{◌≡◌, ◌<◌, ℕ, subst, ◌∙◌, arith}
use Rattle.sorted_file.proofs.RowFronts.{full_front, none_read, one_read, short_front, IsFrontRead}
use Rattle.sorted_file.proofs.bounds.short_front_in.Goals as goal

pub loop-at-init : goal.loop-at-init
loop-at-init c = none_read c.args.bytes.now

pub loop-at-preserved : goal.loop-at-preserved
loop-at-preserved c =
    let low : c.loop-at.at < 8 = omega (arith, c.loop-at-test.true) in
    one_read c.args.bytes.now c.loop-at.left.now c.in-Some.after.now c.loop-at.front c.loop-at.at c.in-Some.byte c.loop-at.invariant low c.in-Some.ensures.found

pub returns-in_default : goal.returns-in_default
returns-in_default c = λ key is. c.from_be_bytes.ensures ∙ short_front c.args.bytes.now c.loop-at.left.now c.loop-at.front c.loop-at.at c.loop-at.invariant c.in_default.ensures.none key is

pub returns : goal.returns
returns c = λ key is.
    let all : c.loop-at.at ≡ 8 = omega (arith, c.loop-at-test.false, c.loop-at.auto.at-end) in
    c.from_be_bytes-2.ensures
    ∙ full_front c.args.bytes.now c.loop-at.left.now c.loop-at.front (subst (λ (n : ℕ). IsFrontRead c.args.bytes.now c.loop-at.left.now c.loop-at.front n) all c.loop-at.invariant) key is
