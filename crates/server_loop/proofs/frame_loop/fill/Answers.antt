use Rattle.std.proofs.Common.{◌≡◌, [], length, false, inl, is_some, refl, ap, arith, rules}
use Rattle.server_loop.proofs.ServingLemmas.{Answered-none, batch_more, if_none, over_none}
use Rattle.server_loop.proofs.frame_loop.fill.Goals as goal

pub loop-waiting-init : goal.loop-waiting-init
loop-waiting-init g c =
    let none : length c.args.waiting.now.items ≡ 0 = ap length c.requires.none in
    record {
      few = omega (arith, none, c.requires.most);
      grown = search rules;
      left = search rules;
      answered = ([], inl refl, c.requires.none, Answered-none _ _ _);
    }

pub returns-then-is_some-clause-answered : goal.returns-then-is_some-clause-answered
returns-then-is_some-clause-answered g c =
    let (replies, small, framed, answered) = c.loop-waiting.invariant.answered in
    let (more, one, grown, next) = c.answer_next-ended.ensures.answered in
    batch_more _ _ _ _ _ _ _ _ _ replies more _ _ small framed answered c.loop-waiting.invariant.few one grown next

pub loop-waiting-preserved : goal.loop-waiting-preserved
loop-waiting-preserved g c =
    let (replies, small, framed, answered) = c.loop-waiting.invariant.answered in
    let (more, one, grown, next) = c.answer_next-ended.ensures.answered in
    let none : is_some c.answer_next-ended.result.0 ≡ false = search rules in
    let fewer = if_none c.answer_next-ended.result.0 _ none c.answer_next-ended.ensures.fewer in
    let over = over_none c.answer_next-ended.result.0 none in
    record {
      few = search rules;
      grown = search rules;
      left = omega (arith, fewer, c.loop-waiting.invariant.left);
      answered = batch_more _ _ _ _ _ _ _ _ _ replies more _ _ small framed answered c.loop-waiting.invariant.few one grown (rw over at next);
    }
