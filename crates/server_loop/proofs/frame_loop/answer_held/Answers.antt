use Rattle.std.proofs.Common.{◌≡◌, List, ℕ, ◌++◌, [], ◌∷◌, refl, sym, ap, ◌∙◌, subst, arith, append-nil}
use Rattle.request_codec.specs.Stream.{IsTooLong}
use Rattle.server_loop.proofs.FrameHeads.{IsTooLong-more}
use Rattle.server_loop.proofs.ServingLemmas.{Answered-one, Answered-over, Answered-unmoved, held_fewer, held_frame, one_framed, taken_front}
use Rattle.server_loop.proofs.frame_loop.answer_held.Goals as goal

pub returns-then-is_empty-clause-answered : goal.returns-then-is_empty-clause-answered
returns-then-is_empty-clause-answered g c =
    let (partial, same) = rw c.in-More.is at c.next.follows.holds-at-none in
    let all = taken_front c.args.framer.now c.args.piece.now c.split_at.result.0.now c.feed-taken.new.self c.split_at-2.result.1.now _ _ _ c.split_at.ensures.front c.feed-taken.ensures.count c.feed-taken.ensures.bytes c.split_at-2.ensures.back in
    ([], omega arith, sym (append-nil c.args.waiting.now.items), Answered-unmoved _ _ _ _ (ap (λ (l : List ℕ). l ++ c.split_at-2.result.1.now) same ∙ all))

pub returns-in-Frame-clause-answered : goal.returns-in-Frame-clause-answered
returns-in-Frame-clause-answered g c =
    let (fits, whole) = rw c.in-Frame.is at c.next.follows.holds-at-none in
    let all = taken_front c.args.framer.now c.args.piece.now c.split_at.result.0.now c.feed-taken.new.self c.split_at-2.result.1.now _ _ _ c.split_at.ensures.front c.feed-taken.ensures.count c.feed-taken.ensures.bytes c.split_at-2.ensures.back in
    let (body, said, grown) = c.answer.ensures.answers in
    (body ∷ [], omega arith, one_framed _ _ _ grown, Answered-one _ _ _ _ _ _ _ fits (held_frame c.args.framer.now c.args.piece.now c.feed-taken.new.self c.split_at-2.result.1.now c.next.follows.lender-at-none c.in-Frame.body.now all whole) said)

pub returns-in-Frame-clause-fewer : goal.returns-in-Frame-clause-fewer
returns-in-Frame-clause-fewer g c =
    let (fits, whole) = rw c.in-Frame.is at c.next.follows.holds-at-none in
    let all = taken_front c.args.framer.now c.args.piece.now c.split_at.result.0.now c.feed-taken.new.self c.split_at-2.result.1.now _ _ _ c.split_at.ensures.front c.feed-taken.ensures.count c.feed-taken.ensures.bytes c.split_at-2.ensures.back in
    held_fewer c.args.framer.now c.args.piece.now c.feed-taken.new.self c.split_at-2.result.1.now c.next.follows.lender-at-none c.in-Frame.body.now _ all whole c.split_at-2.ensures.back

pub returns-in-TooLarge-clause-answered : goal.returns-in-TooLarge-clause-answered
returns-in-TooLarge-clause-answered g c =
    let (large, same) = rw c.in-TooLarge.is at c.next.follows.holds-at-none in
    let all = taken_front c.args.framer.now c.args.piece.now c.split_at.result.0.now c.feed-taken.new.self c.split_at-2.result.1.now _ _ _ c.split_at.ensures.front c.feed-taken.ensures.count c.feed-taken.ensures.bytes c.split_at-2.ensures.back in
    let (body, said, grown) = c.answer-in-TooLarge.ensures.answers in
    (body ∷ [], omega arith, one_framed _ _ _ grown, Answered-over _ _ _ _ _ _ (sym (ap (λ (l : List ℕ). l ++ c.split_at-2.result.1.now) same ∙ all)) said)

pub returns-in-TooLarge-clause-rest : goal.returns-in-TooLarge-clause-rest
returns-in-TooLarge-clause-rest g c =
    let (large, same) = rw c.in-TooLarge.is at c.next.follows.holds-at-none in
    IsTooLong-more _ _ (subst IsTooLong (sym same) large)
