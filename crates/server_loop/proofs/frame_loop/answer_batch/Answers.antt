use Rattle.std.proofs.Common.{◌≡◌, ◌==◌, ℕ, ◌<◌, List, ◌++◌, length, Err, ap, ◌∙◌, sym, subst}
use Rattle.std.specs.Io.KnownBytes.{Appends}
use Rattle.std.proofs.lemmas.Result.{err_from_is_err_and}
use Rattle.server_loop.specs.Batches.{Cuts}
use Rattle.server_loop.proofs.ServingLemmas.{Cuts-first, Delivers-batch, Delivers-nothing, IsOver-leaves, frames_none, some_framed}
use Rattle.server_loop.proofs.StreamReads.{none_held, some_held}
use Rattle.server_loop.proofs.frame_loop.answer_batch.Goals as goal

pub returns-then-is_empty-clause-delivers : goal.returns-then-is_empty-clause-delivers
returns-then-is_empty-clause-delivers g c =
    let (replies, small, framed, answered) = c.fill-filled.ensures.answered in
    let none = none_held c.is_empty.result c.fill-filled.new.waiting.items (c.is_empty.ensures ∙ ap (λ (n : ℕ). n == 0) c.fill-filled.new.waiting.ok.0) c.if-is_empty.true in
    Delivers-nothing _ _ _ g.met.H.FrameHandler.joins _ _ _ _ _ replies _ (frames_none replies (sym framed ∙ none)) answered

pub returns-in_err-release-clause-cuts : goal.returns-in_err-release-clause-cuts
returns-in_err-release-clause-cuts g c =
    let fault = c.in_err-release.field-0.0 in
    let q = err_from_is_err_and c.from_residual.result c.from_residual.ensures.1 in
    let is : c.from_residual.result ≡ Err fault = q.1 ∙ ap (λ x. Err x) q.2 in
    let (replies, small, framed, answered) = c.fill-filled.ensures.answered in
    let some = some_held c.is_empty.result c.fill-filled.new.waiting.items (c.is_empty.ensures ∙ ap (λ (n : ℕ). n == 0) c.fill-filled.new.waiting.ok.0) c.if-is_empty.false in
    let (written, more, parts, appended, cut) = c.in_err-release.ensures.err in
    rw is (
      c.fill-filled.new.framer ++ c.fill-filled.result.1.now,
      Cuts-first _ _ _ g.met.H.FrameHandler.joins _ fault _ _ _ _ _ _ replies _ written more _ _ answered (IsOver-leaves c.fill-filled.result.0 _ _ c.fill-filled.ensures.rest) small (some_framed _ replies framed some) framed parts appended cut,
    )

pub returns-clause-delivers : goal.returns-clause-delivers
returns-clause-delivers g c =
    let (replies, small, framed, answered) = c.fill-filled.ensures.answered in
    let some = some_held c.is_empty.result c.fill-filled.new.waiting.items (c.is_empty.ensures ∙ ap (λ (n : ℕ). n == 0) c.fill-filled.new.waiting.ok.0) c.if-is_empty.false in
    let (settled, appended) = c.in_ok-release.ensures.ok in
    Delivers-batch _ _ _ g.met.H.FrameHandler.joins _ _ _ _ _ _ replies _ _ answered (some_framed _ replies framed some) settled
    (subst (Appends (g.W.Write.contents c.args.writer.now) (g.W.Write.contents c.release.new.writer)) framed appended)
