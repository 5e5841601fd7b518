use Rattle.std.proofs.Common.{◌≡◌, Err, ap, ◌∙◌, rules}
use Rattle.std.proofs.KnownBytes.{Keeps-refl}
use Rattle.std.proofs.lemmas.Result.{err_from_is_err_and}
use Rattle.server_loop.proofs.ServingLemmas.{Cuts-after, Delivers-none, Delivers-then}
use Rattle.server_loop.proofs.frame_loop.serve_piece.Goals as goal

pub loop-ended-init : goal.loop-ended-init
loop-ended-init g c = record { none = search rules; grown = search rules; delivered = Delivers-none _ _ _ g.met.H.FrameHandler.joins _ _ _ _ (Keeps-refl _) }

pub returns-in_err-ended-clause-cuts : goal.returns-in_err-ended-clause-cuts
returns-in_err-ended-clause-cuts g c =
    let fault = c.in_err-ended.field-0.0 in
    let p = err_from_is_err_and c.from_residual.result c.from_residual.ensures.1 in
    let is : c.from_residual.result ≡ Err fault = p.1 ∙ ap (λ x. Err x) p.2 in
    let (rest, cut) = c.in_err-ended.ensures.cuts in
    rw is (rest, Cuts-after _ _ _ g.met.H.FrameHandler.joins _ fault _ _ _ _ _ _ _ _ _ c.loop-ended.invariant.delivered cut)

pub loop-ended-preserved : goal.loop-ended-preserved
loop-ended-preserved g c = record {
  none = search rules;
  grown = search rules;
  delivered = Delivers-then _ _ _ g.met.H.FrameHandler.joins _ _ _ _ _ _ _ _ _ _ c.loop-ended.invariant.delivered (rw c.in-None.is at c.in_ok-ended.ensures.delivers);
}

pub returns-in-Some-clause-delivers : goal.returns-in-Some-clause-delivers
returns-in-Some-clause-delivers g c = (
  c.in_ok-ended.behind.now,
  rw c.in-Some.is at c.in_ok-ended.ensures.rest,
  Delivers-then _ _ _ g.met.H.FrameHandler.joins _ _ _ _ _ _ _ _ _ _ c.loop-ended.invariant.delivered (rw c.in-Some.is at c.in_ok-ended.ensures.delivers),
)
