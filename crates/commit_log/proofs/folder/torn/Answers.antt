use Rattle.std.proofs.Common.{ℕ, suc, List, [], ◌∷◌, ◌++◌, ◌∙◌, ap, append_assoc}
use Rattle.std.specs.Prelude.{replicate}
use Rattle.commit_log.proofs.folder.torn.Goals as goal

pub loop-last-preserved : goal.loop-last-preserved
loop-last-preserved c =
    let (zeros, joined) = c.loop-last.invariant in (
      suc zeros,
      joined
          ∙ ap (λ (l : List ℕ). l ++ replicate zeros 0) c.in-Some.ensures.cases.0
          ∙ append_assoc c.in-Some.before.now (c.in-Some.last.now ∷ []) (replicate zeros 0)
          ∙ ap (λ (b : ℕ). c.in-Some.before.now ++ b ∷ replicate zeros 0) c.if-last-ne0.false,
    )
