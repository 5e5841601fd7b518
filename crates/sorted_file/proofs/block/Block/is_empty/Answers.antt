use Rattle.std.proofs.Common.{◌≡◌, ◌==◌, [], ℕ, List, Bool, length, sym, ap, subst, ◌∙◌}
use Rattle.std.specs.Prelude.{IsTrue}
use Rattle.sorted_file.proofs.GrowingBlocks.{no_starts}
use Rattle.sorted_file.proofs.block.Block.is_empty.Goals as goal

pub returns : goal.returns
returns c = λ es p.
    subst (λ (b : Bool). (IsTrue b → es ≡ []) × (es ≡ [] → IsTrue b)) (sym (c.is_empty.ensures ∙ ap (λ (n : ℕ). n == 0) c.args.self.now.starts.ok.0))
    (subst (λ (l : List ℕ). (IsTrue (length l == 0) → es ≡ []) × (es ≡ [] → IsTrue (length l == 0))) (sym p.starts) (no_starts es))
