use Rattle.std.proofs.Common.{ℕ, List, [], ◌∷◌, ◌++◌, sym, ap, ◌∙◌, append_assoc}
use Rattle.cell_key.specs.Texts.{escaped}
use Rattle.cell_key.proofs.names.Row.fence.Goals as goal

pub returns-clause-fence : goal.returns-clause-fence
returns-clause-fence c =
    let row = c.push_escaped.ensures.items ∙ ap (λ (out : List ℕ). out ++ escaped c.as_bytes-row.result.now) c.in_ok-fence.ensures.items ∙ ap escaped c.as_bytes-row.ensures.bytes in
    c.push_bytes.ensures.items ∙ ap (λ (out : List ℕ). out ++ (0 ∷ 0 ∷ 255 ∷ [])) row
    ∙ sym (append_assoc (escaped c.args.self.now) (0 ∷ 0 ∷ []) (255 ∷ []))
