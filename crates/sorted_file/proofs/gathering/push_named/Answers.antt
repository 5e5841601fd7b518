-- The key added is the key with the text.
use Rattle.std.proofs.Common.{◌≡◌, inl, inr, ⊎_elim, List, Contains, ◌∙◌, ap, subst}
use Rattle.std.proofs.lemmas.List.Elements.{Contains-push_cases}
use Rattle.cell_key.specs.Keys.{text}
use Rattle.cell_key.specs.declared.keys.CellKey.{CellKey}
use Rattle.sorted_file.proofs.Results.{of_some}
use Rattle.sorted_file.proofs.gathering.push_named.Goals as goal

pub returns-in_ok-push-clause-named : goal.returns-in_ok-push-clause-named
returns-in_ok-push-clause-named c = λ one there.
    let found : CellKey = c.in-Some.lock in
    let spelled = of_some _ found (λ (k : CellKey). c.args.key.text.now ≡ text k) c.in-Some.is c.in_ok-lock.ensures.found in
    ⊎_elim inl (λ (here : found ≡ one). inr (spelled ∙ ap text here))
    (Contains-push_cases c.args.named.now.items found one (subst (λ (l : List CellKey). Contains l one) c.in_ok-push.ensures.items there))
