use Rattle.std.proofs.Common.{◌++◌, Some, ap, ◌∙◌}
use Rattle.std.proofs.lemmas.Bool.Decides.{Decides-eqb}
use Rattle.std.proofs.lemmas.Slice.Eq.{strip_prefix_is}
use Rattle.cell_key.proofs.lent_keys.next_key.Goals as goal

pub in_place-requires-clause-place : goal.in_place-requires-clause-place
in_place-requires-clause-place c =
    let found = c.in-Some-strip_prefix in
    strip_prefix_is Decides-eqb c.args.bytes.now c.split_at.result.0.now (Some found.tail) found.ensures.cases
    ∙ ap (λ t. t ++ found.tail.now) c.split_at.ensures.front
