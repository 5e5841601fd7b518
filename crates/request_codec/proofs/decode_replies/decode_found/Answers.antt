use Rattle.std.proofs.Common.{◌≡◌, ℕ, List, ◌∷◌, Some, ap, ◌∙◌}
use Rattle.si_model.specs.Messages.{Answered}
use Rattle.request_codec.specs.Fields.{field, FitsField}
use Rattle.request_codec.specs.Replies.{NeedsMemory}
use Rattle.request_codec.proofs.Fields.{on_err}
use Rattle.request_codec.proofs.decode_replies.decode_found.Goals as goal

value_needs : (fields rest value : List ℕ) (tag : ℕ) → fields ≡ tag ∷ rest → tag ≡ 1 → rest ≡ field value → FitsField value → NeedsMemory (0x82 ∷ fields)
value_needs fields rest value tag front is after fits = (
  Answered (Some value),
  record { numbers = tt; bytes = fits; whole = ap (λ (t : List ℕ). 0x82 ∷ t) (front ∙ ap (λ (n : ℕ). n ∷ rest) is ∙ ap (λ (t : List ℕ). 1 ∷ t) after) },
  tt,
)

pub returns-in_err-from_slice-in-1-clause-needed : goal.returns-in_err-from_slice-in-1-clause-needed
returns-in_err-from_slice-in-1-clause-needed c =
    let value = c.in-Some-whole_bytes in
    on_err c.from_residual.result
    (value_needs c.args.fields.now c.in-Some.rest.now value.value.now c.in-Some.tag.now c.in-Some.ensures.cases.0 c.in-1.is value.ensures.found value.ensures.fits)
