use Rattle.std.proofs.Common.{◌≡◌, ℕ, ◌<◌, ◌^◌, List, ◌∷◌, ◌++◌, Some, refl, ap, ◌∙◌}
use Rattle.si_model.specs.Messages.{RawFound}
use Rattle.request_codec.specs.Fields.{number, field, FitsField}
use Rattle.request_codec.specs.Replies.{IsReply, NeedsMemory}
use Rattle.request_codec.proofs.Fields.{on_err}
use Rattle.request_codec.proofs.decode_replies.decode_raw.Goals as goal

version_is : (fields rest value items : List ℕ) (tag stamp : ℕ) → fields ≡ tag ∷ rest → tag ≡ 1 → rest ≡ number 8 stamp ++ field value → items ≡ value → stamp < 2 ^ 64 → FitsField value → IsReply (RawFound (Some (stamp, items))) (0x91 ∷ fields)
version_is fields rest value items tag stamp front is after same number_fits fits =
    rw same (record { numbers = number_fits; bytes = fits; whole = ap (λ (t : List ℕ). 0x91 ∷ t) (front ∙ ap (λ (n : ℕ). n ∷ rest) is ∙ ap (λ (t : List ℕ). 1 ∷ t) after) })

version_needs : (fields rest value : List ℕ) (tag stamp : ℕ) → fields ≡ tag ∷ rest → tag ≡ 1 → rest ≡ number 8 stamp ++ field value → stamp < 2 ^ 64 → FitsField value → NeedsMemory (0x91 ∷ fields)
version_needs fields rest value tag stamp front is after number_fits fits = (RawFound (Some (stamp, value)), version_is fields rest value value tag stamp front is after refl number_fits fits, tt)

pub returns-in_err-value-in-1-clause-needed : goal.returns-in_err-value-in-1-clause-needed
returns-in_err-value-in-1-clause-needed c =
    let found = c.in-Some-whole_version in
    on_err c.from_residual.result
    (version_needs c.args.fields.now c.in-Some.rest.now found.value.now c.in-Some.tag.now found.stamp c.in-Some.ensures.cases.0 c.in-1.is found.ensures.found found.ensures.number found.ensures.value)

pub returns-in_ok-value-in-1-clause-found : goal.returns-in_ok-value-in-1-clause-found
returns-in_ok-value-in-1-clause-found c =
    let found = c.in-Some-whole_version in
    version_is c.args.fields.now c.in-Some.rest.now found.value.now c.in_ok-value-in-1.value.items c.in-Some.tag.now found.stamp c.in-Some.ensures.cases.0 c.in-1.is found.ensures.found c.in_ok-value-in-1.ensures.items found.ensures.number found.ensures.value
