use Rattle.std.proofs.Common.{◌∙◌, inl, inr, rules, ap, sym}
use Rattle.std.proofs.lemmas.Bool.Decides.{Decides-eqb}
use Rattle.commit_log.specs.Records.{spelled_record}
use Rattle.commit_log.specs.declared.records.RecordKind.{RecordKind}
use Rattle.commit_log.proofs.Naming.{is_any, not_over, over_any}
use Rattle.commit_log.proofs.records.is_any_root.Goals as goal

pub returns-in_default : goal.returns-in_default
returns-in_default c = (λ h. cc, λ any. absurd (not_over c.args.bytes.now 0 0 c.in_default.ensures.none (inr any)))

pub returns-in-Edits : goal.returns-in-Edits
returns-in-Edits c = (λ h. cc, λ any. let same = is_any c.args.bytes.now c.in-Some.body.now c.in-Some.kind c.in-Some.stamp c.in-Some.ensures.found any in elim c.in-Edits.is [ inl is ↦ let e = sym is ∙ same in cc | inr other ↦ elim other [ inl is ↦ let e = sym is ∙ same in cc | inr is ↦ let e = sym is ∙ same in cc ] ])

pub returns-else-stamp-eq0 : goal.returns-else-stamp-eq0
returns-else-stamp-eq0 c =
    let found = c.in-Some.ensures.found ∙ ap (λ (k : RecordKind). spelled_record k c.in-Some.stamp c.in-Some.body.now) c.in-AnyRoot.is in
    let test = Decides-eqb c.in-Some.stamp 0 in (
      λ told. absurd (c.if-stamp-eq0.false (test.0 told)),
      λ any. test.1 (over_any c.args.bytes.now c.in-Some.body.now c.in-Some.stamp 0 0 (search rules) found (inr any)).0,
    )
