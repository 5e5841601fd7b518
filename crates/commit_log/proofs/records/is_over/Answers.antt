use Rattle.std.proofs.Common.{◌∙◌, inl, inr, rules, ap, sym, arith}
use Rattle.std.proofs.lemmas.Bool.Decides.{Decides-eqb}
use Rattle.std.specs.Cmp.Lexicographic.{bytes_decides}
use Rattle.commit_log.specs.Records.{spelled_record}
use Rattle.commit_log.specs.declared.records.RecordKind.{RecordKind}
use Rattle.commit_log.proofs.Naming.{as_root, not_over, over_any, over_other, over_root}
use Rattle.commit_log.proofs.records.is_over.Goals as goal

pub returns-in_default : goal.returns-in_default
returns-in_default c = (λ h. cc, λ over. absurd (not_over c.args.bytes.now c.args.top c.args.sum c.in_default.ensures.none over))

pub returns-in-Edits : goal.returns-in-Edits
returns-in-Edits c = (
  λ h. cc,
  λ over. absurd (elim c.in-Edits.is [
    | inl is ↦ over_other c.args.bytes.now c.in-Some.body.now c.in-Some.kind c.in-Some.stamp c.args.top c.args.sum (λ root. let e = sym is ∙ root in cc) (λ any. let e = sym is ∙ any in cc) c.in-Some.ensures.found over
    | inr is ↦ over_other c.args.bytes.now c.in-Some.body.now c.in-Some.kind c.in-Some.stamp c.args.top c.args.sum (λ root. let e = sym is ∙ root in cc) (λ any. let e = sym is ∙ any in cc) c.in-Some.ensures.found over
  ]),
)

pub returns-then-stamp-top : goal.returns-then-stamp-top
returns-then-stamp-top c =
    let found = c.in-Some.ensures.found ∙ ap (λ (k : RecordKind). spelled_record k c.in-Some.stamp c.in-Some.body.now) c.in-Root.is in
    let sum = c.as_slice.ensures ∙ c.root_sum_bytes.ensures in
    let test = bytes_decides c.in-Some.body.now c.as_slice.result.now in (
      λ told. inl (as_root c.args.bytes.now c.in-Some.body.now c.as_slice.result.now c.in-Some.stamp c.args.top c.args.sum found (omega (arith, c.if-stamp-top.true)) (test.0 (sym c.eq.ensures ∙ told)) sum),
      λ over. c.eq.ensures ∙ test.1 ((over_root c.args.bytes.now c.in-Some.body.now c.in-Some.stamp c.args.top c.args.sum (search rules) (search rules) found over).1 ∙ sym sum),
    )

pub returns-else-stamp-top : goal.returns-else-stamp-top
returns-else-stamp-top c =
    let found = c.in-Some.ensures.found ∙ ap (λ (k : RecordKind). spelled_record k c.in-Some.stamp c.in-Some.body.now) c.in-Root.is in
    let test = Decides-eqb c.in-Some.stamp c.args.top in (
      λ told. absurd (c.if-stamp-top.false (test.0 told)),
      λ over. test.1 (over_root c.args.bytes.now c.in-Some.body.now c.in-Some.stamp c.args.top c.args.sum (search rules) (search rules) found over).0,
    )

pub returns-else-stamp-eq0 : goal.returns-else-stamp-eq0
returns-else-stamp-eq0 c =
    let found = c.in-Some.ensures.found ∙ ap (λ (k : RecordKind). spelled_record k c.in-Some.stamp c.in-Some.body.now) c.in-AnyRoot.is in
    let test = Decides-eqb c.in-Some.stamp 0 in (
      λ told. absurd (c.if-stamp-eq0.false (test.0 told)),
      λ over. test.1 (over_any c.args.bytes.now c.in-Some.body.now c.in-Some.stamp c.args.top c.args.sum (search rules) found over).0,
    )
