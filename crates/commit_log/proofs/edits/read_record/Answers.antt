use Rattle.std.proofs.Common.{◌∙◌, rules, ap, arith}
use Rattle.commit_log.specs.Records.{spelled_record}
use Rattle.commit_log.specs.declared.records.RecordKind.{RecordKind}
use Rattle.commit_log.proofs.Logging.{edits_part, no_edits_part, no_part, no_root_part, root_part}
use Rattle.commit_log.proofs.Results.{ok_through}
use Rattle.commit_log.proofs.edits.read_record.Goals as goal

pub returns-in_default-clause-damaged : goal.returns-in_default-clause-damaged
returns-in_default-clause-damaged c = λ _ part all. no_part c.args.bytes.now c.in_default.ensures.none part

pub returns-in-Some-form_of-clause-ok : goal.returns-in-Some-form_of-clause-ok
returns-in-Some-form_of-clause-ok c =
    ok_through c.read_edits.result _ _ (edits_part c.args.bytes.now c.in-Some.body.now c.in-Some.kind c.in-Some-form_of.form c.in-Some.stamp c.args.edits.now.items c.read_edits.new.edits.items c.in-Some.ensures.found c.in-Some-form_of.ensures.found) c.read_edits.ensures.ok

pub returns-in-Some-form_of-clause-damaged : goal.returns-in-Some-form_of-clause-damaged
returns-in-Some-form_of-clause-damaged c = λ e.
    no_edits_part c.args.bytes.now c.in-Some.body.now c.in-Some-form_of.form c.in-Some.stamp (c.in-Some.ensures.found ∙ ap (λ (k : RecordKind). spelled_record k c.in-Some.stamp c.in-Some.body.now) c.in-Some-form_of.ensures.found)
    (c.read_edits.ensures.damaged e)

pub returns-then-not-is_of_root-clause-damaged : goal.returns-then-not-is_of_root-clause-damaged
returns-then-not-is_of_root-clause-damaged c = λ _ part all.
    no_root_part c.args.bytes.now c.in-Some.body.now c.in-Some.kind c.in-Some.stamp (search rules) c.in-Some.ensures.found c.in_default-form_of.ensures.none (λ of. let h = c.if-not-is_of_root.ensures.1 of in cc) part

pub returns-clause-ok : goal.returns-clause-ok
returns-clause-ok c =
    root_part c.args.bytes.now c.in-Some.body.now c.in-Some.kind c.in-Some.stamp c.args.edits.now.items (λ i. omega (arith, c.type_inv.bytes i)) c.in-Some.ensures.found (c.if-not-is_of_root.ensures.0 (search rules))
