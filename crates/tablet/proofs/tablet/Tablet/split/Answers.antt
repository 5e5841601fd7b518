use Rattle.std.proofs.Common.{inl, refl, subst, sym, Option}
use Rattle.std.proofs.lemmas.Result.{IfOk-weaker}
use Rattle.sorted_file.specs.Source.{IsReadRefusal}
use Rattle.file_store.specs.Store.{Contents}
use Rattle.tablet.specs.Compactions.{IsMinorRefusal, TakesName}
use Rattle.tablet.proofs.Passed.{err_kind, err_map, minor_read, not_err, passed_err, passed_kept, passed_none, passed_on, passed_over, reason_after}
use Rattle.tablet.proofs.SplitParts.{cut_after, keeps_after, left_after, missing_before, parts_after}
use Rattle.tablet.proofs.WrittenFiles.{as_on_ok, none_says}
use Rattle.tablet.proofs.tablet.Tablet.split.Goals as goal

pub returns-clause-parts : goal.returns-clause-parts
returns-clause-parts g c =
    IfOk-weaker c.cut.result _ _ (λ left parts. parts_after (g.F.Files.contents c.args.files.now) (g.F.Files.contents c.minor.new.files) _ c.args.next_name.now c.minor.new.next_name c.args.self.now c.minor.new.self left c.cut.new.self c.args.row.now c.in_ok-minor.ensures.range c.in_ok-minor.ensures.keeps (parts c.minor.new.next_name)) c.cut.ensures.parts

pub returns-in_err-minor-clause-parts : goal.returns-in_err-minor-clause-parts
returns-in_err-minor-clause-parts g c = passed_none c.from_residual.result c.in_err-minor.field-0.0 _ c.from_residual.ensures.1

pub returns-in_err-minor-clause-left : goal.returns-in_err-minor-clause-left
returns-in_err-minor-clause-left g c = passed_kept c.from_residual.result _ (record { range = c.in_err-minor.ensures.range; empty = λ none. c.in_err-minor.ensures.err; may = inl c.in_err-minor.ensures.err })

pub returns-in_err-minor-clause-keeps : goal.returns-in_err-minor-clause-keeps
returns-in_err-minor-clause-keeps g c = passed_kept c.from_residual.result _ c.in_err-minor.ensures.keeps

pub returns-in_err-minor-clause-name : goal.returns-in_err-minor-clause-name
returns-in_err-minor-clause-name g c = c.in_err-minor.ensures.name

pub returns-in_err-minor-clause-damaged : goal.returns-in_err-minor-clause-damaged
returns-in_err-minor-clause-damaged g c = λ is. none_says (g.F.Files.contents c.args.files.now) _ (c.in_err-minor.ensures.damaged (passed_on c.from_residual.result _ c.in_err-minor.field-0.0 _ c.from_residual.ensures.1 refl is))

pub returns-in_err-minor-clause-refusal : goal.returns-in_err-minor-clause-refusal
returns-in_err-minor-clause-refusal g c = passed_err c.from_residual.result c.in_err-minor.field-0.0 _ c.from_residual.ensures.1 c.in_err-minor.ensures.refusal

pub returns-in_err-minor-clause-empty : goal.returns-in_err-minor-clause-empty
returns-in_err-minor-clause-empty g c = λ none. (c.in_err-minor.ensures.empty none).1.1

pub returns-clause-full : goal.returns-clause-full
returns-clause-full g c = record {
  exactly = (λ is. absurd (err_kind c.cut.result _ IsReadRefusal c.cut.ensures.reads.refusal is), λ both. absurd (not_err _ _ (c.in_ok-minor.ensures.full.exactly.1 both)));
  untouched = λ is. absurd (err_kind c.cut.result _ IsReadRefusal c.cut.ensures.reads.refusal is);
}

pub returns-clause-exhausted : goal.returns-clause-exhausted
returns-clause-exhausted g c = λ is. absurd (err_kind c.cut.result _ IsReadRefusal c.cut.ensures.reads.refusal is)

pub returns-clause-large : goal.returns-clause-large
returns-clause-large g c = λ is. absurd (err_kind c.cut.result _ IsReadRefusal c.cut.ensures.reads.refusal is)

pub returns-clause-refusal : goal.returns-clause-refusal
returns-clause-refusal g c = err_map c.cut.result IsReadRefusal IsMinorRefusal minor_read c.cut.ensures.reads.refusal

pub returns-clause-damaged : goal.returns-clause-damaged
returns-clause-damaged g c = λ is. missing_before c.open_is_there.ensures (g.F.Files.contents c.args.files.now) (g.F.Files.contents c.minor.new.files) c.args.file_limit c.args.next_name.now c.minor.new.next_name c.args.self.now c.minor.new.self c.in_ok-minor.ensures.name.uses c.in_ok-minor.ensures.flushed (c.cut.ensures.damaged is)

pub returns-clause-reason : goal.returns-clause-reason
returns-clause-reason g c = reason_after (g.F.Files.faults c.args.files.now) (g.F.Files.faults c.minor.new.files) (g.F.Files.faults c.cut.new.files) (c.in_ok-minor.ensures.reason.told (λ is. not_err _ _ is)) c.cut.ensures.reads.reason

pub returns-in_err-minor-clause-cut : goal.returns-in_err-minor-clause-cut
returns-in_err-minor-clause-cut g c = passed_none c.from_residual.result c.in_err-minor.field-0.0 _ c.from_residual.ensures.1

pub returns-in_err-minor-clause-written : goal.returns-in_err-minor-clause-written
returns-in_err-minor-clause-written g c = passed_none c.from_residual.result c.in_err-minor.field-0.0 _ c.from_residual.ensures.1

pub returns-in_err-minor-clause-full : goal.returns-in_err-minor-clause-full
returns-in_err-minor-clause-full g c = record {
  exactly = (λ is. c.in_err-minor.ensures.full.exactly.0 (passed_on c.from_residual.result _ c.in_err-minor.field-0.0 _ c.from_residual.ensures.1 refl is), λ both. passed_over c.from_residual.result c.in_err-minor.field-0.0 _ c.from_residual.ensures.1 (c.in_err-minor.ensures.full.exactly.1 both));
  untouched = λ is. c.in_err-minor.ensures.full.untouched (passed_on c.from_residual.result _ c.in_err-minor.field-0.0 _ c.from_residual.ensures.1 refl is);
}

pub returns-clause-cut : goal.returns-clause-cut
returns-clause-cut g c =
    cut_after c.cut.result _ c.args.row.now c.args.self.now c.minor.new.self c.cut.new.self c.in_ok-minor.ensures.range c.in_ok-minor.ensures.flushed.names
    c.cut.ensures.left_range c.cut.ensures.right_range c.cut.ensures.left_names c.cut.ensures.right_names c.cut.ensures.left_memory c.cut.ensures.right_memory

pub returns-clause-written : goal.returns-clause-written
returns-clause-written g c = as_on_ok c.cut.result c.in_ok-minor.ensures.flushed.written

pub returns-clause-left : goal.returns-clause-left
returns-clause-left g c =
    left_after c.cut.result c.args.next_name.now c.args.self.now c.minor.new.self c.cut.new.self c.in_ok-minor.ensures.range (λ none. (c.in_ok-minor.ensures.empty none).1.0)
    c.in_ok-minor.ensures.flushed.memory c.in_ok-minor.ensures.flushed.names c.cut.ensures.err

pub returns-clause-name : goal.returns-clause-name
returns-clause-name g c =
    subst (λ (told : Option Contents). TakesName (g.F.Files.contents c.args.files.now) c.args.next_name.now told c.minor.new.next_name) (sym c.cut.ensures.reads.same) c.in_ok-minor.ensures.name

pub returns-clause-keeps : goal.returns-clause-keeps
returns-clause-keeps g c =
    keeps_after c.cut.result (g.F.Files.contents c.args.files.now) (g.F.Files.contents c.minor.new.files) (g.F.Files.contents c.cut.new.files) c.args.next_name.now c.minor.new.next_name c.args.self.now c.minor.new.self c.cut.new.self
    c.in_ok-minor.ensures.keeps c.cut.ensures.keeps
