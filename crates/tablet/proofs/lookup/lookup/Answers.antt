use Rattle.std.proofs.Common.{Option, option_map, refl, sym, ap, ◌∙◌}
use Rattle.cell_key.specs.Entries.{entry_of_key, lent_entry}
use Rattle.cell_key.specs.declared.keys.CellKey.{CellKey}
use Rattle.tablet.proofs.InFiles.{one_found, one_none_found}
use Rattle.cell_key.specs.declared.refusals.Refusal.TheVariants.{Device}
use Rattle.sorted_file.specs.Source.{IsReadRefusal}
use Rattle.std.specs.Option.{option_copied}
use Rattle.cell_key.specs.Keys.{text}
use Rattle.tablet.proofs.SameFiles.{same_files}
use Rattle.tablet.proofs.Short.{long_of_none}
use Rattle.tablet.proofs.Passed.{IsHeldRefusal, err_kind, err_map, held_read, held_refusal, not_err, passed_err, passed_none, passed_on, passed_reason, quiet_reason, reason_of_ok}
use Rattle.tablet.proofs.lookup.lookup.Goals as goal

pub returns-in-Some-clause-damaged : goal.returns-in-Some-clause-damaged
returns-in-Some-clause-damaged g c = λ e. absurd (long_of_none c.args.memtable.now c.lookup.ensures.list (text c.key.result.now) (option_copied c.in-Some.newest.value) (rw c.in-Some.is at c.lookup.ensures.found) (c.copy_value.ensures.damaged e))

pub returns-in-Some-clause-short : goal.returns-in-Some-clause-short
returns-in-Some-clause-short g c = c.copy_value.ensures.short

pub returns-in-Some-clause-reads : goal.returns-in-Some-clause-reads
returns-in-Some-clause-reads g c = record {
  refusal = err_map c.copy_value.result _ IsReadRefusal held_read c.copy_value.ensures.refusal;
  same = refl;
  reason = quiet_reason c.copy_value.result _ (λ is. absurd (err_kind c.copy_value.result Device IsHeldRefusal (err_map c.copy_value.result _ IsHeldRefusal held_refusal c.copy_value.ensures.refusal) is));
}

pub returns-in_err-value-clause-found : goal.returns-in_err-value-clause-found
returns-in_err-value-clause-found g c = passed_none c.from_residual.result c.in_err-value.field-0.0 _ c.from_residual.ensures.1

pub returns-in_err-value-clause-short : goal.returns-in_err-value-clause-short
returns-in_err-value-clause-short g c = passed_none c.from_residual.result c.in_err-value.field-0.0 _ c.from_residual.ensures.1

pub returns-in_err-value-clause-damaged : goal.returns-in_err-value-clause-damaged
returns-in_err-value-clause-damaged g c = λ is. c.in_err-value.ensures.damaged (passed_on c.from_residual.result _ c.in_err-value.field-0.0 _ c.from_residual.ensures.1 refl is)

pub returns-in_err-value-clause-reads : goal.returns-in_err-value-clause-reads
returns-in_err-value-clause-reads g c = record {
  refusal = passed_err c.from_residual.result c.in_err-value.field-0.0 _ c.from_residual.ensures.1 c.in_err-value.ensures.reads.refusal;
  same = c.in_err-value.ensures.reads.same;
  reason = passed_reason c.from_residual.result _ c.in_err-value.field-0.0 _ _ c.from_residual.ensures.1 refl c.in_err-value.ensures.reads.reason;
}

pub returns-in-None-clause-short : goal.returns-in-None-clause-short
returns-in-None-clause-short g c = tt

pub returns-in-None-clause-damaged : goal.returns-in-None-clause-damaged
returns-in-None-clause-damaged g c = λ is. absurd (not_err _ _ is)

pub returns-in-None-clause-reads : goal.returns-in-None-clause-reads
returns-in-None-clause-reads g c = record {
  refusal = tt;
  same = c.in_ok-value.ensures.reads.same;
  reason = reason_of_ok _ _ _ _ c.in_ok-value.ensures.reads.reason;
}

pub returns-in-Some-clause-stay : goal.returns-in-Some-clause-stay
returns-in-Some-clause-stay g c = same_files (g.F.Files.contents c.args.store.now) c.args.files.now

pub returns-in-Some-2-clause-found : goal.returns-in-Some-2-clause-found
returns-in-Some-2-clause-found g c =
    one_found (g.F.Files.contents c.args.store.now) c.args.memtable.now c.args.files.now c.args.key.now _ (ap (λ (k : CellKey). k.stamp) c.key-2.ensures.key)
    (sym (ap (λ (o : Option _). option_map (λ lent. (lent_entry lent).1) o) c.in_default.is) ∙ c.lookup.ensures.found ∙ ap (λ (k : CellKey). entry_of_key c.args.memtable.now (text k)) c.key.ensures.key) _
    (rw c.in-Some-2.is at c.in_ok-value.ensures.found)

pub returns-in-None-clause-found : goal.returns-in-None-clause-found
returns-in-None-clause-found g c =
    one_none_found (g.F.Files.contents c.args.store.now) c.args.memtable.now c.args.files.now c.args.key.now _ (ap (λ (k : CellKey). k.stamp) c.key-2.ensures.key)
    (sym (ap (λ (o : Option _). option_map (λ lent. (lent_entry lent).1) o) c.in_default.is) ∙ c.lookup.ensures.found ∙ ap (λ (k : CellKey). entry_of_key c.args.memtable.now (text k)) c.key.ensures.key)
    (rw c.in-None.is at c.in_ok-value.ensures.found)
