use Rattle.std.proofs.Common.{Some, refl, subst, sym}
use Rattle.std.specs.List.{AllByRecursion}
use Rattle.std.specs.Prelude.{IfSome, IsTrue}
use Rattle.cell_key.specs.Cells.{IsNewest}
use Rattle.cell_key.specs.declared.keys.CellKey.{CellKey}
use Rattle.sorted_file.specs.File.{IsOpen}
use Rattle.sorted_file.specs.Newest.{at_stamp}
use Rattle.tablet.specs.Ranges.{has_row}
use Rattle.tablet.specs.Views.{cells_at, range_of, Holds}
use Rattle.tablet.proofs.Lookups.{one_none, one_some}
use Rattle.tablet.proofs.Passed.{not_err, passed_err, passed_none, passed_on, passed_reason, reason_of_ok}
use Rattle.tablet.proofs.SameFiles.{same_tablet}
use Rattle.tablet.proofs.WrittenFiles.{if_some_not}
use Rattle.tablet.proofs.tablet.Tablet.version_at.Goals as goal

pub returns-in-Some-clause-found : goal.returns-in-Some-clause-found
returns-in-Some-clause-found g c =
    let key = c.args.key.now in
    let limits = c.key.ensures.limits in
    subst (λ (k : CellKey). IfSome (g.F.Files.contents c.args.files.now) (λ m. Holds m c.args.self.now → IsTrue (has_row (range_of c.args.self.now) key.row)
    → IsNewest (cells_at m c.args.self.now) (at_stamp key) key.stamp key.stamp (Some (k.stamp, c.in-Some.value.items)))) (sym c.key.ensures.key)
    (one_some c.args.self.now c.args.self.now.files refl key.row key.family key.qualifier key.stamp limits.row limits.family c.requires.from c.requires.to key refl
    (g.F.Files.contents c.args.files.now) c.in-Some.value.items (rw c.in-Some.is at c.in_ok-value.ensures.found))

pub returns-in-None-clause-found : goal.returns-in-None-clause-found
returns-in-None-clause-found g c =
    let key = c.args.key.now in
    let limits = c.key.ensures.limits in
    one_none c.args.self.now c.args.self.now.files refl key.row key.family key.qualifier key.stamp limits.row limits.family c.requires.from c.requires.to key refl
    (g.F.Files.contents c.args.files.now) (rw c.in-None.is at c.in_ok-value.ensures.found)

pub returns-in_err-value-clause-found : goal.returns-in_err-value-clause-found
returns-in_err-value-clause-found g c = passed_none c.from_residual.result c.in_err-value.field-0.0 _ c.from_residual.ensures.1

pub returns-in_err-value-clause-limits : goal.returns-in_err-value-clause-limits
returns-in_err-value-clause-limits g c = passed_none c.from_residual.result c.in_err-value.field-0.0 _ c.from_residual.ensures.1

pub returns-in_err-value-clause-reads : goal.returns-in_err-value-clause-reads
returns-in_err-value-clause-reads g c = record {
  damaged = λ is.
      if_some_not (g.F.Files.contents c.args.files.now) (λ m. AllByRecursion (IsOpen m) c.args.self.now.files) (λ m. Holds m c.args.self.now) (λ m h. h.files)
      (c.in_err-value.ensures.damaged (passed_on c.from_residual.result _ c.in_err-value.field-0.0 _ c.from_residual.ensures.1 refl is));
  files = record {
    refusal = passed_err c.from_residual.result c.in_err-value.field-0.0 _ c.from_residual.ensures.1 c.in_err-value.ensures.reads.refusal;
    same = c.in_err-value.ensures.reads.same;
    reason = passed_reason c.from_residual.result _ c.in_err-value.field-0.0 _ _ c.from_residual.ensures.1 refl c.in_err-value.ensures.reads.reason;
  };
}

pub returns-in-Some-clause-reads : goal.returns-in-Some-clause-reads
returns-in-Some-clause-reads g c = record {
  damaged = λ is. absurd (not_err _ _ is);
  files = record {
    refusal = tt;
    same = c.in_ok-value.ensures.reads.same;
    reason = reason_of_ok _ _ _ _ c.in_ok-value.ensures.reads.reason;
  };
}

pub returns-in-None-clause-limits : goal.returns-in-None-clause-limits
returns-in-None-clause-limits g c = tt

pub returns-in-None-clause-reads : goal.returns-in-None-clause-reads
returns-in-None-clause-reads g c = record {
  damaged = λ is. absurd (not_err _ _ is);
  files = record {
    refusal = tt;
    same = c.in_ok-value.ensures.reads.same;
    reason = reason_of_ok _ _ _ _ c.in_ok-value.ensures.reads.reason;
  };
}

pub returns-in_err-value-clause-stays : goal.returns-in_err-value-clause-stays
returns-in_err-value-clause-stays g c = same_tablet (g.F.Files.contents c.args.files.now) c.args.self.now _ refl refl c.lookup.ensures.stay

pub returns-in-Some-clause-stays : goal.returns-in-Some-clause-stays
returns-in-Some-clause-stays g c = same_tablet (g.F.Files.contents c.args.files.now) c.args.self.now _ refl refl c.lookup.ensures.stay

pub returns-in-None-clause-stays : goal.returns-in-None-clause-stays
returns-in-None-clause-stays g c = same_tablet (g.F.Files.contents c.args.files.now) c.args.self.now _ refl refl c.lookup.ensures.stay
