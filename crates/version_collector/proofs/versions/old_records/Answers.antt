use Rattle.std.proofs.Common.{◌≡◌, ◌∙◌, ◌+◌, ℕ, List, [], ◌∷◌, ◌++◌, length, map, Option, sym, ap, subst, arith}
use Rattle.std.specs.Global.{Global}
use Rattle.std.specs.List.{AllByRecursion}
use Rattle.std.specs.Prelude.{IfSome}
use Rattle.std.specs.declared.vec.Vec.{Vec}
use Rattle.cell_key.specs.Cells.{Cells, IsNewest}
use Rattle.cell_key.specs.Columns.{NamesStart}
use Rattle.cell_key.specs.Versions.{IsVersion, IsVersionIn, stamped}
use Rattle.cell_key.specs.declared.keys.Qualifier.TheVariants.{Write}
use Rattle.rows.specs.Reads.{AreNewestFirst}
use Rattle.rows.proofs.Calls.{refused_later}
use Rattle.rows.proofs.Halves.{at_some}
use Rattle.si_model.specs.ShowsCells.{key_of}
use Rattle.version_collector.specs.Versions.{AreFound, AreShown}
use Rattle.version_collector.proofs.Greatest.{length-last}
use Rattle.version_collector.proofs.PassedRefusals.{refused_damaged}
use Rattle.version_collector.proofs.Starts.{HasOlder, not_damaged, nothing_left, older_begin, older_last, older_more, older_next, older_none, older_there}
use Rattle.version_collector.proofs.versions.old_records.Goals as goal

-- the newest version is at hand, and the others are found below it
pub records-init : goal.records-init
records-init g c =
    let cells = g.R.Rows.seen.cells c.args.rows.now in
    let x = c.args.cell.now in
    let items : List (ℕ × Vec ℕ Global) = c.in_ok-records.records.items in
    let v : ℕ × Vec ℕ Global = (c.in-Some.last, c.in-Some._text) in
    let reads = c.in_ok-newest.ensures.reads in
    let none : length c.in_ok-found.found.items ≡ 0 = ap (λ (vs : List (ℕ × ℕ)). length vs) c.in_ok-found.ensures.items in
    let all : c.as_slice-rest.result.now ≡ items = c.as_slice-rest.ensures.value in
    let few = c.in_ok-records.ensures.few in
    let many : length c.as_slice-rest.result.now ≡ length items = ap (λ (vs : List (ℕ × Vec ℕ Global)). length vs) all in
    let one = at_some (λ (f : Option (ℕ × List ℕ)). IfSome f (IsVersionIn 0 c.args.floor)) c.in_ok-newest.newest v c.in-Some.is c.in_ok-newest.ensures.limits in
    record {
      few = omega (arith, none, many, few);
      limits = subst (AllByRecursion (λ (version : ℕ × Vec ℕ Global). IsVersion version.0 version.1.items)) (sym all) c.in_ok-records.ensures.limits;
      old = λ held shown. subst (λ (vs : List (ℕ × ℕ)). HasOlder cells x c.args.floor c.args.from vs (map stamped c.as_slice-rest.result.now)) (sym c.in_ok-found.ensures.items)
          (subst (λ (vs : List (ℕ × Vec ℕ Global)). HasOlder cells x c.args.floor c.args.from [] (map stamped vs)) (sym all)
          (older_begin cells x c.args.floor c.args.from c.lesser-below.result c.in-Some.last c.in-Some._text.items (map stamped items)
          (at_some (IsNewest cells (key_of x Write) 0 c.args.floor) c.in_ok-newest.newest v c.in-Some.is (c.in_ok-newest.ensures.found held))
          one.limits.from c.lesser-below.ensures.low c.lesser-below.ensures.least
          (subst (λ (n : ℕ). AreNewestFirst cells (key_of x Write) n 128 (map stamped items)) c.saturating_sub.ensures
          (subst (λ (cs : Cells). AreNewestFirst cs (key_of x Write) c.saturating_sub.result 128 (map stamped items)) reads.kept (c.in_ok-records.ensures.found (reads.readable x.row held))))));
    }

pub records-preserved : goal.records-preserved
records-preserved g c =
    let cells = g.R.Rows.seen.cells c.args.rows.now in
    let x = c.args.cell.now in
    let before = c.records.invariant in
    let found : List (ℕ × ℕ) = c.records.found.items in
    let v : ℕ × Vec ℕ Global = c.in-Some-split_first.record.now in
    let left : List (ℕ × Vec ℕ Global) = c.records.rest.now in
    let after : List (ℕ × Vec ℕ Global) = c.in-Some-split_first.after.now in
    let start = c.in_ok-start.start in
    let rest : left ≡ v ∷ after = c.in-Some-split_first.ensures.cases.0 in
    let items : c.push.new.self.items ≡ found ++ (v.0, start) ∷ [] = c.in_ok-push.ensures.items ∙ ap (λ (n : ℕ). found ++ (n, start) ∷ []) c.new.ensures in
    let longer : length c.push.new.self.items ≡ length found + 1 = ap (λ (vs : List (ℕ × ℕ)). length vs) items ∙ length-last found (v.0, start) in
    let shorter : length left ≡ length after + 1 = ap (λ (vs : List (ℕ × Vec ℕ Global)). length vs) rest ∙ omega arith in
    let few = before.few in
    let same : c.deref.result.now ≡ v.1.items = c.deref.ensures.value in
    record {
      few = omega (arith, longer, shorter, few);
      limits = (subst (AllByRecursion (λ (version : ℕ × Vec ℕ Global). IsVersion version.0 version.1.items)) rest before.limits).1;
      old = λ held shown. subst (λ (vs : List (ℕ × ℕ)). HasOlder cells x c.args.floor c.args.from vs (map stamped after)) (sym items)
          (older_more cells shown x c.args.floor c.args.from v.0 start v.1.items found (map stamped after) (older_next cells x c.args.floor c.args.from found left after v rest (before.old held shown))
          (subst (λ (b : List ℕ). NamesStart b start) same (c.in_ok-start.field-0-1, c.in_ok-start.ensures.named)));
    }

pub returns-in_err-start-clause-refusal : goal.returns-in_err-start-clause-refusal
returns-in_err-start-clause-refusal g c =
    let cells = g.R.Rows.seen.cells c.args.rows.now in
    let x = c.args.cell.now in
    let v : ℕ × Vec ℕ Global = c.in-Some-split_first.record.now in
    let left : List (ℕ × Vec ℕ Global) = c.records.rest.now in
    let after : List (ℕ × Vec ℕ Global) = c.in-Some-split_first.after.now in
    let rest : left ≡ v ∷ after = c.in-Some-split_first.ensures.cases.0 in
    let same : c.deref.result.now ≡ v.1.items = c.deref.ensures.value in
    refused_damaged (g.R.Rows.seen.readable c.args.rows.now c.args.cell.now.row × AreShown cells) c.from_residual-in_err-start.result c.in_err-start.field-0.0 c.from_residual-in_err-start.ensures.1 c.in_err-start.ensures.refusal
    (λ was. not_damaged cells x v.0 v.1.items
    (older_there cells x c.args.floor c.args.from v.0 v.1.items c.records.found.items (map stamped after) (older_next cells x c.args.floor c.args.from c.records.found.items left after v rest (c.records.invariant.old was.0 was.1)))
    (λ t from to names. c.in_err-start.ensures.damaged t from to (subst (λ (b : List ℕ). NamesStart b t) (sym same) names)) was.1)

pub returns-in_err-records-clause-refusal : goal.returns-in_err-records-clause-refusal
returns-in_err-records-clause-refusal g c =
    refused_later (g.R.Rows.seen.readable c.args.rows.now c.args.cell.now.row × AreShown (g.R.Rows.seen.cells c.args.rows.now)) (g.R.Rows.seen.readable c.newest.new.self c.args.cell.now.row)
    c.from_residual-in_err-records.result c.in_err-records.field-0.0 (λ was. c.in_ok-newest.ensures.reads.readable c.args.cell.now.row was.0) c.from_residual-in_err-records.ensures.1 c.in_err-records.ensures.refusal

-- there is no record at or below the floor
pub returns-in_default-clause-found : goal.returns-in_default-clause-found
returns-in_default-clause-found g c = λ held shown none.
    let cells = g.R.Rows.seen.cells c.args.rows.now in
    let x = c.args.cell.now in
    subst (λ (vs : List (ℕ × ℕ)). AreFound cells x c.args.floor vs) (sym c.in_ok-found.ensures.items)
    (older_none cells x c.args.floor c.in_ok-newest.newest c.in_default.is (c.in_ok-newest.ensures.found held))

pub returns-clause-found : goal.returns-clause-found
returns-clause-found g c = λ held shown none.
    let few = c.records.invariant.few in
    older_last (g.R.Rows.seen.cells c.args.rows.now) c.args.cell.now c.args.floor c.args.from c.records.found.items c.records.rest.now (nothing_left c.records.rest.now c.in_default-split_first.ensures.cases) (omega (arith, few)) (c.records.invariant.old held shown) none
