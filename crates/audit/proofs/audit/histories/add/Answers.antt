use Rattle.std.proofs.Common.{◌≡◌, ℕ, List, Option, Some, ap, refl, subst, sym}
use Rattle.std.specs.BTreeMap as btree
use Rattle.std.specs.Global.{Vec}
use Rattle.std.specs.Prelude.{IsSome}
use Rattle.std.proofs.lemmas.Result.{IfOk-weaker}
use Rattle.si_model.specs.Reads.{cell_of}
use Rattle.si_model.specs.declared.replies.Cell.{Cell}
use Rattle.audit.specs.Histories.{IsAdded, name_cmp, versions_of}
use Rattle.audit.specs.declared.audit.parts.Version.{Version}
use Rattle.audit.proofs.VersionMaps.{added_at}
use Rattle.audit.proofs.audit.histories.add.Goals as goal

pub returns-then-not-contains_key : goal.returns-then-not-contains_key
returns-then-not-contains_key c =
    let is : cell_of c.in_ok-clone.field-0 c.in_ok-clone-2.field-0 ≡ c.args.cell.now = λ i. record { row = c.in_ok-clone.ensures.cases i; family = c.in_ok-clone-2.ensures.cases i } in
    IfOk-weaker c.add_first.result _ _ (λ added h t. subst (λ (x : Cell). IsAdded c.args.histories.now c.add_first.new.histories x c.args.version) is (h t)) c.add_first.ensures

pub returns-in-Some : goal.returns-in-Some
returns-in-Some c =
    let name : List ℕ × List ℕ = (c.in_ok-clone.field-0, c.in_ok-clone-2.field-0) in
    let is : name ≡ (c.args.cell.now.row, c.args.cell.now.family) = λ i. (c.in_ok-clone.ensures.cases i, c.in_ok-clone-2.ensures.cases i) in
    let was : btree.get name_cmp c.args.histories.now name ≡ Some c.in-Some.versions.now = sym c.in-Some.ensures.value in
    let stands : IsSome (btree.get name_cmp c.args.histories.now name) = subst (λ (o : Option (Vec Version)). IsSome o) c.in-Some.ensures.value refl in
    let lent = c.get_mut.follows.holds c.add_last.new.versions in
    let at = lent.3 stands in
    IfOk-weaker c.add_last.result _ _ (λ added h t.
    added_at c.args.histories.now (c.get_mut.follows.lender c.add_last.new.versions) c.args.cell.now c.args.version name c.add_last.new.versions c.in-Some.versions.now.items is (ap versions_of was) at.0 at.1 (h t).1 (h t).0)
    c.add_last.ensures
