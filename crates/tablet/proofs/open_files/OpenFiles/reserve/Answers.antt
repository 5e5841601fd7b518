use Rattle.std.proofs.Common.{sym, subst, ◌∙◌}
use Rattle.std.proofs.lemmas.List.Elements.{All-same}
use Rattle.sorted_file.specs.KeyFilters.{Covers}
use Rattle.sorted_file.specs.LockIndexes.{IsIndexOf}
use Rattle.tablet.proofs.open_files.OpenFiles.reserve.Goals as goal

pub invariant_of-self : goal.invariant_of-self
invariant_of-self c = (All-same (Covers c.reserve.new.self) _ _ (sym c.deref.ensures.value) c.reserve.ensures.covers, c.self.invariant.1)

pub invariant_of-self-in_err-reserve-2 : goal.invariant_of-self-in_err-reserve-2
invariant_of-self-in_err-reserve-2 c =
    (All-same (Covers c.reserve.new.self) _ _ (c.reserve-2.ensures.items ∙ sym c.deref.ensures.value) c.reserve.ensures.covers, subst (IsIndexOf c.self.inside.locks) (sym c.reserve-2.ensures.items) c.self.invariant.1)

pub invariant_of-self-2 : goal.invariant_of-self-2
invariant_of-self-2 c =
    (All-same (Covers c.reserve.new.self) _ _ (c.reserve-2.ensures.items ∙ sym c.deref.ensures.value) c.reserve.ensures.covers, subst (IsIndexOf c.self.inside.locks) (sym c.reserve-2.ensures.items) c.self.invariant.1)
