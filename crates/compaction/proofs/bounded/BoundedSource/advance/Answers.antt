use Rattle.std.proofs.Common.{◌≡◌, ℕ, Bool, true, false, cond, not, List, refl, sym, ap, ◌∙◌}
use Rattle.std.specs.Prelude.{Option, Some, None, is_some}
use Rattle.cell_key.specs.Entries.{Entry}
use Rattle.compaction.specs.Ends.{end_of, source_of, is_at_end, is_below, lent_until, goes_on, stays}
use Rattle.compaction.proofs.EndedSources.{until_stays, until_takes}
use Rattle.compaction.proofs.bounded.BoundedSource.advance.Goals as goal

pub returns-then-is_at_end-clause-takes : goal.returns-then-is_at_end-clause-takes
returns-then-is_at_end-clause-takes g c =
    let s = source_of c.args.self.now in
    let at_end : is_at_end (end_of c.args.self.now) (g.S.Source.lent s) ≡ true = sym {b = is_at_end (end_of c.args.self.now) (g.S.Source.lent (source_of c.args.self.now))} c.if-is_at_end.ensures in
    λ h. until_stays (end_of c.args.self.now) (g.S.Source.lent s) (g.S.Source.remaining (g.F.Files.contents c.args.files.now) s) (g.met.S.Source.list (g.F.Files.contents c.args.files.now) s h) at_end

below_some : (b : Bool) (e : Entry) → not (not b) ≡ is_some (cond b (Some e) None)
below_some true e = refl
below_some false e = refl

-- the source's new entry is the current one if it isn't at the end
comes_below : (end : Option (List ℕ)) (lent : Option Entry) (came past : Bool) → came ≡ is_some lent → came ≡ true → past ≡ is_at_end end lent → not past ≡ is_some (lent_until end lent)
comes_below end None came past more is at = cc
comes_below end (Some e) came past more is at = ap not at ∙ below_some (is_below end e.0) e

-- and there is none if the source has none
comes_none : (end : Option (List ℕ)) (lent : Option Entry) (came : Bool) → came ≡ is_some lent → came ≡ false → came ≡ is_some (lent_until end lent)
comes_none end None came more is = is
comes_none end (Some e) came more is = cc

pub returns-then-came-clause-takes : goal.returns-then-came-clause-takes
returns-then-came-clause-takes g c =
    let s = source_of c.args.self.now in
    let t = c.advance.new.self in
    let told = g.F.Files.contents c.args.files.now in
    λ h. until_takes (end_of c.args.self.now) (g.S.Source.lent t) (g.S.Source.remaining told s) (g.S.Source.remaining told t) (g.met.S.Source.list told t (c.in_ok-came.ensures.holds h)) (c.in_ok-came.ensures.takes h)

pub returns-then-came-clause-more : goal.returns-then-came-clause-more
returns-then-came-clause-more g c = comes_below _ (g.S.Source.lent c.advance.new.self) _ _ c.in_ok-came.ensures.more c.if-came.true c.is_at_end-then-came.ensures

pub returns-else-came-clause-takes : goal.returns-else-came-clause-takes
returns-else-came-clause-takes g c =
    let s = source_of c.args.self.now in
    let t = c.advance.new.self in
    let told = g.F.Files.contents c.args.files.now in
    λ h. until_takes (end_of c.args.self.now) (g.S.Source.lent t) (g.S.Source.remaining told s) (g.S.Source.remaining told t) (g.met.S.Source.list told t (c.in_ok-came.ensures.holds h)) (c.in_ok-came.ensures.takes h)

pub returns-else-came-clause-more : goal.returns-else-came-clause-more
returns-else-came-clause-more g c = comes_none _ (g.S.Source.lent c.advance.new.self) _ c.in_ok-came.ensures.more c.if-came.false

pub returns-then-is_at_end-clause-steps : goal.returns-then-is_at_end-clause-steps
returns-then-is_at_end-clause-steps g c =
    stays (sym {b = is_at_end (end_of c.args.self.now) (g.S.Source.lent (source_of c.args.self.now))} c.if-is_at_end.ensures) refl

pub returns-then-came-clause-steps : goal.returns-then-came-clause-steps
returns-then-came-clause-steps g c = goes_on refl c.in_ok-came.ensures.steps

pub returns-else-came-clause-steps : goal.returns-else-came-clause-steps
returns-else-came-clause-steps g c = goes_on refl c.in_ok-came.ensures.steps
