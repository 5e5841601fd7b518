use Rattle.std.proofs.Common.{arith}
use Rattle.tablet.proofs.Newer.{none_of_none, none_of_one, nothing_left}
use Rattle.tablet.proofs.tablet.Tablet.newest_by_pass.Goals as goal
use Rattle.tablet.proofs.tablet.Tablet.newest_by_pass.Goals.{in_default-via-in-Some+then-lo-stamp+else-stamp-hi, in_default-via-in-Some+else-lo-stamp, in_default-via-in_default}

pub returns-clause-found : goal.returns-clause-found
returns-clause-found g c =
    let o = g.F.Files.contents c.args.files.now in
    let few = c.in_ok-found.ensures.few in
    let found = c.in_ok-found.ensures.found in
    elim c.in_default.branch [
      | in_default-via-in-Some+then-lo-stamp+else-stamp-hi w ↦ none_of_one o c.args.self.now c.args.row.now c.args.family.now c.args.qualifier c.args.lo c.args.hi c.in_ok-found.found.items found c.pop.new.self.items (w.in-Some.stamp, w.in-Some.value) w.in-Some.ensures.items few (λ a b. omega (arith, b, w.if-stamp-hi.false))
      | in_default-via-in-Some+else-lo-stamp w ↦ none_of_one o c.args.self.now c.args.row.now c.args.family.now c.args.qualifier c.args.lo c.args.hi c.in_ok-found.found.items found c.pop.new.self.items (w.in-Some.stamp, w.in-Some.value) w.in-Some.ensures.items few (λ a b. omega (arith, a, w.if-lo-stamp.false))
      | in_default-via-in_default w ↦ none_of_none o c.args.self.now c.args.row.now c.args.family.now c.args.qualifier c.args.lo c.args.hi c.in_ok-found.found.items found (nothing_left c.in_ok-found.found.items (omega (arith, w.in_default.ensures.cases.0, c.in_ok-found.found.ok.0)))
    ]
