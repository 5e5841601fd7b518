use Rattle.std.proofs.Common.{◌∙◌, arith}
use Rattle.std.specs.Vec.Iter.{into_iter_items}
use Rattle.version_collector.proofs.AheadCells.{is_some_place}
use Rattle.version_collector.proofs.ahead.Ahead.fill.Goals as goal

pub returns-then-len-gt0-clause-some : goal.returns-then-len-gt0-clause-some
returns-then-len-gt0-clause-some g c = λ empty. absurd (is_some_place (into_iter_items c.args.self.now.places) c.len.result (c.len.ensures ∙ c.args.self.now.places.rest.ok.0) (omega (arith, c.if-len-gt0.true)) empty)
