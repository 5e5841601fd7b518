use Rattle.std.proofs.Common.{rules, subst}
use Rattle.std.specs.Io.KnownBytes.{Appends}
use Rattle.std.proofs.KnownBytes.{Appends-trans}
use Rattle.server_loop.proofs.Filled.{take-rest-more}
use Rattle.server_loop.proofs.frames.write_whole.Goals as goal

pub loop-at-preserved : goal.loop-at-preserved
loop-at-preserved g c = record {
  within = search rules;
  bytes = subst (Appends _ _) (take-rest-more c.loop-at.at c.in-Ok.count c.args.bytes.now) (Appends-trans _ _ _ _ _ c.loop-at.invariant.bytes c.in-Ok.ensures.bytes);
}
