use Rattle.tablet.proofs.MadeTablets.{after_apply, holds_after_apply}
use Rattle.tablet.proofs.tablet.Tablet.apply.Goals as goal

pub returns-clause-ok : goal.returns-clause-ok
returns-clause-ok c = after_apply c.apply.result c.args.row.now c.args.self.now c.apply.new.self c.args.edits.items c.requires c.apply.ensures.ok c.apply.ensures.keys

pub returns-clause-still : goal.returns-clause-still
returns-clause-still c = holds_after_apply c.apply.result c.args.row.now c.args.self.now c.apply.new.self c.args.edits.items c.requires c.apply.ensures.ok c.apply.ensures.keys

pub returns-clause-memory : goal.returns-clause-memory
returns-clause-memory c = c.apply.ensures.ok

pub returns-clause-full : goal.returns-clause-full
returns-clause-full c = c.apply.ensures.full

pub returns-clause-within : goal.returns-clause-within
returns-clause-within c = c.apply.ensures.within

pub returns-clause-refusal : goal.returns-clause-refusal
returns-clause-refusal c = c.apply.ensures.refusal
