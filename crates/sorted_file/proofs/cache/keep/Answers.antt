use Rattle.sorted_file.proofs.Keeping.{after_put, among_put}
use Rattle.sorted_file.proofs.cache.keep.Goals as goal

pub returns-clause-still : goal.returns-clause-still
returns-clause-still c = λ rows h p. after_put rows c.put-told.result c.put-told.new.self c.args.cache.now c.args.number c.args.block c.put-told.ensures.entries c.put-told.ensures.err h p

pub returns-clause-kept : goal.returns-clause-kept
returns-clause-kept c = among_put c.put-told.result c.put-told.new.self c.args.cache.now c.args.number c.args.block c.put-told.ensures.entries c.put-told.ensures.err
