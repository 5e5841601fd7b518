use Rattle.std.proofs.Common.{◌≡◌, Ok, true, rules}
use Rattle.tablet_audit.proofs.SharedFrames.{stopped}
use Rattle.tablet_audit.proofs.judges.Judge.stop.Goals as goal

pub returns-clause-judged : goal.returns-clause-judged
returns-clause-judged c =
    let yes : c.take.result ≡ Ok true = search rules in
    stopped c.args.self.now c.take.new.self c.remove.new.self c.args.client c.args.start c.take.result yes c.take.ensures c.requires.own (λ other name. c.remove.ensures.held other name)
