use Rattle.std.proofs.Common.{◌<◌, length, rules}
use Rattle.ownership.specs.Frames.{IsOfClient}
use Rattle.request_codec.specs.Answers.{IsNoAnswer}
use Rattle.tablet_audit.proofs.SharedFrames.{no_answer_to, too_short}
use Rattle.tablet_audit.proofs.judge.decode_answer_to.Goals as goal

pub returns-in_default-clause-none : goal.returns-in_default-clause-none
returns-in_default-clause-none c =
    let few : length c.args.reply.now < 4 = search rules in
    too_short c.args.reply.now few

pub returns-in_default-2-clause-none : goal.returns-in_default-2-clause-none
returns-in_default-2-clause-none c =
    let of : IsOfClient c.in-Some.to c.in-Some.rest.now c.args.reply.now = search rules in
    let none : IsNoAnswer c.in-Some.rest.now = search rules in
    no_answer_to c.in-Some.to c.in-Some.rest.now c.args.reply.now of none
