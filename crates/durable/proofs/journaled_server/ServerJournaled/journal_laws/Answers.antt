use Rattle.std.proofs.Common.{refl}
use Rattle.server_loop.specs.Server.{journal_of}
use Rattle.durable.proofs.Stored.{answer_leaves, answer_moves, follows_in, next_low, one_stored, tended_leaves}
use Rattle.durable.proofs.journaled_server.ServerJournaled.journal_laws.Goals as goal

pub returns-clause-follows : goal.returns-clause-follows
returns-clause-follows g c = λ server root st is rooted shown. follows_in g.F.Files.contents c.one_root.ensures c.shows_reopened.ensures server root st (journal_of server) refl is shown.in_order.1 rooted shown

pub returns-clause-one : goal.returns-clause-one
returns-clause-one g c = λ server root other base places stored rooted. one_stored g.F.Files.contents c.one_root.ensures server root other base places stored rooted

pub returns-clause-leaves : goal.returns-clause-leaves
returns-clause-leaves g c = answer_leaves g.F.Files g.M.MarkStore c.root_is_stored.ensures c.root_stays.ensures

pub returns-clause-moves : goal.returns-clause-moves
returns-clause-moves g c = answer_moves g.F.Files g.M.MarkStore c.root_is_stored.ensures c.root_stays.ensures

pub returns-clause-tends : goal.returns-clause-tends
returns-clause-tends g c = tended_leaves g.F.Files.contents g.F.Files.faults c.root_outlasts_flushes.ensures c.root_outlasts_merges.ensures

pub returns-clause-low : goal.returns-clause-low
returns-clause-low g c = next_low g.F.Files.contents
