-- The names are the tablet's, and its files are opened by them.
use Rattle.std.proofs.Common.{List, ℕ, ap, ◌++◌, ◌∙◌, ◌≡◌}
use Rattle.std.proofs.lemmas.Result.{IfOk-weaker}
use Rattle.tablet.specs.Views.{names_of}
use Rattle.row_atomic.proofs.CommandSteps.{when_ok}
use Rattle.row_atomic.proofs.MovedTablets.{not_there}
use Rattle.row_atomic.proofs.cluster.split.open_again.Goals as goal

pub returns-clause-damaged : goal.returns-clause-damaged
returns-clause-damaged g c = λ err.
    let names : c.deref.result.now ≡ names_of c.args.tablet.now = c.deref.ensures.value ∙ when_ok c.push_names.result _ c.push_names.ensures.ok c.unwrap.ensures ∙ ap (λ (names : List ℕ). names ++ names_of c.args.tablet.now) c.requires.room.names.empty in
    not_there c.files_are_there.ensures (g.F.Files.contents c.args.files.now) c.deref.result.now c.args.tablet.now names (c.load.ensures.damaged err)

pub returns-clause-range : goal.returns-clause-range
returns-clause-range g c = IfOk-weaker c.load.result _ _ (λ t is. is ∙ c.requires.room.range) c.load.ensures.range

pub returns-clause-names : goal.returns-clause-names
returns-clause-names g c =
    let names : c.deref.result.now ≡ names_of c.args.tablet.now = c.deref.ensures.value ∙ when_ok c.push_names.result _ c.push_names.ensures.ok c.unwrap.ensures ∙ ap (λ (names : List ℕ). names ++ names_of c.args.tablet.now) c.requires.room.names.empty in
    IfOk-weaker c.load.result _ _ (λ t is. is ∙ names) c.load.ensures.names

pub returns-clause-memory : goal.returns-clause-memory
returns-clause-memory g c = c.load.ensures.memory

pub returns-clause-holds : goal.returns-clause-holds
returns-clause-holds g c = c.load.ensures.holds

pub returns-clause-reads : goal.returns-clause-reads
returns-clause-reads g c = record {
  refusal = c.load.ensures.reads.refusal;
  same = c.load.ensures.reads.same;
  reason = c.load.ensures.reads.reason;
}
