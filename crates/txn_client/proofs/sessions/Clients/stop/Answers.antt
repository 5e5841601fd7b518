use Rattle.std.proofs.Common.{ℕ, ◌-◌, ◌∙◌, None, ap, refl, sym}
use Rattle.std.specs.Ordering.{nat_cmp}
use Rattle.std.specs.BTreeMap as btree
use Rattle.txn_client.proofs.Buffered.{none_gone, none_there}
use Rattle.txn_client.proofs.Exact.{is_kept}
use Rattle.txn_client.proofs.Table.{entries_each, stops_at, stop_unknown_at, upd_at}
use Rattle.txn_client.proofs.sessions.Clients.stop.Goals as goal

pub returns-in_default-clause-step : goal.returns-in_default-clause-step
returns-in_default-clause-step c = λ cells last.
    stop_unknown_at cells c.args.self.now (record c.args.self.now { sessions = c.remove.new.self }) last c.args.start refl (sym c.in_default.ensures.value) c.in_default.ensures.unchanged

pub returns-clause-step : goal.returns-clause-step
returns-clause-step c = λ cells last.
    stops_at cells c.args.self.now (record c.args.self.now { sessions = c.remove.new.self; buffered = c.saturating_sub-self.result }) last c.args.start c.in-Some.session refl (sym c.in-Some.ensures.value) c.in-Some.ensures.updates.0 c.in-Some.ensures.len

pub returns-clause-unknown : goal.returns-clause-unknown
returns-clause-unknown c = λ st shown gone. absurd (is_kept c.args.self.now c.args.start st shown gone c.in-Some.session (sym c.in-Some.ensures.value))

pub returns-in_default-clause-err : goal.returns-in_default-clause-err
returns-in_default-clause-err c = record { top = refl; buffered = refl; limit = refl; each = entries_each c.args.self.now (record c.args.self.now { sessions = c.remove.new.self }) c.in_default.ensures.unchanged }

pub returns-in_default-clause-buffered : goal.returns-in_default-clause-buffered
returns-in_default-clause-buffered c =
    let new = record c.args.self.now { sessions = c.remove.new.self } in
    let gone = sym c.in_default.ensures.value in
    none_there c.args.self.now new c.args.start gone (entries_each c.args.self.now new c.in_default.ensures.unchanged c.args.start ∙ gone) refl refl

pub returns-clause-buffered : goal.returns-clause-buffered
returns-clause-buffered c =
    none_gone c.args.self.now (record c.args.self.now { sessions = c.remove.new.self; buffered = c.saturating_sub-self.result }) c.args.start c.in-Some.session (sym c.in-Some.ensures.value)
    (upd_at (btree.get nat_cmp c.args.self.now.sessions) (btree.get nat_cmp c.remove.new.self) c.args.start None c.in-Some.ensures.updates.0)
    (c.saturating_sub-self.ensures ∙ ap (λ (n : ℕ). c.args.self.now.buffered - n) c.bytes.ensures) refl
