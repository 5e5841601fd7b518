use Rattle.std.proofs.Common.{◌≡◌, ◌∙◌, length, true, ap, rules}
use Rattle.std.specs.Prelude.{◌↔◌, not}
use Rattle.si_model.specs.Answers.{writes_named}
use Rattle.audit.proofs.JudgedCommits.{refused_empty, refused_never, refused_write, unopened}
use Rattle.audit.proofs.JudgedOnly.{refused_alone}
use Rattle.si_model.specs.Transactions.{Commit}
use Rattle.audit.proofs.KeptMaps.{if_none}
use Rattle.audit.proofs.OpenedSessions.{some_session}
use Rattle.audit.proofs.SearchesBack.{no_items}
use Rattle.audit.proofs.audit.Audit.commit_refusal.Goals as goal

pub returns-then-is_none-clause-only : goal.returns-then-is_none-clause-only
returns-then-is_none-clause-only c =
    unopened c.args.self.now c.args.start (writes_named c.args.asked.now) (if_none c.session.result c.session.ensures.none (c.is_none.ensures ∙ ap not c.if-is_none.true)) c.session_refusal.result c.session_refusal.ensures.named c.session_refusal.ensures.new

pub returns-then-is_empty-clause-only : goal.returns-then-is_empty-clause-only
returns-then-is_empty-clause-only c =
    let s = some_session c.args.self.now c.args.start c.session.result (c.is_none.ensures ∙ ap not c.if-is_none.false) c.session.ensures.some in
    let empty : (c.is_empty.result ≡ true) ↔ (length c.in-Ok.all.items ≡ 0) = (let e = c.is_empty.ensures in search rules) in
    refused_empty c.args.self.now c.args.start (writes_named c.args.asked.now) s.0 s.1 c.in-Ok.all c.in-Ok.ensures.takes (no_items c.in-Ok.all.items (empty.0 c.if-is_empty.true))

pub returns-else-is_empty-clause-only : goal.returns-else-is_empty-clause-only
returns-else-is_empty-clause-only c =
    let s = some_session c.args.self.now c.args.start c.session.result (c.is_none.ensures ∙ ap not c.if-is_none.false) c.session.ensures.some in
    let empty : (c.is_empty.result ≡ true) ↔ (length c.in-Ok.all.items ≡ 0) = (let e = c.is_empty.ensures in search rules) in
    refused_never c.args.self.now c.args.start (writes_named c.args.asked.now) s.0 s.1 c.in-Ok.all c.in-Ok.ensures.takes (λ e. cc (empty.1 (ap length e), c.if-is_empty.false))

pub returns-in-Err-clause-only : goal.returns-in-Err-clause-only
returns-in-Err-clause-only c =
    let s = some_session c.args.self.now c.args.start c.session.result (c.is_none.ensures ∙ ap not c.if-is_none.false) c.session.ensures.some in
    refused_alone c.args.self.now (Commit c.args.start (writes_named c.args.asked.now)) c.in-Err.refusal c.alone.result c.alone.ensures.memory c.alone.ensures.others
    (λ ne. refused_write c.args.self.now c.args.start (writes_named c.args.asked.now) s.0 s.1 c.in-Err.refusal ne c.in-Err.ensures.refusal)
