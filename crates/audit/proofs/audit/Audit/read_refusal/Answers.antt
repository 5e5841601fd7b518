use Rattle.std.proofs.Common.{◌∙◌, ap, subst, sym}
use Rattle.std.specs.Prelude.{not}
use Rattle.std.proofs.lemmas.List.{length-map}
use Rattle.si_model.specs.Answers.{cell_named, cells_named}
use Rattle.si_model.specs.Transactions.{IsReadCount}
use Rattle.audit.proofs.JudgedReads.{refused_count, refused_name, unopened}
use Rattle.audit.proofs.KeptMaps.{if_none}
use Rattle.audit.proofs.OpenedSessions.{some_session}
use Rattle.audit.proofs.audit.Audit.read_refusal.Goals as goal

pub returns-then-not-is_read_count : goal.returns-then-not-is_read_count
returns-then-not-is_read_count c = λ stays_open.
    refused_count c.args.self.now c.args.start (cells_named c.args.cells.now) stays_open (λ count. cc (c.is_read_count.ensures.1 (subst IsReadCount (length-map c.args.cells.now cell_named) count), c.if-not-is_read_count.true))

pub returns-then-is_none : goal.returns-then-is_none
returns-then-is_none c = λ stays_open.
    let count = subst IsReadCount (sym (length-map c.args.cells.now cell_named)) (c.is_read_count.ensures.0 (cc)) in
    unopened c.args.self.now c.args.start (cells_named c.args.cells.now) stays_open count (if_none c.session.result c.session.ensures.none (c.is_none.ensures ∙ ap not c.if-is_none.true)) c.session_refusal.result c.session_refusal.ensures.named c.session_refusal.ensures.new

pub returns : goal.returns
returns c = λ stays_open.
    let count = subst IsReadCount (sym (length-map c.args.cells.now cell_named)) (c.is_read_count.ensures.0 (cc)) in
    let s = some_session c.args.self.now c.args.start c.session.result (c.is_none.ensures ∙ ap not c.if-is_none.false) c.session.ensures.some in
    refused_name c.args.self.now c.args.start (cells_named c.args.cells.now) stays_open count s.0 s.1 c.first_name_refusal.result c.first_name_refusal.ensures
