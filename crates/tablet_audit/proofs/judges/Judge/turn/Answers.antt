use Rattle.std.proofs.Common.{◌≡◌, Bool, not, ◌&&◌, ◌||◌, Option, Ok, true, false, ap, ◌∙◌, rules}
use Rattle.std.specs.Prelude.{nat_eq}
use Rattle.request_codec.specs.Answers.{answer_of}
use Rattle.request_codec.specs.Operations.{operation_of}
use Rattle.ownership.specs.Effects.{goes_further}
use Rattle.ownership.specs.Names.{answer_name, is_name, is_open}
use Rattle.ownership.specs.Tables.{Table, owns}
use Rattle.ownership.specs.declared.names.Kind.{Kind}
use Rattle.ownership.specs.declared.names.Name.{Name}
use Rattle.tablet_audit.proofs.SharedFrames.{turned}
use Rattle.tablet_audit.proofs.judges.Judge.turn.Goals as goal

pub returns-clause-judged : goal.returns-clause-judged
returns-clause-judged c =
    let answer = answer_of c.args.answer.now in
    let closes = c.may_close-closes.ensures ∙ ap (λ (b : Bool). b && not (goes_further answer)) c.may_end.ensures in
    let yes : c.take_operation.result ≡ Ok true = search rules in
    turned c.args.self.now c.take_operation.new.self c.note.new.self c.args.client (operation_of c.args.operation.now) answer c.take_operation.result yes c.take_operation.ensures c.requires.own
    (λ st keeps other name.
    c.note.ensures other name
    ∙ ap (λ (p : Bool × (Bool × Bool)). (p.0 && not (nat_eq c.args.client other && p.1.0)) || (nat_eq c.args.client other && p.1.1))
    (λ i. (
      ap (λ (t : Table). owns t other name) c.reserve.ensures.same i,
      (
        (c.closed-closed.ensures st keeps name
            ∙ ap (λ (p : Bool × Option Name). p.0 && (is_name p.1 name && not (is_open st name))) (λ j. (closes j, c.named.ensures j))) i,
        ap (λ (k : Option Kind). is_name (answer_name k answer) name) c.given_kind-kind.ensures i,
      ),
    )))
