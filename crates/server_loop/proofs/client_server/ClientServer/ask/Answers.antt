use Rattle.std.proofs.Common.{◌≡◌, Bool, true, not, ◌&&◌, ◌||◌, Option, inr, refl, sym, ap, ◌∙◌, rules}
use Rattle.std.specs.Prelude.{is_err, is_some, nat_eq}
use Rattle.request_codec.specs.Answers.{answer_of}
use Rattle.request_codec.specs.Operations.{operation_of}
use Rattle.si_model.specs.Machine.{Refused}
use Rattle.si_model.specs.Transactions.{Said}
use Rattle.cell_key.specs.declared.refusals.Refusal.TheVariants.{NoMemory}
use Rattle.ownership.specs.Effects.{goes_further}
use Rattle.ownership.specs.Names.{answer_name, is_name, is_open}
use Rattle.ownership.specs.declared.names.Kind.{Kind}
use Rattle.ownership.specs.Tables.{Table, owns, refusal_for}
use Rattle.ownership.specs.declared.names.Name.{Name}
use Rattle.server_loop.specs.Clients.{asks, lacks_memory, refuses}
use Rattle.server_loop.proofs.ClientFrames.{on_err}
use Rattle.server_loop.proofs.client_server.ClientServer.ask.Goals as goal

pub returns-in-Some-clause-replies : goal.returns-in-Some-clause-replies
returns-in-Some-clause-replies g c = record {
  to = c.args.client;
  answer = Said (Refused c.in-Some.refusal);
  handled = refuses (sym c.refusal_for.ensures ∙ c.in-Some.is) (record { server = refl; table = refl });
  admin = refl;
  appended = c.push_refusal.ensures.items;
}

pub returns-then-is_err-clause-replies : goal.returns-then-is_err-clause-replies
returns-then-is_err-clause-replies g c =
    let refused : is_err c.reserve.result ≡ true = search rules in
    let needed = on_err c.reserve.result refused c.reserve.ensures.needed in
    record {
      to = c.args.client;
      answer = Said (Refused NoMemory);
      handled = lacks_memory (inr (ap is_some (sym c.given_kind-kind.ensures) ∙ needed)) (record { server = refl; table = c.reserve.ensures.same });
      admin = refl;
      appended = c.push_refusal-then-is_err.ensures.items;
    }

pub returns-clause-replies : goal.returns-clause-replies
returns-clause-replies g c =
    let operation = operation_of c.args.operation in
    let answer = answer_of c.answer_to-answer.result in
    let said = c.answer_to-answer.ensures.goes in
    let closes = c.may_close-closes.ensures ∙ ap (λ (b : Bool). b && not (goes_further answer)) c.may_end-ends.ensures in
    record {
      to = c.args.client;
      answer = answer;
      handled =
          asks (sym c.refusal_for.ensures ∙ c.in_default.is)
          (record {
            lent = c.args.operation;
            given = c.answer_to-answer.result;
            is_operation = refl;
            is_answer = refl;
            said = c.answer_to-answer.ensures.says;
            goes = λ before reached shown. let made = said before reached shown in (made.0, made.1, made.2);
          })
          (record {
            closed = c.closed-closed.result;
            noted = λ other name.
                c.note.ensures other name
                ∙ ap (λ (p : Bool × Bool). (p.0 && not (nat_eq c.args.client other && is_name c.closed-closed.result name)) || (nat_eq c.args.client other && p.1))
                (λ i. (
                  ap (λ (t : Table). owns t other name) c.reserve.ensures.same i,
                  ap (λ (k : Option Kind). is_name (answer_name k answer) name) c.given_kind-kind.ensures i,
                ));
            named = λ name it.
                sym (ap (λ (p : Bool × Option Name). p.0 && is_name p.1 name) (λ j. (closes j, c.named-name.ensures j)))
                ∙ c.closed-closed.ensures.named name it;
            ended = λ st shown name.
                c.closed-closed.ensures.ended st shown name
                ∙ ap (λ (p : Bool × Option Name). p.0 && (is_name p.1 name && not (is_open st name))) (λ j. (closes j, c.named-name.ensures j));
          });
      admin = refl;
      appended = c.push_client_frame.ensures.items;
    }
