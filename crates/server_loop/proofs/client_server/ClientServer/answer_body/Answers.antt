use Rattle.std.proofs.Common.{ℕ, List, inl, refl, rules, subst}
use Rattle.std.proofs.lemmas.List.{nil_from_length}
use Rattle.cell_key.specs.declared.refusals.Refusal.TheVariants.{BadRequest, NoMemory}
use Rattle.si_model.specs.Machine.{Refused, StopDone}
use Rattle.si_model.specs.Transactions.{Said}
use Rattle.ownership.specs.Frames.{IsBodyOf, IsOfClient}
use Rattle.ownership.specs.Turns.{Asks, Leaves, Malformed, NoClient}
use Rattle.server_loop.specs.Clients.{has_no_client, is_malformed, lacks_memory, leaves}
use Rattle.server_loop.proofs.client_server.ClientServer.answer_body.Goals as goal

pub returns-in_default-clause-replies : goal.returns-in_default-clause-replies
returns-in_default-clause-replies g c = (
  NoClient,
  c.in_default.ensures.none,
  record {
    to = 0;
    answer = Said (Refused BadRequest);
    handled = has_no_client (record { server = refl; table = refl });
    admin = refl;
    appended = c.push_refusal.ensures.items;
  },
)

pub returns-then-is_empty-clause-replies : goal.returns-then-is_empty-clause-replies
returns-then-is_empty-clause-replies g c =
    let none = nil_from_length c.in-Some.rest.now (search rules) in (
      Leaves c.in-Some.client,
      subst (λ (rest : List ℕ). IsOfClient c.in-Some.client rest c.args.body.now) none c.in-Some.ensures.some,
      record {
        to = c.in-Some.client;
        answer = Said StopDone;
        handled = leaves c.leave.ensures.ends;
        admin = c.leave.ensures.admin;
        appended = c.push_client_frame.ensures.items;
      },
    )

pub returns-in-Ok-None-clause-replies : goal.returns-in-Ok-None-clause-replies
returns-in-Ok-None-clause-replies g c =
    let is_body : IsBodyOf (Malformed c.in-Some.client) c.args.body.now = search rules in (
      Malformed c.in-Some.client,
      is_body,
      record {
        to = c.in-Some.client;
        answer = Said (Refused BadRequest);
        handled = is_malformed (record { server = refl; table = refl });
        admin = refl;
        appended = c.push_refusal-in-Ok-None.ensures.items;
      },
    )

pub returns-in-Err-clause-replies : goal.returns-in-Err-clause-replies
returns-in-Err-clause-replies g c =
    let (operation, is_operation, cells) = c.in-Err.ensures.needed in (
      Asks c.in-Some.client operation,
      (c.in-Some.rest.now, c.in-Some.ensures.some, is_operation),
      record {
        to = c.in-Some.client;
        answer = Said (Refused NoMemory);
        handled = lacks_memory (inl cells) (record { server = refl; table = refl });
        admin = refl;
        appended = c.push_refusal-in-Err.ensures.items;
      },
    )
