use Rattle.std.proofs.Common.{refl, ap, inl, inr}
use Rattle.cell_key.specs.declared.refusals.Refusal.{Refusal}
use Rattle.si_model.specs.Machine.{Refused}
use Rattle.si_model.specs.Transactions.{Said}
use Rattle.si_model.proofs.Reached.{stays_reached}
use Rattle.request_codec.specs.Operations.{operation_of}
use Rattle.server_loop.proofs.ReachedRuns.{laws_of}
use Rattle.server_loop.proofs.Unread.{unread}
use Rattle.server_loop.proofs.frame_loop.answer_to_body.Goals as goal

pub returns-in-Ok-Some-clause-run : goal.returns-in-Ok-Some-clause-run
returns-in-Ok-Some-clause-run g c = λ before reached shown.
    let (after, goes, shows, whole) = c.answer_to.ensures.goes before reached shown in
    let next = stays_reached before after _ _ reached goes in
    record { after = after; run = (after, inl (operation_of c.in-Ok-Some.operation, rw c.in-Ok-Some.field-0-is at c.in-Ok-Some.ensures.found, goes), refl); reached = next; laws = laws_of after next; shows = shows }

pub returns-in-Ok-Some-clause-says : goal.returns-in-Ok-Some-clause-says
returns-in-Ok-Some-clause-says g c = inl (c.in-Ok-Some.operation, c.answer_to.result, rw c.in-Ok-Some.field-0-is at c.in-Ok-Some.ensures.found, refl, c.answer_to.ensures.says)

pub returns-in-Ok-None-clause-run : goal.returns-in-Ok-None-clause-run
returns-in-Ok-None-clause-run g c = λ before reached shown.
    record { after = before; run = (before, unread before _ _ (inl (rw c.in-Ok-None.field-0-is at c.in-Ok-None.ensures.none, refl)), refl); reached = reached; laws = laws_of before reached; shows = shown }

pub returns-in-Ok-None-clause-says : goal.returns-in-Ok-None-clause-says
returns-in-Ok-None-clause-says g c = inr (inl (rw c.in-Ok-None.field-0-is at c.in-Ok-None.ensures.none, refl), refl)

pub returns-in-Err-clause-run : goal.returns-in-Err-clause-run
returns-in-Err-clause-run g c = λ before reached shown.
    record { after = before; run = (before, unread before _ _ (inr (c.in-Err.ensures.needed, ap (λ (n : Refusal). Said (Refused n)) c.in-Err.ensures.refusal)), refl); reached = reached; laws = laws_of before reached; shows = shown }

pub returns-in-Err-clause-says : goal.returns-in-Err-clause-says
returns-in-Err-clause-says g c = inr (inr (c.in-Err.ensures.needed, ap (λ (n : Refusal). Said (Refused n)) c.in-Err.ensures.refusal), refl)
