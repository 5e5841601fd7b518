-- Operations that aren't offered.
use Rattle.std.proofs.Common.{◌≡◌, ◌≢◌, ℕ, Bool, refl, subst, sym}
use Rattle.cell_key.specs.declared.refusals.Refusal.{Refusal}
use Rattle.cell_key.specs.declared.refusals.Refusal.TheVariants.{Damaged, Device}
use Rattle.request_codec.specs.Answers.{answer_of}
use Rattle.request_codec.specs.Operations.{operation_of}
use Rattle.request_codec.specs.declared.answers.Answer.TheVariants as given
use Rattle.request_codec.specs.declared.operations.Operation.{Operation}
use Rattle.request_codec.specs.declared.operations.Operation.TheVariants as lent
use Rattle.request_codec.specs.declared.replies.Reply.TheVariants as codec
use Rattle.request_codec.specs.declared.requests.Request.{Request}
use Rattle.rows.specs.declared.rows.Rows.{Ghosts as Rows}
use Rattle.rows.specs.declared.stamps.Stamps.{Ghosts as Stamps}
use Rattle.server_loop.specs.Runs.{GoesFrom}
use Rattle.si_model.specs.Machine.{State, Refused}
use Rattle.si_model.specs.Transactions.{Goes, Said, gives_up, gives_up_reads, reads_together, transacts}
use Rattle.row_server.specs.Answers.{IsAnswerTo, IsUnoffered}
use Rattle.row_server.specs.Server.{Shows, stays}
use Rattle.row_server.specs.declared.server.RowServer.{RowServer}
use Rattle.row_server.proofs.Attempts.{unoffered_device}

module _ {R S : Type 0} (rows : Rows R) (forgot : R → Type 0) (raced : R → Bool) (stamps : Stamps S) (allows : S → ℕ → Type 0) (server : RowServer R S) where
  pub says_nothing : (operation : Operation) → ((request : Request) → operation ≢ lent.One request) → (why : Refusal) → IsUnoffered (stamps.source.known server.stamps) why
      → IsAnswerTo rows forgot raced stamps allows server operation (given.Said (codec.Refused why)) server
  says_nothing (lent.One request) not why is = absurd (not request refl)
  says_nothing (lent.Commit start writes) not why is = record { why = why; is = is; refused = refl; same = refl }
  says_nothing (lent.Read start cells stays_open) not why is = record { why = why; is = is; refused = refl; same = refl }

  goes : (st : State) (operation : Operation) → ((request : Request) → operation ≢ lent.One request) → Goes st (operation_of operation) (Said (Refused Device)) st
  goes st (lent.One request) not = absurd (not request refl)
  goes st (lent.Commit start writes) not = transacts (gives_up tt)
  goes st (lent.Read start cells stays_open) not = reads_together (gives_up_reads tt)

  pub goes_nowhere : (operation : Operation) → ((request : Request) → operation ≢ lent.One request) → (why : Refusal) → IsUnoffered (stamps.source.known server.stamps) why
      → GoesFrom (Shows rows.seen stamps.source) server server (operation_of operation) (answer_of (given.Said (codec.Refused why)))
  goes_nowhere operation not why is before reached shown =
      let device = unoffered_device (stamps.source.known server.stamps) why (shown.known server.stamps stays) is in
      (before, subst (λ (n : Refusal). Goes before (operation_of operation) (Said (Refused n)) before) (sym device) (goes before operation not), shown, λ same. not_said why device same)
    where
      not_said : (why : Refusal) → why ≡ Device → Said (Refused why) ≡ Said (Refused Damaged) → ⊥
      not_said why device same = cc
