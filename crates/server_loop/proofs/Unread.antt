-- Bodies that aren't read, and what they may be answered.
use Rattle.std.proofs.Common.{◌≡◌, List, ℕ, refl, inl, inr, ◌⊎◌}
use Rattle.cell_key.specs.declared.refusals.Refusal.TheVariants.{NoMemory}
use Rattle.request_codec.specs.Operations.{IsOperation, NamesCells}
use Rattle.si_model.specs.Machine.{State, Refused}
use Rattle.si_model.specs.Transactions.{Answer, Operation, One, Commit, Read, Said, Goes, transacts, reads_together, gives_up, gives_up_reads}
use Rattle.server_loop.specs.Runs.{Answers, Body, IsUnread}

-- a body that names cells may be refused for want of memory
unlisted : (st : State) (body : List ℕ) → NamesCells body → Answers st (Body body) (Said (Refused NoMemory)) st
unlisted st body (One request, is, none) = absurd none
unlisted st body (Commit start writes, is, some) = inl (Commit start writes, is, transacts (gives_up tt))
unlisted st body (Read start cells stays_open, is, some) = inl (Read start cells stays_open, is, reads_together (gives_up_reads tt))

pub unread : (st : State) (body : List ℕ) (answer : Answer) → IsUnread body answer → Answers st (Body body) answer st
unread st body answer (inl (none, is)) = inr (none, is, refl)
unread st body answer (inr (names, is)) = rw is (unlisted st body names)
