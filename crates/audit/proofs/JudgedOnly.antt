-- The judgement of a Commit or a Read by its writes' refusal, and by one refusal alone.
use Rattle.std.proofs.Common.{◌≡◌, ◌≢◌, ◌⊎◌, inl, inr, Bool, true, false, List, ℕ, Option, Some, refl, sym, subst, ap}
use Rattle.std.specs.Prelude.{◌↔◌, IsTrue, Result, Ok, Err, IfOk, IfErr}
use Rattle.std.proofs.lemmas.Bool.{false≢true}
use Rattle.std.proofs.lemmas.Option.{same_Some}
use Rattle.cell_key.specs.declared.refusals.Refusal.{Refusal}
use Rattle.cell_key.specs.declared.refusals.Refusal.TheVariants.{UnknownSession, WrongPhase, BadRow, BadColumn, BadValue, TooManyWrites, TooManySessions, EmptyCommit, UnknownCleaner, UnknownCollector, UnknownTablet, BadSplit, UnknownServer, BadCount, MemtableFull, TooManyFiles, FileTooLarge, Exhausted, Device, NoMemory, Damaged, BadRequest, FrameTooLarge}
use Rattle.si_model.specs.Answers.{commit_answer}
use Rattle.si_model.specs.Machine.{State, Item, IsStorageRefusal, Refused, Request, Reply, Writes}
use Rattle.si_model.specs.Transactions.{Operation, Answer, Commit, Goes, One, Read, ReadDone, Said, gives_up, gives_up_reads, is_late, is_unknown, miscounts, names_late, names_unknown, reads_together, refuses, refuses_begin, refuses_read, steps, transacts}
use Rattle.si_model.specs.declared.replies.Cell.{Cell}
use Rattle.si_model.specs.declared.transactions.CommitReply.{CommitReply}
use Rattle.si_model.specs.declared.transactions.CommitReply.TheVariants as commit
use Rattle.si_model.proofs.Steps.{reached_step}
use Rattle.audit.specs.Audits.{JudgesOperation, JudgesStep, KeepsReached}
use Rattle.audit.specs.AuditOperations.{RefusesOnly}
use Rattle.audit.specs.declared.audit.Audit.{Audit}
use Rattle.audit.proofs.KeptMaps.{stays_itself}

pub is_memory : (e : Refusal) → (e ≡ NoMemory) ⊎ (e ≢ NoMemory)
is_memory UnknownSession = inr (λ e. cc)
is_memory WrongPhase = inr (λ e. cc)
is_memory BadRow = inr (λ e. cc)
is_memory BadColumn = inr (λ e. cc)
is_memory BadValue = inr (λ e. cc)
is_memory TooManyWrites = inr (λ e. cc)
is_memory TooManySessions = inr (λ e. cc)
is_memory EmptyCommit = inr (λ e. cc)
is_memory UnknownCleaner = inr (λ e. cc)
is_memory UnknownCollector = inr (λ e. cc)
is_memory UnknownTablet = inr (λ e. cc)
is_memory BadSplit = inr (λ e. cc)
is_memory UnknownServer = inr (λ e. cc)
is_memory BadCount = inr (λ e. cc)
is_memory MemtableFull = inr (λ e. cc)
is_memory TooManyFiles = inr (λ e. cc)
is_memory FileTooLarge = inr (λ e. cc)
is_memory Exhausted = inr (λ e. cc)
is_memory Device = inr (λ e. cc)
is_memory NoMemory = inl refl
is_memory Damaged = inr (λ e. cc)
is_memory BadRequest = inr (λ e. cc)
is_memory FrameTooLarge = inr (λ e. cc)

-- writes that can't be taken
pub judged_untaken : (audit : Audit) (operation : Operation) (answer : Answer) (e : Refusal) (result : Result Bool Refusal) → (e ≡ NoMemory → result ≡ Err NoMemory) → (e ≢ NoMemory → result ≡ Ok false)
    → (e ≢ NoMemory → (st next : State) → KeepsReached audit st → Goes st operation answer next → ⊥) → JudgesOperation audit audit operation answer result
judged_untaken audit operation answer e result memory others none = elim (is_memory e) [
  | inl is ↦ subst (JudgesOperation audit audit operation answer) (sym (memory is)) (refl, stays_itself audit)
  | inr ne ↦ subst (JudgesOperation audit audit operation answer) (sym (others ne)) (none ne, stays_itself audit)
]

-- a refusal of the storage
pub judged_storage : (audit : Audit) (operation : Operation) (n : Refusal) → ((st : State) → Goes st operation (Said (Refused n)) st) → JudgesOperation audit audit operation (Said (Refused n)) (Ok true)
judged_storage audit operation n goes = λ st k. (st, goes st, k)

-- any other refusal
pub judged_only : (audit : Audit) (operation : Operation) (n : Refusal) (found : Option Refusal) (b : Bool) → RefusesOnly audit operation found → ¬ IsStorageRefusal n → (b ≡ true → found ≡ Some n) → (found ≡ Some n → b ≡ true)
    → JudgesOperation audit audit operation (Said (Refused n)) (Ok b)
judged_only audit operation n found true only not to from = λ st k. (st, (only st st n k not).0 (to refl), k)
judged_only audit operation n found false only not to from = (λ st next k goes. absurd (false≢true (from ((only st next n k not).1 goes).0)), stays_itself audit)

-- what isn't refused for want of memory is refused alone
pub refused_alone : (audit : Audit) (operation : Operation) (e : Refusal) (result : Result (Option Refusal) Refusal) → (e ≡ NoMemory → result ≡ Err NoMemory) → (e ≢ NoMemory → result ≡ Ok (Some e))
    → (e ≢ NoMemory → RefusesOnly audit operation (Some e)) → IfOk result (RefusesOnly audit operation)
refused_alone audit operation e result memory others only = elim (is_memory e) [
  | inl is ↦ subst (λ (r : Result (Option Refusal) Refusal). IfOk r (RefusesOnly audit operation)) (sym (memory is)) tt
  | inr ne ↦ subst (λ (r : Result (Option Refusal) Refusal). IfOk r (RefusesOnly audit operation)) (sym (others ne)) (only ne)
]

pub alone_memory : (e : Refusal) (result : Result (Option Refusal) Refusal) → (e ≡ NoMemory → result ≡ Err NoMemory) → (e ≢ NoMemory → result ≡ Ok (Some e)) → IfErr result (λ n. n ≡ NoMemory)
alone_memory e result memory others = elim (is_memory e) [
  | inl is ↦ subst (λ (r : Result (Option Refusal) Refusal). IfErr r (λ n. n ≡ NoMemory)) (sym (memory is)) refl
  | inr ne ↦ subst (λ (r : Result (Option Refusal) Refusal). IfErr r (λ n. n ≡ NoMemory)) (sym (others ne)) tt
]

-- the refusal that was found is the one alone
pub found_only : (audit : Audit) (operation : Operation) (n first : Refusal) (found : Option Refusal) (b : Bool) → RefusesOnly audit operation found → found ≡ Some first → ¬ IsStorageRefusal n → (IsTrue b ↔ (first ≡ n)) → JudgesOperation audit audit operation (Said (Refused n)) (Ok b)
found_only audit operation n first found b only is not same =
    judged_only audit operation n (Some first) b (subst (RefusesOnly audit operation) is only) not (λ t. ap Some (same.0 t)) (λ e. same.1 (same_Some first n e))

-- ---- answers of another kind

pub judged_step : (old new : Audit) (q : Request) (r : Reply) (result : Result Bool Refusal) → JudgesStep old new q r result → JudgesOperation old new (One q) (Said r) result
judged_step old new q r (Ok true) goes_on = λ st k. let n = goes_on st k.1 in (n.0, steps n.1, (reached_step k.0 n.1, n.2))
judged_step old new q r (Ok false) none = (λ st next k goes. step_of st next k goes, none.1)
  where
    step_of : (st next : State) → KeepsReached old st → Goes st (One q) (Said r) next → ⊥
    step_of st next k (steps step) = none.0 st next k.1 step
judged_step old new q r (Err e) failed = failed

pub no_commit_reply : {st next : State} {start : ℕ} {ws : Writes} (r : Reply) → ((n : Refusal) → r ≢ Refused n) → Goes st (Commit start ws) (Said r) next → ⊥
no_commit_reply r not (transacts (is_unknown ne e)) = not UnknownSession refl
no_commit_reply r not (transacts (is_late ne h l)) = not WrongPhase refl
no_commit_reply r not (transacts (gives_up {n = n} g)) = not n refl
no_commit_reply r not (transacts (refuses {n = n} comes why)) = not n refl

pub no_commit_reads : {st next : State} {start s : ℕ} {ws : Writes} {said : List (Option Item)} → Goes st (Commit start ws) (ReadDone s said) next → ⊥
no_commit_reads (transacts t) = elim t [ ]

pub no_read_reply : {st next : State} {start : ℕ} {xs : List Cell} {b : Bool} (r : Reply) → ((n : Refusal) → r ≢ Refused n) → Goes st (Read start xs b) (Said r) next → ⊥
no_read_reply r not (reads_together (miscounts bad)) = not BadCount refl
no_read_reply r not (reads_together (gives_up_reads {n = n} g)) = not n refl
no_read_reply r not (reads_together (refuses_begin {n = n} count e why)) = not n refl
no_read_reply r not (reads_together (refuses_read {n = n} after count is o all why)) = not n refl
no_read_reply r not (reads_together (names_unknown count ne e)) = not UnknownSession refl
no_read_reply r not (reads_together (names_late count ne h l)) = not WrongPhase refl

pub no_read_commits : {st next : State} {start : ℕ} {xs : List Cell} {b : Bool} (r : CommitReply) → Goes st (Read start xs b) (commit_answer r) next → ⊥
no_read_commits (commit.Committed s c) (reads_together t) = elim t [ ]
no_read_commits (commit.Conflict start place) (reads_together t) = elim t [ ]
