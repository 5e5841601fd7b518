-- Answers to one more command.
use Rattle.std.proofs.Common.{◌≡◌, ℕ, Option, Result, Ok, Err, OnOk, IfErr, List, [], ◌∷◌, ◌++◌, refl, sym, ap, ◌∙◌, subst, append-nil, length, arith}
use Rattle.file_store.specs.Store.{Contents}
use Rattle.cell_key.specs.declared.refusals.Refusal.{Refusal}
use Rattle.row_atomic.specs.Clusters.{ClusterState}
use Rattle.row_atomic.specs.declared.commands.Command.{Command}
use Rattle.row_atomic.specs.declared.commands.Outcome.{Outcome}
use Rattle.row_atomic.specs.Commands.{AnswersAll, IsOutcome}

one_more : {A : Type 0} (xs : List A) (x : A) (ys : List A) → xs ++ x ∷ ys ≡ (xs ++ x ∷ []) ++ ys
one_more [] x ys = refl
one_more (z ∷ xs) x ys = ap (λ (zs : List _). z ∷ zs) (one_more xs x ys)

-- answers to the remaining commands complete the answers to all
abbrev pub Completes : {F : Type 0} → (F → Option Contents) → (F → ℕ) → ClusterState F → List Command → List Outcome → ClusterState F → List Command → Type 0
Completes {F} contents faults start commands done now left = (outcomes : List Outcome) (state : ClusterState F) → AnswersAll contents faults now left outcomes state → AnswersAll contents faults start commands (done ++ outcomes) state

pub none_yet : {F : Type 0} (contents : F → Option Contents) (faults : F → ℕ) (start : ClusterState F) (commands left : List Command) (done : List Outcome) → done ≡ [] → left ≡ commands → Completes contents faults start commands done start left
none_yet contents faults start commands left done none all outcomes state rest =
    subst (λ (os : List Outcome). AnswersAll contents faults start commands os state) (sym (ap (λ (os : List Outcome). os ++ outcomes) none))
    (subst (λ (cs : List Command). AnswersAll contents faults start cs outcomes state) all rest)

pub answered : {F : Type 0} (contents : F → Option Contents) (faults : F → ℕ) (start now after : ClusterState F) (commands left rest : List Command) (command : Command) (done more : List Outcome) (outcome : Outcome) → left ≡ command ∷ rest → more ≡ done ++ outcome ∷ []
    → IsOutcome contents faults command outcome now after → Completes contents faults start commands done now left → Completes contents faults start commands more after rest
answered contents faults start now after commands left rest command done more outcome first pushed is before outcomes state later =
    subst (λ (os : List Outcome). AnswersAll contents faults start commands os state) (one_more done outcome outcomes ∙ ap (λ (os : List Outcome). os ++ outcomes) (sym pushed))
    (before (outcome ∷ outcomes) state (subst (λ (cs : List Command). AnswersAll contents faults now cs (outcome ∷ outcomes) state) (sym first) (after, is, later)))

pub all_answered : {F : Type 0} (contents : F → Option Contents) (faults : F → ℕ) (start now : ClusterState F) (commands left : List Command) (done : List Outcome) → left ≡ [] → Completes contents faults start commands done now left → AnswersAll contents faults start commands done now
all_answered contents faults start now commands left done none before =
    subst (λ (os : List Outcome). AnswersAll contents faults start commands os now) (append-nil done)
    (before [] now (subst (λ (cs : List Command). AnswersAll contents faults now cs [] now) (sym none) refl))

pub none_left : {A : Type 0} (xs : List A) → length xs ≡ 0 → xs ≡ []
none_left [] e = refl
none_left (x ∷ xs) e = absurd (omega (arith, e))

-- a refusal that the call does not answer
pub not_answered : {A : Type 0} (P : Refusal → Type 0) (r : Result A Refusal) (e f : Refusal) → IfErr r P → r ≡ Err e → e ≡ f → P f
not_answered P (Ok x) e f answers is same = cc
not_answered P (Err d) e f answers is same = subst P (let i = is in cc) answers

-- a fact about an accepted call
pub when_ok : {A : Type 0} {P : Type 0} (r : Result A Refusal) (x : A) → OnOk r P → r ≡ Ok x → P
when_ok (Ok y) x p is = p
when_ok (Err e) x p is = cc
