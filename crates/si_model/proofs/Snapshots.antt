-- A cell has one snapshot at a stamp.
use Rattle.std.proofs.Common.{◌≡◌, ℕ, List, [], ◌∷◌, Option, inl, inr, refl, sym, subst, ◌∙◌, arith}
use Rattle.si_model.specs.Sets.{◌∈◌}
use Rattle.si_model.specs.Machine.{State, Value, Change, Commit, Gives, IsSnapshot}
use Rattle.si_model.specs.declared.replies.Cell.{Cell}
use Rattle.si_model.proofs.Tools.{each_cons, one_change}
use Rattle.si_model.proofs.Invariant.{StartsDiffer, Sound}

pub same_commit : (cs : List Commit) → StartsDiffer cs → (a b : Commit) → a ∈ cs → b ∈ cs → a.start ≡ b.start → a ≡ b
same_commit [] d a b m n = λ e. elim m [ ]
same_commit (c ∷ cs) d a b m n = each_cons (λ a. a.start ≡ b.start → a ≡ b)
    (each_cons (λ b. c.start ≡ b.start → c ≡ b) (λ e. refl) (λ b k e. absurd (d.0 b k (sym e))) b n)
    (λ a k. each_cons (λ b. a.start ≡ b.start → a ≡ b) (λ e. absurd (d.0 a k e)) (λ b l. same_commit cs d.1 a b k l) b n) a m

-- two changes that are each the last one are equal
pub same_last : (st : State) → Sound st → (s : ℕ) (x : Cell) (v w : Change) (a b : Commit) → a ∈ st.commits → b ∈ st.commits → Gives a.writes x v → Gives b.writes x w → a.stamp ≡ b.stamp → v ≡ w
same_last st i s x v w a b m n ga gb stamps =
    let same : a ≡ b = same_commit st.commits i.starts_differ a b m n (i.stamps_differ a b m n stamps) in
    let ga' : Gives b.writes x v = subst (λ (c : Commit). Gives c.writes x v) same ga in
    one_change b.writes x v w (i.cells_differ b.start b.writes (i.fair b n).wrote) ga' gb

pub one_answer : (st : State) → Sound st → (s : ℕ) (x : Cell) (v w : Option Value) → IsSnapshot st.commits s x v → IsSnapshot st.commits s x w → v ≡ w
one_answer st i s x v w (inr (e, none)) (inr (e', none')) = e ∙ sym e'
one_answer st i s x v w (inr (e, none)) (inl (b, m, gives, low, most)) = let late = none b m (w, gives) in absurd (omega arith)
one_answer st i s x v w (inl (a, m, gives, low, most)) (inr (e', none)) = let late = none a m (v, gives) in absurd (omega arith)
one_answer st i s x v w (inl (a, m, ga, low, most)) (inl (b, n, gb, low', most')) =
    let up = most b n (w, gb) low' in
    let down = most' a m (v, ga) low in
    let stamps : a.stamp ≡ b.stamp = omega arith in
    same_last st i s x v w a b m n ga gb stamps
