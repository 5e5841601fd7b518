-- Properties of a state, found by going through its lists.
use Rattle.std.proofs.Common.{◌≡◌, ◌≢◌, ℕ, zero, suc, ◌<◌, ◌≤◌, List, [], ◌∷◌, length, Option, Some, None, ◌⊎◌, inl, inr, refl, sym, ap, subst, arith}
use Rattle.std.specs.Prelude.{slice_get}
use Rattle.std.proofs.lemmas.Bool.{cases_eq, cases_lt}
use Rattle.si_model.specs.Sets.{◌∈◌, here, there}
use Rattle.si_model.specs.declared.replies.Cell.{Cell}
use Rattle.si_model.specs.Machine.{State, Value, Change, Writes, Commit, Puts, Names, IsCommitted, IsSnapshot, Clashes, Sets, appends, replaces, passes}
use Rattle.si_model.proofs.Tools.{each_cons, still_unnamed}
use Rattle.si_model.proofs.Without.{cases_mark}

cases_cell : (x y : Cell) → (x ≡ y) ⊎ (x ≢ y)
cases_cell x y = elim (cases_mark (x, 0) (y, 0)) [ inl e ↦ inl (ap (λ m. m.0) e) | inr ne ↦ inr (λ e. ne (λ i. (e i, 0))) ]

-- a mark of the cell
pub mark_of : (ms : List (Cell × ℕ)) (x : Cell) → ((t : ℕ) × (◌∈◌ {A = Cell × ℕ} (x, t) ms)) ⊎ ((t : ℕ) → ¬ (◌∈◌ {A = Cell × ℕ} (x, t) ms))
mark_of [] x = inr (λ t h. elim h [ ])
mark_of (m ∷ ms) x = elim (cases_cell m.0 x) [
  | inl e ↦ inl (m.1, subst (λ (y : Cell). ◌∈◌ {A = Cell × ℕ} (y, m.1) (m ∷ ms)) e here)
  | inr ne ↦ elim (mark_of ms x) [
    | inl (t, h) ↦ inl (t, there h)
    | inr none ↦ inr (λ t h. each_cons (λ (n : Cell × ℕ). n.0 ≡ x → ⊥) ne (λ n k e. none n.1 (subst (λ (y : Cell). ◌∈◌ {A = Cell × ℕ} (y, n.1) ms) e k)) (x, t) h refl)
  ]
]

-- a write of the cell
pub names_of : (ws : Writes) (x : Cell) → Names ws x ⊎ (¬ Names ws x)
names_of [] x = inr (λ n. elim (put_none x n.0 n.1.0 n.1.1) [ ])
  where
    put_none : (x : Cell) (v : Change) (k : ℕ) → Puts [] k x v → ⊥
    put_none x v k e = cc
names_of (w ∷ ws) x = elim (cases_cell w.0 x) [
  | inl e ↦ inl (w.1, (0, ap (λ y. Some (y, w.1)) e))
  | inr ne ↦ elim (names_of ws x) [
    | inl (v, (k, puts)) ↦ inl (v, (suc k, puts))
    | inr none ↦ inr (λ n. still_unnamed w.0 x w.1 ws ne none n.0 n.1.0 n.1.1)
  ]
]

-- a commit of the cell above the stamp
abbrev Later : List Commit → Cell → ℕ → Type 0
Later cs x t = (a : Commit) × (a ∈ cs) × Names a.writes x × (t < a.stamp)

later_than : (c : Commit) (cs : List Commit) (x : Cell) (t : ℕ) → (Names c.writes x → t < c.stamp → ⊥) → Later cs x t ⊎ (¬ Later cs x t) → Later (c ∷ cs) x t ⊎ (¬ Later (c ∷ cs) x t)
later_than c cs x t old (inl (a, m, n, late)) = inl (a, there m, n, late)
later_than c cs x t old (inr none) = inr (λ l. each_cons (λ a. Names a.writes x → t < a.stamp → ⊥) old (λ a m n late. none (a, m, n, late)) l.0 l.1 l.2 l.3)

later_of : (cs : List Commit) (x : Cell) (t : ℕ) → Later cs x t ⊎ (¬ Later cs x t)
later_of [] x t = inr (λ l. elim l.1 [ ])
later_of (c ∷ cs) x t = elim (names_of c.writes x) [
  | inr none ↦ later_than c cs x t (λ n late. none n) (later_of cs x t)
  | inl n ↦ elim (cases_lt t c.stamp) [
    | inl late ↦ inl (c, here, n, late)
    | inr old ↦ later_than c cs x t (λ n late. absurd (omega arith)) (later_of cs x t)
  ]
]

pub clash_of : (st : State) (x : Cell) (t : ℕ) → Clashes st x t ⊎ (¬ Clashes st x t)
clash_of st x t = elim (mark_of st.marks x) [
  | inl m ↦ inl (inl m)
  | inr none ↦ elim (later_of st.commits x t) [
    | inl l ↦ inl (inr l)
    | inr absent ↦ inr (λ c. elim c [ inl m ↦ none m.0 m.1 | inr l ↦ absent l ])
  ]
]

-- the snapshot
abbrev Shown : List Commit → ℕ → Cell → Type 0
Shown cs s x = (answer : Option Value) × IsSnapshot cs s x answer

skips : (c : Commit) (cs : List Commit) (s : ℕ) (x : Cell) → (Names c.writes x → c.stamp ≤ s → ⊥) → Shown cs s x → Shown (c ∷ cs) s x
skips c cs s x unseen (answer, (inl (a, m, gives, low, most))) =
    (answer, inl (a, there m, gives, low, each_cons (λ b. Names b.writes x → b.stamp ≤ s → b.stamp ≤ a.stamp) (λ n l. absurd (unseen n l)) most))
skips c cs s x unseen (answer, (inr (e, none))) =
    (answer, inr (e, each_cons (λ b. Names b.writes x → s < b.stamp) (λ n. elim (cases_lt s c.stamp) [ inl late ↦ late | inr low ↦ absurd (unseen n low) ]) none))

takes : (c : Commit) (cs : List Commit) (s : ℕ) (x : Cell) → Names c.writes x → c.stamp ≤ s → Shown cs s x → Shown (c ∷ cs) s x
takes c cs s x (v, gives) low (answer, (inr (e, none))) =
    (v, inl (c, here, gives, low, each_cons (λ b. Names b.writes x → b.stamp ≤ s → b.stamp ≤ c.stamp) (λ n l. omega arith) (λ b m n l. let late = none b m n in absurd (omega arith))))
takes c cs s x (v, gives) low (answer, (inl (a, m, g, la, most))) = elim (cases_lt a.stamp c.stamp) [
  | inl newer ↦ (
    v,
    inl (c, here, gives, low, each_cons (λ b. Names b.writes x → b.stamp ≤ s → b.stamp ≤ c.stamp) (λ n l. omega arith) (λ b m n l. let k = most b m n l in omega arith)),
  )
  | inr older ↦ (answer, inl (a, there m, g, la, each_cons (λ b. Names b.writes x → b.stamp ≤ s → b.stamp ≤ a.stamp) (λ n l. older) most))
]

pub snapshot_of : (cs : List Commit) (s : ℕ) (x : Cell) → Shown cs s x
snapshot_of [] s x = (None, inr (refl, λ b m. elim m [ ]))
snapshot_of (c ∷ cs) s x = elim (names_of c.writes x) [
  | inr none ↦ skips c cs s x (λ n l. none n) (snapshot_of cs s x)
  | inl n ↦ elim (cases_lt s c.stamp) [
    | inl late ↦ skips c cs s x (λ n l. absurd (omega arith)) (snapshot_of cs s x)
    | inr low ↦ takes c cs s x n low (snapshot_of cs s x)
  ]
]

pub sets_of : (ws : Writes) (x : Cell) (v : Change) → (ws' : Writes) × Sets x v ws ws'
sets_of [] x v = ((x, v) ∷ [], appends)
sets_of (w ∷ ws) x v = elim (cases_cell w.0 x) [
  | inl e ↦ ((x, v) ∷ ws, subst (λ (y : Cell). Sets x v ((y, w.1) ∷ ws) ((x, v) ∷ ws)) (sym e) replaces)
  | inr ne ↦ let rest = sets_of ws x v in (w ∷ rest.0, passes ne rest.1)
]

pub dead_of : (ts : List ℕ) (t : ℕ) → (t ∈ ts) ⊎ (¬ (t ∈ ts))
dead_of [] t = inr (λ h. elim h [ ])
dead_of (u ∷ ts) t = elim (cases_eq u t) [
  | inl e ↦ inl (subst (λ v. v ∈ (u ∷ ts)) e here)
  | inr ne ↦ elim (dead_of ts t) [ inl h ↦ inl (there h) | inr absent ↦ inr (λ h. each_cons (λ v. v ≡ t → ⊥) ne (λ v k e. absent (subst (λ w. w ∈ ts) e k)) t h refl) ]
]

-- a commit of the start
abbrev HasCommit : List Commit → ℕ → Type 0
HasCommit cs t = (a : Commit) × (a ∈ cs) × (a.start ≡ t)

commit_of : (cs : List Commit) (t : ℕ) → HasCommit cs t ⊎ (¬ HasCommit cs t)
commit_of [] t = inr (λ h. elim h.1 [ ])
commit_of (c ∷ cs) t = elim (cases_eq c.start t) [
  | inl e ↦ inl (c, here, e)
  | inr ne ↦ elim (commit_of cs t) [ inl (a, m, e) ↦ inl (a, there m, e) | inr absent ↦ inr (λ h. each_cons (λ a. a.start ≡ t → ⊥) ne (λ a m e. absent (a, m, e)) h.0 h.1 h.2) ]
]

pub committed_of : (st : State) (t : ℕ) → IsCommitted st t ⊎ (¬ IsCommitted st t)
committed_of st t = elim (commit_of st.commits t) [
  | inl (a, m, e) ↦ inl (a.stamp, (a.writes, subst (λ u. record { start = u; stamp = a.stamp; writes = a.writes } ∈ st.commits) e m))
  | inr absent ↦ inr (λ c. absent (record { start = t; stamp = c.0; writes = c.1.0 }, c.1.1, refl))
]

pub put_of : (ws : Writes) (k : ℕ) → k < length ws → (u : Cell × Change) × (slice_get ws k ≡ Some u)
put_of [] k h = absurd (omega arith)
put_of (w ∷ ws) zero h = (w, refl)
put_of (w ∷ ws) (suc k) h = put_of ws k (omega arith)
