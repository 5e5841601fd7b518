-- Lemmas on sets, maps and writes.
use Rattle.std.proofs.Common.{◌≡◌, ◌≢◌, ◌≤◌, ◌+◌, ◌-◌, length, Bool, ℕ, zero, suc, true, false, cond, List, [], ◌∷◌, Some, None, ◌⊎◌, inl, inr, refl, sym, ap, subst, ◌∙◌, arith}
use Rattle.std.specs.Prelude.{is_some, slice_get}
use Rattle.std.specs.Ordering.{nat_cmp, eq_by_cmp}
use Rattle.std.specs.Cmp.{nat_cmp_total, unsigned_tied}
use Rattle.std.specs.FinMap.{FinMap, get, contains_key, insert, remove, len, get-insert, get-remove, len-insert, len-remove}
use Rattle.std.proofs.lemmas.Bool.{cases_eq}
use Rattle.std.proofs.lemmas.Bool.Decides.{nat_tests}
use Rattle.std.proofs.lemmas.Option.{same_Some, none-some}
use Rattle.si_model.specs.Sets.{◌∈◌, here, there}
use Rattle.si_model.specs.Machine.{Change, Writes, Puts, Gives, Names, Sets, appends, replaces, passes}
use Rattle.si_model.specs.declared.replies.Cell.{Cell}

-- a property of m and of each of ms holds for each of m ∷ ms
pub each_cons : {A : Type 0} (P : A → Type 0) {m : A} {ms : List A} → P m → ((n : A) → n ∈ ms → P n) → (n : A) → n ∈ (m ∷ ms) → P n
each_cons P base rest n here = base
each_cons P base rest n (there h) = rest n h

pub eq_test : (q k : ℕ) → q ≡ k → eq_by_cmp nat_cmp q k ≡ true
eq_test q k e = unsigned_tied q k ∙ grind (arith, nat_tests)

pub ne_test : (q k : ℕ) → q ≢ k → eq_by_cmp nat_cmp q k ≡ false
ne_test q k e = unsigned_tied q k ∙ grind (arith, nat_tests)

module _ {X : Type 0} (m : FinMap nat_cmp X) (k : ℕ) where
  pub get_same : (v : X) → get (insert m k v) k ≡ Some v
  get_same v = get-insert nat_cmp_total m k v k ∙ ap (λ b. cond b (Some v) (get m k)) (eq_test k k refl)

  pub get_other : (v : X) (q : ℕ) → q ≢ k → get (insert m k v) q ≡ get m q
  get_other v q ne = get-insert nat_cmp_total m k v q ∙ ap (λ b. cond b (Some v) (get m q)) (ne_test q k ne)

  pub get_removed : get (remove m k) k ≡ None
  get_removed = get-remove nat_cmp_total m k k ∙ ap (λ b. cond b None (get m k)) (eq_test k k refl)

  pub get_remains : (q : ℕ) → q ≢ k → get (remove m k) q ≡ get m q
  get_remains q ne = get-remove nat_cmp_total m k q ∙ ap (λ b. cond b None (get m q)) (ne_test q k ne)

  -- a property of the new entry and of each other one holds for each entry
  pub each_insert : (P : ℕ → X → Type 0) (v : X) → P k v → ((q : ℕ) (w : X) → q ≢ k → get m q ≡ Some w → P q w) → (q : ℕ) (w : X) → get (insert m k v) q ≡ Some w → P q w
  each_insert P v base rest q w h = elim (cases_eq q k) [
    | inl e ↦ subst (λ (p : ℕ × X). P p.0 p.1) (both q w e (same_Some v w (sym (get_same v) ∙ (ap (get (insert m k v)) (sym e) ∙ h)))) base
    | inr ne ↦ rest q w ne (sym (get_other v q ne) ∙ h)
  ]
    where
      both : (q : ℕ) (w : X) → q ≡ k → v ≡ w → ◌≡◌ {A = ℕ × X} (k, v) (q, w)
      both q w e f = λ i. (sym e i, f i)

  pub each_remove : (P : ℕ → X → Type 0) → ((q : ℕ) (w : X) → q ≢ k → get m q ≡ Some w → P q w) → (q : ℕ) (w : X) → get (remove m k) q ≡ Some w → P q w
  each_remove P rest q w h = elim (cases_eq q k) [
    | inl e ↦ absurd (none-some w (sym get_removed ∙ (ap (get (remove m k)) (sym e) ∙ h)))
    | inr ne ↦ rest q w ne (sym (get_remains q ne) ∙ h)
  ]

at_most_more : (b : Bool) (n : ℕ) → cond b n (n + 1) ≤ n + 1
at_most_more true n = omega arith
at_most_more false n = omega arith

at_most_less : (b : Bool) (n : ℕ) → cond b (n - 1) n ≤ n
at_most_less true n = omega arith
at_most_less false n = omega arith

module _ {X : Type 0} (m : FinMap nat_cmp X) (k : ℕ) where
  pub len_grows : (v : X) → len (insert m k v) ≤ len m + 1
  len_grows v = subst (λ n. n ≤ len m + 1) (sym (len-insert nat_cmp_total m k v)) (at_most_more (contains_key m k) (len m))

  pub len_stays : (v w : X) → get m k ≡ Some w → len (insert m k v) ≡ len m
  len_stays v w h = len-insert nat_cmp_total m k v ∙ ap (λ o. cond (is_some o) (len m) (len m + 1)) h

  pub len_falls : len (remove m k) ≤ len m
  len_falls = subst (λ n. n ≤ len m) (sym (len-remove nat_cmp_total m k)) (at_most_less (contains_key m k) (len m))

pub same_entry : {X : Type 0} (m : FinMap nat_cmp X) (k : ℕ) (v w : X) → get m k ≡ Some v → get m k ≡ Some w → v ≡ w
same_entry m k v w g h = same_Some v w (sym g ∙ h)

-- no cell has two writes
abbrev pub CellsDiffer : Writes → Type 0
CellsDiffer [] = Unit {0}
CellsDiffer (w ∷ ws) = ((u : Cell × Change) → u ∈ ws → u.0 ≢ w.0) × CellsDiffer ws

after_set : {x : Cell} {v : Change} {ws ws' : Writes} → Sets x v ws ws' → (u : Cell × Change) → u ∈ ws' → (u.0 ≡ x) ⊎ (u ∈ ws)
after_set appends u here = inl refl
after_set appends u (there h) = elim h [ ]
after_set replaces u here = inl refl
after_set replaces u (there h) = inr (there h)
after_set (passes ne s) u here = inr here
after_set (passes ne s) u (there h) = elim (after_set s u h) [ inl e ↦ inl e | inr k ↦ inr (there k) ]

pub cells_differ_after : {x : Cell} {v : Change} {ws ws' : Writes} → Sets x v ws ws' → CellsDiffer ws → CellsDiffer ws'
cells_differ_after appends d = (λ u h. elim h [ ], tt)
cells_differ_after replaces d = d
cells_differ_after (passes ne s) d = (λ u h. elim (after_set s u h) [ inl e ↦ λ f. ne (sym f ∙ e) | inr k ↦ d.0 u k ], cells_differ_after s d.1)

pub put_in : (ws : Writes) (k : ℕ) (x : Cell) (v : Change) → Puts ws k x v → (x, v) ∈ ws
put_in [] k x v h = absurd (none-some (x, v) h)
put_in (w ∷ ws) zero x v h = subst (λ u. u ∈ (w ∷ ws)) (same_Some w (x, v) h) here
put_in (w ∷ ws) (suc k) x v h = there (put_in ws k x v h)

pub one_place : (ws : Writes) (j k : ℕ) (x : Cell) (v w : Change) → CellsDiffer ws → Puts ws j x v → Puts ws k x w → j ≡ k
one_place [] j k x v w d g h = absurd (none-some (x, v) g)
one_place (u ∷ ws) zero zero x v w d g h = refl
one_place (u ∷ ws) zero (suc k) x v w d g h = absurd (d.0 (x, w) (put_in ws k x w h) (ap (λ p. p.0) (sym (same_Some u (x, v) g))))
one_place (u ∷ ws) (suc j) zero x v w d g h = absurd (d.0 (x, v) (put_in ws j x v g) (ap (λ p. p.0) (sym (same_Some u (x, w) h))))
one_place (u ∷ ws) (suc j) (suc k) x v w d g h = ap suc (one_place ws j k x v w d.1 g h)

-- writes have one change of a cell
pub one_change : (ws : Writes) (x : Cell) (v w : Change) → CellsDiffer ws → Gives ws x v → Gives ws x w → v ≡ w
one_change ws x v w differ (j, g) (k, h) =
    let place : j ≡ k = one_place ws j k x v w differ g h in
    ap (λ (p : Cell × Change). p.1) (same_Some (x, v) (x, w) (sym g ∙ (ap (slice_get ws) place ∙ h)))

pub still_unnamed : (y x : Cell) (w : Change) (ws : Writes) → y ≢ x → ¬ Names ws x → (v : Change) (k : ℕ) → Puts ((y, w) ∷ ws) k x v → ⊥
still_unnamed y x w ws ne none v zero puts = ne (ap (λ u. u.0) (same_Some (y, w) (x, v) puts))
still_unnamed y x w ws ne none v (suc k) puts = none (v, (k, puts))

-- a Set keeps the length, or it names a new cell and adds one
pub set_length : {x : Cell} {v : Change} {ws ws' : Writes} → Sets x v ws ws' → (length ws' ≡ length ws) ⊎ ((¬ Names ws x) × (length ws' ≡ length ws + 1))
set_length {x = x} appends = inr (λ named. none-some (x, named.0) named.1.1, omega arith)
set_length replaces = inl (omega arith)
set_length {x = x} (passes {y = y} {w = w} {ws = ws} ne s) = elim (set_length s) [
  | inl e ↦ inl (omega arith)
  | inr (none, e) ↦ inr (λ named. still_unnamed y x w ws ne none named.0 named.1.0 named.1.1, omega arith)
]
