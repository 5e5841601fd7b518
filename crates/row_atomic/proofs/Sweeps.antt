-- A sweep removes the files that its list of names doesn't keep, and changes no tablet.
use Rattle.std.proofs.Common.{◌≡◌, ◌≢◌, ◌==◌, ◌||◌, ◌&&◌, ◌⊎◌, inl, inr, ℕ, zero, suc, Bool, true, false, not, cond, List, [], ◌∷◌, map, length, Option, Some, None, option_map, IfSome, IfOk, Result, Ok, Err, OnOk, IsTrue, slice_get, refl, sym, ap, ◌∙◌, subst, arith}
use Rattle.std.proofs.lemmas.Option.{same_Some}
use Rattle.std.specs.Prelude.{◌↔◌, is_some}
use Rattle.std.specs.Ordering.{nat_cmp, eq_by_cmp, is_eq}
use Rattle.std.specs.Cmp.{nat_cmp_total, unsigned_tied}
use Rattle.std.specs.FinMap as finite
use Rattle.std.specs.FinMap.{get, get-remove, get-retain_keys, contains_key-keys, same_map, nat_cmp-IsAntisymmetric}
use Rattle.std.specs.List.{AllByRecursion, Contains, list_any}
use Rattle.std.specs.declared.cmp.Ordering.TheVariants.{Equal}
use borrow.Author.Tests.{eqb-true}
use Rattle.std.proofs.lemmas.Grind.{common_steps}
use Rattle.file_store.specs.Store.{Contents, MayLack, without_file}
use Rattle.metadata_table.specs.Places.{PlaceView}
use Rattle.metadata_table.specs.Table.{IsTable, IsListed}
use Rattle.tablet.specs.Views.{Holds, IsBelow, cells_at, names_of}
use Rattle.tablet.specs.Laws.{UnnamedMayGo}
use Rattle.tablet.specs.declared.tablet.Tablet.{Tablet}
use Rattle.row_atomic.specs.Clusters.{tablet_numbered, cells_in, joined, InOrder, ArePlaced}
use Rattle.row_atomic.specs.Sweeps.{MayLackUnkept, is_kept, is_kept_beside, swept, unkept, without_files, count_swept}
use Rattle.row_atomic.proofs.Owners.{each_placed}
use Rattle.row_atomic.proofs.PlacedTablets.{is_placed}
use Rattle.row_atomic.proofs.Shares.{each_at, each_map}

or_right : (a b : Bool) → b ≡ true → (a || b) ≡ true
or_right true b e = refl
or_right false b e = e

or_cases : (a b : Bool) → (a || b) ≡ true → (a ≡ true) ⊎ (b ≡ true)
or_cases true b e = inl refl
or_cases false b e = inr e

same_truth : (a b : Bool) → (a ≡ true → b ≡ true) → (b ≡ true → a ≡ true) → a ≡ b
same_truth true b f g = sym (f refl)
same_truth false true f g = g refl
same_truth false false f g = refl

nat_cmp_itself : (n : ℕ) → nat_cmp n n ≡ Equal
nat_cmp_itself n = grind (arith, common_steps)

itself : (n : ℕ) → (n == n) ≡ true
itself n = sym (unsigned_tied n n) ∙ ap is_eq (nat_cmp_itself n)

-- ---- files that must stay

abbrev has : ℕ → List ℕ → Bool
has name files = list_any (λ file. file == name) files

abbrev any_has : List PlaceView → ℕ → Bool
any_has places name = list_any (λ p. has name p.files) places

module _ {A : Type 0} (test : A → Bool) where
  any_at : (xs : List A) (x : A) → Contains xs x → test x ≡ true → list_any test xs ≡ true
  any_at [] x c e = absurd (omega (arith, c.1))
  any_at (y ∷ xs) x (zero, below, is) e = ap (λ (b : Bool). b || list_any test xs) (ap test is ∙ e)
  any_at (y ∷ xs) x (suc k, below, is) e = or_right (test y) (list_any test xs) (any_at xs x (k, omega (arith, below), is) e)

  any_there : (xs : List A) → list_any test xs ≡ true → (x : A) × (Contains xs x × (test x ≡ true))
  any_there [] e = cc
  any_there (y ∷ xs) e = elim (or_cases (test y) (list_any test xs) e) [
    | inl t ↦ (y, ((0, omega arith, refl), t))
    | inr t ↦ (let rest = any_there xs t in (rest.0, ((suc rest.1.0.0, omega (arith, rest.1.0.1), rest.1.0.2), rest.1.1)))
  ]

pub listed_true : (places : List PlaceView) (name : ℕ) → IsListed name places → any_has places name ≡ true
listed_true places name l = any_at (λ p. has name p.files) places l.0 l.1 (any_at (λ file. file == name) l.0.files name l.2 (itself name))

listed_there : (places : List PlaceView) (name : ℕ) → any_has places name ≡ true → IsListed name places
listed_there places name e =
    let p = any_there (λ p. has name p.files) places e in
    let f = any_there (λ file. file == name) p.0.files p.1.1 in
    (p.0, p.1.0, subst (λ (n : ℕ). Contains p.0.files n) (eqb-true f.0 name f.1.1) f.1.0)

-- a name other than the root's stays if a tablet has it
not_root : (name : ℕ) → name ≢ 0 → (b : Bool) → (name == 0) ≡ b → b ≡ false
not_root name other true e = absurd (other (eqb-true name 0 e))
not_root name other false e = refl

pub kept_if_listed : (places : List PlaceView) (name : ℕ) (b : Bool) → name ≢ 0 → (IsTrue b ↔ IsListed name places) → b ≡ is_kept places name
kept_if_listed places name b other listed =
    same_truth b (any_has places name) (λ e. listed_true places name (listed.0 e)) (λ e. listed.1 (listed_there places name e))
    ∙ sym (ap (λ (r : Bool). r || any_has places name) (not_root name other (name == 0) refl))

-- a file that must stay is not among the names to remove; any other is
pub kept_first : (kept : ℕ → Bool) (name : ℕ) (names : List ℕ) → kept name ≡ true → unkept kept (name ∷ names) ≡ unkept kept names
kept_first kept name names e = ap (λ (b : Bool). cond (not b) (name ∷ unkept kept names) (unkept kept names)) e

pub unkept_first : (kept : ℕ → Bool) (name : ℕ) (names : List ℕ) → kept name ≡ false → unkept kept (name ∷ names) ≡ name ∷ unkept kept names
unkept_first kept name names e = ap (λ (b : Bool). cond (not b) (name ∷ unkept kept names) (unkept kept names)) e

-- ---- files that may be removed

pub lacks_none : (kept : ℕ → Bool) (o : Option Contents) → MayLackUnkept kept o o
lacks_none kept None = refl
lacks_none kept (Some m) = λ name. inl refl

removed : (m : Contents) (name q : ℕ) → get (finite.remove m name) q ≡ cond (q == name) None (get m q)
removed m name q = get-remove nat_cmp_total m name q ∙ ap (λ (b : Bool). cond b None (get m q)) (unsigned_tied q name)

one_gone : (kept : ℕ → Bool) (m n : Contents) (name : ℕ) → kept name ≡ false → ((q : ℕ) → (get n q ≡ get m q) ⊎ ((kept q ≡ false) × (get n q ≡ None)))
    → (q : ℕ) → (get (finite.remove n name) q ≡ get m q) ⊎ ((kept q ≡ false) × (get (finite.remove n name) q ≡ None))
one_gone kept m n name free before q = go (q == name) refl
  where
    go : (b : Bool) → (q == name) ≡ b → (get (finite.remove n name) q ≡ get m q) ⊎ ((kept q ≡ false) × (get (finite.remove n name) q ≡ None))
    go true e = inr (ap kept (eqb-true q name e) ∙ free, removed n name q ∙ ap (λ (b : Bool). cond b None (get n q)) e)
    go false e =
        let is : get (finite.remove n name) q ≡ get n q = removed n name q ∙ ap (λ (b : Bool). cond b None (get n q)) e in
        elim (before q) [
          | inl same ↦ inl (is ∙ same)
          | inr gone ↦ inr (gone.0, is ∙ gone.1)
        ]

pub lacks_removed : (kept : ℕ → Bool) (old now : Option Contents) (name : ℕ) → kept name ≡ false → MayLackUnkept kept old now → MayLackUnkept kept old (without_file name now)
lacks_removed kept None None name free before = refl
lacks_removed kept None (Some n) name free before = before
lacks_removed kept (Some m) None name free before = before
lacks_removed kept (Some m) (Some n) name free before = one_gone kept m n name free before

pub lacks_more : (kept : ℕ → Bool) (old now new : Option Contents) (name : ℕ) → kept name ≡ false → MayLackUnkept kept old now → MayLack name now new → MayLackUnkept kept old new
lacks_more kept old now new name free before may = elim may [
  | inl e ↦ subst (λ (o : Option Contents). MayLackUnkept kept old o) (sym e) before
  | inr e ↦ subst (λ (o : Option Contents). MayLackUnkept kept old o) (sym e) (lacks_removed kept old now name free before)
]

-- files that one rule keeps, another one may not
fewer : (kept other : ℕ → Bool) (name : ℕ) → (other name ≡ true → kept name ≡ true) → kept name ≡ false → (b : Bool) → other name ≡ b → b ≡ false
fewer kept other name more free true e = let is = more e in cc
fewer kept other name more free false e = refl

pub lacks_fewer : (kept other : ℕ → Bool) → ((name : ℕ) → other name ≡ true → kept name ≡ true) → (old new : Option Contents) → MayLackUnkept kept old new → MayLackUnkept other old new
lacks_fewer kept other more None new may = may
lacks_fewer kept other more (Some m) None may = may
lacks_fewer kept other more (Some m) (Some n) may = λ name. elim (may name) [
  | inl same ↦ inl same
  | inr gone ↦ inr (fewer kept other name (more name) gone.0 (other name) refl, gone.1)
]

-- beside a root, files of the root and of tablets stay
pub beside_named : (named places : List PlaceView) (name : ℕ) → is_kept named name ≡ true → is_kept_beside (Some named) places name ≡ true
beside_named named places name e = ap (λ (b : Bool). b || is_kept places name) e

pub beside_kept : (named : Option (List PlaceView)) (places : List PlaceView) (name : ℕ) → is_kept places name ≡ true → is_kept_beside named places name ≡ true
beside_kept None places name e = e
beside_kept (Some named) places name e = or_right (is_kept named name) (is_kept places name) e

-- ---- a complete sweep

abbrev has_eq : ℕ → List ℕ → Bool
has_eq q names = list_any (λ name. q == name) names

abbrev without : List ℕ → Contents → Contents
without [] m = m
without (name ∷ names) m = without names (finite.remove m name)

without_is : (names : List ℕ) (m : Contents) → without_files names (Some m) ≡ Some (without names m)
without_is [] m = refl
without_is (name ∷ names) m = without_is names (finite.remove m name)

without_none : (names : List ℕ) → without_files names None ≡ None
without_none [] = refl
without_none (name ∷ names) = without_none names

cond_twice : {A : Type 0} (a b : Bool) (x y : A) → cond a x (cond b x y) ≡ cond (b || a) x y
cond_twice true true x y = refl
cond_twice true false x y = refl
cond_twice false true x y = refl
cond_twice false false x y = refl

get-without : (names : List ℕ) (m : Contents) (q : ℕ) → get (without names m) q ≡ cond (has_eq q names) None (get m q)
get-without [] m q = refl
get-without (name ∷ names) m q =
    get-without names (finite.remove m name) q
    ∙ ap (λ (o : Option (List ℕ)). cond (has_eq q names) None o) (removed m name q)
    ∙ cond_twice (has_eq q names) (q == name) None (get m q)

and_false : (a : Bool) → false ≡ (a && false)
and_false true = refl
and_false false = refl

has_unkept : (kept : ℕ → Bool) (q : ℕ) (names : List ℕ) → has_eq q (unkept kept names) ≡ (not (kept q) && has_eq q names)
has_unkept kept q [] = and_false (not (kept q))
has_unkept kept q (name ∷ names) = go (has_unkept kept q names) (kept name) refl (q == name) refl
  where
    go : has_eq q (unkept kept names) ≡ (not (kept q) && has_eq q names) → (k : Bool) → kept name ≡ k → (e : Bool) → (q == name) ≡ e → has_eq q (unkept kept (name ∷ names)) ≡ (not (kept q) && (q == name || has_eq q names))
    go rest true k true e =
        let same : kept q ≡ true = ap kept (eqb-true q name e) ∙ k in
        ap (has_eq q) (kept_first kept name names k) ∙ rest
        ∙ ap (λ (b : Bool). not b && has_eq q names) same
        ∙ sym (ap (λ (b : Bool). not b && (q == name || has_eq q names)) same)
    go rest true k false e =
        ap (has_eq q) (kept_first kept name names k) ∙ rest
        ∙ sym (ap (λ (b : Bool). not (kept q) && (b || has_eq q names)) e)
    go rest false k true e =
        let same : kept q ≡ false = ap kept (eqb-true q name e) ∙ k in
        ap (has_eq q) (unkept_first kept name names k)
        ∙ ap (λ (b : Bool). b || has_eq q (unkept kept names)) e
        ∙ sym (ap (λ (b : Bool). b || has_eq q names) e)
        ∙ sym (ap (λ (b : Bool). not b && (q == name || has_eq q names)) same)
    go rest false k false e =
        ap (has_eq q) (unkept_first kept name names k)
        ∙ ap (λ (b : Bool). b || has_eq q (unkept kept names)) e
        ∙ rest
        ∙ sym (ap (λ (b : Bool). not (kept q) && (b || has_eq q names)) e)

any_same : {A : Type 0} (f g : A → Bool) (xs : List A) → ((x : A) → f x ≡ g x) → list_any f xs ≡ list_any g xs
any_same f g [] e = refl
any_same f g (x ∷ xs) e = ap (λ (b : Bool). b || list_any f xs) (e x) ∙ ap (λ (b : Bool). g x || b) (any_same f g xs e)

there_or_none : (m : Contents) (q : ℕ) → is_some (get m q) ≡ has_eq q (finite.keys m)
there_or_none m q = contains_key-keys m q ∙ any_same (eq_by_cmp nat_cmp q) (λ name. q == name) (finite.keys m) (λ name. unsigned_tied q name)

chosen : {A : Type 0} (kept there : Bool) (found : Option A) → is_some found ≡ there → cond (not kept && there) None found ≡ cond kept found None
chosen true there found e = refl
chosen false true found e = refl
chosen false false None e = refl
chosen false false (Some x) e = cc

swept_told : (kept : ℕ → Bool) (m : Contents) → without (unkept kept (finite.keys m)) m ≡ swept kept m
swept_told kept m = same_map nat_cmp_total nat_cmp-IsAntisymmetric _ _ (λ q.
    get-without (unkept kept (finite.keys m)) m q
    ∙ ap (λ (b : Bool). cond b None (get m q)) (has_unkept kept q (finite.keys m))
    ∙ chosen (kept q) (has_eq q (finite.keys m)) (get m q) (there_or_none m q)
    ∙ sym (get-retain_keys m kept q (λ x e. ap kept (sym (nat_cmp-IsAntisymmetric q x e)))))

pub swept_is : (kept : ℕ → Bool) (o : Option Contents) (names : List ℕ) → IfSome o (λ m. names ≡ finite.keys m) → without_files (unkept kept names) o ≡ option_map (swept kept) o
swept_is kept None names e = without_none (unkept kept names)
swept_is kept (Some m) names e =
    without_is (unkept kept names) m
    ∙ ap (λ (ns : List ℕ). Some (without (unkept kept ns) m)) e
    ∙ ap Some (swept_told kept m)

-- ---- the tablets are unchanged

files_kept : (places : List PlaceView) → AllByRecursion (λ p. (name : ℕ) → has name p.files ≡ true → any_has places name ≡ true) places
files_kept [] = tt
files_kept (p ∷ ps) = (
  λ name e. ap (λ (b : Bool). b || any_has ps name) e,
  each_map (λ q. (name : ℕ) → has name q.files ≡ true → any_has ps name ≡ true) (λ q. (name : ℕ) → has name q.files ≡ true → any_has (p ∷ ps) name ≡ true)
      (λ q h name e. or_right (has name p.files) (any_has ps name) (h name e)) ps (files_kept ps),
)

each_has : (files : List ℕ) → AllByRecursion (λ name. has name files ≡ true) files
each_has [] = tt
each_has (file ∷ files) = (
  ap (λ (b : Bool). b || has file files) (itself file),
  each_map (λ name. has name files ≡ true) (λ name. has name (file ∷ files) ≡ true) (λ name e. or_right (file == name) (has name files) e) files (each_has files),
)

both : {A : Type 0} (P Q : A → Type 0) (xs : List A) → AllByRecursion P xs → AllByRecursion Q xs → AllByRecursion (λ x. P x × Q x) xs
both P Q [] p q = tt
both P Q (x ∷ xs) p q = ((p.0, q.0), both P Q xs p.1 q.1)

pub each_of : {A : Type 0} (P : A → Type 0) (xs : List A) → ((j : ℕ) (x : A) → slice_get xs j ≡ Some x → P x) → AllByRecursion P xs
each_of P [] h = tt
each_of P (x ∷ xs) h = (h 0 x refl, each_of P xs (λ j y e. h (suc j) y e))

pub maps_alike : {A B : Type 0} (f g : A → B) (xs : List A) → AllByRecursion (λ x. f x ≡ g x) xs → map f xs ≡ map g xs
maps_alike f g [] h = refl
maps_alike f g (x ∷ xs) h = ap (λ y. y ∷ map f xs) h.0 ∙ ap (λ ys. g x ∷ ys) (maps_alike f g xs h.1)

module _ (places : List PlaceView) (ts : List Tablet) (table : IsTable places) (placed : ArePlaced ts None places) (as_many : length ts ≡ length places) where
  -- the files of a place's tablet stay
  abbrev KeepsNames : PlaceView → Type 0
  KeepsNames p = (t : Tablet) → tablet_numbered p.tablet ts ≡ Some t → AllByRecursion (λ name. is_kept places name ≡ true) (names_of t)

  abbrev NamedBy : PlaceView → Type 0
  NamedBy p = (t : Tablet) → tablet_numbered p.tablet ts ≡ Some t → names_of t ≡ p.files

  named_by : AllByRecursion NamedBy places
  named_by = is_placed NamedBy ts (λ before q h t e. ap names_of (same_Some t h.tablet (sym e ∙ h.numbered)) ∙ h.names) None places placed

  keeps_names : AllByRecursion KeepsNames places
  keeps_names = each_map (λ p. NamedBy p × ((name : ℕ) → has name p.files ≡ true → any_has places name ≡ true)) KeepsNames
      (λ p h t e. subst (λ (names : List ℕ). AllByRecursion (λ name. is_kept places name ≡ true) names) (sym (h.0 t e))
      (each_map (λ name. has name p.files ≡ true) (λ name. is_kept places name ≡ true) (λ name k. or_right (name == 0) (any_has places name) (h.1 name k)) p.files (each_has p.files)))
      places (both NamedBy (λ p. (name : ℕ) → has name p.files ≡ true → any_has places name ≡ true) places named_by (files_kept places))

  kept_names : (j : ℕ) (t : Tablet) → slice_get ts j ≡ Some t → AllByRecursion (λ name. is_kept places name ≡ true) (names_of t)
  kept_names j t e =
      let found = each_placed KeepsNames ts places table as_many keeps_names j t e in
      found.1.0 t (ap (λ (n : ℕ). tablet_numbered n ts) found.1.1 ∙ e)

  true_false : (b : Bool) → b ≡ true → b ≢ false
  true_false b e f = cc

  still_there : (m n : Contents) → ((q : ℕ) → (get n q ≡ get m q) ⊎ ((is_kept places q ≡ false) × (get n q ≡ None))) → (q : ℕ) → is_kept places q ≡ true → get n q ≡ get m q
  still_there m n may q e = elim (may q) [
    | inl same ↦ same
    | inr gone ↦ absurd (true_false (is_kept places q) e gone.0)
  ]

  module _ (law : UnnamedMayGo) (m n : Contents) (may : (q : ℕ) → (get n q ≡ get m q) ⊎ ((is_kept places q ≡ false) × (get n q ≡ None))) (each_open : AllByRecursion (Holds m) ts) where
    each_still : AllByRecursion (λ t. Holds n t × (cells_at n t ≡ cells_at m t)) ts
    each_still = each_of (λ t. Holds n t × (cells_at n t ≡ cells_at m t)) ts (λ j t e.
        law m n t (each_at_index j t e) (each_map (λ name. is_kept places name ≡ true) (λ name. get n name ≡ get m name) (λ name k. still_there m n may name k) (names_of t) (kept_names j t e)))
      where
        each_at_index : (j : ℕ) (t : Tablet) → slice_get ts j ≡ Some t → Holds m t
        each_at_index j t e = each_at (Holds m) ts each_open j t e

  -- files that a sweep may remove belong to no tablet
  pub record KeepsOrder (told : Option Contents) (next : ℕ) (before : Option Contents) : Type 0 where
    pub order : InOrder told next ts
    pub same : cells_in told ts ≡ cells_in before ts

  told_order : UnnamedMayGo → (m n : Contents) (next : ℕ) → ((q : ℕ) → (get n q ≡ get m q) ⊎ ((is_kept places q ≡ false) × (get n q ≡ None))) → AllByRecursion (Holds m) ts → AllByRecursion (IsBelow next) ts → KeepsOrder (Some n) next (Some m)
  told_order law m n next may each_open each_below =
      let each = each_still law m n may each_open in
      record {
        order = record {
          contents = n;
          on_disk = refl;
          each_open = each_map (λ t. Holds n t × (cells_at n t ≡ cells_at m t)) (Holds n) (λ t h. h.0) ts each;
          each_below = each_below;
        };
        same = ap joined (maps_alike (cells_at n) (cells_at m) ts (each_map (λ t. Holds n t × (cells_at n t ≡ cells_at m t)) (λ t. cells_at n t ≡ cells_at m t) (λ t h. h.1) ts each));
      }

  swept_told_order : UnnamedMayGo → (m : Contents) (new : Option Contents) (next : ℕ) → MayLackUnkept (is_kept places) (Some m) new → AllByRecursion (Holds m) ts → AllByRecursion (IsBelow next) ts → KeepsOrder new next (Some m)
  swept_told_order law m None next may each_open each_below = absurd may
  swept_told_order law m (Some n) next may each_open each_below = told_order law m n next may each_open each_below

  pub swept_order : UnnamedMayGo → (old new : Option Contents) (next : ℕ) → MayLackUnkept (is_kept places) old new → InOrder old next ts → KeepsOrder new next old
  swept_order law old new next may order =
      subst (λ (o : Option Contents). KeepsOrder new next o) (sym order.on_disk)
      (swept_told_order law order.contents new next (subst (λ (o : Option Contents). MayLackUnkept (is_kept places) o new) order.on_disk may) order.each_open order.each_below)

pub on_ok : {A E : Type 0} {P Q : Type 0} (r : Result A E) → (P → Q) → OnOk r P → OnOk r Q
on_ok (Ok x) f h = f h
on_ok (Err e) f h = tt

-- the count is the number of files that need not stay
pub counted : {E : Type 0} (kept : ℕ → Bool) (o : Option Contents) (names : List ℕ) (r : Result ℕ E) → IfSome o (λ m. names ≡ finite.keys m) → IfOk r (λ count. count ≡ length (unkept kept names)) → IfOk r (λ count. IfSome o (λ m. count ≡ count_swept kept m))
counted kept None names (Ok count) keyed is = tt
counted kept (Some m) names (Ok count) keyed is = is ∙ ap (λ (ns : List ℕ). length (unkept kept ns)) keyed
counted kept o names (Err e) keyed is = tt
