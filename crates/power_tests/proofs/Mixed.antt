-- Files of which each has the content that is meant.
use Rattle.std.proofs.Common.{◌≡◌, ◌≢◌, ◌==◌, ◌<◌, if◌then◌else◌, ℕ, zero, suc, List, [], ◌∷◌, ◌++◌, refl, sym, ap, ◌∙◌, subst, cond, not, T, true, false, Bool, length, inl, inr, arith}
use Rattle.std.specs.Prelude.{Option, Some, None, Result, Ok, Err, OnErr, ◌⊎◌}
use Rattle.std.specs.List.{list_any}
use Rattle.std.specs.Ordering.{nat_cmp, eq_by_cmp, is_eq}
use Rattle.std.specs.Cmp.{nat_cmp_total, eq_by_cmp_equiv, unsigned_tied}
use borrow.Author.Tests.{eqb-true}
use Rattle.std.specs.declared.cmp.Ordering.{Ordering}
use Rattle.std.specs.declared.cmp.Ordering.TheVariants.{Less, Equal, Greater}
use Rattle.std.specs.FinMap.{get, get-from_entries, get-entries, get-insert, get-remove, get-retain_keys, insert, remove, same_map, nat_cmp-IsAntisymmetric, entries, retain_keys}
use Rattle.std.specs.FinMap.Entries.{find}
use Rattle.file_store.specs.Store.{Contents}
use Rattle.power_tests.specs.Meant.{all_last, mixed, set_to}

-- ---- a name's bytes

-- the first of two that is there
first_there : Option (List ℕ) → Option (List ℕ) → Option (List ℕ)
first_there None behind = behind
first_there (Some x) behind = Some x

in_front : (b : Bool) (x : List ℕ) (o p r : Option (List ℕ)) → r ≡ first_there o p → cond b (Some x) r ≡ first_there (cond b (Some x) o) p
unfolding first_there
in_front true x o p r e = refl
in_front false x o p r e = e

find-behind : (q : ℕ) (es fs : List (ℕ × List ℕ)) → find nat_cmp q (es ++ fs) ≡ first_there (find nat_cmp q es) (find nat_cmp q fs)
unfolding first_there
find-behind q [] fs = refl
find-behind q (e ∷ es) fs = in_front (eq_by_cmp nat_cmp q e.0) e.1 _ _ _ (find-behind q es fs)

chosen : (l : Bool) (a b : Option (List ℕ)) → first_there (cond l b None) (cond (not l) a None) ≡ cond l b a
unfolding first_there
chosen true a None = refl
chosen true a (Some x) = refl
chosen false a b = refl

-- a file that is mixed has the bytes that are meant
pub get-mixed : (l : ℕ → Bool) (a b : Contents) (q : ℕ) → get (mixed l a b) q ≡ cond (l q) (get b q) (get a q)
get-mixed l a b q =
    let same : (p : ℕ → Bool) (x : ℕ) → nat_cmp q x ≡ Equal → p x ≡ p q = λ p x e. ap p (sym (nat_cmp-IsAntisymmetric q x e)) in
    get-from_entries nat_cmp_total _ q
    ∙ find-behind q (entries (retain_keys b l)) (entries (retain_keys a (λ name. not (l name))))
    ∙ ap (λ o. first_there o (find nat_cmp q (entries (retain_keys a (λ name. not (l name))))))
    (sym (get-entries (retain_keys b l) q) ∙ get-retain_keys b l q (same l))
    ∙ ap (first_there (cond (l q) (get b q) None))
    (sym (get-entries (retain_keys a (λ name. not (l name))) q) ∙ get-retain_keys a (λ name. not (l name)) q (same (λ name. not (l name))))
    ∙ chosen (l q) (get a q) (get b q)

same_contents : (m n : Contents) → ((q : ℕ) → get m q ≡ get n q) → m ≡ n
same_contents m n h = same_map nat_cmp_total nat_cmp-IsAntisymmetric m n h

one : (b : Bool) (x : Option (List ℕ)) → cond b x x ≡ x
one true x = refl
one false x = refl

-- what agrees is what is read
pub mixed-same : (l : ℕ → Bool) (a b : Contents) → ((q : ℕ) → get a q ≡ get b q) → mixed l a b ≡ a
mixed-same l a b h = same_contents _ _ (λ q. get-mixed l a b q ∙ ap (λ o. cond (l q) o (get a q)) (sym (h q)) ∙ one (l q) (get a q))

pub get-mixed-sure : (l : ℕ → Bool) (a b : Contents) (q : ℕ) → get a q ≡ get b q → get (mixed l a b) q ≡ get a q
get-mixed-sure l a b q h = get-mixed l a b q ∙ ap (λ o. cond (l q) o (get a q)) (sym h) ∙ one (l q) (get a q)

-- ---- a change of one name

some_cond : (b : Bool) (x y : Contents) → Some (cond b x y) ≡ cond b (Some x) (Some y)
some_cond true x y = refl
some_cond false x y = refl

core : (lq ln e p r : Bool) → (e ≡ true → lq ≡ ln) → (o a b : Option (List ℕ))
    → cond lq (cond r (cond e o b) b) (cond p (cond e o a) a) ≡ cond (cond ln r p) (cond e o (cond lq b a)) (cond lq b a)
core true true e p r h o a b = refl
core false false e p r h o a b = refl
core true false true p r h o a b = absurd (subst T (h refl) tt)
core true false false p r h o a b = one r b ∙ sym (one p b)
core false true true p r h o a b = absurd (subst T (sym (h refl)) tt)
core false true false p r h o a b = one p a ∙ sym (one r a)

equal : (r : Ordering) → is_eq r ≡ true → r ≡ Equal
equal Less e = absurd (subst T (sym e) tt)
equal Equal e = refl
equal Greater e = absurd (subst T (sym e) tt)

unlike_at : (b : Bool) (q n : ℕ) → eq_by_cmp nat_cmp q n ≡ b → q ≢ n → b ≡ false
unlike_at true q n e apart = absurd (apart (nat_cmp-IsAntisymmetric q n (equal (nat_cmp q n) e)))
unlike_at false q n e apart = refl

unlike : (q n : ℕ) → q ≢ n → eq_by_cmp nat_cmp q n ≡ false
unlike q n apart = unlike_at (eq_by_cmp nat_cmp q n) q n refl apart

get-cond : (p : Bool) (x y : Contents) (q : ℕ) → get (cond p x y) q ≡ cond p (get x q) (get y q)
get-cond true x y q = refl
get-cond false x y q = refl

one_of : {X : Type 0} (b : Bool) (x y z : X) → z ≡ cond b x y → (z ≡ y) ⊎ (z ≡ x)
one_of true x y z e = inr e
one_of false x y z e = inl e

both : (b p r : Bool) → p ≡ true → r ≡ true → cond b r p ≡ true
both true p r hp hr = hr
both false p r hp hr = hp

-- ---- doubts

still_at : (at p r d d1 : Bool) (o x y x' y' : Option (List ℕ)) → x' ≡ cond p (cond at o x) x → y' ≡ cond r (cond at o y) y
    → d1 ≡ cond at true d → d1 ≡ false → (d ≡ false → x ≡ y) → x' ≡ y'
still_at true p r d d1 o x y x' y' hx hy u e agree = absurd (subst T (sym u ∙ e) tt)
still_at false p r d d1 o x y x' y' hx hy u e agree = hx ∙ one p x ∙ agree (sym u ∙ e) ∙ sym (one r y) ∙ sym hy

done_at : (at d d1 d2 : Bool) (o x y x' y' : Option (List ℕ)) → x' ≡ cond at o x → y' ≡ cond at o y
    → d1 ≡ cond at true d → d2 ≡ cond at false d1 → d2 ≡ false → (d ≡ false → x ≡ y) → x' ≡ y'
done_at true d d1 d2 o x y x' y' hx hy u u2 e agree = hx ∙ sym hy
done_at false d d1 d2 o x y x' y' hx hy u u2 e agree = hx ∙ agree (sym u ∙ sym u2 ∙ e) ∙ sym hy

module _ (change : Contents → Contents) (o : Option (List ℕ)) (n : ℕ)
    (h : (m : Contents) (q : ℕ) → get (change m) q ≡ cond (eq_by_cmp nat_cmp q n) o (get m q)) where
  -- a file after the change was taken or not
  taken : (p : Bool) (m m' : Contents) → m' ≡ cond p (change m) m → (q : ℕ)
      → get m' q ≡ cond p (cond (eq_by_cmp nat_cmp q n) o (get m q)) (get m q)
  taken p m m' e q = ap (λ x. get x q) e ∙ get-cond p (change m) m q ∙ ap (λ x. cond p x (get m q)) (h m q)

  module _ (a b a' b' : Contents) (p r : Bool) (ea : a' ≡ cond p (change a) a) (eb : b' ≡ cond r (change b) b) where
    pub mixed-changed : (l : ℕ → Bool) → mixed l a' b' ≡ cond (cond (l n) r p) (change (mixed l a b)) (mixed l a b)
    mixed-changed l = same_contents _ _ (λ q.
        get-mixed l a' b' q
        ∙ ap (λ x. cond (l q) x (get a' q)) (taken r b b' eb q)
        ∙ ap (cond (l q) (cond r (cond (eq_by_cmp nat_cmp q n) o (get b q)) (get b q))) (taken p a a' ea q)
        ∙ core (l q) (l n) (eq_by_cmp nat_cmp q n) p r (λ e. ap l (nat_cmp-IsAntisymmetric q n (equal (nat_cmp q n) e))) o (get a q) (get b q)
        ∙ ap (λ x. cond (cond (l n) r p) (cond (eq_by_cmp nat_cmp q n) o x) x) (sym (get-mixed l a b q))
        ∙ sym (taken (cond (l n) r p) (mixed l a b) _ refl q))

    pub changed_well : (l : ℕ → Bool) → p ≡ true → r ≡ true → mixed l a' b' ≡ change (mixed l a b)
    changed_well l hp hr = mixed-changed l ∙ ap (λ x. cond x (change (mixed l a b)) (mixed l a b)) (both (l n) p r hp hr)

    pub may_change : (l : ℕ → Bool) → (Some (mixed l a' b') ≡ Some (mixed l a b)) ⊎ (Some (mixed l a' b') ≡ Some (change (mixed l a b)))
    may_change l = one_of (cond (l n) r p) (Some (change (mixed l a b))) (Some (mixed l a b)) (Some (mixed l a' b'))
        (ap Some (mixed-changed l) ∙ some_cond (cond (l n) r p) (change (mixed l a b)) (mixed l a b))

    pub others_stay : (l : ℕ → Bool) (other : ℕ) → other ≢ n → get (mixed l a' b') other ≡ get (mixed l a b) other
    others_stay l other apart =
        taken (cond (l n) r p) (mixed l a b) _ (mixed-changed l) other
        ∙ ap (λ e. cond (cond (l n) r p) (cond e o (get (mixed l a b) other)) (get (mixed l a b) other)) (unlike other n apart)
        ∙ one (cond (l n) r p) (get (mixed l a b) other)

    pub agree_still : (d d1 : ℕ → Bool) → ((q : ℕ) → d1 q ≡ cond (eq_by_cmp nat_cmp n q) true (d q))
        → ((q : ℕ) → d q ≡ false → get a q ≡ get b q) → (q : ℕ) → d1 q ≡ false → get a' q ≡ get b' q
    agree_still d d1 u agree q e =
        still_at (eq_by_cmp nat_cmp q n) p r (d q) (d1 q) o (get a q) (get b q) _ _ (taken p a a' ea q) (taken r b b' eb q)
        (u q ∙ ap (λ x. cond x true (d q)) ((eq_by_cmp_equiv nat_cmp_total).symm n q)) e (agree q)

    pub agree_done : (d d1 d2 : ℕ → Bool) → p ≡ true → r ≡ true → ((q : ℕ) → d1 q ≡ cond (eq_by_cmp nat_cmp n q) true (d q))
        → ((q : ℕ) → d2 q ≡ cond (eq_by_cmp nat_cmp n q) false (d1 q))
        → ((q : ℕ) → d q ≡ false → get a q ≡ get b q) → (q : ℕ) → d2 q ≡ false → get a' q ≡ get b' q
    agree_done d d1 d2 hp hr u u2 agree q e =
        let same : eq_by_cmp nat_cmp n q ≡ eq_by_cmp nat_cmp q n = (eq_by_cmp_equiv nat_cmp_total).symm n q in
        done_at (eq_by_cmp nat_cmp q n) (d q) (d1 q) (d2 q) o (get a q) (get b q) _ _
        (taken p a a' ea q ∙ ap (λ s. cond s (cond (eq_by_cmp nat_cmp q n) o (get a q)) (get a q)) hp)
        (taken r b b' eb q ∙ ap (λ s. cond s (cond (eq_by_cmp nat_cmp q n) o (get b q)) (get b q)) hr)
        (u q ∙ ap (λ x. cond x true (d q)) same) (u2 q ∙ ap (λ x. cond x false (d1 q)) same) e (agree q)

-- no name of an empty set is in doubt
pub none : (f : ℕ → Bool) (ks : List ℕ) → length ks ≡ 0 → list_any f ks ≡ false
none f [] e = refl
none f (k ∷ ks) e = absurd (omega arith)

-- the changes of a put and of a removal
pub puts : (n : ℕ) (v : List ℕ) (m : Contents) (q : ℕ) → get (insert m n v) q ≡ cond (eq_by_cmp nat_cmp q n) (Some v) (get m q)
puts n v m q = get-insert nat_cmp_total m n v q

pub removes : (n : ℕ) (m : Contents) (q : ℕ) → get (remove m n) q ≡ cond (eq_by_cmp nat_cmp q n) None (get m q)
removes n m q = get-remove nat_cmp_total m n q

-- ---- a file that is copied, or its absence

pub sets : (o : Option (List ℕ)) (n : ℕ) (m : Contents) (q : ℕ) → get (set_to o n m) q ≡ cond (eq_by_cmp nat_cmp q n) o (get m q)
sets None n m q = removes n m q
sets (Some v) n m q = puts n v m q

itself_at : (e : Bool) (x y : Option (List ℕ)) → (e ≡ true → x ≡ y) → cond e x y ≡ y
itself_at true x y h = h refl
itself_at false x y h = refl

-- a file that is copied to itself
pub set_same : (m : Contents) (n : ℕ) → set_to (get m n) n m ≡ m
set_same m n = same_contents _ _ (λ q. sets (get m n) n m q
    ∙ itself_at (eq_by_cmp nat_cmp q n) (get m n) (get m q) (λ e. ap (get m) (sym (nat_cmp-IsAntisymmetric q n (equal (nat_cmp q n) e)))))

root_at : (lq e : Bool) (x a b : Option (List ℕ)) → (e ≡ true → x ≡ a) → cond lq (cond e x b) a ≡ cond (cond e false lq) b a
root_at true true x a b h = h refl
root_at false true x a b h = refl
root_at lq false x a b h = refl

-- what is meant after a file's content that is read was copied to what lasts
pub copied : (l : ℕ → Bool) (a b a' b' : Contents) (n : ℕ) → a' ≡ a → b' ≡ set_to (get a n) n b
    → mixed l a' b' ≡ mixed (λ q. if q == n then false else l q) a b
copied l a b a' b' n ea eb = same_contents _ _ (λ q.
    get-mixed l a' b' q
    ∙ ap (λ m. cond (l q) (get b' q) (get m q)) ea
    ∙ ap (λ x. cond (l q) x (get a q)) (ap (λ m. get m q) eb ∙ sets (get a n) n b q ∙ ap (λ e. cond e (get a n) (get b q)) (unsigned_tied q n))
    ∙ root_at (l q) (q == n) (get a n) (get a q) (get b q) (λ e. ap (get a) (sym (eqb-true q n e)))
    ∙ sym (get-mixed (λ q. if q == n then false else l q) a b q))

pub copied_or_not : (r : Bool) (l : ℕ → Bool) (a b a' b' : Contents) (n : ℕ) → a' ≡ a → b' ≡ cond r (set_to (get a n) n b) b
    → (before : ℕ → Bool) × (Some (mixed l a' b') ≡ Some (mixed before a b))
copied_or_not true l a b a' b' n ea eb = ((λ q. if q == n then false else l q), ap Some (copied l a b a' b' n ea eb))
copied_or_not false l a b a' b' n ea eb = (l, ap Some (ap (λ m. mixed l m b') ea ∙ ap (mixed l a) eb))

pub on_err : {T E : Type 0} (r : Result T E) {P : Type 0} → P → OnErr r P
on_err (Ok x) p = tt
on_err (Err e) p = p

copied_at : (e d d1 : Bool) (x a b : Option (List ℕ)) → d1 ≡ cond e false d → d1 ≡ false → (e ≡ true → x ≡ a) → (d ≡ false → b ≡ a) → cond e x b ≡ a
copied_at true d d1 x a b u none same agree = same refl
copied_at false d d1 x a b u none same agree = agree (sym u ∙ none)

-- files agree at one more name after that file was copied
pub agree_copied : (a b a' b' : Contents) (n : ℕ) (d d1 : ℕ → Bool) → a' ≡ a → b' ≡ set_to (get a n) n b
    → ((q : ℕ) → d1 q ≡ cond (eq_by_cmp nat_cmp n q) false (d q)) → ((q : ℕ) → d q ≡ false → get b q ≡ get a q)
    → (q : ℕ) → d1 q ≡ false → get b' q ≡ get a' q
agree_copied a b a' b' n d d1 ea eb u agree q gone =
    ap (λ m. get m q) eb ∙ sets (get a n) n b q
    ∙ copied_at (eq_by_cmp nat_cmp q n) (d q) (d1 q) (get a n) (get a q) (get b q)
    (u q ∙ ap (λ e. cond e false (d q)) ((eq_by_cmp_equiv nat_cmp_total).symm n q)) gone
    (λ e. ap (get a) (sym (nat_cmp-IsAntisymmetric q n (equal (nat_cmp q n) e)))) (agree q)
    ∙ ap (λ m. get m q) (sym ea)

none_below : (n : ℕ) → (0 < n → ⊥) → n ≡ 0
none_below zero h = refl
none_below (suc n) h = absurd (h (omega arith))

-- all names were copied once none is left
pub all_copied : (a b : Contents) (f : ℕ → ℕ → Bool) (ks : List ℕ) → (0 < length ks → ⊥) → ((q : ℕ) → list_any (f q) ks ≡ false → get b q ≡ get a q) → b ≡ a
all_copied a b f ks empty agree = same_contents b a (λ q. agree q (none (f q) ks (none_below (length ks) empty)))

-- after a loss of power each choice means what lasts
pub all_lasting : (l : ℕ → Bool) (a b a' b' : Contents) → a' ≡ b' → b' ≡ b → mixed l a' b' ≡ mixed all_last a b
all_lasting l a b a' b' e e' = mixed-same l a' b' (λ q. ap (λ m. get m q) e) ∙ e ∙ e'
    ∙ same_contents _ _ (λ q. sym (get-mixed all_last a b q))
