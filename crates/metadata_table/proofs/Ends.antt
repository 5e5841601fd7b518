-- Rows and ends in byte order.
use Rattle.std.proofs.Common.{◌≡◌, ℕ, Bool, true, false, ◌⊎◌, inl, inr, List, [], ◌∷◌, Option, None, Some, refl, sym, ap, subst, ◌∙◌}
use Rattle.std.specs.List.{AllByRecursion}
use Rattle.std.specs.declared.cmp.Ordering.{Ordering}
use Rattle.std.specs.declared.cmp.Ordering.TheVariants.{Less, Equal, Greater}
use Rattle.std.specs.Ordering.{is_lt, ordering_reverse}
use Rattle.std.specs.Cmp.Lexicographic.{nat_list_cmp_total}
use Rattle.std.specs.FinMap.{slice_cmp-IsAntisymmetric, nat_cmp-IsAntisymmetric}
use Rattle.cell_key.specs.Keys.{byte_cmp}
use Rattle.metadata_table.specs.Places.{PlaceView, EndsBefore, IsLower, IsRowAfter}
use Rattle.metadata_table.specs.Table.{EndsRise}
use Rattle.metadata_table.specs.Search.{ends_before}

pub one_row : (x y : List ℕ) → byte_cmp x y ≡ Equal → x ≡ y
one_row = slice_cmp-IsAntisymmetric nat_cmp-IsAntisymmetric

less_greater : Less ≡ Greater → ⊥
less_greater e = cc

pub not_self : (x : List ℕ) → byte_cmp x x ≡ Less → ⊥
not_self x e = less_greater (sym e ∙ (nat_list_cmp_total.antisymm x x ∙ ap ordering_reverse e))

pub not_both : (x y : List ℕ) → byte_cmp x y ≡ Less → byte_cmp y x ≡ Less → ⊥
not_both x y p q = not_self x (nat_list_cmp_total.trans x y x p q)

-- a row that is neither below another one nor equal to it is above it
pub above : (x y : List ℕ) → (byte_cmp x y ≡ Less → ⊥) → (x ≡ y → ⊥) → byte_cmp y x ≡ Less
above x y n d = go (byte_cmp x y) refl
  where
    go : (o : Ordering) → byte_cmp x y ≡ o → byte_cmp y x ≡ Less
    go Less e = absurd (n e)
    go Equal e = absurd (d (one_row x y e))
    go Greater e = nat_list_cmp_total.antisymm y x ∙ ap ordering_reverse e

-- a row below one that is not above a third row is below the third
pub below_other : (x y z : List ℕ) → byte_cmp x y ≡ Less → (byte_cmp z y ≡ Less → ⊥) → byte_cmp x z ≡ Less
below_other x y z p n = go (byte_cmp z y) refl
  where
    go : (o : Ordering) → byte_cmp z y ≡ o → byte_cmp x z ≡ Less
    go Less e = absurd (n e)
    go Equal e = subst (λ (w : List ℕ). byte_cmp x w ≡ Less) (sym (one_row z y e)) p
    go Greater e = nat_list_cmp_total.trans x y z p (nat_list_cmp_total.antisymm y z ∙ ap ordering_reverse e)

is_less : (o : Ordering) → is_lt o ≡ true → o ≡ Less
is_less Less e = refl
is_less Equal e = cc
is_less Greater e = cc

not_less : (o : Ordering) → is_lt o ≡ false → o ≡ Less → ⊥
not_less o e f = let g : true ≡ false = sym (ap is_lt f) ∙ e in cc

pub true_before : (end : Option (List ℕ)) (row : List ℕ) → ends_before end row ≡ true → EndsBefore end row
true_before None row e = cc
true_before (Some end) row e = is_less (byte_cmp end row) e

pub false_before : (end : Option (List ℕ)) (row : List ℕ) → ends_before end row ≡ false → EndsBefore end row → ⊥
false_before None row e h = h
false_before (Some end) row e h = not_less (byte_cmp end row) e h

pub before_true : (end : Option (List ℕ)) (row : List ℕ) → EndsBefore end row → ends_before end row ≡ true
before_true None row h = absurd h
before_true (Some end) row h = ap is_lt h

-- an end is below a row, or it is not
pub is_before : (end : Option (List ℕ)) (row : List ℕ) → EndsBefore end row ⊎ (EndsBefore end row → ⊥)
is_before end row = go (ends_before end row) refl
  where
    go : (b : Bool) → ends_before end row ≡ b → EndsBefore end row ⊎ (EndsBefore end row → ⊥)
    go true e = inl (true_before end row e)
    go false e = inr (false_before end row e)

-- an end below another end that is below a row is below the row
pub lower_before : (a b : Option (List ℕ)) (row : List ℕ) → IsLower a b → EndsBefore b row → EndsBefore a row
lower_before None b row l h = l
lower_before (Some x) None row l h = absurd h
lower_before (Some x) (Some y) row l h = nat_list_cmp_total.trans x y row l h

pub lower_lower : (a b c : Option (List ℕ)) → IsLower a b → IsLower b c → IsLower a c
lower_lower None b c l m = l
lower_lower (Some x) b None l m = tt
lower_lower (Some x) None (Some z) l m = absurd m
lower_lower (Some x) (Some y) (Some z) l m = nat_list_cmp_total.trans x y z l m

pub lower_some : (end : Option (List ℕ)) (row : List ℕ) → IsLower end (Some row) → EndsBefore end row
lower_some None row l = l
lower_some (Some x) row l = l

pub some_lower : (end : Option (List ℕ)) (row : List ℕ) → EndsBefore end row → IsLower end (Some row)
some_lower None row h = h
some_lower (Some x) row h = h

-- an end is before a row if and only if it is finite and the row is after it
pub before_after : (end : Option (List ℕ)) (row : List ℕ) → EndsBefore end row → IsRowAfter end row
before_after None row h = tt
before_after (Some end) row h = h

pub after_before : (a b : Option (List ℕ)) (row : List ℕ) → IsLower a b → IsRowAfter a row → EndsBefore a row
after_before None b row l h = l
after_before (Some x) b row l h = h

-- nothing follows the infinite end
pub is_last : (p : PlaceView) (ps : List PlaceView) → EndsRise (p ∷ ps) → p.end ≡ None → ps ≡ []
is_last p [] r e = refl
is_last p (q ∷ ps) r e = absurd (subst (λ (end : Option (List ℕ)). IsLower end q.end) e r.0)

-- all later ends are above
pub lower_all : (p : PlaceView) (ps : List PlaceView) → EndsRise (p ∷ ps) → AllByRecursion (λ (q : PlaceView). IsLower p.end q.end) ps
lower_all p [] r = tt
lower_all p (q ∷ ps) r = (r.0, lift ps (lower_all q ps r.1))
  where
    lift : (qs : List PlaceView) → AllByRecursion (λ (w : PlaceView). IsLower q.end w.end) qs → AllByRecursion (λ (w : PlaceView). IsLower p.end w.end) qs
    lift [] h = tt
    lift (w ∷ qs) h = (lower_lower p.end q.end w.end r.0 h.0, lift qs h.1)
