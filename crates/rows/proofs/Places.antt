-- The first key after a place belongs to the next cell.
use Rattle.std.proofs.Common.{◌≡◌, ◌≢◌, ◌<◌, ℕ, List, Option, Some, None, IsSome, refl, sym, ap, subst, ◌∙◌, arith}
use Rattle.std.specs.declared.cmp.Ordering.{Ordering}
use Rattle.std.specs.declared.cmp.Ordering.TheVariants.{Less, Equal, Greater}
use Rattle.std.specs.declared.ops.Bound.TheVariants.{Unbounded}
use Rattle.std.specs.Ordering.{ordering_then, ordering_reverse, MatchOrdering, nat_cmp}
use Rattle.std.specs.Cmp.{IsTotalOrder, ranks, then_total, on_total}
use Rattle.std.specs.Cmp.Lexicographic.{nat_list_cmp_total}
use Rattle.std.specs.FinMap.{get, slice_cmp-IsAntisymmetric, nat_cmp-IsAntisymmetric}
use Rattle.std.specs.BTreeMap.Range.{IsFromStart}
use Rattle.cell_key.specs.Keys.{byte_cmp, key_cmp, qualifier_name}
use Rattle.cell_key.specs.Cells.{Cells}
use Rattle.cell_key.specs.declared.keys.CellKey.{CellKey}
use Rattle.cell_key.specs.declared.keys.Qualifier.{Qualifier}
use Rattle.cell_key.specs.declared.keys.Qualifier.TheVariants.{Data, Lock, Write}
use Rattle.cell_key.specs.Places.{Place, place_of, place_cmp, IsAfter, IsNextCell}
use Rattle.cell_key.proofs.KeyLaws.{both_Equal}
use Rattle.rows.specs.Slots.{IsFirstKey, past}

pub place_cmp_total : IsTotalOrder place_cmp
place_cmp_total = then_total (on_total (λ (p : Place). p.0) nat_list_cmp_total) (on_total (λ (p : Place). p.1) nat_list_cmp_total)

-- places that compare equal are equal
pub exact_places : (a b : Place) → place_cmp a b ≡ Equal → a ≡ b
exact_places a b e =
    let both = both_Equal (byte_cmp a.0 b.0) (byte_cmp a.1 b.1) e in
    let row = slice_cmp-IsAntisymmetric nat_cmp-IsAntisymmetric a.0 b.0 both.0 in
    let family = slice_cmp-IsAntisymmetric nat_cmp-IsAntisymmetric a.1 b.1 both.1 in
    λ i. (row i, family i)

two_first : (r s t : Ordering) → ordering_then r s ≡ Less → ordering_then r (ordering_then s t) ≡ Less
two_first Less s t e = refl
two_first Equal Less t e = refl
two_first Equal Equal t e = cc
two_first Equal Greater t e = cc
two_first Greater s t e = cc

only_two : (r s t : Ordering) → t ≢ Less → ordering_then r (ordering_then s t) ≡ Less → ordering_then r s ≡ Less
only_two Less s t n e = refl
only_two Equal Less t n e = refl
only_two Equal Equal t n e = absurd (n e)
only_two Equal Greater t n e = cc
only_two Greater s t n e = cc

-- keys are ordered by their places first
pub less_by_place : (a b : CellKey) → place_cmp (place_of a) (place_of b) ≡ Less → key_cmp a b ≡ Less
less_by_place a b e = two_first (byte_cmp a.row b.row) (byte_cmp a.family b.family) _ e

not_below_zero : (s : ℕ) → nat_cmp s 0 ≢ Less
not_below_zero s e = go (nat_cmp s 0) (ranks s 0) e
  where
    go : (o : Ordering) → MatchOrdering o (s < 0) (s ≡ 0) (0 < s) → o ≡ Less → ⊥
    go Less m e = omega (arith, m)
    go Equal m e = cc
    go Greater m e = cc

-- nothing at a place comes after its last key
last_of_place : (qualifier : Qualifier) (s : ℕ) → ordering_then (byte_cmp (qualifier_name Write) (qualifier_name qualifier)) (nat_cmp s 0) ≢ Less
last_of_place Data s e = cc
last_of_place Lock s e = cc
last_of_place Write s e = not_below_zero s e

pub after_from_past : (after : Option Place) (key : CellKey) → IsFromStart key_cmp (past after) key → IsAfter after (place_of key)
after_from_past None key h = tt
after_from_past (Some place) key h = only_two (byte_cmp place.0 key.row) (byte_cmp place.1 key.family) _ (last_of_place key.qualifier key.stamp) h

past_from_after : (after : Option Place) (key : CellKey) → IsAfter after (place_of key) → IsFromStart key_cmp (past after) key
past_from_after None key h = tt
past_from_after (Some place) key h = two_first (byte_cmp place.0 key.row) (byte_cmp place.1 key.family) _ h

no_value : {X : Type 0} (o : Option X) → o ≡ None → IsSome o → ⊥
no_value None e h = cc
no_value (Some x) e h = cc

module _ (cells : Cells) (after : Option Place) where
  pub next_none : IsFirstKey cells (past after) Unbounded None → IsNextCell cells after None
  next_none first place behind cell =
      let at : IsAfter after (place_of cell.key) = subst (λ (p : Place). IsAfter after p) (sym cell.at) behind in
      no_value (get cells cell.key) (first cell.key (past_from_after after cell.key at, tt)) cell.some

  pub next_some : (key : CellKey) (value : List ℕ) → IsFirstKey cells (past after) Unbounded (Some (key, value)) → IsNextCell cells after (Some (place_of key))
  next_some key value first = (
    after_from_past after key first.0.0,
    record { key = key; at = refl; some = subst (λ (o : Option (List ℕ)). IsSome o) (sym first.1) refl },
    λ place behind before cell.
        let at : IsAfter after (place_of cell.key) = subst (λ (p : Place). IsAfter after p) (sym cell.at) behind in
        let less : place_cmp (place_of cell.key) (place_of key) ≡ Less = ap (λ (p : Place). place_cmp p (place_of key)) cell.at ∙ before in
        no_value (get cells cell.key) (first.2 cell.key (past_from_after after cell.key at, tt) (less_by_place cell.key key less)) cell.some,
  )

  -- there is only one next cell
  pub one_next : (a b : Option Place) → IsNextCell cells after a → IsNextCell cells after b → a ≡ b
  one_next None None h k = refl
  one_next None (Some b) h k = absurd (h b k.0 k.1)
  one_next (Some a) None h k = absurd (k a h.0 h.1)
  one_next (Some a) (Some b) h k = go (place_cmp a b) refl
    where
      go : (o : Ordering) → place_cmp a b ≡ o → Some a ≡ Some b
      go Less e = absurd (k.2 a h.0 e h.1)
      go Equal e = ap Some (exact_places a b e)
      go Greater e = absurd (h.2 b k.0 (place_cmp_total.antisymm b a ∙ ap ordering_reverse e) k.1)
