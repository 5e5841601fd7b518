-- Keys between two versions of a cell's column are its versions with stamps in between.
use Rattle.std.proofs.Common.{◌≡◌, ◌<◌, ◌≤◌, ℕ, false, List, Option, Some, None, refl, sym, ap, subst, ◌∙◌, arith}
use Rattle.std.specs.declared.cmp.Ordering.{Ordering}
use Rattle.std.specs.declared.cmp.Ordering.TheVariants.{Less, Equal, Greater}
use Rattle.std.specs.declared.ops.Bound.TheVariants.{Included}
use Rattle.std.specs.Ordering.{is_gt, ordering_then, ordering_reverse, nat_cmp, MatchOrdering}
use Rattle.std.specs.Cmp.{ranks, nat_cmp_is, tied_itself}
use Rattle.std.specs.Cmp.Lexicographic.{nat_list_cmp_total}
use Rattle.std.specs.FinMap.{get, slice_cmp-IsAntisymmetric, nat_cmp-IsAntisymmetric}
use Rattle.std.specs.BTreeMap.Range.{IsLeBy, IsInRange}
use Rattle.cell_key.specs.Keys.{byte_cmp, key_cmp, qualifier_name}
use Rattle.cell_key.specs.Cells.{Cells, IsNewest, version}
use Rattle.cell_key.specs.declared.keys.CellKey.{CellKey}
use Rattle.cell_key.specs.declared.keys.Qualifier.{Qualifier}
use Rattle.cell_key.proofs.KeyLaws.{exact_qualifiers, same_key}
use Rattle.rows.specs.Slots.{IsFirstKey}

-- a part bounded by the same part from both sides is equal to it
both_level : (r u v : Ordering) → is_gt (ordering_then r u) ≡ false → is_gt (ordering_then (ordering_reverse r) v) ≡ false → (r ≡ Equal) × (is_gt u ≡ false) × (is_gt v ≡ false)
both_level Less u v e h = cc
both_level Equal u v e h = (refl, e, h)
both_level Greater u v e h = cc

up_to : (a b : ℕ) → is_gt (nat_cmp a b) ≡ false → a ≤ b
up_to a b e = go (nat_cmp a b) (ranks a b) e
  where
    go : (o : Ordering) → MatchOrdering o (a < b) (a ≡ b) (b < a) → is_gt o ≡ false → a ≤ b
    go Less m e = omega (arith, m)
    go Equal m e = omega (arith, m)
    go Greater m e = cc

no_more : (a b : ℕ) → a ≤ b → is_gt (nat_cmp a b) ≡ false
no_more a b h = go (nat_cmp a b) (ranks a b)
  where
    go : (o : Ordering) → MatchOrdering o (a < b) (a ≡ b) (b < a) → is_gt o ≡ false
    go Less m = refl
    go Equal m = refl
    go Greater m = absurd (omega (arith, m))

same_list : (xs ys : List ℕ) → byte_cmp xs ys ≡ Equal → xs ≡ ys
same_list = slice_cmp-IsAntisymmetric nat_cmp-IsAntisymmetric

turned : (xs ys : List ℕ) → byte_cmp ys xs ≡ ordering_reverse (byte_cmp xs ys)
turned xs ys = (nat_list_cmp_total).antisymm ys xs

-- a key between two versions is a version
record IsBetween (row family : List ℕ) (qualifier : Qualifier) (lo hi : ℕ) (key : CellKey) : Type 0 where
  low : lo ≤ key.stamp
  high : key.stamp ≤ hi
  same : key ≡ version row family qualifier key.stamp

module _ (row family : List ℕ) (qualifier : Qualifier) (lo hi : ℕ) where
  abbrev at : ℕ → CellKey
  at s = version row family qualifier s

  between : (key : CellKey) → IsInRange key_cmp (Included (at hi)) (Included (at lo)) key → IsBetween row family qualifier lo hi key
  between key inside =
      let one = both_level (byte_cmp row key.row) _ _ inside.0 (rw (sym (turned row key.row)) inside.1) in
      let two = both_level (byte_cmp family key.family) _ _ one.1 (rw (sym (turned family key.family)) one.2) in
      let name = qualifier_name qualifier in
      let three = both_level (byte_cmp name (qualifier_name key.qualifier)) _ _ two.1 (rw (sym (turned name (qualifier_name key.qualifier))) two.2) in
      record {
        low = up_to lo key.stamp three.2;
        high = up_to key.stamp hi three.1;
        same = sym (same_key (at key.stamp) key (same_list row key.row one.0, (same_list family key.family two.0, (exact_qualifiers qualifier key.qualifier three.0, refl))));
      }

  -- versions of one column are in descending order of their stamps
  pub same_column : (a b : ℕ) → key_cmp (at a) (at b) ≡ nat_cmp b a
  same_column a b = rw (tied_itself nat_list_cmp_total row, tied_itself nat_list_cmp_total family, tied_itself nat_list_cmp_total (qualifier_name qualifier)) refl

  inside_at : (s : ℕ) → lo ≤ s → s ≤ hi → IsInRange key_cmp (Included (at hi)) (Included (at lo)) (at s)
  inside_at s a b = (ap is_gt (same_column hi s) ∙ no_more s hi b, ap is_gt (same_column s lo) ∙ no_more lo s a)

  -- the greatest stamp comes first
  pub versions_fall : lo ≤ hi → IsLeBy key_cmp (at hi) (at lo)
  versions_fall h = ap is_gt (same_column hi lo) ∙ no_more lo hi h

  pub newest_none : (cells : Cells) → IsFirstKey cells (Included (at hi)) (Included (at lo)) None → IsNewest cells at lo hi None
  newest_none cells first s a b = first (at s) (inside_at s a b)

  pub newest_some : (cells : Cells) (key : CellKey) (value : List ℕ) → IsFirstKey cells (Included (at hi)) (Included (at lo)) (Some (key, value)) → IsNewest cells at lo hi (Some (key.stamp, value))
  newest_some cells key value first =
      let inside = between key first.0 in
      let before : (s : ℕ) → key.stamp < s → key_cmp (at s) key ≡ Less = λ s a. ap (key_cmp (at s)) inside.same ∙ same_column s key.stamp ∙ sym (nat_cmp_is key.stamp s Less a) in (
        inside.low,
        inside.high,
        ap (get cells) (sym inside.same) ∙ first.1,
        λ s a b. first.2 (at s) (inside_at s (omega (arith, inside.low)) b) (before s a),
      )

-- the bounds are the versions at the ends
pub at_ends : (cells : Cells) (from to from' to' : CellKey) (found : Option (CellKey × List ℕ)) → from ≡ from' → to ≡ to' → IsFirstKey cells (Included from) (Included to) found → IsFirstKey cells (Included from') (Included to') found
at_ends cells from to from' to' found e f first = subst (λ (k : CellKey). IsFirstKey cells (Included from') (Included k) found) f (subst (λ (k : CellKey). IsFirstKey cells (Included k) (Included to) found) e first)
