-- Keys that compare as equal, or have equal parts, are equal.
use Rattle.std.proofs.Common.{◌≡◌, refl, sym}
use Rattle.std.specs.declared.cmp.Ordering.{Ordering}
use Rattle.std.specs.declared.cmp.Ordering.TheVariants.{Less, Equal, Greater}
use Rattle.std.specs.Ordering.{ordering_then}
use Rattle.std.specs.FinMap.{IsAntisymmetric, nat_cmp-IsAntisymmetric, slice_cmp-IsAntisymmetric}
use Rattle.cell_key.specs.Keys.{byte_cmp, key_cmp, qualifier_name}
use Rattle.cell_key.specs.declared.keys.CellKey.{CellKey}
use Rattle.cell_key.specs.declared.keys.Qualifier.{Qualifier}
use Rattle.cell_key.specs.declared.keys.Qualifier.TheVariants.{Data, Lock, Write}

pub both_Equal : (r s : Ordering) → ordering_then r s ≡ Equal → (r ≡ Equal) × (s ≡ Equal)
both_Equal Less s e = cc
both_Equal Equal s e = (refl, e)
both_Equal Greater s e = cc

-- qualifiers with the same name are equal
pub exact_qualifiers : (q w : Qualifier) → byte_cmp (qualifier_name q) (qualifier_name w) ≡ Equal
    → q ≡ w
exact_qualifiers Data Data e = refl
exact_qualifiers Data Lock e = cc
exact_qualifiers Data Write e = cc
exact_qualifiers Lock Data e = cc
exact_qualifiers Lock Lock e = refl
exact_qualifiers Lock Write e = cc
exact_qualifiers Write Data e = cc
exact_qualifiers Write Lock e = cc
exact_qualifiers Write Write e = refl

-- keys that compare as equal are equal
pub exact_keys : IsAntisymmetric key_cmp
exact_keys a b e =
    let rest = both_Equal (byte_cmp a.row b.row) _ e in
    let more = both_Equal (byte_cmp a.family b.family) _ rest.1 in
    let last = both_Equal (byte_cmp (qualifier_name a.qualifier) (qualifier_name b.qualifier)) _
    more.1 in
    let row = slice_cmp-IsAntisymmetric nat_cmp-IsAntisymmetric a.row b.row rest.0 in
    let family = slice_cmp-IsAntisymmetric nat_cmp-IsAntisymmetric a.family b.family more.0 in
    let qualifier = exact_qualifiers a.qualifier b.qualifier last.0 in
    let stamp = sym (nat_cmp-IsAntisymmetric b.stamp a.stamp last.1) in
    λ i. record { row = row i; family = family i; qualifier = qualifier i; stamp = stamp i }

-- keys with equal parts are equal, such as a clone and its source
pub same_key : (a b : CellKey) → (a.row ≡ b.row)
    × ((a.family ≡ b.family) × ((a.qualifier ≡ b.qualifier) × (a.stamp ≡ b.stamp))) → a ≡ b
same_key a b e =
    λ i. record { row = e.0 i; family = e.1.0 i; qualifier = e.1.1.0 i; stamp = e.1.1.1 i }
