-- The byte order of texts by their fronts.
use Rattle.std.proofs.Common.{◌≡◌, ℕ, List, drop, refl, sym, ap, ◌∙◌}
use Rattle.std.specs.declared.cmp.Ordering.{Ordering}
use Rattle.std.specs.declared.cmp.Ordering.TheVariants.{Less, Equal, Greater}
use Rattle.std.specs.Ordering.{nat_cmp, ordering_then}
use Rattle.byteorder.specs.Endian.{big_number}
use Rattle.cell_key.specs.Keys.{byte_cmp}
use Rattle.cell_key.proofs.Order.{cmp_same}
use Rattle.cell_key.proofs.Words.{fronts}
use Rattle.std.specs.FinMap.{nat_cmp-IsAntisymmetric}
use Rattle.memtable.specs.Order.{IsFront}

-- texts compare by their first eight bytes, and then by the rest
pub by_fronts : (front other : ℕ) (xs ys : List ℕ) → IsFront front xs → IsFront other ys
    → byte_cmp xs ys ≡ ordering_then (nat_cmp front other) (byte_cmp (drop 8 xs) (drop 8 ys))
by_fronts front other xs ys first second =
    fronts 8 xs ys first.long second.long first.bytes second.bytes
    ∙ ap (λ (n : ℕ). ordering_then (nat_cmp n (big_number 8 ys)) (byte_cmp (drop 8 xs) (drop 8 ys))) (sym first.is)
    ∙ ap (λ (n : ℕ). ordering_then (nat_cmp front n) (byte_cmp (drop 8 xs) (drop 8 ys))) (sym second.is)

-- fronts that differ decide
pub front_decides : (front other : ℕ) (xs ys : List ℕ) → IsFront front xs → IsFront other ys → (front ≡ other → ⊥) → nat_cmp front other ≡ byte_cmp xs ys
front_decides front other xs ys first second apart = go (nat_cmp front other) refl
  where
    rest : Ordering
    rest = byte_cmp (drop 8 xs) (drop 8 ys)

    go : (o : Ordering) → nat_cmp front other ≡ o → nat_cmp front other ≡ byte_cmp xs ys
    go Less p = p ∙ ap (λ (o : Ordering). ordering_then o rest) (sym p) ∙ sym (by_fronts front other xs ys first second)
    go Equal p = absurd (apart (nat_cmp-IsAntisymmetric front other p))
    go Greater p = p ∙ ap (λ (o : Ordering). ordering_then o rest) (sym p) ∙ sym (by_fronts front other xs ys first second)

-- if the fronts are equal, the rest decides
pub front_ties : (front other : ℕ) (xs ys : List ℕ) → IsFront front xs → IsFront other ys → front ≡ other
    → byte_cmp (drop 8 xs) (drop 8 ys) ≡ byte_cmp xs ys
front_ties front other xs ys first second same =
    ap (λ (o : Ordering). ordering_then o (byte_cmp (drop 8 xs) (drop 8 ys))) (sym (cmp_same front other same))
    ∙ sym (by_fronts front other xs ys first second)
