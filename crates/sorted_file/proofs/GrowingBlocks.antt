-- A block grows by an entry.
use Rattle.std.proofs.Common.{◌≡◌, ◌≢◌, ◌==◌, ◌+◌, ◌≤◌, ℕ, false, List, [], ◌∷◌, ◌++◌, length, map, drop, refl, sym, ap, subst, ◌∙◌, arith, length-append}
use Rattle.std.specs.Prelude.{IsTrue}
use Rattle.std.proofs.lemmas.Bool.Decides.{nat_tests}
use Rattle.std.proofs.lemmas.List.{append-nil}
use Rattle.std.proofs.lemmas.List.Concat.{flat_map-append}
use Rattle.cell_key.proofs.TextPlaces.{clash}
use Rattle.cell_key.specs.Entries.{Entry, IsEntryList, spelled}
use Rattle.sorted_file.specs.Block.{entries_of, entry_in, starts_from, IsParsed}
use Rattle.sorted_file.specs.Grammar.{block_bytes, Fits}
use Rattle.sorted_file.specs.declared.block.Block.{Block}
use Rattle.sorted_file.proofs.Starts.{starts_joined}
use Rattle.sorted_file.proofs.Widths.{block_small}

pub block_bytes-last : (es : List Entry) (e : Entry) → block_bytes (es ++ e ∷ []) ≡ block_bytes es ++ spelled e
block_bytes-last es e = flat_map-append spelled es (e ∷ []) ∙ ap (λ (l : List ℕ). block_bytes es ++ l) (append-nil (spelled e))

length-last : (es : List Entry) (e : Entry) → length (block_bytes (es ++ e ∷ [])) ≡ length (block_bytes es) + length (spelled e)
length-last es e = ap length (block_bytes-last es e) ∙ length-append (block_bytes es) (spelled e)

-- ---- it has room

pub fits_alone : (es : List Entry) (e : Entry) → es ≡ [] → Fits (es ++ e ∷ [])
fits_alone es e none = subst (λ (l : List Entry). Fits (l ++ e ∷ [])) (sym none) tt

pub fits_on : (es : List Entry) (e : Entry) → es ≢ [] → length (block_bytes es) + length (spelled e) ≤ 4096 → Fits (es ++ e ∷ [])
fits_on [] e some h = absurd (some refl)
fits_on (o ∷ []) e some h = omega (arith, h, length-last (o ∷ []) e)
fits_on (o ∷ p ∷ os) e some h = omega (arith, h, length-last (o ∷ p ∷ os) e)

pub fits_in : (es : List Entry) (e : Entry) → es ≢ [] → Fits (es ++ e ∷ []) → length (block_bytes es) + length (spelled e) ≤ 4096
fits_in [] e some f = absurd (some refl)
fits_in (o ∷ []) e some f = omega (arith, f, length-last (o ∷ []) e)
fits_in (o ∷ p ∷ os) e some f = omega (arith, f, length-last (o ∷ p ∷ os) e)

-- ---- its bytes and starts

pub no_starts : (es : List Entry) → (IsTrue (length (starts_from 0 es) == 0) → es ≡ []) × (es ≡ [] → IsTrue (length (starts_from 0 es) == 0))
no_starts [] = (λ t. refl, λ e. refl)
no_starts (e ∷ es) =
    let some : (length (starts_from 0 (e ∷ es)) == 0) ≡ false = grind (arith, nat_tests) in
    (λ t. absurd (clash _ t some), λ n. cc)

pub empty_block : (block : Block) → block.bytes.items ≡ [] → block.starts.items ≡ [] → entries_of block ≡ []
unfolding entries_of
empty_block block bytes starts = ap (map (λ (start : ℕ). entry_in (drop start block.bytes.items))) starts

pub pushed : (es : List Entry) (e : Entry) (old new : Block) → IsParsed es old → IsEntryList (es ++ e ∷ []) → Fits (es ++ e ∷ [])
    → new.bytes.items ≡ old.bytes.items ++ spelled e → new.starts.items ≡ old.starts.items ++ length old.bytes.items ∷ [] → IsParsed (es ++ e ∷ []) new
pushed es e old new p list fits bytes starts =
    let small = block_small (es ++ e ∷ []) list.each fits in
    let at : length old.bytes.items ≡ 0 + length (block_bytes es) = omega (arith, ap length p.bytes) in
    record {
      list = list;
      bytes = bytes ∙ ap (λ (l : List ℕ). l ++ spelled e) p.bytes ∙ sym (block_bytes-last es e);
      starts = starts ∙ ap (λ (l : List ℕ). l ++ length old.bytes.items ∷ []) p.starts ∙ ap (λ (n : ℕ). starts_from 0 es ++ n ∷ []) at ∙ sym (starts_joined 0 es e);
      small = omega (arith, small);
    }
