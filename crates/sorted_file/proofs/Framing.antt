-- The frame of a file: its head and its foot.
use Rattle.std.proofs.Common.{◌≡◌, ℕ, ◌-◌, ◌≤◌, ◌+◌, ◌<◌, ◌⊎◌, inl, inr, List, ◌++◌, length, take, drop, sym, ap, ◌∙◌, arith, length-drop}
use Rattle.std.proofs.lemmas.List.{take_all}
use Rattle.file_store.specs.Store.{part}
use Rattle.sorted_file.specs.Grammar.{IsNoFile, foot_len, head, most, number_bytes}
use Rattle.sorted_file.specs.declared.format.Format.{Format}
use Rattle.sorted_file.proofs.EntryParts.{no_file_in}
use Rattle.sorted_file.proofs.Reading.{place_of}

-- the last bytes of a file
pub part_end : (image : List ℕ) (size n : ℕ) → length image ≡ size → n ≤ size → part image (size - n) n ≡ drop (length image - n) image
part_end image size n e h =
    ap (λ (k : ℕ). take n (drop (k - n) image)) (sym e) ∙ take_all n (drop (length image - n) image) (omega (arith, e, h, length-drop (length image - n) image))

pub no_place : (f : Format) (image foot numbers : List ℕ) (at size : ℕ) → at < most f → length image ≡ size → take 8 image ≡ head f → foot ≡ drop (length image - foot_len f) image → foot ≡ number_bytes f at ++ numbers
    → (at < 8) ⊎ (size - foot_len f < at) → 8 + foot_len f ≤ size → IsNoFile image
no_place f image foot numbers at size small e h d s (inl low) least =
    no_file_in f image h (λ es list is. let p = place_of f es image foot numbers at small is d s in let x = p.exact in omega (arith, low, x))
no_place f image foot numbers at size small e h d s (inr high) least =
    no_file_in f image h (λ es list is. let p = place_of f es image foot numbers at small is d s in let w = p.within in omega (arith, w, e, high, least))
