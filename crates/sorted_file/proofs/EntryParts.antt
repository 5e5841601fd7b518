-- The entries of an image.
use Rattle.std.proofs.Common.{◌≡◌, ℕ, ◌+◌, ◌-◌, ◌≤◌, ◌<◌, List, ◌++◌, length, take, drop, sym, ap, subst, ◌∙◌, arith, length-append, append_assoc}
use Rattle.std.specs.Prelude.{flat_map}
use Rattle.std.proofs.Math.Seq.{drop-append_seam, take-append_seam}
use Rattle.cell_key.specs.Entries.{Entry, IsEntryList, spelled}
use Rattle.sorted_file.specs.Grammar.{foot_len, head, most, number_bytes, IsFile, OneList, IsNoFile}
use Rattle.sorted_file.specs.declared.format.Format.{Format}
use Rattle.sorted_file.proofs.Widths.{head_length, one_head}
use Rattle.sorted_file.proofs.Spelling.{number_split, one_short, IsCut, is_cut}

-- the foot begins with the offset of the index
pub index_cut : (f : Format) (es : List Entry) (image : List ℕ) (c : IsCut f es image) → drop (length image - foot_len f) image ≡ number_bytes f (8 + length (flat_map spelled es)) ++ c.numbers
index_cut f es image c =
    let n : List ℕ = number_bytes f (8 + length (flat_map spelled es)) in
    let front : List ℕ = head f ++ (flat_map spelled es ++ c.rows) in
    let whole : image ≡ front ++ (n ++ c.numbers) =
    c.bytes ∙ ap (λ (l : List ℕ). head f ++ l) (sym (append_assoc (flat_map spelled es) c.rows (n ++ c.numbers))) ∙ sym (append_assoc (head f) (flat_map spelled es ++ c.rows) (n ++ c.numbers)) in
    let l1 = length-append (head f) (flat_map spelled es ++ c.rows) in
    let l2 = length-append (flat_map spelled es) c.rows in
    let h = head_length f in
    let s = c.size in
    let at : length image - foot_len f ≡ length front = omega (arith, l1, l2, h, s) in
    ap (λ (k : ℕ). drop k image) at ∙ ap (drop (length front)) whole ∙ drop-append_seam front (n ++ c.numbers)

-- the bytes from the head to the index are the entries' bytes
pub entry_bytes : (f : Format) (es : List Entry) (image : List ℕ) → IsCut f es image → take (length (flat_map spelled es)) (drop 8 image) ≡ flat_map spelled es
entry_bytes f es image c =
    ap (λ (k : ℕ). take (length (flat_map spelled es)) (drop k image)) (sym (head_length f))
    ∙ ap (λ (l : List ℕ). take (length (flat_map spelled es)) (drop (length (head f)) l)) c.bytes
    ∙ ap (take (length (flat_map spelled es))) (drop-append_seam (head f) _) ∙ take-append_seam (flat_map spelled es) _

-- ---- one format

pub head_of : (f : Format) (es : List Entry) (image : List ℕ) → IsFile f es image → take 8 image ≡ head f
head_of f es image is = ap (λ (k : ℕ). take k image) (sym (head_length f)) ∙ ap (take (length (head f))) is.bytes ∙ take-append_seam (head f) _

-- a file is in the format of its head
pub in_format : (f g : Format) (es : List Entry) (image : List ℕ) → take 8 image ≡ head f → IsFile g es image → IsFile f es image
in_format f g es image h is = subst (λ (k : Format). IsFile k es image) (one_head g f (sym (head_of g es image is) ∙ h)) is

pub no_file_in : (f : Format) (image : List ℕ) → take 8 image ≡ head f → ((es : List Entry) → IsEntryList es → ¬ IsFile f es image) → IsNoFile image
no_file_in f image h none g es list is = none es list (in_format f g es image h is)

pub no_length : (f : Format) (image : List ℕ) → take 8 image ≡ head f → ¬ ((8 + foot_len f ≤ length image) × (length image < most f)) → IsNoFile image
no_length f image h none = no_file_in f image h (λ es list is. none (let s = (is_cut f es image is).size in omega (arith, s), is.small))

-- ---- one list

one_listed : (f : Format) (es fs : List Entry) (image : List ℕ) → IsFile f es image → IsFile f fs image → es ≡ fs
one_listed f es fs image p q =
    let c = is_cut f es image p in
    let d = is_cut f fs image q in
    let cs = c.size in
    let ds = d.size in
    let ps = p.small in
    let lengths = (number_split f (8 + length (flat_map spelled es)) (8 + length (flat_map spelled fs)) _ _ (omega (arith, cs, ps)) (omega (arith, ds, ps)) (sym (index_cut f es image c) ∙ index_cut f fs image d)).0 in
    let same : flat_map spelled es ≡ flat_map spelled fs = sym (entry_bytes f es image c) ∙ ap (λ (n : ℕ). take n (drop 8 image)) (omega (arith, lengths)) ∙ entry_bytes f fs image d in
    one_short es fs p.short q.short same

pub one_list : OneList
one_list f g es fs image p q =
    (one_head f g (sym (head_of f es image p) ∙ head_of g fs image q), one_listed g es fs image (in_format g f es image (head_of g fs image q) p) q)
