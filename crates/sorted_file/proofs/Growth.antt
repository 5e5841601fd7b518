-- Blocks with one more at the end.
use Rattle.std.proofs.Common.{◌≡◌, refl, ℕ, ◌+◌, ◌-◌, List, [], ◌∷◌, ◌++◌, length, sym, ap, ◌∙◌, arith, length-append, append_assoc}
use Rattle.std.specs.Prelude.{flat_map}
use Rattle.std.proofs.lemmas.List.{append-nil}
use Rattle.std.proofs.lemmas.List.Concat.{flat_map-append}
use Rattle.cell_key.specs.Entries.{Entry, spelled}
use Rattle.sorted_file.specs.Check.{IsOpening}
use Rattle.sorted_file.specs.Grammar.{block_bytes, row, index, body}
use Rattle.sorted_file.specs.Index.{blocks_of, entries_in}
use Rattle.sorted_file.specs.declared.check.Opening.{Opening}
use Rattle.sorted_file.specs.declared.format.Format.{Format}

pub flat-last : (blocks : List (List Entry)) (es : List Entry) → flat_map (λ block. block) (blocks ++ es ∷ []) ≡ flat_map (λ block. block) blocks ++ es
flat-last blocks es = flat_map-append (λ block. block) blocks (es ∷ []) ∙ ap (λ (l : List Entry). flat_map (λ block. block) blocks ++ l) (append-nil es)

pub body-last : (blocks : List (List Entry)) (es : List Entry) → body (blocks ++ es ∷ []) ≡ body blocks ++ block_bytes es
body-last blocks es = flat_map-append block_bytes blocks (es ∷ []) ∙ ap (λ (l : List ℕ). body blocks ++ l) (append-nil (block_bytes es))

-- the bytes of the entries of all blocks are the blocks' bytes
pub body_entries : (blocks : List (List Entry)) → block_bytes (flat_map (λ block. block) blocks) ≡ body blocks
body_entries [] = refl
body_entries (es ∷ blocks) =
    flat_map-append spelled es (flat_map (λ block. block) blocks)
    ∙ ap (λ (l : List ℕ). block_bytes es ++ l) (body_entries blocks)

-- the blocks of an opening end by the bytes of their entries behind the head
pub opening_measured : (o : Opening) → IsOpening o → o.end - 8 ≡ length (block_bytes (entries_in (blocks_of o.rows.items)))
opening_measured o opening =
    let reached = opening.reached in
    let same = ap length (body_entries (blocks_of o.rows.items)) in
    omega (arith, reached, same)

pub index-last : (f : Format) (at : ℕ) (blocks : List (List Entry)) (es : List Entry) → index f at (blocks ++ es ∷ []) ≡ index f at blocks ++ row f (at + length (body blocks)) es
index-last f at [] es = append-nil (row f at es) ∙ ap (λ (n : ℕ). row f n es) (omega arith)
index-last f at (block ∷ blocks) es =
    let l : at + length (block_bytes block) + length (body blocks) ≡ at + length (body (block ∷ blocks)) = omega (arith, length-append (block_bytes block) (body blocks)) in
    ap (λ (r : List ℕ). row f at block ++ r) (index-last f (at + length (block_bytes block)) blocks es ∙ ap (λ (n : ℕ). index f (at + length (block_bytes block)) blocks ++ row f n es) l)
    ∙ sym (append_assoc (row f at block) (index f (at + length (block_bytes block)) blocks) (row f (at + length (body (block ∷ blocks))) es))

-- three pieces that are appended
pub three : (out a b c x y z : List ℕ) → x ≡ out ++ a → y ≡ x ++ b → z ≡ y ++ c → z ≡ out ++ (a ++ (b ++ c))
three out a b c x y z p q r = r ∙ ap (λ (l : List ℕ). l ++ c) (q ∙ ap (λ (l : List ℕ). l ++ b) p) ∙ append_assoc (out ++ a) b c ∙ append_assoc out a (b ++ c)
