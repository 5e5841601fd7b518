-- The entries of a block are the list that it was parsed as.
use Rattle.std.proofs.Common.{◌≡◌, ◌+◌, ◌<◌, ◌^◌, ℕ, List, [], ◌∷◌, ◌++◌, length, map, take, drop, Option, Some, None, refl, sym, ap, ◌∙◌, arith, length-append, append_assoc}
use Rattle.std.proofs.Math.Seq.{drop-append_seam, take-append_seam}
use Rattle.std.proofs.lemmas.Nat.{from_be_bytes-to_be_bytes_4}
use Rattle.cell_key.specs.Entries.{Entry, field, spelled, spelled_value}
use Rattle.sorted_file.specs.Block.{entries_of, entry_in, field_in, starts_from, value_in, IsParsed}
use Rattle.sorted_file.specs.Grammar.{block_bytes}
use Rattle.sorted_file.specs.declared.block.Block.{Block}
use Rattle.sorted_file.proofs.Spelling.{field_length, spelled_length}

field_there : (x rest : List ℕ) → length x < 2 ^ 32 → field_in (field x ++ rest) ≡ x
field_there x rest small = ap (λ (n : ℕ). take n (x ++ rest)) (from_be_bytes-to_be_bytes_4 (length x) small) ∙ take-append_seam x rest

value_there : (v : Option (List ℕ)) (rest : List ℕ) → length (spelled_value v) < 2 ^ 32 → value_in (spelled_value v ++ rest) ≡ v
value_there None rest small = refl
value_there (Some v) rest small = ap Some (field_there v rest (omega (arith, small, field_length v)))

behind_field : (x rest : List ℕ) → drop (4 + length x) (field x ++ rest) ≡ rest
behind_field x rest = ap (λ (n : ℕ). drop n (field x ++ rest)) (sym (field_length x)) ∙ drop-append_seam (field x) rest

pub entry_there : (e : Entry) (rest : List ℕ) → length (spelled e) < 2 ^ 32 → entry_in (spelled e ++ rest) ≡ e
entry_there e rest small =
    let size = spelled_length e in
    let behind = spelled_value e.1 ++ rest in
    let text = field_there e.0 behind (omega (arith, small, size)) in
    let value =
    ap (λ (x : List ℕ). value_in (drop (4 + length x) (field e.0 ++ behind))) text ∙ ap value_in (behind_field e.0 behind) ∙ value_there e.1 rest (omega (arith, small, size)) in
    ap entry_in (append_assoc (field e.0) (spelled_value e.1) rest) ∙ (λ i. (text i, value i))

read_from : (es : List Entry) (bytes front : List ℕ) (at : ℕ) → bytes ≡ front ++ block_bytes es → at ≡ length front → length bytes < 2 ^ 32
    → map (λ (start : ℕ). entry_in (drop start bytes)) (starts_from at es) ≡ es
read_from [] bytes front at are is small = refl
read_from (e ∷ es) bytes front at are is small =
    let size = ap length are ∙ length-append front (spelled e ++ block_bytes es) in
    let more = length-append (spelled e) (block_bytes es) in
    let here : drop at bytes ≡ spelled e ++ block_bytes es = ap (λ (n : ℕ). drop n bytes) is ∙ ap (drop (length front)) are ∙ drop-append_seam front (spelled e ++ block_bytes es) in
    let first : entry_in (drop at bytes) ≡ e = ap entry_in here ∙ entry_there e (block_bytes es) (omega (arith, small, size, more)) in
    let next = length-append front (spelled e) in
    let rest = read_from es bytes (front ++ spelled e) (at + length (spelled e)) (are ∙ sym (append_assoc front (spelled e) (block_bytes es))) (omega (arith, is, next)) small in
    (λ i. first i ∷ rest i)

pub parsed_is : (es : List Entry) (block : Block) → IsParsed es block → entries_of block ≡ es
unfolding entries_of
parsed_is es block p =
    let small : length block.bytes.items < 2 ^ 32 = omega (arith, p.small, ap length p.bytes) in
    ap (map (λ (start : ℕ). entry_in (drop start block.bytes.items))) p.starts ∙ read_from es block.bytes.items [] 0 p.bytes refl small
