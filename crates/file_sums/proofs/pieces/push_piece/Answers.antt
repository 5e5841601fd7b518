use Rattle.std.proofs.Common.{◌∙◌, ap, List, ℕ, ◌++◌, append_assoc, length}
use Rattle.std.specs.Int.{to_be_bytes, w16}
use Rattle.file_sums.specs.Pieces.{checksum, piece}
use Rattle.file_sums.proofs.pieces.push_piece.Goals as goal

pub returns : goal.returns
unfolding piece
returns c =
    let old : List ℕ = c.args.out.now.items in
    let p : List ℕ = c.args.payload.now in
    let sum : List ℕ = checksum c.args.name c.args.index p in
    c.in_ok-extend_from_slice-3.ensures.items
    ∙ ap (λ (l : List ℕ). l ++ p) (c.in_ok-extend_from_slice-2.ensures.items ∙ ap (λ (l : List ℕ). l ++ c.checksum_of.result) (c.in_ok-extend_from_slice.ensures.items ∙ ap (λ (l : List ℕ). old ++ l) c.to_be_bytes.ensures) ∙ ap (λ (l : List ℕ). (old ++ to_be_bytes w16 (length p)) ++ l) c.checksum_of.ensures)
    ∙ append_assoc (old ++ to_be_bytes w16 (length p)) sum p ∙ append_assoc old (to_be_bytes w16 (length p)) (sum ++ p)
