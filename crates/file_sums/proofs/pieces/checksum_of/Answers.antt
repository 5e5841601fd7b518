use Rattle.std.proofs.Common.{◌∙◌, ap, List, ℕ, ◌++◌}
use Rattle.std.specs.Int.{to_be_bytes, w32}
use Rattle.commit_log.specs.Crc32.{crc32}
use Rattle.file_sums.specs.Pieces.{checksum}
use Rattle.file_sums.proofs.pieces.checksum_of.Goals as goal

pub returns : goal.returns
unfolding checksum
returns c =
    c.to_be_bytes.ensures ∙ ap (to_be_bytes w32) (c.crc32.ensures ∙ ap (λ (l : List ℕ). crc32 (l ++ c.args.payload.now)) c.place_of.ensures)
