use Rattle.std.proofs.Common.{ℕ, List, [], map, get_or, ap, ◌∙◌, arith}
use Rattle.std.specs.List.{range_with_len}
use Rattle.std.proofs.lemmas.List.FromFn.{get_or-map-range_with_len}
use Rattle.commit_log.specs.Crc32.{shifted}
use Rattle.commit_log.proofs.checksums.shifted.Goals as goal

abbrev table : ℕ → List ℕ
table zeros = map (shifted zeros) (range_with_len 0 256)

pub returns : goal.returns
unfolding shifted
returns c =
    let tables = get_or-map-range_with_len table 0 8 c.args.zeros c.args.zeros [] (omega arith) (omega arith) in
    ap (λ (t : List ℕ). get_or t c.args.byte 0) tables
    ∙ get_or-map-range_with_len (shifted c.args.zeros) 0 256 c.args.byte c.args.byte 0 (omega arith) (omega arith)
