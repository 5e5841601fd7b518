use Rattle.std.proofs.Common.{◌≡◌, ◌<◌, ◌+◌, List, ◌∷◌, length, sym, ap, subst, ◌∙◌, arith}
use Rattle.std.proofs.lemmas.Bool.{ltb-true, lt-ltb}
use Rattle.cell_key.specs.Entries.{Entry, lent_entry, spelled}
use Rattle.sorted_file.specs.Grammar.{block_bytes}
use Rattle.sorted_file.specs.Index.{block_of, blocks_of, AreRows}
use Rattle.sorted_file.specs.Check.{IsFollowed}
use Rattle.sorted_file.specs.declared.block.BlockRow.{BlockRow}
use Rattle.sorted_file.proofs.Joining.{followed_last, last_row, map_joined}
use Rattle.sorted_file.proofs.block.is_followed.Goals as goal

pub returns : goal.returns
returns c = λ rows es.
    let cut = c.in-Some.ensures.cases.0 in
    let first = lent_entry c.args.first in
    let size = last_row 8 c.in-Some.field-0-1.now c.in-Some.row.now (subst (λ (l : List BlockRow). AreRows 8 l) cut rows) in
    let followed : IsFollowed (blocks_of c.args.rows.now) (first ∷ es) ≡ (4096 < length (block_bytes (block_of c.in-Some.row.now)) + length (spelled first)) =
    ap (λ (l : List BlockRow). IsFollowed (blocks_of l) (first ∷ es)) cut
    ∙ ap (λ (l : List (List Entry)). IsFollowed l (first ∷ es)) (map_joined block_of c.in-Some.field-0-1.now c.in-Some.row.now)
    ∙ followed_last (blocks_of c.in-Some.field-0-1.now) (block_of c.in-Some.row.now) (first ∷ es) in
    let len = c.spelled_len.ensures in (
      λ t. subst (λ (P : Type 0). P) (sym followed) (let lt = ltb-true 4096 (c.in-Some.row.now.length + c.spelled_len.result) t in omega (arith, lt, size, len)),
      λ f. lt-ltb 4096 (c.in-Some.row.now.length + c.spelled_len.result) (let lt = subst (λ (P : Type 0). P) followed f in omega (arith, lt, size, len)),
    )
