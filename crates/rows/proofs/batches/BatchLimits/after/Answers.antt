use Rattle.std.proofs.Common.{◌≡◌, ◌<◌, ◌+◌, ◌∷◌, ◌++◌, ◌∙◌, [], ℕ, List, add-one, ap, sym, arith, get_or, length, take}
use Rattle.std.proofs.Math.Seq.{take-suc}
use Rattle.std.proofs.lemmas.List.Sums.{sum_by-append}
use Rattle.rows.specs.Batches.{bytes_in, bytes_of}
use Rattle.rows.specs.declared.batches.CellVersions.{CellVersions}
use Rattle.rows.proofs.batches.BatchLimits.after.Goals as goal

one_more : (xs : List CellVersions) (i : ℕ) (x : CellVersions) → i < length xs → x ≡ get_or xs i x → take (i + 1) xs ≡ take i xs ++ x ∷ []
one_more xs i x l e = rw add-one (take-suc xs i x l ∙ ap (λ y. take i xs ++ y ∷ []) (sym e))

bytes_more : (xs : List CellVersions) (i : ℕ) (x : CellVersions) → i < length xs → x ≡ get_or xs i x → bytes_in (take (i + 1) xs) ≡ bytes_in (take i xs) + (0 + bytes_of x)
bytes_more xs i x l is = ap bytes_in (one_more xs i x l is) ∙ sum_by-append bytes_of (take i xs) (x ∷ [])

pub loop-cell-preserved : goal.loop-cell-preserved
loop-cell-preserved c =
    let more = bytes_more c.args.cells.now c.loop-cell.cell-index c.cell-item.result c.loop-cell-test.true c.cell-item.is in
    let was = c.loop-cell.invariant in
    let now = c.bytes_after-bytes.ensures in
    omega (arith, more, was, now)
