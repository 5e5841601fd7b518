use Rattle.std.proofs.Common.{◌≡◌, ◌-◌, ◌^◌, ◌<◌, ◌+◌, ℕ, List, take, min, length, get_or, arith}
use Rattle.std.specs.Prelude.{sum_by}
use Rattle.std.proofs.lemmas.List.Sums.{sum_by_more}
use Rattle.sorted_file.specs.File.{bytes_of}
use Rattle.sorted_file.specs.declared.file.SortedFile.{SortedFile}
use Rattle.tablet.proofs.tablet.Tablet.file_bytes.Goals as goal

-- the bytes of one file more
one_more : (files items : List SortedFile) (i bytes size next : ℕ) (file : SortedFile) → i < length items → items ≡ files
    → file ≡ get_or items i file → size ≡ bytes_of file → bytes ≡ min (sum_by bytes_of (take i files)) (2 ^ 64 - 1)
    → next ≡ min (bytes + size) (2 ^ 64 - 1) → next ≡ min (sum_by bytes_of (take (i + 1) files)) (2 ^ 64 - 1)
one_more files items i bytes size next file within same is sized before after =
    let more = sum_by_more bytes_of items i file within in
    let of_file : size ≡ bytes_of (get_or items i file) = cc in
    let sums : sum_by bytes_of (take (i + 1) files) ≡ sum_by bytes_of (take i files) + size = cc in
    omega (arith, sums, before, after)

pub loop-file-preserved : goal.loop-file-preserved
loop-file-preserved c = record {
  bytes = one_more _ _ _ _ _ _ _ c.loop-file-test.true c.as_slice-file-items.ensures c.file-item.is c.entry_bytes.ensures.count c.loop-file.invariant.bytes c.saturating_add-bytes.ensures;
}
