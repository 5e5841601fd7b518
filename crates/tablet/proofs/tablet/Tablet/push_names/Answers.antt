use Rattle.std.proofs.Common.{◌≡◌, ℕ, ◌+◌, ◌<◌, List, [], ◌∷◌, ◌++◌, map, take, length, get_or, append_assoc, arith}
use Rattle.std.proofs.lemmas.List.{map_more}
use Rattle.sorted_file.specs.File.{name_of}
use Rattle.sorted_file.specs.declared.file.SortedFile.{SortedFile}
use Rattle.tablet.proofs.tablet.Tablet.push_names.Goals as goal

one_more : (start out new : List ℕ) (files items : List SortedFile) (i name : ℕ) (file : SortedFile) → i < length items → items ≡ files → file ≡ get_or items i file → name ≡ name_of file
    → out ≡ start ++ map name_of (take i files) → new ≡ out ++ name ∷ [] → new ≡ start ++ map name_of (take (i + 1) files)
one_more start out new files items i name file h same is named before after =
    let more = map_more name_of items i file h in
    let joined = append_assoc start (map name_of (take i items)) (name_of file ∷ []) in
    cc

pub loop-file-preserved : goal.loop-file-preserved
loop-file-preserved c = record {
  names = one_more _ _ _ _ _ _ _ _ c.loop-file-test.true c.as_slice-file-items.ensures c.file-item.is c.name.ensures c.loop-file.invariant.names c.push_reserved.ensures.items;
  count = (let a = c.push_reserved.ensures.len in let b = c.loop-file.invariant.count in omega arith);
  room = (let a = c.push_reserved.ensures.capacity in let b = c.loop-file.invariant.room in omega arith);
}
