use Rattle.std.proofs.Common.{◌≡◌, ℕ, ◌+◌, ◌<◌, ◌∙◌, List, [], ◌∷◌, ◌++◌, map, take, length, get_or, ap, sym}
use Rattle.std.proofs.lemmas.List.{map_more}
use Rattle.sorted_file.specs.File.{name_of}
use Rattle.sorted_file.specs.declared.file.SortedFile.{SortedFile}
use Rattle.tablet.proofs.run_merge.names_of.Goals as goal

one_more : (out new : List ℕ) (files : List SortedFile) (i name : ℕ) (file : SortedFile) → i < length files → file ≡ get_or files i file → name ≡ name_of file
    → out ≡ map name_of (take i files) → new ≡ out ++ name ∷ [] → new ≡ map name_of (take (i + 1) files)
one_more out new files i name file h is named before after =
    let more = map_more name_of files i file h in
    cc

pub loop-file-preserved : goal.loop-file-preserved
loop-file-preserved c = one_more _ _ _ _ _ _ c.loop-file-test.true c.file-item.is c.name.ensures c.loop-file.invariant c.in_ok-push.ensures.items
