use Rattle.sorted_file.specs.File.{IsOpen}
use Rattle.sorted_file.proofs.Results.{if_ok, if_some}
use Rattle.sorted_file.proofs.file.SortedFile.open_over.Goals as goal

pub returns-clause-opened : goal.returns-clause-opened
returns-clause-opened g c =
    if_ok c.of_opening.result _ _ (λ file opens. if_some (g.F.Files.contents c.args.files.now) _ (λ m. IsOpen m file) opens c.in_ok-opening.ensures.whole) c.of_opening.ensures.opened
