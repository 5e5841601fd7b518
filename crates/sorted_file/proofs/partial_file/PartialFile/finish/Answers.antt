use Rattle.std.proofs.Common.{ℕ, ap, ◌∙◌}
use Rattle.file_store.specs.Store.{with_file}
use Rattle.sorted_file.specs.File.{IsOpen}
use Rattle.sorted_file.proofs.PutFiles.{where_put}
use Rattle.sorted_file.proofs.partial_file.PartialFile.finish.Goals as goal

pub returns-in-Ok-clause-opened : goal.returns-in-Ok-clause-opened
returns-in-Ok-clause-opened g c =
    let made = c.in-Ok.ensures.image in
    let name = c.in-Ok.ensures.pushes.named ∙ c.requires.able.named in
    where_put _ _ c.args.self.name made.0 (λ m. IsOpen m c.in-Ok.file)
    (c.in_ok-finish-in-Ok.ensures.ok made.0 made.1.0 ∙ ap (λ (n : ℕ). with_file n made.0 (g.F.Files.contents c.end_file.new.files)) name) made.1.2
