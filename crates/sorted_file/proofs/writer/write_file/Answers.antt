use Rattle.std.proofs.Common.{ℕ, ap, ◌∙◌}
use Rattle.file_store.specs.Store.{with_file}
use Rattle.sorted_file.specs.File.{IsOpen}
use Rattle.sorted_file.proofs.PutFiles.{where_put}
use Rattle.sorted_file.proofs.writer.write_file.Goals as goal

pub returns-in_ok-finish-in-Ok-clause-opened : goal.returns-in_ok-finish-in-Ok-clause-opened
returns-in_ok-finish-in-Ok-clause-opened g c =
    let made = c.in-Ok.ensures.image in
    let name = c.in-Ok.ensures.pushes.named ∙ c.in_ok-writing.ensures.named in
    where_put _ _ c.args.name made.0 (λ m. IsOpen m c.in-Ok.file)
    (c.in_ok-finish-in-Ok.ensures.ok made.0 made.1.0 ∙ ap (λ (n : ℕ). with_file n made.0 (g.F.Files.contents c.write_rest.new.files)) name) made.1.2
