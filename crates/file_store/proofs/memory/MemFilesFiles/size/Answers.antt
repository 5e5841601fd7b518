use Rattle.std.proofs.Common.{◌≡◌, refl, ap, ◌∙◌}
use Rattle.std.specs.Prelude.{Some, Ok, option_map}
use Rattle.std.specs.Option.{option_copied}
use Rattle.std.specs.FinMap as map
use Rattle.file_store.proofs.Seen.{found}
use Rattle.file_store.proofs.memory.MemFilesFiles.size.Goals as goal
use Rattle.file_store.proofs.memory.MemFilesFiles.size.Goals.{in-Some, in-None}

pub returns-clause-size : goal.returns-clause-size
returns-clause-size c =
    let is : map.get c.args.self.now c.args.name ≡ option_map (λ v. v.items) (option_copied c.get.result) = found c.self.inside.files.entries c.args.self.now c.args.name (option_copied c.get.result) c.self.view_is c.get.ensures.value in
    elim c.match-get.branch [
      | in-Some w ↦ rw (w.result-is, is, w.in-Some.is) (ap (λ n. Ok (Some n)) (w.len.ensures ∙ w.in-Some.bytes.now.ok.0))
      | in-None w ↦ rw (w.result-is, is, w.in-None.is) refl
    ]
