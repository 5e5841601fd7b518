use Rattle.std.proofs.Common.{subst, ◌∙◌, ◌+◌, ◌^◌, ◌++◌, List, ℕ}
use Rattle.file_sums.specs.Pieces.{pieces}
use Rattle.file_sums.proofs.Sums.{pushed_has}
use Rattle.file_sums.proofs.files.SumFilesFiles.push.Goals as goal

pub returns-clause-pushed : goal.returns-clause-pushed
returns-clause-pushed g c =
    rw (← c.writing.view_is) (λ before has.
    let name : ℕ = c.writing.inside.name + 2 ^ 63 in
    pushed_has (g.F.Files.has c.push.new.writing) name c.writing.inside.count before c.args.bytes.now c.writing.inside.waiting.items c.as_slice-waiting.result.now c.in_ok-out.out.items c.in_ok-rest.rest.items
    has.1 has.2 (c.as_slice-waiting.ensures.value ∙ c.in_ok-extend_from_slice.ensures.items) c.in_ok-out.ensures.pieces (c.in_ok-rest.ensures.items ∙ c.in_ok-out.ensures.rest)
    (subst (λ (l : List ℕ). g.F.Files.has c.push.new.writing (pieces name 0 before c.writing.inside.count ++ l)) c.deref.ensures.value (c.in_ok-push.ensures.pushed (pieces name 0 before c.writing.inside.count) has.0)))
