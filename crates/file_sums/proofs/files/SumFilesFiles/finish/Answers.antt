use Rattle.std.proofs.Common.{ap, subst, ◌∙◌, ◌+◌, ◌/◌, ◌^◌, ◌++◌, List, ℕ, length, Option}
use Rattle.std.specs.BTreeSet.{BTreeSet}
use Rattle.file_store.specs.Store.{Contents, MayHaveFile, with_file}
use Rattle.file_sums.specs.Pieces.{pieces}
use Rattle.file_sums.specs.Shown.{all_shown, sums_in}
use Rattle.file_sums.proofs.Payloads.{round_trip}
use Rattle.file_sums.proofs.Places.{ok_from, err_from}
use Rattle.file_sums.proofs.Sums.{finished_has}
use Rattle.file_sums.proofs.files.SumFilesFiles.finish.Goals as goal

pub returns-clause-ok : goal.returns-clause-ok
returns-clause-ok g c =
    rw (← c.writing.view_is) (ok_from c.place.result (λ holds image has.
    let name : ℕ = c.writing.inside.name + 2 ^ 63 in
    let stored : List ℕ = pieces name 0 image (length image / 1024 + 1) in
    let here = finished_has (g.F.Files.has c.push_last.new.writing) name c.writing.inside.count image c.writing.inside.waiting.items has.1 has.2
    (subst (λ (l : List ℕ). g.F.Files.has c.push_last.new.writing (pieces name 0 image c.writing.inside.count ++ pieces name c.writing.inside.count l (length l / 1024 + 1))) c.deref.ensures.value
    (c.in_default.ensures.pushed (pieces name 0 image c.writing.inside.count) has.0)) in
    holds stored here
    ∙ ap (λ (p : List ℕ). with_file c.writing.inside.name p (all_shown (sums_in c.push_last.new.self.summed) (g.F.Files.contents c.push_last.new.self.inner))) (round_trip name image)
    ∙ ap (λ (s : BTreeSet ℕ). with_file c.writing.inside.name image (all_shown (sums_in s) (g.F.Files.contents c.push_last.new.self.inner))) c.push_last.ensures.summed
    ∙ ap (λ (o : Option Contents). with_file c.writing.inside.name image (all_shown (sums_in c.args.self.now.summed) o)) c.push_last.ensures.same) c.place.ensures.ok)

pub returns-clause-whole : goal.returns-clause-whole
returns-clause-whole g c =
    rw (← c.writing.view_is) (λ rep. err_from c.place.result (λ holds image has.
    let name : ℕ = c.writing.inside.name + 2 ^ 63 in
    let stored : List ℕ = pieces name 0 image (length image / 1024 + 1) in
    let here = finished_has (g.F.Files.has c.push_last.new.writing) name c.writing.inside.count image c.writing.inside.waiting.items has.1 has.2
    (subst (λ (l : List ℕ). g.F.Files.has c.push_last.new.writing (pieces name 0 image c.writing.inside.count ++ pieces name c.writing.inside.count l (length l / 1024 + 1))) c.deref.ensures.value
    (c.in_default.ensures.pushed (pieces name 0 image c.writing.inside.count) has.0)) in
    subst (λ (o : Option Contents). MayHaveFile c.writing.inside.name image (all_shown (sums_in c.args.self.now.summed) o) (all_shown (sums_in c.place.new.self.summed) (g.F.Files.contents c.place.new.self.inner))) c.push_last.ensures.same
    (subst (λ (s : BTreeSet ℕ). MayHaveFile c.writing.inside.name image (all_shown (sums_in s) (g.F.Files.contents c.push_last.new.self.inner)) (all_shown (sums_in c.place.new.self.summed) (g.F.Files.contents c.place.new.self.inner))) c.push_last.ensures.summed
    (subst (λ (p : List ℕ). MayHaveFile c.writing.inside.name p (all_shown (sums_in c.push_last.new.self.summed) (g.F.Files.contents c.push_last.new.self.inner)) (all_shown (sums_in c.place.new.self.summed) (g.F.Files.contents c.place.new.self.inner))) (round_trip name image)
    (holds stored here)))) (c.place.ensures.whole rep))
