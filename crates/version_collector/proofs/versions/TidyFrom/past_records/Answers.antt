use Rattle.std.proofs.Common.{◌≡◌, ◌-◌, ◌∙◌, ℕ, length, map, option_map, Some, slice_get, ap, sym}
use Rattle.std.proofs.lemmas.List.{length-map}
use Rattle.std.proofs.lemmas.Option.{slice_get-map}
use Rattle.version_collector.proofs.TidyCells.{last_is}
use Rattle.version_collector.proofs.versions.TidyFrom.past_records.Goals as goal

pub returns-in-Some-clause-commit : goal.returns-in-Some-clause-commit
returns-in-Some-clause-commit c =
    let first : ℕ × ℕ → ℕ = λ v. v.0 in
    let vs = c.args.records.now in
    let last : Some c.in-Some.field-0.now.0 ≡ slice_get (map first vs) (length (map first vs) - 1) =
    ap (option_map first) c.in-Some.ensures.value ∙ sym (slice_get-map first vs (length vs - 1)) ∙ ap (λ (n : ℕ). slice_get (map first vs) (n - 1)) (sym (length-map vs first)) in
    c.stamp.ensures.stamp ∙ last_is c.args.self.commit (map first vs) c.in-Some.field-0.now.0 last
