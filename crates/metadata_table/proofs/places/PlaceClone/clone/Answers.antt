use Rattle.std.proofs.Common.{rules, ◌≡◌, ℕ, ◌∙◌}
use Rattle.std.proofs.lemmas.List.{map-id}
use Rattle.std.proofs.lemmas.Slice.Zip.{AllZip-map}
use Rattle.metadata_table.proofs.places.PlaceClone.clone.Goals as goal

pub returns : goal.returns
returns c =
    let names = c.args.self.now.files.items in
    let end : c.in_ok-end.end ≡ c.args.self.now.end = search rules in
    let files = AllZip-map (λ (name : ℕ). name) names c.in_ok-files.files.items c.in_ok-files.ensures.cases.0 ∙ map-id names in
    record { cases = λ i. record { tablet = c.args.self.now.tablet; end = end i; server = c.args.self.now.server; files = files i } }
