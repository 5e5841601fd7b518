use Rattle.std.proofs.Common.{ap, ◌∙◌, ◌≡◌, ◌++◌, List, ℕ}
use Rattle.std.specs.Prelude.{IfSome}
use Rattle.std.specs.FinMap.{keys}
use Rattle.std.specs.List.{list_any}
use Rattle.file_sums.specs.Shown.{shows, sums_in, all_shown}
use Rattle.file_sums.proofs.Names.{names_shown}
use Rattle.file_sums.proofs.Sums.{over_same}
use Rattle.file_sums.proofs.files.SumFilesFiles.list.Goals as goal

pub returns-clause-ok : goal.returns-clause-ok
returns-clause-ok g c =
    let found : IfSome (g.F.Files.contents c.args.self.now.inner) (λ m. c.list.new.names.items ≡ keys m) =
    over_same (g.F.Files.contents c.args.self.now.inner) (λ m. c.list.new.names.items ≡ c.new-found.result.items ++ keys m) (λ m. c.list.new.names.items ≡ keys m)
    (λ m e. e ∙ ap (λ (l : List ℕ). l ++ keys m) c.new-found.ensures.items) c.in_ok-list.ensures.ok in
    over_same (all_shown (sums_in c.args.self.now.summed) (g.F.Files.contents c.args.self.now.inner)) (λ m. c.in_ok-shown.shown.keys ≡ keys m)
    (λ m. c.append_all.new.names.items ≡ c.args.names.now.items ++ keys m)
    (λ m is. c.in_ok-append_all.ensures.ok ∙ ap (λ (l : List ℕ). c.args.names.now.items ++ l) is)
    (names_shown (sums_in c.args.self.now.summed) (g.F.Files.contents c.args.self.now.inner) c.in_ok-shown.shown c.list.new.names.items found c.append_all.ensures.ordered
    (λ q. c.in_ok-shown.ensures q ∙ ap (λ (l : List ℕ). list_any (λ k. shows (sums_in c.args.self.now.summed) k q) l) c.deref.ensures.value))
