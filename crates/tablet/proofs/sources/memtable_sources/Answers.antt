use Rattle.std.proofs.Common.{rules, ◌≡◌, [], ◌∷◌, sym, subst}
use Rattle.std.specs.List.{AllByRecursion}
use Rattle.std.specs.Option.{option_copied}
use Rattle.tablet.specs.Sources.{AreSourcesOf, IsAtStart}
use Rattle.tablet.proofs.sources.memtable_sources.Goals as goal
use Rattle.tablet.proofs.sources.memtable_sources.Goals.{in-Some+in_ok-push, in_default}

pub returns-clause-start : goal.returns-clause-start
returns-clause-start c = λ m.
    elim c.match-memtable.branch [
      | in-Some+in_ok-push w ↦
          let one : c.match-memtable.sources.items ≡ w.memtable_source.result ∷ [] = search rules in
          subst (AllByRecursion (IsAtStart m)) (sym one) (w.memtable_source.ensures.start m, tt)
      | in_default w ↦
          let none : c.match-memtable.sources.items ≡ [] = search rules in
          subst (AllByRecursion (IsAtStart m)) (sym none) tt
    ]

pub returns-clause-of : goal.returns-clause-of
returns-clause-of c =
    let from = c.args.from.now in
    let end = option_copied c.args.end in
    elim c.match-memtable.branch [
      | in-Some+in_ok-push w ↦
          let one : c.match-memtable.sources.items ≡ w.memtable_source.result ∷ [] = search rules in
          subst (AreSourcesOf from end (option_copied c.args.memtable) []) (sym one) (subst (λ (o : _). AreSourcesOf from end (option_copied o) [] (w.memtable_source.result ∷ [])) (sym w.in-Some.is) (w.memtable_source.ensures.of, tt))
      | in_default w ↦
          let none : c.match-memtable.sources.items ≡ [] = search rules in
          subst (AreSourcesOf from end (option_copied c.args.memtable) []) (sym none) (subst (λ (o : _). AreSourcesOf from end (option_copied o) [] []) (sym w.in_default.is) tt)
    ]
