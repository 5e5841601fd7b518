use Rattle.std.proofs.Common.{◌≡◌, ◌∙◌, ℕ, true, false, sym, ap, subst, inl, inr, rules}
use Rattle.std.specs.BTreeSet.{BTreeSet, contains}
use Rattle.std.specs.Ordering.{nat_cmp}
use Rattle.file_sums.specs.Shown.{sums_in, KeepsBut}
use Rattle.file_sums.proofs.Changes.{all_same}
use Rattle.file_sums.proofs.Sums.{all, back}
use Rattle.file_sums.proofs.Places.{on_ok, on_err, failed_others, failed_whole, done, done_others}
use Rattle.file_sums.proofs.files.SumFiles.place.Goals as goal

pub returns-then-not-expect-clause-whole : goal.returns-then-not-expect-clause-whole
returns-then-not-expect-clause-whole g c = λ _ image has.
    let refused : c.expect.result ≡ false = search rules in
    inl (all_same (sums_in c.args.self.now.summed) (sums_in c.expect.new.self.summed) (g.F.Files.contents c.args.self.now.inner) (g.F.Files.contents c.give_up.new.self)
    (all c.args.self.now.summed c.expect.new.self.summed (c.expect.ensures.refused refused)) (c.give_up.ensures.same ∙ ap g.F.Files.contents c.expect.ensures.inner))

pub returns-in-Err-clause-others : goal.returns-in-Err-clause-others
returns-in-Err-clause-others g c =
    let noted : contains nat_cmp c.expect.new.self.summed c.args.name ≡ true = search rules in
    failed_others c.args.self.now.summed c.take_back.new.self.summed (g.F.Files.contents c.args.self.now.inner) (g.F.Files.contents c.expect.new.self.inner) (g.F.Files.contents c.finish.new.self) (g.F.Files.contents c.take_back.new.self.inner)
    c.args.name (g.F.Files.writes_to c.args.file) c.requires.low c.requires.named (ap g.F.Files.contents c.expect.ensures.inner)
    (back c.args.name c.contains-was_summed.result (contains nat_cmp c.args.self.now.summed) (contains nat_cmp c.expect.new.self.summed) (contains nat_cmp c.take_back.new.self.summed)
    c.contains-was_summed.ensures noted c.expect.ensures.others c.take_back.ensures.removed c.take_back.ensures.kept)
    c.finish.ensures.others (ap g.F.Files.contents c.take_back.ensures.inner)

pub returns-in-Err-clause-whole : goal.returns-in-Err-clause-whole
returns-in-Err-clause-whole g c = λ rep image has.
    let noted : contains nat_cmp c.expect.new.self.summed c.args.name ≡ true = search rules in
    failed_whole c.args.self.now.summed c.take_back.new.self.summed (g.F.Files.contents c.args.self.now.inner) (g.F.Files.contents c.expect.new.self.inner) (g.F.Files.contents c.finish.new.self) (g.F.Files.contents c.take_back.new.self.inner)
    c.args.name (g.F.Files.writes_to c.args.file) c.requires.low c.requires.named (ap g.F.Files.contents c.expect.ensures.inner) image
    (back c.args.name c.contains-was_summed.result (contains nat_cmp c.args.self.now.summed) (contains nat_cmp c.expect.new.self.summed) (contains nat_cmp c.take_back.new.self.summed)
    c.contains-was_summed.ensures noted c.expect.ensures.others c.take_back.ensures.removed c.take_back.ensures.kept)
    (c.in-Err.ensures.whole rep image has) (ap g.F.Files.contents c.take_back.ensures.inner)

pub returns-clause-ok : goal.returns-clause-ok
returns-clause-ok g c = on_ok c.remove_plain.result (λ image has.
    let noted : contains nat_cmp c.remove_plain.new.self.summed c.args.name ≡ true = ap (λ (x : BTreeSet ℕ). contains nat_cmp x c.args.name) c.remove_plain.ensures.summed ∙ search rules in
    done c.args.self.now.summed c.remove_plain.new.self.summed (g.F.Files.contents c.args.self.now.inner) (g.F.Files.contents c.expect.new.self.inner) (g.F.Files.contents c.finish.new.self) (g.F.Files.contents c.remove_plain.new.self.inner)
    c.args.name (g.F.Files.writes_to c.args.file) c.requires.low c.requires.named (ap g.F.Files.contents c.expect.ensures.inner) image noted
    (subst (λ (x : BTreeSet ℕ). KeepsBut c.args.name (contains nat_cmp c.args.self.now.summed) (contains nat_cmp x)) (sym c.remove_plain.ensures.summed) c.expect.ensures.others)
    (c.in_default.ensures.ok image has) c.remove_plain.ensures.may)

pub returns-clause-others : goal.returns-clause-others
returns-clause-others g c =
    done_others c.args.self.now.summed c.remove_plain.new.self.summed (g.F.Files.contents c.args.self.now.inner) (g.F.Files.contents c.expect.new.self.inner) (g.F.Files.contents c.finish.new.self) (g.F.Files.contents c.remove_plain.new.self.inner)
    c.args.name (g.F.Files.writes_to c.args.file) c.requires.low c.requires.named (ap g.F.Files.contents c.expect.ensures.inner)
    (subst (λ (x : BTreeSet ℕ). KeepsBut c.args.name (contains nat_cmp c.args.self.now.summed) (contains nat_cmp x)) (sym c.remove_plain.ensures.summed) c.expect.ensures.others)
    c.finish.ensures.others c.remove_plain.ensures.may

pub returns-clause-whole : goal.returns-clause-whole
returns-clause-whole g c = λ rep. on_err c.remove_plain.result (λ image has.
    let noted : contains nat_cmp c.remove_plain.new.self.summed c.args.name ≡ true = ap (λ (x : BTreeSet ℕ). contains nat_cmp x c.args.name) c.remove_plain.ensures.summed ∙ search rules in
    inr (done c.args.self.now.summed c.remove_plain.new.self.summed (g.F.Files.contents c.args.self.now.inner) (g.F.Files.contents c.expect.new.self.inner) (g.F.Files.contents c.finish.new.self) (g.F.Files.contents c.remove_plain.new.self.inner)
    c.args.name (g.F.Files.writes_to c.args.file) c.requires.low c.requires.named (ap g.F.Files.contents c.expect.ensures.inner) image noted
    (subst (λ (x : BTreeSet ℕ). KeepsBut c.args.name (contains nat_cmp c.args.self.now.summed) (contains nat_cmp x)) (sym c.remove_plain.ensures.summed) c.expect.ensures.others)
    (c.in_default.ensures.ok image has) c.remove_plain.ensures.may))
