use Rattle.std.proofs.Common.{[], List, ℕ, refl, sym, ap, subst, ◌∙◌}
use Rattle.sorted_file.specs.Block.{bytes_at, entries_of, IsLastText}
use Rattle.sorted_file.specs.Builder.{KeepsLast}
use Rattle.sorted_file.specs.Index.{blocks_of, entries_in}
use Rattle.cell_key.specs.Entries.{Entry}
use Rattle.sorted_file.proofs.BuiltFiles.{last_of_both, none_built}
use Rattle.sorted_file.proofs.builder.FileBuilder.last_key.Goals as goal

pub returns-in-Some-clause-lent : goal.returns-in-Some-clause-lent
returns-in-Some-clause-lent c =
    let block = c.args.self.now.current.block in
    let last = subst (KeepsLast (entries_of block) block.bytes.items) c.in-Some.is c.requires.last in
    let is = c.lend.ensures ∙ ap (λ (l : List ℕ). bytes_at l c.in-Some.last.text) c.deref.ensures.value in
    record { key = last.key; stored = last.stored; is = is ∙ last.is; place = last.place; qualifier = last.qualifier; stamp = last.stamp }

pub returns-in-Some-clause-text : goal.returns-in-Some-clause-text
returns-in-Some-clause-text c =
    let block = c.args.self.now.current.block in
    let es = entries_of block in
    let last = subst (KeepsLast es block.bytes.items) c.in-Some.is c.requires.last in
    let is = c.lend.ensures ∙ ap (λ (l : List ℕ). bytes_at l c.in-Some.last.text) c.deref.ensures.value in
    last_of_both (entries_in (blocks_of c.args.self.now.opening.rows.items)) es c.lend.result.now last.some (subst (IsLastText es) (sym is) last.named)

pub returns-in-None-clause-text : goal.returns-in-None-clause-text
returns-in-None-clause-text c =
    let block = c.args.self.now.current.block in
    let es = entries_of block in
    let none = none_built (blocks_of c.args.self.now.opening.rows.items) es c.requires.followed (subst (KeepsLast es block.bytes.items) c.in-None.is c.requires.last) in
    subst (λ (l : List Entry). IsLastText l []) (sym none) refl
