use Rattle.std.proofs.Common.{ℕ, sym, ap, subst, ◌∙◌}
use Rattle.sorted_file.specs.Block.{entries_of}
use Rattle.sorted_file.specs.Grammar.{FitsIn}
use Rattle.sorted_file.specs.Index.{blocks_of, entries_in}
use Rattle.sorted_file.specs.declared.check.Opening.{Opening}
use Rattle.sorted_file.proofs.Growth.{flat-last}
use Rattle.sorted_file.proofs.Results.{if_ok}
use Rattle.sorted_file.proofs.builder.FileBuilder.finish.Goals as goal

pub returns-clause-entries : goal.returns-clause-entries
returns-clause-entries g c =
    let closed = ap entries_in c.in_ok-close_block.ensures.blocks ∙ flat-last (blocks_of c.args.self.opening.rows.items) (entries_of c.args.self.current.block) in
    if_ok c.push_rest-2.result _ _ (λ opening same. ap (λ (o : Opening). entries_in (blocks_of o.rows.items)) same ∙ closed) c.push_rest-2.ensures.opening

pub returns-clause-large : goal.returns-clause-large
returns-clause-large g c = λ err fits.
    let closed = ap entries_in c.in_ok-close_block.ensures.blocks ∙ flat-last (blocks_of c.args.self.opening.rows.items) (entries_of c.args.self.current.block) in
    c.push_rest-2.ensures.large err (subst (λ (n : ℕ). FitsIn n (entries_in (blocks_of c.close_block.new.self.opening.rows.items))) (sym c.in_ok-close_block.ensures.size) (subst (FitsIn c.args.self.opening.size) (sym closed) fits))
