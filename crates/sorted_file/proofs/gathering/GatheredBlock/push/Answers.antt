use Rattle.std.proofs.Common.{◌∷◌, ◌++◌, [], ℕ, List, sym, ap, subst, ◌∙◌, arith}
use Rattle.cell_key.specs.Entries.{Entry, IsEntry, lent_entry}
use Rattle.sorted_file.specs.Block.{entries_of, IsParsed}
use Rattle.sorted_file.specs.Columns.{AreColumnsOf}
use Rattle.sorted_file.specs.declared.block.Block.{Block}
use Rattle.sorted_file.proofs.GrowingBlocks.{pushed}
use Rattle.sorted_file.proofs.Joining.{all_back}
use Rattle.sorted_file.proofs.Parsed.{parsed_is}
use Rattle.sorted_file.proofs.Results.{always_ok, on_ok}
use Rattle.sorted_file.proofs.Widths.{entry_small}
use Rattle.sorted_file.proofs.gathering.GatheredBlock.push.Goals as goal

pub push_entry-requires : goal.push_entry-requires
push_entry-requires c =
    let e = lent_entry c.args.entry in
    let small = entry_small e (all_back IsEntry (entries_of c.args.self.now.block) (e ∷ []) c.requires.list.each).0 in
    omega (arith, small)

pub returns-clause-entries : goal.returns-clause-entries
returns-clause-entries c =
    let block : Block = record { bytes = c.push_entry.new.out; starts = c.push.new.self } in
    let p = pushed _ (lent_entry c.args.entry) c.args.self.now.block block c.requires.parsed c.requires.list c.requires.fits c.in_ok-push_entry.ensures.ok (c.in_ok-push.ensures.items ∙ ap (λ (n : ℕ). c.args.self.now.block.starts.items ++ n ∷ []) (c.len-start.ensures ∙ c.args.self.now.block.bytes.ok.0)) in
    always_ok c.add.result _ (parsed_is _ block p)

pub returns-clause-parsed : goal.returns-clause-parsed
returns-clause-parsed c =
    let block : Block = record { bytes = c.push_entry.new.out; starts = c.push.new.self } in
    let p = pushed _ (lent_entry c.args.entry) c.args.self.now.block block c.requires.parsed c.requires.list c.requires.fits c.in_ok-push_entry.ensures.ok (c.in_ok-push.ensures.items ∙ ap (λ (n : ℕ). c.args.self.now.block.starts.items ++ n ∷ []) (c.len-start.ensures ∙ c.args.self.now.block.bytes.ok.0)) in
    always_ok c.add.result _ (subst (λ (es : List Entry). IsParsed es block) (sym (parsed_is _ block p)) p)

pub returns-clause-columns : goal.returns-clause-columns
returns-clause-columns c =
    let block : Block = record { bytes = c.push_entry.new.out; starts = c.push.new.self } in
    let p = pushed _ (lent_entry c.args.entry) c.args.self.now.block block c.requires.parsed c.requires.list c.requires.fits c.in_ok-push_entry.ensures.ok (c.in_ok-push.ensures.items ∙ ap (λ (n : ℕ). c.args.self.now.block.starts.items ++ n ∷ []) (c.len-start.ensures ∙ c.args.self.now.block.bytes.ok.0)) in
    on_ok c.add.result _ _ (λ added k. subst (λ (es : List Entry). AreColumnsOf c.add.new.self es) (sym (parsed_is _ block p)) (added (entries_of c.args.self.now.block) k)) c.add.ensures.added
