use Rattle.cell_key.specs.Entries.{lent_entry}
use Rattle.sorted_file.specs.Builder.{built}
use Rattle.sorted_file.proofs.BuiltFiles.{goes_not, goes_on, is_list}
use Rattle.sorted_file.proofs.Results.{if_none, if_some, some_both}
use Rattle.sorted_file.proofs.builder.FileBuilder.key_of_next.Goals as goal

pub returns-clause-list : goal.returns-clause-list
returns-clause-list c =
    if_some c.key_behind.result _ _ (λ key h. goes_on (built c.args.self.now) (lent_entry c.args.entry) _ (is_list c.args.self.now c.requires.sound) c.last_key.ensures.text h.0 h.1) (some_both c.key_behind.result _ _ c.key_behind.ensures.entry c.key_behind.ensures.above)

pub returns-clause-none : goal.returns-clause-none
returns-clause-none c = if_none c.key_behind.result _ _ (goes_not (built c.args.self.now) (lent_entry c.args.entry) _ c.last_key.ensures.text) c.key_behind.ensures.none
