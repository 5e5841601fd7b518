use Rattle.std.proofs.Common.{sym, ap, subst, ◌∙◌}
use Rattle.cell_key.specs.Entries.{Entry, IsEntry, lent_entry}
use Rattle.cell_key.specs.Keys.{byte_cmp}
use Rattle.sorted_file.specs.Block.{last_text}
use Rattle.sorted_file.proofs.Results.{as_none}
use Rattle.sorted_file.proofs.Spelling.{short, spelled_split}
use Rattle.sorted_file.proofs.block.next_entry.Goals as goal

pub returns-in_err-key-clause-none : goal.returns-in_err-key-clause-none
returns-in_err-key-clause-none c = as_none c.from_residual-in_err-key.result (λ small e rest is above eq.
    let bytes = c.args.bytes.now in
    let here = lent_entry c.in_ok-entry.entry in
    let read = c.in_ok-entry.ensures.found in
    let same = spelled_split here e c.in_ok-entry.rest.now rest (short here c.in_ok-entry.rest.now bytes read small) (short e rest bytes eq small) (sym read ∙ eq) in
    c.in_err-key.ensures.none (subst IsEntry (sym same.0) is) (ap (λ (x : Entry). byte_cmp (last_text c.args.last) x.0) same.0 ∙ above))
