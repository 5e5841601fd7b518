use Rattle.std.proofs.Common.{◌≡◌, ◌-◌, length, sym, ap, ◌∙◌, arith}
use Rattle.std.specs.Prelude.{option_map}
use Rattle.cell_key.specs.Entries.{lent_entry}
use Rattle.sorted_file.proofs.Starts.{none_last, some_last, starts_length}
use Rattle.sorted_file.proofs.block.Block.last_text.Goals as goal

pub returns-in-Some : goal.returns-in-Some
returns-in-Some c = λ es p.
    let n = c.saturating_sub-last.result in
    let is : n ≡ length es - 1 = omega (arith, c.saturating_sub-last.ensures, c.len.ensures, ap length p.starts, starts_length 0 es, c.args.self.now.starts.ok) in
    some_last es n (lent_entry c.in-Some.entry) is (sym (c.entry.ensures es p) ∙ ap (option_map lent_entry) c.in-Some.is)

pub returns-in-None : goal.returns-in-None
returns-in-None c = λ es p.
    let n = c.saturating_sub-last.result in
    let is : n ≡ length es - 1 = omega (arith, c.saturating_sub-last.ensures, c.len.ensures, ap length p.starts, starts_length 0 es, c.args.self.now.starts.ok) in
    none_last es n is (sym (c.entry.ensures es p) ∙ ap (option_map lent_entry) c.in-None.is)
