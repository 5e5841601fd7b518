use Rattle.std.proofs.Common.{take, ap, subst, ◌∙◌, arith}
use Rattle.std.specs.Prelude.{All}
use Rattle.std.proofs.lemmas.List.{take_all}
use Rattle.std.proofs.lemmas.List.Elements.{All-more, All-weaker}
use Rattle.cell_key.specs.declared.keys.CellKey.{CellKey}
use Rattle.sorted_file.specs.Filters.{HasBits}
use Rattle.sorted_file.specs.LockIndexes.{HasRow}
use Rattle.sorted_file.specs.Numbers.{text_number}
use Rattle.sorted_file.proofs.lock_values.rows_of.Goals as goal

pub loop-lock-preserved : goal.loop-lock-preserved
loop-lock-preserved c =
    let has = HasRow c.add.new.self.words.items in
    let kept = All-weaker (HasRow c.loop-lock.rows.words.items) has (λ key is. c.add.ensures.keeps (text_number key.row) is) (take c.loop-lock.lock-index c.args.locks.now) c.loop-lock.invariant in
    All-more has c.args.locks.now c.loop-lock.lock-index c.lock-item.result c.loop-lock-test.true kept
    (subst (HasBits c.add.new.self.words.items) (c.row_number.ensures ∙ ap (λ (k : CellKey). text_number k.row) c.lock-item.is) c.add.ensures.has)

pub returns-clause-rows : goal.returns-clause-rows
returns-clause-rows c = subst (All (HasRow c.loop-lock.rows.words.items)) (take_all c.loop-lock.lock-index c.args.locks.now (omega arith)) c.loop-lock.invariant
