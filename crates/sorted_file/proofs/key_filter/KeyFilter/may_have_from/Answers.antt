use Rattle.std.proofs.Common.{refl, ap, ◌∙◌}
use Rattle.cell_key.specs.declared.keys.Qualifier.{Qualifier}
use Rattle.cell_key.specs.Keys.{text}
use Rattle.sorted_file.specs.LookupKey.{entry_number}
use Rattle.sorted_file.specs.Numbers.{text_number}
use Rattle.sorted_file.proofs.Covered.{none_keyed, none_numbered, unset}
use Rattle.sorted_file.proofs.key_filter.KeyFilter.may_have_from.Goals as goal

pub returns-then-is_one_lock : goal.returns-then-is_one_lock
returns-then-is_one_lock c = λ not file covers m o.
    let key = c.args.key.now in
    let lock = c.is_one_lock.ensures.lock c.if-is_one_lock.true in
    none_keyed m file o key c.key-own.ensures.limits lock
    (unset c.args.self.now.lock_keys.words.items file.lock_keys c.entry_number.result (text_number (text key)) c.has.result c.has.ensures not (c.entry_number.ensures ∙ ap (λ (q : Qualifier). entry_number q (text key)) lock) covers.lock_keys)
    c.args.lo (c.is_one_lock.ensures.one c.if-is_one_lock.true)

pub returns : goal.returns
returns c = λ not file covers m o.
    none_numbered m file o c.args.key.now
    (unset c.args.self.now.numbers.words.items file.numbers c.column_number.result _ c.has-2.result c.has-2.ensures not c.column_number.ensures covers.numbers)
    c.args.lo
