use Rattle.std.proofs.Common.{ℕ, List, Contains, Option, refl, ap, subst, ◌∙◌}
use Rattle.std.specs.Option.{option_copied, IsSome}
use Rattle.cell_key.specs.Entries.{lent_entry}
use Rattle.cell_key.proofs.TextPlaces.{clash}
use Rattle.sorted_file.specs.Bounds.{IsBounded}
use Rattle.sorted_file.specs.Numbers.{number_of, IsLockKept, IsLockKeyNumbered}
use Rattle.sorted_file.proofs.ColumnsOf.{columns_on}
use Rattle.sorted_file.proofs.NamedLocks.{named_more}
use Rattle.sorted_file.proofs.Results.{on_both, on_ok}
use Rattle.sorted_file.proofs.gathering.Columns.add.Goals as goal

pub returns-in_default-clause-added : goal.returns-in_default-clause-added
returns-in_default-clause-added c = λ es k.
    let here = subst (λ (n : ℕ). Contains c.push_number.new.numbers.items n) (c.column_number-number.ensures ∙ ap number_of c.requires.text) c.in_ok-push_number.ensures.has in
    let value = option_copied c.args.entry.value in
    columns_on c.args.self.now _ es (lent_entry c.args.entry) c.widen.ensures.keeps
    (subst (λ (name : List ℕ). IsBounded c.widen.new.self (name, value)) c.requires.text (c.widen.ensures.has value))
    c.in_ok-push_number.ensures.keeps here
    c.in_ok-push_lock_key.ensures.keeps
    (subst (λ (name : List ℕ). IsLockKeyNumbered c.push_lock_key.new.keys.items (name, option_copied c.args.entry.value)) c.requires.text (c.in_ok-push_lock_key.ensures.has (option_copied c.args.entry.value)))
    (λ n there. there)
    (λ key stored named lock some. absurd (clash _ (subst (λ (v : Option _). IsSome (option_copied v)) c.in_default.is some) refl))
    (named_more _ _ es (lent_entry c.args.entry) c.args.key.text.now c.requires.text c.in_ok-push_named.ensures.named k.locks_kept.named)
    k

pub returns-clause-added : goal.returns-clause-added
returns-clause-added c =
    on_ok c.push_lock_value.result _ _ (λ lock es k.
    let here = subst (λ (n : ℕ). Contains c.push_number.new.numbers.items n) (c.column_number-number.ensures ∙ ap number_of c.requires.text) c.in_ok-push_number.ensures.has in
    let value = option_copied c.args.entry.value in
    columns_on c.args.self.now _ es (lent_entry c.args.entry) c.widen.ensures.keeps
    (subst (λ (name : List ℕ). IsBounded c.widen.new.self (name, value)) c.requires.text (c.widen.ensures.has value))
    c.in_ok-push_number.ensures.keeps here
    c.in_ok-push_lock_key.ensures.keeps
    (subst (λ (name : List ℕ). IsLockKeyNumbered c.push_lock_key.new.keys.items (name, value)) c.requires.text (c.in_ok-push_lock_key.ensures.has value))
    lock.1
    (subst (λ (name : List ℕ). IsLockKept c.push_lock_value.new.values.items (name, value)) c.requires.text (lock.0 value))
    (named_more _ _ es (lent_entry c.args.entry) c.args.key.text.now c.requires.text c.in_ok-push_named.ensures.named k.locks_kept.named)
    k)
    (on_both c.push_lock_value.result _ _ c.push_lock_value.ensures.has c.push_lock_value.ensures.keeps)

pub push_lock_value-requires-clause-number : goal.push_lock_value-requires-clause-number
push_lock_value-requires-clause-number c = c.column_number-number.ensures
