use Rattle.std.proofs.Common.{◌≡◌, ◌+◌, ◌-◌, ◌∷◌, ℕ, suc, List, drop, sym, ap, subst, ◌∙◌, arith}
use Rattle.std.specs.List.{AllByRecursion}
use Rattle.cell_key.specs.Entries.{Entry, IsRising, IsEntry, entry_of_key, entry_len}
use Rattle.memtable.specs.declared.entries.Slot.{Slot}
use Rattle.memtable.specs.declared.size.EntrySize.{EntrySize}
use Rattle.memtable.specs.Slots.{slot_entry, slot_entries, over}
use Rattle.memtable.specs.Sizes.{IsSizeOf, entry_size, stood_size}
use Rattle.memtable.specs.Blocks.{block_entries}
use Rattle.memtable.proofs.BlockLists.{all_drop}
use Rattle.memtable.proofs.EntryLists.{drop_one, over_rising, rising_drop, stands_alone}
use Rattle.memtable.proofs.Sizes.{entry_small, few_more, locks_fit, replaced_locks, replaced_within, size_step, small_more}
use Rattle.memtable.proofs.staging.size_with.Goals as goal

pub with-size-requires-clause-replaced_bytes : goal.with-size-requires-clause-replaced_bytes
with-size-requires-clause-replaced_bytes c =
    let all = slot_entries c.args.staged.now in
    let base = block_entries c.args.table.now in
    let at : ℕ = c.loop-at.at - 1 in
    let entry = slot_entry c.index-staged-at.result.value in
    let next : suc at ≡ c.loop-at.at = omega (arith, c.loop-at-test.true) in
    let within = c.loop-at.invariant.within in
    let behind : drop at all ≡ entry ∷ drop c.loop-at.at all =
    drop_one (λ (s : _). slot_entry s.value) c.args.staged.now at c.index-staged-at.result (omega (arith, within, next)) c.index-staged-at.is ∙ ap (λ (k : ℕ). entry ∷ drop k all) next in
    let rising : IsRising (entry ∷ drop c.loop-at.at all) = subst (λ (es : List Entry). IsRising es) behind (rising_drop at all c.requires.staged) in
    let name = c.as_slice.ensures ∙ ap (λ (s : Slot). s.text) c.deref-in-loop-at.ensures in
    let found = c.stood_size.ensures ∙ ap (λ (n : List ℕ). stood_size n (entry_of_key base n)) name ∙ ap (stood_size entry.0) (sym (stands_alone entry (drop c.loop-at.at all) base rising)) in
    replaced_within (over (drop c.loop-at.at all) base) entry.0 c.stood_size.result found c.loop-at.size c.loop-at.invariant.size

pub with-size-requires-clause-replaced_locks : goal.with-size-requires-clause-replaced_locks
with-size-requires-clause-replaced_locks c =
    let all = slot_entries c.args.staged.now in
    let base = block_entries c.args.table.now in
    let at : ℕ = c.loop-at.at - 1 in
    let entry = slot_entry c.index-staged-at.result.value in
    let next : suc at ≡ c.loop-at.at = omega (arith, c.loop-at-test.true) in
    let within = c.loop-at.invariant.within in
    let behind : drop at all ≡ entry ∷ drop c.loop-at.at all =
    drop_one (λ (s : _). slot_entry s.value) c.args.staged.now at c.index-staged-at.result (omega (arith, within, next)) c.index-staged-at.is ∙ ap (λ (k : ℕ). entry ∷ drop k all) next in
    let rising : IsRising (entry ∷ drop c.loop-at.at all) = subst (λ (es : List Entry). IsRising es) behind (rising_drop at all c.requires.staged) in
    let name = c.as_slice.ensures ∙ ap (λ (s : Slot). s.text) c.deref-in-loop-at.ensures in
    let found = c.stood_size.ensures ∙ ap (λ (n : List ℕ). stood_size n (entry_of_key base n)) name ∙ ap (stood_size entry.0) (sym (stands_alone entry (drop c.loop-at.at all) base rising)) in
    replaced_locks (over (drop c.loop-at.at all) base) entry.0 c.stood_size.result found c.loop-at.size c.loop-at.invariant.size

pub with-size-requires-clause-few_locks : goal.with-size-requires-clause-few_locks
with-size-requires-clause-few_locks c =
    let base = block_entries c.args.table.now in
    let entry = slot_entry c.index-staged-at.result.value in
    let added = c.size.ensures ∙ ap (λ (s : Slot). entry_size (slot_entry s)) c.deref.ensures in
    let one = ap (λ (size : EntrySize). size.locks) added in
    let few = c.loop-at.invariant.few in
    let fit = locks_fit entry c.loop-at.size (over (drop c.loop-at.at (slot_entries c.args.staged.now)) base) c.loop-at.invariant.size (omega (arith, few)) in
    omega (arith, one, fit)

pub loop-at-preserved : goal.loop-at-preserved
loop-at-preserved c =
    let all = slot_entries c.args.staged.now in
    let base = block_entries c.args.table.now in
    let at : ℕ = c.loop-at.at - 1 in
    let entry = slot_entry c.index-staged-at.result.value in
    let next : suc at ≡ c.loop-at.at = omega (arith, c.loop-at-test.true) in
    let within = c.loop-at.invariant.within in
    let later = drop c.loop-at.at all in
    let behind : drop at all ≡ entry ∷ later =
    drop_one (λ (s : _). slot_entry s.value) c.args.staged.now at c.index-staged-at.result (omega (arith, within, next)) c.index-staged-at.is ∙ ap (λ (k : ℕ). entry ∷ drop k all) next in
    let rising : IsRising (entry ∷ later) = subst (λ (es : List Entry). IsRising es) behind (rising_drop at all c.requires.staged) in
    let limits : AllByRecursion IsEntry (entry ∷ later) = subst (λ (es : List Entry). AllByRecursion IsEntry es) behind (all_drop IsEntry all at c.requires.limits) in
    let name = c.as_slice.ensures ∙ ap (λ (s : Slot). s.text) c.deref-in-loop-at.ensures in
    let found = c.stood_size.ensures ∙ ap (λ (n : List ℕ). stood_size n (entry_of_key base n)) name ∙ ap (stood_size entry.0) (sym (stands_alone entry later base rising)) in
    let added = c.size.ensures ∙ ap (λ (s : Slot). entry_size (slot_entry s)) c.deref.ensures in
    let bytes = c.with-size.ensures.bytes ∙ ap (λ (size : EntrySize). c.loop-at.size.bytes + size.bytes) added in
    let locks = c.with-size.ensures.locks ∙ ap (λ (size : EntrySize). c.loop-at.size.locks + size.locks) added in
    let size = size_step (over later base) entry.0 c.stood_size.result found entry.1 c.loop-at.size c.with-size.result (over_rising later base c.requires.rising) c.loop-at.invariant.size c.with-size.ensures.entries bytes locks in
    record {
      within = omega (arith, within, next);
      size = subst (λ (es : List Entry). IsSizeOf c.with-size.result (over es base)) (sym behind) size;
      few = few_more c.stood_size.result c.loop-at.size c.with-size.result at c.loop-at.at c.with-size.ensures.entries (sym next) c.loop-at.invariant.few;
      small = small_more c.loop-at.size.bytes c.with-size.result.bytes _ (entry_len entry) at c.loop-at.at bytes (entry_small entry limits.0) (sym next) c.loop-at.invariant.small;
    }
