-- The column data gathered from entries.
use Rattle.std.proofs.Common.{◌≡◌, ◌<◌, ◌^◌, ℕ, Contains, List, [], ◌∷◌, ◌++◌, length, sym, ap, subst, ◌∙◌}
use Rattle.std.proofs.lemmas.List.Elements.{Contains-append_left, Contains-append_right}
use Rattle.cell_key.specs.Entries.{Entry, key_of_text}
use Rattle.cell_key.specs.Keys.{text, IsStored}
use Rattle.cell_key.specs.LentKeys.{IsLentKey}
use Rattle.cell_key.specs.declared.keys.CellKey.{CellKey}
use Rattle.cell_key.specs.declared.lent_keys.KeyRef.{KeyRef}
use Rattle.cell_key.proofs.EntryLaws.{key_of_text-text}
use Rattle.sorted_file.specs.Block.{entries_of, IsParsed}
use Rattle.sorted_file.specs.Bounds.{AreWithin, IsBounded}
use Rattle.sorted_file.specs.Columns.{AreColumnsOf, IsGathered}
use Rattle.sorted_file.specs.Numbers.{AreNamed, IsAmong, IsLockKept, IsLockKeyNumbered, IsNumbered}
use Rattle.sorted_file.specs.declared.block.Block.{Block}
use Rattle.sorted_file.specs.declared.gathering.Columns.{Columns}
use Rattle.sorted_file.proofs.Bounded.{covered_all}
use Rattle.sorted_file.proofs.Joining.{all_joined}
use Rattle.sorted_file.proofs.Locked.{kept_on, keyed_on}
use Rattle.sorted_file.proofs.NamedLocks.{named_joined}
use Rattle.sorted_file.proofs.Numbered.{numbered_on}
use Rattle.sorted_file.proofs.Parsed.{parsed_is}

-- a borrowed key is the key with its text
pub lent_is : (lent : KeyRef) (k : IsLentKey lent) (key : CellKey) → IsStored key → lent.text.now ≡ text key → k.key ≡ key
lent_is lent k key stored e = sym (key_of_text-text k.key k.stored) ∙ ap key_of_text (sym k.is ∙ e) ∙ key_of_text-text key stored

-- one more entry
pub columns_on : (old new : Columns) (es : List Entry) (e : Entry) → AreWithin old.bounds new.bounds → IsBounded new.bounds e → IsAmong old.numbers.items new.numbers.items → IsNumbered new.numbers.items e
    → IsAmong old.lock_keys.items new.lock_keys.items → IsLockKeyNumbered new.lock_keys.items e
    → IsAmong old.lock_values.items new.lock_values.items → IsLockKept new.lock_values.items e
    → AreNamed new.named_locks.items (es ++ e ∷ []) → AreColumnsOf old es → AreColumnsOf new (es ++ e ∷ [])
columns_on old new es e covers bounded among numbered has keyed keeps kept named k = record {
  bounded = all_joined (IsBounded new.bounds) es (e ∷ []) (covered_all old.bounds new.bounds es covers k.bounded) (bounded, tt);
  numbered = all_joined (IsNumbered new.numbers.items) es (e ∷ []) (numbered_on old.numbers.items new.numbers.items among es k.numbered) (numbered, tt);
  keyed = all_joined (IsLockKeyNumbered new.lock_keys.items) es (e ∷ []) (keyed_on old.lock_keys.items new.lock_keys.items has es k.keyed) (keyed, tt);
  locks_kept = record { values = all_joined (IsLockKept new.lock_values.items) es (e ∷ []) (kept_on old.lock_values.items new.lock_values.items keeps es k.locks_kept.values) (kept, tt); named = named };
}

-- the column data of two lists
pub columns_joined : (old more new : Columns) (es fs : List Entry) → AreWithin old.bounds new.bounds → AreWithin more.bounds new.bounds → new.numbers.items ≡ old.numbers.items ++ more.numbers.items
    → new.lock_keys.items ≡ old.lock_keys.items ++ more.lock_keys.items → new.lock_values.items ≡ old.lock_values.items ++ more.lock_values.items
    → new.named_locks.items ≡ old.named_locks.items ++ more.named_locks.items
    → AreColumnsOf old es → AreColumnsOf more fs → AreColumnsOf new (es ++ fs)
columns_joined old more new es fs first second numbers keys values named k m =
    let front : IsAmong old.numbers.items new.numbers.items = λ n there. subst (λ (l : List ℕ). Contains l n) (sym numbers) (Contains-append_left old.numbers.items more.numbers.items n there) in
    let back : IsAmong more.numbers.items new.numbers.items = λ n there. subst (λ (l : List ℕ). Contains l n) (sym numbers) (Contains-append_right old.numbers.items more.numbers.items n there) in
    let has : IsAmong old.lock_keys.items new.lock_keys.items = λ n there. subst (λ (l : List ℕ). Contains l n) (sym keys) (Contains-append_left old.lock_keys.items more.lock_keys.items n there) in
    let gets : IsAmong more.lock_keys.items new.lock_keys.items = λ n there. subst (λ (l : List ℕ). Contains l n) (sym keys) (Contains-append_right old.lock_keys.items more.lock_keys.items n there) in
    let keeps : IsAmong old.lock_values.items new.lock_values.items = λ k there. subst (λ (l : List CellKey). Contains l k) (sym values) (Contains-append_left old.lock_values.items more.lock_values.items k there) in
    let takes : IsAmong more.lock_values.items new.lock_values.items = λ k there. subst (λ (l : List CellKey). Contains l k) (sym values) (Contains-append_right old.lock_values.items more.lock_values.items k there) in
    record {
      bounded = all_joined (IsBounded new.bounds) es fs (covered_all old.bounds new.bounds es first k.bounded) (covered_all more.bounds new.bounds fs second m.bounded);
      numbered = all_joined (IsNumbered new.numbers.items) es fs (numbered_on old.numbers.items new.numbers.items front es k.numbered) (numbered_on more.numbers.items new.numbers.items back fs m.numbered);
      keyed = all_joined (IsLockKeyNumbered new.lock_keys.items) es fs (keyed_on old.lock_keys.items new.lock_keys.items has es k.keyed) (keyed_on more.lock_keys.items new.lock_keys.items gets fs m.keyed);
      locks_kept = record {
        values = all_joined (IsLockKept new.lock_values.items) es fs (kept_on old.lock_values.items new.lock_values.items keeps es k.locks_kept.values) (kept_on more.lock_values.items new.lock_values.items takes fs m.locks_kept.values);
        named = subst (λ (l : List CellKey). AreNamed l (es ++ fs)) (sym named) (named_joined old.named_locks.items more.named_locks.items es fs k.locks_kept.named m.locks_kept.named);
      };
    }

-- the data gathered from a block is right for its entries
pub record IsReadAs (block : Block) (kept : Columns) : Type 0 where
  pub parsed : IsParsed (entries_of block) block
  pub columns : AreColumnsOf kept (entries_of block)

pub read_as : (block : Block) (kept : Columns) → IsGathered block.bytes.items block.starts.items kept → length block.bytes.items < 2 ^ 32 → IsReadAs block kept
read_as block kept g small =
    let s = g.spelling in
    let p : IsParsed s.entries block = record { list = s.list; bytes = s.bytes_are; starts = s.starts_are; small = subst (λ (l : List _). length l < 2 ^ 32) s.bytes_are small } in
    let same = sym (parsed_is s.entries block p) in
    record { parsed = subst (λ (es : List Entry). IsParsed es block) same p; columns = subst (λ (es : List Entry). AreColumnsOf kept es) same g.columns }
