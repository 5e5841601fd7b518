-- The entries of slots.
use Rattle.std.specs.Prelude.{◌≡◌, ◌<◌, ◌≤◌, ◌+◌, ◌-◌, true, get_or, if◌then◌else◌, length, take, nat_eq, ℕ, zero, suc, Bool, false, List, [], ◌∷◌, map, Option, Some, None, option_map, vec_len, vec_capacity}
use Rattle.std.specs.declared.boxed.Box.{Box}
use Rattle.std.specs.declared.vec.Vec.{Vec}
use Rattle.std.specs.Ordering.{is_eq, is_gt}
use Rattle.std.specs.FinMap.Entries.{put}
use Rattle.std.specs.List.{ends_with}
use Rattle.cell_key.specs.Keys.{byte_cmp, qualifier_name}
use Rattle.cell_key.specs.Texts.{ended}
use Rattle.cell_key.specs.declared.keys.Qualifier.TheVariants.{Lock}
use Rattle.cell_key.specs.Entries.{Entry}
use Rattle.std.specs.Borrow.{Bor}
use Rattle.memtable.specs.declared.entries.Slot.{Slot}

abbrev pub slot_entry : Slot → Entry
slot_entry slot = (slot.text, option_map (λ value. value.items) slot.value)

abbrev pub slot_entries : {A : Type 0} → List (Box Slot A) → List Entry
slot_entries slots = map (λ slot. slot_entry slot.value) slots

-- A list has grown by this many at most, and has the room that it had or more.
abbrev pub GrowsBy : {X Z : Type 0} → ℕ → Vec X Z → Vec X Z → Type 0
GrowsBy count old new =
    (vec_len new ≤ vec_len old + count) × (vec_capacity old ≤ vec_capacity new)

-- the first entry that has a value
abbrev pub first_value : List Entry → Option Entry
first_value [] = None
first_value ((name, None) ∷ es) = first_value es
first_value ((name, Some value) ∷ es) = Some (name, Some value)

-- 1 for a value, and 0 for an erasure
abbrev pub one_value : Option (List ℕ) → ℕ
one_value None = 0
one_value (Some value) = 1

-- how many entries have a value
abbrev pub value_count : List Entry → ℕ
value_count [] = 0
value_count (e ∷ es) = one_value e.1 + value_count es

-- whether a text is a lock's key, by the bytes before the eight bytes of its stamp
abbrev pub is_lock_text : List ℕ → Bool
is_lock_text name =
    ends_with nat_eq (take (length name - 8) name) (ended (qualifier_name Lock))

-- 1 for a value of a lock, and 0 for any other entry
abbrev pub one_lock : Entry → ℕ
one_lock e = if is_lock_text e.0 then one_value e.1 else 0

-- how many locks have a value
abbrev pub lock_count : List Entry → ℕ
lock_count [] = 0
lock_count (e ∷ es) = one_lock e + lock_count es

-- whether the entry at the place has this text
abbrev pub is_named : List ℕ → List Entry → ℕ → Bool
is_named name [] i = false
is_named name (e ∷ es) zero = is_eq (byte_cmp name e.0)
is_named name (e ∷ es) (suc i) = is_named name es i

-- the texts of all entries before the index are below this one
abbrev pub AreBelow : {A : Type 0} → List ℕ → List (Box Slot A) → ℕ → Type 0
AreBelow {A} name slots i =
    (k : ℕ) (d : Box Slot A) → k < i → k < length slots
    → is_gt (byte_cmp name (get_or slots k d).value.text) ≡ true

-- the entries from the index on aren't below this text
abbrev pub AreNotBelow : {A : Type 0} → List ℕ → List (Box Slot A) → ℕ → Type 0
AreNotBelow {A} name slots i =
    (k : ℕ) (d : Box Slot A) → i ≤ k → k < length slots
    → is_gt (byte_cmp name (get_or slots k d).value.text) ≡ false

-- all texts before the range are below this one, and none from its end on is
pub record IsPartOf {A : Type 0} (name : List ℕ) (slots : List (Box Slot A)) (from to : ℕ) : Type 0 where
  pub order : from ≤ to
  pub within : to ≤ length slots
  pub below : AreBelow name slots from
  pub above : AreNotBelow name slots to

-- entries put over others, from the last one to the first
abbrev pub over : List Entry → List Entry → List Entry
over [] base = base
over (e ∷ es) base = put byte_cmp e.0 e.1 (over es base)

-- a stamp and the bytes of a borrowed value
abbrev pub lent_version : ℕ × Bor (List ℕ) → ℕ × List ℕ
lent_version version = (version.0, version.1.now)
