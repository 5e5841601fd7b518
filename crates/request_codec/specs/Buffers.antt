-- The room of a buffer, and the bytes that are appended to it.
use Rattle.std.specs.Prelude.{◌≡◌, ◌+◌, ◌≤◌, ◌++◌, ℕ, List, vec_len, vec_capacity}
use Rattle.std.specs.declared.vec.Vec.{Vec}

-- this many more bytes fit without an allocation
abbrev pub HasRoomFor : {Z : Type 0} → Vec ℕ Z → ℕ → Type 0
HasRoomFor out count = vec_len out + count ≤ vec_capacity out

-- these bytes come behind the old ones, and the capacity doesn't shrink
abbrev pub AppendsBytes : {Z : Type 0} → Vec ℕ Z → Vec ℕ Z → List ℕ → Type 0
AppendsBytes old new bytes =
    (new.items ≡ old.items ++ bytes) × (vec_capacity old ≤ vec_capacity new)
