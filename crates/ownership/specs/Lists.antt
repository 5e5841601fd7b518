-- Sorted lists of what clients have of one kind.
use Rattle.std.specs.Prelude.{◌≡◌, ◌≤◌, ℕ, Bool, true, false, ◌&&◌, ◌||◌, List, [], ◌∷◌, ◌+◌, if◌then◌else◌, nat_eq, nat_lt, length, slice_index_or, ◌<◌, ◌-◌}
use Rattle.std.specs.List.{list_any, AllWithin}
use Rattle.ownership.specs.declared.holdings.Holding.{Holding}

-- the client has this number
abbrev pub is_of : ℕ → ℕ → Holding → Bool
is_of client number holding = nat_eq holding.client client && nat_eq holding.number number

abbrev pub holds : List Holding → ℕ → ℕ → Bool
holds list client number = list_any (is_of client number) list

-- it comes before this number of this client: its number is less, or the same, and its client's number is less
abbrev pub is_before : ℕ → ℕ → Holding → Bool
is_before client number holding =
    nat_lt holding.number number || (nat_eq holding.number number && nat_lt holding.client client)

-- each comes before those behind it: so nothing comes twice
abbrev pub is_after : Holding → Holding → Bool
is_after first later = is_before later.client later.number first

abbrev pub IsInOrder : List Holding → Type 0
IsInOrder list = (i j : ℕ) (d : Holding) → i < j → j < length list
    → is_after (slice_index_or list i d) (slice_index_or list j d) ≡ true

-- how many of the list are a client's
abbrev pub held_by : ℕ → List Holding → ℕ
held_by client [] = 0
held_by client (holding ∷ more) =
    (if nat_eq holding.client client then 1 else 0) + held_by client more

-- what stands before the place comes before the number of the client, and nothing else does
pub record IsPlaceOf (client number : ℕ) (list : List Holding) (place : ℕ) : Type 0 where
  pub bound : place ≤ length list
  pub before : AllWithin (λ holding. is_before client number holding ≡ true) list 0 place
  pub others : AllWithin (λ holding. is_before client number holding ≡ false) list place
      (length list)

-- the last of the list is this number of the client, and its place is the last
pub record IsLast (client number : ℕ) (list : List Holding) : Type 0 where
  pub held : holds list client number ≡ true
  pub place : IsPlaceOf client number list (length list - 1)
