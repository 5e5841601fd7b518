-- The locks of one column, in locks sorted by the hashes of their columns.
use Rattle.std.proofs.Common.{◌≡◌, ◌<◌, ◌≤◌, ◌+◌, ◌-◌, ◌++◌, ◌∷◌, [], ◌⊎◌, ⊎_elim, ℕ, Bool, true, false, nat_lt, not, List, length, take, drop, get_or, Contains, Option, Some, None, refl, sym, ap, subst, ◌∙◌, arith, tests}
use Rattle.std.specs.Prelude.{IfSome}
use Rattle.std.specs.List.Sorted.{IsNonDecreasingBy}
use Rattle.std.proofs.lemmas.Bool.{cases_lt}
use Rattle.std.proofs.lemmas.List.{get_or-drop, get_or-take, length-drop, length-take-le, take_more}
use Rattle.std.proofs.lemmas.List.Elements.{All-contains, All-more, All-weaker, Contains-append_left, Contains-append_right}
use Rattle.std.specs.Option.{is_some}
use Rattle.cell_key.specs.Keys.{text}
use Rattle.cell_key.specs.declared.keys.CellKey.{CellKey}
use Rattle.sorted_file.specs.LockStamps.{IsLatest, IsLatestOf}
use Rattle.sorted_file.specs.Newest.{IsAfterStamp}
use Rattle.sorted_file.specs.Numbers.{lock_stamp, number_of}
use Rattle.sorted_file.specs.declared.lock_stamps.LockStamp.{LockStamp}

abbrev pub column_of : LockStamp → ℕ
column_of lock = lock.column

-- whether a lock's column is at most this one, and whether it is below this one
abbrev pub is_up_to : ℕ → LockStamp → Bool
is_up_to column lock = not (nat_lt column lock.column)

abbrev pub is_below : ℕ → LockStamp → Bool
is_below column lock = nat_lt lock.column column

pub parted_up_to : (column : ℕ) (xs : List LockStamp) → IsNonDecreasingBy column_of xs → (i j : ℕ) (d : LockStamp) → i ≤ j → j < length xs → is_up_to column (get_or xs j d) ≡ true → is_up_to column (get_or xs i d) ≡ true
parted_up_to column xs sorted i j d le lt is = let s = sorted i j d le lt in grind (arith, tests, s, is)

pub parted_below : (column : ℕ) (xs : List LockStamp) → IsNonDecreasingBy column_of xs → (i j : ℕ) (d : LockStamp) → i ≤ j → j < length xs → is_below column (get_or xs j d) ≡ true → is_below column (get_or xs i d) ≡ true
parted_below column xs sorted i j d le lt is = let s = sorted i j d le lt in grind (arith, tests, s, is)

-- the first ones of sorted locks are sorted
pub sorted_take : (n : ℕ) (xs : List LockStamp) → n ≤ length xs → IsNonDecreasingBy column_of xs → IsNonDecreasingBy column_of (take n xs)
sorted_take n xs fits sorted i j d le lt =
    let l = length-take-le n xs fits in
    let below : j < n = omega (arith, l, lt) in
    let first : get_or (take n xs) i d ≡ get_or xs i d = get_or-take n xs i d (omega (arith, le, below)) in
    let last : get_or (take n xs) j d ≡ get_or xs j d = get_or-take n xs j d below in
    let s = sorted i j d le (omega (arith, below, fits)) in
    subst (λ (x : LockStamp). x.column ≤ (get_or (take n xs) j d).column) (sym first) (subst (λ (y : LockStamp). (get_or xs i d).column ≤ y.column) (sym last) s)

-- one more lock
module _ (locks : List LockStamp) (i lo hi : ℕ) (d : LockStamp) (old new : Option ℕ) (within : i < length locks) (so : IsLatestOf (take i locks) lo hi old) where
  more : take (i + 1) locks ≡ take i locks ++ get_or locks i d ∷ []
  more = take_more locks i d within

  there_still : (found : Option ℕ) → IfSome found (λ stamp. (lock : LockStamp) × Contains (take i locks) lock × (lock.stamp ≡ stamp))
      → IfSome found (λ stamp. (lock : LockStamp) × Contains (take (i + 1) locks) lock × (lock.stamp ≡ stamp))
  there_still None is = tt
  there_still (Some stamp) is = (is.0, subst (λ (xs : List LockStamp). Contains xs is.0) (sym more) (Contains-append_left (take i locks) (get_or locks i d ∷ []) is.0 is.1), is.2)

  there_now : IfSome (Some (get_or locks i d).stamp) (λ stamp. (lock : LockStamp) × Contains (take (i + 1) locks) lock × (lock.stamp ≡ stamp))
  there_now = (get_or locks i d, subst (λ (xs : List LockStamp). Contains xs (get_or locks i d)) (sym more) (Contains-append_right (take i locks) (get_or locks i d ∷ []) (get_or locks i d) (0, omega arith, refl)), refl)

  pub latest_more : IfSome new (λ stamp. (lo ≤ stamp) × (stamp ≤ hi)) → (new ≡ old) ⊎ (new ≡ Some (get_or locks i d).stamp)
      → ((s : ℕ) → IsAfterStamp s lo new → IsAfterStamp s lo old × (s ≡ (get_or locks i d).stamp → ¬ (s ≤ hi))) → IsLatestOf (take (i + 1) locks) lo hi new
  latest_more inside one after = record {
    within = inside;
    there = ⊎_elim
        (λ same. subst (λ (found : Option ℕ). IfSome found (λ stamp. (lock : LockStamp) × Contains (take (i + 1) locks) lock × (lock.stamp ≡ stamp))) (sym same) (there_still old so.there))
        (λ taken. subst (λ (found : Option ℕ). IfSome found (λ stamp. (lock : LockStamp) × Contains (take (i + 1) locks) lock × (lock.stamp ≡ stamp))) (sym taken) there_now)
        one;
    none = All-more (λ (lock : LockStamp). IsAfterStamp lock.stamp lo new → ¬ (lock.stamp ≤ hi)) locks i d within
        (All-weaker (λ (lock : LockStamp). IsAfterStamp lock.stamp lo old → ¬ (lock.stamp ≤ hi)) (λ (lock : LockStamp). IsAfterStamp lock.stamp lo new → ¬ (lock.stamp ≤ hi)) (λ lock not later. not (after lock.stamp later).0) (take i locks) so.none)
        (λ later. (after (get_or locks i d).stamp later).1 refl);
  }

-- the latest lock in the range of a column is the latest lock of the column
module _ (xs : List LockStamp) (column lo hi from to : ℕ) (found : Option ℕ) (fits : to ≤ length xs)
    (up_to : (k : ℕ) (d : LockStamp) → 0 ≤ k → k < to → is_up_to column (get_or xs k d) ≡ true) (beyond : (k : ℕ) (d : LockStamp) → to ≤ k → k < length xs → is_up_to column (get_or xs k d) ≡ false)
    (below : (k : ℕ) (d : LockStamp) → 0 ≤ k → k < from → is_below column (get_or (take to xs) k d) ≡ true) (not_below : (k : ℕ) (d : LockStamp) → from ≤ k → k < length (take to xs) → is_below column (get_or (take to xs) k d) ≡ false)
    (so : IsLatestOf (drop from (take to xs)) lo hi found) where
  size : length (take to xs) ≡ to
  size = length-take-le to xs fits

  -- a lock of the column is in the range
  pub among : (lock : LockStamp) → lock.column ≡ column → Contains xs lock → Contains (drop from (take to xs)) lock
  among lock own there =
      let k = there.0 in
      let named : get_or xs k lock ≡ lock = there.2 in
      let column_is : (get_or xs k lock).column ≡ column = ap column_of named ∙ own in
      let inside : k < to = ⊎_elim (λ less. less) (λ past. let no = beyond k lock past there.1 in absurd (grind (arith, tests, column_is, no))) (cases_lt k to) in
      let first : get_or (take to xs) k lock ≡ get_or xs k lock = get_or-take to xs k lock inside in
      let after : from ≤ k = ⊎_elim (λ less. let no = below k lock (omega arith) less in let is = ap column_of first ∙ column_is in absurd (grind (arith, tests, is, no))) (λ past. past) (cases_lt k from) in
      let at : from + (k - from) ≡ k = omega (arith, after) in
      let l = length-drop from (take to xs) in
      (k - from, omega (arith, l, size, inside, after), get_or-drop from (take to xs) (k - from) lock ∙ ap (λ (n : ℕ). get_or (take to xs) n lock) at ∙ first ∙ named)

  -- and the locks in the range are of the column
  pub own : (lock : LockStamp) → Contains (drop from (take to xs)) lock → Contains xs lock × (lock.column ≡ column)
  own lock there =
      let k = there.0 in
      let l = length-drop from (take to xs) in
      let inside : from + k < to = omega (arith, l, size, there.1) in
      let whole : get_or (take to xs) (from + k) lock ≡ lock = sym (get_or-drop from (take to xs) k lock) ∙ there.2 in
      let named : get_or xs (from + k) lock ≡ lock = sym (get_or-take to xs (from + k) lock inside) ∙ whole in
      let most = up_to (from + k) lock (omega arith) inside in
      let least = not_below (from + k) lock (omega arith) (omega (arith, size, inside)) in
      let a = ap column_of named in
      let b = ap column_of whole in
      ((from + k, omega (arith, inside, fits), named), grind (arith, tests, most, least, a, b))

  there : (o : Option ℕ) → IfSome o (λ stamp. (lock : LockStamp) × Contains (drop from (take to xs)) lock × (lock.stamp ≡ stamp)) → IfSome o (λ stamp. Contains xs (lock_stamp column stamp))
  there None is = tt
  there (Some stamp) is =
      let o = own is.0 is.1 in
      subst (λ (lock : LockStamp). Contains xs lock) (ap (λ (n : ℕ). lock_stamp n is.0.stamp) o.1 ∙ ap (lock_stamp column) is.2) o.0

  pub latest_in : IsLatest xs column lo hi found
  latest_in = record {
    within = so.within;
    there = there found so.there;
    none = λ s later below there. All-contains (λ (lock : LockStamp). IsAfterStamp lock.stamp lo found → ¬ (lock.stamp ≤ hi)) (drop from (take to xs)) (lock_stamp column s) so.none (among (lock_stamp column s) refl there) later below;
  }

-- it is the latest in the column of a key, up to the key's stamp
pub latest_of_key : (locks : List LockStamp) (column lo : ℕ) (found : Option ℕ) (own key : CellKey) → own ≡ key → column ≡ number_of (text key) → IsLatest locks column lo own.stamp found
    → IsLatest locks (number_of (text key)) lo key.stamp found
latest_of_key locks column lo found own key same number latest =
    subst (λ (k : CellKey). IsLatest locks (number_of (text key)) lo k.stamp found) same (subst (λ (n : ℕ). IsLatest locks n lo own.stamp found) number latest)

-- if there is none, no lock of the column has a stamp in this range
pub no_latest : (locks : List LockStamp) (column lo hi : ℕ) (found : Option ℕ) → IsLatest locks column lo hi found → is_some found ≡ false → (s : ℕ) → lo ≤ s → s ≤ hi → ¬ Contains locks (lock_stamp column s)
no_latest locks column lo hi None latest none s low high = latest.none s low high
no_latest locks column lo hi (Some last) latest none s low high = absurd (let e : true ≡ false = none in cc)
