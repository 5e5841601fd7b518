-- The writes and the cells of operations, and their lengths.
use Rattle.std.proofs.Common.{◌≡◌, ℕ, zero, suc, ◌+◌, ◌<◌, ◌≤◌, ◌^◌, Bool, List, [], ◌∷◌, ◌++◌, length, map, drop, get_or, refl, sym, ap, subst, ◌∙◌, append_assoc, length-append, arith}
use Rattle.std.specs.List.{AllByRecursion, flat_map}
use Rattle.si_model.specs.Answers.{cell_named, cells_named, write_named, writes_named}
use Rattle.si_model.specs.Machine.{Change}
use Rattle.si_model.specs.Transactions.{Commit, Read}
use Rattle.si_model.specs.declared.replies.Cell.{Cell}
use Rattle.si_model.specs.declared.transactions.CellName.{CellName}
use Rattle.si_model.specs.declared.transactions.CellWrite.{CellWrite}
use Rattle.request_codec.specs.Fields.{number, field, optional, cell_fields}
use Rattle.request_codec.specs.Operations.{operation_body, write_fields, WriteFits}
use Rattle.request_codec.specs.Scans.{flag_number}
use Rattle.request_codec.specs.Stream.{longest}
use Rattle.request_codec.proofs.Fields.{same_cell, length-cell}
use Rattle.request_codec.proofs.Scans.{same_optional_bytes}

pub write-append : (write : Cell × Change) (x : List ℕ) → write_fields write ++ x ≡ cell_fields write.0 ++ (optional field write.1 ++ x)
unfolding write_fields
write-append write x = append_assoc (cell_fields write.0) (optional field write.1) x

pub same_write : (a b : Cell × Change) (x y : List ℕ) → WriteFits a → WriteFits b → write_fields a ++ x ≡ write_fields b ++ y → (a ≡ b) × (x ≡ y)
same_write a b x y p q e =
    let whole = sym (write-append a x) ∙ e ∙ write-append b y in
    let cell = same_cell a.0 b.0 (optional field a.1 ++ x) (optional field b.1 ++ y) p.cell q.cell whole in
    let value = same_optional_bytes a.1 b.1 x y p.value q.value cell.1 in
    (λ i. (cell.0 i, value.0 i), value.1)

pub length-write : (write : Cell × Change) → length (write_fields write) ≡ length (cell_fields write.0) + length (optional field write.1)
unfolding write_fields
length-write write = length-append (cell_fields write.0) (optional field write.1)

-- ---- lists, from a place on

rest_next : {X A : Type 0} (fields : A → List ℕ) (f : X → A) (xs : List X) (i : ℕ) (d : X) → i < length xs → flat_map fields (map f (drop i xs)) ≡ fields (f (get_or xs i d)) ++ flat_map fields (map f (drop (suc i) xs))
rest_next fields f [] i d less = absurd (omega (arith, less))
rest_next fields f (x ∷ xs) zero d less = refl
rest_next fields f (x ∷ xs) (suc i) d less = rest_next fields f xs i d (omega (arith, less))

pub rest_of : {X A : Type 0} (fields : A → List ℕ) (f : X → A) (xs : List X) (i : ℕ) (d : X) → i < length xs → flat_map fields (map f (drop i xs)) ≡ fields (f (get_or xs i d)) ++ flat_map fields (map f (drop (i + 1) xs))
rest_of fields f xs i d less =
    let more : suc i ≡ i + 1 = omega arith in
    subst (λ (n : ℕ). flat_map fields (map f (drop i xs)) ≡ fields (f (get_or xs i d)) ++ flat_map fields (map f (drop n xs))) more (rest_next fields f xs i d less)

pub length-rest : {X A : Type 0} (fields : A → List ℕ) (f : X → A) (xs : List X) (i : ℕ) (d : X) → i < length xs
    → length (flat_map fields (map f (drop i xs))) ≡ length (fields (f (get_or xs i d))) + length (flat_map fields (map f (drop (i + 1) xs)))
length-rest fields f xs i d less = ap length (rest_of fields f xs i d less) ∙ length-append (fields (f (get_or xs i d))) (flat_map fields (map f (drop (i + 1) xs)))

pub none_left : {X A : Type 0} (fields : A → List ℕ) (f : X → A) (xs : List X) → flat_map fields (map f (drop (length xs) xs)) ≡ []
none_left fields f [] = refl
none_left fields f (x ∷ xs) = none_left fields f xs

pub fit_at : {X A : Type 0} (fits : A → Type 0) (f : X → A) (xs : List X) (i : ℕ) (d : X) → i < length xs → AllByRecursion fits (map f xs) → fits (f (get_or xs i d))
fit_at fits f [] i d less all = absurd (omega (arith, less))
fit_at fits f (x ∷ xs) zero d less all = all.0
fit_at fits f (x ∷ xs) (suc i) d less all = fit_at fits f xs i d (omega (arith, less)) all.1

-- ---- how many there can be

few_of : {X A : Type 0} (fields : A → List ℕ) (f : X → A) → ((part : A) → 0 < length (fields part)) → (xs : List X) → length xs ≤ length (flat_map fields (map f xs))
few_of fields f some [] = omega arith
few_of fields f some (x ∷ xs) = omega (arith, some (f x), few_of fields f some xs, length-append (fields (f x)) (flat_map fields (map f xs)))

some_name : (cell : Cell) → 0 < length (cell_fields cell)
some_name cell = omega (arith, length-cell cell)

some_write : (write : Cell × Change) → 0 < length (write_fields write)
some_write write = omega (arith, length-write write, some_name write.0)

pub few_writes : (start : ℕ) (writes : List CellWrite) → length (operation_body (Commit start (writes_named writes))) ≤ longest → length writes < 2 ^ 32
few_writes start writes short =
    let list = flat_map write_fields (writes_named writes) in
    let count = number 4 (length (writes_named writes)) in
    omega (arith, short, few_of write_fields write_named some_write writes, length-append (number 8 start) (count ++ list), length-append count list)

pub few_cells : (start : ℕ) (cells : List CellName) (stays_open : Bool) → length (operation_body (Read start (cells_named cells) stays_open)) ≤ longest → length cells < 2 ^ 32
few_cells start cells stays_open short =
    let list = flat_map cell_fields (cells_named cells) in
    let count = number 4 (length (cells_named cells)) in
    omega (arith, short, few_of cell_fields cell_named some_name cells, length-append (number 8 start) (flag_number stays_open ∷ (count ++ list)), length-append count list)
