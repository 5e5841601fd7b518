-- An entry list without a value of a lock.
use Rattle.std.proofs.Common.{◌≡◌, ◌-◌, ℕ, Bool, true, false, cond, nat_eq, List, [], ◌∷◌, ◌++◌, length, drop, Option, Some, None, refl, sym, ap, ◌∙◌, arith, length-append, append_assoc}
use Rattle.std.proofs.Math.Seq.{drop-append_seam}
use Rattle.std.specs.List.{AllByRecursion, ends_with}
use Rattle.std.specs.Cmp.Lexicographic.{pointwise}
use Rattle.std.specs.Ordering.{eq_by_cmp}
use Rattle.std.specs.FinMap.{get}
use Rattle.std.specs.FinMap.Entries.{find}
use Rattle.cell_key.specs.Cells.{IsNewest, version}
use Rattle.cell_key.specs.Entries.{Entry, IsEntry, cells_of, entry_of_key, value_of}
use Rattle.cell_key.specs.Keys.{byte_cmp, qualifier_name, text, IsStored}
use Rattle.cell_key.specs.Texts.{ended, escaped}
use Rattle.cell_key.specs.declared.keys.CellKey.{CellKey}
use Rattle.cell_key.specs.declared.keys.Qualifier.{Qualifier}
use Rattle.cell_key.specs.declared.keys.Qualifier.TheVariants.{Lock}
use Rattle.cell_key.proofs.EntryLaws.{get-cells_of, no_cell}
use Rattle.cell_key.proofs.TextPlaces.{equal, one_text}
use Rattle.memtable.specs.Slots.{is_lock_text, lock_count, one_lock}
use Rattle.memtable.proofs.Versions.{before_stamp, column_text, key_in_parts}

abbrev lock_end : List ℕ
lock_end = ended (qualifier_name Lock)

-- a list ends with its last part
ends : (front : List ℕ) → ends_with nat_eq (front ++ lock_end) lock_end ≡ true
ends front =
    let len = length-append front lock_end in
    let six : length lock_end ≡ 6 = refl in
    let at : length (front ++ lock_end) - length lock_end ≡ length front = omega (arith, len, six) in
    ap (λ (n : ℕ). pointwise nat_eq lock_end (drop n (front ++ lock_end))) at
    ∙ ap (pointwise nat_eq lock_end) (drop-append_seam front lock_end)

-- the text of a lock's key is recognized as one
lock_text : (row family : List ℕ) (s : ℕ) → is_lock_text (text (version row family Lock s)) ≡ true
lock_text row family s =
    let key = version row family Lock s in
    let front = ended (escaped row) ++ ended family in
    let column : column_text key ≡ front ++ lock_end = sym (append_assoc (ended (escaped row)) (ended family) lock_end) in
    ap (λ (xs : List ℕ). ends_with nat_eq xs lock_end) (before_stamp (text key) (column_text key) s (length (text key)) (sym (key_in_parts key)) refl ∙ column)
    ∙ ends front

module _ (name : List ℕ) (lock : is_lock_text name ≡ true) where
  -- an entry that is no value of a lock has no value if its text is a lock's
  no_value : (n : List ℕ) (v : Option (List ℕ)) → name ≡ n → one_lock (n, v) ≡ 0 → v ≡ None
  no_value n None same zero = refl
  no_value n (Some v) same zero =
      let is : is_lock_text n ≡ true = ap is_lock_text (sym same) ∙ lock in
      let one : one_lock (n, Some v) ≡ 1 = ap (λ (b : Bool). cond b 1 0) is in
      absurd (omega (arith, zero, one))

  none_there : (es : List Entry) → lock_count es ≡ 0 → value_of (entry_of_key es name) ≡ None
  none_there [] zero = refl
  none_there ((n, v) ∷ es) zero = go (none_there es (omega (arith, zero))) (eq_by_cmp byte_cmp name n) refl
    where
      go : value_of (find byte_cmp name es) ≡ None → (b : Bool) → eq_by_cmp byte_cmp name n ≡ b → value_of (cond b (Some v) (find byte_cmp name es)) ≡ None
      go rest false e = rest
      go rest true e = ap (λ (o : Option (List ℕ)). value_of (Some o)) (no_value n v (one_text name n (equal _ e)) (omega (arith, zero)))

-- no key of a lock has a cell
module _ (es : List Entry) (each : AllByRecursion IsEntry es) (zero : lock_count es ≡ 0) (row family : List ℕ) (s : ℕ) where
  abbrev key : CellKey
  key = version row family Lock s

  hidden : (v : List ℕ) → get (cells_of es) key ≡ Some v → IsStored key → ⊥
  hidden v there is =
      let none = get-cells_of es each key is ∙ none_there (text key) (lock_text row family s) es zero in
      let no : Some v ≡ None = sym there ∙ none in
      cc

  no_lock : get (cells_of es) key ≡ None
  no_lock = go (get (cells_of es) key) refl
    where
      go : (o : Option (List ℕ)) → get (cells_of es) key ≡ o → get (cells_of es) key ≡ None
      go None e = e
      go (Some v) e = no_cell es each key (hidden v e)

-- so no column of a lock has a version
pub no_newest : (es : List Entry) → AllByRecursion IsEntry es → lock_count es ≡ 0 → (row family : List ℕ) (q : Qualifier) → q ≡ Lock → (lo hi : ℕ) → IsNewest (cells_of es) (version row family q) lo hi None
no_newest es each zero row family q is lo hi s a b =
    ap (λ (p : Qualifier). get (cells_of es) (version row family p s)) is ∙ no_lock es each zero row family s
