-- The first value between two texts belongs to the first cell there.
use Rattle.std.proofs.Common.{◌≡◌, ℕ, Bool, true, false, cond, List, Option, Some, None, refl, sym, ap, ◌∙◌}
use Rattle.std.specs.declared.cmp.Ordering.TheVariants.{Less}
use Rattle.cell_key.specs.Keys.{key_cmp, text, IsStored}
use Rattle.cell_key.specs.Entries.{Entry, IsRising, entry_of_key, first_naming, value_of}
use Rattle.cell_key.specs.declared.keys.CellKey.{CellKey}
use Rattle.cell_key.proofs.Order.{text_order}
use Rattle.cell_key.proofs.EntryLaws.{stored_key}
use Rattle.tablet.specs.Reads.{first_value}
use Rattle.tablet.proofs.Filters.{is_between}
use Rattle.tablet.proofs.FirstValues.{IsFirstAt, first_none, first_some}
use Rattle.tablet.proofs.Shown.{first_at}

module _ (from : List ℕ) (end : Option (List ℕ)) (lists : List (List Entry)) where
  -- no key between the texts has a value
  pub record HasNone : Type 0 where
    pub none : (k : CellKey) → is_between from end (text k) ≡ true → first_at lists k ≡ None

  -- the key is the first one between the texts that has a value, and this is its value
  pub record HasFirst (key : CellKey) (value : List ℕ) : Type 0 where
    pub inside : is_between from end (text key) ≡ true
    pub has : first_at lists key ≡ Some value
    pub least : (k : CellKey) → IsStored k → is_between from end (text k) ≡ true → key_cmp k key ≡ Less → first_at lists k ≡ None

  value_inside : (name : List ℕ) → is_between from end name ≡ true → value_of (first_naming lists name) ≡ value_of (cond (is_between from end name) (first_naming lists name) None)
  value_inside name e = ap (λ (b : Bool). value_of (cond b (first_naming lists name) None)) (sym e)

  -- between the texts the list has the merged entries of the lists, and it has no others
  abbrev pub HasBetween : List Entry → Type 0
  HasBetween es = (name : List ℕ) → entry_of_key es name ≡ cond (is_between from end name) (first_naming lists name) None

  module _ (es : List Entry) (at : HasBetween es) where
    pub has_none : first_value es ≡ None → HasNone
    has_none e = record { none = λ k inside. value_inside (text k) inside ∙ sym (ap value_of (at (text k))) ∙ first_none es e (text k) }

    module _ (rising : IsRising es) (key : CellKey) (value : List ℕ) (stored : IsStored key) (found : first_value es ≡ Some (text key, value)) where
      is_first : IsFirstAt es (text key, value)
      is_first = first_some es (text key, value) rising found

      chosen : (b : Bool) (o : Option (Option (List ℕ))) → cond b o None ≡ Some (Some value) → (b ≡ true) × (o ≡ Some (Some value))
      chosen true o e = (refl, e)
      chosen false o e = cc

      both : (is_between from end (text key) ≡ true) × (first_naming lists (text key) ≡ Some (Some value))
      both = chosen (is_between from end (text key)) (first_naming lists (text key)) (sym (at (text key)) ∙ is_first.there)

      pub has_first : HasFirst key value
      has_first = record {
        inside = both.0;
        has = ap value_of both.1;
        least =
            λ k s inside less.
            value_inside (text k) inside
            ∙ sym (ap value_of (at (text k)))
            ∙ is_first.least (text k) (text_order k key (stored_key k s) (stored_key key stored) ∙ less);
      }
