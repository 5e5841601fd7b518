-- The entry at a key after one put or one erasure.
use Rattle.std.proofs.Common.{◌≡◌, ◌≢◌, ℕ, Bool, true, false, cond, List, Some, None, ◌⊎◌, inl, inr, refl, sym, ap, ◌∙◌}
use Rattle.std.specs.declared.cmp.Ordering.{Ordering}
use Rattle.std.specs.declared.cmp.Ordering.TheVariants.{Less, Equal, Greater}
use Rattle.std.specs.Ordering.{is_eq, eq_by_cmp}
use Rattle.std.specs.Cmp.{tied_itself}
use Rattle.std.specs.FinMap.{get, insert, remove, get-insert, get-remove}
use Rattle.cell_key.specs.Keys.{key_cmp, key_cmp_total}
use Rattle.cell_key.specs.Cells.{Cells}
use Rattle.cell_key.specs.declared.keys.CellKey.{CellKey}
use Rattle.cell_key.specs.declared.keys.Qualifier.{Qualifier}
use Rattle.cell_key.specs.declared.keys.Qualifier.TheVariants.{Data, Lock, Write}
use Rattle.cell_key.proofs.KeyLaws.{exact_keys}
use Rattle.si_model.specs.declared.replies.Cell.{Cell}
use Rattle.si_model.specs.Machine.{Change}
use Rattle.si_model.specs.ShowsCells.{changed_cells, key_of}

tied : (r : Ordering) → is_eq r ≡ true → r ≡ Equal
tied Less e = cc
tied Equal e = refl
tied Greater e = cc

itself : (k : CellKey) → eq_by_cmp key_cmp k k ≡ true
itself k = ap is_eq (tied_itself key_cmp_total k)

by_test : (q k : CellKey) (b : Bool) → eq_by_cmp key_cmp q k ≡ b → (q ≡ k) ⊎ (q ≢ k)
by_test q k true e = inl (exact_keys q k (tied (key_cmp q k) e))
by_test q k false e = inr (λ f. cc (itself k, ap (λ (x : CellKey). eq_by_cmp key_cmp x k) f, e))

pub cases_key : (q k : CellKey) → (q ≡ k) ⊎ (q ≢ k)
cases_key q k = by_test q k (eq_by_cmp key_cmp q k) refl

untrue : (b : Bool) → (b ≡ true → ⊥) → b ≡ false
untrue true h = absurd (h refl)
untrue false h = refl

apart : (q k : CellKey) → q ≢ k → eq_by_cmp key_cmp q k ≡ false
apart q k ne = untrue (eq_by_cmp key_cmp q k) (λ e. ne (exact_keys q k (tied (key_cmp q k) e)))

module _ (cells : Cells) (k : CellKey) where
  pub put_at : (v : List ℕ) → get (insert cells k v) k ≡ Some v
  put_at v = get-insert key_cmp_total cells k v k ∙ ap (λ (b : Bool). cond b (Some v) (get cells k)) (itself k)

  pub put_off : (v : List ℕ) (q : CellKey) → q ≢ k → get (insert cells k v) q ≡ get cells q
  put_off v q ne = get-insert key_cmp_total cells k v q ∙ ap (λ (b : Bool). cond b (Some v) (get cells q)) (apart q k ne)

  pub erased_at : get (remove cells k) k ≡ None
  erased_at = get-remove key_cmp_total cells k k ∙ ap (λ (b : Bool). cond b None (get cells k)) (itself k)

  pub erased_off : (q : CellKey) → q ≢ k → get (remove cells k) q ≡ get cells q
  erased_off q ne = get-remove key_cmp_total cells k q ∙ ap (λ (b : Bool). cond b None (get cells q)) (apart q k ne)

-- the entry at a key after a change put its data
module _ (cells : Cells) (x : Cell) (t : ℕ) where
  pub changed_off : (v : Change) (q : CellKey) → q ≢ key_of x Data t → get (changed_cells cells x t v) q ≡ get cells q
  changed_off (Some given) q ne = put_off cells (key_of x Data t) given q ne
  changed_off None q ne = refl

  pub changed_at : (v : Change) (given : List ℕ) → v ≡ Some given → get (changed_cells cells x t v) (key_of x Data t) ≡ Some given
  changed_at v given e = ap (λ (w : Change). get (changed_cells cells x t w) (key_of x Data t)) e ∙ put_at cells (key_of x Data t) given

  -- an entry that was there is still there
  pub changed_there : (v : Change) (q : CellKey) (b : List ℕ) → get cells q ≡ Some b → (c : List ℕ) × (get (changed_cells cells x t v) q ≡ Some c)
  changed_there None q b h = (b, h)
  changed_there (Some given) q b h = elim (cases_key q (key_of x Data t)) [
    | inl e ↦ (given, ap (get (insert cells (key_of x Data t) given)) e ∙ put_at cells (key_of x Data t) given)
    | inr ne ↦ (b, put_off cells (key_of x Data t) given q ne ∙ h)
  ]

  -- an entry was there before, or is the change's
  pub changed_was : (v : Change) (q : CellKey) (b : List ℕ) → get (changed_cells cells x t v) q ≡ Some b → (get cells q ≡ Some b) ⊎ ((q ≡ key_of x Data t) × (v ≡ Some b))
  changed_was None q b h = inl h
  changed_was (Some given) q b h = elim (cases_key q (key_of x Data t)) [
    | inl e ↦ inr (e, sym (put_at cells (key_of x Data t) given) ∙ (ap (get (insert cells (key_of x Data t) given)) (sym e) ∙ h))
    | inr ne ↦ inl (sym (put_off cells (key_of x Data t) given q ne) ∙ h)
  ]

-- keys of one cell and stamp
pub key_cell : (x y : Cell) (q r : Qualifier) (s t : ℕ) → key_of x q s ≡ key_of y r t → x ≡ y
key_cell x y q r s t e = λ i. record { row = (ap (λ (k : CellKey). k.row) e) i; family = (ap (λ (k : CellKey). k.family) e) i }

pub key_stamp : (x y : Cell) (q r : Qualifier) (s t : ℕ) → key_of x q s ≡ key_of y r t → s ≡ t
key_stamp x y q r s t e = ap (λ (k : CellKey). k.stamp) e

pub key_qualifier : (x y : Cell) (q r : Qualifier) (s t : ℕ) → key_of x q s ≡ key_of y r t → q ≡ r
key_qualifier x y q r s t e = ap (λ (k : CellKey). k.qualifier) e

-- keys of two qualifiers
pub no_lock_data : (x y : Cell) (s t : ℕ) → key_of x Lock s ≢ key_of y Data t
no_lock_data x y s t e = cc (key_qualifier x y Lock Data s t e)

pub no_lock_write : (x y : Cell) (s t : ℕ) → key_of x Lock s ≢ key_of y Write t
no_lock_write x y s t e = cc (key_qualifier x y Lock Write s t e)

pub no_data_lock : (x y : Cell) (s t : ℕ) → key_of x Data s ≢ key_of y Lock t
no_data_lock x y s t e = cc (key_qualifier x y Data Lock s t e)

pub no_data_write : (x y : Cell) (s t : ℕ) → key_of x Data s ≢ key_of y Write t
no_data_write x y s t e = cc (key_qualifier x y Data Write s t e)

pub no_write_lock : (x y : Cell) (s t : ℕ) → key_of x Write s ≢ key_of y Lock t
no_write_lock x y s t e = cc (key_qualifier x y Write Lock s t e)

pub no_write_data : (x y : Cell) (s t : ℕ) → key_of x Write s ≢ key_of y Data t
no_write_data x y s t e = cc (key_qualifier x y Write Data s t e)
