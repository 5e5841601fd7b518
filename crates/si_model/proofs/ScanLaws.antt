-- Scans agree with each other and with Gets; and a cell without a key has no value.
use Rattle.std.proofs.Common.{◌≡◌, ℕ, ◌≤◌, Option, Some, None, inl, inr, refl, ap, subst, arith}
use Rattle.std.proofs.Math.Nat.{le_trans}
use Rattle.std.specs.Prelude.{is_some}
use Rattle.std.proofs.lemmas.Option.{none-some, same_Some}
use Rattle.cell_key.specs.Cells.{Cells}
use Rattle.cell_key.specs.Places.{HasCell}
use Rattle.cell_key.specs.declared.keys.Qualifier.{Qualifier}
use Rattle.cell_key.specs.declared.keys.Qualifier.TheVariants.{Lock, Write}
use Rattle.si_model.specs.declared.replies.Cell.{Cell}
use Rattle.si_model.specs.Machine.{State, Value, Open, Item, Valued, Locked, Unsent, Scan, InPhase, Marked, IsSnapshot, tells, waits, reads, scans, accepts, IsReached}
use Rattle.si_model.specs.Scans.{place_at, IsSaid}
use Rattle.si_model.specs.ScanLaws.{SaysOf, Meet, ScansMeet, IsAsGet, ScansAsGets, NothingThere}
use Rattle.si_model.specs.ShowsCells.{ShowsCells, WhereShown, IsThere, key_of}
use Rattle.si_model.specs.Sets.{◌∈◌}
use Rattle.si_model.proofs.Decided.{snapshot_of}
use Rattle.si_model.proofs.Snapshots.{one_answer}
use Rattle.si_model.proofs.Steps.{reached_sound}

-- ---- two scans

module _ (st : State) (reached : IsReached st) (a b : Scan) (am : a ∈ st.scans) (bm : b ∈ st.scans) (same : a.start ≡ b.start) (x : Cell) where
  there_a : (v : Value) → SaysOf a x (Some (Valued v)) → IsSnapshot st.commits b.start x (Some v)
  there_a v by = subst (λ (s : ℕ). IsSnapshot st.commits s x (Some v)) same ((reached_sound reached).scans_settled a am x (Some (Valued v)) by)

  none_a : SaysOf a x None → IsSnapshot st.commits b.start x None
  none_a by = subst (λ (s : ℕ). IsSnapshot st.commits s x None) same ((reached_sound reached).scans_settled a am x None by)

  one : (v w : Value) → SaysOf a x (Some (Valued v)) → SaysOf b x (Some (Valued w)) → v ≡ w
  one v w by_a by_b = same_Some v w
      (one_answer st (reached_sound reached) b.start x (Some v) (Some w) (there_a v by_a) ((reached_sound reached).scans_settled b bm x (Some (Valued w)) by_b))

  no_value : (v : Value) → SaysOf a x None → IsSnapshot st.commits b.start x (Some v) → ⊥
  no_value v by shown = none-some v (one_answer st (reached_sound reached) b.start x None (Some v) (none_a by) shown)

  unnamed : (item : Item) → SaysOf a x None → SaysOf b x (Some item) → (t : ℕ) × (item ≡ Locked t)
  unnamed (Valued w) by_a by_b = absurd (no_value w by_a ((reached_sound reached).scans_settled b bm x (Some (Valued w)) by_b))
  unnamed Unsent by_a by_b = let there = (reached_sound reached).scans_settled b bm x (Some Unsent) by_b in absurd (no_value there.0 by_a there.1)
  unnamed (Locked t) by_a by_b = (t, refl)

  meet : Meet a b x
  meet = record { one = one; unnamed = unnamed }

pub scans_meet : (st : State) → IsReached st → ScansMeet st
scans_meet st reached a b am bm same x = meet st reached a b am bm same x

-- ---- a scan and a Get

as_get : (st : State) (s : ℕ) (x : Cell) (said : Option Item) → InPhase st s Open → IsSaid st s x said → IsAsGet st s x said
as_get st s x None h is = (_, reads h is.0 is.1)
as_get st s x (Some (Valued v)) h is = (_, reads h is.0 is.1)
as_get st s x (Some Unsent) h is = (is.1.0, (_, reads h is.0 is.1.1))
as_get st s x (Some (Locked t)) h is = (_, tells (waits h is.0 is.1))

pub scans_as_gets : (st : State) → ScansAsGets st
scans_as_gets st s cells range keys_only items reach next (accepts ok (scans h is)) x said covers says = as_get st s x said h (is.said x covers said says)
scans_as_gets st s cells range keys_only items reach next (accepts ok (tells told)) x said covers says = elim told [ ]

-- ---- a cell without a key

module _ (cells : Cells) (st : State) (reached : IsReached st) (shown : ShowsCells cells st) (x : Cell) (none : ¬ HasCell cells (place_at x)) where
  no_key : (q : Qualifier) (s : ℕ) → ¬ IsThere cells x q s
  no_key q s there = none (record { key = key_of x q s; at = refl; some = ap is_some there.1 })

  free : (t : ℕ) → ¬ Marked st x t
  free t m = let mark = shown.marks x t m in no_key Lock t (mark.text, mark.lock)

  -- its newest commit deletes it, at or below the floor
  empty : (answer : Option Value) → IsSnapshot st.commits st.top x answer → (s : ℕ) → st.floor ≤ s → IsSnapshot st.commits s x None
  empty answer (inr (e, late)) s up = inr (refl, λ b m names. let above = late b m names in let low = ((reached_sound reached).fair b m).low in absurd (omega arith))
  empty answer (inl (a, m, gives, low, most)) s up = elim (shown.commits a m x (answer, gives) (free a.start)) [
    | inl there ↦ absurd (no_key Write a.stamp there)
    | inr (inl (b, mb, names, later, cleared)) ↦ let before = most b mb names ((reached_sound reached).fair b mb).low in absurd (omega arith)
    | inr (inr forgotten) ↦ inl (a, m, forgotten.deletes, le_trans forgotten.cleared.0 up, λ b mb names under. most b mb names ((reached_sound reached).fair b mb).low)
  ]

  pub nothing : ((t : ℕ) → ¬ Marked st x t) × ((s : ℕ) → st.floor ≤ s → IsSnapshot st.commits s x None)
  nothing = (free, λ s up. let newest = snapshot_of st.commits st.top x in empty newest.0 newest.1 s up)

pub nothing_there : WhereShown NothingThere
nothing_there cells st reached shown x none = nothing cells st reached shown x none
