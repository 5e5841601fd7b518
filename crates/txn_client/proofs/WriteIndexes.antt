-- The index of a cell's write, and a Set there or at the end.
use Rattle.std.proofs.Common.{◌≡◌, ◌≢◌, ℕ, zero, suc, ◌+◌, List, [], ◌∷◌, ◌++◌, length, map, Some, None, inl, inr, refl, sym, ap, subst, ◌∙◌, arith}
use Rattle.std.specs.Prelude.{slice_get, slice_set}
use Rattle.std.specs.Option.{option_map}
use Rattle.std.proofs.lemmas.Bool.{cases_eq}
use Rattle.std.proofs.lemmas.Option.{none-some, same_Some, slice_get-map}
use Rattle.si_model.specs.declared.replies.Cell.{Cell}
use Rattle.si_model.specs.Machine.{Change, Names, Sets, appends, replaces, passes}
use Rattle.txn_client.specs.Writes.{write_of, IsIndexOf, NoneBefore}
use Rattle.txn_client.specs.declared.writes.Write.{Write}

pub none_yet : (ws : List Write) (x : Cell) (n : ℕ) (u : Write) → slice_get ws n ≡ Some u → u.cell ≢ x → NoneBefore ws x n → NoneBefore ws x (n + 1)
none_yet ws x n u at ne before k w h e = elim (cases_eq k n) [
  | inl is ↦ λ f. ne (ap (λ (w : Write). w.cell) (same_Some u w (sym at ∙ (ap (slice_get ws) (sym is) ∙ e))) ∙ f)
  | inr not ↦ before k w (omega arith) e
]

-- an empty list has no write to a cell
pub none_there : (ws : List Write) → length ws ≡ 0 → (x : Cell) → IsIndexOf ws x None
none_there [] none x = λ k w e. absurd (none-some w e)
none_there (u ∷ ws) none x = absurd (omega (arith, none))

pub sets_last : (ws : List Write) (w : Write) → IsIndexOf ws w.cell None → Sets w.cell w.value (map write_of ws) (map write_of (ws ++ w ∷ []))
sets_last [] w none = appends
sets_last (u ∷ ws) w none = passes (none 0 u refl) (sets_last ws w (λ k. none (suc k)))

-- the write at the head is to the cell
replaced : (ws : List Write) (u w : Write) → u.cell ≡ w.cell → Sets w.cell w.value (map write_of (u ∷ ws)) (map write_of (w ∷ ws))
replaced ws u w e = subst (λ (x : Cell). Sets w.cell w.value ((x, u.value) ∷ map write_of ws) (map write_of (w ∷ ws))) (sym e) replaces

pub sets_there : (ws : List Write) (k : ℕ) (w : Write) → IsIndexOf ws w.cell (Some k) → Sets w.cell w.value (map write_of ws) (map write_of (slice_set ws k w))
sets_there [] k w (found, before) = absurd (none-some found.0 found.1)
sets_there (u ∷ ws) zero w (found, before) = replaced ws u w (ap (λ (w : Write). w.cell) (same_Some u found.0 found.1) ∙ found.2)
sets_there (u ∷ ws) (suc k) w (found, before) = passes (before 0 u (omega arith) refl) (sets_there ws k w (found, λ j v h. before (suc j) v (omega arith)))

pub named_there : (ws : List Write) (k : ℕ) (x : Cell) → IsIndexOf ws x (Some k) → Names (map write_of ws) x
named_there ws k x (found, before) =
    (found.0.value, (k, slice_get-map write_of ws k ∙ (ap (option_map write_of) found.1 ∙ ap (λ (y : Cell). Some (y, found.0.value)) found.2)))

pub unnamed : (ws : List Write) (x : Cell) → IsIndexOf ws x None → ¬ Names (map write_of ws) x
unnamed [] x none (v, (k, puts)) = none-some (x, v) puts
unnamed (u ∷ ws) x none (v, (zero, puts)) = none 0 u refl (ap (λ (p : Cell × Change). p.0) (same_Some (write_of u) (x, v) puts))
unnamed (u ∷ ws) x none (v, (suc k, puts)) = unnamed ws x (λ j. none (suc j)) (v, (k, puts))
