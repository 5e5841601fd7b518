use Rattle.std.proofs.Common.{◌≡◌, ◌⊎◌, inl, inr, List, ℕ, Option, Some, None, refl, sym, subst}
use Rattle.std.specs.Prelude.{IfSome, IsSomeAnd, option_map}
use Rattle.std.specs.Borrow.{Bor}
use Rattle.std.proofs.lemmas.Option.{same_Some}
use Rattle.cell_key.specs.Names.{IsFamily, IsRow}
use Rattle.cell_key.specs.declared.refusals.Refusal.{Refusal}
use Rattle.cell_key.specs.declared.refusals.Refusal.TheVariants.{BadRow, BadColumn, NoMemory}
use Rattle.cell_key.proofs.Passed.{passed_err}
use Rattle.si_model.specs.Reads.{IsNameRefusal, cell_of}
use Rattle.si_model.specs.Replies.{range_of}
use Rattle.si_model.specs.Scans.{HasFamilies, HasRows}
use Rattle.si_model.specs.declared.replies.Cell.{Cell}
use Rattle.si_model.specs.declared.scans.ScanRange.{ScanRange}
use Rattle.txn_client.specs.Ranges.{IsRangeRefusal}
use Rattle.txn_client.proofs.range.Range.new.Goals as goal

abbrev Name : Type 0
Name = Bor (List ℕ)

abbrev named : Option (Name × Name) → Option Name → Option Name → ScanRange
named after end family = record { after = after; end = end; family = family }

each_name : (P : List ℕ → Type 0) (o : Option Name) → IfSome o (λ n. P n.now) → (name : List ℕ) → option_map (λ (n : Name). n.now) o ≡ Some name → P name
each_name P None so name is = let f : ⊥ = cc in absurd f
each_name P (Some n) so name is = subst P (same_Some n.now name is) so

each_row : (o : Option (Name × Name)) → IfSome o (λ n. IsRow n.0.now) → (before : Cell) → option_map (λ (n : Name × Name). cell_of n.0.now n.1.now) o ≡ Some before → IsRow before.row
each_row None so before is = let f : ⊥ = cc in absurd f
each_row (Some n) so before is = subst (λ (x : Cell). IsRow x.row) (same_Some (cell_of n.0.now n.1.now) before is) so

bad_name : (P : List ℕ → Type 0) (o : Option Name) → IsSomeAnd o (λ n. ¬ P n.now) → ((name : List ℕ) → option_map (λ (n : Name). n.now) o ≡ Some name → P name) → ⊥
bad_name P None bad each = absurd bad
bad_name P (Some n) bad each = bad (each n.now refl)

end_refused : (range : ScanRange) (e : Refusal) → (e ≡ NoMemory) ⊎ ((e ≡ BadRow) × IsSomeAnd range.end (λ n. ¬ IsRow n.now)) → IsRangeRefusal (range_of range) e
end_refused range e (inl none) = subst (λ (f : Refusal). IsRangeRefusal (range_of range) f) (sym none) tt
end_refused range e (inr (is, bad)) = subst (λ (f : Refusal). IsRangeRefusal (range_of range) f) (sym is) (λ (rows : HasRows (range_of range)). bad_name IsRow range.end bad rows.1)

after_named : (after : Option (Name × Name)) (end family : Option Name) → IfSome end (λ n. IsRow n.now) → (e : Refusal) → IsSomeAnd after (λ n. IsNameRefusal (cell_of n.0.now n.1.now) e) → IsRangeRefusal (range_of (named after end family)) e
after_named None end family ok e bad = absurd bad
after_named (Some n) end family ok BadRow bad = λ rows. bad (rows.0 (cell_of n.0.now n.1.now) refl)
after_named (Some n) end family ok BadColumn bad = ((each_row (Some n) bad.0, each_name IsRow end ok), λ families. bad.1 (families.0 (cell_of n.0.now n.1.now) refl))
after_named (Some n) end family ok NoMemory bad = tt
after_named (Some n) end family ok _ bad = bad

after_refused : (range : ScanRange) (e : Refusal) → IfSome range.end (λ n. IsRow n.now) → (e ≡ NoMemory) ⊎ IsSomeAnd range.after (λ n. IsNameRefusal (cell_of n.0.now n.1.now) e) → IsRangeRefusal (range_of range) e
after_refused range e ok (inl none) = subst (λ (f : Refusal). IsRangeRefusal (range_of range) f) (sym none) tt
after_refused range e ok (inr bad) = after_named range.after range.end range.family ok e bad

family_refused : (range : ScanRange) (e : Refusal) → IfSome range.end (λ n. IsRow n.now) → IfSome range.after (λ n. IsRow n.0.now) → (e ≡ NoMemory) ⊎ ((e ≡ BadColumn) × IsSomeAnd range.family (λ n. ¬ IsFamily n.now)) → IsRangeRefusal (range_of range) e
family_refused range e ok row (inl none) = subst (λ (f : Refusal). IsRangeRefusal (range_of range) f) (sym none) tt
family_refused range e ok row (inr (is, bad)) =
    subst (λ (f : Refusal). IsRangeRefusal (range_of range) f) (sym is) ((each_row range.after row, each_name IsRow range.end ok), λ (families : HasFamilies (range_of range)). bad_name IsFamily range.family bad families.1)

pub returns-in_err-end-clause-refusal : goal.returns-in_err-end-clause-refusal
returns-in_err-end-clause-refusal c =
    passed_err c.from_residual.result c.in_err-end.field-0.0 (IsRangeRefusal (range_of c.args.range)) c.from_residual.ensures.1 (end_refused c.args.range c.in_err-end.field-0.0 c.in_err-end.ensures.refusal)

pub returns-in_err-after-clause-refusal : goal.returns-in_err-after-clause-refusal
returns-in_err-after-clause-refusal c =
    passed_err c.from_residual-in_err-after.result c.in_err-after.field-0.0 (IsRangeRefusal (range_of c.args.range)) c.from_residual-in_err-after.ensures.1
    (after_refused c.args.range c.in_err-after.field-0.0 c.in_ok-end.ensures.valid c.in_err-after.ensures.refusal)

pub returns-in_err-family-clause-refusal : goal.returns-in_err-family-clause-refusal
returns-in_err-family-clause-refusal c =
    passed_err c.from_residual-in_err-family.result c.in_err-family.field-0.0 (IsRangeRefusal (range_of c.args.range)) c.from_residual-in_err-family.ensures.1
    (family_refused c.args.range c.in_err-family.field-0.0 c.in_ok-end.ensures.valid c.in_ok-after.ensures.row c.in_err-family.ensures.refusal)
