use Rattle.std.proofs.Common.{◌≡◌, true, false, ℕ, List, [], ◌∷◌, Option, None, Some, Bor, refl, ap, ◌∙◌}
use Rattle.std.specs.Prelude.{is_some}
use Rattle.std.specs.Option.{option_copied}
use Rattle.std.specs.Ordering.{is_lt}
use Rattle.std.specs.declared.cmp.Ordering.TheVariants.{Less, Equal, Greater}
use Rattle.cell_key.specs.Entries.{entries_from}
use Rattle.cell_key.specs.Keys.{byte_cmp, text, IsStored}
use Rattle.cell_key.specs.declared.keys.CellKey.{CellKey}
use Rattle.tablet.specs.Reads.{IsOfPlace, first_value}
use Rattle.tablet.proofs.ReadPlaces.{from_not_less, none_below, none_erased, some_from}
use Rattle.tablet.proofs.scan.place_of.Goals.{then-is_none-via-then-is_none, then-is_none-via-else-is_none+then-is_lt}
use Rattle.tablet.proofs.scan.place_of.Goals as goal

erased : (past name : List ℕ) (value : Option (Bor (List ℕ))) → is_some value ≡ false → first_value (entries_from past ((name, option_copied value) ∷ [])) ≡ None
erased past name None e = none_erased past name
erased past name (Some value) e = cc

less_is : (past name : List ℕ) → true ≡ is_lt (byte_cmp name past) → byte_cmp name past ≡ Less
less_is past name e = elim (byte_cmp name past) as (λ o. true ≡ is_lt o → o ≡ Less) [ Less ↦ λ e. refl | Equal ↦ λ e. cc | Greater ↦ λ e. cc ] e

above : (past name : List ℕ) → false ≡ is_lt (byte_cmp name past) → byte_cmp name past ≡ Less → ⊥
above past name e less = let same : false ≡ true = e ∙ ap is_lt less in absurd (cc)

kept : (past name : List ℕ) (value : Option (Bor (List ℕ))) (key : CellKey) → is_some value ≡ true → false ≡ is_lt (byte_cmp name past) → name ≡ text key → IsStored key → IsOfPlace (first_value (entries_from past ((name, option_copied value) ∷ []))) (key.row, key.family)
kept past name None key e up named stored = absurd (let no : false ≡ true = e in cc)
kept past name (Some value) key e up named stored = record {
  key = key;
  value = value.now;
  stored = stored;
  at = refl;
  is = some_from past name value.now (from_not_less past name (above past name up)) ∙ ap (λ n. Some (n, value.now)) named;
}

pub returns-then-is_none-clause-found : goal.returns-then-is_none-clause-found
returns-then-is_none-clause-found c =
    elim c.then-is_none.branch [
      | then-is_none-via-then-is_none w ↦ erased c.args.past.now c.args.entry.key.now c.args.entry.value w.if-is_none.ensures
      | then-is_none-via-else-is_none+then-is_lt w ↦ none_below c.args.past.now c.args.entry.key.now (option_copied c.args.entry.value) (less_is c.args.past.now c.args.entry.key.now (w.if-is_lt.ensures ∙ ap is_lt w.cmp.ensures))
    ]

pub returns-in-Some-clause-found : goal.returns-in-Some-clause-found
returns-in-Some-clause-found c =
    kept c.args.past.now c.args.entry.key.now c.args.entry.value c.in-Some.key c.if-is_none.ensures (c.if-is_lt.ensures ∙ ap is_lt c.cmp.ensures)
    (rw c.in-Some.is at c.in_ok-key.ensures.found) (rw c.in-Some.is at c.in_ok-key.ensures.stored)
