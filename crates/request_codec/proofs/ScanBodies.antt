-- The bodies of scans' replies, by their fields.
use Rattle.std.proofs.Common.{◌≡◌, ◌≢◌, ℕ, ◌<◌, ◌≤◌, ◌⊎◌, inl, inr, List, [], ◌∷◌, ◌++◌, length, refl, sym, ap, subst, ◌∙◌, arith}
use Rattle.std.specs.List.{AllByRecursion}
use Rattle.si_model.specs.Messages.{Item, Reach, ToEnd, UpTo, Scanned}
use Rattle.si_model.specs.Scans.{most_items}
use Rattle.si_model.specs.declared.replies.Cell.{Cell}
use Rattle.request_codec.specs.Fields.{number}
use Rattle.request_codec.specs.Replies.{IsReply, HoldsBytes, NeedsMemory}
use Rattle.si_model.specs.AnswerLimits.{IsNamedReach}
use Rattle.request_codec.specs.Scans.{reach_fields, items_fields, ItemFits, AreItems}
use Rattle.request_codec.proofs.Scans.{length-items, starts_fit, all_named}

pub scanned_is : (fields rest : List ℕ) (items : List (Cell × Item)) (reach own : Reach) (count : ℕ) → fields ≡ reach_fields reach ++ (number 4 count ++ rest) → IsNamedReach reach → own ≡ reach
    → length items ≡ count → AllByRecursion ItemFits items → rest ≡ items_fields items → length rest ≤ most_items → IsReply (Scanned items own) (0xB1 ∷ fields)
scanned_is fields rest items reach own count front named same many fit whole few =
    subst (λ (r : Reach). IsReply (Scanned items r) (0xB1 ∷ fields)) (sym same) (record {
      numbers = starts_fit items fit;
      bytes = record { bytes = omega (arith, few, length-items items, ap length whole); names = all_named items fit; reached = named };
      whole = ap (λ (t : List ℕ). 0xB1 ∷ t) (front ∙ ap (λ (t : List ℕ). reach_fields reach ++ t) (ap (λ (n : ℕ). number 4 n ++ rest) (sym many) ∙ ap (λ (t : List ℕ). number 4 (length items) ++ t) whole));
    })

holds : (items : List (Cell × Item)) (reach : Reach) → (reach ≢ ToEnd) ⊎ (0 < length items) → HoldsBytes (Scanned items reach)
holds [] ToEnd (inl unlike) = unlike refl
holds [] ToEnd (inr some) = omega (arith, some)
holds [] (UpTo cell) some = tt
holds (item ∷ items) reach some = tt

pub scanned_needs : (fields rest : List ℕ) (reach : Reach) (count : ℕ) → fields ≡ reach_fields reach ++ (number 4 count ++ rest) → IsNamedReach reach → AreItems count rest → length rest ≤ most_items
    → (reach ≢ ToEnd) ⊎ (0 < count) → NeedsMemory (0xB1 ∷ fields)
scanned_needs fields rest reach count front named are few some = (
  Scanned are.items reach,
  scanned_is fields rest are.items reach reach count front named refl are.many are.fit are.whole few,
  holds are.items reach (subst (λ (n : ℕ). (reach ≢ ToEnd) ⊎ (0 < n)) (sym are.many) some),
)
