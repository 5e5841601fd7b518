-- What a Read's answer tells, and its length.
use Rattle.std.proofs.Common.{◌≡◌, ℕ, ◌<◌, ◌^◌, List, [], ◌∷◌, ◌++◌, length, drop, Option, Some, None, refl, ap, length-append, arith}
use Rattle.std.specs.List.{AllByRecursion, flat_map}
use Rattle.si_model.specs.Messages.{Item, Valued, Locked, Unsent}
use Rattle.si_model.specs.Scans.{found_length}
use Rattle.si_model.specs.Transactions.{told_length, told_lengths}
use Rattle.request_codec.specs.Answers.{told_fields, ToldFits, ToldStartFits}
use Rattle.request_codec.specs.Scans.{said_fields, StartFits, SaidFits}
use Rattle.request_codec.proofs.Fields.{first}
use Rattle.request_codec.proofs.Scans.{same_said, length-said, start_of}

-- what is said of a cell doesn't begin with 0
pub said_begins : (item : Item) (x : List ℕ) → 0 < first (said_fields item ++ x)
said_begins (Valued value) x = omega arith
said_begins (Locked start) x = omega arith
said_begins Unsent x = omega arith

pub same_told : (a b : Option Item) (x y : List ℕ) → ToldFits a → ToldFits b → told_fields a ++ x ≡ told_fields b ++ y → (a ≡ b) × (x ≡ y)
same_told None None x y p q e = (refl, ap (drop 1) e)
same_told None (Some b) x y p q e = let f = ap first e in absurd (omega (arith, f, said_begins b y))
same_told (Some a) None x y p q e = let f = ap first e in absurd (omega (arith, f, said_begins a x))
same_told (Some a) (Some b) x y p q e =
    let s = same_said a b x y p q e in
    (ap (λ k. Some k) s.0, s.1)

pub length-told : (told : Option Item) → length (told_fields told) ≡ told_length told
length-told None = refl
length-told (Some item) = length-said item

pub length-all_told : (told : List (Option Item)) → length (flat_map told_fields told) ≡ told_lengths told
length-all_told [] = refl
length-all_told (said ∷ told) = omega (arith, length-append (told_fields said) (flat_map told_fields told), length-told said, length-all_told told)

told_start : (told : Option Item) → ToldFits told → ToldStartFits told
told_start None p = tt
told_start (Some item) p = start_of item p

pub told_starts : (told : List (Option Item)) → AllByRecursion ToldFits told → AllByRecursion ToldStartFits told
told_starts [] p = tt
told_starts (said ∷ told) p = (told_start said p.0, told_starts told p.1)

said_fits : (item : Item) → StartFits item → found_length item < 2 ^ 32 → SaidFits item
said_fits (Valued value) p few = omega (arith, few)
said_fits (Locked start) p few = p
said_fits Unsent p few = tt

told_fits : (told : Option Item) → ToldStartFits told → told_length told < 2 ^ 32 → ToldFits told
told_fits None p few = tt
told_fits (Some item) p few = said_fits item p (omega (arith, few))

pub all_told_fit : (told : List (Option Item)) → AllByRecursion ToldStartFits told → told_lengths told < 2 ^ 32 → AllByRecursion ToldFits told
all_told_fit [] starts few = tt
all_told_fit (said ∷ told) starts few = (
  told_fits said starts.0 (omega (arith, few)),
  all_told_fit told starts.1 (omega (arith, few)),
)
