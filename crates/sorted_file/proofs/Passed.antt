-- The entries that a source has passed, and the remaining ones of its list.
use Rattle.std.proofs.Common.{◌≡◌, false, List, [], ◌∷◌, ◌++◌, refl, sym, ap, subst, ◌∙◌, append_assoc}
use Rattle.std.specs.Prelude.{Option, Some, None, is_some, IsSome}
use Rattle.cell_key.specs.Entries.{Entry, IsEntry, IsEntryList, Takes}
use Rattle.file_store.specs.Store.{Contents}
use Rattle.sorted_file.specs.Passing.{EndsAfter, PassesOver, passes_none, passes_one}
use Rattle.sorted_file.specs.Source.{pending, ComesToEnd, ends, goes_on}
use Rattle.sorted_file.proofs.Joining.{all_front, rising_front}
use Rattle.sorted_file.proofs.Places.{rest_list}

none_of : (o : Option Entry) → is_some o ≡ false → o ≡ None
none_of None e = refl
none_of (Some e) p = cc

module _ {S : Type 0} (steps : Option Contents → S → S → Type 0) (lent : S → Option Entry) where
  -- a step over equal contents
  over_same : (was disk : Option Contents) (s t : S) → was ≡ disk → steps was s t → steps disk s t
  over_same was disk s t same step = subst (λ (d : Option Contents). steps d s t) same step

  passes_on : (disk : Option Contents) {s t u : S} {e : Entry} {es : List Entry} → PassesOver (steps disk) lent s es t → steps disk t u → lent u ≡ Some e → PassesOver (steps disk) lent s (es ++ e ∷ []) u
  passes_on disk passes_none step is = passes_one step is passes_none
  passes_on disk (passes_one first here more) step is = passes_one first here (passes_on disk more step is)

  -- one more entry
  pub passed_one : (was disk : Option Contents) (s t u : S) (es : List Entry) (e : Entry) → was ≡ disk → steps was t u → lent u ≡ Some e → PassesOver (steps disk) lent s es t → PassesOver (steps disk) lent s (es ++ e ∷ []) u
  passed_one was disk s t u es e same step is h = passes_on disk h (over_same was disk t u same step) is

  come_to : (disk : Option Contents) {s t : S} {es : List Entry} → PassesOver (steps disk) lent s es t → ComesToEnd (steps disk) lent t → ComesToEnd (steps disk) lent s
  come_to disk passes_none h = h
  come_to disk (passes_one step is more) h = goes_on step (subst (λ (o : Option Entry). IsSome o) (sym is) refl) (come_to disk more h)

  pub comes_to_end : (disk : Option Contents) (s : S) (es : List Entry) → EndsAfter (steps disk) lent es s → ComesToEnd (steps disk) lent s
  comes_to_end disk s es h = come_to disk h.passes (ends h.step h.none)

-- ---- the remaining entries

pub takes_some : (o : Option Entry) (e : Entry) (old new : List Entry) → o ≡ Some e → Takes o old new → old ≡ e ∷ new
takes_some o e old new is t = subst (λ (q : Option Entry). Takes q old new) is t

pub takes_none : (o : Option Entry) (old new : List Entry) → is_some o ≡ false → Takes o old new → old ≡ []
takes_none None old new is t = t.0
takes_none (Some e) old new is t = cc

-- the next one was taken, or none was left
pub taken : (done old new all : List Entry) (e : Entry) → old ≡ e ∷ new → done ++ old ≡ all → (done ++ e ∷ []) ++ new ≡ all
taken done old new all e is parts = append_assoc done (e ∷ []) new ∙ ap (λ (l : List Entry). done ++ l) (sym is) ∙ parts

-- the entries taken from an entry list are an entry list
pub taken_list : (lent : Option Entry) (all done more : List Entry) → IsEntryList (pending lent all) → done ++ more ≡ all → IsEntryList done
taken_list lent all done more list parts =
    let rest = subst IsEntryList (sym parts) (rest_list lent all list) in
    record { rising = rising_front done more rest.rising; each = all_front IsEntry done more rest.each }
