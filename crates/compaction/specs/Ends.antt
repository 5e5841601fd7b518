-- The entries of a source up to an end.
use Rattle.std.proofs.Common.{◌≡◌, Bool, true, false, cond}
use Rattle.std.specs.Prelude.{ℕ, List, filter, map, Option, Some, None, not}
use Rattle.std.specs.Option.{option_copied}
use Rattle.std.specs.Ordering.{is_lt}
use Rattle.cell_key.specs.Keys.{byte_cmp}
use Rattle.cell_key.specs.Entries.{Entry, entries_from, merged}
use Rattle.compaction.specs.declared.bounded.Bounded.{Bounded}

-- the source of a bounded source, and the text that it ends before
abbrev pub source_of : {S : Type 0} → Bounded S → S
source_of s = s.source

abbrev pub end_of : {S : Type 0} → Bounded S → Option (List ℕ)
end_of s = option_copied s.end

-- whether a text is below an end; true if there is no end
abbrev pub is_below : Option (List ℕ) → List ℕ → Bool
is_below None name = true
is_below (Some end) name = is_lt (byte_cmp name end)

-- the entries whose texts are below an end
abbrev pub entries_until : Option (List ℕ) → List Entry → List Entry
entries_until end es = filter (λ entry. is_below end entry.0) es

-- A range of merged lists is the merge of the lists' ranges.
abbrev pub MergesRanges : Type 0
MergesRanges =
    (from : List ℕ) (end : Option (List ℕ)) (lists : List (List Entry))
    → merged (map (λ es. entries_until end (entries_from from es)) lists)
    ≡ entries_until end (entries_from from (merged lists))

abbrev pub lent_until : Option (List ℕ) → Option Entry → Option Entry
lent_until end None = None
lent_until end (Some entry) = cond (is_below end entry.0) (Some entry) None

-- whether there is an entry, and it is at or above the end
abbrev pub is_at_end : Option (List ℕ) → Option Entry → Bool
is_at_end end None = false
is_at_end end (Some entry) = not (is_below end entry.0)

-- a bounded source makes a step of its source, or it is at the end and stays there
pub data BoundedSteps {S : Type 0} (steps : S → S → Type 0) (lent : S → Option Entry)
    (s t : Bounded S) : Type 0 where
  goes_on : end_of t ≡ end_of s → steps (source_of s) (source_of t) → BoundedSteps steps lent s t
  stays : is_at_end (end_of s) (lent (source_of s)) ≡ true → t ≡ s → BoundedSteps steps lent s t
