-- The writes of sessions are within the limits of rows, families and values.
use Rattle.std.proofs.Common.{◌≡◌, ◌≤◌, ℕ, zero, suc, List, [], ◌∷◌, length, Some, None, ◌⊎◌, inl, inr, sym, subst, ◌∙◌, arith}
use Rattle.std.specs.List.{AllByRecursion}
use Rattle.std.specs.Ordering.{nat_cmp}
use Rattle.std.specs.FinMap.{get-empty, insert}
use Rattle.std.proofs.lemmas.Bool.{cases_eq, cases_lt}
use Rattle.std.proofs.lemmas.Option.{same_Some, none-some}
use Rattle.cell_key.specs.Names.{IsRow, IsFamily, IsFamilyByte}
use Rattle.cell_key.specs.declared.refusals.Refusal.TheVariants.{BadRow, BadColumn, BadValue}
use Rattle.si_model.specs.declared.replies.Cell.{Cell}
use Rattle.si_model.specs.Machine.{State, Value, Change, Writes, Request, Reply, Set, Delete, Wrote, Puts, Gives, Sets, appends, replaces, passes, IsAcceptable, most_value}
use Rattle.si_model.specs.Machine.{Acts, tells, begins, reads, scans, sets, deletes, holds, conflicts, draws, loses, commits, finishes, stops, opens, kills, learns, rolls_forward, rolls_back, finds_gone, collects, has_collected, splits, moves_tablet}
use Rattle.si_model.specs.Servers.{Sessions, seen_with, IsReachedByServers, starts_new, acts, raises, sees}
use Rattle.si_model.specs.Refusing.{set_row, set_family, set_long, delete_row, delete_family}
use Rattle.si_model.specs.Laws.{IsWritable, WritesWithinLimits}
use Rattle.si_model.proofs.Tools.{each_insert}

-- limits hold or don't

row_or : (row : List ℕ) → IsRow row ⊎ (¬ IsRow row)
row_or row = elim (cases_lt 0 (length row)) [
  | inl some ↦ elim (cases_lt 4000 (length row)) [
    | inl many ↦ inr (λ is. let few = is.few in omega arith)
    | inr few ↦ inl (record { some = omega arith; few = few })
  ]
  | inr none ↦ inr (λ is. let some = is.some in omega arith)
]

byte_or : (b : ℕ) → IsFamilyByte b ⊎ (¬ IsFamilyByte b)
byte_or b = elim (cases_lt b 33) [
  | inl low ↦ inr (λ is. let from = is.low in omega arith)
  | inr from ↦ elim (cases_lt 126 b) [
    | inl high ↦ inr (λ is. let to = is.high in omega arith)
    | inr to ↦ elim (cases_eq b 58) [
      | inl colon ↦ inr (λ is. is.no_colon colon)
      | inr none ↦ inl (record { low = from; high = to; no_colon = none })
    ]
  ]
]

bytes_or : (bytes : List ℕ) → AllByRecursion IsFamilyByte bytes ⊎ (¬ AllByRecursion IsFamilyByte bytes)
bytes_or [] = inl tt
bytes_or (b ∷ bytes) = elim (byte_or b) [
  | inl is ↦ elim (bytes_or bytes) [ inl all ↦ inl (is, all) | inr none ↦ inr (λ all. none all.1) ]
  | inr none ↦ inr (λ all. none all.0)
]

family_or : (family : List ℕ) → IsFamily family ⊎ (¬ IsFamily family)
family_or family = elim (cases_lt 0 (length family)) [
  | inl some ↦ elim (cases_lt 64 (length family)) [
    | inl many ↦ inr (λ is. let few = is.few in omega arith)
    | inr few ↦ elim (bytes_or family) [
      | inl all ↦ inl (record { some = omega arith; few = few; bytes = all })
      | inr none ↦ inr (λ is. none is.bytes)
    ]
  ]
  | inr none ↦ inr (λ is. let some = is.some in omega arith)
]

-- the write of an accepted Set or Delete
set_writable : (st : State) (s : ℕ) (x : Cell) (v : Value) → IsAcceptable st (Set s x v) → IsWritable x (Some v)
set_writable st s x v ok = record {
  row = elim (row_or x.row) [ inl is ↦ is | inr bad ↦ absurd (ok BadRow (set_row bad)) ];
  family = elim (family_or x.family) [ inl is ↦ is | inr bad ↦ absurd (ok BadColumn (set_family bad)) ];
  value = λ given e. subst (λ (l : List ℕ). length l ≤ most_value) (same_Some v given e)
      (elim (cases_lt most_value (length v)) [ inl long ↦ absurd (ok BadValue (set_long long)) | inr few ↦ few ]);
}

delete_writable : (st : State) (s : ℕ) (x : Cell) → IsAcceptable st (Delete s x) → IsWritable x None
delete_writable st s x ok = record {
  row = elim (row_or x.row) [ inl is ↦ is | inr bad ↦ absurd (ok BadRow (delete_row bad)) ];
  family = elim (family_or x.family) [ inl is ↦ is | inr bad ↦ absurd (ok BadColumn (delete_family bad)) ];
  value = λ given e. absurd (none-some given e);
}

-- each change in the writes after a Set or a Delete is the new one, or was there before
set_puts : {x : Cell} {v : Change} {ws ws' : Writes} → Sets x v ws ws' → (k : ℕ) (y : Cell) (w : Change) → Puts ws' k y w → (◌≡◌ {A = Cell × Change} (x, v) (y, w)) ⊎ Gives ws y w
set_puts {x} {v} appends zero y w h = inl (same_Some (x, v) (y, w) h)
set_puts appends (suc k) y w h = absurd (none-some (y, w) h)
set_puts {x} {v} replaces zero y w h = inl (same_Some (x, v) (y, w) h)
set_puts replaces (suc k) y w h = inr (suc k, h)
set_puts (passes ne by) zero y w h = inr (zero, h)
set_puts (passes ne by) (suc k) y w h = elim (set_puts by k y w h) [ inl e ↦ inl e | inr g ↦ inr (suc g.0, g.1) ]

-- a session's writes change
rewritten_within : (st : State) (s : ℕ) (x : Cell) (v : Change) (ws ws' : Writes) → Wrote st s ws → Sets x v ws ws' → IsWritable x v → WritesWithinLimits st
    → WritesWithinLimits (record st { begun = insert st.begun s ws' })
rewritten_within st s x v ws ws' w by writable within = each_insert st.begun s (λ t us. (y : Cell) (u : Change) → Gives us y u → IsWritable y u) ws'
    (λ y u g. elim (set_puts by g.0 y u g.1) [
      | inl e ↦ subst (λ (p : Cell × Change). IsWritable p.0 p.1) e writable
      | inr old ↦ within s ws w y u old
    ])
    (λ t us ne g. within t us g)

acts_within : {st st' : State} {q : Request} {r : Reply} (mine : Sessions) → IsAcceptable (seen_with st mine) q → Acts st q r st' → WritesWithinLimits st → WritesWithinLimits st'
acts_within {st} mine ok (begins {s = s} d) within = each_insert st.begun s (λ t ws. (x : Cell) (v : Change) → Gives ws x v → IsWritable x v) []
    (λ x v g. absurd (none-some (x, v) g.1)) (λ t ws ne w. within t ws w)
acts_within {st} mine ok (sets {s = s} {x = x} {v = v} {ws = ws} {ws' = ws'} h w by) within = rewritten_within st s x (Some v) ws ws' w by (set_writable (seen_with st mine) s x v ok) within
acts_within {st} mine ok (deletes {s = s} {x = x} {ws = ws} {ws' = ws'} h w by) within = rewritten_within st s x None ws ws' w by (delete_writable (seen_with st mine) s x ok) within
acts_within mine ok (tells t) within = within
acts_within mine ok (reads h none shown) within = within
acts_within mine ok (scans h is) within = within
acts_within mine ok (holds h w puts free) within = within
acts_within mine ok (conflicts h w puts clash) within = within
acts_within mine ok (draws h w d) within = within
acts_within mine ok (loses h d) within = within
acts_within mine ok (commits h alive w puts less) within = within
acts_within mine ok (finishes h w puts less) within = within
acts_within mine ok (stops h) within = within
acts_within mine ok (opens m room) within = within
acts_within mine ok (kills is nc alive w puts less) within = within
acts_within mine ok (learns is fate) within = within
acts_within mine ok (rolls_forward is m committed less) within = within
acts_within mine ok (rolls_back is m nc less) within = within
acts_within mine ok (finds_gone is m) within = within
acts_within mine ok (collects is_floor room) within = within
acts_within mine ok (has_collected h none) within = within
acts_within mine ok (splits cut) within = within
acts_within mine ok (moves_tablet is_moved) within = within

servers_within : {st : State} → IsReachedByServers st → WritesWithinLimits st
servers_within starts_new = λ t ws w. absurd (none-some ws (sym (get-empty nat_cmp t) ∙ w))
servers_within (acts mine r ok a) = acts_within mine ok a (servers_within r)
servers_within (raises r low) = servers_within r
servers_within (sees r part) = servers_within r

pub writes_within_limits : (st : State) → IsReachedByServers st → WritesWithinLimits st
writes_within_limits st reached = servers_within reached
