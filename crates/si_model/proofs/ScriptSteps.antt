-- The steps of worked scripts, each over any state.
use Rattle.std.proofs.Common.{◌≡◌, ◌≢◌, ℕ, ◌+◌, ◌<◌, ◌≤◌, List, [], ◌∷◌, ◌++◌, length, Option, Some, None, inl, inr, refl, sym, ap, arith, lit<, lit≤}
use Rattle.std.specs.Prelude.{slice_get}
use Rattle.std.specs.FinMap.{get, insert, remove, len}
use Rattle.std.proofs.lemmas.Option.{same_Some}
use Rattle.cell_key.specs.Names.{IsRow, IsFamily}
use Rattle.si_model.specs.Sets.{◌∈◌, here, there, IsWithout}
use Rattle.si_model.specs.declared.replies.Cell.{Cell}
use Rattle.si_model.specs.Machine.{State, Value, Change, Writes, Open, Holding, Stamped, Finishing, Commit, Request, Reply, InPhase, Wrote, Marked, Puts, Names, IsDead, IsSnapshot, Clashes, Draws, Sets, finishing, most_sessions, most_value, most_writes}
use Rattle.si_model.specs.Machine.{Begin, Get, Set, Delete, Advance, Begun, Answered, SetDone, DeleteDone, Held, Conflict, Drawn, Committed, Finished}
use Rattle.si_model.specs.Machine.{begins, reads, sets, deletes, holds, conflicts, draws, commits, finishes, appends, passes, Step, refuses, accepts, Run, rests, goes_on, Refused}
use Rattle.cell_key.specs.declared.refusals.Refusal.TheVariants.{UnknownSession}
use Rattle.si_model.specs.Scripts.{bob, joe}
use Rattle.si_model.proofs.Tools.{each_cons, get_same, put_in}
use Rattle.si_model.proofs.FirstRefusals.{advance_unknown_first}
use Rattle.si_model.proofs.Acceptable.{begin_ok, get_ok, set_ok, delete_ok, advance_ok}

-- a cell within the limits
pub record IsCell (x : Cell) : Type 0 where
  pub row : IsRow x.row
  pub family : IsFamily x.family

pub bob_is : IsCell bob
bob_is = record {
  row = record { some = lit≤ tt; few = lit≤ tt };
  family = record {
    some = lit≤ tt;
    few = lit≤ tt;
    bytes = (
      record { low = lit≤ tt; high = lit≤ tt; no_colon = λ e. cc },
      (record { low = lit≤ tt; high = lit≤ tt; no_colon = λ e. cc }, (record { low = lit≤ tt; high = lit≤ tt; no_colon = λ e. cc }, tt)),
    );
  };
}

pub joe_is : IsCell joe
joe_is = record { row = record { some = lit≤ tt; few = lit≤ tt }; family = bob_is.family }

module _ (st : State) where
  -- nothing holds x, and no commit is later than t
  free : (x : Cell) (t : ℕ) → ((u : ℕ) → ¬ Marked st x u) → ((a : Commit) → a ∈ st.commits → a.stamp ≤ t) → ¬ Clashes st x t
  free x t none old (inl m) = none m.0 m.1
  free x t none old (inr (a, m, names, late)) = let before = old a m in absurd (omega arith)

  pub begin_step : (s : ℕ) → len st.active < most_sessions → Draws st s
      → Step st Begin (Begun s) (record st { top = s; begun = insert st.begun s []; active = insert st.active s Open })
  begin_step s room d = accepts (begin_ok room) (begins d)

  pub set_step : (s : ℕ) (x : Cell) (v : Value) (ws ws' : Writes) → IsCell x → length v ≤ most_value → length ws < most_writes
      → InPhase st s Open → Wrote st s ws → Sets x (Some v) ws ws' → Step st (Set s x v) SetDone (record st { begun = insert st.begun s ws' })
  set_step s x v ws ws' is short few h w by = accepts (set_ok ws h is.row is.family short w (inr few)) (sets h w by)

  pub delete_step : (s : ℕ) (x : Cell) (ws ws' : Writes) → IsCell x → length ws < most_writes
      → InPhase st s Open → Wrote st s ws → Sets x None ws ws' → Step st (Delete s x) DeleteDone (record st { begun = insert st.begun s ws' })
  delete_step s x ws ws' is few h w by = accepts (delete_ok ws h is.row is.family w (inr few)) (deletes h w by)

  pub get_step : (s : ℕ) (x : Cell) (answer : Option Value) → IsCell x → InPhase st s Open → ((t : ℕ) → Marked st x t → s < t) → IsSnapshot st.commits s x answer
      → Step st (Get s x) (Answered answer) (record st { reads = record { start = s; cell = x; answer = answer } ∷ st.reads })
  get_step s x answer is h none shown = accepts (get_ok h is.row is.family) (reads h none shown)

  pub first_hold_step : (t : ℕ) (ws : Writes) (x : Cell) (v : Change) → InPhase st t Open → Wrote st t ws → Puts ws 0 x v → 1 ≤ length ws → ((u : ℕ) → ¬ Marked st x u) → ((a : Commit) → a ∈ st.commits → a.stamp ≤ t)
      → Step st (Advance t) (Held 1 (length ws)) (record st { marks = (x, t) ∷ st.marks; active = insert st.active t (Holding 1) })
  first_hold_step t ws x v h w puts some none old = accepts (advance_ok Open ws h w some) (holds (inr (h, refl)) w puts (free x t none old))

  pub hold_step : (t k : ℕ) (ws : Writes) (x : Cell) (v : Change) → InPhase st t (Holding k) → Wrote st t ws → Puts ws k x v → 1 ≤ length ws → ((u : ℕ) → ¬ Marked st x u) → ((a : Commit) → a ∈ st.commits → a.stamp ≤ t)
      → Step st (Advance t) (Held (k + 1) (length ws)) (record st { marks = (x, t) ∷ st.marks; active = insert st.active t (Holding (k + 1)) })
  hold_step t k ws x v h w puts some none old = accepts (advance_ok (Holding k) ws h w some) (holds (inl h) w puts (free x t none old))

  pub conflict_step : (t : ℕ) (ws : Writes) (x : Cell) (v : Change) → InPhase st t Open → Wrote st t ws → Puts ws 0 x v → 1 ≤ length ws → Clashes st x t
      → Step st (Advance t) (Conflict 1) (record st { active = remove st.active t })
  conflict_step t ws x v h w puts some clash = accepts (advance_ok Open ws h w some) (conflicts (inr (h, refl)) w puts clash)

  pub draw_step : (t c : ℕ) (ws : Writes) → InPhase st t (Holding (length ws)) → Wrote st t ws → 1 ≤ length ws → Draws st c
      → Step st (Advance t) (Drawn c) (record st { top = c; active = insert st.active t (Stamped c) })
  draw_step t c ws h w some d = accepts (advance_ok (Holding (length ws)) ws h w some) (draws h w d)

  pub commit_step : (t c : ℕ) (ws : Writes) (x : Cell) (v : Change) (marks' : List (Cell × ℕ)) → InPhase st t (Stamped c) → ¬ IsDead st t → Wrote st t ws → Puts ws 0 x v → 1 ≤ length ws → IsWithout st.marks (x, t) marks'
      → Step st (Advance t) (Committed c) (record st { commits = record { start = t; stamp = c; writes = ws } ∷ st.commits; marks = marks'; active = finishing st.active t c 1 (length ws) })
  commit_step t c ws x v marks' h alive w puts some less = accepts (advance_ok (Stamped c) ws h w some) (commits h alive w puts less)

  pub finish_step : (t c k : ℕ) (ws : Writes) (x : Cell) (v : Change) (marks' : List (Cell × ℕ)) → InPhase st t (Finishing c k) → Wrote st t ws → Puts ws k x v → 1 ≤ length ws → IsWithout st.marks (x, t) marks'
      → Step st (Advance t) (Finished (k + 1) (length ws)) (record st { marks = marks'; active = finishing st.active t c (k + 1) (length ws) })
  finish_step t c k ws x v marks' h w puts some less = accepts (advance_ok (Finishing c k) ws h w some) (finishes h w puts less)

pub leaves_only : {A : Type 0} (m : A) → IsWithout (m ∷ []) m []
leaves_only m = record { same = λ n. (λ h. elim h [ ], λ p. absurd (each_cons (λ n. n ≢ m → ⊥) (λ ne. ne refl) (λ k h. elim h [ ]) n p.0 p.1)) }

-- the first of two marks, the last in the list, is removed
pub leaves_last : {A : Type 0} (k m : A) → k ≢ m → IsWithout (k ∷ m ∷ []) m (k ∷ [])
leaves_last k m ne = record {
  same = λ n. (
    λ h. each_cons (λ n. (n ∈ (k ∷ m ∷ [])) × (n ≢ m)) (here, ne) (λ n h. elim h [ ]) n h,
    λ p. each_cons (λ n. n ≢ m → n ∈ (k ∷ [])) (λ d. here) (each_cons (λ n. n ≢ m → n ∈ (k ∷ [])) (λ d. absurd (d refl)) (λ n h. elim h [ ])) n p.0 p.1,
  );
}

-- an empty list has no mark of a cell
pub no_marks : (x : Cell) (u : ℕ) → ¬ (◌∈◌ {A = Cell × ℕ} (x, u) [])
no_marks x u h = elim h [ ]

-- one mark, of another cell
pub other_mark : (y x : Cell) (t : ℕ) → y ≢ x → (u : ℕ) → ¬ (◌∈◌ {A = Cell × ℕ} (x, u) ((y, t) ∷ []))
other_mark y x t ne u m = each_cons (λ (n : Cell × ℕ). n.0 ≡ x → ⊥) ne (λ n h. elim h [ ]) (x, u) m refl

pub bob_not_joe : bob ≢ joe
bob_not_joe e = let letters : 66 ≡ 74 = same_Some 66 74 (ap (λ (x : Cell). slice_get x.row 0) e) in absurd (omega (arith, letters))

pub joe_not_bob : joe ≢ bob
joe_not_bob e = bob_not_joe (sym e)

-- a start that has not committed, beside the commit of another
pub other_commit : (a : Commit) (t : ℕ) → a.start ≢ t → (c : ℕ) (ws : Writes) → ¬ (record { start = t; stamp = c; writes = ws } ∈ (a ∷ []))
other_commit a t ne c ws m = each_cons (λ (b : Commit). b.start ≡ t → ⊥) ne (λ b h. elim h [ ]) (record { start = t; stamp = c; writes = ws }) m refl

-- a single write names only its own cell
pub unnamed : (y x : Cell) (w : Change) → y ≢ x → ¬ Names ((y, w) ∷ []) x
unnamed y x w ne (v, (k, puts)) = each_cons (λ (u : Cell × Change). u.0 ≡ x → ⊥) ne (λ u h. elim h [ ]) (x, v) (put_in ((y, w) ∷ []) k x v puts) refl

-- two runs in sequence
pub run_append : {st mid end : State} {qs qs' : List Request} {rs rs' : List Reply} → Run st qs rs mid → Run mid qs' rs' end → Run st (qs ++ qs') (rs ++ rs') end
run_append rests more = more
run_append (goes_on s run) more = goes_on s (run_append run more)

-- a session that has ended
pub ended_step : (st : State) (s : ℕ) → get st.active s ≡ None → Step st (Advance s) (Refused UnknownSession) st
ended_step st s e = refuses (advance_unknown_first e)

-- one session writes two cells, which have no mark and no commit later than its start
module _ (st : State) (s c : ℕ) (x y : Cell) (v w : Value) where
  abbrev pub first_of_two : Writes
  first_of_two = (x, Some v) ∷ []

  abbrev pub both : Writes
  both = (x, Some v) ∷ (y, Some w) ∷ []

  -- with its stamp drawn
  abbrev pub stamped_two : State
  stamped_two = record st {
    top = c;
    begun = insert (insert st.begun s first_of_two) s both;
    active = insert (insert (insert st.active s (Holding 1)) s (Holding 2)) s (Stamped c);
    marks = (y, s) ∷ (x, s) ∷ [];
  }

  -- committed, and all cells finished
  abbrev pub written_two : State
  written_two = record stamped_two {
    commits = record { start = s; stamp = c; writes = both } ∷ st.commits;
    marks = [];
    active = remove (insert (insert (insert (insert st.active s (Holding 1)) s (Holding 2)) s (Stamped c)) s (Finishing c 1)) s;
  }

  pub holds_two : IsCell x → IsCell y → x ≢ y → length v ≤ most_value → length w ≤ most_value → InPhase st s Open → Wrote st s []
      → ((a : Commit) → a ∈ st.commits → a.stamp ≤ s) → Draws st c
      → Run (record st { marks = [] }) (Set s x v ∷ Set s y w ∷ Advance s ∷ Advance s ∷ Advance s ∷ []) (SetDone ∷ SetDone ∷ Held 1 2 ∷ Held 2 2 ∷ Drawn c ∷ []) stamped_two
  holds_two xs ys ne short short' h new old d =
      goes_on (set_step _ s x v [] first_of_two xs short (lit< tt) h new appends)
      (goes_on (set_step _ s y w first_of_two both ys short' (lit< tt) h (get_same st.begun s first_of_two) (passes ne appends))
      (goes_on (first_hold_step _ s both x (Some v) h (get_same (insert st.begun s first_of_two) s both) refl (lit≤ tt) (no_marks x) old)
      (goes_on (hold_step _ s 1 both y (Some w) (get_same st.active s (Holding 1)) (get_same (insert st.begun s first_of_two) s both) refl (lit≤ tt) (other_mark x y s ne) old)
      (goes_on (draw_step _ s c both (get_same (insert st.active s (Holding 1)) s (Holding 2)) (get_same (insert st.begun s first_of_two) s both) (lit≤ tt) d)
      rests))))

  pub finishes_two : x ≢ y → ¬ IsDead st s → Run stamped_two (Advance s ∷ Advance s ∷ []) (Committed c ∷ Finished 2 2 ∷ []) written_two
  finishes_two ne alive =
      goes_on (commit_step _ s c both x (Some v) ((y, s) ∷ []) (get_same (insert (insert st.active s (Holding 1)) s (Holding 2)) s (Stamped c)) alive (get_same (insert st.begun s first_of_two) s both) refl (lit≤ tt)
      (leaves_last (y, s) (x, s) (λ e. ne (ap (λ (m : Cell × ℕ). m.0) (sym e)))))
      (goes_on (finish_step _ s c 1 both y (Some w) [] (get_same _ s (Finishing c 1)) (get_same (insert st.begun s first_of_two) s both) refl (lit≤ tt) (leaves_only (y, s)))
      rests)

-- both balances are read by a session that begins
module _ (st : State) (s : ℕ) (v w : Option Value) where
  abbrev pub begun_at : State
  begun_at = record st { top = s; begun = insert st.begun s []; active = insert st.active s Open }

  abbrev pub read_both : State
  read_both = record begun_at { reads = record { start = s; cell = joe; answer = w } ∷ record { start = s; cell = bob; answer = v } ∷ st.reads }

  pub reads_both : len st.active < most_sessions → Draws st s → ((x : Cell) (t : ℕ) → ¬ Marked st x t) → IsSnapshot st.commits s bob v → IsSnapshot st.commits s joe w
      → Run st (Begin ∷ Get s bob ∷ Get s joe ∷ []) (Begun s ∷ Answered v ∷ Answered w ∷ []) read_both
  reads_both room d none bobs joes =
      goes_on (begin_step st s room d)
      (goes_on (get_step _ s bob v bob_is (get_same st.active s Open) (λ t m. absurd (none bob t m)) bobs)
      (goes_on (get_step _ s joe w joe_is (get_same st.active s Open) (λ t m. absurd (none joe t m)) joes)
      rests))

-- the newest of the commits writes the cell
pub newest : (older : List Commit) (a : Commit) (s k : ℕ) (x : Cell) (v : Change) → Puts a.writes k x v → a.stamp ≤ s → ((b : Commit) → b ∈ older → b.stamp ≤ a.stamp) → IsSnapshot (a ∷ older) s x v
newest older a s k x v puts low old =
    inl (a, here, (k, puts), low, each_cons (λ b. Names b.writes x → b.stamp ≤ s → b.stamp ≤ a.stamp) (λ n l. omega arith) (λ b m n l. old b m))

-- the newest of the commits writes only another cell
pub skips : (older : List Commit) (t c : ℕ) (y : Cell) (w : Change) (s : ℕ) (x : Cell) (answer : Option Value) → y ≢ x → IsSnapshot older s x answer
    → IsSnapshot (record { start = t; stamp = c; writes = (y, w) ∷ [] } ∷ older) s x answer
skips older t c y w s x answer ne (inl (a, m, gives, low, most)) =
    inl (a, there m, gives, low, each_cons (λ b. Names b.writes x → b.stamp ≤ s → b.stamp ≤ a.stamp) (λ n l. absurd (unnamed y x w ne n)) most)
skips older t c y w s x answer ne (inr (e, none)) = inr (e, each_cons (λ b. Names b.writes x → s < b.stamp) (λ n. absurd (unnamed y x w ne n)) none)
