-- The bounds of a reached state's numbers.
use Rattle.std.proofs.Common.{◌≡◌, ℕ, ◌+◌, ◌<◌, ◌≤◌, Bool, true, false, cond, [], length, Some, None, inl, inr, sym, ap, subst, ◌∙◌, arith, refl}
use Rattle.std.specs.Prelude.{nat_eq}
use Rattle.std.specs.Ordering.{nat_cmp}
use Rattle.std.specs.FinMap.{get, insert, remove, empty, get-empty}
use Rattle.std.proofs.lemmas.Bool.{cases_eq, cases_lt}
use Rattle.std.proofs.lemmas.Bool.Decides.{nat_tests}
use Rattle.std.proofs.lemmas.Option.{none-some, slice_get_within}
use Rattle.cell_key.specs.declared.refusals.Refusal.TheVariants.{TooManyWrites}
use Rattle.si_model.specs.Machine.{State, Change, Phase, Open, Holding, Stamped, Finishing, Commit, Request, Reply, InPhase, Writes, Wrote, Names, Sets, finishing, most_writes, end_of_stamps, IsAcceptable}
use Rattle.si_model.specs.Sets.{◌∈◌}
use Rattle.si_model.specs.declared.replies.Cell.{Cell}
use Rattle.si_model.specs.Refusing.{set_full, delete_full}
use Rattle.si_model.specs.Machine.{Acts, tells, begins, reads, scans, sets, deletes, holds, conflicts, draws, loses, commits, finishes, stops, opens, kills, learns, rolls_forward, rolls_back, finds_gone, collects, has_collected, splits, moves_tablet}
use Rattle.si_model.specs.Machine.{IsReached, new_machine}
use Rattle.si_model.specs.Servers.{Sessions, seen_with, IsReachedByServers, starts_new, acts, raises, sees}
use Rattle.si_model.specs.Laws.{FitsPhase, Bounds}
use Rattle.si_model.proofs.Tools.{get_other, each_insert, each_remove, same_entry, set_length}
use Rattle.si_model.proofs.Invariant.{Sound}
use Rattle.si_model.proofs.ByServers.{by_servers}
use Rattle.si_model.proofs.Steps.{acts_sound, servers_sound}

-- a session moves to a phase that fits
goes_fit : (st : State) (t : ℕ) (p : Phase) (ws : Writes) → Wrote st t ws → FitsPhase p (length ws) → Bounds st → (u : ℕ) (q : Phase) → get (insert st.active t p) u ≡ Some q → (vs : Writes) → Wrote st u vs → FitsPhase q (length vs)
goes_fit st t p ws w fit b = each_insert st.active t (λ u q. (vs : Writes) → Wrote st u vs → FitsPhase q (length vs)) p
    (λ vs w'. subst (λ (vs : Writes). FitsPhase p (length vs)) (same_entry st.begun t ws vs w w') fit) (λ u q ne h. b.fits u q h)

ends_fit : (st : State) (t : ℕ) → Bounds st → (u : ℕ) (q : Phase) → get (remove st.active t) u ≡ Some q → (vs : Writes) → Wrote st u vs → FitsPhase q (length vs)
ends_fit st t b = each_remove st.active t (λ u q. (vs : Writes) → Wrote st u vs → FitsPhase q (length vs)) (λ u q ne h. b.fits u q h)

late_fit : (st : State) (t c k : ℕ) (ws : Writes) → Wrote st t ws → 1 ≤ k → k ≤ length ws → Bounds st → (u : ℕ) (q : Phase) → get (finishing st.active t c k (length ws)) u ≡ Some q → (vs : Writes) → Wrote st u vs → FitsPhase q (length vs)
late_fit st t c k ws w some few b = by (nat_eq k (length ws)) refl
  where
    by : (last : Bool) → nat_eq k (length ws) ≡ last → (u : ℕ) (q : Phase) → get (cond last (remove st.active t) (insert st.active t (Finishing c k))) u ≡ Some q → (vs : Writes) → Wrote st u vs → FitsPhase q (length vs)
    by true e = ends_fit st t b
    by false e = goes_fit st t (Finishing c k) ws w (some, grind (arith, nat_tests, e)) b

-- the number of writes
sets_few : (st : State) (s : ℕ) (x : Cell) (v : Change) (ws ws' : Writes) → (¬ Names ws x → most_writes ≤ length ws → ⊥) → Sets x v ws ws' → length ws ≤ most_writes → length ws' ≤ most_writes
sets_few st s x v ws ws' room by few = elim (set_length by) [
  | inl same ↦ omega arith
  | inr (none, more) ↦ elim (cases_lt (length ws) most_writes) [
    | inl less ↦ omega arith
    | inr full ↦ absurd (room none full)
  ]
]

-- commit stamps are at most the top
stamped_low : (st : State) → Sound st → st.top < end_of_stamps → (t c : ℕ) → InPhase st t (Stamped c) → c < end_of_stamps
stamped_low st i top t c h = let low = (i.drawn t (Stamped c) h c refl).low in omega arith

commit_low : (st : State) → Sound st → st.top < end_of_stamps → (a : Commit) → a ∈ st.commits → a.stamp < end_of_stamps
commit_low st i top a m = let low = (i.fair a m).low in omega arith

finishing_low : (st : State) → Sound st → st.top < end_of_stamps → (t c k : ℕ) → InPhase st t (Finishing c k) → c < end_of_stamps
finishing_low st i top t c k h = let f = i.finishes t (Finishing c k) h c k refl in commit_low st i top (record { start = t; stamp = c; writes = f.0 }) f.1

-- a step that begins no session and sets nothing
kept_bounds : {st st' : State} → Sound st' → Bounds st → st'.begun ≡ st.begun → st'.top < end_of_stamps
    → ((t : ℕ) (p : Phase) → InPhase st' t p → (ws : Writes) → Wrote st t ws → FitsPhase p (length ws)) → Bounds st'
kept_bounds {st} {st'} i b same top fits = record {
  top = top;
  start_from = λ t ws w. b.start_from t ws (before t ws w);
  start_to = λ t ws w. b.start_to t ws (before t ws w);
  few_writes = λ t ws w. b.few_writes t ws (before t ws w);
  has_begun = i.has_begun;
  fits = λ t p h ws w. fits t p h ws (before t ws w);
  stamped_to = stamped_low st' i top;
  finishing_to = finishing_low st' i top;
  commit_to = commit_low st' i top;
}
  where
    before : (t : ℕ) (ws : Writes) → Wrote st' t ws → Wrote st t ws
    before t ws w = ap (λ m. get m t) (sym same) ∙ w

-- a session's writes change
rewritten_bounds : (st : State) (s : ℕ) (ws ws' : Writes) → InPhase st s Open → Wrote st s ws → length ws' ≤ most_writes → Sound (record st { begun = insert st.begun s ws' }) → Bounds st
    → Bounds (record st { begun = insert st.begun s ws' })
rewritten_bounds st s ws ws' h w few sound b = record {
  top = b.top;
  start_from = each_insert st.begun s (λ t ws. 1 ≤ t) ws' (b.start_from s ws w) (λ t ws ne w. b.start_from t ws w);
  start_to = each_insert st.begun s (λ t ws. t < end_of_stamps) ws' (b.start_to s ws w) (λ t ws ne w. b.start_to t ws w);
  few_writes = each_insert st.begun s (λ t ws. length ws ≤ most_writes) ws' few (λ t ws ne w. b.few_writes t ws w);
  has_begun = sound.has_begun;
  fits = λ u q h' vs w'. elim (cases_eq u s) [
    | inl e ↦ subst (λ (p : Phase). FitsPhase p (length vs)) (same_entry st.active u Open q (subst (λ v. InPhase st v Open) (sym e) h) h') tt
    | inr ne ↦ b.fits u q h' vs (sym (get_other st.begun s ws' u ne) ∙ w')
  ];
  stamped_to = b.stamped_to;
  finishing_to = b.finishing_to;
  commit_to = b.commit_to;
}

acts_bounds : {st st' : State} {q : Request} {r : Reply} (mine : Sessions) → Sound st → Bounds st → IsAcceptable (seen_with st mine) q → Acts st q r st' → Bounds st'
acts_bounds mine i b ok (tells t) = b
acts_bounds {st} {st'} mine i b ok (begins {s = s} d) = let sound : Sound st' = acts_sound i (begins d) in record {
  top = d.1;
  start_from = each_insert st.begun s (λ t ws. 1 ≤ t) [] (let new = d.0 in omega arith) (λ t ws ne w. b.start_from t ws w);
  start_to = each_insert st.begun s (λ t ws. t < end_of_stamps) [] d.1 (λ t ws ne w. b.start_to t ws w);
  few_writes = each_insert st.begun s (λ t ws. length ws ≤ most_writes) [] (omega arith) (λ t ws ne w. b.few_writes t ws w);
  has_begun = sound.has_begun;
  fits = each_insert st.active s (λ u q. (vs : Writes) → get (insert st.begun s []) u ≡ Some vs → FitsPhase q (length vs)) Open (λ vs w. tt)
      (λ u q ne h vs w. b.fits u q h vs (sym (get_other st.begun s [] u ne) ∙ w));
  stamped_to = stamped_low st' sound d.1;
  finishing_to = finishing_low st' sound d.1;
  commit_to = commit_low st' sound d.1;
}
acts_bounds {st} {st'} mine i b ok (sets {s = s} {x = x} {v = v} {ws = ws} {ws' = ws'} h w by) =
    rewritten_bounds st s ws ws' h w (sets_few st s x (Some v) ws ws' (λ none full. ok TooManyWrites (set_full w none full)) by (b.few_writes s ws w)) (acts_sound i (sets {x = x} {v = v} h w by)) b
acts_bounds {st} {st'} mine i b ok (deletes {s = s} {x = x} {ws = ws} {ws' = ws'} h w by) =
    rewritten_bounds st s ws ws' h w (sets_few st s x None ws ws' (λ none full. ok TooManyWrites (delete_full w none full)) by (b.few_writes s ws w)) (acts_sound i (deletes {x = x} h w by)) b
acts_bounds {st} {st'} mine i b ok (holds {t = t} {k = k} {ws = ws} {x = x} {v = v} h w puts free) =
    let s : Acts st _ _ st' = holds h w puts free in
    let within = slice_get_within ws k (x, v) puts in
    kept_bounds (acts_sound i s) b refl b.top (goes_fit st t (Holding (k + 1)) ws w (omega arith, omega arith) b)
acts_bounds {st} {st'} mine i b ok (draws {t = t} {c = c} {ws = ws} h w d) =
    let s : Acts st _ _ st' = draws h w d in
    kept_bounds (acts_sound i s) b refl d.1 (goes_fit st t (Stamped c) ws w (b.fits t (Holding (length ws)) h ws w).0 b)
acts_bounds {st} {st'} mine i b ok (commits {t = t} {c = c} {ws = ws} h alive w puts less) =
    let s : Acts st _ _ st' = commits h alive w puts less in
    kept_bounds (acts_sound i s) b refl b.top (late_fit st t c 1 ws w (omega arith) (b.fits t (Stamped c) h ws w) b)
acts_bounds {st} {st'} mine i b ok (finishes {t = t} {c = c} {k = k} {ws = ws} h w puts less) =
    let s : Acts st _ _ st' = finishes h w puts less in
    let fit = (b.fits t (Finishing c k) h ws w).1 in
    kept_bounds (acts_sound i s) b refl b.top (late_fit st t c (k + 1) ws w (omega arith) (omega arith) b)
acts_bounds {st} {st'} mine i b ok (conflicts {t = t} h w puts clash) = let s : Acts st _ _ st' = conflicts h w puts clash in kept_bounds (acts_sound i s) b refl b.top (ends_fit st t b)
acts_bounds {st} {st'} mine i b ok (loses {t = t} h d) = let s : Acts st _ _ st' = loses h d in kept_bounds (acts_sound i s) b refl b.top (ends_fit st t b)
acts_bounds {st} {st'} mine i b ok (stops {t = t} h) = let s : Acts st _ _ st' = stops h in kept_bounds (acts_sound i s) b refl b.top (ends_fit st t b)
acts_bounds {st} {st'} mine i b ok (reads h none shown) = let s : Acts st _ _ st' = reads h none shown in kept_bounds (acts_sound i s) b refl b.top b.fits
acts_bounds {st} {st'} mine i b ok (scans h is) = let s : Acts st _ _ st' = scans h is in kept_bounds (acts_sound i s) b refl b.top b.fits
acts_bounds {st} {st'} mine i b ok (opens m room) = let s : Acts st _ _ st' = opens m room in kept_bounds (acts_sound i s) b refl b.top b.fits
acts_bounds {st} {st'} mine i b ok (kills is nc alive w puts less) = let s : Acts st _ _ st' = kills is nc alive w puts less in kept_bounds (acts_sound i s) b refl b.top b.fits
acts_bounds {st} {st'} mine i b ok (learns is fate) = let s : Acts st _ _ st' = learns is fate in kept_bounds (acts_sound i s) b refl b.top b.fits
acts_bounds {st} {st'} mine i b ok (rolls_forward is m committed less) = let s : Acts st _ _ st' = rolls_forward is m committed less in kept_bounds (acts_sound i s) b refl b.top b.fits
acts_bounds {st} {st'} mine i b ok (rolls_back is m nc less) = let s : Acts st _ _ st' = rolls_back is m nc less in kept_bounds (acts_sound i s) b refl b.top b.fits
acts_bounds {st} {st'} mine i b ok (finds_gone is m) = let s : Acts st _ _ st' = finds_gone is m in kept_bounds (acts_sound i s) b refl b.top b.fits
acts_bounds {st} {st'} mine i b ok (collects is_floor room) = let s : Acts st _ _ st' = collects is_floor room in kept_bounds (acts_sound i s) b refl b.top b.fits
acts_bounds {st} {st'} mine i b ok (has_collected {n = n} h none) = let s : Acts st _ _ st' = has_collected {n = n} h none in kept_bounds (acts_sound i s) b refl b.top b.fits
acts_bounds {st} {st'} mine i b ok (splits cut) = let s : Acts st _ _ st' = splits cut in kept_bounds (acts_sound i s) b refl b.top b.fits
acts_bounds {st} {st'} mine i b ok (moves_tablet is_moved) = let s : Acts st _ _ st' = moves_tablet is_moved in kept_bounds (acts_sound i s) b refl b.top b.fits

nothing : {X : Type 0} (v : X) (k : ℕ) → get (empty {X = X} {R = nat_cmp}) k ≡ Some v → ⊥
nothing v k h = none-some v (sym (get-empty nat_cmp k) ∙ h)

new_bounds : Bounds new_machine
new_bounds = record {
  top = omega arith;
  start_from = λ t ws w. absurd (nothing ws t w);
  start_to = λ t ws w. absurd (nothing ws t w);
  few_writes = λ t ws w. absurd (nothing ws t w);
  has_begun = λ t p h. absurd (nothing p t h);
  fits = λ t p h. absurd (nothing p t h);
  stamped_to = λ t c h. absurd (nothing (Stamped c) t h);
  finishing_to = λ t c k h. absurd (nothing (Finishing c k) t h);
  commit_to = λ a m. elim m [ ];
}

pub servers_bounds : {st : State} → IsReachedByServers st → Bounds st
servers_bounds starts_new = new_bounds
servers_bounds (acts mine r ok a) = acts_bounds mine (servers_sound r) (servers_bounds r) ok a
servers_bounds (raises r low) = let b = servers_bounds r in kept_bounds (servers_sound (raises r low)) b refl b.top b.fits
servers_bounds (sees r part) = let b = servers_bounds r in kept_bounds (servers_sound (sees r part)) b refl b.top (λ t p h. b.fits t p (part.sessions t p h))

pub reached_bounds : {st : State} → IsReached st → Bounds st
reached_bounds r = servers_bounds (by_servers r)
