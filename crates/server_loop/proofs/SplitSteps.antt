-- The machine's steps when the tablets of a cluster are split and moved.
use Rattle.std.proofs.Common.{◌≡◌, ◌<◌, ◌≤◌, ◌+◌, ℕ, inl, inr, List, length, map, sym, ap, subst, ◌∙◌, arith}
use Rattle.std.proofs.lemmas.Bool.{cases_lt}
use Rattle.std.specs.List.{Contains}
use Rattle.cell_key.specs.Names.{IsRow}
use Rattle.cell_key.specs.declared.refusals.Refusal.TheVariants.{BadSplit, UnknownTablet, UnknownServer}
use Rattle.metadata_table.specs.Places.{PlaceView}
use Rattle.metadata_table.specs.Table.{IsTable, HasTablet, BarsSplit, Cuts, moved, with_files, most_tablets, most_servers}
use Rattle.si_model.specs.Machine as machine
use Rattle.si_model.specs.Machine.{State, Step, Refuses, Split, SplitOff, Move, MoveDone, accepts, splits, moves_tablet}
use Rattle.si_model.proofs.Acceptable.{split_ok, move_ok}
use Rattle.si_model.proofs.FirstRefusals.{split_end_first, split_full_first, move_unknown_first, move_server_first}
use Rattle.row_atomic.specs.Clusters.{spot_of}
use Rattle.server_loop.specs.Server.{machine_place, machine_places}
use Rattle.server_loop.proofs.MachinePlaces.{machine_length, has_tablet_so, has_tablet_back, is_end_so, is_end_back, length_so, cuts_so, cut_length, moves_so, move_length, stays_so}
use Rattle.server_loop.proofs.SamePlaces.{KeepsPlaces, keeps_places, placed}

module _ (st : State) (old : List PlaceView) (same : st.places ≡ machine_places old) where
  room : (row : List ℕ) → ¬ BarsSplit row old → length st.places < machine.most_tablets
  room row free = elim (cases_lt (length st.places) machine.most_tablets) [
    | inl less ↦ less
    | inr full ↦ absurd (free (inr (subst (λ (k : ℕ). most_tablets ≤ k) (length_so st old same) full)))
  ]

  -- a tablet is split
  pub splits_so : (row : List ℕ) (left n : ℕ) (names : List ℕ) (new : List PlaceView) → IsRow row → ¬ BarsSplit row old → left ≡ st.next_tablet
      → Cuts row left (with_files n names old) new → Step st (Split row) (SplitOff left) (placed st (machine_places new) (left + 1))
  splits_so row left n names new is free number cut =
      let whole : machine.Cuts row left st.places (machine_places new) = subst (λ (ps : List machine.Place). machine.Cuts row left ps (machine_places new)) (sym same) (cuts_so row left n names old new cut) in
      subst (λ (k : ℕ). machine.Cuts row k st.places (machine_places new) → Step st (Split row) (SplitOff k) (placed st (machine_places new) (k + 1))) (sym number)
      (λ c. accepts (split_ok is (λ end. free (inl (is_end_back st old same row end))) (room row free)) (splits c)) whole

  -- the number after it is the next one
  pub split_next : (row : List ℕ) (left n : ℕ) (names : List ℕ) (new : List PlaceView) → left ≡ length old + 1
      → Cuts row left (with_files n names old) new → left + 1 ≡ length (machine_places new) + 1
  split_next row left n names new number cut =
      let more : length new ≡ length old + 1 = cut_length row left n names old new cut in
      let all : length (machine_places new) ≡ length new = machine_length new in
      omega arith

  -- a split that is barred
  pub split_barred : (row : List ℕ) → IsRow row → BarsSplit row old → Refuses st (Split row) BadSplit
  split_barred row is (inl end) = split_end_first is (is_end_so st old same row end)
  split_barred row is (inr full) = split_full_first is (subst (λ (k : ℕ). most_tablets ≤ k) (sym (length_so st old same)) full)

  -- a tablet is moved to another server
  pub moves_step : (n server : ℕ) (names : List ℕ) (new : List PlaceView) → IsTable old → HasTablet n old → server < most_servers
      → new ≡ moved n server (with_files n names old) → Step st (Move n server) MoveDone (placed st (machine_places new) st.next_tablet)
  moves_step n server names new table has known e =
      accepts (move_ok (has_tablet_so st old same n has) known)
      (moves_tablet (subst (λ (ps : List machine.Place). machine.Moves n server ps (machine_places new)) (sym same) (moves_so n server names old new table has e)))

  -- a tablet is on the server already
  pub stays_step : (n server : ℕ) (p : PlaceView) → IsTable old → server < most_servers → Contains old p → p.tablet ≡ n → p.server ≡ server → Step st (Move n server) MoveDone st
  stays_step n server p table known h e s =
      accepts (move_ok (has_tablet_so st old same n (p, h, e)) known)
      (moves_tablet (subst (λ (ps : List machine.Place). machine.Moves n server ps ps) (sym same) (stays_so n server old table p h e s)))

  -- a move that is refused
  pub move_unknown : (n server : ℕ) → ¬ HasTablet n old → Refuses st (Move n server) UnknownTablet
  move_unknown n server none = move_unknown_first (λ has. none (has_tablet_back st old same n has))

  pub move_far : (n server : ℕ) → HasTablet n old → most_servers ≤ server → Refuses st (Move n server) UnknownServer
  move_far n server has far = move_server_first (has_tablet_so st old same n has) far

  pub move_next : (n server : ℕ) (names : List ℕ) (new : List PlaceView) → st.next_tablet ≡ length st.places + 1 → new ≡ moved n server (with_files n names old)
      → st.next_tablet ≡ length (machine_places new) + 1
  move_next n server names new next e =
      next ∙ ap (λ (k : ℕ). k + 1) (length_so st old same ∙ sym (move_length n server names old) ∙ ap length (sym e) ∙ sym (machine_length new))

-- ---- steps that leave the tablets' places unchanged

module _ (st next : State) (q : machine.Request) (r : machine.Reply) (step : Step st q r next) (keeps : KeepsPlaces q) where
  -- if no tablet's spot changes, the machine has the new places after the step
  pub still_placed : (old new : List PlaceView) → map spot_of new ≡ map spot_of old → machine_places old ≡ st.places → machine_places new ≡ next.places
  still_placed old new spots same = ap (map machine_place) spots ∙ same ∙ sym (keeps_places st q r next step keeps).0

  pub still_next : st.next_tablet ≡ length st.places + 1 → next.next_tablet ≡ length next.places + 1
  still_next number =
      let kept = keeps_places st q r next step keeps in
      kept.1 ∙ number ∙ ap (λ (ps : List machine.Place). length ps + 1) (sym kept.0)
