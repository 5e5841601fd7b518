-- The tablets' places in the machine, compared with the places of a cluster.
use Rattle.std.proofs.Common.{◌≡◌, ◌≢◌, ◌+◌, ℕ, zero, suc, Bool, true, false, cond, eqb, List, [], ◌∷◌, length, map, Option, None, Some, refl, sym, ap, subst, ◌∙◌, arith}
use Rattle.std.proofs.lemmas.Bool.{eqb-true, eqb-false}
use Rattle.std.proofs.lemmas.List.{length-map}
use Rattle.std.specs.List.{AllPairs, Contains}
use Rattle.std.specs.declared.cmp.Ordering.TheVariants.{Less}
use Rattle.cell_key.specs.Keys.{byte_cmp}
use Rattle.metadata_table.specs.Places.{PlaceView, EndsBefore}
use Rattle.metadata_table.specs.Table.{IsTable, HasTablet, IsEnd, Cuts, cuts_last, cuts, cuts_later, moved, naming, on_server, with_files}
use Rattle.si_model.specs.Machine as machine
use Rattle.si_model.specs.Sets.{◌∈◌, here, there}
use Rattle.row_atomic.specs.Clusters.{Spot, spot_of}
use Rattle.server_loop.specs.Server.{machine_place, machine_places}

-- ---- the same spots

spot_named : (n : ℕ) (names : List ℕ) (p : PlaceView) → spot_of (naming n names p) ≡ spot_of p
spot_named n names p = elim (eqb p.tablet n) as (λ b. spot_of (cond b (record p { files = names }) p) ≡ spot_of p) [ true ↦ refl | false ↦ refl ]

-- other files leave the spots unchanged
pub spots_named : (n : ℕ) (names : List ℕ) (ps : List PlaceView) → map spot_of (with_files n names ps) ≡ map spot_of ps
spots_named n names [] = refl
spots_named n names (p ∷ ps) = λ i. spot_named n names p i ∷ spots_named n names ps i

pub machine_named : (n : ℕ) (names : List ℕ) (ps : List PlaceView) → machine_places (with_files n names ps) ≡ machine_places ps
machine_named n names ps = ap (map machine_place) (spots_named n names ps)

-- the number of places is the same
pub machine_length : (ps : List PlaceView) → length (machine_places ps) ≡ length ps
machine_length [] = refl
machine_length (p ∷ ps) = ap suc (machine_length ps)

-- ---- tablets and ends that exist

module _ {X : Type 0} where
  is_in : (xs : List X) (x : X) → Contains xs x → x ∈ xs
  is_in [] x h = absurd (omega (arith, h.1))
  is_in (y ∷ xs) x (zero, lt, e) = subst (λ (z : X). x ∈ (z ∷ xs)) (sym e) here
  is_in (y ∷ xs) x (suc k, lt, e) = there (is_in xs x (k, omega (arith, lt), e))

in_machine : (p : PlaceView) (ps : List PlaceView) → p ∈ ps → machine_place (spot_of p) ∈ machine_places ps
in_machine p _ here = here
in_machine p _ (there {y = y} {xs = xs} h) = there (in_machine p xs h)

-- a place of the machine is a tablet's place
record IsPlaceOf (ps : List PlaceView) (q : machine.Place) : Type 0 where
  place : PlaceView
  is_there : Contains ps place
  same : machine_place (spot_of place) ≡ q

place_of : (ps : List PlaceView) (q : machine.Place) → q ∈ machine_places ps → IsPlaceOf ps q
place_of [] q h = elim h [ ]
place_of (p ∷ ps) q here = record { place = p; is_there = (0, omega arith, refl); same = refl }
place_of (p ∷ ps) q (there h) =
    let rest : IsPlaceOf ps q = place_of ps q h in
    let (k, lt, e) = rest.is_there in
    record { place = rest.place; is_there = (suc k, omega (arith, lt), e); same = rest.same }

module _ (st : machine.State) (ps : List PlaceView) (same : st.places ≡ machine_places ps) where
  there_so : (p : PlaceView) → Contains ps p → machine_place (spot_of p) ∈ st.places
  there_so p h = subst (λ (qs : List machine.Place). machine_place (spot_of p) ∈ qs) (sym same) (in_machine p ps (is_in ps p h))

  there_back : (q : machine.Place) → q ∈ st.places → IsPlaceOf ps q
  there_back q h = place_of ps q (subst (λ (qs : List machine.Place). q ∈ qs) same h)

  pub has_tablet_so : (n : ℕ) → HasTablet n ps → machine.HasTablet st n
  has_tablet_so n (p, h, e) = (machine_place (spot_of p), there_so p h, e)

  pub has_tablet_back : (n : ℕ) → machine.HasTablet st n → HasTablet n ps
  has_tablet_back n (q, h, e) =
      let found = there_back q h in
      (found.place, found.is_there, ap (λ (r : machine.Place). r.tablet) found.same ∙ e)

  pub is_end_so : (row : List ℕ) → IsEnd row ps → machine.IsEnd st row
  is_end_so row (p, h, e) = (machine_place (spot_of p), there_so p h, e)

  pub is_end_back : (row : List ℕ) → machine.IsEnd st row → IsEnd row ps
  is_end_back row (q, h, e) =
      let found = there_back q h in
      (found.place, found.is_there, ap (λ (r : machine.Place). r.end) found.same ∙ e)

  pub length_so : length st.places ≡ length ps
  length_so = ap length same ∙ machine_length ps

-- ---- splits

module _ (row : List ℕ) (left : ℕ) where
  at_last : (end : Option (List ℕ)) (tablet server : ℕ) → end ≡ None
      → machine.Cuts row left (record { end = end; tablet = tablet; server = server } ∷ [])
      (record { end = Some row; tablet = left; server = server } ∷ record { end = end; tablet = tablet; server = server } ∷ [])
  at_last None tablet server e = machine.cuts_last
  at_last (Some end) tablet server e = cc

  at_end : (end : Option (List ℕ)) (last : List ℕ) (tablet server : ℕ) (qs : List machine.Place) → end ≡ Some last → byte_cmp row last ≡ Less
      → machine.Cuts row left (record { end = end; tablet = tablet; server = server } ∷ qs)
      (record { end = Some row; tablet = left; server = server } ∷ record { end = end; tablet = tablet; server = server } ∷ qs)
  at_end None last tablet server qs e less = cc
  at_end (Some end) last tablet server qs e less = machine.cuts (ap (byte_cmp row) (same_row e) ∙ less)
    where
      same_row : Some end ≡ Some last → end ≡ last
      same_row e = cc

  after_end : (end : Option (List ℕ)) (tablet server : ℕ) (qs qs' : List machine.Place) → EndsBefore end row → machine.Cuts row left qs qs'
      → machine.Cuts row left (record { end = end; tablet = tablet; server = server } ∷ qs) (record { end = end; tablet = tablet; server = server } ∷ qs')
  after_end None tablet server qs qs' before cut = absurd before
  after_end (Some end) tablet server qs qs' before cut = machine.cuts_later before cut

  cuts_places : (ps ps' : List PlaceView) → Cuts row left ps ps' → machine.Cuts row left (machine_places ps) (machine_places ps')
  cuts_places _ _ (cuts_last {p = p} e) = at_last p.end p.tablet p.server e
  cuts_places _ _ (cuts {p = p} {end = end} {ps = ps} e less) = at_end p.end end p.tablet p.server (machine_places ps) e less
  cuts_places _ _ (cuts_later {p = p} {ps = ps} {ps' = ps'} before cut) =
      after_end p.end p.tablet p.server (machine_places ps) (machine_places ps') before (cuts_places ps ps' cut)

  -- a split of the places, after the files of one have changed, is a split in the machine
  pub cuts_so : (n : ℕ) (names : List ℕ) (old new : List PlaceView) → Cuts row left (with_files n names old) new
      → machine.Cuts row left (machine_places old) (machine_places new)
  cuts_so n names old new cut =
      subst (λ (qs : List machine.Place). machine.Cuts row left qs (machine_places new)) (machine_named n names old)
      (cuts_places (with_files n names old) new cut)

  -- there is one more place
  cuts_length : (ps ps' : List PlaceView) → Cuts row left ps ps' → length ps' ≡ length ps + 1
  cuts_length _ _ (cuts_last e) = omega arith
  cuts_length _ _ (cuts e less) = omega arith
  cuts_length _ _ (cuts_later {ps = ps} {ps' = ps'} before cut) = let e = cuts_length ps ps' cut in omega arith

  pub cut_length : (n : ℕ) (names : List ℕ) (old new : List PlaceView) → Cuts row left (with_files n names old) new → length new ≡ length old + 1
  cut_length n names old new cut =
      let some = cuts_length (with_files n names old) new cut in
      let same : length (with_files n names old) ≡ length old = sym (machine_length (with_files n names old)) ∙ ap length (machine_named n names old) ∙ machine_length old in
      omega arith

-- ---- moves

abbrev Differ : PlaceView → PlaceView → Type 0
Differ p q = p.tablet ≢ q.tablet

others : (p : PlaceView) (ps : List PlaceView) → AllPairs Differ (p ∷ ps) → AllPairs Differ ps
others p ps h = λ i j d lt b. h (suc i) (suc j) d (omega (arith, lt)) (omega (arith, b))

-- a tablet of two places
apart : (p : PlaceView) (ps : List PlaceView) → AllPairs Differ (p ∷ ps) → (q : PlaceView) → Contains ps q → p.tablet ≢ q.tablet
apart p ps h q (k, lt, e) = λ same. h 0 (suc k) q (omega arith) (omega (arith, lt)) (same ∙ ap (λ (r : PlaceView). r.tablet) (sym e))

module _ (n server : ℕ) where
  -- a spot, on this server if it is the tablet's
  abbrev on_spot : Spot → Spot
  on_spot spot = cond (eqb spot.1.0 n) (spot.0, (spot.1.0, server)) spot

  spot_moved : (p : PlaceView) → spot_of (on_server n server p) ≡ on_spot (spot_of p)
  spot_moved p = elim (eqb p.tablet n) as (λ b. spot_of (cond b (record p { server = server }) p) ≡ cond b (p.end, (p.tablet, server)) (spot_of p)) [ true ↦ refl | false ↦ refl ]

  spots_moved : (ps : List PlaceView) → map spot_of (moved n server ps) ≡ map on_spot (map spot_of ps)
  spots_moved [] = refl
  spots_moved (p ∷ ps) = λ i. spot_moved p i ∷ spots_moved ps i

  machine_moved : (names : List ℕ) (ps : List PlaceView) → machine_places (moved n server (with_files n names ps)) ≡ map machine_place (map on_spot (map spot_of ps))
  machine_moved names ps = ap (map machine_place) (spots_moved (with_files n names ps) ∙ ap (map on_spot) (spots_named n names ps))

  -- a spot of another tablet is unchanged
  other_spot : (p : PlaceView) → p.tablet ≢ n → on_spot (spot_of p) ≡ spot_of p
  other_spot p other = go (eqb p.tablet n) refl
    where
      go : (b : Bool) → eqb p.tablet n ≡ b → cond b (p.end, (p.tablet, server)) (spot_of p) ≡ spot_of p
      go true e = absurd (other (eqb-true p.tablet n e))
      go false e = refl

  other_spots : (ps : List PlaceView) → ((q : PlaceView) → Contains ps q → q.tablet ≢ n) → map on_spot (map spot_of ps) ≡ map spot_of ps
  other_spots [] other = refl
  other_spots (p ∷ ps) other = λ i. other_spot p (other p (0, omega arith, refl)) i ∷ other_spots ps (λ q h. other q (suc h.0, omega (arith, h.1), h.2)) i

  -- the first place is the tablet's
  moves_first : (p : PlaceView) (qs qs' : List machine.Place) → p.tablet ≡ n → qs' ≡ qs
      → machine.Moves n server (machine_place (spot_of p) ∷ qs) (record { end = p.end; tablet = p.tablet; server = server } ∷ qs')
  moves_first p qs qs' e same =
      subst (λ (rs : List machine.Place). machine.Moves n server (machine_place (spot_of p) ∷ qs) (record { end = p.end; tablet = p.tablet; server = server } ∷ rs)) (sym same)
      (subst (λ (k : ℕ). machine.Moves n server (record { end = p.end; tablet = k; server = p.server } ∷ qs) (record { end = p.end; tablet = k; server = server } ∷ qs)) (sym e) machine.moves)

  later : (p : PlaceView) (ps : List PlaceView) → p.tablet ≢ n → HasTablet n (p ∷ ps) → HasTablet n ps
  later p ps other (q, (zero, lt, f), e) = absurd (other (ap (λ (r : PlaceView). r.tablet) f ∙ e))
  later p ps other (q, (suc k, lt, f), e) = (q, (k, omega (arith, lt), f), e)

  moves_spots : (ps : List PlaceView) → AllPairs Differ ps → HasTablet n ps → machine.Moves n server (machine_places ps) (map machine_place (map on_spot (map spot_of ps)))
  moves_spots [] differ (q, h, e) = absurd (omega (arith, h.1))
  moves_spots (p ∷ ps) differ has = go (eqb p.tablet n) refl (λ other. moves_spots ps (others p ps differ) (later p ps other has))
    where
      go : (b : Bool) → eqb p.tablet n ≡ b → (p.tablet ≢ n → machine.Moves n server (machine_places ps) (map machine_place (map on_spot (map spot_of ps))))
          → machine.Moves n server (machine_place (spot_of p) ∷ machine_places ps) (machine_place (cond b (p.end, (p.tablet, server)) (spot_of p)) ∷ map machine_place (map on_spot (map spot_of ps)))
      go true e rest =
          let is_n : p.tablet ≡ n = eqb-true p.tablet n e in
          let same = other_spots ps (λ q h f. apart p ps differ q h (is_n ∙ sym f)) in
          moves_first p (machine_places ps) (map machine_place (map on_spot (map spot_of ps))) is_n (ap (map machine_place) same)
      go false e rest =
          let other = eqb-false p.tablet n e in
          machine.moves_later other (rest other)

  -- a tablet of a table that is put on a server, after its files changed, has moved in the machine
  pub moves_so : (names : List ℕ) (old new : List PlaceView) → IsTable old → HasTablet n old → new ≡ moved n server (with_files n names old)
      → machine.Moves n server (machine_places old) (machine_places new)
  moves_so names old new table has e =
      subst (λ (qs : List machine.Place). machine.Moves n server (machine_places old) qs) (sym (ap machine_places e ∙ machine_moved names old))
      (moves_spots old table.distinct has)

  on_already : (p : PlaceView) → p.server ≡ server → on_spot (spot_of p) ≡ spot_of p
  on_already p e = elim (eqb p.tablet n) as (λ b. cond b (p.end, (p.tablet, server)) (spot_of p) ≡ spot_of p) [ true ↦ (λ i. (p.end, (p.tablet, sym e i))) | false ↦ refl ]

  stays_spots : (ps : List PlaceView) → AllPairs Differ ps → (q : PlaceView) → Contains ps q → q.tablet ≡ n → q.server ≡ server → map on_spot (map spot_of ps) ≡ map spot_of ps
  stays_spots [] differ q h e s = absurd (omega (arith, h.1))
  stays_spots (p ∷ ps) differ q (zero, lt, f) e s =
      let head : on_spot (spot_of p) ≡ spot_of p = on_already p (ap (λ (r : PlaceView). r.server) f ∙ s) in
      let is_n : p.tablet ≡ n = ap (λ (r : PlaceView). r.tablet) f ∙ e in
      let rest : map on_spot (map spot_of ps) ≡ map spot_of ps = other_spots ps (λ r h same. apart p ps differ r h (is_n ∙ sym same)) in
      λ i. head i ∷ rest i
  stays_spots (p ∷ ps) differ q (suc k, lt, f) e s =
      let there' : Contains ps q = (k, omega (arith, lt), f) in
      let head : on_spot (spot_of p) ≡ spot_of p = other_spot p (λ same. apart p ps differ q there' (same ∙ sym e)) in
      let rest : map on_spot (map spot_of ps) ≡ map spot_of ps = stays_spots ps (others p ps differ) q there' e s in
      λ i. head i ∷ rest i

  -- a tablet of a table that is on the server already moves there, and nothing changes
  pub stays_so : (ps : List PlaceView) → IsTable ps → (q : PlaceView) → Contains ps q → q.tablet ≡ n → q.server ≡ server
      → machine.Moves n server (machine_places ps) (machine_places ps)
  stays_so ps table q h e s =
      subst (λ (qs : List machine.Place). machine.Moves n server (machine_places ps) qs) (ap (map machine_place) (stays_spots ps table.distinct q h e s))
      (moves_spots ps table.distinct (q, h, e))

  pub move_length : (names : List ℕ) (ps : List PlaceView) → length (moved n server (with_files n names ps)) ≡ length ps
  move_length names ps = length-map (with_files n names ps) (on_server n server) ∙ length-map ps (naming n names)
