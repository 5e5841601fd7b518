-- The files listed in places after tablets were flushed, cut and moved.
use Rattle.std.proofs.Common.{◌≡◌, ◌==◌, ℕ, zero, suc, Bool, true, false, cond, List, [], ◌∷◌, map, Option, Some, None, Result, Ok, Err, IfOk, OnOk, OnErr, refl, sym, ap, ◌∙◌, subst, arith}
use Rattle.std.proofs.lemmas.Option.{same_Some}
use Rattle.std.specs.List.{AllByRecursion, Contains}
use borrow.Author.Tests.{eqb-true}
use Rattle.cell_key.specs.Entries.{Entry}
use Rattle.cell_key.specs.declared.refusals.Refusal.{Refusal}
use Rattle.file_store.specs.Store.{Contents}
use Rattle.metadata_table.specs.Places.{PlaceView}
use Rattle.metadata_table.specs.Table.{Cuts, IsListed, cuts, cuts_last, cuts_later, moved, naming, on_server, with_files}
use Rattle.tablet.specs.Views.{memory_of, names_of, with_name}
use Rattle.tablet.specs.declared.tablet.Tablet.{Tablet}
use Rattle.row_atomic.specs.Changes.{ListsAll}
use Rattle.row_atomic.specs.Clusters.{ArePlaced, ClusterState, storage_of, tablet_numbered}
use Rattle.row_atomic.proofs.ChangedTablets.{contained}
use Rattle.row_atomic.proofs.PlacedTablets.{is_placed}

pub same_lists : (old new : List PlaceView) → new ≡ old → ListsAll old new
same_lists old new same name l = subst (IsListed name) (sym same) l

pub stored_lists : {F : Type 0} (contents : F → Option Contents) (old new : ClusterState F) → storage_of contents new ≡ storage_of contents old → ListsAll old.places new.places
stored_lists contents old new same = same_lists old.places new.places (ap (λ s. s.places) same)

-- ---- files of a changed place

pub contains_map : {A B : Type 0} (f : A → B) (xs : List A) (x : A) → Contains xs x → Contains (map f xs) (f x)
contains_map f [] x c = absurd (omega (arith, c.1))
contains_map f (y ∷ xs) x (zero, below, is) = (0, omega arith, ap f is)
contains_map f (y ∷ xs) x (suc k, below, is) = let rest = contains_map f xs x (k, omega (arith, below), is) in (suc rest.0, omega (arith, rest.1), rest.2)

-- if each place keeps its files, all listed files are still listed
mapped_lists : (f : PlaceView → PlaceView) (ps : List PlaceView) → ((p : PlaceView) → Contains ps p → (name : ℕ) → Contains p.files name → Contains (f p).files name) → ListsAll ps (map f ps)
mapped_lists f ps keeps name l = (f l.0, contains_map f ps l.0 l.1, keeps l.0 l.1 name l.2)

with_name_has : (next : ℕ) (memory : List Entry) (names : List ℕ) (name : ℕ) → Contains names name → Contains (with_name next memory names) name
with_name_has next [] names name c = c
with_name_has next (e ∷ es) names name c = (suc c.0, omega (arith, c.1), c.2)

module _ (ts : List Tablet) (places : List PlaceView) (placed : ArePlaced ts None places) where
  -- the tablet of a place has its files
  abbrev NamedBy : PlaceView → Type 0
  NamedBy p = (t : Tablet) → tablet_numbered p.tablet ts ≡ Some t → names_of t ≡ p.files

  named_by : AllByRecursion NamedBy places
  named_by = is_placed NamedBy ts (λ before q h t e. ap names_of (same_Some t h.tablet (sym e ∙ h.numbered)) ∙ h.names) None places placed

  pub flush_lists : (new : List PlaceView) (n next : ℕ) (t u : Tablet) → tablet_numbered n ts ≡ Some t → names_of u ≡ with_name next (memory_of t) (names_of t) → new ≡ with_files n (names_of u) places → ListsAll places new
  flush_lists new n next t u there flushed is =
      subst (ListsAll places) (sym is) (mapped_lists (naming n (names_of u)) places (λ p c name has. by p c name has (p.tablet == n) refl))
    where
      by : (p : PlaceView) → Contains places p → (name : ℕ) → Contains p.files name → (b : Bool) → (p.tablet == n) ≡ b → Contains (cond b (record p { files = names_of u }) p).files name
      by p c name has false e = has
      by p c name has true e =
          let number : p.tablet ≡ n = eqb-true p.tablet n e in
          let names : names_of t ≡ p.files = contained NamedBy places p named_by c t (ap (λ (k : ℕ). tablet_numbered k ts) number ∙ there) in
          subst (λ (files : List ℕ). Contains files name) (sym flushed) (with_name_has next (memory_of t) (names_of t) name (subst (λ (files : List ℕ). Contains files name) (sym names) has))

-- ---- cuts and moves

later : (name : ℕ) (p : PlaceView) (ps : List PlaceView) → IsListed name ps → IsListed name (p ∷ ps)
later name p ps l = (l.0, (suc l.1.0, omega (arith, l.1.1), l.1.2), l.2)

same_first : (p : PlaceView) (ps new : List PlaceView) → ListsAll ps new → ListsAll (p ∷ ps) (p ∷ new)
same_first p ps new rest name (q, (zero, below, is), has) = (q, (0, omega arith, is), has)
same_first p ps new rest name (q, (suc k, below, is), has) = later name p new (rest name (q, (k, omega (arith, below), is), has))

cuts_list : (row : List ℕ) (n : ℕ) (ps new : List PlaceView) → Cuts row n ps new → ListsAll ps new
cuts_list row n ps new (cuts_last e) name l = later name _ ps l
cuts_list row n ps new (cuts e less) name l = later name _ ps l
cuts_list row n ps new (cuts_later {p = p} {ps = rest} {ps' = after} past cut) name l = same_first p rest after (cuts_list row n rest after cut) name l

pub cut_lists : (row : List ℕ) (old new : List PlaceView) (r : Result ℕ Refusal) → IfOk r (λ left. Cuts row left old new) → OnErr r (new ≡ old) → ListsAll old new
cut_lists row old new (Ok left) cut same = cuts_list row left old new cut
cut_lists row old new (Err e) cut same = same_lists old new same

pub move_lists : (n server : ℕ) (old new : List PlaceView) (r : Result (Unit {0}) Refusal) → OnOk r (new ≡ moved n server old) → OnErr r (new ≡ old) → ListsAll old new
move_lists n server old new (Ok x) is same = subst (ListsAll old) (sym is) (mapped_lists (on_server n server) old (λ p c name has. by p name has (p.tablet == n)))
  where
    by : (p : PlaceView) (name : ℕ) → Contains p.files name → (b : Bool) → Contains (cond b (record p { server = server }) p).files name
    by p name has true = has
    by p name has false = has
move_lists n server old new (Err e) is same = same_lists old new same
