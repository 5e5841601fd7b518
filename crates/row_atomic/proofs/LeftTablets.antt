-- Tablets after splits and moves.
use Rattle.std.proofs.Common.{◌≡◌, ◌≢◌, ◌+◌, inr, ℕ, zero, suc, List, [], ◌∷◌, ◌++◌, map, set, length, Option, Some, Result, Ok, Err, IfOk, slice_get, refl, sym, ap, ◌∙◌, subst, arith}
use Rattle.std.proofs.lemmas.List.{length-set}
use Rattle.cell_key.specs.Entries.{Entry}
use Rattle.cell_key.specs.declared.refusals.Refusal.{Refusal}
use Rattle.metadata_table.specs.Places.{PlaceView}
use Rattle.metadata_table.specs.Table.{Cuts, IsHolder, naming, with_files}
use Rattle.sorted_file.specs.File.{name_of}
use Rattle.sorted_file.specs.declared.file.SortedFile.{SortedFile}
use Rattle.tablet.specs.Views.{IsUnchanged, names_of, with_name}
use Rattle.tablet.specs.declared.tablet.Tablet.{Tablet}
use Rattle.row_atomic.specs.Clusters.{tablet_numbered}
use Rattle.row_atomic.specs.Changes.{IsCut, IsEmptied, IsFlushed, IsHalved, IsReopened, MayBeFlushed, MayHolderBeFlushed, Numbered, OfHolder, Remakes}
use Rattle.row_atomic.proofs.ChangedTablets.{numbered_at, remade}
use Rattle.row_atomic.proofs.CutTablets.{pushed_before, pushed_there}
use Rattle.row_atomic.proofs.Shares.{set_elsewhere, set_there}
use Rattle.row_atomic.proofs.SplitClusters.{holder_listed, one_holder, same_tablet}

-- ---- splits

pushed_elsewhere : {A : Type 0} (xs : List A) (j : ℕ) (y : A) → j ≢ length xs → slice_get (xs ++ y ∷ []) j ≡ slice_get xs j
pushed_elsewhere [] zero y other = absurd (other refl)
pushed_elsewhere [] (suc j) y other = refl
pushed_elsewhere (x ∷ xs) zero y other = refl
pushed_elsewhere (x ∷ xs) (suc j) y other = pushed_elsewhere xs j y (λ e. other (ap suc e))

pub same_numbered : (o : Option Tablet) (t v : Tablet) → o ≡ Some t → o ≡ Some v → t ≡ v
same_numbered o t v e h = cc

-- a tablet was replaced by two parts: one at its index, one at the end
module _ (row : List ℕ) (places : List PlaceView) (ts : List Tablet) (i : ℕ) (t left right : Tablet) (p : PlaceView) (holder : IsHolder row places p) (number : p.tablet ≡ i + 1) (there : slice_get ts i ≡ Some t) where
  pub cut_in_two : (next n count : ℕ) → n ≡ count + 1 → length ts ≡ count → IsFlushed next t left → IsFlushed next t right → IsHalved next row n places ts (set ts i right ++ left ∷ [])
  cut_in_two next n count e as_many left_flushed right_flushed = record {
    place = p;
    holder = holder;
    was = t;
    was_numbered = numbered_at ts p.tablet i t number there;
    left_part = record { tablet = left; numbered = numbered_at (set ts i right ++ left ∷ []) n (length ts) left (omega arith) (pushed_there ts i right left); such = left_flushed };
    right_part = record { tablet = right; numbered = numbered_at (set ts i right ++ left ∷ []) p.tablet i right number (pushed_before (set ts i right) (left ∷ []) i right (set_there ts i t right there)); such = right_flushed };
    others = others;
  }
    where
      not_last : (j : ℕ) → suc j ≢ n → j ≢ length (set ts i right)
      not_last j other same =
          let set_as_many = length-set ts i right in
          other (omega arith)

      not_this : (j : ℕ) → suc j ≢ p.tablet → j ≢ i
      not_this j other same = other (omega arith)

      others : (other : ℕ) → other ≢ n → other ≢ p.tablet → tablet_numbered other (set ts i right ++ left ∷ []) ≡ tablet_numbered other ts
      others zero not_left not_holder = refl
      others (suc j) not_left not_holder = pushed_elsewhere (set ts i right) j left (not_last j not_left) ∙ set_elsewhere ts i j right (not_this j not_holder)

-- if the tablet of a row is unchanged, all tablets are
pub holder_stays : (row : List ℕ) (places : List PlaceView) (ts : List Tablet) → OfHolder IsEmptied row places ts → (p : PlaceView) → IsHolder row places p → Remakes IsUnchanged p.tablet ts ts
holder_stays row places ts emptied p holder =
    let same = one_holder row places emptied.place p emptied.holder holder in
    let numbered = subst (λ (q : PlaceView). Numbered IsEmptied q.tablet ts) same emptied.tablet in
    record {
      was = numbered.tablet;
      is = numbered.tablet;
      was_numbered = numbered.numbered;
      is_numbered = numbered.numbered;
      made = record { range = refl; memory = refl; files = refl };
      others = λ other differs. refl;
    }

-- if only the tablet of a row was replaced, and the new one is unchanged
pub holder_unchanged : (row : List ℕ) (places : List PlaceView) (ts : List Tablet) (i : ℕ) (t u : Tablet) (p : PlaceView) → IsHolder row places p → p.tablet ≡ i + 1 → slice_get ts i ≡ Some t → IsUnchanged t u
    → (q : PlaceView) → IsHolder row places q → Remakes IsUnchanged q.tablet ts (set ts i u)
holder_unchanged row places ts i t u p holder number there same q holds =
    subst (λ (r : PlaceView). Remakes IsUnchanged r.tablet ts (set ts i u)) (one_holder row places p q holder holds) (remade ts i t u there IsUnchanged p.tablet number same)

-- a flushed tablet stays flushed if it is unchanged
still_flushed : (next : ℕ) (t u v : Tablet) → IsFlushed next t u → IsUnchanged u v → IsFlushed next t v
still_flushed next t u v flushed same = record {
  memory = same.memory ∙ flushed.memory;
  names = ap (λ (files : List SortedFile). map name_of files) same.files ∙ flushed.names;
}

-- the parts of a flushed tablet
part_flushed : (next later : ℕ) (t u v : Tablet) → IsFlushed next t u → IsFlushed later u v → IsFlushed next t v
part_flushed next later t u v first second = record {
  memory = second.memory;
  names = second.names ∙ ap (λ (memory : List Entry). with_name later memory (names_of u)) first.memory ∙ first.names;
}

-- The place that holds a row now lists other files.
module _ (row : List ℕ) (places places' : List PlaceView) (mid : List Tablet) (p : PlaceView) (holder : IsHolder row places p) (listed : Numbered (λ t. places' ≡ with_files p.tablet (names_of t) places) p.tablet mid) where
  mid_holder : IsHolder row places' (naming p.tablet (names_of listed.tablet) p)
  mid_holder = subst (λ (ps : List PlaceView). IsHolder row ps (naming p.tablet (names_of listed.tablet) p)) (sym listed.such) (holder_listed p.tablet (names_of listed.tablet) row places p holder)

  pub number_is : (q : PlaceView) → IsHolder row places' q → q.tablet ≡ p.tablet
  number_is q holds = ap (λ (r : PlaceView). r.tablet) (one_holder row places' q (naming p.tablet (names_of listed.tablet) p) holds mid_holder) ∙ same_tablet p.tablet (names_of listed.tablet) p

-- A tablet was flushed and its place lists its files, and then the tablet that holds a row was cut.
module _ (next later : ℕ) (row : List ℕ) (places places' : List PlaceView) (old mid new : List Tablet) (p : PlaceView) (holder : IsHolder row places p)
    (listed : Numbered (λ t. places' ≡ with_files p.tablet (names_of t) places) p.tablet mid) (first : Remakes (IsFlushed next) p.tablet old mid) where
  pub halved_after : (left : ℕ) → IsHalved later row left places' mid new → IsHalved next row left places old new
  halved_after left second =
      let number = number_is row places places' mid p holder listed second.place second.holder in
      let same = same_numbered (tablet_numbered p.tablet mid) first.is second.was first.is_numbered (ap (λ (n : ℕ). tablet_numbered n mid) (sym number) ∙ second.was_numbered) in
      let flushed = subst (IsFlushed next first.was) same first.made in
      let right = subst (λ (n : ℕ). Numbered (IsFlushed later second.was) n new) number second.right_part in
      record {
        place = p;
        holder = holder;
        was = first.was;
        was_numbered = first.was_numbered;
        left_part = record { tablet = second.left_part.tablet; numbered = second.left_part.numbered; such = part_flushed next later first.was second.was second.left_part.tablet flushed second.left_part.such };
        right_part = record { tablet = right.tablet; numbered = right.numbered; such = part_flushed next later first.was second.was right.tablet flushed right.such };
        others = λ other not_left not_holder. second.others other not_left (λ e. not_holder (e ∙ number)) ∙ first.others other not_holder;
      }

  -- without a cut
  pub flushed_alone : ((q : PlaceView) → IsHolder row places' q → Remakes IsUnchanged q.tablet mid new) → MayHolderBeFlushed next row places old new
  flushed_alone stays = λ q holds.
      let number = same_tablet p.tablet (names_of listed.tablet) p in
      let second = subst (λ (n : ℕ). Remakes IsUnchanged n mid new) number (stays (naming p.tablet (names_of listed.tablet) p) (mid_holder row places places' mid p holder listed)) in
      let same = same_numbered (tablet_numbered p.tablet mid) first.is second.was first.is_numbered second.was_numbered in
      subst (λ (r : PlaceView). MayBeFlushed next r.tablet old new) (one_holder row places p q holder holds)
      (inr (record {
        was = first.was;
        is = second.is;
        was_numbered = first.was_numbered;
        is_numbered = second.is_numbered;
        made = still_flushed next first.was second.was second.is (subst (IsFlushed next first.was) same first.made) second.made;
        others = λ other differs. second.others other differs ∙ first.others other differs;
      }))

-- the cut places are those that list the new files
pub cut_listed : (row : List ℕ) (places places' new : List PlaceView) (ts : List Tablet) (p : PlaceView) (r : Result ℕ Refusal) → IsHolder row places p → Numbered (λ t. places' ≡ with_files p.tablet (names_of t) places) p.tablet ts → IfOk r (λ left. Cuts row left places' new) → IfOk r (λ left. IsCut row left places new)
cut_listed row places places' new ts p (Err e) holder listed cut = tt
cut_listed row places places' new ts p (Ok left) holder listed cut = record {
  place = p;
  holder = holder;
  names = names_of listed.tablet;
  cut = subst (λ (ps : List PlaceView). Cuts row left ps new) listed.such cut;
}

-- ---- moves

-- a tablet that is reopened after it was flushed
pub flushed_opened : (next n : ℕ) (old mid new : List Tablet) → Remakes (IsFlushed next) n old mid → Remakes IsReopened n mid new → Remakes (IsFlushed next) n old new
flushed_opened next n old mid new first second =
    let same = same_numbered (tablet_numbered n mid) second.was first.is second.was_numbered first.is_numbered in
    record {
      was = first.was;
      is = second.is;
      was_numbered = first.was_numbered;
      is_numbered = second.is_numbered;
      made = record {
        memory = second.made.memory;
        names = second.made.names ∙ ap names_of same ∙ first.made.names;
      };
      others = λ other differs. second.others other differs ∙ first.others other differs;
    }
