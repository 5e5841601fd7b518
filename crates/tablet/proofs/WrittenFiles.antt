-- Files that were just written and are open.
use Rattle.std.proofs.Common.{◌≡◌, ℕ, ◌≤◌, Bool, true, false, cond, List, [], ◌∷◌, map, take, length, refl, sym, ap, subst, ◌∙◌}
use Rattle.std.proofs.Common.{zero, suc}
use Rattle.std.specs.Prelude.{◌≢◌, Option, Some, None, Result, Ok, Err, OnOk, IfOk, IfSome, IsSomeAnd, IsNone}
use Rattle.std.specs.List.{AllByRecursion}
use Rattle.std.specs.Ordering.{eq_by_cmp, nat_cmp}
use Rattle.std.specs.Cmp.{eq_by_cmp_equiv, nat_cmp_total}
use Rattle.std.specs.FinMap.{get, get-insert, insert, nat_cmp-IsAntisymmetric}
use Rattle.cell_key.specs.Entries.{Entry, IsEntryList}
use Rattle.cell_key.specs.declared.refusals.Refusal.{Refusal}
use Rattle.file_store.specs.Store.{Contents, KeepsOthers, with_file}
use Rattle.sorted_file.specs.Grammar.{FitsIn, IsFile}
use Rattle.sorted_file.specs.declared.format.Format.TheVariants.{Two}
use Rattle.sorted_file.specs.File.{IsOpen, IsSameFile, WrittenIsListed, listed, name_of}
use Rattle.sorted_file.specs.declared.file.SortedFile.{SortedFile}
use Rattle.cell_key.proofs.TextPlaces.{equal}
use Rattle.compaction.specs.Writing.{written}
use Rattle.tablet.specs.Compactions.{IsNewFile, ReadsOpen, compacted, inputs_of, keeps_erasures}
use Rattle.tablet.specs.Ranges.{lower_fence, seen, upper_fence}
use Rattle.tablet.specs.Sources.{IsOpenIn, entries_between, listed_in}
use Rattle.tablet.specs.Views.{Holds, files_of}
use Rattle.tablet.specs.declared.tablet.Tablet.{Tablet}
use Rattle.tablet.specs.declared.compactions.Compaction.{Compaction}
use Rattle.tablet.specs.declared.compactions.Compaction.TheVariants.{Minor, Merge, Major}
use Rattle.tablet.specs.declared.ranges.RowRange.{RowRange}
use Rattle.tablet.proofs.Fences.{seen_between}

own_tie : (name : ℕ) → eq_by_cmp nat_cmp name name ≡ true
own_tie name = (eq_by_cmp_equiv nat_cmp_total).refl name

other_tie : (a b : ℕ) → a ≢ b → (t : Bool) → eq_by_cmp nat_cmp a b ≡ t → t ≡ false
other_tie a b n false e = refl
other_tie a b n true e = absurd (n (nat_cmp-IsAntisymmetric a b (equal (nat_cmp a b) e)))

get_own : (m : Contents) (name : ℕ) (image : List ℕ) → get (insert m name image) name ≡ Some image
get_own m name image = get-insert nat_cmp_total m name image name ∙ ap (λ b. cond b (Some image) (get m name)) (own_tie name)

get_other : (m : Contents) (name : ℕ) (image : List ℕ) (other : ℕ) → other ≢ name → get (insert m name image) other ≡ get m other
get_other m name image other n = get-insert nat_cmp_total m name image other ∙ ap (λ b. cond b (Some image) (get m other)) (other_tie other name n (eq_by_cmp nat_cmp other name) refl)

-- the files after a write
pub others_kept : (old new : Option Contents) (name : ℕ) (image : List ℕ) → new ≡ with_file name image old → KeepsOthers name old new
others_kept None new name image e = subst IsNone (sym e) refl
others_kept (Some m) new name image e = subst (λ (o : Option Contents). KeepsOthers name (Some m) o) (sym e) (λ other n. get_other m name image other n)

-- the file written from sources, given their lists
abbrev pub IsWritten : Option Contents → Option Contents → ℕ → ℕ → (Option Contents → Type 0) → (Option Contents → List Entry) → Type 0
IsWritten old new name limit at_start es = (image : List ℕ) × ((new ≡ with_file name image old) × (length image ≤ limit) × (at_start old → IsFile Two (es old) image))

opens_it : WrittenIsListed → (m : Contents) (name : ℕ) (image : List ℕ) (es : List Entry) (file : SortedFile) → IsFile Two es image → name_of file ≡ name → IsOpen (insert m name image) file → IsNewFile (insert m name image) file es
opens_it law m name image es file form named read = record {
  opened = read;
  lists = law (insert m name image) file Two es image read form (ap (get (insert m name image)) named ∙ get_own m name image);
}

-- a file that was written and is open lists the entries written, also when its cache has changed
pub made_as_written : WrittenIsListed → (old new : Option Contents) (name limit : ℕ) (at_start : Option Contents → Type 0) (es : Option Contents → List Entry) (file now : SortedFile) → IsWritten old new name limit at_start es
    → IfSome new (λ n. IsOpen n file) → name_of file ≡ name → ((disk : Option Contents) → IsSameFile disk file now)
    → IfSome old (λ m. at_start (Some m) → IsSomeAnd new (λ n. IsNewFile n now (es (Some m))))
made_as_written law None new name limit at_start es file now w opened named same = tt
made_as_written law (Some m) new name limit at_start es file now w opened named same =
    λ start. subst (λ (o : Option Contents). IsSomeAnd o (λ n. IsNewFile n now (es (Some m)))) (sym w.1.0)
    (opens_it law m name w.0 (es (Some m)) now (w.1.2 start) ((same None).name ∙ named)
    ((same (Some (insert m name w.0))).still (subst (λ (o : Option Contents). IfSome o (λ n. IsOpen n file)) w.1.0 opened)))

-- the file written is within the limit
pub within_limit : (old mid : Option Contents) (name limit : ℕ) (at_start : Option Contents → Type 0) (es : Option Contents → List Entry) → IsWritten old mid name limit at_start es → at_start old → FitsIn limit (es old)
within_limit old mid name limit at_start es w = λ start. record { image = w.0; form = w.1.2 start; within = w.1.1 }

-- ---- the entries of a compaction

pub all_take : {A : Type 0} (P : A → Type 0) (count : ℕ) (xs : List A) → AllByRecursion P xs → AllByRecursion P (take count xs)
all_take P zero xs h = tt
all_take P (suc count) [] h = tt
all_take P (suc count) (x ∷ xs) h = (h.0, all_take P count xs h.1)

pub between_seen : (range : RowRange) (lists : List (List Entry)) → AllByRecursion IsEntryList lists → map (entries_between (lower_fence range) (upper_fence range)) lists ≡ map (seen range) lists
between_seen range [] h = refl
between_seen range (es ∷ lists) h = λ i. seen_between range es h.0.each i ∷ between_seen range lists h.1 i

-- sources cut to a range's fences give the entries that the compaction writes
pub compacts : (compaction : Compaction) (range : RowRange) (memory : List Entry) (lists : List (List Entry)) (files : ℕ) (keep : Bool) (from : List ℕ) (end : Option (List ℕ)) (inputs xs : List (List Entry)) → AllByRecursion IsEntryList inputs
    → length lists ≡ files → keep ≡ keeps_erasures compaction files → from ≡ lower_fence range → end ≡ upper_fence range → inputs ≡ inputs_of compaction memory lists → xs ≡ map (entries_between from end) inputs
    → written keep xs ≡ compacted compaction range memory lists
compacts compaction range memory lists files keep from end inputs xs h count keeps lower upper are is =
    (λ i. written ((keeps ∙ ap (keeps_erasures compaction) (sym count)) i) (is i))
    ∙ ap (written (keeps_erasures compaction (length lists))) ((λ i. map (entries_between (lower i) (upper i)) (are i)) ∙ between_seen range (inputs_of compaction memory lists) (subst (AllByRecursion IsEntryList) are h))

-- ---- premises

pub if_ok_holds : (r : Result SortedFile Refusal) (old new : Option Contents) (A H : Contents → Type 0) (x y : Contents → List Entry) → ((m : Contents) → H m → A m) → ((m : Contents) → H m → x m ≡ y m)
    → IfOk r (λ file. IfSome old (λ m. A m → IsSomeAnd new (λ n. IsNewFile n file (x m)))) → IfOk r (λ file. IfSome old (λ m. H m → IsSomeAnd new (λ n. IsNewFile n file (y m))))
if_ok_holds (Err e) old new A H x y f g h = tt
if_ok_holds (Ok file) None new A H x y f g h = tt
if_ok_holds (Ok file) (Some m) new A H x y f g h = λ held. subst (λ (es : List Entry). IsSomeAnd new (λ n. IsNewFile n file es)) (g m held) (h (f m held))

pub on_ok_map : {A E P Q : Type 0} (r : Result A E) → (P → Q) → OnOk r P → OnOk r Q
on_ok_map (Ok x) f p = f p
on_ok_map (Err e) f p = tt

pub told_not : (told : Option Contents) (P : Option Contents → Type 0) → ¬ P told → IfSome told (λ m. ¬ P (Some m))
told_not None P not = tt
told_not (Some m) P not = not

-- a compaction's files are open if the tablet holds
pub reads_held : (compaction : Compaction) (m : Contents) (t : Tablet) → Holds m t → ReadsOpen compaction (Some m) t
reads_held Minor m t h = tt
reads_held (Merge count) m t h = all_take (IsOpenIn (Some m)) count (files_of t) h.files
reads_held Major m t h = h.files

-- a fact that holds if a compaction's files are open holds if the tablet holds
pub where_held : (compaction : Compaction) (told : Option Contents) (t : Tablet) (P : Contents → Type 0) → IfSome told (λ m. ReadsOpen compaction (Some m) t → P m) → IfSome told (λ m. Holds m t → P m)
where_held compaction None t P h = tt
where_held compaction (Some m) t P h = λ held. h (reads_held compaction m t held)

-- a compaction's fact about any contents is one about known contents
pub told_written : (compaction : Compaction) (told : Option Contents) (t : Tablet) (P : List (List Entry) → Type 0) → (ReadsOpen compaction told t → P (map (listed_in told) (files_of t))) → IfSome told (λ m. ReadsOpen compaction (Some m) t → P (map (listed m) (files_of t)))
told_written compaction None t P h = tt
told_written compaction (Some m) t P h = h

-- a call that never fails over known contents fails only over unknown ones
pub none_told : (told : Option Contents) → IfSome told (λ m. ¬ (Unit {0})) → IsNone told
none_told None h = refl
none_told (Some m) h = absurd (h tt)

pub none_says : (told : Option Contents) (P : Contents → Type 0) → IsNone told → IfSome told P
none_says None P is = tt
none_says (Some m) P is = absurd (let no : true ≡ false = is in cc)

pub if_some_not : (old : Option Contents) (A H : Contents → Type 0) → ((m : Contents) → H m → A m) → IfSome old (λ m. ¬ (A m)) → IfSome old (λ m. ¬ (H m))
if_some_not None A H f h = tt
if_some_not (Some m) A H f h = λ held. h (f m held)

pub as_on_ok : {A E : Type 0} (r : Result A E) {P : Type 0} → P → OnOk r P
as_on_ok (Ok a) p = p
as_on_ok (Err e) p = tt
