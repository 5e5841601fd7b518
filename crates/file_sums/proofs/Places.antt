-- A file that is put in its place, in the words of the sets and the files below.
use Rattle.std.proofs.Common.{◌≡◌, ◌∙◌, ℕ, ◌+◌, ◌^◌, ◌<◌, true, List, Option, Result, Ok, Err, OnOk, OnErr, refl, sym, ap, subst, inl}
use Rattle.std.specs.BTreeSet.{BTreeSet, contains}
use Rattle.std.specs.Ordering.{nat_cmp}
use Rattle.file_store.specs.Store.{Contents, KeepsOthers, MayHaveFile, MayLack, with_file}
use Rattle.file_sums.specs.Shown.{sums_in, KeepsBut, KeepsAll, payload_of, all_shown}
use Rattle.file_sums.proofs.Changes.{put_shown, others_shown, whole_shown}
use Rattle.file_sums.proofs.Sums.{there, but, all}

pub on_ok : {T E P : Type 0} (r : Result T E) → P → OnOk r P
on_ok (Ok x) p = p
on_ok (Err e) p = tt

pub on_err : {T E P : Type 0} (r : Result T E) → P → OnErr r P
on_err (Ok x) p = tt
on_err (Err e) p = p

module _ (s u : BTreeSet ℕ) (o o0 o1 o2 : Option Contents) (name w : ℕ) (below : name < 2 ^ 63) (named : w ≡ name + 2 ^ 63) (first : o0 ≡ o) where
  pub failed_others : KeepsAll (contains nat_cmp s) (contains nat_cmp u) → KeepsOthers w o0 o1 → o2 ≡ o1 → KeepsOthers name (all_shown (sums_in s) o) (all_shown (sums_in u) o2)
  failed_others alike kept same =
      others_shown (sums_in s) (sums_in u) o o1 o2 name below (λ q _. all s u alike q)
      (subst (λ k. KeepsOthers k o o1) named (subst (λ x. KeepsOthers w x o1) first kept)) (inl same)

  pub failed_whole : (image : List ℕ) → KeepsAll (contains nat_cmp s) (contains nat_cmp u) → MayHaveFile w image o0 o1 → o2 ≡ o1
      → MayHaveFile name (payload_of image) (all_shown (sums_in s) o) (all_shown (sums_in u) o2)
  failed_whole image alike may same =
      whole_shown (sums_in s) (sums_in u) o o2 name image (payload_of image) below (all s u alike)
      (subst (λ x. MayHaveFile (name + 2 ^ 63) image o x) (sym same) (subst (λ k. MayHaveFile k image o o1) named (subst (λ x. MayHaveFile w image x o1) first may))) refl

  pub done : (image : List ℕ) → contains nat_cmp u name ≡ true → KeepsBut name (contains nat_cmp s) (contains nat_cmp u) → o1 ≡ with_file w image o0 → MayLack name o1 o2
      → all_shown (sums_in u) o2 ≡ with_file name (payload_of image) (all_shown (sums_in s) o)
  done image noted others put may =
      put_shown (sums_in s) (sums_in u) o o1 o2 name image (payload_of image) below (there u name true below noted) (but name s u others)
      (put ∙ ap (with_file w image) first ∙ ap (λ (k : ℕ). with_file k image o) named) may refl

  pub done_others : KeepsBut name (contains nat_cmp s) (contains nat_cmp u) → KeepsOthers w o0 o1 → MayLack name o1 o2
      → KeepsOthers name (all_shown (sums_in s) o) (all_shown (sums_in u) o2)
  done_others others kept may =
      others_shown (sums_in s) (sums_in u) o o1 o2 name below (but name s u others)
      (subst (λ k. KeepsOthers k o o1) named (subst (λ x. KeepsOthers w x o1) first kept)) may

pub ok_from : {T E P Q : Type 0} (r : Result T E) → (P → Q) → OnOk r P → OnOk r Q
ok_from (Ok x) f p = f p
ok_from (Err e) f p = tt

pub err_from : {T E P Q : Type 0} (r : Result T E) → (P → Q) → OnErr r P → OnErr r Q
err_from (Ok x) f p = tt
err_from (Err e) f p = f p
