-- A loop over sources that may change each once.
use Rattle.std.proofs.Common.{◌≡◌, ℕ, ◌+◌, ◌≤◌, ◌<◌, List, [], ◌∷◌, ◌++◌, length, take, drop, set, get_or, sym, ap, subst, ◌∙◌, arith, add-one}
use Rattle.std.proofs.lemmas.Grind.{common_steps}
use Rattle.std.proofs.lemmas.List.Elements.{AllZip-push, All-from_recursion, Contains-get_or}
use Rattle.std.proofs.Math.Seq.{take-suc, take-suc-set}
use Rattle.std.proofs.lemmas.List.{drop-set-lt, take_all}
use Rattle.std.proofs.lemmas.List.Sums.{sum_by-append}
use Rattle.std.specs.Prelude.{Option, sum_by}
use Rattle.std.specs.List.{AllByRecursion, AllZip}
use Rattle.std.proofs.Common.{Bool, true, false, cond, ◌*◌}
use Rattle.std.specs.Prelude.{is_some}
use Rattle.cell_key.specs.Entries.{Entry}
use Rattle.compaction.specs.Merging.{cost, one, BreaksAmong}
use Rattle.file_store.specs.Store.{Contents}

-- At an index one list became another: the part before it has changed, and the rest is unchanged.
pub record Progress {S F : Type 0} (contents : F → Option Contents) (faults : F → ℕ) (price bonus : S → ℕ) (before : S → Type 0) (step move : S → S → Type 0) (start files : F) (xs ys : List S) (i : ℕ) : Type 0 where
  pub same : contents files ≡ contents start
  pub quiet : faults files ≡ faults start
  pub rest : drop i ys ≡ drop i xs
  pub paid : sum_by price (take i ys) + sum_by bonus (take i ys) ≤ sum_by price (take i xs)
  pub steps : AllByRecursion before xs → AllZip step (take i xs) (take i ys)
  pub moves : AllZip move (take i xs) (take i ys)

-- the element at an index is the first of the rest
item-rest : {S : Type 0} (xs ys : List S) (i : ℕ) (d : S) → drop i ys ≡ drop i xs → get_or ys i d ≡ get_or xs i d
item-rest xs ys i d e = grind (arith, common_steps)

one_more : {S : Type 0} (xs : List S) (i : ℕ) (s : S) → i < length xs → s ≡ get_or xs i s → take (i + 1) xs ≡ take i xs ++ s ∷ []
one_more xs i s l e = rw add-one (take-suc xs i s l ∙ ap (λ x. take i xs ++ x ∷ []) (sym e))

rest_more : {S : Type 0} (xs ys : List S) (i : ℕ) → i < length xs → drop i ys ≡ drop i xs → drop (i + 1) ys ≡ drop (i + 1) xs
rest_more xs ys i l e = grind (arith, common_steps)

-- the element at the index became t
pub go_on : {S F : Type 0} {contents : F → Option Contents} {faults : F → ℕ} {price bonus : S → ℕ} {before : S → Type 0} {step move : S → S → Type 0} {start files : F} {xs ys : List S} {i : ℕ}
    → Progress contents faults price bonus before step move start files xs ys i → (next : F) (zs : List S) (s t : S)
    → i < length xs → s ≡ get_or ys i s → contents next ≡ contents files → faults next ≡ faults files
    → take (i + 1) zs ≡ take i ys ++ t ∷ [] → drop (i + 1) zs ≡ drop (i + 1) ys → price t + bonus t ≤ price s
    → (before s → step s t) → move s t
    → Progress contents faults price bonus before step move start next xs zs (i + 1)
go_on {S} {F} {contents} {faults} {price} {bonus} {before} {step} {move} {start} {files} {xs} {ys} {i} p next zs s t l is same quiet front rest cheaper here moved =
    let was : s ≡ get_or xs i s = is ∙ item-rest xs ys i s p.rest in
    let old : take (i + 1) xs ≡ take i xs ++ s ∷ [] = one_more xs i s l was in
    record {
      same = same ∙ p.same;
      quiet = quiet ∙ p.quiet;
      rest = rest ∙ rest_more xs ys i l p.rest;
      paid = rw (front, old, sum_by-append price (take i ys) (t ∷ []), sum_by-append bonus (take i ys) (t ∷ []), sum_by-append price (take i xs) (s ∷ [])) (omega (arith, p.paid));
      steps = λ all. rw (front, old) (AllZip-push step (take i xs) (take i ys) s t (p.steps all) (here (at_place before xs i s l was all)));
      moves = rw (front, old) (AllZip-push move (take i xs) (take i ys) s t p.moves moved);
    }
  where
    at_place : (P : S → Type 0) (xs : List S) (i : ℕ) (s : S) → i < length xs → s ≡ get_or xs i s → AllByRecursion P xs → P s
    at_place P xs i s l is all = subst P (sym is) (All-from_recursion P xs all i s l)

pub front_set : {S : Type 0} (ys : List S) (i : ℕ) (t : S) → i < length ys → take (i + 1) (set ys i t) ≡ take i ys ++ t ∷ []
front_set ys i t l = rw add-one (take-suc-set ys i t l)

pub rest_set : {S : Type 0} (ys : List S) (i : ℕ) (t : S) → drop (i + 1) (set ys i t) ≡ drop (i + 1) ys
rest_set ys i t = drop-set-lt (i + 1) ys i t (omega arith)

cheaper : (lt ls : ℕ) (x y : Bool) → lt + cond x 1 0 ≤ ls → (2 * lt + cond x 1 0) + cond x 1 0 ≤ 2 * ls + cond y 1 0
cheaper lt ls true true h = omega arith
cheaper lt ls true false h = omega arith
cheaper lt ls false true h = omega arith
cheaper lt ls false false h = omega arith

-- an advance lowers the cost
pub cost_falls : (lt ls : ℕ) (b : Bool) (t s : Option Entry) → b ≡ is_some t → lt + cond b 1 0 ≤ ls → cost lt t + one t ≤ cost ls s
cost_falls lt ls b t s e h = cheaper lt ls (is_some t) (is_some s) (subst (λ b. lt + cond b 1 0 ≤ ls) e h)

paid_tied : (lt ls : ℕ) (x : Bool) → lt + cond x 1 0 ≤ ls → (2 * lt + cond x 1 0) + 1 ≤ 2 * ls + 1
paid_tied lt ls true h = omega arith
paid_tied lt ls false h = omega arith

-- an advance past an entry lowers the cost by one
pub cost_falls_from : (lt ls : ℕ) (b : Bool) (t s : Option Entry) → b ≡ is_some t → is_some s ≡ true → lt + cond b 1 0 ≤ ls → cost lt t + 1 ≤ cost ls s
cost_falls_from lt ls b t s e y h = rw y (paid_tied lt ls (is_some t) (subst (λ b. lt + cond b 1 0 ≤ ls) e h))

-- the loop at its end
module _ {S F : Type 0} {contents : F → Option Contents} {faults : F → ℕ} {price bonus : S → ℕ} {before : S → Type 0} {step move : S → S → Type 0} {start files : F} {xs ys : List S} {i : ℕ} (p : Progress contents faults price bonus before step move start files xs ys i) where
  pub paid_whole : length xs ≤ i → length ys ≡ length xs → sum_by price ys + sum_by bonus ys ≤ sum_by price xs
  paid_whole long same =
      subst (λ (zs : List S). sum_by price zs + sum_by bonus zs ≤ sum_by price xs) (take_all i ys (omega arith))
      (subst (λ (zs : List S). sum_by price (take i ys) + sum_by bonus (take i ys) ≤ sum_by price zs) (take_all i xs long) p.paid)

  pub steps_whole : length xs ≤ i → length ys ≡ length xs → AllByRecursion before xs → AllZip step xs ys
  steps_whole long same all = subst (AllZip step xs) (take_all i ys (omega arith)) (subst (λ (zs : List S). AllZip step zs (take i ys)) (take_all i xs long) (p.steps all))

  pub moves_whole : length xs ≤ i → length ys ≡ length xs → AllZip move xs ys
  moves_whole long same = subst (AllZip move xs) (take_all i ys (omega arith)) (subst (λ (zs : List S). AllZip move zs (take i ys)) (take_all i xs long) p.moves)

  pub not_each : (P : Option Contents → S → Type 0) (d : S) → i < length xs → ¬ (P (contents files) (get_or ys i d)) → ¬ (AllByRecursion (P (contents start)) xs)
  not_each P d l here all = here (subst (λ (told : Option Contents). P told (get_or ys i d)) (sym p.same) (subst (P (contents start)) (sym (item-rest xs ys i d p.rest)) (All-from_recursion (P (contents start)) xs all i d l)))

  pub breaks_among : (P : Option Contents → S → Type 0) (M : S → Type 0) (d : S) → i < length xs → P (contents files) (get_or ys i d) → M (get_or ys i d) → BreaksAmong (P (contents start)) M xs
  breaks_among P M d l here moves =
      let same : get_or ys i d ≡ get_or xs i d = item-rest xs ys i d p.rest in
      record {
        source = get_or xs i d;
        among = Contains-get_or xs i d l;
        moves = subst M same moves;
        here = subst (λ (told : Option Contents). P told (get_or xs i d)) p.same (subst (P (contents files)) same here);
      }

pub first_within : (a b c : ℕ) → a + b ≤ c → a ≤ c
first_within a b c h = omega arith
