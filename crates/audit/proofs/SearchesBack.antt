-- Searches of the commits from the last one back, and where they may end.
use Rattle.std.proofs.Common.{◌≡◌, ℕ, ◌≤◌, ◌⊎◌, inl, inr, max, unwrap_or, List, [], ◌∷◌, ◌++◌, length, map, Option, Some, None, refl, sym, ap, subst, ◌∙◌, arith}
use Rattle.si_model.specs.Sets.{◌∈◌, here, there}
use Rattle.si_model.specs.Machine as machine
use Rattle.si_model.specs.Machine.{Names}
use Rattle.si_model.specs.declared.replies.Cell.{Cell}
use Rattle.audit.specs.Audits.{IsNewest, commit_of}
use Rattle.audit.specs.Commits.{AreMarked, latest_of}
use Rattle.audit.specs.declared.audit.parts.Commit.{Commit}
use Rattle.audit.proofs.Searches.{newest_skips, newest_takes}

module _ {A : Type 0} where
  pub in_front : (xs ys : List A) (x : A) → x ∈ xs → x ∈ (xs ++ ys)
  in_front [] ys x h = elim h [ ]
  in_front (y ∷ xs) ys _ here = here
  in_front (y ∷ xs) ys x (there h) = there (in_front xs ys x h)

  pub in_back : (xs ys : List A) (x : A) → x ∈ ys → x ∈ (xs ++ ys)
  in_back [] ys x h = h
  in_back (y ∷ xs) ys x h = there (in_back xs ys x h)

  pub front_or_back : (xs ys : List A) (x : A) → x ∈ (xs ++ ys) → (x ∈ xs) ⊎ (x ∈ ys)
  front_or_back [] ys x h = inr h
  front_or_back (y ∷ xs) ys _ here = inl here
  front_or_back (y ∷ xs) ys x (there h) = elim (front_or_back xs ys x h) [ inl m ↦ inl (there m) | inr m ↦ inr m ]

  pub append_once : (xs : List A) (x : A) (ys : List A) → (xs ++ x ∷ []) ++ ys ≡ xs ++ x ∷ ys
  append_once [] x ys = refl
  append_once (y ∷ xs) x ys = ap (λ zs. y ∷ zs) (append_once xs x ys)

module _ {A B : Type 0} (f : A → B) where
  pub mapped : (xs : List A) (x : A) → x ∈ xs → f x ∈ map f xs
  mapped [] x h = elim h [ ]
  mapped (y ∷ xs) _ here = here
  mapped (y ∷ xs) x (there h) = there (mapped xs x h)

  pub unmapped : (xs : List A) (y : B) → y ∈ map f xs → (x : A) × (x ∈ xs) × (f x ≡ y)
  unmapped [] y h = elim h [ ]
  unmapped (x ∷ xs) _ here = (x, here, refl)
  unmapped (x ∷ xs) y (there h) = let r = unmapped xs y h in (r.0, there r.1, r.2)

-- ---- marks

one_or_more : (c d : Commit) (cs : List Commit) → c.stamp ≤ d.latest → ((b : Commit) → b ∈ cs → b.stamp ≤ d.latest) → (b : Commit) → b ∈ (c ∷ cs) → b.stamp ≤ d.latest
one_or_more c d cs now more _ here = now
one_or_more c d cs now more b (there m) = more b m

-- a mark is at least each stamp up to its commit
pub mark_bounds : (low : ℕ) (front : List Commit) (c : Commit) (back : List Commit) → AreMarked low (front ++ c ∷ back) → (low ≤ c.latest) × ((b : Commit) → b ∈ (front ++ c ∷ []) → b.stamp ≤ c.latest)
mark_bounds low [] c back h = let e = h.0 in (omega (arith, e), one_or_more c c [] (omega (arith, e)) (λ b m. elim m [ ]))
mark_bounds low (d ∷ front) c back h =
    let e = h.0 in
    let rest = mark_bounds d.latest front c back h.1 in
    let l = rest.0 in
    (omega (arith, e, l), one_or_more d c (front ++ c ∷ []) (omega (arith, e, l)) rest.1)

pub latest_last : (low : ℕ) (front : List Commit) (c : Commit) → latest_of low (front ++ c ∷ []) ≡ c.latest
latest_last low [] c = refl
latest_last low (d ∷ front) c = latest_last d.latest front c

pub marked_push : (low : ℕ) (xs : List Commit) (c : Commit) → AreMarked low xs → c.latest ≡ max (latest_of low xs) c.stamp → AreMarked low (xs ++ c ∷ [])
marked_push low [] c h is = (is, tt)
marked_push low (d ∷ xs) c h is = (h.0, marked_push d.latest xs c h.1 is)

-- ---- searches

pub no_items : {A : Type 0} (xs : List A) → length xs ≡ 0 → xs ≡ []
no_items [] is = refl
no_items (x ∷ xs) is = absurd (omega (arith, is))

-- none of the commits behind the rest has the property
pub record NoneBehind (IsSo : Commit → Type 0) (commits rest : List Commit) : Type 0 where
  pub back : List Commit
  pub whole : commits ≡ rest ++ back
  pub none : (b : Commit) → b ∈ back → ¬ IsSo b

append_none : {A : Type 0} (xs : List A) → xs ≡ xs ++ []
append_none [] = refl
append_none (x ∷ xs) = ap (λ ys. x ∷ ys) (append_none xs)

module _ (IsSo : Commit → Type 0) (commits : List Commit) where
  pub none_behind_all : NoneBehind IsSo commits commits
  none_behind_all = record { back = []; whole = append_none commits; none = λ b m. elim m [ ] }

  module _ (rest before : List Commit) (c : Commit) (is : rest ≡ before ++ c ∷ []) (h : NoneBehind IsSo commits rest) where
    pub split_whole : commits ≡ before ++ c ∷ h.back
    split_whole = h.whole ∙ (ap (λ xs. xs ++ h.back) is ∙ append_once before c h.back)

    pub none_behind_more : ¬ IsSo c → NoneBehind IsSo commits before
    none_behind_more not = record { back = c ∷ h.back; whole = split_whole; none = each }
      where
        each : (b : Commit) → b ∈ (c ∷ h.back) → ¬ IsSo b
        each _ here = not
        each b (there m) = h.none b m

    pub is_there : c ∈ commits
    is_there = subst (λ xs. c ∈ xs) (sym split_whole) (in_back before (c ∷ h.back) c here)

    -- if no commit up to c's greatest stamp has the property, none has it
    pub none_but_before : AreMarked 0 commits → ((b : Commit) → b.stamp ≤ c.latest → ¬ IsSo b) → (b : Commit) → b ∈ commits → ¬ IsSo b
    none_but_before marked low b m =
        elim (front_or_back (before ++ c ∷ []) h.back b (subst (λ xs. b ∈ xs) (split_whole ∙ sym (append_once before c h.back)) m)) [
          | inl k ↦ low b ((mark_bounds 0 before c h.back (subst (AreMarked 0) split_whole marked)).1 b k)
          | inr k ↦ h.none b k
        ]

  pub none_of_all : (rest : List Commit) → rest ≡ [] → NoneBehind IsSo commits rest → (b : Commit) → b ∈ commits → ¬ IsSo b
  none_of_all rest empty h b m = h.none b (subst (λ xs. b ∈ xs) (h.whole ∙ ap (λ xs. xs ++ h.back) empty) m)

-- this is the newest of the commits behind the rest
pub record IsNewestBehind (commits rest : List Commit) (s : ℕ) (x : Cell) (found : Option ℕ) : Type 0 where
  pub back : List Commit
  pub whole : commits ≡ rest ++ back
  pub newest : IsNewest (map commit_of back) s x found

pub newest_behind_all : (commits : List Commit) (s : ℕ) (x : Cell) → IsNewestBehind commits commits s x None
newest_behind_all commits s x = record { back = []; whole = append_none commits; newest = λ b m. elim m [ ] }

module _ (commits rest before : List Commit) (c : Commit) (s : ℕ) (x : Cell) (is : rest ≡ before ++ c ∷ []) (found : Option ℕ) (h : IsNewestBehind commits rest s x found) where
  back_whole : commits ≡ before ++ c ∷ h.back
  back_whole = h.whole ∙ (ap (λ xs. xs ++ h.back) is ∙ append_once before c h.back)

  one_from : (b : machine.Commit) → b ∈ map commit_of (c ∷ h.back) → (b ≡ commit_of c) ⊎ (b ∈ map commit_of h.back)
  one_from _ here = inl refl
  one_from b (there m) = inr m

  pub newest_behind_skips : ¬ ((c.stamp ≤ s) × Names (commit_of c).writes x) → IsNewestBehind commits before s x found
  newest_behind_skips not = record {
    back = c ∷ h.back;
    whole = back_whole;
    newest = newest_skips (map commit_of h.back) (map commit_of (c ∷ h.back)) (commit_of c) s x one_from here (λ b m. there m) found not h.newest;
  }

  pub newest_behind_takes : c.stamp ≤ s → Names (commit_of c).writes x → IsNewestBehind commits before s x (Some (max (unwrap_or found 0) c.stamp))
  newest_behind_takes low names = record {
    back = c ∷ h.back;
    whole = back_whole;
    newest = newest_takes (map commit_of h.back) (map commit_of (c ∷ h.back)) (commit_of c) s x one_from here (λ b m. there m) found low names h.newest;
  }

  pub newest_ends : AreMarked 0 commits → (n : ℕ) → found ≡ Some n → c.latest ≤ n → IsNewest (map commit_of commits) s x found
  newest_ends marked n at last = subst (λ o. IsNewest (map commit_of commits) s x o) (sym at) (ends (subst (λ o. IsNewest (map commit_of h.back) s x o) at h.newest))
    where
      up : (b : machine.Commit) → b ∈ map commit_of h.back → b ∈ map commit_of commits
      up b m = let r = unmapped commit_of h.back b m in
          subst (λ y. y ∈ map commit_of commits) r.2 (mapped commit_of commits r.0 (subst (λ xs. r.0 ∈ xs) (sym back_whole) (in_back before (c ∷ h.back) r.0 (there r.1))))

      bound : ((b : machine.Commit) → b ∈ map commit_of h.back → Names b.writes x → b.stamp ≤ s → b.stamp ≤ n) → (b : machine.Commit) → b ∈ map commit_of commits → Names b.writes x → b.stamp ≤ s → b.stamp ≤ n
      bound most b m names low =
          let r = unmapped commit_of commits b m in
          elim (front_or_back (before ++ c ∷ []) h.back r.0 (subst (λ xs. r.0 ∈ xs) (back_whole ∙ sym (append_once before c h.back)) r.1)) [
            | inl k ↦
                let l = (mark_bounds 0 before c h.back (subst (AreMarked 0) back_whole marked)).1 r.0 k in
                subst (λ (y : machine.Commit). y.stamp ≤ n) r.2 (omega (arith, l, last))
            | inr k ↦ most b (subst (λ y. y ∈ map commit_of h.back) r.2 (mapped commit_of h.back r.0 k)) names low
          ]

      ends : IsNewest (map commit_of h.back) s x (Some n) → IsNewest (map commit_of commits) s x (Some n)
      ends ((a, m, names, is_at), low, most) = ((a, up a m, names, is_at), low, bound most)

pub newest_of_all : (commits rest : List Commit) (s : ℕ) (x : Cell) (found : Option ℕ) → rest ≡ [] → IsNewestBehind commits rest s x found → IsNewest (map commit_of commits) s x found
newest_of_all commits rest s x found empty h = subst (λ xs. IsNewest (map commit_of xs) s x found) (sym (h.whole ∙ ap (λ xs. xs ++ h.back) empty)) h.newest
