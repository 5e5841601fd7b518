-- The sources of a merge without erasures pass the entries that it passes.
use Rattle.std.proofs.Common.{◌≡◌, ◌⊎◌, ℕ, inl, inr, Bool, true, false, cond, List, [], ◌∷◌, ◌++◌, map, refl, sym, ap, subst, ◌∙◌}
use Rattle.std.proofs.lemmas.List.Elements.{filter-append}
use Rattle.std.specs.Prelude.{Option, Some, None, IfSome, IsSomeAnd}
use Rattle.cell_key.specs.Entries.{Entry, IsEntryList}
use Rattle.sorted_file.specs.Passing.{BreaksAfter, IsFileOf, PassesNoList, PassesOver, PassesTooMuch, passes_none, passes_one}
use Rattle.sorted_file.specs.Grammar.{FitsIn, IsFile}
use Rattle.sorted_file.specs.PartialFiles.{EndsWithin, PassesBudget}
use Rattle.sorted_file.specs.declared.format.Format.TheVariants.{Two}
use Rattle.compaction.specs.Order.{IsReady}
use Rattle.compaction.specs.OrderLaw.{ordered_least}
use Rattle.compaction.specs.MergeLaw.{none_at}
use Rattle.compaction.specs.Merging.{first_lent, BreaksAmong, IsMoved, MergeSteps}
use Rattle.compaction.specs.Passing.{IsFileOfMerge, IsMergeOf, MergeBreaks, MergesBudget, MergesNoList, MergesToEnd, MergesTooMuch, merges_none, merges_one}
use Rattle.compaction.specs.Writing.{is_written, only_written, BreaksOn, StepsOn, breaks_here, breaks_past, steps_once, steps_past}

pub either : {A B C D : Type 0} → A ⊎ B → (A → C) → (B → D) → C ⊎ D
either (inl a) f g = inl (f a)
either (inr b) f g = inr (g b)

-- ---- without erasures

module _ {M : Type 0} (keep : Bool) (steps : M → M → Type 0) (lent : M → Option Entry) where
  -- a merge passes entries that aren't written
  record LeavesOut (s t : M) : Type 0 where
    skipped : List Entry
    passes : PassesOver steps lent s skipped t
    out : only_written keep skipped ≡ []

  none_left : (s : M) → LeavesOut s s
  none_left s = record { skipped = []; passes = passes_none; out = refl }

  one_left : (s t u : M) → steps s t → (o : Option Entry) → lent t ≡ o → IsSomeAnd o (λ e. is_written keep e ≡ false) → LeavesOut t u → LeavesOut s u
  one_left s t u step None is out rest = absurd out
  one_left s t u step (Some e) is out rest =
      record {
        skipped = e ∷ rest.skipped;
        passes = passes_one step is rest.passes;
        out = ap (λ (b : Bool). cond b (e ∷ only_written keep rest.skipped) (only_written keep rest.skipped)) out ∙ rest.out;
      }

  record Apart (s t : M) : Type 0 where
    mid : M
    left : LeavesOut s mid
    step : steps mid t
    written : IfSome (lent t) (λ e. is_written keep e ≡ true)

  apart : (s t : M) → StepsOn keep steps lent s t → Apart s t
  apart s t (steps_once step written) = record { mid = s; left = none_left s; step = step; written = written }
  apart s t (steps_past {t = u} step out more) =
      let rest = apart u t more in
      record { mid = rest.mid; left = one_left s u rest.mid step (lent u) refl (subst (λ (o : Option Entry). IsSomeAnd o (λ e. is_written keep e ≡ false)) refl out) rest.left; step = rest.step; written = rest.written }

  record Broken (breaks : M → Type 0) (s : M) : Type 0 where
    mid : M
    left : LeavesOut s mid
    here : breaks mid

  broken : (breaks : M → Type 0) (s : M) → BreaksOn keep steps lent breaks s → Broken breaks s
  broken breaks s (breaks_here here) = record { mid = s; left = none_left s; here = here }
  broken breaks s (breaks_past {t = u} step out more) =
      let rest = broken breaks u more in
      record { mid = rest.mid; left = one_left s u rest.mid step (lent u) refl out rest.left; here = rest.here }

  passes_both : {es fs : List Entry} {s t u : M} → PassesOver steps lent s es t → PassesOver steps lent t fs u → PassesOver steps lent s (es ++ fs) u
  passes_both passes_none more = more
  passes_both (passes_one step is rest) more = passes_one step is (passes_both rest more)

  -- the entries passed, of which these are written
  record Passed (s : M) (es : List Entry) (t : M) : Type 0 where
    all : List Entry
    passes : PassesOver steps lent s all t
    same : only_written keep all ≡ es

  one_passed : (s t u : M) (e : Entry) (es : List Entry) → Apart s t → lent t ≡ Some e → Passed t es u → Passed s (e ∷ es) u
  one_passed s t u e es a is rest =
      let written = subst (λ (o : Option Entry). IfSome o (λ e. is_written keep e ≡ true)) is a.written in
      record {
        all = a.left.skipped ++ e ∷ rest.all;
        passes = passes_both a.left.passes (passes_one a.step is rest.passes);
        same = filter-append (is_written keep) a.left.skipped (e ∷ rest.all) ∙ ap (λ (l : List Entry). l ++ only_written keep (e ∷ rest.all)) a.left.out
            ∙ ap (λ (b : Bool). cond b (e ∷ only_written keep rest.all) (only_written keep rest.all)) written ∙ ap (λ (l : List Entry). e ∷ l) rest.same;
      }

  append-nil : {A : Type 0} (xs : List A) → xs ++ [] ≡ xs
  append-nil [] = refl
  append-nil (x ∷ xs) = ap (λ (l : List _). x ∷ l) (append-nil xs)

  -- and then some that aren't written
  left_more : (s t u : M) (es : List Entry) → Passed s es t → LeavesOut t u → Passed s es u
  left_more s t u es p left =
      record {
        all = p.all ++ left.skipped;
        passes = passes_both p.passes left.passes;
        same = filter-append (is_written keep) p.all left.skipped ∙ ap (λ (l : List Entry). only_written keep p.all ++ l) left.out ∙ append-nil (only_written keep p.all) ∙ p.same;
      }

  module _ {V : Type 0} (source : V → M) (keeps : V → Bool) where
    of_keep : (v w : V) → keeps v ≡ keep → (keeps w ≡ keeps v) × StepsOn (keeps v) steps lent (source v) (source w) → (keeps w ≡ keep) × Apart (source v) (source w)
    of_keep v w k step = (step.0 ∙ k, apart (source v) (source w) (subst (λ (b : Bool). StepsOn b steps lent (source v) (source w)) k step.1))

    values_passed : {v w : V} {es : List Entry} → PassesOver (λ a b. (keeps b ≡ keeps a) × StepsOn (keeps a) steps lent (source a) (source b)) (λ a. lent (source a)) v es w → keeps v ≡ keep → (keeps w ≡ keep) × Passed (source v) es (source w)
    values_passed passes_none k = (k, record { all = []; passes = passes_none; same = refl })
    values_passed {v} {w} (passes_one {t = b} {e = e} {es = es} step is more) k =
        let here = of_keep v b k step in
        let rest = values_passed more here.0 in
        (rest.0, one_passed (source v) (source b) (source w) e es here.1 is rest.1)

-- ---- a merge

module _ {S M : Type 0} (steps : S → S → Type 0) (lent : S → Option Entry) (sources : M → List S) (order : M → List ℕ) where
  abbrev Ready : M → Type 0
  Ready m = IsReady (map lent (sources m)) (order m)

  abbrev MS : M → M → Type 0
  MS a b = Ready a → MergeSteps steps lent (sources a) (order a) (sources b) (order b)

  abbrev ML : M → Option Entry
  ML a = first_lent lent (sources a) (order a)

  merge_passed : {m n : M} {es : List Entry} → PassesOver MS ML m es n → Ready m → IsMergeOf steps lent (ML m) (sources m) es (ML n) (sources n) × Ready n
  merge_passed passes_none h = (merges_none, h)
  merge_passed {m} {n} (passes_one {t = b} {e = e} {es = es} step is more) h =
      let s = step h in
      let first = ordered_least (map lent (sources b)) (order b) e s.ordered is in
      let rest = merge_passed more (inr s.ordered) in
      (merges_one first.place s.past first.least first.is (subst (λ (o : Option Entry). IsMergeOf steps lent o (sources b) es (ML n) (sources n)) is rest.0), rest.1)

  module _ (made : M) (xs : List S) (all : sources made ≡ xs) (fresh : order made ≡ []) where
    -- from no entry on
    of_made : (n : M) (es : List Entry) → IsMergeOf steps lent (ML made) (sources made) es (ML n) (sources n) → IsMergeOf steps lent None xs es (ML n) (sources n)
    of_made n es h = subst (λ (l : List S). IsMergeOf steps lent None l es (ML n) (sources n)) all (subst (λ (o : Option Entry). IsMergeOf steps lent o (sources made) es (ML n) (sources n)) (ap (first_lent lent (sources made)) fresh) h)

    pub merges_budget : (budget : ℕ) (n : M) (next : List ℕ) → PassesBudget MS ML budget made n next → MergesBudget steps lent budget xs next
    merges_budget budget n next h =
        let m = merge_passed h.passes (inl fresh) in
        record { passed = h.passed; last = h.last; at = ML n; later = sources n; merge = of_made n (h.passed ++ h.last ∷ []) m.0; enough = h.enough; within = h.within; behind = h.behind }

    pub merges_to_end : (budget : ℕ) → EndsWithin MS ML budget made → MergesToEnd steps lent budget xs
    merges_to_end budget h =
        let m = merge_passed h.all.passes (inl fresh) in
        let s = h.all.step m.1 in
        record {
          passed = h.passed;
          at = ML h.all.last;
          last = sources h.all.last;
          merge = of_made h.all.last h.passed m.0;
          ended = sources h.all.end;
          moves = s.past;
          none = none_at lent (λ _. []) (λ _. Unit {0}) (sources h.all.end) (order h.all.end) s.ordered h.all.none;
          within = h.within;
        }

  module _ {V : Type 0} (source : V → M) (keeps : V → Bool) (keep : Bool) (v : V) (xs : List S) (k : keeps v ≡ keep) (all : sources (source v) ≡ xs) (fresh : order (source v) ≡ []) where
    ready : Ready (source v)
    ready = inl fresh

    -- from no entry on
    from_none : (n : M) (es : List Entry) → IsMergeOf steps lent (ML (source v)) (sources (source v)) es (ML n) (sources n) → IsMergeOf steps lent None xs es (ML n) (sources n)
    from_none n es h = subst (λ (l : List S). IsMergeOf steps lent None l es (ML n) (sources n)) all (subst (λ (o : Option Entry). IsMergeOf steps lent o (sources (source v)) es (ML n) (sources n)) (ap (first_lent lent (sources (source v))) fresh) h)

    pub merges_too_much : (limit : ℕ) → PassesTooMuch (λ a b. (keeps b ≡ keeps a) × StepsOn (keeps a) MS ML (source a) (source b)) (λ a. ML (source a)) limit v → MergesTooMuch steps lent keep limit xs
    merges_too_much limit h =
        let p = values_passed keep MS ML source keeps h.passes k in
        let m = merge_passed p.1.passes ready in
        record { entries = p.1.all; at = ML (source h.last); last = sources (source h.last); merge = from_none _ _ m.0; large = subst (λ (es : List Entry). ¬ FitsIn limit es) (sym p.1.same) h.large }

    pub merges_no_list : PassesNoList (λ a b. (keeps b ≡ keeps a) × StepsOn (keeps a) MS ML (source a) (source b)) (λ a. ML (source a)) v → MergesNoList steps lent keep xs
    merges_no_list h =
        let p = values_passed keep MS ML source keeps h.passes k in
        let m = merge_passed p.1.passes ready in
        record { entries = p.1.all; at = ML (source h.last); last = sources (source h.last); merge = from_none _ _ m.0; none = subst (λ (es : List Entry). ¬ IsEntryList es) (sym p.1.same) h.none }

    pub file_of_merge : (image : List ℕ) → IsFileOf (λ a b. (keeps b ≡ keeps a) × StepsOn (keeps a) MS ML (source a) (source b)) (λ a. ML (source a)) v image → IsFileOfMerge steps lent keep xs image
    file_of_merge image h =
        let p = values_passed keep MS ML source keeps h.all.passes k in
        let a = of_keep keep MS ML source keeps h.all.last h.all.end p.0 h.all.step in
        let q = left_more keep MS ML (source v) (source h.all.last) a.1.mid h.entries p.1 a.1.left in
        let m = merge_passed q.passes ready in
        record {
          entries = q.all;
          at = ML a.1.mid;
          last = sources a.1.mid;
          merge = from_none _ _ m.0;
          ended = sources (source h.all.end);
          moves = (a.1.step m.1).past;
          none = none_at lent (λ _. []) (λ _. Unit {0}) (sources (source h.all.end)) (order (source h.all.end)) (a.1.step m.1).ordered h.all.none;
          form = subst (λ (es : List Entry). IsFile Two es image) (sym q.same) h.form;
        }

    pub merge_breaks : (breaks : S → Type 0)
        → BreaksAfter (λ a b. (keeps b ≡ keeps a) × StepsOn (keeps a) MS ML (source a) (source b)) (λ a. ML (source a)) (λ a. BreaksOn (keeps a) MS ML (λ m. Ready m → BreaksAmong breaks (IsMoved lent (ML m)) (sources m)) (source a)) v → MergeBreaks steps lent breaks xs
    merge_breaks breaks h =
        let Off : M → Type 0 = λ m. Ready m → BreaksAmong breaks (IsMoved lent (ML m)) (sources m) in
        let p = values_passed keep MS ML source keeps h.passes k in
        let b = broken keep MS ML Off (source h.last) (subst (λ (c : Bool). BreaksOn c MS ML Off (source h.last)) p.0 h.here) in
        let q = left_more keep MS ML (source v) (source h.last) b.mid h.entries p.1 b.left in
        let m = merge_passed q.passes ready in
        record { entries = q.all; at = ML b.mid; last = sources b.mid; merge = from_none _ _ m.0; source = (b.here m.1).source; among = (b.here m.1).among; moved = (b.here m.1).moves; here = (b.here m.1).here }
