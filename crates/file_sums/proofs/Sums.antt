-- Which numbers are of format 3.
use Rattle.std.proofs.Common.{◌≡◌, ◌≢◌, ◌&&◌, ◌==◌, ◌∙◌, ℕ, ◌+◌, ◌*◌, ◌/◌, ◌^◌, ◌<◌, ◌≤◌, Bool, true, false, cond, nat_lt, List, [], ◌++◌, length, length-append, drop, Option, Some, None, Result, Ok, Err, IfOk, arith, tests, refl, sym, ap, subst}
use Rattle.std.proofs.lemmas.Grind.{common_steps}
use Rattle.std.proofs.lemmas.List.{drop-append-le, drop-drop, length-drop}
use Rattle.std.specs.Prelude.{⊤, IfSome, option_map, unwrap_or}
use Rattle.std.specs.BTreeSet.{BTreeSet, contains}
use Rattle.std.specs.Cmp.{nat_cmp_total, unsigned_tied}
use Rattle.std.specs.FinMap.{get, get-remove, same_map, nat_cmp-IsAntisymmetric}
use Rattle.std.specs.Ordering.{nat_cmp}
use borrow.Author.Tests.{eqb-true}
use Rattle.file_store.specs.Store.{Contents, Reads, bytes_of, part, without_file}
use Rattle.file_sums.specs.Pieces.{pieces}
use Rattle.file_sums.specs.Shown.{sums_in, KeepsBut, KeepsAll, payload_of, shown, all_shown}
use Rattle.file_sums.proofs.InOrder.{pieces_front, pieces_join}
use Rattle.file_sums.proofs.Shows.{get-shown, of_high, of_low}

low : (name : ℕ) → name < 2 ^ 63 → nat_lt name (2 ^ 63) ≡ true
low name below = grind (arith, tests)

not_low : (name : ℕ) → 2 ^ 63 ≤ name → nat_lt name (2 ^ 63) ≡ false
not_low name above = grind (arith, tests)

pub there : (s : BTreeSet ℕ) (name : ℕ) (b : Bool) → name < 2 ^ 63 → contains nat_cmp s name ≡ b → sums_in s name ≡ b
there s name b below is = ap (λ (c : Bool). c && contains nat_cmp s name) (low name below) ∙ is

pub none_high : (s : BTreeSet ℕ) (name : ℕ) → 2 ^ 63 ≤ name → sums_in s name ≡ false
none_high s name above = ap (λ (c : Bool). c && contains nat_cmp s name) (not_low name above)

pub but : (name : ℕ) (s t : BTreeSet ℕ) → KeepsBut name (contains nat_cmp s) (contains nat_cmp t) → KeepsBut name (sums_in s) (sums_in t)
but name s t keeps = λ q apart. ap (λ (c : Bool). nat_lt q (2 ^ 63) && c) (keeps q apart)

pub all : (s t : BTreeSet ℕ) → KeepsAll (contains nat_cmp s) (contains nat_cmp t) → KeepsAll (sums_in s) (sums_in t)
all s t keeps = λ q. ap (λ (c : Bool). nat_lt q (2 ^ 63) && c) (keeps q)

apart : (q name : ℕ) → (q == name) ≡ false → q ≢ name
apart q name e f = grind (arith, tests)

-- what was noted and taken back
pub back : (name : ℕ) (was : Bool) (s t u : ℕ → Bool) → was ≡ s name → t name ≡ true → KeepsBut name s t
    → (was ≡ false → (u name ≡ false) × KeepsBut name t u) → (was ≡ true → KeepsAll t u) → KeepsAll s u
back name true s t u is noted others removed kept = λ q. by q (q == name) refl
  where
    by : (q : ℕ) (b : Bool) → (q == name) ≡ b → u q ≡ s q
    by q true e = let eq : q ≡ name = eqb-true q name e in kept refl q ∙ ap t eq ∙ noted ∙ is ∙ ap s (sym eq)
    by q false e = kept refl q ∙ others q (apart q name e)
back name false s t u is noted others removed kept = λ q. by q (q == name) refl
  where
    by : (q : ℕ) (b : Bool) → (q == name) ≡ b → u q ≡ s q
    by q true e = let eq : q ≡ name = eqb-true q name e in ap u eq ∙ (removed refl).0 ∙ is ∙ ap s (sym eq)
    by q false e = (removed refl).1 q (apart q name e) ∙ others q (apart q name e)

-- ---- look-ups among the files that are shown

below_test : (name : ℕ) → name < 2 ^ 63 → nat_lt name (2 ^ 63) ≡ true
below_test name below = low name below

pub get_high : (s : ℕ → Bool) (m : Contents) (name : ℕ) → s name ≡ true → get (shown s m) name ≡ option_map payload_of (get m (name + 2 ^ 63))
get_high s m name is = get-shown s m name ∙ of_high s (get m (name + 2 ^ 63)) (get m name) name is

pub get_plain : (s : ℕ → Bool) (m : Contents) (name : ℕ) → name < 2 ^ 63 → s name ≡ false → get (shown s m) name ≡ get m name
get_plain s m name below is = get-shown s m name ∙ of_low s (get m (name + 2 ^ 63)) (get m name) name is (low name below)

pub get_none : (s : ℕ → Bool) (m : Contents) (name : ℕ) → 2 ^ 63 ≤ name → s name ≡ false → get (shown s m) name ≡ None
get_none s m name above is =
    get-shown s m name
    ∙ ap (λ (b : Bool). cond b (option_map payload_of (get m (name + 2 ^ 63))) (cond (nat_lt name (2 ^ 63)) (get m name) None)) is
    ∙ ap (λ (b : Bool). cond b (get m name) None) (not_low name above)

lengths : (o : Option (List ℕ)) → option_map length (option_map payload_of o) ≡ option_map (λ b. length (payload_of b)) o
lengths None = refl
lengths (Some b) = refl

payload_or : (o : Option (List ℕ)) → unwrap_or (option_map payload_of o) [] ≡ payload_of (unwrap_or o [])
payload_or None = refl
payload_or (Some b) = refl

-- what holds of each known content, holds of what is shown of it
pub over : (o : Option Contents) (s : ℕ → Bool) (P Q : Contents → Type 0) → ((m : Contents) → P m → Q (shown s m)) → IfSome o P → IfSome (all_shown s o) Q
over None s P Q f h = tt
over (Some m) s P Q f h = f m h

pub size_high : {E : Type 0} (r : Result (Option ℕ) E) (o : Option Contents) (s : ℕ → Bool) (name : ℕ) → s name ≡ true
    → IfOk r (λ size. IfSome o (λ m. size ≡ option_map (λ b. length (payload_of b)) (get m (name + 2 ^ 63))))
    → IfOk r (λ size. IfSome (all_shown s o) (λ m. size ≡ option_map length (get m name)))
size_high (Err e) o s name is h = tt
size_high (Ok size) o s name is h =
    over o s (λ m. size ≡ option_map (λ b. length (payload_of b)) (get m (name + 2 ^ 63))) (λ m. size ≡ option_map length (get m name))
    (λ m e. e ∙ sym (lengths (get m (name + 2 ^ 63))) ∙ ap (option_map length) (sym (get_high s m name is))) h

pub size_plain : {E : Type 0} (r : Result (Option ℕ) E) (o : Option Contents) (s : ℕ → Bool) (name : ℕ) → name < 2 ^ 63 → s name ≡ false
    → IfOk r (λ size. IfSome o (λ m. size ≡ option_map length (get m name)))
    → IfOk r (λ size. IfSome (all_shown s o) (λ m. size ≡ option_map length (get m name)))
size_plain (Err e) o s name below is h = tt
size_plain (Ok size) o s name below is h =
    over o s (λ m. size ≡ option_map length (get m name)) (λ m. size ≡ option_map length (get m name))
    (λ m e. e ∙ ap (option_map length) (sym (get_plain s m name below is))) h

yes_known : (o : Option Contents) → IfSome o (λ _. ⊤)
yes_known None = tt
yes_known (Some m) = tt

pub size_none : (o : Option Contents) (s : ℕ → Bool) (name : ℕ) → 2 ^ 63 ≤ name → s name ≡ false → IfSome (all_shown s o) (λ m. None ≡ option_map length (get m name))
size_none o s name above is =
    over o s (λ _. ⊤) (λ m. None ≡ option_map length (get m name)) (λ m _. ap (option_map length) (sym (get_none s m name above is))) (yes_known o)

pub read_high : {E : Type 0} (r : Result ℕ E) (o : Option Contents) (s : ℕ → Bool) (name offset : ℕ) (old new : List ℕ) → s name ≡ true
    → IfOk r (λ n. IfSome o (λ m. Reads (payload_of (bytes_of m (name + 2 ^ 63))) offset old new n))
    → IfOk r (λ n. IfSome (all_shown s o) (λ m. Reads (bytes_of m name) offset old new n))
read_high (Err e) o s name offset old new is h = tt
read_high (Ok n) o s name offset old new is h =
    over o s (λ m. Reads (payload_of (bytes_of m (name + 2 ^ 63))) offset old new n) (λ m. Reads (bytes_of m name) offset old new n)
    (λ m e. subst (λ b. Reads b offset old new n) (sym (ap (λ (x : Option (List ℕ)). unwrap_or x []) (get_high s m name is) ∙ payload_or (get m (name + 2 ^ 63)))) e) h

pub read_plain : {E : Type 0} (r : Result ℕ E) (o : Option Contents) (s : ℕ → Bool) (name offset : ℕ) (old new : List ℕ) → name < 2 ^ 63 → s name ≡ false
    → IfOk r (λ n. IfSome o (λ m. Reads (bytes_of m name) offset old new n))
    → IfOk r (λ n. IfSome (all_shown s o) (λ m. Reads (bytes_of m name) offset old new n))
read_plain (Err e) o s name offset old new below is h = tt
read_plain (Ok n) o s name offset old new below is h =
    over o s (λ m. Reads (bytes_of m name) offset old new n) (λ m. Reads (bytes_of m name) offset old new n)
    (λ m e. subst (λ b. Reads b offset old new n) (sym (ap (λ (x : Option (List ℕ)). unwrap_or x []) (get_plain s m name below is))) e) h

empty_part : (offset n : ℕ) → part [] offset n ≡ []
empty_part offset n = grind (arith, common_steps)

pub read_none : (o : Option Contents) (s : ℕ → Bool) (name offset : ℕ) (old : List ℕ) → 2 ^ 63 ≤ name → s name ≡ false
    → IfSome (all_shown s o) (λ m. Reads (bytes_of m name) offset old old 0)
read_none o s name offset old above is =
    over o s (λ _. ⊤) (λ m. Reads (bytes_of m name) offset old old 0)
    (λ m _. subst (λ b. Reads b offset old old 0) (sym (ap (λ (x : Option (List ℕ)). unwrap_or x []) (get_none s m name above is))) (none_read offset old)) (yes_known o)
  where
    none_read : (offset : ℕ) (old : List ℕ) → Reads [] offset old old 0
    none_read offset old = rw (empty_part offset (length old)) (refl, refl)

-- nothing is removed where nothing is shown
pub nothing_removed : (o : Option Contents) (s : ℕ → Bool) (name : ℕ) → 2 ^ 63 ≤ name → s name ≡ false → all_shown s o ≡ without_file name (all_shown s o)
nothing_removed None s name above is = refl
nothing_removed (Some m) s name above is = ap Some (same_map nat_cmp_total nat_cmp-IsAntisymmetric _ _ (λ q.
    sym (get-remove nat_cmp_total (shown s m) name q ∙ ap (λ (b : Bool). cond b None (get (shown s m) q)) (unsigned_tied q name) ∙ by q (q == name) refl)))
  where
    by : (q : ℕ) (b : Bool) → (q == name) ≡ b → cond b None (get (shown s m) q) ≡ get (shown s m) q
    by q true e = sym (ap (get (shown s m)) (eqb-true q name e) ∙ get_none s m name above is)
    by q false e = refl

-- ---- what is pushed

pub pushed_pieces : (name count : ℕ) (before more waiting all : List ℕ) → waiting ≡ drop (count * 1024) before → count * 1024 ≤ length before → all ≡ waiting ++ more
    → (n : ℕ) → pieces name 0 before count ++ pieces name count all n ≡ pieces name 0 (before ++ more) (count + n)
pushed_pieces name count before more waiting all rest fits whole n =
    let here : all ≡ drop (count * 1024) (before ++ more) = whole ∙ ap (λ (l : List ℕ). l ++ more) rest ∙ sym (drop-append-le (count * 1024) before more fits) in
    ap (λ (l : List ℕ). l ++ pieces name count all n) (sym (pieces_front name 0 before more count fits))
    ∙ ap (λ (l : List ℕ). pieces name 0 (before ++ more) count ++ pieces name count l n) here
    ∙ ap (λ (k : ℕ). pieces name 0 (before ++ more) count ++ pieces name k (drop (count * 1024) (before ++ more)) n) none
    ∙ sym (pieces_join name 0 (before ++ more) count n)
  where
    none : count ≡ 0 + count
    none = omega arith

pub last_count : (count : ℕ) (waiting image : List ℕ) → waiting ≡ drop (count * 1024) image → count * 1024 ≤ length image
    → count + (length waiting / 1024 + 1) ≡ length image / 1024 + 1
last_count count waiting image rest fits = omega (arith, ap length rest, length-drop (count * 1024) image, fits)

pub pushed_has : (has : List ℕ → Type 0) (name count : ℕ) (before more waiting all out rest : List ℕ) → waiting ≡ drop (count * 1024) before → count * 1024 ≤ length before
    → all ≡ waiting ++ more → out ≡ pieces name count all (length all / 1024) → rest ≡ drop (length all / 1024 * 1024) all → has (pieces name 0 before count ++ out)
    → has (pieces name 0 (before ++ more) (count + length all / 1024)) × (rest ≡ drop ((count + length all / 1024) * 1024) (before ++ more))
    × ((count + length all / 1024) * 1024 ≤ length (before ++ more))
pushed_has has name count before more waiting all out rest left fits whole cut behind got =
    let n : ℕ = length all / 1024 in
    let here : all ≡ drop (count * 1024) (before ++ more) = whole ∙ ap (λ (l : List ℕ). l ++ more) left ∙ sym (drop-append-le (count * 1024) before more fits) in
    let far : count * 1024 + n * 1024 ≡ (count + n) * 1024 = omega arith in (
      subst has (ap (λ (l : List ℕ). pieces name 0 before count ++ l) cut ∙ pushed_pieces name count before more waiting all left fits whole n) got,
      behind ∙ ap (drop (n * 1024)) here ∙ drop-drop (n * 1024) (count * 1024) (before ++ more) ∙ ap (λ (k : ℕ). drop k (before ++ more)) far,
      omega (arith, ap length here, length-drop (count * 1024) (before ++ more), length-append before more, fits),
    )

pub finished_has : (has : List ℕ → Type 0) (name count : ℕ) (image waiting : List ℕ) → waiting ≡ drop (count * 1024) image → count * 1024 ≤ length image
    → has (pieces name 0 image count ++ pieces name count waiting (length waiting / 1024 + 1)) → has (pieces name 0 image (length image / 1024 + 1))
finished_has has name count image waiting left fits got =
    let n : ℕ = length waiting / 1024 + 1 in
    let none : count ≡ 0 + count = omega arith in
    subst has (ap (λ (l : List ℕ). pieces name 0 image count ++ pieces name count l n) left
    ∙ ap (λ (k : ℕ). pieces name 0 image count ++ pieces name k (drop (count * 1024) image) n) none
    ∙ sym (pieces_join name 0 image count n) ∙ ap (pieces name 0 image) (last_count count waiting image left fits)) got

pub over_same : (o : Option Contents) (P Q : Contents → Type 0) → ((m : Contents) → P m → Q m) → IfSome o P → IfSome o Q
over_same None P Q f h = tt
over_same (Some m) P Q f h = f m h
