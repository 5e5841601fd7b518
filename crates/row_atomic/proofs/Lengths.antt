-- The lengths of files.
use Rattle.std.proofs.Common.{◌≡◌, ◌≢◌, ◌⊎◌, inl, inr, ℕ, suc, List, [], ◌∷◌, ◌++◌, length, Option, Some, None, IfSome, refl, sym, ap, subst, ◌∙◌, arith, append-nil}
use Rattle.std.specs.Prelude.{IsSome, replicate}
use Rattle.std.specs.List.{AllByRecursion}
use Rattle.std.specs.FinMap.{get}
use Rattle.std.proofs.lemmas.List.Concat.{flat_map-append}
use Rattle.file_store.specs.Store.{Contents}
use Rattle.metadata_table.specs.Places.{PlaceView}
use Rattle.metadata_table.specs.Roots.{RootView, file_names, root_bytes}
use Rattle.metadata_table.specs.declared.root.format.RootFormat.TheVariants.{Two}
use Rattle.commit_log.specs.Crc32.{crc32}
use Rattle.sorted_file.specs.File.{HasFile}
use Rattle.row_atomic.specs.Roots.{AreMeasured, root_sum}
use Rattle.row_atomic.specs.Open.{AreCounted, LacksFile}

-- ---- joined names

measured_joined : (m : Contents) (xs ys ms ns : List ℕ) → length ms ≡ length xs → AreMeasured m xs ms → AreMeasured m ys ns → AreMeasured m (xs ++ ys) (ms ++ ns)
measured_joined m [] ys [] ns e h k = k
measured_joined m [] ys (n ∷ ms) ns e h k = absurd (omega (arith, e))
measured_joined m (x ∷ xs) ys [] ns e h k = absurd (omega (arith, e))
measured_joined m (x ∷ xs) ys (n ∷ ms) ns e h k = (h.0, measured_joined m xs ys ms ns (omega (arith, e)) h.1 k)

pub told_joined : (told : Option Contents) (xs ys ms ns : List ℕ) → length ms ≡ length xs → IfSome told (λ m. AreMeasured m xs ms) → IfSome told (λ m. AreMeasured m ys ns) → IfSome told (λ m. AreMeasured m (xs ++ ys) (ms ++ ns))
told_joined None xs ys ms ns e h k = tt
told_joined (Some m) xs ys ms ns e h k = measured_joined m xs ys ms ns e h k

pub one_told : (told : Option Contents) (name n : ℕ) → IfSome told (λ m. IfSome (get m name) (λ image. length image ≡ n)) → IfSome told (λ m. AreMeasured m (name ∷ []) (n ∷ []))
one_told None name n h = tt
one_told (Some m) name n h = (h, tt)

-- ---- lengths of 0

-- the checksum of a root's bytes with these lengths
pub sum_of_root : (sum : ℕ) (root : RootView) (image lengths : List ℕ) → sum ≡ crc32 (image ++ []) → image ≡ root_bytes Two root lengths → lengths ≡ replicate {A = ℕ} (length (file_names root.places)) 0 → sum ≡ root_sum root
unfolding root_sum
sum_of_root sum root image lengths is wrote zeros = is ∙ ap crc32 (append-nil image ∙ wrote ∙ ap (root_bytes Two root) zeros)

pub zeros_counted : (lengths names : List ℕ) → lengths ≡ replicate {A = ℕ} (length names) 0 → length lengths ≡ length names
zeros_counted lengths names is = ap length is ∙ counted names
  where
    counted : (names : List ℕ) → length (replicate {A = ℕ} (length names) 0) ≡ length names
    counted [] = refl
    counted (n ∷ ns) = ap suc (counted ns)

pub more_names : (ps : List PlaceView) (p : PlaceView) → file_names (ps ++ p ∷ []) ≡ file_names ps ++ p.files
more_names ps p = flat_map-append (λ (x : PlaceView). x.files) ps (p ∷ []) ∙ ap (λ (l : List ℕ). file_names ps ++ l) (nil_end p.files)
  where
    nil_end : (xs : List ℕ) → xs ++ [] ≡ xs
    nil_end [] = refl
    nil_end (x ∷ xs) = ap (λ (l : List ℕ). x ∷ l) (nil_end xs)

-- ---- the same files, and one list of lengths

pub still_measured : (m n : Contents) (names lengths : List ℕ) → AllByRecursion (λ name. get n name ≡ get m name) names → AreMeasured m names lengths → AreMeasured n names lengths
still_measured m n [] lengths same h = tt
still_measured m n (x ∷ names) [] same h = tt
still_measured m n (x ∷ names) (k ∷ lengths) same h = (subst (λ (o : Option (List ℕ)). IfSome o (λ image. length image ≡ k)) (sym same.0) h.0, still_measured m n names lengths same.1 h.1)

one_length : (o : Option (List ℕ)) (a b : ℕ) → IsSome o → IfSome o (λ image. length image ≡ a) → IfSome o (λ image. length image ≡ b) → a ≡ b
one_length None a b there h k = cc
one_length (Some image) a b there h k = sym h ∙ k

pub one_list : (m : Contents) (names a b : List ℕ) → AllByRecursion (λ name. IsSome (get m name)) names → length a ≡ length names → length b ≡ length names → AreMeasured m names a → AreMeasured m names b → a ≡ b
one_list m [] [] [] there p q h k = refl
one_list m [] (x ∷ a) b there p q h k = absurd (omega (arith, p))
one_list m [] [] (y ∷ b) there p q h k = absurd (omega (arith, q))
one_list m (n ∷ names) [] b there p q h k = absurd (omega (arith, p))
one_list m (n ∷ names) (x ∷ a) [] there p q h k = absurd (omega (arith, q))
one_list m (n ∷ names) (x ∷ a) (y ∷ b) there p q h k =
    ap (λ (z : ℕ). z ∷ a) (one_length (get m n) x y there.0 h.0 k.0) ∙ ap (λ (l : List ℕ). y ∷ l) (one_list m names a b there.1 (omega (arith, p)) (omega (arith, q)) h.1 k.1)

-- the files named in the places exist
there_in : (m : Contents) (names : List ℕ) → AllByRecursion (HasFile m) names → AllByRecursion (λ name. IsSome (get m name)) names
there_in m [] h = tt
there_in m (n ∷ names) h = (subst (λ (o : Option (List ℕ)). IsSome o) (sym h.0.there) refl, there_in m names h.1)

all_both : {A : Type 0} (P : A → Type 0) (xs ys : List A) → AllByRecursion P xs → AllByRecursion P ys → AllByRecursion P (xs ++ ys)
all_both P [] ys h k = k
all_both P (x ∷ xs) ys h k = (h.0, all_both P xs ys h.1 k)

pub there_of : (m : Contents) (ps : List PlaceView) → AllByRecursion (λ p. AllByRecursion (HasFile m) p.files) ps → AllByRecursion (λ name. IsSome (get m name)) (file_names ps)
there_of m [] h = tt
there_of m (p ∷ ps) h = all_both (λ name. IsSome (get m name)) p.files (file_names ps) (there_in m p.files h.0) (there_of m ps h.1)

pub of_places : (P : ℕ → Type 0) (ps : List PlaceView) → AllByRecursion (λ p. AllByRecursion P p.files) ps → AllByRecursion P (file_names ps)
of_places P [] h = tt
of_places P (p ∷ ps) h = all_both P p.files (file_names ps) h.0 (of_places P ps h.1)

-- ---- known contents

-- without lengths none is wrong
pub none_measured : (told : Option Contents) (names lengths : List ℕ) → lengths ≡ [] → IfSome told (λ m. AreMeasured m names lengths)
none_measured None names lengths e = tt
none_measured (Some m) names lengths e = subst (AreMeasured m names) (sym e) (go names)
  where
    go : (names : List ℕ) → AreMeasured m names []
    go [] = tt
    go (n ∷ names) = tt

-- if every file exists and the lengths differ from theirs, one is wrong
pub wrong_lengths : (told : Option Contents) (ps : List PlaceView) (lengths now : List ℕ) → AreCounted ps lengths → lengths ≢ [] → length now ≡ length (file_names ps) → now ≢ lengths
    → IfSome told (λ m. AllByRecursion (λ p. AllByRecursion (HasFile m) p.files) ps) → IfSome told (λ m. AreMeasured m (file_names ps) now) → IfSome told (λ m. ¬ AreMeasured m (file_names ps) lengths)
wrong_lengths told ps lengths now (inl none) some count other there are = absurd (some none)
wrong_lengths None ps lengths now (inr many) some count other there are = tt
wrong_lengths (Some m) ps lengths now (inr many) some count other there are = λ h. other (one_list m (file_names ps) now lengths (there_of m ps there) count many are h)

pub either_wrong : (told : Option Contents) (ps : List PlaceView) (lengths : List ℕ) → IfSome told (λ m. ¬ AreMeasured m (file_names ps) lengths) → IfSome told (λ m. LacksFile m ps ⊎ (¬ AreMeasured m (file_names ps) lengths))
either_wrong None ps lengths h = tt
either_wrong (Some m) ps lengths h = inr h
