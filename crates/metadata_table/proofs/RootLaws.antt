-- Reading gives back what was written, so bytes are the root of one table.
use Rattle.std.proofs.Common.{◌≡◌, ℕ, zero, suc, ◌+◌, ◌*◌, ◌^◌, ◌<◌, ◌≤◌, false, ltb, List, [], ◌∷◌, ◌++◌, length, map, take, drop, length-take, length-drop, Option, Some, None, refl, sym, ap, subst, ◌∙◌, append_assoc, arith}
use Rattle.std.specs.Prelude.{IfSome, flat_map, codes}
use Rattle.std.specs.List.{AllByRecursion}
use Rattle.std.specs.Int.{Width, w32, w64, byte_len, from_be_bytes, to_be_bytes}
use Rattle.std.proofs.lemmas.Bool.{le-ltb}
use Rattle.std.proofs.lemmas.List.{take_at, drop_at, length-append, take-append-drop}
use Rattle.std.proofs.lemmas.List.Concat.{flat_map-cons}
use Rattle.std.proofs.lemmas.Nat.{from_be_bytes-to_be_bytes_4, from_be_bytes-to_be_bytes_8}
use Rattle.cell_key.specs.Entries.{field}
use Rattle.cell_key.specs.Names.{IsRow}
use Rattle.metadata_table.specs.Places.{PlaceView}
use Rattle.metadata_table.specs.Table.{IsNumbered}
use Rattle.metadata_table.proofs.Members.{all_implied}
use Rattle.metadata_table.specs.Roots.{RootView, AreFiles, HasLengths, IsSoundRoot, IsRootIn, IsRootWith, IsNoRoot, OneMeasure, OneRoot, end_bytes, file_names, files_bytes, numbers_of, place_bytes, places_bytes, root_bytes, root_head, with_lengths}
use Rattle.metadata_table.specs.declared.root.format.RootFormat.{RootFormat}
use Rattle.metadata_table.specs.declared.root.format.RootFormat.TheVariants.{One, Two}
use Rattle.metadata_table.specs.RootReader.{number_at, field_at, row_at, end_at, each_at, every_second, files_at, format_of, lengths_in, names_in, numbers_each, place_at, placed, places_at, root_at}

record IsWide (w : Width) (limit : ℕ) : Type 0 where
  len : (n : ℕ) → length (to_be_bytes w n) ≡ byte_len w
  again : (n : ℕ) → n < limit → from_be_bytes w (to_be_bytes w n) ≡ n

number_again : (w : Width) (limit : ℕ) (wide : IsWide w limit) (n : ℕ) (rest : List ℕ) → n < limit → number_at w (to_be_bytes w n ++ rest) ≡ Some (n, rest)
number_again w limit wide n rest lt =
    let len = wide.len n in
    let long : ltb (length (to_be_bytes w n ++ rest)) (byte_len w) ≡ false = le-ltb _ _ (omega (arith, length-append (to_be_bytes w n) rest)) in
    rw (long, take_at (to_be_bytes w n) rest (byte_len w) len, drop_at (to_be_bytes w n) rest (byte_len w) len, wide.again n lt) refl

pub u32_again : (n : ℕ) (rest : List ℕ) → n < 2 ^ 32 → number_at w32 (to_be_bytes w32 n ++ rest) ≡ Some (n, rest)
u32_again = number_again w32 (2 ^ 32) (record { len = λ n. refl; again = λ n lt. from_be_bytes-to_be_bytes_4 n lt })

pub u64_again : (n : ℕ) (rest : List ℕ) → n < 2 ^ 64 → number_at w64 (to_be_bytes w64 n ++ rest) ≡ Some (n, rest)
u64_again = number_again w64 (2 ^ 64) (record { len = λ n. refl; again = λ n lt. from_be_bytes-to_be_bytes_8 n lt })

pub field_again : (text rest : List ℕ) → length text < 2 ^ 32 → field_at (field text ++ rest) ≡ Some (text, rest)
unfolding field_at
field_again text rest lt =
    let long : ltb (length (text ++ rest)) (length text) ≡ false = le-ltb _ _ (omega (arith, length-append text rest)) in
    rw (u32_again (length text) (text ++ rest) lt, long, take_at text rest (length text) refl, drop_at text rest (length text) refl) refl

pub row_again : (row rest : List ℕ) → IsRow row → row_at (field row ++ rest) ≡ Some (row, rest)
unfolding row_at
row_again row rest is =
    let few = is.few in
    let some : ltb (length row) 1 ≡ false = le-ltb _ _ (omega (arith, is.some)) in
    let fits : ltb 4000 (length row) ≡ false = le-ltb _ _ (omega (arith, few)) in
    rw (field_again row rest (omega (arith, few)), some, fits) refl

pub end_again : (end : Option (List ℕ)) (rest : List ℕ) → IfSome end IsRow → end_at (end_bytes end ++ rest) ≡ Some (end, rest)
unfolding end_at
end_again None rest h = refl
end_again (Some row) rest h = rw (row_again row rest h) refl

pub each_again : {X : Type 0} (item : List ℕ → Option (X × List ℕ)) (bytes_of : X → List ℕ) (Fits : X → Type 0) (again : (x : X) (rest : List ℕ) → Fits x → item (bytes_of x ++ rest) ≡ Some (x, rest))
    (xs : List X) (rest : List ℕ) → AllByRecursion Fits xs → each_at item (length xs) (flat_map bytes_of xs ++ rest) ≡ Some (xs, rest)
unfolding each_at
each_again item bytes_of Fits again [] rest fits = refl
each_again item bytes_of Fits again (x ∷ xs) rest fits =
    let regrouped : flat_map bytes_of (x ∷ xs) ++ rest ≡ bytes_of x ++ (flat_map bytes_of xs ++ rest) = ap (λ (t : List ℕ). t ++ rest) (flat_map-cons bytes_of x xs) ∙ append_assoc (bytes_of x) (flat_map bytes_of xs) rest in
    ap (each_at item (suc (length xs))) regrouped ∙ rw (again x (flat_map bytes_of xs ++ rest) fits.0, each_again item bytes_of Fits again xs rest fits.1) refl

-- ---- files

-- the lengths that a format has for these names
abbrev pub HasShare : RootFormat → List ℕ → List ℕ → Type 0
HasShare One names lengths = lengths ≡ []
HasShare Two names lengths = length lengths ≡ length names

no_lengths : (names : List ℕ) → numbers_of names [] ≡ names
no_lengths [] = refl
no_lengths (n ∷ names) = ap (λ (l : List ℕ). n ∷ l) (no_lengths names)

count_numbers : (f : RootFormat) (names lengths : List ℕ) → HasShare f names lengths → length (numbers_of names lengths) ≡ length names * numbers_each f
count_numbers One names lengths h = ap (λ (l : List ℕ). length (numbers_of names l)) h ∙ ap length (no_lengths names) ∙ omega arith
count_numbers Two [] lengths h = refl
count_numbers Two (n ∷ names) [] h = absurd (omega (arith, h))
count_numbers Two (n ∷ names) (l ∷ lengths) h = let rest = count_numbers Two names lengths (omega (arith, h)) in omega (arith, rest)

names_two : (names lengths : List ℕ) → length lengths ≡ length names → every_second (numbers_of names lengths) ≡ names
names_two [] lengths h = refl
names_two (n ∷ names) [] h = absurd (omega (arith, h))
names_two (n ∷ names) (l ∷ lengths) h = ap (λ (x : List ℕ). n ∷ x) (names_two names lengths (omega (arith, h)))

-- after the first number, which is skipped
lengths_two : (names lengths : List ℕ) → length lengths ≡ length names → every_second (drop 1 (numbers_of names lengths)) ≡ lengths
lengths_two [] [] h = refl
lengths_two [] (l ∷ lengths) h = absurd (omega (arith, h))
lengths_two (n ∷ names) [] h = absurd (omega (arith, h))
lengths_two (n ∷ []) (l ∷ []) h = refl
lengths_two (n ∷ []) (l ∷ k ∷ lengths) h = absurd (omega (arith, h))
lengths_two (n ∷ m ∷ names) (l ∷ []) h = absurd (omega (arith, h))
lengths_two (n ∷ m ∷ names) (l ∷ k ∷ lengths) h = ap (λ (x : List ℕ). l ∷ x) (lengths_two (m ∷ names) (k ∷ lengths) (omega (arith, h)))

names_again : (f : RootFormat) (names lengths : List ℕ) → HasShare f names lengths → names_in f (numbers_of names lengths) ≡ names
names_again One names lengths h = ap (numbers_of names) h ∙ no_lengths names
names_again Two names lengths h = names_two names lengths h

lengths_again : (f : RootFormat) (names lengths : List ℕ) → HasShare f names lengths → lengths_in f (numbers_of names lengths) ≡ lengths
lengths_again One names lengths h = sym h
lengths_again Two names lengths h = lengths_two names lengths h

fit_numbers : (names lengths : List ℕ) → AllByRecursion (λ (n : ℕ). n < 2 ^ 64) names → AllByRecursion (λ (n : ℕ). n < 2 ^ 64) lengths → AllByRecursion (λ (n : ℕ). n < 2 ^ 64) (numbers_of names lengths)
fit_numbers [] lengths h k = tt
fit_numbers (n ∷ names) [] h k = (h.0, fit_numbers names [] h.1 k)
fit_numbers (n ∷ names) (l ∷ lengths) h k = (h.0, (k.0, fit_numbers names lengths h.1 k.1))

files_again : (f : RootFormat) (names lengths rest : List ℕ) → HasShare f names lengths → AllByRecursion (λ (n : ℕ). n < 2 ^ 64) names → AllByRecursion (λ (n : ℕ). n < 2 ^ 64) lengths
    → files_at f (length names) (flat_map (to_be_bytes w64) (numbers_of names lengths) ++ rest) ≡ Some ((names, lengths), rest)
unfolding files_at
files_again f names lengths rest h fn fl =
    let ns = numbers_of names lengths in
    let read : each_at (number_at w64) (length names * numbers_each f) (flat_map (to_be_bytes w64) ns ++ rest) ≡ Some (ns, rest) =
    ap (λ (k : ℕ). each_at (number_at w64) k (flat_map (to_be_bytes w64) ns ++ rest)) (sym (count_numbers f names lengths h)) ∙ each_again (number_at w64) (to_be_bytes w64) (λ n. n < 2 ^ 64) u64_again ns rest (fit_numbers names lengths fn fl) in
    rw (read, names_again f names lengths h, lengths_again f names lengths h) refl

-- the limits under which a place can be read again
pub record Spells (f : RootFormat) (p : PlaceView × List ℕ) : Type 0 where
  pub tablet : p.0.tablet < 2 ^ 32
  pub end : IfSome p.0.end IsRow
  pub few : length p.0.files < 2 ^ 32
  pub names : AllByRecursion (λ n. n < 2 ^ 64) p.0.files
  pub share : HasShare f p.0.files p.1
  pub lengths : AllByRecursion (λ n. n < 2 ^ 64) p.1

pub place_again : (f : RootFormat) (p : PlaceView × List ℕ) (rest : List ℕ) → Spells f p → place_at f (place_bytes p ++ rest) ≡ Some (p, rest)
unfolding place_at
place_again f p rest s =
    let names = flat_map (to_be_bytes w64) (numbers_of p.0.files p.1) in
    let regrouped : place_bytes p ++ rest ≡ to_be_bytes w32 p.0.tablet ++ (end_bytes p.0.end ++ (p.0.server ∷ (to_be_bytes w32 (length p.0.files) ++ (names ++ rest)))) =
    append_assoc (to_be_bytes w32 p.0.tablet) (end_bytes p.0.end ++ (p.0.server ∷ files_bytes p.0.files p.1)) rest
    ∙ ap (λ (t : List ℕ). to_be_bytes w32 p.0.tablet ++ t) (append_assoc (end_bytes p.0.end) (p.0.server ∷ files_bytes p.0.files p.1) rest
    ∙ ap (λ (t : List ℕ). end_bytes p.0.end ++ (p.0.server ∷ t)) (append_assoc (to_be_bytes w32 (length p.0.files)) names rest)) in
    ap (place_at f) regrouped
    ∙ rw (u32_again p.0.tablet (end_bytes p.0.end ++ (p.0.server ∷ (to_be_bytes w32 (length p.0.files) ++ (names ++ rest)))) s.tablet, end_again p.0.end (p.0.server ∷ (to_be_bytes w32 (length p.0.files) ++ (names ++ rest))) s.end, u32_again (length p.0.files) (names ++ rest) s.few, files_again f p.0.files p.1 rest s.share s.names s.lengths) refl

-- ---- the lengths of each place

all_take : (P : ℕ → Type 0) (n : ℕ) (xs : List ℕ) → AllByRecursion P xs → AllByRecursion P (take n xs)
all_take P zero xs h = tt
all_take P (suc n) [] h = tt
all_take P (suc n) (x ∷ xs) h = (h.0, all_take P n xs h.1)

all_drop : (P : ℕ → Type 0) (n : ℕ) (xs : List ℕ) → AllByRecursion P xs → AllByRecursion P (drop n xs)
all_drop P zero xs h = h
all_drop P (suc n) [] h = tt
all_drop P (suc n) (x ∷ xs) h = all_drop P n xs h.1

drop_none : (n : ℕ) (xs : List ℕ) → xs ≡ [] → drop n xs ≡ []
drop_none zero xs e = e
drop_none (suc n) [] e = refl
drop_none (suc n) (x ∷ xs) e = cc

take_none : (n : ℕ) (xs : List ℕ) → xs ≡ [] → take n xs ≡ []
take_none zero xs e = refl
take_none (suc n) [] e = refl
take_none (suc n) (x ∷ xs) e = cc

-- a format's lengths for a first place, and for the places after it
first_share : (f : RootFormat) (p : PlaceView) (ps : List PlaceView) (lengths : List ℕ) → HasLengths f (p ∷ ps) lengths → HasShare f p.files (take (length p.files) lengths)
first_share One p ps lengths h = take_none (length p.files) lengths h
first_share Two p ps lengths h = omega (arith, h, length-append p.files (file_names ps), length-take (length p.files) lengths)

rest_share : (f : RootFormat) (p : PlaceView) (ps : List PlaceView) (lengths : List ℕ) → HasLengths f (p ∷ ps) lengths → HasLengths f ps (drop (length p.files) lengths)
rest_share One p ps lengths h = drop_none (length p.files) lengths h
rest_share Two p ps lengths h = omega (arith, h, length-append p.files (file_names ps), length-drop (length p.files) lengths)

each_spells : (f : RootFormat) (next : ℕ) (count : ℕ) (ps : List PlaceView) (lengths : List ℕ) → next ≤ 2 ^ 63 → count ≤ 1024 → AllByRecursion (IsNumbered count) ps → AllByRecursion (λ p. IfSome p.end IsRow) ps → AllByRecursion (λ p. AreFiles next p.files) ps
    → HasLengths f ps lengths → AllByRecursion (λ (n : ℕ). n < 2 ^ 64) lengths → AllByRecursion (Spells f) (with_lengths ps lengths)
each_spells f next count [] lengths to few numbered ends files has fit = tt
each_spells f next count (p ∷ ps) lengths to few numbered ends files has fit =
    let tablet = numbered.0.to in
    let names = files.0.few in (
      record {
        tablet = omega (arith, tablet, few);
        end = ends.0;
        few = omega (arith, names);
        names = all_implied (λ n. (1 ≤ n) × (n < next)) (λ n. n < 2 ^ 64) (λ n named. omega (arith, named.1, to)) p.files files.0.named;
        share = first_share f p ps lengths has;
        lengths = all_take (λ (n : ℕ). n < 2 ^ 64) (length p.files) lengths fit;
      },
      each_spells f next count ps (drop (length p.files) lengths) to few numbered.1 ends.1 files.1 (rest_share f p ps lengths has) (all_drop (λ (n : ℕ). n < 2 ^ 64) (length p.files) lengths fit),
    )

count_places : (ps : List PlaceView) (lengths : List ℕ) → length (with_lengths ps lengths) ≡ length ps
count_places [] lengths = refl
count_places (p ∷ ps) lengths = ap suc (count_places ps (drop (length p.files) lengths))

-- and together they are all lengths
placed_again : (f : RootFormat) (ps : List PlaceView) (lengths : List ℕ) → HasLengths f ps lengths → placed (with_lengths ps lengths) ≡ (ps, lengths)
placed_again f ps lengths has = λ i. (these ps lengths i, those f ps lengths has i)
  where
    these : (ps : List PlaceView) (lengths : List ℕ) → map (λ (p : PlaceView × List ℕ). p.0) (with_lengths ps lengths) ≡ ps
    these [] lengths = refl
    these (p ∷ ps) lengths = ap (λ (l : List PlaceView). p ∷ l) (these ps (drop (length p.files) lengths))

    none : (f : RootFormat) (lengths : List ℕ) → HasLengths f [] lengths → [] ≡ lengths
    none One lengths h = sym h
    none Two [] h = refl
    none Two (l ∷ lengths) h = absurd (omega (arith, h))

    those : (f : RootFormat) (ps : List PlaceView) (lengths : List ℕ) → HasLengths f ps lengths → flat_map (λ (p : PlaceView × List ℕ). p.1) (with_lengths ps lengths) ≡ lengths
    those f [] lengths h = none f lengths h
    those f (p ∷ ps) lengths h =
        ap (λ (l : List ℕ). take (length p.files) lengths ++ l) (those f ps (drop (length p.files) lengths) (rest_share f p ps lengths h)) ∙ take-append-drop (length p.files) lengths

pub places_again : (f : RootFormat) (ps : List PlaceView) (lengths rest : List ℕ) → HasLengths f ps lengths → AllByRecursion (Spells f) (with_lengths ps lengths)
    → places_at f (length ps) (flat_map place_bytes (with_lengths ps lengths) ++ rest) ≡ Some ((ps, lengths), rest)
unfolding places_at
places_again f ps lengths rest has spells =
    let read : each_at (place_at f) (length ps) (flat_map place_bytes (with_lengths ps lengths) ++ rest) ≡ Some (with_lengths ps lengths, rest) =
    ap (λ (k : ℕ). each_at (place_at f) k (flat_map place_bytes (with_lengths ps lengths) ++ rest)) (sym (count_places ps lengths)) ∙ each_again (place_at f) place_bytes (Spells f) (place_again f) (with_lengths ps lengths) rest spells in
    rw read (ap (λ (x : List PlaceView × List ℕ). Some (x, rest)) (placed_again f ps lengths has))

head_again : (f : RootFormat) (rest : List ℕ) → number_at w64 (root_head f ++ rest) ≡ Some (from_be_bytes w64 (root_head f), rest)
head_again One rest =
    let head = root_head One in
    let long : ltb (length (head ++ rest)) 8 ≡ false = le-ltb _ _ (omega (arith, length-append head rest)) in
    rw (long) refl
head_again Two rest =
    let head = root_head Two in
    let long : ltb (length (head ++ rest)) 8 ≡ false = le-ltb _ _ (omega (arith, length-append head rest)) in
    rw (long) refl

format_again : (f : RootFormat) → format_of (from_be_bytes w64 (root_head f)) ≡ f
format_again One = refl
format_again Two = refl

pub root_again : (f : RootFormat) (r : RootView) (lengths : List ℕ) → IsSoundRoot r → HasLengths f r.places lengths → AllByRecursion (λ (n : ℕ). n < 2 ^ 64) lengths → root_at (root_bytes f r lengths) ≡ Some (f, (r, lengths))
unfolding root_at
root_again f r lengths sound has fit =
    let foot = codes "TABROOTZ" in
    let places = flat_map place_bytes (with_lengths r.places lengths) in
    let to = sound.naming.to in
    let few = sound.table.few in
    let counted = to_be_bytes w32 (length r.places) ++ (places ++ foot) in
    let numbered = to_be_bytes w32 (length r.places + 1) ++ counted in
    let named = to_be_bytes w64 r.next_name ++ numbered in
    let floored = to_be_bytes w64 r.floor ++ named in
    let topped = to_be_bytes w64 r.top ++ floored in
    let spells : AllByRecursion (Spells f) (with_lengths r.places lengths) = each_spells f r.next_name (length r.places) r.places lengths to few sound.table.numbered sound.ends sound.naming.files has fit in
    let regrouped : places_bytes r.places lengths ++ foot ≡ numbered =
    append_assoc (to_be_bytes w32 (length r.places + 1)) (to_be_bytes w32 (length r.places) ++ places) foot
    ∙ ap (λ (t : List ℕ). to_be_bytes w32 (length r.places + 1) ++ t) (append_assoc (to_be_bytes w32 (length r.places)) places foot) in
    let whole : root_bytes f r lengths ≡ root_head f ++ topped = ap (λ (t : List ℕ). root_head f ++ (to_be_bytes w64 r.top ++ (to_be_bytes w64 r.floor ++ (to_be_bytes w64 r.next_name ++ t)))) regrouped in
    ap root_at whole
    ∙ rw (head_again f topped, u64_again r.top floored sound.top, u64_again r.floor named sound.floor, u64_again r.next_name numbered (omega (arith, to)), u32_again (length r.places + 1) counted (omega (arith, few)), u32_again (length r.places) (places ++ foot) (omega (arith, few)), format_again f, places_again f r.places lengths foot has spells) refl

pub read_as : (f : RootFormat) (r : RootView) (lengths bytes : List ℕ) → IsRootIn f r lengths bytes → root_at bytes ≡ Some (f, (r, lengths))
read_as f r lengths bytes is = ap root_at is.whole ∙ root_again f r lengths is.sound is.measured is.fit

some_inj : {X : Type 0} {x y : X} → Some x ≡ Some y → x ≡ y
some_inj {X} {x} {y} e = ap (λ (o : Option X). elim o [ Some z ↦ z | None ↦ x ]) e

read_with : (r : RootView) (lengths bytes : List ℕ) (is : IsRootWith r lengths bytes) → root_at bytes ≡ Some (is.format, (r, lengths))
read_with r lengths bytes is = read_as is.format r lengths bytes is.form

same_read : (a b : RootView) (m n bytes : List ℕ) (x : IsRootWith a m bytes) (y : IsRootWith b n bytes) → ◌≡◌ {A = RootFormat × (RootView × List ℕ)} (x.format, (a, m)) (y.format, (b, n))
same_read a b m n bytes x y = some_inj (sym (read_with a m bytes x) ∙ read_with b n bytes y)

pub one_root : OneRoot
one_root a b bytes x y = ap (λ (z : RootFormat × (RootView × List ℕ)). z.1.0) (same_read a b x.lengths y.lengths bytes x.measured y.measured)

pub one_measure : OneMeasure
one_measure a b m n bytes x y = ap (λ (z : RootFormat × (RootView × List ℕ)). z.1.1) (same_read a b m n bytes x y)

no_some : {X : Type 0} (x : X) → Some x ≡ None → ⊥
no_some x e = cc

-- bytes that can't be read are no root
pub is_not_read : (bytes : List ℕ) → root_at bytes ≡ None → IsNoRoot bytes
is_not_read bytes none root is =
    no_some (is.measured.format, (root, is.lengths)) (sym (read_with root is.lengths bytes is.measured) ∙ none)

-- bytes that are not the root read from them are no root
pub none_or_read : (f : RootFormat) (read : RootView) (lengths bytes : List ℕ) → root_at bytes ≡ Some (f, (read, lengths)) → (IsRootIn f read lengths bytes → ⊥) → IsNoRoot bytes
none_or_read f read lengths bytes e isnt root is =
    let same : (is.measured.format, (root, is.lengths)) ≡ (f, (read, lengths)) = some_inj (sym (read_with root is.lengths bytes is.measured) ∙ e) in
    isnt (subst (λ (x : RootFormat × (RootView × List ℕ)). IsRootIn x.0 x.1.0 x.1.1 bytes) same is.measured.form)
