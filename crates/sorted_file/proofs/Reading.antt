-- The possible fronts of some bytes.
use Rattle.std.proofs.Common.{◌≡◌, ◌≢◌, ℕ, zero, ◌+◌, ◌-◌, ◌≤◌, ◌<◌, ◌^◌, Bool, true, false, ◌&&◌, T, List, [], ◌∷◌, ◌++◌, length, drop, refl, sym, ap, subst, ◌∙◌, arith, length-append, append_assoc}
use Rattle.std.specs.Prelude.{flat_map, Option, Some, None}
use Rattle.std.specs.List.{AllByRecursion}
use Rattle.std.specs.declared.cmp.Ordering.{Ordering}
use Rattle.std.specs.declared.cmp.Ordering.TheVariants.{Less, Equal, Greater}
use Rattle.std.specs.Ordering.{is_lt}
use Rattle.std.specs.Cmp.Lexicographic.{nat_list_cmp_total}
use Rattle.std.specs.FinMap.Entries.{below_all}
use Rattle.cell_key.specs.Keys.{byte_cmp}
use Rattle.cell_key.specs.Entries.{Entry, IsEntry, IsRising, spelled, spelled_value, field}
use Rattle.sorted_file.specs.Grammar.{foot_len, most, number_bytes, IsFile}
use Rattle.sorted_file.specs.declared.format.Format.{Format}
use Rattle.sorted_file.proofs.Spelling.{field_split, field_length, short, is_cut, number_split}
use Rattle.sorted_file.proofs.EntryParts.{index_cut}

-- ---- an entry

-- a field and a value are an entry
pub entry_front : (bytes key rest x : List ℕ) (v : Option (List ℕ)) → bytes ≡ field key ++ rest → rest ≡ spelled_value v ++ x → bytes ≡ spelled (key, v) ++ x
entry_front bytes key rest x v f r = f ∙ ap (λ (l : List ℕ). field key ++ l) r ∙ sym (append_assoc (field key) (spelled_value v) x)

-- the value is behind the first field
pub value_front : (bytes key rest x : List ℕ) (e : Entry) → length bytes < 2 ^ 32 → bytes ≡ field key ++ rest → bytes ≡ spelled e ++ x → rest ≡ spelled_value e.1 ++ x
value_front bytes key rest x e small f s =
    let l : length bytes ≡ 4 + length key + length rest = ap length f ∙ length-append (field key) rest ∙ ap (λ (n : ℕ). n + length rest) (field_length key) in
    let is = short e x bytes s small in
    let whole : field key ++ rest ≡ field e.0 ++ (spelled_value e.1 ++ x) = sym f ∙ s ∙ append_assoc (field e.0) (spelled_value e.1) x in
    (field_split key e.0 rest (spelled_value e.1 ++ x) (omega (arith, l, small)) (is.key) whole).1

no_value_front : (v : Option (List ℕ)) (x : List ℕ) → [] ≡ spelled_value v ++ x → ⊥
no_value_front None x e = cc
no_value_front (Some v) x e = cc

pub no_entry_empty : (bytes key rest x : List ℕ) (e : Entry) → length bytes < 2 ^ 32 → bytes ≡ field key ++ rest → rest ≡ [] → bytes ≡ spelled e ++ x → ⊥
no_entry_empty bytes key rest x e small f n s = no_value_front e.1 x (sym n ∙ value_front bytes key rest x e small f s)

kinds : (v : Option (List ℕ)) (kind : ℕ) (after x : List ℕ) → kind ≢ 0 → kind ≢ 1 → kind ∷ after ≡ spelled_value v ++ x → ⊥
kinds None kind after x p q e = let is : kind ≡ 0 = cc in p is
kinds (Some v) kind after x p q e = let is : kind ≡ 1 = cc in q is

pub no_entry_kind : (bytes key rest after x : List ℕ) (kind : ℕ) (e : Entry) → length bytes < 2 ^ 32 → bytes ≡ field key ++ rest → rest ≡ kind ∷ after → kind ≢ 0 → kind ≢ 1 → bytes ≡ spelled e ++ x → ⊥
no_entry_kind bytes key rest after x kind e small f n p q s = kinds e.1 kind after x p q (sym n ∙ value_front bytes key rest x e small f s)

values : (v : Option (List ℕ)) (after x : List ℕ) → length (spelled_value v) < 2 ^ 32 → ((part more : List ℕ) → length part < 2 ^ 32 → after ≢ field part ++ more) → 1 ∷ after ≡ spelled_value v ++ x → ⊥
values None after x small h e = let is : 1 ≡ zero = cc in absurd (omega (arith, is))
values (Some v) after x small h e = let is : after ≡ field v ++ x = cc in h v x (omega (arith, small, field_length v)) is

pub no_entry_value : (bytes key rest after x : List ℕ) (kind : ℕ) (e : Entry) → length bytes < 2 ^ 32 → bytes ≡ field key ++ rest → rest ≡ kind ∷ after → kind ≡ 1 → ((part more : List ℕ) → length part < 2 ^ 32 → after ≢ field part ++ more) → bytes ≡ spelled e ++ x → ⊥
no_entry_value bytes key rest after x kind e small f n is h s =
    let sh = short e x bytes s small in
    values e.1 after x sh.value h (ap (λ (k : ℕ). k ∷ after) (sym is) ∙ sym n ∙ value_front bytes key rest x e small f s)

-- ---- entries, one after another

all_at : (done more : List Entry) (e : Entry) → AllByRecursion IsEntry (done ++ e ∷ more) → IsEntry e
all_at [] more e h = h.0
all_at (d ∷ done) more e h = all_at done more e h.1

pub rest_small : (bytes front rest : List ℕ) → length bytes < 2 ^ 32 → bytes ≡ front ++ rest → length rest < 2 ^ 32
rest_small bytes front rest small s = omega (arith, small, ap length s, length-append front rest)

-- ---- the order

both : (a b : Bool) → T a → T b → T (a && b)
both true b p q = q
both false b p q = p

first : (a b : Bool) → T (a && b) → T a
first true b p = tt
first false b p = p

second : (a b : Bool) → T (a && b) → T b
second true b p = p
second false b p = absurd p

less : (o : Ordering) → T (is_lt o) → o ≡ Less
less Less p = refl
less Equal p = absurd p
less Greater p = absurd p

pub is_less : (o : Ordering) → is_lt o ≡ true → o ≡ Less
is_less Less p = refl
is_less Equal p = cc
is_less Greater p = cc

below_less : (x y : List ℕ) (es : List Entry) → byte_cmp x y ≡ Less → T (below_all byte_cmp y es) → T (below_all byte_cmp x es)
below_less x y [] p h = tt
below_less x y (e ∷ es) p h =
    let lower : byte_cmp x e.0 ≡ Less = nat_list_cmp_total.trans x y e.0 p (less _ (first _ _ h)) in
    both _ _ (subst (λ (o : Ordering). T (is_lt o)) (sym lower) tt) (below_less x y es p (second _ _ h))

rise : (l n : Entry) (after : List Entry) → byte_cmp l.0 n.0 ≡ Less → IsRising (n ∷ after) → IsRising (l ∷ n ∷ after)
rise l n after p h = both _ _ (both _ _ (subst (λ (o : Ordering). T (is_lt o)) (sym p) tt) (below_less l.0 n.0 after p (first _ _ h))) h

-- ---- the offset of the index

pub record IsIndexPlace (f : Format) (n : ℕ) (es : List Entry) (image : List ℕ) : Type 0 where
  pub exact : n ≡ 8 + length (flat_map spelled es)
  pub within : n + foot_len f ≤ length image

pub place_of : (f : Format) (es : List Entry) (image last rest : List ℕ) (n : ℕ) → n < most f → IsFile f es image → last ≡ drop (length image - foot_len f) image → last ≡ number_bytes f n ++ rest → IsIndexPlace f n es image
place_of f es image last rest n small is d s =
    let c = is_cut f es image is in
    let size = c.size in
    let all = is.small in
    let exact = (number_split f n (8 + length (flat_map spelled es)) rest c.numbers small (omega (arith, size, all)) (sym s ∙ d ∙ index_cut f es image c)).0 in
    record { exact = exact; within = omega (arith, exact, size) }
