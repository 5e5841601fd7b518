-- Entries put over others, and how many bytes they have.
use Rattle.std.proofs.Common.{◌≡◌, ◌<◌, ◌≤◌, ◌+◌, ℕ, zero, suc, Bool, true, false, cond, List, [], ◌∷◌, ◌++◌, drop, get_or, length, map, Option, Some, None, refl, sym, ap, subst, ◌∙◌, arith}
use Rattle.std.specs.List.{AllByRecursion}
use Rattle.std.specs.declared.cmp.Ordering.{Ordering}
use Rattle.std.specs.declared.cmp.Ordering.TheVariants.{Less, Equal, Greater}
use Rattle.std.specs.Ordering.{eq_by_cmp}
use Rattle.std.specs.Cmp.Lexicographic.{nat_list_cmp_total}
use Rattle.std.specs.FinMap.Entries.{put, is_sorted-put, find-put, same_entries}
use Rattle.cell_key.specs.Keys.{byte_cmp}
use Rattle.cell_key.specs.Entries.{Entry, IsRising, IsEntry, or_else, entry_of_key, entry_len}
use Rattle.memtable.specs.Edits.{bytes_of}
use Rattle.memtable.specs.Slots.{lock_count, one_lock, one_value, over, value_count}
use Rattle.cell_key.proofs.TextPlaces.{one_text, find_below, find_lower, first, second}

pub over_rising : (es base : List Entry) → IsRising base → IsRising (over es base)
over_rising [] base r = r
over_rising (e ∷ es) base r = is_sorted-put byte_cmp nat_list_cmp_total e.0 e.1 (over es base) (over_rising es base r)

cond_or : {A : Type 0} (b : Bool) (v : A) (x y : Option A) → cond b (Some v) (or_else x y) ≡ or_else (cond b (Some v) x) y
cond_or true v x y = refl
cond_or false v x y = refl

pub find-over : (q : List ℕ) (es base : List Entry) → entry_of_key (over es base) q ≡ or_else (entry_of_key es q) (entry_of_key base q)
find-over q [] base = refl
find-over q (e ∷ es) base =
    find-put byte_cmp nat_list_cmp_total q e.0 e.1 (over es base)
    ∙ ap (cond (eq_by_cmp byte_cmp q e.0) (Some e.1)) (find-over q es base)
    ∙ cond_or (eq_by_cmp byte_cmp q e.0) e.1 (entry_of_key es q) (entry_of_key base q)

-- an entry put among the upper ones is put over all
pub over-put : (name : List ℕ) (v : Option (List ℕ)) (es base : List Entry) → IsRising base → over (put byte_cmp name v es) base ≡ put byte_cmp name v (over es base)
over-put name v es base r =
    same_entries byte_cmp nat_list_cmp_total one_text (over (put byte_cmp name v es) base) (put byte_cmp name v (over es base))
    (over_rising (put byte_cmp name v es) base r)
    (is_sorted-put byte_cmp nat_list_cmp_total name v (over es base) (over_rising es base r))
    (λ q. find-over q (put byte_cmp name v es) base
    ∙ ap (λ (o : Option (Option (List ℕ))). or_else o (entry_of_key base q)) (find-put byte_cmp nat_list_cmp_total q name v es)
    ∙ sym (cond_or (eq_by_cmp byte_cmp q name) v (entry_of_key es q) (entry_of_key base q))
    ∙ ap (cond (eq_by_cmp byte_cmp q name) (Some v)) (sym (find-over q es base))
    ∙ sym (find-put byte_cmp nat_list_cmp_total q name v (over es base)))

pub all_pushed : {X : Type 0} (P : X → Type 0) (xs : List X) (x : X) → AllByRecursion P (xs ++ x ∷ []) → AllByRecursion P xs × P x
all_pushed P [] x all = (tt, all.0)
all_pushed P (y ∷ xs) x all = let rest = all_pushed P xs x all.1 in ((all.0, rest.0), rest.1)

pub over-push : (es : List Entry) (e : Entry) (base : List Entry) → over (es ++ e ∷ []) base ≡ over es (put byte_cmp e.0 e.1 base)
over-push [] e base = refl
over-push (x ∷ es) e base = ap (put byte_cmp x.0 x.1) (over-push es e base)

-- the length of the entry at a text
abbrev pub stood_len : List ℕ → Option (Option (List ℕ)) → ℕ
stood_len name None = 0
stood_len name (Some v) = entry_len (name, v)

module _ (len : Entry → ℕ) where
  abbrev total : List Entry → ℕ
  total [] = 0
  total (e ∷ es) = len e + total es

  abbrev stood : List ℕ → Option (Option (List ℕ)) → ℕ
  stood name None = 0
  stood name (Some v) = len (name, v)

  total-put : (name : List ℕ) (v : Option (List ℕ)) (es : List Entry) → IsRising es → total (put byte_cmp name v es) + stood name (entry_of_key es name) ≡ total es + len (name, v)
  total-put name v [] r = omega arith
  total-put name v (e ∷ es) r = go (total-put name v es (second _ _ r)) (byte_cmp name e.0) refl
    where
      go : total (put byte_cmp name v es) + stood name (entry_of_key es name) ≡ total es + len (name, v) → (o : Ordering) → byte_cmp name e.0 ≡ o → total (put byte_cmp name v (e ∷ es)) + stood name (entry_of_key (e ∷ es) name) ≡ total (e ∷ es) + len (name, v)
      go h Less p = rw (find_lower name e es r p, p) (omega arith)
      go h Equal p =
          let same : len (name, e.1) ≡ len e = ap (λ (n : List ℕ). len (n, e.1)) (one_text name e.0 p) in
          let back : len (e.0, v) ≡ len (name, v) = ap (λ (n : List ℕ). len (n, v)) (sym (one_text name e.0 p)) in
          rw p (omega (arith, same, back))
      go h Greater p = rw p (omega (arith, h))

  stood_below : (name : List ℕ) (es : List Entry) → stood name (entry_of_key es name) ≤ total es
  stood_below name [] = omega arith
  stood_below name (e ∷ es) = go (stood_below name es) (byte_cmp name e.0) refl
    where
      go : stood name (entry_of_key es name) ≤ total es → (o : Ordering) → byte_cmp name e.0 ≡ o → stood name (entry_of_key (e ∷ es) name) ≤ total (e ∷ es)
      go h Less p = rw p (omega (arith, h))
      go h Equal p = let same : len (name, e.1) ≡ len e = ap (λ (n : List ℕ). len (n, e.1)) (one_text name e.0 p) in rw p (omega (arith, same))
      go h Greater p = rw p (omega (arith, h))

bytes-total : (es : List Entry) → bytes_of es ≡ total entry_len es
bytes-total [] = refl
bytes-total (e ∷ es) = ap (λ (n : ℕ). entry_len e + n) (bytes-total es)

stood-len : (name : List ℕ) (o : Option (Option (List ℕ))) → stood_len name o ≡ stood entry_len name o
stood-len name None = refl
stood-len name (Some v) = refl

pub bytes-put : (name : List ℕ) (v : Option (List ℕ)) (es : List Entry) → IsRising es → bytes_of (put byte_cmp name v es) + stood_len name (entry_of_key es name) ≡ bytes_of es + entry_len (name, v)
bytes-put name v es r =
    rw (bytes-total (put byte_cmp name v es), bytes-total es, stood-len name (entry_of_key es name)) (total-put entry_len name v es r)

pub stood_within : (name : List ℕ) (es : List Entry) → stood_len name (entry_of_key es name) ≤ bytes_of es
stood_within name es = rw (bytes-total es, stood-len name (entry_of_key es name)) (stood_below entry_len name es)

-- how many values of locks there were at a text
abbrev pub stood_locks : List ℕ → Option (Option (List ℕ)) → ℕ
stood_locks name None = 0
stood_locks name (Some v) = one_lock (name, v)

locks-total : (es : List Entry) → lock_count es ≡ total one_lock es
locks-total [] = refl
locks-total (e ∷ es) = ap (λ (n : ℕ). one_lock e + n) (locks-total es)

stood-locks : (name : List ℕ) (o : Option (Option (List ℕ))) → stood_locks name o ≡ stood one_lock name o
stood-locks name None = refl
stood-locks name (Some v) = refl

pub locks-put : (name : List ℕ) (v : Option (List ℕ)) (es : List Entry) → IsRising es → lock_count (put byte_cmp name v es) + stood_locks name (entry_of_key es name) ≡ lock_count es + one_lock (name, v)
locks-put name v es r =
    rw (locks-total (put byte_cmp name v es), locks-total es, stood-locks name (entry_of_key es name)) (total-put one_lock name v es r)

pub stood_locks_within : (name : List ℕ) (es : List Entry) → stood_locks name (entry_of_key es name) ≤ lock_count es
stood_locks_within name es = rw (locks-total es, stood-locks name (entry_of_key es name)) (stood_below one_lock name es)

-- how many values there were at a text
abbrev pub stood_value : Option (Option (List ℕ)) → ℕ
stood_value None = 0
stood_value (Some v) = one_value v

count-total : (es : List Entry) → value_count es ≡ total (λ e. one_value e.1) es
count-total [] = refl
count-total (e ∷ es) = ap (λ (n : ℕ). one_value e.1 + n) (count-total es)

stood-value : (name : List ℕ) (o : Option (Option (List ℕ))) → stood_value o ≡ stood (λ e. one_value e.1) name o
stood-value name None = refl
stood-value name (Some v) = refl

pub count-put : (name : List ℕ) (v : Option (List ℕ)) (es new : List Entry) (stood : Option (Option (List ℕ))) → IsRising es → new ≡ put byte_cmp name v es → stood ≡ entry_of_key es name → value_count new + stood_value stood ≡ value_count es + one_value v
count-put name v es new stood r made is =
    ap (λ (xs : List Entry). value_count xs + stood_value stood) made
    ∙ ap (λ (o : Option (Option (List ℕ))). value_count (put byte_cmp name v es) + stood_value o) is
    ∙ rw (count-total (put byte_cmp name v es), count-total es, stood-value name (entry_of_key es name)) (total-put (λ e. one_value e.1) name v es r)

pub each-put : (name : List ℕ) (v : Option (List ℕ)) (es : List Entry) → IsEntry (name, v) → AllByRecursion IsEntry es → AllByRecursion IsEntry (put byte_cmp name v es)
each-put name v [] one all = (one, tt)
each-put name v (e ∷ es) one all = go (each-put name v es one all.1) (byte_cmp name e.0) refl
  where
    go : AllByRecursion IsEntry (put byte_cmp name v es) → (o : Ordering) → byte_cmp name e.0 ≡ o → AllByRecursion IsEntry (put byte_cmp name v (e ∷ es))
    go h Less p = rw p (one, all)
    go h Equal p = rw p (subst (λ (n : List ℕ). IsEntry (n, v)) (one_text name e.0 p) one, all.1)
    go h Greater p = rw p (all.0, h)

pub each-over : (es base : List Entry) → AllByRecursion IsEntry es → AllByRecursion IsEntry base → AllByRecursion IsEntry (over es base)
each-over [] base h k = k
each-over (e ∷ es) base h k = each-put e.0 e.1 (over es base) h.0 (each-over es base h.1 k)

-- ---- the entries from a place on

pub rising_drop : (i : ℕ) (es : List Entry) → IsRising es → IsRising (drop i es)
rising_drop zero [] r = r
rising_drop (suc i) [] r = r
rising_drop zero (e ∷ es) r = r
rising_drop (suc i) (e ∷ es) r = rising_drop i es (second _ _ r)

pub drop_one : {X : Type 0} (f : X → Entry) (xs : List X) (i : ℕ) (x : X) → i < length xs → x ≡ get_or xs i x → drop i (map f xs) ≡ f x ∷ drop (suc i) (map f xs)
drop_one f [] i x lt g = absurd (omega arith)
drop_one f (y ∷ xs) zero x lt g = ap (λ (z : _). f z ∷ map f xs) (sym g)
drop_one f (y ∷ xs) (suc i) x lt g = drop_one f xs i x (omega arith) g

-- putting the later entries leaves the first one's text as it is in the table
pub stands_alone : (e : Entry) (es base : List Entry) → IsRising (e ∷ es) → entry_of_key (over es base) e.0 ≡ entry_of_key base e.0
stands_alone e es base r = find-over e.0 es base ∙ ap (λ (o : Option (Option (List ℕ))). or_else o (entry_of_key base e.0)) (find_below e.0 es (first _ _ r))
