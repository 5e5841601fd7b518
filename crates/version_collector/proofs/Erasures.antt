-- The edits that erase old versions of a cell, and when nothing is left to erase.
use Rattle.std.proofs.Common.{Bool, true, false, ◌==◌, ◌≡◌, ◌≢◌, ◌∙◌, ◌⊎◌, inl, inr, ℕ, zero, suc, ◌+◌, ◌<◌, ◌≤◌, ◌^◌, List, [], ◌∷◌, ◌++◌, length, take, get_or, Option, Some, None, Result, Ok, Err, IfErr, append_assoc, add-one, refl, sym, ap, subst, arith}
use Rattle.std.proofs.Math.Seq.{take-suc}
use Rattle.std.proofs.lemmas.Bool.{cases_lt, eqb-true}
use Rattle.std.proofs.lemmas.Bool.Decides.{eqb_tells}
use Rattle.std.proofs.lemmas.Option.{none-some, same_Some}
use Rattle.std.specs.List.{AllByRecursion}
use Rattle.std.specs.Result.{IsErrAnd}
use Rattle.std.proofs.ByRecursion.{All-push}
use Rattle.cell_key.specs.Cells.{Cells, IsEditOf}
use Rattle.cell_key.specs.declared.edits.Edit.{Edit}
use Rattle.cell_key.specs.declared.edits.Edit.TheVariants.{Erase}
use Rattle.cell_key.specs.declared.keys.CellKey.{CellKey}
use Rattle.cell_key.specs.declared.keys.Qualifier.{Qualifier}
use Rattle.cell_key.specs.declared.keys.Qualifier.TheVariants.{Data, Write}
use Rattle.cell_key.specs.declared.refusals.Refusal.{Refusal}
use Rattle.cell_key.specs.declared.refusals.Refusal.TheVariants.{Damaged, Device, MemtableFull, NoMemory}
use Rattle.cell_key.specs.Columns.{IsRecordText, record_text, start_text}
use Rattle.cell_key.specs.declared.columns.WriteKind.{WriteKind}
use Rattle.cell_key.specs.declared.columns.WriteKind.TheVariants as write
use Rattle.rows.specs.Refusals.{IsEditRefusal, IsRefusalOfRead}
use Rattle.si_model.specs.Collection.{IsNamed, IsTidy}
use Rattle.si_model.specs.ShowsCells.{IsThere, NamesAt, NamesCommit, at, key_of}
use Rattle.si_model.specs.declared.replies.Cell.{Cell}
use Rattle.si_model.proofs.Bounds.{servers_bounds}
use Rattle.version_collector.specs.Erasing.{Erases, ErasesOrIsTidy, data_erasures, deletion_erasures, record_erasures}
use Rattle.version_collector.specs.Refusals.{IsVisitRefusal}
use Rattle.version_collector.specs.Versions.{AreFound, AreNamedFrom, AreNear, AreShown, AreUnnamed, HasOneRecord, IsLastDeletion}
use Rattle.version_collector.specs.declared.versions.NearStarts.{NearStarts}
use Rattle.version_collector.proofs.Starts.{lone_deletion}

-- ---- edits in sequence

record_erasures_push : (x : Cell) (vs : List (ℕ × ℕ)) (v : ℕ × ℕ) → record_erasures x (vs ++ v ∷ []) ≡ record_erasures x vs ++ Erase (key_of x Write v.0) ∷ Erase (key_of x Data v.1) ∷ []
record_erasures_push x [] v = refl
record_erasures_push x (u ∷ us) v = ap (λ (es : List Edit). Erase (key_of x Write u.0) ∷ Erase (key_of x Data u.1) ∷ es) (record_erasures_push x us v)

data_erasures_push : (x : Cell) (ts : List ℕ) (t : ℕ) → data_erasures x (ts ++ t ∷ []) ≡ data_erasures x ts ++ Erase (key_of x Data t) ∷ []
data_erasures_push x [] t = refl
data_erasures_push x (u ∷ us) t = ap (λ (es : List Edit). Erase (key_of x Data u) ∷ es) (data_erasures_push x us t)

take_more : {A : Type 0} (xs : List A) (i : ℕ) (x : A) → i < length xs → take (i + 1) xs ≡ take i xs ++ (get_or xs i x ∷ [])
take_more xs i x less = ap (λ (n : ℕ). take n xs) (add-one i) ∙ take-suc xs i x less

pub records_next : (x : Cell) (vs : List (ℕ × ℕ)) (i : ℕ) (v : ℕ × ℕ) (before mid after : List Edit) (k l : CellKey) → i < length vs → v ≡ get_or vs i v
    → before ≡ record_erasures x (take i vs) → k ≡ key_of x Write v.0 → l ≡ key_of x Data v.1 → mid ≡ before ++ Erase k ∷ [] → after ≡ mid ++ Erase l ∷ []
    → after ≡ record_erasures x (take (i + 1) vs)
records_next x vs i v before mid after k l less is e k_is l_is first second =
    second ∙ ap (λ (es : List Edit). es ++ Erase l ∷ []) first ∙ append_assoc before (Erase k ∷ []) (Erase l ∷ [])
    ∙ ap (λ (es : List Edit). es ++ Erase k ∷ Erase l ∷ []) e
    ∙ ap (λ (c : CellKey). record_erasures x (take i vs) ++ Erase c ∷ Erase l ∷ []) k_is
    ∙ ap (λ (c : CellKey). record_erasures x (take i vs) ++ Erase (key_of x Write v.0) ∷ Erase c ∷ []) l_is
    ∙ sym (record_erasures_push x (take i vs) v)
    ∙ ap (λ (u : ℕ × ℕ). record_erasures x (take i vs ++ u ∷ [])) is
    ∙ ap (record_erasures x) (sym (take_more vs i v less))

pub data_next : (x : Cell) (ts : List ℕ) (i t : ℕ) (before after : List Edit) (k : CellKey) → i < length ts → t ≡ get_or ts i t
    → before ≡ data_erasures x (take i ts) → k ≡ key_of x Data t → after ≡ before ++ Erase k ∷ [] → after ≡ data_erasures x (take (i + 1) ts)
data_next x ts i t before after k less is e key pushed =
    pushed ∙ ap (λ (es : List Edit). es ++ Erase k ∷ []) e
    ∙ ap (λ (c : CellKey). data_erasures x (take i ts) ++ Erase c ∷ []) key
    ∙ sym (data_erasures_push x (take i ts) t)
    ∙ ap (λ (u : ℕ). data_erasures x (take i ts ++ u ∷ [])) is
    ∙ ap (data_erasures x) (sym (take_more ts i t less))

-- an erasure is an edit of its cell's row
pub erases_in : (x : Cell) (q : Qualifier) (s : ℕ) (k : CellKey) → k ≡ key_of x q s → 1 ≤ s → s < 2 ^ 63 → IsEditOf x.row (Erase k)
erases_in x q s k is from to = subst (λ (c : CellKey). IsEditOf x.row (Erase c)) (sym is) (record { under = refl; from = from; to = to; value = omega arith })

pub under_next : (row : List ℕ) (before after : List Edit) (e : Edit) → AllByRecursion (IsEditOf row) before → IsEditOf row e → after ≡ before ++ e ∷ [] → AllByRecursion (IsEditOf row) after
under_next row before after e all last is = subst (λ (es : List Edit). AllByRecursion (IsEditOf row) es) (sym is) (All-push (IsEditOf row) before e all last)

-- ---- when a cell is tidy

same_or_not : (a b : List ℕ) → (a ≡ b) ⊎ (a ≢ b)
same_or_not [] [] = inl refl
same_or_not [] (y ∷ ys) = inr (λ e. cc)
same_or_not (x ∷ xs) [] = inr (λ e. cc)
same_or_not (x ∷ xs) (y ∷ ys) = elim (eqb_tells x y) [
  | inl head ↦ elim (same_or_not xs ys) [
    | inl tail ↦ inl (ap (λ (n : ℕ). n ∷ xs) head.1 ∙ ap (λ (ns : List ℕ). y ∷ ns) tail)
    | inr other ↦ inr (λ e. other cc)
  ]
  | inr other ↦ inr (λ e. other.1 cc)
]

-- a text either has the start t or not
names_or_not : (t : ℕ) (b : List ℕ) → ((kind : WriteKind) × IsRecordText t kind b) ⊎ ((kind : WriteKind) → ¬ IsRecordText t kind b)
names_or_not t b = elim (same_or_not b (record_text t write.Set)) [
  | inl set ↦ inl (write.Set, inl set)
  | inr not_set ↦ elim (same_or_not b (record_text t write.Delete)) [
    | inl deletion ↦ inl (write.Delete, inl deletion)
    | inr not_deletion ↦ elim (same_or_not b (start_text t)) [
      | inl older ↦ inl (write.Set, inr (refl, older))
      | inr not_older ↦ inr (names_not not_set not_deletion not_older)
    ]
  ]
]
  where
    names_not : b ≢ record_text t write.Set → b ≢ record_text t write.Delete → b ≢ start_text t → (kind : WriteKind) → ¬ IsRecordText t kind b
    names_not not_set not_deletion not_older write.Set (inl e) = not_set e
    names_not not_set not_deletion not_older write.Delete (inl e) = not_deletion e
    names_not not_set not_deletion not_older kind (inr (is, e)) = not_older e

stands_or_not : (o : Option (List ℕ)) (t : ℕ) → ((b : List ℕ) × (kind : WriteKind) × (o ≡ Some b) × IsRecordText t kind b) ⊎ ((b : List ℕ) (kind : WriteKind) → o ≡ Some b → ¬ IsRecordText t kind b)
stands_or_not None t = inr (λ b kind e is. none-some b e)
stands_or_not (Some a) t = elim (names_or_not t a) [
  | inl named ↦ inl (a, named.0, refl, named.1)
  | inr not ↦ inr (λ b kind e is. not kind (subst (λ (bs : List ℕ). IsRecordText t kind bs) (sym (same_Some a b e)) is))
]

-- a record below a stamp names t, or none does
named_below : (cells : Cells) (x : Cell) (t n : ℕ) → IsNamed cells x t ⊎ ((c : ℕ) → c < n → ¬ NamesAt cells x c t)
named_below cells x t zero = inr (λ c less. absurd (omega (arith, less)))
named_below cells x t (suc n) = elim (named_below cells x t n) [
  | inl found ↦ inl found
  | inr none ↦ elim (stands_or_not (at cells x Write n) t) [
    | inl is ↦ inl (n, is)
    | inr other ↦ inr (λ c less. elim (cases_lt c n) [
      | inl below ↦ none c below
      | inr most ↦ let same : n ≡ c = omega (arith, less, most) in subst (λ (k : ℕ). ¬ NamesAt cells x k t) same (λ named. other named.0 named.1 named.2 named.3)
    ])
  ]
]

tidy_below : (cells : Cells) (x : Cell) (floor top : ℕ) → ((c : ℕ) (b : List ℕ) → at cells x Write c ≡ Some b → c < top) → AreUnnamed cells x floor [] → IsLastDeletion cells x floor None
    → IsTidy cells x floor
tidy_below cells x floor top low none not_deleted = record {
  one = none.one;
  named = λ t less stands. elim (named_below cells x t top) [
    | inl found ↦ found
    | inr other ↦ absurd (elim (none.starts.rest t (less, stands, λ n. other n.0 (low n.0 n.1.0 n.1.2) n.1)) [
      | inl i ↦ elim i [ ]
      | inr full ↦ let e = full.0 in omega arith
    ])
  ];
  lasting = λ c t less e. not_deleted c t (record { there = (record_text t write.Delete, e); low = less; last = at_most c t less e }) e;
}
  where
    at_most : (c t : ℕ) → c ≤ floor → at cells x Write c ≡ Some (record_text t write.Delete) → (d : ℕ) → d ≤ floor → IsThere cells x Write d → d ≤ c
    at_most c t less e d most stands = let same = none.one d c most less stands (record_text t write.Delete, e) in omega arith

shown_low : (cells : Cells) → AreShown cells → (x : Cell) (c : ℕ) (b : List ℕ) → at cells x Write c ≡ Some b → c < 2 ^ 63
shown_low cells (st, reached, shown) x c b stands =
    let k : NamesCommit cells st x c b = shown.records x c b stands in
    let last = (servers_bounds reached).commit_to k.commit k.is_in in
    let same = k.stamp in
    omega arith

-- a record names t, or none does
pub named_or_not : (cells : Cells) → AreShown cells → (x : Cell) (t : ℕ) → IsNamed cells x t ⊎ (¬ IsNamed cells x t)
named_or_not cells shown x t = elim (named_below cells x t (2 ^ 63)) [
  | inl found ↦ inl found
  | inr none ↦ inr (λ n. none n.0 (shown_low cells shown x n.0 n.1.0 n.1.2) n.1)
]

tidy_where_none : (cells : Cells) → AreShown cells → (x : Cell) (floor : ℕ) → AreUnnamed cells x floor [] → IsLastDeletion cells x floor None → IsTidy cells x floor
tidy_where_none cells shown x floor none not_deleted = tidy_below cells x floor (2 ^ 63) (shown_low cells shown x) none not_deleted

-- ---- the effects of the edits

pub erases_records : (Holds : Type 0) (cells : Cells) (x : Cell) (floor : ℕ) (vs : List (ℕ × ℕ)) (edits : List Edit) → vs ≢ [] → edits ≡ record_erasures x vs → length vs ≤ 128
    → (Holds → AreShown cells → AreFound cells x floor vs) → ErasesOrIsTidy Holds cells x floor edits
erases_records Holds cells x floor [] edits some are few found = absurd (some refl)
erases_records Holds cells x floor (v ∷ vs) edits some are few found = subst (ErasesOrIsTidy Holds cells x floor) (sym are) (inl (record { vs = v ∷ vs; are = refl; some = some; few = few; old = found }))

-- data that no record names, if there are no old records
pub unnamed_where_none : (Holds : Type 0) (cells : Cells) (x : Cell) (floor : ℕ) (vs : List (ℕ × ℕ)) (ts : List ℕ) → vs ≡ [] → (Holds → AreShown cells → AreFound cells x floor vs)
    → (Holds → AreShown cells → HasOneRecord cells x floor → AreUnnamed cells x floor ts) → Holds → AreShown cells → AreUnnamed cells x floor ts
unnamed_where_none Holds cells x floor vs ts none first then held shown = then held shown (subst (AreFound cells x floor) none (first held shown))

pub erases_data : (Holds : Type 0) (cells : Cells) (x : Cell) (floor : ℕ) (ts : List ℕ) (edits : List Edit) → ts ≢ [] → edits ≡ data_erasures x ts → length ts ≤ 256
    → (Holds → AreShown cells → AreUnnamed cells x floor ts) → ErasesOrIsTidy Holds cells x floor edits
erases_data Holds cells x floor [] edits some are few found = absurd (some refl)
erases_data Holds cells x floor (t ∷ ts) edits some are few found =
    subst (ErasesOrIsTidy Holds cells x floor) (sym are) (inr (inl (record { ts = t ∷ ts; are = refl; some = some; few = few; unnamed = found })))

erases_deletion_of : (Holds : Type 0) (cells : Cells) (x : Cell) (floor : ℕ) (deletion : Option ℕ) → (Holds → AreShown cells → AreUnnamed cells x floor [])
    → (Holds → AreShown cells → IsLastDeletion cells x floor deletion) → ErasesOrIsTidy Holds cells x floor (deletion_erasures x deletion)
erases_deletion_of Holds cells x floor None none found = λ held shown. tidy_where_none cells shown x floor (none held shown) (found held shown)
erases_deletion_of Holds cells x floor (Some c) none found = inr (inr (record { c = c; are = refl; lone = λ held shown. lone_deletion cells x floor c (none held shown) (found held shown) }))

pub erases_deletion : (Holds : Type 0) (cells : Cells) (x : Cell) (floor : ℕ) (ts : List ℕ) (deletion : Option ℕ) (edits : List Edit) → ts ≡ [] → edits ≡ deletion_erasures x deletion
    → (Holds → AreShown cells → AreUnnamed cells x floor ts) → (Holds → AreShown cells → IsLastDeletion cells x floor deletion) → ErasesOrIsTidy Holds cells x floor edits
erases_deletion Holds cells x floor ts deletion edits none are first found =
    subst (ErasesOrIsTidy Holds cells x floor) (sym are)
    (erases_deletion_of Holds cells x floor deletion (λ held shown. subst (AreUnnamed cells x floor) none (first held shown)) found)

pub erases_some : (Holds : Type 0) (cells : Cells) (x : Cell) (floor : ℕ) (edits : List Edit) → edits ≢ [] → ErasesOrIsTidy Holds cells x floor edits → Erases Holds cells x floor edits
erases_some Holds cells x floor [] some erases = absurd (some refl)
erases_some Holds cells x floor (e ∷ es) some erases = erases

pub tidy_where_empty : (Holds : Type 0) (cells : Cells) (x : Cell) (floor : ℕ) (edits : List Edit) → edits ≡ [] → ErasesOrIsTidy Holds cells x floor edits → Holds → AreShown cells → IsTidy cells x floor
tidy_where_empty Holds cells x floor edits none erases = subst (ErasesOrIsTidy Holds cells x floor) none erases

-- ---- the answer

not_true : false ≡ true → ⊥
not_true e = cc

pub empty_list : {A : Type 0} (xs : List A) (n : ℕ) (b : Bool) → n ≡ length xs → b ≡ (n == 0) → b ≡ true → xs ≡ []
empty_list [] n b len is e = refl
empty_list (x ∷ xs) n b len is e = absurd (let zero_is : n ≡ 0 = eqb-true n 0 (sym is ∙ e) in let more : n ≡ suc (length xs) = len in omega arith)

pub some_list : {A : Type 0} (xs : List A) (n : ℕ) (b : Bool) → n ≡ length xs → b ≡ (n == 0) → b ≡ false → xs ≢ []
some_list xs n b len is e none = not_true (sym e ∙ (is ∙ ap (λ (m : ℕ). m == 0) (len ∙ ap (λ ys. length ys) none)))

-- the result after reads that left the cells unchanged
pub last_after : (Before Now : Type 0) (old new : Cells) (x : Cell) (floor : ℕ) (deletion : Option ℕ) → (Before → Now) → new ≡ old
    → (Now → AreShown new → IsLastDeletion new x floor deletion) → Before → AreShown old → IsLastDeletion old x floor deletion
last_after Before Now old new x floor deletion still kept found held shown =
    subst (λ (cs : Cells). IsLastDeletion cs x floor deletion) kept (found (still held) (subst AreShown (sym kept) shown))

pub found_after : (Before Now : Type 0) (old new : Cells) (x : Cell) (floor from : ℕ) (near : NearStarts) (ts : List ℕ) → (Before → Now) → new ≡ old → (Before → AreNear old x floor near) → (Before → AreNamedFrom old x floor from)
    → (Now → AreShown new → HasOneRecord new x floor → AreNear new x floor near → AreNamedFrom new x floor from → AreUnnamed new x floor ts) → Before → AreShown old → HasOneRecord old x floor → AreUnnamed old x floor ts
found_after Before Now old new x floor from near ts still kept are named found held shown one =
    subst (λ (cs : Cells). AreUnnamed cs x floor ts) kept
    (found (still held) (subst AreShown (sym kept) shown) (subst (λ (cs : Cells). HasOneRecord cs x floor) (sym kept) one)
    (subst (λ (cs : Cells). AreNear cs x floor near) (sym kept) (are held)) (subst (λ (cs : Cells). AreNamedFrom cs x floor from) (sym kept) (named held)))

-- ---- refusals

is_visit_refusal : (Holds : Type 0) (e : Refusal) → IsRefusalOfRead Holds e → IsVisitRefusal e
is_visit_refusal H Device u = tt
is_visit_refusal H NoMemory u = tt
is_visit_refusal H Damaged u = tt
is_visit_refusal H _ u = absurd u

is_visit_refusal_of_apply : (e : Refusal) → IsEditRefusal e → IsVisitRefusal e
is_visit_refusal_of_apply MemtableFull u = tt
is_visit_refusal_of_apply Device u = tt
is_visit_refusal_of_apply NoMemory u = tt
is_visit_refusal_of_apply _ u = absurd u

pub read_refused : {B : Type 0} (Holds : Type 0) (r : Result B Refusal) (e : Refusal) → IsErrAnd r (λ f. f ≡ e) → IsRefusalOfRead Holds e → IfErr r IsVisitRefusal
read_refused H (Ok x) e by u = tt
read_refused H (Err f) e by u = subst IsVisitRefusal (sym by) (is_visit_refusal H e u)

pub apply_refused : {B : Type 0} (r : Result B Refusal) (e : Refusal) → IsErrAnd r (λ f. f ≡ e) → IsEditRefusal e → IfErr r IsVisitRefusal
apply_refused (Ok x) e by u = tt
apply_refused (Err f) e by u = subst IsVisitRefusal (sym by) (is_visit_refusal_of_apply e u)

pub not_full : (Holds : Type 0) (e : Refusal) → IsRefusalOfRead Holds e → e ≢ MemtableFull
not_full H MemtableFull u same = u
not_full H _ u same = cc

pub apply_undamaged : (e : Refusal) → IsEditRefusal e → e ≢ Damaged
apply_undamaged Damaged u same = u
apply_undamaged _ u same = cc
