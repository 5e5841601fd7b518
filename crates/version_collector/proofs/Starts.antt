-- The records and the data of a cell in a shown reached state: the starts that its records name, and the result of a
-- search from above.
use Rattle.std.proofs.Common.{◌≡◌, ◌≢◌, ℕ, zero, suc, ◌+◌, ◌-◌, ◌<◌, ◌≤◌, ◌^◌, inl, inr, List, [], ◌∷◌, ◌++◌, length, map, Option, Some, None, Result, Ok, Err, IfErr, IfOk, refl, sym, ap, subst, ◌∙◌, arith}
use Rattle.std.proofs.lemmas.Bool.{cases_lt}
use Rattle.std.proofs.lemmas.List.{map-append}
use Rattle.std.proofs.lemmas.Option.{none-some, same_Some}
use Rattle.std.specs.Prelude.{IfNone, IfSome, option_map}
use Rattle.std.specs.declared.vec.Vec.{Vec}
use Rattle.cell_key.specs.Cells.{Cells, IsNewest}
use Rattle.cell_key.specs.declared.keys.Qualifier.TheVariants.{Data, Write}
use Rattle.cell_key.specs.Moments.{IsMoment}
use Rattle.cell_key.specs.Versions.{stamped}
use Rattle.cell_key.specs.declared.keys.CellKey.{CellKey}
use Rattle.cell_key.specs.declared.keys.Qualifier.{Qualifier}
use Rattle.cell_key.specs.declared.refusals.Refusal.{Refusal}
use Rattle.cell_key.specs.Columns.{IsRecordText, NamesStart, NamesWrite, record_text}
use Rattle.cell_key.proofs.RecordTexts.{names_of, one_write, same_write}
use Rattle.cell_key.specs.declared.columns.WriteKind.{WriteKind}
use Rattle.cell_key.specs.declared.columns.WriteKind.TheVariants as write
use Rattle.rows.specs.Calls.{OnlyReads, View}
use Rattle.rows.specs.Oldest.{IsOldest}
use Rattle.rows.proofs.Halves.{at_none, at_some}
use Rattle.si_model.specs.Collection.{IsNamed, IsOld}
use Rattle.si_model.specs.Sets.{◌∈◌}
use Rattle.si_model.specs.ShowsCells.{IsThere, NamesAt, NamesCommit, at, key_of, kind_of_change}
use Rattle.si_model.specs.declared.replies.Cell.{Cell}
use Rattle.si_model.proofs.Bounds.{servers_bounds}
use Rattle.si_model.proofs.CleanerFates.{names_nearest}
use Rattle.si_model.proofs.Steps.{servers_sound}
use Rattle.rows.specs.Reads.{AreNewestFirst}
use Rattle.version_collector.specs.Versions.{AreFound, AreGreatest, AreNamedFrom, AreNear, AreShown, AreUnnamed, HasNoOldFrom, HasOneRecord, IsAmong, IsLastDeletion, IsLastRecord, IsLatestBelow, IsLoneDeletion, IsNamedBy, IsUnnamed, NamesLast, NamesNext, NamesNone}
use Rattle.version_collector.specs.declared.versions.NearStarts.{NearStarts}
use Rattle.version_collector.proofs.Greatest.{AreAll, all_more, all_none, all_past, greatest_all, greatest_full, in_last, length-last}

-- ---- the starts in records

-- the start in a record's text, and the record's stamp, are within the limits of stamps
record IsRecord (c : ℕ) (b : List ℕ) : Type 0 where
  start : ℕ
  kind : WriteKind
  from : 1 ≤ start
  to : start < 2 ^ 63
  text : IsRecordText start kind b
  stamp : c < 2 ^ 63

shown_record : (cells : Cells) → AreShown cells → (x : Cell) (c : ℕ) (b : List ℕ) → at cells x Write c ≡ Some b → IsRecord c b
shown_record cells (st, reached, shown) x c b there =
    let k : NamesCommit cells st x c b = shown.records x c b there in
    let wrote = ((servers_sound reached).fair k.commit k.is_in).wrote in
    let from = (servers_bounds reached).start_from k.commit.start k.commit.writes wrote in
    let to = (servers_bounds reached).start_to k.commit.start k.commit.writes wrote in
    let last = (servers_bounds reached).commit_to k.commit k.is_in in
    let same = k.stamp in
    record { start = k.commit.start; kind = kind_of_change k.change; from = from; to = to; text = k.is_text; stamp = omega arith }

-- a record's text is decoded to its start and kind
text_read : (b : List ℕ) (t : ℕ) (kind : WriteKind) → IsRecordText t kind b → t < 2 ^ 63 → NamesWrite b t kind
text_read b t kind is low = names_of t kind b (omega arith) is

-- and has one start, and one kind
read_text : (b : List ℕ) (t u : ℕ) (kind read : WriteKind) → IsRecordText t kind b → t < 2 ^ 63 → NamesWrite b u read → (t ≡ u) × (kind ≡ read)
read_text b t u kind read is low names = one_write b t u kind read (text_read b t kind is low) names

-- a record that names t has its text
pub named_text : (cells : Cells) → AreShown cells → (x : Cell) (c t : ℕ) (b : List ℕ) → at cells x Write c ≡ Some b → NamesStart b t → NamesAt cells x c t × (t < 2 ^ 63)
named_text cells shown x c t b there (read, names) =
    let r : IsRecord c b = shown_record cells shown x c b there in
    let low = r.to in
    let same : r.start ≡ t = (read_text b r.start t r.kind read r.text r.to names).0 in
    ((b, r.kind, there, subst (λ (u : ℕ). IsRecordText u r.kind b) same r.text), omega arith)

pub one_start : (b : List ℕ) (t u : ℕ) (kind : WriteKind) → NamesWrite b t kind → NamesStart b u → t ≡ u
one_start b t u kind first second = (one_write b t u kind second.0 first second.1).0

-- so each shown record names a start
pub not_damaged : (cells : Cells) (x : Cell) (c : ℕ) (b : List ℕ) → at cells x Write c ≡ Some b → ((t : ℕ) → 1 ≤ t → t < 2 ^ 63 → ¬ NamesStart b t) → ¬ AreShown cells
not_damaged cells x c b there none shown =
    let r : IsRecord c b = shown_record cells shown x c b there in
    none r.start r.from r.to (r.kind, text_read b r.start r.kind r.text r.to)

-- ---- old records

-- all records from this stamp on that are older than the newest one at or below the floor
pub record AreOldFrom (cells : Cells) (x : Cell) (floor below : ℕ) (vs : List (ℕ × ℕ)) : Type 0 where
  pub w : ℕ
  pub kept : IsLastRecord cells x floor w
  pub low : below ≤ w
  pub stamps : AreAll (λ c. IsThere cells x Write c × (c < w)) below (map (λ v. v.0) vs)
  pub named : (v : ℕ × ℕ) → v ∈ vs → IsOld cells x w v

last_record : (cells : Cells) (x : Cell) (floor w : ℕ) (b : List ℕ) → IsNewest cells (key_of x Write) 0 floor (Some (w, b)) → IsLastRecord cells x floor w
last_record cells x floor w b (low, high, is, last) = record {
  there = (b, is);
  low = high;
  last = λ c most there. elim (cases_lt w c) [
    | inl less ↦ absurd (none-some there.0 (sym (last c less most) ∙ there.1))
    | inr more ↦ more
  ];
}

-- no older record has a stamp from `below` on
pub old_begin : (cells : Cells) (x : Cell) (floor from below w : ℕ) (b : List ℕ) → HasNoOldFrom cells x floor from → IsNewest cells (key_of x Write) 0 floor (Some (w, b)) → below ≤ w
    → ((s : ℕ) → below ≤ s → s < w → from ≤ s) → AreOldFrom cells x floor below []
old_begin cells x floor from below w b none newest low least = record {
  w = w;
  kept = kept;
  low = low;
  stamps = all_none (λ c. IsThere cells x Write c × (c < w)) below (λ s so. elim (cases_lt s below) [
    | inl less ↦ less
    | inr more ↦ absurd (none s w (least s more so.1) so.1 kept.low so.0 kept.there)
  ]);
  named = λ v i. elim i [ ];
}
  where
    kept : IsLastRecord cells x floor w
    kept = last_record cells x floor w b newest

pub old_more : (cells : Cells) → AreShown cells → (x : Cell) (floor below c t : ℕ) (b : List ℕ) (vs : List (ℕ × ℕ)) → AreOldFrom cells x floor below vs
    → IsLatestBelow cells x Write below (Some (c, b)) → NamesStart b t → AreOldFrom cells x floor c (vs ++ (c, t) ∷ [])
old_more cells shown x floor below c t b vs old (less, there, last) names = record {
  w = old.w;
  kept = old.kept;
  low = let low = old.low in omega arith;
  stamps = subst (AreAll (λ s. IsThere cells x Write s × (s < old.w)) c) (sym (map-append (λ (v : ℕ × ℕ). v.0) vs ((c, t) ∷ [])))
      (all_more (λ s. IsThere cells x Write s × (s < old.w)) below c (map (λ v. v.0) vs) old.stamps less ((b, there), older) (λ u more under is. none-some is.0.0 (sym (last u more under) ∙ is.0.1)));
  named = λ v i. elim (in_last vs (c, t) v i) [
    | inl before ↦ old.named v before
    | inr same ↦ subst (IsOld cells x old.w) (sym same) (record { there = text.0; older = older; low = let to = text.1 in omega arith })
  ];
}
  where
    older : c < old.w
    older = let low = old.low in omega arith

    text : NamesAt cells x c t × (t < 2 ^ 63)
    text = named_text cells shown x c t b there names

one_record : (cells : Cells) (x : Cell) (floor w : ℕ) → IsLastRecord cells x floor w → ((c : ℕ) → IsThere cells x Write c → c < w → ⊥) → HasOneRecord cells x floor
one_record cells x floor w kept none c d low_c low_d there_c there_d = at_w c low_c there_c ∙ sym (at_w d low_d there_d)
  where
    at_w : (e : ℕ) → e ≤ floor → IsThere cells x Write e → e ≡ w
    at_w e low there = elim (cases_lt e w) [
      | inl less ↦ absurd (none e there less)
      | inr most ↦ let last = kept.last e low there in omega arith
    ]

pub found_none : (cells : Cells) (x : Cell) (floor : ℕ) → IsNewest cells (key_of x Write) 0 floor None → AreFound cells x floor []
found_none cells x floor none = λ c d low_c low_d there_c there_d. absurd (none-some there_c.0 (sym (none c (omega arith) low_c) ∙ there_c.1))

old_are : (cells : Cells) (x : Cell) (floor below : ℕ) (vs : List (ℕ × ℕ)) (old : AreOldFrom cells x floor below vs)
    → AreGreatest 128 (λ c. IsThere cells x Write c × (c < old.w)) (map (λ v. v.0) vs) → AreFound cells x floor vs
old_are cells x floor below [] old greatest = one_record cells x floor old.w old.kept (λ c there less. elim (greatest.rest c (there, less)) [
  | inl i ↦ elim i [ ]
  | inr full ↦ absurd (let e = full.0 in omega arith)
])
old_are cells x floor below (v ∷ vs) old greatest = record { w = old.w; kept = old.kept; stamps = greatest; named = old.named }

length-map : (vs : List (ℕ × ℕ)) → length (map (λ v. v.0) vs) ≡ length vs
length-map [] = refl
length-map (v ∷ vs) = ap suc (length-map vs)

pub old_all : (cells : Cells) (x : Cell) (floor below : ℕ) (vs : List (ℕ × ℕ)) → AreOldFrom cells x floor below vs → length vs ≤ 128
    → IsLatestBelow cells x Write below None → AreFound cells x floor vs
old_all cells x floor below vs old few none = old_are cells x floor below vs old
    (greatest_all 128 (λ c. IsThere cells x Write c × (c < old.w)) below (map (λ v. v.0) vs) old.stamps (let e = length-map vs in omega arith)
    (λ u less is. none-some is.0.0 (sym (none u less) ∙ is.0.1)))

pub old_full : (cells : Cells) (x : Cell) (floor below : ℕ) (vs : List (ℕ × ℕ)) → AreOldFrom cells x floor below vs → length vs ≡ 128 → AreFound cells x floor vs
old_full cells x floor below vs old full = old_are cells x floor below vs old
    (greatest_full 128 (λ c. IsThere cells x Write c × (c < old.w)) below (map (λ v. v.0) vs) old.stamps (length-map vs ∙ full))

-- the newest of the remaining versions
pub latest_left : (cells : Cells) (x : Cell) (q : Qualifier) (below most : ℕ) (v : ℕ × List ℕ) (vs : List (ℕ × List ℕ)) → 1 ≤ below → AreNewestFirst cells (key_of x q) (below - 1) most (v ∷ vs) → IsLatestBelow cells x q below (Some v)
latest_left cells x q below most v vs from (some, (low, high, there, above), one, rest) = (omega (arith, high), there, λ s up less. above s up (omega arith))

-- old records were found, if none was left from a stamp on, and these versions remain
pub record HasOlder (cells : Cells) (x : Cell) (floor from : ℕ) (vs : List (ℕ × ℕ)) (left : List (ℕ × List ℕ)) : Type 0 where
  pub below : ℕ
  pub some : 1 ≤ below
  pub old : HasNoOldFrom cells x floor from → AreOldFrom cells x floor below vs
  pub rest : AreNewestFirst cells (key_of x Write) (below - 1) (128 - length vs) left

pub older_begin : (cells : Cells) (x : Cell) (floor from below w : ℕ) (b : List ℕ) (left : List (ℕ × List ℕ)) → IsNewest cells (key_of x Write) 0 floor (Some (w, b)) → 1 ≤ w → below ≤ w
    → ((s : ℕ) → below ≤ s → s < w → from ≤ s) → AreNewestFirst cells (key_of x Write) (below - 1) 128 left → HasOlder cells x floor from [] left
older_begin cells x floor from zero w b left newest one low least rest = record {
  below = 1;
  some = omega arith;
  old = λ none. old_begin cells x floor from 1 w b none newest one (λ s more less. least s (omega arith) less);
  rest = rest;
}
older_begin cells x floor from (suc n) w b left newest one low least rest = record {
  below = suc n;
  some = omega arith;
  old = λ none. old_begin cells x floor from (suc n) w b none newest low least;
  rest = rest;
}

pub older_there : (cells : Cells) (x : Cell) (floor from c : ℕ) (b : List ℕ) (vs : List (ℕ × ℕ)) (left : List (ℕ × List ℕ)) → HasOlder cells x floor from vs ((c, b) ∷ left) → at cells x Write c ≡ Some b
older_there cells x floor from c b vs left h = (latest_left cells x Write h.below (128 - length vs) (c, b) left h.some h.rest).1

pub older_more : (cells : Cells) → AreShown cells → (x : Cell) (floor from c t : ℕ) (b : List ℕ) (vs : List (ℕ × ℕ)) (left : List (ℕ × List ℕ)) → HasOlder cells x floor from vs ((c, b) ∷ left) → NamesStart b t
    → HasOlder cells x floor from (vs ++ (c, t) ∷ []) left
older_more cells shown x floor from c t b vs left h names = record {
  below = c;
  some = h.rest.2;
  old = λ none. old_more cells shown x floor h.below c t b vs (h.old none) (latest_left cells x Write h.below (128 - length vs) (c, b) left h.some h.rest) names;
  rest = subst (λ (n : ℕ). AreNewestFirst cells (key_of x Write) (c - 1) n left) fewer h.rest.3;
}
  where
    fewer : 128 - length vs - 1 ≡ 128 - length (vs ++ (c, t) ∷ [])
    fewer = let longer = length-last vs (c, t) in omega (arith, longer)

pub older_end : (cells : Cells) (x : Cell) (floor from : ℕ) (vs : List (ℕ × ℕ)) → length vs ≤ 128 → HasOlder cells x floor from vs [] → HasNoOldFrom cells x floor from → AreFound cells x floor vs
older_end cells x floor from vs few h clear = elim (cases_lt (length vs) 128) [
  | inl less ↦ let none = h.rest (omega arith) in let some = h.some in old_all cells x floor h.below vs (h.old clear) few (λ s under. none s (omega arith) (omega arith))
  | inr most ↦ old_full cells x floor h.below vs (h.old clear) (omega arith)
]

pub nothing_left : {A : Type 0} (xs : List A) → length xs ≡ 0 → xs ≡ []
nothing_left [] none = refl
nothing_left (x ∷ xs) none = absurd (omega (arith, none))

-- if fewer are found than were asked for, none remain
pub all_newest : (cells : Cells) (at : ℕ → CellKey) (hi n most : ℕ) (vs : List (ℕ × List ℕ)) → AreNewestFirst cells at hi n vs → length vs < n → n ≤ most → AreNewestFirst cells at hi most vs
all_newest cells at hi n most [] h few fits = λ _. h (omega (arith, few))
all_newest cells at hi n most (v ∷ vs) h few fits = (omega (arith, few, fits), h.1, h.2, all_newest cells at (v.0 - 1) (n - 1) (most - 1) vs h.3 (omega (arith, few)) (omega (arith, fits)))

-- the result after reads that changed nothing
pub newest_then : {R : Type 0} {Z : Type 0} {seen : View R} {a b : R} (x : Cell) (floor most : ℕ) → OnlyReads seen a b → seen.readable a x.row
    → (r : Result (Vec (ℕ × Vec ℕ Z) Z) Refusal) → (seen.readable b x.row → IfOk r (λ found. AreNewestFirst (seen.cells b) (key_of x Write) floor most (map stamped found.items)))
    → IfOk r (λ found. AreNewestFirst (seen.cells a) (key_of x Write) floor most (map stamped found.items))
newest_then {seen = seen} x floor most reads held (Ok found) h = subst (λ (cs : Cells). AreNewestFirst cs (key_of x Write) floor most (map stamped found.items)) reads.kept (h (reads.readable x.row held))
newest_then x floor most reads held (Err e) h = tt

-- the same for decoded versions
pub older_none : {Z : Type 0} (cells : Cells) (x : Cell) (floor : ℕ) (found : Option (ℕ × Vec ℕ Z)) → found ≡ None → IsNewest cells (key_of x Write) 0 floor (option_map stamped found) → AreFound cells x floor []
older_none {Z} cells x floor found is newest = found_none cells x floor (at_none (IsNewest cells (key_of x Write) 0 floor) found is newest)

pub older_next : {Z : Type 0} (cells : Cells) (x : Cell) (floor from : ℕ) (vs : List (ℕ × ℕ)) (left after : List (ℕ × Vec ℕ Z)) (v : ℕ × Vec ℕ Z) → left ≡ v ∷ after → HasOlder cells x floor from vs (map stamped left)
    → HasOlder cells x floor from vs ((v.0, v.1.items) ∷ map stamped after)
older_next {Z} cells x floor from vs left after v is h = subst (λ (rs : List (ℕ × Vec ℕ Z)). HasOlder cells x floor from vs (map stamped rs)) is h

pub older_last : {Z : Type 0} (cells : Cells) (x : Cell) (floor from : ℕ) (vs : List (ℕ × ℕ)) (left : List (ℕ × Vec ℕ Z)) → left ≡ [] → length vs ≤ 128 → HasOlder cells x floor from vs (map stamped left)
    → HasNoOldFrom cells x floor from → AreFound cells x floor vs
older_last {Z} cells x floor from vs left is few h = older_end cells x floor from vs few (subst (λ (rs : List (ℕ × Vec ℕ Z)). HasOlder cells x floor from vs (map stamped rs)) is h)

-- ---- data that no record names

module _ (cells : Cells) (shown : AreShown cells) (x : Cell) (floor : ℕ) where
  named_one : (found : Option (ℕ × List ℕ)) (start : Option ℕ) (t : ℕ) → IsNamedBy found start → start ≡ Some t → (c : ℕ) × (b : List ℕ) × (found ≡ Some (c, b)) × NamesStart b t
  named_one None None t by e = absurd (none-some t e)
  named_one (Some (c, b)) None t by e = absurd by
  named_one None (Some s) t by e = absurd by
  named_one (Some (c, b)) (Some s) t by e = (c, b, refl, subst (λ (u : ℕ). NamesStart b u) (same_Some s t e) by)

  -- a start that either names is named
  last_named : (start : Option ℕ) (t : ℕ) → NamesLast cells x floor start → start ≡ Some t → IsNamed cells x t
  last_named start t (last, newest, by) e =
      let n = named_one last start t by e in
      let is = subst (IsNewest cells (key_of x Write) 0 floor) n.2 newest in
      (n.0, (named_text cells shown x n.0 t n.1 is.2 n.3).0)

  next_named : (start : Option ℕ) (t : ℕ) → NamesNext cells x floor start → start ≡ Some t → IsNamed cells x t
  next_named start t (next, oldest, by) e =
      let n = named_one next start t by e in
      let is = subst (IsOldest cells (key_of x Write) (floor + 1) (2 ^ 64 - 1)) n.2 oldest in
      (n.0, (named_text cells shown x n.0 t n.1 is.2 n.3).0)

  pub among_named : (near : NearStarts) (t : ℕ) → AreNear cells x floor near → IsAmong t near → IsNamed cells x t
  among_named near t are is = elim is [
    | inl e ↦ last_named near.last t are.last e
    | inr e ↦ next_named near.next t are.next e
  ]

module _ (cells : Cells) (shown : AreShown cells) (x : Cell) (floor : ℕ) (one : HasOneRecord cells x floor) where
  names_it : (c t : ℕ) (b : List ℕ) (start : Option ℕ) → IsNamedBy (Some (c, b)) start → at cells x Write c ≡ Some b → NamesAt cells x c t → t < 2 ^ 63 → start ≡ Some t
  names_it c t b None by there named low = absurd by
  names_it c t b (Some s) by there (text, kind, named, is) low =
      let e : text ≡ b = same_Some text b (sym named ∙ there) in
      ap (λ (n : ℕ). Some n) (sym (read_text b t s kind by.0 (subst (λ (bs : List ℕ). IsRecordText t kind bs) e is) low by.1).0)

  -- and no other start below the floor is named
  last_names : (last : Option (ℕ × List ℕ)) (start : Option ℕ) (t c : ℕ) → IsNewest cells (key_of x Write) 0 floor last → IsNamedBy last start
      → c ≤ floor → NamesAt cells x c t → t < 2 ^ 63 → start ≡ Some t
  last_names None start t c none by most named low = absurd (none-some named.0 (sym (none c (omega arith) most) ∙ named.2))
  last_names (Some (w, b)) start t c (from, to, is, last) by most named low =
      let same : c ≡ w = one c w most to (named.0, named.2) (b, is) in
      names_it w t b start by is (subst (λ (n : ℕ). NamesAt cells x n t) same named) low

  next_names : (next : Option (ℕ × List ℕ)) (start : Option ℕ) (t c : ℕ) → IsOldest cells (key_of x Write) (floor + 1) (2 ^ 64 - 1) next → IsNamedBy next start
      → t < floor → floor < c → NamesAt cells x c t → c < 2 ^ 63 → t < 2 ^ 63 → start ≡ Some t
  next_names None start t c none by below above named top low = absurd (none-some named.0 (sym (none c (omega arith) (omega arith)) ∙ named.2))
  next_names (Some (d, b)) start t c (from, to, is, before) by below above named top low = names_it d t b start by is (subst (λ (n : ℕ). NamesAt cells x n t) same named) low
    where
      least : c ≤ d
      least = names_nearest cells shown.0 shown.1 shown.2 x t c d (omega arith) named (omega arith) (b, is)

      same : c ≡ d
      same = elim (cases_lt c d) [
        | inl less ↦ absurd (none-some named.0 (sym (before c (omega arith) less) ∙ named.2))
        | inr most ↦ omega (arith, least)
      ]

  pub named_among : (near : NearStarts) (t : ℕ) → AreNear cells x floor near → t < floor → t < 2 ^ 63 → IsNamed cells x t → IsAmong t near
  named_among near t are below low (c, named) = elim (cases_lt floor c) [
    | inl above ↦ inr (next_names are.next.0 near.next t c are.next.1 are.next.2 below above named (shown_record cells shown x c named.0 named.2).stamp low)
    | inr most ↦ inl (last_names are.last.0 near.last t c are.last.1 are.last.2 most named low)
  ]

-- data from this stamp on that no record names
pub data_begin : (cells : Cells) (x : Cell) (floor from below : ℕ) → AreNamedFrom cells x floor from → ((s : ℕ) → below ≤ s → s < floor → from ≤ s) → AreAll (IsUnnamed cells x floor) below []
data_begin cells x floor from below named least = all_none (IsUnnamed cells x floor) below (λ s so. elim (cases_lt s below) [
  | inl less ↦ less
  | inr more ↦ absurd (so.2 (named s (least s more so.0) so.0 so.1))
])

data_only : (cells : Cells) (x : Cell) (floor below t u : ℕ) (b : List ℕ) → IsLatestBelow cells x Data below (Some (t, b)) → t < u → u < below → ¬ IsUnnamed cells x floor u
data_only cells x floor below t u b (less, there, last) more under is = none-some is.1.0 (sym (last u more under) ∙ is.1.1)

pub data_more : (cells : Cells) (x : Cell) (floor below t : ℕ) (b : List ℕ) (ts : List ℕ) → AreAll (IsUnnamed cells x floor) below ts → below ≤ floor
    → IsLatestBelow cells x Data below (Some (t, b)) → ¬ IsNamed cells x t → AreAll (IsUnnamed cells x floor) t (ts ++ t ∷ [])
data_more cells x floor below t b ts all low latest not_named =
    let less = latest.0 in
    all_more (IsUnnamed cells x floor) below t ts all less (omega arith, (b, latest.1), not_named) (λ u more under. data_only cells x floor below t u b latest more under)

pub data_past : (cells : Cells) (x : Cell) (floor below t : ℕ) (b : List ℕ) (ts : List ℕ) → AreAll (IsUnnamed cells x floor) below ts
    → IsLatestBelow cells x Data below (Some (t, b)) → IsNamed cells x t → AreAll (IsUnnamed cells x floor) t ts
data_past cells x floor below t b ts all latest is_named = all_past (IsUnnamed cells x floor) below t ts all latest.0 (λ u from under is. elim (cases_lt t u) [
  | inl more ↦ data_only cells x floor below t u b latest more under is
  | inr most ↦ let same : t ≡ u = omega arith in is.2 (subst (IsNamed cells x) same is_named)
])

pub data_all : (cells : Cells) (x : Cell) (floor below : ℕ) (ts : List ℕ) → HasOneRecord cells x floor → AreAll (IsUnnamed cells x floor) below ts → length ts ≤ 256
    → IsLatestBelow cells x Data below None → AreUnnamed cells x floor ts
data_all cells x floor below ts one all few none = record {
  one = one;
  starts = greatest_all 256 (IsUnnamed cells x floor) below ts all few (λ u less is. none-some is.1.0 (sym (none u less) ∙ is.1.1));
}

pub data_full : (cells : Cells) (x : Cell) (floor below : ℕ) (ts : List ℕ) → HasOneRecord cells x floor → AreAll (IsUnnamed cells x floor) below ts → length ts ≡ 256
    → AreUnnamed cells x floor ts
data_full cells x floor below ts one all full = record { one = one; starts = greatest_full 256 (IsUnnamed cells x floor) below ts all full }

-- the records nearest to the floor, as decoded
pub near_read : (cells : Cells) (x : Cell) (floor w t : ℕ) (b : List ℕ) (kind : WriteKind) (next : Option ℕ) → IsNewest cells (key_of x Write) 0 floor (Some (w, b)) → NamesWrite b t kind → NamesNext cells x floor next
    → AreNear cells x floor (record { last = Some t; next = next })
near_read cells x floor w t b kind next newest names after = record { last = (Some (w, b), newest, (kind, names)); next = after }

-- ---- a deletion that is the last record

not_set : write.Set ≡ write.Delete → ⊥
not_set e = cc

-- a record that is decoded as a deletion's, or as a set's, is one
pub deletes : (cells : Cells) → AreShown cells → (x : Cell) (c t : ℕ) (b : List ℕ) → at cells x Write c ≡ Some b → NamesWrite b t write.Delete
    → (u : ℕ) × (at cells x Write c ≡ Some (record_text u write.Delete))
deletes cells shown x c t b there names = (r.start, there ∙ ap (λ (bs : List ℕ). Some bs) (newer r.kind kind r.text))
  where
    r : IsRecord c b
    r = shown_record cells shown x c b there

    kind : r.kind ≡ write.Delete
    kind = (read_text b r.start t r.kind write.Delete r.text r.to names).1

    newer : (k : WriteKind) → k ≡ write.Delete → IsRecordText r.start k b → b ≡ record_text r.start write.Delete
    newer k is (inl text) = text ∙ ap (record_text r.start) is
    newer k is (inr older) = absurd (not_set (sym older.0 ∙ is))

pub sets : (cells : Cells) → AreShown cells → (x : Cell) (c t u : ℕ) (b : List ℕ) → at cells x Write c ≡ Some b → NamesWrite b t write.Set → at cells x Write c ≢ Some (record_text u write.Delete)
sets cells shown x c t u b there names deleted =
    let r : IsRecord c b = shown_record cells shown x c b there in
    let kind = (read_text b r.start t r.kind write.Set r.text r.to names).1 in
    let text : b ≡ record_text u write.Delete = same_Some b (record_text u write.Delete) (sym there ∙ deleted) in
    not_set (sym kind ∙ same_write r.start u r.kind write.Delete b r.text (inl text))

same_last : (cells : Cells) (x : Cell) (floor v w : ℕ) → IsLastRecord cells x floor v → IsLastRecord cells x floor w → v ≡ w
same_last cells x floor v w first second =
    let up = first.last w second.low second.there in
    let down = second.last v first.low first.there in
    omega arith

pub deletion_none : (cells : Cells) (x : Cell) (floor : ℕ) → IsNewest cells (key_of x Write) 0 floor None → IsLastDeletion cells x floor None
deletion_none cells x floor none = λ w t last e. none-some last.there.0 (sym (none w (omega arith) last.low) ∙ last.there.1)

pub deletion_at : (cells : Cells) → AreShown cells → (x : Cell) (floor w t : ℕ) (b : List ℕ) (kind : WriteKind) (deletion : Option ℕ) → IsNewest cells (key_of x Write) 0 floor (Some (w, b)) → NamesWrite b t kind
    → IfSome deletion (λ c. (c ≡ w) × (kind ≡ write.Delete)) → IfNone deletion (kind ≡ write.Set) → IsLastDeletion cells x floor deletion
deletion_at cells shown x floor w t b kind None newest names some none = λ v u last. subst (λ (c : ℕ). at cells x Write c ≢ Some (record_text u write.Delete))
    (same_last cells x floor w v (last_record cells x floor w b newest) last) (sets cells shown x w t u b newest.2 (subst (λ (k : WriteKind). NamesWrite b t k) none names))
deletion_at cells shown x floor w t b kind (Some c) newest names some none =
    let d = deletes cells shown x w t b newest.2 (subst (λ (k : WriteKind). NamesWrite b t k) some.1 names) in
    subst (λ (n : ℕ). IsLastDeletion cells x floor (Some n)) (sym some.0) (last_record cells x floor w b newest, d.0, d.1)

-- if there are no old records, it is the oldest
pub lone_deletion : (cells : Cells) (x : Cell) (floor c : ℕ) → AreUnnamed cells x floor [] → IsLastDeletion cells x floor (Some c) → IsLoneDeletion cells x floor c
lone_deletion cells x floor c none (last, start, there) = record {
  none = none;
  low = last.low;
  deletion = record { start = start; there = there; oldest = λ d less. stands_none (at cells x Write d) (λ b is. (let e = none.one d c (below d less) last.low (b, is) last.there in omega arith)) };
}
  where
    below : (d : ℕ) → d < c → d ≤ floor
    below d less = let low = last.low in omega arith

    stands_none : (o : Option (List ℕ)) → ((b : List ℕ) → o ≡ Some b → ⊥) → o ≡ None
    stands_none None not = refl
    stands_none (Some b) not = absurd (not b refl)

-- ---- the result of a read is in the cells

pub newest_there : (cells : Cells) (x : Cell) (lo hi : ℕ) (found : Option (ℕ × List ℕ)) → IsNewest cells (key_of x Write) lo hi found
    → (v : ℕ × List ℕ) → found ≡ Some v → at cells x Write v.0 ≡ Some v.1
newest_there cells x lo hi found newest v e = (subst (IsNewest cells (key_of x Write) lo hi) e newest).2

pub oldest_there : (cells : Cells) (x : Cell) (lo hi : ℕ) (found : Option (ℕ × List ℕ)) → IsOldest cells (key_of x Write) lo hi found
    → (v : ℕ × List ℕ) → found ≡ Some v → at cells x Write v.0 ≡ Some v.1
oldest_there cells x lo hi found oldest v e = (subst (IsOldest cells (key_of x Write) lo hi) e oldest).2

pub none_named : (cells : Cells) (x : Cell) (found : Option (ℕ × List ℕ)) → ((v : ℕ × List ℕ) → found ≡ Some v → at cells x Write v.0 ≡ Some v.1) → NamesNone found → ¬ AreShown cells
none_named cells x None is none = absurd none
none_named cells x (Some (c, b)) is none = not_damaged cells x c b (is (c, b) refl) none

pub passed_none : {B Z : Type 0} (found : Option (ℕ × Vec ℕ Z)) (v : ℕ × Vec ℕ Z) (b : List ℕ) → found ≡ Some v → b ≡ v.1.items → ((t : ℕ) → 1 ≤ t → t < 2 ^ 63 → ¬ NamesStart b t)
    → (r : Result B Refusal) → IfErr r (λ refusal. NamesNone (option_map stamped found))
passed_none found v b is same none (Ok y) = tt
passed_none {Z = Z} found v b is same none (Err e) =
    subst (λ (f : Option (ℕ × Vec ℕ Z)). NamesNone (option_map stamped f)) (sym is) (λ t from to names. none t from to (subst (λ (bs : List ℕ). NamesStart bs t) (sym same) names))

-- ---- a read after others that changed nothing

pub latest_some : {R : Type 0} {seen : View R} {Z : Type 0} {a b : R} {row : List ℕ}
    → OnlyReads seen a b → seen.readable a row → (x : Cell) (q : Qualifier) (below : ℕ) (found : Option (ℕ × Vec ℕ Z)) (v : ℕ × Vec ℕ Z) → found ≡ Some v
    → (seen.readable b row → IsLatestBelow (seen.cells b) x q below (option_map stamped found)) → IsLatestBelow (seen.cells a) x q below (Some (v.0, v.1.items))
latest_some {seen = seen} {b = b} {row = row} reads held x q below found v is so =
    subst (λ (cs : Cells). IsLatestBelow cs x q below (Some (v.0, v.1.items))) reads.kept (at_some (IsLatestBelow (seen.cells b) x q below) found v is (so (reads.readable row held)))

pub latest_none : {R : Type 0} {seen : View R} {Z : Type 0} {a b : R} {row : List ℕ}
    → OnlyReads seen a b → seen.readable a row → (x : Cell) (q : Qualifier) (below : ℕ) (found : Option (ℕ × Vec ℕ Z)) → found ≡ None
    → (seen.readable b row → IsLatestBelow (seen.cells b) x q below (option_map stamped found)) → IsLatestBelow (seen.cells a) x q below None
latest_none {seen = seen} {b = b} {row = row} reads held x q below found is so =
    subst (λ (cs : Cells). IsLatestBelow cs x q below None) reads.kept (at_none (IsLatestBelow (seen.cells b) x q below) found is (so (reads.readable row held)))

pub lower_some : {Z : Type 0} (found : Option (ℕ × Vec ℕ Z)) (v : ℕ × Vec ℕ Z) (below : ℕ) → found ≡ Some v → IfSome found (λ w. w.0 < below) → v.0 < below
lower_some {Z} found v below is less = subst (λ (f : Option (ℕ × Vec ℕ Z)). IfSome f (λ w. w.0 < below)) is less

pub moment_some : {Z : Type 0} (found : Option (ℕ × Vec ℕ Z)) (v : ℕ × Vec ℕ Z) → found ≡ Some v → IfSome found (λ w. IsMoment w.0) → IsMoment v.0
moment_some {Z} found v is limits = subst (λ (f : Option (ℕ × Vec ℕ Z)). IfSome f (λ w. IsMoment w.0)) is limits
