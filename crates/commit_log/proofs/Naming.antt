-- The parts of a record's bytes, and the roots that records name.
use Rattle.std.proofs.Common.{◌≡◌, ◌≢◌, ℕ, zero, suc, ◌+◌, ◌<◌, ◌≤◌, ◌^◌, ◌⊎◌, inl, inr, max, List, [], ◌∷◌, ◌++◌, get_or, length, refl, sym, ap, ◌∙◌, subst, arith, length-append, append_assoc}
use Rattle.std.proofs.lemmas.Bool.{cases_lt}
use Rattle.std.specs.Int.{to_be_bytes, w32}
use Rattle.std.specs.Global.{Vec}
use Rattle.std.specs.List.{AllByRecursion}
use Rattle.commit_log.specs.Frames.{bytes_of}
use Rattle.commit_log.specs.Records.{AreUpTo, HasRecord, HasStamp, IsGreatest, IsUpTo, NamesRoot, NamesRoots, ReachesStamp, any_root, kind_byte, root_record, spelled_number, spelled_record}
use Rattle.commit_log.specs.declared.records.RecordKind.{RecordKind}
use Rattle.commit_log.specs.declared.records.RecordKind.TheVariants.{Edits, Root, AnyRoot, Entries}
use Rattle.commit_log.proofs.Cuts.{same_front}
use Rattle.commit_log.proofs.Numbering.{length-number, same_number}

-- ---- the parts of a record

pub length-record : (kind : RecordKind) (stamp : ℕ) (body : List ℕ) → length (spelled_record kind stamp body) ≡ 9 + length body
length-record kind stamp body = omega (arith, length-append (spelled_number stamp) body, length-number stamp)

abbrev kind_at : ℕ → RecordKind
kind_at zero = Entries
kind_at (suc zero) = Root
kind_at (suc (suc zero)) = AnyRoot
kind_at (suc (suc (suc n))) = Edits

kind_back : (k : RecordKind) → kind_at (kind_byte k) ≡ k
kind_back Entries = refl
kind_back Root = refl
kind_back AnyRoot = refl
kind_back Edits = refl

same_kind : (j k : RecordKind) → kind_byte j ≡ kind_byte k → j ≡ k
same_kind j k e = sym (kind_back j) ∙ ap kind_at e ∙ kind_back k

pub same_parts : (j k : RecordKind) (s t : ℕ) (a b : List ℕ) → spelled_record j s a ≡ spelled_record k t b → (j ≡ k) × ((spelled_number s ≡ spelled_number t) × (a ≡ b))
same_parts j k s t a b same =
    let kinds : kind_byte j ≡ kind_byte k = cc in
    let rest : spelled_number s ++ a ≡ spelled_number t ++ b = cc in
    (same_kind j k kinds, same_front (spelled_number s) (spelled_number t) a b (length-number s ∙ sym (length-number t)) rest)

pub same_record : (j k : RecordKind) (s t : ℕ) (a b : List ℕ) → s < 2 ^ 64 → t < 2 ^ 64 → spelled_record j s a ≡ spelled_record k t b → (j ≡ k) × ((s ≡ t) × (a ≡ b))
same_record j k s t a b small also same =
    let parts = same_parts j k s t a b same in (parts.0, (same_number s t small also parts.1.0, parts.1.1))

-- requirements on the first byte and the rest of a record
pub too_short : (bytes after : List ℕ) (byte : ℕ) → bytes ≡ byte ∷ after → length after < 8 → (kind : RecordKind) (stamp : ℕ) (body : List ℕ) → bytes ≢ spelled_record kind stamp body
too_short bytes after byte is few kind stamp body same = omega (arith, few, ap length (sym is ∙ same), length-record kind stamp body)

abbrev pub IsOver : List ℕ → ℕ → ℕ → Type 0
IsOver one top sum = (one ≡ root_record top sum) ⊎ (one ≡ any_root)

pub not_over : (one : List ℕ) (top sum : ℕ) → ((kind : RecordKind) (stamp : ℕ) (body : List ℕ) → one ≢ spelled_record kind stamp body) → IsOver one top sum → ⊥
not_over one top sum none over = elim over [ inl root ↦ none Root top (to_be_bytes w32 sum) root | inr any ↦ none AnyRoot 0 [] any ]

-- a record that the log is over any root
pub is_any : (one body : List ℕ) (kind : RecordKind) (stamp : ℕ) → one ≡ spelled_record kind stamp body → one ≡ any_root → kind ≡ AnyRoot
is_any one body kind stamp is any = (same_parts kind AnyRoot stamp 0 body [] (sym is ∙ any)).0

-- a record of edits
pub over_other : (one body : List ℕ) (kind : RecordKind) (stamp top sum : ℕ) → kind ≢ Root → kind ≢ AnyRoot → one ≡ spelled_record kind stamp body → IsOver one top sum → ⊥
over_other one body kind stamp top sum not_root not_any is over = elim over [
  | inl root ↦ not_root (same_parts kind Root stamp top body (to_be_bytes w32 sum) (sym is ∙ root)).0
  | inr any ↦ not_any (same_parts kind AnyRoot stamp 0 body [] (sym is ∙ any)).0
]

pub over_root : (one body : List ℕ) (stamp top sum : ℕ) → stamp < 2 ^ 64 → top < 2 ^ 64 → one ≡ spelled_record Root stamp body → IsOver one top sum → (stamp ≡ top) × (body ≡ to_be_bytes w32 sum)
over_root one body stamp top sum small also is over = elim over [
  | inl root ↦ (same_record Root Root stamp top body (to_be_bytes w32 sum) small also (sym is ∙ root)).1
  | inr any ↦ let e = (same_parts Root AnyRoot stamp 0 body [] (sym is ∙ any)).0 in absurd cc
]

pub over_any : (one body : List ℕ) (stamp top sum : ℕ) → stamp < 2 ^ 64 → one ≡ spelled_record AnyRoot stamp body → IsOver one top sum → (stamp ≡ 0) × (body ≡ [])
over_any one body stamp top sum small is over = elim over [
  | inl root ↦ let e = (same_parts AnyRoot Root stamp top body (to_be_bytes w32 sum) (sym is ∙ root)).0 in absurd cc
  | inr any ↦ (same_record AnyRoot AnyRoot stamp 0 body [] small (omega arith) (sym is ∙ any)).1
]

pub as_root : (one body spelled : List ℕ) (stamp top sum : ℕ) → one ≡ spelled_record Root stamp body → stamp ≡ top → body ≡ spelled → spelled ≡ to_be_bytes w32 sum → one ≡ root_record top sum
as_root one body spelled stamp top sum is at as' of = is ∙ ap (λ (s : ℕ). spelled_record Root s body) at ∙ ap (spelled_record Root top) (as' ∙ of)

-- ---- stamps

-- a record has one stamp
pub one_stamp : (one : List ℕ) (s t : ℕ) → HasStamp one s → HasStamp one t → s ≡ t
one_stamp one s t p q = (same_record p.0 q.0 s t p.1 q.1 p.2 q.2 (sym p.3 ∙ q.3)).1.0

up_to : (kind : RecordKind) (stamp mark : ℕ) (body : List ℕ) → stamp ≤ mark → IsUpTo mark (spelled_record kind stamp body)
up_to kind stamp mark body low = λ s has. elim (cases_lt stamp (2 ^ 64)) [
  | inl also ↦ let is = one_stamp (spelled_record kind stamp body) stamp s (kind, body, also, refl) has in omega (arith, is, low)
  | inr large ↦ let small = has.2 in omega (arith, large, small, low)
]

pub up_to_more : (one : List ℕ) (low high : ℕ) → low ≤ high → IsUpTo low one → IsUpTo high one
up_to_more one low high rises up = λ s has. let at = up s has in omega (arith, at, rises)

pub all_last : {X : Type 0} (P : X → Type 0) (xs : List X) (x : X) → AllByRecursion P xs → P x → AllByRecursion P (xs ++ x ∷ [])
all_last P [] x all p = (p, tt)
all_last P (y ∷ xs) x all p = (all.0, all_last P xs x all.1 p)

all_through : {X : Type 0} (P Q : X → Type 0) (xs : List X) → ((x : X) → P x → Q x) → AllByRecursion P xs → AllByRecursion Q xs
all_through P Q [] f all = tt
all_through P Q (x ∷ xs) f all = (f x all.0, all_through P Q xs f all.1)

-- a record that is among them
pub at_index : (records : List (Vec ℕ)) (i : ℕ) (other : Vec ℕ) (one : List ℕ) → i < length records → (get_or records i other).items ≡ one → HasRecord (bytes_of records) one
at_index [] i other one within is = absurd (omega (arith, within))
at_index (r ∷ records) zero other one within is = ([], bytes_of records, ap (λ (x : List ℕ). x ∷ bytes_of records) is)
at_index (r ∷ records) (suc i) other one within is =
    let more = at_index records i other one (omega (arith, within)) is in
    (r.items ∷ more.0, more.1, ap (λ (xs : List (List ℕ)). r.items ∷ xs) more.2)

pub names_at : (records : List (Vec ℕ)) (i : ℕ) (other : Vec ℕ) (one : List ℕ) (top sum : ℕ) → i < length records → (get_or records i other).items ≡ one → IsOver one top sum → NamesRoot (bytes_of records) top sum
names_at records i other one top sum within is over = elim over [
  | inl root ↦ inl (at_index records i other (root_record top sum) within (is ∙ root))
  | inr any ↦ inr (at_index records i other any_root within (is ∙ any))
]

-- a property of each record holds for one of them
pub record_at : (P : List ℕ → Type 0) (records : List (Vec ℕ)) (i : ℕ) (other : Vec ℕ) → i < length records → AllByRecursion P (bytes_of records) → P (get_or records i other).items
record_at P [] i other within all = absurd (omega (arith, within))
record_at P (r ∷ records) zero other within all = all.0
record_at P (r ∷ records) (suc i) other within all = record_at P records i other (omega (arith, within)) all.1

-- ---- roots

has_more : (records more : List (List ℕ)) (one : List ℕ) → HasRecord records one → HasRecord (records ++ more) one
has_more records more one (first, then, is) = (first, then ++ more, ap (λ (rs : List (List ℕ)). rs ++ more) is ∙ append_assoc first (one ∷ then) more)

pub names_more : (records more : List (List ℕ)) (top sum : ℕ) → NamesRoot records top sum → NamesRoot (records ++ more) top sum
names_more records more top sum names = elim names [
  | inl root ↦ inl (has_more records more (root_record top sum) root)
  | inr any ↦ inr (has_more records more any_root any)
]

pub names_last : (records : List (List ℕ)) (one : List ℕ) (top sum : ℕ) → (one ≡ root_record top sum) ⊎ (one ≡ any_root) → NamesRoot (records ++ one ∷ []) top sum
names_last records one top sum over = elim over [
  | inl root ↦ inl (records, [], ap (λ (r : List ℕ). records ++ r ∷ []) root)
  | inr any ↦ inr (records, [], ap (λ (r : List ℕ). records ++ r ∷ []) any)
]

pub no_record : (one : List ℕ) → HasRecord [] one → ⊥
no_record one ([], then, is) = cc
no_record one (r ∷ first, then, is) = cc

in_front : (records : List (List ℕ)) (r one : List ℕ) → HasRecord (r ∷ records) one → (r ≡ one) ⊎ HasRecord records one
in_front records r one ([], then, is) = let e : r ≡ one = cc in inl e
in_front records r one (x ∷ first, then, is) = let e : records ≡ first ++ one ∷ then = cc in inr (first, then, e)

pub in_last : (records : List (List ℕ)) (r one : List ℕ) → HasRecord (records ++ r ∷ []) one → HasRecord records one ⊎ (r ≡ one)
in_last [] r one has = elim (in_front [] r one has) [ inl e ↦ inr e | inr none ↦ absurd (no_record one none) ]
in_last (x ∷ records) r one has = elim (in_front (records ++ r ∷ []) x one has) [
  | inl e ↦ inl ([], records, ap (λ (y : List ℕ). y ∷ records) e)
  | inr more ↦ elim (in_last records r one more) [
    | inl before ↦ inl (x ∷ before.0, before.1, ap (λ (ys : List (List ℕ)). x ∷ ys) before.2)
    | inr e ↦ inr e
  ]
]

pub names_none : (top sum : ℕ) → NamesRoot [] top sum → ⊥
names_none top sum names = elim names [ inl root ↦ no_record (root_record top sum) root | inr any ↦ no_record any_root any ]

pub names_not : (records : List (List ℕ)) (one : List ℕ) (top sum : ℕ) → (NamesRoot records top sum → ⊥) → ((one ≡ root_record top sum) ⊎ (one ≡ any_root) → ⊥) → NamesRoot (records ++ one ∷ []) top sum → ⊥
names_not records one top sum before last names = elim names [
  | inl root ↦ elim (in_last records one (root_record top sum) root) [ inl has ↦ before (inl has) | inr e ↦ last (inl e) ]
  | inr any ↦ elim (in_last records one any_root any) [ inl has ↦ before (inr has) | inr e ↦ last (inr e) ]
]

-- ---- reached stamps

all_at : {X : Type 0} (P : X → Type 0) (first : List X) (x : X) (then : List X) → AllByRecursion P (first ++ x ∷ then) → P x
all_at P [] x then all = all.0
all_at P (y ∷ first) x then all = all_at P first x then all.1

reached_more : (records : List (List ℕ)) (one : List ℕ) (top : ℕ) → ReachesStamp records top → ReachesStamp (records ++ one ∷ []) top
reached_more records one top (other, stamp, among, has, high) = (other, stamp, has_more records (one ∷ []) other among, has, high)

reached_last : (records : List (List ℕ)) (one : List ℕ) (top stamp : ℕ) → HasStamp one stamp → top ≤ stamp → ReachesStamp (records ++ one ∷ []) top
reached_last records one top stamp has high = (one, stamp, (records, [], refl), has, high)

reached_low : (records : List (List ℕ)) (low high : ℕ) → low ≤ high → ReachesStamp records high → ReachesStamp records low
reached_low records low high rises (one, stamp, among, has, at) = (one, stamp, among, has, omega (arith, rises, at))

within : (records : List (List ℕ)) (top mark : ℕ) → AreUpTo mark records → ReachesStamp records top → top ≤ mark
within records top mark up (one, stamp, among, has, high) =
    let at : IsUpTo mark one = all_at (IsUpTo mark) among.0 one among.1 (subst (AllByRecursion (IsUpTo mark)) among.2 up) in
    let low = at stamp has in
    omega (arith, high, low)

higher : (records : List (List ℕ)) (low high : ℕ) → low ≤ high → AreUpTo low records → AreUpTo high records
higher records low high rises up = all_through (IsUpTo low) (IsUpTo high) records (λ one is. up_to_more one low high rises is) up

-- the greatest stamp with a further record
pub greatest_more : (mark greatest stamp : ℕ) (records : List (List ℕ)) (one : List ℕ) → IsGreatest mark records greatest → IsUpTo stamp one → (stamp ≡ 0) ⊎ HasStamp one stamp → IsGreatest mark (records ++ one ∷ []) (max greatest stamp)
greatest_more mark greatest stamp records one is up has = record {
  above = let low = is.above in omega (arith, low);
  up_to = all_last (IsUpTo (max greatest stamp)) records one (higher records greatest (max greatest stamp) (omega arith) is.up_to) (up_to_more one stamp (max greatest stamp) (omega arith) up);
  reached = elim (cases_lt greatest stamp) [
    | inl more ↦ elim has [
      | inl none ↦ absurd (omega (arith, none, more))
      | inr some ↦ inr (reached_last records one (max greatest stamp) stamp some (omega (arith, more)))
    ]
    | inr low ↦ elim is.reached [
      | inl from ↦ inl (omega (arith, from, low))
      | inr some ↦ inr (reached_more records one (max greatest stamp) (reached_low records (max greatest stamp) greatest (omega (arith, low)) some))
    ]
  ];
}

pub names_roots : NamesRoots
names_roots = record {
  stays = λ records one top sum names. names_more records (one ∷ []) top sum names;
  more = λ records top sum. names_last records (root_record top sum) top sum (inl refl);
  any = λ records top sum. names_last records any_root top sum (inr refl);
  up_to = λ records kind stamp mark body all low. all_last (IsUpTo mark) records (spelled_record kind stamp body) all (up_to kind stamp mark body low);
  higher = higher;
  kept = reached_more;
  reached = λ records kind stamp body small. reached_last records (spelled_record kind stamp body) stamp stamp (kind, body, small, refl) (omega arith);
  lower = reached_low;
  within = within;
}
