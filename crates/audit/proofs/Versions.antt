-- The versions of a cell: additions, and searches among them.
use Rattle.std.proofs.Common.{◌≡◌, ◌⊎◌, inl, inr, ℕ, zero, suc, ◌+◌, ◌-◌, ◌<◌, ◌≤◌, Bool, true, false, List, [], ◌∷◌, ◌++◌, length, map, option_map, ◌↔◌, Option, Some, None, refl, sym, ap, subst, ◌∙◌, arith}
use Rattle.std.specs.Prelude.{slice_get, IfSome}
use lib.Dec.{leb}
use lib.ListN.{get_or}
use Rattle.std.proofs.lemmas.Bool.{cases_eq, cases_lt, leb-true, leb-false, le-leb}
use Rattle.std.proofs.lemmas.Option.{none-some, same_Some, slice_get-get_or, slice_get-map, slice_get_within, get_or_from_slice_get}
use Rattle.si_model.specs.Machine as machine
use Rattle.si_model.specs.Machine.{Change, Gives, IsSnapshot, Names, Value}
use Rattle.si_model.specs.Sets.{◌∈◌, here, there}
use Rattle.si_model.specs.declared.replies.Cell.{Cell}
use Rattle.audit.specs.Audits.{GivesAt, IsNewest, change_of, commit_of, write_of}
use Rattle.audit.specs.AuditScans.{HasValue}
use Rattle.audit.specs.AuditSteps.{IsWrittenAfter}
use Rattle.audit.specs.Histories.{IsHistory, IsLastUpTo, IsLater, IsMade, IsVersion, IsWriteAt, Rises}
use Rattle.audit.specs.declared.audit.parts.Commit.{Commit}
use Rattle.audit.specs.declared.audit.parts.Version.{Version}
use Rattle.audit.specs.declared.audit.parts.Write.{Write}
use Rattle.audit.proofs.Searches.{none_snapshot, place_of_map, snapshot_some, some_snapshot}
use Rattle.audit.proofs.SearchesBack.{mapped, unmapped}

module _ {A : Type 0} where
  pub member_of_get : (xs : List A) (k : ℕ) (x : A) → slice_get xs k ≡ Some x → x ∈ xs
  member_of_get [] k x h = absurd (none-some x h)
  member_of_get (y ∷ xs) zero x h = subst (λ z. z ∈ (y ∷ xs)) (same_Some y x h) here
  member_of_get (y ∷ xs) (suc k) x h = there (member_of_get xs k x h)

  pub get_of_member : (xs : List A) (x : A) → x ∈ xs → (k : ℕ) × (slice_get xs k ≡ Some x)
  get_of_member [] x h = elim h [ ]
  get_of_member (y ∷ xs) _ here = (0, refl)
  get_of_member (y ∷ xs) x (there h) = let r = get_of_member xs x h in (suc r.0, r.1)

  pub get_front : (xs ys : List A) (k : ℕ) (x : A) → slice_get xs k ≡ Some x → slice_get (xs ++ ys) k ≡ Some x
  get_front [] ys k x h = absurd (none-some x h)
  get_front (y ∷ xs) ys zero x h = h
  get_front (y ∷ xs) ys (suc k) x h = get_front xs ys k x h

  pub get_last : (xs : List A) (x : A) → slice_get (xs ++ x ∷ []) (length xs) ≡ Some x
  get_last [] x = refl
  get_last (y ∷ xs) x = get_last xs x

  pub get_cases : (xs : List A) (z : A) (k : ℕ) (x : A) → slice_get (xs ++ z ∷ []) k ≡ Some x → (slice_get xs k ≡ Some x) ⊎ ((k ≡ length xs) × (z ≡ x))
  get_cases [] z zero x h = inr (refl, same_Some z x h)
  get_cases [] z (suc k) x h = absurd (none-some x h)
  get_cases (y ∷ xs) z zero x h = inl h
  get_cases (y ∷ xs) z (suc k) x h = elim (get_cases xs z k x h) [ inl e ↦ inl e | inr e ↦ inr (ap suc e.0, e.1) ]

pub no_last : {A : Type 0} (xs : List A) → slice_get xs (length xs - 1) ≡ None → length xs ≡ 0
no_last [] h = refl
no_last (x ∷ xs) h = let at = slice_get-get_or (x ∷ xs) (length (x ∷ xs) - 1) x (omega arith) in absurd (none-some (get_or (x ∷ xs) (length (x ∷ xs) - 1) x) (sym h ∙ at))

pub if_some_weaker : {A : Type 0} (P Q : A → Type 0) → ((x : A) → P x → Q x) → (r : Option A) → IfSome r P → IfSome r Q
if_some_weaker P Q f None h = tt
if_some_weaker P Q f (Some x) h = f x h

-- ---- the order of the stamps

pub rises_more : (vs : List Version) (v : Version) → Rises vs → IsLater vs v → Rises (vs ++ v ∷ [])
rises_more vs v rises later j k u w lt at_j at_k = elim (get_cases vs v k w at_k) [
  | inl old ↦ elim (get_cases vs v j u at_j) [
    | inl before ↦ rises j k u w lt before old
    | inr last ↦ let low = slice_get_within vs k w old in let e = last.0 in absurd (omega arith)
  ]
  | inr new ↦ elim (get_cases vs v j u at_j) [
    | inl before ↦ subst (λ (z : Version). u.stamp < z.stamp) new.1 (below before)
    | inr last ↦ let e = last.0 in let f = new.0 in absurd (omega arith)
  ]
]
  where
    below : slice_get vs j ≡ Some u → u.stamp < v.stamp
    below at = elim (cases_eq (j + 1) (length vs)) [
      | inl is ↦ later j u is at
      | inr ne ↦
          let low = slice_get_within vs j u at in
          let here = slice_get-get_or vs (length vs - 1) u (omega arith) in
          let more = rises j (length vs - 1) u (get_or vs (length vs - 1) u) (omega arith) at here in
          let last = later (length vs - 1) (get_or vs (length vs - 1) u) (omega arith) here in
          omega (arith, more, last)
    ]

-- versions with one stamp are one
pub one_stamp : (vs : List Version) → Rises vs → (u v : Version) → u ∈ vs → v ∈ vs → u.stamp ≡ v.stamp → u ≡ v
one_stamp vs rises u v m n same =
    let at_u = get_of_member vs u m in
    let at_v = get_of_member vs v n in
    elim (cases_lt at_u.0 at_v.0) [
      | inl lt ↦ let low = rises at_u.0 at_v.0 u v lt at_u.1 at_v.1 in absurd (omega (arith, low, same))
      | inr ge ↦ elim (cases_eq at_u.0 at_v.0) [
        | inl e ↦ same_Some u v (sym at_u.1 ∙ (ap (slice_get vs) e ∙ at_v.1))
        | inr ne ↦ let low = rises at_v.0 at_u.0 v u (omega arith) at_v.1 at_u.1 in absurd (omega (arith, low, same))
      ]
    ]

-- ---- the versions up to a stamp

abbrev pub is_low : ℕ → Version → Bool
is_low stamp v = leb v.stamp stamp

pub parted : (vs : List Version) (stamp : ℕ) → Rises vs → (i j : ℕ) (d : Version) → i ≤ j → j < length vs → is_low stamp (get_or vs j d) ≡ true → is_low stamp (get_or vs i d) ≡ true
parted vs stamp rises i j d le lt t = elim (cases_eq i j) [
  | inl e ↦ subst (λ (k : ℕ). is_low stamp (get_or vs k d) ≡ true) (sym e) t
  | inr ne ↦
      let low = leb-true (get_or vs j d).stamp stamp t in
      let more = rises i j (get_or vs i d) (get_or vs j d) (omega arith) (slice_get-get_or vs i d (omega arith)) (slice_get-get_or vs j d lt) in
      le-leb (get_or vs i d).stamp stamp (omega (arith, low, more))
]

module _ (vs : List Version) (stamp n : ℕ) (bound : n ≤ length vs) (front : (k : ℕ) (d : Version) → 0 ≤ k → k < n → is_low stamp (get_or vs k d) ≡ true) (back : (k : ℕ) (d : Version) → n ≤ k → k < length vs → is_low stamp (get_or vs k d) ≡ false) where
  above : (v : Version) (k : ℕ) → n ≤ k → slice_get vs k ≡ Some v → stamp < v.stamp
  above v k le at =
      let late = leb-false (get_or vs k v).stamp stamp (back k v le (slice_get_within vs k v at)) in
      subst (λ (z : Version). stamp < z.stamp) (get_or_from_slice_get vs k v v at) late

  pub none_up_to : n ≡ 0 → (v : Version) → v ∈ vs → stamp < v.stamp
  none_up_to is v m = let at = get_of_member vs v m in above v at.0 (omega (arith, is)) at.1

  pub last_up_to : Rises vs → ¬ (n ≡ 0) → (d : Version) → IsLastUpTo vs stamp (get_or vs (n - 1) d)
  last_up_to rises ne d = record {
    there = member_of_get vs (n - 1) (get_or vs (n - 1) d) last;
    low = leb-true (get_or vs (n - 1) d).stamp stamp (front (n - 1) d (omega arith) (omega arith));
    most = each;
  }
    where
      last : slice_get vs (n - 1) ≡ Some (get_or vs (n - 1) d)
      last = slice_get-get_or vs (n - 1) d (omega arith)

      each : (u : Version) → u ∈ vs → u.stamp ≤ stamp → u.stamp ≤ (get_or vs (n - 1) d).stamp
      each u m low =
          let at = get_of_member vs u m in
          elim (cases_lt at.0 n) [
            | inr ge ↦ let late = above u at.0 ge at.1 in absurd (omega (arith, late, low))
            | inl lt ↦ elim (cases_eq at.0 (n - 1)) [
              | inl e ↦ subst (λ (z : Version). u.stamp ≤ z.stamp) (same_Some u (get_or vs (n - 1) d) (sym at.1 ∙ (ap (slice_get vs) e ∙ last))) (omega arith)
              | inr ne ↦ let more = rises at.0 (n - 1) u (get_or vs (n - 1) d) (omega arith) at.1 last in omega (arith, more)
            ]
          ]

-- ---- versions and commits

-- a commit that changes the cell has a version
pub version_of : (commits : List Commit) (x : Cell) (v : Change) (b : machine.Commit) → b ∈ map commit_of commits → Gives b.writes x v
    → (u : Version) × IsVersion commits x u × (u.stamp ≡ b.stamp) × ((w : Write) × IsWriteAt commits u w × (write_of w ≡ (x, v)))
version_of commits x v b m (k, puts) =
    let r = unmapped commit_of commits b m in
    let at = get_of_member commits r.0 r.1 in
    let put = subst (λ (c : machine.Commit). slice_get c.writes k ≡ Some (x, v)) (sym r.2) puts in
    let w = place_of_map write_of r.0.writes.items k (x, v) put in (
      record { stamp = r.0.stamp; place = at.0; write = k },
      (r.0, at.1, record { stamp_is = refl; place_is = refl; write = w.0; there = w.1; cell = ap (λ (p : Cell × Change). p.0) w.2 }),
      ap (λ (c : machine.Commit). c.stamp) r.2,
      (w.0, (r.0, at.1, w.1), w.2),
    )

-- the machine's commit of a version
pub commit_at : (commits : List Commit) (x : Cell) (u : Version) → IsVersion commits x u
    → (b : machine.Commit) × (b ∈ map commit_of commits) × Names b.writes x × (b.stamp ≡ u.stamp)
commit_at commits x u (commit, at, made) = (
  commit_of commit,
  mapped commit_of commits commit (member_of_get commits u.place commit at),
  ((write_of made.write).1, (u.write, slice_get-map write_of commit.writes.items u.write ∙ (ap (option_map write_of) made.there ∙ ap (λ (y : Cell). Some (y, (write_of made.write).1)) made.cell))),
  sym made.stamp_is,
)

module _ (commits : List Commit) (x : Cell) (vs : List Version) (h : IsHistory commits x vs) where
  -- a commit that writes the cell has one of the versions
  pub its_version : (b : machine.Commit) → b ∈ map commit_of commits → Names b.writes x → (u : Version) × (u ∈ vs) × (u.stamp ≡ b.stamp)
  its_version b m (v, gives) = let r = version_of commits x v b m gives in (r.0, (h.same r.0).1 r.1, r.2)

  pub newest_none : (s : ℕ) → ((v : Version) → v ∈ vs → s < v.stamp) → IsNewest (map commit_of commits) s x None
  newest_none s late b m names = let r = its_version b m names in let l = late r.0 r.1 in let e = r.2 in omega (arith, l, e)

  pub newest_some : (s : ℕ) (v : Version) → IsLastUpTo vs s v → IsNewest (map commit_of commits) s x (Some v.stamp)
  newest_some s v last = (
    commit_at commits x v ((h.same v).0 last.there),
    last.low,
    λ b m names low. let r = its_version b m names in let e = r.2 in let l = last.most r.0 r.1 (omega (arith, e, low)) in omega (arith, l, e),
  )

  pub written_after : (k : ℕ) (v : Version) (t : ℕ) → k + 1 ≡ length vs → slice_get vs k ≡ Some v → IsWrittenAfter (map commit_of commits) x t → t < v.stamp
  written_after k v t is at (b, m, names, late) =
      let r = its_version b m names in
      let e = r.2 in
      let u = get_of_member vs r.0 r.1 in
      let low = slice_get_within vs u.0 r.0 u.1 in
      elim (cases_eq u.0 k) [
        | inl same ↦ subst (λ (z : Version). t < z.stamp) (same_Some r.0 v (sym u.1 ∙ (ap (slice_get vs) same ∙ at))) (omega (arith, late, e))
        | inr ne ↦ let more = h.rises u.0 k r.0 v (omega arith) u.1 at in omega (arith, more, late, e)
      ]

  pub after_written : (v : Version) (t : ℕ) → v ∈ vs → t < v.stamp → IsWrittenAfter (map commit_of commits) x t
  after_written v t m late = let r = commit_at commits x v ((h.same v).0 m) in let e = r.3 in (r.0, r.1, r.2, omega (arith, e, late))

  pub never_written : (t : ℕ) → length vs ≡ 0 → ¬ IsWrittenAfter (map commit_of commits) x t
  never_written t none (b, m, names, late) =
      let r = its_version b m names in
      let u = get_of_member vs r.0 r.1 in
      let low = slice_get_within vs u.0 r.0 u.1 in
      absurd (omega (arith, low, none))

  -- the change by the commit at a stamp
  pub gives_none : (n : ℕ) (v : Change) → ((u : Version) → u ∈ vs → n < u.stamp) → ¬ GivesAt (map commit_of commits) n x v
  gives_none n v late (b, m, gives, at) = let r = version_of commits x v b m gives in let l = late r.0 ((h.same r.0).1 r.1) in let e = r.2 in absurd (omega (arith, l, e, at))

  module _ (n : ℕ) (v : Change) (u : Version) (last : IsLastUpTo vs n u) where
    pub gives_there : (w : Write) → IsWriteAt commits u w → u.stamp ≡ n → write_of w ≡ (x, v) → GivesAt (map commit_of commits) n x v
    gives_there w (commit, at, put) is makes =
        let r = (h.same u).0 last.there in
        let same = same_Some r.0 commit (sym r.1 ∙ at) in (
          commit_of commit,
          mapped commit_of commits commit (member_of_get commits u.place commit at),
          (u.write, slice_get-map write_of commit.writes.items u.write ∙ (ap (option_map write_of) put ∙ ap (λ (p : Cell × Change). Some p) makes)),
          ap (λ (c : Commit). c.stamp) (sym same) ∙ (sym r.2.stamp_is ∙ is),
        )

    -- the version at the stamp is the only one
    pub gives_so : GivesAt (map commit_of commits) n x v → (u.stamp ≡ n) × ((w : Write) × IsWriteAt commits u w × (write_of w ≡ (x, v)))
    gives_so (b, m, gives, at) =
        let r = version_of commits x v b m gives in
        let e = r.2 in
        let there = (h.same r.0).1 r.1 in
        let most = last.most r.0 there (omega (arith, e, at)) in
        let low = last.low in
        let is : u.stamp ≡ n = omega (arith, most, low, e, at) in
        let same = one_stamp vs h.rises r.0 u there last.there (omega (arith, e, at, is)) in
        (is, subst (λ (z : Version). (w : Write) × IsWriteAt commits z w × (write_of w ≡ (x, v))) same r.3)

    pub has_write : (w : Write) × IsWriteAt commits u w
    has_write = let r = (h.same u).0 last.there in (r.2.write, (r.0, r.1, r.2.there))

pub one_write : (commits : List Commit) (u : Version) (w z : Write) → IsWriteAt commits u w → IsWriteAt commits u z → w ≡ z
one_write commits u w z (a, at_a, put_a) (b, at_b, put_b) =
    let same = same_Some a b (sym at_a ∙ at_b) in
    same_Some w z (sym put_a ∙ (ap (λ (c : Commit). slice_get c.writes.items u.write) same ∙ put_b))

-- the latest version of a cell up to a stamp is what a read as of the stamp finds
module _ (commits : List Commit) (x : Cell) (vs : List Version) (h : IsHistory commits x vs) (s : ℕ) (u : Version) (last : IsLastUpTo vs s u) where
  its_own : IsLastUpTo vs u.stamp u
  its_own = record {
    there = last.there;
    low = omega arith;
    most = λ w m low. let up = last.low in last.most w m (omega (arith, low, up));
  }

  pub some_write : (w : Write) × IsWriteAt commits u w
  some_write = let r = (h.same u).0 last.there in (r.2.write, (r.0, r.1, r.2.there))

  pub its_cell : (w : Write) → IsWriteAt commits u w → w.cell ≡ x
  its_cell w put =
      let r = (h.same u).0 last.there in
      sym (ap (λ (z : Write). z.cell) (one_write commits u r.2.write w (r.0, r.1, r.2.there) put)) ∙ r.2.cell

  pub write_found : (w : Write) (v : Change) → IsWriteAt commits u w → write_of w ≡ (x, v) → IsSnapshot (map commit_of commits) s x v
  write_found w v put makes =
      snapshot_some (map commit_of commits) s u.stamp x v (newest_some commits x vs h s u last) (gives_there commits x vs h u.stamp v u its_own w put refl makes)

  pub found_write : (w : Write) (v : Change) → IsWriteAt commits u w → IsSnapshot (map commit_of commits) s x v → write_of w ≡ (x, v)
  found_write w v put snapshot =
      let so = gives_so commits x vs h u.stamp v u its_own (some_snapshot (map commit_of commits) s u.stamp x v (newest_some commits x vs h s u last) snapshot) in
      subst (λ (z : Write). write_of z ≡ (x, v)) (one_write commits u so.1.0 w so.1.1 put) so.1.2

  pub long_found : (w : Write) (least : ℕ) → IsWriteAt commits u w → ((v : Value) × (change_of w.change ≡ Some v) × (least ≤ length v)) → HasValue (map commit_of commits) s x least
  long_found w least put (v, is, long) = (v, long, write_found w (Some v) put (λ i. (its_cell w put i, is i)))

  pub found_long : (w : Write) (least : ℕ) → IsWriteAt commits u w → HasValue (map commit_of commits) s x least → (v : Value) × (change_of w.change ≡ Some v) × (least ≤ length v)
  found_long w least put (v, long, snapshot) = (v, ap (λ (p : Cell × Change). p.1) (found_write w (Some v) put snapshot), long)

pub no_value : (commits : List Commit) (x : Cell) (vs : List Version) (h : IsHistory commits x vs) (s : ℕ) (least : ℕ) → ((v : Version) → v ∈ vs → s < v.stamp) → ¬ HasValue (map commit_of commits) s x least
no_value commits x vs h s least late (v, long, snapshot) = none-some v (sym (none_snapshot (map commit_of commits) s x (Some v) (newest_none commits x vs h s late) snapshot))

pub no_commit : (commits : List Commit) (u : Version) → slice_get commits u.place ≡ None → (w : Write) → ¬ IsWriteAt commits u w
no_commit commits u none w (c, at, put) = none-some c (sym none ∙ at)

pub no_write : (commits : List Commit) (u : Version) (c : Commit) → slice_get commits u.place ≡ Some c → slice_get c.writes.items u.write ≡ None → (w : Write) → ¬ IsWriteAt commits u w
no_write commits u c at none w (d, at_d, put) = none-some w (sym none ∙ (ap (λ (z : Commit). slice_get z.writes.items u.write) (same_Some c d (sym at ∙ at_d)) ∙ put))

-- ---- a commit is added

pub pushed : (commits : List Commit) (c d : Commit) (n : ℕ) → d ≡ get_or (commits ++ c ∷ []) n d → n ≡ length commits → d ≡ c
pushed commits c d n is at = is ∙ (ap (λ (k : ℕ). get_or (commits ++ c ∷ []) k d) at ∙ get_or_from_slice_get (commits ++ c ∷ []) (length commits) c d (get_last commits c))

module _ (commits : List Commit) (c : Commit) (x : Cell) where
  pub version_more : (v : Version) → IsVersion commits x v ⊎ ((v.write < length c.writes.items) × IsMade c.writes.items c.stamp (length commits) x v) → IsVersion (commits ++ c ∷ []) x v
  version_more v (inl (b, at, made)) = (b, get_front commits (c ∷ []) v.place b at, made)
  version_more v (inr (low, made)) = (
    c,
    ap (slice_get (commits ++ c ∷ [])) made.place_is ∙ get_last commits c,
    record { stamp_is = made.stamp_is; place_is = refl; write = made.write; there = made.there; cell = made.cell },
  )

  pub version_cases : (v : Version) → IsVersion (commits ++ c ∷ []) x v → IsVersion commits x v ⊎ ((v.write < length c.writes.items) × IsMade c.writes.items c.stamp (length commits) x v)
  version_cases v (b, at, made) = elim (get_cases commits c v.place b at) [
    | inl old ↦ inl (b, old, made)
    | inr new ↦ inr (
      slice_get_within c.writes.items v.write made.write (subst (λ (d : Commit). slice_get d.writes.items v.write ≡ Some made.write) (sym new.1) made.there),
      record {
        stamp_is = made.stamp_is ∙ ap (λ (d : Commit). d.stamp) (sym new.1);
        place_is = new.0;
        write = made.write;
        there = subst (λ (d : Commit). slice_get d.writes.items v.write ≡ Some made.write) (sym new.1) made.there;
        cell = made.cell;
      },
    )
  ]

  pub history_more : (old new : List Version) → IsHistory commits x old → (Rises old → Rises new)
      → ((v : Version) → (v ∈ new) ↔ ((v ∈ old) ⊎ ((v.write < length c.writes.items) × IsMade c.writes.items c.stamp (length commits) x v))) → IsHistory (commits ++ c ∷ []) x new
  history_more old new h rises same = record {
    rises = rises h.rises;
    same = λ v. (
      λ m. elim ((same v).0 m) [ inl o ↦ version_more v (inl ((h.same v).0 o)) | inr n ↦ version_more v (inr n) ],
      λ is. elim (version_cases v is) [ inl o ↦ (same v).1 (inl ((h.same v).1 o)) | inr n ↦ (same v).1 (inr n) ],
    );
  }
