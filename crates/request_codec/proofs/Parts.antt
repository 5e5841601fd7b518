-- Parts of a body that follow each other, one at a time.
use Rattle.std.proofs.Common.{◌≡◌, ℕ, ◌+◌, List, [], ◌∷◌, ◌++◌, length, refl, sym, ap, subst, ◌∙◌, append_assoc, append-nil, arith}
use Rattle.std.specs.List.{AllByRecursion, flat_map}
use Rattle.request_codec.specs.Parts.{AreParts}

none_of : {A : Type 0} (fields : A → List ℕ) (parts : List A) (bytes : List ℕ) → length parts ≡ 0 → bytes ≡ flat_map fields parts → bytes ≡ []
none_of fields [] bytes many whole = whole
none_of fields (part ∷ parts) bytes many whole = absurd (omega (arith, many))

pub no_parts : {A : Type 0} (fits : A → Type 0) (fields : A → List ℕ) (bytes : List ℕ) → AreParts fits fields 0 bytes → bytes ≡ []
no_parts fits fields bytes are = none_of fields are.parts bytes are.many are.whole

pub nothing_left : {A : Type 0} (fits : A → Type 0) (fields : A → List ℕ) (bytes : List ℕ) → bytes ≡ [] → AreParts fits fields 0 bytes
nothing_left fits fields bytes e = record { parts = []; many = refl; all_fit = tt; whole = e }

-- one more part at the front
pub one_more : {A : Type 0} (fits : A → Type 0) (fields : A → List ℕ) (m n : ℕ) (part : A) (bytes after : List ℕ) → m ≡ n + 1 → fits part → bytes ≡ fields part ++ after → AreParts fits fields n after → AreParts fits fields m bytes
one_more fits fields m n part bytes after more fit e are = record {
  parts = part ∷ are.parts;
  many = omega (arith, are.many, more);
  all_fit = (fit, are.all_fit);
  whole = e ∙ ap (λ (t : List ℕ). fields part ++ t) are.whole;
}

-- n parts, behind one
record Front {A : Type 0} (fits : A → Type 0) (fields : A → List ℕ) (n : ℕ) (bytes : List ℕ) : Type 0 where
  pub part : A
  pub after : List ℕ
  pub fit : fits part
  pub whole : bytes ≡ fields part ++ after
  pub rest : AreParts fits fields n after

front_of : {A : Type 0} (fits : A → Type 0) (fields : A → List ℕ) (parts : List A) (n : ℕ) (bytes : List ℕ) → length parts ≡ n + 1 → AllByRecursion fits parts → bytes ≡ flat_map fields parts → Front fits fields n bytes
front_of fits fields [] n bytes many fit whole = absurd (omega (arith, many))
front_of fits fields (part ∷ parts) n bytes many fit whole = record {
  part = part;
  after = flat_map fields parts;
  fit = fit.0;
  whole = whole;
  rest = record { parts = parts; many = omega (arith, many); all_fit = fit.1; whole = refl };
}

front : {A : Type 0} (fits : A → Type 0) (fields : A → List ℕ) (m n : ℕ) (bytes : List ℕ) → m ≡ n + 1 → AreParts fits fields m bytes → Front fits fields n bytes
front fits fields m n bytes more are = front_of fits fields are.parts n bytes (are.many ∙ more) are.all_fit are.whole

pub one_less : {A : Type 0} (fits : A → Type 0) (fields : A → List ℕ) → ((a b : A) (x y : List ℕ) → fits a → fits b → fields a ++ x ≡ fields b ++ y → (a ≡ b) × (x ≡ y))
    → (m n : ℕ) (part : A) (bytes after : List ℕ) → m ≡ n + 1 → fits part → bytes ≡ fields part ++ after → AreParts fits fields m bytes → AreParts fits fields n after
one_less fits fields same m n part bytes after more fit e are =
    let f = front fits fields m n bytes more are in
    let s = same part f.part after f.after fit f.fit (sym e ∙ f.whole) in
    subst (AreParts fits fields n) (sym s.1) f.rest

-- the next of them isn't missing
pub none_missing : {A : Type 0} (fits : A → Type 0) (fields : A → List ℕ) (m n : ℕ) (bytes : List ℕ) → m ≡ n + 1 → AreParts fits fields m bytes → ((part : A) (after : List ℕ) → fits part → bytes ≡ fields part ++ after → ⊥) → ⊥
none_missing fits fields m n bytes more are none =
    let f = front fits fields m n bytes more are in
    none f.part f.after f.fit f.whole

-- one more part at the back
pub parts_and : {A : Type 0} (fields : A → List ℕ) (parts : List A) (part : A) (x : List ℕ) → flat_map fields (parts ++ part ∷ []) ++ x ≡ flat_map fields parts ++ (fields part ++ x)
parts_and fields [] part x = ap (λ (t : List ℕ). t ++ x) (append-nil (fields part))
parts_and fields (a ∷ parts) part x =
    append_assoc (fields a) (flat_map fields (parts ++ part ∷ [])) x
    ∙ ap (λ (t : List ℕ). fields a ++ t) (parts_and fields parts part x)
    ∙ sym (append_assoc (fields a) (flat_map fields parts) (fields part ++ x))

pub fit_and : {A : Type 0} (fits : A → Type 0) (parts : List A) (part : A) → AllByRecursion fits parts → fits part → AllByRecursion fits (parts ++ part ∷ [])
fit_and fits [] part all fit = (fit, tt)
fit_and fits (a ∷ parts) part all fit = (all.0, fit_and fits parts part all.1 fit)

-- as many parts with the same bytes are the same
pub same_parts : {A : Type 0} (fits : A → Type 0) (fields : A → List ℕ) → ((a b : A) (x y : List ℕ) → fits a → fits b → fields a ++ x ≡ fields b ++ y → (a ≡ b) × (x ≡ y))
    → (xs ys : List A) → AllByRecursion fits xs → AllByRecursion fits ys → length xs ≡ length ys → flat_map fields xs ≡ flat_map fields ys → xs ≡ ys
same_parts fits fields same [] [] p q size e = refl
same_parts fits fields same [] (b ∷ ys) p q size e = absurd (omega (arith, size))
same_parts fits fields same (a ∷ xs) [] p q size e = absurd (omega (arith, size))
same_parts fits fields same (a ∷ xs) (b ∷ ys) p q size e =
    let s = same a b (flat_map fields xs) (flat_map fields ys) p.0 q.0 e in
    let t = same_parts fits fields same xs ys p.1 q.1 (omega (arith, size)) s.1 in
    λ i. s.0 i ∷ t i
