-- A stream can be cut in only one way, and each stream has a cut.
use Rattle.std.proofs.Common.{◌≡◌, ℕ, zero, suc, ◌+◌, ◌<◌, ◌≤◌, get_or, inl, inr, append-nil, length-take-le, List, [], ◌∷◌, ◌++◌, length, take, drop, refl, sym, ap, ◌∙◌, subst, arith, take_at, drop_at, length-append, append_assoc}
use Rattle.std.proofs.lemmas.List.{take-append-drop, length-drop, length-take, get_or-drop, get_or-take, get_or_past}
use Rattle.std.proofs.lemmas.Bool.{cases_lt}
use Rattle.std.specs.Int.{to_be_bytes, w32}
use Rattle.std.specs.List.{AllByRecursion}
use Rattle.std.proofs.lemmas.Nat.{be_bytes_4, from_be_bytes-to_be_bytes_4}
use Rattle.request_codec.specs.Stream.{longest, frame, frames, announced, BeginsNoFrame, CutsInto, IsBody}

announced-frame : (a x : List ℕ) → IsBody a → announced (frame a ++ x) ≡ length a
unfolding announced frame
announced-frame a x fits = from_be_bytes-to_be_bytes_4 (length a) (omega arith)

length-frame : (a x : List ℕ) → length (frame a ++ x) ≡ 4 + length a + length x
unfolding frame
length-frame a x = omega (arith, length-append (frame a) x, length-append (to_be_bytes w32 (length a)) a)

drop-frame : (a x : List ℕ) → drop 4 (frame a ++ x) ≡ a ++ x
unfolding frame
drop-frame a x = refl

same_front : (a b x y : List ℕ) → length a ≡ length b → a ++ x ≡ b ++ y → (a ≡ b) × (x ≡ y)
same_front a b x y size same = (
  sym (take_at a x (length a) refl) ∙ ap (take (length a)) same ∙ take_at b y (length a) (sym size),
  sym (drop_at a x (length a) refl) ∙ ap (drop (length a)) same ∙ drop_at b y (length a) (sym size),
)

pub same_frame : (a b x y : List ℕ) → IsBody a → IsBody b → frame a ++ x ≡ frame b ++ y → (a ≡ b) × (x ≡ y)
same_frame a b x y p q same =
    let size : length a ≡ length b = sym (announced-frame a x p) ∙ ap announced same ∙ announced-frame b y q in
    same_front a b x y size (sym (drop-frame a x) ∙ ap (drop 4) same ∙ drop-frame b y)

not_open : (a x : List ℕ) → IsBody a → BeginsNoFrame (frame a ++ x) → ⊥
not_open a x fits p =
    let says = announced-frame a x fits in
    let size = length-frame a x in
    let short = p.short (omega arith) (omega arith) in
    omega arith

one_way : (bodies others : List (List ℕ)) (rest other : List ℕ) → AllByRecursion IsBody bodies → AllByRecursion IsBody others → BeginsNoFrame rest → BeginsNoFrame other → frames bodies ++ rest ≡ frames others ++ other → (bodies ≡ others) × (rest ≡ other)
one_way [] [] rest other p q u v same = (refl, same)
one_way [] (b ∷ bs) rest other p q u v same = absurd (not_open b (frames bs ++ other) q.0 (subst BeginsNoFrame (same ∙ append_assoc (frame b) (frames bs) other) u))
one_way (a ∷ as') [] rest other p q u v same = absurd (not_open a (frames as' ++ rest) p.0 (subst BeginsNoFrame (sym same ∙ append_assoc (frame a) (frames as') rest) v))
one_way (a ∷ as') (b ∷ bs) rest other p q u v same =
    let first = same_frame a b (frames as' ++ rest) (frames bs ++ other) p.0 q.0 (sym (append_assoc (frame a) (frames as') rest) ∙ same ∙ append_assoc (frame b) (frames bs) other) in
    let more = one_way as' bs rest other p.1 q.1 u v first.1 in
    (ap (λ h. h ∷ as') first.0 ∙ ap (λ t. b ∷ t) more.0, more.1)

pub one_cut_only : (stream : List ℕ) (bodies others : List (List ℕ)) (rest other : List ℕ) → CutsInto stream bodies rest → CutsInto stream others other → (bodies ≡ others) × (rest ≡ other)
one_cut_only stream bodies others rest other p q = one_way bodies others rest other p.each q.each p.open_rest q.open_rest (sym p.whole ∙ q.whole)

-- ---- each stream of bytes has a cut

abbrev pub IsBytes : List ℕ → Type 0
IsBytes bytes = (i : ℕ) → get_or bytes i 0 < 256

abbrev Cut : List ℕ → Type 0
Cut stream = (bodies : List (List ℕ)) × (rest : List ℕ) × CutsInto stream bodies rest

alone : (stream : List ℕ) → (4 ≤ length stream → announced stream ≤ longest → length stream < 4 + announced stream) → Cut stream
alone stream h = ([], stream, record { whole = refl; each = tt; open_rest = record { short = h } })

bytes-take : (n : ℕ) (bytes : List ℕ) → IsBytes bytes → IsBytes (take n bytes)
bytes-take n bytes h i =
    elim (cases_lt i n) [
      | inl lt ↦ rw (get_or-take n bytes i 0 lt) (h i)
      | inr le ↦ rw (get_or_past (take n bytes) i 0 (omega (arith, length-take n bytes))) (omega arith)
    ]

bytes-drop : (n : ℕ) (bytes : List ℕ) → IsBytes bytes → IsBytes (drop n bytes)
bytes-drop n bytes h i = rw get_or-drop (h (n + i))

-- the first four bytes encode the announced length
spells : (stream : List ℕ) → IsBytes stream → 4 ≤ length stream → to_be_bytes w32 (announced stream) ≡ take 4 stream
unfolding announced
spells stream bytes long = be_bytes_4 (take 4 stream) (announced stream) (length-take-le 4 stream long) (bytes-take 4 stream bytes) refl

-- a stream that begins with a frame
frame_first : (stream : List ℕ) → IsBytes stream → 4 ≤ length stream → 4 + announced stream ≤ length stream
    → frame (take (announced stream) (drop 4 stream)) ++ drop (announced stream) (drop 4 stream) ≡ stream
unfolding frame
frame_first stream bytes long fits =
    let a = announced stream in
    let body : List ℕ = take a (drop 4 stream) in
    let after : List ℕ = drop a (drop 4 stream) in
    let size : length body ≡ a = length-take-le a (drop 4 stream) (omega (arith, length-drop 4 stream)) in
    let head : to_be_bytes w32 (length body) ≡ take 4 stream = ap (to_be_bytes w32) size ∙ spells stream bytes long in
    append_assoc (to_be_bytes w32 (length body)) body after
    ∙ ap (λ (t : List ℕ). t ++ (body ++ after)) head
    ∙ ap (λ (t : List ℕ). take 4 stream ++ t) (take-append-drop a (drop 4 stream))
    ∙ take-append-drop 4 stream

frame_more : (stream : List ℕ) → IsBytes stream → 4 ≤ length stream → announced stream ≤ longest → 4 + announced stream ≤ length stream
    → Cut (drop (announced stream) (drop 4 stream)) → Cut stream
frame_more stream bytes long small fits cut =
    let body : List ℕ = take (announced stream) (drop 4 stream) in
    let size = length-take-le (announced stream) (drop 4 stream) (omega (arith, length-drop 4 stream)) in (
      body ∷ cut.0,
      cut.1,
      record {
        whole = sym (frame_first stream bytes long fits) ∙ ap (λ (t : List ℕ). frame body ++ t) cut.2.whole ∙ sym (append_assoc (frame body) (frames cut.0) cut.1);
        each = (omega (arith, size), cut.2.each);
        open_rest = cut.2.open_rest;
      },
    )

cut_of : (most : ℕ) (stream : List ℕ) → length stream ≤ most → IsBytes stream → Cut stream
cut_of zero stream few bytes = alone stream (λ long. absurd (omega arith))
cut_of (suc most) stream few bytes = elim (cases_lt (length stream) 4) [
  | inl short ↦ alone stream (λ long. absurd (omega arith))
  | inr long ↦ elim (cases_lt longest (announced stream)) [
    | inl large ↦ alone stream (λ l small. absurd (omega arith))
    | inr small ↦ elim (cases_lt (length stream) (4 + announced stream)) [
      | inl part ↦ alone stream (λ l s. part)
      | inr whole ↦
          let after : List ℕ = drop (announced stream) (drop 4 stream) in
          let fewer : length after ≤ most = omega (arith, length-drop (announced stream) (drop 4 stream), length-drop 4 stream) in
          frame_more stream bytes long small whole (cut_of most after fewer (bytes-drop (announced stream) (drop 4 stream) (bytes-drop 4 stream bytes)))
    ]
  ]
]

pub has_cut_always : (stream : List ℕ) → IsBytes stream → Cut stream
has_cut_always stream bytes = cut_of (length stream) stream (omega arith) bytes

pub frame_begins : (a b more : List ℕ) → IsBody a → IsBody b → frame b ≡ frame a ++ more → a ≡ b
frame_begins a b more p q e = sym (same_frame b a [] more q p (append-nil (frame b) ∙ e)).0

-- ---- the cut continues after frames that were handed out

pub cut_from : (handed : List (List ℕ)) (stream pending : List ℕ) (bodies : List (List ℕ)) (rest : List ℕ) → stream ≡ frames handed ++ pending → AllByRecursion IsBody handed → CutsInto stream bodies rest
    → (more : List (List ℕ)) × (bodies ≡ handed ++ more) × CutsInto pending more rest
cut_from [] stream pending bodies rest same fits cut = (bodies, refl, record { whole = sym same ∙ cut.whole; each = cut.each; open_rest = cut.open_rest })
cut_from (h ∷ hs) stream pending [] rest same fits cut =
    absurd (not_open h (frames hs ++ pending) fits.0 (subst BeginsNoFrame (sym cut.whole ∙ same ∙ append_assoc (frame h) (frames hs) pending) cut.open_rest))
cut_from (h ∷ hs) stream pending (b ∷ bs) rest same fits cut =
    let parts = same_frame h b (frames hs ++ pending) (frames bs ++ rest) fits.0 cut.each.0
    (sym (append_assoc (frame h) (frames hs) pending) ∙ sym same ∙ cut.whole ∙ append_assoc (frame b) (frames bs) rest) in
    let on = cut_from hs (frames hs ++ pending) pending bs rest refl fits.1 (record { whole = parts.1; each = cut.each.1; open_rest = cut.open_rest }) in
    (on.0, ap (λ t. b ∷ t) on.1 ∙ ap (λ x. x ∷ (hs ++ on.0)) (sym parts.0), on.2)
