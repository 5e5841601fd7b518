-- Several pieces, one after another.
use Rattle.std.proofs.Common.{◌≡◌, ℕ, zero, suc, ◌+◌, ◌-◌, ◌*◌, ◌/◌, ◌<◌, ◌≤◌, List, ◌++◌, length, take, drop, arith, sym, ap, ◌∙◌, append_assoc, append-nil, drop_at, length-append, refl}
use Rattle.std.proofs.lemmas.List.{take-append-drop, take-append-le, drop-append-le, length-drop, drop-drop, take_all}
use Rattle.file_sums.specs.Pieces.{piece, pieces, payload_at}

-- the payload of a piece within the front of a payload
within : (a b : List ℕ) (n : ℕ) → suc n * 1024 ≤ length a → payload_at (a ++ b) n ≡ payload_at a n
within a b n fits =
    ap (take 1024) (drop-append-le (n * 1024) a b (omega arith))
    ∙ take-append-le 1024 (drop (n * 1024) a) b (omega (arith, length-drop (n * 1024) a))

-- more payload leaves the whole pieces before it
pub pieces_front : (name first : ℕ) (a b : List ℕ) (n : ℕ) → n * 1024 ≤ length a → pieces name first (a ++ b) n ≡ pieces name first a n
pieces_front name first a b zero fits = refl
pieces_front name first a b (suc n) fits =
    ap (λ (l : List ℕ). l ++ piece name (first + n) (payload_at (a ++ b) n)) (pieces_front name first a b n (omega arith))
    ∙ ap (λ (l : List ℕ). pieces name first a n ++ piece name (first + n) l) (within a b n fits)

behind : (a b : List ℕ) (n : ℕ) → length a ≡ n * 1024 → length b ≤ 1024 → payload_at (a ++ b) n ≡ b
behind a b n whole fits = ap (take 1024) (drop_at a b (n * 1024) whole) ∙ take_all 1024 b fits

-- one more piece
pub pieces_more : (name first : ℕ) (a b : List ℕ) (n : ℕ) → length a ≡ n * 1024 → length b ≤ 1024
    → pieces name first (a ++ b) (n + 1) ≡ pieces name first a n ++ piece name (first + n) b
pieces_more name first a b n whole fits =
    let next : n + 1 ≡ suc n = omega arith in
    ap (pieces name first (a ++ b)) next
    ∙ ap (λ (l : List ℕ). l ++ piece name (first + n) (payload_at (a ++ b) n)) (pieces_front name first a b n (omega (arith, whole)))
    ∙ ap (λ (l : List ℕ). pieces name first a n ++ piece name (first + n) l) (behind a b n whole fits)

further : (p : List ℕ) (i n : ℕ) → payload_at p (i + n) ≡ payload_at (drop (i * 1024) p) n
further p i n =
    let far : (i + n) * 1024 ≡ i * 1024 + n * 1024 = omega arith in
    ap (λ (k : ℕ). take 1024 (drop k p)) far ∙ ap (take 1024) (sym (drop-drop (n * 1024) (i * 1024) p))

-- the pieces of a payload are its first ones, and those of the rest
pub pieces_join : (name first : ℕ) (p : List ℕ) (i n : ℕ)
    → pieces name first p (i + n) ≡ pieces name first p i ++ pieces name (first + i) (drop (i * 1024) p) n
pieces_join name first p i zero =
    let none : i + 0 ≡ i = omega arith in ap (pieces name first p) none ∙ sym (append-nil (pieces name first p i))
pieces_join name first p i (suc n) =
    let next : i + suc n ≡ suc (i + n) = omega arith in
    let place : first + (i + n) ≡ (first + i) + n = omega arith in
    ap (pieces name first p) next
    ∙ ap (λ (l : List ℕ). l ++ piece name (first + (i + n)) (payload_at p (i + n))) (pieces_join name first p i n)
    ∙ ap (λ (l : List ℕ). (pieces name first p i ++ pieces name (first + i) (drop (i * 1024) p) n) ++ piece name (first + (i + n)) l) (further p i n)
    ∙ ap (λ (k : ℕ). (pieces name first p i ++ pieces name (first + i) (drop (i * 1024) p) n) ++ piece name k (payload_at (drop (i * 1024) p) n)) place
    ∙ append_assoc (pieces name first p i) (pieces name (first + i) (drop (i * 1024) p) n) (piece name ((first + i) + n) (payload_at (drop (i * 1024) p) n))

-- ---- the steps of the loops

next_count : (first index : ℕ) → first ≤ index → (index + 1) - first ≡ suc (index - first)
next_count first index begun = omega arith

reached : (first index : ℕ) → first ≤ index → first + (index - first) ≡ index
reached first index begun = omega arith

pub one_cut : (name first index : ℕ) (p out rest front : List ℕ) → first ≤ index → out ≡ pieces name first p (index - first)
    → rest ≡ drop ((index - first) * 1024) p → front ≡ take 1024 rest → out ++ piece name index front ≡ pieces name first p ((index + 1) - first)
one_cut name first index p out rest front begun so_far left cut =
    ap (λ (l : List ℕ). l ++ piece name index front) so_far
    ∙ ap (λ (l : List ℕ). pieces name first p (index - first) ++ piece name index l) (cut ∙ ap (take 1024) left)
    ∙ ap (λ (i : ℕ). pieces name first p (index - first) ++ piece name i (payload_at p (index - first))) (sym (reached first index begun))
    ∙ ap (pieces name first p) (sym (next_count first index begun))

pub behind_cut : (first index : ℕ) (p rest : List ℕ) → first ≤ index → rest ≡ drop ((index - first) * 1024) p
    → drop 1024 rest ≡ drop (((index + 1) - first) * 1024) p
behind_cut first index p rest begun left =
    let far : (index - first) * 1024 + 1024 ≡ ((index + 1) - first) * 1024 = omega arith in
    ap (drop 1024) left ∙ drop-drop 1024 ((index - first) * 1024) p ∙ ap (λ (k : ℕ). drop k p) far

pub one_read : (name first index : ℕ) (bytes p found rest front behind : List ℕ) → first ≤ index → bytes ≡ pieces name first p (index - first) ++ rest
    → length p ≡ (index - first) * 1024 → length found ≤ 1024 → front ≡ take 1030 rest → behind ≡ drop 1030 rest → front ≡ piece name index found
    → bytes ≡ pieces name first (p ++ found) ((index + 1) - first) ++ behind
one_read name first index bytes p found rest front behinds begun so_far whole fits cut after is =
    let more : pieces name first (p ++ found) ((index + 1) - first) ≡ pieces name first p (index - first) ++ front =
    let next : (index + 1) - first ≡ (index - first) + 1 = omega arith in
    ap (pieces name first (p ++ found)) next ∙ pieces_more name first p found (index - first) whole fits
    ∙ ap (λ (i : ℕ). pieces name first p (index - first) ++ piece name i found) (reached first index begun)
    ∙ ap (λ (l : List ℕ). pieces name first p (index - first) ++ l) (sym is) in
    let back : front ++ behinds ≡ rest = ap (λ (l : List ℕ). l ++ behinds) cut ∙ ap (λ (l : List ℕ). take 1030 rest ++ l) after ∙ take-append-drop 1030 rest in
    so_far
    ∙ ap (λ (l : List ℕ). pieces name first p (index - first) ++ l) (sym back)
    ∙ sym (append_assoc (pieces name first p (index - first)) front behinds)
    ∙ ap (λ (l : List ℕ). l ++ behinds) (sym more)

pub last_cut : (name first m : ℕ) (p out rest : List ℕ) → out ≡ pieces name first p m → rest ≡ drop (m * 1024) p → length rest ≤ 1024
    → out ++ piece name (first + m) rest ≡ pieces name first p (m + 1)
last_cut name first m p out rest so_far left fits =
    let next : suc m ≡ m + 1 = omega arith in
    ap (λ (l : List ℕ). l ++ piece name (first + m) rest) so_far
    ∙ ap (λ (l : List ℕ). pieces name first p m ++ piece name (first + m) l) (sym (ap (take 1024) (sym left) ∙ take_all 1024 rest fits))
    ∙ ap (pieces name first p) next

pub last_read : (name first m : ℕ) (bytes p rest found : List ℕ) → length p ≡ m * 1024 → bytes ≡ pieces name first p m ++ rest
    → rest ≡ piece name (first + m) found → length found < 1024 → bytes ≡ pieces name first (p ++ found) (length (p ++ found) / 1024 + 1)
last_read name first m bytes p rest found whole so_far is fits =
    let count : m ≡ length (p ++ found) / 1024 = omega (arith, length-append p found, whole) in
    so_far
    ∙ ap (λ (l : List ℕ). pieces name first p m ++ l) is
    ∙ sym (pieces_more name first p found m whole (omega arith))
    ∙ ap (λ (k : ℕ). pieces name first (p ++ found) (k + 1)) count

pub behind_read : (first index : ℕ) (bytes rest : List ℕ) → first ≤ index → rest ≡ drop ((index - first) * 1030) bytes
    → drop 1030 rest ≡ drop (((index + 1) - first) * 1030) bytes
behind_read first index bytes rest begun left =
    let far : (index - first) * 1030 + 1030 ≡ ((index + 1) - first) * 1030 = omega arith in
    ap (drop 1030) left ∙ drop-drop 1030 ((index - first) * 1030) bytes ∙ ap (λ (k : ℕ). drop k bytes) far
