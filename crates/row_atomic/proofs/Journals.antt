-- A journal's bytes after a call.
use Rattle.std.proofs.Common.{◌≡◌, ◌≤◌, ◌+◌, ◌-◌, ℕ, List, ◌++◌, drop, length, take, sym, ap, subst, ◌∙◌, arith}
use Rattle.std.proofs.lemmas.List.{drop-append-le, drop-take, length-append, length-take-le, take-append-drop, take-append-le}
use Rattle.cell_key.specs.declared.edits.Edit.{Edit}
use Rattle.commit_log.specs.Edits.{spelled_edits}
use Rattle.row_atomic.specs.Journals.{JournalView, with_waiting}
use Rattle.std.proofs.Math.Seq.{take-add, take-append_seam, take-length}

-- the logged bytes and the waiting ones are all bytes
pub both_lengths : (s : ℕ) (bs : List ℕ) → length (take s bs) + length (drop s bs) ≡ length bs
both_lengths s bs = sym (length-append (take s bs) (drop s bs)) ∙ ap (λ (l : List ℕ). length l) (take-append-drop s bs)

pub all_first : (s : ℕ) (bs : List ℕ) → take (length bs) bs ≡ take s bs ++ drop s bs
all_first s bs = take-length bs ∙ sym (take-append-drop s bs)

-- bytes appended
pub first_stays : (s : ℕ) (bs more now : List ℕ) → s ≤ length bs → now ≡ bs ++ more → take s now ≡ take s bs
first_stays s bs more now within is = ap (take s) is ∙ take-append-le s bs more within

pub rest_grows : (s : ℕ) (bs more now : List ℕ) → s ≤ length bs → now ≡ bs ++ more → drop s now ≡ drop s bs ++ more
rest_grows s bs more now within is = ap (drop s) is ∙ drop-append-le s bs more within

-- bytes truncated
module _ (s n : ℕ) (bs : List ℕ) (less : s ≤ n) (within : s ≤ length bs) where
  parts : n ≡ s + (n - s)
  parts = omega arith

  pub first_kept : take s (take n bs) ≡ take s bs
  first_kept =
      let rest = take (n - s) (drop s bs) in
      ap (λ (k : ℕ). take s (take k bs)) parts ∙ (ap (take s) (take-add s (n - s) bs)
      ∙ subst (λ (k : ℕ). take k (take s bs ++ rest) ≡ take s bs) (length-take-le s bs within) (take-append_seam (take s bs) rest))

  pub rest_cut : drop s (take n bs) ≡ take (n - length (take s bs)) (drop s bs)
  rest_cut =
      ap (λ (k : ℕ). drop s (take k bs)) parts
      ∙ (drop-take s (n - s) bs ∙ ap (λ (k : ℕ). take (n - k) (drop s bs)) (sym (length-take-le s bs within)))

  pub still_within : s ≤ length (take n bs)
  still_within =
      let all : length (take s bs) ≡ s = length-take-le s bs within in
      let both : length (take n bs) ≡ length (take s bs ++ take (n - s) (drop s bs)) = ap (λ (k : ℕ). length (take k bs)) parts ∙ ap (λ (l : List ℕ). length l) (take-add s (n - s) bs) in
      let sum = length-append (take s bs) (take (n - s) (drop s bs)) in
      omega (arith, all, both, sum)

pub no_longer : (n : ℕ) (bs : List ℕ) → length (take n bs) ≤ length bs
no_longer n bs =
    let both = length-append (take n bs) (drop n bs) in
    let all : length (take n bs ++ drop n bs) ≡ length bs = ap (λ (l : List ℕ). length l) (take-append-drop n bs) in
    omega (arith, both, all)

-- the view of a journal
abbrev pub view_at : ℕ → List ℕ → ℕ → ℕ → JournalView
view_at s bs count bytes = record { logged = take s bs; waiting = drop s bs; count = count; entry_bytes = bytes }

pub cut_view : (s n count less bytes fewer : ℕ) (bs now : List ℕ) → now ≡ take n bs → s ≤ length bs → length (take s bs) ≤ n
    → view_at s now less fewer ≡ record (view_at s bs count bytes) { waiting = take (n - length (take s bs)) (drop s bs); count = less; entry_bytes = fewer }
cut_view s n count less bytes fewer bs now is within enough = ap (λ (l : List ℕ). view_at s l less fewer) is ∙ both
  where
    long : length (take s bs) ≡ s
    long = length-take-le s bs within

    below : s ≤ n
    below = let long = long in omega (arith, long, enough)

    both : view_at s (take n bs) less fewer ≡ record (view_at s bs count bytes) { waiting = take (n - length (take s bs)) (drop s bs); count = less; entry_bytes = fewer }
    both i = record { logged = first_kept s n bs below within i; waiting = rest_cut s n bs below within i; count = less; entry_bytes = fewer }

-- edits that were added are removed again
pub taken_back : (edits : List Edit) (journal pushed cut : JournalView) (len count bytes : ℕ) → pushed ≡ with_waiting edits journal → len ≡ length journal.logged + length journal.waiting → count ≡ journal.count → bytes ≡ journal.entry_bytes
    → cut ≡ record pushed { waiting = take (len - length pushed.logged) pushed.waiting; count = count; entry_bytes = bytes } → cut ≡ journal
taken_back edits journal pushed cut len count bytes is long counted measured became = became ∙ (ap (λ (j : JournalView). record j { waiting = take (len - length j.logged) j.waiting; count = count; entry_bytes = bytes }) is ∙ all)
  where
    rest : len - length journal.logged ≡ length journal.waiting
    rest = let long = long in omega (arith, long)

    back : take (len - length journal.logged) (journal.waiting ++ spelled_edits edits) ≡ journal.waiting
    back = ap (λ (n : ℕ). take n (journal.waiting ++ spelled_edits edits)) rest ∙ take-append_seam journal.waiting (spelled_edits edits)

    all : record (with_waiting edits journal) { waiting = take (len - length journal.logged) (journal.waiting ++ spelled_edits edits); count = count; entry_bytes = bytes } ≡ journal
    all i = record { logged = journal.logged; waiting = back i; count = counted i; entry_bytes = measured i }
