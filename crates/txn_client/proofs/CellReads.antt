-- Reads of cells one after the other.
use Rattle.std.proofs.Common.{◌≡◌, ◌∙◌, ℕ, ◌+◌, ◌≤◌, ◌⊎◌, inl, inr, [], ◌∷◌, ◌++◌, List, take, drop, length, length-append, get_or, ◌<◌, Option, sym, subst, ap, arith}
use Rattle.std.proofs.lemmas.List.{length-map, map-append}
use Rattle.cell_key.specs.Cells.{Cells}
use Rattle.cell_key.specs.declared.refusals.Refusal.{Refusal}
use Rattle.si_model.specs.AnswerLimits.{IsInReadLimits}
use Rattle.si_model.specs.Answers.{cell_named, cells_named, told_item, told_items}
use Rattle.si_model.specs.Machine.{Item}
use Rattle.si_model.specs.Transactions.{told_length, told_lengths}
use Rattle.si_model.specs.declared.replies.Cell.{Cell}
use Rattle.si_model.specs.declared.scans.ScanFound.{ScanFound}
use Rattle.si_model.specs.declared.transactions.CellName.{CellName}
use Rattle.txn_client.specs.CellReads.{AreRead, IsReadingRefusal, IsReadSo, IsRefusedAmong, IsShortOf}
use Rattle.si_model.specs.Takings.{IsNamed}
use Rattle.si_model.proofs.TakenWrites.{next_taken}

pub said_next : (old new : List (Option ScanFound)) (said : Option ScanFound) → new ≡ old ++ said ∷ [] → told_items new ≡ told_items old ++ told_item said ∷ []
said_next old new said is = ap told_items is ∙ map-append told_item old (said ∷ [])

lengths_more : (said : List (Option Item)) (one : Option Item) → told_lengths (said ++ one ∷ []) ≡ told_lengths said + told_length one
lengths_more [] one = omega arith
lengths_more (r ∷ rs) one = let more = lengths_more rs one in omega (arith, more)

module _ (cells : Cells) (s : ℕ) where
  pub reads_one_more : (xs : List Cell) (said : List (Option Item)) (used : ℕ) (x : Cell) (one : Option Item) → AreRead cells s used xs said → IsNamed x → IsReadSo cells s (used + told_lengths said) x one
      → AreRead cells s used (xs ++ x ∷ []) (said ++ one ∷ [])
  reads_one_more [] [] used x one h named read = let none : used + 0 ≡ used = omega arith in (named, subst (λ (n : ℕ). IsReadSo cells s n x one) none read, tt)
  reads_one_more [] (r ∷ rs) used x one h named read = absurd h
  reads_one_more (y ∷ ys) [] used x one h named read = absurd h
  reads_one_more (y ∷ ys) (r ∷ rs) used x one h named read =
      let sum : used + (told_length r + told_lengths rs) ≡ used + told_length r + told_lengths rs = omega arith in
      (h.0, h.1, reads_one_more ys rs (used + told_length r) x one h.2 named (subst (λ (n : ℕ). IsReadSo cells s n x one) sum read))

  -- the first i + 1 cells are read, if the first i are, and the next one is
  pub named_more : (names : List CellName) (i : ℕ) (d : CellName) (used : ℕ) (said new : List (Option Item)) (one : Option Item) (now : Cells) → i < length names → AreRead cells s 0 (cells_named (take i names)) said → used ≡ told_lengths said
      → IsNamed (cell_named (get_or names i d)) → now ≡ cells → IsReadSo now s used (cell_named (get_or names i d)) one → new ≡ said ++ one ∷ [] → AreRead cells s 0 (cells_named (take (i + 1) names)) new
  named_more names i d used said new one now less h count named same read is =
      let sum : used ≡ 0 + told_lengths said = omega (arith, count) in
      let more = reads_one_more (cells_named (take i names)) said 0 (cell_named (get_or names i d)) one h named (subst (λ (p : Cells × ℕ). IsReadSo p.0 s p.1 (cell_named (get_or names i d)) one) (λ j. (same j, sum j)) read) in
      let taken = ap cells_named (next_taken names i d less).0 ∙ map-append cell_named (take i names) (get_or names i d ∷ []) in
      subst (λ (p : List Cell × List (Option Item)). AreRead cells s 0 p.0 p.1) (λ j. (sym taken j, sym is j)) more

  pub refused_named : (names : List CellName) (i : ℕ) (d : CellName) (said : List (Option Item)) (e : Refusal) → i < length names → AreRead cells s 0 (cells_named (take i names)) said
      → IsReadingRefusal (cell_named (get_or names i d)) e → IsRefusedAmong cells s (cells_named names) e
  refused_named names i d said e less h why = record {
    before = cells_named (take i names);
    cell = cell_named (get_or names i d);
    after = cells_named (drop (i + 1) names);
    split = ap cells_named (next_taken names i d less).1 ∙ map-append cell_named (take i names) (get_or names i d ∷ drop (i + 1) names);
    said = said;
    read = h;
    why = why;
  }

-- the bytes of what is said, after one more cell
pub lengths_now : (used used' : ℕ) (said new : List (Option Item)) (one : Option Item) → used ≡ told_lengths said → new ≡ said ++ one ∷ [] → used' ≡ used + told_length one → used' ≡ told_lengths new
lengths_now used used' said new one count is more = more ∙ (ap (λ (n : ℕ). n + told_length one) count ∙ (sym (lengths_more said one) ∙ ap told_lengths (sym is)))

pub short_more : (old new : List (Option ScanFound)) (one : Option ScanFound) (b t b' : ℕ) → new ≡ old ++ one ∷ [] → IsShortOf (length old) b → (b + t ≤ 1046268) ⊎ (t ≤ 9) → b' ≡ b + t → IsShortOf (length new) b'
short_more old new one b t b' items had which is =
    let count : length new ≡ length old + 1 = ap (λ (l : List (Option ScanFound)). length l) items ∙ length-append old (one ∷ []) in
    elim which [
      | inl fits ↦ inr (omega (arith, fits, is, count))
      | inr few ↦ elim had [ inl low ↦ inl (omega (arith, low, few, is, count)) | inr low ↦ inr (omega (arith, low, few, is, count)) ]
    ]

pub short_answer : (found : List (Option ScanFound)) (i n b : ℕ) → length found ≡ i → i ≤ n → n ≤ 256 → b ≡ told_lengths (told_items found) → IsShortOf (length found) b → IsInReadLimits (told_items found)
short_answer found i n b count within most sum short =
    let same = length-map found told_item in (
      omega (arith, same, count, within, most),
      elim short [ inl low ↦ omega (arith, low, count, within, most, sum) | inr low ↦ omega (arith, low, count, within, most, sum) ],
    )
