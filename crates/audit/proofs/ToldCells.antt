-- What a Read may say of cells.
use Rattle.std.proofs.Common.{◌≡◌, ◌≢◌, ◌∙◌, ℕ, suc, ◌+◌, ◌*◌, ◌<◌, ◌≤◌, inl, inr, ◌⊎◌, Bool, true, false, List, [], ◌∷◌, length, map, drop, get_or, Option, Some, None, refl, sym, subst, ap, arith}
use Rattle.std.specs.Prelude.{◌↔◌, IsTrue, is_some, Result, Ok, Err, IfOk}
use Rattle.std.specs.Prelude.{slice_get}
use Rattle.std.proofs.lemmas.Bool.{false≢true}
use Rattle.std.proofs.lemmas.Option.{same_Some, slice_get-get_or}
use Rattle.std.proofs.lemmas.List.{drop_all, drop_more}
use Rattle.cell_key.specs.declared.refusals.Refusal.{Refusal}
use Rattle.cell_key.specs.declared.refusals.Refusal.TheVariants.{BadRow, BadColumn, NoMemory}
use Rattle.si_model.specs.Answers.{cell_named, cells_named, told_item, told_items}
use Rattle.si_model.specs.Machine.{Reply, Item, Value, Valued, Locked, Unsent, IsSnapshot, Answered, Pending}
use Rattle.si_model.specs.Reads.{IsNameRefusal}
use Rattle.si_model.specs.Scans.{IsFreeAt}
use Rattle.si_model.specs.Sets.{◌∈◌}
use Rattle.si_model.specs.Transactions.{IsTold, has_nothing, is_sent, is_left_out, is_blocked, most_told, told_length}
use Rattle.si_model.specs.declared.replies.Cell.{Cell}
use Rattle.si_model.specs.declared.scans.ScanFound.{ScanFound}
use Rattle.si_model.specs.declared.transactions.CellName.{CellName}
use Rattle.audit.specs.Audits.{commit_of}
use Rattle.audit.specs.AuditOperations.{HasUnsent, MayRead, MayTell, MayTellAll, RefusesFirstName}
use Rattle.audit.specs.AuditRefusals.{RefusesName}
use Rattle.audit.specs.AuditScans.{HasValue, seen}
use Rattle.si_model.specs.Takings.{IsNamed}
use Rattle.audit.specs.declared.audit.Audit.{Audit}

-- ---- names

pub only_memory : (x : Cell) (n : Refusal) → IsNamed x → IsNameRefusal x n → n ≡ NoMemory
only_memory x BadRow named why = absurd (why named.0)
only_memory x BadColumn named why = absurd (why.1 named.1)
only_memory x NoMemory named why = refl
only_memory x _ named why = absurd why

pub no_name : (o : Option Refusal) (x : Cell) → is_some o ≡ true → RefusesName x o → ¬ IsNamed x
no_name None x is why named = cc
no_name (Some BadRow) x is why named = why named.0
no_name (Some BadColumn) x is why named = why.1 named.1
no_name (Some _) x is why named = absurd why

pub a_name : (o : Option Refusal) (x : Cell) → is_some o ≡ false → RefusesName x o → IsNamed x
a_name None x is why = why
a_name (Some n) x is why = absurd (cc)

-- the cells behind one with a valid name
pub named_next : (cells : List CellName) (i : ℕ) (d : CellName) (found : Option Refusal) → i < length cells → IsNamed (cell_named (get_or cells i d)) → RefusesFirstName (cells_named (drop (i + 1) cells)) found → RefusesFirstName (cells_named (drop i cells)) found
named_next cells i d found less named rest = subst (λ (l : List CellName). RefusesFirstName (cells_named l) found) (sym (drop_more cells i d less)) (inr (named, rest))

pub unnamed_here : (cells : List CellName) (i : ℕ) (d : CellName) (n : Refusal) → i < length cells → RefusesName (cell_named (get_or cells i d)) (Some n) → RefusesFirstName (cells_named (drop i cells)) (Some n)
unnamed_here cells i d n less why = subst (λ (l : List CellName). RefusesFirstName (cells_named l) (Some n)) (sym (drop_more cells i d less)) (inl (λ e. cc, why))

-- ---- one cell

module _ (old : Audit) (s used : ℕ) (x : Cell) where
  pub tells_not : (said : Option Item) → ¬ IsNamed x → IsTrue false ↔ MayTell old s used x said
  tells_not said not = (λ t. absurd (false≢true t), λ may. absurd (not may.named))

  abbrev MayFind : Option Value → Type 0
  MayFind answer = IsFreeAt (seen old) s x × IsSnapshot (map commit_of old.commits) s x answer

  nothing_of : {reply : Reply} → IsTold used reply None → MayRead (seen old) s x reply → MayFind None
  nothing_of has_nothing read = read

  sent_of : {reply : Reply} {v : Value} → IsTold used reply (Some (Valued v)) → MayRead (seen old) s x reply → (used + told_length (Some (Valued v)) ≤ most_told) × MayFind (Some v)
  sent_of (is_sent few) read = (few, read)

  blocked_of : {reply : Reply} {t : ℕ} → IsTold used reply (Some (Locked t)) → MayRead (seen old) s x reply → ((x, t) ∈ old.marks) × (t ≤ s)
  blocked_of is_blocked read = read

  left_out_of : {reply : Reply} → IsTold used reply (Some Unsent) → MayRead (seen old) s x reply → IsFreeAt (seen old) s x × HasUnsent old s used x
  left_out_of (is_left_out {value = v} many) read = (read.0, (v, read.1, many))

  module _ (named : IsNamed x) (b : Bool) where
    pub tells_none : (IsTrue b ↔ MayFind None) → IsTrue b ↔ MayTell old s used x None
    tells_none is = (λ t. record { named = named; reply = Answered None; read = is.0 t; told = has_nothing }, λ may. is.1 (nothing_of may.told may.read))

    pub tells_value : (v : Value) → used + told_length (Some (Valued v)) ≤ most_told → (IsTrue b ↔ MayFind (Some v)) → IsTrue b ↔ MayTell old s used x (Some (Valued v))
    tells_value v few is = (λ t. record { named = named; reply = Answered (Some v); read = is.0 t; told = is_sent few }, λ may. is.1 (sent_of may.told may.read).1)

    pub tells_lock : (t : ℕ) → t ≤ s → (IsTrue b ↔ ((x, t) ∈ old.marks)) → IsTrue b ↔ MayTell old s used x (Some (Locked t))
    tells_lock t low is = (λ h. record { named = named; reply = Pending t; read = (is.0 h, low); told = is_blocked }, λ may. is.1 (blocked_of may.told may.read).0)

    pub tells_unsent : (IsTrue b ↔ (IsFreeAt (seen old) s x × HasUnsent old s used x)) → IsTrue b ↔ MayTell old s used x (Some Unsent)
    tells_unsent is = (λ t. let h = is.0 t in record { named = named; reply = Answered (Some h.1.0); read = (h.0, h.1.1); told = is_left_out h.1.2 }, λ may. is.1 (left_out_of may.told may.read))

  pub unsent_is : (b : Bool) (least : ℕ) → IsFreeAt (seen old) s x → (IsTrue b ↔ HasValue (map commit_of old.commits) s x least) → ((v : Value) → (least ≤ length v) ↔ (most_told < used + told_length (Some (Valued v)))) → IsTrue b ↔ (IsFreeAt (seen old) s x × HasUnsent old s used x)
  unsent_is b least free is long = (λ t. let h = is.0 t in (free, (h.0, h.2, (long h.0).0 h.1)), λ p. is.1 (p.1.0, (long p.1.0).1 p.1.2, p.1.1))

  pub leaves_out : IsNamed x → (r : Result Bool Refusal) → IfOk r (λ b. IsTrue b ↔ (IsFreeAt (seen old) s x × HasUnsent old s used x)) → IfOk r (λ b. IsTrue b ↔ MayTell old s used x (Some Unsent))
  leaves_out named (Ok b) is = tells_unsent named b is
  leaves_out named (Err e) is = tt

  told_few : {reply : Reply} {said : Option Item} → IsTold used reply said → (used + told_length said ≤ most_told) ⊎ (told_length said ≤ 9)
  told_few has_nothing = inr (omega arith)
  told_few (is_sent few) = inl few
  told_few (is_left_out many) = inr (omega arith)
  told_few is_blocked = inr (omega arith)

  pub few_told : (said : Option Item) → MayTell old s used x said → (used + told_length said ≤ most_told) ⊎ (told_length said ≤ 9)
  few_told said may = told_few may.told

-- ---- all cells

module _ (old : Audit) (s : ℕ) (cells : List CellName) (found : List (Option ScanFound)) where
  abbrev pub TellsFrom : ℕ → ℕ → Type 0
  TellsFrom used i = MayTellAll old s used (cells_named (drop i cells)) (told_items (drop i found))

  pub tells_here : (used i : ℕ) (c : CellName) (r : Option ScanFound) → i < length cells → i < length found → TellsFrom used i
      ↔ (MayTell old s used (cell_named (get_or cells i c)) (told_item (get_or found i r)) × TellsFrom (used + told_length (told_item (get_or found i r))) (i + 1))
  tells_here used i c r less less' =
      subst (λ (p : List CellName × List (Option ScanFound)). MayTellAll old s used (cells_named p.0) (told_items p.1)
      ↔ (MayTell old s used (cell_named (get_or cells i c)) (told_item (get_or found i r)) × TellsFrom (used + told_length (told_item (get_or found i r))) (i + 1)))
      (λ j. (sym (drop_more cells i c less) j, sym (drop_more found i r less') j)) (λ h. h, λ h. h)

  pub tells_end : (used i : ℕ) → length cells ≤ i → length cells ≡ length found → TellsFrom used i
  tells_end used i past same = subst (λ (p : List CellName × List (Option ScanFound)). MayTellAll old s used (cells_named p.0) (told_items p.1)) (λ j. (sym (drop_all i cells past) j, sym (drop_all i found (omega (arith, past, same))) j)) tt

  told_length_is : (xs : List CellName) (rs : List (Option ScanFound)) (used : ℕ) → MayTellAll old s used (cells_named xs) (told_items rs) → length xs ≡ length rs
  told_length_is [] [] used h = refl
  told_length_is [] (r ∷ rs) used h = absurd h
  told_length_is (x ∷ xs) [] used h = absurd h
  told_length_is (x ∷ xs) (r ∷ rs) used h = ap suc (told_length_is xs rs _ h.1)

  pub other_length : length cells ≢ length found → IsTrue false ↔ MayTellAll old s 0 (cells_named cells) (told_items found)
  other_length ne = (λ t. absurd (false≢true t), λ may. absurd (ne (told_length_is cells found 0 may)))

  -- one cell more is told
  pub next_told : (used i n : ℕ) (c : CellName) (r : Option ScanFound) → i < length cells → length cells ≡ length found → slice_get found i ≡ Some r → MayTell old s used (cell_named (get_or cells i c)) (told_item r) → n ≡ told_length (told_item r)
      → (TellsFrom used i ↔ MayTellAll old s 0 (cells_named cells) (told_items found)) → TellsFrom (used + n) (i + 1) ↔ MayTellAll old s 0 (cells_named cells) (told_items found)
  next_told used i n c r less same is may bytes inv =
      let less' : i < length found = omega (arith, less, same) in
      let at : get_or found i r ≡ r = same_Some (get_or found i r) r (sym (slice_get-get_or found i r less') ∙ is) in
      let here = subst (λ (q : Option ScanFound). TellsFrom used i ↔ (MayTell old s used (cell_named (get_or cells i c)) (told_item q) × TellsFrom (used + told_length (told_item q)) (i + 1))) at (tells_here used i c r less less') in
      subst (λ (m : ℕ). TellsFrom (used + m) (i + 1) ↔ MayTellAll old s 0 (cells_named cells) (told_items found)) (sym bytes)
      (λ h. inv.0 (here.1 (may, h)), λ h. (here.0 (inv.1 h)).1)

  pub next_few : (used i n : ℕ) (x : Cell) (r : Option ScanFound) → MayTell old s used x (told_item r) → n ≡ told_length (told_item r) → used ≤ 1046268 + 9 * i → used + n ≤ 1046268 + 9 * (i + 1)
  next_few used i n x r may bytes few = elim (few_told old s used x (told_item r) may) [
    | inl low ↦ omega (arith, low, bytes)
    | inr short ↦ omega (arith, short, bytes, few)
  ]
