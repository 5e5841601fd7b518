-- A body has one request.
use Rattle.std.proofs.Common.{◌≡◌, ℕ, ◌<◌, ◌^◌, Bool, List, [], ◌∷◌, ◌++◌, refl, sym, ap, subst, ◌∙◌, drop, arith}
use Rattle.cell_key.specs.declared.keys.Qualifier.{Qualifier}
use Rattle.si_model.specs.declared.replies.Cell.{Cell}
use Rattle.si_model.specs.Messages.{Range, Request, Begin, Get, ScanFrom, Set, Delete, Advance, Stop, CleanBegin, CleanStep, CollectBegin, CollectStep, Minor, Merge, Major, Split, Move, Sweep, OracleRestart, Raw, Checkpoint, Status}
use Rattle.request_codec.specs.Fields.{number, field, cell_fields, qualifier_number, FitsField, FitsCell}
use Rattle.request_codec.specs.Requests.{request_body, IsRequest}
use Rattle.request_codec.specs.Scans.{flag_number, range_fields, FitsRange}
use Rattle.request_codec.proofs.Scans.{same_flag, same_range}
use Rattle.request_codec.proofs.Fields.{same_number, past_number, same_field, same_cell, same_qualifier, first}

-- one number, cell or field alone
pub lone_number : (m n : ℕ) → m < 2 ^ 64 → n < 2 ^ 64 → number 8 m ≡ number 8 n → m ≡ n
lone_number m n p q e = same_number 8 m n [] [] p q (ap (λ (t : List ℕ). t ++ []) e)

pub lone_tablet : (m n : ℕ) → m < 2 ^ 32 → n < 2 ^ 32 → number 4 m ≡ number 4 n → m ≡ n
lone_tablet m n p q e = same_number 4 m n [] [] p q (ap (λ (t : List ℕ). t ++ []) e)

lone_cell : (a b : Cell) → FitsCell a → FitsCell b → cell_fields a ≡ cell_fields b → a ≡ b
lone_cell a b p q e = (same_cell a b [] [] p q (ap (λ (t : List ℕ). t ++ []) e)).0

pub lone_field : (a b : List ℕ) → FitsField a → FitsField b → field a ≡ field b → a ≡ b
lone_field a b p q e = (same_field a b [] [] p q (ap (λ (t : List ℕ). t ++ []) e)).0

-- ---- the request of each operation's number

begin_only : (r : Request) (f : List ℕ) → IsRequest r (0x01 ∷ f) → r ≡ Begin
begin_only Begin f p = refl
begin_only other f p = let e = ap first p.whole in absurd (omega (arith, e))

restart_only : (r : Request) (f : List ℕ) → IsRequest r (0x10 ∷ f) → r ≡ OracleRestart
restart_only OracleRestart f p = refl
restart_only other f p = let e = ap first p.whole in absurd (omega (arith, e))

checkpoint_only : (r : Request) (f : List ℕ) → IsRequest r (0x12 ∷ f) → r ≡ Checkpoint
checkpoint_only Checkpoint f p = refl
checkpoint_only other f p = let e = ap first p.whole in absurd (omega (arith, e))

-- a start and a cell
record AsOfCell (r : Request) (made : ℕ → Cell → Request) (f : List ℕ) : Type 0 where
  start : ℕ
  cell : Cell
  fits : start < 2 ^ 64
  cell_fits : FitsCell cell
  is : r ≡ made start cell
  fields : f ≡ number 8 start ++ cell_fields cell

get_only : (r : Request) (f : List ℕ) → IsRequest r (0x02 ∷ f) → AsOfCell r (λ start cell. Get start cell) f
get_only (Get start cell) f p = record { start = start; cell = cell; fits = p.numbers; cell_fits = p.bytes; is = refl; fields = ap (drop 1) p.whole }
get_only other f p = let e = ap first p.whole in absurd (omega (arith, e))

delete_only : (r : Request) (f : List ℕ) → IsRequest r (0x13 ∷ f) → AsOfCell r (λ start cell. Delete start cell) f
delete_only (Delete start cell) f p = record { start = start; cell = cell; fits = p.numbers; cell_fits = p.bytes; is = refl; fields = ap (drop 1) p.whole }
delete_only other f p = let e = ap first p.whole in absurd (omega (arith, e))

record AsScan (r : Request) (f : List ℕ) : Type 0 where
  start : ℕ
  keys_only : Bool
  range : Range
  cells : ℕ
  fits : start < 2 ^ 64
  cells_fit : cells < 2 ^ 32
  range_fits : FitsRange range
  is : r ≡ ScanFrom start range keys_only cells
  fields : f ≡ number 8 start ++ (flag_number keys_only ∷ (range_fields range ++ number 4 cells))

scan_only : (r : Request) (f : List ℕ) → IsRequest r (0x31 ∷ f) → AsScan r f
scan_only (ScanFrom start range keys_only cells) f p =
    record { start = start; keys_only = keys_only; range = range; cells = cells; fits = p.numbers.0; cells_fit = p.numbers.1; range_fits = p.bytes; is = refl; fields = ap (drop 1) p.whole }
scan_only other f p = let e = ap first p.whole in absurd (omega (arith, e))

record AsSet (r : Request) (f : List ℕ) : Type 0 where
  start : ℕ
  cell : Cell
  value : List ℕ
  fits : start < 2 ^ 64
  cell_fits : FitsCell cell
  value_fits : FitsField value
  is : r ≡ Set start cell value
  fields : f ≡ number 8 start ++ (cell_fields cell ++ field value)

set_only : (r : Request) (f : List ℕ) → IsRequest r (0x03 ∷ f) → AsSet r f
set_only (Set start cell value) f p =
    record { start = start; cell = cell; value = value; fits = p.numbers; cell_fits = p.bytes.0; value_fits = p.bytes.1; is = refl; fields = ap (drop 1) p.whole }
set_only other f p = let e = ap first p.whole in absurd (omega (arith, e))

record AsNumber (r : Request) (made : ℕ → Request) (f : List ℕ) : Type 0 where
  start : ℕ
  fits : start < 2 ^ 64
  is : r ≡ made start
  fields : f ≡ number 8 start

step_only : (r : Request) (f : List ℕ) → IsRequest r (0x04 ∷ f) → AsNumber r (λ start. Advance start) f
step_only (Advance start) f p = record { start = start; fits = p.numbers; is = refl; fields = ap (drop 1) p.whole }
step_only other f p = let e = ap first p.whole in absurd (omega (arith, e))

stop_only : (r : Request) (f : List ℕ) → IsRequest r (0x05 ∷ f) → AsNumber r (λ start. Stop start) f
stop_only (Stop start) f p = record { start = start; fits = p.numbers; is = refl; fields = ap (drop 1) p.whole }
stop_only other f p = let e = ap first p.whole in absurd (omega (arith, e))

record AsCell (r : Request) (f : List ℕ) : Type 0 where
  cell : Cell
  fits : FitsCell cell
  is : r ≡ CleanBegin cell
  fields : f ≡ cell_fields cell

clean_begin_only : (r : Request) (f : List ℕ) → IsRequest r (0x06 ∷ f) → AsCell r f
clean_begin_only (CleanBegin cell) f p = record { cell = cell; fits = p.bytes; is = refl; fields = ap (drop 1) p.whole }
clean_begin_only other f p = let e = ap first p.whole in absurd (omega (arith, e))

clean_step_only : (r : Request) (f : List ℕ) → IsRequest r (0x07 ∷ f) → AsNumber r (λ cleaner. CleanStep cleaner) f
clean_step_only (CleanStep cleaner) f p = record { start = cleaner; fits = p.numbers; is = refl; fields = ap (drop 1) p.whole }
clean_step_only other f p = let e = ap first p.whole in absurd (omega (arith, e))

collect_begin_only : (r : Request) (f : List ℕ) → IsRequest r (0x08 ∷ f) → r ≡ CollectBegin
collect_begin_only CollectBegin f p = refl
collect_begin_only other f p = let e = ap first p.whole in absurd (omega (arith, e))

record AsVisits (r : Request) (f : List ℕ) : Type 0 where
  collector : ℕ
  visits : ℕ
  fits : collector < 2 ^ 64
  visits_fit : visits < 2 ^ 32
  is : r ≡ CollectStep collector visits
  fields : f ≡ number 8 collector ++ number 4 visits

collect_step_only : (r : Request) (f : List ℕ) → IsRequest r (0x09 ∷ f) → AsVisits r f
collect_step_only (CollectStep collector visits) f p =
    record { collector = collector; visits = visits; fits = p.numbers.0; visits_fit = p.numbers.1; is = refl; fields = ap (drop 1) p.whole }
collect_step_only other f p = let e = ap first p.whole in absurd (omega (arith, e))

record AsTablet (r : Request) (made : ℕ → Request) (f : List ℕ) : Type 0 where
  tablet : ℕ
  fits : tablet < 2 ^ 32
  is : r ≡ made tablet
  fields : f ≡ number 4 tablet

minor_only : (r : Request) (f : List ℕ) → IsRequest r (0x0A ∷ f) → AsTablet r (λ tablet. Minor tablet) f
minor_only (Minor tablet) f p = record { tablet = tablet; fits = p.numbers; is = refl; fields = ap (drop 1) p.whole }
minor_only other f p = let e = ap first p.whole in absurd (omega (arith, e))

major_only : (r : Request) (f : List ℕ) → IsRequest r (0x0C ∷ f) → AsTablet r (λ tablet. Major tablet) f
major_only (Major tablet) f p = record { tablet = tablet; fits = p.numbers; is = refl; fields = ap (drop 1) p.whole }
major_only other f p = let e = ap first p.whole in absurd (omega (arith, e))

status_only : (r : Request) (f : List ℕ) → IsRequest r (0x34 ∷ f) → AsTablet r (λ tablet. Status tablet) f
status_only (Status tablet) f p = record { tablet = tablet; fits = p.numbers; is = refl; fields = ap (drop 1) p.whole }
status_only other f p = let e = ap first p.whole in absurd (omega (arith, e))

-- a tablet, and a number of k bytes
record AsTwo (r : Request) (made : ℕ → ℕ → Request) (k : ℕ) (f : List ℕ) : Type 0 where
  tablet : ℕ
  other : ℕ
  fits : tablet < 2 ^ 32
  other_fits : other < 256 ^ k
  is : r ≡ made tablet other
  fields : f ≡ number 4 tablet ++ number k other

merge_only : (r : Request) (f : List ℕ) → IsRequest r (0x0B ∷ f) → AsTwo r (λ tablet count. Merge tablet count) 4 f
merge_only (Merge tablet count) f p =
    record { tablet = tablet; other = count; fits = p.numbers.0; other_fits = p.numbers.1; is = refl; fields = ap (drop 1) p.whole }
merge_only other f p = let e = ap first p.whole in absurd (omega (arith, e))

move_only : (r : Request) (f : List ℕ) → IsRequest r (0x0E ∷ f) → AsTwo r (λ tablet server. Move tablet server) 1 f
move_only (Move tablet server) f p =
    record { tablet = tablet; other = server; fits = p.numbers.0; other_fits = p.numbers.1; is = refl; fields = ap (drop 1) p.whole }
move_only other f p = let e = ap first p.whole in absurd (omega (arith, e))

record AsSplit (r : Request) (f : List ℕ) : Type 0 where
  row : List ℕ
  fits : FitsField row
  is : r ≡ Split row
  fields : f ≡ field row

split_only : (r : Request) (f : List ℕ) → IsRequest r (0x0D ∷ f) → AsSplit r f
split_only (Split row) f p = record { row = row; fits = p.bytes; is = refl; fields = ap (drop 1) p.whole }
split_only other f p = let e = ap first p.whole in absurd (omega (arith, e))

sweep_only : (r : Request) (f : List ℕ) → IsRequest r (0x0F ∷ f) → r ≡ Sweep
sweep_only Sweep f p = refl
sweep_only other f p = let e = ap first p.whole in absurd (omega (arith, e))

record AsRaw (r : Request) (f : List ℕ) : Type 0 where
  cell : Cell
  qualifier : Qualifier
  low : ℕ
  high : ℕ
  cell_fits : FitsCell cell
  low_fits : low < 2 ^ 64
  high_fits : high < 2 ^ 64
  is : r ≡ Raw cell qualifier low high
  fields : f ≡ cell_fields cell ++ (number 1 (qualifier_number qualifier) ++ (number 8 low ++ number 8 high))

raw_only : (r : Request) (f : List ℕ) → IsRequest r (0x11 ∷ f) → AsRaw r f
raw_only (Raw cell qualifier low high) f p =
    record { cell = cell; qualifier = qualifier; low = low; high = high; cell_fits = p.bytes; low_fits = p.numbers.0; high_fits = p.numbers.1; is = refl; fields = ap (drop 1) p.whole }
raw_only other f p = let e = ap first p.whole in absurd (omega (arith, e))

-- ---- two requests with the same body

same_of_cell : (made : ℕ → Cell → Request) (start : ℕ) (cell : Cell) (b : Request) → start < 2 ^ 64 → FitsCell cell → AsOfCell b made (number 8 start ++ cell_fields cell) → made start cell ≡ b
same_of_cell made start cell b fits cell_fits g =
    let n = same_number 8 start g.start (cell_fields cell) (cell_fields g.cell) fits g.fits g.fields in
    let c = lone_cell cell g.cell cell_fits g.cell_fits (past_number 8 start g.start (cell_fields cell) (cell_fields g.cell) g.fields) in
    ap (λ m. made m cell) n ∙ ap (λ d. made g.start d) c ∙ sym g.is

same_scan : (start : ℕ) (range : Range) (keys_only : Bool) (cells : ℕ) (b : Request) → start < 2 ^ 64 → FitsRange range → cells < 2 ^ 32
    → AsScan b (number 8 start ++ (flag_number keys_only ∷ (range_fields range ++ number 4 cells))) → ScanFrom start range keys_only cells ≡ b
same_scan start range keys_only cells b fits range_fits cells_fit g =
    let behind = flag_number keys_only ∷ (range_fields range ++ number 4 cells) in
    let other = flag_number g.keys_only ∷ (range_fields g.range ++ number 4 g.cells) in
    let s = same_number 8 start g.start behind other fits g.fits g.fields in
    let rest = past_number 8 start g.start behind other g.fields in
    let k = same_flag keys_only g.keys_only (ap first rest) in
    let r = same_range range g.range (number 4 cells) (number 4 g.cells) range_fits g.range_fits (ap (drop 1) rest) in
    let n = lone_tablet cells g.cells cells_fit g.cells_fit r.1 in
    ap (λ m. ScanFrom m range keys_only cells) s ∙ ap (λ m. ScanFrom g.start m keys_only cells) r.0 ∙ ap (λ m. ScanFrom g.start g.range m cells) k ∙ ap (λ m. ScanFrom g.start g.range g.keys_only m) n ∙ sym g.is

same_set : (start : ℕ) (cell : Cell) (value : List ℕ) (b : Request) → start < 2 ^ 64 → FitsCell cell → FitsField value → IsRequest b (request_body (Set start cell value)) → Set start cell value ≡ b
same_set start cell value b fits cell_fits value_fits q =
    let g = set_only b (number 8 start ++ (cell_fields cell ++ field value)) q in
    let n = same_number 8 start g.start (cell_fields cell ++ field value) (cell_fields g.cell ++ field g.value) fits g.fits g.fields in
    let rest = past_number 8 start g.start (cell_fields cell ++ field value) (cell_fields g.cell ++ field g.value) g.fields in
    let c = same_cell cell g.cell (field value) (field g.value) cell_fits g.cell_fits rest in
    let v = lone_field value g.value value_fits g.value_fits c.1 in
    ap (λ m. Set m cell value) n ∙ ap (λ d. Set g.start d value) c.0 ∙ ap (λ w. Set g.start g.cell w) v ∙ sym g.is

same_two : (made : ℕ → ℕ → Request) (k m n : ℕ) (b : Request) → m < 2 ^ 32 → n < 256 ^ k → AsTwo b made k (number 4 m ++ number k n) → made m n ≡ b
same_two made k m n b m_fits n_fits g =
    let tablet = same_number 4 m g.tablet (number k n) (number k g.other) m_fits g.fits g.fields in
    let rest = past_number 4 m g.tablet (number k n) (number k g.other) g.fields in
    let other = same_number k n g.other [] [] n_fits g.other_fits (ap (λ (t : List ℕ). t ++ []) rest) in
    ap (λ x. made x n) tablet ∙ ap (λ x. made g.tablet x) other ∙ sym g.is

same_visits : (collector visits : ℕ) (b : Request) → collector < 2 ^ 64 → visits < 2 ^ 32 → AsVisits b (number 8 collector ++ number 4 visits) → CollectStep collector visits ≡ b
same_visits collector visits b fits visits_fit g =
    let c = same_number 8 collector g.collector (number 4 visits) (number 4 g.visits) fits g.fits g.fields in
    let v = lone_tablet visits g.visits visits_fit g.visits_fit (past_number 8 collector g.collector (number 4 visits) (number 4 g.visits) g.fields) in
    ap (λ n. CollectStep n visits) c ∙ ap (λ n. CollectStep g.collector n) v ∙ sym g.is

same_raw : (cell : Cell) (qualifier : Qualifier) (low high : ℕ) (b : Request) → FitsCell cell → low < 2 ^ 64 → high < 2 ^ 64 → IsRequest b (request_body (Raw cell qualifier low high)) → Raw cell qualifier low high ≡ b
same_raw cell qualifier low high b cell_fits low_fits high_fits q =
    let g = raw_only b (cell_fields cell ++ (number 1 (qualifier_number qualifier) ++ (number 8 low ++ number 8 high))) q in
    let c = same_cell cell g.cell (number 1 (qualifier_number qualifier) ++ (number 8 low ++ number 8 high)) (number 1 (qualifier_number g.qualifier) ++ (number 8 g.low ++ number 8 g.high)) cell_fits g.cell_fits g.fields in
    let s = same_qualifier qualifier g.qualifier (number 8 low ++ number 8 high) (number 8 g.low ++ number 8 g.high) c.1 in
    let l = same_number 8 low g.low (number 8 high) (number 8 g.high) low_fits g.low_fits s.1 in
    let h = lone_number high g.high high_fits g.high_fits (past_number 8 low g.low (number 8 high) (number 8 g.high) s.1) in
    ap (λ d. Raw d qualifier low high) c.0 ∙ ap (λ k. Raw g.cell k low high) s.0 ∙ ap (λ n. Raw g.cell g.qualifier n high) l ∙ ap (λ n. Raw g.cell g.qualifier g.low n) h ∙ sym g.is

pub one_request : (a b : Request) (body : List ℕ) → IsRequest a body → IsRequest b body → a ≡ b
one_request Begin b body p q = sym (begin_only b [] (subst (IsRequest b) p.whole q))
one_request (Get start cell) b body p q =
    same_of_cell (λ s c. Get s c) start cell b p.numbers p.bytes (get_only b (number 8 start ++ cell_fields cell) (subst (IsRequest b) p.whole q))
one_request (ScanFrom start range keys_only cells) b body p q =
    same_scan start range keys_only cells b p.numbers.0 p.bytes p.numbers.1
    (scan_only b (number 8 start ++ (flag_number keys_only ∷ (range_fields range ++ number 4 cells))) (subst (IsRequest b) p.whole q))
one_request (Delete start cell) b body p q =
    same_of_cell (λ s c. Delete s c) start cell b p.numbers p.bytes (delete_only b (number 8 start ++ cell_fields cell) (subst (IsRequest b) p.whole q))
one_request (Set start cell value) b body p q = same_set start cell value b p.numbers p.bytes.0 p.bytes.1 (subst (IsRequest b) p.whole q)
one_request (Advance start) b body p q =
    let g = step_only b (number 8 start) (subst (IsRequest b) p.whole q) in
    ap (λ n. Advance n) (lone_number start g.start p.numbers g.fits g.fields) ∙ sym g.is
one_request (Stop start) b body p q =
    let g = stop_only b (number 8 start) (subst (IsRequest b) p.whole q) in
    ap (λ n. Stop n) (lone_number start g.start p.numbers g.fits g.fields) ∙ sym g.is
one_request (CleanBegin cell) b body p q =
    let g = clean_begin_only b (cell_fields cell) (subst (IsRequest b) p.whole q) in
    ap (λ c. CleanBegin c) (lone_cell cell g.cell p.bytes g.fits g.fields) ∙ sym g.is
one_request (CleanStep cleaner) b body p q =
    let g = clean_step_only b (number 8 cleaner) (subst (IsRequest b) p.whole q) in
    ap (λ n. CleanStep n) (lone_number cleaner g.start p.numbers g.fits g.fields) ∙ sym g.is
one_request CollectBegin b body p q = sym (collect_begin_only b [] (subst (IsRequest b) p.whole q))
one_request (CollectStep collector visits) b body p q =
    same_visits collector visits b p.numbers.0 p.numbers.1 (collect_step_only b (number 8 collector ++ number 4 visits) (subst (IsRequest b) p.whole q))
one_request OracleRestart b body p q = sym (restart_only b [] (subst (IsRequest b) p.whole q))
one_request (Minor tablet) b body p q =
    let g = minor_only b (number 4 tablet) (subst (IsRequest b) p.whole q) in
    ap (λ n. Minor n) (lone_tablet tablet g.tablet p.numbers g.fits g.fields) ∙ sym g.is
one_request (Merge tablet count) b body p q =
    same_two (λ x y. Merge x y) 4 tablet count b p.numbers.0 p.numbers.1 (merge_only b (number 4 tablet ++ number 4 count) (subst (IsRequest b) p.whole q))
one_request (Major tablet) b body p q =
    let g = major_only b (number 4 tablet) (subst (IsRequest b) p.whole q) in
    ap (λ n. Major n) (lone_tablet tablet g.tablet p.numbers g.fits g.fields) ∙ sym g.is
one_request (Split row) b body p q =
    let g = split_only b (field row) (subst (IsRequest b) p.whole q) in
    ap (λ r. Split r) (lone_field row g.row p.bytes g.fits g.fields) ∙ sym g.is
one_request (Move tablet server) b body p q =
    same_two (λ x y. Move x y) 1 tablet server b p.numbers.0 p.numbers.1 (move_only b (number 4 tablet ++ number 1 server) (subst (IsRequest b) p.whole q))
one_request Sweep b body p q = sym (sweep_only b [] (subst (IsRequest b) p.whole q))
one_request (Raw cell qualifier low high) b body p q = same_raw cell qualifier low high b p.bytes p.numbers.0 p.numbers.1 (subst (IsRequest b) p.whole q)
one_request Checkpoint b body p q = sym (checkpoint_only b [] (subst (IsRequest b) p.whole q))
one_request (Status tablet) b body p q =
    let g = status_only b (number 4 tablet) (subst (IsRequest b) p.whole q) in
    ap (λ n. Status n) (lone_tablet tablet g.tablet p.numbers g.fits g.fields) ∙ sym g.is
