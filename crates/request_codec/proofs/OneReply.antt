-- A body has one reply.
use Rattle.std.proofs.Common.{◌≡◌, ℕ, ◌<◌, ◌^◌, ◌-◌, List, [], ◌∷◌, ◌++◌, length, get_or, Some, None, refl, sym, ap, subst, drop, arith, ◌∙◌}
use Rattle.cell_key.specs.Names.{IsRow, IsFamily}
use Rattle.cell_key.specs.Refusals.{refusal_number}
use Rattle.cell_key.specs.declared.refusals.Refusal.{Refusal}
use Rattle.cell_key.specs.declared.refusals.Refusal.TheVariants.{UnknownSession, WrongPhase, BadRow, BadColumn, BadValue, TooManyWrites, TooManySessions, EmptyCommit, UnknownCleaner, UnknownCollector, UnknownTablet, BadSplit, UnknownServer, BadCount, MemtableFull, TooManyFiles, FileTooLarge, Exhausted, Device, NoMemory, Damaged, BadRequest, FrameTooLarge}
use Rattle.si_model.specs.Messages.{Item, Reach, Reply, Begun, Answered, Pending, Scanned, SetDone, DeleteDone, Held, Conflict, Drawn, Committed, Lost, Finished, StopDone, NoLock, Cleaning, Decided, RolledForward, RolledBack, Gone, Collecting, More, Blocked, Collected, MinorDone, MergeDone, MajorDone, SplitOff, MoveDone, Swept, RestartDone, RawFound, CheckpointDone, Reported, Refused}
use Rattle.si_model.specs.declared.replies.Cell.{Cell}
use Rattle.request_codec.specs.Fields.{number, field, cell_fields, FitsField}
use Rattle.request_codec.specs.Replies.{reply_body, IsReply}
use Rattle.request_codec.proofs.Fields.{same_number, past_number, same_cell, first, second}
use Rattle.si_model.specs.AnswerLimits.{IsInScanLimits}
use Rattle.request_codec.specs.Scans.{reach_fields, items_fields, StartFits}
use Rattle.request_codec.proofs.Scans.{same_reach, same_items, all_fit, few_items}
use Rattle.std.specs.List.{AllByRecursion}
use Rattle.request_codec.proofs.Names.{cell_fits}
use Rattle.request_codec.proofs.OneRequest.{lone_number, lone_tablet, lone_field}

lone_small : (m n : ℕ) → m < 2 ^ 16 → n < 2 ^ 16 → number 2 m ≡ number 2 n → m ≡ n
lone_small m n p q e = same_number 2 m n [] [] p q (ap (λ (t : List ℕ). t ++ []) e)

-- ---- refusals with the same number

refusals : List Refusal
refusals =
    UnknownSession ∷ WrongPhase ∷ BadRow ∷ BadColumn ∷ BadValue ∷ TooManyWrites ∷ TooManySessions ∷ EmptyCommit ∷ UnknownCleaner ∷ UnknownCollector ∷ UnknownTablet
    ∷ BadSplit ∷ UnknownServer ∷ BadCount ∷ MemtableFull ∷ TooManyFiles ∷ FileTooLarge ∷ Exhausted ∷ Device ∷ NoMemory ∷ Damaged ∷ BadRequest ∷ FrameTooLarge ∷ []

numbered : ℕ → Refusal
unfolding refusals
numbered n = get_or refusals (n - 1) UnknownSession

number-back : (r : Refusal) → numbered (refusal_number r) ≡ r
unfolding numbered refusals
number-back UnknownSession = refl
number-back WrongPhase = refl
number-back BadRow = refl
number-back BadColumn = refl
number-back BadValue = refl
number-back TooManyWrites = refl
number-back TooManySessions = refl
number-back EmptyCommit = refl
number-back UnknownCleaner = refl
number-back UnknownCollector = refl
number-back UnknownTablet = refl
number-back BadSplit = refl
number-back UnknownServer = refl
number-back BadCount = refl
number-back MemtableFull = refl
number-back TooManyFiles = refl
number-back FileTooLarge = refl
number-back Exhausted = refl
number-back Device = refl
number-back NoMemory = refl
number-back Damaged = refl
number-back BadRequest = refl
number-back FrameTooLarge = refl

same_refusal : (a b : Refusal) → refusal_number a ≡ refusal_number b → a ≡ b
same_refusal a b e = sym (number-back a) ∙ ap numbered e ∙ number-back b

-- ---- the reply of each operation's number, and of each tag

record AsLong (r : Reply) (made : ℕ → Reply) (f : List ℕ) : Type 0 where
  n : ℕ
  fits : n < 2 ^ 64
  is : r ≡ made n
  fields : f ≡ number 8 n

record AsShort (r : Reply) (made : ℕ → Reply) (f : List ℕ) : Type 0 where
  n : ℕ
  fits : n < 2 ^ 16
  is : r ≡ made n
  fields : f ≡ number 2 n

record AsPair (r : Reply) (made : ℕ → ℕ → Reply) (f : List ℕ) : Type 0 where
  m : ℕ
  n : ℕ
  m_fits : m < 2 ^ 16
  n_fits : n < 2 ^ 16
  is : r ≡ made m n
  fields : f ≡ number 2 m ++ number 2 n

record AsValue (r : Reply) (f : List ℕ) : Type 0 where
  value : List ℕ
  fits : FitsField value
  is : r ≡ Answered (Some value)
  fields : f ≡ field value

record AsRefusal (r : Reply) (f : List ℕ) : Type 0 where
  refusal : Refusal
  is : r ≡ Refused refusal
  fields : f ≡ refusal_number refusal ∷ []

begun_only : (r : Reply) (f : List ℕ) → IsReply r (0x81 ∷ f) → AsLong r (λ n. Begun n) f
begun_only (Begun n) f p = record { n = n; fits = p.numbers; is = refl; fields = ap (drop 1) p.whole }
begun_only other f p = let e = ap first p.whole in let d = ap second p.whole in absurd (omega (arith, e, d))

pending_only : (r : Reply) (f : List ℕ) → IsReply r (0x82 ∷ 0x02 ∷ f) → AsLong r (λ n. Pending n) f
pending_only (Pending n) f p = record { n = n; fits = p.numbers; is = refl; fields = ap (drop 2) p.whole }
pending_only (Answered None) f p = let d = ap second p.whole in absurd (omega (arith, d))
pending_only (Answered (Some value)) f p = let d = ap second p.whole in absurd (omega (arith, d))
pending_only other f p = let e = ap first p.whole in let d = ap second p.whole in absurd (omega (arith, e, d))

drawn_only : (r : Reply) (f : List ℕ) → IsReply r (0x84 ∷ 0x03 ∷ f) → AsLong r (λ n. Drawn n) f
drawn_only (Drawn n) f p = record { n = n; fits = p.numbers; is = refl; fields = ap (drop 2) p.whole }
drawn_only other f p = let e = ap first p.whole in let d = ap second p.whole in absurd (omega (arith, e, d))

committed_only : (r : Reply) (f : List ℕ) → IsReply r (0x84 ∷ 0x04 ∷ f) → AsLong r (λ n. Committed n) f
committed_only (Committed n) f p = record { n = n; fits = p.numbers; is = refl; fields = ap (drop 2) p.whole }
committed_only other f p = let e = ap first p.whole in let d = ap second p.whole in absurd (omega (arith, e, d))

conflict_only : (r : Reply) (f : List ℕ) → IsReply r (0x84 ∷ 0x02 ∷ f) → AsShort r (λ n. Conflict n) f
conflict_only (Conflict n) f p = record { n = n; fits = p.numbers; is = refl; fields = ap (drop 2) p.whole }
conflict_only other f p = let e = ap first p.whole in let d = ap second p.whole in absurd (omega (arith, e, d))

held_only : (r : Reply) (f : List ℕ) → IsReply r (0x84 ∷ 0x01 ∷ f) → AsPair r (λ m n. Held m n) f
held_only (Held m n) f p = record { m = m; n = n; m_fits = p.numbers.0; n_fits = p.numbers.1; is = refl; fields = ap (drop 2) p.whole }
held_only other f p = let e = ap first p.whole in let d = ap second p.whole in absurd (omega (arith, e, d))

finished_only : (r : Reply) (f : List ℕ) → IsReply r (0x84 ∷ 0x06 ∷ f) → AsPair r (λ m n. Finished m n) f
finished_only (Finished m n) f p = record { m = m; n = n; m_fits = p.numbers.0; n_fits = p.numbers.1; is = refl; fields = ap (drop 2) p.whole }
finished_only other f p = let e = ap first p.whole in let d = ap second p.whole in absurd (omega (arith, e, d))

value_only : (r : Reply) (f : List ℕ) → IsReply r (0x82 ∷ 0x01 ∷ f) → AsValue r f
value_only (Answered (Some value)) f p = record { value = value; fits = p.bytes; is = refl; fields = ap (drop 2) p.whole }
value_only (Answered None) f p = let d = ap second p.whole in absurd (omega (arith, d))
value_only other f p = let e = ap first p.whole in let d = ap second p.whole in absurd (omega (arith, e, d))

refused_only : (r : Reply) (f : List ℕ) → IsReply r (0xFF ∷ f) → AsRefusal r f
refused_only (Refused refusal) f p = record { refusal = refusal; is = refl; fields = ap (drop 1) p.whole }
refused_only other f p = let e = ap first p.whole in let d = ap second p.whole in absurd (omega (arith, e, d))

nothing_only : (r : Reply) → IsReply r (reply_body (Answered None)) → r ≡ Answered None
nothing_only (Answered None) p = refl
nothing_only (Answered (Some value)) p = let d = ap second p.whole in absurd (omega (arith, d))
nothing_only other p = let e = ap first p.whole in let d = ap second p.whole in absurd (omega (arith, e, d))

set_only : (r : Reply) → IsReply r (reply_body SetDone) → r ≡ SetDone
set_only SetDone p = refl
set_only other p = let e = ap first p.whole in let d = ap second p.whole in absurd (omega (arith, e, d))

lost_only : (r : Reply) → IsReply r (reply_body Lost) → r ≡ Lost
lost_only Lost p = refl
lost_only other p = let e = ap first p.whole in let d = ap second p.whole in absurd (omega (arith, e, d))

stop_only : (r : Reply) → IsReply r (reply_body StopDone) → r ≡ StopDone
stop_only StopDone p = refl
stop_only other p = let e = ap first p.whole in let d = ap second p.whole in absurd (omega (arith, e, d))

no_lock_only : (r : Reply) → IsReply r (reply_body NoLock) → r ≡ NoLock
no_lock_only NoLock p = refl
no_lock_only other p = let e = ap first p.whole in let d = ap second p.whole in absurd (omega (arith, e, d))

record AsCleaning (r : Reply) (f : List ℕ) : Type 0 where
  cleaner : ℕ
  start : ℕ
  cleaner_fits : cleaner < 2 ^ 64
  start_fits : start < 2 ^ 64
  is : r ≡ Cleaning cleaner start
  fields : f ≡ number 8 cleaner ++ number 8 start

cleaning_only : (r : Reply) (f : List ℕ) → IsReply r (0x86 ∷ 0x01 ∷ f) → AsCleaning r f
cleaning_only (Cleaning m n) f p =
    record { cleaner = m; start = n; cleaner_fits = p.numbers.0; start_fits = p.numbers.1; is = refl; fields = ap (drop 2) p.whole }
cleaning_only other f p = let e = ap first p.whole in let d = ap second p.whole in absurd (omega (arith, e, d))

decided_only : (r : Reply) → IsReply r (reply_body Decided) → r ≡ Decided
decided_only Decided p = refl
decided_only other p = let e = ap first p.whole in let d = ap second p.whole in absurd (omega (arith, e, d))

forward_only : (r : Reply) (f : List ℕ) → IsReply r (0x87 ∷ 0x02 ∷ f) → AsLong r (λ n. RolledForward n) f
forward_only (RolledForward n) f p = record { n = n; fits = p.numbers; is = refl; fields = ap (drop 2) p.whole }
forward_only other f p = let e = ap first p.whole in let d = ap second p.whole in absurd (omega (arith, e, d))

back_only : (r : Reply) → IsReply r (reply_body RolledBack) → r ≡ RolledBack
back_only RolledBack p = refl
back_only other p = let e = ap first p.whole in let d = ap second p.whole in absurd (omega (arith, e, d))

gone_only : (r : Reply) → IsReply r (reply_body Gone) → r ≡ Gone
gone_only Gone p = refl
gone_only other p = let e = ap first p.whole in let d = ap second p.whole in absurd (omega (arith, e, d))

record AsCollecting (r : Reply) (f : List ℕ) : Type 0 where
  collector : ℕ
  floor : ℕ
  collector_fits : collector < 2 ^ 64
  floor_fits : floor < 2 ^ 64
  is : r ≡ Collecting collector floor
  fields : f ≡ number 8 collector ++ number 8 floor

collecting_only : (r : Reply) (f : List ℕ) → IsReply r (0x88 ∷ f) → AsCollecting r f
collecting_only (Collecting m n) f p =
    record { collector = m; floor = n; collector_fits = p.numbers.0; floor_fits = p.numbers.1; is = refl; fields = ap (drop 1) p.whole }
collecting_only other f p = let e = ap first p.whole in let d = ap second p.whole in absurd (omega (arith, e, d))

more_only : (r : Reply) → IsReply r (reply_body More) → r ≡ More
more_only More p = refl
more_only other p = let e = ap first p.whole in let d = ap second p.whole in absurd (omega (arith, e, d))

pub record AsBlocked (r : Reply) (f : List ℕ) : Type 0 where
  pub cell : Cell
  start : ℕ
  pub row : IsRow cell.row
  pub family : IsFamily cell.family
  start_fits : start < 2 ^ 64
  is : r ≡ Blocked cell start
  pub fields : f ≡ cell_fields cell ++ number 8 start

pub blocked_only : (r : Reply) (f : List ℕ) → IsReply r (0x89 ∷ 0x02 ∷ f) → AsBlocked r f
blocked_only (Blocked cell start) f p =
    record { cell = cell; start = start; row = p.bytes.0; family = p.bytes.1; start_fits = p.numbers; is = refl; fields = ap (drop 2) p.whole }
blocked_only other f p = let e = ap first p.whole in let d = ap second p.whole in absurd (omega (arith, e, d))

collected_only : (r : Reply) → IsReply r (reply_body Collected) → r ≡ Collected
collected_only Collected p = refl
collected_only other p = let e = ap first p.whole in let d = ap second p.whole in absurd (omega (arith, e, d))

restart_only : (r : Reply) → IsReply r (reply_body RestartDone) → r ≡ RestartDone
restart_only RestartDone p = refl
restart_only other p = let e = ap first p.whole in let d = ap second p.whole in absurd (omega (arith, e, d))

checkpoint_only : (r : Reply) → IsReply r (reply_body CheckpointDone) → r ≡ CheckpointDone
checkpoint_only CheckpointDone p = refl
checkpoint_only other p = let e = ap first p.whole in let d = ap second p.whole in absurd (omega (arith, e, d))

-- all bytes behind the number are the report
reported_only : (r : Reply) (f : List ℕ) → IsReply r (0xB4 ∷ f) → r ≡ Reported f
reported_only (Reported report) f p = ap (λ t. Reported t) (sym (ap (drop 1) p.whole))
reported_only other f p = let e = ap first p.whole in absurd (omega (arith, e))

delete_only : (r : Reply) → IsReply r (reply_body DeleteDone) → r ≡ DeleteDone
delete_only DeleteDone p = refl
delete_only other p = let e = ap first p.whole in let d = ap second p.whole in absurd (omega (arith, e, d))

minor_only : (r : Reply) → IsReply r (reply_body MinorDone) → r ≡ MinorDone
minor_only MinorDone p = refl
minor_only other p = let e = ap first p.whole in let d = ap second p.whole in absurd (omega (arith, e, d))

merge_only : (r : Reply) → IsReply r (reply_body MergeDone) → r ≡ MergeDone
merge_only MergeDone p = refl
merge_only other p = let e = ap first p.whole in let d = ap second p.whole in absurd (omega (arith, e, d))

major_only : (r : Reply) → IsReply r (reply_body MajorDone) → r ≡ MajorDone
major_only MajorDone p = refl
major_only other p = let e = ap first p.whole in let d = ap second p.whole in absurd (omega (arith, e, d))

move_only : (r : Reply) → IsReply r (reply_body MoveDone) → r ≡ MoveDone
move_only MoveDone p = refl
move_only other p = let e = ap first p.whole in let d = ap second p.whole in absurd (omega (arith, e, d))

record AsTablet (r : Reply) (f : List ℕ) : Type 0 where
  tablet : ℕ
  fits : tablet < 2 ^ 32
  is : r ≡ SplitOff tablet
  fields : f ≡ number 4 tablet

split_only : (r : Reply) (f : List ℕ) → IsReply r (0x8D ∷ f) → AsTablet r f
split_only (SplitOff tablet) f p = record { tablet = tablet; fits = p.numbers; is = refl; fields = ap (drop 1) p.whole }
split_only other f p = let e = ap first p.whole in absurd (omega (arith, e))

swept_only : (r : Reply) (f : List ℕ) → IsReply r (0x8F ∷ f) → AsLong r (λ n. Swept n) f
swept_only (Swept n) f p = record { n = n; fits = p.numbers; is = refl; fields = ap (drop 1) p.whole }
swept_only other f p = let e = ap first p.whole in absurd (omega (arith, e))

-- nothing found, or a stamp and a value
raw_none_only : (r : Reply) → IsReply r (reply_body (RawFound None)) → r ≡ RawFound None
raw_none_only (RawFound None) p = refl
raw_none_only (RawFound (Some found)) p = let d = ap second p.whole in absurd (omega (arith, d))
raw_none_only other p = let e = ap first p.whole in absurd (omega (arith, e))

record AsVersion (r : Reply) (f : List ℕ) : Type 0 where
  stamp : ℕ
  value : List ℕ
  stamp_fits : stamp < 2 ^ 64
  value_fits : FitsField value
  is : r ≡ RawFound (Some (stamp, value))
  fields : f ≡ number 8 stamp ++ field value

raw_some_only : (r : Reply) (f : List ℕ) → IsReply r (0x91 ∷ 0x01 ∷ f) → AsVersion r f
raw_some_only (RawFound (Some found)) f p =
    record { stamp = found.0; value = found.1; stamp_fits = p.numbers; value_fits = p.bytes; is = refl; fields = ap (drop 2) p.whole }
raw_some_only (RawFound None) f p = let d = ap second p.whole in absurd (omega (arith, d))
raw_some_only other f p = let e = ap first p.whole in absurd (omega (arith, e))

-- the result of a scan
pub record AsScanned (r : Reply) (f : List ℕ) : Type 0 where
  pub items : List (Cell × Item)
  pub reach : Reach
  pub starts : AllByRecursion (λ (item : Cell × Item). StartFits item.1) items
  pub fits : IsInScanLimits items reach
  is : r ≡ Scanned items reach
  pub fields : f ≡ reach_fields reach ++ (number 4 (length items) ++ items_fields items)

pub scanned_only : (r : Reply) (f : List ℕ) → IsReply r (0xB1 ∷ f) → AsScanned r f
scanned_only (Scanned items reach) f p = record { items = items; reach = reach; starts = p.numbers; fits = p.bytes; is = refl; fields = ap (drop 1) p.whole }
scanned_only other f p = let e = ap first p.whole in absurd (omega (arith, e))

-- ---- two replies with the same body

same_scanned : (items : List (Cell × Item)) (reach : Reach) (b : Reply) → AllByRecursion (λ (item : Cell × Item). StartFits item.1) items → IsInScanLimits items reach
    → AsScanned b (reach_fields reach ++ (number 4 (length items) ++ items_fields items)) → Scanned items reach ≡ b
same_scanned items reach b starts fits g =
    let few = fits.bytes in
    let few_other = g.fits.bytes in
    let r = same_reach reach g.reach (number 4 (length items) ++ items_fields items) (number 4 (length g.items) ++ items_fields g.items) fits.reached g.fits.reached g.fields in
    let size = same_number 4 (length items) (length g.items) (items_fields items) (items_fields g.items) (omega (arith, few, few_items items)) (omega (arith, few_other, few_items g.items)) r.1 in
    let rest = past_number 4 (length items) (length g.items) (items_fields items) (items_fields g.items) r.1 in
    let same = same_items items g.items (all_fit items starts fits.names few) (all_fit g.items g.starts g.fits.names few_other) size rest in
    ap (λ x. Scanned x reach) same ∙ ap (λ x. Scanned g.items x) r.0 ∙ sym g.is

pair-same : (made : ℕ → ℕ → Reply) (m n k l : ℕ) → m < 2 ^ 16 → n < 2 ^ 16 → k < 2 ^ 16 → l < 2 ^ 16 → number 2 m ++ number 2 n ≡ number 2 k ++ number 2 l → made m n ≡ made k l
pair-same made m n k l p q r s e =
    let first = same_number 2 m k (number 2 n) (number 2 l) p r e in
    let second = lone_small n l q s (past_number 2 m k (number 2 n) (number 2 l) e) in
    ap (λ x. made x n) first ∙ ap (λ x. made k x) second

same_version : (stamp : ℕ) (value : List ℕ) (b : Reply) → stamp < 2 ^ 64 → FitsField value → AsVersion b (number 8 stamp ++ field value) → RawFound (Some (stamp, value)) ≡ b
same_version stamp value b stamp_fits value_fits g =
    let s = same_number 8 stamp g.stamp (field value) (field g.value) stamp_fits g.stamp_fits g.fields in
    let v = lone_field value g.value value_fits g.value_fits (past_number 8 stamp g.stamp (field value) (field g.value) g.fields) in
    ap (λ n. RawFound (Some (n, value))) s ∙ ap (λ w. RawFound (Some (g.stamp, w))) v ∙ sym g.is

same_cleaning : (cleaner start : ℕ) (b : Reply) → cleaner < 2 ^ 64 → start < 2 ^ 64 → AsCleaning b (number 8 cleaner ++ number 8 start) → Cleaning cleaner start ≡ b
same_cleaning cleaner start b cleaner_fits start_fits g =
    let c = same_number 8 cleaner g.cleaner (number 8 start) (number 8 g.start) cleaner_fits g.cleaner_fits g.fields in
    let s = lone_number start g.start start_fits g.start_fits (past_number 8 cleaner g.cleaner (number 8 start) (number 8 g.start) g.fields) in
    ap (λ n. Cleaning n start) c ∙ ap (λ n. Cleaning g.cleaner n) s ∙ sym g.is

same_collecting : (collector floor : ℕ) (b : Reply) → collector < 2 ^ 64 → floor < 2 ^ 64 → AsCollecting b (number 8 collector ++ number 8 floor) → Collecting collector floor ≡ b
same_collecting collector floor b collector_fits floor_fits g =
    let c = same_number 8 collector g.collector (number 8 floor) (number 8 g.floor) collector_fits g.collector_fits g.fields in
    let f = lone_number floor g.floor floor_fits g.floor_fits (past_number 8 collector g.collector (number 8 floor) (number 8 g.floor) g.fields) in
    ap (λ n. Collecting n floor) c ∙ ap (λ n. Collecting g.collector n) f ∙ sym g.is

same_blocked : (cell : Cell) (start : ℕ) (b : Reply) → IsRow cell.row → IsFamily cell.family → start < 2 ^ 64 → AsBlocked b (cell_fields cell ++ number 8 start) → Blocked cell start ≡ b
same_blocked cell start b row family start_fits g =
    let c = same_cell cell g.cell (number 8 start) (number 8 g.start) (cell_fits cell row family) (cell_fits g.cell g.row g.family) g.fields in
    let s = lone_number start g.start start_fits g.start_fits c.1 in
    ap (λ d. Blocked d start) c.0 ∙ ap (λ n. Blocked g.cell n) s ∙ sym g.is

pub one_reply : (a b : Reply) (body : List ℕ) → IsReply a body → IsReply b body → a ≡ b
one_reply (Begun n) b body p q =
    let g = begun_only b (number 8 n) (subst (IsReply b) p.whole q) in
    ap (λ m. Begun m) (lone_number n g.n p.numbers g.fits g.fields) ∙ sym g.is
one_reply (Pending n) b body p q =
    let g = pending_only b (number 8 n) (subst (IsReply b) p.whole q) in
    ap (λ m. Pending m) (lone_number n g.n p.numbers g.fits g.fields) ∙ sym g.is
one_reply (Scanned items reach) b body p q =
    same_scanned items reach b p.numbers p.bytes (scanned_only b (reach_fields reach ++ (number 4 (length items) ++ items_fields items)) (subst (IsReply b) p.whole q))
one_reply (Drawn n) b body p q =
    let g = drawn_only b (number 8 n) (subst (IsReply b) p.whole q) in
    ap (λ m. Drawn m) (lone_number n g.n p.numbers g.fits g.fields) ∙ sym g.is
one_reply (Committed n) b body p q =
    let g = committed_only b (number 8 n) (subst (IsReply b) p.whole q) in
    ap (λ m. Committed m) (lone_number n g.n p.numbers g.fits g.fields) ∙ sym g.is
one_reply (Conflict n) b body p q =
    let g = conflict_only b (number 2 n) (subst (IsReply b) p.whole q) in
    ap (λ m. Conflict m) (lone_small n g.n p.numbers g.fits g.fields) ∙ sym g.is
one_reply (Held m n) b body p q =
    let g = held_only b (number 2 m ++ number 2 n) (subst (IsReply b) p.whole q) in
    pair-same (λ x y. Held x y) m n g.m g.n p.numbers.0 p.numbers.1 g.m_fits g.n_fits g.fields ∙ sym g.is
one_reply (Finished m n) b body p q =
    let g = finished_only b (number 2 m ++ number 2 n) (subst (IsReply b) p.whole q) in
    pair-same (λ x y. Finished x y) m n g.m g.n p.numbers.0 p.numbers.1 g.m_fits g.n_fits g.fields ∙ sym g.is
one_reply (Answered (Some value)) b body p q =
    let g = value_only b (field value) (subst (IsReply b) p.whole q) in
    ap (λ v. Answered (Some v)) (lone_field value g.value p.bytes g.fits g.fields) ∙ sym g.is
one_reply (Refused refusal) b body p q =
    let g = refused_only b (refusal_number refusal ∷ []) (subst (IsReply b) p.whole q) in
    ap (λ r. Refused r) (same_refusal refusal g.refusal (ap first g.fields)) ∙ sym g.is
one_reply (Answered None) b body p q = sym (nothing_only b (subst (IsReply b) p.whole q))
one_reply SetDone b body p q = sym (set_only b (subst (IsReply b) p.whole q))
one_reply Lost b body p q = sym (lost_only b (subst (IsReply b) p.whole q))
one_reply StopDone b body p q = sym (stop_only b (subst (IsReply b) p.whole q))
one_reply NoLock b body p q = sym (no_lock_only b (subst (IsReply b) p.whole q))
one_reply (Cleaning cleaner start) b body p q =
    same_cleaning cleaner start b p.numbers.0 p.numbers.1 (cleaning_only b (number 8 cleaner ++ number 8 start) (subst (IsReply b) p.whole q))
one_reply Decided b body p q = sym (decided_only b (subst (IsReply b) p.whole q))
one_reply (RolledForward n) b body p q =
    let g = forward_only b (number 8 n) (subst (IsReply b) p.whole q) in
    ap (λ m. RolledForward m) (lone_number n g.n p.numbers g.fits g.fields) ∙ sym g.is
one_reply RolledBack b body p q = sym (back_only b (subst (IsReply b) p.whole q))
one_reply Gone b body p q = sym (gone_only b (subst (IsReply b) p.whole q))
one_reply (Collecting collector floor) b body p q =
    same_collecting collector floor b p.numbers.0 p.numbers.1 (collecting_only b (number 8 collector ++ number 8 floor) (subst (IsReply b) p.whole q))
one_reply More b body p q = sym (more_only b (subst (IsReply b) p.whole q))
one_reply (Blocked cell start) b body p q =
    same_blocked cell start b p.bytes.0 p.bytes.1 p.numbers (blocked_only b (cell_fields cell ++ number 8 start) (subst (IsReply b) p.whole q))
one_reply Collected b body p q = sym (collected_only b (subst (IsReply b) p.whole q))
one_reply MinorDone b body p q = sym (minor_only b (subst (IsReply b) p.whole q))
one_reply MergeDone b body p q = sym (merge_only b (subst (IsReply b) p.whole q))
one_reply MajorDone b body p q = sym (major_only b (subst (IsReply b) p.whole q))
one_reply (SplitOff tablet) b body p q =
    let g = split_only b (number 4 tablet) (subst (IsReply b) p.whole q) in
    ap (λ n. SplitOff n) (lone_tablet tablet g.tablet p.numbers g.fits g.fields) ∙ sym g.is
one_reply MoveDone b body p q = sym (move_only b (subst (IsReply b) p.whole q))
one_reply (Swept n) b body p q =
    let g = swept_only b (number 8 n) (subst (IsReply b) p.whole q) in
    ap (λ m. Swept m) (lone_number n g.n p.numbers g.fits g.fields) ∙ sym g.is
one_reply (RawFound None) b body p q = sym (raw_none_only b (subst (IsReply b) p.whole q))
one_reply (RawFound (Some found)) b body p q =
    same_version found.0 found.1 b p.numbers p.bytes (raw_some_only b (number 8 found.0 ++ field found.1) (subst (IsReply b) p.whole q))
one_reply RestartDone b body p q = sym (restart_only b (subst (IsReply b) p.whole q))
one_reply DeleteDone b body p q = sym (delete_only b (subst (IsReply b) p.whole q))
one_reply CheckpointDone b body p q = sym (checkpoint_only b (subst (IsReply b) p.whole q))
one_reply (Reported report) b body p q = sym (reported_only b report (subst (IsReply b) p.whole q))
