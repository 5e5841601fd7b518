-- The state of a scan, before and after one more cell.
use Rattle.std.proofs.Common.{◌≡◌, ℕ, ◌+◌, ◌<◌, ◌≤◌, ◌⊎◌, Bool, true, false, List, [], ◌∷◌, ◌++◌, length, map, Option, Some, None, IsSome, Result, Ok, Err, refl, sym, ap, subst, ◌∙◌, arith, length-append}
use Rattle.std.specs.Bool.{OnFalse, OnTrue}
use Rattle.std.specs.List.{AllByRecursion, last_or}
use Rattle.std.specs.Option.{option_map}
use Rattle.std.specs.Result.{IfOk}
use Rattle.std.specs.declared.vec.Vec.{Vec}
use Rattle.std.proofs.lemmas.Option.{same_Some}
use Rattle.cell_key.specs.Cells.{Cells}
use Rattle.cell_key.specs.declared.refusals.Refusal.{Refusal}
use Rattle.si_model.specs.Machine.{Item, Reach, ToEnd, UpTo}
use Rattle.si_model.specs.Replies.{item_of, reach_of}
use Rattle.si_model.specs.Scans.{IsOfFamily, item_length, items_length, most_items}
use Rattle.si_model.specs.declared.replies.Cell.{Cell}
use Rattle.si_model.specs.declared.replies.Found.TheVariants.{Nothing}
use Rattle.si_model.specs.declared.scans.ScanItem.{ScanItem}
use Rattle.si_model.specs.declared.scans.ScanReply.{ScanReply}
use Rattle.txn_client.specs.Gathering.{Gathers, HasCome, HasGathered, IsInLimits, IsNextIn, items_in, last_of}
use Rattle.txn_client.specs.Ranges.{range_named}
use Rattle.txn_client.specs.Reads.{IsFound}
use Rattle.txn_client.specs.Scans.{DoesNotFit, IsLastCell, IsReadAs, IsScanFound}
use Rattle.si_model.specs.Takings.{IsNamed}
use Rattle.txn_client.specs.declared.scan.Batch.{Batch}
use Rattle.txn_client.specs.declared.scan.Gathered.{Gathered}
use Rattle.txn_client.specs.declared.scan.Scan.{Scan}
use Rattle.txn_client.proofs.Scanned.{ends, names, passes, stops_at}

-- ---- the meaning of an answer's flag

pub fits_so : (r : Result Bool Refusal) (P Q : Type 0) → (P → Q) → IfOk r (λ b. OnTrue b P) → IfOk r (λ b. OnTrue b Q)
fits_so (Ok true) P Q so p = so p
fits_so (Ok false) P Q so p = tt
fits_so (Err e) P Q so p = tt

pub full_so : (r : Result Bool Refusal) (P Q : Type 0) → (P → Q) → IfOk r (λ b. OnFalse b P) → IfOk r (λ b. OnFalse b Q)
full_so (Ok true) P Q so p = tt
full_so (Ok false) P Q so p = so p
full_so (Err e) P Q so p = tt

-- ---- its last cell

last_more : {A : Type 0} (other : Option A) (xs : List A) (x : A) → last_or other (xs ++ (x ∷ [])) ≡ Some x
last_more other [] x = refl
last_more other (y ∷ ys) x = last_more (Some y) ys x

pub last_item : (old new : List (Cell × Item)) (x : Cell) (item : Item) → new ≡ old ++ ((x, item) ∷ []) → option_map (λ named. named.0) (last_or None new) ≡ Some x
last_item old new x item items = ap (λ (is : List (Cell × Item)). option_map (λ named. named.0) (last_or None is)) items ∙ ap (option_map (λ (named : Cell × Item). named.0)) (last_more None old (x, item))

-- ---- its limits

length_snoc : (items : List (Cell × Item)) (x : Cell × Item) → items_length (items ++ (x ∷ [])) ≡ items_length items + item_length x
length_snoc [] x = omega arith
length_snoc (y ∷ ys) x = let e = length_snoc ys x in omega (arith, e)

all_snoc : {A : Type 0} (P : A → Type 0) (xs : List A) (x : A) → AllByRecursion P xs → P x → AllByRecursion P (xs ++ (x ∷ []))
all_snoc P [] x all p = (p, tt)
all_snoc P (y ∷ ys) x all p = (all.0, all_snoc P ys x all.1 p)

pub limits_more : (old new : Gathered) (x : Cell) (item : Item) → IsInLimits old → IsNamed x → old.looked < old.cells → items_in new ≡ items_in old ++ ((x, item) ∷ [])
    → new.bytes ≡ old.bytes + item_length (x, item) → new.bytes ≤ most_items → new.cells ≡ old.cells → new.looked ≡ old.looked + 1 → last_of new ≡ Some x → IsInLimits new
limits_more old new x item limits named room items bytes short cells looked last = record {
  bytes = bytes ∙ (ap (λ (n : ℕ). n + item_length (x, item)) limits.bytes ∙ (sym (length_snoc (items_in old) (x, item)) ∙ ap items_length (sym items)));
  short = short;
  names = subst (λ (is : List (Cell × Item)). AllByRecursion (λ (i : Cell × Item). IsNamed i.0) is) (sym items) (all_snoc (λ (i : Cell × Item). IsNamed i.0) (items_in old) (x, item) limits.names named);
  few = let n : length (items_in new) ≡ length (items_in old) + 1 = ap (λ (is : List (Cell × Item)). length is) items ∙ length-append (items_in old) ((x, item) ∷ []) in let few = limits.few in omega (arith, n, few, looked);
  looked = omega (arith, room, cells, looked);
  begun = λ some. subst (λ (o : Option Cell). IsSome o) (sym last) refl;
  last = λ y is. subst IsNamed (same_Some x y (sym last ∙ is)) named;
}

-- ---- the items and the progress

pub gathers_past : (cells : Cells) (scan : Scan) (old new : Gathered) (x : Cell) → Gathers cells scan old → IsNextIn cells scan old x → (IsOfFamily scan.range.family x.family → IsFound cells x scan.start Nothing)
    → new.items ≡ old.items → new.looked ≡ old.looked + 1 → last_of new ≡ Some x → Gathers cells scan new
gathers_past cells scan old new x g next nothing items looked last =
    subst (λ (o : Option Cell). HasGathered cells scan.start (range_named scan.range) scan.keys_only (items_in new) new.looked o) (sym last)
    (subst (λ (n : ℕ). HasGathered cells scan.start (range_named scan.range) scan.keys_only (items_in new) n (Some x)) (sym looked)
    (subst (λ (v : Vec ScanItem _). HasGathered cells scan.start (range_named scan.range) scan.keys_only (map item_of v.items) (old.looked + 1) (Some x)) (sym items)
    (passes cells scan.start (range_named scan.range) scan.keys_only (items_in old) old.looked (last_of old) x g next.next next.up_to nothing)))

pub gathers_more : (cells : Cells) (scan : Scan) (old new : Gathered) (x : Cell) (item : Item) → Gathers cells scan old → IsNextIn cells scan old x → IsOfFamily scan.range.family x.family → IsReadAs cells scan.start scan.keys_only x (Some item)
    → (items_in new ≡ items_in old ++ ((x, item) ∷ [])) × (new.looked ≡ old.looked + 1) × (last_of new ≡ Some x) → Gathers cells scan new
gathers_more cells scan old new x item g next family read (items, looked, last) =
    subst (λ (o : Option Cell). HasGathered cells scan.start (range_named scan.range) scan.keys_only (items_in new) new.looked o) (sym last)
    (subst (λ (n : ℕ). HasGathered cells scan.start (range_named scan.range) scan.keys_only (items_in new) n (Some x)) (sym looked)
    (subst (λ (is : List (Cell × Item)). HasGathered cells scan.start (range_named scan.range) scan.keys_only is (old.looked + 1) (Some x)) (sym items)
    (names cells scan.start (range_named scan.range) scan.keys_only (items_in old) old.looked (last_of old) x g next.next next.up_to item family read)))

-- ---- the answer of a call for these cells

pub at_call : (cells cells' : Cells) (scan : Scan) (old : Gathered) (x : Cell) (P : Cells → Type 0) → cells' ≡ cells → (Gathers cells' scan old → IsNextIn cells' scan old x → P cells') → Gathers cells scan old → IsNextIn cells scan old x → P cells
at_call cells cells' scan old x P same said = subst (λ (m : Cells). Gathers m scan old → IsNextIn m scan old x → P m) same said

-- ---- the end

pub ended_found : (cells : Cells) (scan : Scan) (gathered : Gathered) (count : ℕ) (items : List (Cell × Item)) (reach : Reach) → IsInLimits gathered → gathered.cells ≡ count → Gathers cells scan gathered
    → IsLastCell cells (range_named scan.range) (last_of gathered) → items ≡ items_in gathered → reach ≡ ToEnd → IsScanFound cells scan.start (range_named scan.range) scan.keys_only count items reach
ended_found cells scan gathered count items reach limits same g none are is =
    subst (λ (r : Reach). IsScanFound cells scan.start (range_named scan.range) scan.keys_only count items r) (sym is)
    (subst (λ (named : List (Cell × Item)). IsScanFound cells scan.start (range_named scan.range) scan.keys_only count named ToEnd) (sym are)
    (ends cells scan.start (range_named scan.range) scan.keys_only (items_in gathered) gathered.looked count few within (last_of gathered) g none))
  where
    within : gathered.looked ≤ count
    within = let looked = limits.looked in omega (arith, looked, same)

    few : length (items_in gathered) ≤ count
    few = let looked = limits.looked in let few = limits.few in omega (arith, looked, few, same)

stopped_found : (cells : Cells) (scan : Scan) (gathered : Gathered) (count : ℕ) (items : List (Cell × Item)) (reach : Reach) → IsInLimits gathered → gathered.cells ≡ count → Gathers cells scan gathered → 1 ≤ gathered.looked
    → (gathered.looked ≡ count) ⊎ DoesNotFit cells scan.start (range_named scan.range) scan.keys_only (items_in gathered) (last_of gathered) → items ≡ items_in gathered → ((x : Cell) → last_of gathered ≡ Some x → reach ≡ UpTo x)
    → IsScanFound cells scan.start (range_named scan.range) scan.keys_only count items reach
stopped_found cells scan gathered count items reach limits same g some why are is = by (last_of gathered) refl
  where
    within : gathered.looked ≤ count
    within = let looked = limits.looked in omega (arith, looked, same)

    few : length (items_in gathered) ≤ count
    few = let looked = limits.looked in let few = limits.few in omega (arith, looked, few, same)

    by : (o : Option Cell) → last_of gathered ≡ o → IsScanFound cells scan.start (range_named scan.range) scan.keys_only count items reach
    by None e = let begun : IsSome (last_of gathered) = limits.begun some in let none : IsSome {T = Cell} None = subst (λ (o : Option Cell). IsSome o) e begun in absurd (let f : ⊥ = cc in f)
    by (Some x) e =
        subst (λ (r : Reach). IsScanFound cells scan.start (range_named scan.range) scan.keys_only count items r) (sym (is x e))
        (subst (λ (named : List (Cell × Item)). IsScanFound cells scan.start (range_named scan.range) scan.keys_only count named (UpTo x)) (sym are)
        (stops_at cells scan.start (range_named scan.range) scan.keys_only (items_in gathered) gathered.looked count few within x
        (subst (λ (o : Option Cell). HasGathered cells scan.start (range_named scan.range) scan.keys_only (items_in gathered) gathered.looked o) e g) some
        (subst (λ (o : Option Cell). (gathered.looked ≡ count) ⊎ DoesNotFit cells scan.start (range_named scan.range) scan.keys_only (items_in gathered) o) e why)))

-- the same for the call's answer
pub stopped_ok : (cells : Cells) (scan : Scan) (gathered : Gathered) (count : ℕ) (r : Result ScanReply Refusal) → IsInLimits gathered → gathered.cells ≡ count → Gathers cells scan gathered → 1 ≤ gathered.looked
    → (gathered.looked ≡ count) ⊎ DoesNotFit cells scan.start (range_named scan.range) scan.keys_only (items_in gathered) (last_of gathered)
    → IfOk r (λ reply. map item_of reply.items.items ≡ items_in gathered) → IfOk r (λ reply. (x : Cell) → last_of gathered ≡ Some x → reach_of reply.reach ≡ UpTo x)
    → IfOk r (λ reply. IsScanFound cells scan.start (range_named scan.range) scan.keys_only count (map item_of reply.items.items) (reach_of reply.reach))
stopped_ok cells scan gathered count (Ok reply) limits same g some why are is = stopped_found cells scan gathered count (map item_of reply.items.items) (reach_of reply.reach) limits same g some why are is
stopped_ok cells scan gathered count (Err e) limits same g some why are is = tt

-- a call leaves the contents of the rows unchanged
pub come_at : (cells cells' : Cells) (scan : Scan) (old new : Gathered) (batch to : Batch) → cells' ≡ cells → batch ≡ to → (Gathers cells' scan old → HasCome cells' scan new batch) → Gathers cells scan old → HasCome cells scan new to
come_at cells cells' scan old new batch to same is come =
    subst (λ (b : Batch). Gathers cells scan old → HasCome cells scan new b) is (subst (λ (m : Cells). Gathers m scan old → HasCome m scan new batch) same come)
