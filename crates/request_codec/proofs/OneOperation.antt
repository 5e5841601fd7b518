-- A body has one operation.
use Rattle.std.proofs.Common.{◌≡◌, ◌≢◌, ℕ, ◌<◌, ◌^◌, Bool, List, ◌∷◌, ◌++◌, length, refl, sym, ap, subst, ◌∙◌, drop, arith}
use Rattle.std.specs.List.{AllByRecursion, flat_map}
use Rattle.si_model.specs.declared.replies.Cell.{Cell}
use Rattle.si_model.specs.Machine.{Writes}
use Rattle.si_model.specs.Messages.{Request, Begin}
use Rattle.si_model.specs.Transactions.{Operation, One, Commit, Read}
use Rattle.request_codec.specs.Fields.{number, cell_fields, FitsCell}
use Rattle.request_codec.specs.Operations.{commit_fields, read_fields, write_fields, IsOperation, NamesCells, WriteFits, AreWrites, AreCells}
use Rattle.request_codec.specs.Requests.{request_body, IsRequest}
use Rattle.request_codec.specs.Scans.{flag_number}
use Rattle.request_codec.proofs.Fields.{same_number, past_number, same_cell, first}
use Rattle.request_codec.proofs.OneRequest.{one_request}
use Rattle.request_codec.proofs.OperationParts.{same_write}
use Rattle.request_codec.proofs.Parts.{same_parts}
use Rattle.request_codec.proofs.Scans.{same_flag}

-- ---- requests

-- the first byte of a request is neither a Commit's nor a Read's
request_unlike : (q : Request) (n : ℕ) → 0x31 < n → n < 0x34 → first (request_body q) ≡ n → ⊥
request_unlike Begin n low high e = omega (arith, low, high, e)
request_unlike other n low high e = omega (arith, low, high, e)

pub request_is : (q : Request) (body : List ℕ) → IsRequest q body → IsOperation (One q) body
request_is q body is = record { numbers = is.numbers; bytes = is.bytes; whole = is.whole }

pub is_request : (q : Request) (body : List ℕ) → IsOperation (One q) body → IsRequest q body
is_request q body is = record { numbers = is.numbers; bytes = is.bytes; whole = is.whole }

-- a body that is no request's, and begins neither as a Commit's nor as a Read's
pub no_operation : (body fields : List ℕ) (tag : ℕ) → body ≡ tag ∷ fields → tag ≢ 0x32 → tag ≢ 0x33 → ((q : Request) → IsRequest q body → ⊥) → (operation : Operation) → IsOperation operation body → ⊥
no_operation body fields tag front no_commit no_read none (One q) is = none q (is_request q body is)
no_operation body fields tag front no_commit no_read none (Commit start writes) is = no_commit (ap first (sym front ∙ is.whole))
no_operation body fields tag front no_commit no_read none (Read start cells stays_open) is = no_read (ap first (sym front ∙ is.whole))

-- ---- the operation of each number

pub record AsCommit (o : Operation) (f : List ℕ) : Type 0 where
  pub start : ℕ
  pub writes : Writes
  pub fits : start < 2 ^ 64
  pub many : length writes < 2 ^ 32
  pub all_fit : AllByRecursion WriteFits writes
  pub is : o ≡ Commit start writes
  pub fields : f ≡ commit_fields start writes

pub commit_only : (o : Operation) (f : List ℕ) → IsOperation o (0x32 ∷ f) → AsCommit o f
commit_only (Commit start writes) f p =
    record { start = start; writes = writes; fits = p.numbers.0; many = p.numbers.1; all_fit = p.bytes; is = refl; fields = ap (drop 1) p.whole }
commit_only (One q) f p = absurd (request_unlike q 0x32 (omega arith) (omega arith) (sym (ap first p.whole)))
commit_only (Read start cells stays_open) f p = let e = ap first p.whole in absurd (omega (arith, e))

pub record AsRead (o : Operation) (f : List ℕ) : Type 0 where
  pub start : ℕ
  pub cells : List Cell
  pub stays_open : Bool
  pub fits : start < 2 ^ 64
  pub many : length cells < 2 ^ 32
  pub all_fit : AllByRecursion FitsCell cells
  pub is : o ≡ Read start cells stays_open
  pub fields : f ≡ read_fields start cells stays_open

pub read_only : (o : Operation) (f : List ℕ) → IsOperation o (0x33 ∷ f) → AsRead o f
read_only (Read start cells stays_open) f p =
    record { start = start; cells = cells; stays_open = stays_open; fits = p.numbers.0; many = p.numbers.1; all_fit = p.bytes; is = refl; fields = ap (drop 1) p.whole }
read_only (One q) f p = absurd (request_unlike q 0x33 (omega arith) (omega arith) (sym (ap first p.whole)))
read_only (Commit start writes) f p = let e = ap first p.whole in absurd (omega (arith, e))

-- ---- by their fields

pub commit_is : (fields rest : List ℕ) (start count : ℕ) (writes : Writes) → fields ≡ number 8 start ++ (number 4 count ++ rest) → start < 2 ^ 64 → count < 2 ^ 32 → length writes ≡ count → AllByRecursion WriteFits writes
    → rest ≡ flat_map write_fields writes → IsOperation (Commit start writes) (0x32 ∷ fields)
commit_is fields rest start count writes front fits few many all_fit whole = record {
  numbers = (fits, omega (arith, few, many));
  bytes = all_fit;
  whole = ap (λ (t : List ℕ). 0x32 ∷ t) (front ∙ ap (λ (t : List ℕ). number 8 start ++ t) (ap (λ (n : ℕ). number 4 n ++ rest) (sym many) ∙ ap (λ (t : List ℕ). number 4 (length writes) ++ t) whole));
}

pub commit_needs : (fields rest : List ℕ) (start count : ℕ) → fields ≡ number 8 start ++ (number 4 count ++ rest) → start < 2 ^ 64 → count < 2 ^ 32 → AreWrites count rest → 0 < count → NamesCells (0x32 ∷ fields)
commit_needs fields rest start count front fits few are some = (
  Commit start are.parts,
  commit_is fields rest start count are.parts front fits few are.many are.all_fit are.whole,
  subst (λ (n : ℕ). 0 < n) (sym are.many) some,
)

pub read_is : (fields rest : List ℕ) (start count : ℕ) (stays_open : Bool) (cells : List Cell) → fields ≡ number 8 start ++ (flag_number stays_open ∷ (number 4 count ++ rest)) → start < 2 ^ 64 → count < 2 ^ 32 → length cells ≡ count
    → AllByRecursion FitsCell cells → rest ≡ flat_map cell_fields cells → IsOperation (Read start cells stays_open) (0x33 ∷ fields)
read_is fields rest start count stays_open cells front fits few many all_fit whole = record {
  numbers = (fits, omega (arith, few, many));
  bytes = all_fit;
  whole = ap (λ (t : List ℕ). 0x33 ∷ t) (front ∙ ap (λ (t : List ℕ). number 8 start ++ (flag_number stays_open ∷ t)) (ap (λ (n : ℕ). number 4 n ++ rest) (sym many) ∙ ap (λ (t : List ℕ). number 4 (length cells) ++ t) whole));
}

pub read_needs : (fields rest : List ℕ) (start count : ℕ) (stays_open : Bool) → fields ≡ number 8 start ++ (flag_number stays_open ∷ (number 4 count ++ rest)) → start < 2 ^ 64 → count < 2 ^ 32 → AreCells count rest → 0 < count
    → NamesCells (0x33 ∷ fields)
read_needs fields rest start count stays_open front fits few are some = (
  Read start are.parts stays_open,
  read_is fields rest start count stays_open are.parts front fits few are.many are.all_fit are.whole,
  subst (λ (n : ℕ). 0 < n) (sym are.many) some,
)

-- ---- two operations with the same body

same_commit : (start : ℕ) (writes : Writes) (b : Operation) → start < 2 ^ 64 → length writes < 2 ^ 32 → AllByRecursion WriteFits writes → AsCommit b (commit_fields start writes) → Commit start writes ≡ b
same_commit start writes b fits many all_fit g =
    let list = flat_map write_fields writes in
    let other = flat_map write_fields g.writes in
    let s = same_number 8 start g.start (number 4 (length writes) ++ list) (number 4 (length g.writes) ++ other) fits g.fits g.fields in
    let behind = past_number 8 start g.start (number 4 (length writes) ++ list) (number 4 (length g.writes) ++ other) g.fields in
    let size = same_number 4 (length writes) (length g.writes) list other many g.many behind in
    let rest = past_number 4 (length writes) (length g.writes) list other behind in
    let same = same_parts WriteFits write_fields same_write writes g.writes all_fit g.all_fit size rest in
    ap (λ n. Commit n writes) s ∙ ap (λ ws. Commit g.start ws) same ∙ sym g.is

same_read : (start : ℕ) (cells : List Cell) (stays_open : Bool) (b : Operation) → start < 2 ^ 64 → length cells < 2 ^ 32 → AllByRecursion FitsCell cells → AsRead b (read_fields start cells stays_open) → Read start cells stays_open ≡ b
same_read start cells stays_open b fits many all_fit g =
    let list = flat_map cell_fields cells in
    let other = flat_map cell_fields g.cells in
    let after = flag_number stays_open ∷ (number 4 (length cells) ++ list) in
    let after_other = flag_number g.stays_open ∷ (number 4 (length g.cells) ++ other) in
    let s = same_number 8 start g.start after after_other fits g.fits g.fields in
    let behind = past_number 8 start g.start after after_other g.fields in
    let flag = same_flag stays_open g.stays_open (ap first behind) in
    let counted = ap (drop 1) behind in
    let size = same_number 4 (length cells) (length g.cells) list other many g.many counted in
    let rest = past_number 4 (length cells) (length g.cells) list other counted in
    let same = same_parts FitsCell cell_fields same_cell cells g.cells all_fit g.all_fit size rest in
    ap (λ n. Read n cells stays_open) s ∙ ap (λ xs. Read g.start xs stays_open) same ∙ ap (λ flag. Read g.start g.cells flag) flag ∙ sym g.is

pub one_operation : (a b : Operation) (body : List ℕ) → IsOperation a body → IsOperation b body → a ≡ b
one_operation (One q) (One r) body p is = ap (λ x. One x) (one_request q r body (is_request q body p) (is_request r body is))
one_operation (One q) (Commit start writes) body p is = absurd (request_unlike q 0x32 (omega arith) (omega arith) (ap first (sym p.whole ∙ is.whole)))
one_operation (One q) (Read start cells stays_open) body p is = absurd (request_unlike q 0x33 (omega arith) (omega arith) (ap first (sym p.whole ∙ is.whole)))
one_operation (Commit start writes) b body p is =
    same_commit start writes b p.numbers.0 p.numbers.1 p.bytes (commit_only b (commit_fields start writes) (subst (IsOperation b) p.whole is))
one_operation (Read start cells stays_open) b body p is =
    same_read start cells stays_open b p.numbers.0 p.numbers.1 p.bytes (read_only b (read_fields start cells stays_open) (subst (IsOperation b) p.whole is))
