use Rattle.std.proofs.Common.{◌≡◌, ◌+◌, ◌*◌, ◌/◌, ◌%◌, ◌∙◌, ap, refl, ℕ, List, Bool, true, false, length, drop}
use Rattle.file_store.specs.Store.{part, with_front}
use Rattle.file_sums.specs.Pieces.{pieces}
use Rattle.file_sums.specs.Shown.{IsCut, payloads, payload_of}
use Rattle.file_sums.proofs.Payloads.{read_whole, read_end, read_part}
use Rattle.file_sums.proofs.runs.copy_payload.Goals as goal

-- the payload that was read, in either case
of_either : (ends : Bool) (got p file : List ℕ) (name first count : ℕ) → got ≡ part file (first * 1030) (count * 1030) → IsCut ends (length got) (count * 1030)
    → (ends ≡ false → (length p % 1024 ≡ 0) × (got ≡ pieces name first p (length p / 1024)))
    → (ends ≡ true → got ≡ pieces name first p (length p / 1024 + 1)) → p ≡ payloads (drop (first * 1030) file) count
of_either true got p file name first count is cut whole last = read_end (drop (first * 1030) file) got p name first count is cut (last refl)
of_either false got p file name first count is cut whole last =
    let both = whole refl in read_whole (drop (first * 1030) file) got p name first count is cut both.0 both.1

some_pieces : (ends : Bool) (got p : List ℕ) (name first : ℕ)
    → (ends ≡ false → (length p % 1024 ≡ 0) × (got ≡ pieces name first p (length p / 1024)))
    → (ends ≡ true → got ≡ pieces name first p (length p / 1024 + 1)) → (payload : List ℕ) × (count : ℕ) × (got ≡ pieces name first payload count)
some_pieces true got p name first whole last = (p, length p / 1024 + 1, last refl)
some_pieces false got p name first whole last = (p, length p / 1024, (whole refl).1)

pub returns-clause-intact : goal.returns-clause-intact
returns-clause-intact c =
    some_pieces c.args.ends c.args.bytes.now c.in_ok-payload.payload.items c.args.name c.args.first c.in_ok-payload.ensures.whole c.in_ok-payload.ensures.last

pub returns-clause-read : goal.returns-clause-read
returns-clause-read c = λ file count is cut begun fits.
    let p : List ℕ = c.in_ok-payload.payload.items in
    let read = of_either c.args.ends c.args.bytes.now p file c.args.name c.args.first count is cut c.in_ok-payload.ensures.whole c.in_ok-payload.ensures.last in
    let same : part p c.args.offset (length c.args.out.now) ≡ part (payload_of file) (c.args.first * 1024 + c.args.offset) (length c.args.out.now) =
    read_part file p c.args.first count c.args.offset (length c.args.out.now) (c.args.first * 1024 + c.args.offset) read begun fits refl in
    let of : c.deref.result.now ≡ p = c.deref.ensures.value in
    let shown : part c.deref.result.now c.args.offset (length c.args.out.now) ≡ part (payload_of file) (c.args.first * 1024 + c.args.offset) (length c.args.out.now) =
    ap (λ (l : List ℕ). part l c.args.offset (length c.args.out.now)) of ∙ same in
    (c.copy_part.ensures.count ∙ ap length shown, c.copy_part.ensures.copied ∙ ap (λ (l : List ℕ). with_front l c.args.out.now) shown)
