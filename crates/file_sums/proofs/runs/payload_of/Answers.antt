use Rattle.std.proofs.Common.{◌≡◌, ◌+◌, ◌/◌, ◌*◌, ◌<◌, ◌∙◌, ap, sym, arith, ℕ, List, length}
use Rattle.file_sums.specs.Pieces.{piece, pieces}
use Rattle.file_sums.proofs.InOrder.{last_read}
use Rattle.std.proofs.Common.{rules}
use Rattle.file_sums.proofs.Payloads.{no_whole_run, no_last_run}
use Rattle.file_sums.proofs.runs.payload_of.Goals as goal

pub returns-clause-last : goal.returns-clause-last
returns-clause-last c = λ ends.
    let size : length c.in-Some.last.now < 1024 = omega (arith, c.in-Some.ensures.size, c.in_ok-payload.ensures.rest) in
    let whole : length c.in_ok-payload.payload.items ≡ length c.in_ok-payload.payload.items / 1024 * 1024 = omega (arith, c.in_ok-payload.ensures.whole) in
    let len : c.len.result ≡ length c.in_ok-payload.payload.items = c.len.ensures ∙ c.in_ok-payload.payload.ok.0 in
    let is : c.in_ok-payload.rest.now ≡ piece c.args.name (c.args.first + length c.in_ok-payload.payload.items / 1024) c.in-Some.last.now =
    c.in-Some.ensures.found ∙ ap (λ (n : ℕ). piece c.args.name (c.args.first + n / 1024) c.in-Some.last.now) len in
    last_read c.args.name c.args.first (length c.in_ok-payload.payload.items / 1024) c.args.bytes.now c.in_ok-payload.payload.items c.in_ok-payload.rest.now c.in-Some.last.now
    whole c.in_ok-payload.ensures.pieces is size
    ∙ ap (λ (l : List ℕ). pieces c.args.name c.args.first l (length l / 1024 + 1)) (sym c.in_ok-extend_from_slice.ensures.items)

pub returns-then-not-is_empty-clause-not_whole : goal.returns-then-not-is_empty-clause-not_whole
returns-then-not-is_empty-clause-not_whole c = λ _ _ p all same.
    let some : 0 < length c.in_ok-payload.rest.now = search rules in
    no_whole_run c.args.name c.args.first c.args.bytes.now c.in_ok-payload.payload.items c.in_ok-payload.rest.now p c.in_ok-payload.ensures.pieces c.in_ok-payload.ensures.whole some c.in_ok-payload.ensures.rest all same

pub returns-in_default-clause-not_last : goal.returns-in_default-clause-not_last
returns-in_default-clause-not_last c = λ _ _ p same.
    let len : c.len.result ≡ length c.in_ok-payload.payload.items = c.len.ensures ∙ c.in_ok-payload.payload.ok.0 in
    no_last_run c.args.name c.args.first c.args.bytes.now c.in_ok-payload.payload.items c.in_ok-payload.rest.now p c.in_ok-payload.ensures.pieces c.in_ok-payload.ensures.whole c.in_ok-payload.ensures.rest
    (λ q fits is. c.in_default.ensures.none q fits (is ∙ ap (λ (n : ℕ). piece c.args.name (c.args.first + n / 1024) q) (sym len))) same
