use Rattle.std.proofs.Common.{◌≡◌, ◌≢◌, ◌∙◌, ℕ, List, length, sym, ap, arith, Some, Result, Ok, Err}
use Rattle.std.specs.Prelude.{MatchResult}
use Rattle.std.proofs.lemmas.Nat.{be_bytes_8}
use Rattle.std.specs.Array.{IsWholeChunk}
use Rattle.std.specs.Result.{result_ok}
use Rattle.std.specs.Int.{from_be_bytes, w64}
use Rattle.oracle.proofs.folder.number_of.Goals as goal

-- bytes that became an array of eight
eight_of : {E : Type 0} (bytes array : List ℕ) (r : Result (List ℕ) E) → MatchResult r (λ y. IsWholeChunk bytes y 8) (λ _. length bytes ≢ 8) → Some array ≡ result_ok r → (length bytes ≡ 8) × (array ≡ bytes)
eight_of bytes array (Ok y) chunk is = let same : array ≡ y = cc in (chunk.long, same ∙ chunk.same)
eight_of bytes array (Err e) chunk is = let never : ⊥ = cc in absurd never

pub returns-clause-some : goal.returns-clause-some
returns-clause-some c =
    let (long, same) = eight_of c.args.bytes.now c.in_ok-bytes.bytes c.try_into.result c.try_into.ensures.1 c.in_ok-bytes.ensures.value in
    let number = c.from_be_bytes-number.ensures ∙ ap (from_be_bytes w64) same in
    record { limit = omega arith; eight = sym (be_bytes_8 c.args.bytes.now c.from_be_bytes-number.result long (λ i. omega (arith, c.type_inv.bytes i)) number) }
