-- The body of an answer fits its frame.
use Rattle.std.proofs.Common.{◌≡◌, ◌+◌, ◌≤◌, ℕ, List, length, length-append, arith}
use Rattle.std.specs.Int.{to_be_bytes, w32}
use Rattle.request_codec.specs.Answers.{AnswerBytesFit, HoldsAnswerWithinLimits, answer_body, answer_of}
use Rattle.request_codec.specs.Laws.{AnswersFit}
use Rattle.request_codec.specs.Stream.{frame}
use Rattle.request_codec.specs.declared.answers.Answer.{Answer}

length-frame : (body : List ℕ) → length (frame body) ≡ 4 + length body
unfolding frame
length-frame body = omega (arith, length-append (to_be_bytes w32 (length body)) body)

pub record FitsFrame (answer : Answer) : Type 0 where
  pub short : length (answer_body (answer_of answer)) + 4 ≤ 1048580
  pub bytes : AnswerBytesFit (answer_of answer)

pub fits_frame : AnswersFit → (answer : Answer) → HoldsAnswerWithinLimits (answer_of answer) → FitsFrame answer
fits_frame fit answer within =
    let fits = fit (answer_of answer) within in
    let short = fits.1 in
    record { short = omega (arith, short, length-frame (answer_body (answer_of answer))); bytes = fits.0 }
