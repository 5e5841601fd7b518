-- The meaning of the first four bytes is unchanged with more bytes after them.
use Rattle.std.proofs.Common.{◌≡◌, ℕ, ◌+◌, ◌<◌, ◌≤◌, List, ◌++◌, length, inl, inr, sym, ap, ◌∙◌, subst, arith, length-append}
use Rattle.std.proofs.lemmas.Bool.{cases_lt}
use Rattle.std.proofs.lemmas.List.{take-append-le}
use Rattle.std.proofs.lemmas.Nat.{from_be_bytes-to_be_bytes_4}
use Rattle.std.specs.Int.{from_be_bytes, to_be_bytes, w32}
use Rattle.request_codec.specs.Stream.{longest, frame, announced, IsBody, IsPartial, IsTooLong}

-- bytes after a length past the limit
pub IsTooLong-more : (rest more : List ℕ) → IsTooLong rest → IsTooLong (rest ++ more)
unfolding announced
IsTooLong-more rest more p = record {
  whole_length = omega (arith, p.whole_length, length-append rest more);
  past = subst (λ l. longest < from_be_bytes w32 l) (sym (take-append-le 4 rest more p.whole_length)) p.past;
}

announced-more : (bytes more : List ℕ) → 4 ≤ length bytes → announced (bytes ++ more) ≡ announced bytes
unfolding announced
announced-more bytes more whole = ap (from_be_bytes w32) (take-append-le 4 bytes more whole)

announced-frame : (body more : List ℕ) → IsBody body → announced (frame body ++ more) ≡ length body
unfolding announced frame
announced-frame body more fits = from_be_bytes-to_be_bytes_4 (length body) (omega arith)

length-frame : (body : List ℕ) → length (frame body) ≡ 4 + length body
unfolding frame
length-frame body = omega (arith, length-append (to_be_bytes w32 (length body)) body)

-- less than a frame, if with more bytes it begins with a length past the limit
pub hand_long : (hand read rest : List ℕ) → IsPartial hand → IsTooLong rest → hand ++ read ≡ rest → length hand ≤ 3
hand_long hand read rest partial long whole = elim (cases_lt (length hand) 4) [
  | inl few ↦ omega (arith, few)
  | inr many ↦
      let says : announced hand ≡ announced rest = sym (announced-more hand read many) ∙ ap announced whole in
      let within = partial.within many in
      let past = long.past in
      absurd (omega (arith, says, within, past))
]

-- less than a frame, if with more bytes it begins with this frame
pub hand_frame : (hand read body rest : List ℕ) → IsPartial hand → IsBody body → hand ++ read ≡ frame body ++ rest → length hand ≤ length (frame body) + 3
hand_frame hand read body rest partial fits whole = elim (cases_lt (length hand) 4) [
  | inl few ↦ omega (arith, few)
  | inr many ↦
      let says : announced hand ≡ length body = sym (announced-more hand read many) ∙ (ap announced whole ∙ announced-frame body rest fits) in
      let short = partial.short many in
      omega (arith, says, short, length-frame body)
]
