-- The lengths of replies' bodies.
use Rattle.std.proofs.Common.{◌≡◌, ℕ, ◌+◌, ◌≤◌, List, ◌++◌, length, Some, None, arith, length-append}
use Rattle.std.specs.Int.{to_be_bytes, w32}
use Rattle.si_model.specs.Messages.{Reply, Answered, Cleaning, Collecting, Blocked, RawFound, Scanned, Begun, Pending, Held, Conflict, Drawn, Committed, Finished, RolledForward, SplitOff, Swept, Reported}
use Rattle.request_codec.specs.Fields.{number, field, cell_fields}
use Rattle.request_codec.specs.Replies.{reply_body, HoldsWithinLimits, ReplyBytesFit}
use Rattle.request_codec.specs.Stream.{frame, longest_reply}
use Rattle.request_codec.specs.Scans.{reach_fields, items_fields}
use Rattle.request_codec.proofs.Scans.{few_reach, length-items}
use Rattle.request_codec.proofs.Fields.{length-number, length-field, length-cell}

pub length-frame : (body : List ℕ) → length (frame body) ≡ 4 + length body
unfolding frame
length-frame body = omega (arith, length-append (to_be_bytes w32 (length body)) body)

length-two : (j k m n : ℕ) → length (number j m ++ number k n) ≡ j + k
length-two j k m n = omega (arith, length-append (number j m) (number k n), length-number j m, length-number k n)

pub short_body : (reply : Reply) → HoldsWithinLimits reply → length (reply_body reply) ≤ 65550
short_body (Begun n) p = omega (arith, length-number 8 n)
short_body (Answered None) p = omega arith
short_body (Answered (Some value)) p = omega (arith, length-field value)
short_body (Pending n) p = omega (arith, length-number 8 n)
short_body (Held m n) p = omega (arith, length-two 2 2 m n)
short_body (Conflict n) p = omega (arith, length-number 2 n)
short_body (Drawn n) p = omega (arith, length-number 8 n)
short_body (Committed n) p = omega (arith, length-number 8 n)
short_body (Finished m n) p = omega (arith, length-two 2 2 m n)
short_body (Cleaning m n) p = omega (arith, length-two 8 8 m n)
short_body (RolledForward n) p = omega (arith, length-number 8 n)
short_body (Collecting m n) p = omega (arith, length-two 8 8 m n)
short_body (Blocked cell n) p =
    omega (arith, p.0.few, p.1.few, length-append (cell_fields cell) (number 8 n), length-cell cell, length-number 8 n)
short_body (Scanned items reach) p =
    let few = p.bytes in
    omega (
      arith,
      few,
      few_reach reach p.reached,
      length-append (reach_fields reach) (number 4 (length items) ++ items_fields items),
      length-append (number 4 (length items)) (items_fields items),
      length-number 4 (length items),
      length-items items,
    )
short_body (SplitOff n) p = omega (arith, length-number 4 n)
short_body (Swept n) p = omega (arith, length-number 8 n)
short_body (RawFound None) p = omega arith
short_body (RawFound (Some found)) p = omega (arith, length-append (number 8 found.0) (field found.1), length-number 8 found.0, length-field found.1)
short_body (Reported report) p = omega (arith, p)
short_body other p = omega arith

pub reply_fits : (reply : Reply) → HoldsWithinLimits reply → ReplyBytesFit reply
reply_fits (Answered (Some value)) p = omega (arith, p)
reply_fits (Scanned items reach) p = p
reply_fits (Blocked cell start) p = p
reply_fits (RawFound (Some found)) p = omega (arith, p)
reply_fits (Answered None) p = tt
reply_fits (RawFound None) p = tt
reply_fits other p = tt

pub raw_frame : (stamp : ℕ) (value : List ℕ) → length value ≡ 65536 → length (frame (reply_body (RawFound (Some (stamp, value))))) ≡ longest_reply
raw_frame stamp value size = omega (
  arith,
  length-frame (reply_body (RawFound (Some (stamp, value)))),
  length-append (number 8 stamp) (field value),
  length-number 8 stamp,
  length-field value,
)
