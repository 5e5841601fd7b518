-- Frames, and the one way to cut a stream into them.
use Rattle.std.specs.Prelude.{◌≡◌, ℕ, ◌+◌, ◌<◌, ◌≤◌, List, ◌++◌, length, take}
use Rattle.std.specs.List.{AllByRecursion, flat_map}
use Rattle.std.specs.Int.{to_be_bytes, from_be_bytes, w32}

-- the longest body of a frame
abbrev pub longest : ℕ
longest = 1048576

-- the longest frame of a reply
abbrev pub longest_reply : ℕ
longest_reply = 65554

-- a frame: the length of the body in four bytes, and the body
unfoldable pub frame : List ℕ → List ℕ
frame body = to_be_bytes w32 (length body) ++ body

abbrev pub frames : List (List ℕ) → List ℕ
frames bodies = flat_map frame bodies

-- the length that the first four bytes give
unfoldable pub announced : List ℕ → ℕ
announced bytes = from_be_bytes w32 (take 4 bytes)

-- its first four bytes give a length past the limit
pub record IsTooLong (rest : List ℕ) : Type 0 where
  pub whole_length : 4 ≤ length rest
  pub past : longest < announced rest

-- less than a whole frame, and no length past the limit
pub record IsPartial (rest : List ℕ) : Type 0 where
  pub within : 4 ≤ length rest → announced rest ≤ longest
  pub short : 4 ≤ length rest → length rest < 4 + announced rest

-- the rest doesn't begin with a whole frame
pub record BeginsNoFrame (rest : List ℕ) : Type 0 where
  pub short : 4 ≤ length rest → announced rest ≤ longest → length rest < 4 + announced rest

abbrev pub IsBody : List ℕ → Type 0
IsBody body = length body ≤ longest

-- The stream is the frames of these bodies, and a rest that doesn't begin with a whole frame.
pub record CutsInto (stream : List ℕ) (bodies : List (List ℕ)) (rest : List ℕ) : Type 0 where
  pub whole : stream ≡ frames bodies ++ rest
  pub each : AllByRecursion IsBody bodies
  pub open_rest : BeginsNoFrame rest
