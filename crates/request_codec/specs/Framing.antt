-- The results of a framer on the bytes that it holds.
use Rattle.std.specs.Prelude.{◌≡◌, ℕ, ◌+◌, ◌<◌, ◌≤◌, List, ◌++◌, ◌⊎◌, length, take}
use Rattle.request_codec.specs.Stream.{announced, frame, longest, IsBody, IsPartial, IsTooLong}
use Rattle.request_codec.specs.declared.framer.First.{First}
use Rattle.request_codec.specs.declared.framer.First.TheVariants as first
use Rattle.request_codec.specs.declared.framer.Next.{Next}
use Rattle.request_codec.specs.declared.framer.Next.TheVariants.{More, Frame, TooLarge}

-- the longest frame: four bytes and the longest body
abbrev pub longest_frame : ℕ
longest_frame = 1048580

-- the bytes begin with a whole frame, or with a length past the limit
abbrev pub IsReady : List ℕ → Type 0
IsReady bytes =
    (4 ≤ length bytes) × ((longest < announced bytes) ⊎ (4 + announced bytes ≤ length bytes))

-- The result of a framer on its bytes, and the bytes left afterwards: the body of their first frame, or nothing.
abbrev pub HandsOut : Next → List ℕ → List ℕ → Type 0
HandsOut More bytes left = IsPartial bytes × (left ≡ bytes)
HandsOut (Frame body) bytes left = IsBody body.now × (bytes ≡ frame body.now ++ left)
HandsOut TooLarge bytes left = IsTooLong bytes × (left ≡ bytes)

-- the same, if the body is the front of a buffer
abbrev pub IsAtFirst : First → List ℕ → List ℕ → List ℕ → Type 0
IsAtFirst first.Part buffer bytes left = IsPartial bytes × (left ≡ bytes)
IsAtFirst (first.Whole len) buffer bytes left =
    (len ≤ longest) × (len ≤ length buffer) × (bytes ≡ frame (take len buffer) ++ left)
IsAtFirst first.TooLarge buffer bytes left = IsTooLong bytes × (left ≡ bytes)
