-- The first frame of bytes, and its flaws. A body has at most so many bytes.
use Rattle.std.specs.Prelude.{◌≡◌, ◌≢◌, ℕ, ◌+◌, ◌<◌, ◌≤◌, List, [], ◌++◌, length}
use Rattle.request_codec.specs.Stream.{announced, frame}
use Rattle.tablet_audit.specs.declared.frames.Flaw.{Flaw}
use Rattle.tablet_audit.specs.declared.frames.Flaw.TheVariants.{Missing, Cut, OutsideGrammar}

abbrev pub IsUpTo : ℕ → List ℕ → Type 0
IsUpTo most body = length body ≤ most

-- the bytes are the frame of this body, followed by these bytes
abbrev pub Splits : ℕ → List ℕ → List ℕ → List ℕ → Type 0
Splits most bytes body left = IsUpTo most body × (bytes ≡ frame body ++ left)

-- the bytes begin with the frame of this body
abbrev pub BeginsWith : ℕ → List ℕ → List ℕ → Type 0
BeginsWith most bytes body = (left : List ℕ) × Splits most bytes body left

-- less than a whole frame, and no length past the limit
pub record IsPartial (most : ℕ) (bytes : List ℕ) : Type 0 where
  pub within : 4 ≤ length bytes → announced bytes ≤ most
  pub short : 4 ≤ length bytes → length bytes < 4 + announced bytes

-- the first four bytes give a length past the limit
pub record IsTooLong (most : ℕ) (bytes : List ℕ) : Type 0 where
  pub whole_length : 4 ≤ length bytes
  pub past : most < announced bytes

-- why the bytes do not begin with a frame
abbrev pub IsFlawed : ℕ → List ℕ → Flaw → Type 0
IsFlawed most bytes Missing = bytes ≡ []
IsFlawed most bytes Cut = (bytes ≢ []) × IsPartial most bytes
IsFlawed most bytes OutsideGrammar = IsTooLong most bytes
