-- The words for each flaw of a frame.
use Rattle.std.specs.Prelude.{ℕ, List, codes}
use Rattle.tablet_audit.specs.declared.frames.Flaw.{Flaw}
use Rattle.tablet_audit.specs.declared.frames.Flaw.TheVariants.{Missing, Cut, OutsideGrammar}

abbrev pub flaw_text : Flaw → List ℕ
flaw_text Missing = codes "is missing"
flaw_text Cut = codes "is cut"
flaw_text OutsideGrammar = codes "is outside the grammar"
