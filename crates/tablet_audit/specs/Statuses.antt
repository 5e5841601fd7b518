-- The exit status of each verdict, and its line.
use Rattle.std.specs.Prelude.{ℕ, List, ◌++◌, Option, Some, None, codes}
use Rattle.std.specs.Fmt.{decimal}
use Rattle.tablet_audit.specs.Flaws.{flaw_text}
use Rattle.tablet_audit.specs.declared.sharing.Sharing.TheVariants.{Alone, Shared}
use Rattle.tablet_audit.specs.declared.verdicts.Verdict.{Verdict}
use Rattle.tablet_audit.specs.declared.verdicts.Verdict.TheVariants.{Correct, NoStep, NotAllowed, BadRequest, BadReply, BadMark}

abbrev pub status_of : Verdict → ℕ
status_of (Correct sharing count) = 0
status_of (NoStep number operation said) = 1
status_of (NotAllowed number frame to said) = 1
status_of (BadMark number) = 1
status_of (BadRequest number flaw) = 2
status_of (BadReply number flaw) = 2

-- for a reply that is no step, or not allowed, the line has more text
abbrev pub verdict_text : Verdict → Option (List ℕ)
verdict_text (Correct Alone count) =
    Some (decimal count ++ codes " replies, each a step of the machine")
verdict_text (Correct (Shared admin) count) = Some (decimal count ++ codes " replies, each allowed")
verdict_text (NoStep number operation said) = None
verdict_text (NotAllowed number frame to said) = None
verdict_text (BadRequest number flaw) =
    Some (codes "request " ++ decimal number ++ codes " " ++ flaw_text flaw)
verdict_text (BadReply number flaw) =
    Some (codes "reply " ++ decimal number ++ codes " " ++ flaw_text flaw)
verdict_text (BadMark number) = Some (codes "the mark behind reply " ++ decimal number
    ++ codes " is below a stamp that was answered")
