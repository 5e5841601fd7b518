-- The longest body of a reply.
use Rattle.std.specs.Prelude.{ℕ}
use Rattle.request_codec.specs.Stream.{longest}
use Rattle.tablet_audit.specs.declared.sharing.Sharing.{Sharing}
use Rattle.tablet_audit.specs.declared.sharing.Sharing.TheVariants.{Alone, Shared}

-- with several clients four bytes more, of the client's number
abbrev pub longest_replied : Sharing → ℕ
longest_replied Alone = longest
longest_replied (Shared admin) = 1048580
