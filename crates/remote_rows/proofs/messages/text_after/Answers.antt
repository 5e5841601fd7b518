use Rattle.std.proofs.Common.{ℕ, List, Option, option_map, ◌++◌, sym, ap, ◌∙◌}
use Rattle.std.specs.Borrow.{Bor}
use Rattle.cell_key.specs.Keys.{text}
use Rattle.cell_key.specs.Places.{place_named}
use Rattle.remote_rows.specs.Messages.{text_after}
use Rattle.remote_rows.proofs.messages.text_after.Goals as goal

pub returns-in_ok-encode-in-Some-clause-ok : goal.returns-in_ok-encode-in-Some-clause-ok
returns-in_ok-encode-in-Some-clause-ok c =
    c.in_ok-encode-in-Some.ensures.ok
    ∙ ap (λ (l : List ℕ). l ++ text c.in_ok-new-in-Some.field-0) c.new-text.ensures.items
    ∙ ap text c.in_ok-new-in-Some.ensures.key
    ∙ sym (ap (λ (o : Option (Bor (List ℕ) × Bor (List ℕ))). text_after (option_map place_named o)) c.in-Some.is)
