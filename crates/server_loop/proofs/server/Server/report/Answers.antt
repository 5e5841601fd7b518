use Rattle.std.proofs.Common.{◌≡◌, ◌++◌, ◌∙◌, ℕ, List, [], ap, sym}
use Rattle.std.proofs.lemmas.List.{append-nil}
use Rattle.server_loop.specs.Reports.{none, some}
use Rattle.server_loop.proofs.server.Server.report.Goals as goal
use Rattle.server_loop.proofs.server.Server.report.Goals.{in-Some+in_ok-push_tablet, in_default}

-- what was appended to the counts follows them
behind : (start counts out all part : List ℕ) → start ≡ [] → out ≡ start ++ counts → all ≡ out ++ part → all ≡ counts ++ part
behind start counts out all part empty counted told = told ∙ ap (λ (l : List ℕ). l ++ part) (counted ∙ ap (λ (l : List ℕ). l ++ counts) empty)

pub returns-clause-is : goal.returns-clause-is
returns-clause-is g c = elim c.match-tablet.branch [
  | in-Some+in_ok-push_tablet w ↦ record {
    numbers = c.counts.result;
    counts = c.counts.ensures;
    of_tablet = _;
    told = some _ _ w.in-Some.ensures.place w.in-Some.ensures.named w.in-Some.ensures.tablet;
    bytes = behind _ _ _ _ _ c.new-out.ensures.items c.in_ok-push_words.ensures.ok (ap (λ out. out.items) w.out-is ∙ w.in_ok-push_tablet.ensures.ok);
  }
  | in_default w ↦ record {
    numbers = c.counts.result;
    counts = c.counts.ensures;
    of_tablet = [];
    told = none w.in_default.ensures.none;
    bytes = behind _ _ _ _ _ c.new-out.ensures.items c.in_ok-push_words.ensures.ok (ap (λ out. out.items) w.out-is ∙ sym (append-nil _));
  }
]
