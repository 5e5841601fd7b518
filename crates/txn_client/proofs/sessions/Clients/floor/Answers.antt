use Rattle.std.proofs.Common.{◌∙◌, Option, sym, subst, refl}
use Rattle.std.specs.Prelude.{IsSome}
use Rattle.std.proofs.lemmas.Map.Keys.{le_from_not_gt}
use Rattle.txn_client.specs.declared.session.Session.{Session}
use Rattle.txn_client.proofs.Table.{below_least, below_none, floor_least, floor_none, none_kept, within_words}
use Rattle.txn_client.proofs.sessions.Clients.floor.Goals as goal

pub returns-in-Some : goal.returns-in-Some
returns-in-Some c = record {
  below = λ st reached shown. below_least c.args.self.now st reached shown c.in-Some.start.now c.in-Some.field-0-1.now c.in-Some.ensures.value
      (λ u other e. le_from_not_gt c.in-Some.start.now u (c.in-Some.ensures.least u (subst (λ (o : Option Session). IsSome o) (sym e) refl)));
  floor = λ st reached shown known. floor_least c.args.self.now st shown c.in-Some.start.now c.in-Some.field-0-1.now c.in-Some.ensures.value
      (λ u other e. le_from_not_gt c.in-Some.start.now u (c.in-Some.ensures.least u (subst (λ (o : Option Session). IsSome o) (sym e) refl)));
}

pub returns-in-None : goal.returns-in-None
returns-in-None c = record {
  below = λ st reached shown. below_none c.args.self.now st c.saturating_add.result shown (none_kept c.args.self.now c.in-None.ensures.variant.1)
      (c.saturating_add.ensures ∙ within_words c.args.self.now st reached shown);
  floor = λ st reached shown known. floor_none c.args.self.now st c.saturating_add.result shown known (none_kept c.args.self.now c.in-None.ensures.variant.1)
      (c.saturating_add.ensures ∙ within_words c.args.self.now st reached shown);
}
