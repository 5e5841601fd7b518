use Rattle.std.proofs.Common.{◌≡◌, ◌++◌, ◌∷◌, [], length, None, Option, Some, ap, subst, ◌∙◌, arith}
use Rattle.std.proofs.lemmas.List.{length-append}
use Rattle.std.specs.Prelude.{IfSome}
use Rattle.cell_key.specs.Entries.{entries_from}
use Rattle.cell_key.specs.declared.refusals.Refusal.TheVariants.{Device}
use Rattle.file_store.specs.Store.{Contents}
use Rattle.cell_key.specs.Places.{last_or}
use Rattle.tablet.specs.Reads.{HasLeft, NamesPlace, first_value, past_place}
use Rattle.tablet.proofs.Passed.{not_err}
use Rattle.tablet.proofs.ReadPlaces.{place_more, place_none}
use Rattle.tablet.proofs.scan.next_places.Goals as goal

pub returns-in-None-clause-found : goal.returns-in-None-clause-found
returns-in-None-clause-found g c = λ start.
    let i = c.wanted.invariant in
    let before = i.told start in
    let text : c.deref-in-wanted.result.now ≡ past_place (last_or None c.wanted.found.items) = c.deref-in-wanted.ensures.value ∙ c.in_ok-past.ensures.past ∙ ap past_place (c.last_place.ensures ∙ ap (last_or None) c.deref.ensures.value) in
    let named = subst (λ (o : Option Contents). g.S.Source.holds o c.wanted.source → NamesPlace (first_value (entries_from c.deref-in-wanted.result.now (g.S.Source.remaining o c.wanted.source))) c.in_ok-place.field-0) i.same c.in_ok-place.ensures.found before.0 in
    place_none _ _ c.wanted.found.items c.args.most c.deref-in-wanted.result.now text before.1 before.2 i.few (rw c.in-None.is at named)

pub wanted-preserved : goal.wanted-preserved
wanted-preserved g c =
    let i = c.wanted.invariant in
    let s = c.wanted.source in
    let t = c.next_place.new.source in
    let disk = g.F.Files.contents c.args.store.now in
    let text : c.deref-in-wanted.result.now ≡ past_place (last_or None c.wanted.found.items) = c.deref-in-wanted.ensures.value ∙ c.in_ok-past.ensures.past ∙ ap past_place (c.last_place.ensures ∙ ap (last_or None) c.deref.ensures.value) in
    let items : c.push.new.self.items ≡ c.wanted.found.items ++ c.in-Some.place ∷ [] = c.in_ok-push-in-Some.ensures.items in
    let grown = ap length items ∙ length-append c.wanted.found.items (c.in-Some.place ∷ []) in
    record {
      same = c.next_place.ensures.reads.same ∙ i.same;
      quiet = c.in_ok-place.ensures.reads.reason.told (not_err _ Device) ∙ i.quiet;
      few = omega (arith, grown, c.wanted-test.true, c.len.ensures);
      told = λ start.
          let before = i.told start in
          let holds = subst (λ (o : Option Contents). g.S.Source.holds o s → g.S.Source.holds o t) i.same c.in_ok-place.ensures.holds before.0 in
          let named = subst (λ (o : Option Contents). g.S.Source.holds o s → NamesPlace (first_value (entries_from c.deref-in-wanted.result.now (g.S.Source.remaining o s))) c.in_ok-place.field-0) i.same c.in_ok-place.ensures.found before.0 in
          let rest = subst (λ (o : Option Contents). g.S.Source.holds o s → IfSome c.in_ok-place.field-0 (λ place. HasLeft (past_place (Some place)) (g.S.Source.remaining o s) (g.S.Source.remaining o t))) i.same c.in_ok-place.ensures.rest before.0 in
          let more = place_more (g.S.Source.remaining disk c.args.source.now) (g.S.Source.remaining disk s) (g.S.Source.remaining disk t) c.wanted.found.items c.in-Some.place c.deref-in-wanted.result.now text before.1 before.2 (rw c.in-Some.is at named) (rw c.in-Some.is at rest) c.push.new.self.items items in
          (holds, more.0, more.1);
    }
