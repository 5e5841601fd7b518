use Rattle.std.proofs.Common.{rules, arith, sym, ap, ◌∙◌, subst, ◌++◌, ◌+◌, List, ℕ, length, drop}
use Rattle.std.proofs.lemmas.List.{length-drop, length-map}
use Rattle.std.specs.Global.{Vec}
use Rattle.std.specs.List.{AllByRecursion}
use Rattle.commit_log.specs.Frames.{bytes_of}
use Rattle.commit_log.specs.Numbered.{HasLater, IsShort, frames_from}
use Rattle.commit_log.proofs.Numbering.{bytes-last, each-last, length-last, not_both, one_more}
use Rattle.commit_log.proofs.numbered.read_numbered.Goals as goal

pub loop-payload-init : goal.loop-payload-init
unfolding frames_from
loop-payload-init c = record {
  spelled = search rules;
  each = search rules;
  counted = search rules;
  within = search rules;
}

pub loop-payload-preserved : goal.loop-payload-preserved
loop-payload-preserved c =
    let last = bytes-last c.loop-payload.records.items c.push.new.self.items c.in_ok-from_slice.field-0 c.in-Some.payload.now c.in_ok-push.ensures.items c.in_ok-from_slice.ensures.items in
    let left = c.behind-rest.ensures in
    record {
      spelled =
          one_more c.args.first c.loop-payload.next c.args.bytes.now c.loop-payload.rest.now c.in-Some.payload.now (bytes_of c.loop-payload.records.items) c.loop-payload.invariant.spelled c.loop-payload.invariant.counted c.in-Some.ensures.front
          ∙ ap (λ (rs : List (List ℕ)). frames_from c.args.first rs ++ drop (16 + length c.in-Some.payload.now) c.loop-payload.rest.now) (sym last)
          ∙ ap (λ (l : List ℕ). frames_from c.args.first (bytes_of c.push.new.self.items) ++ l) (sym left);
      each = subst (AllByRecursion IsShort) (sym last) (each-last (bytes_of c.loop-payload.records.items) c.in-Some.payload.now c.loop-payload.invariant.each c.in-Some.ensures.found);
      counted = omega (arith, c.loop-payload.invariant.counted, ap length last, length-last (bytes_of c.loop-payload.records.items) c.in-Some.payload.now);
      within = omega (arith, c.loop-payload.invariant.within, ap length last, length-last (bytes_of c.loop-payload.records.items) c.in-Some.payload.now, ap length left, length-drop (16 + length c.in-Some.payload.now) c.loop-payload.rest.now, c.in-Some.ensures.within);
    }

pub returns-clause-whole : goal.returns-clause-whole
returns-clause-whole c broken =
    not_both c.args.first c.args.bytes.now (bytes_of c.loop-payload.records.items) c.loop-payload.rest.now
    (record {
      spelled = c.loop-payload.invariant.spelled;
      each = c.loop-payload.invariant.each;
      torn = λ later. let h = c.if-has_later.ensures.1 (subst (λ (n : ℕ). HasLater n c.loop-payload.rest.now) (sym c.loop-payload.invariant.counted) later) in cc;
    }) broken

pub has_later-requires : goal.has_later-requires
has_later-requires c =
    omega (arith, c.requires, c.loop-payload.invariant.counted, c.loop-payload.invariant.within)

pub returns-clause-few : goal.returns-clause-few
returns-clause-few c =
    omega (arith, c.loop-payload.invariant.within, length-map c.loop-payload.records.items (λ (v : Vec ℕ). v.items))
