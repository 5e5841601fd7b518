use Rattle.std.proofs.Common.{◌∙◌, List, ℕ, refl, subst, take, arith, rules}
use Rattle.std.specs.Prelude.{All}
use Rattle.std.proofs.lemmas.List.{take_all}
use Rattle.std.proofs.lemmas.List.Elements.{All-more, All-weaker}
use Rattle.sorted_file.specs.Filters.{HasBits}
use Rattle.sorted_file.proofs.filter.set_each.Goals as goal

pub loop-number-init : goal.loop-number-init
loop-number-init c = record { each = search rules; keeps = λ other is. is; size = refl }

pub loop-number-preserved : goal.loop-number-preserved
loop-number-preserved c =
    let i = c.loop-number.invariant in
    let new = c.set_bits.new.words in
    let kept = All-weaker (HasBits c.loop-number.words) (HasBits new) c.set_bits.ensures.keeps (take c.loop-number.number-index c.args.numbers.now) i.each in
    record {
      each = All-more (HasBits new) c.args.numbers.now c.loop-number.number-index 0 (omega arith) kept c.set_bits.ensures.has;
      keeps = λ other is. c.set_bits.ensures.keeps other (i.keeps other is);
      size = c.set_bits.ensures.length ∙ i.size;
    }

pub returns-clause-each : goal.returns-clause-each
returns-clause-each c = subst (λ (l : List ℕ). All (HasBits c.loop-number.words) l) (take_all c.loop-number.number-index c.args.numbers.now (omega arith)) c.loop-number.invariant.each

pub returns-clause-keeps : goal.returns-clause-keeps
returns-clause-keeps c = c.loop-number.invariant.keeps

pub returns-clause-length : goal.returns-clause-length
returns-clause-length c = c.loop-number.invariant.size
