use Rattle.std.proofs.Common.{◌≡◌, ◌∙◌, drop, ap, subst, arith}
use Rattle.cell_key.specs.Keys.{byte_cmp}
use Rattle.memtable.specs.Order.{IsFront}
use Rattle.memtable.proofs.Fronts.{front_decides, front_ties}
use Rattle.memtable.proofs.key_text.EntryText.compare_with.Goals as goal

pub returns-then-front-self : goal.returns-then-front-self
returns-then-front-self c =
    let kept = subst (IsFront c.self.inside.front) c.self.view_is c.self.invariant in
    c.cmp.ensures ∙ front_decides c.args.front c.self.inside.front c.args.bytes.now c.args.self.now c.requires kept (λ same. omega (arith, same, c.if-front-self.true))

pub returns : goal.returns
returns c =
    let kept = subst (IsFront c.self.inside.front) c.self.view_is c.self.invariant in
    let same : c.args.front ≡ c.self.inside.front = omega (arith, c.if-front-self.false) in
    c.compare_texts.ensures ∙ ap (λ rest. byte_cmp rest c.split_at-2.result.1.now) c.split_at.ensures.back ∙ ap (byte_cmp (drop 8 c.args.bytes.now)) c.split_at-2.ensures.back ∙ ap (λ text. byte_cmp (drop 8 c.args.bytes.now) (drop 8 text)) c.as_slice.ensures
    ∙ front_ties c.args.front c.self.inside.front c.args.bytes.now c.args.self.now c.requires kept same
