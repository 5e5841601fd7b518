use Rattle.std.proofs.Common.{◌≡◌, ◌+◌, ◌-◌, ◌/◌, inr, arith}
use Rattle.durable.proofs.stored_mark.StoredMark.mark_over.Goals as goal

pub returns-then-over-eq0-clause-mark : goal.returns-then-over-eq0-clause-mark
returns-then-over-eq0-clause-mark g c =
    let same : c.self.inside.covered ≡ c.args.self.now.covered = λ i. (c.self.view_is i).covered in
    let after = c.if-last-self.false in
    let none = c.if-over-eq0.true in
    record {
      over = omega arith;
      later = omega (arith, same, after);
      ranges = (c.args.last - c.self.inside.covered) / 1000;
      end = omega (arith, same, after, none);
      first = inr (omega arith);
    }

pub returns-clause-mark : goal.returns-clause-mark
returns-clause-mark g c =
    let same : c.self.inside.covered ≡ c.args.self.now.covered = λ i. (c.self.view_is i).covered in
    let after = c.if-last-self.false in
    let some = c.if-over-eq0.false in
    record {
      over = omega (arith, c.min.ensures);
      later = omega (arith, same, after, c.min.ensures);
      ranges = (c.args.last - c.self.inside.covered) / 1000 + 1;
      end = omega (arith, same, after, some, c.min.ensures);
      first = inr (omega (arith, c.min.ensures));
    }
