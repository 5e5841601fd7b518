use Rattle.std.proofs.Common.{ℕ, ◌-◌, length, drop, refl, sym, ap, ◌∙◌, arith}
use Rattle.sorted_file.proofs.Framing.{part_end}
use Rattle.sorted_file.proofs.check.read_foot.Goals as goal

pub returns-in_default-clause-damaged : goal.returns-in_default-clause-damaged
returns-in_default-clause-damaged g c = λ is image tells e h.
    c.in_default.ensures.none image e h (c.deref.ensures.value ∙ c.in_ok-foot.ensures.part image tells ∙ part_end image c.args.size c.foot_len-len.result e (omega (arith, c.requires, c.foot_len-len.ensures))
    ∙ ap (λ (n : ℕ). drop (length image - n) image) c.foot_len-len.ensures)

pub returns-clause-framed : goal.returns-clause-framed
returns-clause-framed g c = λ image tells e h.
    let foot = c.in_ok-foot.ensures.part image tells ∙ part_end image c.args.size c.foot_len-len.result e (omega (arith, c.requires, c.foot_len-len.ensures))
    ∙ ap (λ (n : ℕ). drop (length image - n) image) c.foot_len-len.ensures in
    let named = c.in-Some.ensures.named in
    let to = c.in-Some.ensures.to in
    record {
      at = c.in-Some.at;
      numbers = named.0;
      named = h;
      last = foot;
      foot = sym c.deref.ensures.value ∙ named.1;
      from = c.in-Some.ensures.from;
      to = omega (arith, to, e);
      behind = refl;
    }
