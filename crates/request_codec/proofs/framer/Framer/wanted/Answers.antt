use Rattle.std.proofs.Common.{◌≡◌, ◌∙◌, sym, ap, length, take, arith}
use Rattle.request_codec.specs.Stream.{announced}
use Rattle.request_codec.proofs.FirstFrames.{announced-header}
use Rattle.request_codec.proofs.framer.Framer.wanted.Goals as goal

pub returns-in-Some-clause-of_body : goal.returns-in-Some-clause-of_body
returns-in-Some-clause-of_body c = λ whole is.
    let header = ap (take 4) (sym c.self.view_is) ∙ c.in-Some.ensures.some in
    let len : announced c.args.self.now ≡ c.length_in.result = announced-header c.args.self.now c.in-Some.header c.length_in.result header c.length_in.ensures.value in
    let short = is.short whole in
    omega (arith, len, short, c.len.ensures.len, ap length c.self.view_is)
