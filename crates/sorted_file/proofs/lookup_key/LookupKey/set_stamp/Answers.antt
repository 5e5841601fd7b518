use Rattle.std.proofs.Common.{List, ℕ, ap, sym, ◌∙◌}
use Rattle.sorted_file.specs.LookupKey.{entry_number}
use Rattle.sorted_file.specs.Numbers.{number_of}
use Rattle.sorted_file.proofs.Numbered.{one_number}
use Rattle.sorted_file.proofs.lookup_key.LookupKey.set_stamp.Goals as goal

pub entry_number-self-inside-requires : goal.entry_number-self-inside-requires
entry_number-self-inside-requires c =
    let key = c.self.inside.key in
    let was = c.self.invariant in
    was.numbered ∙ sym (one_number key c.args.stamp) ∙ sym (ap number_of (c.deref.ensures.value ∙ c.set_stamp.ensures key was.named))

pub invariant_of-self : goal.invariant_of-self
invariant_of-self c =
    let key = c.self.inside.key in
    let was = c.self.invariant in
    let named = c.set_stamp.ensures key was.named in
    record {
      limits = record { row = was.limits.row; family = was.limits.family; stamp = c.ranges.stamp.fits };
      named = named;
      numbered = was.numbered ∙ sym (one_number key c.args.stamp);
      asked = c.entry_number-self-inside.ensures ∙ ap (λ (t : List ℕ). entry_number key.qualifier t) (c.deref.ensures.value ∙ named);
    }
