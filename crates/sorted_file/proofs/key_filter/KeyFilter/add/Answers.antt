use Rattle.std.proofs.lemmas.List.Elements.{All-weaker}
use Rattle.sorted_file.specs.Filters.{HasBits}
use Rattle.sorted_file.proofs.key_filter.KeyFilter.add.Goals as goal

pub returns-clause-keeps : goal.returns-clause-keeps
returns-clause-keeps c = λ other covers.
    let old = c.args.self.now in
    record {
      numbers = All-weaker (HasBits old.numbers.words.items) (HasBits c.add_to.new.filter.words.items) c.add_to.ensures.keeps other.numbers covers.numbers;
      lock_keys = All-weaker (HasBits old.lock_keys.words.items) (HasBits c.add_to-2.new.filter.words.items) c.add_to-2.ensures.keeps other.lock_keys covers.lock_keys;
      bounds = λ q row stamp within. c.joined-self.ensures.first q row stamp (covers.bounds q row stamp within);
    }
