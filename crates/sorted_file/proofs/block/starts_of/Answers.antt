use Rattle.std.proofs.Common.{rules, [], List, ℕ, length, length-append, subst, sym, ap, ◌∙◌, arith}
use Rattle.cell_key.specs.Entries.{lent_entry}
use Rattle.sorted_file.specs.Block.{last_text}
use Rattle.sorted_file.specs.Grammar.{block_bytes}
use Rattle.sorted_file.proofs.Starts.{next_done, nothing_read, stuck_next, IsDone}
use Rattle.sorted_file.proofs.block.starts_of.Goals as goal

pub entries-init : goal.entries-init
entries-init c = record {
  done = subst (λ (l : List ℕ). IsDone c.args.bytes.now c.args.bytes.now [] l) (sym c.in_ok-starts.ensures.none) (nothing_read c.args.bytes.now);
  key = tt;
}

pub returns-in_default-clause-none : goal.returns-in_default-clause-none
returns-in_default-clause-none c = λ es list are.
    let d = c.entries.invariant.done in
    let size = ap length d.read ∙ length-append (block_bytes d.done) c.entries.rest.now in
    stuck_next c.args.bytes.now c.entries.rest.now (last_text c.entries.last) c.entries.starts.items d c.requires es list are (search rules) (c.in_default.ensures.none (omega (arith, size, c.requires)))

pub entries-preserved : goal.entries-preserved
entries-preserved c =
    let next = c.in-Some.ensures in
    record {
      done = subst (λ (t : List ℕ). IsDone c.args.bytes.now c.in-Some.after.now t c.push.new.self.items) (sym next.text)
          (subst (λ (l : List ℕ). IsDone c.args.bytes.now c.in-Some.after.now c.in-Some.field-0-0.key.now l) (search rules)
          (next_done c.args.bytes.now c.entries.rest.now (last_text c.entries.last) c.entries.starts.items c.in-Some.after.now (lent_entry c.in-Some.field-0-0) c.entries.invariant.done next.found next.entry next.above));
      key = next.key;
    }
