use Rattle.std.proofs.Common.{rules, ◌≡◌, ◌-◌, [], ◌∷◌, ◌++◌, length, length-append, refl, sym, ap, ◌∙◌, arith}
use Rattle.cell_key.specs.Entries.{lent_entry}
use Rattle.sorted_file.specs.Block.{last_text}
use Rattle.sorted_file.specs.Grammar.{block_bytes}
use Rattle.sorted_file.proofs.Starts.{all_read, done_as, next_done, nothing_read, stuck_next}
use Rattle.sorted_file.proofs.gathering.gather.Goals as goal

pub entries-init : goal.entries-init
unfolding done_as nothing_read
entries-init c = record {
  done = done_as c.args.bytes.now c.args.bytes.now [] [] [] c.in_ok-starts.starts.items (nothing_read c.args.bytes.now) refl (sym c.in_ok-starts.ensures.none);
  key = tt;
  columns = c.in_ok-columns.ensures.none;
}

pub returns-in_default-clause-none : goal.returns-in_default-clause-none
returns-in_default-clause-none c = λ es list are.
    let d = c.entries.invariant.done in
    let size = ap length d.read ∙ length-append (block_bytes d.done) c.entries.rest.now in
    stuck_next c.args.bytes.now c.entries.rest.now (last_text c.entries.last) c.entries.starts.items d c.requires es list are (search rules) (c.in_default.ensures.none (omega (arith, size, c.requires)))

pub entries-preserved : goal.entries-preserved
unfolding done_as next_done
entries-preserved c =
    let next = c.in-Some.ensures in
    let i = c.entries.invariant in
    let entry = lent_entry c.in-Some.entry in
    let starts : (c.entries.starts.items ++ (length c.args.bytes.now - length c.entries.rest.now) ∷ []) ≡ c.push.new.self.items = search rules in
    record {
      done = done_as c.args.bytes.now c.in-Some.after.now c.in-Some.entry.key.now _ c.in-Some.key.text.now c.push.new.self.items
          (next_done c.args.bytes.now c.entries.rest.now (last_text c.entries.last) c.entries.starts.items c.in-Some.after.now entry i.done next.found next.entry next.above) (sym next.text) starts;
      key = next.key;
      columns = c.in_ok-add.ensures.added i.done.done i.columns;
    }

pub returns-clause-found : goal.returns-clause-found
returns-clause-found c =
    let i = c.entries.invariant in
    record {
      spelling = record {
        entries = i.done.done;
        list = i.done.list;
        bytes_are = all_read c.args.bytes.now c.entries.rest.now (last_text c.entries.last) c.entries.starts.items i.done (search rules);
        starts_are = i.done.starts_are;
      };
      columns = i.columns;
    }
