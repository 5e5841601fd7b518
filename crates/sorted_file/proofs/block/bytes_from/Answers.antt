use Rattle.std.proofs.Common.{rules, inl, inr, length, sym, ap, ◌∙◌, arith, length-append}
use Rattle.std.proofs.lemmas.List.{nil_from_length}
use Rattle.std.specs.Ordering.{is_le}
use Rattle.cell_key.specs.Entries.{lent_entry, spelled}
use Rattle.sorted_file.proofs.Opened.{behind_next, not_greater}
use Rattle.sorted_file.proofs.Results.{as_none}
use Rattle.sorted_file.proofs.Searched.{past_end, past_entry, past_here, no_front}
use Rattle.sorted_file.proofs.block.bytes_from.Goals as goal

pub returns-in_err-entry-clause-none : goal.returns-in_err-entry-clause-none
returns-in_err-entry-clause-none c = as_none c.from_residual.result (λ es rising e.
    let i = c.below.invariant in
    let h = i.past es rising e in
    let short = i.shorter in
    no_front c.below.rest.now h.more (search rules) (c.in_err-entry.ensures.none (omega (arith, short, c.requires))) h.bytes)

pub returns-then-is_le-clause-found : goal.returns-then-is_le-clause-found
returns-then-is_le-clause-found c = λ es rising e.
    let i = c.below.invariant in
    let short = i.shorter in
    past_here c.args.text.now c.below.rest.now es (i.past es rising e) c.in_ok-entry.after.now (lent_entry c.in_ok-entry.entry) (omega (arith, short, c.requires)) c.in_ok-entry.ensures.found (ap is_le (sym c.compare_texts.ensures) ∙ sym c.is_le.ensures ∙ c.if-is_le.true)

pub below-preserved : goal.below-preserved
below-preserved c =
    let i = c.below.invariant in
    let short = i.shorter in
    let len = ap length c.in_ok-entry.ensures.found ∙ length-append (spelled (lent_entry c.in_ok-entry.entry)) c.in_ok-entry.after.now in
    record {
      past = λ es rising e. past_entry c.args.text.now c.below.rest.now es (i.past es rising e) c.in_ok-entry.after.now (lent_entry c.in_ok-entry.entry) (omega (arith, short, c.requires)) c.in_ok-entry.ensures.found (ap is_le (sym c.compare_texts.ensures) ∙ sym c.is_le.ensures ∙ c.if-is_le.false);
      behind = behind_next c.args.text.now c.args.bytes.now c.below.rest.now c.in_ok-entry.after.now (lent_entry c.in_ok-entry.entry) i.behind c.in_ok-entry.ensures.found (ap is_le (sym c.compare_texts.ensures) ∙ sym c.is_le.ensures ∙ c.if-is_le.false);
      shorter = omega (arith, short, len);
    }

pub returns-clause-found : goal.returns-clause-found
returns-clause-found c = λ es rising e. past_end c.args.text.now c.below.rest.now es (c.below.invariant.past es rising e) (search rules)

pub returns-then-is_le-clause-begins : goal.returns-then-is_le-clause-begins
returns-then-is_le-clause-begins c = inr (
  lent_entry c.in_ok-entry.entry,
  c.in_ok-entry.after.now,
  c.in_ok-entry.ensures.found,
  not_greater _ (ap is_le (sym c.compare_texts.ensures) ∙ sym c.is_le.ensures ∙ c.if-is_le.true),
)

pub returns-clause-begins : goal.returns-clause-begins
returns-clause-begins c = inl (nil_from_length c.below.rest.now (search rules))
