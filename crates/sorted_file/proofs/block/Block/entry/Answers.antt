use Rattle.std.proofs.Common.{◌≡◌, List, ℕ, length, drop, slice_get, Some, refl, sym, ap, subst, ◌∙◌, arith}
use Rattle.std.proofs.lemmas.Option.{slice_get_past, slice_get_read}
use Rattle.std.specs.Prelude.{option_map}
use Rattle.cell_key.specs.Entries.{lent_entry}
use Rattle.sorted_file.specs.Block.{starts_from}
use Rattle.sorted_file.proofs.Starts.{no_entry_at, read_at, same_entry, IsReadAt}
use Rattle.sorted_file.proofs.block.Block.entry.Goals as goal

pub returns-in_err-start : goal.returns-in_err-start
returns-in_err-start c = λ es p.
    let starts = c.deref.ensures.value ∙ p.starts in
    let past = c.in_err-start.ensures.lookup.3 in
    ap (option_map lent_entry) c.from_residual.ensures ∙ sym (no_entry_at es c.args.at 0 (slice_get_past (starts_from 0 es) c.args.at (omega (arith, past, ap length starts))))

pub returns-in_err-entry : goal.returns-in_err-entry
returns-in_err-entry c = λ es p.
    let start = c.in_ok-start.field-0.now in
    let starts = c.deref.result.now in
    let got : slice_get c.args.self.now.starts.items c.args.at ≡ Some start = ap (λ (l : List ℕ). slice_get l c.args.at) (sym c.deref.ensures.value) ∙ slice_get_read starts (length starts) c.args.at start refl c.in_ok-start.ensures.lookup.3.0 c.in_ok-start.ensures.lookup.1 in
    let least = c.min.ensures in
    let len = c.len.ensures in
    let at = read_at es c.args.self.now c.args.at start c.min.result p got (omega (arith, least)) (λ h. omega (arith, least, len, h, c.args.self.now.bytes.ok)) in
    let rest = ap (drop c.min.result) (sym c.deref-2.ensures.value) ∙ sym c.split_at.ensures.back in
    let here = subst (IsReadAt es c.args.at) rest at in
    absurd (c.in_err-entry.ensures.none here.small here.entry here.more here.bytes)

pub returns : goal.returns
returns c = λ es p.
    let start = c.in_ok-start.field-0.now in
    let starts = c.deref.result.now in
    let got : slice_get c.args.self.now.starts.items c.args.at ≡ Some start = ap (λ (l : List ℕ). slice_get l c.args.at) (sym c.deref.ensures.value) ∙ slice_get_read starts (length starts) c.args.at start refl c.in_ok-start.ensures.lookup.3.0 c.in_ok-start.ensures.lookup.1 in
    let least = c.min.ensures in
    let len = c.len.ensures in
    let at = read_at es c.args.self.now c.args.at start c.min.result p got (omega (arith, least)) (λ h. omega (arith, least, len, h, c.args.self.now.bytes.ok)) in
    let rest = ap (drop c.min.result) (sym c.deref-2.ensures.value) ∙ sym c.split_at.ensures.back in
    same_entry es c.args.at c.split_at.result.1.now c.in_ok-entry.field-0-1.now (lent_entry c.in_ok-entry.entry) (subst (IsReadAt es c.args.at) rest at) c.in_ok-entry.ensures.found
