use Rattle.std.proofs.Common.{◌≡◌, ℕ, List, ◌++◌, length, take, drop, refl, sym, ap, ◌∙◌}
use Rattle.std.proofs.lemmas.List.{take-append-drop}
use Rattle.cell_key.specs.Keys.{byte_cmp, text}
use Rattle.cell_key.proofs.LentPlaces.{beside, older_is_after, text_in_column}
use Rattle.cell_key.proofs.lent_keys.in_column.Goals as goal

-- the bytes are the text of an older version in the last key's column
is_older : (c : goal.Else-stamp-last) → c.args.bytes.now ≡ text (beside c.requires c.requires.key.qualifier c.in_ok-stamp.stamp)
is_older c =
    let bytes = c.args.bytes.now in
    let column = c.split_at.result.0.now in
    let at = c.saturating_sub-at.result in
    let parts = sym (take-append-drop at bytes) ∙ ap (λ (t : List ℕ). t ++ drop at bytes) (sym c.split_at.ensures.front) ∙ ap (λ (t : List ℕ). column ++ t) (sym c.split_at.ensures.back) in
    let same = c.are_same.ensures.0 c.if-not-are_same.false ∙ c.split_at-2.ensures.front ∙ ap (λ (n : ℕ). take n c.args.last.text.now) c.saturating_sub-at.ensures in
    text_in_column c.args.last c.requires bytes column c.split_at.result.1.now (length bytes) c.in_ok-stamp.stamp c.if-bytes-last.false parts same c.in_ok-stamp.ensures.found

pub returns-clause-found : goal.returns-clause-found
returns-clause-found c =
    let last = c.requires in
    let stamp = c.in_ok-stamp in
    record {
      key = beside last last.key.qualifier stamp.stamp;
      stored = record { row = last.stored.row; family = last.stored.family; from = stamp.ensures.from; to = stamp.ensures.to };
      is = is_older c;
      place = last.place;
      qualifier = last.qualifier;
      stamp = refl;
    }

pub returns-clause-above : goal.returns-clause-above
returns-clause-above c =
    ap (byte_cmp c.args.last.text.now) (is_older c) ∙ older_is_after c.args.last c.requires c.in_ok-stamp.stamp c.in_ok-stamp.ensures.to c.if-stamp-last.false
