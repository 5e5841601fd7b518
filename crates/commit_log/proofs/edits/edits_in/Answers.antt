use Rattle.std.proofs.Common.{◌≡◌, ◌+◌, ◌++◌, ◌∷◌, [], ◌∙◌, get_or, ap, ℕ, rules, sym, subst, take}
use Rattle.std.specs.Global.{Vec}
use Rattle.std.proofs.lemmas.List.{map_more}
use Rattle.std.specs.List.{AllByRecursion}
use Rattle.commit_log.specs.Edits.{IsStoredEdit, made_in}
use Rattle.commit_log.specs.Frames.{bytes_of}
use Rattle.commit_log.proofs.Logging.{all_append, all_spelled, holds_more, IsSpelling}
use Rattle.commit_log.proofs.Naming.{record_at}
use Rattle.commit_log.proofs.Results.{passed}
use Rattle.commit_log.proofs.edits.edits_in.Goals as goal

pub loop-record-preserved : goal.loop-record-preserved
loop-record-preserved c =
    let (part, joined, spelled, all) = c.in_ok-read_record.ensures.ok in
    let index = c.loop-record.record-index in
    let first : bytes_of (take (index + 1) c.args.records.now) ≡ bytes_of (take index c.args.records.now) ++ c.record-item.result.items ∷ [] =
    map_more (λ (v : Vec ℕ). v.items) c.args.records.now index c.record-item.result (search rules)
    ∙ ap (λ (v : Vec ℕ). bytes_of (take index c.args.records.now) ++ v.items ∷ []) (sym c.record-item.is) in
    let is : c.record-item.result.items ≡ c.deref.result.now = search rules in
    record {
      held = holds_more _ _ c.record-item.result.items _ _ part first (is ∙ spelled) joined c.loop-record.invariant.held;
      stored = subst (AllByRecursion IsStoredEdit) (sym joined) (all_append _ (made_in part) c.loop-record.invariant.stored all);
    }

pub returns-in_err-read_record-clause-damaged : goal.returns-in_err-read_record-clause-damaged
returns-in_err-read_record-clause-damaged c = λ e edits all held.
    let each = all_spelled (bytes_of c.args.records.now) edits held all in
    let at = record_at IsSpelling c.args.records.now c.loop-record.record-index c.record-item.result (search rules) each in
    let is : (get_or c.args.records.now c.loop-record.record-index c.record-item.result).items ≡ c.deref.result.now = ap (λ (v : Vec ℕ). v.items) (sym c.record-item.is) ∙ search rules in
    let one : IsSpelling c.deref.result.now = subst IsSpelling is at in
    c.in_err-read_record.ensures.damaged (passed c.from_residual.result c.in_err-read_record.field-0.0 _ c.from_residual.ensures.1 e) one.0 one.1 one.2
