use Rattle.std.proofs.Common.{◌≡◌, ◌+◌, ◌++◌, ◌∷◌, ◌∙◌, [], get_or, take, ℕ, List, rules, refl, ap, sym, subst}
use Rattle.std.specs.Global.{Vec}
use Rattle.std.proofs.lemmas.List.{map_more}
use Rattle.commit_log.specs.Frames.{bytes_of}
use Rattle.commit_log.specs.Records.{NamesRoot}
use Rattle.commit_log.proofs.Naming.{names_at, names_none, names_not}
use Rattle.commit_log.proofs.records.names_root.Goals as goal

pub loop-record-init : goal.loop-record-init
loop-record-init c = names_none c.args.top c.args.sum

pub returns-then-is_over : goal.returns-then-is_over
returns-then-is_over c = (
  λ h.
      let is : (get_or c.args.records.now c.loop-record.record-index c.record-item.result).items ≡ c.deref.result.now = ap (λ (v : Vec ℕ). v.items) (sym c.record-item.is) ∙ search rules in
      names_at c.args.records.now c.loop-record.record-index c.record-item.result c.deref.result.now c.args.top c.args.sum (search rules) is (c.if-is_over.ensures.0 refl),
  λ names. cc,
)

pub loop-record-preserved : goal.loop-record-preserved
loop-record-preserved c names =
    let index = c.loop-record.record-index in
    let first : bytes_of (take (index + 1) c.args.records.now) ≡ bytes_of (take index c.args.records.now) ++ c.record-item.result.items ∷ [] =
    map_more (λ (v : Vec ℕ). v.items) c.args.records.now index c.record-item.result (search rules)
    ∙ ap (λ (v : Vec ℕ). bytes_of (take index c.args.records.now) ++ v.items ∷ []) (sym c.record-item.is) in
    let is : c.record-item.result.items ≡ c.deref.result.now = search rules in
    names_not (bytes_of (take index c.args.records.now)) c.deref.result.now c.args.top c.args.sum c.loop-record.invariant (λ over. let h = c.if-is_over.ensures.1 over in cc)
    (subst (λ (rs : List (List ℕ)). NamesRoot rs c.args.top c.args.sum) (first ∙ ap (λ (b : List ℕ). bytes_of (take index c.args.records.now) ++ b ∷ []) is) names)
