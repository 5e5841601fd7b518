use Rattle.std.proofs.Common.{◌≡◌, ◌+◌, ◌++◌, ◌∷◌, ◌∙◌, [], get_or, take, ℕ, List, rules, refl, ap, sym, subst, inl, inr}
use Rattle.std.specs.Global.{Vec}
use Rattle.std.proofs.lemmas.List.{map_more}
use Rattle.commit_log.specs.Frames.{bytes_of}
use Rattle.commit_log.specs.Records.{HasRecord, any_root}
use Rattle.commit_log.proofs.Naming.{at_index, in_last, no_record}
use Rattle.commit_log.proofs.records.is_over_any.Goals as goal

pub loop-record-init : goal.loop-record-init
loop-record-init c = no_record any_root

pub returns-then-is_any_root : goal.returns-then-is_any_root
returns-then-is_any_root c = (
  λ h.
      let is : (get_or c.args.records.now c.loop-record.record-index c.record-item.result).items ≡ c.deref.result.now = ap (λ (v : Vec ℕ). v.items) (sym c.record-item.is) ∙ search rules in
      at_index c.args.records.now c.loop-record.record-index c.record-item.result any_root (search rules) (is ∙ c.if-is_any_root.ensures.0 refl),
  λ has. cc,
)

pub loop-record-preserved : goal.loop-record-preserved
loop-record-preserved c has =
    let index = c.loop-record.record-index in
    let first : bytes_of (take (index + 1) c.args.records.now) ≡ bytes_of (take index c.args.records.now) ++ c.record-item.result.items ∷ [] =
    map_more (λ (v : Vec ℕ). v.items) c.args.records.now index c.record-item.result (search rules)
    ∙ ap (λ (v : Vec ℕ). bytes_of (take index c.args.records.now) ++ v.items ∷ []) (sym c.record-item.is) in
    let is : c.record-item.result.items ≡ c.deref.result.now = search rules in
    elim (in_last (bytes_of (take index c.args.records.now)) c.deref.result.now any_root
    (subst (λ (rs : List (List ℕ)). HasRecord rs any_root) (first ∙ ap (λ (b : List ℕ). bytes_of (take index c.args.records.now) ++ b ∷ []) is) has)) [
      | inl before ↦ c.loop-record.invariant before
      | inr one ↦ let h = c.if-is_any_root.ensures.1 one in cc
    ]
