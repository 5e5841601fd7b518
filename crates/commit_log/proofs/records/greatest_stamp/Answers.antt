use Rattle.std.proofs.Common.{◌≡◌, ◌+◌, ◌++◌, ◌∷◌, ◌∙◌, [], take, ℕ, List, rules, ap, arith, inl, max, sym, subst}
use Rattle.std.specs.Global.{Vec}
use Rattle.std.proofs.lemmas.List.{map_more}
use Rattle.commit_log.specs.Frames.{bytes_of}
use Rattle.commit_log.specs.Records.{IsGreatest}
use Rattle.commit_log.proofs.Naming.{greatest_more}
use Rattle.commit_log.proofs.records.greatest_stamp.Goals as goal

pub loop-record-init : goal.loop-record-init
loop-record-init c = record { above = omega arith; up_to = tt; reached = inl (omega arith) }

pub loop-record-preserved : goal.loop-record-preserved
loop-record-preserved c =
    let index = c.loop-record.record-index in
    let first : bytes_of (take (index + 1) c.args.records.now) ≡ bytes_of (take index c.args.records.now) ++ c.record-item.result.items ∷ [] =
    map_more (λ (v : Vec ℕ). v.items) c.args.records.now index c.record-item.result (search rules)
    ∙ ap (λ (v : Vec ℕ). bytes_of (take index c.args.records.now) ++ v.items ∷ []) (sym c.record-item.is) in
    let is : c.record-item.result.items ≡ c.deref.result.now = search rules in
    let more = greatest_more c.args.mark c.loop-record.greatest c.stamp_of.result (bytes_of (take index c.args.records.now)) c.deref.result.now c.loop-record.invariant c.stamp_of.ensures.up_to c.stamp_of.ensures.has in
    let all : bytes_of (take index c.args.records.now) ++ c.deref.result.now ∷ [] ≡ bytes_of (take (index + 1) c.args.records.now) = sym (first ∙ ap (λ (b : List ℕ). bytes_of (take index c.args.records.now) ++ b ∷ []) is) in
    subst (λ (n : ℕ). IsGreatest c.args.mark (bytes_of (take (index + 1) c.args.records.now)) n) (sym c.max-greatest.ensures) (subst (λ (rs : List (List ℕ)). IsGreatest c.args.mark rs (max c.loop-record.greatest c.stamp_of.result)) all more)
