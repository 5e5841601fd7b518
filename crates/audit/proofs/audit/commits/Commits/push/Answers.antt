use Rattle.std.proofs.Common.{◌≡◌, ◌++◌, ◌∷◌, [], ℕ, List, Option, Some, get_or, length, max, ap, sym, subst, ◌∙◌}
use Rattle.std.specs.Prelude.{IfSome}
use Rattle.audit.specs.Commits.{AreMarked, latest_of}
use Rattle.audit.specs.Histories.{AreAdded, AreHistories, AreStarts, Histories, IsStarted, Starts, versions_at}
use Rattle.audit.specs.declared.audit.parts.Commit.{Commit}
use Rattle.audit.proofs.SearchesBack.{marked_push}
use Rattle.audit.proofs.Started.{starts_more}
use Rattle.audit.proofs.Versions.{history_more, if_some_weaker, pushed}
use Rattle.audit.proofs.audit.commits.Commits.push.Goals as goal

pub invariant_of-self-2 : goal.invariant_of-self-2
invariant_of-self-2 c =
    let old = c.self.inside.list.items in
    let commit : Commit = record { start = c.args.start; stamp = c.args.stamp; writes = c.args.writes; latest = c.max-latest.result } in
    let items : c.push.new.self.items ≡ old ++ commit ∷ [] = c.in_ok-push.ensures.items in
    let latest : c.max-latest.result ≡ max (latest_of 0 old) c.args.stamp = c.max-latest.ensures ∙ ap (λ (n : ℕ). max n c.args.stamp) (c.latest_of.ensures ∙ ap (latest_of 0) c.deref.ensures.value) in
    let at = c.len-place.result in
    let place : at ≡ length old = c.len-place.ensures ∙ c.self.inside.list.ok.0 in
    let it = c.index.result.now in
    let is : it ≡ commit = pushed old commit it at (c.index.ensures ∙ ap (λ (l : List Commit). get_or l at it) items) place in (
      subst (AreMarked 0) (sym items) (marked_push 0 old commit c.self.invariant.0 latest),
      subst (λ (l : List Commit). IfSome c.with_commit.result (AreHistories l)) (sym items)
          (if_some_weaker (λ (after : Histories). (before : Histories) × (c.take-before.result ≡ Some before) × AreAdded before after it.writes.items it.stamp at (length it.writes.items)) (AreHistories (old ++ commit ∷ []))
          (λ after r x.
          let kept : AreHistories old r.0 = subst (λ (o : Option Histories). IfSome o (AreHistories old)) (sym c.take-before.ensures.value ∙ r.1) c.self.invariant.1 in
          let added : AreAdded r.0 after commit.writes.items commit.stamp (length old) (length commit.writes.items) =
          subst (λ (d : Commit). AreAdded r.0 after d.writes.items d.stamp (length old) (length d.writes.items)) is
          (subst (λ (n : ℕ). AreAdded r.0 after it.writes.items it.stamp n (length it.writes.items)) place r.2) in
          history_more old commit x (versions_at r.0 x) (versions_at after x) (kept x) (added.rises x) (added.same x))
          c.with_commit.result c.with_commit.ensures),
      subst (λ (l : List Commit). IfSome c.with_start.result (AreStarts l)) (sym items)
          (if_some_weaker (λ (after : Starts). (before : Starts) × (c.take.result ≡ Some before) × IsStarted before after c.args.start c.args.stamp) (AreStarts (old ++ commit ∷ []))
          (λ after r. starts_more old commit r.0 after (subst (λ (o : Option Starts). IfSome o (AreStarts old)) (sym c.take.ensures.value ∙ r.1) c.self.invariant.2) r.2)
          c.with_start.result c.with_start.ensures),
    )
