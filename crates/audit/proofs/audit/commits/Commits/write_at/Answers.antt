use Rattle.std.proofs.Common.{◌≡◌, ◌∙◌, List, None, Some, subst}
use Rattle.std.specs.Prelude.{slice_get}
use Rattle.std.proofs.lemmas.Option.{slice_get_past}
use Rattle.audit.specs.declared.audit.parts.Commit.{Commit}
use Rattle.audit.specs.declared.audit.parts.Write.{Write}
use Rattle.audit.proofs.KeptLists.{at_item}
use Rattle.audit.proofs.Versions.{no_commit, no_write}
use Rattle.audit.proofs.audit.commits.Commits.write_at.Goals as goal

pub returns-in_default-clause-none : goal.returns-in_default-clause-none
returns-in_default-clause-none c =
    let place = c.args.version.now.place in
    let past = slice_get_past c.deref.result.now place c.in_default.ensures.lookup.3 in
    no_commit c.args.self.now c.args.version.now (subst (λ (l : List Commit). slice_get l place ≡ None) (c.deref.ensures.value ∙ c.self.view_is) past)

pub returns-in-Some-get-clause-some : goal.returns-in-Some-get-clause-some
returns-in-Some-get-clause-some c =
    let place = c.args.version.now.place in
    let commit = c.in-Some.commit.now in
    let write = c.in-Some-get.write.now in
    let at = at_item c.deref.result.now place commit c.in-Some.ensures.lookup.3.0 c.in-Some.ensures.lookup.1 in
    let put = at_item c.deref-2.result.now c.args.version.now.write write c.in-Some-get.ensures.lookup.3.0 c.in-Some-get.ensures.lookup.1 in (
      commit,
      subst (λ (l : List Commit). slice_get l place ≡ Some commit) (c.deref.ensures.value ∙ c.self.view_is) at,
      subst (λ (l : List Write). slice_get l c.args.version.now.write ≡ Some write) c.deref-2.ensures.value put,
    )

pub returns-in-None-clause-none : goal.returns-in-None-clause-none
returns-in-None-clause-none c =
    let place = c.args.version.now.place in
    let commit = c.in-Some.commit.now in
    let at = at_item c.deref.result.now place commit c.in-Some.ensures.lookup.3.0 c.in-Some.ensures.lookup.1 in
    let past = slice_get_past c.deref-2.result.now c.args.version.now.write c.in-None.ensures.lookup.3 in
    no_write c.args.self.now c.args.version.now commit
    (subst (λ (l : List Commit). slice_get l place ≡ Some commit) (c.deref.ensures.value ∙ c.self.view_is) at)
    (subst (λ (l : List Write). slice_get l c.args.version.now.write ≡ None) c.deref-2.ensures.value past)
