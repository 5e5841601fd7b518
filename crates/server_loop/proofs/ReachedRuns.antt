-- Runs over the inputs lead from reached states to reached states, which obey the laws.
use Rattle.std.proofs.Common.{List, [], ◌∷◌, ◌++◌, subst}
use Rattle.si_model.specs.Machine.{State, IsReached}
use Rattle.si_model.specs.Transactions.{Answer}
use Rattle.si_model.proofs.Steps.{reached_sound}
use Rattle.si_model.proofs.Gone.{fates}
use Rattle.request_codec.specs.declared.answers.Answer.{Answer as CodecAnswer}
use Rattle.request_codec.specs.declared.operations.Operation.{Operation as Lent}
use Rattle.server_loop.specs.Runs.{Taken, RunOver, SaysAll, ObeysLaws}

pub RunOver-append : (a m e : State) (ts us : List Taken) (rs qs : List Answer) → RunOver a ts rs m → RunOver m us qs e → RunOver a (ts ++ us) (rs ++ qs) e
RunOver-append a m e [] us [] qs p q = subst (λ (s : State). RunOver s us qs e) p q
RunOver-append a m e (t ∷ ts) us (r ∷ rs) qs p q = (p.0, p.1, RunOver-append p.0 m e ts us rs qs p.2 q)
RunOver-append a m e [] us (r ∷ rs) qs p q = absurd p
RunOver-append a m e (t ∷ ts) us [] qs p q = absurd p

module _ {S : Type 0} (says : S → Lent → CodecAnswer → S → Type 0) (between : S → S → Type 0) where
  pub SaysAll-append : (a m e : S) (ts us : List Taken) (rs qs : List Answer) → SaysAll says between a ts rs m → SaysAll says between m us qs e → SaysAll says between a (ts ++ us) (rs ++ qs) e
  SaysAll-append a m e [] us [] qs p q = subst (λ (s : S). SaysAll says between s us qs e) p q
  SaysAll-append a m e (t ∷ ts) us (r ∷ rs) qs p q = (p.0, p.1, p.2, p.3, SaysAll-append p.1 m e ts us rs qs p.4 q)
  SaysAll-append a m e [] us (r ∷ rs) qs p q = absurd p
  SaysAll-append a m e (t ∷ ts) us [] qs p q = absurd p

pub laws_of : (st : State) → IsReached st → ObeysLaws st
laws_of st reached = record {
  settled = (reached_sound reached).settled;
  scans = (reached_sound reached).scans_settled;
  first_committer = (reached_sound reached).first_committer;
  one_fate = fates st reached;
  one_mark = (reached_sound reached).one_mark;
}
