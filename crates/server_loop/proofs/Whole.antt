-- The effects of `serve`, in terms of the whole stream.
use Rattle.std.proofs.Common.{◌≡◌, ◌≢◌, ℕ, List, [], ◌++◌, Option, None, Some, IfSome, Result, Ok, Err, IfOk, refl, sym, ap, ◌∙◌, subst, append_assoc, append-nil}
use Rattle.std.specs.Io.KnownBytes.{Appends}
use Rattle.si_model.specs.Machine.{State}
use Rattle.server_loop.specs.Runs.{Taken, AnswersAs}
use Rattle.request_codec.specs.Stream.{frames}
use Rattle.request_codec.specs.declared.answers.Answer.{Answer as CodecAnswer}
use Rattle.request_codec.specs.declared.operations.Operation.{Operation as Lent}
use Rattle.server_loop.specs.Serve.{Serves, ServesStream, RestIs}
use Rattle.server_loop.specs.declared.statuses.End.{End}
use Rattle.server_loop.specs.declared.statuses.End.TheVariants as ends
use Rattle.server_loop.specs.declared.statuses.ServeFault.{ServeFault}
use Rattle.server_loop.proofs.Replied.{taken-large}
use Rattle.server_loop.proofs.ServingLemmas.{BeginsNoFrame-from_large}
use Rattle.server_loop.proofs.FrameHeads.{IsTooLong-more}

module _ {S : Type 0} (shows : S → State → Type 0) (says : S → Lent → CodecAnswer → S → Type 0) (between : S → S → Type 0) where
  -- the reader was at its end
  at_end : (a b : S) (stream rest' : List ℕ) (h i : Option (List ℕ)) (r : ℕ) (end : End) (p : Serves shows says between a b (Some stream) (Some rest') h i r (Ok end)) → rest' ≡ [] → RestIs end p.rest → ServesStream shows says between a b stream h i end
  at_end a b stream rest' h i r end p none is =
      let q = p.handled in
      let all : stream ≡ p.read = p.consumed ∙ ap (λ x. p.read ++ x) none ∙ append-nil p.read in
      record {
        bodies = q.bodies;
        rest = p.rest;
        cut = record { whole = all ∙ q.whole; each = q.each; open_rest = p.open_rest (λ h. cc) };
        rest_is = is;
        replies = q.replies;
        run = subst (λ (ts : List Taken). AnswersAs shows says between a b ts q.replies) q.takes (record { run = q.run; said = q.said });
        appended = subst (Appends h i) q.writes q.appended;
      }

  -- a length past the limit, whatever follows it
  past : (a b : S) (stream rest' : List ℕ) (h i : Option (List ℕ)) (r : ℕ) (p : Serves shows says between a b (Some stream) (Some rest') h i r (Ok ends.TooLarge)) → ServesStream shows says between a b stream h i ends.TooLarge
  past a b stream rest' h i r p =
      let q = p.handled in
      let large = IsTooLong-more p.rest rest' p.ending.0 in
      record {
        bodies = q.bodies;
        rest = p.rest ++ rest';
        cut = record {
          whole = p.consumed ∙ ap (λ x. x ++ rest') q.whole ∙ append_assoc (frames q.bodies) p.rest rest';
          each = q.each;
          open_rest = BeginsNoFrame-from_large (p.rest ++ rest') large;
        };
        rest_is = large;
        replies = q.replies;
        run = subst (λ (ts : List Taken). AnswersAs shows says between a b ts q.replies) (q.takes ∙ sym (taken-large q.bodies p.rest p.ending.0) ∙ taken-large q.bodies (p.rest ++ rest') large) (record { run = q.run; said = q.said });
        appended = subst (Appends h i) q.writes q.appended;
      }

  pub whole-from_serves : (a b : S) (l m h i : Option (List ℕ)) (r : ℕ) (result : Result End ServeFault) → Serves shows says between a b l m h i r result
      → IfSome l (λ stream. IfOk result (λ end. end ≢ ends.ReadsUsedUp → ServesStream shows says between a b stream h i end))
  whole-from_serves a b None m h i r result p = tt
  whole-from_serves a b (Some stream) m h i r (Err fault) p = tt
  whole-from_serves a b (Some stream) None h i r (Ok end) p = absurd p.consumed
  whole-from_serves a b (Some stream) (Some rest') h i r (Ok ends.Clean) p = λ _. at_end a b stream rest' h i r ends.Clean p p.ending.1 p.ending.0
  whole-from_serves a b (Some stream) (Some rest') h i r (Ok ends.Truncated) p = λ _. at_end a b stream rest' h i r ends.Truncated p p.ending.2 (p.ending.0, p.ending.1)
  whole-from_serves a b (Some stream) (Some rest') h i r (Ok ends.TooLarge) p = λ _. past a b stream rest' h i r p
  whole-from_serves a b (Some stream) (Some rest') h i r (Ok ends.ReadsUsedUp) p = λ other. absurd (other refl)
