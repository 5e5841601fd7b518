-- The states that last after a call of `serve`.
use Rattle.std.proofs.Common.{◌≡◌, ◌≢◌, ℕ, suc, ◌+◌, ◌<◌, ◌≤◌, List, [], ◌∷◌, ◌++◌, length, take, map, Option, Some, Result, Ok, Err, ◌⊎◌, inl, inr, refl, sym, ap, ◌∙◌, subst, arith, append_assoc, append-nil, length-append}
use Rattle.std.proofs.Math.Seq.{take-append-add, take-length}
use Rattle.std.specs.Io.KnownBytes.{Appends, Consumes}
use Rattle.std.proofs.KnownBytes.{Appends-trans}
use Rattle.si_model.specs.Machine.{State, IsReached}
use Rattle.si_model.specs.Transactions.{Answer as MachineAnswer, Goes}
use Rattle.si_model.proofs.Reached.{stays_reached}
use Rattle.request_codec.specs.Answers.{answer_of}
use Rattle.request_codec.specs.Operations.{operation_of}
use Rattle.request_codec.specs.declared.answers.Answer.{Answer as CodecAnswer}
use Rattle.request_codec.specs.declared.operations.Operation.{Operation as Lent}
use Rattle.request_codec.specs.Stream.{frame, frames, BeginsNoFrame}
use Rattle.durable.specs.Durability.{FailsToSettle, GoesOn, IsAllWritten, IsSettled, KeepsBeginning, ServesDurably, Settles, SettlesAnswers, StaysSettled}
use Rattle.server_loop.specs.Batches.{over_at, Cuts, Delivers, IsAnswered, ServesOn, SettlesAll}
use Rattle.server_loop.specs.Runs.{Taken, Body, Oversize, Answers, RunsAs, RunOver, SaysAll, SaysOf}
use Rattle.server_loop.specs.Serve.{as_write, written_of, EndsBy, TakesBodies, WritesReplies}
use Rattle.server_loop.specs.declared.statuses.End.{End}
use Rattle.server_loop.specs.declared.statuses.ServeFault.{ServeFault}
use Rattle.server_loop.specs.declared.statuses.ServeFault.TheVariants as faults
use Rattle.server_loop.proofs.ReachedRuns.{RunOver-append}
use Rattle.server_loop.proofs.Replied.{length-replies, no_rest, Replies, Replies-append, replies_of, RunsAs-kept, taken-at, taken-over, taken-partial, written_of-join}
use Rattle.server_loop.proofs.ServingLemmas.{Answered-joins, Answered-then, frame-long, taken-join}
use Rattle.server_loop.proofs.StreamReads.{ended_so}
use Rattle.server_loop.proofs.Unread.{unread}

-- ---- lengths

length-run : (a e : State) (ts : List Taken) (rs : List MachineAnswer) → RunOver a ts rs e → length ts ≡ length rs
length-run a e [] [] p = refl
length-run a e (t ∷ ts) (r ∷ rs) p = let more : length ts ≡ length rs = length-run p.0 e ts rs p.2 in omega (arith, more)
length-run a e [] (r ∷ rs) p = absurd p
length-run a e (t ∷ ts) [] p = absurd p

-- without bytes there are no replies
none_replied : (bodies : List (List ℕ)) (bytes rest : List ℕ) (rs : List MachineAnswer) → bytes ≡ frames bodies ++ rest → bytes ≡ [] → length rs ≡ length (map Body bodies ++ []) → rs ≡ []
none_replied [] bytes rest [] whole none as_many = refl
none_replied [] bytes rest (r ∷ rs) whole none as_many = absurd (omega (arith, as_many))
none_replied (b ∷ bodies) bytes rest rs whole none as_many =
    let size : length bytes ≡ length (frames (b ∷ bodies) ++ rest) = ap length whole in
    let zero : length bytes ≡ 0 = ap length none in
    absurd (omega (arith, size, zero, length-append (frames (b ∷ bodies)) rest, length-append (frame b) (frames bodies), frame-long b))

-- ---- chains of answers

module _ {S : Type 0} (says : S → Lent → CodecAnswer → S → Type 0) (between : S → S → Type 0) where
  length-said : (a e : S) (ts : List Taken) (rs : List MachineAnswer) → SaysAll says between a ts rs e → length ts ≡ length rs
  length-said a e [] [] p = refl
  length-said a e (t ∷ ts) (r ∷ rs) p = let more : length ts ≡ length rs = length-said p.1 e ts rs p.4 in omega (arith, more)
  length-said a e [] (r ∷ rs) p = absurd p
  length-said a e (t ∷ ts) [] p = absurd p

  -- upkeep after the last reply may continue
  SaysAll-settles : (m e : S) → ((first : S) → between first m → between first e) → (a : S) (ts : List Taken) (rs : List MachineAnswer) → 0 < length rs → SaysAll says between a ts rs m → SaysAll says between a ts rs e
  SaysAll-settles m e joins a [] [] some p = absurd (omega (arith, some))
  SaysAll-settles m e joins a [] (r ∷ rs) some p = absurd p
  SaysAll-settles m e joins a (t ∷ ts) [] some p = absurd p
  SaysAll-settles m e joins a (t ∷ []) (r ∷ []) some p = (p.0, e, p.2, joins p.0 (subst (λ (s : S). between p.0 s) (sym p.4) p.3), refl)
  SaysAll-settles m e joins a (t ∷ []) (r ∷ q ∷ rs) some p = absurd p.4
  SaysAll-settles m e joins a (t ∷ u ∷ ts) (r ∷ []) some p = absurd p.4
  SaysAll-settles m e joins a (t ∷ u ∷ ts) (r ∷ q ∷ rs) some p = (p.0, p.1, p.2, p.3, SaysAll-settles m e joins p.1 (u ∷ ts) (q ∷ rs) (omega arith) p.4)

-- ---- the states that last

module _ {S : Type 0} (shows : S → State → Type 0) (says : S → Lent → CodecAnswer → S → Type 0) (between : S → S → Type 0) (lasts : S → State → Type 0) (logs : S → Type 0) where
  abbrev Settled : S → Type 0
  Settled s = IsSettled shows lasts logs s

  -- a state of a run lasts
  abbrev KeptIn : S → State → List Taken → List MachineAnswer → Type 0
  KeptIn s before ts rs = (count : ℕ) × (after : State) × RunOver before (take count ts) (take count rs) after × IsReached after × lasts s after

  abbrev Laws : Type 0
  Laws =
      ((old new : S) (operation : Lent) (answer : CodecAnswer) → says old operation answer new → GoesOn shows lasts logs (operation_of operation) (answer_of answer) old new)
      × ((old new : S) → between old new → Settles shows lasts logs old new)

  module _ (laws : Laws) where
    -- one answer: the machine goes on, and the old state lasts or the shown one
    abbrev One : S → S → Taken → MachineAnswer → State → State → Type 0
    One a b t r now st = (next : State) × Answers now t r next × IsReached next × shows b next × logs b × (lasts b st ⊎ (lasts b now ⊎ lasts b next))

    of_same : (a b : S) (t : Taken) (r : MachineAnswer) (now st : State) → b ≡ a → Answers now t r now → IsReached now → shows a now → logs a → lasts a st → One a b t r now st
    of_same a b t r now st same answers reached shown logged lasting = (now, answers, reached, subst (λ (s : S). shows s now) (sym same) shown, subst logs (sym same) logged, inl (subst (λ (s : S). lasts s st) (sym same) lasting))

    one_said : (a b : S) (t : Taken) (r : MachineAnswer) (now st : State) → SaysOf says a t r b → IsReached now → shows a now → logs a → lasts a st → One a b t r now st
    one_said a b (Body body) r now st (inl p) reached shown logged lasting =
        let on = laws.0 a b p.0 p.1 p.4 now reached shown in (
          on.next,
          inl (operation_of p.0, p.2, subst (λ (q : MachineAnswer). Goes now (operation_of p.0) q on.next) (sym p.3) on.goes),
          stays_reached now on.next (operation_of p.0) (answer_of p.1) reached on.goes,
          on.shown,
          on.logged logged,
          on.lasting logged st lasting,
        )
    one_said a b (Body body) r now st (inr p) reached shown logged lasting = of_same a b (Body body) r now st p.1 (unread now body r p.0) reached shown logged lasting
    one_said a b Oversize r now st p reached shown logged lasting = of_same a b Oversize r now st p.1 (p.0, refl) reached shown logged lasting

    -- and the upkeep after it
    then_tends : (a b c : S) (t : Taken) (r : MachineAnswer) (now st : State) → between b c → One a b t r now st → One a c t r now st
    then_tends a b c t r now st tends p =
        let law = laws.1 b c tends in
        let (next, answers, reached, shown, logged, lasting) = p in
        let last = λ (x : State) (is : lasts b x). law.lasting next reached shown logged x is in (
          next,
          answers,
          reached,
          law.shown next shown,
          law.logged next reached shown logged,
          elim lasting [
            | inl is ↦ elim (last st is) [ inl on ↦ inl on | inr after ↦ inr (inr after) ]
            | inr other ↦ elim other [
              | inl is ↦ elim (last now is) [ inl on ↦ inr (inl on) | inr after ↦ inr (inr after) ]
              | inr is ↦ elim (last next is) [ inl on ↦ inr (inr on) | inr after ↦ inr (inr after) ]
            ]
          ],
        )

    -- a chain of answers ends at a state that is shown, with the log in order
    abbrev Ends : S → Type 0
    Ends e = (end : State) × IsReached end × shows e end × logs e

    chain_keeps : (a e : S) (ts : List Taken) (rs : List MachineAnswer) (now st : State) → SaysAll says between a ts rs e → IsReached now → shows a now → logs a → lasts a st → Ends e × (lasts e st ⊎ KeptIn e now ts rs)
    chain_keeps a e [] [] now st p reached shown logged lasting =
        ((now, reached, subst (λ (s : S). shows s now) (sym p) shown, subst logs (sym p) logged), inl (subst (λ (s : S). lasts s st) (sym p) lasting))
    chain_keeps a e [] (r ∷ rs) now st p reached shown logged lasting = absurd p
    chain_keeps a e (t ∷ ts) [] now st p reached shown logged lasting = absurd p
    chain_keeps a e (t ∷ ts) (r ∷ rs) now st p reached shown logged lasting =
        let (next, answers, reached_next, shows_next, logs_next, kept) = then_tends a p.0 p.1 t r now st p.3 (one_said a p.0 t r now st p.2 reached shown logged lasting) in
        let on = λ (x : State) (is : lasts p.1 x). chain_keeps p.1 e ts rs next x p.4 reached_next shows_next logs_next is in
        let later = λ (k : KeptIn e next ts rs). let found : KeptIn e now (t ∷ ts) (r ∷ rs) = (suc k.0, k.1, (next, answers, k.2), k.3, k.4) in found in
        elim kept [
          | inl is ↦ ((on st is).0, elim (on st is).1 [ inl same ↦ inl same | inr k ↦ inr (later k) ])
          | inr other ↦ elim other [
            | inl is ↦ ((on now is).0, elim (on now is).1 [ inl same ↦ inr (0, now, refl, reached, same) | inr k ↦ inr (later k) ])
            | inr is ↦ ((on next is).0, elim (on next is).1 [ inl same ↦ inr (later (0, next, refl, reached_next, same)) | inr k ↦ inr (later k) ])
          ]
        ]

    pub chain_ends : (a e : S) (ts : List Taken) (rs : List MachineAnswer) → SaysAll says between a ts rs e → IsSettled shows lasts logs a → (before : State) → IsReached before → shows a before → Ends e
    chain_ends a e ts rs said settled before reached shown = (chain_keeps a e ts rs before before said reached shown settled.0 (settled.1 before shown)).0

    pub chain_kept : (a e : S) (ts : List Taken) (rs : List MachineAnswer) → SaysAll says between a ts rs e → IsSettled shows lasts logs a → (before : State) → IsReached before → shows a before → KeptIn e before ts rs
    chain_kept a e ts rs said settled before reached shown =
        elim (chain_keeps a e ts rs before before said reached shown settled.0 (settled.1 before shown)).1 [ inl same ↦ (0, before, refl, reached, same) | inr k ↦ k ]

  -- all of a run lasts
  whole_kept : (e : S) (before after : State) (ts : List Taken) (rs : List MachineAnswer) (written : List ℕ) → RunOver before ts rs after → IsReached after → lasts e after → length written ≤ length (written_of rs) → KeepsBeginning (lasts e) before ts rs written
  whole_kept e before after ts rs written run reached lasting few =
      let as_many : length ts ≡ length rs = length-run before after ts rs run in
      let all_taken : take (length rs) ts ≡ ts = ap (λ (n : ℕ). take n ts) (sym as_many) ∙ take-length ts in
      record {
        count = length rs;
        after = after;
        run = subst (λ (us : List Taken). RunOver before us (take (length rs) rs) after) (sym all_taken) (subst (λ (qs : List MachineAnswer). RunOver before ts qs after) (sym (take-length rs)) run);
        reached = reached;
        lasting = lasting;
        replied = subst (λ (qs : List MachineAnswer). length written ≤ length (written_of qs)) (sym (take-length rs)) few;
      }

  -- after earlier requests
  kept_after : (e : S) (before mid : State) (ts us : List Taken) (rs qs : List MachineAnswer) (written : List ℕ) → RunOver before ts rs mid → KeepsBeginning (lasts e) mid us qs written → KeepsBeginning (lasts e) before (ts ++ us) (rs ++ qs) (written_of rs ++ written)
  kept_after e before mid ts us rs qs written run k =
      let as_many : length ts ≡ length rs = length-run before mid ts rs run in
      let taken : take (length rs + k.count) (ts ++ us) ≡ ts ++ take k.count us = ap (λ (n : ℕ). take (n + k.count) (ts ++ us)) (sym as_many) ∙ take-append-add ts us k.count in
      let replied = take-append-add rs qs k.count in
      let size : length (written_of (rs ++ take k.count qs)) ≡ length (written_of rs ++ written_of (take k.count qs)) = ap length (written_of-join rs (take k.count qs)) in
      let few : length (written_of rs ++ written) ≤ length (written_of (rs ++ take k.count qs)) = let less = k.replied in omega (arith, less, size, length-append (written_of rs) written, length-append (written_of rs) (written_of (take k.count qs))) in
      record {
        count = length rs + k.count;
        after = k.after;
        run = subst (λ (vs : List Taken). RunOver before vs (take (length rs + k.count) (rs ++ qs)) k.after) (sym taken)
            (subst (λ (vs : List MachineAnswer). RunOver before (ts ++ take k.count us) vs k.after) (sym replied) (RunOver-append before mid k.after ts (take k.count us) rs (take k.count qs) run k.run));
        reached = k.reached;
        lasting = k.lasting;
        replied = subst (λ (vs : List MachineAnswer). length (written_of rs ++ written) ≤ length (written_of vs)) (sym replied) few;
      }

  few_first : (xs ys zs : List ℕ) → xs ≡ ys ++ zs → length ys ≤ length xs
  few_first xs ys zs is = let size : length xs ≡ length (ys ++ zs) = ap length is in omega (arith, size, length-append ys zs)

  few_none : (xs : List ℕ) (n : ℕ) → xs ≡ [] → length xs ≤ n
  few_none xs n is = let size : length xs ≡ 0 = ap length is in omega (arith, size)

  -- the state after all answers lasts
  all_kept : (a e : S) (ts : List Taken) (rs : List MachineAnswer) (written : List ℕ) → RunsAs shows a e ts rs → StaysSettled shows lasts logs a e → length written ≤ length (written_of rs) → Settled a → (before : State) → IsReached before → shows a before → KeepsBeginning (lasts e) before ts rs written
  all_kept a e ts rs written run stays few settled before reached shown =
      let r = run before reached shown in
      whole_kept e before r.after ts rs written r.run r.reached ((stays before reached shown settled).1 r.after r.shows) few

  -- ---- calls

  abbrev Answer : S → Taken → List ℕ → S → Type 0
  Answer = IsAnswered shows says between

  abbrev Sets : S → S → Type 0
  Sets = SettlesAnswers shows between lasts logs

  abbrev Breaks : S → S → Type 0
  Breaks = FailsToSettle shows between lasts logs

  joins : (first mid new : S) (taken : Taken) (body : List ℕ) → Answer first taken body mid → Sets mid new ⊎ Breaks mid new → Answer first taken body new
  joins first mid new taken body is (inl done) = record { mid = is.mid; reply = is.reply; is_body = is.is_body; run = is.run; said = is.said; tended = done.joins is.mid is.tended; shown = λ st shows. done.shown st (is.shown st shows) }
  joins first mid new taken body is (inr failed) = record { mid = is.mid; reply = is.reply; is_body = is.is_body; run = is.run; said = is.said; tended = failed.joins is.mid is.tended; shown = λ st shows. failed.shown st (is.shown st shows) }

  stays : Laws → (a b : S) → SettlesAll Answer Sets Breaks a b → StaysSettled shows lasts logs a b
  stays laws a b (inl same) = λ now reached shown settled. subst Settled (sym same) settled
  stays laws a b (inr (ts, rs, m, some, said, done)) = λ now reached shown settled.
      let q = replies_of shows says between a m ts rs said in
      let ends = chain_ends laws a m ts q.0 q.3 settled now reached shown in
      done.settled ends.0 ends.1 ends.2 ends.3

  -- all was settled and written
  all_written : Laws → (result : Result End ServeFault) (over : List Taken) (a e : S) (read rest : List ℕ) (l m h i : Option (List ℕ)) (r : ℕ) → Consumes l m read → (as_write result ≢ Err faults.Write → BeginsNoFrame rest) → (p : Delivers Answer Sets Breaks a e read rest over h i)
      → TakesBodies (as_write result) p.answered.bodies rest (map Body p.answered.bodies ++ over) → ((rs : List MachineAnswer) → WritesReplies (as_write result) rs (written_of rs))
      → EndsBy (as_write result) r read rest m (Some []) (Some (written_of (replies_of shows says between a e (map Body p.answered.bodies ++ over) p.replies p.answered.said).0)) → IsAllWritten result []
      → ServesDurably shows says between lasts logs a e l m h i r result
  all_written laws result over a e read rest l m h i r consumed open_rest p takes writes ending all =
      let ts = map Body p.answered.bodies ++ over in
      let q = replies_of shows says between a e ts p.replies p.answered.said in
      record {
        buffer = written_of q.0;
        served = record {
          read = read;
          consumed = consumed;
          rest = rest;
          open_rest = open_rest;
          handled = record {
            bodies = p.answered.bodies;
            whole = p.answered.whole;
            each = p.answered.each;
            taken = ts;
            takes = takes;
            replies = q.0;
            run = q.2;
            said = q.3;
            written = written_of q.0;
            writes = writes q.0;
            appended = refl;
          };
          ending = ending;
        };
        framed = refl;
        written = written_of q.0;
        more = [];
        parts = sym (append-nil (written_of q.0));
        whole = all;
        appended = subst (λ (w : List (List ℕ)). Appends h i (frames w)) q.1 p.appended;
        kept = all_kept a e ts q.0 (written_of q.0) q.2 (stays laws a e p.settled) (omega arith);
      }

  -- a batch was cut
  cut_lasting : Laws → (most : ℕ) (fault : ServeFault) (a e : S) (read rest : List ℕ) (l m h i : Option (List ℕ)) (r : ℕ) → Consumes l m read → EndsBy (Err faults.Write) r read rest m h i
      → (c : Cuts Answer Sets Breaks most fault a e read rest h i) → Sets c.last e ⊎ Breaks c.last e
      → ((now : State) → IsReached now → shows c.last now → logs c.last → (st : State) → lasts c.last st → ((c.written ≡ []) × lasts e st) ⊎ lasts e now)
      → ServesDurably shows says between lasts logs a e l m h i r (Err faults.Write)
  cut_lasting laws most fault a e read rest l m h i r consumed within c is err =
      let fr = c.front.answered in
      let ts = map Body c.batch.bodies ++ c.over in
      let one = replies_of shows says between a c.mid (map Body fr.bodies ++ []) c.front.replies fr.said in
      let two = replies_of shows says between c.mid c.last ts c.replies c.batch.said in
      let size : 0 < length two.0 = (let more = c.some in omega (arith, more, length-replies c.replies two.0 two.1)) in
      let shown : (st : State) → shows c.last st → shows e st = elim is [ inl done ↦ done.shown | inr failed ↦ failed.shown ] in
      let belongs : (first : S) → between first c.last → between first e = elim is [ inl done ↦ done.joins | inr failed ↦ failed.joins ] in
      let last : Replies shows says between c.mid ts c.replies e = (two.0, two.1, RunsAs-kept shows c.mid c.last e ts two.0 two.2 shown, SaysAll-settles says between c.last e belongs c.mid ts two.0 size two.3) in
      let p = Answered-then Answer a c.mid e read c.behind rest c.over c.front.replies c.replies fr (Answered-joins Answer Sets Breaks joins c.mid c.last e c.behind rest c.over c.replies is c.some c.batch) in
      let both = Replies-append shows says between a c.mid e (map Body fr.bodies ++ []) ts c.front.replies c.replies one last in
      let q : Replies shows says between a (map Body p.bodies ++ c.over) (c.front.replies ++ c.replies) e =
      (both.0, both.1, subst (λ (us : List Taken). RunsAs shows a e us both.0) (taken-join fr.bodies c.batch.bodies c.over) both.2, subst (λ (us : List Taken). SaysAll says between a us both.0 e) (taken-join fr.bodies c.batch.bodies c.over) both.3) in
      let parts : written_of two.0 ≡ c.written ++ c.more = ap frames (sym two.1) ∙ c.parts in
      record {
        buffer = written_of (one.0 ++ two.0);
        served = record {
          read = read;
          consumed = consumed;
          rest = rest;
          open_rest = λ other. absurd (other refl);
          handled = record {
            bodies = p.bodies;
            whole = p.whole;
            each = p.each;
            taken = map Body p.bodies ++ c.over;
            takes = taken-over p.bodies rest c.over c.is_over;
            replies = one.0 ++ two.0;
            run = q.2;
            said = q.3;
            written = written_of (one.0 ++ two.0);
            writes = inl refl;
            appended = refl;
          };
          ending = within;
        };
        framed = refl;
        written = written_of one.0 ++ c.written;
        more = c.more;
        parts = written_of-join one.0 two.0 ∙ (ap (λ (w : List ℕ). written_of one.0 ++ w) parts ∙ sym (append_assoc (written_of one.0) c.written c.more));
        whole = tt;
        appended = Appends-trans h c.sent i (written_of one.0) c.written (subst (λ (w : List (List ℕ)). Appends h c.sent (frames w)) one.1 c.front.appended) c.appended;
        kept = λ settled before reached shows_before.
            let first = one.2 before reached shows_before in
            let mid_settled = stays laws a c.mid c.front.settled before reached shows_before settled in
            let run = two.2 first.after first.reached first.shows in
            let k = chain_kept laws c.mid c.last ts two.0 two.3 mid_settled first.after first.reached first.shows in
            let ends = chain_ends laws c.mid c.last ts two.0 two.3 mid_settled first.after first.reached first.shows in
            let later : KeepsBeginning (lasts e) first.after ts two.0 c.written = elim (err run.after run.reached run.shows ends.3 k.1 k.4) [
              | inl p ↦ record { count = k.0; after = k.1; run = k.2; reached = k.3; lasting = p.1; replied = few_none c.written (length (written_of (take k.0 two.0))) p.0 }
              | inr p ↦ whole_kept e first.after run.after ts two.0 c.written run.run run.reached p (few_first (written_of two.0) c.written c.more parts)
            ] in
            subst (λ (us : List Taken). KeepsBeginning (lasts e) before us (one.0 ++ two.0) (written_of one.0 ++ c.written)) (taken-join fr.bodies c.batch.bodies c.over)
            (kept_after e before first.after (map Body fr.bodies ++ []) ts one.0 two.0 c.written first.run later);
      }

  -- the log failed
  logged_so : (a e : S) (l m h i : Option (List ℕ)) (r : ℕ) → ServesDurably shows says between lasts logs a e l m h i r (Err faults.Write) → ServesDurably shows says between lasts logs a e l m h i r (Err faults.Log)
  logged_so a e l m h i r p = record { buffer = p.buffer; served = p.served; framed = p.framed; written = p.written; more = p.more; parts = p.parts; whole = tt; appended = p.appended; kept = p.kept }

  pub serves_lasting : Laws → (most : ℕ) (a e : S) (l m h i : Option (List ℕ)) (r : ℕ) (result : Result End ServeFault) → ServesOn Answer Sets Breaks most [] a e l m h i r result → ServesDurably shows says between lasts logs a e l m h i r result
  serves_lasting laws most a e l m h i r (Ok end) p =
      all_written laws (Ok end) (over_at end) a e p.read p.rest l m h i r p.consumed p.open_rest p.outcome (taken-at end p.outcome.answered.bodies r p.read p.rest m h i p.ending) (λ rs. refl)
      (ended_so end r p.read p.rest m h i (Some []) (Some _) p.ending) refl
  serves_lasting laws most a e l m h i r (Err faults.Read) p =
      all_written laws (Err faults.Read) [] a e p.read p.rest l m h i r p.consumed p.open_rest p.outcome (taken-partial p.outcome.answered.bodies p.rest p.ending) (λ rs. refl) p.ending refl
  serves_lasting laws most a e l m h i r (Err faults.NoMemory) p =
      let d = p.outcome in
      let q = replies_of shows says between a e (map Body d.answered.bodies ++ []) d.replies d.answered.said in
      all_written laws (Err faults.NoMemory) [] a e p.read p.rest l m h i r p.consumed p.open_rest d (taken-partial d.answered.bodies p.rest (no_rest d.answered.bodies p.read p.rest d.answered.whole p.ending.0)) (λ rs. refl)
      (p.ending.0, ap written_of (none_replied d.answered.bodies p.read p.rest q.0 d.answered.whole p.ending.0 (sym (length-said says between a e (map Body d.answered.bodies ++ []) q.0 q.3)))) refl
  serves_lasting laws most a e l m h i r (Err faults.Write) p = elim p.outcome [
    | inl (over, is_over, d) ↦ all_written laws (Err faults.Write) over a e p.read p.rest l m h i r p.consumed p.open_rest d (taken-over d.answered.bodies p.rest over is_over) (λ rs. inl refl) p.ending tt
    | inr c ↦ cut_lasting laws most faults.Write a e p.read p.rest l m h i r p.consumed p.ending c (inl c.cut.0) (λ now reached shown logged st lasting. inr ((c.cut.0.settled now reached shown logged).1 now (c.cut.0.shown now shown)))
  ]
  serves_lasting laws most a e l m h i r (Err faults.Log) p =
      let c = p.outcome in
      logged_so a e l m h i r (cut_lasting laws most faults.Log a e p.read p.rest l m h i r p.consumed p.ending c (inr c.cut.0)
      (λ now reached shown logged st lasting. elim (c.cut.0.kept now reached shown logged st lasting) [ inl k ↦ inl (c.cut.1, k) | inr k ↦ inr k ]))
