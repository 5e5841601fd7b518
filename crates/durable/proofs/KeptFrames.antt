-- The states that last after a call of `serve` for several clients.
use Rattle.std.proofs.Common.{◌≡◌, ◌≢◌, ℕ, suc, ◌+◌, ◌≤◌, List, [], ◌∷◌, ◌++◌, length, take, map, Option, Result, Ok, Err, ◌⊎◌, inl, inr, refl, sym, ap, ◌∙◌, subst, arith, length-append}
use Rattle.std.proofs.Math.Seq.{take-append-add, take-length}
use Rattle.std.specs.Io.KnownBytes.{Consumes}
use Rattle.si_model.specs.Machine.{State, IsReached, Stop, StopDone, Step, accepts, tells, stops, reopened}
use Rattle.si_model.specs.Transactions.{Operation, One, Answer, Said, Goes}
use Rattle.si_model.proofs.Reached.{stays_reached}
use Rattle.request_codec.specs.Answers.{answer_of}
use Rattle.request_codec.specs.Operations.{operation_of}
use Rattle.request_codec.specs.Stream.{frames, BeginsNoFrame}
use Rattle.request_codec.specs.declared.answers.Answer.{Answer as CodecAnswer}
use Rattle.request_codec.specs.declared.operations.Operation.{Operation as Lent}
use Rattle.ownership.specs.Tables.{Knows, Table, table_of}
use Rattle.ownership.specs.Turns.{Frame, Exchange, Stops, none, one_more, Handles, HandlesAll}
use Rattle.ownership.specs.Turns as turned
use Rattle.ownership.proofs.Turns.{handles_knows, handles_reached}
use Rattle.durable.specs.Clients.{KeepsFrames, ServesClientsDurably}
use Rattle.cell_key.specs.Cells.{after_edits}
use Rattle.si_model.specs.Machine.{Place}
use Rattle.si_model.specs.ShowsCells.{ShowsCells}
use Rattle.durable.specs.Answers.{LastsIn, StoresUnder}
use Rattle.durable.specs.StoredMarks.{CoversStamp}
use Rattle.durable.specs.View.{View}
use Rattle.commit_log.specs.declared.logs.Log.{Ghosts as Log}
use Rattle.durable.specs.declared.server.DurableServer.{DurableServer}
use Rattle.durable.specs.Durability.{FailsToSettle, GoesOn, IsSettled, Settles, SettlesAnswers}
use Rattle.server_loop.specs.Batches.{over_at, AnswersAll, Cuts, Delivers, ServesOn, SettlesAll}
use Rattle.server_loop.specs.Clients.{AreExchanges, HandlesFrame, HandlesTo, IsAnsweredTo, ServesClients, ServesFrames, SettlesOwned, ShowsOwned, StopsEach, Unchanged, WritesAll, asks, has_no_client, is_malformed, is_too_large, lacks_memory, leaves, refuses}
use Rattle.server_loop.specs.Runs.{Taken, Body}
use Rattle.server_loop.specs.Serve.{as_write, EndsBy, TakesBodies}
use Rattle.server_loop.specs.declared.client_server.ClientServer.{ClientServer}
use Rattle.server_loop.specs.declared.statuses.End.{End}
use Rattle.server_loop.specs.declared.statuses.ServeFault.{ServeFault}
use Rattle.server_loop.specs.declared.statuses.ServeFault.TheVariants as faults
use Rattle.server_loop.proofs.ClientFrames.{asked_by, done_step, ended_by, handles_to, joins_owned, stopped_by}
use Rattle.server_loop.proofs.Replied.{no_rest, taken-at, taken-over, taken-partial}
use Rattle.server_loop.proofs.ServesEach.{all_written, cut_short}
use Rattle.server_loop.proofs.ServingLemmas.{frames-join, length-answered, taken-join}

-- a Stop changes nothing that a restart keeps
same_reopened : {start : ℕ} {st next : State} → Step st (Stop start) StopDone next → reopened next ≡ reopened st
same_reopened (accepts ok (stops h)) = refl
same_reopened (accepts ok (tells t)) = elim t [ ]

-- nothing was written
none_long : (xs : List ℕ) (n : ℕ) → xs ≡ [] → length xs ≤ n
none_long xs n is = let size : length xs ≡ 0 = ap length is in omega (arith, size)

module _ {S : Type 0} (shows : S → State → Type 0) (says : S → Lent → CodecAnswer → S → Type 0) (between : S → S → Type 0) (lasts : S → State → Type 0) (logs : S → Type 0) where
  abbrev pub ClientLaws : Type 0
  ClientLaws =
      ((old new : S) (operation : Lent) (answer : CodecAnswer) → says old operation answer new → GoesOn shows lasts logs (operation_of operation) (answer_of answer) old new)
      × ((old new : S) → between old new → Settles shows lasts logs old new)
      × ((s : S) (a b : State) → reopened a ≡ reopened b → lasts s a → lasts s b)

  -- the old state lasts, or one of two
  abbrev Lasting : S → State → State → State → Type 0
  Lasting s st now next = lasts s st ⊎ (lasts s now ⊎ lasts s next)

  -- one frame: the machine handles it, and the old state lasts or the shown one
  abbrev OneFrame : ClientServer S → ClientServer S → Frame → ℕ → Answer → State → State → Type 0
  OneFrame a b frame to answer now st = (next : State) × Handles a.admin now (table_of a.owners) frame to answer next (table_of b.owners) × shows b.server next × logs b.server × Lasting b.server st now next

  module _ (laws : ClientLaws) where
    of_same : (a b : ClientServer S) (frame : Frame) (to : ℕ) (answer : Answer) (now st : State) → Unchanged a b → shows a.server now → logs a.server → lasts a.server st → Handles a.admin now (table_of a.owners) frame to answer now (table_of a.owners) → OneFrame a b frame to answer now st
    of_same a b frame to answer now st same shown logged lasting handled = (
      now,
      subst (λ (t : Table). Handles a.admin now (table_of a.owners) frame to answer now t) (sym same.table) handled,
      subst (λ (s : S). shows s now) (sym same.server) shown,
      subst logs (sym same.server) logged,
      inl (subst (λ (s : S). lasts s st) (sym same.server) lasting),
    )

    -- Stops, one after the other, keep what lasts, as a restart forgets sessions
    stops_keep : (client : ℕ) (old new : ClientServer S) (starts : List ℕ) → StopsEach shows says client old starts new → (now st : State) → IsReached now → ShowsOwned shows old now → logs old.server → lasts old.server st
        → (after : State) × Stops now starts after × ShowsOwned shows new after × logs new.server × (reopened after ≡ reopened now) × (lasts new.server st ⊎ lasts new.server now)
    stops_keep client old new [] same now st reached shown logged lasting = (
      now,
      none,
      subst (λ (s : ClientServer S). ShowsOwned shows s now) (sym same) shown,
      subst (λ (s : ClientServer S). logs s.server) (sym same) logged,
      refl,
      inl (subst (λ (s : ClientServer S). lasts s.server st) (sym same) lasting),
    )
    stops_keep client old new (start ∷ more) each now st reached shown logged lasting =
        let one = each.1 in
        let on = laws.0 old.server each.0.server one.said.lent one.said.given one.said.said now reached shown.0 in
        let goes : Goes now (One (Stop start)) one.answer on.next = subst (λ (q : Operation). Goes now q one.answer on.next) (sym one.said.is_operation) (subst (λ (r : Answer). Goes now (operation_of one.said.lent) r on.next) (sym one.said.is_answer) on.goes) in
        let (done, shown_next) = stopped_by shows says client start old each.0 one now reached shown on.next goes on.shown in
        let same = same_reopened (done_step done) in
        let kept : lasts each.0.server st ⊎ lasts each.0.server now = elim (on.lasting logged st lasting) [
          | inl is ↦ inl is
          | inr other ↦ elim other [ inl is ↦ inr is | inr is ↦ inr (laws.2 each.0.server on.next now same is) ]
        ] in
        let reached_next = stays_reached now on.next (One (Stop start)) (Said StopDone) reached done in
        let go = λ (x : State) (is : lasts each.0.server x). stops_keep client each.0 new more each.2 on.next x reached_next shown_next (on.logged logged) is in
        elim kept [
          | inl is ↦ let (after, stopped, shown_after, logs_after, again, last) = go st is in
              (after, one_more done stopped, shown_after, logs_after, again ∙ same, elim last [ inl x ↦ inl x | inr x ↦ inr (laws.2 new.server on.next now same x) ])
          | inr is ↦ let (after, stopped, shown_after, logs_after, again, last) = go now is in
              (after, one_more done stopped, shown_after, logs_after, again ∙ same, elim last [ inl x ↦ inr x | inr x ↦ inr (laws.2 new.server on.next now same x) ])
        ]

    frame_keeps : {a b : ClientServer S} {frame : Frame} {to : ℕ} {answer : Answer} → HandlesFrame shows says a b frame to answer → (now st : State) → IsReached now → ShowsOwned shows a now → logs a.server → lasts a.server st → OneFrame a b frame to answer now st
    frame_keeps {a} {b} (asks {client = client} {operation = operation} {answer = answer} free said notes) now st reached shown logged lasting =
        let on = laws.0 a.server b.server said.lent said.given said.said now reached shown.0 in
        let goes : Goes now operation answer on.next = subst (λ (q : Operation). Goes now q answer on.next) (sym said.is_operation) (subst (λ (r : Answer). Goes now (operation_of said.lent) r on.next) (sym said.is_answer) on.goes) in
        (on.next, asked_by shows says client operation answer a b free notes now reached shown on.next goes on.shown, on.shown, on.logged logged, on.lasting logged st lasting)
    frame_keeps {a} {b} (refuses is same) now st reached shown logged lasting = of_same a b _ _ _ now st same shown.0 logged lasting (turned.refuses is)
    frame_keeps {a} {b} (lacks_memory takes same) now st reached shown logged lasting = of_same a b _ _ _ now st same shown.0 logged lasting (turned.lacks_memory takes)
    frame_keeps {a} {b} (is_malformed same) now st reached shown logged lasting = of_same a b _ _ _ now st same shown.0 logged lasting turned.is_malformed
    frame_keeps {a} {b} (has_no_client same) now st reached shown logged lasting = of_same a b _ _ _ now st same shown.0 logged lasting turned.has_no_client
    frame_keeps {a} {b} (is_too_large same) now st reached shown logged lasting = of_same a b _ _ _ now st same shown.0 logged lasting turned.is_too_large
    frame_keeps {a} {b} (leaves {client = client} e) now st reached shown logged lasting =
        let (after, stopped, shown_after, logs_after, again, last) = stops_keep client a e.mid e.starts e.stopped now st reached shown logged lasting in (
          after,
          ended_by shows says client a b e now after stopped,
          subst (λ (s : S). shows s after) (sym e.server) shown_after.0,
          subst logs (sym e.server) logs_after,
          elim last [
            | inl is ↦ inl (subst (λ (s : S). lasts s st) (sym e.server) is)
            | inr is ↦ inr (inl (subst (λ (s : S). lasts s now) (sym e.server) is))
          ],
        )

    -- an answer, with the upkeep after it
    abbrev OneAnswer : ClientServer S → ClientServer S → Taken → List ℕ → State → State → Type 0
    OneAnswer a b taken body now st = (x : Exchange) × AreExchanges (x ∷ []) (taken ∷ []) (body ∷ []) × (next : State) × Handles a.admin now (table_of a.owners) x.frame x.to x.answer next (table_of b.owners)
        × IsReached next × ShowsOwned shows b next × logs b.server × Lasting b.server st now next

    answer_keeps : (a b : ClientServer S) (taken : Taken) (body : List ℕ) → IsAnsweredTo shows says between a taken body b → (now st : State) → IsReached now → ShowsOwned shows a now → logs a.server → lasts a.server st → OneAnswer a b taken body now st
    answer_keeps a b taken body is now st reached shown logged lasting =
        let (next, handled, shown_mid, logs_mid, kept) = frame_keeps is.answered.handled now st reached shown logged lasting in
        let reached_next = handles_reached handled reached in
        let law = laws.1 is.mid.server b.server is.tended in
        let table : table_of b.owners ≡ table_of is.mid.owners = ap (λ owners. table_of owners) is.owners in
        let last = λ (x : State) (on : lasts is.mid.server x). law.lasting next reached_next shown_mid logs_mid x on in (
          record { frame = is.answered.frame; to = is.to; answer = is.answer },
          (is.answered.is_frame, is.is_body, tt),
          next,
          subst (λ (t : Table). Handles a.admin now (table_of a.owners) is.answered.frame is.to is.answer next t) (sym table) handled,
          reached_next,
          (is.shown next shown_mid, subst (λ (t : Table). Knows t next) (sym table) (handles_knows handled reached shown.1)),
          law.logged next reached_next shown_mid logs_mid,
          elim kept [
            | inl on ↦ elim (last st on) [ inl x ↦ inl x | inr x ↦ inr (inr x) ]
            | inr other ↦ elim other [
              | inl on ↦ elim (last now on) [ inl x ↦ inr (inl x) | inr x ↦ inr (inr x) ]
              | inr on ↦ elim (last next on) [ inl x ↦ inr (inr x) | inr x ↦ inr (inr x) ]
            ]
          ],
        )

    same_admin : (a b : ClientServer S) (taken : Taken) (body : List ℕ) → IsAnsweredTo shows says between a taken body b → b.admin ≡ a.admin
    same_admin a b taken body is = is.admin ∙ is.answered.admin

    -- a state of the way lasts
    pub record KeptIn (e : ClientServer S) (admin : Option ℕ) (before : State) (table : Table) (ts : List Taken) (rs : List (List ℕ)) : Type 0 where
      count : ℕ
      exchanges : List Exchange
      are : AreExchanges exchanges (take count ts) (take count rs)
      after : State
      left : Table
      handled : HandlesAll admin before table exchanges after left
      reached : IsReached after
      lasting : lasts e.server after

    kept_none : (e : ClientServer S) (admin : Option ℕ) (before : State) (table : Table) (ts : List Taken) (rs : List (List ℕ)) → IsReached before → lasts e.server before → KeptIn e admin before table ts rs
    kept_none e admin before table ts rs reached lasting = record { count = 0; exchanges = []; are = tt; after = before; left = table; handled = (refl, refl); reached = reached; lasting = lasting }

    abbrev Ends : ClientServer S → Type 0
    Ends e = (end : State) × IsReached end × ShowsOwned shows e end × logs e.server

    kept_later : (a b e : ClientServer S) (t : Taken) (ts : List Taken) (r : List ℕ) (rs : List (List ℕ)) (now next : State) (x : Exchange) → AreExchanges (x ∷ []) (t ∷ []) (r ∷ []) → Handles a.admin now (table_of a.owners) x.frame x.to x.answer next (table_of b.owners) → b.admin ≡ a.admin
        → KeptIn e b.admin next (table_of b.owners) ts rs → KeptIn e a.admin now (table_of a.owners) (t ∷ ts) (r ∷ rs)
    kept_later a b e t ts r rs now next x are handled same k = record {
      count = suc k.count;
      exchanges = x ∷ k.exchanges;
      are = (are.0, are.1, k.are);
      after = k.after;
      left = k.left;
      handled = (next, table_of b.owners, handled, subst (λ (admin : Option ℕ). HandlesAll admin next (table_of b.owners) k.exchanges k.after k.left) same k.handled);
      reached = k.reached;
      lasting = k.lasting;
    }

    chain_keeps : (a e : ClientServer S) (ts : List Taken) (rs : List (List ℕ)) (now st : State) → AnswersAll (IsAnsweredTo shows says between) a ts rs e → IsReached now → ShowsOwned shows a now → logs a.server → lasts a.server st
        → Ends e × (lasts e.server st ⊎ KeptIn e a.admin now (table_of a.owners) ts rs)
    chain_keeps a e [] [] now st p reached shown logged lasting = (
      (now, reached, subst (λ (s : ClientServer S). ShowsOwned shows s now) (sym p) shown, subst (λ (s : ClientServer S). logs s.server) (sym p) logged),
      inl (subst (λ (s : ClientServer S). lasts s.server st) (sym p) lasting),
    )
    chain_keeps a e [] (r ∷ rs) now st p reached shown logged lasting = absurd p
    chain_keeps a e (t ∷ ts) [] now st p reached shown logged lasting = absurd p
    chain_keeps a e (t ∷ ts) (r ∷ rs) now st p reached shown logged lasting =
        let (x, are, next, handled, reached_next, shown_next, logs_next, kept) = answer_keeps a p.0 t r p.1 now st reached shown logged lasting in
        let on = λ (y : State) (is : lasts p.0.server y). chain_keeps p.0 e ts rs next y p.2 reached_next shown_next logs_next is in
        let later = λ (k : KeptIn e p.0.admin next (table_of p.0.owners) ts rs). kept_later a p.0 e t ts r rs now next x are handled (same_admin a p.0 t r p.1) k in
        elim kept [
          | inl is ↦ ((on st is).0, elim (on st is).1 [ inl same ↦ inl same | inr k ↦ inr (later k) ])
          | inr other ↦ elim other [
            | inl is ↦ ((on now is).0, elim (on now is).1 [ inl same ↦ inr (kept_none e a.admin now (table_of a.owners) (t ∷ ts) (r ∷ rs) reached same) | inr k ↦ inr (later k) ])
            | inr is ↦ ((on next is).0, elim (on next is).1 [ inl same ↦ inr (later (kept_none e p.0.admin next (table_of p.0.owners) ts rs reached_next same)) | inr k ↦ inr (later k) ])
          ]
        ]

    -- ---- calls

    abbrev Answers : ClientServer S → Taken → List ℕ → ClientServer S → Type 0
    Answers = IsAnsweredTo shows says between

    abbrev Sets : ClientServer S → ClientServer S → Type 0
    Sets = SettlesOwned (SettlesAnswers shows between lasts logs)

    abbrev Breaks : ClientServer S → ClientServer S → Type 0
    Breaks = SettlesOwned (FailsToSettle shows between lasts logs)

    belongs : (first mid new : S) → between first mid → SettlesAnswers shows between lasts logs mid new ⊎ FailsToSettle shows between lasts logs mid new → between first new
    belongs first mid new tended (inl done) = done.joins first tended
    belongs first mid new tended (inr failed) = failed.joins first tended

    stays : (old new : S) → SettlesAnswers shows between lasts logs old new ⊎ FailsToSettle shows between lasts logs old new → (st : State) → shows old st → shows new st
    stays old new (inl done) st shown = done.shown st shown
    stays old new (inr failed) st shown = failed.shown st shown

    abbrev joins : (first mid new : ClientServer S) (taken : Taken) (body : List ℕ) → Answers first taken body mid → Sets mid new ⊎ Breaks mid new → Answers first taken body new
    joins = joins_owned shows says between (SettlesAnswers shows between lasts logs) (FailsToSettle shows between lasts logs) belongs stays

    settled_after : (a b : ClientServer S) → SettlesAll Answers Sets Breaks a b → (now : State) → IsReached now → ShowsOwned shows a now → IsSettled shows lasts logs a.server → IsSettled shows lasts logs b.server
    settled_after a b (inl same) now reached shown settled = subst (λ (s : ClientServer S). IsSettled shows lasts logs s.server) (sym same) settled
    settled_after a b (inr (ts, rs, m, some, said, done)) now reached shown settled =
        let ends = (chain_keeps a m ts rs now now said reached shown settled.0 (settled.1 now shown.0)).0 in
        done.settled.settled ends.0 ends.1 ends.2.0 ends.3

    handled_append : (admin : Option ℕ) (st mid next : State) (table middle left : Table) (xs ys : List Exchange) → HandlesAll admin st table xs mid middle → HandlesAll admin mid middle ys next left → HandlesAll admin st table (xs ++ ys) next left
    handled_append admin st mid next table middle left [] ys p q = subst (λ (s : State). HandlesAll admin s table ys next left) p.0 (subst (λ (t : Table). HandlesAll admin mid t ys next left) p.1 q)
    handled_append admin st mid next table middle left (x ∷ xs) ys p q = (p.0, p.1, p.2, handled_append admin p.0 mid next p.1 middle left xs ys p.3 q)

    are_append : (xs ys : List Exchange) (ts us : List Taken) (rs qs : List (List ℕ)) → AreExchanges xs ts rs → AreExchanges ys us qs → AreExchanges (xs ++ ys) (ts ++ us) (rs ++ qs)
    are_append [] ys [] us [] qs p q = q
    are_append (x ∷ xs) ys (t ∷ ts) us (r ∷ rs) qs p q = (p.0, p.1, are_append xs ys ts us rs qs p.2 q)
    are_append [] ys [] us (r ∷ rs) qs p q = absurd p
    are_append [] ys (t ∷ ts) us rs qs p q = absurd p
    are_append (x ∷ xs) ys [] us rs qs p q = absurd p
    are_append (x ∷ xs) ys (t ∷ ts) us [] qs p q = absurd p

    -- all of the way lasts
    whole_kept : (a m e : ClientServer S) (ts : List Taken) (rs : List (List ℕ)) (written : List ℕ) (before : State) (way : HandlesTo shows before a m ts rs) → length ts ≡ length rs → lasts e.server way.after → length written ≤ length (frames rs) → KeepsFrames (lasts e.server) a.admin before (table_of a.owners) ts rs written
    whole_kept a m e ts rs written before way as_many lasting few =
        let all_taken : take (length rs) ts ≡ ts = ap (λ (n : ℕ). take n ts) (sym as_many) ∙ take-length ts in
        record {
          count = length rs;
          exchanges = way.exchanges;
          are = subst (λ (us : List Taken). AreExchanges way.exchanges us (take (length rs) rs)) (sym all_taken) (subst (λ (qs : List (List ℕ)). AreExchanges way.exchanges ts qs) (sym (take-length rs)) way.are);
          after = way.after;
          left = table_of m.owners;
          handled = way.handled;
          reached = way.reached;
          lasting = lasting;
          replied = subst (λ (qs : List (List ℕ)). length written ≤ length (frames qs)) (sym (take-length rs)) few;
        }

    -- after earlier frames
    kept_after : (a m e : ClientServer S) (ts us : List Taken) (rs qs : List (List ℕ)) (written : List ℕ) (before : State) (way : HandlesTo shows before a m ts rs) → length ts ≡ length rs → m.admin ≡ a.admin
        → KeepsFrames (lasts e.server) m.admin way.after (table_of m.owners) us qs written → KeepsFrames (lasts e.server) a.admin before (table_of a.owners) (ts ++ us) (rs ++ qs) (frames rs ++ written)
    kept_after a m e ts us rs qs written before way as_many same k =
        let taken : take (length rs + k.count) (ts ++ us) ≡ ts ++ take k.count us = ap (λ (n : ℕ). take (n + k.count) (ts ++ us)) (sym as_many) ∙ take-append-add ts us k.count in
        let replied = take-append-add rs qs k.count in
        let size : length (frames (rs ++ take k.count qs)) ≡ length (frames rs ++ frames (take k.count qs)) = ap length (frames-join rs (take k.count qs)) in
        let few : length (frames rs ++ written) ≤ length (frames (rs ++ take k.count qs)) = (let less = k.replied in omega (arith, less, size, length-append (frames rs) written, length-append (frames rs) (frames (take k.count qs)))) in
        record {
          count = length rs + k.count;
          exchanges = way.exchanges ++ k.exchanges;
          are = subst (λ (vs : List Taken). AreExchanges (way.exchanges ++ k.exchanges) vs (take (length rs + k.count) (rs ++ qs))) (sym taken)
              (subst (λ (vs : List (List ℕ)). AreExchanges (way.exchanges ++ k.exchanges) (ts ++ take k.count us) vs) (sym replied) (are_append way.exchanges k.exchanges ts (take k.count us) rs (take k.count qs) way.are k.are));
          after = k.after;
          left = k.left;
          handled = handled_append a.admin before way.after k.after (table_of a.owners) (table_of m.owners) k.left way.exchanges k.exchanges way.handled (subst (λ (admin : Option ℕ). HandlesAll admin way.after (table_of m.owners) k.exchanges k.after k.left) same k.handled);
          reached = k.reached;
          lasting = k.lasting;
          replied = subst (λ (vs : List (List ℕ)). length (frames rs ++ written) ≤ length (frames vs)) (sym replied) few;
        }

    all_admin : (a e : ClientServer S) (ts : List Taken) (rs : List (List ℕ)) → AnswersAll Answers a ts rs e → e.admin ≡ a.admin
    all_admin a e [] [] p = ap (λ (s : ClientServer S). s.admin) p
    all_admin a e (t ∷ ts) (r ∷ rs) p = all_admin p.0 e ts rs p.2 ∙ same_admin a p.0 t r p.1
    all_admin a e [] (r ∷ rs) p = absurd p
    all_admin a e (t ∷ ts) [] p = absurd p

    few_written : (front batch : List (List ℕ)) (part more : List ℕ) → frames batch ≡ part ++ more → length (frames front ++ part) ≤ length (frames (front ++ batch))
    few_written front batch part more parts =
        let size : length (frames (front ++ batch)) ≡ length (frames front ++ frames batch) = ap length (frames-join front batch) in
        let whole : length (frames batch) ≡ length (part ++ more) = ap length parts in
        omega (arith, size, whole, length-append (frames front) part, length-append (frames front) (frames batch), length-append part more)

    abbrev served_clients : (most : ℕ) (a e : ClientServer S) (l m h i : Option (List ℕ)) (r : ℕ) (result : Result End ServeFault) → ServesFrames Answers most a e l m h i r result → ServesClients shows says between most a e l m h i r result
    served_clients most a e l m h i r result p = record { served = p; handled = λ before reached shown. handles_to shows says between a e p.taken (p.front ++ p.batch) p.answered before reached shown }

    -- all was settled and written
    all_lasting : (most : ℕ) (result : Result End ServeFault) (over : List Taken) (a e : ClientServer S) (read rest : List ℕ) (l m h i : Option (List ℕ)) (r : ℕ) → Consumes l m read → (as_write result ≢ Err faults.Write → BeginsNoFrame rest) → (p : Delivers Answers Sets Breaks a e read rest over h i)
        → TakesBodies (as_write result) p.answered.bodies rest (map Body p.answered.bodies ++ over) → EndsBy (as_write result) r read rest m h i → WritesAll result [] → ServesClientsDurably shows says between lasts logs most a e l m h i r result
    all_lasting most result over a e read rest l m h i r consumed open_rest p takes ending all =
        let served = all_written Answers Sets Breaks joins most result over a e read rest l m h i r consumed open_rest p takes ending all in
        record {
          clients = served_clients most a e l m h i r result served;
          kept = λ settled before reached shown.
              let way = handles_to shows says between a e served.taken (served.front ++ served.batch) served.answered before reached shown in
              let lasting = (settled_after a e p.settled before reached shown settled).1 way.after way.shown.0 in
              whole_kept a e e served.taken (served.front ++ served.batch) (frames served.front ++ served.part) before way (length-answered Answers a e served.taken (served.front ++ served.batch) served.answered) lasting
              (few_written served.front served.batch served.part served.more served.parts);
        }

    -- a batch was cut
    cut_lasting : (most : ℕ) (result : Result End ServeFault) (fault : ServeFault) (a e : ClientServer S) (read rest : List ℕ) (l m h i : Option (List ℕ)) (r : ℕ) → Consumes l m read → (as_write result ≢ Err faults.Write → BeginsNoFrame rest) → (c : Cuts Answers Sets Breaks most fault a e read rest h i)
        → Sets c.last e ⊎ Breaks c.last e → ((bodies : List (List ℕ)) → TakesBodies (as_write result) bodies rest (map Body bodies ++ c.over)) → EndsBy (as_write result) r read rest m h i → ((more : List ℕ) → WritesAll result more)
        → ((now : State) → IsReached now → shows c.last.server now → logs c.last.server → (st : State) → lasts c.last.server st → ((c.written ≡ []) × lasts e.server st) ⊎ lasts e.server now)
        → ServesClientsDurably shows says between lasts logs most a e l m h i r result
    cut_lasting most result fault a e read rest l m h i r consumed open_rest c is takes ending any err =
        let served = cut_short Answers Sets Breaks joins most result fault a e read rest l m h i r consumed open_rest c is takes ending any in
        let fr = c.front.answered in
        let ts = map Body fr.bodies ++ [] in
        let us = map Body c.batch.bodies ++ c.over in
        record {
          clients = served_clients most a e l m h i r result served;
          kept = λ settled before reached shown.
              let first = handles_to shows says between a c.mid ts c.front.replies fr.said before reached shown in
              let mid_settled = settled_after a c.mid c.front.settled before reached shown settled in
              let second = handles_to shows says between c.mid c.last us c.replies c.batch.said first.after first.reached first.shown in
              let chain = chain_keeps c.mid c.last us c.replies first.after first.after c.batch.said first.reached first.shown mid_settled.0 (mid_settled.1 first.after first.shown.0) in
              let logged = chain.0.3 in
              let as_many = length-answered Answers c.mid c.last us c.replies c.batch.said in
              let whole = λ (is : lasts e.server second.after). whole_kept c.mid c.last e us c.replies c.written first.after second as_many is (few_written [] c.replies c.written c.more c.parts) in
              let k : KeptIn c.last c.mid.admin first.after (table_of c.mid.owners) us c.replies = elim chain.1 [
                | inl same ↦ kept_none c.last c.mid.admin first.after (table_of c.mid.owners) us c.replies first.reached same
                | inr k ↦ k
              ] in
              let later : KeepsFrames (lasts e.server) c.mid.admin first.after (table_of c.mid.owners) us c.replies c.written = elim (err second.after second.reached second.shown.0 logged k.after k.lasting) [
                | inl p ↦ record { count = k.count; exchanges = k.exchanges; are = k.are; after = k.after; left = k.left; handled = k.handled; reached = k.reached; lasting = p.1; replied = none_long c.written (length (frames (take k.count c.replies))) p.0 }
                | inr p ↦ whole p
              ] in
              subst (λ (vs : List Taken). KeepsFrames (lasts e.server) a.admin before (table_of a.owners) vs (c.front.replies ++ c.replies) (frames c.front.replies ++ c.written)) (taken-join fr.bodies c.batch.bodies c.over)
              (kept_after a c.mid e ts us c.front.replies c.replies c.written before first (length-answered Answers a c.mid ts c.front.replies fr.said) (all_admin a c.mid ts c.front.replies fr.said) later);
        }

    pub serves_clients_durably : (most : ℕ) (a e : ClientServer S) (l m h i : Option (List ℕ)) (r : ℕ) (result : Result End ServeFault) → ServesOn Answers Sets Breaks most [] a e l m h i r result → ServesClientsDurably shows says between lasts logs most a e l m h i r result
    serves_clients_durably most a e l m h i r (Ok end) p =
        all_lasting most (Ok end) (over_at end) a e p.read p.rest l m h i r p.consumed p.open_rest p.outcome (taken-at end p.outcome.answered.bodies r p.read p.rest m h i p.ending) p.ending refl
    serves_clients_durably most a e l m h i r (Err faults.Read) p =
        all_lasting most (Err faults.Read) [] a e p.read p.rest l m h i r p.consumed p.open_rest p.outcome (taken-partial p.outcome.answered.bodies p.rest p.ending) p.ending refl
    serves_clients_durably most a e l m h i r (Err faults.NoMemory) p =
        all_lasting most (Err faults.NoMemory) [] a e p.read p.rest l m h i r p.consumed p.open_rest p.outcome (taken-partial p.outcome.answered.bodies p.rest (no_rest p.outcome.answered.bodies p.read p.rest p.outcome.answered.whole p.ending.0)) p.ending refl
    serves_clients_durably most a e l m h i r (Err faults.Write) p = elim p.outcome [
      | inl (over, is_over, d) ↦ all_lasting most (Err faults.Write) over a e p.read p.rest l m h i r p.consumed p.open_rest d (taken-over d.answered.bodies p.rest over is_over) p.ending tt
      | inr c ↦ cut_lasting most (Err faults.Write) faults.Write a e p.read p.rest l m h i r p.consumed p.open_rest c (inl c.cut.0) (λ bodies. taken-over bodies p.rest c.over c.is_over) p.ending (λ more. tt)
          (λ now reached shown logged st lasting. inr ((c.cut.0.settled.settled now reached shown logged).1 now (c.cut.0.settled.shown now shown)))
    ]
    serves_clients_durably most a e l m h i r (Err faults.Log) p =
        let c = p.outcome in
        cut_lasting most (Err faults.Log) faults.Log a e p.read p.rest l m h i r p.consumed p.open_rest c (inr c.cut.0) (λ bodies. taken-over bodies p.rest c.over c.is_over) p.ending (λ more. tt)
        (λ now reached shown logged st lasting. elim (c.cut.0.settled.kept now reached shown logged st lasting) [ inl k ↦ inl (c.cut.1, k) | inr k ↦ inr k ])

-- ---- what devices keep, by what a restart keeps of a state

module _ {S M L : Type 0} (view : View S) (device : Log L) where
  pub lasts_again : (server : DurableServer S M L) (a b : State) → reopened a ≡ reopened b → LastsIn view device server a → LastsIn view device server b
  lasts_again server a b same is =
      let k = is.kept in
      let places : a.places ≡ b.places = ap (λ (s : State). s.places) same in
      record {
        kept = record {
          root = k.root;
          base = k.base;
          kept = subst (λ (ps : List Place). StoresUnder view device server k.root k.base ps) places k.kept;
          records = k.records;
          in_log = k.in_log;
          over = k.over;
          stamps = k.stamps;
          edits = k.edits;
          held = k.held;
          stored = k.stored;
          room = k.room;
          shows = subst (λ (s : State). ShowsCells (after_edits k.base k.edits) s) same k.shows;
          next = sym (ap (λ (s : State). s.next_tablet) same) ∙ (k.next ∙ ap (λ (ps : List Place). length ps + 1) places);
          top = subst (λ (n : ℕ). CoversStamp server.marks k.records n) (ap (λ (s : State). s.top) same) k.top;
        };
      }
