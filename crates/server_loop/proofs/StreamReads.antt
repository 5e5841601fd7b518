-- How reads join, and how they end.
use Rattle.std.proofs.Common.{◌≡◌, ◌≢◌, ◌==◌, ℕ, ◌+◌, ◌<◌, ◌≤◌, Bool, true, false, List, [], ◌∷◌, ◌++◌, length, take, Option, Some, None, Result, Ok, Err, IfErr, IfOk, ◌⊎◌, inl, inr, refl, sym, ap, ◌∙◌, subst, arith, append_assoc, append-nil, length-append, length-take, length-take-le, map}
use Rattle.std.specs.Io.KnownBytes.{Consumes, Appends, IsAtEnd, Keeps}
use Rattle.std.specs.List.{AllByRecursion}
use Rattle.std.proofs.KnownBytes.{Consumes-trans, Consumes-nil, Keeps-refl}
use Rattle.std.proofs.lemmas.Bool.Decides.{nat_tests}
use Rattle.request_codec.specs.Stream.{frame, frames, IsBody, IsPartial, IsTooLong}
use Rattle.server_loop.specs.Runs.{Taken, Body, Oversize}
use Rattle.server_loop.specs.Serve.{as_write, most_dropped, most_left, EndsBy}
use Rattle.server_loop.specs.Batches.{over_at, over_of, Cuts, Delivers, IsCutBy, IsOver, LeavesRest, Outcome, ReadsOn, Served, ServesOn}
use Rattle.server_loop.specs.declared.statuses.End.{End}
use Rattle.server_loop.specs.declared.statuses.End.TheVariants as ends
use Rattle.server_loop.specs.declared.statuses.ServeFault.{ServeFault}
use Rattle.server_loop.specs.declared.statuses.ServeFault.TheVariants as faults
use Rattle.server_loop.specs.declared.frame_loop.Rest.TheVariants as rests
use Rattle.server_loop.proofs.FrameHeads.{hand_frame, hand_long}
use Rattle.server_loop.proofs.ServingLemmas.{BeginsNoFrame-from_large, BeginsNoFrame-from_partial, Cuts-after, Delivers-kept, Delivers-more, Delivers-none, Delivers-then, each-join, has_room, IsPartial-nil, length-answered, map-join, Outcome-after, whole-join}

-- ---- the rest

pub partial_within : (hand : List ℕ) → IsPartial hand → length hand ≤ most_left
partial_within hand partial = let few : length hand < 1048580 = has_room hand partial in omega (arith, few)

-- the rest of a partial frame and one piece, of which a frame was answered
after_frame : (hand read rest b : List ℕ) (bodies : List (List ℕ)) → IsPartial hand → IsBody b → length read ≤ 65536 → hand ++ read ≡ frames (b ∷ bodies) ++ rest → length rest ≤ most_dropped
after_frame hand read rest b bodies partial fits within whole =
    let few = hand_frame hand read b (frames bodies ++ rest) partial fits (whole ∙ append_assoc (frame b) (frames bodies) rest) in
    let same : length (hand ++ read) ≡ length (frames (b ∷ bodies) ++ rest) = ap length whole in
    omega (arith, few, within, same, length-append hand read, length-append (frames (b ∷ bodies)) rest, length-append (frame b) (frames bodies))

-- or in which a length past the limit came
dropped_within : (hand read rest : List ℕ) (bodies : List (List ℕ)) → IsPartial hand → IsTooLong rest → AllByRecursion IsBody bodies → length read ≤ 65536 → hand ++ read ≡ frames bodies ++ rest → length rest ≤ most_dropped
dropped_within hand read rest [] partial long each within whole =
    let few = hand_long hand read rest partial long whole in
    let same : length (hand ++ read) ≡ length rest = ap length whole in
    omega (arith, few, within, same, length-append hand read)
dropped_within hand read rest (b ∷ bodies) partial long each within whole = after_frame hand read rest b bodies partial each.0 within whole

-- or of which an input was taken
cut_within : (hand read rest : List ℕ) (bodies : List (List ℕ)) (over : List Taken) → IsPartial hand → AllByRecursion IsBody bodies → length read ≤ 65536 → hand ++ read ≡ frames bodies ++ rest → IsOver over rest → 0 < length bodies + length over
    → length rest ≤ most_left
cut_within hand read rest bodies over partial each within whole (inr large) some = let few = dropped_within hand read rest bodies partial large.0 each within whole in omega (arith, few)
cut_within hand read rest [] over partial each within whole (inl none) some = let size : length over ≡ 0 = ap length none in absurd (omega (arith, some, size))
cut_within hand read rest (b ∷ bodies) over partial each within whole (inl none) some = let few = after_frame hand read rest b bodies partial each.0 within whole in omega (arith, few)

-- the bytes read into the front of a piece
pub taken_within : (n : ℕ) (buffer : List ℕ) → length buffer ≤ 65536 → length (take n buffer) ≤ 65536
taken_within n buffer within = omega (arith, within, length-take n buffer)

pub some_taken : (n : ℕ) (buffer : List ℕ) → n ≤ length buffer → 0 < n → 1 ≤ length (take n buffer)
some_taken n buffer fits some = let size = length-take-le n buffer fits in omega (arith, some, size)

pub length-map : {A B : Type 0} (f : A → B) (xs : List A) → length (map f xs) ≡ length xs
length-map f [] = refl
length-map f (x ∷ xs) = let more : length (map f xs) ≡ length xs = length-map f xs in omega (arith, more)

-- ---- ends

abbrev end_of : Result End ServeFault → End
end_of (Ok end) = end
end_of (Err fault) = ends.Clean

abbrev fault_of : Result End ServeFault → ServeFault
fault_of (Ok end) = faults.Read
fault_of (Err fault) = fault

IsPartial-at_end : (rest : List ℕ) → rest ≡ [] → IsPartial rest
IsPartial-at_end rest none = subst IsPartial (sym none) IsPartial-nil

-- the rest at an end
left_so : (end : End) (r : ℕ) (read rest : List ℕ) (left h i : Option (List ℕ)) → EndsBy (Ok end) r read rest left h i → length rest ≤ most_left
left_so ends.Clean r read rest left h i p = partial_within rest (IsPartial-at_end rest p.0)
left_so ends.Truncated r read rest left h i p = partial_within rest p.1
left_so ends.TooLarge r read rest left h i p = let few = p.1 in omega (arith, few)
left_so ends.ReadsUsedUp r read rest left h i p = partial_within rest p.1

over_so : (end : End) (r : ℕ) (read rest : List ℕ) (left h i : Option (List ℕ)) → EndsBy (Ok end) r read rest left h i → IsOver (over_at end) rest
over_so ends.Clean r read rest left h i p = inl refl
over_so ends.Truncated r read rest left h i p = inl refl
over_so ends.TooLarge r read rest left h i p = inr (p.0, refl)
over_so ends.ReadsUsedUp r read rest left h i p = inl refl

-- an end doesn't tell what was written
pub ended_so : (end : End) (r : ℕ) (read rest : List ℕ) (left h i j k : Option (List ℕ)) → EndsBy (Ok end) r read rest left h i → EndsBy (Ok end) r read rest left j k
ended_so ends.Clean r read rest left h i j k p = p
ended_so ends.Truncated r read rest left h i j k p = p
ended_so ends.TooLarge r read rest left h i j k p = p
ended_so ends.ReadsUsedUp r read rest left h i j k p = p

EndsBy-after : (result : Result End ServeFault) (r s : ℕ) (front read rest : List ℕ) (left h i j k : Option (List ℕ)) → (result ≡ Ok ends.ReadsUsedUp → ⊥) → (result ≡ Err faults.NoMemory → ⊥)
    → EndsBy (as_write result) s read rest left h i → EndsBy (as_write result) r (front ++ read) rest left j k
EndsBy-after (Ok ends.Clean) r s front read rest left h i j k goes known p = p
EndsBy-after (Ok ends.Truncated) r s front read rest left h i j k goes known p = p
EndsBy-after (Ok ends.TooLarge) r s front read rest left h i j k goes known p = p
EndsBy-after (Ok ends.ReadsUsedUp) r s front read rest left h i j k goes known p = absurd (goes refl)
EndsBy-after (Err faults.Read) r s front read rest left h i j k goes known p = p
EndsBy-after (Err faults.Write) r s front read rest left h i j k goes known p = p
EndsBy-after (Err faults.NoMemory) r s front read rest left h i j k goes known p = absurd (known refl)
EndsBy-after (Err faults.Log) r s front read rest left h i j k goes known p = p

module _ {S : Type 0} (answers : S → Taken → List ℕ → S → Type 0) (settles fails : S → S → Type 0) (joins : (first mid new : S) (taken : Taken) (body : List ℕ) → answers first taken body mid → settles mid new ⊎ fails mid new → answers first taken body new) where
  -- ---- a read without bytes

  unread : (most : ℕ) (result : Result End ServeFault) (a : S) (hand : List ℕ) (h i : Option (List ℕ)) → (result ≡ Ok ends.TooLarge → ⊥) → (result ≡ Err faults.Log → ⊥) → Keeps h i → Outcome answers settles fails most result a a hand hand h i
  unread most (Ok ends.Clean) a hand h i small known keeps = Delivers-none answers settles fails joins a hand h i keeps
  unread most (Ok ends.Truncated) a hand h i small known keeps = Delivers-none answers settles fails joins a hand h i keeps
  unread most (Ok ends.TooLarge) a hand h i small known keeps = absurd (small refl)
  unread most (Ok ends.ReadsUsedUp) a hand h i small known keeps = Delivers-none answers settles fails joins a hand h i keeps
  unread most (Err faults.Read) a hand h i small known keeps = Delivers-none answers settles fails joins a hand h i keeps
  unread most (Err faults.NoMemory) a hand h i small known keeps = Delivers-none answers settles fails joins a hand h i keeps
  unread most (Err faults.Write) a hand h i small known keeps = inl ([], inl refl, Delivers-none answers settles fails joins a hand h i keeps)
  unread most (Err faults.Log) a hand h i small known keeps = absurd (known refl)

  pub ServesOn-none : (most : ℕ) (result : Result End ServeFault) (hand : List ℕ) (a : S) (l m h i : Option (List ℕ)) (r : ℕ) → (result ≡ Ok ends.TooLarge → ⊥) → (result ≡ Err faults.Log → ⊥) → Consumes l m [] → IsPartial hand → Keeps h i
      → EndsBy (as_write result) r [] hand m h i → ServesOn answers settles fails most hand a a l m h i r result
  ServesOn-none most result hand a l m h i r small known consumed partial keeps ending = record {
    read = [];
    consumed = consumed;
    rest = hand;
    open_rest = λ _. BeginsNoFrame-from_partial hand partial;
    outcome = subst (λ (b : List ℕ). Outcome answers settles fails most result a a b hand h i) (sym (append-nil hand)) (unread most result a hand h i small known keeps);
    ending = ending;
  }

  -- the flush before it failed
  pub flush_fails : (most : ℕ) (result : Result (Option End) ServeFault) (fault : ServeFault) (hand hand' : List ℕ) (a : S) (l h i : Option (List ℕ)) → result ≡ Err fault → fault ≡ faults.Write → IsPartial hand → Keeps h i
      → ReadsOn answers settles fails most result hand hand' a a l l h i
  flush_fails most result fault hand hand' a l h i is write partial keeps =
      subst (λ (x : Result (Option End) ServeFault). ReadsOn answers settles fails most x hand hand' a a l l h i) (sym (is ∙ ap (λ f. Err f) write))
      (λ is. cc, ServesOn-none most (Err faults.Write) hand a l l h i 0 (λ is. cc) (λ is. cc) (Consumes-nil l) partial keeps (partial_within hand partial))

  -- ---- a read with bytes

  cuts_kept : (most : ℕ) (fault : ServeFault) (a b : S) (bytes rest : List ℕ) (h i j : Option (List ℕ)) → Keeps h i → Cuts answers settles fails most fault a b bytes rest i j → Cuts answers settles fails most fault a b bytes rest h j
  cuts_kept most fault a b bytes rest h i j keeps c = Cuts-after answers settles fails joins most fault a a b bytes bytes rest h i j (Delivers-none answers settles fails joins a bytes h i keeps) c

  cuts_within : (most : ℕ) (fault : ServeFault) (a b : S) (hand read rest : List ℕ) (h i : Option (List ℕ)) → IsPartial hand → length read ≤ 65536 → Cuts answers settles fails most fault a b (hand ++ read) rest h i → length rest ≤ most_left
  cuts_within most fault a b hand read rest h i partial within c =
      let bs = c.front.answered.bodies in
      let cs = c.batch.bodies in
      let some : 0 < length (map Body cs ++ c.over) = let more = c.some in omega (arith, more, length-answered answers c.mid c.last (map Body cs ++ c.over) c.replies c.batch.said) in
      cut_within hand read rest (bs ++ cs) c.over partial (each-join bs cs c.front.answered.each c.batch.each) within (whole-join bs cs (hand ++ read) c.behind rest c.front.answered.whole c.batch.whole) c.is_over
      (omega (arith, some, length-append (map Body cs) c.over, length-map Body cs, length-append bs cs))

  cuts_so : (most : ℕ) (fault : ServeFault) (a b : S) (hand read rest : List ℕ) (l m h i : Option (List ℕ)) → Consumes l m read → IsPartial hand → length read ≤ 65536 → Cuts answers settles fails most fault a b (hand ++ read) rest h i
      → (fault ≢ faults.NoMemory) × ServesOn answers settles fails most hand a b l m h i 0 (Err fault)
  cuts_so most faults.Write a b hand read rest l m h i consumed partial within c = (
    λ is. cc,
    record { read = read; consumed = consumed; rest = rest; open_rest = λ other. absurd (other refl); outcome = inr c; ending = cuts_within most faults.Write a b hand read rest h i partial within c },
  )
  cuts_so most faults.Log a b hand read rest l m h i consumed partial within c = (
    λ is. cc,
    record { read = read; consumed = consumed; rest = rest; open_rest = λ other. absurd (other refl); outcome = c; ending = cuts_within most faults.Log a b hand read rest h i partial within c },
  )
  cuts_so most faults.Read a b hand read rest l m h i consumed partial within c = absurd c.cut
  cuts_so most faults.NoMemory a b hand read rest l m h i consumed partial within c = absurd c.cut

  -- a batch of the piece was cut
  pub read_fails : (most : ℕ) (result : Result (Option End) ServeFault) (fault : ServeFault) (a b : S) (hand hand' read : List ℕ) (l m h i j : Option (List ℕ)) → result ≡ Err fault → Consumes l m read → IsPartial hand → length read ≤ 65536 → Keeps h i
      → ((rest : List ℕ) × Cuts answers settles fails most fault a b (hand ++ read) rest i j) → ReadsOn answers settles fails most result hand hand' a b l m h j
  read_fails most result fault a b hand hand' read l m h i j is consumed partial within keeps (rest, c) =
      subst (λ (x : Result (Option End) ServeFault). ReadsOn answers settles fails most x hand hand' a b l m h j) (sym is)
      (cuts_so most fault a b hand read rest l m h j consumed partial within (cuts_kept most fault a b (hand ++ read) rest h i j keeps c))

  -- it contains a length past the limit
  pub read_large : (most : ℕ) (a b : S) (hand hand' read : List ℕ) (l m h i j : Option (List ℕ)) → Consumes l m read → IsPartial hand → length read ≤ 65536 → Keeps h i
      → ((behind : List ℕ) × LeavesRest (Some rests.TooLarge) (hand' ++ behind) behind × Delivers answers settles fails a b (hand ++ read) (hand' ++ behind) (over_of (Some rests.TooLarge)) i j)
      → (ends.TooLarge ≢ ends.ReadsUsedUp) × ServesOn answers settles fails most hand a b l m h j 0 (Ok ends.TooLarge)
  read_large most a b hand hand' read l m h i j consumed partial within keeps (behind, large, p) = (
    λ is. cc,
    record {
      read = read;
      consumed = consumed;
      rest = hand' ++ behind;
      open_rest = λ _. BeginsNoFrame-from_large (hand' ++ behind) large;
      outcome = Delivers-kept answers settles fails joins a b (hand ++ read) (hand' ++ behind) (Oversize ∷ []) h i j j keeps (Keeps-refl j) p;
      ending = (large, dropped_within hand read (hand' ++ behind) p.answered.bodies partial large p.answered.each within p.answered.whole);
    },
  )

  -- or it was answered, and the input goes on
  pub read_on : (a b : S) (hand hand' read : List ℕ) (l m h i j : Option (List ℕ)) → Consumes l m read → 1 ≤ length read → Keeps h i
      → ((behind : List ℕ) × LeavesRest (Some rests.Partial) (hand' ++ behind) behind × Delivers answers settles fails a b (hand ++ read) (hand' ++ behind) (over_of (Some rests.Partial)) i j)
      → Served answers settles fails hand hand' a b l m h j 1
  read_on a b hand hand' read l m h i j consumed some keeps (behind, (partial, none), p) =
      let same : hand' ++ behind ≡ hand' = ap (λ l. hand' ++ l) none ∙ append-nil hand' in
      record {
        read = read;
        consumed = consumed;
        counted = some;
        partial = subst IsPartial same partial;
        delivered = Delivers-kept answers settles fails joins a b (hand ++ read) hand' [] h i j j keeps (Keeps-refl j) (subst (λ (x : List ℕ). Delivers answers settles fails a b (hand ++ read) x [] i j) same p);
      }

  -- ---- several reads

  -- the first, with an empty framer
  pub Served-none : (a : S) (hand : List ℕ) (l h : Option (List ℕ)) → hand ≡ [] → Served answers settles fails [] hand a a l l h h 0
  Served-none a hand l h none = subst (λ (x : List ℕ). Served answers settles fails [] x a a l l h h 0) (sym none) (record {
    read = [];
    consumed = Consumes-nil l;
    counted = omega arith;
    partial = IsPartial-nil;
    delivered = Delivers-none answers settles fails joins a [] h h (Keeps-refl h);
  })

  joined : (a b : S) (hand first more hand' : List ℕ) (h i : Option (List ℕ)) → Delivers answers settles fails a b (hand ++ first) hand' [] h i → Delivers answers settles fails a b (hand ++ (first ++ more)) (hand' ++ more) [] h i
  joined a b hand first more hand' h i p = subst (λ (l : List ℕ). Delivers answers settles fails a b l (hand' ++ more) [] h i) (append_assoc hand first more) (Delivers-more answers settles fails joins a b (hand ++ first) hand' more h i p)

  pub Served-then : (a b c : S) (hand hand' hand'' : List ℕ) (l m n h i j : Option (List ℕ)) (r s t : ℕ) → t ≤ r + s → Served answers settles fails hand hand' a b l m h i r → Served answers settles fails hand' hand'' b c m n i j s
      → Served answers settles fails hand hand'' a c l n h j t
  Served-then a b c hand hand' hand'' l m n h i j r s t sum p q = record {
    read = p.read ++ q.read;
    consumed = Consumes-trans l m n _ _ p.consumed q.consumed;
    counted = omega (arith, sum, length-append p.read q.read, p.counted, q.counted);
    partial = q.partial;
    delivered = Delivers-then answers settles fails joins a b c (hand ++ (p.read ++ q.read)) (hand' ++ q.read) hand'' [] h i j (joined a b hand p.read q.read hand' h i p.delivered) q.delivered;
  }

  Served-ends : (most : ℕ) (result : Result End ServeFault) (a b c : S) (hand hand' : List ℕ) (l m n h i j : Option (List ℕ)) (r s : ℕ) → (result ≡ Ok ends.ReadsUsedUp → ⊥) → (result ≡ Err faults.NoMemory → ⊥) → Served answers settles fails hand hand' a b l m h i s
      → ServesOn answers settles fails most hand' b c m n i j 0 result → ServesOn answers settles fails most hand a c l n h j r result
  Served-ends most result a b c hand hand' l m n h i j r s goes known p q = record {
    read = p.read ++ q.read;
    consumed = Consumes-trans l m n _ _ p.consumed q.consumed;
    rest = q.rest;
    open_rest = q.open_rest;
    outcome = Outcome-after answers settles fails joins most result a b c (hand ++ (p.read ++ q.read)) (hand' ++ q.read) q.rest h i j (joined a b hand p.read q.read hand' h i p.delivered) q.outcome;
    ending = EndsBy-after result r 0 p.read q.read q.rest n i j h j goes known q.ending;
  }

  pub ended : (most : ℕ) (end : End) (a b c : S) (hand hand' hand'' : List ℕ) (l m n h i j : Option (List ℕ)) (r s : ℕ) → Served answers settles fails hand hand' a b l m h i s
      → ReadsOn answers settles fails most (Ok (Some end)) hand' hand'' b c m n i j → ServesOn answers settles fails most hand a c l n h j r (Ok end)
  ended most end a b c hand hand' hand'' l m n h i j r s p q = Served-ends most (Ok end) a b c hand hand' l m n h i j r s (λ is. q.0 (ap end_of is)) (λ is. cc) p q.1

  pub stops : (most : ℕ) (result : Result End ServeFault) (fault : ServeFault) (a b c : S) (hand hand' hand'' : List ℕ) (l m n h i j : Option (List ℕ)) (r s : ℕ) → result ≡ Err fault → Served answers settles fails hand hand' a b l m h i s
      → ReadsOn answers settles fails most (Err fault) hand' hand'' b c m n i j → ServesOn answers settles fails most hand a c l n h j r result
  stops most result fault a b c hand hand' hand'' l m n h i j r s is p q =
      subst (λ (x : Result End ServeFault). ServesOn answers settles fails most hand a c l n h j r x) (sym is) (Served-ends most (Err fault) a b c hand hand' l m n h i j r s (λ is. cc) (λ is. q.0 (ap fault_of is)) p q.1)

  -- no read is left
  pub used_up : (most : ℕ) (a b : S) (hand hand' : List ℕ) (l m h i : Option (List ℕ)) (r s : ℕ) → r ≤ s → Served answers settles fails hand hand' a b l m h i s → ServesOn answers settles fails most hand a b l m h i r (Ok ends.ReadsUsedUp)
  used_up most a b hand hand' l m h i r s all p = record {
    read = p.read;
    consumed = p.consumed;
    rest = hand';
    open_rest = λ _. BeginsNoFrame-from_partial hand' p.partial;
    outcome = p.delivered;
    ending = (omega (arith, all, p.counted), p.partial);
  }

  -- ---- the last flush

  flushed : (most : ℕ) (end : End) (a b : S) (hand : List ℕ) (l m h i j : Option (List ℕ)) (r : ℕ) → Keeps i j → ServesOn answers settles fails most hand a b l m h i r (Ok end) → ServesOn answers settles fails most hand a b l m h j r (Ok end)
  flushed most end a b hand l m h i j r keeps p = record {
    read = p.read;
    consumed = p.consumed;
    rest = p.rest;
    open_rest = p.open_rest;
    outcome = Delivers-kept answers settles fails joins a b (hand ++ p.read) p.rest (over_at end) h h i j (Keeps-refl h) keeps p.outcome;
    ending = ended_so end r p.read p.rest m h i h j p.ending;
  }

  unflushed : (most : ℕ) (end : End) (a b : S) (hand : List ℕ) (l m h i j : Option (List ℕ)) (r : ℕ) → Keeps i j → ServesOn answers settles fails most hand a b l m h i r (Ok end) → ServesOn answers settles fails most hand a b l m h j r (Err faults.Write)
  unflushed most end a b hand l m h i j r keeps p = record {
    read = p.read;
    consumed = p.consumed;
    rest = p.rest;
    open_rest = λ other. absurd (other refl);
    outcome = inl (over_at end, over_so end r p.read p.rest m h i p.ending, Delivers-kept answers settles fails joins a b (hand ++ p.read) p.rest (over_at end) h h i j (Keeps-refl h) keeps p.outcome);
    ending = left_so end r p.read p.rest m h i p.ending;
  }

  pub finished : (most : ℕ) (result : Result End ServeFault) (end : End) (a b : S) (hand : List ℕ) (l m h i j : Option (List ℕ)) (r : ℕ) → Keeps i j → IfOk result (λ is. is ≡ end) → IfErr result (λ fault. fault ≡ faults.Write)
      → ServesOn answers settles fails most hand a b l m h i r (Ok end) → ServesOn answers settles fails most hand a b l m h j r result
  finished most (Ok is) end a b hand l m h i j r keeps same fault p = subst (λ (x : End). ServesOn answers settles fails most hand a b l m h j r (Ok x)) (sym same) (flushed most end a b hand l m h i j r keeps p)
  finished most (Err is) end a b hand l m h i j r keeps same fault p = subst (λ (x : ServeFault). ServesOn answers settles fails most hand a b l m h j r (Err x)) (sym fault) (unflushed most end a b hand l m h i j r keeps p)

-- ---- whether something is at hand

pub none_long : (hand : List ℕ) → length hand ≡ 0 → hand ≡ []
none_long [] none = refl
none_long (x ∷ hand) none = absurd (omega (arith, none))

pub none_held : (b : Bool) (hand : List ℕ) → b ≡ (length hand == 0) → b ≡ true → hand ≡ []
none_held b hand is told = none_long hand (grind (arith, nat_tests))

pub some_held : (b : Bool) (hand : List ℕ) → b ≡ (length hand == 0) → b ≡ false → 0 < length hand
some_held b hand is told = grind (arith, nat_tests)

-- a read without bytes was at the end
pub at_its_end : (n : ℕ) (buffer : List ℕ) (l m : Option (List ℕ)) → n ≡ 0 → 0 < length buffer → Consumes l m (take n buffer) × (n ≡ 0 → 0 < length buffer → IsAtEnd m) → Consumes l m [] × IsAtEnd m
at_its_end n buffer l m none room p = (subst (λ (k : ℕ). Consumes l m (take k buffer)) none p.0, p.1 none room)
