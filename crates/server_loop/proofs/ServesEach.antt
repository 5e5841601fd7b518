-- A call, over any relation of answers.
use Rattle.std.proofs.Common.{◌≡◌, ◌≢◌, ℕ, List, [], ◌∷◌, ◌++◌, map, Option, Result, Ok, Err, ◌⊎◌, inl, inr, refl, sym, subst, append-nil}
use Rattle.std.specs.Io.KnownBytes.{Appends, Consumes}
use Rattle.std.proofs.KnownBytes.{Appends-trans}
use Rattle.request_codec.specs.Stream.{frames, BeginsNoFrame}
use Rattle.server_loop.specs.Batches.{over_at, AnswersAll, Cuts, Delivers, ServesOn}
use Rattle.server_loop.specs.Clients.{ServesFrames, WritesAll}
use Rattle.server_loop.specs.Runs.{Taken, Body}
use Rattle.server_loop.specs.Serve.{as_write, EndsBy, TakesBodies}
use Rattle.server_loop.specs.declared.statuses.End.{End}
use Rattle.server_loop.specs.declared.statuses.ServeFault.{ServeFault}
use Rattle.server_loop.specs.declared.statuses.ServeFault.TheVariants as faults
use Rattle.server_loop.proofs.Replied.{no_rest, taken-at, taken-over, taken-partial}
use Rattle.server_loop.proofs.ServingLemmas.{Answered-joins, Answered-then}

module _ {S : Type 0} (answers : S → Taken → List ℕ → S → Type 0) (settles fails : S → S → Type 0)
    (joins : (first mid new : S) (taken : Taken) (body : List ℕ) → answers first taken body mid → settles mid new ⊎ fails mid new → answers first taken body new) (most : ℕ) where
  -- all was settled and written
  abbrev pub all_written : (result : Result End ServeFault) (over : List Taken) (a e : S) (read rest : List ℕ) (l m h i : Option (List ℕ)) (r : ℕ) → Consumes l m read → (as_write result ≢ Err faults.Write → BeginsNoFrame rest) → (p : Delivers answers settles fails a e read rest over h i)
      → TakesBodies (as_write result) p.answered.bodies rest (map Body p.answered.bodies ++ over) → EndsBy (as_write result) r read rest m h i → WritesAll result [] → ServesFrames answers most a e l m h i r result
  all_written result over a e read rest l m h i r consumed open_rest p takes ending all = record {
    read = read;
    consumed = consumed;
    rest = rest;
    open_rest = open_rest;
    bodies = p.answered.bodies;
    whole = p.answered.whole;
    each = p.answered.each;
    taken = map Body p.answered.bodies ++ over;
    takes = takes;
    front = p.replies;
    batch = [];
    answered = subst (λ (rs : List (List ℕ)). AnswersAll answers a (map Body p.answered.bodies ++ over) rs e) (sym (append-nil p.replies)) p.answered.said;
    small = inl refl;
    part = [];
    more = [];
    parts = refl;
    written = all;
    appended = subst (Appends h i) (sym (append-nil (frames p.replies))) p.appended;
    ending = ending;
  }

  -- a batch was cut
  abbrev pub cut_short : (result : Result End ServeFault) (fault : ServeFault) (a e : S) (read rest : List ℕ) (l m h i : Option (List ℕ)) (r : ℕ) → Consumes l m read → (as_write result ≢ Err faults.Write → BeginsNoFrame rest) → (c : Cuts answers settles fails most fault a e read rest h i) → settles c.last e ⊎ fails c.last e
      → ((bodies : List (List ℕ)) → TakesBodies (as_write result) bodies rest (map Body bodies ++ c.over)) → EndsBy (as_write result) r read rest m h i → ((more : List ℕ) → WritesAll result more) → ServesFrames answers most a e l m h i r result
  cut_short result fault a e read rest l m h i r consumed open_rest c is takes ending any =
      let p = Answered-then answers a c.mid e read c.behind rest c.over c.front.replies c.replies c.front.answered (Answered-joins answers settles fails joins c.mid c.last e c.behind rest c.over c.replies is c.some c.batch) in
      record {
        read = read;
        consumed = consumed;
        rest = rest;
        open_rest = open_rest;
        bodies = p.bodies;
        whole = p.whole;
        each = p.each;
        taken = map Body p.bodies ++ c.over;
        takes = takes p.bodies;
        front = c.front.replies;
        batch = c.replies;
        answered = p.said;
        small = c.small;
        part = c.written;
        more = c.more;
        parts = c.parts;
        written = any c.more;
        appended = Appends-trans h c.sent i (frames c.front.replies) c.written c.front.appended c.appended;
        ending = ending;
      }

  pub serves_frames : (a e : S) (l m h i : Option (List ℕ)) (r : ℕ) (result : Result End ServeFault) → ServesOn answers settles fails most [] a e l m h i r result → ServesFrames answers most a e l m h i r result
  serves_frames a e l m h i r (Ok end) p =
      all_written (Ok end) (over_at end) a e p.read p.rest l m h i r p.consumed p.open_rest p.outcome (taken-at end p.outcome.answered.bodies r p.read p.rest m h i p.ending) p.ending refl
  serves_frames a e l m h i r (Err faults.Read) p =
      all_written (Err faults.Read) [] a e p.read p.rest l m h i r p.consumed p.open_rest p.outcome (taken-partial p.outcome.answered.bodies p.rest p.ending) p.ending refl
  serves_frames a e l m h i r (Err faults.NoMemory) p =
      all_written (Err faults.NoMemory) [] a e p.read p.rest l m h i r p.consumed p.open_rest p.outcome (taken-partial p.outcome.answered.bodies p.rest (no_rest p.outcome.answered.bodies p.read p.rest p.outcome.answered.whole p.ending.0)) p.ending refl
  serves_frames a e l m h i r (Err faults.Write) p = elim p.outcome [
    | inl (over, is_over, d) ↦ all_written (Err faults.Write) over a e p.read p.rest l m h i r p.consumed p.open_rest d (taken-over d.answered.bodies p.rest over is_over) p.ending tt
    | inr c ↦ cut_short (Err faults.Write) faults.Write a e p.read p.rest l m h i r p.consumed p.open_rest c (inl c.cut.0) (λ bodies. taken-over bodies p.rest c.over c.is_over) p.ending (λ more. tt)
  ]
  serves_frames a e l m h i r (Err faults.Log) p =
      let c = p.outcome in
      cut_short (Err faults.Log) faults.Log a e p.read p.rest l m h i r p.consumed p.open_rest c (inr c.cut.0) (λ bodies. taken-over bodies p.rest c.over c.is_over) p.ending (λ more. tt)
