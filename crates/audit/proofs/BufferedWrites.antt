-- Writes that a session of the machine takes, and those that it refuses.
use Rattle.std.proofs.Common.{◌≡◌, ◌≢◌, ◌∙◌, ℕ, ◌⊎◌, inl, inr, [], ◌∷◌, ◌++◌, drop, Some, None, refl, sym, subst, ap}
use Rattle.std.specs.Prelude.{Result, Ok, Err, slice_get}
use Rattle.std.specs.FinMap.{insert}
use Rattle.std.proofs.lemmas.Option.{same_Some}
use Rattle.cell_key.specs.declared.refusals.Refusal.{Refusal}
use Rattle.cell_key.specs.declared.refusals.Refusal.TheVariants.{BadRow, BadColumn, BadValue, TooManyWrites, NoMemory}
use Rattle.si_model.specs.Machine.{State, Change, Writes, Open, InPhase, Wrote, Sets, appends, replaces, passes, Step, accepts, sets, deletes, tells, IsAcceptable, IsFirstRefusal, IsStorageRefusal, Refuses}
use Rattle.si_model.specs.Refusing.Refuses.{applies_first, gives_up}
use Rattle.si_model.specs.Transactions.{Buffers, all_taken, takes, request_of, reply_of}
use Rattle.si_model.specs.declared.replies.Cell.{Cell}
use Rattle.si_model.proofs.Acceptable.{set_ok, delete_ok}
use Rattle.si_model.proofs.TakenWrites.{Taken, refuses_write, taken_here, taken_then}
use Rattle.si_model.proofs.Tools.{same_entry}
use Rattle.si_model.specs.Takings.{IsWriteRefusal, TakesAll, TakesWrite}
use Rattle.audit.proofs.JudgedRefusals.{only_first}

-- ---- the outcome of taking writes

-- the machine refuses the write
abbrev pub IsRefusedBy : Writes → Cell × Change → Refusal → Type 0
IsRefusedBy before write n = IsWriteRefusal before write n × (n ≢ NoMemory)

-- taking the writes leads to all of them, or to the refusal of one
abbrev pub TakesTo : Writes → Writes → Result Writes Refusal → Type 0
TakesTo before [] out = out ≡ Ok before
TakesTo before (w ∷ ws) out =
    ((mid : Writes) × TakesWrite before w mid × TakesTo mid ws out)
    ⊎ ((n : Refusal) × IsRefusedBy before w n × (out ≡ Err n))

pub takes_ok : (ws before all : Writes) → TakesAll before ws all → TakesTo before ws (Ok all)
takes_ok [] before all h = ap Ok h
takes_ok (w ∷ ws) before all (mid, one, rest) = inl (mid, one, takes_ok ws mid all rest)

pub takes_err : (first rest before mid : Writes) (w : Cell × Change) (n : Refusal) → TakesAll before first mid → IsRefusedBy mid w n → TakesTo before (first ++ w ∷ rest) (Err n)
takes_err [] rest before mid w n h why = inr (n, subst (λ (l : Writes). IsRefusedBy l w n) h why, refl)
takes_err (u ∷ first) rest before mid w n (next, one, more) why = inl (next, one, takes_err first rest next mid w n more why)

same_head : (u w : Cell × Change) (us ws : Writes) → u ∷ us ≡ w ∷ ws → u ≡ w
same_head u w us ws e = same_Some u w (ap (λ (l : Writes). slice_get l 0) e)

same_tail : (u w : Cell × Change) (us ws : Writes) → u ∷ us ≡ w ∷ ws → us ≡ ws
same_tail u w us ws e = ap (λ (l : Writes). drop 1 l) e

sets_alike : {x : Cell} {v : Change} {ws us a b : Writes} → Sets x v ws a → Sets x v us b → ws ≡ us → a ≡ b
sets_alike appends appends e = refl
sets_alike appends replaces e = absurd (cc)
sets_alike appends (passes ne s) e = absurd (cc)
sets_alike replaces appends e = absurd (cc)
sets_alike (passes ne s) appends e = absurd (cc)
sets_alike {x} {v} (replaces {old = o} {ws = ws}) (replaces {old = o'} {ws = us}) e = ap (λ (l : Writes). (x, v) ∷ l) (same_tail (x, o) (x, o') ws us e)
sets_alike {x} {v} (replaces {old = o} {ws = ws}) (passes {y = y} {w = w} {ws = us} ne s) e = absurd (ne (sym (ap (λ (p : Cell × Change). p.0) (same_head (x, o) (y, w) ws us e))))
sets_alike {x} {v} (passes {y = y} {w = w} {ws = us} ne s) (replaces {old = o} {ws = ws}) e = absurd (ne (ap (λ (p : Cell × Change). p.0) (same_head (y, w) (x, o) us ws e)))
sets_alike {x} {v} (passes {y = y} {w = w} {ws = ws} ne s) (passes {y = y'} {w = w'} {ws = us} ne' s') e =
    let head = same_head (y, w) (y', w') ws us e in
    let tail = sets_alike s s' (same_tail (y, w) (y', w') ws us e) in
    λ j. head j ∷ tail j

pub sets_same : {x : Cell} {v : Change} {ws a b : Writes} → Sets x v ws a → Sets x v ws b → a ≡ b
sets_same s s' = sets_alike s s' refl

-- ---- the steps of the machine

module _ (s : ℕ) where
  -- the refusal of a write is the machine's first
  first_of : (st : State) (x : Cell) (v : Change) (n : Refusal) → Refuses st (request_of s x v) n → ¬ IsStorageRefusal n → IsFirstRefusal st (request_of s x v) n
  first_of st x (Some value) n (applies_first f) not = f
  first_of st x (Some value) n (gives_up g) not = absurd (not g)
  first_of st x None n (applies_first f) not = f
  first_of st x None n (gives_up g) not = absurd (not g)

  pub not_storage : (before : Writes) (w : Cell × Change) (n : Refusal) → IsRefusedBy before w n → ¬ IsStorageRefusal n
  not_storage before w BadRow why g = g
  not_storage before w BadColumn why g = g
  not_storage before w BadValue why g = g
  not_storage before w TooManyWrites why g = g
  not_storage before w NoMemory why g = why.1 refl
  not_storage before w _ why g = absurd why.0

  -- a step that takes a write
  record Takes (st mid : State) (x : Cell) (v : Change) (before : Writes) : Type 0 where
    after : Writes
    sets : Sets x v before after
    is : mid ≡ record st { begun = insert st.begun s after }
    ok : IsAcceptable st (request_of s x v)
    is_open : InPhase st s Open

  step_takes : (st mid : State) (x : Cell) (v : Change) (before : Writes) → Wrote st s before → Step st (request_of s x v) (reply_of v) mid → Takes st mid x v before
  step_takes st mid x (Some value) before w (accepts ok (sets {ws = us} {ws' = after} h w' by)) =
      record { after = after; sets = subst (λ (l : Writes). Sets x (Some value) l after) (same_entry st.begun s us before w' w) by; is = refl; ok = ok; is_open = h }
  step_takes st mid x (Some value) before w (accepts ok (tells t)) = elim t [ ]
  step_takes st mid x None before w (accepts ok (deletes {ws = us} {ws' = after} h w' by)) =
      record { after = after; sets = subst (λ (l : Writes). Sets x None l after) (same_entry st.begun s us before w' w) by; is = refl; ok = ok; is_open = h }
  step_takes st mid x None before w (accepts ok (tells t)) = elim t [ ]

  -- what follows a step that takes the first write is told by the outcome for the others
  next_outcome : (st mid : State) (x : Cell) (v : Change) (before : Writes) (ws : Writes) (out : Result Writes Refusal) → Wrote st s before → (t : Takes st mid x v before) → TakesTo before ((x, v) ∷ ws) out → TakesTo t.after ws out
  next_outcome st mid x v before ws out w t (inl (next, one, rest)) = subst (λ (l : Writes). TakesTo l ws out) (sets_same one.sets t.sets) rest
  next_outcome st mid x v before ws out w t (inr (n, why, e)) = absurd (t.ok n (first_of st x v n (refuses_write s st x v before n t.is_open w why.0) (not_storage before (x, v) n why)).applies)

  open_still : (st mid : State) (x : Cell) (v : Change) (before : Writes) (t : Takes st mid x v before) → InPhase mid s Open
  open_still st mid x v before t = subst (λ (m : State). InPhase m s Open) (sym t.is) t.is_open

  taken_by : (st mid : State) (x : Cell) (v : Change) (before : Writes) (t : Takes st mid x v before) → Taken s st mid t.after
  taken_by st mid x v before t = subst (λ (m : State). Taken s st m t.after) (sym t.is) (taken_here s st t.after)

  -- all writes were taken
  pub taken_all : (ws : Writes) (st next : State) (before : Writes) (out : Result Writes Refusal) → Wrote st s before → Buffers s st ws next → TakesTo before ws out → (all : Writes) × (out ≡ Ok all) × Taken s st next all
  taken_all [] st next before out w all_taken h = (before, h, record { wrote = w; others = λ u ne. refl; rest = refl })
  taken_all ((x, v) ∷ ws) st next before out w (takes {mid = mid} step more) h =
      let t = step_takes st mid x v before w step in
      let one = taken_by st mid x v before t in
      let rest = taken_all ws mid next t.after out one.wrote more (next_outcome st mid x v before ws out w t h) in
      (rest.0, rest.1, taken_then s st mid next t.after rest.0 one rest.2)

  -- a write is refused
  refused_here : (st : State) (x : Cell) (v : Change) (before ws : Writes) (n : Refusal) (out : Result Writes Refusal) → InPhase st s Open → Wrote st s before → Refuses st (request_of s x v) n → ¬ IsStorageRefusal n → TakesTo before ((x, v) ∷ ws) out → out ≡ Err n
  refused_here st x v before ws n out h w refused not (inl (next, one, rest)) = absurd (acceptable st x v one h w n (first_of st x v n refused not).applies)
    where
      acceptable : (st : State) (x : Cell) (v : Change) → TakesWrite before (x, v) next → InPhase st s Open → Wrote st s before → IsAcceptable st (request_of s x v)
      acceptable st x (Some value) t h w = set_ok before h t.named.0 t.named.1 t.short w t.room
      acceptable st x None t h w = delete_ok before h t.named.0 t.named.1 w t.room
  refused_here st x v before ws n out h w refused not (inr (m, why, e)) =
      let first = first_of st x v m (refuses_write s st x v before m h w why.0) (not_storage before (x, v) m why) in
      e ∙ ap Err (only_first st (request_of s x v) m n first not refused)

  pub refused_among : (first rest : Writes) (st far : State) (x : Cell) (v : Change) (before : Writes) (n : Refusal) (out : Result Writes Refusal) → InPhase st s Open → Wrote st s before → Buffers s st first far → Refuses far (request_of s x v) n
      → ¬ IsStorageRefusal n → TakesTo before (first ++ (x, v) ∷ rest) out → out ≡ Err n
  refused_among [] rest st far x v before n out h w all_taken refused not to = refused_here st x v before rest n out h w refused not to
  refused_among ((y, u) ∷ first) rest st far x v before n out h w (takes {mid = mid} step more) refused not to =
      let t = step_takes st mid y u before w step in
      refused_among first rest mid far x v t.after n out (open_still st mid y u before t) (taken_by st mid y u before t).wrote more refused not (next_outcome st mid y u before (first ++ (x, v) ∷ rest) out w t to)
