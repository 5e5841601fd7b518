-- Writes that a session takes one after the other, and those that it refuses.
use Rattle.std.proofs.Common.{◌≡◌, ◌≢◌, ◌∙◌, ℕ, zero, suc, ◌+◌, ◌<◌, [], ◌∷◌, ◌++◌, List, map, take, drop, length, get_or, Some, None, refl, sym, subst, ap, arith}
use Rattle.std.specs.Prelude.{slice_get}
use Rattle.std.specs.FinMap.{get, insert}
use Rattle.std.proofs.lemmas.List.{map-append}
use Rattle.std.proofs.lemmas.Option.{none-some, same_Some, slice_get-get_or}
use Rattle.cell_key.specs.declared.refusals.Refusal.{Refusal}
use Rattle.cell_key.specs.declared.refusals.Refusal.TheVariants.{BadRow, BadColumn, BadValue, TooManyWrites, NoMemory}
use Rattle.si_model.specs.Answers.{write_named}
use Rattle.si_model.specs.Machine.{State, Change, Writes, Open, InPhase, Wrote, Step, accepts, sets, deletes, Refuses, most_value}
use Rattle.si_model.specs.Refusing.Refuses.{gives_up}
use Rattle.si_model.specs.Takings.{IsRefusedWrite, IsWriteRefusal, TakesAll, TakesWrite}
use Rattle.si_model.specs.Transactions.{Buffers, all_taken, takes, request_of, reply_of}
use Rattle.si_model.specs.declared.replies.Cell.{Cell}
use Rattle.si_model.specs.declared.transactions.CellWrite.{CellWrite}
use Rattle.si_model.proofs.Acceptable.{set_ok, delete_ok}
use Rattle.si_model.proofs.FirstRefusals.{set_row_first, set_family_first, set_long_first, set_full_first, delete_row_first, delete_family_first, delete_full_first}
use Rattle.si_model.proofs.Tools.{get_same, get_other}

-- ---- lists of writes

next_of : {X : Type 0} (xs : List X) (i : ℕ) (x : X) → slice_get xs i ≡ Some x → (take (suc i) xs ≡ take i xs ++ x ∷ []) × (xs ≡ take i xs ++ x ∷ drop (suc i) xs)
next_of [] i x e = absurd (none-some x e)
next_of (y ∷ ys) zero x e = let same = same_Some y x e in (ap (λ z. z ∷ []) same, ap (λ z. z ∷ ys) same)
next_of (y ∷ ys) (suc i) x e = let r = next_of ys i x e in (ap (λ zs. y ∷ zs) r.0, ap (λ zs. y ∷ zs) r.1)

-- the first i + 1 items, and the whole list around the one behind them
pub next_taken : {X : Type 0} (xs : List X) (i : ℕ) (d : X) → i < length xs → (take (i + 1) xs ≡ take i xs ++ get_or xs i d ∷ []) × (xs ≡ take i xs ++ get_or xs i d ∷ drop (i + 1) xs)
next_taken xs i d less =
    let r = next_of xs i (get_or xs i d) (slice_get-get_or xs i d less) in
    let more : suc i ≡ i + 1 = omega arith in
    subst (λ (n : ℕ). (take n xs ≡ take i xs ++ get_or xs i d ∷ []) × (xs ≡ take i xs ++ get_or xs i d ∷ drop n xs)) more r

takes_more : (a b c : Writes) (ws : Writes) (w : Cell × Change) → TakesAll a ws b → TakesWrite b w c → TakesAll a (ws ++ w ∷ []) c
takes_more a b c [] w h t = (c, subst (λ (m : Writes). TakesWrite m w c) h t, refl)
takes_more a b c (u ∷ ws) w (m, one, rest) t = (m, one, takes_more m b c ws w rest t)

-- the first i + 1 writes are taken
pub taken_more : (asked : List CellWrite) (i : ℕ) (d : CellWrite) (a b c : Writes) → i < length asked → TakesAll a (map write_named (take i asked)) b → TakesWrite b (write_named (get_or asked i d)) c → TakesAll a (map write_named (take (i + 1) asked)) c
taken_more asked i d a b c less h t =
    subst (λ (ws : Writes). TakesAll a ws c) (sym (ap (λ (l : List CellWrite). map write_named l) (next_taken asked i d less).0 ∙ map-append write_named (take i asked) (get_or asked i d ∷ [])))
    (takes_more a b c (map write_named (take i asked)) (write_named (get_or asked i d)) h t)

pub write_refused : (asked : List CellWrite) (i : ℕ) (d : CellWrite) (a b : Writes) (e : Refusal) → i < length asked → TakesAll a (map write_named (take i asked)) b → IsWriteRefusal b (write_named (get_or asked i d)) e → IsRefusedWrite a (map write_named asked) e
write_refused asked i d a b e less h why = record {
  first = map write_named (take i asked);
  write = write_named (get_or asked i d);
  rest = map write_named (drop (i + 1) asked);
  split = ap (λ (l : List CellWrite). map write_named l) (next_taken asked i d less).1 ∙ map-append write_named (take i asked) (get_or asked i d ∷ drop (i + 1) asked);
  mid = b;
  taken = h;
  why = why;
}

-- ---- the machine's steps

module _ (s : ℕ) where
  -- a state after writes: nothing but the session's writes has changed
  pub record Taken (st next : State) (all : Writes) : Type 0 where
    pub wrote : Wrote next s all
    pub others : (u : ℕ) → u ≢ s → get next.begun u ≡ get st.begun u
    pub rest : next ≡ record st { begun = next.begun }

  pub taken_then : (st mid next : State) (some all : Writes) → Taken st mid some → Taken mid next all → Taken st next all
  taken_then st mid next some all f g = record {
    wrote = g.wrote;
    others = λ u ne. g.others u ne ∙ f.others u ne;
    rest = g.rest ∙ ap (λ (m : State). record m { begun = next.begun }) f.rest;
  }

  pub taken_here : (st : State) (after : Writes) → Taken st (record st { begun = insert st.begun s after }) after
  taken_here st after = record { wrote = get_same st.begun s after; others = λ u ne. get_other st.begun s after u ne; rest = refl }

  take_one : (st : State) (x : Cell) (v : Change) (before after : Writes) → InPhase st s Open → Wrote st s before → TakesWrite before (x, v) after
      → Step st (request_of s x v) (reply_of v) (record st { begun = insert st.begun s after })
  take_one st x (Some value) before after h w t = accepts (set_ok before h t.named.0 t.named.1 t.short w t.room) (sets h w t.sets)
  take_one st x None before after h w t = accepts (delete_ok before h t.named.0 t.named.1 w t.room) (deletes h w t.sets)

  pub take_all : (ws : Writes) (st : State) (before after : Writes) → InPhase st s Open → Wrote st s before → TakesAll before ws after → (next : State) × Buffers s st ws next × Taken st next after
  take_all [] st before after h w e = (st, all_taken, record { wrote = subst (λ (l : Writes). Wrote st s l) (sym e) w; others = λ u ne. refl; rest = refl })
  take_all (u ∷ ws) st before after h w (mid, first, rest) =
      let next = record st { begun = insert st.begun s mid } in
      let more = take_all ws next mid after h (get_same st.begun s mid) rest in
      (more.0, takes (take_one st u.0 u.1 before mid h w first) more.1, taken_then st next more.0 mid after (taken_here st mid) more.2)

  pub refuses_write : (st : State) (x : Cell) (v : Change) (before : Writes) (e : Refusal) → InPhase st s Open → Wrote st s before → IsWriteRefusal before (x, v) e → Refuses st (request_of s x v) e
  refuses_write st x (Some value) before BadRow h w why = set_row_first h why
  refuses_write st x (Some value) before BadColumn h w why = set_family_first h why.0 why.1
  refuses_write st x (Some value) before BadValue h w (named, (given, is, long)) = set_long_first h named.0 named.1 (subst (λ (l : List ℕ). most_value < length l) (sym (same_Some value given is)) long)
  refuses_write st x (Some value) before TooManyWrites h w (named, short, none, full) = set_full_first h named.0 named.1 short before w none full
  refuses_write st x (Some value) before NoMemory h w why = gives_up tt
  refuses_write st x (Some value) before _ h w why = absurd why
  refuses_write st x None before BadRow h w why = delete_row_first h why
  refuses_write st x None before BadColumn h w why = delete_family_first h why.0 why.1
  refuses_write st x None before BadValue h w (named, (given, is, long)) = absurd (none-some given is)
  refuses_write st x None before TooManyWrites h w (named, short, none, full) = delete_full_first h named.0 named.1 before w none full
  refuses_write st x None before NoMemory h w why = gives_up tt
  refuses_write st x None before _ h w why = absurd why
