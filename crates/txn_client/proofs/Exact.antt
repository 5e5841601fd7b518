-- The answers for a session that isn't active, and for a session without writes.
use Rattle.std.proofs.Common.{◌≡◌, ◌<◌, ◌≤◌, ℕ, [], length, Option, Some, None, refl, sym, ap, subst, ◌∙◌, arith}
use Rattle.std.proofs.lemmas.List.{length-map}
use Rattle.std.proofs.lemmas.Option.{none-some, same_Some}
use Rattle.std.specs.declared.result.Result.{Result}
use Rattle.std.specs.declared.result.Result.TheVariants.{Ok, Err}
use Rattle.std.specs.Result.{IsErrOf}
use Rattle.std.specs.Ordering.{nat_cmp}
use Rattle.std.specs.BTreeMap as btree
use Rattle.cell_key.specs.declared.refusals.Refusal.{Refusal}
use Rattle.cell_key.specs.declared.refusals.Refusal.TheVariants.{UnknownSession, WrongPhase}
use Rattle.si_model.specs.Machine as machine
use Rattle.si_model.specs.Machine.{State, Writes}
use Rattle.si_model.specs.declared.replies.Cell.{Cell}
use Rattle.txn_client.specs.Shows.{IsCellRefusal, IsCrowded, IsInactive, IsOpenSession, IsUnwritten, ShowsAt, ShowsClients, ShowsSession, phase_of, writes_of}
use Rattle.txn_client.specs.Writes.{write_of}
use Rattle.txn_client.specs.declared.sessions.Clients.{Clients}
use Rattle.txn_client.specs.declared.session.Phase.{Phase}
use Rattle.txn_client.specs.declared.session.Phase.TheVariants.{Open, Holding, Stamped, Finishing}
use Rattle.txn_client.specs.declared.session.Session.{Session}

abbrev refusal_in : {A : Type 0} → Refusal → Result A Refusal → Refusal
refusal_in e (Ok x) = e
refusal_in e (Err f) = f

-- a refusal that is passed on is the same
pub passes : {A B : Type 0} (result : Result B Refusal) (inner : Result A Refusal) (e n : Refusal) → result ≡ Err e → inner ≡ Err e → IsErrOf inner n → IsErrOf result n
passes result inner e n is was told = is ∙ ap (λ (f : Refusal). Err f) (ap (refusal_in e) (sym was ∙ told))

module _ (clients : Clients) (t : ℕ) (st : State) (shown : ShowsClients clients st) where
  kept_at : (session : Session) → btree.get nat_cmp clients.sessions t ≡ Some session → ShowsSession session t st
  kept_at session there = subst (λ (o : Option Session). ShowsAt o t st) there (shown.sessions t)

  -- a stored session is active
  pub is_kept : IsInactive st t → (session : Session) → btree.get nat_cmp clients.sessions t ≡ Some session → ⊥
  is_kept gone session there = absurd (none-some _ (sym gone ∙ (kept_at session there).phase))

  pub is_open : IsInactive st t → IsOpenSession clients t → ⊥
  is_open gone kept = is_kept gone kept.0 kept.1

  -- a request to a session that isn't active is answered so
  pub cell_unknown : (x : Cell) (e : Refusal) → IsInactive st t → IsCellRefusal clients t x e → e ≡ UnknownSession
  cell_unknown x UnknownSession gone h = refl
  cell_unknown x WrongPhase gone h = absurd (is_kept gone h.0 h.1)
  cell_unknown x _ gone h = absurd (is_open gone h.0)

  -- an open session is stored
  pub is_there : IsUnwritten st t → btree.get nat_cmp clients.sessions t ≡ None → ⊥
  is_there none gone = absurd (none-some _ (sym (subst (λ (o : Option Session). ShowsAt o t st) gone (shown.sessions t)) ∙ none.0))

  -- a session without writes is stored so
  pub unwritten_phase : IsUnwritten st t → (session : Session) → btree.get nat_cmp clients.sessions t ≡ Some session → session.phase ≡ Open
  unwritten_phase none session there = by session.phase (same_Some (phase_of session.phase session.commit) machine.Open (sym (kept_at session there).phase ∙ none.0))
    where
      by : (p : Phase) → phase_of p session.commit ≡ machine.Open → p ≡ Open
      by Open e = refl
      by (Holding k) e = let f : ⊥ = cc in absurd f
      by Stamped e = let f : ⊥ = cc in absurd f
      by (Finishing k) e = let f : ⊥ = cc in absurd f

  pub unwritten_none : IsUnwritten st t → (session : Session) → btree.get nat_cmp clients.sessions t ≡ Some session → length session.writes ≤ 0
  unwritten_none none session there =
      let same : writes_of session ≡ [] = same_Some (writes_of session) [] (sym (kept_at session there).writes ∙ none.1) in
      omega (arith, ap (λ (ws : Writes). length ws) same, length-map session.writes write_of)

-- if there is room for one more session, no shown state is crowded
pub not_crowded : (clients : Clients) (st : State) → ShowsClients clients st → btree.btree_map_len clients.sessions < 1024 → IsCrowded st → ⊥
not_crowded clients st shown few many = let count = shown.count in omega (arith, count, few, many)
