-- A scan of a session is a step of the machine.
use Rattle.std.proofs.Common.{◌≡◌, ℕ, ◌<◌, ◌⊎◌, inl, inr, Bool, map, refl, subst}
use Rattle.std.specs.Result.{IfOk, IfErr, IsErrOf}
use Rattle.std.specs.Ordering.{nat_cmp}
use Rattle.std.specs.BTreeMap as btree
use Rattle.std.specs.declared.result.Result.{Result}
use Rattle.std.specs.declared.result.Result.TheVariants.{Ok, Err}
use Rattle.std.proofs.lemmas.Bool.{cases_lt}
use Rattle.cell_key.specs.Cells.{Cells}
use Rattle.cell_key.specs.declared.refusals.Refusal.{Refusal}
use Rattle.cell_key.specs.declared.refusals.Refusal.TheVariants.{UnknownSession, WrongPhase, BadRow, BadColumn, BadCount, NoMemory, Damaged}
use Rattle.rows.specs.Refusals.{IsReadRefusal}
use Rattle.si_model.specs.Machine as machine
use Rattle.si_model.specs.Machine.{Range, State, Step, InPhase, Refused, refuses}
use Rattle.si_model.specs.Replies.{item_of, reach_of, result_reply, scan_reply}
use Rattle.si_model.specs.Scans.{HasFamilies, HasRows}
use Rattle.si_model.specs.Servers.{IsReachedByServers}
use Rattle.si_model.specs.ShowsCells.{ShowsCells}
use Rattle.si_model.specs.declared.scans.ScanReply.{ScanReply}
use Rattle.si_model.proofs.FirstRefusals.{scan_unknown_first, scan_late_first, scan_row_first, scan_family_first, scan_none_first, scan_many_first}
use Rattle.txn_client.specs.Scans.{IsScanCount, IsScanDamaged, IsScanFound}
use Rattle.txn_client.specs.Shows.{IsInactive, IsOpenSession, IsScanCause, ShowsClients, Steps, phase_of}
use Rattle.txn_client.specs.declared.sessions.Clients.{Clients}
use Rattle.txn_client.proofs.Exact.{is_kept, is_open}
use Rattle.txn_client.proofs.Refused.{read_storage, refused_storage}
use Rattle.txn_client.proofs.ShownReads.{after_scan, scans, undamaged}
use Rattle.txn_client.proofs.Table.{late_phase, open_phase, shown_none, shown_some, shows_other, stays}

-- a count outside its limits is 0 or too large
bad_count : (n : ℕ) → ¬ IsScanCount n → (n < 1) ⊎ (machine.most_scanned < n)
bad_count n bad = elim (cases_lt n 1) [
  | inl none ↦ inl none
  | inr some ↦ elim (cases_lt machine.most_scanned n) [ inl many ↦ inr many | inr few ↦ absurd (bad (some, few)) ]
]

-- it is refused before a cell is looked at
scan_refused : (clients : Clients) (t : ℕ) (range : Range) (keys_only : Bool) (n : ℕ) (st : State) → ShowsClients clients st → (e : Refusal) → IsScanCause clients t range n e → Step st (machine.ScanFrom t range keys_only n) (Refused e) st
scan_refused clients t range keys_only n st shown UnknownSession u = refuses (scan_unknown_first (shown_none clients t st shown u))
scan_refused clients t range keys_only n st shown WrongPhase u =
    refuses (scan_late_first (phase_of u.0.phase u.0.commit) (shown_some clients t st u.0 shown u.1).phase (late_phase u.0.phase u.0.commit u.2))
scan_refused clients t range keys_only n st shown BadRow u = refuses (scan_row_first (open_phase clients t st shown u.0) u.1)
scan_refused clients t range keys_only n st shown BadColumn u = refuses (scan_family_first (open_phase clients t st shown u.0) u.1.0 u.1.1)
scan_refused clients t range keys_only n st shown BadCount u = elim (bad_count n u.3) [
  | inl none ↦ refuses (scan_none_first (open_phase clients t st shown u.0) u.1 u.2 none)
  | inr many ↦ refuses (scan_many_first (open_phase clients t st shown u.0) u.1 u.2 many)
]
scan_refused clients t range keys_only n st shown NoMemory u = refused_storage tt
scan_refused clients t range keys_only n st shown _ u = absurd u.1

pub scan_refused_at : (cells : Cells) (clients : Clients) (last t : ℕ) (range : Range) (keys_only : Bool) (n : ℕ) (e : Refusal) → IsScanCause clients t range n e
    → Steps cells clients last (machine.ScanFrom t range keys_only n) (Refused e) cells clients last
scan_refused_at cells clients last t range keys_only n e u = stays cells clients last (machine.ScanFrom t range keys_only n) e (λ st reached shown. scan_refused clients t range keys_only n st shown.sessions e u)

-- a session that isn't active is reported
pub scan_unknown : (clients : Clients) (t : ℕ) (st : State) → ShowsClients clients st → (range : Range) (n : ℕ) (e : Refusal) → IsInactive st t → IsScanCause clients t range n e → e ≡ UnknownSession
scan_unknown clients t st shown range n UnknownSession gone u = refl
scan_unknown clients t st shown range n WrongPhase gone u = absurd (is_kept clients t st shown gone u.0 u.1)
scan_unknown clients t st shown range n BadCount gone u = absurd (is_open clients t st shown gone u.0)
scan_unknown clients t st shown range n _ gone u = absurd (is_open clients t st shown gone u.0)

-- the scan's answer is the machine's
pub scans_at : (cells : Cells) (clients : Clients) (last t : ℕ) (range : Range) (keys_only : Bool) (n : ℕ) (r : Result ScanReply Refusal) → IsOpenSession clients t → HasRows range → HasFamilies range → IsScanCount n
    → IfOk r (λ reply. IsScanFound cells t range keys_only n (map item_of reply.items.items) (reach_of reply.reach)) → IfErr r IsReadRefusal
    → Steps cells clients last (machine.ScanFrom t range keys_only n) (result_reply scan_reply r) cells clients last
scans_at cells clients last t range keys_only n (Err e) kept rows families count ok refused st reached shown = (st, refused_storage (read_storage e refused), shown, λ known. known)
scans_at cells clients last t range keys_only n (Ok reply) kept rows families count ok refused st reached shown =
    let s = scans cells st reached shown.store t range keys_only n (map item_of reply.items.items) (reach_of reply.reach) (open_phase clients t st shown.sessions kept) rows families count ok in
    let next = after_scan cells st reached shown.store t range (map item_of reply.items.items) (reach_of reply.reach) in (
      next,
      s.0,
      record {
        store = s.1;
        sessions = record { top = shown.sessions.top; sessions = λ u. shows_other st next (btree.get nat_cmp clients.sessions u) u refl refl (shown.sessions.sessions u); count = shown.sessions.count };
        top = shown.top;
      },
      λ known. known,
    )

-- shown cells aren't damaged
pub scan_undamaged_at : (cells : Cells) (range : Range) (t : ℕ) (r : Result ScanReply Refusal) → IfErr r (λ e. e ≡ Damaged → IsScanDamaged cells range t) → (st : State) → IsReachedByServers st → ShowsCells cells st → ¬ (IsErrOf r Damaged)
scan_undamaged_at cells range t (Ok reply) h st reached shown is = cc
scan_undamaged_at cells range t (Err e) h st reached shown is = let found : IsScanDamaged cells range t = h cc in undamaged cells st reached shown found.0 t found.2

-- properties of the request, as it was made
pub as_asked : (P : ℕ → Range → Bool → Type 0) (s s' : ℕ) (range range' : Range) (keys_only keys_only' : Bool) → s' ≡ s → range' ≡ range → keys_only' ≡ keys_only → P s' range' keys_only' → P s range keys_only
as_asked P s s' range range' keys_only keys_only' start names keys so =
    subst (λ (k : Bool). P s range k) keys (subst (λ (r : Range). P s r keys_only') names (subst (λ (t : ℕ). P t range' keys_only') start so))
