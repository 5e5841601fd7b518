-- A row that is read, and changed while its guard is the same, is read and changed at one moment.
use Rattle.std.proofs.Common.{◌≡◌, ◌≢◌, ◌≤◌, ◌+◌, ◌-◌, ℕ, zero, suc, Bool, true, false, cond, List, [], ◌∷◌, Option, Some, None, refl, sym, ap, subst, ◌∙◌, arith}
use Rattle.std.specs.List.{AllByRecursion}
use Rattle.std.specs.declared.cmp.Ordering.{Ordering}
use Rattle.std.specs.declared.cmp.Ordering.TheVariants.{Less, Equal, Greater}
use Rattle.std.specs.Ordering.{is_eq, eq_by_cmp}
use Rattle.std.specs.FinMap.{get, get-insert, get-remove}
use Rattle.cell_key.specs.Cells.{Cells, IsEditOf, IsNewest, after_edit, after_edits, edited_key, version}
use Rattle.cell_key.specs.Keys.{key_cmp, key_cmp_total}
use Rattle.cell_key.specs.declared.edits.Edit.{Edit}
use Rattle.cell_key.specs.declared.edits.Edit.TheVariants.{Put, Erase}
use Rattle.cell_key.specs.declared.keys.CellKey.{CellKey}
use Rattle.cell_key.proofs.KeyLaws.{exact_keys}
use Rattle.servers_model.specs.Guarded.{Engine, IsSameRow, OneMoment, ServedAtOneMoment}
use Rattle.servers_model.specs.Serves.{Serves}

-- ---- edits at one key

edited : (a b : Cells) (edit : Edit) (q : CellKey) → get a q ≡ get b q → get (after_edit a edit) q ≡ get (after_edit b edit) q
edited a b (Put key value) q same =
    get-insert key_cmp_total a key value.items q ∙ (ap (λ (o : Option (List ℕ)). cond (eq_by_cmp key_cmp q key) (Some value.items) o) same ∙ sym (get-insert key_cmp_total b key value.items q))
edited a b (Erase key) q same = get-remove key_cmp_total a key q ∙ (ap (λ (o : Option (List ℕ)). cond (eq_by_cmp key_cmp q key) None o) same ∙ sym (get-remove key_cmp_total b key q))

-- cells that agree at a key agree there after edits
agree : (a b : Cells) (edits : List Edit) (q : CellKey) → get a q ≡ get b q → get (after_edits a edits) q ≡ get (after_edits b edits) q
agree a b [] q same = same
agree a b (edit ∷ edits) q same = agree (after_edit a edit) (after_edit b edit) edits q (edited a b edit q same)

tied : (r : Ordering) → is_eq r ≡ true → r ≡ Equal
tied Less e = cc
tied Equal e = refl
tied Greater e = cc

untrue : (b : Bool) → (b ≡ true → ⊥) → b ≡ false
untrue true h = absurd (h refl)
untrue false h = refl

apart : (q k : CellKey) → q ≢ k → eq_by_cmp key_cmp q k ≡ false
apart q k ne = untrue (eq_by_cmp key_cmp q k) (λ e. ne (exact_keys q k (tied (key_cmp q k) e)))

off_edited : (a : Cells) (edit : Edit) (q : CellKey) → q ≢ edited_key edit → get (after_edit a edit) q ≡ get a q
off_edited a (Put key value) q ne = get-insert key_cmp_total a key value.items q ∙ ap (λ (b : Bool). cond b (Some value.items) (get a q)) (apart q key ne)
off_edited a (Erase key) q ne = get-remove key_cmp_total a key q ∙ ap (λ (b : Bool). cond b None (get a q)) (apart q key ne)

-- edits of a row leave other rows
off_row : (cells : Cells) (row : List ℕ) (edits : List Edit) (q : CellKey) → AllByRecursion (IsEditOf row) edits → q.row ≢ row → get (after_edits cells edits) q ≡ get cells q
off_row cells row [] q under other = refl
off_row cells row (edit ∷ edits) q under other =
    off_row (after_edit cells edit) row edits q under.1 other ∙ off_edited cells edit q (λ is. other (ap (λ (k : CellKey). k.row) is ∙ under.0.under))

-- ---- a row between two moments

low_guard : (a b c : ℕ) → a ≤ b → b ≤ c → c ≡ a → b ≡ a
low_guard a b c low high same = omega arith

at_most_itself : (n : ℕ) → n ≤ n
at_most_itself n = omega arith

at_most_then : (a b c : ℕ) → a ≤ b → b ≤ c → a ≤ c
at_most_then a b c low high = omega arith

module _ (engine : Engine) where
  -- a guard never falls
  rises_by : (d m : ℕ) (row : List ℕ) → engine.guard m row ≤ engine.guard (d + m) row
  rises_by zero m row = subst (λ (n : ℕ). engine.guard m row ≤ engine.guard n row) (let e : m ≡ 0 + m = omega arith in e) (at_most_itself (engine.guard m row))
  rises_by (suc d) m row =
      subst (λ (n : ℕ). engine.guard m row ≤ engine.guard n row) (let e : (d + m) + 1 ≡ suc d + m = omega arith in e)
      (at_most_then _ _ _ (rises_by d m row) (engine.rises (d + m) row))

  -- while it is the same, its row is
  same_by : (d m : ℕ) (q : CellKey) → engine.guard (d + m) q.row ≡ engine.guard m q.row → get (engine.cells (d + m)) q ≡ get (engine.cells m) q
  same_by zero m q same = ap (λ (n : ℕ). get (engine.cells n) q) (let e : 0 + m ≡ m = omega arith in e)
  same_by (suc d) m q same =
      let next : (d + m) + 1 ≡ suc d + m = omega arith in
      let then : engine.guard ((d + m) + 1) q.row ≡ engine.guard m q.row = subst (λ (n : ℕ). engine.guard n q.row ≡ engine.guard m q.row) (sym next) same in
      let mid = low_guard _ _ _ (rises_by d m q.row) (engine.rises (d + m) q.row) then in
      subst (λ (n : ℕ). get (engine.cells n) q ≡ get (engine.cells m) q) next (engine.guards (d + m) q (then ∙ sym mid) ∙ same_by d m q mid)

  same_row : (m n : ℕ) (row : List ℕ) → m ≤ n → engine.guard n row ≡ engine.guard m row → IsSameRow row (engine.cells m) (engine.cells n)
  same_row m n row later same q under =
      let apart : (n - m) + m ≡ n = omega arith in
      subst (λ (k : ℕ). get (engine.cells k) q ≡ get (engine.cells m) q) apart
      (same_by (n - m) m q (subst (λ (r : List ℕ). engine.guard ((n - m) + m) r ≡ engine.guard m r) (sym under) (subst (λ (k : ℕ). engine.guard k row ≡ engine.guard m row) (sym apart) same)))

-- what is newest in a row is so in the same row
newest_too : (a b : Cells) (at : ℕ → CellKey) (low high : ℕ) (found : Option (ℕ × List ℕ)) → ((s : ℕ) → get b (at s) ≡ get a (at s)) → IsNewest a at low high found → IsNewest b at low high found
newest_too a b at low high None same none = λ s from to. same s ∙ none s from to
newest_too a b at low high (Some found) same (from, to, is, last) = (from, to, same found.0 ∙ is, λ s above under. same s ∙ last s above under)

pub one_moment : OneMoment
one_moment engine row edits readings moment asked k reading there =
    let (later, unraced) = asked.asks k reading there in
    let same = same_row engine reading moment row later unraced in
    record {
      same = same;
      reads = λ family qualifier low high found. newest_too (engine.cells reading) (engine.cells moment) (version row family qualifier) low high found (λ s. same (version row family qualifier s) refl);
      changes = λ q under. ap (λ (cells : Cells). get cells q) asked.makes ∙ agree (engine.cells moment) (engine.cells reading) edits q (same q under);
      others = λ q other. ap (λ (cells : Cells). get cells q) asked.makes ∙ off_row (engine.cells moment) row edits q asked.under other;
    }

pub served_at_one_moment : ServedAtOneMoment
served_at_one_moment engine row edits readings moment server server' last last' q r asked k reading there serves =
    let both = one_moment engine row edits readings moment asked k reading there in
    subst (λ (cells : Cells). Serves (engine.cells moment) server last q r cells server' last') (sym asked.makes) (serves (engine.cells moment) both.same)
