use Rattle.std.proofs.Common.{◌≡◌, ◌∙◌, ◌+◌, ℕ, sym, ap, subst, refl, Bool, Option, Some, None, Ok, Err, true, false, cond}
use Rattle.std.specs.Prelude.{is_some, IsSome}
use Rattle.std.specs.Ordering.{nat_cmp, is_eq}
use Rattle.std.specs.BTreeMap as btree
use Rattle.cell_key.specs.declared.refusals.Refusal.TheVariants.{Damaged}
use Rattle.version_collector.specs.declared.collector.Collector.{Collector}
use Rattle.rows.proofs.Calls.{reads_none}
use Rattle.version_collector.proofs.Room.{room_same}
use Rattle.cell_key.proofs.Passed.{as_err, passed as passed_on}
use Rattle.version_collector.proofs.Table.{is_count, kept_is, leaves_at, many_at, none_at, now_at, one_at, refused_leaves, same_entries, same_leaves, same_lent, shown_low, shown_some, steps_at, tells_at, twice, unknown_at, visits_at, with_none}
use Rattle.version_collector.proofs.collectors.Collectors.step.Goals as goal

pub returns-in_default-clause-step : goal.returns-in_default-clause-step
returns-in_default-clause-step g c = λ held.
    unknown_at (g.R.Rows.seen.cells c.args.rows.now) c.args.self.now (record c.args.self.now { collectors = c.get_mut.follows.lender-at-none }) c.args.number c.args.visits
    (same_entries c.args.self.now (record c.args.self.now { collectors = c.get_mut.follows.lender-at-none }) refl refl (ap (λ m. m.entries) c.get_mut.follows.holds-at-none)) (sym c.in_default.ensures.value)

pub returns-then-visits-eq0-clause-step : goal.returns-then-visits-eq0-clause-step
returns-then-visits-eq0-clause-step g c = λ held.
    let there : IsSome (btree.get nat_cmp c.args.self.now.collectors c.args.number) = subst (λ (o : Option Collector). IsSome o) c.in-Some.ensures.value refl in
    let lent = c.get_mut.follows.holds c.in-Some.collector.now in
    none_at (g.R.Rows.seen.cells c.args.rows.now) c.args.self.now (record c.args.self.now { collectors = c.get_mut.follows.lender c.in-Some.collector.now }) c.args.number c.args.visits c.in-Some.collector.now
    (same_lent c.args.self.now (record c.args.self.now { collectors = c.get_mut.follows.lender c.in-Some.collector.now }) c.args.number c.in-Some.collector.now c.in-Some.collector.now (sym c.in-Some.ensures.value) refl refl refl (lent.3 there).0 lent.2)
    (sym c.in-Some.ensures.value) c.if-visits-eq0.true

pub returns-then-visits-gt-MOST_VISITS-clause-step : goal.returns-then-visits-gt-MOST_VISITS-clause-step
returns-then-visits-gt-MOST_VISITS-clause-step g c = λ held.
    let there : IsSome (btree.get nat_cmp c.args.self.now.collectors c.args.number) = subst (λ (o : Option Collector). IsSome o) c.in-Some.ensures.value refl in
    let lent = c.get_mut.follows.holds c.in-Some.collector.now in
    many_at (g.R.Rows.seen.cells c.args.rows.now) c.args.self.now (record c.args.self.now { collectors = c.get_mut.follows.lender c.in-Some.collector.now }) c.args.number c.args.visits c.in-Some.collector.now
    (same_lent c.args.self.now (record c.args.self.now { collectors = c.get_mut.follows.lender c.in-Some.collector.now }) c.args.number c.in-Some.collector.now c.in-Some.collector.now (sym c.in-Some.ensures.value) refl refl refl (lent.3 there).0 lent.2)
    (sym c.in-Some.ensures.value) c.if-visits-gt-MOST_VISITS.true

pub returns-in_err-reply-clause-step : goal.returns-in_err-reply-clause-step
returns-in_err-reply-clause-step g c = λ held.
    let was = sym c.in-Some.ensures.value in
    let there : IsSome (btree.get nat_cmp c.args.self.now.collectors c.args.number) = subst (λ (o : Option Collector). IsSome o) c.in-Some.ensures.value refl in
    let w = c.advance.new.self in
    let lent = c.get_mut.follows.holds w in
    let new = record c.args.self.now { collectors = c.get_mut.follows.lender w } in
    let at = (lent.3 there).0 in
    let e = as_err c.from_residual.result c.in_err-reply.field-0.0 c.from_residual.ensures.1 in
    rw e (steps_at (g.R.Rows.seen.cells c.args.rows.now) (g.R.Rows.seen.cells c.advance.new.rows) c.args.self.now new c.args.number c.args.visits c.in-Some.collector.now w was
    (one_at c.args.self.now new c.args.number (Some w) refl refl at) (Err c.in_err-reply.field-0.0) (is_count c.args.visits c.if-visits-eq0.false c.if-visits-gt-MOST_VISITS.false) c.in_err-reply.ensures.refusal
    (now_at c.args.self.now new c.args.number (Some w) refl refl at) (with_none (btree.btree_map_len new.collectors) (btree.btree_map_len c.args.self.now.collectors) lent.2) (c.in_err-reply.ensures.visited held))

pub returns-in_err-reply-clause-visited : goal.returns-in_err-reply-clause-visited
returns-in_err-reply-clause-visited g c = λ held count st reached store shown.
    let was = sym c.in-Some.ensures.value in
    let there : IsSome (btree.get nat_cmp c.args.self.now.collectors c.args.number) = subst (λ (o : Option Collector). IsSome o) c.in-Some.ensures.value refl in
    let w = c.advance.new.self in
    let new = record c.args.self.now { collectors = c.get_mut.follows.lender w } in
    let at = ((c.get_mut.follows.holds w).3 there).0 in
    let e = as_err c.from_residual.result c.in_err-reply.field-0.0 c.from_residual.ensures.1 in
    rw e (visits_at (g.R.Rows.seen.cells c.args.rows.now) (g.R.Rows.seen.cells c.advance.new.rows) c.args.self.now new c.args.number c.args.visits c.in-Some.collector.now w was
    (Err c.in_err-reply.field-0.0) (c.in_err-reply.ensures.visited held) st reached store shown (now_at c.args.self.now new c.args.number (Some w) refl refl at))

pub returns-in_err-reply-clause-leaves : goal.returns-in_err-reply-clause-leaves
returns-in_err-reply-clause-leaves g c = λ held st reached store shown.
    let l = leaves_at (g.R.Rows.seen.cells c.args.rows.now) (g.R.Rows.seen.cells c.advance.new.rows) c.args.self.now c.args.self.now c.args.number c.args.visits c.in-Some.collector.now c.advance.new.self (sym c.in-Some.ensures.value)
    (Err c.in_err-reply.field-0.0) (c.in_err-reply.ensures.visited held) st reached store shown in
    l.collects

pub returns-in_default-clause-refused : goal.returns-in_default-clause-refused
returns-in_default-clause-refused g c =
    let new = record c.args.self.now { collectors = c.get_mut.follows.lender-at-none } in
    same_leaves c.args.self.now new c.args.number c.args.visits c.args.rows.now c.args.rows.now
    (same_entries c.args.self.now new refl refl (ap (λ m. m.entries) c.get_mut.follows.holds-at-none)) reads_none

pub returns-then-visits-eq0-clause-refused : goal.returns-then-visits-eq0-clause-refused
returns-then-visits-eq0-clause-refused g c =
    let was = sym c.in-Some.ensures.value in
    let there : IsSome (btree.get nat_cmp c.args.self.now.collectors c.args.number) = subst (λ (o : Option Collector). IsSome o) c.in-Some.ensures.value refl in
    let lent = c.get_mut.follows.holds c.in-Some.collector.now in
    let new = record c.args.self.now { collectors = c.get_mut.follows.lender c.in-Some.collector.now } in
    same_leaves c.args.self.now new c.args.number c.args.visits c.args.rows.now c.args.rows.now
    (same_lent c.args.self.now new c.args.number c.in-Some.collector.now c.in-Some.collector.now was refl refl refl (lent.3 there).0 lent.2) reads_none

pub returns-then-visits-gt-MOST_VISITS-clause-refused : goal.returns-then-visits-gt-MOST_VISITS-clause-refused
returns-then-visits-gt-MOST_VISITS-clause-refused g c =
    let was = sym c.in-Some.ensures.value in
    let there : IsSome (btree.get nat_cmp c.args.self.now.collectors c.args.number) = subst (λ (o : Option Collector). IsSome o) c.in-Some.ensures.value refl in
    let lent = c.get_mut.follows.holds c.in-Some.collector.now in
    let new = record c.args.self.now { collectors = c.get_mut.follows.lender c.in-Some.collector.now } in
    same_leaves c.args.self.now new c.args.number c.args.visits c.args.rows.now c.args.rows.now
    (same_lent c.args.self.now new c.args.number c.in-Some.collector.now c.in-Some.collector.now was refl refl refl (lent.3 there).0 lent.2) reads_none

pub returns-in_err-reply-clause-refused : goal.returns-in_err-reply-clause-refused
returns-in_err-reply-clause-refused g c =
    let was = sym c.in-Some.ensures.value in
    let there : IsSome (btree.get nat_cmp c.args.self.now.collectors c.args.number) = subst (λ (o : Option Collector). IsSome o) c.in-Some.ensures.value refl in
    let w = c.advance.new.self in
    let lent = c.get_mut.follows.holds w in
    let new = record c.args.self.now { collectors = c.get_mut.follows.lender w } in
    let at = (lent.3 there).0 in
    let first = λ (one : c.args.visits ≡ 1). c.in_err-reply.ensures.first one in
    rw (as_err c.from_residual.result c.in_err-reply.field-0.0 c.from_residual.ensures.1)
    (refused_leaves c.args.self.now new c.args.number c.args.visits c.args.rows.now c.advance.new.rows c.in-Some.collector.now w was
    (now_at c.args.self.now new c.args.number (Some w) refl refl at) c.in_err-reply.ensures.floor (λ one. (first one).0)
    (λ same. same_lent c.args.self.now new c.args.number c.in-Some.collector.now w was same refl refl at lent.2) (λ one. (first one).1))

pub returns-in_err-reply-clause-undamaged : goal.returns-in_err-reply-clause-undamaged
returns-in_err-reply-clause-undamaged g c = λ held st reached store shown is.
    let was = sym c.in-Some.ensures.value in
    let there : IsSome (btree.get nat_cmp c.args.self.now.collectors c.args.number) = subst (λ (o : Option Collector). IsSome o) c.in-Some.ensures.value refl in
    let w = c.advance.new.self in
    let lent = c.get_mut.follows.holds w in
    let new = record c.args.self.now { collectors = c.get_mut.follows.lender w } in
    let at = (lent.3 there).0 in
    let mine = shown_some (g.R.Rows.seen.cells c.args.rows.now) c.args.self.now c.args.number st c.in-Some.collector.now shown was in
    c.in_err-reply.ensures.undamaged (held c.in-Some.collector.now w was (now_at c.args.self.now new c.args.number (Some w) refl refl at)) st reached store
    (shown_low (g.R.Rows.seen.cells c.args.rows.now) c.in-Some.collector.now c.args.number st reached mine) mine.come
    (passed_on c.from_residual.result c.in_err-reply.field-0.0 Damaged c.from_residual.ensures.1 is)

pub returns-then-closes-clause-step : goal.returns-then-closes-clause-step
returns-then-closes-clause-step g c = λ held.
    let was = sym c.in-Some.ensures.value in
    let there : IsSome (btree.get nat_cmp c.args.self.now.collectors c.args.number) = subst (λ (o : Option Collector). IsSome o) c.in-Some.ensures.value refl in
    let w = c.advance.new.self in
    let lent = c.get_mut.follows.holds w in
    let set = lent.3 there in
    let found : is_some c.remove.result ≡ true = ap is_some (c.remove.ensures.value ∙ set.1) in
    let new = record c.args.self.now { collectors = c.remove.new.self } in
    let last = sym c.closes.ensures ∙ c.if-closes.true in
    let at = λ (q : ℕ). c.remove.ensures.updates.0 q ∙ (ap (λ (o : Option Collector). cond (is_eq (nat_cmp c.args.number q)) None o) (set.0 q) ∙ twice (is_eq (nat_cmp c.args.number q)) None (Some w) (btree.get nat_cmp c.args.self.now.collectors q)) in
    steps_at (g.R.Rows.seen.cells c.args.rows.now) (g.R.Rows.seen.cells c.advance.new.rows) c.args.self.now new c.args.number c.args.visits c.in-Some.collector.now w was
    (one_at c.args.self.now new c.args.number None refl refl at) (Ok c.in_ok-reply.reply) (is_count c.args.visits c.if-visits-eq0.false c.if-visits-gt-MOST_VISITS.false) tt
    (now_at c.args.self.now new c.args.number None refl refl at ∙ sym (kept_is c.in_ok-reply.reply w true last))
    (ap (λ (b : Bool). btree.btree_map_len new.collectors + cond b 1 0) last ∙ ((rw found at c.remove.ensures.len) ∙ lent.2)) (c.in_ok-reply.ensures.visited held)

pub returns-then-closes-clause-visited : goal.returns-then-closes-clause-visited
returns-then-closes-clause-visited g c = λ held count st reached store shown.
    let was = sym c.in-Some.ensures.value in
    let there : IsSome (btree.get nat_cmp c.args.self.now.collectors c.args.number) = subst (λ (o : Option Collector). IsSome o) c.in-Some.ensures.value refl in
    let w = c.advance.new.self in
    let set = (c.get_mut.follows.holds w).3 there in
    let new = record c.args.self.now { collectors = c.remove.new.self } in
    let last = sym c.closes.ensures ∙ c.if-closes.true in
    let at = λ (q : ℕ). c.remove.ensures.updates.0 q ∙ (ap (λ (o : Option Collector). cond (is_eq (nat_cmp c.args.number q)) None o) (set.0 q) ∙ twice (is_eq (nat_cmp c.args.number q)) None (Some w) (btree.get nat_cmp c.args.self.now.collectors q)) in
    visits_at (g.R.Rows.seen.cells c.args.rows.now) (g.R.Rows.seen.cells c.advance.new.rows) c.args.self.now new c.args.number c.args.visits c.in-Some.collector.now w was
    (Ok c.in_ok-reply.reply) (c.in_ok-reply.ensures.visited held) st reached store shown (now_at c.args.self.now new c.args.number None refl refl at ∙ sym (kept_is c.in_ok-reply.reply w true last))

pub returns-then-closes-clause-leaves : goal.returns-then-closes-clause-leaves
returns-then-closes-clause-leaves g c = λ held st reached store shown.
    let l = leaves_at (g.R.Rows.seen.cells c.args.rows.now) (g.R.Rows.seen.cells c.advance.new.rows) c.args.self.now c.args.self.now c.args.number c.args.visits c.in-Some.collector.now c.advance.new.self (sym c.in-Some.ensures.value)
    (Ok c.in_ok-reply.reply) (c.in_ok-reply.ensures.visited held) st reached store shown in
    l.collects

pub returns-then-closes-clause-told : goal.returns-then-closes-clause-told
returns-then-closes-clause-told g c = λ held st reached store shown.
    let was = sym c.in-Some.ensures.value in
    let there : IsSome (btree.get nat_cmp c.args.self.now.collectors c.args.number) = subst (λ (o : Option Collector). IsSome o) c.in-Some.ensures.value refl in
    let w = c.advance.new.self in
    let set = (c.get_mut.follows.holds w).3 there in
    let new = record c.args.self.now { collectors = c.remove.new.self } in
    let last = sym c.closes.ensures ∙ c.if-closes.true in
    let at = λ (q : ℕ). c.remove.ensures.updates.0 q ∙ (ap (λ (o : Option Collector). cond (is_eq (nat_cmp c.args.number q)) None o) (set.0 q) ∙ twice (is_eq (nat_cmp c.args.number q)) None (Some w) (btree.get nat_cmp c.args.self.now.collectors q)) in
    tells_at (g.R.Rows.seen.cells c.args.rows.now) (g.R.Rows.seen.cells c.advance.new.rows) c.args.self.now new c.args.number c.args.visits c.in-Some.collector.now w was
    c.in_ok-reply.reply (c.in_ok-reply.ensures.visited held) st reached store shown (now_at c.args.self.now new c.args.number None refl refl at ∙ sym (kept_is c.in_ok-reply.reply w true last))

pub returns-clause-step : goal.returns-clause-step
returns-clause-step g c = λ held.
    let was = sym c.in-Some.ensures.value in
    let there : IsSome (btree.get nat_cmp c.args.self.now.collectors c.args.number) = subst (λ (o : Option Collector). IsSome o) c.in-Some.ensures.value refl in
    let w = c.advance.new.self in
    let lent = c.get_mut.follows.holds w in
    let new = record c.args.self.now { collectors = c.get_mut.follows.lender w } in
    let last = sym c.closes.ensures ∙ c.if-closes.false in
    let at = (lent.3 there).0 in
    steps_at (g.R.Rows.seen.cells c.args.rows.now) (g.R.Rows.seen.cells c.advance.new.rows) c.args.self.now new c.args.number c.args.visits c.in-Some.collector.now w was
    (one_at c.args.self.now new c.args.number (Some w) refl refl at) (Ok c.in_ok-reply.reply) (is_count c.args.visits c.if-visits-eq0.false c.if-visits-gt-MOST_VISITS.false) tt
    (now_at c.args.self.now new c.args.number (Some w) refl refl at ∙ sym (kept_is c.in_ok-reply.reply w false last))
    (ap (λ (b : Bool). btree.btree_map_len new.collectors + cond b 1 0) last ∙ with_none (btree.btree_map_len new.collectors) (btree.btree_map_len c.args.self.now.collectors) lent.2) (c.in_ok-reply.ensures.visited held)

pub returns-clause-visited : goal.returns-clause-visited
returns-clause-visited g c = λ held count st reached store shown.
    let was = sym c.in-Some.ensures.value in
    let there : IsSome (btree.get nat_cmp c.args.self.now.collectors c.args.number) = subst (λ (o : Option Collector). IsSome o) c.in-Some.ensures.value refl in
    let w = c.advance.new.self in
    let new = record c.args.self.now { collectors = c.get_mut.follows.lender w } in
    let last = sym c.closes.ensures ∙ c.if-closes.false in
    let at = ((c.get_mut.follows.holds w).3 there).0 in
    visits_at (g.R.Rows.seen.cells c.args.rows.now) (g.R.Rows.seen.cells c.advance.new.rows) c.args.self.now new c.args.number c.args.visits c.in-Some.collector.now w was
    (Ok c.in_ok-reply.reply) (c.in_ok-reply.ensures.visited held) st reached store shown (now_at c.args.self.now new c.args.number (Some w) refl refl at ∙ sym (kept_is c.in_ok-reply.reply w false last))

pub returns-clause-leaves : goal.returns-clause-leaves
returns-clause-leaves g c = λ held st reached store shown.
    let l = leaves_at (g.R.Rows.seen.cells c.args.rows.now) (g.R.Rows.seen.cells c.advance.new.rows) c.args.self.now c.args.self.now c.args.number c.args.visits c.in-Some.collector.now c.advance.new.self (sym c.in-Some.ensures.value)
    (Ok c.in_ok-reply.reply) (c.in_ok-reply.ensures.visited held) st reached store shown in
    l.collects

pub returns-clause-told : goal.returns-clause-told
returns-clause-told g c = λ held st reached store shown.
    let was = sym c.in-Some.ensures.value in
    let there : IsSome (btree.get nat_cmp c.args.self.now.collectors c.args.number) = subst (λ (o : Option Collector). IsSome o) c.in-Some.ensures.value refl in
    let w = c.advance.new.self in
    let new = record c.args.self.now { collectors = c.get_mut.follows.lender w } in
    let last = sym c.closes.ensures ∙ c.if-closes.false in
    let at = ((c.get_mut.follows.holds w).3 there).0 in
    tells_at (g.R.Rows.seen.cells c.args.rows.now) (g.R.Rows.seen.cells c.advance.new.rows) c.args.self.now new c.args.number c.args.visits c.in-Some.collector.now w was
    c.in_ok-reply.reply (c.in_ok-reply.ensures.visited held) st reached store shown (now_at c.args.self.now new c.args.number (Some w) refl refl at ∙ sym (kept_is c.in_ok-reply.reply w false last))

pub returns-then-visits-eq0-clause-room : goal.returns-then-visits-eq0-clause-room
returns-then-visits-eq0-clause-room g c = room_same g.R.Rows.seen.overfills c.args.visits c.args.rows.now

pub returns-then-visits-gt-MOST_VISITS-clause-room : goal.returns-then-visits-gt-MOST_VISITS-clause-room
returns-then-visits-gt-MOST_VISITS-clause-room g c = room_same g.R.Rows.seen.overfills c.args.visits c.args.rows.now

pub returns-in_err-reply-clause-count : goal.returns-in_err-reply-clause-count
returns-in_err-reply-clause-count g c = λ bad. absurd (bad (is_count c.args.visits c.if-visits-eq0.false c.if-visits-gt-MOST_VISITS.false))

pub returns-then-closes-clause-count : goal.returns-then-closes-clause-count
returns-then-closes-clause-count g c = λ bad. absurd (bad (is_count c.args.visits c.if-visits-eq0.false c.if-visits-gt-MOST_VISITS.false))

pub returns-clause-count : goal.returns-clause-count
returns-clause-count g c = λ bad. absurd (bad (is_count c.args.visits c.if-visits-eq0.false c.if-visits-gt-MOST_VISITS.false))
