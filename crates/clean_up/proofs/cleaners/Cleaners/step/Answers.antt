use Rattle.std.proofs.Common.{◌≡◌, ◌∙◌, sym, ap, subst, refl, Option, Some, None, true, false, cond, inl}
use Rattle.std.specs.Prelude.{is_some, IsSome}
use Rattle.std.specs.Ordering.{nat_cmp, is_eq}
use Rattle.std.specs.BTreeMap as btree
use Rattle.cell_key.specs.declared.refusals.Refusal.TheVariants.{MemtableFull, Damaged}
use Rattle.si_model.specs.Machine as machine
use Rattle.clean_up.specs.declared.cleaner.Cleaner.{Cleaner}
use Rattle.clean_up.proofs.Room.{changes_shown, does_make, does_so, does_take, does_touch, no_bad_record, no_room_so, touches_shown}
use Rattle.cell_key.proofs.Passed.{as_err, passed as passed_on, passed_err, passed_none, same_refusal}
use Rattle.clean_up.proofs.Table.{advance_storage, one_at, refused_at, same_entries, same_one, same_lent, takes_at, told_at, twice, unknown_at, with_none}
use Rattle.clean_up.proofs.cleaners.Cleaners.step.Goals as goal

pub returns-in_default-clause-step : goal.returns-in_default-clause-step
returns-in_default-clause-step g c = λ held.
    unknown_at (g.R.Rows.seen.cells c.args.rows.now) c.args.self.now (record c.args.self.now { cleaners = c.get_mut.follows.lender-at-none }) c.args.number
    (same_entries c.args.self.now (record c.args.self.now { cleaners = c.get_mut.follows.lender-at-none }) refl (ap (λ m. m.entries) c.get_mut.follows.holds-at-none)) (sym c.in_default.ensures.value)

pub returns-in_err-reply-clause-step : goal.returns-in_err-reply-clause-step
returns-in_err-reply-clause-step g c = λ held.
    let was = sym c.in-Some.ensures.value in
    let there : IsSome (btree.get nat_cmp c.args.self.now.cleaners c.args.number) = subst (λ (o : Option Cleaner). IsSome o) c.in-Some.ensures.value refl in
    let w = c.advance.new.self in
    let lent = c.get_mut.follows.holds w in
    let e = as_err c.from_residual.result c.in_err-reply.field-0.0 c.from_residual.ensures.1 in
    rw (e, c.in_err-reply.ensures.same.kept) (refused_at (g.R.Rows.seen.cells c.args.rows.now) c.args.self.now (record c.args.self.now { cleaners = c.get_mut.follows.lender w }) (machine.CleanStep c.args.number) c.in_err-reply.field-0.0
    (same_lent c.args.self.now (record c.args.self.now { cleaners = c.get_mut.follows.lender w }) c.args.number c.in-Some.cleaner.now w was c.in_err-reply.ensures.err refl (lent.3 there).0 lent.2)
    (advance_storage c.in_err-reply.field-0.0 c.in_err-reply.ensures.refusal))

pub returns-in_err-reply-clause-undamaged : goal.returns-in_err-reply-clause-undamaged
returns-in_err-reply-clause-undamaged g c = λ held st reached store shown is.
    no_bad_record (g.R.Rows.seen.cells c.args.rows.now) st reached store c.in-Some.cleaner.now.lock.first (c.in_err-reply.ensures.damaged (held c.in-Some.cleaner.now (sym c.in-Some.ensures.value)) (same_refusal c.from_residual.result c.in_err-reply.field-0.0 Damaged c.from_residual.ensures.1 is))

pub returns-in_err-reply-clause-full_shown : goal.returns-in_err-reply-clause-full_shown
returns-in_err-reply-clause-full_shown g c = λ held is st reached store shown.
    no_room_so g.R.Rows.seen.overfills c.args.rows.now (changes_shown (g.R.Rows.seen.holds c.args.rows.now) (g.R.Rows.seen.cells c.args.rows.now) c.args.self.now c.args.number c.in-Some.cleaner.now (sym c.in-Some.ensures.value) held st store shown)
    (c.in_err-reply.ensures.full (passed_on c.from_residual.result c.in_err-reply.field-0.0 MemtableFull c.from_residual.ensures.1 is))

pub returns-then-closes-clause-step : goal.returns-then-closes-clause-step
returns-then-closes-clause-step g c = λ held.
    let was = sym c.in-Some.ensures.value in
    let there : IsSome (btree.get nat_cmp c.args.self.now.cleaners c.args.number) = subst (λ (o : Option Cleaner). IsSome o) c.in-Some.ensures.value refl in
    let w = c.advance.new.self in
    let lent = c.get_mut.follows.holds w in
    let set = lent.3 there in
    let found : is_some c.remove.result ≡ true = ap is_some (c.remove.ensures.value ∙ set.1) in
    takes_at (g.R.Rows.seen.cells c.args.rows.now) (g.R.Rows.seen.cells c.advance.new.rows) c.args.self.now (record c.args.self.now { cleaners = c.remove.new.self }) c.args.number
    c.in-Some.cleaner.now w c.in_ok-reply.reply (c.in_ok-reply.ensures.step held) true (sym c.closes.ensures ∙ c.if-closes.true) refl ((rw found at c.remove.ensures.len) ∙ lent.2) was
    (λ q. c.remove.ensures.updates.0 q ∙ (ap (λ (o : Option Cleaner). cond (is_eq (nat_cmp c.args.number q)) None o) (set.0 q) ∙ twice (is_eq (nat_cmp c.args.number q)) None (Some w) (btree.get nat_cmp c.args.self.now.cleaners q)))

pub returns-else-closes-clause-step : goal.returns-else-closes-clause-step
returns-else-closes-clause-step g c = λ held.
    let was = sym c.in-Some.ensures.value in
    let there : IsSome (btree.get nat_cmp c.args.self.now.cleaners c.args.number) = subst (λ (o : Option Cleaner). IsSome o) c.in-Some.ensures.value refl in
    let w = c.advance.new.self in
    let lent = c.get_mut.follows.holds w in
    takes_at (g.R.Rows.seen.cells c.args.rows.now) (g.R.Rows.seen.cells c.advance.new.rows) c.args.self.now (record c.args.self.now { cleaners = c.get_mut.follows.lender w }) c.args.number
    c.in-Some.cleaner.now w c.in_ok-reply.reply (c.in_ok-reply.ensures.step held) false (sym c.closes.ensures ∙ c.if-closes.false) refl
    (with_none (btree.btree_map_len (c.get_mut.follows.lender w)) (btree.btree_map_len c.args.self.now.cleaners) lent.2) was (lent.3 there).0

pub returns-then-closes-clause-touched : goal.returns-then-closes-clause-touched
returns-then-closes-clause-touched g c = λ held st reached store shown.
    does_touch g.R.Rows.seen c.args.rows.now c.advance.new.rows held _ c.in_ok-reply.reply _
    (touches_shown (g.R.Rows.seen.holds c.args.rows.now) (g.R.Rows.seen.cells c.args.rows.now) c.args.self.now c.args.number c.in-Some.cleaner.now (sym c.in-Some.ensures.value) held st store shown (g.R.Rows.seen.cells c.advance.new.rows)) (λ same. inl same) c.in_ok-reply.ensures.does

pub returns-then-closes-clause-made : goal.returns-then-closes-clause-made
returns-then-closes-clause-made g c = λ held st reached store shown.
    does_make g.R.Rows.seen c.args.rows.now c.advance.new.rows held _ c.in_ok-reply.reply
    (does_so g.R.Rows.seen c.args.rows.now c.advance.new.rows c.in_ok-reply.reply
    (changes_shown (g.R.Rows.seen.holds c.args.rows.now) (g.R.Rows.seen.cells c.args.rows.now) c.args.self.now c.args.number c.in-Some.cleaner.now (sym c.in-Some.ensures.value) held st store shown) c.in_ok-reply.ensures.does)

pub returns-then-closes-clause-room : goal.returns-then-closes-clause-room
returns-then-closes-clause-room g c = λ held st reached store shown.
    does_take g.R.Rows.seen c.args.rows.now c.advance.new.rows _ c.in_ok-reply.reply
    (does_so g.R.Rows.seen c.args.rows.now c.advance.new.rows c.in_ok-reply.reply
    (changes_shown (g.R.Rows.seen.holds c.args.rows.now) (g.R.Rows.seen.cells c.args.rows.now) c.args.self.now c.args.number c.in-Some.cleaner.now (sym c.in-Some.ensures.value) held st store shown) c.in_ok-reply.ensures.does)

pub returns-else-closes-clause-touched : goal.returns-else-closes-clause-touched
returns-else-closes-clause-touched g c = λ held st reached store shown.
    does_touch g.R.Rows.seen c.args.rows.now c.advance.new.rows held _ c.in_ok-reply.reply _
    (touches_shown (g.R.Rows.seen.holds c.args.rows.now) (g.R.Rows.seen.cells c.args.rows.now) c.args.self.now c.args.number c.in-Some.cleaner.now (sym c.in-Some.ensures.value) held st store shown (g.R.Rows.seen.cells c.advance.new.rows)) (λ same. inl same) c.in_ok-reply.ensures.does

pub returns-else-closes-clause-made : goal.returns-else-closes-clause-made
returns-else-closes-clause-made g c = λ held st reached store shown.
    does_make g.R.Rows.seen c.args.rows.now c.advance.new.rows held _ c.in_ok-reply.reply
    (does_so g.R.Rows.seen c.args.rows.now c.advance.new.rows c.in_ok-reply.reply
    (changes_shown (g.R.Rows.seen.holds c.args.rows.now) (g.R.Rows.seen.cells c.args.rows.now) c.args.self.now c.args.number c.in-Some.cleaner.now (sym c.in-Some.ensures.value) held st store shown) c.in_ok-reply.ensures.does)

pub returns-else-closes-clause-room : goal.returns-else-closes-clause-room
returns-else-closes-clause-room g c = λ held st reached store shown.
    does_take g.R.Rows.seen c.args.rows.now c.advance.new.rows _ c.in_ok-reply.reply
    (does_so g.R.Rows.seen c.args.rows.now c.advance.new.rows c.in_ok-reply.reply
    (changes_shown (g.R.Rows.seen.holds c.args.rows.now) (g.R.Rows.seen.cells c.args.rows.now) c.args.self.now c.args.number c.in-Some.cleaner.now (sym c.in-Some.ensures.value) held st store shown) c.in_ok-reply.ensures.does)

pub returns-in_err-reply-clause-accepted : goal.returns-in_err-reply-clause-accepted
returns-in_err-reply-clause-accepted g c = passed_none c.from_residual.result c.in_err-reply.field-0.0 _ c.from_residual.ensures.1

pub returns-in_err-reply-clause-damaged : goal.returns-in_err-reply-clause-damaged
returns-in_err-reply-clause-damaged g c = λ held.
    passed_err c.from_residual.result c.in_err-reply.field-0.0 _ c.from_residual.ensures.1
    (λ is. (c.in-Some.cleaner.now, sym c.in-Some.ensures.value, c.in_err-reply.ensures.damaged (held c.in-Some.cleaner.now (sym c.in-Some.ensures.value)) is))

pub returns-then-closes-clause-accepted : goal.returns-then-closes-clause-accepted
returns-then-closes-clause-accepted g c =
    let there : IsSome (btree.get nat_cmp c.args.self.now.cleaners c.args.number) = subst (λ (o : Option Cleaner). IsSome o) c.in-Some.ensures.value refl in
    let w = c.advance.new.self in
    let set = (c.get_mut.follows.holds w).3 there in
    record {
      does = does_so g.R.Rows.seen c.args.rows.now c.advance.new.rows c.in_ok-reply.reply (λ row edits is. (c.in-Some.cleaner.now, sym c.in-Some.ensures.value, is)) c.in_ok-reply.ensures.does;
      told = told_at g.R.Rows.seen c.args.self.now (record c.args.self.now { cleaners = c.remove.new.self }) c.args.number c.in-Some.cleaner.now w c.in_ok-reply.reply c.args.rows.now c.advance.new.rows
          (sym c.in-Some.ensures.value) true (sym c.closes.ensures ∙ c.if-closes.true)
          (λ q. c.remove.ensures.updates.0 q ∙ (ap (λ (o : Option Cleaner). cond (is_eq (nat_cmp c.args.number q)) None o) (set.0 q) ∙ twice (is_eq (nat_cmp c.args.number q)) None (Some w) (btree.get nat_cmp c.args.self.now.cleaners q)))
          c.in_ok-reply.ensures.told;
    }

pub returns-else-closes-clause-accepted : goal.returns-else-closes-clause-accepted
returns-else-closes-clause-accepted g c =
    let there : IsSome (btree.get nat_cmp c.args.self.now.cleaners c.args.number) = subst (λ (o : Option Cleaner). IsSome o) c.in-Some.ensures.value refl in
    let w = c.advance.new.self in
    let lent = c.get_mut.follows.holds w in
    record {
      does = does_so g.R.Rows.seen c.args.rows.now c.advance.new.rows c.in_ok-reply.reply (λ row edits is. (c.in-Some.cleaner.now, sym c.in-Some.ensures.value, is)) c.in_ok-reply.ensures.does;
      told = told_at g.R.Rows.seen c.args.self.now (record c.args.self.now { cleaners = c.get_mut.follows.lender w }) c.args.number c.in-Some.cleaner.now w c.in_ok-reply.reply c.args.rows.now c.advance.new.rows
          (sym c.in-Some.ensures.value) false (sym c.closes.ensures ∙ c.if-closes.false) (lent.3 there).0 c.in_ok-reply.ensures.told;
    }

pub returns-in_default-clause-one : goal.returns-in_default-clause-one
returns-in_default-clause-one g c =
    let new = record c.args.self.now { cleaners = c.get_mut.follows.lender-at-none } in
    same_one c.args.self.now new c.args.number (same_entries c.args.self.now new refl (ap (λ m. m.entries) c.get_mut.follows.holds-at-none))

pub returns-in_err-reply-clause-one : goal.returns-in_err-reply-clause-one
returns-in_err-reply-clause-one g c =
    let there : IsSome (btree.get nat_cmp c.args.self.now.cleaners c.args.number) = subst (λ (o : Option Cleaner). IsSome o) c.in-Some.ensures.value refl in
    let w = c.advance.new.self in
    one_at c.args.self.now (record c.args.self.now { cleaners = c.get_mut.follows.lender w }) c.args.number (Some w) refl ((c.get_mut.follows.holds w).3 there).0

pub returns-then-closes-clause-one : goal.returns-then-closes-clause-one
returns-then-closes-clause-one g c =
    let there : IsSome (btree.get nat_cmp c.args.self.now.cleaners c.args.number) = subst (λ (o : Option Cleaner). IsSome o) c.in-Some.ensures.value refl in
    let w = c.advance.new.self in
    let set = (c.get_mut.follows.holds w).3 there in
    one_at c.args.self.now (record c.args.self.now { cleaners = c.remove.new.self }) c.args.number None refl
    (λ q. c.remove.ensures.updates.0 q ∙ (ap (λ (o : Option Cleaner). cond (is_eq (nat_cmp c.args.number q)) None o) (set.0 q) ∙ twice (is_eq (nat_cmp c.args.number q)) None (Some w) (btree.get nat_cmp c.args.self.now.cleaners q)))

pub returns-else-closes-clause-one : goal.returns-else-closes-clause-one
returns-else-closes-clause-one g c =
    let there : IsSome (btree.get nat_cmp c.args.self.now.cleaners c.args.number) = subst (λ (o : Option Cleaner). IsSome o) c.in-Some.ensures.value refl in
    let w = c.advance.new.self in
    one_at c.args.self.now (record c.args.self.now { cleaners = c.get_mut.follows.lender w }) c.args.number (Some w) refl ((c.get_mut.follows.holds w).3 there).0
