use Rattle.std.proofs.Common.{◌≡◌, ℕ, not, ◌&&◌, ◌||◌, true, false, refl, ap, ◌∙◌, rules}
use Rattle.std.specs.Prelude.{nat_eq}
use Rattle.ownership.specs.Names.{is_session}
use Rattle.ownership.specs.Tables.{owns, table_of}
use Rattle.ownership.specs.declared.names.Name.TheVariants.{Session}
use Rattle.tablet_audit.specs.Judges.{JudgesStops}
use Rattle.tablet_audit.proofs.SharedFrames.{left, never_left}
use Rattle.tablet_audit.proofs.judges.Judge.leave.Goals as goal

pub returns-then-not-branch-clause-judged : goal.returns-then-not-branch-clause-judged
returns-then-not-branch-clause-judged c =
    let judges : JudgesStops c.args.self.now c.stop_all.new.self c.args.client false = search rules in
    never_left c.args.admin c.args.self.now c.stop_all.new.self c.stop_all.new.self c.args.client judges

pub returns-clause-judged : goal.returns-clause-judged
returns-clause-judged c =
    let mid = c.stop_all.new.self in
    let judges : JudgesStops c.args.self.now mid c.args.client true = search rules in
    let none : (start : ℕ) → owns (table_of mid.owners) c.args.client (Session start) ≡ false = search rules in
    left c.args.admin c.args.self.now mid (record { audit = mid.audit; owners = c.pass.new.self }) c.args.client judges none refl
    (λ other name.
    c.pass.ensures other name
    ∙ ap (λ (heir : ℕ). (owns (table_of mid.owners) other name && (is_session name || not (nat_eq c.args.client other))) || (nat_eq heir other && owns (table_of mid.owners) c.args.client name && not (is_session name)))
    c.unwrap_or.ensures)
