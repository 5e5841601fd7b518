use Rattle.std.proofs.Common.{◌≡◌, List, refl, ap, subst, sym, arith, inl, inr, ◌∙◌}
use Rattle.cell_key.specs.Cells.{Cells}
use Rattle.cell_key.specs.declared.refusals.Refusal.{Refusal}
use Rattle.cell_key.specs.declared.refusals.Refusal.TheVariants.{Device, NoMemory}
use Rattle.metadata_table.specs.Places.{PlaceView}
use Rattle.si_model.specs.Machine.{new_machine}
use Rattle.si_model.specs.ShowsCells.{ShowsCells}
use Rattle.server_loop.specs.Server.{machine_places}
use Rattle.server_loop.proofs.SessionSteps.{new_cells}
use Rattle.server_loop.proofs.server.Server.new.Goals as goal

two_reasons : (refusal : Refusal) → refusal ≡ NoMemory → refusal ≡ Device → ⊥
two_reasons refusal memory device = cc

pub returns-in-Ok-open-clause-new : goal.returns-in-Ok-open-clause-new
returns-in-Ok-open-clause-new g c = λ told. c.without_sessions.ensures.shown new_machine (rw c.new-rows.ensures (record {
  in_order = (c.in-Ok.ensures.holds told, tt);
  store = rw c.in-Ok.ensures.files (subst (λ (cells : Cells). ShowsCells cells new_machine) (sym c.in-Ok.ensures.cells) new_cells);
  places = ap (λ (places : List PlaceView). machine_places places) c.in-Ok.ensures.places;
  next = refl;
  answered = refl;
  marked = omega arith;
  collected = refl;
  active = refl;
  cleaner = refl;
  cleaners = refl;
  collector = refl;
  collectors = refl;
}))

pub returns-in-Err-clause-refusal : goal.returns-in-Err-clause-refusal
returns-in-Err-clause-refusal g c = inl c.in-Err.ensures.refusal

pub returns-in-Err-clause-device : goal.returns-in-Err-clause-device
returns-in-Err-clause-device g c = λ same. absurd (two_reasons _ c.in-Err.ensures.refusal same)

pub returns-in-Err-clause-files : goal.returns-in-Err-clause-files
returns-in-Err-clause-files g c = c.in-Err.ensures.returned

pub returns-in-Err-clause-marks : goal.returns-in-Err-clause-marks
returns-in-Err-clause-marks g c = refl

pub returns-in-Err-clause-unread : goal.returns-in-Err-clause-unread
returns-in-Err-clause-unread g c = λ _. refl

pub returns-in-Err-open-clause-refusal : goal.returns-in-Err-open-clause-refusal
returns-in-Err-open-clause-refusal g c = inr c.in-Err-open.ensures.refusal

pub returns-in-Err-open-clause-device : goal.returns-in-Err-open-clause-device
returns-in-Err-open-clause-device g c = λ _. c.in-Err-open.ensures.device

pub returns-in-Err-open-clause-files : goal.returns-in-Err-open-clause-files
returns-in-Err-open-clause-files g c = c.into_files.ensures ∙ c.in-Ok.ensures.files

pub returns-in-Err-open-clause-marks : goal.returns-in-Err-open-clause-marks
returns-in-Err-open-clause-marks g c = c.in-Err-open.ensures.returned

pub returns-in-Err-open-clause-unread : goal.returns-in-Err-open-clause-unread
returns-in-Err-open-clause-unread g c = λ same. absurd (two_reasons _ same c.in-Err-open.ensures.refusal)
