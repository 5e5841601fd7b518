-- What operations need to be open, they name.
use Rattle.std.proofs.Common.{◌≡◌, ◌≢◌, ℕ, Bool, false, None, Some, refl, ap, arith, if◌then◌else◌}
use Rattle.std.specs.Prelude.{nat_eq}
use Rattle.std.proofs.lemmas.Bool.Decides.{nat_tests}
use Rattle.cell_key.specs.declared.refusals.Refusal.{Refusal}
use Rattle.si_model.specs.Machine.{State, Request}
use Rattle.si_model.specs.Refusing.{Applies, begin_full, get_unknown, get_late, get_row, get_family, set_unknown, set_late, set_row, set_family, set_long, set_full, delete_unknown, delete_late, delete_row, delete_family, delete_full, scan_unknown, scan_late, scan_row, scan_family, scan_none, scan_many, advance_unknown, advance_empty, stop_unknown, clean_row, clean_family, clean_full, clean_unknown, collect_full, collect_unknown, collect_none, collect_many, minor_unknown, merge_unknown, merge_few, major_unknown, split_row, split_end, split_full, move_unknown, move_server, raw_row, raw_family}
use Rattle.si_model.specs.Transactions.{One}
use Rattle.ownership.specs.Laws.{NamesWhatIsUnknown, EachNamesWhatItNeeds}
use Rattle.ownership.specs.Names.{name_of, start_name}
use Rattle.ownership.specs.declared.names.Name.TheVariants.{Session}

needed : {st : State} {q : Request} {n : Refusal} → Applies st q n → NamesWhatIsUnknown n (name_of (One q))
needed (begin_full a) = tt
needed (get_unknown {s = s} a) = (s, refl)
needed (get_late a b) = tt
needed (get_row a) = tt
needed (get_family a) = tt
needed (set_unknown {s = s} a) = (s, refl)
needed (set_late a b) = tt
needed (set_row a) = tt
needed (set_family a) = tt
needed (set_long a) = tt
needed (set_full a b c) = tt
needed (delete_unknown {s = s} a) = (s, refl)
needed (delete_late a b) = tt
needed (delete_row a) = tt
needed (delete_family a) = tt
needed (delete_full a b c) = tt
needed (scan_unknown {s = s} a) = (s, refl)
needed (scan_late a b) = tt
needed (scan_row a) = tt
needed (scan_family a) = tt
needed (scan_none a) = tt
needed (scan_many a) = tt
needed (advance_unknown {s = s} a) = (s, refl)
needed (advance_empty a) = tt
needed (stop_unknown {s = s} a) = (s, refl)
needed (clean_row a) = tt
needed (clean_family a) = tt
needed (clean_full a b) = tt
needed (clean_unknown {i = i} a) = (i, refl)
needed (collect_full a) = tt
needed (collect_unknown {i = i} a) = (i, refl)
needed (collect_none a) = tt
needed (collect_many a) = tt
needed (minor_unknown a) = tt
needed (merge_unknown a) = tt
needed (merge_few a) = tt
needed (major_unknown a) = tt
needed (split_row a) = tt
needed (split_end a) = tt
needed (split_full a) = tt
needed (move_unknown a) = tt
needed (move_server a) = tt
needed (raw_row a) = tt
needed (raw_family a) = tt

not_zero : (start : ℕ) → start ≢ 0 → nat_eq start 0 ≡ false
not_zero start some = grind (arith, nat_tests, some)

some_start : (start : ℕ) → start ≢ 0 → start_name start ≡ Some (Session start)
some_start start some = ap (λ (none : Bool). if none then None else Some (Session start)) (not_zero start some)

pub names_what_it_needs : EachNamesWhatItNeeds
names_what_it_needs = record {
  requests = λ st request refusal applies. needed applies;
  commits = λ start writes some. some_start start some;
  reads = λ start cells stays_open some. some_start start some;
}
