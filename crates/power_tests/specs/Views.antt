-- The devices with two contents.
use Rattle.std.specs.Prelude.{◌≡◌, ℕ, Bool, false, List, Option, Some}
use Rattle.std.specs.Coded.{Coded, code_by, coded×, coded_ℕ, coded_list}
use Rattle.std.specs.FinMap.{code, get}
use Rattle.std.proofs.Common.{refl}
use Rattle.file_store.specs.Store.{Contents}
use Rattle.power_tests.specs.Meant.{mixed, the_meant}

-- Files: what is read, what lasts, and the count of faults.
pub record FilesView : Type 0 where
  pub read : Contents
  pub lasting : Contents
  pub faults : ℕ

abbrev pub contents_code : Coded Contents
contents_code = code coded_ℕ (coded_list coded_ℕ)

abbrev pub files_code : Coded FilesView
files_code =
    code_by (Contents × (Contents × ℕ)) (coded× contents_code (coded× contents_code coded_ℕ))
    (λ files. (files.read, (files.lasting, files.faults)))
    (λ p. record { read = p.0; lasting = p.1.0; faults = p.1.1 }) (λ _. refl)

-- a file that isn't in doubt is read as it lasts
abbrev pub AgreeBut : (ℕ → Bool) → (read lasting : Contents) → Type 0
AgreeBut doubts read lasting =
    (name : ℕ) → doubts name ≡ false → get read name ≡ get lasting name

-- the files that are meant
abbrev pub meant_files : (ℕ → Bool) → FilesView → Option Contents
meant_files lasts files = Some (mixed lasts files.read files.lasting)

-- A mark: the number that is read, the one that lasts, whether it is in doubt, and the count of faults.
pub record MarkView : Type 0 where
  pub read : ℕ
  pub lasting : ℕ
  pub in_doubt : Bool
  pub faults : ℕ

-- the mark that is meant
abbrev pub meant_mark : Bool → MarkView → Option ℕ
meant_mark lasts mark = Some (the_meant lasts mark.read mark.lasting)

-- A log's file: the bytes that are read, those that last, whether it is stopped, and the count of faults.
pub record LogView : Type 0 where
  pub read : List ℕ
  pub lasting : List ℕ
  pub is_stopped : Bool
  pub faults : ℕ

-- the bytes of the log that are meant
abbrev pub meant_log : Bool → LogView → Option (List ℕ)
meant_log lasts log = Some (the_meant lasts log.read log.lasting)
