-- A device with two contents: what is read, and what lasts over a loss of power.
use Rattle.std.specs.Prelude.{ℕ, ◌==◌, Bool, true, false, cond, not, List, ◌++◌, Option, None, Some, if◌then◌else◌}
use Rattle.std.specs.FinMap.{entries, from_entries, insert, remove, retain_keys}
use Rattle.file_store.specs.Store.{Contents}

-- Which content is meant: of each file by its name, of the mark and of the log. True is for what lasts.
pub record Meant : Type 0 where
  pub of_file : ℕ → Bool
  pub of_mark : Bool
  pub of_log : Bool

-- of a device's two contents the one that is meant
abbrev pub the_meant : {T : Type 0} → Bool → (read lasting : T) → T
the_meant lasts read lasting = cond lasts lasting read

-- the files, each with its content that is meant
abbrev pub mixed : (ℕ → Bool) → (read lasting : Contents) → Contents
mixed lasts read lasting =
    from_entries (entries (retain_keys lasting lasts)
    ++ entries (retain_keys read (λ name. not (lasts name))))

-- the choice that means the same, but what is read of the root
abbrev pub with_root_read : (ℕ → Bool) → ℕ → Bool
with_root_read lasts name = if name == 0 then false else lasts name

-- the choice of what lasts of each file
abbrev pub all_last : ℕ → Bool
all_last name = true

-- files after a name was given these bytes, or removed
abbrev pub set_to : Option (List ℕ) → ℕ → Contents → Contents
set_to None name files = remove files name
set_to (Some bytes) name files = insert files name bytes
