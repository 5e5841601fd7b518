-- The result of a read of a cell, by the newest versions of its columns.
use Rattle.std.proofs.Common.{ap, ◌≡◌, ℕ, ◌≤◌, List, Option, Some, None, inr, arith, subst}
use Rattle.std.specs.Prelude.{option_map}
use Rattle.std.specs.FinMap.{get}
use Rattle.std.specs.declared.vec.Vec.{Vec}
use Rattle.cell_key.specs.Cells.{Cells, IsNewest}
use Rattle.cell_key.specs.Columns.{NamesWrite}
use Rattle.cell_key.specs.Versions.{stamped}
use Rattle.cell_key.specs.declared.columns.WriteKind.{WriteKind}
use Rattle.cell_key.specs.declared.columns.WriteKind.TheVariants as write
use Rattle.cell_key.specs.declared.keys.CellKey.{CellKey}
use Rattle.cell_key.specs.declared.keys.Qualifier.TheVariants.{Data, Lock, Write}
use Rattle.si_model.specs.Reads.{IsLast}
use Rattle.si_model.specs.ShowsCells.{at, key_of, IsThere}
use Rattle.si_model.specs.declared.replies.Cell.{Cell}
use Rattle.txn_client.specs.Reads.{IsDamaged, ReadsDeletion, ReadsValue}

pub nothing : {Z : Type 0} (cells : Cells) (at : ℕ → CellKey) (lo hi : ℕ) (found : Option (ℕ × Vec ℕ Z)) → found ≡ None → IsNewest cells at lo hi (option_map stamped found) → (s : ℕ) → lo ≤ s → s ≤ hi → get cells (at s) ≡ None
nothing cells at lo hi found e is = subst (λ (f : Option (ℕ × Vec ℕ _)). IsNewest cells at lo hi (option_map stamped f)) e is

-- the newest record of a cell up to a stamp is its last one there
pub last_record : (cells : Cells) (x : Cell) (s c : ℕ) (last : Option (ℕ × List ℕ)) (text : List ℕ) → last ≡ Some (c, text) → IsNewest cells (key_of x Write) 0 s last → IsLast cells x s c text
last_record cells x s c last text is found =
    let written : IsNewest cells (key_of x Write) 0 s (Some (c, text)) = subst (λ (f : Option (ℕ × List ℕ)). IsNewest cells (key_of x Write) 0 s f) is found in
    record { low = written.1; there = written.2; last = written.3 }

pub last_written : {Z : Type 0} (cells cells2 : Cells) (x : Cell) (s c : ℕ) (last : Option (ℕ × Vec ℕ Z)) (text : Vec ℕ Z) → cells2 ≡ cells → last ≡ Some (c, text) → IsNewest cells2 (key_of x Write) 0 s (option_map stamped last)
    → IsLast cells x s c text.items
last_written cells cells2 x s c last text same is found =
    last_record cells x s c (option_map stamped last) text.items (ap (option_map stamped) is) (subst (λ (cs : Cells). IsNewest cs (key_of x Write) 0 s (option_map stamped last)) same found)

pub deletion_found : {Z : Type 0} (cells cells2 : Cells) (x : Cell) (s c n : ℕ) (kind : WriteKind) (last : Option (ℕ × Vec ℕ Z)) (text : Vec ℕ Z) → cells2 ≡ cells → last ≡ Some (c, text) → IsNewest cells2 (key_of x Write) 0 s (option_map stamped last)
    → NamesWrite text.items n kind → kind ≡ write.Delete → ReadsDeletion cells x s
deletion_found cells cells2 x s c n kind last text same is found names deletes = record {
  stamp = c;
  text = text.items;
  is_last = last_written cells cells2 x s c last text same is found;
  start = n;
  names = subst (λ (k : WriteKind). NamesWrite text.items n k) deletes names;
}

-- the newest lock up to a stamp is there
pub newest_lock : (cells : Cells) (x : Cell) (s p : ℕ) (lock : Option (ℕ × List ℕ)) (text : List ℕ) → lock ≡ Some (p, text) → IsNewest cells (key_of x Lock) 0 s lock → (p ≤ s) × IsThere cells x Lock p
newest_lock cells x s p lock text is found =
    let there : IsNewest cells (key_of x Lock) 0 s (Some (p, text)) = subst (λ (f : Option (ℕ × List ℕ)). IsNewest cells (key_of x Lock) 0 s f) is found in
    (there.1, (text, there.2))

pub locked : {Z : Type 0} (cells : Cells) (x : Cell) (s p : ℕ) (lock : Option (ℕ × Vec ℕ Z)) (text : Vec ℕ Z) → lock ≡ Some (p, text) → IsNewest cells (key_of x Lock) 0 s (option_map stamped lock) → (p ≤ s) × IsThere cells x Lock p
locked cells x s p lock text is found = newest_lock cells x s p (option_map stamped lock) text.items (ap (option_map stamped) is) found

at_itself : (n : ℕ) → n ≤ n
at_itself n = omega arith

pub no_data : {Z : Type 0} (cells cells3 : Cells) (x : Cell) (s c n : ℕ) (kind : WriteKind) (value : Option (ℕ × Vec ℕ Z)) (text : List ℕ) → cells3 ≡ cells → value ≡ None → NamesWrite text n kind → kind ≡ write.Set
    → IsNewest cells3 (key_of x Data) n n (option_map stamped value) → IsLast cells x s c text → IsDamaged cells x s
no_data cells cells3 x s c n kind value text same is names kept found last =
    let gone = nothing cells (key_of x Data) n n value is (subst (λ (cs : Cells). IsNewest cs (key_of x Data) n n (option_map stamped value)) same found) in
    (c, text, last, inr (n, subst (λ (k : WriteKind). NamesWrite text n k) kept names, gone n (at_itself n) (at_itself n)))

-- the data at the start that the last record names is the value
pub data_found : (cells : Cells) (x : Cell) (s c n : ℕ) (lock last : Option (ℕ × List ℕ)) (kind : WriteKind) (text value : List ℕ) → lock ≡ None → last ≡ Some (c, text) → NamesWrite text n kind → kind ≡ write.Set
    → IsNewest cells (key_of x Lock) 0 s lock → IsNewest cells (key_of x Write) 0 s last → at cells x Data n ≡ Some value → ReadsValue cells x s value
data_found cells x s c n lock last kind text value unlocked is names kept found found2 there = record {
  unlocked = subst (λ (f : Option (ℕ × List ℕ)). IsNewest cells (key_of x Lock) 0 s f) unlocked found;
  stamp = c;
  text = text;
  is_last = last_record cells x s c last text is found2;
  start = n;
  names = subst (λ (k : WriteKind). NamesWrite text n k) kept names;
  data_is = there;
}

-- and without it the cell is damaged
pub data_missing : (cells : Cells) (x : Cell) (s c n : ℕ) (last : Option (ℕ × List ℕ)) (kind : WriteKind) (text : List ℕ) → last ≡ Some (c, text) → NamesWrite text n kind → kind ≡ write.Set
    → IsNewest cells (key_of x Write) 0 s last → at cells x Data n ≡ None → IsDamaged cells x s
data_missing cells x s c n last kind text is names kept found none =
    (c, text, last_record cells x s c last text is found, inr (n, subst (λ (k : WriteKind). NamesWrite text n k) kept names, none))
