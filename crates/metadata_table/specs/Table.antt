-- Metadata tables: their invariant, and the effects of their calls.
use Rattle.std.specs.Prelude.{◌≡◌, ◌≢◌, ℕ, ◌<◌, ◌≤◌, ◌==◌, if◌then◌else◌, ◌⊎◌, List, [], ◌∷◌, ◌++◌, length, map, None, Some, AllPairs}
use Rattle.std.specs.List.{AllByRecursion, Contains}
use Rattle.std.specs.declared.cmp.Ordering.TheVariants.{Less}
use Rattle.cell_key.specs.Keys.{byte_cmp}
use Rattle.metadata_table.specs.Places.{PlaceView, EndsBefore, IsLower}

abbrev pub most_tablets : ℕ
most_tablets = 1024

abbrev pub most_servers : ℕ
most_servers = 16

-- the ends strictly ascend, and only the last one is infinite
abbrev pub EndsRise : List PlaceView → Type 0
EndsRise [] = ⊥
EndsRise (p ∷ []) = p.end ≡ None
EndsRise (p ∷ q ∷ ps) = IsLower p.end q.end × EndsRise (q ∷ ps)

-- the tablet's number is from 1 to the count of tablets, and its server exists
pub record IsNumbered (count : ℕ) (p : PlaceView) : Type 0 where
  pub from : 1 ≤ p.tablet
  pub to : p.tablet ≤ count
  pub server : p.server < most_servers

pub record IsTable (ps : List PlaceView) : Type 0 where
  pub rising : EndsRise ps
  pub few : length ps ≤ most_tablets
  pub distinct : AllPairs (λ p q. p.tablet ≢ q.tablet) ps
  pub numbered : AllByRecursion (IsNumbered (length ps)) ps

-- tablet 1 on server 0, with all rows and no files
abbrev pub first_place : PlaceView
first_place = record { tablet = 1; end = None; server = 0; files = [] }

-- the place holds the row: its end is not below the row, and all ends before it are
pub record IsHolder (row : List ℕ) (ps : List PlaceView) (p : PlaceView) : Type 0 where
  pub before : List PlaceView
  pub after : List PlaceView
  pub parts : ps ≡ before ++ p ∷ after
  pub past : AllByRecursion (λ q. EndsBefore q.end row) before
  pub within : ¬ EndsBefore p.end row

abbrev pub HasTablet : ℕ → List PlaceView → Type 0
HasTablet n ps = (p : PlaceView) × Contains ps p × (p.tablet ≡ n)

-- the row is the end of a tablet
abbrev pub IsEnd : List ℕ → List PlaceView → Type 0
IsEnd row ps = (p : PlaceView) × Contains ps p × (p.end ≡ Some row)

-- some tablet has a file of this name
abbrev pub IsListed : ℕ → List PlaceView → Type 0
IsListed name ps = (p : PlaceView) × Contains ps p × Contains p.files name

-- no tablet can be cut at the row: it is already an end, or there are 1,024 tablets
abbrev pub BarsSplit : List ℕ → List PlaceView → Type 0
BarsSplit row ps = IsEnd row ps ⊎ (most_tablets ≤ length ps)

-- the left part of a tablet cut at a row: it ends with the row and takes the number
abbrev pub left_part : List ℕ → ℕ → PlaceView → PlaceView
left_part row n p = record p { end = Some row; tablet = n }

-- The tablet that holds the row is cut there: its left part is inserted before it.
pub data Cuts (row : List ℕ) (n : ℕ) : List PlaceView → List PlaceView → Type 0 where
  cuts_last : {p : PlaceView} → p.end ≡ None → Cuts row n (p ∷ []) (left_part row n p ∷ p ∷ [])
  cuts : {p : PlaceView} {end : List ℕ} {ps : List PlaceView} → p.end ≡ Some end
      → byte_cmp row end ≡ Less
      → Cuts row n (p ∷ ps) (left_part row n p ∷ p ∷ ps)
  cuts_later : {p : PlaceView} {ps ps' : List PlaceView} → EndsBefore p.end row → Cuts row n ps ps'
      → Cuts row n (p ∷ ps) (p ∷ ps')

-- the place, with this server if it belongs to the tablet
abbrev pub on_server : ℕ → ℕ → PlaceView → PlaceView
on_server n to p = if p.tablet == n then record p { server = to } else p

-- the places after the tablet was moved to a server
abbrev pub moved : ℕ → ℕ → List PlaceView → List PlaceView
moved n to ps = map (on_server n to) ps

-- the place, with these files if it belongs to the tablet
abbrev pub naming : ℕ → List ℕ → PlaceView → PlaceView
naming n names p = if p.tablet == n then record p { files = names } else p

-- the places after the tablet's files were set
abbrev pub with_files : ℕ → List ℕ → List PlaceView → List PlaceView
with_files n names ps = map (naming n names) ps
