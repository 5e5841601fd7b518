-- Views of tablets' places, and rows compared with ends.
use Rattle.std.specs.Prelude.{◌≡◌, ℕ, List, map, Option, None, Some, ⊤}
use Rattle.std.specs.declared.cmp.Ordering.TheVariants.{Less}
use Rattle.cell_key.specs.Keys.{byte_cmp}
use Rattle.metadata_table.specs.declared.places.Place.{Place}

-- a tablet's place: its number, its end (`None` is the infinite one), its server and its files' names
pub record PlaceView : Type 0 where
  pub tablet : ℕ
  pub end : Option (List ℕ)
  pub server : ℕ
  pub files : List ℕ

abbrev pub view_of : Place → PlaceView
view_of place =
    record {
      tablet = place.tablet;
      end = place.end;
      server = place.server;
      files = place.files.items;
    }

abbrev pub views : List Place → List PlaceView
views places = map view_of places

-- the end is below the row; the infinite one is below no row
abbrev pub EndsBefore : Option (List ℕ) → List ℕ → Type 0
EndsBefore None row = ⊥
EndsBefore (Some end) row = byte_cmp end row ≡ Less

-- the end is below another one; the infinite one is above all others
abbrev pub IsLower : Option (List ℕ) → Option (List ℕ) → Type 0
IsLower None other = ⊥
IsLower (Some end) None = ⊤
IsLower (Some end) (Some other) = byte_cmp end other ≡ Less

-- the row comes after another one, or after the start
abbrev pub IsRowAfter : Option (List ℕ) → List ℕ → Type 0
IsRowAfter None row = ⊤
IsRowAfter (Some before) row = byte_cmp before row ≡ Less
