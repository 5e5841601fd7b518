-- The versions of each cell among an audit's commits, by which a search finds its commit.
use Rattle.std.specs.Prelude.{◌≡◌, ◌≢◌, ◌↔◌, ◌⊎◌, ℕ, ◌+◌, ◌<◌, ◌≤◌, cond, List, [], ◌∷◌, ◌++◌, length, slice_get, Option, Some, None}
use Rattle.std.specs.BTreeMap as btree
use Rattle.std.specs.Cmp.Lexicographic.{slice_cmp}
use Rattle.std.specs.Global.{Vec}
use Rattle.std.specs.Ordering.{is_eq, nat_cmp, ordering_then}
use Rattle.std.specs.declared.cmp.Ordering.{Ordering}
use Rattle.si_model.specs.Sets.{◌∈◌}
use Rattle.si_model.specs.declared.replies.Cell.{Cell}
use Rattle.audit.specs.declared.audit.parts.Commit.{Commit}
use Rattle.audit.specs.declared.audit.parts.Version.{Version}
use Rattle.audit.specs.declared.audit.parts.Write.{Write}

-- the order of a row and a family
abbrev pub name_cmp : List ℕ × List ℕ → List ℕ × List ℕ → Ordering
name_cmp a b = ordering_then (slice_cmp nat_cmp a.0 b.0) (slice_cmp nat_cmp a.1 b.1)

-- the versions of each cell, by its row and family
abbrev pub Histories : Type 0
Histories = btree.BTreeMap (List ℕ × List ℕ) (Vec Version)

abbrev pub versions_of : Option (Vec Version) → List Version
versions_of None = []
versions_of (Some versions) = versions.items

-- the versions kept for the cell
abbrev pub versions_at : Histories → Cell → List Version
versions_at histories x = versions_of (btree.get name_cmp histories (x.row, x.family))

-- the write at the version's place
abbrev pub IsWriteAt : List Commit → Version → Write → Type 0
IsWriteAt commits version write = (commit : Commit) × (slice_get commits version.place ≡ Some commit)
    × (slice_get commit.writes.items version.write ≡ Some write)

-- of the writes of a commit at this place, with this stamp, the version's is to the cell
pub record IsMade (writes : List Write) (stamp place : ℕ) (x : Cell) (version : Version) : Type 0 where
  pub stamp_is : version.stamp ≡ stamp
  pub place_is : version.place ≡ place
  pub write : Write
  pub there : slice_get writes version.write ≡ Some write
  pub cell : write.cell ≡ x

-- the version is one of the cell
abbrev pub IsVersion : List Commit → Cell → Version → Type 0
IsVersion commits x version = (commit : Commit) × (slice_get commits version.place ≡ Some commit)
    × IsMade commit.writes.items commit.stamp version.place x version

-- each version has a later stamp than the versions before it
abbrev pub Rises : List Version → Type 0
Rises versions = (j k : ℕ) (u v : Version) → j < k → slice_get versions j ≡ Some u
    → slice_get versions k ≡ Some v → u.stamp < v.stamp

-- these are the versions of the cell, in ascending order of stamps
pub record IsHistory (commits : List Commit) (x : Cell) (versions : List Version) : Type 0 where
  pub rises : Rises versions
  pub same : (v : Version) → (v ∈ versions) ↔ IsVersion commits x v

-- each cell's versions are kept
abbrev pub AreHistories : List Commit → Histories → Type 0
AreHistories commits histories = (x : Cell) → IsHistory commits x (versions_at histories x)

-- the last of the versions has an earlier stamp than this one
abbrev pub IsLater : List Version → Version → Type 0
IsLater versions v = (k : ℕ) (u : Version) → k + 1 ≡ length versions
    → slice_get versions k ≡ Some u → u.stamp < v.stamp

-- the version is added to the cell's, and is the latest of them
pub record IsAdded (old new : Histories) (x : Cell) (v : Version) : Type 0 where
  pub here : versions_at new x ≡ versions_at old x ++ v ∷ []
  pub later : IsLater (versions_at old x) v
  pub others : (y : Cell) → y ≢ x → versions_at new y ≡ versions_at old y

-- the versions that the first writes of a commit make are added
pub record AreAdded (old new : Histories) (writes : List Write) (stamp place count : ℕ) : Type 0 where
  pub rises : (x : Cell) → Rises (versions_at old x) → Rises (versions_at new x)
  pub same : (x : Cell) (v : Version) → (v ∈ versions_at new x)
      ↔ ((v ∈ versions_at old x) ⊎ ((v.write < count) × IsMade writes stamp place x v))

-- of the versions with a stamp up to this one, this is the latest
pub record IsLastUpTo (versions : List Version) (stamp : ℕ) (v : Version) : Type 0 where
  pub there : v ∈ versions
  pub low : v.stamp ≤ stamp
  pub most : (u : Version) → u ∈ versions → u.stamp ≤ stamp → u.stamp ≤ v.stamp

-- the stamp of each commit, by its start
abbrev pub Starts : Type 0
Starts = btree.BTreeMap ℕ ℕ

-- each commit's start is kept with its stamp
abbrev pub AreStarts : List Commit → Starts → Type 0
AreStarts commits starts = (t c : ℕ) → (btree.get nat_cmp starts t ≡ Some c)
    ↔ ((commit : Commit) × (commit ∈ commits) × (commit.start ≡ t) × (commit.stamp ≡ c))

-- a new start is added with its stamp
pub record IsStarted (old new : Starts) (t c : ℕ) : Type 0 where
  pub fresh : btree.get nat_cmp old t ≡ None
  pub at : (q : ℕ) → btree.get nat_cmp new q
      ≡ cond (is_eq (nat_cmp t q)) (Some c) (btree.get nat_cmp old q)
