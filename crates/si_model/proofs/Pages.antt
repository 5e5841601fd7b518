-- The pages of a range cover it, and each but the last goes on.
use Rattle.std.proofs.Common.{◌≡◌, ◌≢◌, ℕ, List, [], ◌∷◌, ◌⊎◌, inl, inr, refl, sym, subst}
use Rattle.std.specs.declared.cmp.Ordering.{Ordering}
use Rattle.std.specs.declared.cmp.Ordering.TheVariants.{Less, Equal, Greater}
use Rattle.cell_key.specs.Places.{place_cmp}
use Rattle.si_model.specs.declared.replies.Cell.{Cell}
use Rattle.si_model.specs.Machine.{State, Range, Reach, ToEnd, UpTo, Scan, tells, scans, accepts, IsReached}
use Rattle.si_model.specs.Scans.{place_at, Covers, IsSo}
use Rattle.si_model.specs.ScanLaws.{behind, IsLastOr, ArePages, HasPage, PagesCover, PagesGoOn}
use Rattle.si_model.specs.Sets.{◌∈◌, here, there}
use Rattle.si_model.proofs.Steps.{reached_sound}

is_less : (r : Ordering) → (r ≡ Less) ⊎ (r ≢ Less)
is_less Less = inl refl
is_less Equal = inr (λ e. cc)
is_less Greater = inr (λ e. cc)

module _ (st : State) (reached : IsReached st) (start : ℕ) (x : Cell) where
  abbrev Has : List Scan → Type 0
  Has pages = HasPage st start pages x

  later : (page : Scan) (rest : List Scan) → Has rest → Has (page ∷ rest)
  later page rest has = record { page = has.page; among = there has.among; covers = has.covers; so = has.so }

  module _ (page : Scan) (rest : List Scan) (m : page ∈ st.scans) (same : page.start ≡ start) where
    this : Covers page.range page.reach x → Has (page ∷ rest)
    this covers = record {
      page = page;
      among = here;
      covers = covers;
      so = λ said says. subst (λ (s : ℕ). IsSo st.commits s x said) same ((reached_sound reached).scans_settled page m x said (record { covers = covers; says = says }));
    }

    -- it goes over x, or x is behind it
    by : (reach : Reach) → page.reach ≡ reach → Covers page.range ToEnd x
        → ((last : Cell) → reach ≡ UpTo last → Covers (behind page.range last) ToEnd x → Has rest) → Has (page ∷ rest)
    by ToEnd e covers next = this (subst (λ (to : Reach). Covers page.range to x) (sym e) covers)
    by (UpTo last) e covers next = elim (is_less (place_cmp (place_at last) (place_at x))) [
      | inl after ↦ later page rest (next last refl (record { between = record { after = after; up_to = covers.between.up_to }; family = covers.family; reached = tt }))
      | inr passed ↦ this (subst (λ (to : Reach). Covers page.range to x) (sym e) (record { between = covers.between; family = covers.family; reached = passed }))
    ]

  cover : (range : Range) (pages : List Scan) → ArePages st start range pages → Covers range ToEnd x → Has pages
  cover range [] are covers = elim are [ ]
  cover range (page ∷ rest) are covers =
      by page rest are.0 are.1 page.reach refl (subst (λ (r : Range). Covers r ToEnd x) (sym are.2) covers)
      (λ last e further. cover (behind range last) rest
      (subst (λ (to : Reach). IsLastOr (λ last. ArePages st start (behind range last) rest) (rest ≡ []) to) e are.3)
      (subst (λ (r : Range). Covers (behind r last) ToEnd x) are.2 further))

pub pages_cover : (st : State) → IsReached st → PagesCover st
pages_cover st reached start range pages are x covers = cover st reached start x range pages are covers

pub pages_go_on : (st : State) → PagesGoOn st
pages_go_on st s cells range keys_only items last next (accepts ok (scans h is)) = is.stops last refl
pages_go_on st s cells range keys_only items last next (accepts ok (tells told)) = elim told [ ]
