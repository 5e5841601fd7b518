-- Open files, and files that are there.
use Rattle.std.proofs.Common.{◌≡◌, ℕ, Option, refl, sym, subst, ◌∙◌}
use Rattle.std.specs.Prelude.{Some}
use Rattle.std.specs.FinMap as map
use Rattle.sorted_file.specs.Grammar.{IsFile}
use Rattle.sorted_file.specs.File.{StaysOpen, OneListing, OpenIsThere, WrittenIsThere, WrittenIsListed}
use Rattle.sorted_file.proofs.EntryParts.{one_list}

pub stays_open : StaysOpen
stays_open m n file o e = (record { list = o.list; bounds = o.bounds; bounded = o.bounded; numbered = o.numbered; keyed = o.keyed; locks_kept = o.locks_kept; lasts = o.lasts; counted = o.counted; measured = o.measured; format = o.format; image = o.image; there = e ∙ o.there; form = o.form; rows = o.rows; blocks = o.blocks; cached = o.cached }, refl)

pub open_is_there : OpenIsThere
open_is_there m file o = record { format = o.format; entries = _; image = o.image; list = o.list; there = o.there; form = o.form }

pub written_is_there : WrittenIsThere
written_is_there m name format entries image list form there = record { format = format; entries = entries; image = image; list = list; there = there; form = form }

same_bytes : {A : Type 0} (o : Option A) (x y : A) → o ≡ Some x → o ≡ Some y → x ≡ y
same_bytes o x y p q = let e : Some x ≡ Some y = sym p ∙ q in cc

pub written_is_listed : WrittenIsListed
written_is_listed m file format entries image o form there =
    (one_list o.format format _ entries image (subst (IsFile o.format _) (same_bytes _ o.image image o.there there) o.form) form).1

pub one_listing : OneListing
one_listing m f g o p e =
    written_is_listed m f p.format _ p.image o p.form (subst (λ (name : ℕ). map.get m name ≡ Some p.image) (sym e) p.there)
