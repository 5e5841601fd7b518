-- The edits that records hold, and their effect on cells.
use Rattle.std.proofs.Common.{◌≡◌, ◌≢◌, ℕ, suc, ◌+◌, ◌<◌, ◌^◌, ◌⊎◌, inl, inr, List, [], ◌∷◌, ◌++◌, get_or, length, take, drop, refl, sym, ap, subst, ◌∙◌, arith, length-append, append_assoc, append-nil, drop_at, take_at}
use Rattle.std.specs.Prelude.{map}
use Rattle.std.specs.Int.{from_be_bytes, to_be_bytes, w32}
use Rattle.std.proofs.lemmas.Nat.{be_bytes_4}
use Rattle.std.specs.FinMap.{insert}
use Rattle.std.specs.List.{AllByRecursion, flat_map}
use Rattle.std.proofs.lemmas.List.{get_or-drop, take-append-drop}
use Rattle.std.proofs.lemmas.List.Concat.{flat_map-append}
use Rattle.cell_key.specs.Cells.{Cells, after_edit, after_edits, edited_key}
use Rattle.cell_key.specs.Entries.{Entry, spelled}
use Rattle.cell_key.specs.Keys.{OneKeyAText, text}
use Rattle.cell_key.specs.declared.keys.CellKey.{CellKey}
use Rattle.cell_key.specs.declared.edits.Edit.{Edit}
use Rattle.cell_key.specs.declared.edits.Edit.TheVariants.{Put, Erase}
use Rattle.commit_log.specs.Edits.{HoldEdits, IsStoredEdit, LogsEdits, Part, edit_entry, edit_value, form_kind, made_in, makes, names, names_any, spelled_as, spelled_edit, spelled_edits, spelled_entries, spelled_entry, spelled_fields, spelled_part}
use Rattle.commit_log.specs.Records.{any_root, root_record, spelled_number, spelled_record}
use Rattle.commit_log.specs.declared.edits.EditForm.{EditForm}
use Rattle.commit_log.specs.declared.edits.EditForm.TheVariants.{Fields, Entries}
use Rattle.commit_log.specs.declared.records.RecordKind.{RecordKind}
use Rattle.commit_log.specs.declared.records.RecordKind.TheVariants as kind
use Rattle.commit_log.proofs.Naming.{same_parts, same_record}
use Rattle.commit_log.proofs.Numbering.{length-number, nothing_at}
use Rattle.commit_log.proofs.Entries.{entry_split, short_edit, spelled_long}
use Rattle.commit_log.proofs.FieldParts.{edit_long, edit_split, stored_key}

-- bytes that begin with mid begin with each prefix of mid
pub front_stays : (old mid new more : List ℕ) → mid ≡ old ++ more → take (length mid) new ≡ mid → take (length old) new ≡ old
front_stays old mid new more is kept =
    ap (take (length old)) (sym (take-append-drop (length mid) new) ∙ ap (λ (l : List ℕ). l ++ drop (length mid) new) (kept ∙ is) ∙ append_assoc old more (drop (length mid) new))
    ∙ take_at old (more ++ drop (length mid) new) (length old) refl

pub front_of_both : (old mid then new a b : List ℕ) → mid ≡ old ++ a → then ≡ mid ++ b → take (length then) new ≡ then → take (length old) new ≡ old
front_of_both old mid then new a b first second = front_stays old then new (a ++ b) (second ∙ ap (λ (l : List ℕ). l ++ b) first ∙ append_assoc old a b)

-- ---- edits in one form

no_edits : (form : EditForm) (edit : Edit) (x : List ℕ) → [] ≡ spelled_as form edit ++ x → ⊥
no_edits Fields edit x e = omega (arith, ap length e, length-append (spelled_edit edit) x, edit_long edit)
no_edits Entries edit x e = omega (arith, ap length e, length-append (spelled_entry edit) x, spelled_long (edit_entry edit))

-- two edits at the front have the same entry
same_first : (form : EditForm) (a b : Edit) (x y : List ℕ) → IsStoredEdit a → IsStoredEdit b → spelled_as form a ++ x ≡ spelled_as form b ++ y → (edit_entry a ≡ edit_entry b) × (x ≡ y)
same_first Fields a b x y p q same =
    let split = edit_split a b x y p q same in
    (λ i. (text (split.0 i), split.1.0 i), split.1.1)
same_first Entries a b x y p q same = entry_split (edit_entry a) (edit_entry b) x y (short_edit a p) (short_edit b q) same

-- bytes that continue with no edit encode no list of edits
pub stuck : (form : EditForm) (done more : List Edit) (bytes rest : List ℕ) → AllByRecursion IsStoredEdit done → AllByRecursion IsStoredEdit more → bytes ≡ flat_map (spelled_as form) done ++ rest → rest ≢ []
    → ((edit : Edit) (x : List ℕ) → IsStoredEdit edit → rest ≢ spelled_as form edit ++ x) → bytes ≢ flat_map (spelled_as form) more
stuck form [] [] bytes rest p q s some none t = some (sym s ∙ t)
stuck form [] (m ∷ more) bytes rest p q s some none t = none m (flat_map (spelled_as form) more) q.0 (sym s ∙ t)
stuck form (d ∷ done) [] bytes rest p q s some none t = no_edits form d (flat_map (spelled_as form) done ++ rest) (sym t ∙ s ∙ append_assoc (spelled_as form d) (flat_map (spelled_as form) done) rest)
stuck form (d ∷ done) (m ∷ more) bytes rest p q s some none t =
    let split = same_first form d m (flat_map (spelled_as form) done ++ rest) (flat_map (spelled_as form) more) p.0 q.0
    (sym (append_assoc (spelled_as form d) (flat_map (spelled_as form) done) rest) ∙ sym s ∙ t) in
    stuck form done more (flat_map (spelled_as form) done ++ rest) rest p.1 q.1 refl some none split.1

-- ---- edits with the same entries

abbrev Alike : List Edit → List Edit → Type 0
Alike [] [] = Unit {0}
Alike [] (b ∷ bs) = ⊥
Alike (a ∷ as') [] = ⊥
Alike (a ∷ as') (b ∷ bs) = (edit_entry a ≡ edit_entry b) × Alike as' bs

alike : (form : EditForm) (a b : List Edit) → AllByRecursion IsStoredEdit a → AllByRecursion IsStoredEdit b → flat_map (spelled_as form) a ≡ flat_map (spelled_as form) b → Alike a b
alike form [] [] p q s = tt
alike form [] (b ∷ bs) p q s = no_edits form b (flat_map (spelled_as form) bs) s
alike form (a ∷ as') [] p q s = no_edits form a (flat_map (spelled_as form) as') (sym s)
alike form (a ∷ as') (b ∷ bs) p q s =
    let split = same_first form a b (flat_map (spelled_as form) as') (flat_map (spelled_as form) bs) p.0 q.0 s in
    (split.0, alike form as' bs p.1 q.1 split.1)

alike_both : (a b c d : List Edit) → Alike a b → Alike c d → Alike (a ++ c) (b ++ d)
alike_both [] [] c d first then = then
alike_both [] (b ∷ bs) c d first then = absurd first
alike_both (a ∷ as') [] c d first then = absurd first
alike_both (a ∷ as') (b ∷ bs) c d first then = (first.0, alike_both as' bs c d first.1 then)

many_alike : (a b : List Edit) → Alike a b → length a ≡ length b
many_alike [] [] s = refl
many_alike [] (b ∷ bs) s = absurd s
many_alike (a ∷ as') [] s = absurd s
many_alike (a ∷ as') (b ∷ bs) s = ap suc (many_alike as' bs s.1)

entries_alike : (a b : List Edit) → Alike a b → spelled_entries a ≡ spelled_entries b
entries_alike [] [] s = refl
entries_alike [] (b ∷ bs) s = absurd s
entries_alike (a ∷ as') [] s = absurd s
entries_alike (a ∷ as') (b ∷ bs) s =
    ap (λ (e : Entry). spelled e ++ spelled_entries as') s.0 ∙ ap (λ (l : List ℕ). spelled_entry b ++ l) (entries_alike as' bs s.1)

pub as_many : (a b : List Edit) → AllByRecursion IsStoredEdit a → AllByRecursion IsStoredEdit b → spelled_edits a ≡ spelled_edits b → length a ≡ length b
as_many a b p q s = many_alike a b (alike Fields a b p q s)

-- ---- records

-- a record of records that hold edits encodes edits within the limits
all_front : (a b : List Edit) → AllByRecursion IsStoredEdit (a ++ b) → AllByRecursion IsStoredEdit a × AllByRecursion IsStoredEdit b
all_front [] b h = (tt, h)
all_front (e ∷ a) b h = let more = all_front a b h.1 in ((h.0, more.0), more.1)

pub with_part : (records : List (List ℕ)) (edits : List Edit) (part : Part) → HoldEdits records edits → HoldEdits (records ++ spelled_part part ∷ []) (edits ++ made_in part)
with_part records edits part h = record {
  parts = h.parts ++ part ∷ [];
  each = ap (λ (rs : List (List ℕ)). rs ++ spelled_part part ∷ []) h.each ∙ sym (mapped h.parts);
  joined = ap (λ (es : List Edit). es ++ made_in part) h.joined ∙ ap (λ (es : List Edit). flat_map made_in h.parts ++ es) (sym (append-nil (made_in part))) ∙ sym (flat_map-append made_in h.parts (part ∷ []));
}
  where
    mapped : (parts : List Part) → map spelled_part (parts ++ part ∷ []) ≡ map spelled_part parts ++ spelled_part part ∷ []
    mapped [] = refl
    mapped (p ∷ parts) = ap (λ (rs : List (List ℕ)). spelled_part p ∷ rs) (mapped parts)

with_root : (records : List (List ℕ)) (edits : List Edit) (top sum : ℕ) → HoldEdits records edits → HoldEdits (records ++ root_record top sum ∷ []) edits
with_root records edits top sum h =
    subst (HoldEdits (records ++ root_record top sum ∷ [])) (append-nil edits) (with_part records edits (names top sum) h)

pub holds_more : (records all : List (List ℕ)) (bytes : List ℕ) (old new : List Edit) (part : Part) → all ≡ records ++ bytes ∷ [] → bytes ≡ spelled_part part → new ≡ old ++ made_in part
    → HoldEdits records old → HoldEdits all new
holds_more records all bytes old new part is spelled' joined' h =
    subst (λ (es : List Edit). HoldEdits all es) (sym joined')
    (subst (λ (rs : List (List ℕ)). HoldEdits rs (old ++ made_in part)) (ap (λ (r : List ℕ). records ++ r ∷ []) (sym spelled') ∙ sym is) (with_part records old part h))

pub all_append : (a b : List Edit) → AllByRecursion IsStoredEdit a → AllByRecursion IsStoredEdit b → AllByRecursion IsStoredEdit (a ++ b)
all_append [] b p q = q
all_append (e ∷ a) b p q = (p.0, all_append a b p.1 q)

-- bytes are a record, of edits within the limits or of a root
abbrev pub IsSpelling : List ℕ → Type 0
IsSpelling bytes = (part : Part) × AllByRecursion IsStoredEdit (made_in part) × (bytes ≡ spelled_part part)

each_spelled : (parts : List Part) → AllByRecursion IsStoredEdit (flat_map made_in parts) → AllByRecursion IsSpelling (map spelled_part parts)
each_spelled [] all = tt
each_spelled (part ∷ parts) all =
    let both = all_front (made_in part) (flat_map made_in parts) all in
    ((part, both.0, refl), each_spelled parts both.1)

pub all_spelled : (records : List (List ℕ)) (edits : List Edit) → HoldEdits records edits → AllByRecursion IsStoredEdit edits → AllByRecursion IsSpelling records
all_spelled records edits h all =
    subst (AllByRecursion IsSpelling) (sym h.each) (each_spelled h.parts (subst (AllByRecursion IsStoredEdit) h.joined all))

-- ---- records of no edits

-- bytes that are not a record
pub no_part : (bytes : List ℕ) → ((kind : RecordKind) (stamp : ℕ) (body : List ℕ) → bytes ≢ spelled_record kind stamp body) → (part : Part) → bytes ≢ spelled_part part
no_part bytes none (makes form stamp edits) same = none (form_kind form) stamp (flat_map (spelled_as form) edits) same
no_part bytes none (names top sum) same = none kind.Root top (to_be_bytes w32 sum) same
no_part bytes none names_any same = none kind.AnyRoot 0 [] same

-- the kinds of records of edits
not_root : (form : EditForm) → form_kind form ≢ kind.Root
not_root Fields e = cc
not_root Entries e = cc

not_any : (form : EditForm) → form_kind form ≢ kind.AnyRoot
not_any Fields e = cc
not_any Entries e = cc

same_form : (f g : EditForm) → form_kind f ≡ form_kind g → f ≡ g
same_form Fields Fields e = refl
same_form Fields Entries e = absurd cc
same_form Entries Fields e = absurd cc
same_form Entries Entries e = refl

-- a record of edits whose body does not encode edits
pub no_edits_part : (bytes body : List ℕ) (form : EditForm) (stamp : ℕ) → bytes ≡ spelled_record (form_kind form) stamp body → ((more : List Edit) → AllByRecursion IsStoredEdit more → body ≢ flat_map (spelled_as form) more)
    → (part : Part) → AllByRecursion IsStoredEdit (made_in part) → bytes ≢ spelled_part part
no_edits_part bytes body form stamp is none (makes g s edits) all same =
    let parts = same_parts (form_kind form) (form_kind g) stamp s body (flat_map (spelled_as g) edits) (sym is ∙ same) in
    none edits all (parts.1.1 ∙ ap (λ (h : EditForm). flat_map (spelled_as h) edits) (sym (same_form form g parts.0)))
no_edits_part bytes body form stamp is none (names top sum) all same =
    not_root form (same_parts (form_kind form) kind.Root stamp top body (to_be_bytes w32 sum) (sym is ∙ same)).0
no_edits_part bytes body form stamp is none names_any all same =
    not_any form (same_parts (form_kind form) kind.AnyRoot stamp 0 body [] (sym is ∙ same)).0

-- a record of another kind whose body doesn't fit the kind
pub no_root_part : (bytes body : List ℕ) (k : RecordKind) (stamp : ℕ) → stamp < 2 ^ 64 → bytes ≡ spelled_record k stamp body → ((form : EditForm) → k ≢ form_kind form)
    → (((k ≡ kind.Root) × (length body ≡ 4)) ⊎ ((k ≡ kind.AnyRoot) × (stamp ≡ 0) × (length body ≡ 0)) → ⊥) → (part : Part) → bytes ≢ spelled_part part
no_root_part bytes body k stamp small is other none (makes form s edits) same =
    other form (same_parts k (form_kind form) stamp s body (flat_map (spelled_as form) edits) (sym is ∙ same)).0
no_root_part bytes body k stamp small is other none (names top sum) same =
    let parts = same_parts k kind.Root stamp top body (to_be_bytes w32 sum) (sym is ∙ same) in
    none (inl (parts.0, ap length parts.1.1))
no_root_part bytes body k stamp small is other none names_any same =
    let parts = same_record k kind.AnyRoot stamp 0 body [] small (omega arith) (sym is ∙ same) in
    none (inr (parts.0, parts.1.0, ap length parts.1.1))

-- a record of a root
pub root_part : (bytes body : List ℕ) (k : RecordKind) (stamp : ℕ) (old : List Edit) → ((i : ℕ) → get_or bytes i 0 < 256) → bytes ≡ spelled_record k stamp body
    → ((k ≡ kind.Root) × (length body ≡ 4)) ⊎ ((k ≡ kind.AnyRoot) × (stamp ≡ 0) × (length body ≡ 0))
    → (part : Part) × (old ≡ old ++ made_in part) × (bytes ≡ spelled_part part) × AllByRecursion IsStoredEdit (made_in part)
root_part bytes body k stamp old small is of =
    let rest : drop 9 bytes ≡ body = ap (drop 9) is ∙ drop_at (spelled_number stamp) body 8 (length-number stamp) in
    let low : (i : ℕ) → get_or body i 0 < 256 = λ i.
    let at : get_or body i 0 ≡ get_or bytes (9 + i) 0 = ap (λ (l : List ℕ). get_or l i 0) (sym rest) ∙ get_or-drop 9 bytes i 0 in
    omega (arith, at, small (9 + i)) in
    elim of [
      | inl root ↦ (
        names stamp (from_be_bytes w32 body),
        sym (append-nil old),
        is ∙ ap (λ (j : RecordKind). spelled_record j stamp body) root.0 ∙ ap (spelled_record kind.Root stamp) (sym (be_bytes_4 body (from_be_bytes w32 body) root.1 low refl)),
        tt,
      )
      | inr any ↦ (
        names_any,
        sym (append-nil old),
        is ∙ ap (λ (j : RecordKind). spelled_record j stamp body) any.0 ∙ ap (λ (s : ℕ). spelled_record kind.AnyRoot s body) any.1 ∙ ap (spelled_record kind.AnyRoot 0) (nothing_at body any.2),
        tt,
      )
    ]

pub edits_part : (bytes body : List ℕ) (k : RecordKind) (form : EditForm) (stamp : ℕ) (old new : List Edit) → bytes ≡ spelled_record k stamp body → k ≡ form_kind form
    → (more : List Edit) × (new ≡ old ++ more) × (body ≡ flat_map (spelled_as form) more) × AllByRecursion IsStoredEdit more
    → (part : Part) × (new ≡ old ++ made_in part) × (bytes ≡ spelled_part part) × AllByRecursion IsStoredEdit (made_in part)
edits_part bytes body k form stamp old new is of (more, joined, spelled', all) =
    (makes form stamp more, joined, is ∙ ap (λ (j : RecordKind). spelled_record j stamp body) of ∙ ap (spelled_record (form_kind form) stamp) spelled', all)

-- ---- the same records

same_part : (p q : Part) → AllByRecursion IsStoredEdit (made_in p) → AllByRecursion IsStoredEdit (made_in q) → spelled_part p ≡ spelled_part q → Alike (made_in p) (made_in q)
same_part (makes f s a) (makes g t b) p q same =
    let parts = same_parts (form_kind f) (form_kind g) s t (flat_map (spelled_as f) a) (flat_map (spelled_as g) b) same in
    alike f a b p q (parts.1.1 ∙ ap (λ (h : EditForm). flat_map (spelled_as h) b) (sym (same_form f g parts.0)))
same_part (makes f s a) (names top sum) p q same = absurd (not_root f (same_parts (form_kind f) kind.Root s top (flat_map (spelled_as f) a) (to_be_bytes w32 sum) same).0)
same_part (makes f s a) names_any p q same = absurd (not_any f (same_parts (form_kind f) kind.AnyRoot s 0 (flat_map (spelled_as f) a) [] same).0)
same_part (names top sum) (makes g t b) p q same = absurd (not_root g (sym (same_parts kind.Root (form_kind g) top t (to_be_bytes w32 sum) (flat_map (spelled_as g) b) same).0))
same_part (names top sum) (names other number) p q same = tt
same_part (names top sum) names_any p q same = tt
same_part names_any (makes g t b) p q same = absurd (not_any g (sym (same_parts kind.AnyRoot (form_kind g) 0 t [] (flat_map (spelled_as g) b) same).0))
same_part names_any (names top sum) p q same = tt
same_part names_any names_any p q same = tt

parts_alike : (ps qs : List Part) → AllByRecursion IsStoredEdit (flat_map made_in ps) → AllByRecursion IsStoredEdit (flat_map made_in qs) → map spelled_part ps ≡ map spelled_part qs → Alike (flat_map made_in ps) (flat_map made_in qs)
parts_alike [] [] p q same = tt
parts_alike [] (b ∷ qs) p q same = absurd cc
parts_alike (a ∷ ps) [] p q same = absurd cc
parts_alike (a ∷ ps) (b ∷ qs) p q same =
    let one : spelled_part a ≡ spelled_part b = cc in
    let rest : map spelled_part ps ≡ map spelled_part qs = cc in
    let here = all_front (made_in a) (flat_map made_in ps) p in
    let there = all_front (made_in b) (flat_map made_in qs) q in
    alike_both (made_in a) (made_in b) (flat_map made_in ps) (flat_map made_in qs) (same_part a b here.0 there.0 one) (parts_alike ps qs here.1 there.1 rest)

held_alike : (records : List (List ℕ)) (a b : List Edit) → HoldEdits records a → HoldEdits records b → AllByRecursion IsStoredEdit a → AllByRecursion IsStoredEdit b → Alike a b
held_alike records a b h k p q =
    let all = parts_alike h.parts k.parts (subst (AllByRecursion IsStoredEdit) h.joined p) (subst (AllByRecursion IsStoredEdit) k.joined q) (sym h.each ∙ k.each) in
    subst (λ (es : List Edit). Alike es b) (sym h.joined) (subst (λ (es : List Edit). Alike (flat_map made_in h.parts) es) (sym k.joined) all)

-- ---- their fields, and their effect on cells

module _ (one_key : OneKeyAText) where
  same_key : (a b : Edit) → IsStoredEdit a → IsStoredEdit b → edit_entry a ≡ edit_entry b → edited_key a ≡ edited_key b
  same_key a b p q e = one_key (edited_key a) (edited_key b) (stored_key a p) (stored_key b q) (ap (λ (x : Entry). x.0) e)

  fields_alike : (a b : List Edit) → AllByRecursion IsStoredEdit a → AllByRecursion IsStoredEdit b → Alike a b → spelled_edits a ≡ spelled_edits b
  fields_alike [] [] p q s = refl
  fields_alike [] (b ∷ bs) p q s = absurd s
  fields_alike (a ∷ as') [] p q s = absurd s
  fields_alike (a ∷ as') (b ∷ bs) p q s =
      let keys = same_key a b p.0 q.0 s.0 in
      let values : edit_value a ≡ edit_value b = ap (λ (x : Entry). x.1) s.0 in
      let one : spelled_edit a ≡ spelled_edit b = λ i. spelled_fields (keys i) (values i) in
      ap (λ (l : List ℕ). l ++ spelled_edits as') one ∙ ap (λ (l : List ℕ). spelled_edit b ++ l) (fields_alike as' bs p.1 q.1 s.1)

  same_edit : (cells : Cells) (a b : Edit) → IsStoredEdit a → IsStoredEdit b → edit_entry a ≡ edit_entry b → after_edit cells a ≡ after_edit cells b
  same_edit cells (Put k v) (Put l w) p q e =
      let keys : k ≡ l = same_key (Put k v) (Put l w) p q e in
      let values : v.items ≡ w.items = cc (ap (λ (x : Entry). x.1) e) in
      λ i. after_put cells (keys i) (values i)
    where
      after_put : Cells → CellKey → List ℕ → Cells
      after_put cells key value = insert cells key value
  same_edit cells (Put k v) (Erase l) p q e = absurd (cc (ap (λ (x : Entry). x.1) e))
  same_edit cells (Erase k) (Put l w) p q e = absurd (cc (ap (λ (x : Entry). x.1) e))
  same_edit cells (Erase k) (Erase l) p q e =
      let keys : k ≡ l = same_key (Erase k) (Erase l) p q e in
      ap (λ (key : CellKey). after_edit cells (Erase key)) keys

  cells_alike : (cells : Cells) (a b : List Edit) → AllByRecursion IsStoredEdit a → AllByRecursion IsStoredEdit b → Alike a b → after_edits cells a ≡ after_edits cells b
  cells_alike cells [] [] p q s = refl
  cells_alike cells [] (b ∷ bs) p q s = absurd s
  cells_alike cells (a ∷ as') [] p q s = absurd s
  cells_alike cells (a ∷ as') (b ∷ bs) p q s =
      cells_alike (after_edit cells a) as' bs p.1 q.1 s.1 ∙ ap (λ (cells : Cells). after_edits cells bs) (same_edit cells a b p.0 q.0 s.0)

  pub logs_edits : LogsEdits
  logs_edits = record {
    after = flat_map-append spelled_edit;
    entries_after = flat_map-append spelled_entry;
    none = record { parts = []; each = refl; joined = refl };
    more = λ records edits then stamp h. with_part records edits (makes Fields stamp then) h;
    named = with_root;
    any = λ records edits h. subst (HoldEdits (records ++ any_root ∷ [])) (append-nil edits) (with_part records edits names_any h);
    whole = λ records a b h k p q. fields_alike a b p q (held_alike records a b h k p q);
    entries = λ a b p q same. entries_alike a b (alike Fields a b p q same);
    one = λ a b p q same cells. cells_alike cells a b p q (alike Fields a b p q same);
  }
