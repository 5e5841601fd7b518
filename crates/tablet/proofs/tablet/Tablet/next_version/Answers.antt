use Rattle.std.proofs.Common.{true, false, ◌≡◌, ◌∷◌, map, refl, sym, ap, ◌∙◌}
use Rattle.cell_key.specs.Entries.{entry_of_key, first_naming, lent_entry, value_of}
use Rattle.cell_key.specs.Keys.{text}
use Rattle.cell_key.specs.declared.keys.CellKey.{CellKey}
use Rattle.cell_key.specs.declared.keys.Qualifier.{Qualifier}
use Rattle.cell_key.specs.declared.keys.Qualifier.TheVariants.{Data, Lock, Write}
use Rattle.sorted_file.specs.File.{listed}
use Rattle.sorted_file.specs.Newest.{value_bytes}
use Rattle.tablet.proofs.InFiles.{hidden_next, lock_next, none_named, none_next, shown_next, some_named}
use Rattle.tablet.proofs.Lookups.{if_one}
use Rattle.tablet.proofs.Passed.{over_any}
use Rattle.tablet.proofs.SameFiles.{same_tablet}
use Rattle.tablet.proofs.tablet.Tablet.next_version.Goals as goal

pub returns-in_default-clause-found : goal.returns-in_default-clause-found
returns-in_default-clause-found g c =
    let lock : c.args.key.now.qualifier ≡ Lock = sym (ap (λ (k : CellKey). k.qualifier) c.key.ensures.key) ∙ is_lock c.key.result.now.qualifier refl in
    over_any (g.F.Files.contents c.args.files.now) _ (λ m held. record { later = (rw c.in_default.is at c.latest_lock.ensures.none) lock m held.files; here = tt })
  where
    is_lock : (q : Qualifier) → c.key.result.now.qualifier ≡ q → q ≡ Lock
    is_lock Data e = let other : true ≡ false = (rw e at c.if-eq.ensures) in cc
    is_lock Lock e = refl
    is_lock Write e = let other : true ≡ false = (rw e at c.if-eq.ensures) in cc

pub returns-then-eq-clause-found : goal.returns-then-eq-clause-found
returns-then-eq-clause-found g c =
    let t = c.args.self.now in
    let key = c.args.key.now in
    let lock : key.qualifier ≡ Lock = sym (ap (λ (k : CellKey). k.qualifier) c.key.ensures.key) ∙ is_lock c.key.result.now.qualifier refl in
    let within = rw c.in-Some.is at c.latest_lock.ensures.within in
    if_one (g.F.Files.contents c.args.files.now) c.in_ok-value.ensures.found (λ m h held.
    lock_next m t held key c.key.ensures.limits c.requires.to c.args.lo c.requires.from c.in-Some.stamp (value_bytes c.in_ok-value.value)
    ((rw c.in-Some.is at c.latest_lock.ensures.none) lock m held.files) within.0 within.1
    (h held.files ∙ ap (λ (k : CellKey). value_of (first_naming (t.memtable ∷ map (listed m) t.files) (text k))) c.set_stamp.ensures))
  where
    is_lock : (q : Qualifier) → c.key.result.now.qualifier ≡ q → q ≡ Lock
    is_lock Data e = let other : true ≡ false = (rw e at c.if-eq.ensures) in cc
    is_lock Lock e = refl
    is_lock Write e = let other : true ≡ false = (rw e at c.if-eq.ensures) in cc

pub returns-in_err-value-clause-stays : goal.returns-in_err-value-clause-stays
returns-in_err-value-clause-stays g c = same_tablet (g.F.Files.contents c.args.files.now) c.args.self.now _ refl refl c.lookup.ensures.stay

pub returns-then-eq-clause-stays : goal.returns-then-eq-clause-stays
returns-then-eq-clause-stays g c = same_tablet (g.F.Files.contents c.args.files.now) c.args.self.now _ refl refl c.lookup.ensures.stay

pub returns-in_err-stamp-clause-stays : goal.returns-in_err-stamp-clause-stays
returns-in_err-stamp-clause-stays g c = same_tablet (g.F.Files.contents c.args.files.now) c.args.self.now _ refl refl c.newest.ensures.stay

pub returns-in_default-2-clause-stays : goal.returns-in_default-2-clause-stays
returns-in_default-2-clause-stays g c = same_tablet (g.F.Files.contents c.args.files.now) c.args.self.now _ refl refl c.newest.ensures.stay

pub returns-then-is_some-clause-stays : goal.returns-then-is_some-clause-stays
returns-then-is_some-clause-stays g c = same_tablet (g.F.Files.contents c.args.files.now) c.args.self.now _ refl refl c.newest.ensures.stay

pub returns-clause-stays : goal.returns-clause-stays
returns-clause-stays g c = same_tablet (g.F.Files.contents c.args.files.now) c.args.self.now _ refl refl c.newest.ensures.stay

pub returns-in_default-2-clause-found : goal.returns-in_default-2-clause-found
returns-in_default-2-clause-found g c =
    if_one (g.F.Files.contents c.args.files.now) (rw c.in_default-2.is at c.in_ok-stamp.ensures.found) (λ m h held.
    none_next m c.args.self.now held c.args.key.now c.key.ensures.limits c.requires.to c.args.lo c.requires.from (h held.files))

pub returns-then-is_some-clause-found : goal.returns-then-is_some-clause-found
returns-then-is_some-clause-found g c =
    let t = c.args.self.now in
    let key = c.args.key.now in
    let same = c.key-2.ensures.key ∙ c.set_stamp-2.ensures in
    let named = some_named c.lookup-2.result (λ lent. (lent_entry lent).1) _ (sym c.is_some.ensures ∙ c.if-is_some.true) (c.lookup-2.ensures.found ∙ ap (λ (k : CellKey). entry_of_key t.memtable (text k)) same) in
    if_one (g.F.Files.contents c.args.files.now) (rw c.in-Some-2.is at c.in_ok-stamp.ensures.found) (λ m h held.
    hidden_next m t held key c.key.ensures.limits c.requires.to c.args.lo c.requires.from _ (h held.files) named.0 named.1)

pub returns-clause-found : goal.returns-clause-found
returns-clause-found g c =
    let t = c.args.self.now in
    let key = c.args.key.now in
    let same = c.key-2.ensures.key ∙ c.set_stamp-2.ensures in
    let unnamed = none_named c.lookup-2.result (λ lent. (lent_entry lent).1) _ (sym c.is_some.ensures ∙ c.if-is_some.false) (c.lookup-2.ensures.found ∙ ap (λ (k : CellKey). entry_of_key t.memtable (text k)) same) in
    if_one (g.F.Files.contents c.args.files.now) (rw c.in-Some-2.is at c.in_ok-stamp.ensures.found) (λ m h held.
    shown_next m t held key c.key.ensures.limits c.requires.to c.args.lo c.requires.from _ (h held.files) unnamed)
