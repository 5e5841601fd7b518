use Rattle.std.proofs.Common.{List, refl, sym, ap, inr, length, subst, arith}
use Rattle.std.specs.Prelude.{flat_map}
use Rattle.cell_key.specs.Entries.{Entry, IsRising, lent_entry, spelled}
use Rattle.sorted_file.specs.Block.{entries_of}
use Rattle.sorted_file.specs.Builder.{built}
use Rattle.sorted_file.specs.Check.{IsFollowed}
use Rattle.sorted_file.specs.Grammar.{Fits}
use Rattle.sorted_file.specs.Index.{blocks_of, entries_in}
use Rattle.sorted_file.specs.declared.builder.LastKey.{LastKey}
use Rattle.sorted_file.proofs.BuiltFiles.{keeps_last, next_built, next_list, reached}
use Rattle.sorted_file.proofs.builder.FileBuilder.push.Goals as goal

pub push-requires-clause-list : goal.push-requires-clause-list
push-requires-clause-list g c =
    let mid = c.make_room.new.self in
    next_list (entries_in (blocks_of mid.opening.rows.items)) (entries_of mid.current.block) (built c.args.self.now) (lent_entry c.args.entry) c.in_ok-make_room.ensures.built c.in-Some.ensures.list

pub returns-clause-ready : goal.returns-clause-ready
returns-clause-ready g c =
    let mid = c.make_room.new.self in
    let s = c.in_ok-make_room.ensures.sound in
    let room = c.in_ok-make_room.ensures.room in
    let same = c.in_ok-make_room.ensures.built in
    let e = lent_entry c.args.entry in
    let blocks = blocks_of mid.opening.rows.items in
    let es = entries_of mid.current.block in
    let more = c.in_ok-push.ensures.entries in
    let now = reached mid s in
    let before = reached c.args.self.now c.requires.ready.sound in
    let bytes = ap (λ (l : List Entry). length (flat_map spelled l)) same in
    let allowed = c.allows.ensures.allows c.if-not-allows.false in
    let size = c.in_ok-make_room.ensures.size in
    let longer = c.in_ok-push.ensures.length in
    let last : LastKey = record { text = c.next_text.result; place_len = c.in-Some.key.place_len; qualifier = c.in-Some.key.qualifier; stamp = c.in-Some.key.stamp } in
    record {
      sound = record {
        opening = s.opening;
        format = s.format;
        parsed = c.in_ok-push.ensures.parsed;
        columns = c.in_ok-push.ensures.columns s.columns;
        rising = subst (λ (l : List Entry). IsRising l) (sym (next_built (entries_in blocks) es _ (built c.args.self.now) e same more)) c.in-Some.ensures.list.rising;
        within = omega (arith, now, before, bytes, allowed, size, longer);
      };
      fits = inr (subst Fits (sym more) room.fits);
      followed = subst (IsFollowed blocks) (sym more) room.followed;
      last = keeps_last es _ e mid.current.block _ c.in-Some.key last s.parsed c.in_ok-push.ensures.parsed more c.in-Some.ensures.key c.in-Some.ensures.text c.next_text.ensures.offset c.next_text.ensures.length refl refl refl;
    }
