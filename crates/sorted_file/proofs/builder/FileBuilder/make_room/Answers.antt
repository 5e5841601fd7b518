use Rattle.std.proofs.Common.{◌≡◌, ◌≢◌, ◌⊎◌, inl, inr, ◌∙◌, ◌++◌, ◌∷◌, [], List, sym, subst}
use Rattle.cell_key.specs.Entries.{Entry, lent_entry}
use Rattle.cell_key.proofs.TextPlaces.{clash}
use Rattle.sorted_file.specs.Block.{entries_of}
use Rattle.sorted_file.specs.Check.{IsFollowed}
use Rattle.sorted_file.specs.Grammar.{Fits}
use Rattle.sorted_file.specs.Index.{blocks_of}
use Rattle.sorted_file.proofs.BuiltFiles.{closed_built, followed_by, follows_on, same_sound}
use Rattle.sorted_file.proofs.GrowingBlocks.{fits_alone, fits_on}
use Rattle.sorted_file.proofs.Results.{always_ok, on_ok}
use Rattle.sorted_file.proofs.builder.FileBuilder.make_room.Goals as goal

pub returns-then-has_room-clause-room : goal.returns-then-has_room-clause-room
returns-then-has_room-clause-room g c = record {
  fits = (c.has_room.ensures (entries_of c.args.self.now.current.block) c.requires.ready.sound.parsed).0 c.if-has_room.true;
  followed = follows_on (blocks_of c.args.self.now.opening.rows.items) (entries_of c.args.self.now.current.block) (lent_entry c.args.entry) c.requires.ready.followed;
}

pub close_block-requires-clause-fits : goal.close_block-requires-clause-fits
close_block-requires-clause-fits g c =
    let es = entries_of c.args.self.now.current.block in
    go c.requires.ready.fits (λ none. clash _ ((c.has_room.ensures es c.requires.ready.sound.parsed).1 (fits_alone es (lent_entry c.args.entry) none)) c.if-has_room.false)
  where
    go : {es : List Entry} → (es ≡ []) ⊎ Fits es → es ≢ [] → Fits es
    go (inl none) some = absurd (some none)
    go (inr fits) some = fits

pub returns-clause-built : goal.returns-clause-built
returns-clause-built g c = always_ok c.push_piece.result _ (closed_built (blocks_of c.args.self.now.opening.rows.items) _ (entries_of c.args.self.now.current.block) _ c.in_ok-close_block.ensures.blocks c.in_ok-close_block.ensures.none)

pub returns-clause-room : goal.returns-clause-room
returns-clause-room g c = always_ok c.push_piece.result _ (
    let es = entries_of c.args.self.now.current.block in
    let e = lent_entry c.args.entry in
    let blocks = blocks_of c.args.self.now.opening.rows.items in
    let room = c.has_room.ensures es c.requires.ready.sound.parsed in
    let some : es ≢ [] = λ none. clash _ (room.1 (fits_alone es e none)) c.if-has_room.false in
    record {
      fits = fits_alone _ e c.in_ok-close_block.ensures.none;
      followed = subst (λ (l : List Entry). IsFollowed (blocks_of c.close_block.new.self.opening.rows.items) (l ++ e ∷ [])) (sym c.in_ok-close_block.ensures.none)
          (subst (λ (b : List (List Entry)). IsFollowed b (e ∷ [])) (sym c.in_ok-close_block.ensures.blocks) (followed_by blocks es e (λ fits. clash _ (room.1 fits) c.if-has_room.false) (fits_on es e some)));
    })

pub returns-clause-sound : goal.returns-clause-sound
returns-clause-sound g c = always_ok c.push_piece.result _ (same_sound c.close_block.new.self _ c.in_ok-close_block.ensures.sound)

pub returns-clause-closed : goal.returns-clause-closed
returns-clause-closed g c = on_ok c.push_piece.result _ _ (λ pushed.
    let before = c.requires.closed in
    let now = pushed before.front before.had in
    record { front = now.0; had = now.1.0; rest = now.1.1 ∙ c.in_ok-close_block.ensures.closed before.front before.rest }) c.push_piece.ensures.pushed
