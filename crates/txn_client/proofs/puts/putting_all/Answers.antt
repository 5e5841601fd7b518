use Rattle.std.proofs.Common.{[], List, map, subst, sym, ap, ◌∙◌}
use Rattle.std.proofs.lemmas.List.{append-nil, nil_from_length}
use Rattle.std.specs.Vec.Iter.{into_iter_items}
use Rattle.cell_key.specs.Cells.{after_edits}
use Rattle.rows.specs.RowEdits.{all_edits}
use Rattle.si_model.specs.Machine.{Writes}
use Rattle.si_model.specs.PutCells.{all_put_cells}
use Rattle.txn_client.specs.Puts.{ArePuttings}
use Rattle.txn_client.specs.Writes.{write_of}
use Rattle.txn_client.specs.declared.writes.Write.{Write}
use Rattle.txn_client.proofs.PutTogether.{made_more, puttings_more, under_more}
use Rattle.txn_client.proofs.puts.putting_all.Goals as goal

pub loop-write-preserved : goal.loop-write-preserved
loop-write-preserved c =
    let before = c.loop-write.invariant in
    let now = c.in_ok-change.ensures in
    let items = c.in_ok-push.ensures.items in
    let rest = map write_of (into_iter_items c.next.new.self) in
    let all = map write_of c.args.writes.items in
    let first = ap (λ (ws : List Write). map write_of ws) c.in-Some.ensures.steps.0 in
    record {
      made = made_more c.args.start c.args.commit c.in-Some.write rest all _ _ c.in_ok-change.change now.putting items (λ cells. ap (λ (ws : Writes). all_put_cells (after_edits cells (all_edits c.loop-write.changes.items)) ws c.args.start c.args.commit) (sym first) ∙ before.made cells);
      under = under_more _ _ c.in_ok-change.change items before.under now.under;
      puttings = puttings_more c.args.start c.args.commit c.in-Some.write rest all _ _ c.in_ok-change.change now.row now.putting items (λ more h. before.puttings more (subst (λ (ws : Writes). ArePuttings c.args.start c.args.commit ws more) (sym first) h));
    }

pub returns-clause-puttings : goal.returns-clause-puttings
returns-clause-puttings c =
    let all = map write_of c.args.writes.items in
    let none = ap (λ (ws : List Write). map write_of ws) (nil_from_length (into_iter_items c.loop-write.write-iterator) (sym c.loop-write.write-iterator.rest.ok.0 ∙ c.in-None.ensures.steps.0)) in
    subst (ArePuttings c.args.start c.args.commit all) (append-nil c.loop-write.changes.items)
    (c.loop-write.invariant.puttings [] (subst (λ (ws : Writes). ArePuttings c.args.start c.args.commit ws []) (sym none) tt))
