use Rattle.std.proofs.Common.{◌≡◌, ◌+◌, ◌++◌, ◌∷◌, ◌∙◌, [], get_or, take, ℕ, List, rules, ap, inr, sym, subst, arith}
use Rattle.std.specs.Global.{Vec}
use Rattle.std.specs.List.{AllByRecursion}
use Rattle.std.proofs.lemmas.List.{length-map, length-take-le, map_more, take_all}
use Rattle.commit_log.specs.Edits.{IsMarked}
use Rattle.commit_log.specs.Frames.{IsBody, bytes_of, frame}
use Rattle.commit_log.specs.Numbered.{numbered, store_log, upgraded}
use Rattle.commit_log.specs.Records.{HasRecord, spelled_record}
use Rattle.commit_log.specs.declared.records.RecordKind.TheVariants.{Entries}
use Rattle.commit_log.proofs.Cuts.{one_reading}
use Rattle.commit_log.proofs.Naming.{all_last, at_index, record_at}
use Rattle.commit_log.proofs.Results.{passed}
use Rattle.commit_log.proofs.Storing.{upgraded_log, upgraded_more}
use Rattle.commit_log.proofs.store_log.upgrade_log.Goals as goal

pub loop-edits-preserved : goal.loop-edits-preserved
loop-edits-preserved c =
    let records = c.deref-edits-items.result.now in
    let index = c.loop-edits.edits-index in
    let first : bytes_of (take (index + 1) records) ≡ bytes_of (take index records) ++ c.edits-item.result.items ∷ [] =
    map_more (λ (v : Vec ℕ). v.items) records index c.edits-item.result (search rules)
    ∙ ap (λ (v : Vec ℕ). bytes_of (take index records) ++ v.items ∷ []) (sym c.edits-item.is) in
    let grew : c.extend_from_slice.new.self.items ≡ c.loop-edits.made.items ++ frame (numbered (c.loop-edits.number + 1) (spelled_record Entries 0 c.edits-item.result.items)) = search rules in
    let body : IsBody c.edits-item.result.items = search rules in
    let marked : IsMarked c.args.mark c.edits-item.result.items = search rules in
    record {
      spelled =
          upgraded_more c.args.store c.args.first (c.loop-edits.number + 1) c.loop-edits.made.items c.extend_from_slice.new.self.items c.edits-item.result.items (bytes_of (take index records)) _ c.loop-edits.invariant.spelled
          (omega (arith, c.loop-edits.invariant.counted, length-map (take index records) (λ (v : Vec ℕ). v.items), length-take-le index records (search rules))) grew first;
      counted = search rules;
      each = subst (AllByRecursion IsBody) (sym first) (all_last IsBody (bytes_of (take index records)) c.edits-item.result.items c.loop-edits.invariant.each body);
      marked = subst (AllByRecursion (IsMarked c.args.mark)) (sym first) (all_last (IsMarked c.args.mark) (bytes_of (take index records)) c.edits-item.result.items c.loop-edits.invariant.marked marked);
    }

pub returns-in_err-found-clause-refused : goal.returns-in_err-found-clause-refused
returns-in_err-found-clause-refused c = λ e.
    absurd (c.in_err-found.ensures.taken (passed c.from_residual.result c.in_err-found.field-0.0 _ c.from_residual.ensures.1 e))

pub returns-clause-ok : goal.returns-clause-ok
returns-clause-ok c = λ records tail log.
    let all : take c.loop-edits.edits-index c.deref-edits-items.result.now ≡ c.in_ok-found.found.records.items =
    take_all c.loop-edits.edits-index c.deref-edits-items.result.now (search rules) ∙ c.deref-edits-items.ensures.value in
    upgraded_log c.args.bytes.now c.loop-edits.made.items tail _ c.args.store c.args.first (bytes_of c.in_ok-found.found.records.items) records (search rules) c.requires c.in_ok-found.ensures.ok
    (c.loop-edits.invariant.spelled ∙ ap (λ (vs : List (Vec ℕ)). store_log c.args.store c.args.first (upgraded (bytes_of vs))) all)
    (subst (λ (vs : List (Vec ℕ)). AllByRecursion IsBody (bytes_of vs)) all c.loop-edits.invariant.each) log

pub returns-in_err-upgraded_frame-clause-refused : goal.returns-in_err-upgraded_frame-clause-refused
returns-in_err-upgraded_frame-clause-refused c = λ e records tail log each.
    let items = c.deref-edits-items.result.now in
    let same : bytes_of items ≡ records =
    ap (λ (vs : List (Vec ℕ)). bytes_of vs) c.deref-edits-items.ensures.value ∙ (one_reading c.args.bytes.now (bytes_of c.in_ok-found.found.records.items) records _ tail c.in_ok-found.ensures.ok log).0 in
    let at = record_at IsBody items c.loop-edits.edits-index c.edits-item.result (search rules) (subst (AllByRecursion IsBody) (sym same) each) in
    let is : (get_or items c.loop-edits.edits-index c.edits-item.result).items ≡ c.deref.result.now = ap (λ (v : Vec ℕ). v.items) (sym c.edits-item.is) ∙ search rules in
    c.in_err-upgraded_frame.ensures.refused
    (passed c.from_residual-in_err-upgraded_frame.result c.in_err-upgraded_frame.field-0.0 _ c.from_residual-in_err-upgraded_frame.ensures.1 e)
    (subst IsBody is at)

pub returns-in_err-upgraded_frame-clause-damaged : goal.returns-in_err-upgraded_frame-clause-damaged
returns-in_err-upgraded_frame-clause-damaged c = λ e. inr (λ records tail log.
    let items = c.deref-edits-items.result.now in
    let same : bytes_of items ≡ records =
    ap (λ (vs : List (Vec ℕ)). bytes_of vs) c.deref-edits-items.ensures.value ∙ (one_reading c.args.bytes.now (bytes_of c.in_ok-found.found.records.items) records _ tail c.in_ok-found.ensures.ok log).0 in
    let is : (get_or items c.loop-edits.edits-index c.edits-item.result).items ≡ c.deref.result.now = ap (λ (v : Vec ℕ). v.items) (sym c.edits-item.is) ∙ search rules in (
      c.deref.result.now,
      subst (λ (rs : List (List ℕ)). HasRecord rs c.deref.result.now) same (at_index items c.loop-edits.edits-index c.edits-item.result c.deref.result.now (search rules) is),
      c.in_err-upgraded_frame.ensures.damaged
          (passed c.from_residual-in_err-upgraded_frame.result c.in_err-upgraded_frame.field-0.0 _ c.from_residual-in_err-upgraded_frame.ensures.1 e),
    ))

pub returns-clause-marked : goal.returns-clause-marked
returns-clause-marked c = λ records tail log.
    let all : take c.loop-edits.edits-index c.deref-edits-items.result.now ≡ c.in_ok-found.found.records.items =
    take_all c.loop-edits.edits-index c.deref-edits-items.result.now (search rules) ∙ c.deref-edits-items.ensures.value in
    subst (AllByRecursion (IsMarked c.args.mark))
    (ap (λ (vs : List (Vec ℕ)). bytes_of vs) all ∙ (one_reading c.args.bytes.now (bytes_of c.in_ok-found.found.records.items) records _ tail c.in_ok-found.ensures.ok log).0)
    c.loop-edits.invariant.marked
