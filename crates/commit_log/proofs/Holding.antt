-- The records of a log after the calls of its file.
use Rattle.std.proofs.Common.{◌≡◌, ℕ, ◌+◌, ◌<◌, ◌≤◌, ◌^◌, ◌⊎◌, inl, inr, List, [], ◌∷◌, ◌++◌, length, take, drop, Option, Some, None, IfSome, refl, sym, ap, ◌∙◌, subst, arith}
use Rattle.std.proofs.lemmas.List.{length-map, take_all}
use Rattle.std.specs.Global.{Vec}
use Rattle.commit_log.specs.Files.{GrowsInPart, MayBeAll, with_all, with_more}
use Rattle.commit_log.specs.Frames.{bytes_of, frame}
use Rattle.commit_log.specs.Held.{HasRecords, IsHeld, IsKept, Keeps, Opens}
use Rattle.commit_log.specs.Numbered.{Hides, IsShort, IsStoreLog, numbered, store_log}
use Rattle.commit_log.proofs.Numbering.{length-last}
use Rattle.commit_log.proofs.Storing.{appended, appended_part, cons_some, front, store_reading, whole, SameLog}

-- the bytes that were read are the file's, if those are known
read_is : (told : Option (List ℕ)) (read held : List ℕ) → told ≡ Some held → IfSome told (λ b. read ≡ b) → read ≡ held
read_is told read held is same = let h : IfSome (Some held) (λ b. read ≡ b) = subst (λ (t : Option (List ℕ)). IfSome t (λ b. read ≡ b)) is same in h

pub through : (told : Option (List ℕ)) (P Q : List ℕ → Type 0) → ((b : List ℕ) → P b → Q b) → IfSome told P → IfSome told Q
through None P Q f h = tt
through (Some b) P Q f h = f b h

-- borrowed bytes
pub seen : (told : Option (List ℕ)) (items lent : List ℕ) → lent ≡ items → IfSome told (λ b. items ≡ b) → IfSome told (λ b. lent ≡ b)
seen told items lent is same = through told (λ b. items ≡ b) (λ b. lent ≡ b) (λ b e. is ∙ e) same

pub has_records : (told : Option (List ℕ)) (read : List ℕ) (store first : ℕ) (records : List (List ℕ)) (tail : List ℕ) → IfSome told (λ b. read ≡ b) → IsStoreLog store first read records tail → IfSome told HasRecords
has_records told read store first records tail same log =
    through told (λ b. read ≡ b) HasRecords
    (λ b e. (records, record { bytes = read; are_told = ap Some (sym e); store = store; first = first; tail = tail; is_log = log })) same

-- ---- reading

pub keeps_kept : (old new : Option (List ℕ)) → new ≡ old → (records : List (List ℕ)) → IsKept old records → IsKept new records
keeps_kept old new same records kept = record { bytes = kept.bytes; are_told = same ∙ kept.are_told; store = kept.store; first = kept.first; tail = kept.tail; is_log = kept.is_log }

pub keeps : (old new : Option (List ℕ)) (stopped after : Type 0) (store next : ℕ) → new ≡ old → (stopped → after) → (records : List (List ℕ)) → IsHeld old stopped store next records → IsHeld new after store next records
keeps old new stopped after store next same stays records held = record {
  kept = record { bytes = held.kept.bytes; are_told = same ∙ held.kept.are_told; store = held.kept.store; first = held.kept.first; tail = held.kept.tail; is_log = held.kept.is_log };
  same = held.same;
  ready = elim held.ready [ inl clean ↦ inl clean | inr s ↦ inr (stays s) ];
}

-- kept records can be read in only one way
reading : (told : Option (List ℕ)) (read : List ℕ) (store first : ℕ) (found : List (List ℕ)) (tail : List ℕ) → IfSome told (λ b. read ≡ b) → IsStoreLog store first read found tail
    → (records : List (List ℕ)) → (kept : IsKept told records) → SameLog store kept.store first kept.first found records tail kept.tail
reading told read store first found tail same log records kept =
    store_reading kept.bytes store kept.store first kept.first found records tail kept.tail
    (subst (λ (b : List ℕ). IsStoreLog store first b found tail) (read_is told read kept.bytes kept.are_told same) log) kept.is_log

pub read_back : (told : Option (List ℕ)) (read : List ℕ) (store first : ℕ) (found : List (List ℕ)) (tail : List ℕ) (stopped : Type 0) (number next : ℕ) → IfSome told (λ b. read ≡ b) → IsStoreLog store first read found tail
    → (records : List (List ℕ)) → IsHeld told stopped number next records → found ≡ records
read_back told read store first found tail stopped number next same log records held = (reading told read store first found tail same log records held.kept).records

pub no_log : (told : Option (List ℕ)) (read : List ℕ) → IfSome told (λ b. read ≡ b) → ((store first : ℕ) (records : List (List ℕ)) (tail : List ℕ) → IsStoreLog store first read records tail → ⊥)
    → (records : List (List ℕ)) → IsKept told records → ⊥
no_log told read same none records kept =
    none kept.store kept.first records kept.tail
    (subst (λ (b : List ℕ). IsStoreLog kept.store kept.first b records kept.tail) (sym (read_is told read kept.bytes kept.are_told same)) kept.is_log)

-- ---- writing

clean_log : (told : Option (List ℕ)) (records : List (List ℕ)) → (kept : IsKept told records) → kept.tail ≡ [] → IsStoreLog kept.store kept.first kept.bytes records []
clean_log told records kept none = subst (IsStoreLog kept.store kept.first kept.bytes records) none kept.is_log

grown : (old new : Option (List ℕ)) (more : List ℕ) (records : List (List ℕ)) → (kept : IsKept old records) → new ≡ with_more more old → new ≡ Some (kept.bytes ++ more)
grown old new more records kept wrote = wrote ∙ ap (with_more more) kept.are_told

pub gains : (old new : Option (List ℕ)) (stopped after : Type 0) (store next : ℕ) (p : List ℕ) → IsShort p → new ≡ with_more (frame (numbered next p)) old → (stopped → ⊥)
    → (records : List (List ℕ)) → IsHeld old stopped store next records → IsHeld new after store (next + 1) (records ++ p ∷ [])
gains old new stopped after store next p s wrote free records held =
    let clean : (held.kept.tail ≡ []) × (next ≡ held.kept.first + length records) = elim held.ready [ inl e ↦ e | inr st ↦ absurd (free st) ] in
    let kept = held.kept in
    record {
      kept = record {
        bytes = kept.bytes ++ frame (numbered (kept.first + length records) p);
        are_told = grown old new (frame (numbered (kept.first + length records) p)) records kept (wrote ∙ ap (λ (n : ℕ). with_more (frame (numbered n p)) old) clean.1);
        store = kept.store;
        first = kept.first;
        tail = [];
        is_log = appended kept.store kept.first kept.bytes records p (clean_log old records kept clean.0) s;
      };
      same = held.same;
      ready = inl (refl, omega (arith, clean.1, length-last records p));
    }

pub may_gain : (old new : Option (List ℕ)) (stopped after : Type 0) (store next : ℕ) (p : List ℕ) → IsShort p → ¬ Hides next p → GrowsInPart (frame (numbered next p)) old new → (stopped → new ≡ old) → after
    → (records : List (List ℕ)) → IsHeld old stopped store next records → IsHeld new after store next records ⊎ IsHeld new after store next (records ++ p ∷ [])
may_gain old new stopped after store next p s plain wrote still now records held = elim held.ready [
  | inl clean ↦
      let kept = held.kept in
      let at : ℕ = kept.first + length records in
      let more : List ℕ = take wrote.0 (frame (numbered at p)) in
      let is : new ≡ Some (kept.bytes ++ more) = grown old new more records kept (wrote.1 ∙ ap (λ (n : ℕ). with_more (take wrote.0 (frame (numbered n p))) old) clean.1) in
      elim (appended_part kept.store kept.first wrote.0 kept.bytes records p (clean_log old records kept clean.0) s (subst (λ (n : ℕ). ¬ Hides n p) clean.1 plain)) [
        | inl log ↦ inl (record {
          kept = record { bytes = kept.bytes ++ more; are_told = is; store = kept.store; first = kept.first; tail = more; is_log = log };
          same = held.same;
          ready = inr now;
        })
        | inr log ↦ inr (record {
          kept = record { bytes = kept.bytes ++ more; are_told = is; store = kept.store; first = kept.first; tail = []; is_log = log };
          same = held.same;
          ready = inr now;
        })
      ]
  | inr st ↦ inl (keeps old new stopped after store next (still st) (λ _. now) records held)
]

pub renews : (old new : Option (List ℕ)) (stopped after : Type 0) (store next : ℕ) (p : List ℕ) → IsShort p → next < 2 ^ 63 → new ≡ with_all (store_log store next (p ∷ [])) old
    → (records : List (List ℕ)) → IsHeld old stopped store next records → IsHeld new after store (next + 1) (p ∷ [])
renews old new stopped after store next p s low put records held = record {
  kept = record {
    bytes = store_log store next (p ∷ []);
    are_told = put ∙ ap (with_all (store_log store next (p ∷ []))) held.kept.are_told;
    store = store;
    first = next;
    tail = [];
    is_log = whole store next (p ∷ []) (subst (λ (n : ℕ). n < 2 ^ 64) held.same held.kept.is_log.is_store) low (cons_some p []) (s, tt);
  };
  same = refl;
  ready = inl (refl, refl);
}

pub may_renew : (old new : Option (List ℕ)) (stopped after : Type 0) (store next : ℕ) (p : List ℕ) → IsShort p → next < 2 ^ 63 → MayBeAll (store_log store next (p ∷ [])) old new → after
    → (records : List (List ℕ)) → IsHeld old stopped store next records → IsHeld new after store next records ⊎ IsHeld new after store next (p ∷ [])
may_renew old new stopped after store next p s low put now records held = elim put [
  | inl still ↦ inl (keeps old new stopped after store next still (λ _. now) records held)
  | inr all ↦
      let put' = renews old new stopped after store next p s low all records held in
      inr (record { kept = put'.kept; same = put'.same; ready = inr now })
]

-- ---- opening

-- the tail is cut
opens : (old new : Option (List ℕ)) (after : Type 0) (read : List ℕ) (store first next end : ℕ) (found : List (Vec ℕ)) → IfSome old (λ b. read ≡ b) → IsStoreLog store first read (bytes_of found) (drop end read)
    → next ≡ first + length found → new ≡ with_all (take end read) old → (records : List (List ℕ)) → IsKept old records → IsHeld new after store next records
opens old new after read store first next end found same log counted put records kept =
    let one = reading old read store first (bytes_of found) (drop end read) same log records kept in
    record {
      kept = record {
        bytes = take end read;
        are_told = put ∙ ap (with_all (take end read)) kept.are_told;
        store = store;
        first = first;
        tail = [];
        is_log = subst (λ (rs : List (List ℕ)). IsStoreLog store first (take end read) rs []) one.records (front store first end read (bytes_of found) log);
      };
      same = refl;
      ready = inl (refl, omega (arith, counted, sym (length-map found (λ (v : Vec ℕ). v.items)), ap length one.records));
    }

-- there was no tail
pub opens_clean : (old new : Option (List ℕ)) (after : Type 0) (read : List ℕ) (store first next end : ℕ) (found : List (Vec ℕ)) → IfSome old (λ b. read ≡ b)
    → IsStoreLog store first read (bytes_of found) (drop end read) → next ≡ first + length found → new ≡ old → length read ≤ end → (records : List (List ℕ)) → IsKept old records → IsHeld new after store next records
opens_clean old new after read store first next end found same log counted still long records kept =
    opens old new after read store first next end found same log counted
    (still ∙ kept.are_told ∙ ap Some (sym (read_is old read kept.bytes kept.are_told same) ∙ sym (take_all end read long)) ∙ sym (ap (with_all (take end read)) kept.are_told)) records kept

-- a renewal that failed
may_open : (old new : Option (List ℕ)) (read : List ℕ) (store first end : ℕ) (found : List (Vec ℕ)) → IfSome old (λ b. read ≡ b) → IsStoreLog store first read (bytes_of found) (drop end read) → MayBeAll (take end read) old new
    → (records : List (List ℕ)) → IsKept old records → IsKept new records
may_open old new read store first end found same log put records kept = elim put [
  | inl still ↦ keeps_kept old new still records kept
  | inr all ↦ (opens old new (Unit {0}) read store first (first + length found) end found same log refl all records kept).kept
]

-- the bytes that were read before the file was renewed
pub opens_from : (old mid new : Option (List ℕ)) (after : Type 0) (read all : List ℕ) (store first next end : ℕ) (found : List (Vec ℕ)) → mid ≡ old → IfSome old (λ b. read ≡ b)
    → IsStoreLog store first read (bytes_of found) (drop end read) → next ≡ first + length found → all ≡ take end read → new ≡ with_all all mid → Opens old new after store next
opens_from old mid new after read all store first next end found still same log counted is put =
    opens old new after read store first next end found same log counted (put ∙ ap (with_all all) still ∙ ap (λ (m : List ℕ). with_all m old) is)

pub may_open_from : (old mid new : Option (List ℕ)) (read all : List ℕ) (store first end : ℕ) (found : List (Vec ℕ)) → mid ≡ old → IfSome old (λ b. read ≡ b)
    → IsStoreLog store first read (bytes_of found) (drop end read) → all ≡ take end read → MayBeAll all mid new → Keeps (IsKept old) (IsKept new)
may_open_from old mid new read all store first end found still same log is put =
    may_open old new read store first end found same log (subst (λ (m : Option (List ℕ)). MayBeAll (take end read) m new) still (subst (λ (m : List ℕ). MayBeAll m mid new) is put))

pub wrote_part : (old new : Option (List ℕ)) (more all : List ℕ) → more ≡ all → GrowsInPart more old new → GrowsInPart all old new
wrote_part old new more all is wrote = (wrote.0, wrote.1 ∙ ap (λ (m : List ℕ). with_more (take wrote.0 m) old) is)
