-- Blocks that stay kept.
use Rattle.std.proofs.Common.{◌≡◌, ◌⊎◌, ℕ, Bool, nat_eq, List, [], drop, take, inl, inr, slice_get, Contains, Some, Result, Ok, Err, OnOk, OnErr, refl, sym, ap, subst, ◌∙◌, arith}
use Rattle.std.proofs.lemmas.Bool.{eqb-true}
use Rattle.std.proofs.lemmas.List.{take-append-drop}
use Rattle.std.proofs.lemmas.List.Elements.{Contains-append_left}
use Rattle.std.specs.Map.{lookup}
use Rattle.lru.specs.LruCache.{LruCache, lru_cache, put_entries, promoted}
use Rattle.lru.proofs.CallerLemmas.{Contains-put_entries, Contains-promoted, Contains-lookup}
use Rattle.sorted_file.specs.Index.{block_of}
use Rattle.sorted_file.specs.File.{AreCached, IsUncached}
use Rattle.sorted_file.specs.Block.{IsParsed}
use Rattle.sorted_file.specs.declared.block.BlockRow.{BlockRow}
use Rattle.sorted_file.specs.declared.block.Block.{Block}

-- an element of the first ones is an element of all
pub among_taken : (n : ℕ) (es : List (ℕ × Block)) (e : ℕ × Block) → Contains (take n es) e → Contains es e
among_taken n es e d = subst (λ (l : List (ℕ × Block)). Contains l e) (take-append-drop n es) (Contains-append_left (take n es) (drop n es) e d)

module _ (rows : List BlockRow) where
  still_put : (c : LruCache ℕ Block) (k : ℕ) (v : Block) → AreCached rows c.entries → ((row : BlockRow) → slice_get rows k ≡ Some row → IsParsed (block_of row) v) → AreCached rows (put_entries nat_eq c k v)
  still_put c k v h p e d row at = elim (Contains-put_entries nat_eq c k v e d) [
    | inl old ↦ h e old row at
    | inr is ↦ elim is.1 [
      | inl same ↦ subst (IsParsed (block_of row)) (sym is.0) (p row (ap (slice_get rows) (sym same) ∙ at))
      | inr there ↦ subst (IsParsed (block_of row)) (sym is.0) (p row (ap (slice_get rows) (eqb-true k e.0 there.2) ∙ at))
    ]
  ]

  pub after_put : {A B : Type 0} (r : Result A B) (new old : LruCache ℕ Block) (k : ℕ) (v : Block) → OnOk r (new ≡ lru_cache (put_entries nat_eq old k v) old.cap) → OnErr r (new ≡ old) → AreCached rows old.entries → ((row : BlockRow) → slice_get rows k ≡ Some row → IsParsed (block_of row) v) → AreCached rows new.entries
  after_put (Ok x) new old k v ok err h p = subst (λ (c : LruCache ℕ Block). AreCached rows c.entries) (sym ok) (still_put old k v h p)
  after_put (Err x) new old k v ok err h p = subst (λ (c : LruCache ℕ Block). AreCached rows c.entries) (sym err) h

  pub still_promoted : (test : ℕ → Bool) (es : List (ℕ × Block)) → AreCached rows es → AreCached rows (promoted test es)
  still_promoted test es h e d = h e (Contains-promoted test es e d)

  pub still_taken : (n : ℕ) (es : List (ℕ × Block)) → AreCached rows es → AreCached rows (take n es)
  still_taken n es h e d = h e (among_taken n es e d)

  pub found_cached : (k : ℕ) (es : List (ℕ × Block)) (v : Block) (row : BlockRow) → AreCached rows es → lookup (nat_eq k) es ≡ Some v → slice_get rows k ≡ Some row → IsParsed (block_of row) v
  found_cached k es v row h t at = let found = Contains-lookup (nat_eq k) es v t in h (found.0, v) found.1 row (ap (slice_get rows) (sym (eqb-true k found.0 found.2)) ∙ at)

  pub none_cached : (c : LruCache ℕ Block) (most : ℕ) → c ≡ lru_cache [] most → AreCached rows c.entries
  none_cached c most is = subst (λ (k : LruCache ℕ Block). AreCached rows k.entries) (sym is) (λ e h row at. let few = h.1 in absurd (omega (arith, few)))

  pub none_kept : (cached : List (ℕ × Block)) → cached ≡ [] → AreCached rows cached
  none_kept cached is = subst (λ (l : List (ℕ × Block)). AreCached rows l) (sym is) (λ e h row at. let few = h.1 in absurd (omega (arith, few)))

-- after a block is put, each cached block was cached before or is that block
of_put : (c : LruCache ℕ Block) (k : ℕ) (v : Block) (e : ℕ × Block) → Contains (put_entries nat_eq c k v) e → Contains c.entries e ⊎ (e ≡ (k, v))
of_put c k v (n, block) d = elim (Contains-put_entries nat_eq c k v (n, block) d) [
  | inl old ↦ inl old
  | inr is ↦
      let same : n ≡ k = elim is.1 [
        | inl one ↦ one
        | inr there ↦ sym (eqb-true k n there.2)
      ] in inr (ap (λ (m : ℕ). (m, block)) same ∙ ap (λ (b : Block). (k, b)) is.0)
]

pub among_put : {A B : Type 0} (r : Result A B) (new old : LruCache ℕ Block) (k : ℕ) (v : Block) → OnOk r (new ≡ lru_cache (put_entries nat_eq old k v) old.cap) → OnErr r (new ≡ old) → (e : ℕ × Block) → Contains new.entries e → Contains old.entries e ⊎ (e ≡ (k, v))
among_put (Ok x) new old k v ok err e d = of_put old k v e (subst (λ (c : LruCache ℕ Block). Contains c.entries e) ok d)
among_put (Err x) new old k v ok err e d = inl (subst (λ (c : LruCache ℕ Block). Contains c.entries e) err d)

pub none_left : (c : LruCache ℕ Block) (most : ℕ) → c ≡ lru_cache [] most → (k : ℕ) → IsUncached k c.entries
none_left c most is k = subst (λ (c : LruCache ℕ Block). IsUncached k c.entries) (sym is) refl
