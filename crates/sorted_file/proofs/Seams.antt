-- Parts of bytes, by the bytes before and behind them.
use Rattle.std.proofs.Common.{◌≡◌, ◌≤◌, ◌+◌, ◌-◌, ℕ, List, ◌∷◌, ◌++◌, length, take, drop, sym, ap, ◌∙◌, arith, length-append, length-take, append_assoc}
use Rattle.std.proofs.Math.Seq.{drop-append_seam, take-append_seam}
use Rattle.std.proofs.lemmas.List.{take-append-drop}
use Rattle.std.specs.Prelude.{Option, Some}
use Rattle.std.specs.Int.{w32, to_be_bytes}
use Rattle.cell_key.specs.Entries.{field, spelled, spelled_value}
use Rattle.file_store.specs.Store.{part}

-- the bytes at the end are the rest
pub drop_end : (bytes before rest : List ℕ) → bytes ≡ before ++ rest → drop (length bytes - length rest) bytes ≡ rest
drop_end bytes before rest e =
    let l = ap length e ∙ length-append before rest in
    let n : length bytes - length rest ≡ length before = omega (arith, l) in
    ap (λ (k : ℕ). drop k bytes) n ∙ ap (drop (length before)) e ∙ drop-append_seam before rest

part_in : (bytes before mid rest : List ℕ) (n : ℕ) → bytes ≡ before ++ (mid ++ rest) → n ≡ length before → part bytes n (length mid) ≡ mid
part_in bytes before mid rest n e at =
    ap (λ (k : ℕ). take (length mid) (drop k bytes)) at ∙ ap (λ (l : List ℕ). take (length mid) (drop (length before) l)) e
    ∙ ap (take (length mid)) (drop-append_seam before (mid ++ rest)) ∙ take-append_seam mid rest

module _ (bytes key after : List ℕ) (at : ℕ) (within : at ≤ length bytes) where
  whole : (front : List ℕ) → drop at bytes ≡ front ++ after → bytes ≡ (take at bytes ++ front) ++ after
  whole front e = sym (take-append-drop at bytes) ∙ ap (λ (l : List ℕ). take at bytes ++ l) e ∙ sym (append_assoc (take at bytes) front after)

  -- behind a part at an offset
  pub behind_front : (front : List ℕ) → drop at bytes ≡ front ++ after → drop (length bytes - length after) bytes ≡ after
  behind_front front e = drop_end bytes (take at bytes ++ front) after (whole front e)

  -- the text of an entry at an offset
  pub text_part : (value : Option (List ℕ)) → drop at bytes ≡ spelled (key, value) ++ after → part bytes (at + 4) (length key) ≡ key
  text_part value e =
      let number : List ℕ = to_be_bytes w32 (length key) in
      let tail : List ℕ = spelled_value value ++ after in
      let cut : drop at bytes ≡ number ++ (key ++ tail) = e ∙ append_assoc (field key) (spelled_value value) after ∙ append_assoc number key tail in
      part_in bytes (take at bytes ++ number) key tail (at + 4)
      (sym (take-append-drop at bytes) ∙ ap (λ (l : List ℕ). take at bytes ++ l) cut ∙ sym (append_assoc (take at bytes) number (key ++ tail)))
      (omega (arith, within, length-append (take at bytes) number, length-take at bytes))

  -- and its value
  pub value_part : (value : List ℕ) → drop at bytes ≡ spelled (key, Some value) ++ after → part bytes (length bytes - length after - length value) (length value) ≡ value
  value_part value e =
      let number : List ℕ = to_be_bytes w32 (length value) in
      let before : List ℕ = take at bytes ++ (field key ++ 1 ∷ number) in
      let cut : bytes ≡ before ++ (value ++ after) = whole (spelled (key, Some value)) e ∙ ap (λ (l : List ℕ). (take at bytes ++ l) ++ after) (sym (append_assoc (field key) (1 ∷ number) value))
      ∙ ap (λ (l : List ℕ). l ++ after) (sym (append_assoc (take at bytes) (field key ++ 1 ∷ number) value)) ∙ append_assoc before value after in
      part_in bytes before value after _ cut (omega (arith, ap length cut, length-append before (value ++ after), length-append value after))
