-- Text put piece by piece.
-- Assumes nothing.
use mathlib.Core.Path.{◌≡◌, sym, ap, ap₂, ◌∙◌}
use mathlib.Core.List.{List, [], ◌++◌, append_assoc, append-nil}
use Prim.Native.Nat.{ℕ, ◌+◌, ◌-◌, ◌≤◌}
use native.Mathlib.Omega.{arith}
use lib.ListN.{length, take, drop, length-append, length-drop, take-append-drop}
use lib.Seq.{length-take-le, take_all, take_at, drop-append-add, drop-drop}
use Rattle.decimals.specs.Places.{Put, Ends}

-- ---- one piece after another

pub put_none : (text : List ℕ) (at : ℕ) → at ≤ length text → Put text at [] text at
put_none text at h = record { inside = h; to = omega arith; is = sym (ap (λ (x : List ℕ). x ++ drop at text) (append-nil (take at text)) ∙ take-append-drop at text) }

module _ {text : List ℕ} {at : ℕ} {s text' : List ℕ} {end : ℕ} (p : Put text at s text' end) where
  pub front_long : length (take at text ++ s) ≡ end
  front_long =
      let t = p.to in
      let i = p.inside in
      let l = length-take-le at text (omega arith) in
      let a = length-append (take at text) s in
      omega arith

  pub put_long : length text' ≡ length text
  put_long =
      let f = front_long in
      let i = p.inside in
      let d = length-drop end text in
      let a = length-append (take at text ++ s) (drop end text) in
      let e = ap length p.is in
      omega arith

  -- where the text is put from the beginning it stands at the front
  pub put_front : at ≡ 0 → take end text' ≡ s
  put_front z =
      ap (take end) p.is ∙ take_at (take at text ++ s) (drop end text) end front_long ∙ ap (λ (k : ℕ). take k text ++ s) z

  pub put_then : {s' text'' : List ℕ} {end' : ℕ} → Put text' end s' text'' end' → Put text at (s ++ s') text'' end'
  put_then {s'} {text''} {end'} q =
      let t = p.to in
      let u = q.to in
      let l = put_long in
      let i = q.inside in
      let a = length-append s s' in
      let front : take end text' ≡ take at text ++ s = ap (take end) p.is ∙ take_at (take at text ++ s) (drop end text) end front_long in
      let far : end' ≡ length (take at text ++ s) + length s' = u ∙ ap (λ (k : ℕ). k + length s') (sym front_long) in
      let rest : drop end' text' ≡ drop end' text =
      ap₂ (λ (k : ℕ) (x : List ℕ). drop k x) far p.is
      ∙ drop-append-add (take at text ++ s) (drop end text) (length s')
      ∙ drop-drop (length s') end text
      ∙ ap (λ (k : ℕ). drop k text) (sym u) in
      record {
        inside = omega arith;
        to = omega arith;
        is = q.is
            ∙ ap₂ (λ (x y : List ℕ). x ++ s' ++ y) front rest
            ∙ ap (λ (x : List ℕ). x ++ drop end' text) (append_assoc (take at text) s s');
      }

-- ---- what stands at the end of a row of 20, as a part of it

pub ends_part : {from : ℕ} {row s : List ℕ} → Ends from row s → length row ≡ 20 → take (20 - from) (drop from row) ≡ s
ends_part {from} {row} d long = let l = length-drop from row in take_all (20 - from) (drop from row) (omega arith) ∙ d.is
