-- Where names stand first: names one after the other, and the names of an equation's row.
-- Assumes nothing.
use mathlib.Core.Path.{◌≡◌, refl, sym, ap, ◌∙◌}
use mathlib.Core.Bool.{Bool, true, false, cond}
use mathlib.Core.List.{List, [], ◌∷◌, ◌++◌, append_assoc}
use Prim.Native.Nat.{ℕ, suc, ◌+◌, ◌-◌}
use native.Mathlib.Omega.{arith}
use lib.ListN.{length, take, drop, length-drop}
use lib.Seq.{length-take-le}
use Rattle.paper.specs.Bytes.{parts}
use Rattle.paper.specs.Grammar.{Line, bad, chance, equation}
use Rattle.paper.specs.Equations.{has, with, names_of, collect}
use Rattle.paper.specs.Spelling.{join_all}
use Rattle.paper.specs.Spots.{between, places_from, places_of, firsts}
use Rattle.scanning.specs.Scanning.{RowAt}
use Rattle.lines.proofs.Only.{parts_joined}
use Rattle.names.proofs.Dicts.{with_old}
use Rattle.scanning.proofs.Rows.{Equates}

-- ---- one place for each name

from_long : (sep : List ℕ) (i : ℕ) (ys : List (List ℕ)) → length (places_from sep i ys) ≡ length ys
from_long sep i [] = refl
from_long sep i (y ∷ ys) = ap suc (from_long sep (i + length y + length sep) ys)

pub places_long : (at stop : ℕ) (l : Line) → length (places_of at stop l) ≡ length (names_of l)
places_long at stop bad = refl
places_long at stop (chance x n) = refl
places_long at stop (equation x c ys) = ap suc (from_long (between c) (stop - length (join_all (between c) ys)) ys)

-- ---- first appearances, name by name

firsts_append : (D ws vs : List (List ℕ)) (ps qs : List ℕ) → length ps ≡ length ws → firsts D (ws ++ vs) (ps ++ qs) ≡ firsts D ws ps ++ firsts (collect D ws) vs qs
firsts_append D [] vs [] qs h = refl
firsts_append D [] vs (p ∷ ps) qs h = absurd (omega arith)
firsts_append D (w ∷ ws) vs [] qs h = absurd (omega arith)
firsts_append D (w ∷ ws) vs (p ∷ ps) qs h = go (has w D) refl (firsts_append D ws vs ps qs (omega arith)) (firsts_append (with D w) ws vs ps qs (omega arith))
  where
    go : (t : Bool) → has w D ≡ t → firsts D (ws ++ vs) (ps ++ qs) ≡ firsts D ws ps ++ firsts (collect D ws) vs qs → firsts (with D w) (ws ++ vs) (ps ++ qs) ≡ firsts (with D w) ws ps ++ firsts (collect (with D w) ws) vs qs
        → cond t (firsts D (ws ++ vs) (ps ++ qs)) (p ∷ firsts (with D w) (ws ++ vs) (ps ++ qs)) ≡ cond t (firsts D ws ps) (p ∷ firsts (with D w) ws ps) ++ firsts (collect (with D w) ws) vs qs
    go true e a b = a ∙ ap (λ E. firsts D ws ps ++ firsts (collect E ws) vs qs) (sym (with_old D w e))
    go false e a b = ap (λ l. p ∷ l) b

-- the places A, then those of the names ws that are new, then those of the names vs that are new
pub firsts_on : (A : List ℕ) (D ws vs : List (List ℕ)) (ps qs : List ℕ) → length ps ≡ length ws → {B : List ℕ} {E : List (List ℕ)} → B ≡ A ++ firsts D ws ps → E ≡ collect D ws → B ++ firsts E vs qs ≡ A ++ firsts D (ws ++ vs) (ps ++ qs)
firsts_on A D ws vs ps qs h {B} {E} b e =
    ap (λ l. l ++ firsts E vs qs) b ∙ ap (λ F. (A ++ firsts D ws ps) ++ firsts F vs qs) e ∙ append_assoc A (firsts D ws ps) (firsts (collect D ws) vs qs) ∙ ap (λ l. A ++ l) (sym (firsts_append D ws vs ps qs h))

-- ---- the row of an equation

row_from : {text : List ℕ} {stop : ℕ} {sep : List ℕ} {i : ℕ} → RowAt text stop sep i → stop - length (join_all sep (parts sep (drop i (take stop text)))) ≡ i
row_from {text} {stop} {sep} {i} r =
    let a : length (join_all sep (parts sep (drop i (take stop text)))) ≡ length (drop i (take stop text)) = ap length (parts_joined r.divides 0 (drop i (take stop text))) in
    let b : length (drop i (take stop text)) ≡ length (take stop text) - i = length-drop i (take stop text) in
    let d = length-take-le stop text r.inside in
    omega (arith, r.from)

pub places_row : {text : List ℕ} {stop : ℕ} {sep : List ℕ} {i at : ℕ} {L : Line} {x : List ℕ} → RowAt text stop sep i → Equates L x sep (parts sep (drop i (take stop text))) → places_of at stop L ≡ at ∷ places_from sep i (parts sep (drop i (take stop text)))
places_row {text} {stop} {sep} {i} {at} r e =
    let ys = parts sep (drop i (take stop text)) in
    ap (places_of at stop) e.is ∙ ap (λ s. at ∷ places_from s (stop - length (join_all s ys)) ys) e.divided ∙ ap (λ k. at ∷ places_from sep k ys) (row_from r)
