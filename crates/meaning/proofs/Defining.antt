-- The line that defines a name: its inputs are names of the text; with no left name twice, every equation is the line of its left name.
-- Assumes nothing.
use mathlib.Core.Path.{◌≡◌, refl, sym, ◌∙◌, subst}
use mathlib.Core.Logic.{◌⊎◌, inl, inr}
use mathlib.Core.Bool.{Bool, true, false, cond, ◌||◌, true≢false}
use mathlib.Core.List.{List, [], ◌∷◌, ◌++◌}
use Prim.Native.Nat.{ℕ, suc, ◌<◌}
use native.Mathlib.Omega.{arith}
use lib.ListN.{length}
use Rattle.paper.specs.Lists.{In}
use Rattle.paper.specs.Grammar.{Line, bad, chance, equation}
use Rattle.paper.specs.Texts.{Placed, says}
use Rattle.paper.specs.Equations.{has, names_of, names_in, left_of, rights_of, line_in, numbers, number_of, dict_in, name_in, inputs_in, meets, twice_from, twice_in}
use Rattle.paper.specs.Walks.{is_event, OneRoot}
use Rattle.algebra.proofs.Lists.{in_left, in_right, in_append, in_map, map_in}
use Rattle.meaning.specs.Said.{Filled, AllFilled}
use Rattle.meaning.proofs.Words.{has_in, in_has, not_has, in_dict, dict_in_lem, number_low, at_in, name_of_number, number_of_name}

-- ---- the line of a name

rights_names : (l : Line) (y : List ℕ) → In y (rights_of l) → In y (names_of l)
rights_names bad y h = h
rights_names (chance x n) y h = h
rights_names (equation x c ys) y h = inr h

pub line_names : (w y : List ℕ) (ls : List Placed) → In y (rights_of (line_in w ls)) → In y (names_in ls)
line_names w y [] h = h
line_names w y (says at l ∷ ls) h = go (has w (left_of l)) h (line_names w y ls)
  where
    go : (t : Bool) → In y (rights_of (cond t l (line_in w ls))) → (In y (rights_of (line_in w ls)) → In y (names_in ls)) → In y (names_of l ++ names_in ls)
    go true k r = in_left y (names_of l) (names_in ls) (rights_names l y k)
    go false k r = in_right y (names_of l) (names_in ls) (r k)

pub line_filled : (w : List ℕ) (ls : List Placed) → AllFilled ls → Filled (line_in w ls)
line_filled w [] f = tt
line_filled w (says at l ∷ ls) f = go (has w (left_of l)) (line_filled w ls f.1)
  where
    go : (t : Bool) → Filled (line_in w ls) → Filled (cond t l (line_in w ls))
    go true r = f.0
    go false r = r

-- ---- the inputs of a name

pub inputs_low : (ls : List Placed) (x y : ℕ) → In y (inputs_in ls x) → y < length (dict_in ls)
unfolding inputs_in
inputs_low ls x y h =
    let (w, k, e) = map_in (λ v. number_of v (dict_in ls)) y (rights_of (line_in (name_in ls x) ls)) h in
    subst (λ z. z < length (dict_in ls)) (sym e) (number_low w (dict_in ls) (in_dict w ls (line_names (name_in ls x) w ls k)))

-- an input of a name is the number of a right name, and each right name's number is an input
pub input_of : (ls : List Placed) (w y : List ℕ) → In w (names_in ls) → In y (rights_of (line_in w ls)) → In (number_of y (dict_in ls)) (inputs_in ls (number_of w (dict_in ls)))
unfolding inputs_in
input_of ls w y h k = rw (name_of_number w ls h) (in_map (λ v. number_of v (dict_in ls)) y (rights_of (line_in w ls)) k)

-- ---- every name is a left name, or a right name of the line of another

abbrev pub Defines : Line → Type 0
Defines bad = ⊥
Defines (chance x n) = ⊥
Defines (equation x c ys) = Unit {0}

left_defines : (w : List ℕ) (l : Line) → has w (left_of l) ≡ true → Defines l
left_defines w bad e = has_in w [] e
left_defines w (chance x n) e = has_in w [] e
left_defines w (equation x c ys) e = tt

-- w is a right name of the line of x, and x none of the names before
abbrev Under : List (List ℕ) → List Placed → List ℕ → Type 0
Under seen ls w = (x : List ℕ) × In x (names_in ls) × (In x seen → ⊥) × In w (rights_of (line_in x ls))

not_met : (xs seen : List (List ℕ)) → meets xs seen ≡ false → (x : List ℕ) → In x xs → In x seen → ⊥
not_met [] seen e x h k = h
not_met (z ∷ xs) seen e x h k = go (has z seen) refl e h (not_met xs seen)
  where
    go : (t : Bool) → has z seen ≡ t → (t || meets xs seen) ≡ false → In x (z ∷ xs) → (meets xs seen ≡ false → (x : List ℕ) → In x xs → In x seen → ⊥) → ⊥
    go true q e h r = true≢false e
    go false q e (inl p) r = true≢false (sym (in_has z seen (subst (λ v. In v seen) p k)) ∙ q)
    go false q e (inr h) r = r e x h k

once_step : (seen : List (List ℕ)) (at : ℕ) (l : Line) (ls : List Placed) → twice_from seen (says at l ∷ ls) ≡ 0
    → (meets (left_of l) seen ≡ false) × (twice_from (left_of l ++ seen) ls ≡ 0)
once_step seen at l ls e = go (meets (left_of l) seen) refl e
  where
    go : (t : Bool) → meets (left_of l) seen ≡ t → cond t (suc at) (twice_from (left_of l ++ seen) ls) ≡ 0 → (meets (left_of l) seen ≡ false) × (twice_from (left_of l ++ seen) ls ≡ 0)
    go true q e = let b : ⊥ = omega arith in absurd b
    go false q e = (q, e)

-- the first line is the line of its left name
in_first : (seen : List (List ℕ)) (at : ℕ) (l : Line) (ls : List Placed) (w : List ℕ) → meets (left_of l) seen ≡ false → In w (names_of l)
    → Defines (line_in w (says at l ∷ ls)) ⊎ Under seen (says at l ∷ ls) w
in_first seen at bad ls w e h = absurd h
in_first seen at (chance x n) ls w e h = absurd h
in_first seen at (equation x c ys) ls w e (inl p) = inl (rw (in_has w (x ∷ []) (inl p)) tt)
in_first seen at (equation x c ys) ls w e (inr k) =
    inr (x, inl refl, not_met (x ∷ []) seen e x (inl refl), rw (in_has x (x ∷ []) (inl refl)) k)

in_later : (seen : List (List ℕ)) (at : ℕ) (l : Line) (ls : List Placed) (w : List ℕ) → Defines (line_in w ls) ⊎ Under (left_of l ++ seen) ls w
    → Defines (line_in w (says at l ∷ ls)) ⊎ Under seen (says at l ∷ ls) w
in_later seen at l ls w (inl d) = inl (go (has w (left_of l)) refl)
  where
    go : (t : Bool) → has w (left_of l) ≡ t → Defines (cond t l (line_in w ls))
    go true e = left_defines w l e
    go false e = d
in_later seen at l ls w (inr (x, h, f, k)) =
    inr (x, in_right x (names_of l) (names_in ls) h, λ q. f (in_right x (left_of l) seen q), rw (not_has x (left_of l) (λ q. f (in_left x (left_of l) seen q))) k)

left_or_right : (seen : List (List ℕ)) (ls : List Placed) → twice_from seen ls ≡ 0 → (w : List ℕ) → In w (names_in ls) → Defines (line_in w ls) ⊎ Under seen ls w
left_or_right seen [] e w h = absurd h
left_or_right seen (says at l ∷ ls) e w h = go (once_step seen at l ls e) (left_or_right (left_of l ++ seen) ls) (in_append w (names_of l) (names_in ls) h)
  where
    go : (meets (left_of l) seen ≡ false) × (twice_from (left_of l ++ seen) ls ≡ 0)
        → (twice_from (left_of l ++ seen) ls ≡ 0 → (w : List ℕ) → In w (names_in ls) → Defines (line_in w ls) ⊎ Under (left_of l ++ seen) ls w)
        → In w (names_of l) ⊎ In w (names_in ls) → Defines (line_in w (says at l ∷ ls)) ⊎ Under seen (says at l ∷ ls) w
    go q r (inl k) = in_first seen at l ls w q.0 k
    go q r (inr k) = in_later seen at l ls w (r q.1 w k)

-- ---- the one root is a gate

gate_line_lem : (D : List (List ℕ)) (l : Line) → Filled l → Defines l → is_event (numbers D (rights_of l)) ≡ false
gate_line_lem D bad f d = absurd d
gate_line_lem D (chance x n) f d = absurd d
gate_line_lem D (equation x c []) f d = absurd f
gate_line_lem D (equation x c (y ∷ ys)) f d = refl

pub defined_gate : (ls : List Placed) (x : ℕ) → AllFilled ls → Defines (line_in (name_in ls x) ls) → is_event (inputs_in ls x) ≡ false
unfolding inputs_in
defined_gate ls x f d = gate_line_lem (dict_in ls) (line_in (name_in ls x) ls) (line_filled (name_in ls x) ls f) d

pub root_gate : (ls : List Placed) (root : ℕ) → AllFilled ls → twice_in ls ≡ 0 → OneRoot (inputs_in ls) (length (dict_in ls)) root → is_event (inputs_in ls root) ≡ false
unfolding twice_in
root_gate ls root f e one = go (left_or_right [] ls e (name_in ls root) named)
  where
    named : In (name_in ls root) (names_in ls)
    named = dict_in_lem (name_in ls root) ls (at_in [] (dict_in ls) root one.low)

    go : Defines (line_in (name_in ls root) ls) ⊎ Under [] ls (name_in ls root) → is_event (inputs_in ls root) ≡ false
    go (inl d) = defined_gate ls root f d
    go (inr (x, h, q, k)) =
        absurd (one.top (number_of x (dict_in ls)) (number_low x (dict_in ls) (in_dict x ls h))
        (subst (λ z. In z (inputs_in ls (number_of x (dict_in ls)))) (number_of_name ls root one.low) (input_of ls x (name_in ls root) h k)))
