-- THE TREE THAT A TEXT SAYS keeps the rules of a tree: with the limits unbroken it is lawful.
-- Assumes nothing.
use mathlib.Core.Path.{◌≡◌, refl, sym, ap, ◌∙◌, subst}
use mathlib.Core.Logic.{◌⊎◌, inl, inr}
use mathlib.Core.Bool.{Bool, true, false, cond, true≢false}
use mathlib.Core.List.{List, [], ◌∷◌, ◌++◌, map, append_assoc}
use Prim.Native.Nat.{ℕ, ◌+◌, ◌<◌, ◌≤◌}
use native.Mathlib.Omega.{arith}
use lib.ListN.{get_or, length, length-append, length-map}
use lib.Seq.{get_or-append_seam}
use Rattle.paper.specs.Limits.{limits}
use Rattle.paper.specs.Lists.{In}
use Rattle.paper.specs.Trees.{Input, event, gate, InputBelow, InputsBelow, GateBelow, TreeBelow}
use Rattle.paper.specs.Grammar.{Line, bad, chance, equation, by_or, by_and, at_least}
use Rattle.paper.specs.Texts.{Placed}
use Rattle.paper.specs.Equations.{dict_in, name_in, line_in, inputs_in}
use Rattle.paper.specs.Walks.{is_event}
use Rattle.paper.specs.Meaning.{event_names, gate_names, place_in, input_for, gate_by, gate_for, chance_for, tree_said}
use Rattle.paper.specs.Importing.{inputs_to, broken, Rooted}
use Rattle.records.specs.Trees.{InputLower, InputsLower, GateLower, TreeLower}
use Rattle.records.specs.Flattened.{LawfulTree}
use Rattle.algebra.proofs.Lists.{in_map, in_flat}
use Rattle.depthfirst.proofs.Counting.{place_low}
use Rattle.depthfirst.proofs.Answers.{LastIs}
use Rattle.meaning.specs.Said.{AllFilled}
use Rattle.meaning.specs.Within.{all_inputs}
use Rattle.meaning.proofs.Words.{place_front, name_place, at_in}
use Rattle.meaning.proofs.Defining.{inputs_low, root_gate}
use Rattle.meaning.proofs.Gates.{Behind}
use Rattle.meaning.proofs.Naming.{gate_in, gate_is, gates_once, gates_order, root_last, event_some, event_in_lem, event_is, events_once}
use Rattle.meaning.proofs.Limits.{unbroken_within}
use Rattle.meaning.proofs.Rules.{Whole, lawful_of}

-- ---- a gate's inputs are its line's

pub inputs_by : (l : Line) (is : List Input) → inputs_to (gate_by l is) ≡ is
inputs_by bad is = refl
inputs_by (chance x n) is = refl
inputs_by (equation x by_or ys) is = refl
inputs_by (equation x by_and ys) is = refl
inputs_by (equation x (at_least k) ys) is = refl

below_by : (n : ℕ) (l : Line) (is : List Input) → InputsBelow n is → GateBelow n (gate_by l is)
below_by n bad is h = h
below_by n (chance x m) is h = h
below_by n (equation x by_or ys) is h = h
below_by n (equation x by_and ys) is h = h
below_by n (equation x (at_least k) ys) is h = h

lower_by : (n : ℕ) (l : Line) (is : List Input) → InputsLower n is → GateLower n (gate_by l is)
lower_by n bad is h = h
lower_by n (chance x m) is h = h
lower_by n (equation x by_or ys) is h = h
lower_by n (equation x by_and ys) is h = h
lower_by n (equation x (at_least k) ys) is h = h

module _ {ls : List Placed} {root : ℕ} (r : Rooted ls root) where
  -- ---- events below their number

  input_below : (x : ℕ) → x < length (dict_in ls) → InputBelow (length (event_names ls root)) (input_for ls root x)
  input_below x h = go (is_event (inputs_in ls x)) refl
    where
      go : (t : Bool) → is_event (inputs_in ls x) ≡ t
          → InputBelow (length (event_names ls root)) (cond t (event (place_in x (event_names ls root))) (gate (place_in x (gate_names ls root))))
      go true e = place_low x (event_names ls root) (event_in_lem r x h e)
      go false e = tt

  inputs_below : (l : List ℕ) → ((x : ℕ) → In x l → x < length (dict_in ls)) → InputsBelow (length (event_names ls root)) (map (input_for ls root) l)
  inputs_below [] h = tt
  inputs_below (x ∷ l) h = (input_below x (h x (inl refl)), inputs_below l (λ y k. h y (inr k)))

  gates_below : (l : List ℕ) → TreeBelow (length (event_names ls root)) (map (gate_for ls root) l)
  gates_below [] = tt
  gates_below (x ∷ l) =
      (below_by (length (event_names ls root)) (line_in (name_in ls x) ls) (map (input_for ls root) (inputs_in ls x)) (inputs_below (inputs_in ls x) (λ y h. inputs_low ls x y h)), gates_below l)

  -- ---- gates below their own

  input_lower : (before rest : List ℕ) → gate_names ls root ≡ before ++ rest → (x : ℕ) → (is_event (inputs_in ls x) ≡ true) ⊎ In x before → InputLower (length before) (input_for ls root x)
  input_lower before rest s x h = go (is_event (inputs_in ls x)) refl h
    where
      go : (t : Bool) → is_event (inputs_in ls x) ≡ t → (is_event (inputs_in ls x) ≡ true) ⊎ In x before
          → InputLower (length before) (cond t (event (place_in x (event_names ls root))) (gate (place_in x (gate_names ls root))))
      go true e q = tt
      go false e (inl q) = absurd (true≢false (sym q ∙ e))
      go false e (inr q) = subst (λ j. j < length before) (sym (ap (place_in x) s ∙ place_front x before rest q)) (place_low x before q)

  inputs_lower : (before rest : List ℕ) → gate_names ls root ≡ before ++ rest → (l : List ℕ) → ((x : ℕ) → In x l → (is_event (inputs_in ls x) ≡ true) ⊎ In x before)
      → InputsLower (length before) (map (input_for ls root) l)
  inputs_lower before rest s [] h = tt
  inputs_lower before rest s (x ∷ l) h = (input_lower before rest s x (h x (inl refl)), inputs_lower before rest s l (λ y k. h y (inr k)))

  gates_lower : (before rest : List ℕ) → gate_names ls root ≡ before ++ rest → Behind (inputs_in ls) before rest → TreeLower (length before) (map (gate_for ls root) rest)
  gates_lower before [] s b = tt
  gates_lower before (x ∷ rest) s b = (
    lower_by (length before) (line_in (name_in ls x) ls) (map (input_for ls root) (inputs_in ls x)) (inputs_lower before (x ∷ rest) s (inputs_in ls x) b.0),
    subst (λ n. TreeLower n (map (gate_for ls root) rest)) (length-append before (x ∷ []))
        (gates_lower (before ++ (x ∷ [])) rest (s ∙ sym (append_assoc before (x ∷ []) rest)) b.1),
  )

  -- ---- every name but the root is an input

  no_event : (w y : ℕ) → In y (inputs_in ls w) → is_event (inputs_in ls w) ≡ false
  no_event w y h = go (inputs_in ls w) h
    where
      go : (l : List ℕ) → In y l → is_event l ≡ false
      go [] k = absurd k
      go (z ∷ l) k = refl

  input_used : (w y : ℕ) → w < length (dict_in ls) → In y (inputs_in ls w) → In (input_for ls root y) (all_inputs (map (gate_for ls root) (gate_names ls root)))
  input_used w y h k =
      in_flat inputs_to (input_for ls root y) (gate_for ls root w) (map (gate_for ls root) (gate_names ls root))
      (in_map (gate_for ls root) w (gate_names ls root) (gate_in r w h (no_event w y k)))
      (subst (λ is. In (input_for ls root y) is) (sym (inputs_by (line_in (name_in ls w) ls) (map (input_for ls root) (inputs_in ls w)))) (in_map (input_for ls root) y (inputs_in ls w) k))

  name_used : (x : ℕ) → x < length (dict_in ls) → (x ≡ root → ⊥) → In (input_for ls root x) (all_inputs (map (gate_for ls root) (gate_names ls root)))
  name_used x h n = go (r.one.others x h)
    where
      go : (x ≡ root) ⊎ ((w : ℕ) × (w < length (dict_in ls)) × In x (inputs_in ls w)) → In (input_for ls root x) (all_inputs (map (gate_for ls root) (gate_names ls root)))
      go (inl e) = absurd (n e)
      go (inr (w, l, k)) = input_used w x l k

  module _ (filled : AllFilled ls) where
    event_used : (e : ℕ) → e < length (event_names ls root) → In (event e) (all_inputs (map (gate_for ls root) (gate_names ls root)))
    event_used e h =
        let x = get_or (event_names ls root) e 0 in
        let (l, q) = event_is r x (at_in 0 (event_names ls root) e h) in
        subst (λ i. In i (all_inputs (map (gate_for ls root) (gate_names ls root)))) (is_event_lem x q (name_place (event_names ls root) e (events_once r) h))
        (name_used x l (λ p. true≢false (sym q ∙ ap (λ z. is_event (inputs_in ls z)) p ∙ root_gate ls root filled r.lines.once r.one)))
      where
        is_event_lem : (x : ℕ) → is_event (inputs_in ls x) ≡ true → place_in x (event_names ls root) ≡ e → input_for ls root x ≡ event e
        is_event_lem x q p = rw q (ap event p)

    gate_used : (g : ℕ) → g + 1 < length (gate_names ls root) → In (gate g) (all_inputs (map (gate_for ls root) (gate_names ls root)))
    gate_used g h =
        let x = get_or (gate_names ls root) g 0 in
        let low : g < length (gate_names ls root) = omega arith in
        let (l, q) = gate_is r x (at_in 0 (gate_names ls root) g low) in
        subst (λ i. In i (all_inputs (map (gate_for ls root) (gate_names ls root)))) (is_gate x q (name_place (gate_names ls root) g (gates_once r) low)) (name_used x l (λ p. not_last p (root_last r filled)))
      where
        is_gate : (x : ℕ) → is_event (inputs_in ls x) ≡ false → place_in x (gate_names ls root) ≡ g → input_for ls root x ≡ gate g
        is_gate x q p = rw q (ap gate p)

        -- the root stands last, and once
        not_last : get_or (gate_names ls root) g 0 ≡ root → LastIs root (gate_names ls root) → ⊥
        not_last p last =
            let l = last.front in
            let e = last.is in
            let long : length (gate_names ls root) ≡ length l + 1 = ap length e ∙ length-append l (root ∷ []) in
            let low : g < length (gate_names ls root) = omega arith in
            let end : length l < length (gate_names ls root) = omega arith in
            let at : get_or (gate_names ls root) (length l) 0 ≡ root = ap (λ m. get_or m (length l) 0) e ∙ get_or-append_seam l root [] 0 in
            let same : g ≡ length l = sym (name_place (gate_names ls root) g (gates_once r) low)
            ∙ ap (λ z. place_in z (gate_names ls root)) (p ∙ sym at) ∙ name_place (gate_names ls root) (length l) (gates_once r) end in
            omega arith

    -- ---- the whole

    pub said_whole : Whole (tree_said ls root)
    unfolding tree_said
    said_whole =
        let e = length-map (event_names ls root) (chance_for ls) in
        let h = length-map (gate_names ls root) (gate_for ls root) in
        record {
          some_event = omega (arith, e, event_some r);
          some_gate = omega (arith, h, some (root_last r filled));
          below = subst (λ n. TreeBelow n (map (gate_for ls root) (gate_names ls root))) (sym e) (gates_below (gate_names ls root));
          lower = gates_lower [] (gate_names ls root) refl (gates_order r);
          events_used = λ i l. event_used i (omega arith);
          gates_used = λ i l. gate_used i (omega arith);
        }
      where
        some : LastIs root (gate_names ls root) → 1 ≤ length (gate_names ls root)
        some last = omega (arith, ap length last.is, length-append last.front (root ∷ []))

    pub said_lawful : broken limits (tree_said ls root) ≡ 0 → LawfulTree limits (tree_said ls root)
    said_lawful e = lawful_of (record { within = unbroken_within limits (tree_said ls root) e; whole = said_whole })
