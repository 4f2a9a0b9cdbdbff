-- THE TREE THAT A TEXT SAYS has the text's function: each of its gates has the function of its name.
-- Assumes nothing.
use mathlib.Core.Path.{◌≡◌, refl, sym, ap, ap₂, ◌∙◌, subst}
use mathlib.Core.Logic.{◌⊎◌, inl, inr}
use mathlib.Core.Bool.{Bool, true, false, cond, ◌&&◌, ◌||◌, true≢false, false≢true}
use mathlib.Core.List.{List, [], ◌∷◌, ◌++◌, map, append-nil, append_assoc}
use Prim.Native.Nat.{ℕ, zero, suc, ◌+◌, ◌-◌, ◌<◌, ◌≤◌}
use native.Mathlib.Decide.{dec_lt}
use native.Mathlib.Omega.{arith}
use lib.Dec.{leb}
use lib.ListN.{get_or, length, length-append, get_or-append}
use lib.Seq.{get_or-append_seam}
use Rattle.paper.specs.Lists.{In}
use Rattle.paper.specs.Bytes.{same}
use Rattle.paper.specs.Twins.{firsts}
use Rattle.paper.specs.Sets.{Set}
use Rattle.paper.specs.Functions.{Fun}
use Rattle.paper.specs.Trees.{event, gate, distinct_inputs, const_f, every_fails, some_fails, count_fails, input_fun, gate_fun, gate_funs_from, gate_funs, root_fun}
use Rattle.paper.specs.Grammar.{Line, bad, chance, equation, by_or, by_and, at_least}
use Rattle.paper.specs.Texts.{Placed}
use Rattle.paper.specs.Equations.{dict_in, name_in, names_in, line_in, rights_of, numbers, number_of, inputs_in}
use Rattle.paper.specs.Walks.{is_event}
use Rattle.paper.specs.Meaning.{Names, some_name, every_name, count_names, by_line, fails_in, event_names, gate_names, place_in, input_for, gate_by, gate_for, tree_said}
use Rattle.paper.specs.Importing.{Rooted}
use Rattle.twins.proofs.Firsts.{firsts_in}
use Rattle.algebra.proofs.Lists.{in_map, last_is}
use Rattle.depthfirst.proofs.Counting.{place_low, place_is}
use Rattle.depthfirst.proofs.Answers.{LastIs}
use Rattle.meaning.specs.Said.{under_numbers, Filled, AllFilled}
use Rattle.meaning.proofs.Words.{place_front, name_of_number, number_of_name, number_low, in_dict}
use Rattle.meaning.proofs.Defining.{line_names, line_filled}
use Rattle.meaning.proofs.Gates.{Behind}
use Rattle.meaning.proofs.Naming.{gate_is, gates_few, gates_order, root_last}
use Rattle.meaning.proofs.Twins.{distinct_named}

-- ---- an event fails by itself

own_by : (D : List (List ℕ)) (l : Line) → Filled l → is_event (numbers D (rights_of l)) ≡ true → (own : Bool) (f : Names) → by_line l own f ≡ own
own_by D bad h e own f = refl
own_by D (chance x n) h e own f = refl
own_by D (equation x c []) h e own f = absurd h
own_by D (equation x c (y ∷ ys)) h e own f = absurd (false≢true e)

own_fails : (ls : List Placed) → AllFilled ls → (k : ℕ) (S : Names) (x : ℕ) → is_event (inputs_in ls x) ≡ true → fails_in ls k S (name_in ls x) ≡ S (name_in ls x)
unfolding fails_in inputs_in
own_fails ls h zero S x e = refl
own_fails ls h (suc k) S x e = own_by (dict_in ls) (line_in (name_in ls x) ls) (line_filled (name_in ls x) ls h) e (S (name_in ls x)) (fails_in ls k S)

module _ {ls : List Placed} {root : ℕ} (filled : AllFilled ls) (r : Rooted ls root) (v : Set) where
  abbrev S : Names
  S = under_numbers ls root v

  event_fails : (k x : ℕ) → x < length (dict_in ls) → is_event (inputs_in ls x) ≡ true → v (place_in x (event_names ls root)) ≡ fails_in ls k S (name_in ls x)
  event_fails k x h e = sym (own_fails ls filled k S x e ∙ ap (λ z. v (place_in z (event_names ls root))) (number_of_name ls x h))

  -- ---- the inputs of a gate

  -- gs are the functions of the gates `before`, to any depth beyond their number
  abbrev Right : List ℕ → List Fun → Type 0
  Right before gs = (j : ℕ) → j < length before → (k : ℕ) → j < k → get_or gs j (const_f false) v ≡ fails_in ls k S (name_in ls (get_or before j 0))

  module _ (before rest : List ℕ) (gs : List Fun) (split : gate_names ls root ≡ before ++ rest) (right : Right before gs) where
    gate_fails : (k x : ℕ) → In x before → length before ≤ k → get_or gs (place_in x (gate_names ls root)) (const_f false) v ≡ fails_in ls k S (name_in ls x)
    gate_fails k x h l =
        let p = place_low x before h in
        ap (λ j. get_or gs j (const_f false) v) (ap (place_in x) split ∙ place_front x before rest h)
        ∙ right (place_in x before) p k (omega arith) ∙ ap (λ z. fails_in ls k S (name_in ls z)) (place_is x before h)

    input_fails : (k x : ℕ) → x < length (dict_in ls) → (is_event (inputs_in ls x) ≡ true) ⊎ In x before → length before ≤ k
        → input_fun gs (input_for ls root x) v ≡ fails_in ls k S (name_in ls x)
    input_fails k x h b l = go (is_event (inputs_in ls x)) refl b
      where
        go : (t : Bool) → is_event (inputs_in ls x) ≡ t → (is_event (inputs_in ls x) ≡ true) ⊎ In x before
            → input_fun gs (cond t (event (place_in x (event_names ls root))) (gate (place_in x (gate_names ls root)))) v ≡ fails_in ls k S (name_in ls x)
        go true e q = event_fails k x h e
        go false e (inl q) = absurd (true≢false (sym q ∙ e))
        go false e (inr q) = gate_fails k x q l

  -- ---- a gate by its line

  module _ (gs : List Fun) (f : Names) where
    -- the inputs have the values f of their names
    abbrev Agree : List (List ℕ) → Type 0
    Agree ys = (y : List ℕ) → In y ys → input_fun gs (input_for ls root (number_of y (dict_in ls))) v ≡ f y

    abbrev row_of : List (List ℕ) → List Fun
    row_of ys = map (input_fun gs) (map (input_for ls root) (numbers (dict_in ls) ys))

    some_agree : (ys : List (List ℕ)) → Agree ys → some_fails (row_of ys) v ≡ some_name f ys
    some_agree [] a = refl
    some_agree (y ∷ ys) a = ap₂ ◌||◌ (a y (inl refl)) (some_agree ys (λ z h. a z (inr h)))

    every_agree : (ys : List (List ℕ)) → Agree ys → every_fails (row_of ys) v ≡ every_name f ys
    every_agree [] a = refl
    every_agree (y ∷ ys) a = ap₂ ◌&&◌ (a y (inl refl)) (every_agree ys (λ z h. a z (inr h)))

    count_agree : (ys : List (List ℕ)) → Agree ys → count_fails (row_of ys) v ≡ count_names f ys
    count_agree [] a = refl
    count_agree (y ∷ ys) a = ap₂ (λ b n. cond b 1 0 + n) (a y (inl refl)) (count_agree ys (λ z h. a z (inr h)))

    -- an at_least gate over the distinct ones
    least_agree : (ys : List (List ℕ)) → ((y : List ℕ) → In y ys → In y (names_in ls)) → Agree ys
        → count_fails (map (input_fun gs) (distinct_inputs (map (input_for ls root) (numbers (dict_in ls) ys)))) v ≡ count_names f (firsts same ys)
    least_agree ys h a = ap (λ is. count_fails (map (input_fun gs) is) v) (distinct_named r ys h) ∙ count_agree (firsts same ys) (λ y k. a y (firsts_in same y ys k))

    by_line_lem : (l : Line) → is_event (numbers (dict_in ls) (rights_of l)) ≡ false → ((y : List ℕ) → In y (rights_of l) → In y (names_in ls)) → Agree (rights_of l) → (own : Bool)
        → gate_fun gs (gate_by l (map (input_for ls root) (numbers (dict_in ls) (rights_of l)))) v ≡ by_line l own f
    by_line_lem bad e h a own = absurd (true≢false e)
    by_line_lem (chance x n) e h a own = absurd (true≢false e)
    by_line_lem (equation x by_or ys) e h a own = some_agree ys a
    by_line_lem (equation x by_and ys) e h a own = every_agree ys a
    by_line_lem (equation x (at_least k) ys) e h a own = ap (leb k) (least_agree ys h a)

  -- ---- gate after gate

  module _ (before rest : List ℕ) (x : ℕ) (gs : List Fun) (split : gate_names ls root ≡ before ++ (x ∷ rest)) (same : length gs ≡ length before)
      (right : Right before gs) (behind : (y : ℕ) → In y (inputs_in ls x) → (is_event (inputs_in ls y) ≡ true) ⊎ In y before) (own : is_event (inputs_in ls x) ≡ false) where
    agree : (k : ℕ) → length before ≤ k → Agree gs (fails_in ls k S) (rights_of (line_in (name_in ls x) ls))
    unfolding inputs_in
    agree k l y h =
        let named = line_names (name_in ls x) y ls h in
        let low = number_low y (dict_in ls) (in_dict y ls named) in
        let b = behind (number_of y (dict_in ls)) (in_map (λ w. number_of w (dict_in ls)) y (rights_of (line_in (name_in ls x) ls)) h) in
        input_fails before (x ∷ rest) gs split right k (number_of y (dict_in ls)) low b l ∙ ap (fails_in ls k S) (name_of_number y ls named)

    gate_means : (k : ℕ) → length before < k → gate_fun gs (gate_for ls root x) v ≡ fails_in ls k S (name_in ls x)
    unfolding inputs_in fails_in
    gate_means zero l = let b : ⊥ = omega arith in absurd b
    gate_means (suc k) l = by_line_lem gs (fails_in ls k S) (line_in (name_in ls x) ls) own (λ y h. line_names (name_in ls x) y ls h) (agree k (omega arith)) (S (name_in ls x))

    right_more : Right (before ++ (x ∷ [])) (gs ++ (gate_fun gs (gate_for ls root x) ∷ []))
    right_more j h k l = go (dec_lt j (length before)) (rw length-append at h)
      where
        go : Dec (j < length before) → j < length before + 1
            → get_or (gs ++ (gate_fun gs (gate_for ls root x) ∷ [])) j (const_f false) v ≡ fails_in ls k S (name_in ls (get_or (before ++ (x ∷ [])) j 0))
        go (yes q) b =
            let i : j < length gs = omega arith in
            ap (λ F. F v) (get_or-append gs (gate_fun gs (gate_for ls root x) ∷ []) (const_f false) j i) ∙ right j q k l
            ∙ ap (λ z. fails_in ls k S (name_in ls z)) (sym (get_or-append before (x ∷ []) 0 j q))
        go (no q) b =
            let e : j ≡ length before = omega arith in
            let d : j ≡ length gs = omega arith in
            ap (λ i. get_or (gs ++ (gate_fun gs (gate_for ls root x) ∷ [])) i (const_f false) v) d
            ∙ ap (λ F. F v) (get_or-append_seam gs (gate_fun gs (gate_for ls root x)) [] (const_f false))
            ∙ gate_means k (omega arith)
            ∙ ap (λ z. fails_in ls k S (name_in ls z)) (sym (ap (λ i. get_or (before ++ (x ∷ [])) i 0) e ∙ get_or-append_seam before x [] 0))

  funs_from : (before rest : List ℕ) (gs : List Fun) → gate_names ls root ≡ before ++ rest → length gs ≡ length before → Right before gs → Behind (inputs_in ls) before rest
      → ((x : ℕ) → In x rest → is_event (inputs_in ls x) ≡ false)
      → (length (gate_funs_from gs (map (gate_for ls root) rest)) ≡ length (gate_names ls root)) × Right (gate_names ls root) (gate_funs_from gs (map (gate_for ls root) rest))
  funs_from before [] gs e s t b o =
      let q : gate_names ls root ≡ before = e ∙ append-nil before in
      (s ∙ ap length (sym q), subst (λ l. Right l gs) (sym q) t)
  funs_from before (x ∷ rest) gs e s t b o =
      funs_from (before ++ (x ∷ [])) rest (gs ++ (gate_fun gs (gate_for ls root x) ∷ []))
      (e ∙ sym (append_assoc before (x ∷ []) rest)) (length-append gs (gate_fun gs (gate_for ls root x) ∷ []) ∙ ap (λ m. m + 1) s ∙ sym (length-append before (x ∷ [])))
      (right_more before rest x gs e s t b.0 (o x (inl refl))) b.1 (λ y h. o y (inr h))

  all_right : (length (gate_funs (map (gate_for ls root) (gate_names ls root))) ≡ length (gate_names ls root)) × Right (gate_names ls root) (gate_funs (map (gate_for ls root) (gate_names ls root)))
  unfolding gate_funs
  all_right = funs_from [] (gate_names ls root) [] refl refl (λ j h k l. let b : ⊥ = omega arith in absurd b) (gates_order r) (λ x h. (gate_is r x h).1)

  -- EACH GATE has the function of its name
  pub gate_says : (i : ℕ) → i < length (gate_names ls root) → (k : ℕ) → length (dict_in ls) ≤ k
      → get_or (gate_funs (tree_said ls root).gates) i (const_f false) v ≡ fails_in ls k (under_numbers ls root v) (name_in ls (get_or (gate_names ls root) i 0))
  unfolding tree_said
  gate_says i h k l = all_right.1 i h k (omega (arith, gates_few r))

  -- THE ROOT that of its own
  pub said_means : (k : ℕ) → length (dict_in ls) ≤ k → root_fun (tree_said ls root).gates v ≡ fails_in ls k (under_numbers ls root v) (name_in ls root)
  unfolding root_fun tree_said
  said_means k l = ap (λ F. F v) (sym (last_is (const_f false) (gate_funs (map (gate_for ls root) (gate_names ls root))))) ∙ at_last (root_last r filled)
    where
      at_last : LastIs root (gate_names ls root)
          → get_or (gate_funs (map (gate_for ls root) (gate_names ls root))) (length (gate_funs (map (gate_for ls root) (gate_names ls root))) - 1) (const_f false) v ≡ fails_in ls k S (name_in ls root)
      at_last w =
          let front = w.front in
          let e = w.is in
          let long : length (gate_names ls root) ≡ length front + 1 = ap length e ∙ length-append front (root ∷ []) in
          let last : length (gate_funs (map (gate_for ls root) (gate_names ls root))) - 1 ≡ length front = omega (arith, all_right.0) in
          let at : get_or (gate_names ls root) (length front) 0 ≡ root = ap (λ l. get_or l (length front) 0) e ∙ get_or-append_seam front root [] 0 in
          ap (λ i. get_or (gate_funs (map (gate_for ls root) (gate_names ls root))) i (const_f false) v) last
          ∙ all_right.1 (length front) (omega arith) k (omega (arith, gates_few r)) ∙ ap (λ z. fails_in ls k S (name_in ls z)) at
