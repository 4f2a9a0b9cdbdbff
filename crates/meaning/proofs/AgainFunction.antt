-- In a lawful tree's text the name of each gate means the gate's function.
-- Assumes nothing.
use mathlib.Core.Path.{◌≡◌, refl, sym, ap, ap₂, ◌∙◌, subst}
use mathlib.Core.Logic.{inl, inr}
use mathlib.Core.Bool.{Bool, true, false, cond, ◌&&◌, ◌||◌}
use mathlib.Core.List.{List, [], ◌∷◌, ◌++◌, map, append-nil, append_assoc}
use Prim.Native.Nat.{ℕ, zero, suc, ◌+◌, ◌-◌, ◌<◌, ◌≤◌}
use native.Mathlib.Decide.{dec_lt}
use native.Mathlib.Omega.{arith}
use lib.Dec.{leb}
use lib.ListN.{get_or, length, length-append, get_or-append}
use lib.Seq.{get_or-append_seam}
use Rattle.paper.specs.Limits.{limits}
use Rattle.paper.specs.Lists.{In}
use Rattle.paper.specs.Bytes.{same}
use Rattle.paper.specs.Twins.{firsts}
use Rattle.paper.specs.Sets.{Set}
use Rattle.paper.specs.Functions.{Fun}
use Rattle.paper.specs.Trees.{Input, event, gate, forced, Gate, and_g, or_g, least_g, same_input, distinct_inputs, Tree, events, const_f, every_fails, some_fails, count_fails, input_fun, gate_fun, gate_funs_from, gate_funs, root_fun, InputBelow}
use Rattle.paper.specs.Meaning.{Names, some_name, every_name, count_names, connected, by_line, fails_in}
use Rattle.paper.specs.Importing.{inputs_to}
use Rattle.paper.specs.Exporting.{event_name, gate_name, input_name}
use Rattle.records.specs.Trees.{InputLower}
use Rattle.twins.proofs.Firsts.{firsts_in}
use Rattle.algebra.proofs.Lists.{last_is}
use Rattle.meaning.specs.Within.{LeastFits}
use Rattle.meaning.specs.Exported.{connective_for, lines_said}
use Rattle.meaning.proofs.Words.{at_in}
use Rattle.meaning.proofs.Rules.{Rules}
use Rattle.meaning.proofs.Retold.{no_gate}
use Rattle.meaning.proofs.Twins.{Small, distinct_names}
use Rattle.meaning.proofs.AgainNames.{below_at, lower_at, input_small, gate_line_is, event_line_is}

-- ---- a gate of one input is that input

or_one : (b : Bool) → (b || false) ≡ (b && true)
or_one true = refl
or_one false = refl

least_one : (b : Bool) → (b || false) ≡ leb 1 (cond b 1 0 + 0)
least_one true = refl
least_one false = refl

-- ---- a gate over inputs whose names have their values

module _ (gs : List Fun) (v : Set) (f : Names) where
  abbrev Agree : List Input → Type 0
  Agree is = (i : Input) → In i is → f (input_name i) ≡ input_fun gs i v

  some_agree : (is : List Input) → Agree is → some_name f (map input_name is) ≡ some_fails (map (input_fun gs) is) v
  some_agree [] a = refl
  some_agree (i ∷ is) a = ap₂ ◌||◌ (a i (inl refl)) (some_agree is (λ j h. a j (inr h)))

  every_agree : (is : List Input) → Agree is → every_name f (map input_name is) ≡ every_fails (map (input_fun gs) is) v
  every_agree [] a = refl
  every_agree (i ∷ is) a = ap₂ ◌&&◌ (a i (inl refl)) (every_agree is (λ j h. a j (inr h)))

  count_agree : (is : List Input) → Agree is → count_names f (map input_name is) ≡ count_fails (map (input_fun gs) is) v
  count_agree [] a = refl
  count_agree (i ∷ is) a = ap₂ (λ b n. cond b 1 0 + n) (a i (inl refl)) (count_agree is (λ j h. a j (inr h)))

  -- an at-least gate over the distinct ones
  least_agree : (is : List Input) → ((i : Input) → In i is → Small i) → Agree is → count_names f (firsts same (map input_name is)) ≡ count_fails (map (input_fun gs) (distinct_inputs is)) v
  least_agree is h a = ap (count_names f) (distinct_names is h) ∙ count_agree (distinct_inputs is) (λ i k. a i (firsts_in same_input i is k))

  gate_agree : (x : Gate) → LeastFits x → ((i : Input) → In i (inputs_to x) → Small i) → Agree (inputs_to x) → connected (connective_for x (inputs_to x)) f (map input_name (inputs_to x)) ≡ gate_fun gs x v
  gate_agree (and_g []) l h a = every_agree [] a
  gate_agree (and_g (i ∷ [])) l h a = or_one (f (input_name i)) ∙ ap (λ b. b && true) (a i (inl refl))
  gate_agree (and_g (i ∷ j ∷ is)) l h a = every_agree (i ∷ j ∷ is) a
  gate_agree (or_g []) l h a = some_agree [] a
  gate_agree (or_g (i ∷ [])) l h a = some_agree (i ∷ []) a
  gate_agree (or_g (i ∷ j ∷ is)) l h a = some_agree (i ∷ j ∷ is) a
  gate_agree (least_g k []) l h a = ap (leb k) (count_agree [] a)
  gate_agree (least_g k (i ∷ [])) l h a =
      let e : 1 ≡ k = omega (arith, l.0, l.1) in
      least_one (f (input_name i)) ∙ ap₂ leb e (count_agree (i ∷ []) a)
  gate_agree (least_g k (i ∷ j ∷ is)) l h a = ap (leb k) (least_agree (i ∷ j ∷ is) h a)

module _ (t : Tree) (w : Rules limits t) (S : Names) (v : Set) (own : (e : ℕ) → e < events t → S (event_name e) ≡ v e) where
  event_fails : (k e : ℕ) → e < events t → fails_in (lines_said t) k S (event_name e) ≡ v e
  unfolding fails_in
  event_fails zero e h = own e h
  event_fails (suc k) e h = ap (λ m. by_line m (S (event_name e)) (fails_in (lines_said t) k S)) (event_line_is t w e) ∙ own e h

  -- gs are the functions of the first h gates, to any depth beyond their number
  abbrev Right : ℕ → List Fun → Type 0
  Right h gs = (j : ℕ) → j < h → (k : ℕ) → j < k → fails_in (lines_said t) k S (gate_name j) ≡ get_or gs j (const_f false) v

  input_fails : (h : ℕ) (gs : List Fun) → Right h gs → (k : ℕ) → h ≤ k → (i : Input) → InputBelow (events t) i → InputLower h i → fails_in (lines_said t) k S (input_name i) ≡ input_fun gs i v
  input_fails h gs r k l (event e) b c = event_fails k e b
  input_fails h gs r k l (gate j) b c = r j c k (omega arith)
  input_fails h gs r k l (forced e x) b c = absurd c

  gate_fails : (h : ℕ) (gs : List Fun) → h < length t.gates → Right h gs → (k : ℕ) → h < k → fails_in (lines_said t) k S (gate_name h) ≡ gate_fun gs (get_or t.gates h no_gate) v
  unfolding fails_in
  gate_fails h gs l r zero q = let b : ⊥ = omega arith in absurd b
  gate_fails h gs l r (suc k) q =
      ap (λ m. by_line m (S (gate_name h)) (fails_in (lines_said t) k S)) (gate_line_is t w h l)
      ∙ gate_agree gs v (fails_in (lines_said t) k S) (get_or t.gates h no_gate) (w.within.leasts (get_or t.gates h no_gate) (at_in no_gate t.gates h l)) (input_small t w h l)
      (λ i m. input_fails h gs r k (omega arith) i (below_at (events t) t.gates w.whole.below h i m) (let z : 0 + h ≡ h = omega arith in subst (λ n. InputLower n i) z (lower_at 0 t.gates w.whole.lower h i m)))

  right_more : (h : ℕ) (gs : List Fun) (x : Gate) → length gs ≡ h → h < length t.gates → get_or t.gates h no_gate ≡ x → Right h gs → Right (suc h) (gs ++ (gate_fun gs x ∷ []))
  right_more h gs x s l e r j b k q = go (dec_lt j h)
    where
      go : Dec (j < h) → fails_in (lines_said t) k S (gate_name j) ≡ get_or (gs ++ (gate_fun gs x ∷ [])) j (const_f false) v
      go (yes c) = let i : j < length gs = omega arith in r j c k q ∙ ap (λ F. F v) (sym (get_or-append gs (gate_fun gs x ∷ []) (const_f false) j i))
      go (no c) =
          let p : j ≡ h = omega arith in
          let d : length gs ≡ j = omega arith in
          ap (λ z. fails_in (lines_said t) k S (gate_name z)) p ∙ gate_fails h gs l r k (omega arith) ∙ ap (λ y. gate_fun gs y v) e
          ∙ ap (λ F. F v) (sym (get_or-append_seam gs (gate_fun gs x) [] (const_f false))) ∙ ap (λ z. get_or (gs ++ (gate_fun gs x ∷ [])) z (const_f false) v) d

  funs_from : (before rest : List Gate) (gs : List Fun) → t.gates ≡ before ++ rest → length gs ≡ length before → Right (length before) gs
      → (length (gate_funs_from gs rest) ≡ length t.gates) × Right (length t.gates) (gate_funs_from gs rest)
  funs_from before [] gs e s r =
      let q : length before ≡ length t.gates = ap length (sym (e ∙ append-nil before)) in
      (s ∙ q, subst (λ n. Right n gs) q r)
  funs_from before (x ∷ rest) gs e s r =
      let long : length t.gates ≡ length before + suc (length rest) = ap length e ∙ length-append before (x ∷ rest) in
      let at : get_or t.gates (length before) no_gate ≡ x = ap (λ l. get_or l (length before) no_gate) e ∙ get_or-append_seam before x rest no_gate in
      let one : suc (length before) ≡ length (before ++ (x ∷ [])) = (let z : suc (length before) ≡ length before + 1 = omega arith in z) ∙ sym (length-append before (x ∷ [])) in
      let m = length-append gs (gate_fun gs x ∷ []) in
      funs_from (before ++ (x ∷ [])) rest (gs ++ (gate_fun gs x ∷ [])) (e ∙ sym (append_assoc before (x ∷ []) rest)) (omega arith)
      (subst (λ n. Right n (gs ++ (gate_fun gs x ∷ []))) one (right_more (length before) gs x s (omega arith) at r))

  all_right : (length (gate_funs t.gates) ≡ length t.gates) × Right (length t.gates) (gate_funs t.gates)
  unfolding gate_funs
  all_right = funs_from [] t.gates [] refl refl (λ j h k q. let b : ⊥ = omega arith in absurd b)

  -- the name of the last gate means the root's function
  pub again_means : (k : ℕ) → length t.gates ≤ k → fails_in (lines_said t) k S (gate_name (length t.gates - 1)) ≡ root_fun t.gates v
  unfolding root_fun
  again_means k l =
      let some = w.whole.some_gate in
      let q : length t.gates - 1 ≡ length (gate_funs t.gates) - 1 = omega (arith, all_right.0) in
      all_right.1 (length t.gates - 1) (omega arith) k (omega arith) ∙ ap (λ i. get_or (gate_funs t.gates) i (const_f false) v) q ∙ ap (λ F. F v) (last_is (const_f false) (gate_funs t.gates))
