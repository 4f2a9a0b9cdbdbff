-- Gate by gate: more gates need no fewer nodes, what each gate adds comes to what all need, and where a table is too small one gate is the first that fills it.
-- Assumes nothing.
use mathlib.Core.Path.{◌≡◌, refl, sym, ap, ◌∙◌, subst}
use mathlib.Core.Logic.{◌⊎◌, inl, inr}
use mathlib.Core.List.{List, [], ◌∷◌, ◌++◌, map}
use Prim.Native.Nat.{ℕ, zero, suc, ◌+◌, ◌-◌, ◌≤◌, ◌<◌}
use native.Mathlib.Decide.{dec_lt}
use native.Mathlib.Omega.{arith}
use lib.ListN.{length, take}
use lib.Seq.{take_all, take-take}
use Rattle.paper.specs.Lists.{In, flat, up_to, sum, sum_of}
use Rattle.paper.specs.Functions.{Fun, fix_f, reach, table, table_discrete, varies}
use Rattle.paper.specs.Trees.{Gate, Tree, events, event_f, const_f}
use Rattle.paper.specs.Steps.{value, steps, steps_from, join_f, step_funs}
use Rattle.paper.specs.Nodes.{needed, nodes_needed, nodes_to_gate, nodes_of, nodes_added}
use Rattle.paper.specs.Answers.{NodesFull, FilledAt}
use Rattle.algebra.proofs.Lists.{in_left, in_right, in_append, in_keep, keep_in, in_map, map_in, in_flat, flat_in, distinct_le}

-- ---- more functions need no fewer nodes

needed_more : (n : ℕ) (Fs Gs : List Fun) → ((F : Fun) → In F Fs → In F Gs) → (X : List _) → In X (needed n Fs) → In X (needed n Gs)
needed_more n Fs Gs u X h =
    let (k, v) = keep_in varies X (map (table n) (flat (reach fix_f n 0) Fs)) h in
    let (F, l, e) = map_in (table n) X (flat (reach fix_f n 0) Fs) k in
    let (G, i, j) = flat_in (reach fix_f n 0) F Fs l in
    in_keep varies X (map (table n) (flat (reach fix_f n 0) Gs))
    (subst (λ Y. In Y (map (table n) (flat (reach fix_f n 0) Gs))) (sym e) (in_map (table n) F (flat (reach fix_f n 0) Gs) (in_flat (reach fix_f n 0) F G Gs (u G i) j)))
    v

needed_le : (n : ℕ) (Fs Gs : List Fun) → ((F : Fun) → In F Fs → In F Gs) → nodes_needed n Fs ≤ nodes_needed n Gs
unfolding nodes_needed
needed_le n Fs Gs u = distinct_le table_discrete (needed n Fs) (needed n Gs) (needed_more n Fs Gs u)

-- ---- the steps of the first gates are steps of the tree

front : (F : Fun) (gs : List Fun) (g : ℕ) (t : List Gate) → In F (steps_from event_f const_f join_f gs (take g t)) → In F (steps_from event_f const_f join_f gs t)
front F gs zero t h = absurd h
front F gs (suc g) [] h = absurd h
front F gs (suc g) (x ∷ t) h = go (in_append F own (steps_from event_f const_f join_f hs (take g t)) h) (front F hs g t)
  where
    own : List Fun
    own = steps event_f const_f join_f gs x

    hs : List Fun
    hs = gs ++ (value event_f const_f join_f gs x ∷ [])

    go : In F own ⊎ In F (steps_from event_f const_f join_f hs (take g t)) → (In F (steps_from event_f const_f join_f hs (take g t)) → In F (steps_from event_f const_f join_f hs t))
        → In F (own ++ steps_from event_f const_f join_f hs t)
    go (inl k) r = in_left F own (steps_from event_f const_f join_f hs t) k
    go (inr k) r = in_right F own (steps_from event_f const_f join_f hs t) (r k)

steps_front : (g : ℕ) (t : List Gate) (F : Fun) → In F (step_funs (take g t)) → In F (step_funs t)
unfolding step_funs
steps_front g t F h = front F [] g t h

module _ (t : Tree) where
  front_of : (g h : ℕ) → g ≤ h → take g (take h t.gates) ≡ take g t.gates
  front_of g h l = take-take g h t.gates l

  -- MORE GATES NEED NO FEWER NODES
  pub to_gate_le : (g h : ℕ) → g ≤ h → nodes_to_gate t g ≤ nodes_to_gate t h
  to_gate_le g h l = needed_le (events t) (step_funs (take g t.gates)) (step_funs (take h t.gates))
      (λ F k. steps_front g (take h t.gates) F (subst (λ s. In F (step_funs s)) (sym (front_of g h l)) k))

  pub to_gate_all : (g : ℕ) → length t.gates ≤ g → nodes_to_gate t g ≡ nodes_of t
  to_gate_all g l = ap (λ s. nodes_needed (events t) (step_funs s)) (take_all g t.gates l)

  pub to_gate_none : nodes_to_gate t 0 ≡ 0
  unfolding nodes_needed step_funs
  to_gate_none = refl

  pub to_gate_of : (g : ℕ) → nodes_to_gate t g ≤ nodes_of t
  to_gate_of g = needed_le (events t) (step_funs (take g t.gates)) (step_funs t.gates) (steps_front g t.gates)

  -- WHAT EACH GATE ADDS COMES TO WHAT ALL NEED
  added_from : (k m : ℕ) → nodes_to_gate t m + sum (map (nodes_added t) (up_to k m)) ≡ nodes_to_gate t (m + k)
  added_from zero m = let e : m + 0 ≡ m = omega arith in let z = ap (nodes_to_gate t) e in omega (arith, z)
  added_from (suc k) m =
      let e : suc m + k ≡ m + suc k = omega arith in
      let q : m + 1 ≡ suc m = omega arith in
      let x = ap (nodes_to_gate t) e in
      let y = ap (nodes_to_gate t) q in
      let r = added_from k (suc m) in
      let l = to_gate_le m (m + 1) (omega arith) in
      omega (arith, x, y, r, l)

  pub added_sum : sum_of (length t.gates) (nodes_added t) ≡ nodes_of t
  added_sum =
      let a = added_from (length t.gates) 0 in
      let b = to_gate_all (0 + length t.gates) (omega arith) in
      let z = to_gate_none in
      omega (arith, a, b, z)

  -- behind the last gate nothing is added
  pub added_behind : (g : ℕ) → length t.gates ≤ g → nodes_added t g ≡ 0
  added_behind g l = let a = to_gate_all g l in let b = to_gate_all (g + 1) (omega arith) in omega (arith, a, b)

  -- ---- where a table is full

  module _ (capacity : ℕ) where
    pub filled_full : {g : ℕ} → FilledAt t capacity g → NodesFull t capacity
    filled_full {g} f = let o = f.over in let l = to_gate_of (g + 1) in omega (arith, o, l)

    pub filled_once : {g h : ℕ} → FilledAt t capacity g → FilledAt t capacity h → g ≡ h
    filled_once {g} {h} f k = let a = f.least h k.over in let b = k.least g f.over in omega (arith, a, b)

    -- the first gate that fills it is one of the first k
    abbrev Among : ℕ → Type 0
    Among k = (g : ℕ) × (g < k) × (capacity < nodes_to_gate t (g + 1)) × ((h : ℕ) → capacity < nodes_to_gate t (h + 1) → g ≤ h)

    -- or all of them fit
    first_of : (k : ℕ) → Among k ⊎ (nodes_to_gate t k ≤ capacity)
    first_of zero = inr (let z = to_gate_none in omega (arith, z))
    first_of (suc k) = go (first_of k) (dec_lt capacity (nodes_to_gate t (suc k)))
      where
        next : nodes_to_gate t (k + 1) ≡ nodes_to_gate t (suc k)
        next = let q : k + 1 ≡ suc k = omega arith in ap (nodes_to_gate t) q

        go : Among k ⊎ (nodes_to_gate t k ≤ capacity) → Dec (capacity < nodes_to_gate t (suc k))
            → Among (suc k) ⊎ (nodes_to_gate t (suc k) ≤ capacity)
        go (inl (g, l, o, m)) d = inl (g, omega arith, o, m)
        go (inr f) (yes o) = inl (k, omega arith, (let n = next in omega (arith, n)), λ h q. least h q (dec_lt h k))
          where
            least : (h : ℕ) → capacity < nodes_to_gate t (h + 1) → Dec (h < k) → k ≤ h
            least h q (yes l) = absurd (let z = to_gate_le (h + 1) k (omega arith) in omega (arith, z, f, q))
            least h q (no n) = omega arith
        go (inr f) (no n) = inr (omega arith)

    pub full_filled : NodesFull t capacity → (g : ℕ) × FilledAt t capacity g
    full_filled f = go (first_of (length t.gates))
      where
        go : Among (length t.gates) ⊎ (nodes_to_gate t (length t.gates) ≤ capacity)
            → (g : ℕ) × FilledAt t capacity g
        go (inl (g, l, o, m)) = (g, record { inside = l; over = o; least = m })
        go (inr n) = absurd (let e = to_gate_all (length t.gates) (omega arith) in omega (arith, e, n, f))
