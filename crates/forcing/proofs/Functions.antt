-- A TREE UNDER SETTINGS has the steps and the functions of the tree with the forced events fixed.
-- Assumes nothing.
use mathlib.Core.Path.{◌≡◌, refl, sym, ap, ap₂, ◌∙◌}
use mathlib.Core.Bool.{Bool, true, false, cond}
use mathlib.Core.List.{List, [], ◌∷◌, ◌++◌, map}
use Prim.Native.Nat.{ℕ, zero, suc, ◌+◌}
use lib.Dec.{leb}
use lib.ListN.{length, get_or}
use Rattle.paper.specs.Lists.{last_or}
use Rattle.paper.specs.Functions.{Fun}
use Rattle.paper.specs.Trees.{Input, event, gate, forced, Gate, and_g, or_g, least_g, distinct_inputs, event_f, const_f, gate_funs, root_fun}
use Rattle.paper.specs.Steps.{join_from, join_all, join_steps, join_all_steps, least, least_steps, input, value, event_steps, steps, values_from, steps_from, join_f, step_funs}
use Rattle.paper.specs.Store.{State, free, failed, sound, Settings}
use Rattle.paper.specs.Forcing.{settle, force_f, event_as, force_input, force_gate}
use Rattle.algebra.proofs.Lists.{map_append}
use Rattle.algebra.proofs.Rules.{values_rule}
use Rattle.records.specs.Trees.{GateLower, TreeLower}
use Rattle.forcing.proofs.Inputs.{distinct_forced}

module _ (s : Settings) where
  -- all of these functions with the forced events fixed
  abbrev fixed : List Fun → List Fun
  fixed = map (force_f s)

  fixed_long : (Fs : List Fun) → length (fixed Fs) ≡ length Fs
  fixed_long [] = refl
  fixed_long (F ∷ Fs) = ap suc (fixed_long Fs)

  fixed_at : (Fs : List Fun) (i : ℕ) → get_or (fixed Fs) i (const_f false) ≡ force_f s (get_or Fs i (const_f false))
  fixed_at [] i = refl
  fixed_at (F ∷ Fs) zero = refl
  fixed_at (F ∷ Fs) (suc i) = fixed_at Fs i

  -- ---- joins

  from_fixed : (z : Bool) (F : Fun) (Fs : List Fun) → join_from event_f const_f join_f z (force_f s F) (fixed Fs) ≡ force_f s (join_from event_f const_f join_f z F Fs)
  from_fixed z F [] = refl
  from_fixed z F (G ∷ Fs) = from_fixed z (join_f z F G) Fs

  all_fixed : (z : Bool) (Fs : List Fun) → join_all event_f const_f join_f z (fixed Fs) ≡ force_f s (join_all event_f const_f join_f z Fs)
  all_fixed z [] = refl
  all_fixed z (F ∷ Fs) = from_fixed z F Fs

  steps_fixed : (z : Bool) (F : Fun) (Fs : List Fun) → join_steps event_f const_f join_f z (force_f s F) (fixed Fs) ≡ fixed (join_steps event_f const_f join_f z F Fs)
  steps_fixed z F [] = refl
  steps_fixed z F (G ∷ Fs) = ap (force_f s F ∷◌) (steps_fixed z (join_f z F G) Fs)

  all_steps_fixed : (z : Bool) (Fs : List Fun) → join_all_steps event_f const_f join_f z (fixed Fs) ≡ fixed (join_all_steps event_f const_f join_f z Fs)
  all_steps_fixed z [] = refl
  all_steps_fixed z (F ∷ Fs) = steps_fixed z F Fs

  -- ---- at least

  pick_fixed : (b : Bool) (F G : Fun) → cond b (force_f s F) (force_f s G) ≡ force_f s (cond b F G)
  pick_fixed true F G = refl
  pick_fixed false F G = refl

  picks_fixed : (b : Bool) (Fs Gs : List Fun) → cond b (fixed Fs) (fixed Gs) ≡ fixed (cond b Fs Gs)
  picks_fixed true Fs Gs = refl
  picks_fixed false Fs Gs = refl

  least_fixed : (k : ℕ) (Fs : List Fun) → least event_f const_f join_f k (fixed Fs) ≡ force_f s (least event_f const_f join_f k Fs)
  least_fixed zero Fs = refl
  least_fixed (suc k) [] = refl
  least_fixed (suc k) (F ∷ Fs) =
      ap₂ (λ G H. cond (leb (suc k) (suc (length (fixed Fs)))) (join_f true (join_f false (force_f s F) G) H) (const_f false)) (least_fixed k Fs) (least_fixed (suc k) Fs)
      ∙ ap (λ m. cond (leb (suc k) (suc m)) (force_f s (join_f true (join_f false F (least event_f const_f join_f k Fs)) (least event_f const_f join_f (suc k) Fs))) (const_f false)) (fixed_long Fs)
      ∙ pick_fixed (leb (suc k) (suc (length Fs))) (join_f true (join_f false F (least event_f const_f join_f k Fs)) (least event_f const_f join_f (suc k) Fs)) (const_f false)

  least_steps_fixed : (k : ℕ) (Fs : List Fun) → least_steps event_f const_f join_f k (fixed Fs) ≡ fixed (least_steps event_f const_f join_f k Fs)
  least_steps_fixed zero Fs = refl
  least_steps_fixed (suc k) [] = refl
  least_steps_fixed (suc k) (F ∷ Fs) =
      let now : List Fun = least event_f const_f join_f (suc k) (F ∷ Fs) ∷ (join_f false F (least event_f const_f join_f k Fs) ∷ (least_steps event_f const_f join_f k Fs ++ least_steps event_f const_f join_f (suc k) Fs)) in
      let rest : least_steps event_f const_f join_f k (fixed Fs) ++ least_steps event_f const_f join_f (suc k) (fixed Fs) ≡ fixed (least_steps event_f const_f join_f k Fs ++ least_steps event_f const_f join_f (suc k) Fs)
      = ap₂ ◌++◌ (least_steps_fixed k Fs) (least_steps_fixed (suc k) Fs) ∙ sym (map_append (force_f s) (least_steps event_f const_f join_f k Fs) (least_steps event_f const_f join_f (suc k) Fs)) in
      let steps_now : least event_f const_f join_f (suc k) (fixed (F ∷ Fs)) ∷ (join_f false (force_f s F) (least event_f const_f join_f k (fixed Fs)) ∷ (least_steps event_f const_f join_f k (fixed Fs) ++ least_steps event_f const_f join_f (suc k) (fixed Fs))) ≡ fixed now
      = ap₂ ◌∷◌ (least_fixed (suc k) (F ∷ Fs)) (ap₂ ◌∷◌ (ap (join_f false (force_f s F)) (least_fixed k Fs)) rest) in
      ap (λ Gs. cond (leb (suc k) (suc (length (fixed Fs)))) Gs (const_f false ∷ [])) steps_now
      ∙ ap (λ m. cond (leb (suc k) (suc m)) (fixed now) (const_f false ∷ [])) (fixed_long Fs)
      ∙ picks_fixed (leb (suc k) (suc (length Fs))) now (const_f false ∷ [])

  -- ---- inputs

  input_fixed : (gs : List Fun) (i : Input) → input event_f const_f join_f (fixed gs) (force_input s i) ≡ force_f s (input event_f const_f join_f gs i)
  input_fixed gs (event e) = go (s e)
    where
      go : (x : State) → input event_f const_f join_f (fixed gs) (event_as e x) ≡ (λ v. settle x (v e))
      go free = refl
      go failed = refl
      go sound = refl
  input_fixed gs (gate i) = fixed_at gs i
  input_fixed gs (forced e b) = refl

  inputs_fixed : (gs : List Fun) (is : List Input) → map (input event_f const_f join_f (fixed gs)) (map (force_input s) is) ≡ fixed (map (input event_f const_f join_f gs) is)
  inputs_fixed gs [] = refl
  inputs_fixed gs (i ∷ is) = ap₂ ◌∷◌ (input_fixed gs i) (inputs_fixed gs is)

  events_fixed : (is : List Input) → event_steps event_f const_f join_f (map (force_input s) is) ≡ fixed (event_steps event_f const_f join_f is)
  events_fixed [] = refl
  events_fixed (event e ∷ is) = go (s e) (events_fixed is)
    where
      go : (x : State) → event_steps event_f const_f join_f (map (force_input s) is) ≡ fixed (event_steps event_f const_f join_f is)
          → event_steps event_f const_f join_f (event_as e x ∷ map (force_input s) is) ≡ (λ v. settle x (v e)) ∷ fixed (event_steps event_f const_f join_f is)
      go free r = ap (event_f e ∷◌) r
      go failed r = ap (const_f true ∷◌) r
      go sound r = ap (const_f false ∷◌) r
  events_fixed (gate i ∷ is) = events_fixed is
  events_fixed (forced e b ∷ is) = ap (const_f b ∷◌) (events_fixed is)

  -- ---- gates: g is the number of one

  value_fixed : (gs : List Fun) (g : ℕ) (x : Gate) → GateLower g x → value event_f const_f join_f (fixed gs) (force_gate s x) ≡ force_f s (value event_f const_f join_f gs x)
  value_fixed gs g (and_g is) l = ap (join_all event_f const_f join_f false) (inputs_fixed gs is) ∙ all_fixed false (map (input event_f const_f join_f gs) is)
  value_fixed gs g (or_g is) l = ap (join_all event_f const_f join_f true) (inputs_fixed gs is) ∙ all_fixed true (map (input event_f const_f join_f gs) is)
  value_fixed gs g (least_g k is) l =
      ap (λ js. least event_f const_f join_f k (map (input event_f const_f join_f (fixed gs)) js)) (distinct_forced s g is l)
      ∙ ap (least event_f const_f join_f k) (inputs_fixed gs (distinct_inputs is))
      ∙ least_fixed k (map (input event_f const_f join_f gs) (distinct_inputs is))

  both : (Es Fs Gs Hs : List Fun) → Es ≡ fixed Gs → Fs ≡ fixed Hs → Es ++ Fs ≡ fixed (Gs ++ Hs)
  both Es Fs Gs Hs p q = ap₂ ◌++◌ p q ∙ sym (map_append (force_f s) Gs Hs)

  gate_fixed : (gs : List Fun) (g : ℕ) (x : Gate) → GateLower g x → steps event_f const_f join_f (fixed gs) (force_gate s x) ≡ fixed (steps event_f const_f join_f gs x)
  gate_fixed gs g (and_g is) l =
      let Fs : List Fun = map (input event_f const_f join_f gs) is in
      both _ _ (event_steps event_f const_f join_f is) (join_all_steps event_f const_f join_f false Fs) (events_fixed is) (ap (join_all_steps event_f const_f join_f false) (inputs_fixed gs is) ∙ all_steps_fixed false Fs)
  gate_fixed gs g (or_g is) l =
      let Fs : List Fun = map (input event_f const_f join_f gs) is in
      both _ _ (event_steps event_f const_f join_f is) (join_all_steps event_f const_f join_f true Fs) (events_fixed is) (ap (join_all_steps event_f const_f join_f true) (inputs_fixed gs is) ∙ all_steps_fixed true Fs)
  gate_fixed gs g (least_g k is) l =
      let js : List Input = distinct_inputs is in
      let Fs : List Fun = map (input event_f const_f join_f gs) js in
      ap (λ xs. event_steps event_f const_f join_f xs ++ least_steps event_f const_f join_f k (map (input event_f const_f join_f (fixed gs)) xs)) (distinct_forced s g is l)
      ∙ both _ _ (event_steps event_f const_f join_f js) (least_steps event_f const_f join_f k Fs) (events_fixed js) (ap (least_steps event_f const_f join_f k) (inputs_fixed gs js) ∙ least_steps_fixed k Fs)

  -- ---- trees

  one_more : (gs : List Fun) (g : ℕ) (x : Gate) → GateLower g x → fixed gs ++ (value event_f const_f join_f (fixed gs) (force_gate s x) ∷ []) ≡ fixed (gs ++ (value event_f const_f join_f gs x ∷ []))
  one_more gs g x l = ap (λ F. fixed gs ++ (F ∷ [])) (value_fixed gs g x l) ∙ sym (map_append (force_f s) gs (value event_f const_f join_f gs x ∷ []))

  values_fixed : (gs : List Fun) (g : ℕ) (t : List Gate) → TreeLower g t → values_from event_f const_f join_f (fixed gs) (map (force_gate s) t) ≡ fixed (values_from event_f const_f join_f gs t)
  values_fixed gs g [] l = refl
  values_fixed gs g (x ∷ t) l =
      ap (λ hs. values_from event_f const_f join_f hs (map (force_gate s) t)) (one_more gs g x l.0) ∙ values_fixed (gs ++ (value event_f const_f join_f gs x ∷ [])) (g + 1) t l.1

  tree_fixed : (gs : List Fun) (g : ℕ) (t : List Gate) → TreeLower g t → steps_from event_f const_f join_f (fixed gs) (map (force_gate s) t) ≡ fixed (steps_from event_f const_f join_f gs t)
  tree_fixed gs g [] l = refl
  tree_fixed gs g (x ∷ t) l =
      let hs : List Fun = gs ++ (value event_f const_f join_f gs x ∷ []) in
      both _ _ (steps event_f const_f join_f gs x) (steps_from event_f const_f join_f hs t) (gate_fixed gs g x l.0)
      (ap (λ ks. steps_from event_f const_f join_f ks (map (force_gate s) t)) (one_more gs g x l.0) ∙ tree_fixed hs (g + 1) t l.1)

  last_fixed : (F : Fun) (Fs : List Fun) → last_or (force_f s F) (fixed Fs) ≡ force_f s (last_or F Fs)
  last_fixed F [] = refl
  last_fixed F (G ∷ Fs) = last_fixed G Fs

-- the function of gate i
pub forced_at : (s : Settings) (Fs : List Fun) (i : ℕ) → get_or (map (force_f s) Fs) i (const_f false) ≡ force_f s (get_or Fs i (const_f false))
forced_at s Fs i = fixed_at s Fs i

-- of a tree as it is read
module _ (s : Settings) (t : List Gate) (low : TreeLower 0 t) where
  -- THE STEPS are those of the tree with the forced events fixed
  pub forced_steps : step_funs (map (force_gate s) t) ≡ map (force_f s) (step_funs t)
  unfolding step_funs
  forced_steps = tree_fixed s [] 0 t low

  -- THE FUNCTIONS of its gates, and of its root
  pub forced_gates : gate_funs (map (force_gate s) t) ≡ map (force_f s) (gate_funs t)
  unfolding gate_funs
  forced_gates = sym (values_rule [] (map (force_gate s) t)) ∙ values_fixed s [] 0 t low ∙ ap (map (force_f s)) (values_rule [] t)

  pub forced_root : root_fun (map (force_gate s) t) ≡ force_f s (root_fun t)
  unfolding root_fun
  forced_root = ap (last_or (const_f false)) forced_gates ∙ last_fixed s (const_f false) (gate_funs t)
