-- The steps of a tree, as diagrams and as functions.
-- Assumes nothing.
use mathlib.Core.Path.{◌≡◌, refl, sym, ap, ap₂, ◌∙◌, subst, fun_ext}
use mathlib.Core.Logic.{inl, inr}
use mathlib.Core.Bool.{Bool, true, false, cond, not, ◌&&◌, ◌||◌, true≢false, false≢true, and-true, or-false}
use mathlib.Core.List.{List, [], ◌∷◌, ◌++◌, map}
use Prim.Native.Nat.{ℕ, zero, suc, ◌+◌, ◌≤◌, ◌<◌}
use native.Mathlib.Omega.{arith}
use lib.ListN.{length, get_or}
use borrow.Author.Tests.{lt-leb, leb-false}
use lib.Dec.{leb, leb-zero, leb-suc-zero, leb-suc-suc}
use Rattle.paper.specs.Lists.{In, keep, flat}
use Rattle.paper.specs.Sets.{Set, none}
use Rattle.paper.specs.Functions.{Fun, table, Monotone}
use Rattle.paper.specs.Trees.{Input, event, gate, forced, Gate, and_g, or_g, least_g, distinct_inputs, event_f, const_f, count_fails, InputsBelow, GateBelow, TreeBelow, every_fails, some_fails}
use Rattle.paper.specs.Steps.{join_from, join_all, join_steps, join_all_steps, least, least_steps, input, value, event_steps, steps, values_from, steps_from, join, join_f, step_funs}
use Rattle.paper.specs.Nodes.{needed, nodes_needed}
use Rattle.paper.specs.Diagrams.{Diagram, leaf, eval}
use Rattle.twins.proofs.Inputs.{distinct_below}
use Rattle.algebra.specs.Operations.{join_d, subs, is_node, node_count, event_d, gate_diagrams, step_diagrams}
use Rattle.algebra.proofs.Join.{joined_from}
use Rattle.algebra.proofs.Without.{Fit}
use Rattle.algebra.proofs.Plain.{Good, count_law, node_needed, needed_node}

-- two lists, member by member
abbrev pub Pairs : {X Y : Type 0} → (X → Y → Type 0) → List X → List Y → Type 0
Pairs R [] [] = Unit {0}
Pairs R [] (y ∷ ys) = ⊥
Pairs R (x ∷ xs) [] = ⊥
Pairs R (x ∷ xs) (y ∷ ys) = R x y × Pairs R xs ys

-- what respects events, constants and joins respects all that is made of them
module _ {X Y : Type 0} (ev : ℕ → X) (ct : Bool → X) (jn : Bool → X → X → X) (ev' : ℕ → Y) (ct' : Bool → Y) (jn' : Bool → Y → Y → Y)
    (R : X → Y → Type 0) (n : ℕ) (rev : (e : ℕ) → e < n → R (ev e) (ev' e)) (rct : (b : Bool) → R (ct b) (ct' b))
    (rjn : (z : Bool) (x x' : X) (y y' : Y) → R x y → R x' y' → R (jn z x x') (jn' z y y')) where
  pairs_append : (xs xs' : List X) (ys ys' : List Y) → Pairs R xs ys → Pairs R xs' ys' → Pairs R (xs ++ xs') (ys ++ ys')
  pairs_append [] xs' [] ys' p q = q
  pairs_append [] xs' (y ∷ ys) ys' p q = absurd p
  pairs_append (x ∷ xs) xs' [] ys' p q = absurd p
  pairs_append (x ∷ xs) xs' (y ∷ ys) ys' p q = (p.0, pairs_append xs xs' ys ys' p.1 q)

  pairs_at : (xs : List X) (ys : List Y) (i : ℕ) (x : X) (y : Y) → Pairs R xs ys → R x y → R (get_or xs i x) (get_or ys i y)
  pairs_at [] [] i x y p r = r
  pairs_at [] (y' ∷ ys) i x y p r = absurd p
  pairs_at (x' ∷ xs) [] i x y p r = absurd p
  pairs_at (x' ∷ xs) (y' ∷ ys) zero x y p r = p.0
  pairs_at (x' ∷ xs) (y' ∷ ys) (suc i) x y p r = pairs_at xs ys i x y p.1 r

  r_join_from : (z : Bool) (x : X) (y : Y) (xs : List X) (ys : List Y) → R x y → Pairs R xs ys → R (join_from ev ct jn z x xs) (join_from ev' ct' jn' z y ys)
  r_join_from z x y [] [] r p = r
  r_join_from z x y [] (y' ∷ ys) r p = absurd p
  r_join_from z x y (x' ∷ xs) [] r p = absurd p
  r_join_from z x y (x' ∷ xs) (y' ∷ ys) r p = r_join_from z (jn z x x') (jn' z y y') xs ys (rjn z x x' y y' r p.0) p.1

  r_join_steps : (z : Bool) (x : X) (y : Y) (xs : List X) (ys : List Y) → R x y → Pairs R xs ys → Pairs R (join_steps ev ct jn z x xs) (join_steps ev' ct' jn' z y ys)
  r_join_steps z x y [] [] r p = (r, tt)
  r_join_steps z x y [] (y' ∷ ys) r p = absurd p
  r_join_steps z x y (x' ∷ xs) [] r p = absurd p
  r_join_steps z x y (x' ∷ xs) (y' ∷ ys) r p = (r, r_join_steps z (jn z x x') (jn' z y y') xs ys (rjn z x x' y y' r p.0) p.1)

  r_join_all : (z : Bool) (xs : List X) (ys : List Y) → Pairs R xs ys → R (join_all ev ct jn z xs) (join_all ev' ct' jn' z ys)
  r_join_all z [] [] p = rct (not z)
  r_join_all z [] (y ∷ ys) p = absurd p
  r_join_all z (x ∷ xs) [] p = absurd p
  r_join_all z (x ∷ xs) (y ∷ ys) p = r_join_from z x y xs ys p.0 p.1

  r_join_all_steps : (z : Bool) (xs : List X) (ys : List Y) → Pairs R xs ys → Pairs R (join_all_steps ev ct jn z xs) (join_all_steps ev' ct' jn' z ys)
  r_join_all_steps z [] [] p = (rct (not z), tt)
  r_join_all_steps z [] (y ∷ ys) p = absurd p
  r_join_all_steps z (x ∷ xs) [] p = absurd p
  r_join_all_steps z (x ∷ xs) (y ∷ ys) p = r_join_steps z x y xs ys p.0 p.1

  pairs_length : (xs : List X) (ys : List Y) → Pairs R xs ys → length xs ≡ length ys
  pairs_length [] [] p = refl
  pairs_length [] (y ∷ ys) p = absurd p
  pairs_length (x ∷ xs) [] p = absurd p
  pairs_length (x ∷ xs) (y ∷ ys) p = ap suc (pairs_length xs ys p.1)

  r_cond : (b : Bool) (x x' : X) (y y' : Y) → R x y → R x' y' → R (cond b x x') (cond b y y')
  r_cond true x x' y y' p q = p
  r_cond false x x' y y' p q = q

  pairs_cond : (b : Bool) (xs xs' : List X) (ys ys' : List Y) → Pairs R xs ys → Pairs R xs' ys' → Pairs R (cond b xs xs') (cond b ys ys')
  pairs_cond true xs xs' ys ys' p q = p
  pairs_cond false xs xs' ys ys' p q = q

  r_least : (k : ℕ) (xs : List X) (ys : List Y) → Pairs R xs ys → R (least ev ct jn k xs) (least ev' ct' jn' k ys)
  r_least zero xs ys p = rct true
  r_least (suc k) [] [] p = rct false
  r_least (suc k) [] (y ∷ ys) p = absurd p
  r_least (suc k) (x ∷ xs) [] p = absurd p
  r_least (suc k) (x ∷ xs) (y ∷ ys) p = rw (pairs_length (x ∷ xs) (y ∷ ys) p)
      (r_cond (leb (suc k) (length (y ∷ ys))) (jn true (jn false x (least ev ct jn k xs)) (least ev ct jn (suc k) xs)) (ct false)
      (jn' true (jn' false y (least ev' ct' jn' k ys)) (least ev' ct' jn' (suc k) ys)) (ct' false)
      (rjn true (jn false x (least ev ct jn k xs)) (least ev ct jn (suc k) xs) (jn' false y (least ev' ct' jn' k ys)) (least ev' ct' jn' (suc k) ys)
      (rjn false x (least ev ct jn k xs) y (least ev' ct' jn' k ys) p.0 (r_least k xs ys p.1)) (r_least (suc k) xs ys p.1))
      (rct false))

  r_least_steps : (k : ℕ) (xs : List X) (ys : List Y) → Pairs R xs ys → Pairs R (least_steps ev ct jn k xs) (least_steps ev' ct' jn' k ys)
  r_least_steps zero xs ys p = (rct true, tt)
  r_least_steps (suc k) [] [] p = (rct false, tt)
  r_least_steps (suc k) [] (y ∷ ys) p = absurd p
  r_least_steps (suc k) (x ∷ xs) [] p = absurd p
  r_least_steps (suc k) (x ∷ xs) (y ∷ ys) p = go (leb (suc k) (length (x ∷ xs))) (ap (leb (suc k)) (pairs_length (x ∷ xs) (y ∷ ys) p))
      (r_least (suc k) (x ∷ xs) (y ∷ ys) p)
      (rjn false x (least ev ct jn k xs) y (least ev' ct' jn' k ys) p.0 (r_least k xs ys p.1))
      (r_least_steps k xs ys p.1) (r_least_steps (suc k) xs ys p.1)
    where
      go : (b : Bool) → leb (suc k) (length (x ∷ xs)) ≡ leb (suc k) (length (y ∷ ys))
          → R (least ev ct jn (suc k) (x ∷ xs)) (least ev' ct' jn' (suc k) (y ∷ ys)) → R (jn false x (least ev ct jn k xs)) (jn' false y (least ev' ct' jn' k ys))
          → Pairs R (least_steps ev ct jn k xs) (least_steps ev' ct' jn' k ys) → Pairs R (least_steps ev ct jn (suc k) xs) (least_steps ev' ct' jn' (suc k) ys)
          → Pairs R (least_steps ev ct jn (suc k) (x ∷ xs)) (least_steps ev' ct' jn' (suc k) (y ∷ ys))
      go b e r c u w = subst
          (λ a. Pairs R (cond (leb (suc k) (length (x ∷ xs)))
          (least ev ct jn (suc k) (x ∷ xs) ∷ (jn false x (least ev ct jn k xs) ∷ (least_steps ev ct jn k xs ++ least_steps ev ct jn (suc k) xs))) (ct false ∷ []))
          (cond a (least ev' ct' jn' (suc k) (y ∷ ys) ∷ (jn' false y (least ev' ct' jn' k ys) ∷ (least_steps ev' ct' jn' k ys ++ least_steps ev' ct' jn' (suc k) ys))) (ct' false ∷ [])))
          e
          (pairs_cond (leb (suc k) (length (x ∷ xs)))
          (least ev ct jn (suc k) (x ∷ xs) ∷ (jn false x (least ev ct jn k xs) ∷ (least_steps ev ct jn k xs ++ least_steps ev ct jn (suc k) xs))) (ct false ∷ [])
          (least ev' ct' jn' (suc k) (y ∷ ys) ∷ (jn' false y (least ev' ct' jn' k ys) ∷ (least_steps ev' ct' jn' k ys ++ least_steps ev' ct' jn' (suc k) ys))) (ct' false ∷ [])
          (r, (c, pairs_append (least_steps ev ct jn k xs) (least_steps ev ct jn (suc k) xs) (least_steps ev' ct' jn' k ys) (least_steps ev' ct' jn' (suc k) ys) u w))
          (rct false, tt))

  r_inputs : (gs : List X) (hs : List Y) → Pairs R gs hs → (is : List Input) → InputsBelow n is → Pairs R (map (input ev ct jn gs) is) (map (input ev' ct' jn' hs) is)
  r_inputs gs hs p [] b = tt
  r_inputs gs hs p (event e ∷ is) b = (rev e b.0, r_inputs gs hs p is b.1)
  r_inputs gs hs p (gate i ∷ is) b = (pairs_at gs hs i (ct false) (ct' false) p (rct false), r_inputs gs hs p is b.1)
  r_inputs gs hs p (forced e c ∷ is) b = (rct c, r_inputs gs hs p is b.1)

  r_value : (gs : List X) (hs : List Y) → Pairs R gs hs → (g : Gate) → GateBelow n g → R (value ev ct jn gs g) (value ev' ct' jn' hs g)
  r_value gs hs p (and_g is) b = r_join_all false (map (input ev ct jn gs) is) (map (input ev' ct' jn' hs) is) (r_inputs gs hs p is b)
  r_value gs hs p (or_g is) b = r_join_all true (map (input ev ct jn gs) is) (map (input ev' ct' jn' hs) is) (r_inputs gs hs p is b)
  r_value gs hs p (least_g k is) b =
      r_least k (map (input ev ct jn gs) (distinct_inputs is)) (map (input ev' ct' jn' hs) (distinct_inputs is)) (r_inputs gs hs p (distinct_inputs is) (distinct_below n is b))

  r_events : (is : List Input) → InputsBelow n is → Pairs R (event_steps ev ct jn is) (event_steps ev' ct' jn' is)
  r_events [] b = tt
  r_events (event e ∷ is) b = (rev e b.0, r_events is b.1)
  r_events (gate i ∷ is) b = r_events is b.1
  r_events (forced e c ∷ is) b = (rct c, r_events is b.1)

  r_after : (is : List Input) → InputsBelow n is → (xs : List X) (ys : List Y) → Pairs R xs ys → Pairs R (event_steps ev ct jn is ++ xs) (event_steps ev' ct' jn' is ++ ys)
  r_after is b xs ys p = pairs_append (event_steps ev ct jn is) xs (event_steps ev' ct' jn' is) ys (r_events is b) p

  r_steps : (gs : List X) (hs : List Y) → Pairs R gs hs → (g : Gate) → GateBelow n g → Pairs R (steps ev ct jn gs g) (steps ev' ct' jn' hs g)
  r_steps gs hs p (and_g is) b = r_after is b (join_all_steps ev ct jn false (map (input ev ct jn gs) is)) (join_all_steps ev' ct' jn' false (map (input ev' ct' jn' hs) is)) (r_join_all_steps false (map (input ev ct jn gs) is) (map (input ev' ct' jn' hs) is) (r_inputs gs hs p is b))
  r_steps gs hs p (or_g is) b = r_after is b (join_all_steps ev ct jn true (map (input ev ct jn gs) is)) (join_all_steps ev' ct' jn' true (map (input ev' ct' jn' hs) is)) (r_join_all_steps true (map (input ev ct jn gs) is) (map (input ev' ct' jn' hs) is) (r_inputs gs hs p is b))
  r_steps gs hs p (least_g k is) b =
      let js = distinct_inputs is in
      let below : InputsBelow n js = distinct_below n is b in
      r_after js below (least_steps ev ct jn k (map (input ev ct jn gs) js)) (least_steps ev' ct' jn' k (map (input ev' ct' jn' hs) js))
      (r_least_steps k (map (input ev ct jn gs) js) (map (input ev' ct' jn' hs) js) (r_inputs gs hs p js below))

  r_next : (gs : List X) (hs : List Y) → Pairs R gs hs → (g : Gate) → GateBelow n g → Pairs R (gs ++ (value ev ct jn gs g ∷ [])) (hs ++ (value ev' ct' jn' hs g ∷ []))
  r_next gs hs p g b = pairs_append gs (value ev ct jn gs g ∷ []) hs (value ev' ct' jn' hs g ∷ []) p (r_value gs hs p g b, tt)

  pub r_values_from : (gs : List X) (hs : List Y) → Pairs R gs hs → (t : List Gate) → TreeBelow n t → Pairs R (values_from ev ct jn gs t) (values_from ev' ct' jn' hs t)
  r_values_from gs hs p [] b = p
  r_values_from gs hs p (g ∷ t) b = r_values_from (gs ++ (value ev ct jn gs g ∷ [])) (hs ++ (value ev' ct' jn' hs g ∷ [])) (r_next gs hs p g b.0) t b.1

  pub r_steps_from : (gs : List X) (hs : List Y) → Pairs R gs hs → (t : List Gate) → TreeBelow n t → Pairs R (steps_from ev ct jn gs t) (steps_from ev' ct' jn' hs t)
  r_steps_from gs hs p [] b = tt
  r_steps_from gs hs p (g ∷ t) b =
      pairs_append (steps ev ct jn gs g) (steps_from ev ct jn (gs ++ (value ev ct jn gs g ∷ [])) t) (steps ev' ct' jn' hs g) (steps_from ev' ct' jn' (hs ++ (value ev' ct' jn' hs g ∷ [])) t)
      (r_steps gs hs p g b.0) (r_steps_from (gs ++ (value ev ct jn gs g ∷ [])) (hs ++ (value ev' ct' jn' hs g ∷ [])) (r_next gs hs p g b.0) t b.1)

-- ---- the diagrams of a tree are those of its functions

mono_join : (z : Bool) (F G : Fun) → Monotone F → Monotone G → Monotone (join_f z F G)
mono_join z F G hf hg T S p t = go z (F T) refl (F S) refl t
  where
    go : (z a : Bool) → F T ≡ a → (b : Bool) → F S ≡ b → join z (F T) (G T) ≡ true → join z (F S) (G S) ≡ true
    go true true q b r t = rw (hf T S p q)
    go true false q true r t = rw r
    go true false q false r t = rw r (hg T S p (rw q at t))
    go false true q b r t = rw (hf T S p q) (hg T S p (rw q at t))
    go false false q b r t = absurd (false≢true (rw q at t))

module _ (n : ℕ) where
  -- the diagram d is fit, and stands for F
  abbrev pub Shows : Diagram → Fun → Type 0
  Shows d F = Fit n 0 d × (eval d ≡ F)

  shows_event : (e : ℕ) → e < n → Shows (event_d e) (event_f e)
  shows_event e h = (
    record { ordered = (omega arith, h, tt, tt); reduced = ((λ q. true≢false (ap (λ d. eval d none) q)), tt, tt); mono = subst Monotone (sym (fun_ext same)) (λ T S p t. p e t) },
    fun_ext same,
  )
    where
      go : (b : Bool) → cond b true false ≡ b
      go true = refl
      go false = refl

      same : (v : Set) → eval (event_d e) v ≡ v e
      same v = go (v e)

  shows_leaf : (b : Bool) → Shows (leaf b) (const_f b)
  shows_leaf b = (record { ordered = tt; reduced = tt; mono = λ T S p t. t }, refl)

  shows_join : (z : Bool) (a b : Diagram) (F G : Fun) → Shows a F → Shows b G → Shows (join_d z a b) (join_f z F G)
  shows_join z a b F G (fa, ea) (fb, eb) =
      let j = joined_from z n 0 n (omega arith) a b fa.ordered fb.ordered fa.reduced fb.reduced in
      let e : eval (join_d z a b) ≡ join_f z (eval a) (eval b) = fun_ext j.value in (
        record { ordered = j.ordered; reduced = j.reduced; mono = subst Monotone (sym e) (mono_join z (eval a) (eval b) fa.mono fb.mono) },
        e ∙ ap₂ (join_f z) ea eb,
      )

  pub steps_show : (t : List Gate) → TreeBelow n t → Pairs Shows (step_diagrams t) (step_funs t)
  unfolding step_diagrams step_funs
  steps_show t b = r_steps_from event_d leaf join_d event_f const_f join_f Shows n shows_event shows_leaf shows_join [] [] tt t b

  pub values_show : (t : List Gate) → TreeBelow n t → Pairs Shows (gate_diagrams t) (values_from event_f const_f join_f [] t)
  unfolding gate_diagrams
  values_show t b = r_values_from event_d leaf join_d event_f const_f join_f Shows n shows_event shows_leaf shows_join [] [] tt t b

  shown : (ds : List Diagram) (Fs : List Fun) → Pairs Shows ds Fs → map eval ds ≡ Fs
  shown [] [] p = refl
  shown [] (F ∷ Fs) p = absurd p
  shown (d ∷ ds) [] p = absurd p
  shown (d ∷ ds) (F ∷ Fs) p = ap₂ ◌∷◌ p.0.1 (shown ds Fs p.1)

  good : (ds : List Diagram) (Fs : List Fun) → Pairs Shows ds Fs → (d : Diagram) → In d ds → Good n 0 d
  good [] [] p d h = absurd h
  good [] (F ∷ Fs) p d h = absurd h
  good (x ∷ ds) [] p d h = absurd p
  good (x ∷ ds) (F ∷ Fs) p d (inl e) = subst (Good n 0) (sym e) (p.0.0.ordered, p.0.0.reduced)
  good (x ∷ ds) (F ∷ Fs) p d (inr h) = good ds Fs p.1 d h

  -- NODES NEEDED BY A TREE: the distinct nodes of all its steps' diagrams
  pub tree_nodes : (t : List Gate) → TreeBelow n t → node_count (step_diagrams t) ≡ nodes_needed n (step_funs t)
  tree_nodes t b =
      let p = steps_show t b in
      count_law n (step_diagrams t) (good (step_diagrams t) (step_funs t) p) ∙ ap (nodes_needed n) (shown (step_diagrams t) (step_funs t) p)

  -- each node of a step is a needed function's, and each needed function is such a node's
  pub step_needed : (t : List Gate) → TreeBelow n t → (x : Diagram) → In x (keep is_node (flat subs (step_diagrams t))) → In (table n (eval x)) (needed n (step_funs t))
  step_needed t b x h =
      let p = steps_show t b in
      subst (λ Fs. In (table n (eval x)) (needed n Fs)) (shown (step_diagrams t) (step_funs t) p) (node_needed n (step_diagrams t) (good (step_diagrams t) (step_funs t) p) x h)

  pub needed_step : (t : List Gate) → TreeBelow n t → (X : List Bool) → In X (needed n (step_funs t)) → (x : Diagram) × In x (keep is_node (flat subs (step_diagrams t))) × (table n (eval x) ≡ X)
  needed_step t b X h =
      let p = steps_show t b in
      needed_node n (step_diagrams t) (good (step_diagrams t) (step_funs t) p) X (subst (λ Fs. In X (needed n Fs)) (sym (shown (step_diagrams t) (step_funs t) p)) h)

-- ---- what the gates' functions are

pub all_law : (F : Fun) (Fs : List Fun) (v : Set) → join_all event_f const_f join_f false (F ∷ Fs) v ≡ every_fails (F ∷ Fs) v
all_law F [] v = sym (and-true (F v))
all_law F (G ∷ Fs) v = all_law (join_f false F G) Fs v ∙ go (F v)
  where
    go : (a : Bool) → (join false a (G v) && every_fails Fs v) ≡ (a && (G v && every_fails Fs v))
    go true = refl
    go false = refl

pub some_law : (F : Fun) (Fs : List Fun) (v : Set) → join_all event_f const_f join_f true (F ∷ Fs) v ≡ some_fails (F ∷ Fs) v
some_law F [] v = sym (or-false (F v))
some_law F (G ∷ Fs) v = some_law (join_f true F G) Fs v ∙ go (F v)
  where
    go : (a : Bool) → (join true a (G v) || some_fails Fs v) ≡ (a || (G v || some_fails Fs v))
    go true = refl
    go false = refl

more_least : (k c : ℕ) → join true (leb k c) (leb (suc k) c) ≡ leb k c
more_least k c = go (leb k c) refl
  where
    go : (b : Bool) → leb k c ≡ b → join true (leb k c) (leb (suc k) c) ≡ leb k c
    go true h = rw h
    go false h = rw h (lt-leb (suc k) c (omega (arith, leb-false k c h)))

pub count_le : (Fs : List Fun) (v : Set) → count_fails Fs v ≤ length Fs
count_le [] v = omega arith
count_le (F ∷ Fs) v = go (F v) (count_le Fs v)
  where
    go : (b : Bool) → count_fails Fs v ≤ length Fs → cond b 1 0 + count_fails Fs v ≤ suc (length Fs)
    go true h = omega arith
    go false h = omega arith

pub least_law : (k : ℕ) (Fs : List Fun) (v : Set) → least event_f const_f join_f k Fs v ≡ leb k (count_fails Fs v)
least_law zero Fs v = sym (leb-zero (count_fails Fs v))
least_law (suc k) [] v = sym (leb-suc-zero k)
least_law (suc k) (F ∷ Fs) v = pick (leb (suc k) (length (F ∷ Fs))) refl (least_law k Fs v) (least_law (suc k) Fs v)
  where
    go : (a : Bool) → least event_f const_f join_f k Fs v ≡ leb k (count_fails Fs v) → least event_f const_f join_f (suc k) Fs v ≡ leb (suc k) (count_fails Fs v)
        → join true (join false a (least event_f const_f join_f k Fs v)) (least event_f const_f join_f (suc k) Fs v) ≡ leb (suc k) (cond a 1 0 + count_fails Fs v)
    go true p q = rw (p, q, (let e : 1 + count_fails Fs v ≡ suc (count_fails Fs v) = omega arith in e)) (more_least k (count_fails Fs v) ∙ sym (leb-suc-suc k (count_fails Fs v)))
    go false p q = q ∙ ap (leb (suc k)) (omega arith)

    pick : (b : Bool) → leb (suc k) (length (F ∷ Fs)) ≡ b → least event_f const_f join_f k Fs v ≡ leb k (count_fails Fs v)
        → least event_f const_f join_f (suc k) Fs v ≡ leb (suc k) (count_fails Fs v) → least event_f const_f join_f (suc k) (F ∷ Fs) v ≡ leb (suc k) (count_fails (F ∷ Fs) v)
    pick true h p q = rw h (go (F v) p q)
    pick false h p q = rw h (sym (lt-leb (suc k) (count_fails (F ∷ Fs) v) (omega (arith, leb-false (suc k) (length (F ∷ Fs)) h, count_le (F ∷ Fs) v))))
