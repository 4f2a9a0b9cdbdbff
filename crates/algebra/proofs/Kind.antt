-- What plain and zero-suppressed diagrams have in common: each event is fixed both ways, the halves make the diagram again, and
-- fixing goes over to functions. From that alone: canonicity, and as many distinct nodes as functions.
-- Assumes nothing.
use mathlib.Core.Path.{◌≡◌, refl, sym, ap, ap₂, ◌∙◌, subst, fun_ext}
use mathlib.Core.Logic.{◌⊎◌, inl, inr}
use mathlib.Core.Bool.{Bool, true, false}
use mathlib.Core.List.{List, ◌∷◌, ◌++◌, map}
use Prim.Native.Nat.{ℕ, zero, suc, ◌+◌, ◌<◌}
use native.Mathlib.Omega.{arith}
use Rattle.paper.specs.Lists.{In, keep, flat, distinct}
use Rattle.paper.specs.Sets.{Set, all_sets}
use Rattle.paper.specs.Functions.{Fun, reach, table, table_discrete}
use Rattle.paper.specs.Diagrams.{Diagram, leaf, node, Diagram-discrete}
use Rattle.algebra.specs.Operations.{subs, is_node, node_count}
use Rattle.algebra.proofs.Lists.{in_left, in_right, in_append, in_map, map_in, map_append, map_map, in_flat, flat_in, map_flat, keep_map, keep_same, keep_in, in_keep, map_agree, distinct_map, distinct_same}
use Rattle.algebra.proofs.Trim.{trim, trim_all}

-- diagrams of n events: OK m d says that d is well made, with events from m on
pub record Kind (n : ℕ) : Type 1 where
  pub OK : ℕ → Diagram → Type 0
  pub fix : ℕ → Bool → Diagram → Diagram
  pub make : ℕ → Diagram → Diagram → Diagram
  pub fun : Diagram → Fun
  pub fix_fun : ℕ → Bool → Fun → Fun
  pub step : (m : ℕ) (b : Bool) (d : Diagram) → m < n → OK m d → OK (suc m) (fix m b d)
  pub back : (m : ℕ) (d : Diagram) → OK m d → OK 0 d
  pub again : (m : ℕ) (d : Diagram) → OK m d → make m (fix m true d) (fix m false d) ≡ d
  pub end : (d : Diagram) → OK n d → (c : Bool) × (d ≡ leaf c)
  pub leaves : (b c : Bool) → fun (leaf b) ≡ fun (leaf c) → b ≡ c
  pub over : (m : ℕ) (b : Bool) (d : Diagram) → m < n → OK m d → fun (fix m b d) ≡ fix_fun m b (fun d)
  pub local : (d : Diagram) (v : Set) → OK 0 d → fun d (trim n 0 v) ≡ fun d v
  pub down : (m : ℕ) (d x : Diagram) → OK m d → In x (subs d) → (x ≡ d) ⊎ (In x (subs (fix m true d)) ⊎ In x (subs (fix m false d)))
  pub up : (m : ℕ) (b : Bool) (d x : Diagram) → is_node x ≡ true → In x (subs (fix m b d)) → In x (subs d)

module _ (n : ℕ) (K : Kind n) where
  open K use {OK, fix, make, fun, fix_fun}

  -- CANONICITY
  pub canonical_kind : (k m : ℕ) → m + k ≡ n → (a b : Diagram) → OK m a → OK m b → fun a ≡ fun b → a ≡ b
  canonical_kind zero m q a b oa ob h =
      let e : m ≡ n = omega arith in
      let (c, p) = K.end a (subst (λ i. OK i a) e oa) in
      let (d, r) = K.end b (subst (λ i. OK i b) e ob) in
      p ∙ ap leaf (K.leaves c d (sym (ap fun p) ∙ h ∙ ap fun r)) ∙ sym r
  canonical_kind (suc k) m q a b oa ob h =
      let half : (c : Bool) → fix m c a ≡ fix m c b = λ c.
      canonical_kind k (suc m) (omega arith) (fix m c a) (fix m c b) (K.step m c a (omega arith) oa) (K.step m c b (omega arith) ob)
      (K.over m c a (omega arith) oa ∙ ap (fix_fun m c) h ∙ sym (K.over m c b (omega arith) ob)) in
      sym (K.again m a oa) ∙ ap₂ (make m) (half true) (half false) ∙ K.again m b ob

  -- what fixing reaches
  pub reach_fun : (k m : ℕ) → m + k ≡ n → (d : Diagram) → OK m d → map fun (reach fix k m d) ≡ reach fix_fun k m (fun d)
  reach_fun zero m q d o = refl
  reach_fun (suc k) m q d o =
      let half : (b : Bool) → map fun (reach fix k (suc m) (fix m b d)) ≡ reach fix_fun k (suc m) (fix_fun m b (fun d)) = λ b.
      reach_fun k (suc m) (omega arith) (fix m b d) (K.step m b d (omega arith) o) ∙ ap (reach fix_fun k (suc m)) (K.over m b d (omega arith) o) in
      ap (fun d ∷◌) (map_append fun (reach fix k (suc m) (fix m true d)) (reach fix k (suc m) (fix m false d)) ∙ ap₂ ◌++◌ (half true) (half false))

  reach_cases : (k m : ℕ) (d x : Diagram) {C : Type 0} → In x (reach fix (suc k) m d) → (x ≡ d → C) → ((b : Bool) → In x (reach fix k (suc m) (fix m b d)) → C) → C
  reach_cases k m d x {C} (inl e) f g = f e
  reach_cases k m d x {C} (inr h) f g = go (in_append x (reach fix k (suc m) (fix m true d)) (reach fix k (suc m) (fix m false d)) h)
    where
      go : In x (reach fix k (suc m) (fix m true d)) ⊎ In x (reach fix k (suc m) (fix m false d)) → C
      go (inl h) = g true h
      go (inr h) = g false h

  pub reach_ok : (k m : ℕ) → m + k ≡ n → (d x : Diagram) → OK m d → In x (reach fix k m d) → OK 0 x
  reach_ok zero m q d x o (inl e) = subst (OK 0) (sym e) (K.back m d o)
  reach_ok zero m q d x o (inr h) = absurd h
  reach_ok (suc k) m q d x o h = reach_cases k m d x h (λ e. subst (OK 0) (sym e) (K.back m d o))
      (λ b. reach_ok k (suc m) (omega arith) (fix m b d) x (K.step m b d (omega arith) o))

  subs_self : (d : Diagram) → In d (subs d)
  subs_self (leaf b) = inl refl
  subs_self (node e f s) = inl refl

  pub reach_subs : (k m : ℕ) (d x : Diagram) → is_node x ≡ true → In x (reach fix k m d) → In x (subs d)
  reach_subs zero m d x t (inl e) = subst (λ a. In a (subs d)) (sym e) (subs_self d)
  reach_subs zero m d x t (inr h) = absurd h
  reach_subs (suc k) m d x t h = reach_cases k m d x h (λ e. subst (λ a. In a (subs d)) (sym e) (subs_self d))
      (λ b j. K.up m b d x t (reach_subs k (suc m) (fix m b d) x t j))

  pub subs_reach : (k m : ℕ) → m + k ≡ n → (d x : Diagram) → OK m d → In x (subs d) → In x (reach fix k m d)
  subs_reach zero m q d x o h =
      let (c, p) = K.end d (subst (λ i. OK i d) (omega arith) o) in
      rw p (rw p at h)
  subs_reach (suc k) m q d x o h =
      go (K.down m d x o h) (λ b. subs_reach k (suc m) (omega arith) (fix m b d) x (K.step m b d (omega arith) o))
    where
      L : Bool → List Diagram
      L b = reach fix k (suc m) (fix m b d)

      go : (x ≡ d) ⊎ (In x (subs (fix m true d)) ⊎ In x (subs (fix m false d))) → ((b : Bool) → In x (subs (fix m b d)) → In x (L b)) → In x (d ∷ (L true ++ L false))
      go (inl e) r = inl e
      go (inr (inl a)) r = inr (in_left x (L true) (L false) (r true a))
      go (inr (inr a)) r = inr (in_right x (L true) (L false) (r false a))

  -- equal tables, equal diagrams
  pub table_inj : (x y : Diagram) → OK 0 x → OK 0 y → table n (fun x) ≡ table n (fun y) → x ≡ y
  table_inj x y ox oy e = canonical_kind n 0 (omega arith) x y ox oy (fun_ext (λ v.
      sym (K.local x v ox) ∙ map_agree (fun x) (fun y) (trim n 0 v) (all_sets n 0) e (trim_all n 0 v) ∙ K.local y v oy))

  -- THE COUNT: of well made diagrams there are as many distinct nodes as distinct functions that fixing the first events leaves,
  -- of those that pass a test which tells nodes from leaves
  module _ (test : Fun → Bool) (tells : (d : Diagram) → OK 0 d → test (fun d) ≡ is_node d) (ds : List Diagram) (ok : (d : Diagram) → In d ds → OK 0 d) where
    R : List Diagram
    R = flat (reach fix n 0) ds

    ok_r : (d : Diagram) → In d R → OK 0 d
    unfolding R
    ok_r d h = let (x, k, l) = flat_in (reach fix n 0) d ds h in reach_ok n 0 (omega arith) x d (ok x k) l

    to : (x : Diagram) → In x (keep is_node (flat subs ds)) → In x (keep is_node R)
    unfolding R
    to x h =
        let (a, t) = keep_in is_node x (flat subs ds) h in
        let (d, k, l) = flat_in subs x ds a in
        in_keep is_node x R (in_flat (reach fix n 0) x d ds k (subs_reach n 0 (omega arith) d x (ok d k) l)) t

    from : (x : Diagram) → In x (keep is_node R) → In x (keep is_node (flat subs ds))
    unfolding R
    from x h =
        let (a, t) = keep_in is_node x R h in
        let (d, k, l) = flat_in (reach fix n 0) x ds a in
        in_keep is_node x (flat subs ds) (in_flat subs x d ds k (reach_subs n 0 d x t l)) t

    functions : map fun R ≡ flat (reach fix_fun n 0) (map fun ds)
    unfolding R
    functions = map_flat (reach fix n 0) (reach fix_fun n 0) fun fun ds (λ d h. reach_fun n 0 (omega arith) d (ok d h))

    -- the functions of the nodes are those that fixing leaves and that pass the test
    tables : map (λ d. table n (fun d)) (keep is_node R) ≡ map (table n) (keep test (flat (reach fix_fun n 0) (map fun ds)))
    tables =
        ap (map (λ d. table n (fun d))) (keep_same is_node (λ d. test (fun d)) R (λ d h. sym (tells d (ok_r d h))))
        ∙ map_map (table n) fun (keep (λ d. test (fun d)) R)
        ∙ ap (map (table n)) (sym (keep_map fun test R) ∙ ap (keep test) functions)

    pub count_kind : node_count ds ≡ distinct table_discrete (map (table n) (keep test (flat (reach fix_fun n 0) (map fun ds))))
    unfolding node_count
    count_kind =
        distinct_same Diagram-discrete (keep is_node (flat subs ds)) (keep is_node R) to from
        ∙ sym (distinct_map (λ d. table n (fun d)) Diagram-discrete table_discrete (keep is_node R)
        (λ x y a b. table_inj x y (ok_r x (keep_in is_node x R a).0) (ok_r y (keep_in is_node y R b).0)))
        ∙ ap (distinct table_discrete) tables

    -- EACH NODE'S FUNCTION is among those counted, and each of those is some node's
    pub node_counted : (x : Diagram) → In x (keep is_node (flat subs ds)) → In (table n (fun x)) (map (table n) (keep test (flat (reach fix_fun n 0) (map fun ds))))
    node_counted x h = subst (In (table n (fun x))) tables (in_map (λ d. table n (fun d)) x (keep is_node R) (to x h))

    pub counted_node : (X : List Bool) → In X (map (table n) (keep test (flat (reach fix_fun n 0) (map fun ds)))) → (x : Diagram) × In x (keep is_node (flat subs ds)) × (table n (fun x) ≡ X)
    counted_node X h = let (x, k, e) = map_in (λ d. table n (fun d)) X (keep is_node R) (subst (In X) (sym tables) h) in (x, from x k, sym e)
