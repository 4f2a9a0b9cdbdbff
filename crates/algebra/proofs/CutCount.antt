-- The cut diagrams of a diagram's nodes have as many distinct nodes as there are families to tell apart.
-- Assumes nothing.
use mathlib.Core.Path.{◌≡◌, refl, sym, ap, ◌∙◌, subst, fun_ext}
use mathlib.Core.Logic.{◌⊎◌, inl, inr}
use mathlib.Core.Bool.{Bool, true, false, cond, not, ◌&&◌, ◌||◌, false≢true}
use mathlib.Core.List.{List, [], ◌∷◌, map}
use Prim.Native.Nat.{ℕ, zero, suc, ◌+◌, ◌≤◌, ◌<◌}
use native.Mathlib.Omega.{arith}
use Rattle.paper.specs.Lists.{In, keep, flat, distinct, every}
use Rattle.paper.specs.Sets.{Set, all_sets, Part, part_of}
use Rattle.paper.specs.Functions.{Fun, fix_f, reach, table, table_discrete, varies}
use Rattle.paper.specs.Diagrams.{Diagram, leaf, node, eval, Ordered, Diagram-discrete}
use Rattle.paper.specs.Cuts.{MinimalCut, fix_fam, minimal_f, proper, cuts_needed, cut_nodes_needed}
use Rattle.algebra.specs.Operations.{fix_d, subs, is_node, node_count}
use Rattle.algebra.specs.Families.{cuts_d, holds}
use Rattle.algebra.proofs.Base.{widen, Three, below, beyond, equal, three}
use Rattle.algebra.proofs.Lists.{bool_iff, in_append, in_map, map_in, in_keep, keep_in, keep_same, keep_map, in_flat, flat_in, map_map, map_same, distinct_same}
use Rattle.algebra.proofs.Sets.{cut_part, cut_of_part, part_false}
use Rattle.algebra.proofs.Trim.{trim, trim_all, trim_at, trim_above}
use Rattle.algebra.proofs.Kind.{count_kind, node_counted, counted_node, reach_fun, reach_ok, reach_subs, subs_reach}
use Rattle.algebra.proofs.Plain.{plain, Good, eval_trim, varies_node}
use Rattle.algebra.proofs.Without.{Fit, fit_failed, fit_sound, fit_at, Tidy, tidy_cuts}
use Rattle.algebra.proofs.Zero.{suppressed, sets_hold, hold_sets, local_z, proper_node}
use Rattle.algebra.proofs.Cuts.{cuts_law}

-- ---- the test for parts, and for all members

pub and_both : (a b : Bool) → (a && b) ≡ true → (a ≡ true) × (b ≡ true)
and_both true b h = (refl, h)
and_both false b h = absurd (false≢true h)

and_of : (a b : Bool) → a ≡ true → b ≡ true → (a && b) ≡ true
and_of a b p q = rw p q

part_at : (k m : ℕ) (T S : Set) → part_of k m T S ≡ true → (i : ℕ) → m ≤ i → i < m + k → T i ≡ true → S i ≡ true
part_at zero m T S h i a b t = absurd (omega arith)
part_at (suc k) m T S h i a b t = go (and_both (cond (T m) (S m) true) (part_of k (suc m) T S) h) (three m i) (part_at k (suc m) T S)
  where
    go : (cond (T m) (S m) true ≡ true) × (part_of k (suc m) T S ≡ true) → Three m i
        → (part_of k (suc m) T S ≡ true → (i : ℕ) → suc m ≤ i → i < suc m + k → T i ≡ true → S i ≡ true) → S i ≡ true
    go (p, q) (below l u) r = r q i l (omega arith) t
    go (p, q) (beyond l u w) r = absurd (omega arith)
    go (p, q) (equal l u w) r = subst (λ j. S j ≡ true) l (sym (ap (λ b. cond b (S m) true) (ap T l ∙ t)) ∙ p)

part_of_lem : (k m : ℕ) (T S : Set) → ((i : ℕ) → m ≤ i → i < m + k → T i ≡ true → S i ≡ true) → part_of k m T S ≡ true
part_of_lem zero m T S h = refl
part_of_lem (suc k) m T S h = and_of (cond (T m) (S m) true) (part_of k (suc m) T S) (go (T m) refl) (part_of_lem k (suc m) T S (λ i a b. h i (omega arith) (omega arith)))
  where
    go : (b : Bool) → T m ≡ b → cond (T m) (S m) true ≡ true
    go true e = rw e (h m (omega arith) (omega arith) e)
    go false e = rw e

every_in : {A : Type 0} (t : A → Bool) (x : A) (xs : List A) → every t xs ≡ true → In x xs → t x ≡ true
every_in t x [] h k = absurd k
every_in t x (y ∷ xs) h (inl e) = ap t e ∙ (and_both (t y) (every t xs) h).0
every_in t x (y ∷ xs) h (inr k) = every_in t x xs (and_both (t y) (every t xs) h).1 k

in_every : {A : Type 0} (t : A → Bool) (xs : List A) → ((x : A) → In x xs → t x ≡ true) → every t xs ≡ true
in_every t [] h = refl
in_every t (x ∷ xs) h = and_of (t x) (every t xs) (h x (inl refl)) (in_every t xs (λ y k. h y (inr k)))

-- ---- the computed family of minimal cuts

module _ (n : ℕ) (F : Fun) (local : (v : Set) → F (trim n 0 v) ≡ F v) (S : Set) where
  -- T is no smaller cut
  abbrev test : Set → Bool
  test T = not (part_of n 0 T S && F T) || part_of n 0 S T

  pub minimal_cut : minimal_f n F S ≡ true → MinimalCut F (trim n 0 S)
  minimal_cut h =
      let (f, e) = and_both (F S) (every test (all_sets n 0)) h in
      cut_of_part F (trim n 0 S) (local S ∙ f) (λ U p t. fun_ext (λ i. go U p i (three i n)
      (whole U p t (every_in test (trim n 0 U) (all_sets n 0) e (trim_all n 0 U)))))
    where
      whole : (U : Set) → Part U (trim n 0 S) → F U ≡ true → test (trim n 0 U) ≡ true → part_of n 0 S (trim n 0 U) ≡ true
      whole U p t q =
          let inside : part_of n 0 (trim n 0 U) S ≡ true = part_of_lem n 0 (trim n 0 U) S (λ i a b u. sym (trim_at n 0 S i a b) ∙ p i (sym (trim_at n 0 U i a b) ∙ u)) in
          rw (inside, local U, t) at q

      go : (U : Set) → Part U (trim n 0 S) → (i : ℕ) → Three i n → part_of n 0 S (trim n 0 U) ≡ true → U i ≡ trim n 0 S i
      go U p i (below l u) w = bool_iff (U i) (trim n 0 S i) (p i)
          (λ t. sym (trim_at n 0 U i (omega arith) (omega arith)) ∙ part_at n 0 S (trim n 0 U) w i (omega arith) (omega arith) (sym (trim_at n 0 S i (omega arith) (omega arith)) ∙ t))
      go U p i (beyond l u v) w = let z = trim_above n 0 S i (omega arith) in part_false U (trim n 0 S) i p z ∙ sym z
      go U p i (equal l u v) w = let z = trim_above n 0 S i (omega arith) in part_false U (trim n 0 S) i p z ∙ sym z

  pub cut_minimal : MinimalCut F (trim n 0 S) → minimal_f n F S ≡ true
  cut_minimal c = and_of (F S) (every test (all_sets n 0)) (sym (local S) ∙ c.fails)
      (in_every test (all_sets n 0) (λ T k. go T (part_of n 0 T S) refl (F T) refl))
    where
      go : (T : Set) (a : Bool) → part_of n 0 T S ≡ a → (b : Bool) → F T ≡ b → test T ≡ true
      go T true p true q =
          let inside : Part (trim n 0 T) (trim n 0 S) = λ i t. pick T p i (three i n) t in
          let same : trim n 0 T ≡ trim n 0 S = cut_part F (trim n 0 S) (trim n 0 T) c inside (local T ∙ q) in
          rw (p, q) (part_of_lem n 0 S T (λ i a b s. sym (trim_at n 0 T i a b) ∙ ap (λ v. v i) same ∙ trim_at n 0 S i a b ∙ s))
        where
          pick : (T : Set) → part_of n 0 T S ≡ true → (i : ℕ) → Three i n → trim n 0 T i ≡ true → trim n 0 S i ≡ true
          pick T p i (below l u) t = trim_at n 0 S i (omega arith) (omega arith) ∙ part_at n 0 T S p i (omega arith) (omega arith) (sym (trim_at n 0 T i (omega arith) (omega arith)) ∙ t)
          pick T p i (beyond l u w) t = absurd (false≢true (sym (trim_above n 0 T i (omega arith)) ∙ t))
          pick T p i (equal l u w) t = absurd (false≢true (sym (trim_above n 0 T i (omega arith)) ∙ t))
      go T true p false q = rw (p, q)
      go T false p b q = rw p

-- the cut diagram's function is the family of minimal cuts
pub cuts_hold : (n : ℕ) (d : Diagram) → Fit n 0 d → holds n 0 (cuts_d d) ≡ minimal_f n (eval d)
cuts_hold n d h = fun_ext (λ S. bool_iff (holds n 0 (cuts_d d) S) (minimal_f n (eval d) S)
    (λ t. cut_minimal n (eval d) local S ((cuts_law n 0 d h (trim n 0 S)).0 (hold_sets n 0 n (omega arith) (cuts_d d) o S t)))
    (λ t. sym (local_z n (cuts_d d) S) ∙ sets_hold n 0 n (omega arith) (cuts_d d) o (trim n 0 S) ((cuts_law n 0 d h (trim n 0 S)).1 (minimal_cut n (eval d) local S t))))
  where
    local : (v : Set) → eval d (trim n 0 v) ≡ eval d v
    local v = eval_trim n d v h.ordered

    o : Ordered 0 n (cuts_d d)
    o = (tidy_cuts n 0 d h.ordered).0

-- ---- the count

fit_zero : (n m : ℕ) (d : Diagram) → Fit n m d → Fit n 0 d
fit_zero n m d h = fit_at n m 0 d h (widen m 0 n d (omega arith) h.ordered)

fit_subs : (n m : ℕ) (d x : Diagram) → Fit n m d → In x (subs d) → Fit n 0 x
fit_subs n m (leaf b) x h (inl e) = subst (Fit n 0) (sym e) (fit_zero n m (leaf b) h)
fit_subs n m (leaf b) x h (inr k) = absurd k
fit_subs n m (node e f s) x h (inl q) = subst (Fit n 0) (sym q) (fit_zero n m (node e f s) h)
fit_subs n m (node e f s) x h (inr k) = go (in_append x (subs f) (subs s) k) (fit_subs n (suc e) f x (fit_failed n m e f s h)) (fit_subs n (suc e) s x (fit_sound n m e f s h))
  where
    go : In x (subs f) ⊎ In x (subs s) → (In x (subs f) → Fit n 0 x) → (In x (subs s) → Fit n 0 x) → Fit n 0 x
    go (inl k) a b = a k
    go (inr k) a b = b k

-- the nodes of some diagrams are nodes of any others among which these are
node_members : (ds es : List Diagram) → ((d : Diagram) → In d ds → In d es) → (x : Diagram) → In x (keep is_node (flat subs ds)) → In x (keep is_node (flat subs es))
node_members ds es f x h =
    let (a, t) = keep_in is_node x (flat subs ds) h in
    let (d, k, l) = flat_in subs x ds a in
    in_keep is_node x (flat subs es) (in_flat subs x d es (f d k) l) t

-- so the count of nodes asks only which diagrams there are
pub count_members : (ds es : List Diagram) → ((d : Diagram) → In d ds → In d es) → ((d : Diagram) → In d es → In d ds) → node_count ds ≡ node_count es
unfolding node_count
count_members ds es f g = distinct_same Diagram-discrete (keep is_node (flat subs ds)) (keep is_node (flat subs es)) (node_members ds es f) (node_members es ds g)

map_members : (h : Diagram → Diagram) (ds es : List Diagram) → ((d : Diagram) → In d ds → In d es) → (x : Diagram) → In x (map h ds) → In x (map h es)
map_members h ds es f x k = let (d, i, e) = map_in h x ds k in subst (λ y. In y (map h es)) (sym e) (in_map h d es (f d i))

module _ (n : ℕ) (d : Diagram) (h : Fit n 0 d) where
  -- the nodes of d as its sub-diagrams, and as what fixing reaches
  abbrev S : List Diagram
  S = keep is_node (subs d)

  abbrev N : List Diagram
  N = keep is_node (reach fix_d n 0 d)

  good : Good n 0 d
  good = (h.ordered, h.reduced)

  to : (x : Diagram) → In x S → In x N
  to x k = let (a, t) = keep_in is_node x (subs d) k in in_keep is_node x (reach fix_d n 0 d) (subs_reach n (plain n) n 0 (omega arith) d x good a) t

  from : (x : Diagram) → In x N → In x S
  from x k = let (a, t) = keep_in is_node x (reach fix_d n 0 d) k in in_keep is_node x (subs d) (reach_subs n (plain n) n 0 d x t a) t

  fit : (x : Diagram) → In x N → Fit n 0 x
  fit x k = fit_subs n 0 d x h (keep_in is_node x (subs d) (from x k)).0

  tidy : (z : Diagram) → In z (map cuts_d N) → Tidy 0 n z
  tidy z k = let (x, i, e) = map_in cuts_d z N k in subst (Tidy 0 n) (sym e) (tidy_cuts n 0 x (fit x i).ordered)

  nodes : map eval N ≡ keep (λ G. varies (table n G)) (reach fix_f n 0 (eval d))
  nodes =
      ap (map eval) (keep_same is_node (λ x. varies (table n (eval x))) (reach fix_d n 0 d) (λ x k. sym (varies_node n x (reach_ok n (plain n) n 0 (omega arith) d x good k))))
      ∙ sym (keep_map eval (λ G. varies (table n G)) (reach fix_d n 0 d))
      ∙ ap (keep (λ G. varies (table n G))) (reach_fun n (plain n) n 0 (omega arith) d good)

  families : map (holds n 0) (map cuts_d N) ≡ map (minimal_f n) (keep (λ G. varies (table n G)) (reach fix_f n 0 (eval d)))
  families =
      sym (map_map (holds n 0) cuts_d N)
      ∙ map_same (λ x. holds n 0 (cuts_d x)) (λ x. minimal_f n (eval x)) N (λ x k. cuts_hold n x (fit x k))
      ∙ map_map (minimal_f n) eval N
      ∙ ap (map (minimal_f n)) nodes

  -- CUT NODES NEEDED: the distinct nodes of the cut diagrams of all nodes of a diagram
  pub cut_count_law : node_count (map cuts_d (keep is_node (subs d))) ≡ cut_nodes_needed n (eval d)
  unfolding cut_nodes_needed
  cut_count_law =
      count_members (map cuts_d S) (map cuts_d N) (map_members cuts_d S N to) (map_members cuts_d N S from)
      ∙ count_kind n (suppressed n) (proper n) (proper_node n) (map cuts_d N) tidy
      ∙ ap (λ l. distinct table_discrete (map (table n) (keep (proper n) (flat (reach fix_fam n 0) l)))) families

  -- each node of these cut diagrams is a needed family's, and each needed family is such a node's
  pub cut_node_needed : (x : Diagram) → In x (keep is_node (flat subs (map cuts_d (keep is_node (subs d))))) → In (table n (holds n 0 x)) (cuts_needed n (eval d))
  cut_node_needed x k =
      subst (λ l. In (table n (holds n 0 x)) (map (table n) (keep (proper n) (flat (reach fix_fam n 0) l)))) families
      (node_counted n (suppressed n) (proper n) (proper_node n) (map cuts_d N) tidy x (node_members (map cuts_d S) (map cuts_d N) (map_members cuts_d S N to) x k))

  pub needed_cut_node : (X : List Bool) → In X (cuts_needed n (eval d)) → (x : Diagram) × In x (keep is_node (flat subs (map cuts_d (keep is_node (subs d))))) × (table n (holds n 0 x) ≡ X)
  needed_cut_node X k =
      let (x, i, e) = counted_node n (suppressed n) (proper n) (proper_node n) (map cuts_d N) tidy X
      (subst (λ l. In X (map (table n) (keep (proper n) (flat (reach fix_fam n 0) l)))) (sym families) k) in
      (x, node_members (map cuts_d N) (map cuts_d S) (map_members cuts_d N S from) x i, e)
