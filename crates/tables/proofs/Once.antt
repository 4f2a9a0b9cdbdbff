-- A table without two equal nodes holds each diagram once, and its stored nodes are all the nodes of what it denotes.
-- Assumes nothing.
use mathlib.Core.Path.{◌≡◌, refl, sym, ap, ◌∙◌, subst}
use mathlib.Core.Logic.{◌≢◌, ◌⊎◌, inl, inr}
use mathlib.Core.Bool.{Bool, true, false, true≢false, false≢true}
use mathlib.Core.List.{List, map}
use Prim.Native.Nat.{ℕ, zero, suc, ◌+◌, ◌-◌, ◌≤◌, ◌<◌}
use native.Mathlib.Omega.{arith}
use lib.ListN.{length}
use Rattle.paper.specs.Lists.{In, Once, up_to}
use Rattle.paper.specs.Diagrams.{Diagram, leaf, node, eval, Reduced}
use Rattle.paper.specs.Sets.{none}
use Rattle.algebra.specs.Operations.{subs, is_node}
use Rattle.algebra.proofs.Base.{Three, below, beyond, equal, three, same_node}
use Rattle.algebra.proofs.Lists.{in_append}
use Rattle.algebra.proofs.Plain.{Good}
use Rattle.tables.specs.Table.{failed_at, sound_at, event_of, failed_of, sound_of, den}
use Rattle.tables.specs.Stored.{Lower, Unique}
use Rattle.tables.specs.Lent.{Lent}
use Rattle.tables.proofs.Den.{den_0, den_1, den_slot, den_node, den_ind}
use Rattle.tables.proofs.Lent.{lent_lower, lent_ordered}

-- a leaf or the node of a slot
pub data Stands : ℕ → Type 0 where
  leaf_0 : Stands 0
  leaf_1 : Stands 1
  in_slot : (k : ℕ) → Stands (k + 2)

pub stands_at : (i : ℕ) → Stands i
stands_at zero = leaf_0
stands_at (suc zero) = leaf_1
stands_at (suc (suc k)) = let q : k + 2 ≡ suc (suc k) = omega arith in subst Stands q (in_slot k)

module _ {T : List ℕ} {c : ℕ} (low : Lower T c) where
  is_node_lem : (k : ℕ) → k < c → is_node (den T (k + 2)) ≡ true
  is_node_lem k h = ap is_node (den_slot low k h)

  -- each node of a denoted diagram is stored
  pub den_subs : (i : ℕ) → i < c + 2 → (x : Diagram) → is_node x ≡ true → In x (subs (den T i)) → (k : ℕ) × (k < c) × (x ≡ den T (k + 2))
  den_subs i h x q =
      den_ind low (λ i. In x (subs (den T i)) → (k : ℕ) × (k < c) × (x ≡ den T (k + 2)))
      (λ m. none_of false (subst (λ d. In x (subs d)) (den_0 T) m))
      (λ m. none_of true (subst (λ d. In x (subs d)) (den_1 T) m))
      (λ i h l f s m. some_of i h l f s (subst (λ d. In x (subs d)) (den_node low i h l) m))
      i h
    where
      none_of : (b : Bool) → In x (subs (leaf b)) → (k : ℕ) × (k < c) × (x ≡ den T (k + 2))
      none_of b (inl e) = absurd (true≢false (sym q ∙ ap is_node e))
      none_of b (inr m) = absurd m

      some_of : (i : ℕ) → 2 ≤ i → i < c + 2 → (In x (subs (den T (failed_of T i))) → (k : ℕ) × (k < c) × (x ≡ den T (k + 2)))
          → (In x (subs (den T (sound_of T i))) → (k : ℕ) × (k < c) × (x ≡ den T (k + 2)))
          → In x (subs (node (event_of T i) (den T (failed_of T i)) (den T (sound_of T i)))) → (k : ℕ) × (k < c) × (x ≡ den T (k + 2))
      some_of i h l f s (inl e) =
          let number : i ≡ i - 2 + 2 = omega arith in
          (i - 2, omega arith, e ∙ sym (den_node low i h l) ∙ ap (den T) number)
      some_of i h l f s (inr m) = pick (in_append x (subs (den T (failed_of T i))) (subs (den T (sound_of T i))) m)
        where
          pick : In x (subs (den T (failed_of T i))) ⊎ In x (subs (den T (sound_of T i))) → (k : ℕ) × (k < c) × (x ≡ den T (k + 2))
          pick (inl m) = f m
          pick (inr m) = s m

module _ {T : List ℕ} {c : ℕ} (low : Lower T c) (unique : Unique T c) where
  inj_slot : (j k : ℕ) → j < c → k < c → den T (j + 2) ≡ den T (k + 2) → ((x y : ℕ) → x < j + 2 → y < c + 2 → den T x ≡ den T y → x ≡ y) → j ≡ k
  inj_slot j k a b e r =
      let fj = low.failed j a in
      let sj = low.sound j a in
      let fk = low.failed k b in
      let sk = low.sound k b in
      let (p, q, w) = same_node (sym (den_slot low j a) ∙ e ∙ den_slot low k b) in
      unique.same j k a b p (r (failed_at T j) (failed_at T k) fj (omega arith) q) (r (sound_at T j) (sound_at T k) sj (omega arith) w)

  inj_one : {i j : ℕ} → Stands i → Stands j → i < c + 2 → j < c + 2 → den T i ≡ den T j → ((x y : ℕ) → x < i → y < c + 2 → den T x ≡ den T y → x ≡ y) → i ≡ j
  inj_one leaf_0 leaf_0 a b e r = refl
  inj_one leaf_0 leaf_1 a b e r = absurd (false≢true (ap (λ d. eval d none) (sym (den_0 T) ∙ e ∙ den_1 T)))
  inj_one leaf_0 (in_slot k) a b e r = absurd (false≢true (ap is_node (sym (den_0 T) ∙ e) ∙ is_node_lem low k (omega arith)))
  inj_one leaf_1 leaf_0 a b e r = absurd (false≢true (ap (λ d. eval d none) (sym (den_0 T) ∙ sym e ∙ den_1 T)))
  inj_one leaf_1 leaf_1 a b e r = refl
  inj_one leaf_1 (in_slot k) a b e r = absurd (false≢true (ap is_node (sym (den_1 T) ∙ e) ∙ is_node_lem low k (omega arith)))
  inj_one (in_slot k) leaf_0 a b e r = absurd (false≢true (ap is_node (sym (den_0 T) ∙ sym e) ∙ is_node_lem low k (omega arith)))
  inj_one (in_slot k) leaf_1 a b e r = absurd (false≢true (ap is_node (sym (den_1 T) ∙ sym e) ∙ is_node_lem low k (omega arith)))
  inj_one (in_slot j) (in_slot k) a b e r = ap (λ x. x + 2) (inj_slot j k (omega arith) (omega arith) e r)

  inj_to : (k i j : ℕ) → i ≤ k → i < c + 2 → j < c + 2 → den T i ≡ den T j → i ≡ j
  inj_to zero i j l a b e = inj_one (stands_at i) (stands_at j) a b e (λ x y h. absurd (omega arith))
  inj_to (suc k) i j l a b e = inj_one (stands_at i) (stands_at j) a b e (λ x y h m q. inj_to k x y (omega arith) (omega arith) m q)

  -- HASH-CONSING: two numbers of one diagram are equal
  pub den_inj : {i j : ℕ} → i < c + 2 → j < c + 2 → den T i ≡ den T j → i ≡ j
  den_inj {i} {j} a b e = inj_to i i j (omega arith) a b e

  -- branches that differ denote diagrams that differ
  pub den_reduced : ((k : ℕ) → k < c → failed_at T k ≢ sound_at T k) → (i : ℕ) → i < c + 2 → Reduced (den T i)
  den_reduced differ =
      den_ind low (λ i. Reduced (den T i)) (rw (den_0 T) tt) (rw (den_1 T) tt)
      (λ i h l f s. let k : i - 2 < c = omega arith in
      let a = low.failed (i - 2) k in
      let b = low.sound (i - 2) k in
      rw (den_node low i h l) ((λ q. differ (i - 2) k (den_inj (omega arith) (omega arith) q)), f, s))

-- a lent diagram without two equal nodes is ordered and reduced
pub lent_good : {n : ℕ} {T : List ℕ} {c root : ℕ} → Lent false n T c root → Unique T c → (i : ℕ) → i < c + 2 → Good n 0 (den T i)
lent_good {n} {T} {c} {root} lent unique i h = (
  lent_ordered lent h,
  den_reduced (lent_lower lent) unique
      (λ k l. let q : k + 2 - 2 ≡ k = omega arith in subst (λ j. failed_at T j ≢ sound_at T j) q (lent.nodes (k + 2) (omega arith) (omega arith)).1)
      i h,
)

-- ---- the list of the stored diagrams

abbrev pub dens_from : List ℕ → ℕ → ℕ → List Diagram
dens_from T k m = map (λ j. den T (j + 2)) (up_to k m)

abbrev pub dens : List ℕ → ℕ → List Diagram
dens T c = dens_from T c 0

pub dens_length : (T : List ℕ) (k m : ℕ) → length (dens_from T k m) ≡ k
dens_length T zero m = refl
dens_length T (suc k) m = ap suc (dens_length T k (suc m))

pub in_dens : (T : List ℕ) (k m j : ℕ) → m ≤ j → j < m + k → In (den T (j + 2)) (dens_from T k m)
in_dens T zero m j a b = absurd (omega arith)
in_dens T (suc k) m j a b = go (three m j) (in_dens T k (suc m) j)
  where
    go : Three m j → (suc m ≤ j → j < suc m + k → In (den T (j + 2)) (dens_from T k (suc m))) → In (den T (j + 2)) (dens_from T (suc k) m)
    go (below l u) r = inr (r l (omega arith))
    go (beyond l u w) r = absurd (omega arith)
    go (equal l u w) r = inl (ap (λ x. den T (x + 2)) (sym l))

pub dens_in : (T : List ℕ) (k m : ℕ) (x : Diagram) → In x (dens_from T k m) → (j : ℕ) × (m ≤ j) × (j < m + k) × (x ≡ den T (j + 2))
dens_in T zero m x h = absurd h
dens_in T (suc k) m x (inl e) = (m, omega arith, omega arith, e)
dens_in T (suc k) m x (inr h) = let (j, a, b, e) = dens_in T k (suc m) x h in (j, omega arith, omega arith, e)

module _ {T : List ℕ} {c : ℕ} (low : Lower T c) (unique : Unique T c) where
  pub dens_once : (k m : ℕ) → m + k ≤ c → Once (dens_from T k m)
  dens_once zero m h = tt
  dens_once (suc k) m h = (
    (λ i. let (j, a, b, e) = dens_in T k (suc m) (den T (m + 2)) i in
        let same : m + 2 ≡ j + 2 = den_inj low unique (omega arith) (omega arith) e in
        let bad : ⊥ = omega arith in bad),
    dens_once k (suc m) (omega arith),
  )
