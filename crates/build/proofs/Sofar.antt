-- Gate by gate: after the first g gates the table has the nodes of their steps and no other, and the list has their nodes.
-- Assumes nothing.
use mathlib.Core.Path.{◌≡◌, refl, sym, ap, ap₂, ◌∙◌, subst}
use mathlib.Core.Logic.{◌≢◌}
use mathlib.Core.Bool.{false}
use mathlib.Core.List.{List, [], ◌∷◌, ◌++◌, map}
use Prim.Native.Nat.{ℕ, zero, suc, ◌+◌, ◌-◌, ◌*◌, ◌/◌, ◌≤◌, ◌<◌}
use native.Mathlib.Omega.{arith}
use native.Mathlib.Decide.{ℕ_discrete}
use lib.ListN.{length, take, get_or, set, replicate, length-set}
use lib.Seq.{take_all, length-take-le, get_or-set_same, get_or-set_other}
use Rattle.paper.specs.Lists.{In}
use Rattle.paper.specs.Limits.{most_numbers}
use Rattle.paper.specs.Trees.{Gate}
use Rattle.paper.specs.Diagrams.{Diagram, leaf}
use Rattle.algebra.specs.Operations.{node_count, gate_diagrams, step_diagrams}
use Rattle.algebra.proofs.Lists.{in_left, in_right}
use Rattle.tables.specs.Table.{den}
use Rattle.tables.proofs.Den.{den_0}
use Rattle.store.specs.Building.{PartOf, Found, Step, Stops, Only}
use Rattle.store.specs.Memo.{Places}
use Rattle.store.proofs.Denotes.{found_grown}
use Rattle.store.proofs.Building.{step_more, only_none, only_step, only_more, lacks_more, tidy_none}
use Rattle.store.proofs.Counting.{nodes_done, nodes_full}
use Rattle.store.proofs.Zeros.{zero_at, store_cleared, memo_cleared}
use Rattle.gates.specs.Rules.{value_d, steps_d}
use Rattle.paper.specs.Flat.{gates_of}
use Rattle.build.specs.Memory.{start_of, gate_at}
use Rattle.atleast.specs.Making.{All, Within, Gained}
use Rattle.build.specs.Finishing.{added_by, AddedTo, Areas, Sofar, Whole, TooMany, Finishes}
use Rattle.std.specs.Prelude.{Result}
use Rattle.store.specs.declared.Built.{Built}
use Rattle.build.specs.declared.Over.{Over}
use Rattle.atleast.proofs.Making.{found_0, all_none, all_append, all_grown, part_more}
use Rattle.gates.proofs.ByKind.{value_same, steps_same}
use Rattle.build.proofs.Gates.{gates_length, gates_next, sum_next, diagrams_next, steps_next, diagrams_length}

-- ---- before the first gate

no_steps : step_diagrams [] ≡ []
unfolding step_diagrams
no_steps = refl

no_gates : gate_diagrams [] ≡ []
unfolding gate_diagrams
no_gates = refl

-- in memory that was cleared; the links may hold anything
pub sofar_none : (t : List Gate) (n h : ℕ) (M : List ℕ) (l k : ℕ) (X : List ℕ) → n ≤ most_numbers → n ≤ 3 * length X → 1 ≤ h → Places M → Sofar t 0 (replicate l 0) (replicate k 0) (replicate n 0) (replicate h 0) X (replicate (length M) 0) 0
sofar_none t n h M l k X a b d e = record {
  held = record { store = store_cleared n h X a b d; tidy = tidy_none (replicate n 0); memo = memo_cleared M e };
  only = only_none;
  all = subst (All (replicate n 0) 0) (sym no_steps) all_none;
  list = λ i. subst (λ gs. Found (replicate n 0) 0 (get_or gs i (leaf false)) (get_or (replicate l 0) i 0)) (sym no_gates) (subst (Found (replicate n 0) 0 (leaf false)) (sym (zero_at l i)) (found_0 (replicate n 0) 0));
  zeros = λ i _. zero_at l i;
  added = record { each = λ i m. absurd (omega arith); behind = λ i _. zero_at k i };
}

-- ---- what the gate list denotes

at_map : (T G : List ℕ) (i : ℕ) → get_or (map (den T) G) i (leaf false) ≡ den T (get_or G i 0)
at_map T [] i = sym (den_0 T)
at_map T (x ∷ G) zero = refl
at_map T (x ∷ G) (suc i) = at_map T G i

at_end : (gs : List Diagram) (D : Diagram) → get_or (gs ++ (D ∷ [])) (length gs) (leaf false) ≡ D
at_end [] D = refl
at_end (g ∷ gs) D = at_end gs D

at_other : (gs : List Diagram) (D : Diagram) (i : ℕ) → i ≢ length gs → get_or (gs ++ (D ∷ [])) i (leaf false) ≡ get_or gs i (leaf false)
at_other [] D zero n = absurd (n refl)
at_other [] D (suc i) n = refl
at_other (g ∷ gs) D zero n = refl
at_other (g ∷ gs) D (suc i) n = at_other gs D i (λ e. n (ap suc e))

-- ---- one gate more adds so many

added_next : {t : List Gate} {g : ℕ} {A : List ℕ} → AddedTo t g A → g < length A → (n : ℕ) → n ≡ added_by t g → AddedTo t (g + 1) (set A g n)
added_next {t} {g} {A} a l n e = record {
  each = λ i m. go i m (ℕ_discrete i g);
  behind = λ i m. get_or-set_other A g i n 0 (omega arith) ∙ a.behind i (omega arith);
}
  where
    go : (i : ℕ) → i < g + 1 → Dec (i ≡ g) → get_or (set A g n) i 0 ≡ added_by t i
    go i m (yes q) = ap (λ j. get_or (set A g n) j 0) q ∙ get_or-set_same A g n 0 l ∙ e ∙ ap (added_by t) (sym q)
    go i m (no q) = get_or-set_other A g i n 0 q ∙ a.each i (omega arith)

module _ {t : List Gate} {g : ℕ} {G A T H X M : List ℕ} {c : ℕ} (a : Sofar t g G A T H X M c) where
  abbrev gs : List Diagram
  gs = gate_diagrams (take g t)

  abbrev ds : List Diagram
  ds = step_diagrams (take g t)

  same : (i : ℕ) → get_or (map (den T) G) i (leaf false) ≡ get_or gs i (leaf false)
  same i = at_map T G i ∙ (a.list i).is

  pub sofar_within : Within c G
  sofar_within = record { each = λ j l. (a.list j).within }

  -- as many nodes as the steps of the first g gates have
  pub sofar_count : c ≡ node_count (step_diagrams (take g t))
  sofar_count = nodes_done a.held.store ds a.only a.all.each

  pub sofar_end : {root : ℕ} → length t ≤ g → root ≡ get_or G (g - 1) 0 → g ≤ length t → Whole t G A T H X root c
  sofar_end {root} l e h =
      let q : take g t ≡ t = take_all g t l in
      let z : g ≡ length t = omega arith in
      record {
        store = a.held.store;
        tidy = a.held.tidy;
        only = subst (λ s. Only (PartOf (step_diagrams s)) T c) q a.only;
        all = subst (λ s. All T c (step_diagrams s)) q a.all;
        count = sofar_count ∙ ap (λ s. node_count (step_diagrams s)) q;
        gates = λ i. subst (λ s. Found T c (get_or (gate_diagrams s) i (leaf false)) (get_or G i 0)) q (a.list i);
        zeros = λ i b. a.zeros i (omega arith);
        added = subst (λ n. AddedTo t n A) z a.added;
        last = e ∙ ap (λ n. get_or G (n - 1) 0) z;
      }

  -- ---- the next gate is x
  module _ (x : Gate) (next : take (g + 1) t ≡ take g t ++ (x ∷ [])) (inside : g < length t) where
    steps_are : step_diagrams (take (g + 1) t) ≡ ds ++ steps_d (map (den T) G) x
    steps_are = ap step_diagrams next ∙ steps_next (take g t) x ∙ ap (λ r. ds ++ r) (sym (steps_same (map (den T) G) gs same x))

    gates_are : gate_diagrams (take (g + 1) t) ≡ gs ++ (value_d (map (den T) G) x ∷ [])
    gates_are = ap gate_diagrams next ∙ diagrams_next (take g t) x ∙ ap (λ D. gs ++ (D ∷ [])) (sym (value_same (map (den T) G) gs same x))

    old : (d : Diagram) → In d ds → In d (step_diagrams (take (g + 1) t))
    old d h = subst (λ es. In d es) (sym steps_are) (in_left d ds (steps_d (map (den T) G) x) h)

    new : (d : Diagram) → In d (steps_d (map (den T) G) x) → In d (step_diagrams (take (g + 1) t))
    new d h = subst (λ es. In d es) (sym steps_are) (in_right d ds (steps_d (map (den T) G) x) h)

    only_next : {T₂ H₂ X₂ : List ℕ} {c₂ : ℕ} → Step (PartOf (steps_d (map (den T) G) x)) T c T₂ H₂ X₂ c₂ → Only (PartOf (step_diagrams (take (g + 1) t))) T₂ c₂
    only_next s = only_step a.held.store (only_more (part_more old) a.only) (step_more (part_more new) s)

    all_next : {T₂ H₂ X₂ M₂ : List ℕ} {c₂ r : ℕ} → Gained (steps_d (map (den T) G) x) (value_d (map (den T) G) x) T c T₂ H₂ X₂ M₂ c₂ r → All T₂ c₂ (step_diagrams (take (g + 1) t))
    all_next {T₂} {c₂ = c₂} b = subst (All T₂ c₂) (sym steps_are) (all_append (all_grown a.held.store.lower b.made.step.grown a.all) b.made.all)

    -- what the gate adds is how much the count grew
    adds : {T₂ H₂ X₂ M₂ : List ℕ} {c₂ r : ℕ} → Gained (steps_d (map (den T) G) x) (value_d (map (den T) G) x) T c T₂ H₂ X₂ M₂ c₂ r → c₂ - c ≡ added_by t g
    adds b = ap₂ ◌-◌ (nodes_done b.held.store (step_diagrams (take (g + 1) t)) (only_next b.made.step) (all_next b).each) sofar_count

    gs_long : length gs ≡ g
    gs_long = diagrams_length (take g t) ∙ length-take-le g t (omega arith)

    pub sofar_next : {T₂ H₂ X₂ M₂ : List ℕ} {c₂ r : ℕ} → g < length G → g < length A → Gained (steps_d (map (den T) G) x) (value_d (map (den T) G) x) T c T₂ H₂ X₂ M₂ c₂ r
        → Sofar t (g + 1) (set G g r) (set A g (c₂ - c)) T₂ H₂ X₂ M₂ c₂
    sofar_next {T₂} {H₂} {X₂} {M₂} {c₂} {r} room place b = record {
      held = b.held;
      only = only_next b.made.step;
      all = all_next b;
      list = λ i. subst (λ hs. Found T₂ c₂ (get_or hs i (leaf false)) (get_or (set G g r) i 0)) (sym gates_are) (go i (ℕ_discrete i g));
      zeros = λ i l. get_or-set_other G g i r 0 (omega arith) ∙ a.zeros i (omega arith);
      added = added_next a.added place (c₂ - c) (adds b);
    }
      where
        go : (i : ℕ) → Dec (i ≡ g) → Found T₂ c₂ (get_or (gs ++ (value_d (map (den T) G) x ∷ [])) i (leaf false)) (get_or (set G g r) i 0)
        go i (yes e) = rw e (subst (λ n. Found T₂ c₂ (get_or (gs ++ (value_d (map (den T) G) x ∷ [])) n (leaf false)) (get_or (set G g r) g 0)) gs_long
            (rw (at_end gs (value_d (map (den T) G) x), get_or-set_same G g r 0 room) b.found))
        go i (no n) = rw (at_other gs (value_d (map (den T) G) x) i (λ e. n (e ∙ gs_long)), get_or-set_other G g i r 0 n)
            (found_grown a.held.store.lower b.made.step.grown (a.list i))

    pub sofar_full : {T₂ H₂ X₂ : List ℕ} {c₂ n : ℕ} → length T ≡ n → Stops (PartOf (steps_d (map (den T) G) x)) T c T₂ H₂ X₂ c₂ → TooMany t (n / 3) g
    sofar_full {T₂} {H₂} {X₂} {c₂} {n} e s = record {
      inside = inside;
      before = subst (λ k. k ≤ n / 3) sofar_count (let r = a.held.store.room in omega arith);
      over = let f = nodes_full s.step.store (step_diagrams (take (g + 1) t)) (only_next s.step) (lacks_more (part_more new) s.lacks) in
          subst (λ k. k / 3 < node_count (step_diagrams (take (g + 1) t))) (s.step.grown.long ∙ e) f;
    }

-- ---- the loop over the gates in memory: g gates are built, the inputs of the next start at `at`

pub record Going (K L S I : List ℕ) (n l k : ℕ) (G A T H X M : List ℕ) (g at c root : ℕ) : Type 0 where
  pub high : g ≤ length S
  pub start : at ≡ start_of S g
  pub last : root ≡ get_or G (g - 1) 0
  pub listed : length S ≤ l
  pub list : length G ≡ l
  pub counted : length S ≤ k
  pub counts : length A ≡ k
  pub long : length T ≡ n
  pub sofar : Sofar (gates_of K L 0 S I) g G A T H X M c

module _ {K L S I G A T H X M : List ℕ} where
  pub going_start : length S ≤ length G → length S ≤ length A → Sofar (gates_of K L 0 S I) 0 G A T H X M 0 → Going K L S I (length T) (length G) (length A) G A T H X M 0 0 0 0
  going_start l m a = record { high = omega arith; start = refl; last = sym (a.zeros 0 (omega arith)); listed = l; list = refl; counted = m; counts = refl; long = refl; sofar = a }

  module _ {n l k g at c root : ℕ} (a : Going K L S I n l k G A T H X M g at c root) where
    abbrev t : List Gate
    t = gates_of K L 0 S I

    t_long : length t ≡ length S
    t_long = gates_length K L 0 S I

    pub going_end : length S ≤ g → Whole t G A T H X root c
    going_end d = let h = a.high in sofar_end a.sofar (let e = t_long in omega arith) a.last (let e = t_long in omega arith)

    module _ (b : g < length S) where
      next_is : take (g + 1) t ≡ take g t ++ (gate_at K L S I g ∷ [])
      next_is = gates_next K L S I g b

      inside : g < length t
      inside = let e = t_long in omega arith

      pub going_short : {T₂ H₂ X₂ : List ℕ} {c₂ : ℕ} → Stops (PartOf (steps_d (map (den T) G) (gate_at K L S I g))) T c T₂ H₂ X₂ c₂ → TooMany t (n / 3) g
      going_short s = sofar_full a.sofar (gate_at K L S I g) next_is inside a.long s

      pub going_next : {T₂ H₂ X₂ M₂ : List ℕ} {c₂ r : ℕ}
          → Gained (steps_d (map (den T) G) (gate_at K L S I g)) (value_d (map (den T) G) (gate_at K L S I g)) T c T₂ H₂ X₂ M₂ c₂ r
          → Going K L S I n l k (set G g r) (set A g (c₂ - c)) T₂ H₂ X₂ M₂ (g + 1) (at + get_or S g 0) c₂ r
      going_next {c₂ = c₂} {r = r} m =
          let room : g < length G = let d = a.listed in let e = a.list in omega arith in
          let place : g < length A = let d = a.counted in let e = a.counts in omega arith in
          record {
            high = omega arith;
            start = ap (λ i. i + get_or S g 0) a.start ∙ sym (sum_next S g b);
            last = let z : g + 1 - 1 ≡ g = omega arith in sym (get_or-set_same G g r 0 room) ∙ ap (λ i. get_or (set G g r) i 0) (sym z);
            listed = a.listed;
            list = length-set G g r ∙ a.list;
            counted = a.counted;
            counts = length-set A g (c₂ - c) ∙ a.counts;
            long = m.made.step.grown.long ∙ a.long;
            sofar = sofar_next a.sofar (gate_at K L S I g) next_is inside room place m;
          }

-- ---- whatever the memory held at entry

pub sofar_cleared : (s : List Gate) (M₀ G₀ A₀ : List ℕ) {T₀ H₀ T H X M G A : List ℕ} → Areas T₀ H₀ X
    → T ≡ replicate (length T₀) 0 → H ≡ replicate (length H₀) 0 → M ≡ replicate (length M₀) 0 → G ≡ replicate (length G₀) 0 → A ≡ replicate (length A₀) 0 → Places M₀ → Sofar s 0 G A T H X M 0
sofar_cleared s M₀ G₀ A₀ {T₀} {H₀} {T} {H} {X} {M} {G} {A} a p q r e d l =
    subst (λ T. Sofar s 0 G A T H X M 0) (sym p) (subst (λ H. Sofar s 0 G A (replicate (length T₀) 0) H X M 0) (sym q)
    (subst (λ M. Sofar s 0 G A (replicate (length T₀) 0) (replicate (length H₀) 0) X M 0) (sym r)
    (subst (λ G. Sofar s 0 G A (replicate (length T₀) 0) (replicate (length H₀) 0) X (replicate (length M₀) 0) 0) (sym e)
    (subst (λ A. Sofar s 0 (replicate (length G₀) 0) A (replicate (length T₀) 0) (replicate (length H₀) 0) X (replicate (length M₀) 0) 0) (sym d)
    (sofar_none s (length T₀) (length H₀) M₀ (length G₀) (length A₀) X a.small a.linked a.chains l)))))

pub same_room : (s : List Gate) (G A T H X : List ℕ) (r : Result Built Over) {n m : ℕ} → n ≡ m → Finishes s (n / 3) G A T H X r → Finishes s (m / 3) G A T H X r
same_room s G A T H X r e f = subst (λ n. Finishes s (n / 3) G A T H X r) e f
