-- Two functions of events that are one under a renumbering have the same exact chance, where each event keeps its own.
-- Assumes nothing.
use mathlib.Core.Path.{◌≡◌, refl, sym, ap, ap₂, ◌∙◌, subst, fun_ext}
use mathlib.Core.Logic.{◌≢◌, inl, inr}
use mathlib.Core.Bool.{Bool, true, false, cond, true≢false}
use mathlib.Core.List.{List, [], ◌∷◌, map}
use Prim.Native.Nat.{ℕ, zero, suc, ◌+◌, ◌*◌, ◌-◌, ◌<◌}
use native.Mathlib.Decide.{ℕ_discrete}
use native.Mathlib.Omega.{arith}
use borrow.Author.Tests.{eq-eqb, eqb-true, eqb-false}
use lib.Dec.{eqb}
use lib.ListN.{length-map}
use Rattle.paper.specs.Lists.{In, Once, up_to, sum}
use Rattle.paper.specs.Sets.{Set, none, put}
use Rattle.paper.specs.Functions.{Fun, fix_f}
use Rattle.paper.specs.Chance.{weight, total}
use Rattle.algebra.proofs.Base.{put_same, put_other}
use Rattle.algebra.proofs.Lists.{in_map, map_in}
use Rattle.algebra.proofs.Depends.{put_swap}
use Rattle.algebra.proofs.Bracket.{total_step}
use Rattle.meaning.proofs.Few.{below_in, below_of, once_up_to, length_up_to, once_part}
use Rattle.meaning.proofs.Less.{without, in_without, without_in, without_once, without_own}
use Rattle.meaning.proofs.Sums.{once_map}
use Rattle.meaning.proofs.Blind.{Blind}

-- the sum over the sets of the events of a list, one event after the other
abbrev over : ℕ → (ℕ → ℕ) → List ℕ → Fun → ℕ
over D a [] F = cond (F none) 1 0
over D a (e ∷ l) F = a e * over D a l (fix_f e true F) + (D - a e) * over D a l (fix_f e false F)

-- ---- the order of events does not matter

swap_sum : (p c q d A B C E : ℕ) → q * (p * A + c * B) + d * (p * C + c * E) ≡ p * (q * A + d * C) + c * (q * B + d * E)
swap_sum p c q d A B C E = omega arith

module _ (D : ℕ) (a : ℕ → ℕ) where
  over_swap : (x y : ℕ) (l : List ℕ) (F : Fun) → y ≢ x → over D a (y ∷ x ∷ l) F ≡ over D a (x ∷ y ∷ l) F
  over_swap x y l F n =
      swap_sum (a x) (D - a x) (a y) (D - a y) (sums true true) (sums false true) (sums true false) (sums false false)
      ∙ ap₂ (λ s t. a x * s + (D - a x) * t) (ap₂ (λ s t. a y * s + (D - a y) * t) (swapped true true) (swapped true false)) (ap₂ (λ s t. a y * s + (D - a y) * t) (swapped false true) (swapped false false))
    where
      sums : Bool → Bool → ℕ
      sums b c = over D a l (fix_f x b (fix_f y c F))

      swapped : (b c : Bool) → over D a l (fix_f x b (fix_f y c F)) ≡ over D a l (fix_f y c (fix_f x b F))
      swapped b c = ap (over D a l) (fun_ext (λ v. ap F (put_swap y x c b v n)))

  -- any event of the list may be the first
  over_first : (x : ℕ) (l : List ℕ) (F : Fun) → In x l → over D a l F ≡ over D a (x ∷ without x l) F
  over_first x [] F h = absurd h
  over_first x (y ∷ l) F h = go (eqb x y) refl h (over_first x l)
    where
      go : (t : Bool) → eqb x y ≡ t → In x (y ∷ l) → ((G : Fun) → In x l → over D a l G ≡ over D a (x ∷ without x l) G)
          → over D a (y ∷ l) F ≡ over D a (x ∷ cond t l (y ∷ without x l)) F
      go true e k r = ap (λ z. over D a (z ∷ l) F) (sym (eqb-true x y e))
      go false e (inl q) r = absurd (true≢false (sym (eq-eqb x y q) ∙ e))
      go false e (inr k) r =
          ap₂ (λ s t. a y * s + (D - a y) * t) (r (fix_f y true F) k) (r (fix_f y false F) k)
          ∙ over_swap x y (without x l) F (λ q. eqb-false x y e (sym q))

  over_same : (l m : List ℕ) (F : Fun) → Once l → Once m → ((z : ℕ) → In z l → In z m) → ((z : ℕ) → In z m → In z l) → over D a l F ≡ over D a m F
  over_same [] [] F o p f g = refl
  over_same [] (y ∷ m) F o p f g = absurd (g y (inl refl))
  over_same (e ∷ l) m F o p f g =
      let rest : (G : Fun) → over D a l G ≡ over D a (without e m) G = λ G.
      over_same l (without e m) G o.1 (without_once e m p) (λ z h. in_without e z m (λ q. o.0 (subst (λ i. In i l) q h)) (f z (inr h))) (λ z h. back z h (g z (without_in e z m h))) in
      ap₂ (λ s t. a e * s + (D - a e) * t) (rest (fix_f e true F)) (rest (fix_f e false F)) ∙ sym (over_first e m F (f e (inl refl)))
    where
      back : (z : ℕ) → In z (without e m) → In z (e ∷ l) → In z l
      back z h (inl q) = absurd (without_own e m p (subst (λ i. In i (without e m)) q h))
      back z h (inr k) = k

  -- THE EXACT SUM is that over all events
  total_over : (k m : ℕ) (F : Fun) → total D a k m F ≡ over D a (up_to k m) F
  unfolding total
  total_over zero m F = go (F none)
    where
      go : (t : Bool) → sum (map (weight D a 0 m) (cond t (none ∷ []) [])) ≡ cond t 1 0
      go true = refl
      go false = refl
  total_over (suc k) m F = total_step D a k m F ∙ ap₂ (λ s t. a m * s + (D - a m) * t) (total_over k (suc m) (fix_f m true F)) (total_over k (suc m) (fix_f m false F))

-- ---- nor do their numbers

module _ (D : ℕ) (a b : ℕ → ℕ) (m : ℕ) (to : ℕ → ℕ) (apart : (e f : ℕ) → e < m → f < m → to e ≡ to f → e ≡ f) (chances : (e : ℕ) → e < m → b (to e) ≡ a e) where
  abbrev Renumbered : Fun → Fun → Type 0
  Renumbered F G = (v : Set) → G v ≡ F (λ e. v (to e))

  blind_fix : (e : ℕ) (c : Bool) (F : Fun) → Blind m F → Blind m (fix_f e c F)
  blind_fix e c F h v u k = h (put e c v) (put e c u) (λ i l. ap (cond (eqb i e) c) (k i l))

  renumbered_fix : (e : ℕ) → e < m → (c : Bool) (F G : Fun) → Blind m F → Renumbered F G → Renumbered (fix_f e c F) (fix_f (to e) c G)
  renumbered_fix e h c F G blind same v = same (put (to e) c v) ∙ blind (λ i. put (to e) c v (to i)) (put e c (λ i. v (to i))) (λ i l. go i l (ℕ_discrete i e))
    where
      go : (i : ℕ) → i < m → Dec (i ≡ e) → put (to e) c v (to i) ≡ put e c (λ j. v (to j)) i
      go i l (yes q) = ap (λ j. put (to e) c v (to j)) q ∙ put_same (to e) c v ∙ sym (ap (put e c (λ j. v (to j))) q ∙ put_same e c (λ j. v (to j)))
      go i l (no q) = put_other (to e) c v (to i) (λ r. q (apart i e l h r)) ∙ sym (put_other e c (λ j. v (to j)) i q)

  over_renumbered : (l : List ℕ) (F G : Fun) → Blind m F → Renumbered F G → ((e : ℕ) → In e l → e < m) → over D b (map to l) G ≡ over D a l F
  over_renumbered [] F G blind same low = ap (λ t. cond t 1 0) (same none)
  over_renumbered (e ∷ l) F G blind same low =
      let own : e < m = low e (inl refl) in
      let rest : (c : Bool) → over D b (map to l) (fix_f (to e) c G) ≡ over D a l (fix_f e c F) = λ c.
      over_renumbered l (fix_f e c F) (fix_f (to e) c G) (blind_fix e c F blind) (renumbered_fix e own c F G blind same) (λ i h. low i (inr h)) in
      ap₂ ◌+◌ (ap₂ ◌*◌ (chances e own) (rest true)) (ap₂ ◌*◌ (ap (λ c. D - c) (chances e own)) (rest false))

  module _ (n : ℕ) (low : (e : ℕ) → e < m → to e < n) (onto : (i : ℕ) → i < n → (e : ℕ) × (e < m) × (to e ≡ i)) where
    to_once : Once (map to (up_to m 0))
    to_once = once_map to (up_to m 0) (once_up_to m 0) (λ e f h k. apart e f (below_of m e h) (below_of m f k))

    reached : (z : ℕ) → In z (up_to n 0) → In z (map to (up_to m 0))
    reached z h = let (e, l, q) = onto z (below_of n z h) in subst (λ i. In i (map to (up_to m 0))) q (in_map to e (up_to m 0) (below_in m e l))

    kept : (z : ℕ) → In z (map to (up_to m 0)) → In z (up_to n 0)
    kept z h = let (e, k, q) = map_in to z (up_to m 0) h in below_in n z (subst (λ i. i < n) (sym q) (low e (below_of m e k)))

    -- AS MANY EVENTS
    pub same_count : n ≡ m
    same_count =
        let p = once_part (up_to n 0) (map to (up_to m 0)) (once_up_to n 0) reached in
        let q = once_part (map to (up_to m 0)) (up_to n 0) to_once kept in
        omega (arith, length-map (up_to m 0) to, length_up_to m 0, length_up_to n 0)

    -- THE SAME EXACT CHANCE
    pub same_total : (F G : Fun) → Blind m F → Renumbered F G → total D b n 0 G ≡ total D a m 0 F
    same_total F G blind same =
        total_over D b n 0 G ∙ over_same D b (up_to n 0) (map to (up_to m 0)) G (once_up_to n 0) to_once reached kept
        ∙ over_renumbered (up_to m 0) F G blind same (λ e h. below_of m e h) ∙ sym (total_over D a m 0 F)
