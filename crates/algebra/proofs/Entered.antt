-- A walk that enters a node only where there is hope finds the report, and enters at most n nodes for each set that it finds.
-- Assumes nothing.
use mathlib.Core.Path.{◌≡◌, refl, sym, ap, ap₂, ◌∙◌, subst}
use mathlib.Core.Bool.{Bool, true, false, cond, false≢true}
use mathlib.Core.List.{List, [], ◌∷◌, ◌++◌, map}
use Prim.Native.Nat.{ℕ, suc, ◌+◌, ◌*◌, ◌-◌, ◌≤◌, ◌<◌}
use native.Mathlib.Nat.{mul-le-mul_right, suc-mul}
use native.Mathlib.Omega.{arith}
use lib.ListN.{length, length-append}
use Rattle.paper.specs.Lists.{In, keep}
use Rattle.paper.specs.Sets.{Set, none, put}
use Rattle.paper.specs.Diagrams.{Diagram, leaf, node, Ordered}
use Rattle.paper.specs.Cuts.{sets_of}
use Rattle.paper.specs.Reports.{reportable, report}
use Rattle.algebra.specs.Reports.{over, Way, with, hopeful, walk, visits}
use Rattle.algebra.proofs.Lists.{in_keep, keep_append, keep_none, map_append, map_map, map_same, map_in, in_map}
use Rattle.algebra.proofs.Sets.{not_true}
use Rattle.algebra.proofs.Products.{size_none, product_none, way_of}
use Rattle.algebra.proofs.Reports.{length_some, hopeful_law, with_law, over_put, over_none, still_low}

module _ (D : ℕ) (a : ℕ → ℕ) (n : ℕ) (D0 : 0 < D) (r : ℕ) where
  pub walk_law : (m : ℕ) (z : Diagram) → Ordered m n z → (P : Set) → ((i : ℕ) → m ≤ i → P i ≡ false) → (w : Way) → w ≡ way_of D a n D0 P
      → walk D a n r P w z ≡ report D a n r (map (over P) (sets_of z))
  walk_law m (leaf true) o P low w k = ap (λ S. cond (reportable D a n r S) (S ∷ []) []) (sym (over_none P))
  walk_law m (leaf false) o P low w k = refl
  walk_law m (node e f s) o P low w k =
      go (hopeful D a r w (node e f s)) refl
      (walk_law (suc e) f o.2 (put e true P) (still_low P m e low o.0) (with D a e w) (with_law D a n D0 P e w (λ i l. low i (omega (arith, o.0))) o.1 k))
      (walk_law (suc e) s o.3 P (λ i l. low i (omega (arith, o.0))) w k)
    where
      t : Set → Bool
      t = reportable D a n r

      go : (b : Bool) → hopeful D a r w (node e f s) ≡ b
          → walk D a n r (put e true P) (with D a e w) f ≡ report D a n r (map (over (put e true P)) (sets_of f))
          → walk D a n r P w s ≡ report D a n r (map (over P) (sets_of s))
          → cond b (walk D a n r (put e true P) (with D a e w) f ++ walk D a n r P w s) [] ≡ report D a n r (map (over P) (sets_of (node e f s)))
      go false q rf rs = sym (keep_none t (map (over P) (sets_of (node e f s)))
          (λ S h. let (T, i, u) = map_in (over P) S (sets_of (node e f s)) h in
          ap t u ∙ not_true (t (over P T)) (λ y. false≢true (sym q ∙ ap (λ v. hopeful D a r v (node e f s)) k ∙ (hopeful_law D a n D0 m (node e f s) o P low r).1 (T, i, y)))))
      go true q rf rs = ap₂ ◌++◌ rf rs ∙ sym (
          ap (keep t) (map_append (over P) (map (put e true) (sets_of f)) (sets_of s))
          ∙ keep_append t (map (over P) (map (put e true) (sets_of f))) (map (over P) (sets_of s))
          ∙ ap (λ l. keep t l ++ keep t (map (over P) (sets_of s)))
          (sym (map_map (over P) (put e true) (sets_of f)) ∙ map_same (λ T. over P (put e true T)) (over (put e true P)) (sets_of f) (λ T h. over_put P T e)))

  -- THE WALK FINDS THE REPORT, from the root
  pub walk_all : (z : Diagram) → Ordered 0 n z → walk D a n r none (record { members = 0; chance = 1 }) z ≡ report D a n r (sets_of z)
  walk_all z o =
      walk_law 0 z o none (λ i l. refl) (record { members = 0; chance = 1 }) (ap₂ (λ c p. record { members = c; chance = p }) (sym (size_none n 0)) (sym (product_none a n 0)))
      ∙ ap (report D a n r) (same (sets_of z))
    where
      same : (l : List Set) → map (over none) l ≡ l
      same [] = refl
      same (S ∷ l) = ap (S ∷◌) (same l)

  -- on plain numbers: h levels below, lf and ls found there
  level : (vf vs lf ls h g : ℕ) → vf ≤ h * lf → vs ≤ h * ls → 0 < lf + ls → suc h ≤ g → suc (vf + vs) ≤ g * (lf + ls)
  level vf vs lf ls h g x y p q = omega (arith, mul-le-mul_right (lf + ls) q, suc-mul h (lf + ls))

  -- NO NODE IN VAIN: it enters at most n nodes for each set that it finds
  pub few_visits : (m : ℕ) (z : Diagram) → Ordered m n z → (P : Set) → ((i : ℕ) → m ≤ i → P i ≡ false) → (w : Way) → w ≡ way_of D a n D0 P
      → visits D a n r w z ≤ (n - m) * length (walk D a n r P w z)
  few_visits m (leaf b) o P low w q = omega arith
  few_visits m (node e f s) o P low w q =
      go (hopeful D a r w (node e f s)) refl
      (few_visits (suc e) f o.2 (put e true P) (still_low P m e low o.0) (with D a e w) (with_law D a n D0 P e w (λ i l. low i (omega (arith, o.0))) o.1 q))
      (few_visits (suc e) s o.3 P (λ i l. low i (omega (arith, o.0))) w q)
    where
      lf : List Set
      lf = walk D a n r (put e true P) (with D a e w) f

      ls : List Set
      ls = walk D a n r P w s

      found : hopeful D a r w (node e f s) ≡ true → 0 < length (lf ++ ls)
      found h =
          let (T, i, t) = (hopeful_law D a n D0 m (node e f s) o P low r).0 (ap (λ v. hopeful D a r v (node e f s)) (sym q) ∙ h) in
          let same : walk D a n r P w (node e f s) ≡ report D a n r (map (over P) (sets_of (node e f s))) = walk_law m (node e f s) o P low w q in
          let got : walk D a n r P w (node e f s) ≡ lf ++ ls = ap (λ b. cond b (lf ++ ls) []) h in
          length_some (over P T) (lf ++ ls) (subst (In (over P T)) (sym same ∙ got)
          (in_keep (reportable D a n r) (over P T) (map (over P) (sets_of (node e f s))) (in_map (over P) T (sets_of (node e f s)) i) t))

      go : (b : Bool) → hopeful D a r w (node e f s) ≡ b → visits D a n r (with D a e w) f ≤ (n - suc e) * length lf → visits D a n r w s ≤ (n - suc e) * length ls
          → cond b (suc (visits D a n r (with D a e w) f + visits D a n r w s)) 0 ≤ (n - m) * length (cond b (lf ++ ls) [])
      go false h x y = omega arith
      go true h x y = rw (length-append lf ls) (level (visits D a n r (with D a e w) f) (visits D a n r w s) (length lf) (length ls) (n - suc e) (n - m) x y (rw (length-append lf ls) at (found h)) (omega (arith, o.0, o.1)))
