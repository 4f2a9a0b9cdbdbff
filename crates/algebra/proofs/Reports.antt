-- The report is the listing's reportable cuts; edition 1 is within edition 2; and when some set below a node is reportable.
-- Assumes nothing.
use mathlib.Core.Path.{◌≡◌, refl, sym, ap, ap₂, ◌∙◌, fun_ext}
use mathlib.Core.Logic.{◌⊎◌, inl, inr, ◌↔◌}
use mathlib.Core.Bool.{Bool, true, false, cond, ◌&&◌, ◌||◌, true≢false, false≢true}
use mathlib.Core.List.{List, [], ◌∷◌}
use Prim.Native.Nat.{ℕ, zero, suc, ◌+◌, ◌*◌, ◌-◌, ◌^◌, ◌≤◌, ◌<◌}
use native.Mathlib.Nat.{mul-le-mul_left, mul-le-mul_right, le_of_mul-le-mul_right, pow-suc}
use native.Mathlib.Omega.{arith}
use lib.Dec.{leb, eqb}
use lib.ListN.{length}
use lib.Pow.{pow-add}
use borrow.Author.Tests.{leb-true, le-leb}
use Rattle.paper.specs.Lists.{In, keep, up_to}
use Rattle.paper.specs.Sets.{Set, none, put}
use Rattle.paper.specs.Diagrams.{Diagram, node, eval, Ordered}
use Rattle.paper.specs.Cuts.{sets_of, cut_list}
use Rattle.paper.specs.Order.{Sorted, behind, from_start}
use Rattle.paper.specs.Reports.{size, product, edge, likely, short, reportable, report}
use Rattle.algebra.specs.Families.{cuts_d}
use Rattle.algebra.specs.Reports.{over, Way, fewest, with, likeliest, hopeful}
use Rattle.algebra.proofs.Base.{put_same, put_other, three, Three, below, beyond, equal}
use Rattle.algebra.proofs.Lists.{bool_iff, in_keep, keep_in}
use Rattle.algebra.proofs.Sets.{set_ext}
use Rattle.algebra.proofs.Without.{Fit, sets_above}
use Rattle.algebra.proofs.CutCount.{and_both}
use Rattle.algebra.proofs.Listing.{sorted_keep, listing_law}
use Rattle.algebra.proofs.Products.{size_put, product_put, size_over, product_over, pow_pos, fewest_law, fewest_reached, way_of, likeliest_law, likeliest_reached}

some : (a b : Bool) → (a || b) ≡ true → (a ≡ true) ⊎ (b ≡ true)
some true b h = inl refl
some false b h = inr h

some_right : (a b : Bool) → b ≡ true → (a || b) ≡ true
some_right true b h = refl
some_right false b h = h

both : (a b : Bool) → a ≡ true → b ≡ true → (a && b) ≡ true
both true b p q = q
both false b p q = absurd (false≢true p)

pub length_some : {A : Type 0} (x : A) (l : List A) → In x l → 0 < length l
length_some x [] h = absurd h
length_some x (y ∷ l) h = omega arith

-- ---- lists kept twice

keep_twice : {A : Type 0} (t u : A → Bool) (l : List A) → ((x : A) → t x ≡ true → u x ≡ true) → keep t (keep u l) ≡ keep t l
keep_twice t u [] h = refl
keep_twice t u (x ∷ l) h = go (t x) (u x) refl (h x) (keep_twice t u l h)
  where
    go : (a b : Bool) → t x ≡ a → (a ≡ true → b ≡ true) → keep t (keep u l) ≡ keep t l → keep t (cond b (x ∷ keep u l) (keep u l)) ≡ cond a (x ∷ keep t l) (keep t l)
    go true true q f r = rw q (ap (x ∷◌) r)
    go true false q f r = absurd (false≢true (f refl))
    go false true q f r = rw q r
    go false false q f r = r

keep_swap : {A : Type 0} (t u : A → Bool) (l : List A) → keep t (keep u l) ≡ keep u (keep t l)
keep_swap t u [] = refl
keep_swap t u (x ∷ l) = go (t x) refl (u x) refl (keep_swap t u l)
  where
    go : (a : Bool) → t x ≡ a → (b : Bool) → u x ≡ b → keep t (keep u l) ≡ keep u (keep t l) → keep t (cond b (x ∷ keep u l) (keep u l)) ≡ keep u (cond a (x ∷ keep t l) (keep t l))
    go true p true q r = rw (p, q) (ap (x ∷◌) r)
    go true p false q r = rw q r
    go false p true q r = rw p r
    go false p false q r = r

-- ---- by the members that a listing writes

abbrev pub product_of : (ℕ → ℕ) → List ℕ → ℕ
product_of a [] = 1
product_of a (e ∷ l) = a e * product_of a l

pub size_members : (k m : ℕ) (S : Set) → size k m S ≡ length (keep S (up_to k m))
size_members zero m S = refl
size_members (suc k) m S = go (S m) (size_members k (suc m) S)
  where
    go : (b : Bool) → size k (suc m) S ≡ length (keep S (up_to k (suc m))) → cond b 1 0 + size k (suc m) S ≡ length (cond b (m ∷ keep S (up_to k (suc m))) (keep S (up_to k (suc m))))
    go true r = omega arith
    go false r = omega arith

pub product_members : (a : ℕ → ℕ) (k m : ℕ) (S : Set) → product a k m S ≡ product_of a (keep S (up_to k m))
product_members a zero m S = refl
product_members a (suc k) m S = go (S m) (product_members a k (suc m) S)
  where
    go : (b : Bool) → product a k (suc m) S ≡ product_of a (keep S (up_to k (suc m))) → cond b (a m) 1 * product a k (suc m) S ≡ product_of a (cond b (m ∷ keep S (up_to k (suc m))) (keep S (up_to k (suc m))))
    go true r = ap (λ p. a m * p) r
    go false r = omega arith

module _ (D : ℕ) (a : ℕ → ℕ) (n : ℕ) where
  pub reportable_is : (r : ℕ) (S : Set) → reportable D a n r S ≡ (short D a n S || (eqb r 2 && likely D a n S))
  unfolding reportable
  reportable_is r S = refl

  -- EDITION 1 WITHIN EDITION 2
  pub edition_law : (S : Set) → reportable D a n 1 S ≡ true → reportable D a n 2 S ≡ true
  unfolding reportable
  edition_law S h = go (some (short D a n S) false h)
    where
      go : (short D a n S ≡ true) ⊎ (false ≡ true) → (short D a n S || likely D a n S) ≡ true
      go (inl q) = rw q
      go (inr q) = absurd (false≢true q)

  pub report_one : (l : List Set) → report D a n 1 (report D a n 2 l) ≡ report D a n 1 l
  report_one l = keep_twice (reportable D a n 1) (reportable D a n 2) l edition_law

  -- EXACTLY THE REPORTABLE CUTS, in the listing's order
  pub report_in : (r : ℕ) (l : List Set) (S : Set) → In S (report D a n r l) ↔ (In S l × (reportable D a n r S ≡ true))
  report_in r l S = (keep_in (reportable D a n r) S l, λ h. in_keep (reportable D a n r) S l h.0 h.1)

  pub report_sorted : (r : ℕ) (l : List Set) → Sorted l → Sorted (report D a n r l)
  report_sorted r l s = sorted_keep (reportable D a n r) l s

  -- a start in the report is a start in the listing
  pub report_start : (r : ℕ) (b : Bool) (S : Set) (l : List Set) → from_start b n S (report D a n r l) ≡ report D a n r (from_start b n S l)
  report_start r true S l = refl
  report_start r false S l = keep_swap (behind n 0 S) (reportable D a n r) l

  -- THE REPORT OF A BUILT ROOT: the reportable minimal cuts
  pub cuts_report : (r : ℕ) (d : Diagram) → Fit n 0 d → report D a n r (sets_of (cuts_d d)) ≡ report D a n r (cut_list n (eval d))
  cuts_report r d fit = ap (report D a n r) (listing_law n d fit)

  module _ (D0 : 0 < D) where
    -- THE EDGE: of a cut with members, the product is at least edge times D to the number of members less one
    pub likely_law : (S : Set) (s : ℕ) → size n 0 S ≡ suc s → likely D a n S ≡ leb (edge * D ^ s) (product a n 0 S)
    likely_law S s q = rw (q, pow-suc D s) (bool_iff (leb (edge * (D ^ s * D)) (product a n 0 S * D)) (leb (edge * D ^ s) (product a n 0 S))
        (λ h. le-leb (edge * D ^ s) (product a n 0 S) (le_of_mul-le-mul_right {k = D} (omega (arith, leb-true (edge * (D ^ s * D)) (product a n 0 S * D) h)) D0))
        (λ h. le-leb (edge * (D ^ s * D)) (product a n 0 S * D) (omega (arith, mul-le-mul_right D (leb-true (edge * D ^ s) (product a n 0 S) h)))))

    -- ---- a set below a node, joined with the members on the way

    module _ (m : ℕ) (z : Diagram) (o : Ordered m n z) (P : Set) (low : (i : ℕ) → m ≤ i → P i ≡ false) where
      apart : (T : Set) → In T (sets_of z) → (i : ℕ) → P i ≡ true → T i ≡ false
      apart T h i p = go (three i m)
        where
          go : Three i m → T i ≡ false
          go (below l _) = sets_above m n z T o h i l
          go (beyond l _ _) = absurd (true≢false (sym p ∙ low i (omega arith)))
          go (equal l _ _) = absurd (true≢false (sym p ∙ low i (omega arith)))

      sizes : (T : Set) → In T (sets_of z) → size n 0 (over P T) ≡ size n 0 P + size n 0 T
      sizes T h = size_over P T (apart T h) n 0

      products : (T : Set) → In T (sets_of z) → product a n 0 (over P T) ≡ product a n 0 P * product a n 0 T
      products T h = product_over a P T (apart T h) n 0

    -- ---- by the exact product

    module _ (m : ℕ) (z : Diagram) (o : Ordered m n z) (P : Set) (low : (i : ℕ) → m ≤ i → P i ≡ false) where
      short_to : leb (size n 0 P + fewest z) 2 ≡ true → (T : Set) × In T (sets_of z) × (short D a n (over P T) ≡ true)
      short_to h =
          let l : size n 0 P + fewest z ≤ 2 = leb-true (size n 0 P + fewest z) 2 h in
          let (T, i, q) = fewest_reached D a n D0 m z o (omega arith) in
          (T, i, le-leb (size n 0 (over P T)) 2 (omega (arith, sizes m z o P low T i)))

      short_from : (T : Set) → In T (sets_of z) → short D a n (over P T) ≡ true → leb (size n 0 P + fewest z) 2 ≡ true
      short_from T i h = le-leb (size n 0 P + fewest z) 2 (omega (arith, leb-true (size n 0 (over P T)) 2 h, sizes m z o P low T i, fewest_law D a n D0 m z o T i))

      -- is the likeliest set below likely enough?
      reach : Bool
      reach = leb (edge * D ^ (size n 0 P + (likeliest D a z).members)) (product a n 0 P * (likeliest D a z).chance * D)

      positive : (p c : ℕ) → 0 < p * c * D → 0 < c
      positive p zero h = absurd (omega arith)
      positive p (suc c) h = omega arith

      likely_to : reach ≡ true → (T : Set) × In T (sets_of z) × (likely D a n (over P T) ≡ true)
      unfolding reach
      likely_to h =
          let l = leb-true (edge * D ^ (size n 0 P + (likeliest D a z).members)) (product a n 0 P * (likeliest D a z).chance * D) h in
          let p : 0 < D ^ (size n 0 P + (likeliest D a z).members) = pow_pos D D0 (size n 0 P + (likeliest D a z).members) in
          let (T, i, q) = likeliest_reached D a n D0 m z o (positive (product a n 0 P) (likeliest D a z).chance (omega arith)) in
          (T, i, rw (sizes m z o P low T i, products m z o P low T i, ap (λ v. v.members) q, ap (λ v. v.chance) q) h)

      cross : (p t c x y u e : ℕ) → 0 < y → e * (x * y) ≤ p * t * D → t * u ≤ c * y → e * (x * u) ≤ p * c * D
      cross p t c x y u e y0 h k = le_of_mul-le-mul_right {k = y} (omega (arith, mul-le-mul_right u h, mul-le-mul_left (p * D) k)) y0

      likely_from : (T : Set) → In T (sets_of z) → likely D a n (over P T) ≡ true → reach ≡ true
      unfolding reach
      likely_from T i h =
          let l : edge * (D ^ size n 0 P * D ^ size n 0 T) ≤ product a n 0 P * product a n 0 T * D =
          rw (sizes m z o P low T i, products m z o P low T i, pow-add D (size n 0 P) (size n 0 T)) at (leb-true (edge * D ^ size n 0 (over P T)) (product a n 0 (over P T) * D) h) in
          le-leb (edge * D ^ (size n 0 P + (likeliest D a z).members)) (product a n 0 P * (likeliest D a z).chance * D)
          (rw (pow-add D (size n 0 P) (likeliest D a z).members) (cross (product a n 0 P) (product a n 0 T) (likeliest D a z).chance (D ^ size n 0 P) (D ^ size n 0 T) (D ^ (likeliest D a z).members) edge
          (pow_pos D D0 (size n 0 T)) l (likeliest_law D a n D0 m z o T i)))

      -- ENTERED: some set below, put together with the members on the way, is reportable
      pub hopeful_law : (r : ℕ) → (hopeful D a r (way_of D a n D0 P) z ≡ true) ↔ ((T : Set) × In T (sets_of z) × (reportable D a n r (over P T) ≡ true))
      unfolding reach
      hopeful_law r = (
        (λ h. to (some (leb (size n 0 P + fewest z) 2) (eqb r 2 && reach) h)),
        (λ h. from h (some (short D a n (over P h.0)) (eqb r 2 && likely D a n (over P h.0)) (sym (reportable_is r (over P h.0)) ∙ h.2))),
      )
        where
          to : (leb (size n 0 P + fewest z) 2 ≡ true) ⊎ ((eqb r 2 && reach) ≡ true) → (T : Set) × In T (sets_of z) × (reportable D a n r (over P T) ≡ true)
          to (inl q) = let (T, i, t) = short_to q in (T, i, reportable_is r (over P T) ∙ rw t)
          to (inr q) =
              let (x, y) = and_both (eqb r 2) reach q in
              let (T, i, t) = likely_to y in
              (T, i, reportable_is r (over P T) ∙ some_right (short D a n (over P T)) (eqb r 2 && likely D a n (over P T)) (both (eqb r 2) (likely D a n (over P T)) x t))

          from : (h : (T : Set) × In T (sets_of z) × (reportable D a n r (over P T) ≡ true)) → (short D a n (over P h.0) ≡ true) ⊎ ((eqb r 2 && likely D a n (over P h.0)) ≡ true)
              → hopeful D a r (way_of D a n D0 P) z ≡ true
          from h (inl q) = rw (short_from h.0 h.1 q)
          from h (inr q) =
              let (x, y) = and_both (eqb r 2) (likely D a n (over P h.0)) q in
              some_right (leb (size n 0 P + fewest z) 2) (eqb r 2 && reach) (both (eqb r 2) reach x (likely_from h.0 h.1 y))

    -- one event more on the way
    pub with_law : (P : Set) (e : ℕ) (w : Way) → ((i : ℕ) → e ≤ i → P i ≡ false) → e < n → w ≡ way_of D a n D0 P → with D a e w ≡ way_of D a n D0 (put e true P)
    with_law P e w low l q = ap₂ (λ c p. record { members = c; chance = p })
        (ap (λ v. suc v.members) q ∙ sym (size_put n 0 e P (omega arith) (omega arith) (low e (omega arith))))
        (ap (λ v. a e * v.chance) q ∙ sym (product_put a n 0 e P (omega arith) (omega arith) (low e (omega arith))))

-- ---- sets put together

pub over_put : (P T : Set) (e : ℕ) → over P (put e true T) ≡ over (put e true P) T
over_put P T e = set_ext e (over P (put e true T)) (over (put e true P) T)
    (some_right (P e) (put e true T e) (put_same e true T) ∙ sym (ap (λ b. b || T e) (put_same e true P)))
    (λ i q. ap₂ ◌||◌ (sym (put_other e true P i q)) (put_other e true T i q))

pub over_none : (P : Set) → over P none ≡ P
over_none P = fun_ext (λ i. go (P i))
  where
    go : (b : Bool) → (b || false) ≡ b
    go true = refl
    go false = refl

pub still_low : (P : Set) (m e : ℕ) → ((i : ℕ) → m ≤ i → P i ≡ false) → m ≤ e → (i : ℕ) → suc e ≤ i → put e true P i ≡ false
still_low P m e low h i l = put_other e true P i (λ q. omega arith) ∙ low i (omega arith)
