-- Marks: none at first; a name is opened; the name on top is left. And how many marks there are.
-- Assumes nothing.
use mathlib.Core.Path.{◌≡◌, refl, ap, ◌∙◌}
use mathlib.Core.Logic.{◌≢◌, ◌⊎◌, inl, inr}
use mathlib.Core.List.{List, [], ◌∷◌, ◌++◌}
use Prim.Native.Nat.{ℕ, zero, suc, ◌<◌, ◌≤◌}
use native.Mathlib.Decide.{ℕ_discrete}
use native.Mathlib.Omega.{arith}
use lib.ListN.{get_or, length, take, set, length-set}
use lib.Seq.{get_or-set_same, get_or-set_other, take-set-lt, get_or-take, length-take-le}
use Rattle.paper.specs.Lists.{In}
use Rattle.depthfirst.specs.Marking.{marked, Marks, Clear}
use Rattle.depthfirst.proofs.Lists.{in_left, in_last, in_more}

-- ---- the number of marks

marked_le : (l : List ℕ) → marked l ≤ length l
marked_le [] = omega arith
marked_le (zero ∷ l) = let h = marked_le l in omega arith
marked_le (suc v ∷ l) = let h = marked_le l in omega arith

marked_lt : (l : List ℕ) (y : ℕ) → y < length l → get_or l y 0 ≡ 0 → marked l < length l
marked_lt [] y h e = omega arith
marked_lt (zero ∷ l) zero h e = let r = marked_le l in omega arith
marked_lt (suc v ∷ l) zero h e = omega arith
marked_lt (zero ∷ l) (suc y) h e = let r = marked_lt l y (omega arith) e in omega arith
marked_lt (suc v ∷ l) (suc y) h e = let r = marked_lt l y (omega arith) e in omega arith

marked_all : (l : List ℕ) → ((i : ℕ) → i < length l → 1 ≤ get_or l i 0) → marked l ≡ length l
marked_all [] f = refl
marked_all (zero ∷ l) f = let z : 1 ≤ 0 = f zero (omega arith) in omega arith
marked_all (suc v ∷ l) f = ap suc (marked_all l (λ i h. f (suc i) (omega arith)))

marked_none : (l : List ℕ) → ((i : ℕ) → i < length l → get_or l i 0 ≡ 0) → marked l ≡ 0
marked_none [] f = refl
marked_none (zero ∷ l) f = marked_none l (λ i h. f (suc i) (omega arith))
marked_none (suc v ∷ l) f = let z : suc v ≡ 0 = f zero (omega arith) in omega arith

-- a new mark, and a mark that is changed
marked_new : (l : List ℕ) (y v : ℕ) → y < length l → get_or l y 0 ≡ 0 → marked (set l y (suc v)) ≡ suc (marked l)
marked_new [] y v h e = let z : ⊥ = omega arith in absurd z
marked_new (zero ∷ l) zero v h e = refl
marked_new (suc u ∷ l) zero v h e = let z : ⊥ = omega arith in absurd z
marked_new (zero ∷ l) (suc y) v h e = marked_new l y v (omega arith) e
marked_new (suc u ∷ l) (suc y) v h e = ap suc (marked_new l y v (omega arith) e)

marked_same : (l : List ℕ) (y v : ℕ) → y < length l → 1 ≤ get_or l y 0 → marked (set l y (suc v)) ≡ marked l
marked_same [] y v h e = let z : ⊥ = omega arith in absurd z
marked_same (zero ∷ l) zero v h e = let z : ⊥ = omega arith in absurd z
marked_same (suc u ∷ l) zero v h e = refl
marked_same (zero ∷ l) (suc y) v h e = marked_same l y v (omega arith) e
marked_same (suc u ∷ l) (suc y) v h e = ap suc (marked_same l y v (omega arith) e)

module _ (n : ℕ) (M : List ℕ) (long : n ≤ length M) where
  here : (y : ℕ) → y < n → get_or (take n M) y 0 ≡ get_or M y 0
  here y h = get_or-take n M y 0 h

  pub all_le : marked (take n M) ≤ n
  all_le = let h = marked_le (take n M) in let e = length-take-le n M long in omega arith

  pub all_lt : (y : ℕ) → y < n → get_or M y 0 ≡ 0 → marked (take n M) < n
  all_lt y h z = let e = length-take-le n M long in let r = marked_lt (take n M) y (omega arith) (here y h ∙ z) in omega arith

  pub all_none : Clear n M → marked (take n M) ≡ 0
  all_none c = let e = length-take-le n M long in marked_none (take n M) (λ i h. let k : i < n = omega arith in here i k ∙ c.zeros i k)

  pub all_marked : ((i : ℕ) → i < n → 1 ≤ get_or M i 0) → marked (take n M) ≡ n
  all_marked f =
      let e = length-take-le n M long in
      marked_all (take n M) (λ i h. let k : i < n = omega arith in let q = here i k in let r = f i k in omega arith) ∙ e

  pub one_more : (y v : ℕ) → y < n → get_or M y 0 ≡ 0 → marked (take n (set M y (suc v))) ≡ suc (marked (take n M))
  one_more y v h z =
      let e = length-take-le n M long in
      ap marked (take-set-lt n M y (suc v) h) ∙ marked_new (take n M) y v (omega arith) (here y h ∙ z)

  pub same_many : (y v : ℕ) → y < n → 1 ≤ get_or M y 0 → marked (take n (set M y (suc v))) ≡ marked (take n M)
  same_many y v h z =
      let e = length-take-le n M long in
      let q = here y h in
      ap marked (take-set-lt n M y (suc v) h) ∙ marked_same (take n M) y v (omega arith) (omega arith)

-- ---- which names are marked

pub marks_clear : {n : ℕ} {M : List ℕ} → n ≤ length M → Clear n M → Marks n M [] []
marks_clear long c = record {
  long = long;
  way_low = λ y h. absurd h;
  way_one = λ y h. absurd h;
  one_way = λ y h e. let z = c.zeros y h in let w : ⊥ = omega arith in w;
  done_low = λ y h. absurd h;
  done_two = λ y h. absurd h;
  two_done = λ y h e. let z = c.zeros y h in let w : ⊥ = omega arith in w;
  once = tt;
}

-- a mark is set to v
module _ (M : List ℕ) (x v : ℕ) (inside : x < length M) where
  -- what holds of the new mark of x and of the old marks of the others holds of all
  pub at_set : (P : ℕ → ℕ → Type 0) → P x v → ((z : ℕ) → z ≢ x → P z (get_or M z 0)) → (z : ℕ) → P z (get_or (set M x v) z 0)
  at_set P p f z = go (ℕ_discrete z x)
    where
      go : Dec (z ≡ x) → P z (get_or (set M x v) z 0)
      go (yes e) = rw (e, get_or-set_same M x v 0 inside) p
      go (no k) = rw (get_or-set_other M x z v 0 k) (f z k)

module _ {n : ℕ} {M way done : List ℕ} {y : ℕ} (m : Marks n M way done) (low : y < n) (new : get_or M y 0 ≡ 0) where
  inside : y < length M
  inside = let l = m.long in omega arith

  not_way : (z : ℕ) → In z way → z ≢ y
  not_way z h e = let a = m.way_one z h in let b : get_or M z 0 ≡ 0 = ap (λ w. get_or M w 0) e ∙ new in omega arith

  not_done : (z : ℕ) → In z done → z ≢ y
  not_done z h e = let a = m.done_two z h in let b : get_or M z 0 ≡ 0 = ap (λ w. get_or M w 0) e ∙ new in omega arith

  pub marks_open : Marks n (set M y 1) (y ∷ way) done
  marks_open = record {
    long = simp length-set m.long;
    way_low = low_way;
    way_one = at_set M y 1 inside (λ z v. In z (y ∷ way) → v ≡ 1) (λ h. refl) (λ z k h. old_one z k h);
    one_way = at_set M y 1 inside (λ z v. z < n → v ≡ 1 → In z (y ∷ way)) (λ l e. inl refl) (λ z k l e. inr (m.one_way z l e));
    done_low = m.done_low;
    done_two = at_set M y 1 inside (λ z v. In z done → 2 ≤ v) (λ h. absurd (not_done y h refl)) (λ z k h. m.done_two z h);
    two_done = at_set M y 1 inside (λ z v. z < n → 2 ≤ v → In z done) (λ l h. let z : ⊥ = omega arith in absurd z) (λ z k l h. m.two_done z l h);
    once = (λ h. not_way y h refl, m.once);
  }
    where
      low_way : (z : ℕ) → In z (y ∷ way) → z < n
      low_way z (inl e) = omega arith
      low_way z (inr h) = m.way_low z h

      old_one : (z : ℕ) → z ≢ y → In z (y ∷ way) → get_or M z 0 ≡ 1
      old_one z k (inl e) = absurd (k e)
      old_one z k (inr h) = m.way_one z h

module _ {n : ℕ} {M way done : List ℕ} {x : ℕ} (m : Marks n M (x ∷ way) done) where
  pub top_low : x < n
  top_low = m.way_low x (inl refl)

  pub top_one : get_or M x 0 ≡ 1
  top_one = m.way_one x (inl refl)

  pub top_not_done : In x done → ⊥
  top_not_done h = let a = m.done_two x h in let b = top_one in omega arith

  within : x < length M
  within = let l = m.long in let h = top_low in omega arith

  pub marks_leave : Marks n (set M x 2) way (done ++ (x ∷ []))
  marks_leave = record {
    long = simp length-set m.long;
    way_low = λ z h. m.way_low z (inr h);
    way_one = at_set M x 2 within (λ z v. In z way → v ≡ 1) (λ h. absurd (m.once.0 h)) (λ z k h. m.way_one z (inr h));
    one_way = at_set M x 2 within (λ z v. z < n → v ≡ 1 → In z way) (λ l e. let z : ⊥ = omega arith in absurd z) (λ z k l e. still z k (m.one_way z l e));
    done_low = λ z h. old_low z (in_more z x done h);
    done_two = at_set M x 2 within (λ z v. In z (done ++ (x ∷ [])) → 2 ≤ v) (λ h. omega arith) (λ z k h. old_two z k (in_more z x done h));
    two_done = at_set M x 2 within (λ z v. z < n → 2 ≤ v → In z (done ++ (x ∷ []))) (λ l h. in_last x done) (λ z k l h. in_left z done (x ∷ []) (m.two_done z l h));
    once = m.once.1;
  }
    where
      still : (z : ℕ) → z ≢ x → In z (x ∷ way) → In z way
      still z k (inl e) = absurd (k e)
      still z k (inr h) = h

      old_low : (z : ℕ) → In z done ⊎ (z ≡ x) → z < n
      old_low z (inl h) = m.done_low z h
      old_low z (inr e) = let h = top_low in omega arith

      old_two : (z : ℕ) → z ≢ x → In z done ⊎ (z ≡ x) → 2 ≤ get_or M z 0
      old_two z k (inl h) = m.done_two z h
      old_two z k (inr e) = absurd (k e)
