-- The recursive walk: names already left are passed over; what is left belongs to the names that it leads to.
-- And the rest of a walk that stands at a row of open names: `finish`.
-- Assumes nothing.
use mathlib.Core.Path.{◌≡◌, refl, sym, ap, ◌∙◌, subst}
use mathlib.Core.Logic.{◌⊎◌, inl, inr}
use mathlib.Core.Bool.{Bool, true, false, cond}
use mathlib.Core.List.{List, [], ◌∷◌, ◌++◌, foldl, foldl-append}
use Prim.Native.Nat.{ℕ, zero, suc, ◌<◌}
use native.Mathlib.Decide.{ℕ_discrete}
use native.Mathlib.Omega.{arith}
use Rattle.paper.specs.Lists.{In}
use Rattle.paper.specs.Walks.{Leads, Reaches, has, visit}
use Rattle.depthfirst.specs.Answers.{visit_all}
use Rattle.depthfirst.proofs.Lists.{in_left, in_last, in_more, in_has, has_in, not_has}

-- the open names, the last one first, each with its inputs from the one that is being walked on
pub data Frames : Type 0 where
  none : Frames
  over : ℕ → List ℕ → Frames → Frames

abbrev pub names : Frames → List ℕ
names none = []
names (over x r fs) = x ∷ names fs

-- what the recursive walk has left in the end, where it stands at these open names
unfoldable pub finish : (ℕ → List ℕ) → ℕ → Frames → List ℕ → List ℕ
finish g k none done = done
finish g k (over x r fs) done = finish g (suc k) fs (foldl (visit g k) done r ++ (x ∷ []))

module _ (g : ℕ → List ℕ) where
  pub visit_seen : (k : ℕ) (done : List ℕ) (x : ℕ) → In x done → visit g k done x ≡ done
  unfolding visit
  visit_seen zero done x h = refl
  visit_seen (suc k) done x h = rw (in_has x done h) refl

  pub visit_new : (k : ℕ) (done : List ℕ) (x : ℕ) → (In x done → ⊥) → visit g (suc k) done x ≡ foldl (visit g k) done (g x) ++ (x ∷ [])
  unfolding visit
  visit_new k done x h = rw (not_has x done h) refl

  visits_seen : (k : ℕ) (done s : List ℕ) → ((y : ℕ) → In y s → In y done) → foldl (visit g k) done s ≡ done
  visits_seen k done [] h = refl
  visits_seen k done (y ∷ s) h = rw (visit_seen k done y (h y (inl refl))) (visits_seen k done s (λ z q. h z (inr q)))

  -- ---- the rest of a walk

  pub finish_pass : (k x : ℕ) (s r : List ℕ) (fs : Frames) (done : List ℕ) → ((y : ℕ) → In y s → In y done)
      → finish g k (over x (s ++ r) fs) done ≡ finish g k (over x r fs) done
  unfolding finish
  finish_pass k x s r fs done h = rw (foldl-append (visit g k) done s r, visits_seen k done s h) refl

  pub finish_open : (k x y : ℕ) (r : List ℕ) (fs : Frames) (done : List ℕ) → (In y done → ⊥)
      → finish g (suc k) (over x (y ∷ r) fs) done ≡ finish g k (over y (g y) (over x (y ∷ r) fs)) done
  unfolding finish
  finish_open k x y r fs done h =
      let o = foldl (visit g k) done (g y) ++ (y ∷ []) in
      let a : visit g (suc k) done y ≡ o = visit_new k done y h in
      let b : visit g (suc k) o y ≡ o = visit_seen (suc k) o y (in_last y (foldl (visit g k) done (g y))) in
      ap (λ z. finish g (suc (suc k)) fs (foldl (visit g (suc k)) z r ++ (x ∷ []))) (a ∙ sym b)

  pub finish_root : (k x : ℕ) (done : List ℕ) → (In x done → ⊥) → finish g k (over x (g x) none) done ≡ visit g (suc k) done x
  unfolding finish
  finish_root k x done h = sym (visit_new k done x h)

  pub finish_leave : (k x : ℕ) (fs : Frames) (done : List ℕ) → finish g k (over x [] fs) done ≡ finish g (suc k) fs (done ++ (x ∷ []))
  unfolding finish
  finish_leave k x fs done = refl

  pub finish_none : (k : ℕ) (done : List ℕ) → finish g k none done ≡ done
  unfolding finish
  finish_none k done = refl

  -- ---- what was left stays left, and x is left

  visits_keep : (k : ℕ) → ((done : List ℕ) (x z : ℕ) → In z done → In z (visit g k done x)) → (s done : List ℕ) (z : ℕ) → In z done → In z (foldl (visit g k) done s)
  visits_keep k f [] done z h = h
  visits_keep k f (y ∷ s) done z h = visits_keep k f s (visit g k done y) z (f done y z h)

  pub visit_keeps : (k : ℕ) (done : List ℕ) (x z : ℕ) → In z done → In z (visit g k done x)
  unfolding visit
  visit_keeps zero done x z h = h
  visit_keeps (suc k) done x z h = go (has x done) (in_left z (foldl (visit g k) done (g x)) (x ∷ []) (visits_keep k (visit_keeps k) (g x) done z h))
    where
      go : (b : Bool) → In z (foldl (visit g k) done (g x) ++ (x ∷ [])) → In z (cond b done (foldl (visit g k) done (g x) ++ (x ∷ [])))
      go true r = h
      go false r = r

  pub visit_own : (k : ℕ) (done : List ℕ) (x : ℕ) → In x (visit g (suc k) done x)
  unfolding visit
  visit_own k done x = go (has x done) refl
    where
      go : (b : Bool) → has x done ≡ b → In x (cond b done (foldl (visit g k) done (g x) ++ (x ∷ [])))
      go true e = has_in x done e
      go false e = in_last x (foldl (visit g k) done (g x))

  pub visit_all_has : (k m z : ℕ) → z < m → In z (visit_all g (suc k) m)
  unfolding visit_all
  visit_all_has k zero z h = let b : ⊥ = omega arith in absurd b
  visit_all_has k (suc m) z h = go (ℕ_discrete z m) (visit_all_has k m z)
    where
      go : Dec (z ≡ m) → (z < m → In z (visit_all g (suc k) m)) → In z (visit g (suc k) (visit_all g (suc k) m) m)
      go (yes e) r = subst (λ w. In w (visit g (suc k) (visit_all g (suc k) m) m)) (sym e) (visit_own k (visit_all g (suc k) m) m)
      go (no q) r = visit_keeps (suc k) (visit_all g (suc k) m) m z (r (omega arith))

  -- ---- only names that x leads to are left

  pub reaches_on : (x y z : ℕ) → Leads g x y → (z ≡ y) ⊎ Reaches g y z → Reaches g x z
  reaches_on x y z h (inl e) = record { via = []; steps = subst (λ w. In w (g x)) (sym e) h }
  reaches_on x y z h (inr r) = record { via = y ∷ r.via; steps = (h, r.steps) }

  -- what is left by a walk of depth k from any name
  abbrev Only : ℕ → Type 0
  Only k = (done : List ℕ) (x z : ℕ) → In z (visit g k done x) → In z done ⊎ ((z ≡ x) ⊎ Reaches g x z)

  only_along : (k : ℕ) → Only k → (x z : ℕ) (s done : List ℕ) → ((y : ℕ) → In y s → Leads g x y) → In z (foldl (visit g k) done s) → In z done ⊎ Reaches g x z
  only_along k o x z [] done f h = inl h
  only_along k o x z (y ∷ s) done f h = next (only_along k o x z s (visit g k done y) (λ w j. f w (inr j)) h)
    where
      here : In z done ⊎ ((z ≡ y) ⊎ Reaches g y z) → In z done ⊎ Reaches g x z
      here (inl w) = inl w
      here (inr w) = inr (reaches_on x y z (f y (inl refl)) w)

      next : In z (visit g k done y) ⊎ Reaches g x z → In z done ⊎ Reaches g x z
      next (inl j) = here (o done y z j)
      next (inr r) = inr r

  only_last : (k : ℕ) → Only k → (x z : ℕ) (done : List ℕ) → In z (foldl (visit g k) done (g x) ++ (x ∷ [])) → In z done ⊎ ((z ≡ x) ⊎ Reaches g x z)
  only_last k o x z done h = go (in_more z x (foldl (visit g k) done (g x)) h)
    where
      spread : In z done ⊎ Reaches g x z → In z done ⊎ ((z ≡ x) ⊎ Reaches g x z)
      spread (inl w) = inl w
      spread (inr r) = inr (inr r)

      go : In z (foldl (visit g k) done (g x)) ⊎ (z ≡ x) → In z done ⊎ ((z ≡ x) ⊎ Reaches g x z)
      go (inl q) = spread (only_along k o x z (g x) done (λ y j. j) q)
      go (inr e) = inr (inl e)

  only_step : (k : ℕ) → Only k → (x z : ℕ) (done : List ℕ) (b : Bool)
      → In z (cond b done (foldl (visit g k) done (g x) ++ (x ∷ []))) → In z done ⊎ ((z ≡ x) ⊎ Reaches g x z)
  only_step k o x z done true h = inl h
  only_step k o x z done false h = only_last k o x z done h

  pub visit_only : (k : ℕ) (done : List ℕ) (x z : ℕ) → In z (visit g k done x) → In z done ⊎ ((z ≡ x) ⊎ Reaches g x z)
  unfolding visit
  visit_only zero done x z h = inl h
  visit_only (suc k) done x z h = only_step k (visit_only k) x z done (has x done) h
