-- Without a ring, the walk leaves the events in the order in which it meets them first: an event has no inputs, so it is left where it is met.
-- Assumes nothing.
use mathlib.Core.Path.{◌≡◌, refl, sym, ap, ◌∙◌, subst}
use mathlib.Core.Logic.{◌⊎◌, inl, inr}
use mathlib.Core.Bool.{Bool, true, false, cond, true≢false}
use mathlib.Core.List.{List, [], ◌∷◌, ◌++◌, foldl}
use Prim.Native.Nat.{ℕ, zero, suc}
use Rattle.paper.specs.Lists.{In}
use Rattle.paper.specs.Walks.{Reaches, has, visit, meet, postorder, preorder, is_event, events_of, gates_of}
use Rattle.depthfirst.proofs.Lists.{in_left, in_last, in_more, in_has, has_in, not_has}
use Rattle.depthfirst.proofs.Visits.{reaches_on}

module _ (g : ℕ → List ℕ) where
  -- z is x, or x leads to it
  abbrev Own : ℕ → ℕ → Type 0
  Own x z = (z ≡ x) ⊎ Reaches g x z

  -- x leads to no ring and to none of the open names `way`
  record Free (way : List ℕ) (x : ℕ) : Type 0 where
    ringless : (z : ℕ) → Own x z → Reaches g z z → ⊥
    apart : (z : ℕ) → Own x z → In z way → ⊥

  free_input : (way : List ℕ) (x y : ℕ) → Free way x → In y (g x) → Free (x ∷ way) y
  free_input way x y f h = record { ringless = λ z s. f.ringless z (inr (reaches_on g x y z h s)); apart = apart_of }
    where
      apart_of : (z : ℕ) → Own y z → In z (x ∷ way) → ⊥
      apart_of z s (inl e) = f.ringless x (inl refl) (subst (λ w. Reaches g x w) e (reaches_on g x y z h s))
      apart_of z s (inr k) = f.apart z (inr (reaches_on g x y z h s)) k

  -- the names met are those left and those open, and have the same events in the same order as those left
  record Alike (way done seen : List ℕ) : Type 0 where
    to : (z : ℕ) → In z seen → In z done ⊎ In z way
    from_done : (z : ℕ) → In z done → In z seen
    from_way : (z : ℕ) → In z way → In z seen
    events : events_of g seen ≡ events_of g done

  -- ---- the events of a list with one name more

  pub events_event : (x : ℕ) (l : List ℕ) → g x ≡ [] → events_of g (l ++ (x ∷ [])) ≡ events_of g l ++ (x ∷ [])
  events_event x [] e = rw e refl
  events_event x (z ∷ l) e = go (is_event (g z)) (events_event x l e)
    where
      go : (b : Bool) → events_of g (l ++ (x ∷ [])) ≡ events_of g l ++ (x ∷ [])
          → cond b (z ∷ events_of g (l ++ (x ∷ []))) (events_of g (l ++ (x ∷ []))) ≡ cond b (z ∷ events_of g l) (events_of g l) ++ (x ∷ [])
      go true r = ap (λ m. z ∷ m) r
      go false r = r

  pub events_gate : (x y : ℕ) (o l : List ℕ) → g x ≡ y ∷ o → events_of g (l ++ (x ∷ [])) ≡ events_of g l
  events_gate x y o [] e = rw e refl
  events_gate x y o (z ∷ l) e = go (is_event (g z)) (events_gate x y o l e)
    where
      go : (b : Bool) → events_of g (l ++ (x ∷ [])) ≡ events_of g l
          → cond b (z ∷ events_of g (l ++ (x ∷ []))) (events_of g (l ++ (x ∷ []))) ≡ cond b (z ∷ events_of g l) (events_of g l)
      go true r = ap (λ m. z ∷ m) r
      go false r = r

  pub gates_event : (x : ℕ) (l : List ℕ) → g x ≡ [] → gates_of g (l ++ (x ∷ [])) ≡ gates_of g l
  gates_event x [] e = rw e refl
  gates_event x (z ∷ l) e = go (is_event (g z)) (gates_event x l e)
    where
      go : (b : Bool) → gates_of g (l ++ (x ∷ [])) ≡ gates_of g l → cond b (gates_of g (l ++ (x ∷ []))) (z ∷ gates_of g (l ++ (x ∷ []))) ≡ cond b (gates_of g l) (z ∷ gates_of g l)
      go true r = r
      go false r = ap (λ m. z ∷ m) r

  pub gates_gate : (x y : ℕ) (o l : List ℕ) → g x ≡ y ∷ o → gates_of g (l ++ (x ∷ [])) ≡ gates_of g l ++ (x ∷ [])
  gates_gate x y o [] e = rw e refl
  gates_gate x y o (z ∷ l) e = go (is_event (g z)) (gates_gate x y o l e)
    where
      go : (b : Bool) → gates_of g (l ++ (x ∷ [])) ≡ gates_of g l ++ (x ∷ [])
          → cond b (gates_of g (l ++ (x ∷ []))) (z ∷ gates_of g (l ++ (x ∷ []))) ≡ cond b (gates_of g l) (z ∷ gates_of g l) ++ (x ∷ [])
      go true r = r
      go false r = ap (λ m. z ∷ m) r

  -- ---- an event is met and left; a gate is met; a gate is left

  module _ (way done seen : List ℕ) (x : ℕ) (a : Alike way done seen) where
    alike_event : g x ≡ [] → Alike way (done ++ (x ∷ [])) (seen ++ (x ∷ []))
    alike_event e = record {
      to = λ z h. to_of z (in_more z x seen h);
      from_done = λ z h. from_of z (in_more z x done h);
      from_way = λ z h. in_left z seen (x ∷ []) (a.from_way z h);
      events = events_event x seen e ∙ ap (λ m. m ++ (x ∷ [])) a.events ∙ sym (events_event x done e);
    }
      where
        to_met : (z : ℕ) → In z done ⊎ In z way → In z (done ++ (x ∷ [])) ⊎ In z way
        to_met z (inl h) = inl (in_left z done (x ∷ []) h)
        to_met z (inr h) = inr h

        to_of : (z : ℕ) → In z seen ⊎ (z ≡ x) → In z (done ++ (x ∷ [])) ⊎ In z way
        to_of z (inl h) = to_met z (a.to z h)
        to_of z (inr q) = inl (subst (λ w. In w (done ++ (x ∷ []))) (sym q) (in_last x done))

        from_of : (z : ℕ) → In z done ⊎ (z ≡ x) → In z (seen ++ (x ∷ []))
        from_of z (inl h) = in_left z seen (x ∷ []) (a.from_done z h)
        from_of z (inr q) = subst (λ w. In w (seen ++ (x ∷ []))) (sym q) (in_last x seen)

    alike_open : (y : ℕ) (o : List ℕ) → g x ≡ y ∷ o → Alike (x ∷ way) done (seen ++ (x ∷ []))
    alike_open y o e = record {
      to = λ z h. to_of z (in_more z x seen h);
      from_done = λ z h. in_left z seen (x ∷ []) (a.from_done z h);
      from_way = from_of;
      events = events_gate x y o seen e ∙ a.events;
    }
      where
        to_met : (z : ℕ) → In z done ⊎ In z way → In z done ⊎ In z (x ∷ way)
        to_met z (inl h) = inl h
        to_met z (inr h) = inr (inr h)

        to_of : (z : ℕ) → In z seen ⊎ (z ≡ x) → In z done ⊎ In z (x ∷ way)
        to_of z (inl h) = to_met z (a.to z h)
        to_of z (inr q) = inr (inl q)

        from_of : (z : ℕ) → In z (x ∷ way) → In z (seen ++ (x ∷ []))
        from_of z (inl q) = subst (λ w. In w (seen ++ (x ∷ []))) (sym q) (in_last x seen)
        from_of z (inr h) = in_left z seen (x ∷ []) (a.from_way z h)

  alike_close : (way done seen : List ℕ) (x y : ℕ) (o : List ℕ) → g x ≡ y ∷ o → Alike (x ∷ way) done seen → Alike way (done ++ (x ∷ [])) seen
  alike_close way done seen x y o e a = record {
    to = λ z h. to_of z (a.to z h);
    from_done = λ z h. from_of z (in_more z x done h);
    from_way = λ z h. a.from_way z (inr h);
    events = a.events ∙ sym (events_gate x y o done e);
  }
    where
      to_of : (z : ℕ) → In z done ⊎ In z (x ∷ way) → In z (done ++ (x ∷ [])) ⊎ In z way
      to_of z (inl h) = inl (in_left z done (x ∷ []) h)
      to_of z (inr (inl q)) = inl (subst (λ w. In w (done ++ (x ∷ []))) (sym q) (in_last x done))
      to_of z (inr (inr h)) = inr h

      from_of : (z : ℕ) → In z done ⊎ (z ≡ x) → In z seen
      from_of z (inl h) = a.from_done z h
      from_of z (inr q) = a.from_way z (inl q)

  -- ---- the two walks side by side

  abbrev Beside : ℕ → Type 0
  Beside k = (way done seen : List ℕ) (x : ℕ) → Free way x → Alike way done seen → Alike way (visit g k done x) (meet g k seen x)

  beside_all : (k : ℕ) → Beside k → (way done seen s : List ℕ) → ((y : ℕ) → In y s → Free way y) → Alike way done seen
      → Alike way (foldl (visit g k) done s) (foldl (meet g k) seen s)
  beside_all k b way done seen [] f a = a
  beside_all k b way done seen (y ∷ s) f a =
      beside_all k b way (visit g k done y) (meet g k seen y) s (λ z h. f z (inr h)) (b way done seen y (f y (inl refl)) a)

  beside_new : (k : ℕ) → Beside k → (way done seen : List ℕ) (x : ℕ) → Free way x → Alike way done seen
      → Alike way (foldl (visit g k) done (g x) ++ (x ∷ [])) (foldl (meet g k) (seen ++ (x ∷ [])) (g x))
  beside_new k b way done seen x f a = go (g x) refl
    where
      go : (l : List ℕ) → g x ≡ l → Alike way (foldl (visit g k) done l ++ (x ∷ [])) (foldl (meet g k) (seen ++ (x ∷ [])) l)
      go [] e = alike_event way done seen x a e
      go (y ∷ o) e = alike_close way (foldl (visit g k) done (y ∷ o)) (foldl (meet g k) (seen ++ (x ∷ [])) (y ∷ o)) x y o e
          (beside_all k b (x ∷ way) done (seen ++ (x ∷ [])) (y ∷ o) (λ z h. free_input way x z f (subst (λ m. In z m) (sym e) h)) (alike_open way done seen x a y o e))

  beside : (k : ℕ) → Beside k
  unfolding visit meet
  beside zero way done seen x f a = a
  beside (suc k) way done seen x f a = go (has x done) refl (beside_new k (beside k) way done seen x f a)
    where
      not_met : has x done ≡ false → In x seen → ⊥
      not_met e h = which (a.to x h)
        where
          which : In x done ⊎ In x way → ⊥
          which (inl q) = true≢false (sym (in_has x done q) ∙ e)
          which (inr q) = f.apart x (inl refl) q

      go : (b : Bool) → has x done ≡ b → Alike way (foldl (visit g k) done (g x) ++ (x ∷ [])) (foldl (meet g k) (seen ++ (x ∷ [])) (g x))
          → Alike way (cond b done (foldl (visit g k) done (g x) ++ (x ∷ []))) (cond (has x seen) seen (foldl (meet g k) (seen ++ (x ∷ [])) (g x)))
      go true e r = rw (in_has x seen (a.from_done x (has_in x done e))) a
      go false e r = rw (not_has x seen (not_met e)) r

  -- THE EVENTS by first appearance
  pub events_met : (n root : ℕ) → ((z : ℕ) → (z ≡ root) ⊎ Reaches g root z → Reaches g z z → ⊥) → events_of g (postorder g n root) ≡ events_of g (preorder g n root)
  events_met n root f = sym (beside n [] [] [] root (record { ringless = f; apart = λ z s h. h }) nothing).events
    where
      nothing : Alike [] [] []
      nothing = record { to = λ z h. absurd h; from_done = λ z h. h; from_way = λ z h. h; events = refl }
