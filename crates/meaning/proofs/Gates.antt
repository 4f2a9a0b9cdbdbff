-- The gates of names in order: each gate's inputs that are gates stand before it.
-- Assumes nothing.
use mathlib.Core.Path.{◌≡◌, refl, sym, ap, ◌∙◌, subst}
use mathlib.Core.Logic.{◌⊎◌, inl, inr}
use mathlib.Core.Bool.{Bool, true, false, cond}
use mathlib.Core.List.{List, [], ◌∷◌, ◌++◌, append_assoc}
use Prim.Native.Nat.{ℕ}
use native.Mathlib.Omega.{arith}
use lib.ListN.{length, length-append}
use lib.Seq.{take-append_seam, get_or-append_seam}
use Rattle.paper.specs.Lists.{In, Once}
use Rattle.paper.specs.Walks.{is_event, events_of, gates_of, Ordered}
use Rattle.depthfirst.proofs.Lists.{in_left, in_right, in_more}

module _ (g : ℕ → List ℕ) where
  -- ---- members

  pub events_in : (x : ℕ) (l : List ℕ) → In x (events_of g l) → In x l × (is_event (g x) ≡ true)
  events_in x [] h = absurd h
  events_in x (y ∷ l) h = go (is_event (g y)) refl h (events_in x l)
    where
      go : (t : Bool) → is_event (g y) ≡ t → In x (cond t (y ∷ events_of g l) (events_of g l)) → (In x (events_of g l) → In x l × (is_event (g x) ≡ true))
          → In x (y ∷ l) × (is_event (g x) ≡ true)
      go true e (inl q) r = (inl q, ap (λ z. is_event (g z)) q ∙ e)
      go true e (inr k) r = (inr (r k).0, (r k).1)
      go false e k r = (inr (r k).0, (r k).1)

  pub gates_in : (x : ℕ) (l : List ℕ) → In x (gates_of g l) → In x l × (is_event (g x) ≡ false)
  gates_in x [] h = absurd h
  gates_in x (y ∷ l) h = go (is_event (g y)) refl h (gates_in x l)
    where
      go : (t : Bool) → is_event (g y) ≡ t → In x (cond t (gates_of g l) (y ∷ gates_of g l)) → (In x (gates_of g l) → In x l × (is_event (g x) ≡ false))
          → In x (y ∷ l) × (is_event (g x) ≡ false)
      go true e k r = (inr (r k).0, (r k).1)
      go false e (inl q) r = (inl q, ap (λ z. is_event (g z)) q ∙ e)
      go false e (inr k) r = (inr (r k).0, (r k).1)

  pub once_events : (l : List ℕ) → Once l → Once (events_of g l)
  once_events [] o = tt
  once_events (x ∷ l) o = go (is_event (g x)) (once_events l o.1)
    where
      go : (t : Bool) → Once (events_of g l) → Once (cond t (x ∷ events_of g l) (events_of g l))
      go true r = (λ h. o.0 (events_in x l h).0, r)
      go false r = r

  pub once_gates : (l : List ℕ) → Once l → Once (gates_of g l)
  once_gates [] o = tt
  once_gates (x ∷ l) o = go (is_event (g x)) (once_gates l o.1)
    where
      go : (t : Bool) → Once (gates_of g l) → Once (cond t (gates_of g l) (x ∷ gates_of g l))
      go true r = r
      go false r = (λ h. o.0 (gates_in x l h).0, r)

  -- ---- gates behind gates

  -- the gates of l behind the gates b: each input of one is an event, or stands before it
  abbrev pub Behind : List ℕ → List ℕ → Type 0
  Behind b [] = Unit {0}
  Behind b (x ∷ l) = ((y : ℕ) → In y (g x) → (is_event (g y) ≡ true) ⊎ In y b) × Behind (b ++ (x ∷ [])) l

  -- the gates among some names stand in b
  abbrev Kept : List ℕ → List ℕ → Type 0
  Kept names b = (y : ℕ) → In y names → (is_event (g y) ≡ true) ⊎ In y b

  kept_event : (names b : List ℕ) (x : ℕ) → is_event (g x) ≡ true → Kept names b → Kept (names ++ (x ∷ [])) b
  kept_event names b x e k y h = go (in_more y x names h)
    where
      go : In y names ⊎ (y ≡ x) → (is_event (g y) ≡ true) ⊎ In y b
      go (inl q) = k y q
      go (inr q) = inl (ap (λ z. is_event (g z)) q ∙ e)

  kept_gate : (names b : List ℕ) (x : ℕ) → Kept names b → Kept (names ++ (x ∷ [])) (b ++ (x ∷ []))
  kept_gate names b x k y h = go (in_more y x names h)
    where
      more : (is_event (g y) ≡ true) ⊎ In y b → (is_event (g y) ≡ true) ⊎ In y (b ++ (x ∷ []))
      more (inl e) = inl e
      more (inr q) = inr (in_left y b (x ∷ []) q)

      go : In y names ⊎ (y ≡ x) → (is_event (g y) ≡ true) ⊎ In y (b ++ (x ∷ []))
      go (inl q) = more (k y q)
      go (inr q) = inr (in_right y b (x ∷ []) (inl q))

  -- in an order, the inputs of x stand before x
  before_own : (names l : List ℕ) (x y : ℕ) → Ordered g (names ++ (x ∷ l)) → In y (g x) → In y names
  before_own names l x y o h =
      subst (λ m. In y m) (take-append_seam names (x ∷ l))
      (o.after (length names) y (omega (arith, length-append names (x ∷ l))) (subst (λ z. In y (g z)) (sym (get_or-append_seam names x l 0)) h))

  behind_from : (names b l : List ℕ) → Ordered g (names ++ l) → Kept names b → Behind b (gates_of g l)
  behind_from names b [] o k = tt
  behind_from names b (x ∷ l) o k =
      let p : Ordered g ((names ++ (x ∷ [])) ++ l) = subst (Ordered g) (sym (append_assoc names (x ∷ []) l)) o in
      go (is_event (g x)) refl (behind_from (names ++ (x ∷ [])) b l p) (behind_from (names ++ (x ∷ [])) (b ++ (x ∷ [])) l p)
    where
      go : (t : Bool) → is_event (g x) ≡ t → (Kept (names ++ (x ∷ [])) b → Behind b (gates_of g l)) → (Kept (names ++ (x ∷ [])) (b ++ (x ∷ [])) → Behind (b ++ (x ∷ [])) (gates_of g l))
          → Behind b (cond t (gates_of g l) (x ∷ gates_of g l))
      go true e r q = r (kept_event names b x e k)
      go false e r q = (λ y h. k y (before_own names l x y o h), q (kept_gate names b x k))

  pub gates_behind : (l : List ℕ) → Ordered g l → Behind [] (gates_of g l)
  gates_behind l o = behind_from [] [] l o (λ y h. absurd h)
