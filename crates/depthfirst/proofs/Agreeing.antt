-- Two ways to give the inputs of n names that agree on these: rings, roots and walks are the same.
-- Assumes nothing.
use mathlib.Core.Path.{◌≡◌, refl, sym, ap, ◌∙◌, subst}
use mathlib.Core.Logic.{◌⊎◌, inl, inr}
use mathlib.Core.Bool.{Bool, true, false, cond}
use mathlib.Core.List.{List, [], ◌∷◌, ◌++◌, foldl}
use Prim.Native.Nat.{ℕ, zero, suc, ◌<◌}
use Rattle.paper.specs.Lists.{In}
use Rattle.paper.specs.Walks.{Leads, Steps, Ring, OneRoot, LeadsBack, has, visit, postorder, meet, preorder, events_of, gates_of}
use Rattle.depthfirst.proofs.Lists.{in_more}

-- g and h give the names below n the same inputs, all of them below n
pub record Agree (n : ℕ) (g h : ℕ → List ℕ) : Type 0 where
  pub same : (x : ℕ) → x < n → g x ≡ h x
  pub inside : (x y : ℕ) → x < n → In y (g x) → y < n

abbrev pub Below : ℕ → List ℕ → Type 0
Below n l = (z : ℕ) → In z l → z < n

below_more_names : {n x : ℕ} (l : List ℕ) → Below n l → x < n → Below n (l ++ (x ∷ []))
below_more_names {n} {x} l b k z h = go (in_more z x l h)
  where
    go : In z l ⊎ (z ≡ x) → z < n
    go (inl q) = b z q
    go (inr e) = subst (λ w. w < n) (sym e) k

pub agree_sym : {n : ℕ} {g h : ℕ → List ℕ} → Agree n g h → Agree n h g
agree_sym a = record { same = λ x l. sym (a.same x l); inside = λ x y l k. a.inside x y l (subst (λ m. In y m) (sym (a.same x l)) k) }

module _ {n : ℕ} {g h : ℕ → List ℕ} (a : Agree n g h) where
  -- ---- steps, rings and roots

  leads_agree : (x y : ℕ) → x < n → Leads g x y → Leads h x y
  leads_agree x y l s = subst (λ m. In y m) (a.same x l) s

  steps_agree : (l : List ℕ) (x z : ℕ) → x < n → Steps g x l z → Steps h x l z
  steps_agree [] x z k s = leads_agree x z k s
  steps_agree (y ∷ l) x z k s = (leads_agree x y k s.0, steps_agree l y z (a.inside x y k s.0) s.1)

  pub ring_agree : (l : List ℕ) → Below n l → Ring g l → Ring h l
  ring_agree [] b s = s
  ring_agree (x ∷ l) b s = steps_agree l x x (b x (inl refl)) s

  pub back_agree : LeadsBack g n → LeadsBack h n
  back_agree b = record {
    name = b.name;
    low = b.low;
    back = record { via = b.back.via; steps = steps_agree b.back.via b.name b.name b.low b.back.steps };
  }

  pub root_agree : {root : ℕ} → OneRoot g n root → OneRoot h n root
  root_agree {root} o = record {
    low = o.low;
    top = λ w l k. o.top w l (subst (λ m. In root m) (sym (a.same w l)) k);
    others = λ z l. go z (o.others z l);
  }
    where
      go : (z : ℕ) → (z ≡ root) ⊎ ((w : ℕ) × (w < n) × In z (g w)) → (z ≡ root) ⊎ ((w : ℕ) × (w < n) × In z (h w))
      go z (inl e) = inl e
      go z (inr p) = inr (p.0, p.1, leads_agree p.0 z p.1 p.2)

  -- ---- the walks: f and f' do at each name below n what the walks do one level down

  abbrev Alike : (List ℕ → ℕ → List ℕ) → (List ℕ → ℕ → List ℕ) → Type 0
  Alike f f' = (l : List ℕ) (x : ℕ) → x < n → f l x ≡ f' l x

  abbrev Keeps : (List ℕ → ℕ → List ℕ) → Type 0
  Keeps f = (l : List ℕ) (x : ℕ) → x < n → Below n l → Below n (f l x)

  along : (f f' : List ℕ → ℕ → List ℕ) → Alike f f' → (l s : List ℕ) → Below n s → foldl f l s ≡ foldl f' l s
  along f f' e l [] b = refl
  along f f' e l (x ∷ s) b = along f f' e (f l x) s (λ z k. b z (inr k)) ∙ ap (λ m. foldl f' m s) (e l x (b x (inl refl)))

  along_low : (f : List ℕ → ℕ → List ℕ) → Keeps f → (l s : List ℕ) → Below n s → Below n l → Below n (foldl f l s)
  along_low f k l [] b d = d
  along_low f k l (x ∷ s) b d = along_low f k (f l x) s (λ z q. b z (inr q)) (k l x (b x (inl refl)) d)

  one_of : (b : Bool) (l m : List ℕ) → Below n l → Below n m → Below n (cond b l m)
  one_of true l m p q = p
  one_of false l m p q = q

  visit_agree : (k : ℕ) → Alike (visit g k) (visit h k)
  unfolding visit
  visit_agree zero l x b = refl
  visit_agree (suc k) l x b =
      ap (λ m. cond (has x l) l (m ++ (x ∷ [])))
      (along (visit g k) (visit h k) (visit_agree k) l (g x) (λ z. a.inside x z b) ∙ ap (foldl (visit h k) l) (a.same x b))

  visit_low : (k : ℕ) → Keeps (visit g k)
  unfolding visit
  visit_low zero l x b d = d
  visit_low (suc k) l x b d =
      one_of (has x l) l (foldl (visit g k) l (g x) ++ (x ∷ [])) d
      (below_more_names (foldl (visit g k) l (g x)) (along_low (visit g k) (visit_low k) l (g x) (λ z. a.inside x z b) d) b)

  meet_agree : (k : ℕ) → Alike (meet g k) (meet h k)
  unfolding meet
  meet_agree zero l x b = refl
  meet_agree (suc k) l x b =
      ap (λ m. cond (has x l) l m)
      (along (meet g k) (meet h k) (meet_agree k) (l ++ (x ∷ [])) (g x) (λ z. a.inside x z b) ∙ ap (foldl (meet h k) (l ++ (x ∷ []))) (a.same x b))

  meet_low : (k : ℕ) → Keeps (meet g k)
  unfolding meet
  meet_low zero l x b d = d
  meet_low (suc k) l x b d =
      one_of (has x l) l (foldl (meet g k) (l ++ (x ∷ [])) (g x)) d
      (along_low (meet g k) (meet_low k) (l ++ (x ∷ [])) (g x) (λ z. a.inside x z b) (below_more_names l d b))

  pub events_agree : (l : List ℕ) → Below n l → events_of g l ≡ events_of h l
  events_agree [] b = refl
  events_agree (x ∷ l) b = rw (a.same x (b x (inl refl)), events_agree l (λ z k. b z (inr k))) refl

  pub gates_agree : (l : List ℕ) → Below n l → gates_of g l ≡ gates_of h l
  gates_agree [] b = refl
  gates_agree (x ∷ l) b = rw (a.same x (b x (inl refl)), gates_agree l (λ z k. b z (inr k))) refl

  module _ (k root : ℕ) (low : root < n) where
    pub postorder_agree : postorder g k root ≡ postorder h k root
    postorder_agree = visit_agree k [] root low

    pub preorder_agree : preorder g k root ≡ preorder h k root
    preorder_agree = meet_agree k [] root low

    pub postorder_low : Below n (postorder g k root)
    postorder_low = visit_low k [] root low (λ z q. absurd q)

    pub preorder_low : Below n (preorder g k root)
    preorder_low = meet_low k [] root low (λ z q. absurd q)

    pub walk_events_agree : events_of g (preorder g k root) ≡ events_of h (preorder h k root)
    walk_events_agree = events_agree (preorder g k root) preorder_low ∙ ap (events_of h) preorder_agree

    pub walk_gates_agree : gates_of g (postorder g k root) ≡ gates_of h (postorder h k root)
    walk_gates_agree = gates_agree (postorder g k root) postorder_low ∙ ap (gates_of h) postorder_agree
