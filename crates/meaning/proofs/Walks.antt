-- Without a ring among n names, a walk n names deep leaves each name that it leads to, once and behind its inputs; from the one root, all names.
-- Assumes nothing.
use mathlib.Core.Path.{◌≡◌, refl, sym, ◌∙◌, subst}
use mathlib.Core.Logic.{◌⊎◌, inl, inr}
use mathlib.Core.Bool.{Bool, true, false, cond, true≢false}
use mathlib.Core.List.{List, [], ◌∷◌, ◌++◌, foldl}
use Prim.Native.Nat.{ℕ, zero, suc, ◌+◌, ◌-◌, ◌<◌, ◌≤◌}
use native.Mathlib.Omega.{arith}
use lib.ListN.{length}
use Rattle.paper.specs.Lists.{In, Once}
use Rattle.paper.specs.Walks.{Reaches, OneRoot, has, visit, postorder, preorder, events_of, Ordered}
use Rattle.depthfirst.specs.Answers.{visit_all}
use Rattle.depthfirst.proofs.Lists.{has_in, in_has, in_last}
use Rattle.depthfirst.proofs.Order.{ordered_none, ordered_more, ordered_reaches}
use Rattle.depthfirst.proofs.Visits.{visit_keeps, visit_all_has, reaches_on, visit_only}
use Rattle.depthfirst.proofs.Meeting.{events_met}
use Rattle.depthfirst.proofs.Roots.{root_reaches}
use Rattle.depthfirst.proofs.Agreeing.{postorder_low}
use Rattle.meaning.proofs.Few.{once_few}

module _ {g : ℕ → List ℕ} {n : ℕ} (low : (x y : ℕ) → In y (g x) → y < n) (ringless : (z : ℕ) → z < n → Reaches g z z → ⊥) where
  -- ---- the walk from a name that leads to none of the open names

  -- a name that may be walked from, with the names `way` open
  record Opens (way : List ℕ) (x : ℕ) : Type 0 where
    own : x < n
    apart : (z : ℕ) → (z ≡ x) ⊎ Reaches g x z → In z way → ⊥

  -- open names, with so much depth left that they all fit
  record Way (k : ℕ) (way : List ℕ) : Type 0 where
    once : Once way
    names : (z : ℕ) → In z way → z < n
    deep : n ≤ k + length way

  opens_input : (way : List ℕ) (x y : ℕ) → Opens way x → In y (g x) → Opens (x ∷ way) y
  opens_input way x y o h = record { own = low x y h; apart = apart_of }
    where
      apart_of : (z : ℕ) → (z ≡ y) ⊎ Reaches g y z → In z (x ∷ way) → ⊥
      apart_of z s (inl e) = ringless x o.own (subst (λ w. Reaches g x w) e (reaches_on g x y z h s))
      apart_of z s (inr k) = o.apart z (inr (reaches_on g x y z h s)) k

  names_on : (k : ℕ) (way : List ℕ) (x : ℕ) → Opens way x → Way k way → (z : ℕ) → In z (x ∷ way) → z < n
  names_on k way x o w z (inl e) = subst (λ v. v < n) (sym e) o.own
  names_on k way x o w z (inr h) = w.names z h

  way_on : (k : ℕ) (way : List ℕ) (x : ℕ) → Opens way x → Way (suc k) way → Way k (x ∷ way)
  way_on k way x o w = record { once = (o.apart x (inl refl), w.once); names = names_on (suc k) way x o w; deep = omega (arith, w.deep) }

  -- no way is longer than there are names
  way_ends : (way : List ℕ) (x : ℕ) → Opens way x → Way 0 way → ⊥
  way_ends way x o w = let f = once_few n (x ∷ way) (o.apart x (inl refl), w.once) (names_on 0 way x o w) in omega (arith, w.deep)

  -- what a walk of depth k leaves is in order, and has the name it went from
  abbrev Orders : ℕ → Type 0
  Orders k = (way done : List ℕ) (x : ℕ) → Opens way x → Way k way → Ordered g done → Ordered g (visit g k done x) × In x (visit g k done x)

  -- walks from the names s in turn: in order, all of them left, and no open name
  record Left (way s done left : List ℕ) : Type 0 where
    ordered : Ordered g left
    all : (y : ℕ) → In y done ⊎ In y s → In y left
    only : (z : ℕ) → In z way → In z left → In z done

  visits_order : (k : ℕ) → Orders k → (way s done : List ℕ) → ((y : ℕ) → In y s → Opens way y) → Way k way → Ordered g done → Left way s done (foldl (visit g k) done s)
  visits_order k f way [] done o w d = record { ordered = d; all = all_of; only = λ z a h. h }
    where
      all_of : (y : ℕ) → In y done ⊎ In y [] → In y done
      all_of y (inl h) = h
      all_of y (inr h) = absurd h
  visits_order k f way (x ∷ s) done o w d =
      let here = f way done x (o x (inl refl)) w d in
      let rest = visits_order k f way s (visit g k done x) (λ y h. o y (inr h)) w here.0 in
      record { ordered = rest.ordered; all = λ y h. rest.all y (moved here.1 y h); only = λ z a h. old z a (visit_only g k done x z (rest.only z a h)) }
    where
      moved : In x (visit g k done x) → (y : ℕ) → In y done ⊎ In y (x ∷ s) → In y (visit g k done x) ⊎ In y s
      moved q y (inl h) = inl (visit_keeps g k done x y h)
      moved q y (inr (inl e)) = inl (subst (λ v. In v (visit g k done x)) (sym e) q)
      moved q y (inr (inr h)) = inr h

      old : (z : ℕ) → In z way → In z done ⊎ ((z ≡ x) ⊎ Reaches g x z) → In z done
      old z a (inl h) = h
      old z a (inr h) = absurd ((o x (inl refl)).apart z h a)

  leave_orders : (k : ℕ) → Orders k → (way done : List ℕ) (x : ℕ) → Opens way x → Way (suc k) way → Ordered g done → (In x done → ⊥)
      → Ordered g (foldl (visit g k) done (g x) ++ (x ∷ []))
  leave_orders k f way done x o w d new =
      let r = visits_order k f (x ∷ way) (g x) done (λ y h. opens_input way x y o h) (way_on k way x o w) d in
      ordered_more x r.ordered (λ h. new (r.only x (inl refl) h)) (λ y h. r.all y (inr h))

  visit_orders : (k : ℕ) → Orders k
  unfolding visit
  visit_orders zero way done x o w d = absurd (way_ends way x o w)
  visit_orders (suc k) way done x o w d = go (leave_orders k (visit_orders k) way done x o w d) (has x done) refl
    where
      go : ((In x done → ⊥) → Ordered g (foldl (visit g k) done (g x) ++ (x ∷ []))) → (b : Bool) → has x done ≡ b
          → Ordered g (cond b done (foldl (visit g k) done (g x) ++ (x ∷ []))) × In x (cond b done (foldl (visit g k) done (g x) ++ (x ∷ [])))
      go r true e = (d, has_in x done e)
      go r false e = (r (λ h. true≢false (sym (in_has x done h) ∙ e)), in_last x (foldl (visit g k) done (g x)))

  -- ---- from no open name

  opens_first : (x : ℕ) → x < n → Opens [] x
  opens_first x h = record { own = h; apart = λ z s k. k }

  way_first : Way n []
  way_first = record { once = tt; names = λ z h. absurd h; deep = omega arith }

  -- the walks from every name
  all_ordered : (m : ℕ) → m ≤ n → Ordered g (visit_all g n m)
  unfolding visit_all
  all_ordered zero h = ordered_none g
  all_ordered (suc m) h = (visit_orders n [] (visit_all g n m) m (opens_first m (omega arith)) way_first (all_ordered m (omega arith))).0

  all_left : (z : ℕ) → z < n → In z (visit_all g n n)
  all_left z h = let e : suc (n - 1) ≡ n = omega arith in subst (λ k. In z (visit_all g k n)) e (visit_all_has g (n - 1) n z h)

  module _ {root : ℕ} (one : OneRoot g n root) where
    root_orders : Ordered g (postorder g n root) × In root (postorder g n root)
    root_orders = visit_orders n [] [] root (opens_first root one.low) way_first (ordered_none g)

    pub order_ordered : Ordered g (postorder g n root)
    order_ordered = root_orders.0

    reached : (z : ℕ) → (z ≡ root) ⊎ Reaches g root z → In z (postorder g n root)
    reached z (inl e) = subst (λ w. In w (postorder g n root)) (sym e) root_orders.1
    reached z (inr r) = ordered_reaches order_ordered root z root_orders.1 r

    pub order_every : (z : ℕ) → z < n → In z (postorder g n root)
    order_every z h = reached z (root_reaches (all_ordered n (omega arith)) all_left one z h)

    pub order_low : (z : ℕ) → In z (postorder g n root) → z < n
    order_low = postorder_low {h = g} (record { same = λ x l. refl; inside = λ x y l. low x y }) n root one.low

    -- the walk leaves the events in the order of their first appearance
    pub order_events : events_of g (preorder g n root) ≡ events_of g (postorder g n root)
    order_events = sym (events_met g n root (λ z s. ringless z (order_low z (reached z s))))
