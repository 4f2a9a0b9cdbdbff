-- The cut diagram holds the minimal cuts.
-- Assumes nothing.
use mathlib.Core.Path.{◌≡◌, refl, sym, ap, ◌∙◌, subst, fun_ext}
use mathlib.Core.Logic.{◌⊎◌, inl, inr, ◌↔◌}
use mathlib.Core.Bool.{Bool, true, false, cond, not, true≢false, false≢true}
use mathlib.Core.List.{List, [], ◌∷◌, ◌++◌, map}
use Prim.Native.Nat.{ℕ, suc}
use native.Mathlib.Omega.{arith}
use lib.Dec.{eqb}
use borrow.Author.Tests.{eqb-false, not-true as not-is-true}
use Rattle.paper.specs.Lists.{In, keep}
use Rattle.paper.specs.Sets.{Set, none, put, Part}
use Rattle.paper.specs.Diagrams.{Diagram, leaf, node, eval, Ordered}
use Rattle.paper.specs.Cuts.{MinimalCut, sets_of}
use Rattle.algebra.specs.Families.{without_d, cuts_d}
use Rattle.algebra.proofs.Base.{put_same, put_other, eqb_or}
use Rattle.algebra.proofs.Lists.{in_append, in_left, in_right, map_in, in_map, keep_in, in_keep}
use Rattle.algebra.proofs.Fix.{eval_put}
use Rattle.algebra.proofs.Sets.{put_put, put_id, part_put, part_false, not_true, mono_sound, failed_branch, cut_part, cut_of_part}
use Rattle.algebra.proofs.Without.{Fit, sets_mkz, sets_above, without_sets, tidy_cuts, fit_failed, fit_sound, fit_at}

-- taking an event out leaves a part
part_out : (e : ℕ) (S : Set) → Part (put e false S) S
part_out e S i h = go (eqb_or i e)
  where
    go : (i ≡ e) ⊎ (eqb i e ≡ false) → S i ≡ true
    go (inl q) = absurd (false≢true (sym (put_same e false S) ∙ ap (put e false S) (sym q) ∙ h))
    go (inr q) = sym (put_other e false S i (eqb-false i e q)) ∙ h

part_below : (e : ℕ) (U T : Set) → T e ≡ false → Part U (put e true T) → Part (put e false U) T
part_below e U T te p = subst (Part (put e false U)) (put_put e false true T ∙ put_id e false T te) (part_put e false U (put e true T) p)

-- Theorem 9 of document 000, at a node
module _ (n e : ℕ) (f s : Diagram) (h : Fit n e (node e f s)) where
  d : Diagram
  d = node e f s

  of : Ordered (suc e) n f
  of = h.ordered.2

  os : Ordered (suc e) n s
  os = h.ordered.3

  with_e : (S : Set) → S e ≡ true → eval d S ≡ eval f S
  unfolding d
  with_e S q = ap (λ b. cond b (eval f S) (eval s S)) q

  without_e : (S : Set) → S e ≡ false → eval d S ≡ eval s S
  unfolding d
  without_e S q = ap (λ b. cond b (eval f S) (eval s S)) q

  -- a minimal cut of the failed branch that spares the sound branch
  cut_in : (T : Set) → T e ≡ false → MinimalCut (eval f) T → eval s T ≡ false → MinimalCut (eval d) (put e true T)
  unfolding d
  cut_in T te c q = cut_of_part (eval d) (put e true T) (failed_branch n e f s of os T ∙ c.fails) (λ U p t. go U p t (U e) refl)
    where
      go : (U : Set) → Part U (put e true T) → eval d U ≡ true → (b : Bool) → U e ≡ b → U ≡ put e true T
      go U p t true ue =
          let same : put e false U ≡ T = cut_part (eval f) T (put e false U) c (part_below e U T te p) (eval_put e n f false U of ∙ sym (with_e U ue) ∙ t) in
          sym (put_id e true U ue) ∙ sym (put_put e true false U) ∙ ap (put e true) same
      go U p t false ue =
          let inside : Part U T = subst (λ W. Part W T) (put_id e false U ue) (part_below e U T te p) in
          absurd (true≢false (sym (mono_sound n e f s of os h.mono U T inside (sym (without_e U ue) ∙ t)) ∙ q))

  cut_out : (S : Set) → S e ≡ false → MinimalCut (eval s) S → MinimalCut (eval d) S
  cut_out S se c = cut_of_part (eval d) S (without_e S se ∙ c.fails)
      (λ U p t. cut_part (eval s) S U c p (sym (without_e U (part_false U S e p se)) ∙ t))

  in_cut : (S : Set) → S e ≡ true → MinimalCut (eval d) S → MinimalCut (eval f) (put e false S) × (eval s (put e false S) ≡ false)
  unfolding d
  in_cut S se c = (
    cut_of_part (eval f) (put e false S) (eval_put e n f false S of ∙ sym (with_e S se) ∙ c.fails) only,
    not_true (eval s (put e false S)) (λ t. false≢true (sym (put_same e false S)
        ∙ ap (λ v. v e) (cut_part (eval d) S (put e false S) c (part_out e S) (without_e (put e false S) (put_same e false S) ∙ t)) ∙ se)),
  )
    where
      only : (U : Set) → Part U (put e false S) → eval f U ≡ true → U ≡ put e false S
      only U p t =
          let whole : put e true (put e false S) ≡ S = put_put e true false S ∙ put_id e true S se in
          let inside : Part (put e true U) S = subst (Part (put e true U)) whole (part_put e true U (put e false S) p) in
          let same : put e true U ≡ S = cut_part (eval d) S (put e true U) c inside (failed_branch n e f s of os U ∙ t) in
          sym (put_id e false U (part_false U (put e false S) e p (put_same e false S))) ∙ sym (put_put e false true U) ∙ ap (put e false) same

  out_cut : (S : Set) → S e ≡ false → MinimalCut (eval d) S → MinimalCut (eval s) S
  out_cut S se c = cut_of_part (eval s) S (sym (without_e S se) ∙ c.fails)
      (λ U p t. cut_part (eval d) S U c p (without_e U (part_false U S e p se) ∙ t))

-- the cuts of f that do not make s fail
abbrev spares : Diagram → Diagram → List Set
spares f s = keep (λ S. not (eval s S)) (sets_of (cuts_d f))

-- the family of a node's cuts: the rule of document 000, 4.2
cut_family : (n e : ℕ) (f s : Diagram) → Fit n e (node e f s)
    → sets_of (cuts_d (node e f s)) ≡ map (put e true) (spares f s) ++ sets_of (cuts_d s)
cut_family n e f s h = sets_mkz e (without_d (cuts_d f) s) (cuts_d s) ∙ ap (λ a. map (put e true) a ++ sets_of (cuts_d s))
    (without_sets n (suc e) (cuts_d f) (tidy_cuts n (suc e) f h.ordered.2).0 (suc e) s (fit_sound n e e f s h))

module _ (n e : ℕ) (f s : Diagram) (h : Fit n e (node e f s)) (S : Set)
    (rf : (T : Set) → In T (sets_of (cuts_d f)) ↔ MinimalCut (eval f) T) (rs : (T : Set) → In T (sets_of (cuts_d s)) ↔ MinimalCut (eval s) T) where
  node_to : In S (map (put e true) (spares f s)) ⊎ In S (sets_of (cuts_d s)) → MinimalCut (eval (node e f s)) S
  unfolding d
  node_to (inl k) =
      let (T, j, q) = map_in (put e true) S (spares f s) k in
      let (i, r) = keep_in (λ S. not (eval s S)) T (sets_of (cuts_d f)) j in
      let te : T e ≡ false = sets_above (suc e) n (cuts_d f) T (tidy_cuts n (suc e) f h.ordered.2).0 i e (omega arith) in
      subst (MinimalCut (eval (node e f s))) (sym q) (cut_in n e f s h T te ((rf T).0 i) (not-is-true (eval s T) r))
  node_to (inr k) =
      cut_out n e f s h S (sets_above (suc e) n (cuts_d s) S (tidy_cuts n (suc e) s h.ordered.3).0 k e (omega arith)) ((rs S).0 k)

  node_from : MinimalCut (eval (node e f s)) S → (b : Bool) → S e ≡ b → In S (map (put e true) (spares f s) ++ sets_of (cuts_d s))
  unfolding d
  node_from c true q =
      let (a, r) = in_cut n e f s h S q c in
      in_left S (map (put e true) (spares f s)) (sets_of (cuts_d s)) (subst (λ W. In W (map (put e true) (spares f s))) (put_put e true false S ∙ put_id e true S q)
      (in_map (put e true) (put e false S) (spares f s) (in_keep (λ S. not (eval s S)) (put e false S) (sets_of (cuts_d f)) ((rf (put e false S)).1 a) (ap not r))))
  node_from c false q = in_right S (map (put e true) (spares f s)) (sets_of (cuts_d s)) ((rs S).1 (out_cut n e f s h S q c))

-- THE CUTS: a set is in the family of the cut diagram exactly if it makes the diagram fail and no other part of it does
pub cuts_law : (n m : ℕ) (d : Diagram) → Fit n m d → (S : Set) → In S (sets_of (cuts_d d)) ↔ MinimalCut (eval d) S
cuts_law n m (leaf true) h S = (to, λ c. inl (sym (cut_part (λ v. true) S none c (λ i q. absurd (false≢true q)) refl)))
  where
    to : In S (none ∷ []) → MinimalCut (λ v. true) S
    to (inl q) = cut_of_part (λ v. true) S refl (λ T p t. fun_ext (λ i. part_false T S i p (ap (λ v. v i) q) ∙ sym (ap (λ v. v i) q)))
    to (inr k) = absurd k
cuts_law n m (leaf false) h S = (λ k. absurd k, λ c. absurd (false≢true c.fails))
cuts_law n m (node e f s) h S =
    let h' = fit_at n m e (node e f s) h (omega arith, h.ordered.1, h.ordered.2, h.ordered.3) in
    let rf = cuts_law n (suc e) f (fit_failed n m e f s h) in
    let rs = cuts_law n (suc e) s (fit_sound n m e f s h) in (
      (λ k. node_to n e f s h' S rf rs (in_append S (map (put e true) (spares f s)) (sets_of (cuts_d s)) (subst (In S) (cut_family n e f s h') k))),
      (λ c. subst (In S) (sym (cut_family n e f s h')) (node_from n e f s h' S rf rs c (S e) refl)),
    )

-- EVERY FAILURE HOLDS A CUT: a set makes a monotone diagram fail exactly if one of the listed cuts is a part of it
pub cut_below : (n m : ℕ) (d : Diagram) → Fit n m d → (S : Set) → eval d S ≡ true → (T : Set) × In T (sets_of (cuts_d d)) × Part T S
cut_below n m (leaf true) h S t = (none, inl refl, λ i q. absurd (false≢true q))
cut_below n m (leaf false) h S t = absurd (false≢true t)
cut_below n m (node e f s) h S t =
    go (S e) refl (eval s S) refl (cut_below n (suc e) f (fit_failed n m e f s h) S) (cut_below n (suc e) s (fit_sound n m e f s h) S)
  where
    Found : Diagram → Type 0
    Found d = (T : Set) × In T (sets_of (cuts_d d)) × Part T S

    h' : Fit n e (node e f s)
    h' = fit_at n m e (node e f s) h (omega arith, h.ordered.1, h.ordered.2, h.ordered.3)

    whole : (T : Set) → In T (map (put e true) (spares f s) ++ sets_of (cuts_d s)) → In T (sets_of (cuts_d (node e f s)))
    whole T k = subst (In T) (sym (cut_family n e f s h')) k

    by_sound : Found s → Found (node e f s)
    by_sound (T, i, p) = (T, whole T (in_right T (map (put e true) (spares f s)) (sets_of (cuts_d s)) i), p)

    by_failed : S e ≡ true → eval s S ≡ false → Found f → Found (node e f s)
    by_failed q r (T, i, p) =
        let spared : eval s T ≡ false = not_true (eval s T) (λ w. true≢false (sym ((fit_sound n m e f s h).mono T S p w) ∙ r)) in (
          put e true T,
          whole (put e true T) (in_left (put e true T) (map (put e true) (spares f s)) (sets_of (cuts_d s))
              (in_map (put e true) T (spares f s) (in_keep (λ S. not (eval s S)) T (sets_of (cuts_d f)) i (ap not spared)))),
          subst (Part (put e true T)) (put_id e true S q) (part_put e true T S p),
        )

    go : (a : Bool) → S e ≡ a → (b : Bool) → eval s S ≡ b → (eval f S ≡ true → Found f) → (eval s S ≡ true → Found s) → Found (node e f s)
    go a q true r kf ks = by_sound (ks r)
    go true q false r kf ks = by_failed q r (kf (rw q at t))
    go false q false r kf ks = absurd (false≢true (sym r ∙ (rw q at t)))

pub cuts_decide : (n m : ℕ) (d : Diagram) → Fit n m d → (S : Set) → (eval d S ≡ true) ↔ ((T : Set) × In T (sets_of (cuts_d d)) × Part T S)
cuts_decide n m d h S = (cut_below n m d h S, λ w. h.mono w.0 S w.2 ((cuts_law n m d h w.0).0 w.1).fails)
