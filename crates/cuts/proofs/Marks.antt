-- Marking what a root reaches: from the root down, each marked node marks its branches.
-- Assumes nothing.
use mathlib.Core.Path.{◌≡◌, refl, sym, ap, ◌∙◌, subst}
use mathlib.Core.Logic.{◌≢◌, ◌⊎◌, inl, inr}
use mathlib.Core.Bool.{Bool, true, false}
use mathlib.Core.List.{List}
use Prim.Native.Nat.{ℕ, ◌+◌, ◌-◌, ◌<◌, ◌≤◌}
use native.Mathlib.Decide.{ℕ_discrete}
use native.Mathlib.Omega.{arith}
use lib.ListN.{length, get_or, set, replicate, length-set, length-replicate}
use lib.Seq.{get_or-set_same, get_or-set_other}
use Rattle.paper.specs.Lists.{In}
use Rattle.paper.specs.Diagrams.{Diagram, leaf, node}
use Rattle.algebra.specs.Operations.{subs}
use Rattle.algebra.proofs.Lists.{in_append, in_left, in_right}
use Rattle.algebra.proofs.Subs.{subs_self, subs_trans}
use Rattle.tables.specs.Table.{event_of, failed_of, sound_of, den}
use Rattle.tables.proofs.Den.{den_0, den_1, den_node, den_ind}
use Rattle.store.proofs.Zeros.{zero_at}
use Rattle.without.specs.Reading.{Held}
use Rattle.cuts.specs.Reach.{Reached, here, failed, sound, Marked, Spread}

-- ---- one node

pub held_low : {T : List ℕ} {i k : ℕ} → Held T i → k ≤ i → Held T k
held_low h l = let w = h.within in record { count = h.count; fits = h.fits; lower = h.lower; within = omega arith }

pub failed_below : {T : List ℕ} {i : ℕ} → Held T i → 2 ≤ i → failed_of T i < i
failed_below {T} {i} h n = let w = h.within in let q = h.lower.failed (i - 2) (omega arith) in omega arith

pub sound_below : {T : List ℕ} {i : ℕ} → Held T i → 2 ≤ i → sound_of T i < i
sound_below {T} {i} h n = let w = h.within in let q = h.lower.sound (i - 2) (omega arith) in omega arith

pub spread_none : {T : List ℕ} {i : ℕ} (K : List ℕ) → get_or K i 0 ≢ 1 → Spread T i K K
spread_none K n = record { failed = λ q. absurd (n q); sound = λ q. absurd (n q); each = λ j. inl refl }

-- two stores of 1
pub spread_both : {T : List ℕ} {i f s : ℕ} (K : List ℕ) → get_or K i 0 ≡ 1 → f ≡ failed_of T i → s ≡ sound_of T i → f < length K → s < length K → Spread T i K (set (set K f 1) s 1)
spread_both {T} {i} {f} {s} K m p q lf ls = record {
  failed = λ _. subst (λ j. get_or (set (set K f 1) s 1) j 0 ≡ 1) p (at_f (ℕ_discrete f s));
  sound = λ _. subst (λ j. get_or (set (set K f 1) s 1) j 0 ≡ 1) q at_s;
  each = λ j. at_j j (ℕ_discrete j s) (ℕ_discrete j f);
}
  where
    at_s : get_or (set (set K f 1) s 1) s 0 ≡ 1
    at_s = get_or-set_same (set K f 1) s 1 0 (simp length-set (omega arith))

    at_f : Dec (f ≡ s) → get_or (set (set K f 1) s 1) f 0 ≡ 1
    at_f (yes e) = subst (λ j. get_or (set (set K f 1) s 1) j 0 ≡ 1) (sym e) at_s
    at_f (no n) = get_or-set_other (set K f 1) s f 1 0 n ∙ get_or-set_same K f 1 0 lf

    at_j : (j : ℕ) → Dec (j ≡ s) → Dec (j ≡ f)
        → (get_or (set (set K f 1) s 1) j 0 ≡ get_or K j 0) ⊎ ((get_or K i 0 ≡ 1) × (get_or (set (set K f 1) s 1) j 0 ≡ 1) × ((j ≡ failed_of T i) ⊎ (j ≡ sound_of T i)))
    at_j j (yes e) y = inr (m, subst (λ x. get_or (set (set K f 1) s 1) x 0 ≡ 1) (sym e) at_s, inr (e ∙ q))
    at_j j (no n) (yes e) = inr (m, subst (λ x. get_or (set (set K f 1) s 1) x 0 ≡ 1) (sym e) (at_f (ℕ_discrete f s)), inl (e ∙ p))
    at_j j (no n) (no o) = inl (get_or-set_other (set K f 1) s j 1 0 n ∙ get_or-set_other K f j 1 0 o)

-- ---- the way down

-- only what is reached is marked; the root is, and so are the branches of each marked node above i
pub record Marking (T : List ℕ) (root : ℕ) (K : List ℕ) (i : ℕ) : Type 0 where
  pub long : root < length K
  pub to : i ≤ root
  pub bit : (j : ℕ) → get_or K j 0 ≤ 1
  pub reached : (j : ℕ) → get_or K j 0 ≡ 1 → Reached T root j
  pub first : get_or K root 0 ≡ 1
  pub failed : (j : ℕ) → 2 ≤ j → i < j → get_or K j 0 ≡ 1 → get_or K (failed_of T j) 0 ≡ 1
  pub sound : (j : ℕ) → 2 ≤ j → i < j → get_or K j 0 ≡ 1 → get_or K (sound_of T j) 0 ≡ 1

-- zeros, and 1 at the root
abbrev pub started : ℕ → ℕ → List ℕ
started n root = set (replicate n 0) root 1

pub marking_start : (T : List ℕ) (n root : ℕ) → root < n → Marking T root (started n root) root
marking_start T n root l = record {
  long = long;
  to = omega arith;
  bit = λ j. small j (ℕ_discrete j root);
  reached = λ j q. subst (Reached T root) (sym (only j q)) here;
  first = at_root;
  failed = λ j a b q. let e = only j q in absurd (omega arith);
  sound = λ j a b q. let e = only j q in absurd (omega arith);
}
  where
    long : root < length (started n root)
    long = simp (length-set, length-replicate) (omega arith)

    at_root : get_or (started n root) root 0 ≡ 1
    at_root = get_or-set_same (replicate n 0) root 1 0 (simp length-replicate (omega arith))

    elsewhere : (j : ℕ) → j ≢ root → get_or (started n root) j 0 ≡ 0
    elsewhere j m = get_or-set_other (replicate n 0) root j 1 0 m ∙ zero_at n j

    small : (j : ℕ) → Dec (j ≡ root) → get_or (started n root) j 0 ≤ 1
    small j (yes e) = let q : get_or (started n root) j 0 ≡ 1 = ap (λ x. get_or (started n root) x 0) e ∙ at_root in omega arith
    small j (no m) = let q = elsewhere j m in omega arith

    only : (j : ℕ) → get_or (started n root) j 0 ≡ 1 → j ≡ root
    only j q = go (ℕ_discrete j root)
      where
        go : Dec (j ≡ root) → j ≡ root
        go (yes e) = e
        go (no m) = let z = elsewhere j m in absurd (omega arith)

pub marking_cleared : {T K : List ℕ} {n root : ℕ} → K ≡ replicate n 0 → root < n → Marking T root (set K root 1) root
marking_cleared {T} {K} {n} {root} e l = subst (λ x. Marking T root (set x root 1) root) (sym e) (marking_start T n root l)

module _ {T : List ℕ} {root : ℕ} {K : List ℕ} {i : ℕ} (held : Held T root) (m : Marking T root K i) (two : 2 ≤ i) where
  pub marking_held : Held T i
  marking_held = held_low held m.to

  module _ {K' : List ℕ} (long : length K' ≡ length K) (s : Spread T i K K') where
    -- what was marked stays marked
    stays : (j : ℕ) → get_or K j 0 ≡ 1 → get_or K' j 0 ≡ 1
    stays j q = go (s.each j)
      where
        go : (get_or K' j 0 ≡ get_or K j 0) ⊎ ((get_or K i 0 ≡ 1) × (get_or K' j 0 ≡ 1) × ((j ≡ failed_of T i) ⊎ (j ≡ sound_of T i))) → get_or K' j 0 ≡ 1
        go (inl e) = e ∙ q
        go (inr (a, b, d)) = b

    -- what is marked anew is lower
    was : (j : ℕ) → i ≤ j → get_or K' j 0 ≡ 1 → get_or K j 0 ≡ 1
    was j l q = go (s.each j)
      where
        go : (get_or K' j 0 ≡ get_or K j 0) ⊎ ((get_or K i 0 ≡ 1) × (get_or K' j 0 ≡ 1) × ((j ≡ failed_of T i) ⊎ (j ≡ sound_of T i))) → get_or K j 0 ≡ 1
        go (inl e) = sym e ∙ q
        go (inr (a, b, inl e)) = let w = failed_below marking_held two in absurd (omega arith)
        go (inr (a, b, inr e)) = let w = sound_below marking_held two in absurd (omega arith)

    own : (j : ℕ) → i - 1 < j → Dec (j ≡ i) → get_or K' j 0 ≡ 1 → (j ≡ i) ⊎ ((i < j) × (get_or K j 0 ≡ 1))
    own j l (yes e) q = inl e
    own j l (no n) q = inr (omega arith, was j (omega arith) q)

    pub marking_step : Marking T root K' (i - 1)
    marking_step = record {
      long = let a = m.long in omega arith;
      to = let a = m.to in omega arith;
      bit = λ j. small j (s.each j);
      reached = λ j q. found j q (s.each j);
      first = stays root m.first;
      failed = λ j a l q. down_failed j a (own j l (ℕ_discrete j i) q) q;
      sound = λ j a l q. down_sound j a (own j l (ℕ_discrete j i) q) q;
    }
      where
        small : (j : ℕ) → (get_or K' j 0 ≡ get_or K j 0) ⊎ ((get_or K i 0 ≡ 1) × (get_or K' j 0 ≡ 1) × ((j ≡ failed_of T i) ⊎ (j ≡ sound_of T i))) → get_or K' j 0 ≤ 1
        small j (inl e) = let b = m.bit j in omega arith
        small j (inr (a, b, d)) = omega arith

        found : (j : ℕ) → get_or K' j 0 ≡ 1 → (get_or K' j 0 ≡ get_or K j 0) ⊎ ((get_or K i 0 ≡ 1) × (get_or K' j 0 ≡ 1) × ((j ≡ failed_of T i) ⊎ (j ≡ sound_of T i))) → Reached T root j
        found j q (inl e) = m.reached j (sym e ∙ q)
        found j q (inr (a, b, inl e)) = subst (Reached T root) (sym e) (failed i (m.reached i a) two)
        found j q (inr (a, b, inr e)) = subst (Reached T root) (sym e) (sound i (m.reached i a) two)

        down_failed : (j : ℕ) → 2 ≤ j → (j ≡ i) ⊎ ((i < j) × (get_or K j 0 ≡ 1)) → get_or K' j 0 ≡ 1 → get_or K' (failed_of T j) 0 ≡ 1
        down_failed j a (inl e) q = subst (λ x. get_or K' (failed_of T x) 0 ≡ 1) (sym e) (s.failed (was i (omega arith) (subst (λ x. get_or K' x 0 ≡ 1) e q)))
        down_failed j a (inr (l, k)) q = stays (failed_of T j) (m.failed j a l k)

        down_sound : (j : ℕ) → 2 ≤ j → (j ≡ i) ⊎ ((i < j) × (get_or K j 0 ≡ 1)) → get_or K' j 0 ≡ 1 → get_or K' (sound_of T j) 0 ≡ 1
        down_sound j a (inl e) q = subst (λ x. get_or K' (sound_of T x) 0 ≡ 1) (sym e) (s.sound (was i (omega arith) (subst (λ x. get_or K' x 0 ≡ 1) e q)))
        down_sound j a (inr (l, k)) q = stays (sound_of T j) (m.sound j a l k)

-- below 2 there are no branches: all that is reached is marked
pub marking_end : {T : List ℕ} {root : ℕ} {K : List ℕ} {i : ℕ} → Marking T root K i → i < 2 → Marked T root K
marking_end {T} {root} {K} {i} m l = record { bit = m.bit; reached = m.reached; all = λ j r. all r }
  where
    all : {j : ℕ} → Reached T root j → get_or K j 0 ≡ 1
    all here = m.first
    all (failed j r a) = m.failed j a (omega arith) (all r)
    all (sound j r a) = m.sound j a (omega arith) (all r)

-- ---- what is reached, as diagrams

pub reached_low : {T : List ℕ} {root : ℕ} {j : ℕ} → Held T root → Reached T root j → j ≤ root
reached_low h here = omega arith
reached_low h (failed j r a) = let w = reached_low h r in let v = failed_below (held_low h w) a in omega arith
reached_low h (sound j r a) = let w = reached_low h r in let v = sound_below (held_low h w) a in omega arith

then_reached : {T : List ℕ} {root j k : ℕ} → Reached T root j → Reached T j k → Reached T root k
then_reached p here = p
then_reached p (failed k r a) = failed k (then_reached p r) a
then_reached p (sound k r a) = sound k (then_reached p r) a

module _ {T : List ℕ} {root : ℕ} (held : Held T root) where
  node_at : (j : ℕ) → 2 ≤ j → j ≤ root → den T j ≡ node (event_of T j) (den T (failed_of T j)) (den T (sound_of T j))
  node_at j a l = let w = held.within in den_node held.lower j a (omega arith)

  -- a reached number denotes a sub-diagram
  pub reached_sub : {j : ℕ} → Reached T root j → In (den T j) (subs (den T root))
  reached_sub here = subs_self (den T root)
  reached_sub (failed j r a) = subs_trans (den T (failed_of T j)) (den T j) (den T root)
      (rw (node_at j a (reached_low held r)) (inr (in_left (den T (failed_of T j)) (subs (den T (failed_of T j))) (subs (den T (sound_of T j))) (subs_self (den T (failed_of T j))))))
      (reached_sub r)
  reached_sub (sound j r a) = subs_trans (den T (sound_of T j)) (den T j) (den T root)
      (rw (node_at j a (reached_low held r)) (inr (in_right (den T (sound_of T j)) (subs (den T (failed_of T j))) (subs (den T (sound_of T j))) (subs_self (den T (sound_of T j))))))
      (reached_sub r)

-- and each sub-diagram is denoted by a reached number
pub sub_reached : {T : List ℕ} {root : ℕ} → Held T root → (x : Diagram) → In x (subs (den T root)) → (j : ℕ) × Reached T root j × (den T j ≡ x)
sub_reached {T} {root} held x = den_ind held.lower P (leaf_at 0 false (den_0 T)) (leaf_at 1 true (den_1 T)) at_node root held.within
  where
    P : ℕ → Type 0
    P i = In x (subs (den T i)) → (j : ℕ) × Reached T i j × (den T j ≡ x)

    leaf_at : (i : ℕ) (b : Bool) → den T i ≡ leaf b → In x (subs (den T i)) → (j : ℕ) × Reached T i j × (den T j ≡ x)
    leaf_at i b e h = go (subst (λ d. In x (subs d)) e h)
      where
        go : In x (subs (leaf b)) → (j : ℕ) × Reached T i j × (den T j ≡ x)
        go (inl q) = (i, here, e ∙ sym q)
        go (inr k) = absurd k

    at_node : (i : ℕ) → 2 ≤ i → i < held.count + 2 → (In x (subs (den T (failed_of T i))) → (j : ℕ) × Reached T (failed_of T i) j × (den T j ≡ x))
        → (In x (subs (den T (sound_of T i))) → (j : ℕ) × Reached T (sound_of T i) j × (den T j ≡ x)) → In x (subs (den T i)) → (j : ℕ) × Reached T i j × (den T j ≡ x)
    at_node i a l kf ks h = go (subst (λ d. In x (subs d)) e h)
      where
        e : den T i ≡ node (event_of T i) (den T (failed_of T i)) (den T (sound_of T i))
        e = den_node held.lower i a l

        go : In x (subs (node (event_of T i) (den T (failed_of T i)) (den T (sound_of T i)))) → (j : ℕ) × Reached T i j × (den T j ≡ x)
        go (inl q) = (i, here, e ∙ sym q)
        go (inr k) = pick (in_append x (subs (den T (failed_of T i))) (subs (den T (sound_of T i))) k)
          where
            pick : In x (subs (den T (failed_of T i))) ⊎ In x (subs (den T (sound_of T i))) → (j : ℕ) × Reached T i j × (den T j ≡ x)
            pick (inl k) = let (j, r, q) = kf k in (j, then_reached (failed i here a) r, q)
            pick (inr k) = let (j, r, q) = ks k in (j, then_reached (sound i here a) r, q)
