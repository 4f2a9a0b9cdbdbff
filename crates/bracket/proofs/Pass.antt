-- The pass over the nodes: each number is at most D, and is read off a work area.
-- Assumes nothing.
use mathlib.Core.Path.{◌≡◌, refl, sym, ap, ap₂, ◌∙◌, subst}
use mathlib.Core.List.{List}
use Prim.Native.Nat.{ℕ, zero, suc, ◌+◌, ◌-◌, ◌*◌, ◌/◌, ◌≤◌, ◌<◌}
use native.Mathlib.Nat.{mul-le-mul_left}
use native.Mathlib.Decide.{ℕ_discrete}
use native.Mathlib.Omega.{arith}
use lib.ListN.{length, get_or, set}
use lib.Seq.{get_or-set_same, get_or-set_other}
use Rattle.paper.specs.Limits.{billion}
use Rattle.paper.specs.Chance.{bound, low, high}
use Rattle.tables.specs.Table.{den, event_of, failed_of, sound_of}
use Rattle.tables.specs.Stored.{Lower}
use Rattle.tables.specs.Lent.{Node}
use Rattle.tables.proofs.Den.{den_0, den_1, den_node, den_ind}
use Rattle.tables.proofs.Lent.{lent_lower, lent_node}
use Rattle.bracket.specs.Bracketed.{chance_in}
use Rattle.bracket.specs.Pass.{number_of, number_in, Filled, Priced, Ready}

-- what is divided is at most D * D + D
pub sum_le : (a x y : ℕ) → a ≤ billion → x ≤ billion → y ≤ billion → a * x + (billion - a) * y ≤ 1_000_000_000_000_000_000
sum_le a x y ha hx hy =
    let p : a * x ≤ a * billion = mul-le-mul_left a hx in
    let q : (billion - a) * y ≤ (billion - a) * billion = mul-le-mul_left (billion - a) hy in
    omega arith

mix_le : (a x y r : ℕ) → a ≤ billion → x ≤ billion → y ≤ billion → r < billion → (a * x + (billion - a) * y + r) / billion ≤ billion
mix_le a x y r ha hx hy hr = let s = sum_le a x y ha hx hy in omega arith

-- ---- reading a work area

pub number_slot : (W : List ℕ) (i : ℕ) → 2 ≤ i → number_in W i ≡ get_or W (i - 2) 0
unfolding number_in
number_slot W zero h = absurd (omega arith)
number_slot W (suc zero) h = absurd (omega arith)
number_slot W (suc (suc k)) h = let q : k ≡ suc (suc k) - 2 = omega arith in ap (λ j. get_or W j 0) q

-- a store at slot k changes the number of node k + 2 alone
pub stored_here : (W : List ℕ) (i v : ℕ) → 2 ≤ i → i - 2 < length W → number_in (set W (i - 2) v) i ≡ v
stored_here W i v h l = number_slot (set W (i - 2) v) i h ∙ get_or-set_same W (i - 2) v 0 l

pub stored_there : (W : List ℕ) (i j v : ℕ) → 2 ≤ i → (j ≡ i → ⊥) → number_in (set W (i - 2) v) j ≡ number_in W j
unfolding number_in
stored_there W i zero v h d = refl
stored_there W i (suc zero) v h d = refl
stored_there W i (suc (suc k)) v h d = get_or-set_other W (i - 2) k v 0 (omega arith)

-- nothing is stored of the leaves
pub filled_start : (r : ℕ) (A T W : List ℕ) → Filled r A T W 2
unfolding number_in number_of
filled_start r A T W = record { at = go }
  where
    go : (j : ℕ) → j < 2 → number_in W j ≡ number_of r A T j
    go zero h = sym (ap (bound billion (chance_in A) r) (den_0 T))
    go (suc zero) h = sym (ap (bound billion (chance_in A) r) (den_1 T))
    go (suc (suc j)) h = absurd (omega arith)

module _ {n : ℕ} {T : List ℕ} {c root : ℕ} {A : List ℕ} (p : Priced n T c root A) (r : ℕ) (small : r < billion) where
  lower : Lower T c
  lower = lent_lower p.lent

  pub number_node : (i : ℕ) → 2 ≤ i → i < c + 2
      → number_of r A T i ≡ (chance_in A (event_of T i) * number_of r A T (failed_of T i) + (billion - chance_in A (event_of T i)) * number_of r A T (sound_of T i) + r) / billion
  unfolding number_of
  number_node i h l = ap (bound billion (chance_in A) r) (den_node lower i h l)

  pub number_le : (i : ℕ) → i < c + 2 → number_of r A T i ≤ billion
  unfolding number_of
  number_le =
      den_ind lower (λ i. number_of r A T i ≤ billion) (rw (den_0 T) (omega arith)) (rw (den_1 T) (omega arith))
      (λ i h l f s. subst (λ x. x ≤ billion) (sym (number_node i h l))
      (mix_le (chance_in A (event_of T i)) (number_of r A T (failed_of T i)) (number_of r A T (sound_of T i)) r (p.chances.each (event_of T i) (lent_node p.lent h l).event) f s small))

  -- one node, with the numbers that the code read, where both branches have theirs
  module _ (W : List ℕ) {i e f s a : ℕ} (qe : e ≡ event_of T i) (qf : f ≡ failed_of T i) (qs : s ≡ sound_of T i) (qa : a ≡ chance_in A e)
      (h : 2 ≤ i) (l : i < c + 2) (w : c ≤ length W) (nf : number_in W f ≡ number_of r A T f) (ns : number_in W s ≡ number_of r A T s) where
    nd : Node n T i
    nd = lent_node p.lent h l

    pub ready_by : Ready W i f s a r
    ready_by =
        let fd = nd.failed in
        let sd = nd.sound in
        let ev = nd.event in
        record {
          node = h;
          room = omega arith;
          failed = omega arith;
          sound = omega arith;
          chance = let z = p.chances.each e (omega arith) in omega arith;
          round = small;
          failed_number = subst (λ v. v ≤ billion) (sym nf) (number_le f (omega arith));
          sound_number = subst (λ v. v ≤ billion) (sym ns) (number_le s (omega arith));
        }

    -- what is stored is the node's number
    pub right_by : (a * number_in W f + (billion - a) * number_in W s + r) / billion ≡ number_of r A T i
    right_by =
        let x : number_in W f ≡ number_of r A T (failed_of T i) = nf ∙ ap (number_of r A T) qf in
        let y : number_in W s ≡ number_of r A T (sound_of T i) = ns ∙ ap (number_of r A T) qs in
        let z : a ≡ chance_in A (event_of T i) = qa ∙ ap (chance_in A) qe in
        ap₂ (λ x y. (a * x + (billion - a) * y + r) / billion) x y
        ∙ ap (λ z. (z * number_of r A T (failed_of T i) + (billion - z) * number_of r A T (sound_of T i) + r) / billion) z
        ∙ sym (number_node i h l)

  -- the same where all lower nodes have theirs
  module _ {W : List ℕ} {i e f s a : ℕ} (qe : e ≡ event_of T i) (qf : f ≡ failed_of T i) (qs : s ≡ sound_of T i) (qa : a ≡ chance_in A e)
      (h : 2 ≤ i) (l : i < c + 2) (w : c ≤ length W) (fill : Filled r A T W i) where
    at_failed : number_in W f ≡ number_of r A T f
    at_failed = let fd = (lent_node p.lent h l).failed in fill.at f (omega arith)

    at_sound : number_in W s ≡ number_of r A T s
    at_sound = let sd = (lent_node p.lent h l).sound in fill.at s (omega arith)

    pub ready : Ready W i f s a r
    ready = ready_by W qe qf qs qa h l w at_failed at_sound

    right : (a * number_in W f + (billion - a) * number_in W s + r) / billion ≡ number_of r A T i
    right = right_by W qe qf qs qa h l w at_failed at_sound

    pub filled_next : {W' : List ℕ} → W' ≡ set W (i - 2) ((a * number_in W f + (billion - a) * number_in W s + r) / billion) → Filled r A T W' (i + 1)
    filled_next {W'} q = subst (λ X. Filled r A T X (i + 1)) (sym q) (record { at = λ j g. go j g (ℕ_discrete j i) })
      where
        v : ℕ
        v = (a * number_in W f + (billion - a) * number_in W s + r) / billion

        go : (j : ℕ) → j < i + 1 → Dec (j ≡ i) → number_in (set W (i - 2) v) j ≡ number_of r A T j
        go j g (yes e) = ap (number_in (set W (i - 2) v)) e ∙ stored_here W i v h (omega arith) ∙ right ∙ ap (number_of r A T) (sym e)
        go j g (no e) = stored_there W i j v h e ∙ fill.at j (omega arith)

-- what was read off a filled work area is a number of the paper
module _ {A T W : List ℕ} {i root x : ℕ} (l : root < i) (q : x ≡ number_in W root) where
  pub low_read : Filled 0 A T W i → x ≡ low billion (chance_in A) (den T root)
  unfolding number_of
  low_read fill = q ∙ fill.at root l

  pub high_read : Filled (billion - 1) A T W i → x ≡ high billion (chance_in A) (den T root)
  unfolding number_of
  high_read fill = q ∙ fill.at root l
