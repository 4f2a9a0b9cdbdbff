-- What is asked before the recursion: equal operands, a leaf, the memo.
-- Assumes nothing.
use mathlib.Core.Path.{◌≡◌, refl, sym, ap, ◌∙◌, subst}
use mathlib.Core.Bool.{not}
use mathlib.Core.List.{List}
use Prim.Native.Nat.{ℕ, zero, suc, ◌+◌, ◌-◌, ◌<◌, ◌≤◌}
use native.Mathlib.Omega.{arith}
use Rattle.paper.specs.Diagrams.{leaf}
use Rattle.algebra.specs.Operations.{join_d}
use Rattle.tables.specs.Table.{den}
use Rattle.tables.proofs.Den.{den_0, den_1}
use Rattle.store.specs.Building.{Found}
use Rattle.store.specs.Memo.{Recalls}
use Rattle.store.specs.declared.Known.{Known}
use Rattle.store.specs.declared.Known.TheVariants.{Node, Unknown}
use Rattle.store.proofs.Memory.{memo_hit}
use Rattle.pairs.specs.Pairs.{bit, Answers, Asked}
use Rattle.algebra.proofs.JoinLaws.{join_decides, join_passes, join_same}

pub den_leaf : (T : List ℕ) (z : ℕ) → z < 2 → den T z ≡ leaf (bit z)
den_leaf T zero l = den_0 T
den_leaf T (suc zero) l = den_1 T
den_leaf T (suc (suc z)) l = absurd (omega arith)

-- of two leaves the other one
bit_not : (f z : ℕ) → f < 2 → z < 2 → (f ≡ z → ⊥) → bit f ≡ not (bit z)
bit_not zero zero l m n = absurd (n refl)
bit_not zero (suc zero) l m n = refl
bit_not zero (suc (suc z)) l m n = absurd (omega arith)
bit_not (suc zero) zero l m n = refl
bit_not (suc zero) (suc zero) l m n = absurd (n refl)
bit_not (suc zero) (suc (suc z)) l m n = absurd (omega arith)
bit_not (suc (suc f)) z l m n = absurd (omega arith)

module _ {M : List ℕ} {z f g : ℕ} where
  pub ask_same : f ≡ g → Answers M z f g f
  ask_same q = record { right = λ T c t m lf lg. record { within = lf; is = sym (ap (λ i. join_d (bit z) (den T f) (den T i)) (sym q) ∙ join_same (bit z) (den T f) (t.reduced f lf)) } }

  pub ask_decides : f < 2 → f ≡ z → Answers M z f g f
  ask_decides l q = record {
    right = λ T c t m lf lg. record {
      within = lf;
      is = let d : den T f ≡ leaf (bit z) = den_leaf T f l ∙ ap (λ i. leaf (bit i)) q in d ∙ sym (ap (λ a. join_d (bit z) a (den T g)) d ∙ join_decides (bit z) (den T g));
    };
  }

  pub ask_passes : z < 2 → f < 2 → (f ≡ z → ⊥) → Answers M z f g g
  ask_passes lz l n = record {
    right = λ T c t m lf lg. record {
      within = lg;
      is = sym (ap (λ a. join_d (bit z) a (den T g)) (den_leaf T f l ∙ ap leaf (bit_not f z l lz n)) ∙ join_passes (bit z) (den T g));
    };
  }

-- what the memo says
pub ask_memo : (M : List ℕ) (z f g : ℕ) (r : Known) → 2 ≤ f → Recalls M (z + 1) f g r → Asked M z f g r
ask_memo M z f g (Node r) l h = record {
  right = λ T c t m lf lg.
      let w = (memo_hit m (omega arith) h).found in
      let q : z + 1 - 1 ≡ z = omega arith in
      subst (λ i. Found T c (join_d (bit i) (den T f) (den T g)) r) q w;
}
ask_memo M z f g (Unknown at) l p = record { node = l; place = p }
