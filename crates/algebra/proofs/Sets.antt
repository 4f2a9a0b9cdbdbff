-- Sets with one event put in or taken out; parts; monotone functions.
-- Assumes nothing.
use mathlib.Core.Path.{◌≡◌, refl, sym, ap, ◌∙◌, subst, fun_ext}
use mathlib.Core.Logic.{◌≢◌, ◌⊎◌, inl, inr}
use mathlib.Core.Bool.{Bool, true, false, true≢false, false≢true}
use Prim.Native.Nat.{ℕ, suc}
use lib.Dec.{eqb}
use borrow.Author.Tests.{eqb-false}
use Rattle.paper.specs.Sets.{Set, put, Part}
use Rattle.paper.specs.Functions.{Fun, fix_f, Monotone}
use Rattle.paper.specs.Diagrams.{Diagram, node, eval, Ordered}
use Rattle.paper.specs.Cuts.{MinimalCut}
use Rattle.algebra.proofs.Base.{eqb_or, put_same, put_other}
use Rattle.algebra.proofs.Fix.{eval_put}

-- two sets are equal if they agree on e and elsewhere
pub set_ext : (e : ℕ) (v w : Set) → v e ≡ w e → ((i : ℕ) → i ≢ e → v i ≡ w i) → v ≡ w
set_ext e v w h k = fun_ext (λ i. go i (eqb_or i e))
  where
    go : (i : ℕ) → (i ≡ e) ⊎ (eqb i e ≡ false) → v i ≡ w i
    go i (inl q) = ap v q ∙ h ∙ ap w (sym q)
    go i (inr q) = k i (eqb-false i e q)

pub put_put : (e : ℕ) (b c : Bool) (v : Set) → put e b (put e c v) ≡ put e b v
put_put e b c v = set_ext e (put e b (put e c v)) (put e b v) (put_same e b (put e c v) ∙ sym (put_same e b v))
    (λ i n. put_other e b (put e c v) i n ∙ put_other e c v i n ∙ sym (put_other e b v i n))

pub put_id : (e : ℕ) (b : Bool) (v : Set) → v e ≡ b → put e b v ≡ v
put_id e b v h = set_ext e (put e b v) v (put_same e b v ∙ sym h) (λ i n. put_other e b v i n)

pub part_put : (e : ℕ) (b : Bool) (T S : Set) → Part T S → Part (put e b T) (put e b S)
part_put e b T S h i = go (eqb_or i e)
  where
    go : (i ≡ e) ⊎ (eqb i e ≡ false) → put e b T i ≡ true → put e b S i ≡ true
    go (inl q) t = subst (λ j. put e b S j ≡ true) (sym q) (put_same e b S ∙ sym (put_same e b T) ∙ sym (ap (put e b T) q) ∙ t)
    go (inr q) t = put_other e b S i (eqb-false i e q) ∙ h i (sym (put_other e b T i (eqb-false i e q)) ∙ t)

-- what is not true is false
pub not_true : (b : Bool) → (b ≡ true → ⊥) → b ≡ false
not_true true h = absurd (h refl)
not_true false h = refl

-- a part does not hold what the whole does not
pub part_false : (T S : Set) (i : ℕ) → Part T S → S i ≡ false → T i ≡ false
part_false T S i h q = not_true (T i) (λ t. true≢false (sym (h i t) ∙ q))

pub mono_fix : (m : ℕ) (b : Bool) (F : Fun) → Monotone F → Monotone (fix_f m b F)
mono_fix m b F h T S p = h (put m b T) (put m b S) (part_put m b T S p)

-- the branches of a node by its own value
module _ (n e : ℕ) (f s : Diagram) (of : Ordered (suc e) n f) (os : Ordered (suc e) n s) where
  pub failed_branch : (v : Set) → eval (node e f s) (put e true v) ≡ eval f v
  failed_branch v = rw (put_same e true v, eval_put e n f true v of)

  pub sound_branch : (v : Set) → eval (node e f s) (put e false v) ≡ eval s v
  sound_branch v = rw (put_same e false v, eval_put e n s false v os)

  pub mono_failed : Monotone (eval (node e f s)) → Monotone (eval f)
  mono_failed h = subst Monotone (fun_ext failed_branch) (mono_fix e true (eval (node e f s)) h)

  pub mono_sound : Monotone (eval (node e f s)) → Monotone (eval s)
  mono_sound h = subst Monotone (fun_ext sound_branch) (mono_fix e false (eval (node e f s)) h)

-- a failing part of a minimal cut is the cut
pub cut_part : (F : Fun) (S T : Set) → MinimalCut F S → Part T S → F T ≡ true → T ≡ S
cut_part F S T c p t = fun_ext (λ i. go i (T i) refl (S i) refl)
  where
    go : (i : ℕ) (a : Bool) → T i ≡ a → (b : Bool) → S i ≡ b → T i ≡ S i
    go i true q true r = q ∙ sym r
    go i true q false r = absurd (true≢false (sym (p i q) ∙ r))
    go i false q true r = absurd (false≢true (sym (c.minimal T p (λ w. true≢false (sym r ∙ sym (ap (λ v. v i) w) ∙ q))) ∙ t))
    go i false q false r = q ∙ sym r

pub cut_of_part : (F : Fun) (S : Set) → F S ≡ true → ((T : Set) → Part T S → F T ≡ true → T ≡ S) → MinimalCut F S
cut_of_part F S t h = record { fails = t; minimal = λ T p n. not_true (F T) (λ q. n (h T p q)) }
