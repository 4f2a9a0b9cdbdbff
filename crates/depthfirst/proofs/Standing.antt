-- Where a walk stands: the open names, each an input of the one below, with the inputs behind it left; and the steps: a name is opened, a name is left.
-- Assumes nothing.
use mathlib.Core.Path.{◌≡◌, refl, sym, ap, ◌∙◌, subst}
use mathlib.Core.Logic.{◌⊎◌, inl, inr}
use mathlib.Core.List.{List, [], ◌∷◌, ◌++◌, append_assoc, append-nil}
use Prim.Native.Nat.{ℕ, ◌<◌, ◌≤◌}
use native.Mathlib.Omega.{arith}
use lib.ListN.{get_or, set}
use Rattle.paper.specs.Lists.{In}
use Rattle.paper.specs.Walks.{Leads, Ordered}
use Rattle.depthfirst.specs.Marking.{Marks}
use Rattle.depthfirst.proofs.Lists.{in_left, in_right, in_append}
use Rattle.depthfirst.proofs.Order.{ordered_more}
use Rattle.depthfirst.proofs.Marks.{marks_open, marks_leave, top_not_done}
use Rattle.depthfirst.proofs.Visits.{Frames, none, over, names}

-- r is the end of x's inputs, and those before it are done
pub record Rest (g : ℕ → List ℕ) (done : List ℕ) (x : ℕ) (r : List ℕ) : Type 0 where
  pub passed : List ℕ
  pub whole : g x ≡ passed ++ r
  pub behind : (y : ℕ) → In y passed → In y done

-- x is the first of the list
pub record First (x : ℕ) (r : List ℕ) : Type 0 where
  pub others : List ℕ
  pub is : r ≡ x ∷ others

-- the open names below x
abbrev pub Under : (ℕ → List ℕ) → List ℕ → ℕ → Frames → Type 0
Under g done x none = Unit {0}
Under g done x (over w r fs) = First x r × Rest g done w r × Under g done w fs

abbrev pub Framed : (ℕ → List ℕ) → List ℕ → Frames → Type 0
Framed g done none = Unit {0}
Framed g done (over x r fs) = Rest g done x r × Under g done x fs

-- WHERE A WALK STANDS
pub record Standing (g : ℕ → List ℕ) (n : ℕ) (M : List ℕ) (fs : Frames) (done : List ℕ) : Type 0 where
  pub marks : Marks n M (names fs) done
  pub ordered : Ordered g done
  pub framed : Framed g done fs

-- ---- more names are done

rest_more : {g : ℕ → List ℕ} {done : List ℕ} {x : ℕ} {r : List ℕ} (z : ℕ) → Rest g done x r → Rest g (done ++ (z ∷ [])) x r
rest_more {done = done} z p = record { passed = p.passed; whole = p.whole; behind = λ y h. in_left y done (z ∷ []) (p.behind y h) }

under_more : (g : ℕ → List ℕ) (done : List ℕ) (x : ℕ) (fs : Frames) (z : ℕ) → Under g done x fs → Under g (done ++ (z ∷ [])) x fs
under_more g done x none z u = tt
under_more g done x (over w r fs) z u = (u.0, rest_more z u.1, under_more g done w fs z u.2)

under_framed : (g : ℕ → List ℕ) (done : List ℕ) (x : ℕ) (fs : Frames) → Under g done x fs → Framed g done fs
under_framed g done x none u = tt
under_framed g done x (over w r fs) u = (u.1, u.2)

-- ---- inputs are passed over

rest_pass : {g : ℕ → List ℕ} {done : List ℕ} {x : ℕ} (s r : List ℕ) → ((y : ℕ) → In y s → In y done) → Rest g done x (s ++ r) → Rest g done x r
rest_pass {done = done} s r h p = record {
  passed = p.passed ++ s;
  whole = p.whole ∙ sym (append_assoc p.passed s r);
  behind = λ y q. go y (in_append y p.passed s q);
}
  where
    go : (y : ℕ) → In y p.passed ⊎ In y s → In y done
    go y (inl k) = p.behind y k
    go y (inr k) = h y k

pub rest_leads : {g : ℕ → List ℕ} {done : List ℕ} {x y : ℕ} {r : List ℕ} → Rest g done x r → First y r → Leads g x y
rest_leads {g} {x = x} {y} p f =
    subst (λ l. In y l) (sym p.whole) (in_right y p.passed _ (subst (λ l. In y l) (sym f.is) (inl refl)))

module _ {g : ℕ → List ℕ} {n : ℕ} {M : List ℕ} {x : ℕ} {t : List ℕ} {fs : Frames} {done : List ℕ}
    (st : Standing g n M (over x t fs) done) (s r : List ℕ) (split : t ≡ s ++ r)
    (low : (y : ℕ) → In y s → y < n) (left : (y : ℕ) → In y s → 2 ≤ get_or M y 0) where
  pub passed_done : (y : ℕ) → In y s → In y done
  passed_done y h = st.marks.two_done y (low y h) (left y h)

  rest : Rest g done x r
  rest = rest_pass s r passed_done (subst (λ l. Rest g done x l) split st.framed.0)

  -- ---- the name on top is left

  pub stand_leave : r ≡ [] → Standing g n (set M x 2) fs (done ++ (x ∷ []))
  stand_leave e = record {
    marks = marks_leave st.marks;
    ordered = ordered_more x st.ordered (top_not_done st.marks) (λ y h. rest.behind y (subst (λ l. In y l) (rest.whole ∙ ap (λ l. rest.passed ++ l) e ∙ append-nil rest.passed) h));
    framed = under_framed g (done ++ (x ∷ [])) x fs (under_more g done x fs x st.framed.1);
  }

  module _ (y : ℕ) (o : List ℕ) (head : r ≡ y ∷ o) where
    -- ---- the next input is opened

    pub stand_open : y < n → get_or M y 0 ≡ 0 → Standing g n (set M y 1) (over y (g y) (over x (y ∷ o) fs)) done
    stand_open l z = record {
      marks = marks_open st.marks l z;
      ordered = st.ordered;
      framed = (record { passed = []; whole = refl; behind = λ w h. absurd h }, (record { others = o; is = refl }, subst (λ q. Rest g done x q) head rest, st.framed.1));
    }

    -- ---- the next input of the name on top is one

    pub top_leads : Leads g x y
    top_leads = rest_leads rest (record { others = o; is = head })

pub not_done_new : {g : ℕ → List ℕ} {n : ℕ} {M : List ℕ} {fs : Frames} {done : List ℕ} → Standing g n M fs done → (y : ℕ) → get_or M y 0 ≡ 0 → In y done → ⊥
not_done_new st y z h = let t = st.marks.done_two y h in omega arith
