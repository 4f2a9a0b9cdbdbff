-- Separators: whether a list begins with one, and what stands before, behind and between them.
-- Assumes nothing.
use mathlib.Core.Path.{◌≡◌, refl, sym, ap, ◌∙◌}
use mathlib.Core.Bool.{Bool, true, false, cond, ◌&&◌, true≢false, false≢true}
use mathlib.Core.List.{List, [], ◌∷◌, ◌++◌}
use Prim.Native.Nat.{ℕ, zero, suc, ◌+◌, ◌-◌, ◌<◌, ◌≤◌}
use native.Mathlib.Omega.{arith}
use borrow.Author.Tests.{ne_eqb}
use lib.Dec.{eqb}
use lib.ListN.{length, take, drop, length-drop}
use lib.Pointwise.{pointwise}
use Rattle.std.proofs.lemmas.List.{take_rest}
use Rattle.paper.specs.Lists.{every}
use Rattle.paper.specs.Bytes.{lead, past, starts, same, before, behind, onto, parts_on, parts}
use Rattle.lines.specs.Reading.{Divides}
use Rattle.lines.proofs.Leads.{past_first}

-- ---- begins with

pub starts_all : (l : List ℕ) → starts [] l ≡ true
unfolding starts
starts_all l = refl

pub starts_short : (w l : List ℕ) → length l < length w → starts w l ≡ false
unfolding starts
starts_short [] l h = absurd (omega arith)
starts_short (a ∷ w) [] h = refl
starts_short (a ∷ w) (b ∷ l) h = go (eqb a b) (starts_short w l (omega arith))
  where
    go : (t : Bool) → starts w l ≡ false → (t && starts w l) ≡ false
    go true e = e
    go false e = refl

pub starts_long : (w l : List ℕ) → starts w l ≡ true → length w ≤ length l
unfolding starts
starts_long [] l h = omega arith
starts_long (a ∷ w) [] h = absurd (false≢true h)
starts_long (a ∷ w) (b ∷ l) h = go (eqb a b) h (starts_long w l)
  where
    go : (t : Bool) → (t && starts w l) ≡ true → (starts w l ≡ true → length w ≤ length l) → suc (length w) ≤ suc (length l)
    go true e f = let z = f e in omega arith
    go false e f = absurd (false≢true e)

pub starts_room : (w s : List ℕ) (i : ℕ) → i ≤ length s → starts w (drop i s) ≡ true → i + length w ≤ length s
starts_room w s i l h = let z = starts_long w (drop i s) h in omega (arith, simp length-drop at z)

starts_other : (a b : ℕ) (w l : List ℕ) → (a ≡ b → ⊥) → starts (a ∷ w) (b ∷ l) ≡ false
unfolding starts
starts_other a b w l h = rw (ne_eqb a b h) refl

-- the library's tests of slices
pub starts_is : (w s : List ℕ) (i : ℕ) → pointwise eqb w (take (length w) (take (length s - i) (drop i s))) ≡ starts w (drop i s)
unfolding starts
starts_is w s i = rw (take_rest s i) (go w (drop i s))
  where
    go : (w l : List ℕ) → pointwise eqb w (take (length w) l) ≡ starts w l
    go [] l = refl
    go (a ∷ w) [] = refl
    go (a ∷ w) (b ∷ l) = ap (λ t. eqb a b && t) (go w l)

pub same_is : (m w : List ℕ) → pointwise eqb m w ≡ same m w
unfolding same
same_is [] [] = refl
same_is [] (b ∷ w) = refl
same_is (a ∷ m) [] = refl
same_is (a ∷ m) (b ∷ w) = ap (λ t. eqb a b && t) (same_is m w)

-- ---- before, behind and between

pub every_append : (p : ℕ → Bool) (l : List ℕ) (b : ℕ) (m : List ℕ) → p b ≡ false → every p (l ++ b ∷ m) ≡ false
every_append p [] b m h = rw h refl
every_append p (a ∷ l) b m h = go (p a) (every_append p l b m h)
  where
    go : (t : Bool) → every p (l ++ b ∷ m) ≡ false → (t && every p (l ++ b ∷ m)) ≡ false
    go true e = e
    go false e = refl

-- bytes before the first of some parts
abbrev pub atop : List ℕ → List (List ℕ) → List (List ℕ)
atop [] ws = ws
atop (b ∷ l) ws = onto b (atop l ws)

pub atop_one : (l w : List ℕ) (ws : List (List ℕ)) → atop l (w ∷ ws) ≡ (l ++ w) ∷ ws
atop_one [] w ws = refl
atop_one (b ∷ l) w ws = ap (onto b) (atop_one l w ws)

pub append_none : (m : List ℕ) → m ++ [] ≡ m
append_none [] = refl
append_none (b ∷ m) = ap (λ r. b ∷ r) (append_none m)

module _ {p : ℕ → Bool} {sep : List ℕ} (d : Divides p sep) where
  pub divides_some : 1 ≤ length sep
  divides_some = rw d.is (omega arith)

  passed_over : (b : ℕ) (l : List ℕ) → p b ≡ true → starts sep (b ∷ l) ≡ false
  passed_over b l h = rw d.is (starts_other d.first b d.others l (λ e. true≢false (sym h ∙ ap p (sym e) ∙ d.out)))

  starts_none : starts sep [] ≡ false
  starts_none = rw d.is (starts_short (d.first ∷ d.others) [] (omega arith))

  pub before_lead : (l : List ℕ) → before sep l ≡ lead p l ++ before sep (past p l)
  unfolding before lead past
  before_lead [] = refl
  before_lead (b ∷ l) = go (p b) refl (before_lead l)
    where
      go : (t : Bool) → p b ≡ t → before sep l ≡ lead p l ++ before sep (past p l) → cond (starts sep (b ∷ l)) [] (b ∷ before sep l) ≡ cond t (b ∷ lead p l) [] ++ before sep (cond t (past p l) (b ∷ l))
      go true q e = rw (passed_over b l q) (ap (λ m. b ∷ m) e)
      go false q e = refl

  pub behind_past : (l : List ℕ) → behind sep l ≡ behind sep (past p l)
  unfolding behind past
  behind_past [] = refl
  behind_past (b ∷ l) = go (p b) refl (behind_past l)
    where
      go : (t : Bool) → p b ≡ t → behind sep l ≡ behind sep (past p l) → cond (starts sep (b ∷ l)) (drop (length sep) (b ∷ l)) (behind sep l) ≡ behind sep (cond t (past p l) (b ∷ l))
      go true q e = rw (passed_over b l q) e
      go false q e = refl

  pub parts_lead : (l : List ℕ) → parts sep l ≡ atop (lead p l) (parts sep (past p l))
  unfolding parts_on lead past
  parts_lead [] = refl
  parts_lead (b ∷ l) = go (p b) refl (parts_lead l)
    where
      go : (t : Bool) → p b ≡ t → parts sep l ≡ atop (lead p l) (parts sep (past p l)) → cond (starts sep (b ∷ l)) ([] ∷ parts_on sep (length sep - 1) l) (onto b (parts_on sep 0 l)) ≡ atop (cond t (b ∷ lead p l) []) (parts_on sep 0 (cond t (past p l) (b ∷ l)))
      go true q e = rw (passed_over b l q) (ap (onto b) e)
      go false q e = refl

  -- nothing behind the front
  pub before_none : (l : List ℕ) → past p l ≡ [] → before sep l ≡ lead p l
  unfolding before
  before_none l h = before_lead l ∙ rw h (append_none (lead p l))

  pub behind_none : (l : List ℕ) → past p l ≡ [] → behind sep l ≡ []
  unfolding behind
  behind_none l h = behind_past l ∙ rw h refl

  pub parts_none : (l : List ℕ) → past p l ≡ [] → parts sep l ≡ lead p l ∷ []
  unfolding parts_on
  parts_none l h = parts_lead l ∙ rw h (atop_one (lead p l) [] [] ∙ ap (λ m. m ∷ []) (append_none (lead p l)))

  -- the separator behind the front
  before_here : (l : List ℕ) → starts sep l ≡ true → before sep l ≡ []
  unfolding before
  before_here [] h = refl
  before_here (b ∷ l) h = rw h refl

  behind_here : (l : List ℕ) → starts sep l ≡ true → behind sep l ≡ drop (length sep) l
  unfolding behind
  behind_here [] h = absurd (true≢false (sym h ∙ starts_none))
  behind_here (b ∷ l) h = rw h refl

  pub skip : (k : ℕ) (l : List ℕ) → parts_on sep k l ≡ parts sep (drop k l)
  unfolding parts_on
  skip zero l = refl
  skip (suc k) [] = refl
  skip (suc k) (b ∷ l) = skip k l

  pub drop_sep : (b : ℕ) (l : List ℕ) → drop (length sep) (b ∷ l) ≡ drop (length sep - 1) l
  drop_sep b l = let z : length sep ≡ suc (length sep - 1) = rw d.is (omega arith) in ap (λ k. drop k (b ∷ l)) z

  parts_here : (l : List ℕ) → starts sep l ≡ true → parts sep l ≡ [] ∷ parts sep (drop (length sep) l)
  unfolding parts_on
  parts_here [] h = absurd (true≢false (sym h ∙ starts_none))
  parts_here (b ∷ l) h = rw h (ap (λ m. [] ∷ m) (skip (length sep - 1) l ∙ ap (parts sep) (sym (drop_sep b l))))

  pub before_cut : (l : List ℕ) → starts sep (past p l) ≡ true → before sep l ≡ lead p l
  before_cut l h = before_lead l ∙ ap (λ m. lead p l ++ m) (before_here (past p l) h) ∙ append_none (lead p l)

  pub behind_cut : (l : List ℕ) → starts sep (past p l) ≡ true → behind sep l ≡ drop (length sep) (past p l)
  behind_cut l h = behind_past l ∙ behind_here (past p l) h

  pub parts_cut : (l : List ℕ) → starts sep (past p l) ≡ true → parts sep l ≡ lead p l ∷ parts sep (drop (length sep) (past p l))
  parts_cut l h = parts_lead l ∙ ap (atop (lead p l)) (parts_here (past p l) h) ∙ atop_one (lead p l) [] (parts sep (drop (length sep) (past p l))) ∙ ap (λ m. m ∷ parts sep (drop (length sep) (past p l))) (append_none (lead p l))

  -- something else behind the front: it gets into the first part
  pub before_else : (l : List ℕ) (b : ℕ) (m : List ℕ) → past p l ≡ b ∷ m → starts sep (past p l) ≡ false → every p (before sep l) ≡ false
  unfolding before
  before_else l b m e h = rw (before_lead l) (go (past p l) e h)
    where
      go : (r : List ℕ) → r ≡ b ∷ m → starts sep r ≡ false → every p (lead p l ++ before sep r) ≡ false
      go [] q k = absurd (nil_cons q)
        where
          nil_cons : [] ≡ b ∷ m → ⊥
          nil_cons w = let z : ◌≡◌ {A = ℕ} 0 1 = cc in omega arith
      go (a ∷ r) q k = rw k (every_append p (lead p l) a (before sep r) (let z : a ≡ b = cc in rw z (past_first p l b m e)))

  -- the first part
  first_before : (l : List ℕ) → (ws : List (List ℕ)) × (parts sep l ≡ before sep l ∷ ws)
  unfolding parts_on before
  first_before [] = ([], refl)
  first_before (b ∷ l) = go (starts sep (b ∷ l)) (first_before l)
    where
      go : (t : Bool) → (ws : List (List ℕ)) × (parts sep l ≡ before sep l ∷ ws) → (ws : List (List ℕ)) × (cond t ([] ∷ parts_on sep (length sep - 1) l) (onto b (parts_on sep 0 l)) ≡ cond t [] (b ∷ before sep l) ∷ ws)
      go true w = (parts_on sep (length sep - 1) l, refl)
      go false w = (w.0, ap (onto b) w.1)

  pub rest_of : List ℕ → List (List ℕ)
  rest_of l = (first_before l).0

  pub parts_first : (l : List ℕ) → parts sep l ≡ before sep l ∷ rest_of l
  unfolding rest_of first_before
  parts_first l = (first_before l).1
