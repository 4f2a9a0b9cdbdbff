-- What was collected has a number, and the lists of a text have its names.
-- Assumes nothing.
use mathlib.Core.Path.{◌≡◌, refl, sym, ap, ◌∙◌}
use mathlib.Core.Bool.{Bool, true, false, cond, ◌||◌, true≢false, false≢true}
use Rattle.std.specs.Prelude.{Option, Some, None, IsSome}
use mathlib.Core.List.{List, [], ◌∷◌, ◌++◌}
use Prim.Native.Nat.{ℕ, ◌<◌}
use native.Mathlib.Omega.{arith}
use lib.ListN.{get_or, length}
use Rattle.paper.specs.Lists.{every}
use Rattle.paper.specs.Bytes.{same}
use Rattle.paper.specs.Texts.{lines_of}
use Rattle.paper.specs.Equations.{has, with, number_of, collect, dict_in, name_in}
use Rattle.lines.specs.Reading.{name_at}
use Rattle.names.specs.Interning.{Hit, Missed, Sought}
use Rattle.scanning.specs.Scanning.{Gathered}
use Rattle.lines.proofs.Tests.{and_first, and_second}
use Rattle.names.proofs.Dicts.{same_self, has_not, has_at, dict_long, dict_at}
use Rattle.names.proofs.Interning.{old_number}

or_true : (t : Bool) → (t || true) ≡ true
or_true true = refl
or_true false = refl

has_left : (w : List ℕ) (D E : List (List ℕ)) → has w D ≡ true → has w (D ++ E) ≡ true
unfolding has
has_left w [] E h = absurd (false≢true h)
has_left w (v ∷ D) E h = go (same w v) h (has_left w D E)
  where
    go : (t : Bool) → (t || has w D) ≡ true → (has w D ≡ true → has w (D ++ E) ≡ true) → (t || has w (D ++ E)) ≡ true
    go true q f = refl
    go false q f = f q

has_last : (w : List ℕ) (D : List (List ℕ)) → has w (D ++ (w ∷ [])) ≡ true
unfolding has
has_last w [] = rw (same_self w) refl
has_last w (v ∷ D) = rw (has_last w D) (or_true (same w v))

has_more : (w v : List ℕ) (D : List (List ℕ)) → has w D ≡ true → has w (with D v) ≡ true
unfolding with
has_more w v D h = go (has v D)
  where
    go : (t : Bool) → has w (cond t D (D ++ (v ∷ []))) ≡ true
    go true = h
    go false = has_left w D (v ∷ []) h

has_with : (w : List ℕ) (D : List (List ℕ)) → has w (with D w) ≡ true
unfolding with
has_with w D = go (has w D) refl
  where
    go : (t : Bool) → has w D ≡ t → has w (cond t D (D ++ (w ∷ []))) ≡ true
    go true h = h
    go false h = has_last w D

has_collect : (w : List ℕ) (D ws : List (List ℕ)) → has w D ≡ true → has w (collect D ws) ≡ true
has_collect w D [] h = h
has_collect w D (v ∷ ws) h = has_collect w (with D v) ws (has_more w v D h)

pub collect_has : (D ws : List (List ℕ)) → every (λ w. has w (collect D ws)) ws ≡ true
collect_has D [] = refl
collect_has D (w ∷ ws) = rw (has_collect w (with D w) ws (has_with w D)) (collect_has (with D w) ws)

pub every_left : {A : Type 0} (p : A → Bool) (a b : List A) → every p (a ++ b) ≡ true → every p a ≡ true
every_left p [] b h = refl
every_left p (x ∷ a) b h = rw (and_first (p x) (every p (a ++ b)) h) (every_left p a b (and_second (p x) (every p (a ++ b)) h))

pub every_right : {A : Type 0} (p : A → Bool) (a b : List A) → every p (a ++ b) ≡ true → every p b ≡ true
every_right p [] b h = h
every_right p (x ∷ a) b h = every_right p a b (and_second (p x) (every p (a ++ b)) h)

-- ---- the names of a text

module _ {text N H X : List ℕ} {c : ℕ} (g : Gathered text N H X c) where
  pub count_in : length (dict_in (lines_of text)) ≡ c
  count_in = ap length (sym g.dict) ∙ dict_long text N c g.store.room

  -- THE NAME with number n stands at the place that N has for it
  pub name_in_lem : (n : ℕ) → n < c → name_at text (get_or N n 0) ≡ name_in (lines_of text) n
  name_in_lem n h = sym (dict_at text N c g.store.room n h) ∙ ap (λ D. get_or D n []) g.dict

  -- a name of the text is found
  pub sought_none : {w : List ℕ} → Missed text N c w → has w (dict_in (lines_of text)) ≡ false
  sought_none {w} s =
      let long = count_in in
      has_not w (dict_in (lines_of text)) (λ k l x. s.none k (omega arith) (name_in_lem k (omega arith) ∙ x))

  pub sought_some : (w : List ℕ) (o : Option ℕ) → Sought text N c w o → has w (dict_in (lines_of text)) ≡ true → IsSome o
  sought_some w (Some r) s h = refl
  sought_some w None s h = absurd (true≢false (sym h ∙ sought_none s))

  module _ {w : List ℕ} {r : ℕ} (s : Hit text N c w r) where
    pub sought_name : name_in (lines_of text) r ≡ w
    sought_name = sym (name_in_lem r s.below) ∙ s.name

    pub sought_has : has w (dict_in (lines_of text)) ≡ true
    sought_has = let long = count_in in has_at w (dict_in (lines_of text)) r (omega (arith, s.below)) sought_name

    -- no other number has that name
    pub sought_only : (k : ℕ) → k < c → name_in (lines_of text) k ≡ w → k ≡ r
    sought_only k l e = g.store.unique k r l s.below (name_in_lem k l ∙ e ∙ sym s.name)

    pub sought_number : r ≡ number_of w (dict_in (lines_of text))
    sought_number = old_number g.store s ∙ ap (number_of w) g.dict
