-- A cut's members are all in a set exactly if the cut is a part of it; so what the search finds is what the contract says, of sets.
-- Assumes nothing.
use mathlib.Core.Path.{◌≡◌, refl, sym, ap, ap₂, ◌∙◌, subst}
use mathlib.Core.Logic.{◌⊎◌, inl, inr, ◌↔◌}
use mathlib.Core.Bool.{Bool, true, false, ◌&&◌, false≢true}
use mathlib.Core.List.{List, [], ◌∷◌, map}
use Prim.Native.Nat.{ℕ}
use native.Mathlib.Decide.{ℕ_discrete}
use Rattle.paper.specs.Lists.{In, every}
use Rattle.paper.specs.Sets.{Set, of_events, Part}
use Rattle.paper.specs.Answers.{Beyond}
use Rattle.sets.specs.Words.{set_of}
use Rattle.algebra.proofs.CutCount.{and_both}
use Rattle.algebra.proofs.Lists.{in_map, map_in}
use Rattle.sidebyside.proofs.Sets.{of_own, of_other}
use Rattle.sidebyside.proofs.Telling.{held_tells}
use Rattle.sidebyside.proofs.Judge.{either, or_left, or_right}
use Rattle.decision.specs.Answers.{ContainsOne, Refused, Decides}
use Rattle.decision.specs.Searching.{any_in, Looked}

-- ---- one cut

pub every_part : (es : List ℕ) (S : Set) → every S es ≡ true → Part (of_events es) S
unfolding of_events
every_part [] S h i q = absurd (false≢true q)
every_part (e ∷ es) S h i q = go (ℕ_discrete i e) (every_part es S (and_both (S e) (every S es) h).1 i)
  where
    go : Dec (i ≡ e) → (of_events es i ≡ true → S i ≡ true) → S i ≡ true
    go (yes p) r = ap S p ∙ (and_both (S e) (every S es) h).0
    go (no p) r = r (sym (of_other e es i p) ∙ q)

pub part_every : (es : List ℕ) (S : Set) → Part (of_events es) S → every S es ≡ true
part_every [] S h = refl
part_every (e ∷ es) S h = ap₂ ◌&&◌ (h e (of_own e es)) (part_every es S (λ i q. h i (more i q (ℕ_discrete i e))))
  where
    more : (i : ℕ) → of_events es i ≡ true → Dec (i ≡ e) → of_events (e ∷ es) i ≡ true
    more i q (yes p) = ap (of_events (e ∷ es)) p ∙ of_own e es
    more i q (no p) = of_other e es i p ∙ q

-- ---- some cut of a list

module _ (S : Set) where
  any_in_lem : (cs : List (List ℕ)) → any_in cs S ≡ true → (c : List ℕ) × In c cs × (every S c ≡ true)
  unfolding any_in
  any_in_lem [] h = absurd (false≢true h)
  any_in_lem (c ∷ cs) h = go (either (every S c) (any_in cs S) h) (any_in_lem cs)
    where
      go : (every S c ≡ true) ⊎ (any_in cs S ≡ true) → (any_in cs S ≡ true → (d : List ℕ) × In d cs × (every S d ≡ true)) → (d : List ℕ) × In d (c ∷ cs) × (every S d ≡ true)
      go (inl p) r = (c, inl refl, p)
      go (inr p) r = let (d, k, q) = r p in (d, inr k, q)

  in_any : (cs : List (List ℕ)) (c : List ℕ) → In c cs → every S c ≡ true → any_in cs S ≡ true
  unfolding any_in
  in_any [] c k q = elim k [ ]
  in_any (d ∷ cs) c (inl e) q = or_left (every S d) (any_in cs S) (ap (every S) (sym e) ∙ q)
  in_any (d ∷ cs) c (inr k) q = or_right (every S d) (any_in cs S) (in_any cs c k q)

  -- THE TEST is the definition, of cuts as lists of members
  pub any_contains : (cs : List (List ℕ)) → (any_in cs S ≡ true) ↔ ContainsOne (map of_events cs) S
  any_contains cs = (
    (λ h. let (c, k, q) = any_in_lem cs h in (of_events c, in_map of_events c cs k, every_part c S q)),
    (λ (T, k, p). let (c, j, e) = map_in of_events T cs k in in_any cs c j (part_every c S (subst (λ (x : Set). Part x S) e p))),
  )

-- ---- the answer

pub refused_now : (m : ℕ) → Refused m m 0 false
refused_now m = record { is = refl; no_place = refl; unsaid = refl }

-- what the search of the cuts found is said
pub decided_now : {bytes : List ℕ} {n : ℕ} {ws : List ℕ} {b : Bool} → Looked bytes (set_of ws) b → (Beyond n (set_of ws) → ⊥) → Decides bytes n ws 0 0 b
decided_now {ws = ws} g h =
    let (to, back) = any_contains (set_of ws) g.cuts in
    Decides.decided _ (held_tells g.held) h (record { is = refl; no_place = refl; says = ((λ e. to (sym g.is ∙ e)), λ c. g.is ∙ back c) })
