-- The contracts tell the answers: one side, one part, one place; and the part goes with the side.
-- Assumes nothing.
use mathlib.Core.Path.{◌≡◌, refl, sym, ap, ap₂, ◌∙◌, subst}
use mathlib.Core.Logic.{◌⊎◌, inl, inr}
use mathlib.Core.List.{List, [], ◌∷◌, ◌++◌, head-eq_of_cons-eq, tail-eq_of_cons-eq}
use Prim.Native.Nat.{ℕ, ◌+◌, ◌-◌}
use lib.ListN.{length, take, drop}
use Rattle.paper.specs.Limits.{limits}
use Rattle.paper.specs.Lists.{In}
use Rattle.paper.specs.Sets.{Set}
use Rattle.paper.specs.Order.{Before, Sorted}
use Rattle.paper.specs.Listing.{set_bytes, sets_bytes}
use Rattle.paper.specs.GoodListing.{Tells, Good}
use Rattle.paper.specs.Changes.{FirstSet, Shows}
use Rattle.algebra.proofs.Lists.{in_right}
use Rattle.algebra.proofs.Order.{before_irrefl, before_trans}
use Rattle.algebra.proofs.Listing.{sorted_once}
use Rattle.std.specs.Prelude.{Option, None, Some, Result, Ok, Err}
use Rattle.sidebyside.specs.Sided.{Fault}
use Rattle.sidebyside.specs.declared.Side.{Side}
use Rattle.sidebyside.specs.declared.Side.TheVariants.{Yesterday, Today}
use Rattle.sidebyside.proofs.Telling.{tells_once, good_once}
use Rattle.changes.specs.Answers.{Sides, Stretch, Part, Parted}

-- ---- the first set is one, and it stands at one place

before_asym : (S T : Set) → Before S T → Before T S → ⊥
before_asym S T a b = before_irrefl S (before_trans S T S a b)

first_twice : (S T : Set) (k l : List Set) → FirstSet S k l → FirstSet T k l → S ≡ T
first_twice S T k l f g = go (f.first T (inl g.only)) (g.first S (inl f.only))
  where
    go : (T ≡ S) ⊎ Before S T → (S ≡ T) ⊎ Before T S → S ≡ T
    go (inl e) q = sym e
    go (inr b) (inl e) = e
    go (inr b) (inr c) = absurd (before_asym S T b c)

first_cross : (S T : Set) (k l : List Set) → FirstSet S k l → FirstSet T l k → ⊥
first_cross S T k l f g = go (f.first T (inr g.only)) (g.first S (inr f.only))
  where
    same : T ≡ S → ⊥
    same e = g.only.1 (subst (λ (x : Set). In x k) (sym e) f.only.0)

    go : (T ≡ S) ⊎ Before S T → (S ≡ T) ⊎ Before T S → ⊥
    go (inl e) q = same e
    go (inr b) (inl e) = same (sym e)
    go (inr b) (inr c) = before_asym S T b c

front_once : (S : Set) (k m l p : List Set) → Sorted (k ++ (S ∷ m)) → k ++ (S ∷ m) ≡ l ++ (S ∷ p) → k ≡ l
front_once S [] m [] p o e = refl
front_once S [] m (x ∷ l) p o e =
    let q : S ≡ x = head-eq_of_cons-eq e in
    absurd (sorted_once S m o (subst (λ (z : List Set). In S z) (sym (tail-eq_of_cons-eq e)) (in_right S l (S ∷ p) (inl refl))))
front_once S (x ∷ k) m [] p o e =
    let q : x ≡ S = head-eq_of_cons-eq e in
    absurd (sorted_once x (k ++ (S ∷ m)) o (subst (λ (z : Set). In z (k ++ (S ∷ m))) (sym q) (in_right S k (S ∷ m) (inl refl))))
front_once S (x ∷ k) m (y ∷ l) p o e = ap₂ (λ (z : Set) (w : List Set). z ∷ w) (head-eq_of_cons-eq e) (front_once S k m l p o.1 (tail-eq_of_cons-eq e))

-- what is shown, of any lists that the bytes tell
pub align : {s u : List ℕ} {a e : ℕ} (w : Shows s u a e) (k l : List Set) → Tells s k → Tells u l → FirstSet w.set k l
align w k l p q = subst (λ (x : List Set). FirstSet w.set x l) (tells_once w.good.tells p)
    (subst (λ (x : List Set). FirstSet w.set w.good.sets x) (tells_once w.other.tells q) w.first)

shows_apart : {s u : List ℕ} {a e : ℕ} → Shows s u a e → s ≡ u → ⊥
shows_apart {s} {u} w e =
    let f = align w w.good.sets w.good.sets w.good.tells (subst (λ (x : List ℕ). Tells x w.good.sets) e w.good.tells) in
    f.only.1 f.only.0

shows_cross : {s u : List ℕ} {a e b d : ℕ} → Shows s u a e → Shows u s b d → ⊥
shows_cross v w = first_cross v.set w.set v.good.sets v.other.sets v.first (align w v.other.sets v.good.sets v.other.tells v.good.tells)

-- ONE PLACE
pub shows_once : {s u : List ℕ} {a e b d : ℕ} → Shows s u a e → Shows s u b d → (a ≡ b) × (e ≡ d)
shows_once v w =
    let same : v.set ≡ w.set = first_twice v.set w.set v.good.sets v.other.sets v.first (align w v.good.sets v.other.sets v.good.tells v.other.tells) in
    let parts : v.front ++ (v.set ∷ v.behind) ≡ w.front ++ (v.set ∷ w.behind)
    = sym v.parts ∙ good_once v.good w.good ∙ w.parts ∙ ap (λ (x : Set). w.front ++ (x ∷ w.behind)) (sym same) in
    let fronts = front_once v.set v.front v.behind w.front w.behind (subst Sorted v.parts v.good.tells.sorted) parts in
    let start = v.start ∙ ap (λ (x : List Set). length (sets_bytes limits.events x)) fronts ∙ sym w.start in
    (start, v.end ∙ ap₂ ◌+◌ start (ap (λ (x : Set). length (set_bytes limits.events x)) same) ∙ sym w.end)

-- ---- ONE SIDE

module _ (y t : List ℕ) where
  pub fault_once : (v w : Side) → Fault y t v → Fault y t w → v ≡ w
  fault_once Yesterday Yesterday p q = refl
  fault_once Yesterday Today p q = absurd (p q.0)
  fault_once Today Yesterday p q = absurd (q p.0)
  fault_once Today Today p q = refl

  -- what a fault refuses
  pub fault_bad : (v : Side) → Fault y t v → Good y → Good t → ⊥
  fault_bad Yesterday p g h = p g
  fault_bad Today p g h = p.1 h

  pub side_once : (v w : Result (Option Side) Side) → Sides y t v → Sides y t w → v ≡ w
  side_once (Ok None) (Ok None) p q = refl
  side_once (Ok None) (Err w) p q = absurd (fault_bad w q p.0 (subst Good p.1 p.0))
  side_once (Ok None) (Ok (Some Yesterday)) p (a, e, s) = absurd (shows_apart s p.1)
  side_once (Ok None) (Ok (Some Today)) p (a, e, s) = absurd (shows_apart s (sym p.1))
  side_once (Err v) (Ok None) p q = absurd (fault_bad v p q.0 (subst Good q.1 q.0))
  side_once (Err v) (Err w) p q = ap Err (fault_once v w p q)
  side_once (Err v) (Ok (Some Yesterday)) p (a, e, s) = absurd (fault_bad v p s.good s.other)
  side_once (Err v) (Ok (Some Today)) p (a, e, s) = absurd (fault_bad v p s.other s.good)
  side_once (Ok (Some Yesterday)) (Ok None) (a, e, s) q = absurd (shows_apart s q.1)
  side_once (Ok (Some Yesterday)) (Err w) (a, e, s) q = absurd (fault_bad w q s.good s.other)
  side_once (Ok (Some Yesterday)) (Ok (Some Yesterday)) p q = refl
  side_once (Ok (Some Yesterday)) (Ok (Some Today)) (a, e, s) (b, d, r) = absurd (shows_cross s r)
  side_once (Ok (Some Today)) (Ok None) (a, e, s) q = absurd (shows_apart s (sym q.1))
  side_once (Ok (Some Today)) (Err w) (a, e, s) q = absurd (fault_bad w q s.other s.good)
  side_once (Ok (Some Today)) (Ok (Some Yesterday)) (a, e, s) (b, d, r) = absurd (shows_cross s r)
  side_once (Ok (Some Today)) (Ok (Some Today)) p q = refl

  -- THE PART GOES WITH THE SIDE that the other call answers
  pub part_of_lem : (part : List ℕ) (v : Result (Option Side) Side) → Part y t part → Sides y t v → Parted y t part v
  part_of_lem part v p s = subst (λ (x : Result (Option Side) Side). Parted y t part x) (side_once p.side v p.sides s) p.is

  -- ONE PART
  pub part_once : (p q : List ℕ) → Part y t p → Part y t q → p ≡ q
  part_once p q a b = go b.side (part_of_lem p b.side a b.sides) b.is
    where
      stretch : {s u : List ℕ} → Stretch s u p → Stretch s u q → p ≡ q
      stretch {s} v w = let (c, d) = shows_once v.shows w.shows in v.is ∙ ap₂ (λ (i j : ℕ). take (j - i) (drop i s)) c d ∙ sym w.is

      go : (v : Result (Option Side) Side) → Parted y t p v → Parted y t q v → p ≡ q
      go (Ok None) u w = u ∙ sym w
      go (Err s) u w = u ∙ sym w
      go (Ok (Some Yesterday)) u w = stretch u w
      go (Ok (Some Today)) u w = stretch u w
