-- TWO OUTCOMES COINCIDE: each of the two contracts allows one outcome.
-- Assumes nothing.
use mathlib.Core.Path.{◌≡◌, refl, sym, ap, ◌∙◌, subst}
use mathlib.Core.Logic.{inl}
use mathlib.Core.Bool.{Bool, true, false}
use mathlib.Core.List.{List, [], ◌∷◌}
use Prim.Native.Nat.{ℕ}
use native.Mathlib.Omega.{arith}
use lib.ListN.{get_or}
use lib.Seq.{ext_get_or}
use Rattle.paper.specs.Lists.{In}
use Rattle.paper.specs.Sets.{Set}
use Rattle.paper.specs.Planner.{misses, remaining, FirstMissing}
use Rattle.algebra.proofs.Base.{three, Three, below, beyond, equal}
use Rattle.algebra.proofs.Lists.{keep_in}
use Rattle.sets.specs.Words.{words, set_of, Array}
use Rattle.sets.proofs.Words.{words_same}
use Rattle.remaining.specs.Families.{family}
use Rattle.remaining.specs.FirstCut.{Refused, Finds, Searched, Missing}
use Rattle.remaining.specs.Tallies.{Fits, TooMany, Unwritten, Stopped, Tallied, Summed, Holding}

-- ---- the first cut that misses a set

-- it is one of the cuts
pub first_in : {n : ℕ} {K : Set} {l : List Set} {T : Set} → FirstMissing n K l T → In T l × (misses n K T ≡ true)
first_in {n} {K} {l} {T} f = keep_in (misses n K) T l (subst (In T) (sym f.is) (inl refl))

-- there is none where none remains
pub first_none : {n : ℕ} {K : Set} {l : List Set} {T : Set} → FirstMissing n K l T → remaining n K l ≡ [] → ⊥
first_none {T = T} f q = subst (In T) q (subst (In T) (sym f.is) (inl refl))

head_or : Set → List Set → Set
head_or S [] = S
head_or S (x ∷ l) = x

-- and one only
pub first_once : {n : ℕ} {K : Set} {l : List Set} {S T : Set} → FirstMissing n K l S → FirstMissing n K l T → S ≡ T
unfolding head_or
first_once {n} {K} {l} {S} {T} f g = ap (head_or S) (sym f.is ∙ g.is)

-- all that the search answers and leaves
pub record Found : Type 0 where
  pub number : ℕ
  pub place : ℕ
  pub found : Bool
  pub cut : List ℕ
  pub area : List ℕ

-- an outcome that the contract allows, of an array of words
pub record Allowed (n : ℕ) (T : List ℕ) (c root : ℕ) (ws W : List ℕ) (x : Found) : Type 0 where
  pub array : Array words x.cut
  pub answer : Missing n T c root ws x.number x.place x.found x.cut W x.area

module _ (x y : Found) where
  same_found : x.number ≡ y.number → x.place ≡ y.place → x.found ≡ y.found → x.cut ≡ y.cut → x.area ≡ y.area → x ≡ y
  same_found p q r s t = λ i. record { number = p i; place = q i; found = r i; cut = s i; area = t i }

  refused_once : (why : ℕ) (W : List ℕ) → Refused why x.number x.place x.found x.cut W x.area → Refused why y.number y.place y.found y.cut W y.area → x ≡ y
  refused_once why W p q =
      same_found (p.number_is ∙ sym q.number_is) (p.no_place ∙ sym q.no_place) (p.not_found ∙ sym q.not_found) (p.empty_set ∙ sym q.empty_set) (p.area ∙ sym q.area)

  module _ (n : ℕ) (K : Set) (l : List Set) (a : Array words x.cut) (b : Array words y.cut) where
    finds_once : (f g : Bool) → Finds n K l f x.cut → Finds n K l g y.cut → (f ≡ g) × (x.cut ≡ y.cut)
    finds_once true true p q = (refl, words_same a b (first_once p q))
    finds_once true false p q = absurd (first_none p q.0)
    finds_once false true p q = absurd (first_none q p.0)
    finds_once false false p q = (refl, p.1 ∙ sym q.1)

    searched_once : (W : List ℕ) → Searched n K l x.number x.place x.found x.cut W x.area → Searched n K l y.number y.place y.found y.cut W y.area → x ≡ y
    searched_once W p q =
        let (f, e) = finds_once x.found y.found p.finds q.finds in
        same_found (p.number_is ∙ sym q.number_is) (p.no_place ∙ sym q.no_place) f e (p.area ∙ sym q.area)

  module _ {n : ℕ} {T : List ℕ} {c root : ℕ} {ws W : List ℕ} (a : Array words x.cut) (b : Array words y.cut) where
    go : Missing n T c root ws x.number x.place x.found x.cut W x.area → Missing n T c root ws y.number y.place y.found y.cut W y.area → x ≡ y
    go (Missing.no_diagram h p) (Missing.no_diagram k q) = refused_once 12 W p q
    go (Missing.no_diagram h p) (Missing.too_short v k q) = absurd (h v)
    go (Missing.no_diagram h p) (Missing.beyond v r k q) = absurd (h v)
    go (Missing.no_diagram h p) (Missing.searched v r k q) = absurd (h v)
    go (Missing.too_short v h p) (Missing.no_diagram k q) = absurd (k v)
    go (Missing.too_short v h p) (Missing.too_short w k q) = refused_once 9 W p q
    go (Missing.too_short v h p) (Missing.beyond w r k q) = absurd (h r)
    go (Missing.too_short v h p) (Missing.searched w r k q) = absurd (h r)
    go (Missing.beyond v r h p) (Missing.no_diagram k q) = absurd (k v)
    go (Missing.beyond v r h p) (Missing.too_short w k q) = absurd (k r)
    go (Missing.beyond v r h p) (Missing.beyond w s k q) = refused_once 13 W p q
    go (Missing.beyond v r h p) (Missing.searched w s k q) = absurd (k h)
    go (Missing.searched v r h p) (Missing.no_diagram k q) = absurd (k v)
    go (Missing.searched v r h p) (Missing.too_short w k q) = absurd (k r)
    go (Missing.searched v r h p) (Missing.beyond w s k q) = absurd (h k)
    go (Missing.searched v r h p) (Missing.searched w s k q) = searched_once n (set_of ws) (family T root) a b W p q

pub first_missing_once : {n : ℕ} {T : List ℕ} {c root : ℕ} {ws W : List ℕ} {x y : Found} → Allowed n T c root ws W x → Allowed n T c root ws W y → x ≡ y
first_missing_once {x = x} {y} p q = go x y p.array q.array p.answer q.answer

-- ---- the counting

-- 19 EXACTLY: each count can be answered, or some can't
pub both_sides : {n : ℕ} {K : Set} (l : List Set) → Fits n K l → TooMany n K l → ⊥
both_sides l f t = let a = f t.event t.inside in let b = t.larger in omega (arith, a, b)

pub record Same (number place number' place' : ℕ) (C B W C' B' W' : List ℕ) : Type 0 where
  pub number_same : number ≡ number'
  pub place_same : place ≡ place'
  pub counts_same : C ≡ C'
  pub below_same : B ≡ B'
  pub ways_same : W ≡ W'

module _ {number place number' place' : ℕ} {C B W C₁ B₁ W₁ C₂ B₂ W₂ : List ℕ} where
  same_unwritten : {why : ℕ} → Unwritten why number place C B W C₁ B₁ W₁ → Unwritten why number' place' C B W C₂ B₂ W₂ → Same number place number' place' C₁ B₁ W₁ C₂ B₂ W₂
  same_unwritten r s = record {
    number_same = r.number_is ∙ sym s.number_is;
    place_same = r.no_place ∙ sym s.no_place;
    counts_same = r.counts ∙ sym s.counts;
    below_same = r.below ∙ sym s.below;
    ways_same = r.ways ∙ sym s.ways;
  }

  same_stopped : Stopped number place C B W C₁ B₁ W₁ → Stopped number' place' C B W C₂ B₂ W₂ → Same number place number' place' C₁ B₁ W₁ C₂ B₂ W₂
  same_stopped r s = record {
    number_same = r.number_is ∙ sym s.number_is;
    place_same = r.no_place ∙ sym s.no_place;
    counts_same = r.counts ∙ sym s.counts;
    below_same = r.below ∙ sym s.below;
    ways_same = r.ways ∙ sym s.ways;
  }

  same_tallied : {n : ℕ} {K : Set} {l : List Set} → Tallied n K l number place C B W C₁ B₁ W₁ → Tallied n K l number' place' C B W C₂ B₂ W₂
      → Same number place number' place' C₁ B₁ W₁ C₂ B₂ W₂
  same_tallied {n} r s = record {
    number_same = r.number_is ∙ sym s.number_is;
    place_same = r.no_place ∙ sym s.no_place;
    counts_same = ext_get_or 0 C₁ C₂ (r.long ∙ sym s.long) (λ i _. at i (three i n));
    below_same = r.below ∙ sym s.below;
    ways_same = r.ways ∙ sym s.ways;
  }
    where
      at : (i : ℕ) → Three i n → get_or C₁ i 0 ≡ get_or C₂ i 0
      at i (below h _) = r.counts i h ∙ sym (s.counts i h)
      at i (beyond h _ _) = r.behind i (omega (arith, h)) ∙ sym (s.behind i (omega (arith, h)))
      at i (equal h _ _) = r.behind i (omega (arith, h)) ∙ sym (s.behind i (omega (arith, h)))

  same_summed : {n : ℕ} {K : Set} {l : List Set} → Summed n K l number place C B W C₁ B₁ W₁ → Summed n K l number' place' C B W C₂ B₂ W₂ → Same number place number' place' C₁ B₁ W₁ C₂ B₂ W₂
  same_summed (Summed.over t r) (Summed.over u s) = same_stopped r s
  same_summed {l = l} (Summed.over t r) (Summed.exact f s) = absurd (both_sides l f t)
  same_summed {l = l} (Summed.exact f r) (Summed.over u s) = absurd (both_sides l f u)
  same_summed (Summed.exact f r) (Summed.exact g s) = same_tallied r s

  pub holding_once : {n : ℕ} {T : List ℕ} {c root : ℕ} {ws : List ℕ} → Holding n T c root ws number place C B W C₁ B₁ W₁ → Holding n T c root ws number' place' C B W C₂ B₂ W₂
      → Same number place number' place' C₁ B₁ W₁ C₂ B₂ W₂
  holding_once (Holding.no_diagram h p) (Holding.no_diagram k q) = same_unwritten p q
  holding_once (Holding.no_diagram h p) (Holding.too_short v k q) = absurd (h v)
  holding_once (Holding.no_diagram h p) (Holding.beyond v r k q) = absurd (h v)
  holding_once (Holding.no_diagram h p) (Holding.summed v r k q) = absurd (h v)
  holding_once (Holding.too_short v h p) (Holding.no_diagram k q) = absurd (k v)
  holding_once (Holding.too_short v h p) (Holding.too_short w k q) = same_unwritten p q
  holding_once (Holding.too_short v h p) (Holding.beyond w r k q) = absurd (h r)
  holding_once (Holding.too_short v h p) (Holding.summed w r k q) = absurd (h r)
  holding_once (Holding.beyond v r h p) (Holding.no_diagram k q) = absurd (k v)
  holding_once (Holding.beyond v r h p) (Holding.too_short w k q) = absurd (k r)
  holding_once (Holding.beyond v r h p) (Holding.beyond w s k q) = same_unwritten p q
  holding_once (Holding.beyond v r h p) (Holding.summed w s k q) = absurd (k h)
  holding_once (Holding.summed v r h p) (Holding.no_diagram k q) = absurd (k v)
  holding_once (Holding.summed v r h p) (Holding.too_short w k q) = absurd (k r)
  holding_once (Holding.summed v r h p) (Holding.beyond w s k q) = absurd (h k)
  holding_once (Holding.summed v r h p) (Holding.summed w s k q) = same_summed p q
