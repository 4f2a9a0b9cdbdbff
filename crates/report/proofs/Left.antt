-- What is left of a sorted list after the sets of a call comes after the last of them.
-- Assumes nothing.
use mathlib.Core.Path.{◌≡◌, refl, sym, ap, ◌∙◌, subst}
use mathlib.Core.Logic.{inl}
use mathlib.Core.Bool.{Bool, true, false}
use mathlib.Core.List.{List, [], ◌∷◌, ◌++◌, append_assoc}
use Prim.Native.Nat.{ℕ, ◌≤◌}
use Rattle.paper.specs.Lists.{In, last_or}
use Rattle.paper.specs.Sets.{Set, none}
use Rattle.paper.specs.Order.{Before, Sorted, behind, rest, from_start}
use Rattle.paper.specs.Answers.{Beyond}
use Rattle.algebra.proofs.Lists.{in_right, in_keep, keep_in}
use Rattle.algebra.proofs.Listing.{behind_law, rest_suffix, rest_after}
use Rattle.sets.specs.Words.{set_of}
use Rattle.listing.specs.Answers.{start_of, GoodStart}

-- q is what comes after L
pub record Left (n : ℕ) (all : List Set) (L : Set) (q : List Set) : Type 0 where
  pub hi : (i : ℕ) → n ≤ i → L i ≡ false
  pub is : rest n L all ≡ q

-- the last of some sets stands at their end
last_split : (b S : Set) (p : List Set) → (q : List Set) × ((S ∷ p) ≡ q ++ (last_or b (S ∷ p) ∷ []))
last_split b S [] = ([], refl)
last_split b S (U ∷ p) = let ih = last_split S U p in (S ∷ ih.0, ap (λ (x : List Set). S ∷ x) ih.1)

within_set : (n : ℕ) (ws : List ℕ) → (Beyond n (set_of ws) → ⊥) → (i : ℕ) → n ≤ i → set_of ws i ≡ false
within_set n ws h i l = go (set_of ws i) refl
  where
    go : (b : Bool) → set_of ws i ≡ b → set_of ws i ≡ false
    go true e = absurd (h (record { event = i; above = l; is = e }))
    go false e = e

module _ (n : ℕ) (all : List Set) (sorted : Sorted all) (within : (S : Set) → In S all → (i : ℕ) → n ≤ i → S i ≡ false) (begin : Bool) (ws : List ℕ) (ok : GoodStart n begin ws) where
  before : (b : Bool) → begin ≡ b → (p : List Set) × (all ≡ p ++ from_start b n (set_of ws) all)
  before true e = ([], refl)
  before false e = rest_suffix n (set_of ws) (within_set n ws (ok e)) all sorted

  left_start : (b : Bool) → begin ≡ b → (q : List Set) → from_start b n (set_of ws) all ≡ q → q ≡ [] → Left n all (start_of b ws) q
  left_start true e q l z = record { hi = λ i _. refl; is = ap (rest n none) (l ∙ z) ∙ sym z }
  left_start false e q l z = record { hi = within_set n ws (ok e); is = l }

  pub left_of : (w q : List Set) → from_start begin n (set_of ws) all ≡ w ++ q → (w ≡ [] → q ≡ []) → Left n all (last_or (start_of begin ws) w) q
  left_of [] q e some = left_start begin refl q e (some refl)
  left_of (S ∷ w) q e some =
      let p = before begin refl in
      let s = last_split (start_of begin ws) S w in
      let L = last_or (start_of begin ws) (S ∷ w) in
      let there : all ≡ (p.0 ++ s.0) ++ (L ∷ q) =
      p.1 ∙ ap (λ (x : List Set). p.0 ++ x) (e ∙ ap (λ (x : List Set). x ++ q) s.1 ∙ append_assoc s.0 (L ∷ []) q) ∙ sym (append_assoc p.0 s.0 (L ∷ q)) in
      let in_it : In L all = subst (In L) (sym there) (in_right L (p.0 ++ s.0) (L ∷ q) (inl refl)) in
      let hi : (i : ℕ) → n ≤ i → L i ≡ false = within L in_it in
      record { hi = hi; is = ap (rest n L) there ∙ rest_after n L hi (p.0 ++ s.0) q (subst Sorted there sorted) }

-- nothing is left exactly if no set comes after
module _ {n : ℕ} {all : List Set} {L : Set} {q : List Set} (l : Left n all L q) where
  pub some_left : q ≡ [] → (T : Set) → In T all → Before L T → ⊥
  some_left z T k b = subst (In T) (l.is ∙ z) (in_keep (behind n 0 L) T all k ((behind_law n L T l.hi).1 b))

  pub none_left : ((T : Set) → In T all → Before L T → ⊥) → q ≡ []
  none_left none = go q refl
    where
      go : (x : List Set) → q ≡ x → q ≡ []
      go [] z = z
      go (T ∷ r) z =
          let k = keep_in (behind n 0 L) T all (subst (In T) (sym (l.is ∙ z)) (inl refl)) in
          absurd (none T k.0 ((behind_law n L T l.hi).0 k.1))
