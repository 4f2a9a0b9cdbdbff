-- A ring that the walk shows: its names are defined, and the places of their lines are a ring shown.
-- Assumes nothing.
use mathlib.Core.Path.{◌≡◌, refl, sym, ap, ◌∙◌, subst}
use mathlib.Core.Logic.{inl, inr}
use mathlib.Core.Bool.{false, not, true≢false}
use mathlib.Core.List.{List, [], ◌∷◌, ◌++◌, map}
use Prim.Native.Nat.{ℕ, zero, suc, ◌+◌, ◌-◌, ◌<◌, ◌≤◌}
use native.Mathlib.Numerals.{add-one}
use native.Mathlib.Omega.{arith}
use lib.ListN.{get_or, length, take, drop, set, replicate, length-set}
use lib.Seq.{slice, length-slice, length-take-le, take-suc, drop-append-le, get_or-drop, get_or-take}
use Rattle.paper.specs.Lists.{In}
use Rattle.paper.specs.Texts.{lines_of}
use Rattle.paper.specs.Equations.{inputs_in, positive}
use Rattle.paper.specs.Walks.{Steps, Ring, LeadsBack, is_event}
use Rattle.paper.specs.Importing.{Says, a_ring}
use Rattle.records.specs.Judge.{◌▷◌}
use Rattle.records.specs.Memory.{pad}
use Rattle.records.proofs.Lists.{map_length, map_append}
use Rattle.records.proofs.Pad.{pad_fill}
use Rattle.scanning.proofs.Sites.{event_site}
use Rattle.depthfirst.specs.Answers.{Shown}
use Rattle.depthfirst.proofs.Lists.{slice_none, place_in_lem}
use Rattle.depthfirst.proofs.Answers.{shown_below, ring_said, back_said}
use Rattle.equations.specs.Contract.{ShowsRing}
use Rattle.equations.specs.Knowing.{Blank, Known}
use Rattle.equations.specs.Showing.{lines_at, RingAt}

-- ---- maps and parts

pub map_same : {A : Type 0} {f h : ℕ → A} (l : List ℕ) → ((x : ℕ) → In x l → f x ≡ h x) → map f l ≡ map h l
map_same [] k = refl
map_same (x ∷ l) k = λ i. k x (inl refl) i ∷ map_same l (λ y j. k y (inr j)) i

slice_more : (a i : ℕ) (K : List ℕ) → a ≤ i → i < length K → slice a (i + 1) K ≡ slice a i K ++ (get_or K i 0 ∷ [])
slice_more a i K h l =
    let s : a ≤ length (take i K) = omega (arith, length-take-le i K (omega arith)) in
    ap (λ k. drop a (take k K)) (add-one i) ∙ ap (drop a) (take-suc K i 0 l) ∙ drop-append-le a (take i K) (get_or K i 0 ∷ []) s

in_slice : (a e i : ℕ) (K : List ℕ) → a ≤ i → i < e → e ≤ length K → In (get_or K i 0) (slice a e K)
in_slice a e i K h l s =
    let q : a + (i - a) ≡ i = omega arith in
    let k : i - a < length (slice a e K) = omega (arith, length-slice a e K s) in
    let at : get_or (slice a e K) (i - a) 0 ≡ get_or K i 0 = get_or-drop a (take e K) (i - a) 0 ∙ ap (λ j. get_or (take e K) j 0) q ∙ get_or-take e K i 0 l in
    subst (λ z. In z (slice a e K)) at (place_in_lem (slice a e K) (i - a) k)

pub blank_pad : {R : List ℕ} → Blank R → R ≡ pad (length R) 0 []
unfolding pad
blank_pad {R} b = let q : length R - 0 ≡ length R = omega arith in subst (λ k. R ≡ replicate k 0) (sym q) b

-- ---- the loop that shows a ring

-- the names before place i are shown
pub record RingSoFar (K : List ℕ) (a e : ℕ) (F R : List ℕ) (i : ℕ) (R' : List ℕ) : Type 0 where
  pub from : a ≤ i
  pub to : i ≤ e
  pub is : R' ≡ pad (length R) 0 (lines_at F (slice a i K))
  pub long : length R' ≡ length R

module _ {K : List ℕ} {a e : ℕ} {F R : List ℕ} (p : RingAt K a e F R) where
  pub ring_none : RingSoFar K a e F R a R
  unfolding lines_at
  ring_none = record {
    from = omega arith;
    to = p.from;
    is = blank_pad p.blank ∙ ap (λ l. pad (length R) 0 (map (λ n. get_or F n 0 - 1) l)) (sym (slice_none a a K (omega arith)));
    long = refl;
  }

  module _ {i : ℕ} {R' : List ℕ} (s : RingSoFar K a e F R i R') (l : i < e) where
    pub ring_inside : i < length K
    ring_inside = omega (arith, p.inside)

    pub ring_room : i - a < length R'
    ring_room = omega (arith, p.room, s.long)

    pub ring_name : {n : ℕ} → n ≡ get_or K i 0 → n < length F
    ring_name q = subst (λ z. z < length F) (sym q) (p.defined i s.from l).0

    pub ring_defined : {n : ℕ} → n ≡ get_or K i 0 → 1 ≤ get_or F n 0
    ring_defined q = subst (λ z. 1 ≤ get_or F z 0) (sym q) (p.defined i s.from l).1

    pub ring_next : {n k : ℕ} → n ≡ get_or K i 0 → k ≡ i - a → RingSoFar K a e F R (i + 1) (set R' k (get_or F n 0 - 1))
    unfolding lines_at
    ring_next {n} {k} q r =
        let size : length (map (λ m. get_or F m 0 - 1) (slice a i K)) ≡ k
        = map_length (λ m. get_or F m 0 - 1) (slice a i K) ∙ length-slice a i K (omega (arith, p.inside)) ∙ sym r in
        let more : map (λ m. get_or F m 0 - 1) (slice a (i + 1) K) ≡ ◌▷◌ (map (λ m. get_or F m 0 - 1) (slice a i K)) (get_or F n 0 - 1)
        = ap (map (λ m. get_or F m 0 - 1)) (slice_more a i K s.from (omega (arith, p.inside)))
        ∙ map_append (λ m. get_or F m 0 - 1) (slice a i K) (get_or K i 0 ∷ [])
        ∙ ap (λ z. ◌▷◌ (map (λ m. get_or F m 0 - 1) (slice a i K)) (get_or F z 0 - 1)) (sym q) in record {
          from = omega (arith, s.from);
          to = omega arith;
          is = pad_fill (length R) 0 (map (λ m. get_or F m 0 - 1) (slice a i K)) (get_or F n 0 - 1) s.is size (omega (arith, p.room)) ∙ ap (pad (length R) 0) (sym more);
          long = length-set R' k (get_or F n 0 - 1) ∙ s.long;
        }

  pub ring_all : {i : ℕ} {R' : List ℕ} → RingSoFar K a e F R i R' → e ≤ i → R' ≡ pad (length R) 0 (lines_at F (slice a e K))
  ring_all {i} s h = let q : i ≡ e = omega (arith, s.to) in s.is ∙ ap (λ j. pad (length R) 0 (lines_at F (slice a j K))) q

-- ---- a ring's names

some_input : (y : ℕ) (l : List ℕ) → In y l → is_event l ≡ false
some_input y [] h = absurd h
some_input y (x ∷ l) h = refl

-- each name of a ring has an input
steps_gate : (g : ℕ → List ℕ) (x : ℕ) (l : List ℕ) (z y : ℕ) → Steps g x l z → In y (x ∷ l) → is_event (g y) ≡ false
steps_gate g x [] z y s (inl q) = some_input z (g y) (subst (λ v. In z (g v)) (sym q) s)
steps_gate g x [] z y s (inr h) = absurd h
steps_gate g x (w ∷ l) z y s (inl q) = some_input w (g y) (subst (λ v. In w (g v)) (sym q) s.0)
steps_gate g x (w ∷ l) z y s (inr h) = steps_gate g w l z y s.1 h

ring_gate : (g : ℕ → List ℕ) (l : List ℕ) (y : ℕ) → Ring g l → In y l → is_event (g y) ≡ false
ring_gate g [] y r h = absurd r
ring_gate g (x ∷ l) y r h = steps_gate g x l x y r h

not_none : (n : ℕ) → not (positive n) ≡ false → 1 ≤ n
not_none zero e = absurd (true≢false e)
not_none (suc n) e = omega arith

module _ {text : List ℕ} {c : ℕ} {N F G S I : List ℕ} (k : Known text c N F G S I) {K : List ℕ} {a e : ℕ} (s : Shown S I K a e) where
  below : (y : ℕ) → In y (slice a e K) → y < c
  below = shown_below k.arrays s

  ring_there : Ring (inputs_in (lines_of text)) (slice a e K)
  ring_there = ring_said k.arrays k.same s

  pub ring_at : {R : List ℕ} → length K ≤ length R → Blank R → RingAt K a e F R
  ring_at h b = record {
    from = omega (arith, s.some);
    inside = s.inside;
    room = omega (arith, s.inside);
    blank = b;
    defined = λ i l m.
        let y = in_slice a e i K l m s.inside in
        let site = k.places.site (get_or K i 0) (below (get_or K i 0) y) in
        (site.room, not_none (get_or F (get_or K i 0) 0) (sym (event_site site) ∙ ring_gate (inputs_in (lines_of text)) (slice a e K) (get_or K i 0) ring_there y));
  }

  pub ring_shown : ShowsRing (lines_of text) (lines_at F (slice a e K))
  unfolding lines_at
  ring_shown = record {
    names = slice a e K;
    low = λ n h. omega (arith, below n h, k.count);
    ring = ring_there;
    are = map_same (slice a e K) (λ n h. ap (λ d. d - 1) (k.places.site n (below n h)).each);
  }

  pub ring_size : length (lines_at F (slice a e K)) ≡ e - a
  unfolding lines_at
  ring_size = map_length (λ n. get_or F n 0 - 1) (slice a e K) ∙ length-slice a e K s.inside

  pub ring_says : Says (lines_of text) 17 0
  ring_says = a_ring k.lines (subst (λ m. LeadsBack (inputs_in (lines_of text)) m) k.count (back_said k.arrays k.same s))
