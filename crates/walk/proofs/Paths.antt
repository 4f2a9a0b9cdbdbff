-- Paths, one node longer or shorter.
-- Assumes nothing.
use mathlib.Core.Path.{◌≡◌, refl, sym, ap, ◌∙◌, subst}
use mathlib.Core.Bool.{true}
use mathlib.Core.List.{List, [], ◌∷◌, ◌++◌, map}
use Prim.Native.Nat.{ℕ, zero, suc, ◌+◌, ◌-◌, ◌*◌, ◌≤◌, ◌<◌}
use native.Mathlib.Numerals.{add-one}
use native.Mathlib.Omega.{arith}
use lib.ListN.{length, get_or, set, take, length-set}
use lib.Seq.{take-suc, take-suc-set, length-take-le, get_or-take}
use Rattle.paper.specs.Limits.{limits, most_numbers}
use Rattle.paper.specs.Sets.{Set, none, put, of_events}
use Rattle.paper.specs.Diagrams.{Ordered}
use Rattle.paper.specs.Cuts.{sets_of}
use Rattle.sets.specs.Words.{words, room}
use Rattle.tables.specs.Table.{event_of, failed_of, sound_of, den}
use Rattle.tables.specs.Lent.{Lent, Node}
use Rattle.tables.proofs.Den.{den_0, den_1, den_node}
use Rattle.tables.proofs.Lent.{lent_node, lent_lower, lent_ordered}
use Rattle.walk.specs.Paths.{along, around, Climbs, Open}

-- ---- the sets left at a path

-- one node more
pub around_snoc : (T p : List ℕ) (i : ℕ) (x : List Set) → around T (p ++ (i ∷ [])) x ≡ around T p (map (put (event_of T i) true) x ++ sets_of (den T (sound_of T i)))
unfolding around
around_snoc T [] i x = refl
around_snoc T (j ∷ p) i x = ap (λ (y : List Set). map (put (event_of T j) true) y ++ sets_of (den T (sound_of T j))) (around_snoc T p i x)

-- the path's own set comes first
pub around_one : (T p : List ℕ) (x : List Set) → around T p (none ∷ x) ≡ along T p ∷ around T p x
unfolding around of_events
around_one T [] x = refl
around_one T (j ∷ p) x = ap (λ (y : List Set). map (put (event_of T j) true) y ++ sets_of (den T (sound_of T j))) (around_one T p x)

pub around_none : (T : List ℕ) (x : List Set) → around T [] x ≡ x
unfolding around
around_none T x = refl

-- ---- paths whose events rise

module _ (T : List ℕ) (c : ℕ) where
  pub climbs_weak : (p : List ℕ) (m e k : ℕ) → e ≤ k → Climbs T c m p e → Climbs T c m p k
  climbs_weak [] m e k h w = omega arith
  climbs_weak (i ∷ p) m e k h w = (w.0, w.1, w.2, climbs_weak p (suc (event_of T i)) e k h w.3)

  climbs_snoc : (p : List ℕ) (m i k : ℕ) → Climbs T c m p (event_of T i) → 2 ≤ i → i < c + 2 → event_of T i < k → Climbs T c m (p ++ (i ∷ [])) k
  climbs_snoc [] m i k w two l h = (two, l, w, h)
  climbs_snoc (j ∷ p) m i k w two l h = (w.0, w.1, w.2, climbs_snoc p (suc (event_of T j)) i k w.3 two l h)

  -- the last node of a path, and the path that leads to it
  climbs_last : (p : List ℕ) (m i e : ℕ) → Climbs T c m (p ++ (i ∷ [])) e → Climbs T c m p (event_of T i) × (2 ≤ i) × (i < c + 2) × (event_of T i < e)
  climbs_last [] m i e w = (w.2, w.0, w.1, w.3)
  climbs_last (j ∷ p) m i e w = let r = climbs_last p (suc (event_of T j)) i e w.3 in ((w.0, w.1, w.2, r.0), r.1, r.2, r.3)

  pub climbs_length : (p : List ℕ) (m e : ℕ) → Climbs T c m p e → m + length p ≤ e
  climbs_length [] m e w = omega arith
  climbs_length (i ∷ p) m e w = let r = climbs_length p (suc (event_of T i)) e w.3 in let s = w.2 in omega arith

  climbs_at : (p : List ℕ) (m e : ℕ) → Climbs T c m p e → (k : ℕ) → k < length p → (2 ≤ get_or p k 0) × (get_or p k 0 < c + 2)
  climbs_at [] m e w k h = absurd (omega arith)
  climbs_at (i ∷ p) m e w zero h = (w.0, w.1)
  climbs_at (i ∷ p) m e w (suc k) h = climbs_at p (suc (event_of T i)) e w.3 k (omega arith)

-- ---- what the nodes denote

pub sets_0 : (T : List ℕ) → sets_of (den T 0) ≡ []
sets_0 T = ap sets_of (den_0 T)

pub sets_1 : (T : List ℕ) → sets_of (den T 1) ≡ none ∷ []
sets_1 T = ap sets_of (den_1 T)

module _ {n : ℕ} {T : List ℕ} {c at : ℕ} (lent : Lent true n T c at) where
  -- each stored number is a root
  pub rooted : (i : ℕ) → i < c + 2 → Lent true n T c i
  rooted i h = record {
    some_event = lent.some_event;
    few_events = lent.few_events;
    threes = lent.threes;
    short = lent.short;
    fits = lent.fits;
    nodes = lent.nodes;
    root_in = h;
  }

  module _ (two : 2 ≤ at) where
    pub sets_node : sets_of (den T at) ≡ map (put (event_of T at) true) (sets_of (den T (failed_of T at))) ++ sets_of (den T (sound_of T at))
    sets_node = ap sets_of (den_node (lent_lower lent) at two lent.root_in)

    -- the sets of its branches hold no event up to its own
    pub branches : Ordered (suc (event_of T at)) n (den T (failed_of T at)) × Ordered (suc (event_of T at)) n (den T (sound_of T at))
    branches = let o = subst (Ordered 0 n) (den_node (lent_lower lent) at two lent.root_in) (lent_ordered lent lent.root_in) in (o.2, o.3)

-- ---- a path in an array

-- no path yet
pub open_start : {n : ℕ} {T : List ℕ} {c root : ℕ} (P : List ℕ) → Lent true n T c root → length P ≡ limits.events → Open n T c P 0 root
open_start P l q =
    let w = l.few_events in
    record { lent = l; long = omega arith; deep = omega arith; end = 0; climbs = omega arith; low = omega arith; above = λ h. omega arith }

module _ {n : ℕ} {T : List ℕ} {c : ℕ} {P : List ℕ} {d at : ℕ} (o : Open n T c P d at) where
  pub path_length : length (take d P) ≡ d
  path_length = length-take-le d P o.deep

  pub depth_low : d ≤ o.end
  depth_low = let l = climbs_length T c (take d P) 0 o.end o.climbs in let q = path_length in omega arith

  -- another node behind the path
  open_at : (b : ℕ) → b < c + 2 → (2 ≤ b → o.end ≤ event_of T b) → Open n T c P d b
  open_at b l a = record { lent = rooted o.lent b l; long = o.long; deep = o.deep; end = o.end; climbs = o.climbs; low = o.low; above = a }

  pub open_leaf : Open n T c P d 1
  open_leaf = open_at 1 (omega arith) (λ h. absurd (omega arith))

  -- no path
  pub open_none : (b : ℕ) → b < 2 → Open n T c P 0 b
  open_none b h = record {
    lent = rooted o.lent b (omega arith);
    long = o.long;
    deep = omega arith;
    end = 0;
    climbs = omega arith;
    low = omega arith;
    above = λ z. absurd (omega arith);
  }

  module _ (two : 2 ≤ at) where
    pub here : Node n T at
    here = lent_node o.lent two o.lent.root_in

    pub room_for : d < length P
    room_for = let e = here.event in let a = o.above two in let l = o.long in let q = depth_low in omega arith

    -- the node put on the path, and its failed branch behind it
    pub open_push : {f : ℕ} → f ≡ failed_of T at → Open n T c (set P d at) (d + 1) f
    open_push {f} q =
        let e = here.event in
        let fd = here.failed in
        let i = o.lent.root_in in
        let l = o.long in
        let r = room_for in
        let p : take (d + 1) (set P d at) ≡ take d P ++ (at ∷ []) = ap (λ (k : ℕ). take k (set P d at)) (add-one d) ∙ take-suc-set P d at r in
        record {
          lent = rooted o.lent f (omega arith);
          long = simp length-set l;
          deep = simp length-set (omega arith);
          end = suc (event_of T at);
          climbs = subst (λ (x : List ℕ). Climbs T c 0 x (suc (event_of T at))) (sym p) (climbs_snoc T c (take d P) 0 at (suc (event_of T at)) (climbs_weak T c (take d P) 0 o.end (event_of T at) (o.above two) o.climbs) two i (omega arith));
          low = e;
          above = subst (λ (y : ℕ). 2 ≤ y → suc (event_of T at) ≤ event_of T y) (sym q) here.failed_above;
        }

    -- the node passed by, and its sound branch behind the path
    pub open_pass : {b : ℕ} → b ≡ sound_of T at → Open n T c P d b
    open_pass {b} q =
        let s = here.sound in
        let i = o.lent.root_in in
        let a = o.above two in
        let up : 2 ≤ sound_of T at → event_of T at < event_of T (sound_of T at) = here.sound_above in
        open_at b (omega arith) (subst (λ (y : ℕ). 2 ≤ y → o.end ≤ event_of T y) (sym q) (λ h. let r = up h in omega arith))

    pub around_push : (x : List Set) → around T (take (d + 1) (set P d at)) x ≡ around T (take d P) (map (put (event_of T at) true) x ++ sets_of (den T (sound_of T at)))
    around_push x =
        ap (λ (k : ℕ). around T (take k (set P d at)) x) (add-one d) ∙ ap (λ (p : List ℕ). around T p x) (take-suc-set P d at room_for) ∙ around_snoc T (take d P) at x

-- ---- the entry on top

module _ {n : ℕ} {T : List ℕ} {c : ℕ} {P : List ℕ} {d at : ℕ} (o : Open n T c P d at) (some : 0 < d) {i : ℕ} (qi : i ≡ get_or P (d - 1) 0) where
  pub shorter : take d P ≡ take (d - 1) P ++ (i ∷ [])
  shorter =
      let e : d ≡ suc (d - 1) = omega arith in
      let deep = o.deep in
      ap (λ (k : ℕ). take k P) e ∙ take-suc P (d - 1) 0 (omega arith) ∙ ap (λ (x : ℕ). take (d - 1) P ++ (x ∷ [])) (sym qi)

  pub top : Climbs T c 0 (take (d - 1) P) (event_of T i) × (2 ≤ i) × (i < c + 2) × (event_of T i < o.end)
  top = climbs_last T c (take (d - 1) P) 0 i o.end (subst (λ (p : List ℕ). Climbs T c 0 p o.end) shorter o.climbs)

-- ---- the numbers that the code reads

pub record Fits (n : ℕ) (T : List ℕ) (i : ℕ) : Type 0 where
  pub two : 2 ≤ i
  pub inside : 3 * (i - 2) + 2 < length T
  pub small : i < most_numbers
  pub event : event_of T i < limits.events

module _ {n : ℕ} {T : List ℕ} {c : ℕ} {P : List ℕ} {d at : ℕ} (o : Open n T c P d at) where
  fits : (i : ℕ) → 2 ≤ i → i < c + 2 → Fits n T i
  fits i h l =
      let f = o.lent.fits in
      let s = o.lent.short in
      let w = o.lent.few_events in
      let e = (lent_node o.lent h l).event in
      record { two = h; inside = omega arith; small = omega arith; event = omega arith }

  pub fits_at : 2 ≤ at → Fits n T at
  fits_at h = fits at h o.lent.root_in

  pub fits_entry : (k : ℕ) {i : ℕ} → k < d → i ≡ get_or P k 0 → Fits n T i
  fits_entry k {i} h q =
      let l = path_length o in
      let w = climbs_at T c (take d P) 0 o.end o.climbs k (omega arith) in
      let e : i ≡ get_or (take d P) k 0 = q ∙ sym (get_or-take d P k 0 h) in
      fits i (omega arith) (omega arith)

  -- words that hold every event hold those of the diagram
  pub wide_enough : (ws : List ℕ) → length ws ≡ words → n ≤ room ws
  wide_enough ws q = let f = o.lent.few_events in omega arith
