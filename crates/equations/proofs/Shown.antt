-- The names' first appearances shown, events then gates, name by name of the order.
-- Assumes nothing.
use mathlib.Core.Path.{◌≡◌, refl, sym, ap, ◌∙◌, subst}
use mathlib.Core.Bool.{Bool, true, false, not, beq, cond, false≢true, true≢false}
use mathlib.Core.List.{List, [], ◌∷◌, ◌++◌, map, append_assoc}
use Prim.Native.Nat.{ℕ, ◌+◌, ◌<◌, ◌≤◌}
use native.Mathlib.Omega.{arith}
use lib.ListN.{get_or, length, take, drop, set, length-set, length-append}
use lib.Seq.{length-take-le}
use Rattle.paper.specs.Walks.{is_event, events_of, gates_of}
use Rattle.records.specs.Judge.{◌▷◌}
use Rattle.records.specs.Memory.{pad}
use Rattle.records.proofs.Lists.{map_length, map_append}
use Rattle.records.proofs.Pad.{pad_fill}
use Rattle.lines.proofs.Parts.{append_none}
use Rattle.depthfirst.specs.Inputs.{inputs_of}
use Rattle.planting.proofs.Orders.{one_more, the_rest, name_in, events_append, gates_append}
use Rattle.equations.specs.Showing.{agree, among, spots_at, Showable, Adds, ShowsNames}
use Rattle.equations.proofs.Rings.{blank_pad}

-- ---- the events or the gates of an order

module _ (g : ℕ → List ℕ) where
  among_append : (b : Bool) (l m : List ℕ) → among b g (l ++ m) ≡ among b g l ++ among b g m
  among_append true l m = events_append g l m
  among_append false l m = gates_append g l m

  among_wanted : (b : Bool) (x : ℕ) → agree (is_event (g x)) b ≡ true → among b g (x ∷ []) ≡ x ∷ []
  among_wanted true x e = go (is_event (g x)) e
    where
      go : (t : Bool) → agree t true ≡ true → cond t (x ∷ []) [] ≡ x ∷ []
      go true q = refl
      go false q = absurd (false≢true q)
  among_wanted false x e = go (is_event (g x)) e
    where
      go : (t : Bool) → agree t false ≡ true → cond t [] (x ∷ []) ≡ x ∷ []
      go true q = absurd (false≢true q)
      go false q = refl

  among_other : (b : Bool) (x : ℕ) → agree (is_event (g x)) b ≡ false → among b g (x ∷ []) ≡ []
  among_other true x e = go (is_event (g x)) e
    where
      go : (t : Bool) → agree t true ≡ false → cond t (x ∷ []) [] ≡ []
      go true q = absurd (true≢false q)
      go false q = refl
  among_other false x e = go (is_event (g x)) e
    where
      go : (t : Bool) → agree t false ≡ false → cond t [] (x ∷ []) ≡ []
      go true q = refl
      go false q = absurd (true≢false q)

  pub both_long : (l : List ℕ) → length (events_of g l) + length (gates_of g l) ≡ length l
  both_long [] = refl
  both_long (x ∷ l) = go (is_event (g x)) (both_long l)
    where
      go : (t : Bool) → length (events_of g l) + length (gates_of g l) ≡ length l
          → length (cond t (x ∷ events_of g l) (events_of g l)) + length (cond t (gates_of g l) (x ∷ gates_of g l)) ≡ length (x ∷ l)
      go true h = omega arith
      go false h = omega arith

-- what the code compares
agree_same : (t b : Bool) → not (beq t b) ≡ false → agree t b ≡ true
agree_same true true e = refl
agree_same true false e = absurd (true≢false e)
agree_same false true e = absurd (true≢false e)
agree_same false false e = refl

agree_other : (t b : Bool) → not (beq t b) ≡ true → agree t b ≡ false
agree_other true true e = absurd (false≢true e)
agree_other true false e = refl
agree_other false true e = refl
agree_other false false e = absurd (false≢true e)

-- ---- the loop

-- of the order's first i names those that are wanted are shown
pub record NamesSoFar (S I Q N : List ℕ) (events : Bool) (W : List ℕ) (from i : ℕ) (W' : List ℕ) (u : ℕ) : Type 0 where
  pub long : length W' ≡ length W
  pub count : u ≡ from + length (among events (inputs_of S I) (take i Q))
  pub adds : Adds (spots_at N (among events (inputs_of S I) (take i Q))) W from W' u

pub names_none : (S I Q N : List ℕ) (events : Bool) (W : List ℕ) (from : ℕ) → NamesSoFar S I Q N events W from 0 W from
unfolding spots_at
names_none S I Q N events W from =
    let e = none events in record {
      long = refl;
      count = omega (arith, ap length e);
      adds = λ l q p. (p ∙ ap (pad (length W) 0) (sym (nothing l e)), ap length (nothing l e) ∙ q);
    }
  where
    none : (b : Bool) → among b (inputs_of S I) [] ≡ []
    none true = refl
    none false = refl

    nothing : (l : List ℕ) → among events (inputs_of S I) [] ≡ [] → l ++ spots_at N (among events (inputs_of S I) []) ≡ l
    nothing l e = ap (λ m. l ++ map (λ n. get_or N n 0) m) e ∙ append_none l

module _ {S I : List ℕ} {c : ℕ} {Q : List ℕ} {left : ℕ} {N : List ℕ} {events : Bool} {W : List ℕ} {from : ℕ} (p : Showable S I c Q left N events W from)
    {i : ℕ} {W' : List ℕ} {u : ℕ} (s : NamesSoFar S I Q N events W from i W' u) (h : i < left) {x : ℕ} (q : x ≡ get_or Q i 0) where
  abbrev g : ℕ → List ℕ
  g = inputs_of S I

  next_is : take (i + 1) Q ≡ take i Q ++ (x ∷ [])
  next_is = one_more Q (omega (arith, p.inside)) q

  pub name_low : x < c
  name_low = p.low x (name_in Q h p.inside q)

  pub name_there : x < length N
  name_there = omega (arith, name_low, p.names)

  more : among events g (take (i + 1) Q) ≡ among events g (take i Q) ++ among events g (x ∷ [])
  more = ap (among events g) next_is ∙ among_append g events (take i Q) (x ∷ [])

  pub names_other : {t : Bool} → t ≡ is_event (g x) → not (beq t events) ≡ true → NamesSoFar S I Q N events W from (i + 1) W' u
  names_other {t} r w =
      let e : among events g (take (i + 1) Q) ≡ among events g (take i Q)
      = more ∙ ap (λ m. among events g (take i Q) ++ m) (among_other g events x (ap (λ b. agree b events) (sym r) ∙ agree_other t events w)) ∙ append_none (among events g (take i Q)) in record {
        long = s.long;
        count = omega (arith, s.count, ap length e);
        adds = subst (λ m. Adds (spots_at N m) W from W' u) (sym e) s.adds;
      }

  module _ {t : Bool} (r : t ≡ is_event (g x)) (w : not (beq t events) ≡ false) where
    wanted : among events g (take (i + 1) Q) ≡ among events g (take i Q) ++ (x ∷ [])
    wanted = more ∙ ap (λ m. among events g (take i Q) ++ m) (among_wanted g events x (ap (λ b. agree b events) (sym r) ∙ agree_same t events w))

    pub names_room : u < length W'
    names_room =
        let a : length (among events g (take (i + 1) Q)) ≡ length (among events g (take i Q)) + 1 = ap length wanted ∙ length-append (among events g (take i Q)) (x ∷ []) in
        let d : i + 1 ≤ left = omega arith in
        let b : length (among events g (take left Q)) ≡ length (among events g (take (i + 1) Q)) + length (among events g (drop (i + 1) (take left Q)))
        = ap (λ m. length (among events g m)) (the_rest Q d) ∙ ap length (among_append g events (take (i + 1) Q) (drop (i + 1) (take left Q)))
        ∙ length-append (among events g (take (i + 1) Q)) (among events g (drop (i + 1) (take left Q))) in
        omega (arith, s.count, s.long, p.room)

    pub names_next : NamesSoFar S I Q N events W from (i + 1) (set W' u (get_or N x 0)) (u + 1)
    unfolding spots_at
    names_next = record {
      long = length-set W' u (get_or N x 0) ∙ s.long;
      count = omega (arith, s.count, ap length wanted, length-append (among events g (take i Q)) (x ∷ []));
      adds = λ l k b.
          let old = s.adds l k b in
          let f : ℕ → ℕ = λ n. get_or N n 0 in
          let e : l ++ map (λ n. get_or N n 0) (among events g (take (i + 1) Q)) ≡ ◌▷◌ (l ++ map (λ n. get_or N n 0) (among events g (take i Q))) (get_or N x 0)
          = ap (λ m. l ++ map (λ n. get_or N n 0) m) wanted ∙ ap (λ m. l ++ m) (map_append (λ n. get_or N n 0) (among events g (take i Q)) (x ∷ []))
          ∙ sym (append_assoc l (map (λ n. get_or N n 0) (among events g (take i Q))) (get_or N x 0 ∷ [])) in
          let fill = pad_fill (length W) 0 (l ++ map (λ n. get_or N n 0) (among events g (take i Q))) (get_or N x 0) old.0 old.1 (omega (arith, names_room, s.long)) in (
            fill ∙ ap (pad (length W) 0) (sym e),
            ap length e ∙ length-append (l ++ map (λ n. get_or N n 0) (among events g (take i Q))) (get_or N x 0 ∷ []) ∙ ap (λ k. k + 1) old.1,
          );
    }

pub names_all : {S I Q N : List ℕ} {events : Bool} {W : List ℕ} {from i left : ℕ} {W' : List ℕ} {u : ℕ} → NamesSoFar S I Q N events W from i W' u → i ≤ left → left ≤ i
    → Adds (spots_at N (among events (inputs_of S I) (take left Q))) W from W' u
names_all {S} {I} {Q} {N} {events} {W} {from} {i} {left} {W'} {u} s h k =
    let e : i ≡ left = omega arith in subst (λ j. Adds (spots_at N (among events (inputs_of S I) (take j Q))) W from W' u) e s.adds

-- ---- events, then gates

module _ {S I : List ℕ} {c : ℕ} {Q : List ℕ} {left : ℕ} {N W : List ℕ} (p : ShowsNames S I c Q left N W) where
  abbrev l : List ℕ
  l = take left Q

  all_room : length (events_of (inputs_of S I) l) + length (gates_of (inputs_of S I) l) ≤ length W
  all_room = omega (arith, both_long (inputs_of S I) l, length-take-le left Q p.inside, p.room)

  pub events_showable : Showable S I c Q left N true W 0
  events_showable = record { arrays = p.arrays; inside = p.inside; low = p.low; names = p.names; room = omega (arith, all_room) }

  module _ {W₁ : List ℕ} {n : ℕ} (a : Adds (spots_at N (events_of (inputs_of S I) l)) W 0 W₁ n) (long : length W₁ ≡ length W) where
    first : (W₁ ≡ pad (length W) 0 (spots_at N (events_of (inputs_of S I) l))) × (length (spots_at N (events_of (inputs_of S I) l)) ≡ n)
    first = a [] refl (blank_pad p.blank)

    size : length (spots_at N (events_of (inputs_of S I) l)) ≡ length (events_of (inputs_of S I) l)
    unfolding spots_at
    size = map_length (λ n. get_or N n 0) (events_of (inputs_of S I) l)

    pub gates_showable : Showable S I c Q left N false W₁ n
    gates_showable = record { arrays = p.arrays; inside = p.inside; low = p.low; names = p.names; room = omega (arith, all_room, size, first.1, long) }

    pub both_shown : {W₂ : List ℕ} {m : ℕ} → Adds (spots_at N (gates_of (inputs_of S I) l)) W₁ n W₂ m
        → W₂ ≡ pad (length W) 0 (spots_at N (events_of (inputs_of S I) l ++ gates_of (inputs_of S I) l))
    unfolding spots_at
    both_shown b =
        (b (spots_at N (events_of (inputs_of S I) l)) first.1 (first.0 ∙ ap (λ k. pad k 0 (spots_at N (events_of (inputs_of S I) l))) (sym long))).0
        ∙ ap (λ k. pad k 0 (spots_at N (events_of (inputs_of S I) l) ++ spots_at N (gates_of (inputs_of S I) l))) long
        ∙ ap (pad (length W) 0) (sym (map_append (λ n. get_or N n 0) (events_of (inputs_of S I) l) (gates_of (inputs_of S I) l)))
