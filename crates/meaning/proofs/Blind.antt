-- The root's function of a tree of n events looks at no other event.
-- Assumes nothing.
use mathlib.Core.Path.{◌≡◌, refl, ap, ap₂}
use mathlib.Core.Bool.{false, cond, ◌&&◌, ◌||◌}
use mathlib.Core.List.{List, [], ◌∷◌, ◌++◌, map}
use Prim.Native.Nat.{ℕ, zero, suc, ◌+◌, ◌<◌}
use lib.Dec.{leb}
use lib.ListN.{get_or}
use Rattle.paper.specs.Lists.{last_or}
use Rattle.paper.specs.Sets.{Set}
use Rattle.paper.specs.Functions.{Fun}
use Rattle.paper.specs.Trees.{Input, event, gate, forced, Gate, and_g, or_g, least_g, distinct_inputs, const_f, every_fails, some_fails, count_fails, input_fun, gate_fun, gate_funs_from, gate_funs, root_fun, InputBelow, InputsBelow, GateBelow, TreeBelow}
use Rattle.twins.proofs.Inputs.{distinct_below}

-- two sets with the same events below n
abbrev pub Alike : ℕ → Set → Set → Type 0
Alike n v u = (e : ℕ) → e < n → v e ≡ u e

abbrev pub Blind : ℕ → Fun → Type 0
Blind n F = (v u : Set) → Alike n v u → F v ≡ F u

module _ (n : ℕ) where
  abbrev AllBlind : List Fun → Type 0
  AllBlind [] = Unit {0}
  AllBlind (F ∷ Fs) = Blind n F × AllBlind Fs

  blind_at : (Fs : List Fun) (i : ℕ) → AllBlind Fs → Blind n (get_or Fs i (const_f false))
  blind_at [] i b v u h = refl
  blind_at (F ∷ Fs) zero b v u h = b.0 v u h
  blind_at (F ∷ Fs) (suc i) b v u h = blind_at Fs i b.1 v u h

  blind_last : (F : Fun) (Fs : List Fun) → Blind n F → AllBlind Fs → Blind n (last_or F Fs)
  blind_last F [] b c = b
  blind_last F (G ∷ Fs) b c = blind_last G Fs c.0 c.1

  blind_more : (Fs : List Fun) (F : Fun) → AllBlind Fs → Blind n F → AllBlind (Fs ++ (F ∷ []))
  blind_more [] F b c = (c, tt)
  blind_more (G ∷ Fs) F b c = (b.0, blind_more Fs F b.1 c)

  blind_input : (gs : List Fun) → AllBlind gs → (i : Input) → InputBelow n i → Blind n (input_fun gs i)
  blind_input gs b (event e) l v u h = h e l
  blind_input gs b (gate i) l v u h = blind_at gs i b v u h
  blind_input gs b (forced e c) l v u h = refl

  blind_row : (gs : List Fun) → AllBlind gs → (is : List Input) → InputsBelow n is → AllBlind (map (input_fun gs) is)
  blind_row gs b [] l = tt
  blind_row gs b (i ∷ is) l = (blind_input gs b i l.0, blind_row gs b is l.1)

  module _ (v u : Set) (h : Alike n v u) where
    every_blind : (Fs : List Fun) → AllBlind Fs → every_fails Fs v ≡ every_fails Fs u
    every_blind [] b = refl
    every_blind (F ∷ Fs) b = ap₂ ◌&&◌ (b.0 v u h) (every_blind Fs b.1)

    some_blind : (Fs : List Fun) → AllBlind Fs → some_fails Fs v ≡ some_fails Fs u
    some_blind [] b = refl
    some_blind (F ∷ Fs) b = ap₂ ◌||◌ (b.0 v u h) (some_blind Fs b.1)

    count_blind : (Fs : List Fun) → AllBlind Fs → count_fails Fs v ≡ count_fails Fs u
    count_blind [] b = refl
    count_blind (F ∷ Fs) b = ap₂ (λ t m. cond t 1 0 + m) (b.0 v u h) (count_blind Fs b.1)

  blind_gate : (gs : List Fun) → AllBlind gs → (x : Gate) → GateBelow n x → Blind n (gate_fun gs x)
  blind_gate gs b (and_g is) l v u h = every_blind v u h (map (input_fun gs) is) (blind_row gs b is l)
  blind_gate gs b (or_g is) l v u h = some_blind v u h (map (input_fun gs) is) (blind_row gs b is l)
  blind_gate gs b (least_g k is) l v u h = ap (leb k) (count_blind v u h (map (input_fun gs) (distinct_inputs is)) (blind_row gs b (distinct_inputs is) (distinct_below n is l)))

  blind_from : (gs : List Fun) → AllBlind gs → (xs : List Gate) → TreeBelow n xs → AllBlind (gate_funs_from gs xs)
  blind_from gs b [] l = b
  blind_from gs b (x ∷ xs) l = blind_from (gs ++ (gate_fun gs x ∷ [])) (blind_more gs (gate_fun gs x) b (blind_gate gs b x l.0)) xs l.1

  pub root_blind : (xs : List Gate) → TreeBelow n xs → Blind n (root_fun xs)
  unfolding root_fun gate_funs
  root_blind xs l = blind_last (const_f false) (gate_funs_from [] xs) (λ v u h. refl) (blind_from [] tt xs l)
