-- A text laid piece by piece: written where the room has place for it, counted anyway.
-- Assumes nothing.
use Rattle.std.specs.Prelude.{◌≡◌, List, [], ◌∷◌, ◌++◌, map, ℕ, ◌+◌, ◌≤◌, ◌<◌, length, get_or, take, drop}
use Rattle.paper.specs.Limits.{limits}
use Rattle.paper.specs.Lists.{sum}
use Rattle.paper.specs.Trees.{Input, Gate}
use Rattle.paper.specs.Flat.{input_of, gate_of}
use Rattle.paper.specs.Exporting.{input_name, right_side, chance_lines}
use Rattle.records.specs.declared.Event.{Event}
use Rattle.records.specs.declared.Tree.{Tree}
use Rattle.decimals.specs.Places.{Put}

-- s counted behind the first `at` bytes up to the place `end`, and put there where the room has all of it
pub record Laid (room : List ℕ) (at : ℕ) (s room' : List ℕ) (end : ℕ) : Type 0 where
  pub to : end ≡ at + length s
  pub long : length room' ≡ length room
  pub put : end ≤ length room → Put room at s room' end

-- the name of an input
abbrev pub name_of : ℕ → List ℕ
name_of code = input_name (input_of code)

-- the names of the inputs with these codes, each behind a separator
unfoldable pub tail_of : List ℕ → List ℕ → List ℕ
tail_of sep [] = []
tail_of sep (c ∷ cs) = (sep ++ name_of c) ++ tail_of sep cs

-- the codes of n inputs from `first` on, the inputs, and their names
abbrev pub codes : List ℕ → ℕ → ℕ → List ℕ
codes inputs first n = take n (drop first inputs)

abbrev pub inputs_from : List ℕ → ℕ → ℕ → List Input
inputs_from inputs first n = map input_of (codes inputs first n)

abbrev pub names_of : List ℕ → ℕ → ℕ → List (List ℕ)
names_of inputs first n = map input_name (inputs_from inputs first n)

-- the gate that has them, and the right side of its equation
abbrev pub gate_in : ℕ → ℕ → List ℕ → ℕ → ℕ → Gate
gate_in kind k inputs first n = gate_of kind k (inputs_from inputs first n)

unfoldable pub right_of : ℕ → ℕ → List ℕ → ℕ → ℕ → List ℕ
right_of kind k inputs first n = right_side (gate_in kind k inputs first n) (names_of inputs first n)

-- the lines of a tree's chances
unfoldable pub chances_of : Tree → List ℕ
chances_of t = chance_lines 0 (map (λ (e : Event). e.chance) (take t.event_count t.events))

-- a gate's inputs lie in the array
pub record Inputs (inputs : List ℕ) (first n : ℕ) : Type 0 where
  pub long : length inputs ≡ limits.in_all
  pub some : 1 ≤ n
  pub few : n ≤ limits.inputs
  pub inside : first + n ≤ limits.in_all

-- the sizes of so many gates are within the limits
pub record Planned (sizes inputs : List ℕ) (gates : ℕ) : Type 0 where
  pub long : length sizes ≡ limits.gates
  pub wide : length inputs ≡ limits.in_all
  pub few : gates ≤ limits.gates
  pub all : sum (take gates sizes) ≤ limits.in_all
  pub each : (g : ℕ) → g < gates → (1 ≤ get_or sizes g 0) × (get_or sizes g 0 ≤ limits.inputs)

-- a tree within the limits
pub record Typable (t : Tree) : Type 0 where
  pub events : t.event_count ≤ limits.events
  pub gates : Planned t.sizes t.inputs t.gate_count
