-- At least k of n: the pairs that the rule reaches, and what taking an input answers.
-- Assumes nothing.
use Rattle.std.specs.Prelude.{◌≡◌, ◌⊎◌, List, ℕ, ◌+◌, ◌≤◌, length, get_or, drop, Result, Ok, Err}
use Rattle.paper.specs.Limits.{limits}
use Rattle.paper.specs.Diagrams.{Diagram}
use Rattle.store.specs.Building.{PartOf, Found, Step, Stops}
use Rattle.store.specs.declared.Full.{Full}
use Rattle.atleast.specs.Rules.{least_d, least_steps_d}
use Rattle.atleast.specs.Making.{All, Held}

-- at-least j of xs has number r, and its steps are made
pub record Pair (T : List ℕ) (c : ℕ) (xs : List Diagram) (j r : ℕ) : Type 0 where
  pub here : Found T c (least_d j xs) r
  pub all : All T c (least_steps_d j xs)

-- the row once all but i inputs are taken: the pairs that the rule reaches from k by i inputs
pub record Reached (T : List ℕ) (c k : ℕ) (ds : List Diagram) (i : ℕ) (R : List ℕ) : Type 0 where
  pub long : length R ≡ limits.inputs + 1
  pub pair : (j : ℕ) → k ≤ j + i → j ≤ k → Pair T c (drop i ds) j (get_or R j 0)

-- of the j for which a node is made at input i, with n inputs in all, the highest and the lowest
pub record Highest (k n i j : ℕ) : Type 0 where
  pub low : j ≤ k
  pub fits : j + i ≤ n
  pub top : (k ≤ j) ⊎ (n ≤ j + i)

pub record Lowest (k i j : ℕ) : Type 0 where
  pub some : 1 ≤ j
  pub high : k ≤ j + i
  pub bottom : (j ≤ 1) ⊎ (j + i ≤ k)

-- input i is taken
pub record Taken (k : ℕ) (ds : List Diagram) (i : ℕ) (T : List ℕ) (c : ℕ) (T' H' X' M' R' : List ℕ) (c' : ℕ) : Type 0 where
  pub step : Step (PartOf (least_steps_d k ds)) T c T' H' X' c'
  pub held : Held T' H' X' M' c'
  pub reached : Reached T' c' k ds i R'

abbrev pub Takes : (k : ℕ) (ds : List Diagram) (i : ℕ) (T : List ℕ) (c : ℕ) (T' H' X' M' R' : List ℕ) → Result ℕ Full → Type 0
Takes k ds i T c T' H' X' M' R' (Ok c') = Taken k ds i T c T' H' X' M' R' c'
Takes k ds i T c T' H' X' M' R' (Err x) = Stops (PartOf (least_steps_d k ds)) T c T' H' X' x.count
