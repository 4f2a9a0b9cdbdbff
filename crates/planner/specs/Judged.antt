-- What a judgement says of a function F that the family l decides, such as a tree's root and its minimal cuts.
-- Assumes nothing.
use Rattle.std.specs.Prelude.{◌≡◌, true, List, ℕ, Result, Ok, Err}
use Rattle.paper.specs.Sets.{Set}
use Rattle.paper.specs.Functions.{Fun}
use Rattle.paper.specs.Planner.{Apart, Accepted, LowestDroppable, FirstMissing}
use Rattle.paper.specs.declared.refusal.Refusal.{Refusal}
use Rattle.planner.specs.declared.Judgement.{Judgement}
use Rattle.planner.specs.declared.Judgement.TheVariants.{Accepts, Misses, Drops}

-- the cut S is the first that misses K, and while K is sound its failing fails F
pub record Missed (F : Fun) (n : ℕ) (K : Set) (l : List Set) (S : Set) : Type 0 where
  pub first : FirstMissing n K l S
  pub sound : Apart K S
  pub fails : F S ≡ true

-- a refusal says nothing of F
abbrev pub Tells : Fun → ℕ → Set → List Set → Result Judgement Refusal → Set → Type 0
Tells F n K l (Err why) S = Unit {0}
Tells F n K l (Ok Accepts) S = Accepted F K
Tells F n K l (Ok Misses) S = Missed F n K l S
Tells F n K l (Ok (Drops e)) S = LowestDroppable F K e
