-- What `check` answers and leaves, for any arguments: n events, K the set, l the family of the lent cut diagram.
-- Assumes nothing.
use Rattle.std.specs.Prelude.{◌≡◌, List, [], ℕ, length, replicate, Option, None, Some, Result, Ok, Err}
use Rattle.paper.specs.Sets.{Set}
use Rattle.paper.specs.Planner.{Accepted, LowestDroppable, remaining, FirstMissing, fails_by}
use Rattle.paper.specs.Answers.{Beyond}
use Rattle.sets.specs.Words.{words, set_of}
use Rattle.remaining.specs.Families.{CutDiagram, family, Cleared}
use Rattle.remaining.specs.FirstCut.{Room}
use Rattle.paper.specs.declared.refusal.Refusal.{Refusal}
use Rattle.paper.specs.declared.refusal.Refusal.TheVariants.{NoDiagram, Length, Beyond as BeyondEvents}
use Rattle.planner.specs.declared.Judgement.{Judgement}
use Rattle.planner.specs.declared.Judgement.TheVariants.{Accepts, Misses, Drops}

-- a refusal: its reason, no cut, and nothing is written
pub record Refuses (P : Type 0) (cut W W' : List ℕ) : Type 0 where
  pub because : P
  pub no_cut : cut ≡ replicate words 0
  pub area : W' ≡ W

-- 12, then 9, then 13
pub data Refusing (n : ℕ) (T : List ℕ) (c root : ℕ) (ws : List ℕ) (why : Refusal) (cut W W' : List ℕ) : Type 0 where
  no_diagram : why ≡ NoDiagram → Refuses (CutDiagram n T c root → ⊥) cut W W' → Refusing n T c root ws why cut W W'
  too_short : why ≡ Length → Refuses (CutDiagram n T c root × (Room T W → ⊥)) cut W W' → Refusing n T c root ws why cut W W'
  beyond : why ≡ BeyondEvents → Refuses (CutDiagram n T c root × Room T W × Beyond n (set_of ws)) cut W W' → Refusing n T c root ws why cut W W'

-- no refusal is due
pub record Passed (n : ℕ) (T : List ℕ) (c root : ℕ) (ws W : List ℕ) : Type 0 where
  pub diagram : CutDiagram n T c root
  pub room : Room T W
  pub within : Beyond n (set_of ws) → ⊥

-- a judgement of a set that passed
pub record Answers (P : Type 0) (n : ℕ) (T : List ℕ) (c root : ℕ) (ws cut W W' : List ℕ) : Type 0 where
  pub passed : Passed n T c root ws W
  pub because : P
  pub long : length cut ≡ words
  pub area : Cleared W W'

-- THE CONTRACT of `check`: 12, then 9, then 13; accepted; else the first cut that misses the set; else the lowest member that could be dropped
abbrev pub Checks : ℕ → List ℕ → ℕ → ℕ → List ℕ → Result Judgement Refusal → List ℕ → List ℕ → List ℕ → Type 0
Checks n T c root ws (Err why) cut W W' = Refusing n T c root ws why cut W W'
Checks n T c root ws (Ok Accepts) cut W W' = Answers (Accepted (fails_by n (family T root)) (set_of ws) × (cut ≡ replicate words 0)) n T c root ws cut W W'
Checks n T c root ws (Ok Misses) cut W W' = Answers (FirstMissing n (set_of ws) (family T root) (set_of cut)) n T c root ws cut W W'
Checks n T c root ws (Ok (Drops e)) cut W W' = Answers (LowestDroppable (fails_by n (family T root)) (set_of ws) e × (cut ≡ replicate words 0)) n T c root ws cut W W'

-- ---- inside

-- a set that passed and that no cut misses, and an area of zeros
pub record Trial (n : ℕ) (T : List ℕ) (c root : ℕ) (ws W : List ℕ) : Type 0 where
  pub passed : Passed n T c root ws W
  pub none_left : remaining n (set_of ws) (family T root) ≡ []
  pub zero : Cleared W W

-- what is said of its members: this one could be dropped, and no lower one; or none could
abbrev pub Judges : ℕ → Set → List Set → Option ℕ → Type 0
Judges n K l None = Accepted (fails_by n l) K
Judges n K l (Some e) = LowestDroppable (fails_by n l) K e
