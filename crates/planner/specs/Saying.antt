-- The paper's number and values for each case of a judgement.
-- Assumes nothing.
use Rattle.std.specs.Prelude.{ℕ, Result, Ok, Err}
use Rattle.paper.specs.Refusals.{number}
use Rattle.paper.specs.declared.refusal.Refusal.{Refusal}
use Rattle.planner.specs.declared.Judgement.{Judgement}
use Rattle.planner.specs.declared.Judgement.TheVariants.{Accepts, Misses, Drops}

-- a number and its place; what is said: 0 nothing, 1 accepted, 2 a cut misses, 3 a member could be dropped; and that member
pub record Said : Type 0 where
  pub number : ℕ
  pub place : ℕ
  pub said : ℕ
  pub member : ℕ

abbrev pub says : Result Judgement Refusal → Said
says (Err why) = record { number = number why; place = 0; said = 0; member = 0 }
says (Ok Accepts) = record { number = 0; place = 0; said = 1; member = 0 }
says (Ok Misses) = record { number = 0; place = 0; said = 2; member = 0 }
says (Ok (Drops e)) = record { number = 0; place = 0; said = 3; member = e }
