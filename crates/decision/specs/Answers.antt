-- What `decides` answers of a listing's bytes, a number of events n, and a set of failures in words.
-- Assumes nothing.
use Rattle.std.specs.Prelude.{◌≡◌, ◌↔◌, Bool, true, false, List, ℕ, Result, Ok, Err}
use Rattle.paper.specs.Lists.{In}
use Rattle.paper.specs.Sets.{Set, Part}
use Rattle.paper.specs.GoodListing.{Tells, Good}
use Rattle.paper.specs.Answers.{Beyond}
use Rattle.paper.specs.declared.refusal.Refusal.{Refusal}
use Rattle.sets.specs.Words.{set_of}

-- THE SET S CONTAINS ONE of the listed cuts l: some listed cut is a part of S
abbrev pub ContainsOne : List Set → Set → Type 0
ContainsOne l S = (T : Set) × In T l × Part T S

-- an answer as one row: a number and its place, and whether the set contains a cut, which a refusal does not say
pub record Decided : Type 0 where
  pub number : ℕ
  pub place : ℕ
  pub fails : Bool

abbrev pub fails_of : Result Bool Refusal → Bool
fails_of (Ok b) = b
fails_of (Err _) = false

-- a refusal with number m: nothing is said of the set
pub record Refused (m number place : ℕ) (fails : Bool) : Type 0 where
  pub is : number ≡ m
  pub no_place : place ≡ 0
  pub unsaid : fails ≡ false

-- number 0: `fails` says whether S contains one of the cuts l
pub record Said (l : List Set) (S : Set) (number place : ℕ) (fails : Bool) : Type 0 where
  pub is : number ≡ 0
  pub no_place : place ≡ 0
  pub says : (fails ≡ true) ↔ ContainsOne l S

-- THE CONTRACT of `decides`: 20 if the bytes are no good listing; then 13 if the set has a member at or beyond the events; else 0, by the cuts that the bytes tell
pub data Decides (bytes : List ℕ) (n : ℕ) (ws : List ℕ) (number place : ℕ) (fails : Bool) : Type 0 where
  bad_listing : (Good bytes → ⊥) → Refused 20 number place fails → Decides bytes n ws number place fails
  beyond : Good bytes → Beyond n (set_of ws) → Refused 13 number place fails → Decides bytes n ws number place fails
  decided : (sets : List Set) → Tells bytes sets → (Beyond n (set_of ws) → ⊥) → Said sets (set_of ws) number place fails → Decides bytes n ws number place fails
