-- THE LIST ALONE: what the bytes of a listing say of the root's failing, to one who has neither the tree nor its tables.
-- F is the function of the root: whether the root fails where exactly these events fail.
-- Assumes nothing.
use Rattle.std.specs.Prelude.{◌≡◌, ◌≢◌, ◌↔◌, Bool, true, List, ◌∷◌, ◌++◌, ℕ}
use Rattle.paper.specs.Sets.{Set}
use Rattle.paper.specs.Functions.{Fun}
use Rattle.paper.specs.GoodListing.{Tells}
use Rattle.paper.specs.Answers.{Beyond}
use Rattle.sets.specs.Words.{set_of}
use Rattle.listing.specs.Joined.{Joined}
use Rattle.decision.specs.Answers.{ContainsOne, Decides}
use Rattle.memory.specs.Memory.{Memory}
use Rattle.memory.specs.Analysis.{Analysis}

-- The bytes tell these sets, and no others. A set of failures fails the root exactly if it contains one of them. Leaving any of them off the list breaks
-- this: that set itself fails the root, and contains none of those that are left.
pub record ListAlone (F : Fun) (bytes : List ℕ) : Type 0 where
  pub sets : List Set
  pub tells : Tells bytes sets
  pub only : (l : List Set) → Tells bytes l → l ≡ sets
  pub decides : (S : Set) → (F S ≡ true) ↔ ContainsOne sets S
  pub needs : (before after : List Set) (C : Set) → sets ≡ before ++ (C ∷ after) → (F C ≡ true) × (ContainsOne (before ++ after) C → ⊥)

-- What `decides` answers, of these bytes, a number of events and a set in words: never 20; 13 for a set beyond the events alone; else 0, and `fails`
-- exactly if the set fails the root.
pub record Answers (F : Fun) (bytes : List ℕ) : Type 0 where
  pub not_bad : {n : ℕ} {ws : List ℕ} {number place : ℕ} {fails : Bool} → Decides bytes n ws number place fails → number ≢ 20
  pub beyond : {n : ℕ} {ws : List ℕ} {number place : ℕ} {fails : Bool} → Decides bytes n ws number place fails → (number ≡ 13) ↔ Beyond n (set_of ws)
  pub answers : {n : ℕ} {ws : List ℕ} {number place : ℕ} {fails : Bool} → Decides bytes n ws number place fails → (Beyond n (set_of ws) → ⊥)
      → (number ≡ 0) × ((fails ≡ true) ↔ (F (set_of ws) ≡ true))

-- Of the tables of an analysis: for whatever number of events and in rooms of whatever sizes, one size or changing from call to call, `list` answered 0 up to its
-- end, the bytes of its calls, joined, decide alone, are the same bytes, and are answered by `decides` as the root fails.
pub record Insured (F : Fun) (m : Memory) (a : Analysis) : Type 0 where
  pub alone : {n : ℕ} {ws bytes : List ℕ} → Joined n m.cuts a.cut_nodes a.cut_root true ws bytes → ListAlone F bytes
  pub same : {n n' : ℕ} {ws ws' bytes bytes' : List ℕ} → Joined n m.cuts a.cut_nodes a.cut_root true ws bytes
      → Joined n' m.cuts a.cut_nodes a.cut_root true ws' bytes' → bytes ≡ bytes'
  pub decided : {n : ℕ} {ws bytes : List ℕ} → Joined n m.cuts a.cut_nodes a.cut_root true ws bytes → Answers F bytes
