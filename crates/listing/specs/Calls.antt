-- What the parts of a listing call answer.
-- Assumes nothing.
use Rattle.std.specs.Prelude.{◌≡◌, Bool, true, false, List, [], ◌∷◌, ◌++◌, ℕ, ◌+◌, ◌≤◌, ◌<◌, length, drop, replicate}
use Rattle.paper.specs.Lists.{last_or}
use Rattle.paper.specs.Sets.{Set}
use Rattle.paper.specs.Listing.{set_bytes, sets_bytes}
use Rattle.sets.specs.Words.{words, set_of}
use Rattle.listing.specs.Answers.{Short, Refused}

-- a refusal's answer
pub record Refusal (m number place count used : ℕ) (last : List ℕ) (finished : Bool) : Type 0 where
  pub is : number ≡ m
  pub no_place : place ≡ 0
  pub no_cut : count ≡ 0
  pub no_byte : used ≡ 0
  pub empty_set : last ≡ replicate words 0
  pub unfinished : finished ≡ false

-- the answer where the next cut does not fit, after k cuts and b bytes, of which L was the last
pub record Stopped (k b : ℕ) (L : List ℕ) (number place count used : ℕ) (last : List ℕ) (finished : Bool) : Type 0 where
  pub none_yet : k ≡ 0 → Refusal 14 number place count used last finished
  pub some_yet : 0 < k → (number ≡ 0) × (place ≡ 0) × (count ≡ k) × (used ≡ b) × (last ≡ L) × (finished ≡ false)

-- of the sets l some are written and the others left: all that fit, and one of them where there was any
pub record Wrote (n : ℕ) (l : List Set) (S : Set) (room room' : List ℕ) (number place count used : ℕ) (last : List ℕ) (finished : Bool) : Type 0 where
  pub written : List Set
  pub left : List Set
  pub whole : l ≡ written ++ left
  pub within : length (sets_bytes n written) ≤ length room
  pub full : (T : Set) (r : List Set) → left ≡ T ∷ r → length room < length (sets_bytes n written) + length (set_bytes n T)
  pub some : written ≡ [] → left ≡ []
  pub is : number ≡ 0
  pub no_place : place ≡ 0
  pub cuts : count ≡ length written
  pub long : used ≡ length (sets_bytes n written)
  pub bytes : room' ≡ sets_bytes n written ++ drop used room
  pub last_set : set_of last ≡ last_or S written
  pub end : (finished ≡ true → left ≡ []) × (left ≡ [] → finished ≡ true)

-- a call past 12 and 13: 14, or the sets are written
pub data Listing (n : ℕ) (l : List Set) (S : Set) (room room' : List ℕ) (number place count used : ℕ) (last : List ℕ) (finished : Bool) : Type 0 where
  short : Short n (length room) l → Refused 14 room room' number place count used last finished → Listing n l S room room' number place count used last finished
  wrote : Wrote n l S room room' number place count used last finished → Listing n l S room room' number place count used last finished
