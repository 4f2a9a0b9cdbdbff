-- The memo: quadruples of operation, two operands and result; a new one may stand over an older. Operation 0 is an empty quadruple.
-- Assumes nothing.
use Rattle.std.specs.Prelude.{◌≡◌, List, ◌⊎◌, ℕ, ◌+◌, ◌*◌, ◌%◌, ◌≤◌, get_or, length}
use Rattle.store.specs.declared.Known.{Known}
use Rattle.store.specs.declared.Known.TheVariants.{Node, Unknown}

-- whole quadruples, at least one, and no more than a hash of 32 bits reaches
pub record Places (M : List ℕ) : Type 0 where
  pub some : 4 ≤ length M
  pub few : length M ≤ 4294967296
  pub whole : length M % 4 ≡ 0

-- how many numbers of a memo of that length are used
pub record Used (length used : ℕ) : Type 0 where
  pub within : used ≤ length
  pub few : used ≤ 4294967296
  pub whole : used % 4 ≡ 0

-- each quadruple is empty, or P holds of it
pub record Memo (P : ℕ → ℕ → ℕ → ℕ → Type 0) (M : List ℕ) : Type 0 where
  pub places : Places M
  pub each : (j : ℕ) → (get_or M (4 * j) 0 ≡ 0 → ⊥) → P (get_or M (4 * j) 0) (get_or M (4 * j + 1) 0) (get_or M (4 * j + 2) 0) (get_or M (4 * j + 3) 0)

-- quadruple j
pub record Quad (M : List ℕ) (j op f g r : ℕ) : Type 0 where
  pub is_op : get_or M (4 * j) 0 ≡ op
  pub is_f : get_or M (4 * j + 1) 0 ≡ f
  pub is_g : get_or M (4 * j + 2) 0 ≡ g
  pub is_r : get_or M (4 * j + 3) 0 ≡ r

-- the memo has this quadruple
pub record Hit (M : List ℕ) (op f g r : ℕ) : Type 0 where
  pub slot : ℕ
  pub quad : Quad M slot op f g r

-- a place for a quadruple
pub record Place (M : List ℕ) (at : ℕ) : Type 0 where
  pub slot : ℕ
  pub is : at ≡ 4 * slot
  pub fits : at + 4 ≤ length M

-- at this place the memo has the operation
pub record There (M : List ℕ) (at op f g : ℕ) : Type 0 where
  pub fits : at + 4 ≤ length M
  pub is_op : get_or M at 0 ≡ op
  pub is_f : get_or M (at + 1) 0 ≡ f
  pub is_g : get_or M (at + 2) 0 ≡ g

-- each quadruple of M' is M's, or the new one
pub record Keeps (M : List ℕ) (op f g r : ℕ) (M' : List ℕ) : Type 0 where
  pub long : length M' ≡ length M
  pub each : (j : ℕ) → Quad M' j (get_or M (4 * j) 0) (get_or M (4 * j + 1) 0) (get_or M (4 * j + 2) 0) (get_or M (4 * j + 3) 0) ⊎ Quad M' j op f g r

-- what asking the memo answers: the result, or a place for it
abbrev pub Recalls : List ℕ → ℕ → ℕ → ℕ → Known → Type 0
Recalls M op f g (Node r) = Hit M op f g r
Recalls M op f g (Unknown at) = Place M at
