-- A table that grew, or whose numbers behind the stored nodes changed: what was stored stays.
-- Assumes nothing.
use mathlib.Core.Path.{◌≡◌, refl, ◌∙◌}
use mathlib.Core.List.{List}
use Prim.Native.Nat.{ℕ, ◌+◌, ◌*◌, ◌≤◌, ◌<◌}
use native.Mathlib.Omega.{arith}
use lib.ListN.{get_or}
use Rattle.tables.specs.Stored.{Kept}

-- a table depends on its first 3 * c numbers only
pub kept_numbers : {T T' : List ℕ} {c : ℕ} → ((p : ℕ) → p < 3 * c → get_or T p 0 ≡ get_or T' p 0) → Kept T T' c
kept_numbers {T} {T'} {c} h = record {
  event = λ k l. h (3 * k) (omega arith);
  failed = λ k l. h (3 * k + 1) (omega arith);
  sound = λ k l. h (3 * k + 2) (omega arith);
}

pub kept_same : (T : List ℕ) (c : ℕ) → Kept T T c
kept_same T c = record { event = λ k l. refl; failed = λ k l. refl; sound = λ k l. refl }

-- one growth after another, of which the first kept no more nodes
pub kept_then : {T T' T'' : List ℕ} {c c' : ℕ} → c ≤ c' → Kept T T' c → Kept T' T'' c' → Kept T T'' c
kept_then m h g = record {
  event = λ k l. h.event k l ∙ g.event k (omega arith);
  failed = λ k l. h.failed k l ∙ g.failed k (omega arith);
  sound = λ k l. h.sound k l ∙ g.sound k (omega arith);
}
