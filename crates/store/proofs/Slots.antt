-- The first slot of a triple: below the number of slots, and the same for equal triples.
-- Assumes nothing.
use mathlib.Core.Path.{◌≡◌}
use mathlib.Core.List.{List}
use Prim.Native.Nat.{ℕ, zero, suc, ◌*◌, ◌/◌, ◌<◌, ◌≤◌}
use native.Mathlib.Nat.{mul-lt-mul_of_pos_right, mul-zero}
use native.Mathlib.Omega.{arith}
use Rattle.store.specs.Store.{mix, first_slot, chain_at, Triple}

-- a number of 32 bits scaled to so many places
scaled : (y m : ℕ) → y < 4294967296 → 1 ≤ m → y * m < 4294967296 * m
scaled y m l p = mul-lt-mul_of_pos_right l p

pub scaled_fits : (y m : ℕ) → y < 4294967296 → m ≤ 4294967296 → y * m < 18446744073709551616
scaled_fits y zero l q = rw (mul-zero y) (omega arith)
scaled_fits y (suc m) l q = let z = scaled y (suc m) l (omega arith) in omega arith

pub scaled_below : (y m slots : ℕ) → y < 4294967296 → m ≤ slots → 1 ≤ slots → y * m / 4294967296 < slots
scaled_below y zero slots l q p = rw (mul-zero y) (omega arith)
scaled_below y (suc m) slots l q p = let z = scaled y (suc m) l (omega arith) in omega arith

-- the one law that looks inside
pub mix_below : (e f s : ℕ) → mix e f s < 4294967296
unfolding mix
mix_below e f s = omega arith

-- equal triples are sought from the same slot
pub same_chain : {T : List ℕ} {k e f s : ℕ} → Triple T k e f s → (slots : ℕ) → chain_at T slots k ≡ first_slot e f s slots
same_chain t slots = λ j. first_slot (t.event j) (t.failed j) (t.sound j) slots
