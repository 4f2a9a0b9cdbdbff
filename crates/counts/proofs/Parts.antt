-- The lengths of the memory that is lent.
-- Assumes nothing.
use Rattle.std.proofs.Common.{◌≡◌, ℕ, ◌≤◌, length, take, replicate, sym, arith, length-take-le}
use lib.ListN.{length-replicate}

pub part_long : (n N : ℕ) → n ≤ N → n ≡ length {A = ℕ} (take n (replicate N 7))
part_long n N h = sym (length-take-le n (replicate N 7) (let e = length-replicate {A = ℕ} N 7 in omega arith))
