-- The arrays of a tree that was read give its gates.
-- Assumes nothing.
use mathlib.Core.Path.{◌≡◌, refl, ap}
use mathlib.Core.List.{List, [], ◌∷◌, ◌++◌, map}
use Prim.Native.Nat.{ℕ, zero, suc, ◌+◌, ◌-◌, ◌≤◌}
use native.Mathlib.Omega.{arith}
use lib.ListN.{length, get_or, take, drop, replicate, length-drop}
use lib.Seq.{take-append-le, drop-append-le}
use Rattle.paper.specs.Limits.{limits}
use Rattle.paper.specs.Lists.{sum}
use Rattle.paper.specs.Flat.{input_of, gate_of, gates_of}
use Rattle.records.specs.Judge.{Book}
use Rattle.records.specs.Memory.{pad, memory}
use Rattle.records.specs.Trees.{Lawful, tree_of}
use Rattle.records.proofs.Pad.{pad_take}

zeros_at : (n i : ℕ) → get_or {A = ℕ} (replicate n 0) i 0 ≡ 0
zeros_at zero i = refl
zeros_at (suc n) zero = refl
zeros_at (suc n) (suc i) = zeros_at n i

-- zeros behind a list are what lies behind it anyway
behind_zeros : (xs : List ℕ) (n i : ℕ) → get_or (xs ++ replicate n 0) i 0 ≡ get_or xs i 0
behind_zeros [] n i = zeros_at n i
behind_zeros (x ∷ xs) n zero = refl
behind_zeros (x ∷ xs) n (suc i) = behind_zeros xs n i

pub pad_at : (n : ℕ) (xs : List ℕ) (i : ℕ) → get_or (pad n 0 xs) i 0 ≡ get_or xs i 0
unfolding pad
pad_at n xs i = behind_zeros xs (n - length xs) i

-- gates ask of their kinds and ks what stands at a place, and of the inputs no more than their sizes want
same_gates : (kinds leasts kinds' leasts' : List ℕ) → ((i : ℕ) → get_or kinds i 0 ≡ get_or kinds' i 0) → ((i : ℕ) → get_or leasts i 0 ≡ get_or leasts' i 0)
    → (g : ℕ) (sizes xs ys : List ℕ) → sum sizes ≤ length xs → gates_of kinds leasts g sizes (xs ++ ys) ≡ gates_of kinds' leasts' g sizes xs
unfolding gates_of
same_gates kinds leasts kinds' leasts' p q g [] xs ys h = refl
same_gates kinds leasts kinds' leasts' p q g (n ∷ sizes) xs ys h =
    rw (p g, q g, take-append-le n xs ys (omega arith), drop-append-le n xs ys (omega arith))
    (ap (gate_of (get_or kinds' g 0) (get_or leasts' g 0) (map input_of (take n xs)) ∷◌)
    (same_gates kinds leasts kinds' leasts' p q (g + 1) sizes (drop n xs) ys (omega (arith, length-drop n xs))))

-- THE GATES IN MEMORY
pub gates_in_memory : (b : Book) → Lawful limits b
    → gates_of (memory b).kinds (memory b).leasts 0 (take (length b.sizes) (memory b).sizes) (memory b).inputs ≡ (tree_of b).gates
unfolding memory tree_of pad
gates_in_memory b l =
    rw (pad_take limits.gates 0 b.sizes)
    (same_gates (pad limits.gates 0 b.kinds) (pad limits.gates 0 b.leasts) b.kinds b.leasts (pad_at limits.gates b.kinds) (pad_at limits.gates b.leasts) 0
    b.sizes b.inputs (replicate (limits.in_all - length b.inputs) 0) (omega (arith, l.all_inputs)))
