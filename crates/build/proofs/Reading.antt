-- The arrays of a tree that was read are what building asks for.
-- Assumes nothing.
use mathlib.Core.Path.{◌≡◌, sym, subst}
use mathlib.Core.List.{List}
use Prim.Native.Nat.{ℕ, ◌+◌, ◌-◌, ◌≤◌, ◌<◌}
use native.Mathlib.Omega.{arith}
use native.Mathlib.Decide.{ℕ_discrete}
use lib.ListN.{length, get_or, take, replicate, length-append, length-take}
use Rattle.paper.specs.Limits.{limits}
use Rattle.paper.specs.Flat.{gates_from}
use Rattle.records.specs.Judge.{Book}
use Rattle.records.specs.Memory.{pad, memory}
use Rattle.records.specs.Trees.{Lawful}
use Rattle.records.specs.declared.Tree.{Tree}
use Rattle.records.proofs.Pad.{pad_take, pad_length}
use Rattle.trees.proofs.Lawful.{least_few}
use Rattle.trees.proofs.InMemory.{pad_at}
use Rattle.build.specs.Memory.{start_of, Plan, Arrays}

pad_long : (n : ℕ) (xs : List ℕ) → length xs ≤ length (pad n 0 xs)
unfolding pad
pad_long n xs = let e = length-append xs (replicate (n - length xs) 0) in omega arith

-- sizes, kinds, ks and inputs of a lawful tree, with zeros behind
plan_pad : (b : Book) → Lawful limits b → Plan (pad limits.gates 0 b.kinds) (pad limits.gates 0 b.leasts) b.sizes (pad limits.in_all 0 b.inputs)
plan_pad b l = record {
  has_kinds = let e = l.same_kinds in let p = pad_long limits.gates b.kinds in omega arith;
  has_leasts = let e = l.same_leasts in let p = pad_long limits.gates b.leasts in omega arith;
  has_inputs = let e = l.all_inputs in let p = pad_long limits.in_all b.inputs in omega arith;
  some = λ g h. (l.sizes g h).0;
  few = λ g h. (l.sizes g h).1;
  least = λ g h. subst (λ k. k ≤ get_or b.sizes g 0) (sym (pad_at limits.gates b.leasts g)) (go g h (ℕ_discrete (get_or b.kinds g 0) 4));
  earlier = λ g j h m _. subst (λ i. i < gates_from + g) (sym (pad_at limits.in_all b.inputs (start_of b.sizes g + j))) (l.inputs g h j m).below;
}
  where
    go : (g : ℕ) → g < length b.sizes → Dec (get_or b.kinds g 0 ≡ 4) → get_or b.leasts g 0 ≤ get_or b.sizes g 0
    go g h (yes e) = least_few l g h e
    go g h (no n) = let z = l.plain g h n in omega arith

pub arrays_memory : (b : Book) → Lawful limits b → Arrays (memory b)
unfolding memory
arrays_memory b l = record {
  few_gates = l.few_gates;
  all_kinds = pad_length limits.gates 0 b.kinds (let e = l.same_kinds in let f = l.few_gates in omega arith);
  all_leasts = pad_length limits.gates 0 b.leasts (let e = l.same_leasts in let f = l.few_gates in omega arith);
  all_sizes = pad_length limits.gates 0 b.sizes l.few_gates;
  all_inputs = pad_length limits.in_all 0 b.inputs l.few_inputs;
  plan = subst (λ s. Plan (pad limits.gates 0 b.kinds) (pad limits.gates 0 b.leasts) s (pad limits.in_all 0 b.inputs)) (sym (pad_take limits.gates 0 b.sizes)) (plan_pad b l);
}

-- the sizes of its gates, as many as there are gates
pub array_sizes : {t : Tree} → Arrays t → t.gate_count ≡ length (take t.gate_count t.sizes)
array_sizes a = simp length-take (omega (arith, a.few_gates, a.all_sizes))
