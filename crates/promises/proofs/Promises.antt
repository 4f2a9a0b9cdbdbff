-- What the numbers of a done analysis say: theorems over the contract of `analyse` alone.
-- Assumes nothing.
use mathlib.Core.Path.{◌≡◌, sym, ap, ◌∙◌, subst}
use mathlib.Core.Logic.{◌↔◌}
use mathlib.Core.Bool.{true, false}
use mathlib.Core.List.{List, [], ◌∷◌, ◌++◌}
use Prim.Native.Nat.{ℕ, ◌+◌, ◌-◌, ◌≤◌, ◌<◌}
use native.Mathlib.Omega.{arith}
use lib.ListN.{length, get_or, length-append}
use Rattle.paper.specs.Lists.{In}
use Rattle.paper.specs.Sets.{Set, Within}
use Rattle.paper.specs.Functions.{Fun}
use Rattle.paper.specs.Trees.{Gate, Tree, events, const_f, gate_fun, gate_funs_from, gate_funs, root_fun}
use Rattle.paper.specs.Diagrams.{eval}
use Rattle.paper.specs.Cuts.{sets_of}
use Rattle.algebra.specs.Families.{holds}
use Rattle.algebra.proofs.Lists.{last_is}
use Rattle.algebra.proofs.Kind.{table_inj}
use Rattle.algebra.proofs.Plain.{plain, Good, canonical}
use Rattle.algebra.proofs.Without.{Tidy}
use Rattle.algebra.proofs.Zero.{suppressed, sets_hold, hold_sets}
use Rattle.algebra.proofs.Listing.{trim_whole}
use Rattle.tables.specs.Table.{den}
use Rattle.tables.proofs.Lent.{lent_lower, lent_ordered, lent_suppressed}
use Rattle.tables.proofs.Once.{den_inj, lent_good}
use Rattle.memory.specs.Memory.{Memory}
use Rattle.memory.specs.Outcome.{function_of, family_of, Done}
use Rattle.memory.specs.Analysis.{Analysis}

-- ---- the last gate's function is the root's

funs_from : (gs : List Fun) (t : List Gate) → length (gate_funs_from gs t) ≡ length gs + length t
funs_from gs [] = omega arith
funs_from gs (g ∷ t) = let e = funs_from (gs ++ (gate_fun gs g ∷ [])) t in let l = length-append gs (gate_fun gs g ∷ []) in omega arith

last_gate : (t : List Gate) → get_or (gate_funs t) (length t - 1) (const_f false) ≡ root_fun t
unfolding gate_funs root_fun
last_gate t = let e = funs_from [] t in let q : length t - 1 ≡ length (gate_funs_from [] t) - 1 = omega arith in
    ap (λ i. get_or (gate_funs_from [] t) i (const_f false)) q ∙ last_is (const_f false) (gate_funs_from [] t)

module _ {t : Tree} {m m' : Memory} {a : Analysis} (d : Done t m m' a) where
  -- THE ROOT denotes the root's function
  pub root_function : 1 ≤ length t.gates → eval (den m'.nodes a.root) ≡ root_fun t.gates
  root_function some = ap (λ r. eval (den m'.nodes r)) d.root_is ∙ d.gate_list.shows (length t.gates - 1) (omega arith) ∙ last_gate t.gates

  -- ONE NUMBER FOR ONE FUNCTION, and for one family
  pub functions_apart : (i j : ℕ) → i < a.nodes + 2 → j < a.nodes + 2 → function_of (events t) m'.nodes i ≡ function_of (events t) m'.nodes j → i ≡ j
  functions_apart i j h k e = den_inj (lent_lower d.node_table.lent) d.node_table.unique h k
      (table_inj (events t) (plain (events t)) (den m'.nodes i) (den m'.nodes j) (lent_good d.node_table.lent d.node_table.unique i h) (lent_good d.node_table.lent d.node_table.unique j k) e)

  tidy : (i : ℕ) → i < a.cut_nodes + 2 → Tidy 0 (events t) (den m'.cuts i)
  tidy i h = (lent_ordered d.cut_table.lent h, lent_suppressed d.cut_table.lent h)

  pub families_apart : (i j : ℕ) → i < a.cut_nodes + 2 → j < a.cut_nodes + 2 → family_of (events t) m'.cuts i ≡ family_of (events t) m'.cuts j → i ≡ j
  families_apart i j h k e = den_inj (lent_lower d.cut_table.lent) d.cut_table.unique h k
      (table_inj (events t) (suppressed (events t)) (den m'.cuts i) (den m'.cuts j) (tidy i h) (tidy j k) e)

  -- a number's family is true at the sets that it denotes
  pub family_sets : (i : ℕ) → i < a.cut_nodes + 2 → (S : Set) → Within (events t) S → (holds (events t) 0 (den m'.cuts i) S ≡ true) ↔ In S (sets_of (den m'.cuts i))
  family_sets i h S w = (
    (λ q. subst (λ U. In U (sets_of (den m'.cuts i))) (trim_whole (events t) S w) (hold_sets (events t) 0 (events t) (omega arith) (den m'.cuts i) (tidy i h).0 S q)),
    (λ k. sets_hold (events t) 0 (events t) (omega arith) (den m'.cuts i) (tidy i h).0 S k),
  )

  good : (i : ℕ) → i < length t.gates → Good (events t) 0 (den m'.nodes (get_or m'.gates i 0))
  good i h = lent_good d.node_table.lent d.node_table.unique (get_or m'.gates i 0) (d.gate_list.stored i h)

  -- so two gates have the same number exactly when they agree on every set
  pub gates_agree : (i j : ℕ) → i < length t.gates → j < length t.gates
      → (get_or m'.gates i 0 ≡ get_or m'.gates j 0) ↔ ((v : Set) → get_or (gate_funs t.gates) i (const_f false) v ≡ get_or (gate_funs t.gates) j (const_f false) v)
  gates_agree i j hi hj = (
    (λ e v. sym (ap (λ F. F v) (d.gate_list.shows i hi)) ∙ ap (λ r. eval (den m'.nodes r) v) e ∙ ap (λ F. F v) (d.gate_list.shows j hj)),
    (λ h. den_inj (lent_lower d.node_table.lent) d.node_table.unique (d.gate_list.stored i hi) (d.gate_list.stored j hj)
        (canonical (events t) (den m'.nodes (get_or m'.gates i 0)) (den m'.nodes (get_or m'.gates j 0)) (good i hi).0 (good j hj).0 (good i hi).1 (good j hj).1
        (λ v. ap (λ F. F v) (d.gate_list.shows i hi) ∙ h v ∙ sym (ap (λ F. F v) (d.gate_list.shows j hj))))),
  )
