-- THE CHANCES ARE NOT SEEN: of the events an analysis uses the number alone.
-- Assumes nothing.
use mathlib.Core.Path.{◌≡◌, sym, ap, ◌∙◌, subst}
use mathlib.Core.Bool.{true, false}
use mathlib.Core.List.{List}
use Prim.Native.Nat.{ℕ, ◌+◌, ◌-◌, ◌<◌}
use lib.ListN.{length, take}
use Rattle.paper.specs.Trees.{Gate, Tree, root_fun}
use Rattle.paper.specs.Steps.{step_funs}
use Rattle.paper.specs.Nodes.{needed, nodes_needed}
use Rattle.paper.specs.Cuts.{cut_list, cuts_needed, cut_nodes_needed}
use Rattle.paper.specs.Answers.{NodesFull, FilledAt, CutsFull}
use Rattle.memory.specs.Memory.{Memory}
use Rattle.memory.specs.Outcome.{function_of, family_of, Table, Holds, GateList, AddedList, Done}
use Rattle.memory.specs.Analysis.{Analysis}
use Rattle.analysis.specs.Completing.{CutsFilled}
use Rattle.analysis.specs.Filling.{Filled}

module _ (C C' : List ℕ) (G : List Gate) (e : length C ≡ length C') where
  abbrev t : Tree
  t = record { chances = C; gates = G }

  abbrev u : Tree
  u = record { chances = C'; gates = G }

  -- more nodes than so many, by the first g gates
  more : (k g : ℕ) → k < nodes_needed (length C) (step_funs (take g G)) → k < nodes_needed (length C') (step_funs (take g G))
  more k g = subst (λ n. k < nodes_needed n (step_funs (take g G))) e

  less : (k g : ℕ) → k < nodes_needed (length C') (step_funs (take g G)) → k < nodes_needed (length C) (step_funs (take g G))
  less k g = subst (λ n. k < nodes_needed n (step_funs (take g G))) (sym e)

  filled_unseen : {k g : ℕ} → FilledAt t k g → FilledAt u k g
  filled_unseen {k} {g} f = record { inside = f.inside; over = more k (g + 1) f.over; least = λ h l. f.least h (less k (h + 1) l) }

  nodes_unseen : {k : ℕ} → (NodesFull t k → ⊥) → NodesFull u k → ⊥
  nodes_unseen {k} f h = f (subst (λ n. k < nodes_needed n (step_funs G)) (sym e) h)

  cuts_unseen : {k : ℕ} → CutsFull t k → CutsFull u k
  cuts_unseen {k} = subst (λ n. k < cut_nodes_needed n (root_fun G)) e

  fit_unseen : {k : ℕ} → (CutsFull t k → ⊥) → CutsFull u k → ⊥
  fit_unseen {k} f h = f (subst (λ n. k < cut_nodes_needed n (root_fun G)) (sym e) h)

  list_unseen : {T L : List ℕ} {c : ℕ} → GateList t T L c → GateList u T L c
  list_unseen l = record { stored = l.stored; shows = l.shows; behind = l.behind }

  added_unseen : {A : List ℕ} → AddedList t A → AddedList u A
  added_unseen l = record { each = λ g h. l.each g h ∙ ap (λ n. nodes_needed n (step_funs (take (g + 1) G)) - nodes_needed n (step_funs (take g G))) e; behind = l.behind }

  done_unseen : {m m' : Memory} {a : Analysis} → Done t m m' a → Done u m m' a
  done_unseen {m} {m'} {a} d = record {
    number = d.number;
    place = d.place;
    node_count = d.node_count ∙ ap (λ n. nodes_needed n (step_funs G)) e;
    cut_count = d.cut_count ∙ ap (λ n. cut_nodes_needed n (root_fun G)) e;
    node_table = subst (λ n. Table false n m'.nodes a.nodes a.root) e d.node_table;
    cut_table = subst (λ n. Table true n m'.cuts a.cut_nodes a.cut_root) e d.cut_table;
    nodes_needed = subst (λ n. Holds (function_of n m'.nodes) a.nodes (needed n (step_funs G))) e d.nodes_needed;
    cuts_needed = subst (λ n. Holds (family_of n m'.cuts) a.cut_nodes (cuts_needed n (root_fun G))) e d.cuts_needed;
    nodes_long = d.nodes_long;
    cuts_long = d.cuts_long;
    gates_long = d.gates_long;
    added_long = d.added_long;
    gate_list = list_unseen d.gate_list;
    added_list = added_unseen d.added_list;
    root_is = d.root_is;
    cuts_are = d.cuts_are ∙ ap (λ n. cut_list n (root_fun G)) e;
    memo = d.memo;
    heads = d.heads;
    next = d.next;
    marks = d.marks;
    own = d.own;
  }

  pub filling_unseen : {m m' : Memory} {a : Analysis} → Filled (record { chances = C; gates = G }) m m' a → Filled (record { chances = C'; gates = G }) m m' a
  filling_unseen (Filled.nodes_full g f r z) = Filled.nodes_full g (filled_unseen f) r z
  filling_unseen {m} (Filled.nodes_fit f (CutsFilled.cuts_full c r z)) = Filled.nodes_fit (nodes_unseen f) (CutsFilled.cuts_full (cuts_unseen c) r z)
  filling_unseen {m} (Filled.nodes_fit f (CutsFilled.done c d)) = Filled.nodes_fit (nodes_unseen f) (CutsFilled.done (fit_unseen c) (done_unseen d))
