-- Operations on function diagrams: joining, fixing an event, the nodes that stand in a diagram, and the diagrams of a tree's steps.
-- Assumes nothing.
use Rattle.std.specs.Prelude.{Bool, true, false, cond, List, [], ◌∷◌, ◌++◌, ℕ, eqb, ltb}
use Rattle.std.specs.Bool.{beq}
use Rattle.paper.specs.Lists.{keep, flat, distinct}
use Rattle.paper.specs.Trees.{Gate}
use Rattle.paper.specs.Steps.{values_from, steps_from}
use Rattle.paper.specs.Diagrams.{Diagram, leaf, node, Diagram-discrete, mk_d}

-- join_node z d e jf js g joins d = node e f s with g, where jf and js join f and s with a diagram
abbrev pub join_node : Bool → Diagram → ℕ → (Diagram → Diagram) → (Diagram → Diagram) → Diagram → Diagram
join_node z d e jf js (leaf b) = cond (beq b z) (leaf z) d
join_node z d e jf js (node x g h) = cond (ltb e x)
    (mk_d e (jf (node x g h)) (js (node x g h)))
    (cond (ltb x e)
    (mk_d x (join_node z d e jf js g) (join_node z d e jf js h))
    (mk_d e (jf g) (js h)))

-- and with z false, or with z true: z is the leaf that decides
abbrev pub join_d : Bool → Diagram → Diagram → Diagram
join_d z (leaf b) g = cond (beq b z) (leaf z) g
join_d z (node e f s) g = join_node z (node e f s) e (join_d z f) (join_d z s) g

-- the diagram with event m fixed, for a diagram whose events are at least m
abbrev pub fix_d : ℕ → Bool → Diagram → Diagram
fix_d m b (leaf c) = leaf c
fix_d m b (node e f s) = cond (eqb e m) (cond b f s) (node e f s)

-- every sub-diagram
abbrev pub subs : Diagram → List Diagram
subs (leaf b) = leaf b ∷ []
subs (node e f s) = node e f s ∷ (subs f ++ subs s)

abbrev pub is_node : Diagram → Bool
is_node (leaf b) = false
is_node (node e f s) = true

-- the number of distinct nodes of some diagrams
unfoldable pub node_count : List Diagram → ℕ
node_count ds = distinct Diagram-discrete (keep is_node (flat subs ds))

-- ---- the diagrams of a tree

abbrev pub event_d : ℕ → Diagram
event_d e = node e (leaf true) (leaf false)

-- of each gate, and of each step
unfoldable pub gate_diagrams : List Gate → List Diagram
gate_diagrams t = values_from event_d leaf join_d [] t

unfoldable pub step_diagrams : List Gate → List Diagram
step_diagrams t = steps_from event_d leaf join_d [] t
