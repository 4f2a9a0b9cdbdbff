-- Operations on the diagrams of families: a node with failed branch 0 is dropped, and a missing event is absent from the set.
-- Assumes nothing.
use Rattle.std.proofs.Math.Logic.{ite}
use Rattle.std.specs.Prelude.{Bool, false, cond, ℕ, zero, suc, eqb, ltb}
use Rattle.paper.specs.Sets.{Set}
use Rattle.paper.specs.Diagrams.{Diagram, leaf, node, Diagram-discrete}

-- a node, unless its failed branch is leaf 0
abbrev pub mk_z : ℕ → Diagram → Diagram → Diagram
mk_z e f s = ite (Diagram-discrete f (leaf false)) s (node e f s)

abbrev pub is_one : Diagram → Bool
is_one (leaf b) = b
is_one (node e f s) = false

-- without_node d e wf ws g is d = node e f s without g, where wf and ws take f and s without a diagram
abbrev pub without_node : Diagram → ℕ → (Diagram → Diagram) → (Diagram → Diagram) → Diagram → Diagram
without_node d e wf ws (leaf b) = cond b (leaf false) d
without_node d e wf ws (node x g h) = cond (ltb e x)
    (mk_z e (wf (node x g h)) (ws (node x g h)))
    (cond (ltb x e)
    (without_node d e wf ws h)
    (mk_z e (wf g) (ws h)))

-- F without G: the sets of the family F that do not make the function G fail
abbrev pub without_d : Diagram → Diagram → Diagram
without_d (leaf b) g = cond (is_one g) (leaf false) (leaf b)
without_d (node e f s) g = without_node (node e f s) e (without_d f) (without_d s) g

-- the family of the minimal cuts: of (x, G, H) x added to the cuts of G without H, together with the cuts of H
abbrev pub cuts_d : Diagram → Diagram
cuts_d (leaf b) = leaf b
cuts_d (node e f s) = mk_z e (without_d (cuts_d f) s) (cuts_d s)

-- ---- fixing an event of a family

-- the sets with event m, less m (b true), or those without m (b false), for a diagram whose events are at least m
abbrev pub fix_z : ℕ → Bool → Diagram → Diagram
fix_z m b (leaf c) = cond b (leaf false) (leaf c)
fix_z m b (node e f s) = cond (eqb e m) (cond b f s) (cond b (leaf false) (node e f s))

-- is the set S of the k events from m on in the family?
abbrev pub holds : ℕ → ℕ → Diagram → Set → Bool
holds zero m z S = is_one z
holds (suc k) m z S = holds k (suc m) (fix_z m (S m) z) S
