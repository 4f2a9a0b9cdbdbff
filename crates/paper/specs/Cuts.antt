-- Minimal cuts, families of sets, and how many nodes a cut diagram needs.
-- Assumes nothing.
use Rattle.std.specs.Prelude.{◌≡◌, ◌≢◌, ◌⊎◌, Bool, true, false, cond, not, ◌&&◌, ◌||◌, List, [], ◌∷◌, ◌++◌, map, ℕ}
use Rattle.std.proofs.Math.Bool.{Bool-discrete}
use Rattle.paper.specs.Lists.{keep, flat, every, has, distinct}
use Rattle.paper.specs.Sets.{Set, none, put, Part, part_of, some_event, all_sets}
use Rattle.paper.specs.Functions.{Fun, fix_f, reach, table, table_discrete, varies}
use Rattle.paper.specs.Diagrams.{Diagram, leaf, node}

-- S makes F fail, and no other part of S does
pub record MinimalCut (F : Fun) (S : Set) : Type 0 where
  pub fails : F S ≡ true
  pub minimal : (T : Set) → Part T S → T ≢ S → F T ≡ false

-- the same of a function of n events, as a test: a part of S that makes it fail is all of S
abbrev pub minimal_f : ℕ → Fun → Fun
minimal_f n F S = F S && every (λ T. not (part_of n 0 T S && F T) || part_of n 0 S T) (all_sets n 0)

-- ALL MINIMAL CUTS of a function of n events, in the order of sets
unfoldable pub cut_list : ℕ → Fun → List Set
cut_list n F = keep (minimal_f n F) (all_sets n 0)

-- ---- families

-- A family of sets of n events is the function that is true at its sets.
-- fix_fam m b: the sets that hold event m (b true) or lack it (b false), less event m
abbrev pub fix_fam : ℕ → Bool → Fun → Fun
fix_fam m b X S = cond (S m) false (X (put m b S))

-- a family other than none and the empty set alone: it has a set with an event
abbrev pub proper : ℕ → Fun → Bool
proper n X = has Bool-discrete true (map X (keep (some_event n 0) (all_sets n 0)))

-- THE FAMILIES NEEDED, by their tables: take the minimal cuts of every non-constant function that fixing the first events leaves of F,
-- and from each such family, for each m and each choice among the first m events, the sets that agree with the choice, less those
-- events; keep the families other than none and the empty set alone
abbrev pub cuts_needed : ℕ → Fun → List (List Bool)
cuts_needed n F =
    map (table n) (keep (proper n)
    (flat (reach fix_fam n 0) (map (minimal_f n) (keep (λ G. varies (table n G)) (reach fix_f n 0 F)))))

-- CUT NODES NEEDED: the number of distinct ones
unfoldable pub cut_nodes_needed : ℕ → Fun → ℕ
cut_nodes_needed n F = distinct table_discrete (cuts_needed n F)

-- ---- the family of a diagram: an event that is missing on the way is absent from the set

-- S is one of the sets that z denotes: leaf 0 is no set, leaf 1 the empty set only
abbrev pub Denotes : Diagram → Set → Type 0
Denotes (leaf b) S = (b ≡ true) × (S ≡ none)
Denotes (node e f s) S = ((T : Set) × Denotes f T × (S ≡ put e true T)) ⊎ Denotes s S

-- all of them, in order: those of the failed branch with the event put in, then those of the sound branch
abbrev pub sets_of : Diagram → List Set
sets_of (leaf b) = cond b (none ∷ []) []
sets_of (node e f s) = map (put e true) (sets_of f) ++ sets_of s

-- no node's failed branch is leaf 0
abbrev pub Suppressed : Diagram → Type 0
Suppressed (leaf b) = Unit {0}
Suppressed (node e f s) = (f ≢ leaf false) × Suppressed f × Suppressed s
