-- The chances of the tree that a text says are the text's, and no line defines an event's name.
-- Assumes nothing.
use mathlib.Core.Path.{◌≡◌, refl}
use mathlib.Core.Bool.{Bool, true, false, cond, false≢true}
use mathlib.Core.List.{List, [], ◌∷◌, map}
use Prim.Native.Nat.{ℕ, zero, suc, ◌<◌}
use native.Mathlib.Omega.{arith}
use lib.ListN.{get_or, length}
use Rattle.paper.specs.Grammar.{Line, bad, chance, equation}
use Rattle.paper.specs.Texts.{Placed, says}
use Rattle.paper.specs.Equations.{has, left_of, rights_of, line_in, defined_in, numbers, dict_in, name_in, inputs_in, chance_in}
use Rattle.paper.specs.Walks.{is_event}
use Rattle.paper.specs.Meaning.{event_names, chance_for, tree_said}
use Rattle.paper.specs.Importing.{Rooted}
use Rattle.meaning.specs.Said.{Filled, AllFilled}
use Rattle.meaning.proofs.Words.{has_in, at_in}
use Rattle.meaning.proofs.Naming.{event_is}

get_d_map : {A B : Type 0} (f : A → B) (l : List A) (i : ℕ) (d : A) (c : B) → i < length l → get_or (map f l) i c ≡ f (get_or l i d)
get_d_map f [] i d c h = let b : ⊥ = omega arith in absurd b
get_d_map f (x ∷ l) zero d c h = refl
get_d_map f (x ∷ l) (suc i) d c h = get_d_map f l i d c (omega arith)

-- the chance of event e is the one given for its name, 0 if missing
pub chance_said : (ls : List Placed) (root e : ℕ) → e < length (event_names ls root) → get_or (tree_said ls root).chances e 0 ≡ chance_in (name_in ls (get_or (event_names ls root) e 0)) ls
unfolding tree_said
chance_said ls root e h = get_d_map (chance_for ls) (event_names ls root) e 0 0 h

-- ---- a name without inputs is on no left side

undefined_by : (D : List (List ℕ)) (w : List ℕ) (l : Line) → Filled l → has w (left_of l) ≡ true → is_event (numbers D (rights_of l)) ≡ true → ⊥
undefined_by D w bad f h e = has_in w [] h
undefined_by D w (chance x n) f h e = has_in w [] h
undefined_by D w (equation x c []) f h e = f
undefined_by D w (equation x c (y ∷ ys)) f h e = false≢true e

undefined : (D : List (List ℕ)) (w : List ℕ) (ls : List Placed) → AllFilled ls → is_event (numbers D (rights_of (line_in w ls))) ≡ true → defined_in w ls ≡ 0
undefined D w [] f e = refl
undefined D w (says at l ∷ ls) f e = go (has w (left_of l)) refl e (undefined D w ls f.1)
  where
    go : (t : Bool) → has w (left_of l) ≡ t → is_event (numbers D (rights_of (cond t l (line_in w ls)))) ≡ true
        → (is_event (numbers D (rights_of (line_in w ls))) ≡ true → defined_in w ls ≡ 0) → cond t (suc at) (defined_in w ls) ≡ 0
    go true h q r = absurd (undefined_by D w l f.0 h q)
    go false h q r = r q

pub event_undefined : {ls : List Placed} {root : ℕ} → AllFilled ls → Rooted ls root → (e : ℕ) → e < length (event_names ls root) → defined_in (name_in ls (get_or (event_names ls root) e 0)) ls ≡ 0
unfolding inputs_in
event_undefined {ls} {root} f r e h = undefined (dict_in ls) (name_in ls (get_or (event_names ls root) e 0)) ls f (event_is r (get_or (event_names ls root) e 0) (at_in 0 (event_names ls root) e h)).1
