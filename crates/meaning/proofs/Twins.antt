-- A name's twin is its input's: the distinct names of a line are those of the gate's distinct inputs, in a text that is read and in a tree's own.
-- Assumes nothing.
use mathlib.Core.Path.{◌≡◌, refl, sym, ap, ◌∙◌, subst}
use mathlib.Core.Bool.{Bool, true, false, cond, false≢true}
use mathlib.Core.List.{List, map}
use Prim.Native.Nat.{ℕ, ◌<◌}
use borrow.Author.Tests.{eq-eqb, eqb-true}
use lib.Dec.{eqb}
use lib.ListN.{get_or, length}
use Rattle.paper.specs.Lists.{In}
use Rattle.paper.specs.Bytes.{same}
use Rattle.paper.specs.Twins.{firsts}
use Rattle.paper.specs.Trees.{Input, event, gate, forced, same_input, distinct_inputs}
use Rattle.paper.specs.Texts.{Placed}
use Rattle.paper.specs.Equations.{dict_in, name_in, names_in, numbers, number_of, inputs_in}
use Rattle.paper.specs.Walks.{is_event}
use Rattle.paper.specs.Meaning.{event_names, gate_names, place_in, input_for}
use Rattle.paper.specs.Importing.{Rooted}
use Rattle.paper.specs.Exporting.{event_name, gate_name, input_name}
use Rattle.twins.proofs.Firsts.{firsts_map}
use Rattle.algebra.proofs.Lists.{bool_iff, map_map}
use Rattle.depthfirst.proofs.Counting.{place_is}
use Rattle.meaning.proofs.Words.{same_refl, same_eq, not_same, number_low, in_dict, name_of_number}
use Rattle.meaning.proofs.Naming.{event_in_lem, gate_in}
use Rattle.meaning.proofs.Decimals.{small, gate_inj, event_inj, event_no_gate}

same_itself : (i : Input) → same_input i i ≡ true
same_itself (event e) = eq-eqb e e refl
same_itself (gate g) = eq-eqb g g refl
same_itself (forced e true) = rw (eq-eqb e e refl)
same_itself (forced e false) = rw (eq-eqb e e refl)

place_apart : (l : List ℕ) (x y : ℕ) → In x l → In y l → eqb (place_in x l) (place_in y l) ≡ true → x ≡ y
place_apart l x y h k e = sym (place_is x l h) ∙ ap (λ j. get_or l j 0) (eqb-true (place_in x l) (place_in y l) e) ∙ place_is y l k

-- ---- a text that is read

module _ {ls : List Placed} {root : ℕ} (r : Rooted ls root) where
  -- the same input is the same name's
  input_apart : (x y : ℕ) → x < length (dict_in ls) → y < length (dict_in ls) → same_input (input_for ls root x) (input_for ls root y) ≡ true → x ≡ y
  input_apart x y h k = go (is_event (inputs_in ls x)) (is_event (inputs_in ls y)) refl refl
    where
      go : (s t : Bool) → is_event (inputs_in ls x) ≡ s → is_event (inputs_in ls y) ≡ t
          → same_input (cond s (event (place_in x (event_names ls root))) (gate (place_in x (gate_names ls root))))
          (cond t (event (place_in y (event_names ls root))) (gate (place_in y (gate_names ls root)))) ≡ true → x ≡ y
      go true true p q e = place_apart (event_names ls root) x y (event_in_lem r x h p) (event_in_lem r y k q) e
      go true false p q e = absurd (false≢true e)
      go false true p q e = absurd (false≢true e)
      go false false p q e = place_apart (gate_names ls root) x y (gate_in r x h p) (gate_in r y k q) e

  abbrev input_named : List ℕ → Input
  input_named y = input_for ls root (number_of y (dict_in ls))

  same_named : (a b : List ℕ) → In a (names_in ls) → In b (names_in ls) → same_input (input_named a) (input_named b) ≡ same a b
  same_named a b h k = bool_iff (same_input (input_named a) (input_named b)) (same a b)
      (λ e. subst (λ c. same a c ≡ true) (sym (name_of_number a ls h) ∙ ap (name_in ls) (one e) ∙ name_of_number b ls k) (same_refl a))
      (λ e. subst (λ c. same_input (input_named a) (input_named c) ≡ true) (same_eq a b e) (same_itself (input_named a)))
    where
      one : same_input (input_named a) (input_named b) ≡ true → number_of a (dict_in ls) ≡ number_of b (dict_in ls)
      one e = input_apart (number_of a (dict_in ls)) (number_of b (dict_in ls)) (number_low a (dict_in ls) (in_dict a ls h)) (number_low b (dict_in ls) (in_dict b ls k)) e

  -- THE DISTINCT INPUTS that these names are, are those that the distinct names are
  pub distinct_named : (ys : List (List ℕ)) → ((y : List ℕ) → In y ys → In y (names_in ls))
      → distinct_inputs (map (input_for ls root) (numbers (dict_in ls) ys)) ≡ map (input_for ls root) (numbers (dict_in ls) (firsts same ys))
  distinct_named ys h =
      ap distinct_inputs (sym (map_map (input_for ls root) (λ y. number_of y (dict_in ls)) ys))
      ∙ firsts_map same same_input input_named ys (λ a b k l. same_named a b (h a k) (h b l))
      ∙ map_map (input_for ls root) (λ y. number_of y (dict_in ls)) (firsts same ys)

-- ---- a tree's own text

-- an input that can be typed, by its number
abbrev pub Small : Input → Type 0
Small (event e) = e < small
Small (gate g) = g < small
Small (forced e b) = ⊥

same_names : (i j : Input) → Small i → Small j → same (input_name i) (input_name j) ≡ same_input i j
same_names (event e) (event f) h k = bool_iff (same (event_name e) (event_name f)) (eqb e f)
    (λ q. eq-eqb e f (event_inj e f h k (same_eq (event_name e) (event_name f) q)))
    (λ q. subst (λ z. same (event_name e) (event_name z) ≡ true) (eqb-true e f q) (same_refl (event_name e)))
same_names (event e) (gate g) h k = not_same (event_name e) (gate_name g) (event_no_gate e g k)
same_names (event e) (forced f b) h k = absurd k
same_names (gate g) (event e) h k = not_same (gate_name g) (event_name e) (λ q. event_no_gate e g h (sym q))
same_names (gate g) (forced f b) h k = absurd k
same_names (forced f b) j h k = absurd h
same_names (gate g) (gate j) h k = bool_iff (same (gate_name g) (gate_name j)) (eqb g j)
    (λ q. eq-eqb g j (gate_inj g j h k (same_eq (gate_name g) (gate_name j) q)))
    (λ q. subst (λ z. same (gate_name g) (gate_name z) ≡ true) (eqb-true g j q) (same_refl (gate_name g)))

-- THE DISTINCT NAMES of these inputs are the names of the distinct ones
pub distinct_names : (is : List Input) → ((i : Input) → In i is → Small i) → firsts same (map input_name is) ≡ map input_name (distinct_inputs is)
distinct_names is h = firsts_map same_input same input_name is (λ i j k l. same_names i j (h i k) (h j l))
