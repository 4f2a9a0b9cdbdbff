-- THE TREE THAT IS PLANTED is the tree that the text says: it breaks the same limit, and where it breaks none they are one tree.
-- Assumes nothing.
use mathlib.Core.Path.{◌≡◌, sym, ap, ◌∙◌, subst}
use mathlib.Core.Bool.{cond}
use mathlib.Core.List.{List, map}
use Prim.Native.Nat.{ℕ, ◌<◌}
use lib.ListN.{get_or, take}
use Rattle.paper.specs.Limits.{limits}
use Rattle.paper.specs.Lists.{In}
use Rattle.paper.specs.Trees.{event, gate, Tree}
use Rattle.paper.specs.Flat.{gate_of}
use Rattle.paper.specs.Texts.{Placed, lines_of}
use Rattle.paper.specs.Equations.{inputs_in}
use Rattle.paper.specs.Walks.{OneRoot, LeadsBack, preorder, postorder, is_event, events_of, gates_of}
use Rattle.paper.specs.Meaning.{event_names, gate_names, place_in, input_for, gate_for, chance_for, tree_said}
use Rattle.paper.specs.Importing.{or_else, events_break, gates_break, broken, Rooted}
use Rattle.rules.proofs.Cases.{either}
use Rattle.records.proofs.Breaks.{broken_events, broken_gates}
use Rattle.lines.specs.Reading.{Capped}
use Rattle.depthfirst.specs.Inputs.{inputs_of}
use Rattle.depthfirst.specs.Answers.{Numbers}
use Rattle.depthfirst.proofs.All.{input_low}
use Rattle.depthfirst.proofs.Answers.{none_back, root_said, events_said, gates_said, event_number, gate_number}
use Rattle.meaning.proofs.Gates.{gates_in, events_in}
use Rattle.planting.specs.Orders.{input_at, gate_at, chances_among, gates_among, tree_among}
use Rattle.equations.specs.Knowing.{Known, Climbed}
use Rattle.equations.specs.Kinds.{CappedGate, KindsOf}
use Rattle.equations.proofs.Rings.{map_same}
use Rattle.equations.proofs.Capped.{events_same, events_equal, gates_same, gates_equal}

module _ {text : List ℕ} {c : ℕ} {N F G S I : List ℕ} (k : Known text c N F G S I) {Q : List ℕ} {left : ℕ} (w : Climbed S I c Q left) where
  abbrev ls : List Placed
  ls = lines_of text

  abbrev root : ℕ
  root = w.root

  abbrev order : List ℕ
  order = take left Q

  pub climbed_rooted : Rooted ls root
  climbed_rooted = record {
    lines = k.lines;
    ringless = λ b. none_back k.arrays k.same w.all (subst (λ m. LeadsBack (inputs_in ls) m) (sym k.count) b);
    one = subst (λ m. OneRoot (inputs_in ls) m root) k.count (root_said k.arrays k.same w.one);
  }

  pub events_are : events_of (inputs_of S I) order ≡ event_names ls root
  unfolding event_names
  events_are = events_said k.arrays k.same w.all w.one w.way ∙ ap (λ m. events_of (inputs_in ls) (preorder (inputs_in ls) m root)) k.count

  pub gates_are : gates_of (inputs_of S I) order ≡ gate_names ls root
  unfolding gate_names
  gates_are = gates_said k.arrays k.same w.all w.one w.way ∙ ap (λ m. gates_of (inputs_in ls) (postorder (inputs_in ls) m root)) k.count

  event_low : (x : ℕ) → In x (events_of (inputs_of S I) order) → x < c
  event_low x h = w.way.low x (events_in (inputs_of S I) x order h).0

  gate_low : (x : ℕ) → In x (gates_of (inputs_of S I) order) → x < c
  gate_low x h = w.way.low x (gates_in (inputs_of S I) x order h).0

  -- ---- the numbers of the names

  module _ {U : List ℕ} {e h : ℕ} (n : Numbers (inputs_of S I) order U e h) where
    input_is : (y : ℕ) → y < c → input_at S I U y ≡ input_for ls root y
    unfolding event_names gate_names
    input_is y l =
        either (is_event (inputs_in ls y))
        (λ b. ap (λ t. cond t (event (get_or U y 0)) (gate (get_or U y 0))) (ap is_event (k.same y l) ∙ b)
        ∙ ap event (event_number k.arrays k.same w.all w.one w.way n y l b ∙ ap (λ m. place_in y (events_of (inputs_in ls) (preorder (inputs_in ls) m root))) k.count)
        ∙ sym (ap (λ t. cond t (event (place_in y (event_names ls root))) (gate (place_in y (gate_names ls root)))) b))
        (λ b. ap (λ t. cond t (event (get_or U y 0)) (gate (get_or U y 0))) (ap is_event (k.same y l) ∙ b)
        ∙ ap gate (gate_number k.arrays k.same w.all w.one w.way n y l b ∙ ap (λ m. place_in y (gates_of (inputs_in ls) (postorder (inputs_in ls) m root))) k.count)
        ∙ sym (ap (λ t. cond t (event (place_in y (event_names ls root))) (gate (place_in y (gate_names ls root)))) b))

    inputs_are : (x : ℕ) → x < c → map (input_at S I U) (inputs_of S I x) ≡ map (input_for ls root) (inputs_in ls x)
    inputs_are x l = map_same (inputs_of S I x) (λ y i. input_is y (input_low k.arrays x y i)) ∙ ap (map (input_for ls root)) (k.same x l)

    -- ---- and their kinds

    module _ {K L : List ℕ} (q : KindsOf text c K L) where
      abbrev planted : Tree
      planted = tree_among S I G U K L order

      gate_is : (x : ℕ) → x < c → CappedGate (gate_for ls root x) (gate_at S I U K L x)
      unfolding gate_at
      gate_is x l = subst (λ is. CappedGate (gate_for ls root x) (gate_of (get_or K x 0) (get_or L x 0) is)) (sym (inputs_are x l)) ((q.each x l).gate (map (input_for ls root) (inputs_in ls x)))

      chance_capped : (x : ℕ) → In x (events_of (inputs_of S I) order) → Capped (chance_for ls x) (get_or G x 0)
      chance_capped x i = k.chances x (event_low x i)

      gate_capped : (x : ℕ) → In x (gates_of (inputs_of S I) order) → CappedGate (gate_for ls root x) (gate_at S I U K L x)
      gate_capped x i = gate_is x (gate_low x i)

      said_chances : map (chance_for ls) (events_of (inputs_of S I) order) ≡ (tree_said ls root).chances
      unfolding tree_said
      said_chances = ap (map (chance_for ls)) events_are

      said_gates : map (gate_for ls root) (gates_of (inputs_of S I) order) ≡ (tree_said ls root).gates
      unfolding tree_said
      said_gates = ap (map (gate_for ls root)) gates_are

      pub planted_number : broken limits planted ≡ broken limits (tree_said ls root)
      unfolding broken chances_among gates_among
      planted_number =
          let a : events_break limits 0 planted.chances ≡ events_break limits 0 (tree_said ls root).chances
          = sym (events_same (events_of (inputs_of S I) order) 0 chance_capped) ∙ ap (events_break limits 0) said_chances in
          let b : gates_break limits 0 0 planted.gates ≡ gates_break limits 0 0 (tree_said ls root).gates
          = sym (gates_same (gates_of (inputs_of S I) order) 0 0 gate_capped) ∙ ap (gates_break limits 0 0) said_gates in
          ap (λ m. or_else m (gates_break limits 0 0 planted.gates)) a ∙ ap (or_else (events_break limits 0 (tree_said ls root).chances)) b

      pub planted_tree : broken limits planted ≡ 0 → planted ≡ tree_said ls root
      unfolding chances_among gates_among
      planted_tree z i = record {
        chances = (events_equal (events_of (inputs_of S I) order) 0 chance_capped (broken_events limits planted z) ∙ said_chances) i;
        gates = (gates_equal (gates_of (inputs_of S I) order) 0 0 gate_capped (broken_gates limits planted z) ∙ said_gates) i;
      }
