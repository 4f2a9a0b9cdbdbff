-- GATES OF ONE MEANING HAVE ONE NODE: at least 1 of any inputs has the or's, at least as many as are distinct the and's.
-- Assumes nothing.
use mathlib.Core.Path.{◌≡◌, refl, sym, ap, ap₂, ◌∙◌, subst}
use mathlib.Core.Bool.{false}
use mathlib.Core.List.{List, [], ◌∷◌, ◌++◌, map}
use Prim.Native.Nat.{ℕ, zero, suc, ◌+◌, ◌<◌}
use native.Mathlib.Omega.{arith}
use lib.ListN.{length, get_or, length-append, get_or-append}
use lib.Seq.{get_or-append_seam}
use lib.Dec.{leb}
use Rattle.paper.specs.Functions.{Fun}
use Rattle.paper.specs.Trees.{Input, event, gate, forced, Gate, and_g, or_g, least_g, same_input, distinct_inputs, const_f, every_fails, some_fails, count_fails, input_fun, gate_fun, gate_funs_from, gate_funs}
use Rattle.twins.proofs.Firsts.{firsts_in}
use Rattle.algebra.proofs.Lists.{map_agree, map_same}
use Rattle.algebra.proofs.Least.{least_one, least_all}
use Rattle.records.specs.Trees.{tree_of, InputsLower, GateLower, TreeLower}
use Rattle.trees.proofs.Lawful.{lawful, tree_below}
use Rattle.memory.specs.Memory.{Memory}
use Rattle.analyser.specs.Analysed.{Analysed}
use Rattle.promises.specs.Reasons.{Accepted}
use Rattle.memory.specs.Analysis.{Analysis}
use Rattle.promises.proofs.Promises.{gates_agree}
use Rattle.promises.proofs.Which.{finished_tree}

-- ---- a gate's function, by the functions of all gates

abbrev none : Fun
none = const_f false

-- two lists of functions say the same of the gates below n
abbrev Agree : ℕ → List Fun → List Fun → Type 0
Agree n gs hs = (x : ℕ) → x < n → get_or gs x none ≡ get_or hs x none

same_inputs : (n : ℕ) (gs hs : List Fun) → Agree n gs hs → (is : List Input) → InputsLower n is → map (input_fun gs) is ≡ map (input_fun hs) is
same_inputs n gs hs e [] l = refl
same_inputs n gs hs e (event i ∷ is) l = ap (input_fun hs (event i) ∷◌) (same_inputs n gs hs e is l.1)
same_inputs n gs hs e (gate i ∷ is) l = ap₂ ◌∷◌ (e i l.0) (same_inputs n gs hs e is l.1)
same_inputs n gs hs e (forced f b ∷ is) l = absurd l.0

same_distinct : (n : ℕ) (gs hs : List Fun) → Agree n gs hs → (is : List Input) → InputsLower n is → map (input_fun gs) (distinct_inputs is) ≡ map (input_fun hs) (distinct_inputs is)
same_distinct n gs hs e is l =
    map_same (input_fun gs) (input_fun hs) (distinct_inputs is) (λ i h. map_agree (input_fun gs) (input_fun hs) i is (same_inputs n gs hs e is l) (firsts_in same_input i is h))

same_function : (n : ℕ) (gs hs : List Fun) → Agree n gs hs → (g : Gate) → GateLower n g → gate_fun gs g ≡ gate_fun hs g
same_function n gs hs e (and_g is) l = ap (λ Fs v. every_fails Fs v) (same_inputs n gs hs e is l)
same_function n gs hs e (or_g is) l = ap (λ Fs v. some_fails Fs v) (same_inputs n gs hs e is l)
same_function n gs hs e (least_g k is) l = ap (λ Fs v. leb k (count_fails Fs v)) (same_distinct n gs hs e is l)

-- later gates leave the functions of the earlier ones
stays : (gs : List Fun) (t : List Gate) → Agree (length gs) (gate_funs_from gs t) gs
stays gs [] x h = refl
stays gs (g ∷ t) x h =
    stays (gs ++ (gate_fun gs g ∷ [])) t x (omega (arith, length-append gs (gate_fun gs g ∷ []))) ∙ get_or-append gs (gate_fun gs g ∷ []) none x h

gate_from : (gs : List Fun) (t : List Gate) → TreeLower (length gs) t → (i : ℕ) → i < length t → (d : Gate)
    → get_or (gate_funs_from gs t) (length gs + i) none ≡ gate_fun (gate_funs_from gs t) (get_or t i d)
gate_from gs [] l i h d = absurd (omega arith)
gate_from gs (g ∷ t) l zero h d =
    let one : length (gs ++ (gate_fun gs g ∷ [])) ≡ length gs + 1 = length-append gs (gate_fun gs g ∷ []) in
    let here : length gs + 0 ≡ length gs = omega arith in
    ap (λ x. get_or (gate_funs_from gs (g ∷ t)) x none) here
    ∙ stays (gs ++ (gate_fun gs g ∷ [])) t (length gs) (omega arith)
    ∙ get_or-append_seam gs (gate_fun gs g) [] none
    ∙ same_function (length gs) gs (gate_funs_from gs (g ∷ t)) (λ x b. sym (stays gs (g ∷ t) x b)) g l.0
gate_from gs (g ∷ t) l (suc i) h d =
    let one : length (gs ++ (gate_fun gs g ∷ [])) ≡ length gs + 1 = length-append gs (gate_fun gs g ∷ []) in
    let at : length gs + suc i ≡ length (gs ++ (gate_fun gs g ∷ [])) + i = omega arith in
    ap (λ x. get_or (gate_funs_from gs (g ∷ t)) x none) at
    ∙ gate_from (gs ++ (gate_fun gs g ∷ [])) t (subst (λ n. TreeLower n t) (sym one) l.1) i (omega arith) d

-- the function of gate i is what the gate makes of the functions of all gates
gate_function : (t : List Gate) → TreeLower 0 t → (i : ℕ) → i < length t → (d : Gate) → get_or (gate_funs t) i none ≡ gate_fun (gate_funs t) (get_or t i d)
unfolding gate_funs
gate_function t l i h d = let z : 0 + i ≡ i = omega arith in ap (λ x. get_or (gate_funs_from [] t) x none) (sym z) ∙ gate_from [] t l i h d

-- ---- of a done analysis

-- gate i of a tree is g
pub record IsGate (t : List Gate) (i : ℕ) (g : Gate) : Type 0 where
  pub inside : i < length t
  pub is : get_or t i g ≡ g

-- the gates g and h, wherever they stand in the tree that was read, have one node in the gate list
abbrev pub OneNode : {bytes : List ℕ} → Accepted bytes → Memory → Gate → Gate → Type 0
OneNode t m g h = (i j : ℕ) → IsGate (tree_of t.book).gates i g → IsGate (tree_of t.book).gates j h → get_or m.gates i 0 ≡ get_or m.gates j 0

module _ {bytes : List ℕ} {m m' : Memory} {a : Analysis} (x : Analysed bytes m m' a) (q : a.number ≡ 0) where
  -- two gates that have one function, whatever the gates before them are
  pub one_node : (t : Accepted bytes) × ((g h : Gate) → ((gs : List Fun) → gate_fun gs g ≡ gate_fun gs h) → OneNode t m' g h)
  one_node = let (t, d) = finished_tree x q in
      let gates : List Gate = (tree_of t.book).gates in
      let low : TreeLower 0 gates = (tree_below (lawful bytes t.book t.is)).1 in (
        t,
        λ g h e i j gi hj. (gates_agree d i j gi.inside hj.inside).1 (λ v. ap (λ F. F v)
            (gate_function gates low i gi.inside g ∙ ap (gate_fun (gate_funs gates)) gi.is ∙ e (gate_funs gates)
            ∙ sym (gate_function gates low j hj.inside h ∙ ap (gate_fun (gate_funs gates)) hj.is))),
      )

  -- AT LEAST 1 AND OR, AT LEAST AS MANY AS ARE DISTINCT AND AND: over the same inputs they have one node
  pub least_one_is_or : (t : Accepted bytes) × ((is : List Input) → OneNode t m' (least_g 1 is) (or_g is))
  least_one_is_or = let (t, same) = one_node in (t, λ is. same (least_g 1 is) (or_g is) (λ gs. least_one gs is))

  pub least_all_is_and : (t : Accepted bytes) × ((is : List Input) → OneNode t m' (least_g (length (distinct_inputs is)) is) (and_g is))
  least_all_is_and = let (t, same) = one_node in (t, λ is. same (least_g (length (distinct_inputs is)) is) (and_g is) (λ gs. least_all gs is))
