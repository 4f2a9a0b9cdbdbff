-- A gate's value by the rule of its steps is what the gate means: all, some, or at least k of its inputs fail.
-- Assumes nothing.
use mathlib.Core.Path.{◌≡◌, refl, ap, ◌∙◌, fun_ext}
use mathlib.Core.Bool.{true, false}
use mathlib.Core.List.{List, [], ◌∷◌, ◌++◌, map}
use Prim.Native.Nat.{ℕ}
use lib.Dec.{leb}
use Rattle.paper.specs.Sets.{Set}
use Rattle.paper.specs.Functions.{Fun}
use Rattle.paper.specs.Trees.{Input, event, gate, forced, Gate, and_g, or_g, least_g, distinct_inputs, event_f, const_f, every_fails, some_fails, count_fails, input_fun, gate_fun, gate_funs_from, gate_funs, TreeBelow}
use Rattle.paper.specs.Steps.{join_all, input, value, values_from, join_f}
use Rattle.algebra.specs.Operations.{gate_diagrams}
use Rattle.algebra.proofs.Gates.{Pairs, Shows, all_law, some_law, least_law, values_show}

inputs_rule : (gs : List Fun) (is : List Input) → map (input event_f const_f join_f gs) is ≡ map (input_fun gs) is
inputs_rule gs [] = refl
inputs_rule gs (event e ∷ is) = ap (event_f e ∷◌) (inputs_rule gs is)
inputs_rule gs (gate i ∷ is) = ap (input_fun gs (gate i) ∷◌) (inputs_rule gs is)
inputs_rule gs (forced e b ∷ is) = ap (const_f b ∷◌) (inputs_rule gs is)

all_rule : (Fs : List Fun) (v : Set) → join_all event_f const_f join_f false Fs v ≡ every_fails Fs v
all_rule [] v = refl
all_rule (F ∷ Fs) v = all_law F Fs v

some_rule : (Fs : List Fun) (v : Set) → join_all event_f const_f join_f true Fs v ≡ some_fails Fs v
some_rule [] v = refl
some_rule (F ∷ Fs) v = some_law F Fs v

pub value_rule : (gs : List Fun) (g : Gate) → value event_f const_f join_f gs g ≡ gate_fun gs g
value_rule gs (and_g is) = fun_ext (λ v. all_rule (map (input event_f const_f join_f gs) is) v ∙ ap (λ l. every_fails l v) (inputs_rule gs is))
value_rule gs (or_g is) = fun_ext (λ v. some_rule (map (input event_f const_f join_f gs) is) v ∙ ap (λ l. some_fails l v) (inputs_rule gs is))
value_rule gs (least_g k is) =
    fun_ext (λ v. least_law k (map (input event_f const_f join_f gs) (distinct_inputs is)) v ∙ ap (λ l. leb k (count_fails l v)) (inputs_rule gs (distinct_inputs is)))

pub values_rule : (gs : List Fun) (t : List Gate) → values_from event_f const_f join_f gs t ≡ gate_funs_from gs t
values_rule gs [] = refl
values_rule gs (g ∷ t) = ap (λ F. values_from event_f const_f join_f (gs ++ (F ∷ [])) t) (value_rule gs g) ∙ values_rule (gs ++ (gate_fun gs g ∷ [])) t

-- THE GATES: each gate's diagram is fit, and shows the gate's function
pub gates_show : (n : ℕ) (t : List Gate) → TreeBelow n t → Pairs (Shows n) (gate_diagrams t) (gate_funs t)
unfolding gate_funs
gates_show n t b = rw (← values_rule [] t) (values_show n t b)
