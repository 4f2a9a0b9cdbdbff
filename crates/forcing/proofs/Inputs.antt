-- Two forced events are two: forcing keeps a gate's inputs apart, so its distinct inputs are the same.
-- Assumes nothing.
use mathlib.Core.Path.{◌≡◌, refl, sym, ap, ◌∙◌}
use mathlib.Core.Logic.{inl, inr}
use mathlib.Core.Bool.{Bool, true, false, ◌&&◌}
use mathlib.Core.List.{List, [], ◌∷◌, map}
use Prim.Native.Nat.{ℕ}
use lib.Dec.{eqb}
use borrow.Author.Tests.{eqb-true, eq-eqb}
use Rattle.paper.specs.Lists.{In}
use Rattle.paper.specs.Trees.{Input, event, gate, forced, same_input, distinct_inputs}
use Rattle.paper.specs.Store.{State, free, failed, sound, Settings}
use Rattle.paper.specs.Forcing.{event_as, force_input}
use Rattle.twins.proofs.Firsts.{firsts_map}
use Rattle.records.specs.Trees.{InputLower, InputsLower}

-- one event in one state
event_itself : (e : ℕ) (x : State) → same_input (event_as e x) (event_as e x) ≡ true
event_itself e free = eq-eqb e e refl
event_itself e failed = ap (λ t. t && true) (eq-eqb e e refl)
event_itself e sound = ap (λ t. t && true) (eq-eqb e e refl)

-- two events in whatever states
events_apart : (e f : ℕ) → eqb e f ≡ false → (x y : State) → same_input (event_as e x) (event_as f y) ≡ false
events_apart e f q free free = q
events_apart e f q free failed = refl
events_apart e f q free sound = refl
events_apart e f q failed free = refl
events_apart e f q failed failed = ap (λ t. t && true) q
events_apart e f q failed sound = ap (λ t. t && false) q
events_apart e f q sound free = refl
events_apart e f q sound failed = ap (λ t. t && false) q
events_apart e f q sound sound = ap (λ t. t && true) q

event_gate : (e i : ℕ) (x : State) → same_input (event_as e x) (gate i) ≡ false
event_gate e i free = refl
event_gate e i failed = refl
event_gate e i sound = refl

gate_event : (i e : ℕ) (x : State) → same_input (gate i) (event_as e x) ≡ false
gate_event i e free = refl
gate_event i e failed = refl
gate_event i e sound = refl

module _ (s : Settings) (g : ℕ) where
  same_forced : (a b : Input) → InputLower g a → InputLower g b → same_input (force_input s a) (force_input s b) ≡ same_input a b
  same_forced (event e) (event f) p q = go (eqb e f) refl
    where
      go : (t : Bool) → eqb e f ≡ t → same_input (event_as e (s e)) (event_as f (s f)) ≡ eqb e f
      go true r = ap (λ k. same_input (event_as e (s e)) (event_as k (s k))) (sym (eqb-true e f r)) ∙ event_itself e (s e) ∙ sym r
      go false r = events_apart e f r (s e) (s f) ∙ sym r
  same_forced (event e) (gate i) p q = event_gate e i (s e)
  same_forced (event e) (forced f b) p q = absurd q
  same_forced (gate i) (event e) p q = gate_event i e (s e)
  same_forced (gate i) (gate j) p q = refl
  same_forced (gate i) (forced f b) p q = absurd q
  same_forced (forced f b) i p q = absurd p

  lower_in : (i : Input) (is : List Input) → InputsLower g is → In i is → InputLower g i
  lower_in i [] l h = absurd h
  lower_in i (x ∷ is) l (inl e) = rw e l.0
  lower_in i (x ∷ is) l (inr h) = lower_in i is l.1 h

  -- THE DISTINCT INPUTS, forced
  pub distinct_forced : (is : List Input) → InputsLower g is → distinct_inputs (map (force_input s) is) ≡ map (force_input s) (distinct_inputs is)
  distinct_forced is l = firsts_map same_input same_input (force_input s) is (λ a b h k. same_forced a b (lower_in a is l h) (lower_in b is l k))
