-- The events and the gates of the tree that a text says: every name is one or the other, once; gates behind their inputs, the root last.
-- Assumes nothing.
use mathlib.Core.Path.{◌≡◌, refl, sym, subst}
use mathlib.Core.Logic.{inl}
use mathlib.Core.Bool.{Bool, true, false, cond, true≢false}
use mathlib.Core.List.{List, [], ◌∷◌}
use Prim.Native.Nat.{ℕ, ◌<◌, ◌≤◌}
use native.Mathlib.Omega.{arith}
use lib.ListN.{length}
use Rattle.paper.specs.Lists.{In, Once}
use Rattle.paper.specs.Texts.{Placed}
use Rattle.paper.specs.Equations.{dict_in, inputs_in}
use Rattle.paper.specs.Walks.{Reaches, postorder, is_event, events_of, Ordered}
use Rattle.paper.specs.Meaning.{event_names, gate_names}
use Rattle.paper.specs.Importing.{Rooted}
use Rattle.meaning.specs.Said.{AllFilled}
use Rattle.meaning.proofs.Defining.{inputs_low, root_gate}
use Rattle.depthfirst.proofs.Counting.{ordered_once}
use Rattle.depthfirst.proofs.Answers.{LastIs, root_last_gate, in_events, in_gates}
use Rattle.meaning.proofs.Few.{once_few}
use Rattle.meaning.proofs.Walks.{order_ordered, order_every, order_low, order_events}
use Rattle.meaning.proofs.Gates.{events_in, gates_in, once_events, once_gates, Behind, gates_behind}

some_input : (l : List ℕ) → is_event l ≡ false → (y : ℕ) × (o : List ℕ) × (l ≡ y ∷ o)
some_input [] e = absurd (true≢false e)
some_input (y ∷ o) e = (y, o, refl)

first_event : (g : ℕ → List ℕ) (l : List ℕ) (x : ℕ) → Ordered g l → In x l → 1 ≤ length (events_of g l)
first_event g [] x o h = absurd h
first_event g (z ∷ l) x o h = go (is_event (g z)) refl
  where
    go : (t : Bool) → is_event (g z) ≡ t → 1 ≤ length (cond t (z ∷ events_of g l) (events_of g l))
    go true e = omega arith
    go false e = let (y, m, q) = some_input (g z) e in absurd (o.after 0 y (omega arith) (subst (λ k. In y k) (sym q) (inl refl)))

module _ {ls : List Placed} {root : ℕ} (r : Rooted ls root) where
  no_ring : (z : ℕ) → z < length (dict_in ls) → Reaches (inputs_in ls) z z → ⊥
  no_ring z h b = r.ringless (record { name = z; low = h; back = b })

  -- the names in the order in which the walk leaves them
  abbrev order : List ℕ
  order = postorder (inputs_in ls) (length (dict_in ls)) root

  in_order : Ordered (inputs_in ls) order
  in_order = order_ordered (inputs_low ls) no_ring r.one

  -- ---- gates

  pub gate_in : (x : ℕ) → x < length (dict_in ls) → is_event (inputs_in ls x) ≡ false → In x (gate_names ls root)
  unfolding gate_names
  gate_in x h e = in_gates (inputs_in ls) x order e (order_every (inputs_low ls) no_ring r.one x h)

  pub gate_is : (x : ℕ) → In x (gate_names ls root) → (x < length (dict_in ls)) × (is_event (inputs_in ls x) ≡ false)
  unfolding gate_names
  gate_is x h = let (k, e) = gates_in (inputs_in ls) x order h in (order_low (inputs_low ls) no_ring r.one x k, e)

  pub gates_once : Once (gate_names ls root)
  unfolding gate_names
  gates_once = once_gates (inputs_in ls) order (ordered_once in_order)

  pub gates_few : length (gate_names ls root) ≤ length (dict_in ls)
  gates_few = once_few (length (dict_in ls)) (gate_names ls root) gates_once (λ z h. (gate_is z h).0)

  pub gates_order : Behind (inputs_in ls) [] (gate_names ls root)
  unfolding gate_names
  gates_order = gates_behind (inputs_in ls) order in_order

  pub root_last : AllFilled ls → LastIs root (gate_names ls root)
  unfolding gate_names
  root_last f = root_last_gate (inputs_in ls) r.one.low (root_gate ls root f r.lines.once r.one)

  -- ---- events

  -- the first name that the walk leaves has no input
  pub event_some : 1 ≤ length (event_names ls root)
  unfolding event_names
  event_some = rw (order_events (inputs_low ls) no_ring r.one) (first_event (inputs_in ls) order root in_order (order_every (inputs_low ls) no_ring r.one root r.one.low))

  pub event_in_lem : (x : ℕ) → x < length (dict_in ls) → is_event (inputs_in ls x) ≡ true → In x (event_names ls root)
  unfolding event_names
  event_in_lem x h e = rw (order_events (inputs_low ls) no_ring r.one) (in_events (inputs_in ls) x order e (order_every (inputs_low ls) no_ring r.one x h))

  pub event_is : (x : ℕ) → In x (event_names ls root) → (x < length (dict_in ls)) × (is_event (inputs_in ls x) ≡ true)
  unfolding event_names
  event_is x h =
      let (k, e) = events_in (inputs_in ls) x order (rw (order_events (inputs_low ls) no_ring r.one) at h) in
      (order_low (inputs_low ls) no_ring r.one x k, e)

  pub events_once : Once (event_names ls root)
  unfolding event_names
  events_once = rw (order_events (inputs_low ls) no_ring r.one) (once_events (inputs_in ls) order (ordered_once in_order))
