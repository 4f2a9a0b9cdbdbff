-- Where the loop of `read` stands: a run at a state, and a tree whose arrays hold the run's book.
-- Assumes nothing.
use mathlib.Core.Path.{◌≡◌, refl, sym, ap, ◌∙◌}
use mathlib.Core.Bool.{Bool, true, false}
use mathlib.Core.List.{List, []}
use Prim.Native.Nat.{ℕ, ◌-◌, ◌≤◌, ◌<◌}
use native.Mathlib.Omega.{arith}
use lib.ListN.{length, get_or, set}
use Rattle.std.specs.Prelude.{Ok}
use Rattle.paper.specs.Limits.{limits}
use Rattle.rules.specs.Rules.{step_of}
use Rattle.records.specs.Judge.{Book, start, counts, add_event, add_gate, add_input, starved, refuse, outcome}
use Rattle.records.specs.Thresholds.{starved_by}
use Rattle.rules.specs.States.{past_event, past_gate, past_input}
use Rattle.records.specs.Memory.{pad, memory}
use Rattle.records.specs.Inner.{Counted, Fronts, Held}
use Rattle.rules.specs.declared.Refusal.TheVariants.{Threshold}
use Rattle.rules.specs.declared.judge.State.{State}
use Rattle.rules.specs.declared.judge.Step.TheVariants.{AddEvent, AddGate, AddInput}
use Rattle.records.specs.declared.Tree.{Tree}
use Rattle.records.proofs.Keeping.{Kept}
use Rattle.records.proofs.Pad.{pad_take, pad_get_d, pad_fill}
use Rattle.records.proofs.Starving.{LastTold}
use Rattle.records.proofs.Feeding.{input_gate, counted_input, starved_input, place_in_lem}
use Rattle.records.proofs.Runs.{Running, running_start, running_sound, running_event, running_gate, running_input, running_starved}

-- the tree after a store
abbrev pub with_event : Tree → ℕ → ℕ → ℕ → Tree
with_event t n c site = record {
  events = set t.events n (record { chance = c; site = site });
  event_count = t.event_count;
  sited = t.sited;
  kinds = t.kinds;
  leasts = t.leasts;
  sizes = t.sizes;
  gate_count = t.gate_count;
  inputs = t.inputs;
}

abbrev pub with_gate : Tree → ℕ → ℕ → ℕ → ℕ → Tree
with_gate t g kind k n = record {
  events = t.events;
  event_count = t.event_count;
  sited = t.sited;
  kinds = set t.kinds g kind;
  leasts = set t.leasts g k;
  sizes = set t.sizes g n;
  gate_count = t.gate_count;
  inputs = t.inputs;
}

abbrev pub with_input : Tree → ℕ → ℕ → Tree
with_input t i code = record {
  events = t.events;
  event_count = t.event_count;
  sited = t.sited;
  kinds = t.kinds;
  leasts = t.leasts;
  sizes = t.sizes;
  gate_count = t.gate_count;
  inputs = set t.inputs i code;
}

-- the arrays that the search for unused items reads
pub record Arrays (b : Book) (ns ps is : List ℕ) : Type 0 where
  pub sizes : ns ≡ pad limits.gates 0 b.sizes
  pub places : ps ≡ pad limits.gates 0 b.places
  pub inputs : is ≡ pad limits.in_all 0 b.inputs

module _ {b : Book} {sizes places inputs : List ℕ} (a : Arrays b sizes places inputs) where
  pub arrays_event : (c site : ℕ) (sited : Bool) (next : ℕ) → Arrays (add_event b c site sited next) sizes places inputs
  arrays_event c site sited next = record { sizes = a.sizes; places = a.places; inputs = a.inputs }

  pub arrays_fronts : Kept b → Fronts b sizes places inputs
  arrays_fronts k = record {
    sizes = rw a.sizes (pad_take _ _ _);
    places = rw (a.places, ← k.same_places) (pad_take _ _ _);
    inputs = rw a.inputs (pad_take _ _ _);
    few_events = k.few_events;
    few_gates = k.few_gates;
    same_places = k.same_places;
    total_inputs = k.wanted;
  }

  pub arrays_gate : Kept b → (kind k n next : ℕ) → length b.sizes < limits.gates
      → Arrays (add_gate b kind k n next) (set sizes (length b.sizes) n) (set places (length b.sizes) b.at) inputs
  arrays_gate kept kind k n next few = record {
    sizes = pad_fill _ _ b.sizes n a.sizes refl few;
    places = pad_fill _ _ b.places b.at a.places kept.same_places few;
    inputs = a.inputs;
  }

  pub arrays_input : Kept b → (i next : ℕ) → 0 < b.left → Arrays (add_input b i next) sizes places (set inputs (length b.inputs) i)
  arrays_input kept i next some = record {
    sizes = a.sizes;
    places = a.places;
    inputs = pad_fill _ _ b.inputs i a.inputs refl (omega (arith, kept.few_inputs));
  }

module _ {b : Book} {t : Tree} {ps : List ℕ} (h : Held b t ps) where
  module _ (kept : Kept b) where
    held_event : (c site : ℕ) (sited : Bool) (next : ℕ) → length b.events < limits.events → Held (add_event b c site sited next) (with_event t (length b.events) c site) ps
    held_event c site sited next few = record {
      events = pad_fill _ _ b.events (record { chance = c; site = site }) h.events refl few;
      kinds = h.kinds;
      leasts = h.leasts;
      sizes = h.sizes;
      inputs = h.inputs;
      places = h.places;
    }

    held_gate : (kind k n next : ℕ) → length b.sizes < limits.gates
        → Held (add_gate b kind k n next) (with_gate t (length b.sizes) kind k n) (set ps (length b.sizes) b.at)
    held_gate kind k n next few = record {
      events = h.events;
      kinds = pad_fill _ _ b.kinds kind h.kinds kept.same_kinds few;
      leasts = pad_fill _ _ b.leasts k h.leasts kept.same_leasts few;
      sizes = pad_fill _ _ b.sizes n h.sizes refl few;
      inputs = h.inputs;
      places = pad_fill _ _ b.places b.at h.places kept.same_places few;
    }

    held_input : (i next : ℕ) → 0 < b.left → Held (add_input b i next) (with_input t (length b.inputs) i) ps
    held_input i next some = record {
      events = h.events;
      kinds = h.kinds;
      leasts = h.leasts;
      sizes = h.sizes;
      inputs = pad_fill _ _ b.inputs i h.inputs refl (omega (arith, kept.few_inputs));
      places = h.places;
    }

    -- what the search for unused items reads off the arrays
    pub held_fronts : Fronts b t.sizes ps t.inputs
    held_fronts = arrays_fronts (record { sizes = h.sizes; places = h.places; inputs = h.inputs }) kept

  -- and what the search for the last gate's distinct inputs does
  held_last : length b.kinds ≡ length b.sizes → length b.leasts ≡ length b.sizes → 1 ≤ length b.sizes
      → LastTold b t.kinds t.leasts t.sizes t.inputs
  held_last kinds leasts some =
      let g : ℕ = length b.sizes - 1 in
      record {
        kind = rw h.kinds (pad_get_d limits.gates 0 b.kinds g 0 (omega arith));
        least = λ _. rw h.leasts (pad_get_d limits.gates 0 b.leasts g 0 (omega arith));
        sizes = rw h.sizes (pad_take _ _ _);
        inputs = rw h.inputs (pad_take _ _ _);
      }

  pub held_memory : {s : State} → s ≡ counts b → (record {
    events = t.events;
    event_count = s.events;
    sited = s.sited;
    kinds = t.kinds;
    leasts = t.leasts;
    sizes = t.sizes;
    gate_count = s.gates;
    inputs = t.inputs;
  }) ≡ memory b
  unfolding memory
  held_memory e i = record {
    events = h.events i;
    event_count = (e i).events;
    sited = (e i).sited;
    kinds = h.kinds i;
    leasts = h.leasts i;
    sizes = h.sizes i;
    gate_count = (e i).gates;
    inputs = h.inputs i;
  }

pub record Standing (bytes : List ℕ) (t : Tree) (ps : List ℕ) (s : State) : Type 0 where
  pub running : Running bytes s
  pub held : Held running.book t ps

pub standing_start : (bytes : List ℕ) → Standing bytes (memory start) (pad 512 0 []) (counts start)
unfolding memory running_start
standing_start bytes = record {
  running = running_start bytes;
  held = record {
    events = refl;
    kinds = refl;
    leasts = refl;
    sizes = refl;
    inputs = refl;
    places = refl;
  };
}

module _ {bytes : List ℕ} {t : Tree} {ps : List ℕ} {s : State} (v : Standing bytes t ps s) where
  pub standing_event : (c site : ℕ) (sited : Bool) (next : ℕ) → Ok (AddEvent c site sited next) ≡ step_of limits bytes s
      → Standing bytes (with_event t s.events c site) ps (past_event s sited next)
  unfolding running_event
  standing_event c site sited next e =
      let on = running_sound v.running e in
      let p = v.running.state in
      record { running = running_event v.running c site sited next e; held = rw (ap (λ (x : State). x.events) p) (held_event v.held v.running.kept c site sited next (rw p at on.few)) }

  pub standing_gate : (kind k n next : ℕ) → Ok (AddGate kind k n next) ≡ step_of limits bytes s
      → Standing bytes (with_gate t s.gates kind k n) (set ps s.gates s.at) (past_gate s n next)
  unfolding running_gate
  standing_gate kind k n next e =
      let on = running_sound v.running e in
      let p = v.running.state in
      record {
        running = running_gate v.running kind k n next e;
        held = rw (ap (λ (x : State). x.gates) p, ap (λ (x : State). x.at) p) (held_gate v.held v.running.kept kind k n next (rw p at on.few));
      }

  -- past an input: what the arrays tell of the last gate
  module _ {i next : ℕ} (e : Ok (AddInput i next) ≡ step_of limits bytes s) where
    abbrev fed : Bool
    fed = starved_by t.kinds t.leasts t.sizes (set t.inputs s.inputs i) (past_input s next)

    held_next : Held (add_input v.running.book i next) (with_input t s.inputs i) ps
    held_next =
        let p = v.running.state in
        rw (ap (λ (x : State). x.inputs) p) (held_input v.held v.running.kept i next (rw p at (running_sound v.running e).some))

    pub standing_counted : Counted t.sizes (past_input s next)
    standing_counted = counted_input v.running e (rw v.held.sizes (pad_take _ _ _))

    standing_told : fed ≡ starved (add_input v.running.book i next)
    standing_told = starved_input v.running e (held_last held_next v.running.kept.same_kinds v.running.kept.same_leasts (input_gate v.running e))

    pub standing_input : fed ≡ false → Standing bytes (with_input t s.inputs i) ps (past_input s next)
    unfolding running_input
    standing_input q = record { running = running_input v.running i next e (sym standing_told ∙ q); held = held_next }

    -- the place of the gate's record
    pub standing_starved : fed ≡ true → outcome limits bytes ≡ refuse (Threshold (get_or ps (s.gates - 1) 0))
    standing_starved q =
        running_starved v.running i next e (sym standing_told ∙ q)
        ∙ ap (λ (p : ℕ). refuse (Threshold p)) (sym (place_in_lem v.running e v.held.places))
