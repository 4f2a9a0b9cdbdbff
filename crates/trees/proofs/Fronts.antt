-- The reading of a lawful tree's own bytes: what is read so far is the front of each of its lists.
-- Assumes nothing.
use mathlib.Core.Path.{◌≡◌, refl, sym, ap, ◌∙◌}
use mathlib.Core.Bool.{Bool, true, false}
use mathlib.Core.List.{List, ◌++◌, [], ◌∷◌}
use Prim.Native.Nat.{ℕ, zero, suc, ◌≤◌, ◌<◌}
use native.Mathlib.Omega.{arith}
use lib.ListN.{length, get_or, take}
use lib.Seq.{take-suc, take_all, take-take}
use lib.Dec.{eqb}
use borrow.Author.Tests.{eqb-false}
use Rattle.paper.specs.Limits.{limits}
use Rattle.paper.specs.Lists.{sum}
use Rattle.records.specs.Judge.{Book}
use Rattle.records.specs.Memory.{tabulate, no_event, memory}
use Rattle.records.specs.Trees.{Lawful}
use Rattle.judging.specs.Bytes.{held_event, told_least, told_event}
use Rattle.records.specs.declared.Event.{Event}
use Rattle.trees.specs.Exactly.{SameTree}
use Rattle.rules.proofs.Cases.{if_elim}
use Rattle.records.proofs.Pad.{pad_get_d}
use Rattle.records.proofs.Keeping.{Kept}
use Rattle.trees.proofs.InMemory.{pad_at}
use Rattle.trees.proofs.ReadBack.{Along}

-- a table of a list's members, in order, is the list's front
tabulate_take : {A : Type 0} (xs : List A) (d : A) (f : ℕ → A) (k : ℕ) → k ≤ length xs → ((i : ℕ) → i < k → f i ≡ get_or xs i d) → tabulate k f ≡ take k xs
unfolding tabulate
tabulate_take xs d f zero h e = refl
tabulate_take xs d f (suc k) h e =
    let before : tabulate k f ≡ take k xs = tabulate_take xs d f k (omega arith) (λ i l. e i (omega arith)) in
    let here : f k ≡ get_or xs k d = e k (omega arith) in
    (λ i. before i ++ (here i ∷ [])) ∙ sym (take-suc xs k d (omega arith))

told_least_lem : (kind k : ℕ) → ((kind ≡ 4 → ⊥) → k ≡ 0) → told_least kind k ≡ k
told_least_lem kind k plain = if_elim (λ (x : ℕ). x ≡ k) (eqb kind 4) (λ _. refl) (λ e. sym (plain (eqb-false kind 4 e)))

told_event_lem : (sited : Bool) (x : Event) → (sited ≡ false → x.site ≡ 0) → told_event sited x ≡ x
told_event_lem true x plain = refl
told_event_lem false x plain = λ i. record { chance = x.chance; site = sym (plain refl) i }

-- ---- a book in memory

module _ (b : Book) where
  pub events_in : (memory b).event_count ≡ length b.events
  unfolding memory
  events_in = refl

  pub gates_in : (memory b).gate_count ≡ length b.sizes
  unfolding memory
  gates_in = refl

  pub sited_in : (memory b).sited ≡ b.sited
  unfolding memory
  sited_in = refl

  pub event_in_lem : (e : ℕ) → e < length b.events → get_or (memory b).events e no_event ≡ get_or b.events e no_event
  unfolding memory
  event_in_lem e h = pad_get_d limits.events no_event b.events e no_event h

  pub kind_in : (g : ℕ) → get_or (memory b).kinds g 0 ≡ get_or b.kinds g 0
  unfolding memory
  kind_in g = pad_at limits.gates b.kinds g

  pub least_in : (g : ℕ) → get_or (memory b).leasts g 0 ≡ get_or b.leasts g 0
  unfolding memory
  least_in g = pad_at limits.gates b.leasts g

  pub size_in : (g : ℕ) → get_or (memory b).sizes g 0 ≡ get_or b.sizes g 0
  unfolding memory
  size_in g = pad_at limits.gates b.sizes g

  pub input_in : (i : ℕ) → get_or (memory b).inputs i 0 ≡ get_or b.inputs i 0
  unfolding memory
  input_in i = pad_at limits.in_all b.inputs i

-- ---- x is read so far of the bytes of b

module _ {b : Book} (l : Lawful limits b) {x : Book} (v : Along (memory b) x) where
  pub few_events : length x.events ≤ length b.events
  few_events = omega (arith, v.some_events, events_in b)

  pub few_gates : length x.sizes ≤ length b.sizes
  few_gates = omega (arith, v.some_gates, gates_in b)

  front_events : x.events ≡ take (length x.events) b.events
  front_events = v.tells.events
      ∙ tabulate_take b.events no_event (λ e. told_event (memory b).sited (held_event (memory b) e)) (length x.events) few_events
      (λ e h.
      let inside : e < length b.events = omega (arith, few_events) in
      rw (sited_in b, event_in_lem b e inside) (told_event_lem b.sited (get_or b.events e no_event) (λ plain. l.sites plain e inside)))

  pub front_kinds : x.kinds ≡ take (length x.sizes) b.kinds
  front_kinds = v.tells.kinds
      ∙ tabulate_take b.kinds 0 (λ g. get_or (memory b).kinds g 0) (length x.sizes) (omega (arith, few_gates, l.same_kinds)) (λ g h. kind_in b g)

  pub front_leasts : x.leasts ≡ take (length x.sizes) b.leasts
  front_leasts = v.tells.leasts
      ∙ tabulate_take b.leasts 0 (λ g. told_least (get_or (memory b).kinds g 0) (get_or (memory b).leasts g 0)) (length x.sizes) (omega (arith, few_gates, l.same_leasts))
      (λ g h. rw (kind_in b g, least_in b g) (told_least_lem (get_or b.kinds g 0) (get_or b.leasts g 0) (l.plain g (omega (arith, few_gates)))))

  pub front_sizes : x.sizes ≡ take (length x.sizes) b.sizes
  front_sizes = v.tells.sizes
      ∙ tabulate_take b.sizes 0 (λ g. get_or (memory b).sizes g 0) (length x.sizes) few_gates (λ g h. size_in b g)

  -- the inputs that the gates so far want
  pub front_sum : (g : ℕ) → g ≤ length x.sizes → sum (take g x.sizes) ≡ sum (take g b.sizes)
  front_sum g h = ap (λ (ns : List ℕ). sum (take g ns)) front_sizes ∙ ap sum (take-take g (length x.sizes) b.sizes h)

  pub front_inputs : length x.inputs ≤ length b.inputs → x.inputs ≡ take (length x.inputs) b.inputs
  front_inputs few = v.tells.inputs ∙ tabulate_take b.inputs 0 (λ i. get_or (memory b).inputs i 0) (length x.inputs) few (λ i h. input_in b i)

  -- once all events and gates are there, and no input is missing, x tells what b does
  module _ (k : Kept x) (allEvents : length b.events ≤ length x.events) (allGates : length b.sizes ≤ length x.sizes) (none : x.left ≡ 0) where
    whole_sizes : x.sizes ≡ b.sizes
    whole_sizes = front_sizes ∙ take_all (length x.sizes) b.sizes allGates

    all_inputs : length x.inputs ≡ length b.inputs
    all_inputs = omega (arith, k.wanted, none, ap sum whole_sizes, l.all_inputs)

    pub same_tree : SameTree b x
    same_tree = record {
      events = front_events ∙ take_all (length x.events) b.events allEvents;
      sited = v.tells.sited (omega (arith, l.some_event)) ∙ sited_in b;
      kinds = front_kinds ∙ take_all (length x.sizes) b.kinds (omega (arith, allGates, l.same_kinds));
      leasts = front_leasts ∙ take_all (length x.sizes) b.leasts (omega (arith, allGates, l.same_leasts));
      sizes = whole_sizes;
      inputs = front_inputs (omega (arith, all_inputs)) ∙ take_all (length x.inputs) b.inputs (omega (arith, all_inputs));
    }
