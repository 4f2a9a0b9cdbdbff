-- What a tree's bytes tell of it: the lists of a book that was read from them, up to where the reading stands.
-- Assumes nothing.
use mathlib.Core.Path.{◌≡◌, refl, sym, ap, ◌∙◌}
use mathlib.Core.Bool.{Bool, true, false}
use mathlib.Core.List.{List}
use Prim.Native.Nat.{ℕ, ◌+◌, ◌<◌}
use native.Mathlib.Omega.{arith}
use lib.ListN.{length, get_or}
use lib.Dec.{ltb}
use borrow.Author.Tests.{ltb-false, lt-ltb}
use Rattle.paper.specs.Limits.{limits, wide_from}
use Rattle.paper.specs.Lists.{sum}
use Rattle.paper.specs.Flat.{gates_from}
use Rattle.records.specs.Judge.{Book, start, ◌▷◌, add_event, add_gate, add_input}
use Rattle.records.specs.Memory.{pad, tabulate, no_event, memory}
use Rattle.rules.specs.Format.{event_in}
use Rattle.judging.specs.Bytes.{held_event, told_least, told_event, told}
use Rattle.records.specs.declared.Event.{Event as Held}
use Rattle.records.specs.declared.Tree.{Tree}
use Rattle.rules.specs.declared.format.Record.{Record}
use Rattle.rules.proofs.Cases.{if_elim}
use Rattle.rules.proofs.Steps.{code_of}
use Rattle.records.proofs.Pad.{length_▷, tabulate_▷}
use Rattle.judging.proofs.Rest.{event_record, input_record_at}

-- an event's record tells whether it has a site, and the event
pub record EventTold (a : Bool) (x : Held) (c site : ℕ) (sited : Bool) : Type 0 where
  pub form : sited ≡ a
  pub event : record { chance = c; site = site } ≡ told_event a x

in_told : (a : Bool) (x : Held) (c site : ℕ) (sited : Bool) → (sited ≡ false → site ≡ 0) → event_in a x.chance x.site ≡ event_in sited c site → EventTold a x c site sited
in_told true x c site true plain q =
    let p : c ≡ x.chance = cc in
    let r : site ≡ x.site = cc in
    record { form = refl; event = λ i. record { chance = p i; site = r i } }
in_told true x c site false plain q = let z : ◌≡◌ {A = ℕ} 0 1 = cc in absurd (omega arith)
in_told false x c site true plain q = let z : ◌≡◌ {A = ℕ} 0 1 = cc in absurd (omega arith)
in_told false x c site false plain q =
    let p : c ≡ x.chance = cc in
    record { form = refl; event = λ i. record { chance = p i; site = plain refl i } }

-- what the record of an event and that of an input tell
module _ (t : Tree) where
  pub event_told : (e c site : ℕ) (sited : Bool) → e < limits.events → (sited ≡ false → site ≡ 0) → event_record t e ≡ event_in sited c site → EventTold t.sited (held_event t e) c site sited
  event_told e c site sited h plain q = in_told t.sited (held_event t e) c site sited plain (sym (rw (lt-ltb e limits.events h)) ∙ q)

  pub input_told : (i : ℕ) → code_of (input_record_at t i) ≡ get_or t.inputs i 0
  input_told i =
      let x : ℕ = get_or t.inputs i 0 in
      let P : Record → Type 0 = λ r. code_of r ≡ x in
      if_elim P (ltb x wide_from) (λ _. refl) (λ _. if_elim P (ltb x gates_from) (λ _. refl) (λ e. omega (arith, ltb-false x gates_from e)))

-- b is what the bytes of t tell, as far as they are read
pub record Tells (t : Tree) (b : Book) : Type 0 where
  pub events : b.events ≡ tabulate (length b.events) (λ e. told_event t.sited (held_event t e))
  pub sited : 0 < length b.events → b.sited ≡ t.sited
  pub kinds : b.kinds ≡ tabulate (length b.sizes) (λ g. get_or t.kinds g 0)
  pub leasts : b.leasts ≡ tabulate (length b.sizes) (λ g. told_least (get_or t.kinds g 0) (get_or t.leasts g 0))
  pub sizes : b.sizes ≡ tabulate (length b.sizes) (λ g. get_or t.sizes g 0)
  pub inputs : b.inputs ≡ tabulate (length b.inputs) (λ i. get_or t.inputs i 0)

pub tells_start : (t : Tree) → Tells t start
unfolding tabulate
tells_start t = record { events = refl; sited = λ some. absurd (omega arith); kinds = refl; leasts = refl; sizes = refl; inputs = refl }

-- one more of a list that is told
more : {A : Type 0} (xs : List A) (x : A) (n : ℕ) (f : ℕ → A) → xs ≡ tabulate n f → x ≡ f n → ◌▷◌ xs x ≡ tabulate (n + 1) f
more xs x n f e q = (λ i. ◌▷◌ (e i) (q i)) ∙ sym (tabulate_▷ n f)

module _ {t : Tree} {b : Book} (v : Tells t b) where
  pub tells_event : (c site : ℕ) (sited : Bool) (next : ℕ) → EventTold t.sited (held_event t (length b.events)) c site sited → Tells t (add_event b c site sited next)
  tells_event c site sited next q = record {
    events = rw length_▷ (more b.events (record { chance = c; site = site }) (length b.events) (λ e. told_event t.sited (held_event t e)) v.events q.event);
    sited = λ _. q.form;
    kinds = v.kinds;
    leasts = v.leasts;
    sizes = v.sizes;
    inputs = v.inputs;
  }

  pub tells_gate : (kind k n next : ℕ) → kind ≡ get_or t.kinds (length b.sizes) 0
      → k ≡ told_least (get_or t.kinds (length b.sizes) 0) (get_or t.leasts (length b.sizes) 0)
      → n ≡ get_or t.sizes (length b.sizes) 0 → Tells t (add_gate b kind k n next)
  tells_gate kind k n next qk ql qs = record {
    events = v.events;
    sited = v.sited;
    kinds = rw length_▷ (more b.kinds kind (length b.sizes) (λ g. get_or t.kinds g 0) v.kinds qk);
    leasts = rw length_▷ (more b.leasts k (length b.sizes) (λ g. told_least (get_or t.kinds g 0) (get_or t.leasts g 0)) v.leasts ql);
    sizes = rw length_▷ (more b.sizes n (length b.sizes) (λ g. get_or t.sizes g 0) v.sizes qs);
    inputs = v.inputs;
  }

  pub tells_input : (i next : ℕ) → i ≡ get_or t.inputs (length b.inputs) 0 → Tells t (add_input b i next)
  tells_input i next q = record {
    events = v.events;
    sited = v.sited;
    kinds = v.kinds;
    leasts = v.leasts;
    sizes = v.sizes;
    inputs = rw length_▷ (more b.inputs i (length b.inputs) (λ i. get_or t.inputs i 0) v.inputs q);
  }

  -- a whole book is the tree that is told
  pub tells_all : 0 < length b.events → length b.events ≡ t.event_count → length b.sizes ≡ t.gate_count → length b.inputs ≡ sum b.sizes → memory b ≡ told t
  unfolding memory told
  tells_all some qe qg qi =
      let sizes : b.sizes ≡ tabulate t.gate_count (λ g. get_or t.sizes g 0) = rw qg at v.sizes in
      let events : b.events ≡ tabulate t.event_count (λ e. told_event t.sited (held_event t e)) = rw qe at v.events in
      let kinds : b.kinds ≡ tabulate t.gate_count (λ g. get_or t.kinds g 0) = rw qg at v.kinds in
      let leasts : b.leasts ≡ tabulate t.gate_count (λ g. told_least (get_or t.kinds g 0) (get_or t.leasts g 0)) = rw qg at v.leasts in
      let count : length b.inputs ≡ sum (tabulate t.gate_count (λ g. get_or t.sizes g 0)) = qi ∙ ap sum sizes in
      let inputs : b.inputs ≡ tabulate (sum (tabulate t.gate_count (λ g. get_or t.sizes g 0))) (λ i. get_or t.inputs i 0) = rw count at v.inputs in
      λ i. record {
        events = pad limits.events no_event (events i);
        event_count = qe i;
        sited = v.sited some i;
        kinds = pad limits.gates 0 (kinds i);
        leasts = pad limits.gates 0 (leasts i);
        sizes = pad limits.gates 0 (sizes i);
        gate_count = qg i;
        inputs = pad limits.in_all 0 (inputs i);
      }
