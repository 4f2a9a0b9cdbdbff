-- What holds of every book that a run comes to.
-- Assumes nothing.
use mathlib.Core.Path.{◌≡◌, refl, sym, ap, ◌∙◌}
use mathlib.Core.Bool.{Bool, false}
use mathlib.Core.List.{List, [], ◌∷◌}
use Prim.Native.Nat.{ℕ, ◌+◌, ◌-◌, ◌*◌, ◌≤◌, ◌<◌}
use native.Mathlib.Omega.{arith}
use lib.ListN.{length, get_or, take}
use lib.Seq.{take_all}
use lib.Dec.{ltb}
use borrow.Author.Tests.{ltb-true, ltb-false, le-ltb}
use borrow.Author.Count.{below_more}
use Rattle.paper.specs.Limits.{limits, wide_from, billion}
use Rattle.paper.specs.Lists.{sum}
use Rattle.std.specs.Prelude.{if◌then◌else◌}
use Rattle.rules.specs.Format.{byte, record_of, width_of}
use Rattle.rules.specs.Longest.{longest_run}
use Rattle.paper.specs.Flat.{gates_from}
use Rattle.rules.specs.Rules.{Fits}
use Rattle.records.specs.Thresholds.{wrong_at}
use Rattle.records.specs.Judge.{Book, start, counts, ◌▷◌, add_event, add_gate, add_input, starved}
use Rattle.records.specs.Memory.{no_event}
use Rattle.rules.specs.States.{Bounded}
use Rattle.rules.specs.declared.format.Record.{Record}
use Rattle.rules.specs.declared.format.Record.TheVariants.{Missing, Unknown, Short, Event, SitedEvent, Gate, EventInput, GateInput, WideInput, End}
use Rattle.rules.proofs.Cases.{if_elim, either, front, known, gate_small, event_width, event_small}
use Rattle.records.proofs.Pad.{length_▷}
use Rattle.rules.proofs.Steps.{OnEvent, OnGate, OnInput, IsInput, code_of}
use Rattle.records.proofs.Sums.{old, new, all_▷, sum_▷, sum_old, sum_last, belows, belows_▷, last_is}
use Rattle.records.proofs.Starving.{inputs_more, sizes_more, by_last}

-- a gate record that was read is of a gate's kind
gate_kind : (l : List ℕ) {kind k n : ℕ} → record_of limits l ≡ Gate kind k n → (2 ≤ kind) × (kind ≤ 4)
gate_kind l {kind} {k} {n} =
    let P : Record → Type 0 = λ r. r ≡ Gate kind k n → (2 ≤ kind) × (kind ≤ 4) in
    let never : ◌≡◌ {A = ℕ} 0 1 → (2 ≤ kind) × (kind ≤ 4) = λ z. absurd (omega arith) in
    let is : (x : ℕ) → (2 ≤ x) × (x ≤ 4) → x ≡ kind → (2 ≤ kind) × (kind ≤ 4) = λ x h e. (omega arith, omega arith) in
    front l P (λ _ p. never (cc)) (λ _ p. never (cc)) (λ _ _ p. never (cc))
    (λ _ some _. known l (λ _ _ r. P r)
    (λ p. never (cc))
    (λ p. is 2 (omega arith, omega arith) (cc))
    (λ p. is 3 (omega arith, omega arith) (cc))
    (λ p. is 4 (omega arith, omega arith) (cc))
    (λ p. never (cc))
    (λ p. never (cc))
    (λ p. never (cc))
    (λ p. never (cc))
    (λ p. never (cc))
    (byte l 0) some)

-- and, or have no k of their own
gate_plain : (l : List ℕ) {kind k n : ℕ} → record_of limits l ≡ Gate kind k n → (kind ≡ 4 → ⊥) → k ≡ 0
gate_plain l {kind} {k} {n} =
    let P : Record → Type 0 = λ r. r ≡ Gate kind k n → (kind ≡ 4 → ⊥) → k ≡ 0 in
    let never : ◌≡◌ {A = ℕ} 0 1 → (kind ≡ 4 → ⊥) → k ≡ 0 = λ z. absurd (omega arith) in
    front l P (λ _ p. never (cc)) (λ _ p. never (cc)) (λ _ _ p. never (cc))
    (λ _ some _. known l (λ _ _ r. P r)
    (λ p. never (cc))
    (λ p w. cc)
    (λ p w. cc)
    (λ p w. absurd (w (cc)))
    (λ p. never (cc))
    (λ p. never (cc))
    (λ p. never (cc))
    (λ p. never (cc))
    (λ p. never (cc))
    (byte l 0) some)

-- an input that one byte names takes a byte less than the others
input_width : (n : ℕ) (r : Record) → IsInput n r → width_of r + (if ltb (code_of r) wide_from then 1 else 0) ≤ 3
input_width n Missing h = absurd h
input_width n Unknown h = absurd h
input_width n Short h = absurd h
input_width n (Event c) h = absurd h
input_width n (SitedEvent c site) h = absurd h
input_width n (Gate kind k m) h = absurd h
input_width n (EventInput e) h = if_elim (λ (k : ℕ). 2 + k ≤ 3) (ltb e wide_from) (λ _. omega arith) (λ _. omega arith)
input_width n (GateInput g) h = rw (le-ltb (gates_from + g) wide_from (omega arith)) (omega arith)
input_width n (WideInput e) h = rw (le-ltb e wide_from h.0) (omega arith)
input_width n End h = absurd h

pub record Kept (b : Book) : Type 0 where
  pub few_events : length b.events ≤ limits.events
  pub few_gates : length b.sizes ≤ limits.gates
  pub few_inputs : length b.inputs + b.left ≤ limits.in_all
  pub same_kinds : length b.kinds ≡ length b.sizes
  pub same_leasts : length b.leasts ≡ length b.sizes
  pub same_places : length b.places ≡ length b.sizes
  pub wanted : sum b.sizes ≡ length b.inputs + b.left
  -- the gates before the last have their inputs
  pub last : sum (take (length b.sizes - 1) b.sizes) ≤ length b.inputs
  pub low : b.at + belows wide_from b.inputs ≤ 7 * length b.events + 3 * length b.sizes + 3 * length b.inputs
  pub chances : (e : ℕ) → e < length b.events → (get_or b.events e no_event).chance ≤ billion
  pub sites : b.sited ≡ false → (e : ℕ) → e < length b.events → (get_or b.events e no_event).site ≡ 0
  pub kinds : (g : ℕ) → g < length b.kinds → (2 ≤ get_or b.kinds g 0) × (get_or b.kinds g 0 ≤ 4)
  pub sizes : (g : ℕ) → g < length b.sizes → (1 ≤ get_or b.sizes g 0) × (get_or b.sizes g 0 ≤ limits.inputs)
  -- a gate that has its inputs has a right k
  pub right : (g : ℕ) → g < length b.sizes → sum (take g b.sizes) + get_or b.sizes g 0 ≤ length b.inputs
      → wrong_at b.kinds b.leasts b.sizes b.inputs g ≡ false
  pub plain : (g : ℕ) → g < length b.sizes → (get_or b.kinds g 0 ≡ 4 → ⊥) → get_or b.leasts g 0 ≡ 0
  pub fits : (g : ℕ) → g < length b.sizes → (i : ℕ) → i < get_or b.sizes g 0 → sum (take g b.sizes) + i < length b.inputs
      → Fits (length b.events) g (get_or b.inputs (sum (take g b.sizes) + i) 0)

pub kept_start : Kept start
unfolding belows
kept_start = record {
  few_events = omega arith;
  few_gates = omega arith;
  few_inputs = omega arith;
  same_kinds = refl;
  same_leasts = refl;
  same_places = refl;
  wanted = refl;
  last = omega arith;
  low = omega arith;
  chances = λ e h. absurd (omega arith);
  sites = λ _ e h. absurd (omega arith);
  kinds = λ g h. absurd (omega arith);
  sizes = λ g h. absurd (omega arith);
  right = λ g h. absurd (omega arith);
  plain = λ g h. absurd (omega arith);
  fits = λ g h i j k. absurd (omega arith);
}

module _ {b : Book} (v : Kept b) where
  pub kept_bounded : Bounded (counts b)
  kept_bounded = record { events = v.few_events; gates = v.few_gates; inputs = v.few_inputs }

  -- a place of the reading is far below the highest number
  pub kept_near : b.at ≤ longest_run
  kept_near = omega (arith, v.low, v.few_events, v.few_gates, v.few_inputs)

  module _ {len : ℕ} {r : Record} where
    pub kept_event : {c site : ℕ} {sited : Bool} {next : ℕ} → OnEvent len (counts b) r c site sited next → Kept (add_event b c site sited next)
    kept_event {c} {site} {sited} {next} on =
        let none : length b.sizes ≡ 0 = on.first in
        let small : width_of r ≤ 7 = rw (on.shape, event_width sited c site) (event_small sited).1 in
        record {
          few_events = rw length_▷ (omega arith);
          few_gates = v.few_gates;
          few_inputs = v.few_inputs;
          same_kinds = v.same_kinds;
          same_leasts = v.same_leasts;
          same_places = v.same_places;
          wanted = v.wanted;
          last = v.last;
          low = rw length_▷ (omega (arith, v.low));
          chances = all_▷ b.events (record { chance = c; site = site }) no_event (λ _ x. x.chance ≤ billion) v.chances on.chance;
          sites = λ q. all_▷ b.events (record { chance = c; site = site }) no_event (λ _ x. x.site ≡ 0) (λ e l. v.sites (on.same (omega arith) ∙ q) e l) (on.plain q);
          kinds = v.kinds;
          sizes = v.sizes;
          right = v.right;
          plain = v.plain;
          fits = λ g h i j k. absurd (omega arith);
        }

    pub kept_gate : (l : List ℕ) → record_of limits l ≡ r → {kind k n next : ℕ} → OnGate len (counts b) r kind k n next → Kept (add_gate b kind k n next)
    kept_gate l decoded {kind} {k} {n} {next} on =
        let G : ℕ = length b.sizes in
        let three : width_of r ≤ 3 = rw on.shape (gate_small kind k n).1 in
        let full : sum b.sizes ≡ length b.inputs = omega (arith, v.wanted, on.none) in
        let all : sum (take G (◌▷◌ b.sizes n)) ≡ sum b.sizes = sum_old b.sizes n G (omega arith) ∙ ap sum (take_all G b.sizes (omega arith)) in
        record {
          few_events = v.few_events;
          few_gates = rw length_▷ (omega arith);
          few_inputs = on.room;
          same_kinds = simp length_▷ (ap (λ (m : ℕ). m + 1) v.same_kinds);
          same_leasts = simp length_▷ (ap (λ (m : ℕ). m + 1) v.same_leasts);
          same_places = simp length_▷ (ap (λ (m : ℕ). m + 1) v.same_places);
          wanted = rw sum_▷ (omega (arith, full));
          last = let one : length (◌▷◌ b.sizes n) - 1 ≡ G = omega (arith, length_▷ b.sizes n) in rw one (omega (arith, all, full));
          low = rw length_▷ (omega (arith, v.low));
          chances = v.chances;
          sites = v.sites;
          kinds = all_▷ b.kinds kind 0 (λ _ x. (2 ≤ x) × (x ≤ 4)) v.kinds (gate_kind l (decoded ∙ on.shape));
          sizes = all_▷ b.sizes n 0 (λ _ x. (1 ≤ x) × (x ≤ limits.inputs)) v.sizes (on.some, on.small);
          right = λ g h.
              below_more (λ (x : ℕ). sum (take x (◌▷◌ b.sizes n)) + get_or (◌▷◌ b.sizes n) x 0 ≤ length b.inputs
              → wrong_at (◌▷◌ b.kinds kind) (◌▷◌ b.leasts k) (◌▷◌ b.sizes n) b.inputs x ≡ false) G
              (λ x l inside.
              rw (old b.kinds kind 0 x (omega (arith, v.same_kinds)), old b.leasts k 0 x (omega (arith, v.same_leasts)), sizes_more b.sizes (n ∷ []) b.inputs x l)
              (v.right x l (rw (sum_old b.sizes n x (omega arith), old b.sizes n 0 x l) at inside)))
              (λ inside. absurd (omega (arith, all, full, new b.sizes n 0 G refl, on.some)))
              g (rw length_▷ at h);
          plain = all_▷ b.sizes n 0 (λ g x. (get_or (◌▷◌ b.kinds kind) g 0 ≡ 4 → ⊥) → get_or (◌▷◌ b.leasts k) g 0 ≡ 0)
              (λ g h. rw (old b.kinds kind 0 g (omega (arith, v.same_kinds)), old b.leasts k 0 g (omega (arith, v.same_leasts))) (v.plain g h))
              (rw (new b.kinds kind 0 G v.same_kinds, new b.leasts k 0 G v.same_leasts) (gate_plain l (decoded ∙ on.shape)));
          fits = λ g h i j m.
              below_more (λ (x : ℕ). (y : ℕ) → y < get_or (◌▷◌ b.sizes n) x 0 → sum (take x (◌▷◌ b.sizes n)) + y < length b.inputs
              → Fits (length b.events) x (get_or b.inputs (sum (take x (◌▷◌ b.sizes n)) + y) 0)) G
              (λ x l y low inside.
              let before : sum (take x (◌▷◌ b.sizes n)) ≡ sum (take x b.sizes) = sum_old b.sizes n x (omega arith) in
              rw before (v.fits x l y (rw (old b.sizes n 0 x l) at low) (rw before at inside)))
              (λ y low inside. absurd (omega (arith, all, full)))
              g (rw length_▷ at h) i j m;
        }

    pub kept_input : {i next : ℕ} → OnInput len (counts b) r i next → starved (add_input b i next) ≡ false → Kept (add_input b i next)
    kept_input {i} {next} on fed =
        let N : ℕ = length b.inputs in
        let wide : width_of r + (if ltb i wide_from then 1 else 0) ≤ 3 = rw on.code at (input_width (length b.events) r on.input) in
        record {
          few_events = v.few_events;
          few_gates = v.few_gates;
          few_inputs = rw length_▷ (omega (arith, v.few_inputs));
          same_kinds = v.same_kinds;
          same_leasts = v.same_leasts;
          same_places = v.same_places;
          wanted = rw length_▷ (omega (arith, v.wanted));
          last = rw length_▷ (omega (arith, v.last));
          low = rw (length_▷, belows_▷) (omega (arith, v.low, wide, on.place));
          chances = v.chances;
          sites = v.sites;
          kinds = v.kinds;
          sizes = v.sizes;
          right = λ g h m. fed_right g h (rw length_▷ at m);
          plain = v.plain;
          fits = λ g h j k m. inner g h j k (rw length_▷ at m);
        }
      where
        inner : (g : ℕ) → g < length b.sizes → (j : ℕ) → j < get_or b.sizes g 0 → sum (take g b.sizes) + j < length b.inputs + 1
            → Fits (length b.events) g (get_or (◌▷◌ b.inputs i) (sum (take g b.sizes) + j) 0)
        inner g h j k m =
            let p : ℕ = sum (take g b.sizes) + j in
            either (ltb p (length b.inputs))
            (λ e. let l : p < length b.inputs = ltb-true p (length b.inputs) e in rw (old b.inputs i 0 p l) (v.fits g h j k l))
            (λ e.
            let here : length b.inputs ≡ p = omega (arith, ltb-false p (length b.inputs) e) in
            let mine : g ≡ length b.sizes - 1 = last_is b.sizes (length b.inputs) g j h k v.last (omega arith) in
            rw (new b.inputs i 0 p here, mine) (on.fits v.few_events))

        -- the last gate may have got its last input
        fed_right : (g : ℕ) → g < length b.sizes → sum (take g b.sizes) + get_or b.sizes g 0 ≤ length b.inputs + 1
            → wrong_at b.kinds b.leasts b.sizes (◌▷◌ b.inputs i) g ≡ false
        fed_right g h m =
            let p : ℕ = sum (take g b.sizes) + get_or b.sizes g 0 in
            either (ltb (length b.inputs) p)
            (λ e.
            let last : length b.inputs < p = ltb-true (length b.inputs) p e in
            let some : 1 ≤ get_or b.sizes g 0 = (v.sizes g h).0 in
            let mine : g ≡ length b.sizes - 1 = last_is b.sizes (length b.inputs) g (get_or b.sizes g 0 - 1) h (omega arith) v.last (omega arith) in
            let none : b.left - 1 ≡ 0 = omega (arith, v.wanted, sum_last b.sizes (omega arith), ap (λ (x : ℕ). sum (take x b.sizes) + get_or b.sizes x 0) mine) in
            rw mine (sym (by_last b.kinds b.leasts b.sizes (◌▷◌ b.inputs i) (counts (add_input b i next)) none) ∙ fed))
            (λ e.
            let before : p ≤ length b.inputs = ltb-false (length b.inputs) p e in
            rw (inputs_more b.sizes b.inputs (i ∷ []) g before) (v.right g h before))
