-- The bytes of a tree from a state of the writing on, and how a record takes them further.
-- Assumes nothing.
use mathlib.Core.Path.{◌≡◌, refl, sym, ap, ◌∙◌}
use mathlib.Core.Bool.{Bool, true, false}
use mathlib.Core.List.{List, ◌++◌}
use Prim.Native.Nat.{ℕ, zero, suc, ◌+◌, ◌-◌, ◌≤◌, ◌<◌}
use native.Mathlib.Omega.{arith}
use lib.ListN.{get_or}
use lib.Dec.{ltb, eqb}
use borrow.Author.Tests.{ltb-true, ltb-false, lt-ltb, le-ltb, eqb-true}
use Rattle.std.specs.Prelude.{if◌then◌else◌}
use Rattle.paper.specs.Limits.{limits, wide_from}
use Rattle.paper.specs.Flat.{gates_from}
use Rattle.rules.specs.Format.{event_in, encode}
use Rattle.judging.specs.Bytes.{event_at, gate_at, input_at, held_event, later_of, next_of, input_bytes, gate_bytes, event_bytes, told_least}
use Rattle.judging.specs.Inner.{Within}
use Rattle.rules.specs.declared.format.Record.{Record}
use Rattle.rules.specs.declared.format.Record.TheVariants.{Missing, Unknown, Short, Event, SitedEvent, Gate, EventInput, GateInput, WideInput, End}
use Rattle.rules.specs.declared.judge.State.{State}
use Rattle.records.specs.declared.Event.{Event as Held}
use Rattle.records.specs.declared.Tree.{Tree}
use Rattle.rules.proofs.Cases.{if_elim, either}

-- the records of event e, of gate g and of input i of a tree, and the one that comes next
abbrev pub event_record : Tree → ℕ → Record
event_record t e = event_at t.sited (held_event t e) e

abbrev pub gate_record_at : Tree → ℕ → Record
gate_record_at t g = gate_at t.kinds t.leasts t.sizes g

abbrev pub input_record_at : Tree → ℕ → Record
input_record_at t i = input_at t.inputs i

abbrev pub next_record : Tree → State → Record
next_record t s = next_of t.event_count t.gate_count t.sited (held_event t s.events) t.kinds t.leasts t.sizes t.inputs s

-- the event does not matter behind the array
same_event : (sited : Bool) (x y : Held) (e : ℕ) → (e < limits.events → x ≡ y) → event_at sited x e ≡ event_at sited y e
same_event sited x y e h = either (ltb e limits.events) (λ q. ap (λ (z : Held). event_at sited z e) (h (ltb-true e limits.events q))) (λ q. rw q)

pub next_within : (t : Tree) (s : State) (j : ℕ) → Within s.events j
    → next_of t.event_count t.gate_count t.sited (held_event t j) t.kinds t.leasts t.sizes t.inputs s ≡ next_record t s
next_within t s j w =
    ap (λ (r : Record). if ltb s.events t.event_count then r else later_of t.gate_count t.kinds t.leasts t.sizes t.inputs s)
    (same_event t.sited (held_event t j) (held_event t s.events) s.events (λ h. ap (held_event t) (w.same h)))

-- e events, g gates and i inputs are written, and l inputs of the last gate are left
unfoldable pub rest_at : Tree → ℕ → ℕ → ℕ → ℕ → List ℕ
rest_at t e g i l =
    if ltb e t.event_count then event_bytes t (t.event_count - e) e else
    input_bytes t l i (gate_bytes t (t.gate_count - g) g (i + l))

module _ (t : Tree) (e g i l : ℕ) where
  pub rest_event : e < t.event_count → g ≡ 0 → i ≡ 0 → l ≡ 0 → rest_at t e g i l ≡ encode (event_record t e) ++ rest_at t (e + 1) g i l
  unfolding rest_at event_bytes input_bytes gate_bytes
  rest_event h zg zi zl =
      let one : t.event_count - e ≡ suc (t.event_count - (e + 1)) = omega arith in
      rw (lt-ltb _ _ h, one) (ap (λ (xs : List ℕ). encode (event_record t e) ++ xs)
      (if_elim (λ (xs : List ℕ). event_bytes t (t.event_count - (e + 1)) (e + 1) ≡ xs) (ltb (e + 1) t.event_count) (λ _. refl)
      (λ d.
      let none : t.event_count - (e + 1) ≡ zero = omega (arith, ltb-false (e + 1) t.event_count d) in
      let all : t.gate_count - 0 ≡ t.gate_count = omega arith in
      rw (none, zg, zi, zl, all))))

  pub rest_input : t.event_count ≤ e → 0 < l → rest_at t e g i l ≡ encode (input_record_at t i) ++ rest_at t e g (i + 1) (l - 1)
  unfolding rest_at event_bytes input_bytes gate_bytes
  rest_input h some =
      let one : l ≡ suc (l - 1) = omega arith in
      let same : i + 1 + (l - 1) ≡ i + l = omega arith in
      rw (le-ltb _ _ h, same) (ap (λ (n : ℕ). input_bytes t n i (gate_bytes t (t.gate_count - g) g (i + l))) one)

  pub rest_gate : t.event_count ≤ e → l ≡ 0 → g < t.gate_count → rest_at t e g i l ≡ encode (gate_record_at t g) ++ rest_at t e (g + 1) i (get_or t.sizes g 0)
  unfolding rest_at event_bytes input_bytes gate_bytes
  rest_gate h none more =
      let one : t.gate_count - g ≡ suc (t.gate_count - (g + 1)) = omega arith in
      let same : i + 0 ≡ i = omega arith in
      rw (le-ltb _ _ h, none, one, same)

  pub rest_end : t.event_count ≤ e → l ≡ 0 → t.gate_count ≤ g → rest_at t e g i l ≡ encode End
  unfolding rest_at event_bytes input_bytes gate_bytes
  rest_end h none all =
      let z : t.gate_count - g ≡ zero = omega arith in
      rw (le-ltb _ _ h, none, z)

-- kinds of records, to tell them apart; a gate of no kind counts as a gate
abbrev pub tag : Record → ℕ
tag Missing = 0
tag Short = 0
tag (Event c) = 1
tag (SitedEvent c site) = 1
tag Unknown = 2
tag (Gate kind k n) = 2
tag (EventInput e) = 3
tag (GateInput g) = 3
tag (WideInput e) = 3
tag End = 4

pub tag_in : (sited : Bool) (c site : ℕ) → tag (event_in sited c site) ≡ 1
tag_in true c site = refl
tag_in false c site = refl

module _ (t : Tree) where
  tag_event : (i : ℕ) → tag (event_record t i) ≡ 1
  tag_event i = if_elim (λ (r : Record). tag r ≡ 1) (ltb i limits.events) (λ _. tag_in t.sited _ _) (λ _. tag_in t.sited 0 0)

  tag_input : (i : ℕ) → tag (input_record_at t i) ≡ 3
  tag_input i =
      let P : Record → Type 0 = λ r. tag r ≡ 3 in
      let code : ℕ = get_or t.inputs i 0 in
      if_elim P (ltb code wide_from) (λ _. refl) (λ _. if_elim P (ltb code gates_from) (λ _. refl) (λ _. refl))

  tag_gate : (g : ℕ) → tag (gate_record_at t g) ≡ 2
  tag_gate g =
      let P : Record → Type 0 = λ r. tag r ≡ 2 in
      let kind : ℕ = get_or t.kinds g 0 in
      if_elim P (ltb g limits.gates)
      (λ _. if_elim P (eqb kind 2) (λ _. refl) (λ _. if_elim P (eqb kind 3) (λ _. refl) (λ _. if_elim P (eqb kind 4) (λ _. refl) (λ _. refl))))
      (λ _. refl)

  -- the record that comes next, by its four cases
  module _ (s : State) where
    pub which : (P : Record → Type 0)
        → (s.events < t.event_count → P (event_record t s.events))
        → (t.event_count ≤ s.events → 0 < s.left → P (input_record_at t s.inputs))
        → (t.event_count ≤ s.events → s.left ≡ 0 → s.gates < t.gate_count → P (gate_record_at t s.gates))
        → (t.event_count ≤ s.events → s.left ≡ 0 → t.gate_count ≤ s.gates → P End)
        → P (next_record t s)
    which P ev inp gt end =
        if_elim P (ltb s.events t.event_count) (λ a. ev (ltb-true _ _ a))
        (λ a. if_elim P (ltb 0 s.left) (λ b. inp (ltb-false _ _ a) (ltb-true _ _ b))
        (λ b. if_elim P (ltb s.gates t.gate_count)
        (λ d. gt (ltb-false _ _ a) (omega (arith, ltb-false 0 s.left b)) (ltb-true _ _ d))
        (λ d. end (ltb-false _ _ a) (omega (arith, ltb-false 0 s.left b)) (ltb-false _ _ d))))

    pub is_event_lem : tag (next_record t s) ≡ 1 → s.events < t.event_count
    is_event_lem =
        which (λ r. tag r ≡ 1 → s.events < t.event_count)
        (λ h q. h)
        (λ h m q. absurd (omega (arith, sym (tag_input s.inputs) ∙ q)))
        (λ h m n q. absurd (omega (arith, sym (tag_gate s.gates) ∙ q)))
        (λ h m n q. absurd (omega arith))

    pub is_gate : tag (next_record t s) ≡ 2 → (t.event_count ≤ s.events) × (s.left ≡ 0) × (s.gates < t.gate_count)
    is_gate =
        which (λ r. tag r ≡ 2 → (t.event_count ≤ s.events) × (s.left ≡ 0) × (s.gates < t.gate_count))
        (λ h q. absurd (omega (arith, sym (tag_event s.events) ∙ q)))
        (λ h m q. absurd (omega (arith, sym (tag_input s.inputs) ∙ q)))
        (λ h m n q. (h, m, n))
        (λ h m n q. absurd (omega arith))

    pub is_end : tag (next_record t s) ≡ 4 → (t.event_count ≤ s.events) × (s.left ≡ 0) × (t.gate_count ≤ s.gates)
    is_end =
        which (λ r. tag r ≡ 4 → (t.event_count ≤ s.events) × (s.left ≡ 0) × (t.gate_count ≤ s.gates))
        (λ h q. absurd (omega (arith, sym (tag_event s.events) ∙ q)))
        (λ h m q. absurd (omega (arith, sym (tag_input s.inputs) ∙ q)))
        (λ h m n q. absurd (omega (arith, sym (tag_gate s.gates) ∙ q)))
        (λ h m n q. (h, m, n))

-- what the record of a gate tells
pub gate_told : (t : Tree) (g kind k n : ℕ) → g < limits.gates → gate_record_at t g ≡ Gate kind k n
    → (kind ≡ get_or t.kinds g 0) × (k ≡ told_least (get_or t.kinds g 0) (get_or t.leasts g 0)) × (n ≡ get_or t.sizes g 0)
gate_told t g kind k n h q =
    let kd : ℕ = get_or t.kinds g 0 in
    let kl : ℕ = get_or t.leasts g 0 in
    let ks : ℕ = get_or t.sizes g 0 in
    let P : Record → Type 0 = λ r. r ≡ Gate kind k n → (kind ≡ kd) × (k ≡ told_least kd kl) × (n ≡ ks) in
    (if_elim P (ltb g limits.gates)
    (λ _. if_elim P (eqb kd 2) (λ e p. let z : kd ≡ 2 = eqb-true kd 2 e in let y : k ≡ 0 = cc in (cc, rw z y, cc))
    (λ _. if_elim P (eqb kd 3) (λ e p. let z : kd ≡ 3 = eqb-true kd 3 e in let y : k ≡ 0 = cc in (cc, rw z y, cc))
    (λ _. if_elim P (eqb kd 4) (λ e p. let z : kd ≡ 4 = eqb-true kd 4 e in let y : k ≡ kl = cc in (cc, rw z y, cc))
    (λ _ p. let z : ◌≡◌ {A = ℕ} 0 1 = cc in absurd (omega arith)))))
    (λ e. absurd (omega (arith, ltb-false g limits.gates e)))) q
