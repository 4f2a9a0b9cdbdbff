-- The writing of a tree, followed record by record along the tree's bytes.
-- Assumes nothing.
use mathlib.Core.Path.{◌≡◌, refl, sym, ap, ◌∙◌}
use mathlib.Core.Bool.{Bool}
use mathlib.Core.List.{List, [], ◌∷◌, ◌++◌}
use Prim.Native.Nat.{ℕ, zero, ◌+◌, ◌-◌, ◌*◌, ◌≤◌, ◌<◌}
use native.Mathlib.Omega.{arith}
use lib.ListN.{length, get_or, drop, length-drop, length-append}
use lib.Dec.{ltb}
use borrow.Author.Tests.{ltb-false, lt-ltb, le-ltb}
use Rattle.paper.specs.Limits.{limits}
use Rattle.rules.specs.Format.{record_of, width_of, encode}
use Rattle.rules.specs.Rules.{admit_of, step_of}
use Rattle.rules.specs.States.{begun, past_event, past_gate, past_input}
use Rattle.judging.specs.Bytes.{input_bytes, gate_bytes, event_bytes, bytes_of, held_event, next_of}
use Rattle.judging.specs.Inner.{Own, Within}
use Rattle.rules.specs.declared.format.Record.{Record}
use Rattle.rules.specs.declared.format.Record.TheVariants.{Missing, Unknown, Short, Event, SitedEvent, Gate, EventInput, GateInput, WideInput, End}
use Rattle.rules.specs.declared.judge.State.{State}
use Rattle.records.specs.declared.Tree.{Tree}
use Rattle.rules.proofs.Cases.{if_elim, ≤_or, gate_small, event_width, event_small}
use Rattle.rules.proofs.Steps.{OnEvent, OnGate, OnInput, input_small}
use Rattle.judging.proofs.Coding.{own_end, encode_width, cut}
use Rattle.judging.proofs.Rest.{next_within, event_record, gate_record_at, input_record_at, next_record, rest_at, rest_event, rest_input, rest_gate, rest_end, tag, tag_in, which, is_event_lem, is_gate, is_end, gate_told}

pub record Following (t : Tree) (bytes : List ℕ) (s : State) : Type 0 where
  pub rest : drop s.at bytes ≡ rest_at t s.events s.gates s.inputs s.left
  pub early : s.events < t.event_count → (s.gates ≡ 0) × (s.inputs ≡ 0) × (s.left ≡ 0)
  pub low : s.at ≤ 7 * s.events + 3 * s.gates + 3 * s.inputs

pub follow_start : (t : Tree) → Following t (bytes_of t) begun
unfolding bytes_of rest_at event_bytes input_bytes gate_bytes
follow_start t = record {
  rest =
      if_elim (λ (xs : List ℕ). event_bytes t t.event_count 0 ≡ xs) (ltb 0 t.event_count)
      (λ _. let e : t.event_count - 0 ≡ t.event_count = omega arith in rw e)
      (λ d.
      let z : t.event_count ≡ zero = omega (arith, ltb-false 0 t.event_count d) in
      let a : t.gate_count - 0 ≡ t.gate_count = omega arith in
      rw (z, a));
  early = λ _. (refl, refl, refl);
  low = omega arith;
}

module _ {t : Tree} {bytes : List ℕ} {s : State} (f : Following t bytes s) where
  -- the bytes that are left start with the next record's
  starts : (xs : List ℕ) × (drop s.at bytes ≡ encode (next_record t s) ++ xs)
  starts =
      which t s (λ r. (xs : List ℕ) × (drop s.at bytes ≡ encode r ++ xs))
      (λ h. let (zg, zi, zl) = f.early h in (rest_at t (s.events + 1) s.gates s.inputs s.left, f.rest ∙ rest_event t _ _ _ _ h zg zi zl))
      (λ h some. (rest_at t s.events s.gates (s.inputs + 1) (s.left - 1), f.rest ∙ rest_input t _ _ _ _ h some))
      (λ h none more. (rest_at t s.events (s.gates + 1) s.inputs (get_or t.sizes s.gates 0), f.rest ∙ rest_gate t _ _ _ _ h none more))
      (λ h none all. ([], f.rest ∙ rest_end t _ _ _ _ h none all))

  -- the event is the one that comes next, where the array has it
  pub next_is : {r : Record} {j : ℕ} → Within s.events j
      → r ≡ next_of t.event_count t.gate_count t.sited (held_event t j) t.kinds t.leasts t.sizes t.inputs s → r ≡ next_record t s
  next_is {r} {j} w e = e ∙ next_within t s j w

  module _ {r : Record} (e : r ≡ next_record t s) where
    pub starts_with : (xs : List ℕ) × (drop s.at bytes ≡ encode r ++ xs)
    starts_with = rw e starts

    pub read_back : Own r → record_of limits (drop s.at bytes) ≡ r
    read_back own = let (xs, q) = starts_with in rw q (own xs)

    pub room_for : s.at ≤ length bytes → s.at + width_of r ≤ length bytes
    room_for h =
        let (xs, q) = starts_with in
        omega (arith, ap length q ∙ length-append (encode r) xs, encode_width r, length-drop s.at bytes)

    pub ends : r ≡ End → drop s.at bytes ≡ encode End
    ends q = let (h, none, all) = is_end t s (ap tag (sym e ∙ q)) in f.rest ∙ rest_end t _ _ _ _ h none all

    pub end_length : r ≡ End → length bytes ≡ s.at + 1
    end_length q = omega (arith, ap length (ends q), length-drop s.at bytes)

    pub at_event : {len next c site : ℕ} {sited : Bool} → OnEvent len s r c site sited next → r ≡ event_record t s.events
    at_event {c = c} {site = site} {sited = sited} on = let h : s.events < t.event_count = is_event_lem t s (ap tag (sym e ∙ on.shape) ∙ tag_in sited c site) in e ∙ rw (lt-ltb _ _ h)

    pub follow_event : {len next c site : ℕ} {sited : Bool} → OnEvent len s r c site sited next
        → Following t bytes (past_event s sited next)
    follow_event {c = c} {site = site} {sited = sited} on =
        let h : s.events < t.event_count = is_event_lem t s (ap tag (sym e ∙ on.shape) ∙ tag_in sited c site) in
        let (zg, zi, zl) = f.early h in
        let small : width_of r ≤ 7 = rw (on.shape, event_width sited c site) (event_small sited).1 in
        record {
          rest = rw on.place (cut bytes s.at r _ (f.rest ∙ rest_event t _ _ _ _ h zg zi zl ∙ rw (at_event on)));
          early = λ _. (zg, zi, zl);
          low = omega (arith, f.low);
        }

    pub at_gate : {len next kind k n : ℕ} → OnGate len s r kind k n next → (t.event_count ≤ s.events) × (s.gates < t.gate_count) × (r ≡ gate_record_at t s.gates)
    at_gate on =
        let (h, none, more) = is_gate t s (ap tag (sym e ∙ on.shape)) in
        (h, more, e ∙ rw (le-ltb _ _ h, none, lt-ltb _ _ more))

    pub follow_gate : {len next kind k n : ℕ} → OnGate len s r kind k n next
        → Following t bytes (past_gate s n next)
    follow_gate {kind = kind} {k = k} {n = n} on =
        let (h, more, there) = at_gate on in
        let (kinds, leasts, size) = gate_told t s.gates kind k n on.few (sym there ∙ on.shape) in
        let small : width_of r ≤ 3 = rw on.shape (gate_small kind k n).1 in
        record {
          rest = rw (on.place, size) (cut bytes s.at r _ (f.rest ∙ rest_gate t _ _ _ _ h on.none more ∙ rw there));
          early = λ d. absurd (omega arith);
          low = omega (arith, f.low);
        }

    pub at_input : {len next i : ℕ} → OnInput len s r i next → (t.event_count ≤ s.events) × (r ≡ input_record_at t s.inputs)
    at_input on =
        let h : t.event_count ≤ s.events = ≤_or (λ d. omega (arith, f.early d, on.some)) in
        (h, e ∙ rw (le-ltb _ _ h, lt-ltb _ _ on.some))

    pub follow_input : {len next i : ℕ} → OnInput len s r i next
        → Following t bytes (past_input s next)
    follow_input on =
        let (h, there) = at_input on in
        let small : width_of r ≤ 3 = (input_small s.events r on.input).1 in
        record {
          rest = rw on.place (cut bytes s.at r _ (f.rest ∙ rest_input t _ _ _ _ h on.some ∙ rw there));
          early = λ d. absurd (omega arith);
          low = omega (arith, f.low);
        }

    -- the step that the code takes on the record is the one that the bytes give
    pub follow_step : Own r → admit_of limits (s.at + width_of r) s r ≡ step_of limits bytes s
    unfolding step_of
    follow_step own = rw (read_back own) (go r own end_length)
      where
        go : (x : Record) → Own x → (x ≡ End → length bytes ≡ s.at + 1) → admit_of limits (s.at + width_of x) s x ≡ admit_of limits (length bytes) s x
        go Missing o h = let p : End ≡ Missing = sym (own_end []) ∙ o (7 ∷ []) in let z : ◌≡◌ {A = ℕ} 0 1 = cc in absurd (omega arith)
        go Short o h = refl
        go Unknown o h = refl
        go (Event c) o h = refl
        go (SitedEvent c site) o h = refl
        go (Gate kind k n) o h = refl
        go (EventInput i) o h = refl
        go (GateInput g) o h = refl
        go (WideInput i) o h = refl
        go End o h = rw (h refl)
