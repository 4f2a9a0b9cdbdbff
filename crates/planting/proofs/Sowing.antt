-- The events of an order, put into an array one by one.
-- Assumes nothing.
use mathlib.Core.Path.{◌≡◌, refl, sym, ap, ◌∙◌}
use mathlib.Core.Bool.{Bool, true, false}
use mathlib.Core.List.{List, [], ◌∷◌, ◌++◌, map, append-nil}
use Prim.Native.Nat.{ℕ, ◌+◌, ◌<◌, ◌≤◌}
use native.Mathlib.Omega.{arith}
use lib.ListN.{length, get_or, take, drop, set, length-append}
use borrow.Author.Tests.{lt-ltb, le-ltb, le-leb, lt-leb}
use Rattle.paper.specs.Limits.{limits, billion}
use Rattle.paper.specs.Walks.{is_event}
use Rattle.paper.specs.Importing.{or_else, events_break}
use Rattle.records.specs.Memory.{pad, no_event}
use Rattle.records.specs.Flattened.{event_of}
use Rattle.records.specs.declared.Event.{Event}
use Rattle.records.proofs.Lists.{map_length, map_append}
use Rattle.records.proofs.Pad.{pad_fill}
use Rattle.records.proofs.Breaks.{or_else_none, or_else_some, events_append, events_few}
use Rattle.depthfirst.specs.Inputs.{inputs_of}
use Rattle.planting.specs.Orders.{chances_among, Sowable}
use Rattle.paper.specs.Refusals.{number}
use Rattle.paper.specs.declared.refusal.Refusal.{Refusal}
use Rattle.paper.proofs.Refusals.{number_above}
use Rattle.planting.specs.Planting.{EventsIn, Sows}
use Rattle.std.specs.Prelude.{Ok, Err}
use Rattle.planting.proofs.Orders.{one_more, the_rest, name_in, chances_append, chances_event, chances_gate}

-- ---- one event's limits

pub event_many : {e : ℕ} (c : ℕ) → limits.events ≤ e → 4 ≡ events_break limits e (c ∷ [])
unfolding events_break
event_many {e} c h = rw (le-leb limits.events e h, events_break)

pub event_high : {e c : ℕ} → e < limits.events → billion < c → 7 ≡ events_break limits e (c ∷ [])
unfolding events_break
event_high {e} {c} h k = rw (lt-leb limits.events e h, lt-ltb billion c k, events_break)

pub event_fine : {e c : ℕ} → e < limits.events → c ≤ billion → 0 ≡ events_break limits e (c ∷ [])
unfolding events_break
event_fine {e} {c} h k = rw (lt-leb limits.events e h, le-ltb billion c k, events_break)

-- ---- one turn

module _ {S I : List ℕ} {n : ℕ} {Q : List ℕ} {left : ℕ} {G : List ℕ} (a : Sowable S I n Q left G) where
  abbrev C : ℕ → List ℕ
  C i = chances_among S I G (take i Q)

  pub sown_none : EventsIn (C 0) 0 (pad limits.events no_event [])
  unfolding chances_among events_break
  sown_none = record { within = refl; count = refl; is = refl }

  module _ {i x : ℕ} (more : i < left) (ex : x ≡ get_or Q i 0) where
    pub sown_low : x < n
    sown_low = a.low x (name_in Q more a.inside ex)

    chances_more : C (i + 1) ≡ C i ++ chances_among S I G (x ∷ [])
    chances_more = ap (chances_among S I G) (one_more Q (omega (arith, a.inside)) ex) ∙ chances_append S I G (take i Q) (x ∷ [])

    module _ {e : ℕ} {evs : List Event} (w : EventsIn (C i) e evs) {b : Bool} (told : b ≡ is_event (inputs_of S I x)) where
      pub sown_gate : b ≡ false → EventsIn (C (i + 1)) e evs
      sown_gate q =
          let same : C (i + 1) ≡ C i = chances_more ∙ ap (λ m. C i ++ m) (chances_gate S I G x (sym told ∙ q)) ∙ append-nil (C i) in
          rw same w

      module _ (q : b ≡ true) {m : ℕ} (judged : m ≡ events_break limits e (get_or G x 0 ∷ [])) where
        longer : C (i + 1) ≡ C i ++ (get_or G x 0 ∷ [])
        longer = chances_more ∙ ap (λ m. C i ++ m) (chances_event S I G x (sym told ∙ q))

        breaks_next : events_break limits 0 (C (i + 1)) ≡ m
        breaks_next =
            let p : 0 + length (C i) ≡ e = omega (arith, w.count) in
            ap (events_break limits 0) longer ∙ events_append limits (C i) (get_or G x 0 ∷ []) 0 ∙ or_else_none _ _ w.within
            ∙ ap (λ k. events_break limits k (get_or G x 0 ∷ [])) p ∙ sym judged

        pub sown_broken : (why : Refusal) → number why ≡ m → Sows (C left) (Err why)
        sown_broken why told_why =
            let rest : List ℕ = drop (i + 1) (take left Q) in
            let split : C left ≡ C (i + 1) ++ chances_among S I G rest = ap (chances_among S I G) (let k : i + 1 ≤ left = omega arith in the_rest Q k) ∙ chances_append S I G (take (i + 1) Q) rest in
            let later : ℕ = events_break limits (0 + length (C (i + 1))) (chances_among S I G rest) in
            let one : events_break limits 0 (C left) ≡ m =
            ap (events_break limits 0) split ∙ events_append limits (C (i + 1)) (chances_among S I G rest) 0
            ∙ ap (λ k. or_else k later) breaks_next ∙ or_else_some m later (omega (arith, number_above why, told_why)) in
            told_why ∙ sym one

        module _ (none : m ≤ 0) where
          within_next : events_break limits 0 (C (i + 1)) ≡ 0
          within_next = omega (arith, breaks_next)

          pub sown_few : e < limits.events
          sown_few = omega (arith, events_few limits (C (i + 1)) 0 within_next (omega arith), ap length longer, length-append (C i) (get_or G x 0 ∷ []), w.count)

          pub sown_event : EventsIn (C (i + 1)) (e + 1) (set evs e (event_of (get_or G x 0)))
          sown_event = record {
            within = within_next;
            count = omega (arith, w.count, ap length longer, length-append (C i) (get_or G x 0 ∷ []));
            is =
                pad_fill limits.events no_event (map event_of (C i)) (event_of (get_or G x 0)) w.is (map_length event_of (C i) ∙ sym w.count) sown_few
                ∙ ap (pad limits.events no_event) (sym (map_append event_of (C i) (get_or G x 0 ∷ [])) ∙ ap (map event_of) (sym longer));
          }

  pub sown_all : {i e : ℕ} {evs : List Event} → i ≤ left → left ≤ i → EventsIn (C i) e evs → Sows (C left) (Ok (record { count = e; events = evs }))
  sown_all {i} {e} {evs} l m w =
      let q : left ≡ i = omega arith in
      rw q w
