-- OLD FILES AND OLD READERS. An old reader is the reading at the old limits, which have no kinds 08 and 11. What it accepts is read the same now, and
-- written back the same; a tree with sites stops it at its first event, with number 2; any other tree with more events than it takes stops it at the 257th
-- event, with number 4; and it accepts every other tree.
-- Assumes nothing.
use mathlib.Core.Path.{◌≡◌, refl, sym, ap, ◌∙◌}
use mathlib.Core.Logic.{◌⊎◌, ◌↔◌, inl, inr}
use mathlib.Core.Bool.{Bool, true, false}
use mathlib.Core.List.{List, ◌++◌}
use Prim.Native.Nat.{ℕ, zero, suc, ◌+◌, ◌-◌, ◌*◌, ◌≤◌, ◌<◌}
use native.Mathlib.Omega.{arith}
use native.Mathlib.Numerals.{add-one}
use lib.ListN.{length, drop}
use lib.Dec.{ltb, leb}
use borrow.Author.Tests.{ltb-true, ltb-false, leb-false, le-leb, lt-leb, le-ltb}
use Rattle.std.specs.Prelude.{Result, Ok, Err}
use Rattle.paper.specs.Limits.{limits, old_limits, billion}
use Rattle.paper.specs.Answers.{Verdict}
use Rattle.rules.specs.Answers.{verdict}
use Rattle.rules.specs.Format.{record_of, event_in, length_of, width_of}
use Rattle.rules.specs.Rules.{mixed, event_step, admit_of, step_of}
use Rattle.records.specs.Judge.{Book, start, counts, add_event, add_gate, add_input, threshold_step, next_step, Outcome, accept, refuse, answer_of, close_of, run, outcome, judge}
use Rattle.records.specs.Memory.{memory}
use Rattle.writing.specs.Writes.{write_of, wrote}
use Rattle.trees.specs.Exactly.{AreBytes}
use Rattle.rules.specs.declared.Refusal.{Refusal}
use Rattle.rules.specs.declared.Refusal.TheVariants.{UnknownKind, Count}
use Rattle.rules.specs.declared.format.Record.{Record}
use Rattle.rules.specs.declared.format.Record.TheVariants.{Missing, Unknown, Short, Event, SitedEvent, Gate, EventInput, GateInput, WideInput, End}
use Rattle.rules.specs.declared.judge.State.{State}
use Rattle.rules.specs.declared.judge.Step.{Step}
use Rattle.rules.specs.declared.judge.Step.TheVariants.{AddEvent, AddGate, AddInput, Close}
use Rattle.rules.proofs.Cases.{either, ≤_or, Newer, old_record, old_sited}
use Rattle.rules.proofs.Steps.{OnEvent, Sound, IsInput}
use Rattle.records.proofs.Pad.{length_▷}
use Rattle.records.proofs.Keeping.{Kept, kept_start, kept_event, kept_gate, kept_input}
use Rattle.records.proofs.Sums.{some_sizes}
use Rattle.records.proofs.Runs.{onward, run_step, run_event, run_gate, run_input, run_close, run_refused, sound_next, next_fed, close_is, accepted_keeps}
use Rattle.judging.proofs.Rest.{tag}
use Rattle.trees.proofs.Welcome.{Welcome, not_mixed}
use Rattle.trees.proofs.RoundTrip.{no_sizes, write_gives_back}

-- ---- what an old reader takes is taken now

-- the limits of an event are the wider ones, and no other record asks the limits that moved
old_event : (s : State) (after c site : ℕ) (sited : Bool) → Welcome (event_step old_limits s after c site sited) → event_step limits s after c site sited ≡ event_step old_limits s after c site sited
old_event s after c site sited w =
    either (ltb 0 s.gates) (λ e. rw e)
    (λ e. either (mixed s sited) (λ m. rw (e, m))
    (λ m. either (leb old_limits.events s.events)
    (λ d. absurd (rw (e, m, d) at w))
    (λ d. rw (e, m, d, lt-leb limits.events s.events (omega (arith, leb-false old_limits.events s.events d))))))

old_admit : (len : ℕ) (s : State) (r : Record) → Welcome (admit_of old_limits len s r) → admit_of limits len s r ≡ admit_of old_limits len s r
old_admit len s Missing w = absurd w
old_admit len s Unknown w = absurd w
old_admit len s Short w = absurd w
old_admit len s (Event c) w = old_event s _ c 0 false w
old_admit len s (SitedEvent c site) w = old_event s _ c site true w
old_admit len s (Gate kind k n) w = refl
old_admit len s (EventInput e) w = refl
old_admit len s (GateInput g) w = refl
old_admit len s (WideInput e) w = refl
old_admit len s End w = refl

threshold_welcome : (b : Book) (x : Result Step Refusal) → Welcome (threshold_step b x) → Welcome x
threshold_welcome b (Ok (AddEvent c site sited next)) w = tt
threshold_welcome b (Ok (AddGate kind k n next)) w = tt
threshold_welcome b (Ok (AddInput i next)) w = tt
threshold_welcome b (Ok Close) w = tt
threshold_welcome b (Err a) w = w

module _ (bytes : List ℕ) where
  old_step : (s : State) → Welcome (step_of old_limits bytes s) → step_of limits bytes s ≡ step_of old_limits bytes s
  unfolding step_of
  old_step s w = go (old_record (drop s.at bytes))
    where
      go : (record_of old_limits (drop s.at bytes) ≡ record_of limits (drop s.at bytes)) ⊎ ((record_of old_limits (drop s.at bytes) ≡ Unknown) × Newer (record_of limits (drop s.at bytes)))
          → step_of limits bytes s ≡ step_of old_limits bytes s
      go (inl e) = rw e (old_admit (length bytes) s (record_of limits (drop s.at bytes)) (rw e at w))
      go (inr (u, _)) = absurd (rw u at w)

  old_next : (b : Book) → Welcome (next_step old_limits bytes b) → next_step limits bytes b ≡ next_step old_limits bytes b
  unfolding next_step
  old_next b w = ap (threshold_step b) (old_step (counts b) (threshold_welcome b (step_of old_limits bytes (counts b)) w))

  module _ (b' : Book) where
    on_welcome : (turns : ℕ) (b : Book) (x : Result Step Refusal) → onward old_limits turns bytes b x ≡ accept b' → Welcome x
    on_welcome turns b (Ok (AddEvent c site sited next)) e = tt
    on_welcome turns b (Ok (AddGate kind k n next)) e = tt
    on_welcome turns b (Ok (AddInput i next)) e = tt
    on_welcome turns b (Ok Close) e = tt
    on_welcome turns b (Err a) e = let z : ◌≡◌ {A = ℕ} 0 1 = cc in absurd (omega arith)

    old_onward : (turns : ℕ) (b : Book) → ((x : Book) → run old_limits turns bytes x ≡ accept b' → run limits turns bytes x ≡ accept b')
        → (x : Result Step Refusal) → onward old_limits turns bytes b x ≡ accept b' → onward limits turns bytes b x ≡ accept b'
    old_onward turns b on (Ok (AddEvent c site sited next)) e = on (add_event b c site sited next) e
    old_onward turns b on (Ok (AddGate kind k n next)) e = on (add_gate b kind k n next) e
    old_onward turns b on (Ok (AddInput i next)) e = on (add_input b i next) e
    old_onward turns b on (Ok Close) e = e
    old_onward turns b on (Err a) e = e

    old_run : (turns : ℕ) (b : Book) → run old_limits turns bytes b ≡ accept b' → run limits turns bytes b ≡ accept b'
    unfolding run
    old_run zero b e = e
    old_run (suc turns) b e =
        let x : Result Step Refusal = next_step old_limits bytes b in
        let further : onward old_limits turns bytes b x ≡ accept b' = sym (run_step old_limits turns bytes b x refl) ∙ e in
        run_step limits turns bytes b x (old_next b (on_welcome turns b x further)) ∙ old_onward turns b (old_run turns) x further

    -- THE SAME READING
    pub old_reads : outcome old_limits bytes ≡ accept b' → outcome limits bytes ≡ accept b'
    unfolding outcome
    old_reads e = old_run (length bytes + 1) start e

    -- and the same bytes again
    pub old_writes : AreBytes bytes → (room : List ℕ) → outcome old_limits bytes ≡ accept b' → length bytes ≤ length room
        → write_of limits (memory b') room ≡ wrote (Ok (length bytes)) (bytes ++ drop (length bytes) room)
    old_writes good room e h = write_gives_back bytes room good b' (old_reads e) h

-- ---- an old reader stops at the 257th event

-- a number of turns that lasts behind a record
fewer : (len at next n : ℕ) → len - at ≤ n → at < next → next ≤ len → (m : ℕ) × (n ≡ suc m) × (len - next ≤ m)
fewer len at next zero h l i = absurd (omega arith)
fewer len at next (suc m) h l i = (m, refl, omega arith)

module _ (bytes : List ℕ) where
  -- the old reading has come as far as b, which has events only
  record OldAt (b : Book) : Type 0 where
    turns : ℕ
    same : outcome old_limits bytes ≡ run old_limits (suc turns) bytes b
    enough : length bytes - b.at ≤ turns
    place : b.at ≡ length_of 1 * length b.events

  abbrev Stopped : Type 0
  Stopped = outcome old_limits bytes ≡ refuse (Count (length_of 1 * old_limits.events))

  -- no event so far has a site
  abbrev Plain : Book → Type 0
  Plain b = 0 < length b.events → b.sited ≡ false

  -- it has stopped, or there are no more events than it takes, and it has come so far as long as there is no gate
  abbrev Stops : Book → Type 0
  Stops b = Plain b → Stopped ⊎ ((length b.events ≤ old_limits.events) × (length b.sizes ≡ 0 → OldAt b))

  module _ (b : Book) {c site : ℕ} {sited : Bool} {next : ℕ} (on : OnEvent (length bytes) (counts b) (record_of limits (drop b.at bytes)) c site sited next) (none : sited ≡ false) where
    is_plain : record_of limits (drop b.at bytes) ≡ Event c
    is_plain = on.shape ∙ ap (λ (x : Bool). event_in x c site) none

    plain_before : Plain b
    plain_before some = on.same some ∙ none

    met_event : step_of old_limits bytes (counts b) ≡ event_step old_limits (counts b) (b.at + length_of 1) c 0 false
    unfolding step_of
    met_event = go (old_record (drop b.at bytes))
      where
        go : (record_of old_limits (drop b.at bytes) ≡ record_of limits (drop b.at bytes)) ⊎ ((record_of old_limits (drop b.at bytes) ≡ Unknown) × Newer (record_of limits (drop b.at bytes)))
            → step_of old_limits bytes (counts b) ≡ event_step old_limits (counts b) (b.at + length_of 1) c 0 false
        go (inl e) = rw (e, is_plain)
        go (inr (_, w)) = absurd (rw is_plain at w)

    next_is : next ≡ b.at + length_of 1
    next_is = on.place ∙ ap (λ (r : Record). b.at + width_of r) is_plain

    one_form : mixed (counts b) false ≡ false
    one_form = not_mixed (counts b) false plain_before

    taken_event : length b.events < old_limits.events → next_step old_limits bytes b ≡ Ok (AddEvent c site sited next)
    unfolding next_step
    taken_event few =
        rw (met_event, le-ltb 0 (length b.sizes) (omega (arith, on.first)), one_form, lt-leb old_limits.events (length b.events) few, le-ltb billion c on.chance)
        (λ i. Ok (AddEvent c (sym (on.plain none) i) (sym none i) (sym next_is i)))

    stopped_event : length b.events ≡ old_limits.events → next_step old_limits bytes b ≡ Err (Count b.at)
    unfolding next_step
    stopped_event full =
        rw (met_event, le-ltb 0 (length b.sizes) (omega (arith, on.first)), one_form, le-leb old_limits.events (length b.events) (omega arith))

    going_on : Stopped ⊎ ((length b.events ≤ old_limits.events) × (length b.sizes ≡ 0 → OldAt b))
        → Stopped ⊎ ((length (add_event b c site sited next).events ≤ old_limits.events) × (length b.sizes ≡ 0 → OldAt (add_event b c site sited next)))
    going_on (inl s) = inl s
    going_on (inr (few, at)) =
        let a = at on.first in
        either (ltb (length b.events) old_limits.events)
        (λ q.
        let less : length b.events < old_limits.events = ltb-true (length b.events) old_limits.events q in
        let (m, e, h) = fewer (length bytes) b.at next a.turns a.enough on.further on.inside in
        inr (
          rw length_▷ (omega arith),
          λ _. record {
            turns = m;
            same = a.same ∙ run_step old_limits a.turns bytes b (Ok (AddEvent c site sited next)) (taken_event less)
                ∙ ap (λ (n : ℕ). run old_limits n bytes (add_event b c site sited next)) e;
            enough = h;
            place = rw length_▷ (omega (arith, next_is, a.place));
          },
        ))
        (λ q.
        let full : length b.events ≡ old_limits.events = omega (arith, ltb-false (length b.events) old_limits.events q) in
        inl (a.same ∙ run_step old_limits a.turns bytes b (Err (Count b.at)) (stopped_event full)
        ∙ ap (λ (p : ℕ). refuse (Count p)) (a.place ∙ ap (λ (n : ℕ). length_of 1 * n) full)))

  stops_event : (b : Book) (c site : ℕ) (sited : Bool) (next : ℕ) → OnEvent (length bytes) (counts b) (record_of limits (drop b.at bytes)) c site sited next
      → Stops b → Stops (add_event b c site sited next)
  stops_event b c site sited next on p plain =
      let none : sited ≡ false = plain (omega (arith, length_▷ b.events (record { chance = c; site = site }))) in
      going_on b on none (p (plain_before b on none))

  stops_gate : (b : Book) (kind k n next : ℕ) → Stops b → Stops (add_gate b kind k n next)
  stops_gate b kind k n next p plain = go (p plain)
    where
      go : Stopped ⊎ ((length b.events ≤ old_limits.events) × (length b.sizes ≡ 0 → OldAt b))
          → Stopped ⊎ ((length b.events ≤ old_limits.events) × (length (add_gate b kind k n next).sizes ≡ 0 → OldAt (add_gate b kind k n next)))
      go (inl s) = inl s
      go (inr (few, at)) = inr (few, λ none. absurd (omega (arith, length_▷ b.sizes n)))

  stops_input : (b : Book) (i next : ℕ) → Kept b → 0 < b.left → Stops b → Stops (add_input b i next)
  stops_input b i next k some p plain = go (p plain)
    where
      go : Stopped ⊎ ((length b.events ≤ old_limits.events) × (length b.sizes ≡ 0 → OldAt b))
          → Stopped ⊎ ((length b.events ≤ old_limits.events) × (length b.sizes ≡ 0 → OldAt (add_input b i next)))
      go (inl s) = inl s
      go (inr (few, at)) = inr (few, λ none. absurd (omega (arith, some_sizes b.sizes (omega (arith, k.wanted)))))

  stops_start : Stops start
  unfolding outcome
  stops_start _ = inr (omega arith, λ _. record { turns = length bytes; same = rw add-one; enough = omega arith; place = refl })

  -- THE 257TH EVENT of a tree without sites: number 4, at its record
  pub old_reader_stops : (b : Book) → outcome limits bytes ≡ accept b → b.sited ≡ false → old_limits.events < length b.events
      → judge old_limits bytes ≡ record { number = 4; place = 1280 }
  unfolding judge
  old_reader_stops b e plain many =
      let v = accepted_keeps bytes Stops (λ b c site sited next k p on. stops_event b c site sited next on p) (λ b kind least n next k p on. stops_gate b kind least n next p) (λ b i next k p on. stops_input b i next k on.some p) b stops_start e in
      go (v.holds (λ _. plain))
    where
      go : Stopped ⊎ ((length b.events ≤ old_limits.events) × (length b.sizes ≡ 0 → OldAt b)) → judge old_limits bytes ≡ record { number = 4; place = 1280 }
      go (inl s) = ap (λ (o : Outcome). verdict (answer_of o)) s
      go (inr (few, _)) = absurd (omega arith)

-- ---- and at the first event of a tree with sites

module _ (bytes : List ℕ) where
  abbrev Unheard : Type 0
  Unheard = outcome old_limits bytes ≡ refuse (UnknownKind 0)

  first_step : {c site : ℕ} → record_of limits (drop 0 bytes) ≡ SitedEvent c site → next_step old_limits bytes start ≡ Err (UnknownKind 0)
  unfolding next_step step_of
  first_step e = rw (old_sited (drop 0 bytes) e)

  first_unheard : {c site : ℕ} → record_of limits (drop 0 bytes) ≡ SitedEvent c site → Unheard
  unfolding outcome
  first_unheard e = rw add-one (run_step old_limits (length bytes) bytes start (Err (UnknownKind 0)) (first_step e))

  -- where an event has a site, the first has
  abbrev Sites : Book → Type 0
  Sites b = 0 < length b.events → b.sited ≡ true → Unheard

  sites_event : (b : Book) (c site : ℕ) (sited : Bool) (next : ℕ) → Kept b → OnEvent (length bytes) (counts b) (record_of limits (drop b.at bytes)) c site sited next
      → Sites b → Sites (add_event b c site sited next)
  sites_event b c site sited next k on p _ has =
      either (ltb 0 (length b.events))
      (λ q. let some : 0 < length b.events = ltb-true 0 (length b.events) q in p some (on.same some ∙ has))
      (λ q.
      let none : length b.events ≡ 0 = omega (arith, ltb-false 0 (length b.events) q) in
      let inputs : length b.inputs + b.left ≡ 0 = sym k.wanted ∙ no_sizes b.sizes on.first in
      let first : b.at ≡ 0 = omega (arith, k.low, on.first) in
      first_unheard (sym (ap (λ (n : ℕ). record_of limits (drop n bytes)) first) ∙ on.shape ∙ ap (λ (x : Bool). event_in x c site) has))

  -- A TREE WITH SITES: number 2, at its first event
  pub old_reader_unknown : (b : Book) → outcome limits bytes ≡ accept b → b.sited ≡ true → judge old_limits bytes ≡ record { number = 2; place = 0 }
  unfolding judge
  old_reader_unknown b e has =
      let v = accepted_keeps bytes Sites (λ b c site sited next k p on. sites_event b c site sited next k on p) (λ b kind least n next k p on. p) (λ b i next k p on. p) b (λ some. absurd (omega arith)) e in
      ap (λ (o : Outcome). verdict (answer_of o)) (v.holds v.close.some_event has)

-- ---- and takes every tree with no more events

-- with an event less than the old limit, or another record, the limits that moved are not asked
same_event : (s : State) (after c site : ℕ) (sited : Bool) → s.events < old_limits.events → event_step old_limits s after c site sited ≡ event_step limits s after c site sited
same_event s after c site sited few = rw (lt-leb old_limits.events s.events few, lt-leb limits.events s.events (omega arith))

same_admit : (len : ℕ) (s : State) (r : Record) → (tag r ≡ 1 → s.events < old_limits.events) → admit_of old_limits len s r ≡ admit_of limits len s r
same_admit len s Missing h = refl
same_admit len s Unknown h = refl
same_admit len s Short h = refl
same_admit len s (Event c) h = same_event s _ c 0 false (h refl)
same_admit len s (SitedEvent c site) h = same_event s _ c site true (h refl)
same_admit len s (Gate kind k n) h = refl
same_admit len s (EventInput e) h = refl
same_admit len s (GateInput g) h = refl
same_admit len s (WideInput e) h = refl
same_admit len s End h = refl

-- no event of so few is named by two bytes
not_wide : (n : ℕ) → n ≤ old_limits.events → (r : Record) → IsInput n r → Newer r → ⊥
not_wide n few Missing h w = w
not_wide n few Unknown h w = w
not_wide n few Short h w = h
not_wide n few (Event c) h w = w
not_wide n few (SitedEvent c site) h w = h
not_wide n few (Gate kind k m) h w = w
not_wide n few (EventInput e) h w = w
not_wide n few (GateInput g) h w = w
not_wide n few (WideInput e) (wide, there) w = omega arith
not_wide n few End h w = w

not_event : (n : ℕ) (r : Record) → IsInput n r → tag r ≡ 1 → ⊥
not_event n Missing h e = h
not_event n Unknown h e = h
not_event n Short h e = h
not_event n (Event c) h e = h
not_event n (SitedEvent c site) h e = h
not_event n (Gate kind k m) h e = h
not_event n (EventInput i) h e = omega arith
not_event n (GateInput g) h e = omega arith
not_event n (WideInput i) h e = omega arith
not_event n End h e = h

module _ (bytes : List ℕ) (b' : Book) where
  module _ (b : Book) where
    abbrev met : Record
    met = record_of limits (drop b.at bytes)

    same_next : (Newer met → ⊥) → (tag met ≡ 1 → length b.events < old_limits.events) → next_step old_limits bytes b ≡ next_step limits bytes b
    unfolding next_step step_of
    same_next plain few = go (old_record (drop b.at bytes))
      where
        go : (record_of old_limits (drop b.at bytes) ≡ met) ⊎ ((record_of old_limits (drop b.at bytes) ≡ Unknown) × Newer met) → next_step old_limits bytes b ≡ next_step limits bytes b
        go (inl e) = rw e (ap (threshold_step b) (same_admit (length bytes) (counts b) met few))
        go (inr (_, w)) = absurd (plain w)

  module _ (few : length b'.events ≤ old_limits.events) (plain : b'.sited ≡ false) where
    -- the events of b are among those of b', of one form, and the old reading goes on from b to b'
    abbrev Takes : ℕ → Book → Type 0
    Takes turns b = (length b.events ≤ length b'.events) × (0 < length b.events → b.sited ≡ b'.sited) × (run old_limits turns bytes b ≡ accept b')

    takes_step : (turns : ℕ) (b : Book) → Kept b
        → ((x : Book) → Kept x → x.at ≤ length bytes → run limits turns bytes x ≡ accept b' → Takes turns x)
        → run limits (suc turns) bytes b ≡ accept b' → (x : Result Step Refusal) → next_step limits bytes b ≡ x
        → Sound (length bytes) (counts b) (met b) x → Takes (suc turns) b
    takes_step turns b k on e (Ok (AddEvent c site sited next)) q s =
        let (more, form, is) = on (add_event b c site sited next) (kept_event k s) s.inside (sym (run_event turns bytes b c site sited next q) ∙ e) in
        let one : length b.events + 1 ≤ length b'.events = rw length_▷ at more in
        let less : length b.events < old_limits.events = omega arith in
        let is_form : sited ≡ b'.sited = form (omega (arith, length_▷ b.events (record { chance = c; site = site }))) in
        let shape : met b ≡ Event c = s.shape ∙ ap (λ (x : Bool). event_in x c site) (is_form ∙ plain) in (
          omega arith,
          λ some. s.same some ∙ is_form,
          run_step old_limits turns bytes b (Ok (AddEvent c site sited next)) (same_next b (λ w. rw shape at w) (λ _. less) ∙ q) ∙ is,
        )
    takes_step turns b k on e (Ok (AddGate kind j n next)) q s =
        let (more, form, is) = on (add_gate b kind j n next) (kept_gate k (drop b.at bytes) refl s) s.inside (sym (run_gate turns bytes b kind j n next q) ∙ e) in
        (more, form, run_step old_limits turns bytes b (Ok (AddGate kind j n next)) (same_next b (λ w. rw s.shape at w) (λ z. absurd (omega (arith, rw s.shape at z))) ∙ q) ∙ is)
    takes_step turns b k on e (Ok (AddInput i next)) q s =
        let (more, form, is) = on (add_input b i next) (kept_input k s (next_fed bytes b q)) s.inside (sym (run_input turns bytes b i next q) ∙ e) in
        let plain : Newer (met b) → ⊥ = not_wide (length b.events) (omega arith) (met b) s.input in
        (more, form, run_step old_limits turns bytes b (Ok (AddInput i next)) (same_next b plain (λ z. absurd (not_event (length b.events) (met b) s.input z)) ∙ q) ∙ is)
    takes_step turns b k on e (Ok Close) q s =
        let closed : close_of b ≡ accept b' = sym (run_close turns bytes b q) ∙ e in
        let all : length b.events ≡ length b'.events = ap (λ (x : Book). length x.events) (close_is b b' closed) in
        (omega arith, (λ _. ap (λ (x : Book). x.sited) (close_is b b' closed)), run_step old_limits turns bytes b (Ok Close) (same_next b (λ w. rw s.shape at w) (λ z. absurd (omega (arith, rw s.shape at z))) ∙ q) ∙ closed)
    takes_step turns b k on e (Err a) q s =
        let d : refuse a ≡ accept b' = sym (run_refused turns bytes b a q) ∙ e in let z : ◌≡◌ {A = ℕ} 0 1 = cc in absurd (omega arith)

    takes : (turns : ℕ) (b : Book) → Kept b → b.at ≤ length bytes → run limits turns bytes b ≡ accept b' → Takes turns b
    unfolding run
    takes zero b k h e = let z : ◌≡◌ {A = ℕ} 0 1 = cc in absurd (omega arith)
    takes (suc turns) b k h e = takes_step turns b k (takes turns) e (next_step limits bytes b) refl (sound_next bytes b h)

    old_takes : outcome limits bytes ≡ accept b' → outcome old_limits bytes ≡ accept b'
    unfolding outcome
    old_takes e = (takes (length bytes + 1) start kept_start (omega arith) e).2

  -- an old reader accepts nothing that it refuses
  not_refused : {n p : ℕ} → outcome old_limits bytes ≡ accept b' → judge old_limits bytes ≡ record { number = suc n; place = p } → ⊥
  unfolding judge
  not_refused {n} e q =
      let some : (judge old_limits bytes).number ≡ suc n = ap (λ (v : Verdict). v.number) q in
      let none : (judge old_limits bytes).number ≡ 0 = ap (λ (o : Outcome). (verdict (answer_of o)).number) e in
      omega (arith, some, none)

  -- WHAT AN OLD READER ACCEPTS: the trees with no more events than it takes, and without sites
  pub old_exactly : (outcome old_limits bytes ≡ accept b') ↔ ((outcome limits bytes ≡ accept b') × (length b'.events ≤ old_limits.events) × (b'.sited ≡ false))
  old_exactly = (
    (λ e.
        let now = old_reads bytes b' e in
        let plain : b'.sited ≡ false = either b'.sited (λ has. absurd (not_refused e (old_reader_unknown bytes b' now has))) (λ q. q) in
        (now, ≤_or (λ many. not_refused e (old_reader_stops bytes b' now plain many)), plain)),
    (λ (e, few, plain). old_takes few plain e),
  )
