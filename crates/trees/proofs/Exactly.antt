-- EXACTLY THE BYTES OF LAWFUL TREES ARE ACCEPTED, and reading a lawful tree's bytes gives the tree back.
-- Assumes nothing.
use mathlib.Core.Path.{◌≡◌, refl, sym, ap, ◌∙◌}
use mathlib.Core.Logic.{◌↔◌}
use mathlib.Core.Bool.{true, false}
use mathlib.Core.List.{List}
use Prim.Native.Nat.{ℕ, zero, suc, ◌+◌, ◌-◌, ◌≤◌, ◌<◌}
use native.Mathlib.Omega.{arith}
use native.Mathlib.Numerals.{add-one}
use native.Mathlib.Nat.{zero-add}
use lib.ListN.{length, get_or, take, drop, length-drop}
use lib.Seq.{take_all, get_or-take}
use lib.Dec.{eqb}
use borrow.Author.Tests.{lt-ltb, eqb-true, eqb-false}
use Rattle.std.specs.Prelude.{None, Result, Ok, Err}
use Rattle.paper.specs.Limits.{limits, billion}
use Rattle.paper.specs.Lists.{sum}
use Rattle.paper.specs.Flat.{gates_from}
use Rattle.rules.specs.Format.{record_of}
use Rattle.rules.specs.Rules.{admit_of, step_of, Fits}
use Rattle.records.specs.Uses.{among, lowest_unused}
use Rattle.records.specs.Judge.{Book, start, counts, add_event, add_gate, add_input, starved, threshold_step, next_step, accept, unused_by, run, outcome}
use Rattle.records.specs.Thresholds.{starved_by}
use Rattle.records.specs.Memory.{memory}
use Rattle.records.specs.Trees.{Lawful, tree_of}
use Rattle.records.specs.declared.Event.{Event as EventOf}
use Rattle.judging.specs.Bytes.{bytes_of, held_event}
use Rattle.trees.specs.Exactly.{AreBytes, Accepted, BytesOfLawful, SameTree}
use Rattle.rules.specs.declared.Refusal.{Refusal}
use Rattle.rules.specs.declared.format.Record.{Record}
use Rattle.rules.specs.declared.format.Record.TheVariants.{End}
use Rattle.rules.specs.declared.judge.State.{State}
use Rattle.rules.specs.declared.judge.Step.{Step}
use Rattle.rules.specs.declared.judge.Step.TheVariants.{AddEvent, AddGate, AddInput, Close}
use Rattle.rules.proofs.Cases.{either}
use Rattle.rules.proofs.Steps.{Sound, OnInput, sound_step}
use Rattle.records.proofs.Closing.{closes_none, unused_none}
use Rattle.records.proofs.Keeping.{Kept, kept_start, kept_event, kept_gate, kept_input}
use Rattle.records.proofs.Runs.{run_event, run_gate, run_input, run_close, sound_next, next_fed}
use Rattle.records.proofs.Sums.{some_sizes, sum_take, sum_rises}
use Rattle.records.proofs.Starving.{LastTold, told_starved, by_last, not_yet}
use Rattle.records.proofs.Pad.{length_▷}
use Rattle.judging.proofs.Rest.{event_record, gate_record_at, input_record_at, rest_end, tag, which, is_end}
use Rattle.trees.proofs.Lawful.{lawful}
use Rattle.trees.proofs.ReadBack.{Along, along_start, there, along_event, along_gate, along_input}
use Rattle.trees.proofs.RoundTrip.{round_trip}
use Rattle.trees.proofs.Welcome.{Welcome, not_wrong, event_welcome, input_welcome, kind_welcome, end_welcome}
use Rattle.trees.proofs.Fronts.{events_in, gates_in, event_in_lem, kind_in, least_in, size_in, input_in, few_gates, front_kinds, front_leasts, front_sizes, front_sum, front_inputs, same_tree}

-- ---- no item is unused

all_used : (n i from : ℕ) (inputs : List ℕ) → ((x : ℕ) → i ≤ x → x < i + n → among (from + x) inputs ≡ true) → lowest_unused n i from inputs ≡ None
unfolding lowest_unused
all_used zero i from inputs h = refl
all_used (suc n) i from inputs h = rw (h i (omega arith) (omega arith), lowest_unused) (all_used n (i + 1) from inputs (λ x low high. h x (omega arith) (omega arith)))

none_unused : {b : Book} → Lawful limits b → (x : Book) → SameTree b x → None ≡ unused_by x
none_unused {b} l x s =
    rw (s.sited, s.events, s.sizes, s.inputs)
    (unused_none b.sited (length b.events) b.sizes x.places b.inputs
    (all_used (length b.events) 0 0 b.inputs (λ e low high. rw zero-add (l.events_used e (omega arith))))
    (all_used (length b.sizes - 1) 0 gates_from b.inputs (λ g low high. l.gates_used g (omega arith))))

-- ---- no record is refused

module _ {b : Book} (l : Lawful limits b) where
  -- no gate of b has a wrong k
  never_starved : (s : State) → s.gates - 1 < length b.sizes → starved_by b.kinds b.leasts b.sizes b.inputs s ≡ false
  never_starved s h =
      either (eqb s.left 0)
      (λ e. by_last b.kinds b.leasts b.sizes b.inputs s (eqb-true s.left 0 e) ∙ not_wrong _ _ _ (l.leasts (s.gates - 1) h))
      (λ e. not_yet b.kinds b.leasts b.sizes b.inputs s (omega (arith, eqb-false s.left 0 e)))

  module _ {x : Book} (k : Kept x) (v : Along (memory b) x) where
    abbrev s : State
    s = counts x

    abbrev Taken : Record → Type 0
    Taken r = Welcome (admit_of limits (length (bytes_of (memory b))) s r)

    event_taken : s.events < (memory b).event_count → Taken (event_record (memory b) s.events)
    event_taken h =
        let inside : s.events < length b.events = omega (arith, events_in b) in
        let low : (held_event (memory b) s.events).chance ≤ billion = omega (arith, ap (λ (e : EventOf). e.chance) (event_in_lem b s.events inside), l.chances s.events inside) in
        let few : s.events < limits.events = omega (arith, l.few_events) in
        rw (lt-ltb s.events limits.events few) (event_welcome s _ _ _ (memory b).sited (v.following.early h).0 v.tells.sited few low)

    -- what the gates so far want
    sum_so_far : sum (take s.gates b.sizes) ≡ s.inputs + s.left
    sum_so_far = sym (front_sum l v s.gates (omega arith)) ∙ ap sum (take_all s.gates x.sizes (omega arith)) ∙ k.wanted

    some_gate : 0 < s.left → 0 < s.gates
    some_gate some = some_sizes x.sizes (omega (arith, k.wanted))

    -- the input that comes next is one of the last gate's
    input_fits : 0 < s.left → Fits (length b.events) (s.gates - 1) (get_or b.inputs s.inputs 0)
    input_fits some =
        let g : ℕ = s.gates - 1 in
        let p : ℕ = sum (take g b.sizes) in
        let last : g + 1 ≡ s.gates = omega (arith, some_gate some) in
        let inside : g < length b.sizes = omega (arith, some_gate some, few_gates l v) in
        let before : p ≤ s.inputs = omega (arith, front_sum l v g (omega arith), k.last) in
        let all : sum (take (g + 1) b.sizes) ≡ p + get_or b.sizes g 0 = sum_take b.sizes g inside in
        let sofar : sum (take (g + 1) b.sizes) ≡ s.inputs + s.left = ap (λ (n : ℕ). sum (take n b.sizes)) last ∙ sum_so_far in
        let here : p + (s.inputs - p) ≡ s.inputs = omega arith in
        rw here at (l.inputs g inside (s.inputs - p) (omega (arith, all, sofar, before)))

    input_taken : (memory b).event_count ≤ s.events → 0 < s.left → Taken (input_record_at (memory b) s.inputs)
    input_taken h some =
        let all : length b.events ≡ s.events = omega (arith, events_in b, v.some_events) in
        rw (input_in b s.inputs) (input_welcome s (length (bytes_of (memory b))) (get_or b.inputs s.inputs 0) some (some_gate some) (rw all at (input_fits some)))

    gate_taken : s.left ≡ 0 → s.gates < (memory b).gate_count → Taken (gate_record_at (memory b) s.gates)
    gate_taken none more =
        let g : ℕ = s.gates in
        let inside : g < length b.sizes = omega (arith, gates_in b) in
        let few : g < limits.gates = omega (arith, l.few_gates) in
        let n : ℕ = get_or b.sizes g 0 in
        let upto : sum (take (g + 1) b.sizes) ≤ sum b.sizes =
        omega (arith, sum_rises b.sizes (g + 1) (length b.sizes) (omega arith), ap sum (take_all (length b.sizes) b.sizes (omega arith))) in
        let room : s.inputs + n ≤ limits.in_all = omega (arith, upto, sum_take b.sizes g inside, sum_so_far, l.all_inputs, l.few_inputs) in
        rw (lt-ltb g limits.gates few, kind_in b g, least_in b g, size_in b g)
        (kind_welcome s (length (bytes_of (memory b))) (get_or b.kinds g 0) (get_or b.leasts g 0) n (l.kinds g inside) none few (l.sizes g inside).0 (l.sizes g inside).1 room)

    end_taken : (memory b).event_count ≤ s.events → s.left ≡ 0 → (memory b).gate_count ≤ s.gates → Taken End
    end_taken h none all =
        let ends = ap length (v.following.rest ∙ rest_end (memory b) s.events s.gates s.inputs s.left h none all) in
        end_welcome s (length (bytes_of (memory b))) none (omega (arith, ends, length-drop s.at (bytes_of (memory b))))
        (omega (arith, events_in b, l.some_event)) (omega (arith, gates_in b, l.some_gate))

    taken : Taken (record_of limits (drop x.at (bytes_of (memory b))))
    taken = rw (there (memory b) x v)
        (which (memory b) s Taken event_taken input_taken (λ h none more. gate_taken none more) end_taken)

    -- an input leaves the last gate with b's k and the front of b's inputs
    input_fed : {i next : ℕ} → OnInput (length (bytes_of (memory b))) s (record_of limits (drop x.at (bytes_of (memory b)))) i next → starved (add_input x i next) ≡ false
    input_fed {i} {next} on =
        let g : ℕ = s.gates - 1 in
        let gates : 1 ≤ s.gates = some_gate on.some in
        let few : s.gates ≤ length b.sizes = few_gates l v in
        let upto : sum (take s.gates b.sizes) ≤ sum b.sizes =
        omega (arith, sum_rises b.sizes s.gates (length b.sizes) few, ap sum (take_all (length b.sizes) b.sizes (omega arith))) in
        let one_more : length (add_input x i next).inputs ≡ s.inputs + 1 = length_▷ x.inputs i in
        let kind : get_or b.kinds g 0 ≡ get_or x.kinds g 0 =
        sym (ap (λ (ns : List ℕ). get_or ns g 0) (front_kinds l v) ∙ get_or-take s.gates b.kinds g 0 (omega arith)) in
        let least : get_or b.leasts g 0 ≡ get_or x.leasts g 0 =
        sym (ap (λ (ns : List ℕ). get_or ns g 0) (front_leasts l v) ∙ get_or-take s.gates b.leasts g 0 (omega arith)) in
        let told : LastTold (add_input x i next) b.kinds b.leasts b.sizes b.inputs = record {
          kind = kind;
          least = λ _. least;
          sizes = sym (front_sizes l v);
          inputs = sym (front_inputs l (along_input (memory b) x v i next on) (omega (arith, upto, sum_so_far, one_more, on.some, l.all_inputs)));
        } in
        sym (told_starved told gates (rw length_▷ (omega (arith, k.wanted, on.some))))
        ∙ never_starved (counts (add_input x i next)) (omega (arith, gates, few))

  -- ---- so the reading ends with the tree

  abbrev own : List ℕ
  own = bytes_of (memory b)

  -- a run ends with a book that tells what b does
  record Ends (turns : ℕ) (x : Book) : Type 0 where
    book : Book
    is : run limits turns own x ≡ accept book
    same : SameTree b book

  close_ends : (turns : ℕ) (x : Book) → Kept x → Along (memory b) x → next_step limits own x ≡ Ok Close
      → Sound (length own) (counts x) (record_of limits (drop x.at own)) (Ok Close) → Ends (suc turns) x
  close_ends turns x k v q on =
      let (allEvents, none, allGates) = is_end (memory b) (counts x) (ap tag (sym (there (memory b) x v) ∙ on.shape)) in
      let same : SameTree b x = same_tree l v k (omega (arith, events_in b)) (omega (arith, gates_in b)) none in
      record { book = x; is = run_close turns own x q ∙ closes_none x (none_unused l x same); same = same }

  ends_step : (turns : ℕ) (x : Book) → Kept x → Along (memory b) x → length own - x.at ≤ suc turns
      → ((y : Book) → Kept y → Along (memory b) y → y.at ≤ length own → length own - y.at ≤ turns → Ends (suc turns) y)
      → (z : Result Step Refusal) → next_step limits own x ≡ z → Sound (length own) (counts x) (record_of limits (drop x.at own)) z → Welcome z → Ends (suc (suc turns)) x
  ends_step turns x k v h on (Ok (AddEvent c site sited next)) q s w =
      let e = on (add_event x c site sited next) (kept_event k s) (along_event (memory b) x v c site sited next s) s.inside (omega (arith, s.further)) in
      record { book = e.book; is = run_event (suc turns) own x c site sited next q ∙ e.is; same = e.same }
  ends_step turns x k v h on (Ok (AddGate kind j n next)) q s w =
      let e = on (add_gate x kind j n next) (kept_gate k (drop x.at own) refl s) (along_gate (memory b) x v kind j n next s) s.inside (omega (arith, s.further)) in
      record { book = e.book; is = run_gate (suc turns) own x kind j n next q ∙ e.is; same = e.same }
  ends_step turns x k v h on (Ok (AddInput i next)) q s w =
      let e = on (add_input x i next) (kept_input k s (next_fed own x q)) (along_input (memory b) x v i next s) s.inside (omega (arith, s.further)) in
      record { book = e.book; is = run_input (suc turns) own x i next q ∙ e.is; same = e.same }
  ends_step turns x k v h on (Ok Close) q s w = close_ends (suc turns) x k v q s
  ends_step turns x k v h on (Err a) q s w = absurd w

  rules_take : (x : Book) → Kept x → Along (memory b) x → Welcome (step_of limits own (counts x))
  unfolding step_of
  rules_take x k v = taken k v

  step_taken : (x : Book) → Kept x → Along (memory b) x → x.at ≤ length own → Welcome (next_step limits own x)
  unfolding next_step
  step_taken x k v a = go (step_of limits own (counts x)) (rules_take x k v) (sound_step own (counts x) a)
    where
      go : (z : Result Step Refusal) → Welcome z → Sound (length own) (counts x) (record_of limits (drop x.at own)) z → Welcome (threshold_step x z)
      go (Ok (AddEvent c site sited next)) w s = tt
      go (Ok (AddGate kind j n next)) w s = tt
      go (Ok (AddInput i next)) w s = rw (input_fed k v s) tt
      go (Ok Close) w s = tt
      go (Err r) w s = w

  -- the last byte is the end record's
  ends_last : (x : Book) → Kept x → Along (memory b) x → x.at ≤ length own → length own - x.at ≤ 0
      → (z : Result Step Refusal) → next_step limits own x ≡ z → Sound (length own) (counts x) (record_of limits (drop x.at own)) z → Welcome z → Ends 1 x
  ends_last x k v a h (Ok (AddEvent c site sited next)) q s w = absurd (omega (arith, s.further, s.inside))
  ends_last x k v a h (Ok (AddGate kind j n next)) q s w = absurd (omega (arith, s.further, s.inside))
  ends_last x k v a h (Ok (AddInput i next)) q s w = absurd (omega (arith, s.further, s.inside))
  ends_last x k v a h (Ok Close) q s w = close_ends 0 x k v q s
  ends_last x k v a h (Err a') q s w = absurd w

  ends : (turns : ℕ) (x : Book) → Kept x → Along (memory b) x → x.at ≤ length own → length own - x.at ≤ turns → Ends (suc turns) x
  ends zero x k v a h = ends_last x k v a h (next_step limits own x) refl (sound_next own x a) (step_taken x k v a)
  ends (suc turns) x k v a h = ends_step turns x k v h (ends turns) (next_step limits own x) refl (sound_next own x a) (step_taken x k v a)

  whole : Ends (length own + 1) start
  whole = rw add-one (ends (length own) start kept_start (along_start (memory b)) (omega arith) (omega arith))

-- a lawful tree's bytes are accepted, and what is read is that tree
pub lawful_accepted : (b : Book) → Lawful limits b → (c : Book) × (outcome limits (bytes_of (memory b)) ≡ accept c) × SameTree b c
unfolding outcome
lawful_accepted b l = let e = whole l in (e.book, e.is, e.same)

-- THE LAW
pub accepted_exactly : (bytes : List ℕ) → AreBytes bytes → Accepted bytes ↔ BytesOfLawful bytes
accepted_exactly bytes good = (
  (λ a. record { book = a.book; lawful = lawful bytes a.book a.is; are = round_trip bytes good a.book a.is }),
  (λ a. let (c, e, s) = lawful_accepted a.book a.lawful in record { book = c; is = ap (outcome limits) (sym a.are) ∙ e }),
)

-- what two books tell alike is one tree
pub same_tree_of : {b c : Book} → SameTree b c → tree_of c ≡ tree_of b
unfolding tree_of
same_tree_of s = rw (s.events, s.kinds, s.leasts, s.sizes, s.inputs)

-- reading a lawful tree's bytes gives back its arrays, and its tree as the paper has it
pub lawful_read_back : (b : Book) → Lawful limits b → (c : Book) × (outcome limits (bytes_of (memory b)) ≡ accept c) × (memory c ≡ memory b) × (tree_of c ≡ tree_of b)
unfolding memory
lawful_read_back b l = let (c, e, s) = lawful_accepted b l in (c, e, rw (s.events, s.sited, s.kinds, s.leasts, s.sizes, s.inputs), same_tree_of s)
