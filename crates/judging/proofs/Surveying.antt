-- Where the loop of `survey` stands: a run over the tree's bytes, the writing of the tree, and the arrays for the search of uses.
-- Assumes nothing.
use mathlib.Core.Path.{◌≡◌, refl, sym, ap, ◌∙◌}
use mathlib.Core.Bool.{Bool, true, false}
use mathlib.Core.List.{List, []}
use Prim.Native.Nat.{ℕ, ◌+◌, ◌-◌, ◌≤◌, ◌<◌}
use native.Mathlib.Omega.{arith}
use lib.ListN.{length, get_or, set}
use Rattle.std.specs.Prelude.{Option, Some, None, Result, Ok, Err}
use Rattle.paper.specs.Limits.{limits}
use Rattle.rules.specs.Format.{width_of}
use Rattle.rules.specs.Rules.{admit_of, step_of}
use Rattle.records.specs.Judge.{Book, start, counts, ◌▷◌, add_gate, add_input, starved, outcome, close_of, refuse, unused_by}
use Rattle.records.specs.Thresholds.{starved_by}
use Rattle.rules.specs.States.{past_event, past_gate, past_input}
use Rattle.records.specs.Memory.{pad}
use Rattle.judging.specs.Bytes.{bytes_of, told_least}
use Rattle.records.specs.Inner.{Counted, Fronts, Ready, Seeks}
use Rattle.judging.specs.Inner.{Own, Sized, Surveyed}
use Rattle.rules.specs.declared.Refusal.{Refusal}
use Rattle.rules.specs.declared.Refusal.TheVariants.{Threshold}
use Rattle.records.specs.declared.Tree.{Tree}
use Rattle.rules.specs.declared.format.Record.{Record}
use Rattle.rules.specs.declared.format.Record.TheVariants.{Gate}
use Rattle.rules.specs.declared.judge.State.{State}
use Rattle.rules.specs.declared.judge.Step.{Step}
use Rattle.rules.specs.declared.judge.Step.TheVariants.{AddEvent, AddGate, AddInput, Close}
use Rattle.records.proofs.Pad.{length_▷, pad_take}
use Rattle.records.proofs.Sums.{new}
use Rattle.records.proofs.Keeping.{Kept}
use Rattle.records.proofs.Feeding.{input_gate, counted_input, starved_input, place_in_lem}
use Rattle.records.proofs.Closing.{closes_at, closes_none}
use Rattle.records.proofs.Standing.{Arrays, arrays_event, arrays_gate, arrays_input, arrays_fronts}
use Rattle.rules.proofs.Steps.{Sound}
use Rattle.records.proofs.Runs.{Running, running_start, running_sound, running_event, running_gate, running_input, running_starved, running_close, running_refused, running_bounded}
use Rattle.judging.proofs.Rest.{next_record, gate_record_at, gate_told, tag, is_end}
use Rattle.judging.proofs.Following.{Following, follow_start, follow_step, follow_event, follow_gate, follow_input, at_gate, read_back, end_length}

-- the last gate that was read has the kind of the tree's, and its k
pub record LastRead (t : Tree) (b : Book) : Type 0 where
  pub kind : get_or t.kinds (length b.sizes - 1) 0 ≡ get_or b.kinds (length b.sizes - 1) 0
  pub least : get_or b.kinds (length b.sizes - 1) 0 ≡ 4 → get_or t.leasts (length b.sizes - 1) 0 ≡ get_or b.leasts (length b.sizes - 1) 0

last_read : (t : Tree) (b : Book) (kind k n next : ℕ) → Kept b → length b.sizes < limits.gates → gate_record_at t (length b.sizes) ≡ Gate kind k n
    → LastRead t (add_gate b kind k n next)
last_read t b kind k n next kept few there =
    let g : ℕ = length b.sizes in
    let (kinds, leasts, size) = gate_told t g kind k n few there in
    let last : length (◌▷◌ b.sizes n) - 1 ≡ g = omega (arith, length_▷ b.sizes n) in
    let at_kind : get_or (◌▷◌ b.kinds kind) g 0 ≡ kind = new b.kinds kind 0 g kept.same_kinds in
    let at_least : get_or (◌▷◌ b.leasts k) g 0 ≡ k = new b.leasts k 0 g kept.same_leasts in
    record {
      kind = rw last (sym kinds ∙ sym at_kind);
      least = rw last
          (λ (four : get_or (◌▷◌ b.kinds kind) g 0 ≡ 4).
          let own : get_or t.kinds g 0 ≡ 4 = sym kinds ∙ sym at_kind ∙ four in
          sym (at_least ∙ leasts ∙ ap (λ (x : ℕ). told_least x (get_or t.leasts g 0)) own));
    }

pub record Surveying (t : Tree) (sizes places inputs : List ℕ) (s : State) : Type 0 where
  pub running : Running (bytes_of t) s
  pub following : Following t (bytes_of t) s
  pub arrays : Arrays running.book sizes places inputs
  pub last : 1 ≤ length running.book.sizes → LastRead t running.book

pub survey_start : (t : Tree) → Surveying t (pad limits.gates 0 []) (pad limits.gates 0 []) (pad limits.in_all 0 []) (counts start)
unfolding running_start
survey_start t = record {
  running = running_start (bytes_of t);
  following = follow_start t;
  arrays = record { sizes = refl; places = refl; inputs = refl };
  last = λ some. absurd (omega arith);
}

module _ {t : Tree} {sizes places inputs : List ℕ} {s : State} (v : Surveying t sizes places inputs s) where
  pub survey_fronts : Fronts v.running.book sizes places inputs
  survey_fronts = arrays_fronts v.arrays v.running.kept

  module _ {r : Record} (e : r ≡ next_record t s) (own : Own r) where
    pub survey_step : {x : Result Step Refusal} → x ≡ admit_of limits (s.at + width_of r) s r → x ≡ step_of limits (bytes_of t) s
    survey_step q = q ∙ follow_step v.following e own

    pub survey_sound : {x : Result Step Refusal} → x ≡ admit_of limits (s.at + width_of r) s r → Sound (length (bytes_of t)) s r x
    survey_sound q = rw (read_back v.following e own) at (running_sound v.running (survey_step q))

    pub survey_event : (c site : ℕ) (sited : Bool) (next : ℕ) → Ok (AddEvent c site sited next) ≡ admit_of limits (s.at + width_of r) s r → Surveying t sizes places inputs (past_event s sited next)
    unfolding running_event
    survey_event c site sited next q = record {
      running = running_event v.running c site sited next (survey_step q);
      following = follow_event v.following e (survey_sound q);
      arrays = arrays_event v.arrays c site sited next;
      last = λ some. record { kind = (v.last some).kind; least = (v.last some).least };
    }

    pub survey_gate : (kind k n next : ℕ) → Ok (AddGate kind k n next) ≡ admit_of limits (s.at + width_of r) s r
        → Surveying t (set sizes s.gates n) (set places s.gates s.at) inputs (past_gate s n next)
    unfolding running_gate
    survey_gate kind k n next q =
        let on = survey_sound q in
        let p = v.running.state in
        record {
          running = running_gate v.running kind k n next (survey_step q);
          following = follow_gate v.following e on;
          arrays = rw (ap (λ (x : State). x.gates) p, ap (λ (x : State). x.at) p) (arrays_gate v.arrays v.running.kept kind k n next (rw p at on.few));
          last = λ _. last_read t v.running.book kind k n next v.running.kept (rw p at on.few) (rw p at (sym (at_gate v.following e on).2 ∙ on.shape));
        }

    module _ {i next : ℕ} (q : Ok (AddInput i next) ≡ admit_of limits (s.at + width_of r) s r) where
      abbrev fed : Bool
      fed = starved_by t.kinds t.leasts sizes (set inputs s.inputs i) (past_input s next)

      arrays_next : Arrays (add_input v.running.book i next) sizes places (set inputs s.inputs i)
      arrays_next =
          let p = v.running.state in
          rw (ap (λ (x : State). x.inputs) p) (arrays_input v.arrays v.running.kept i next (rw p at (survey_sound q).some))

      pub survey_counted : Counted sizes (past_input s next)
      survey_counted = counted_input v.running (survey_step q) (rw v.arrays.sizes (pad_take _ _ _))

      survey_told : fed ≡ starved (add_input v.running.book i next)
      survey_told =
          let last = v.last (input_gate v.running (survey_step q)) in
          starved_input v.running (survey_step q)
          (record { kind = last.kind; least = last.least; sizes = rw arrays_next.sizes (pad_take _ _ _); inputs = rw arrays_next.inputs (pad_take _ _ _) })

      pub survey_input : fed ≡ false → Surveying t sizes places (set inputs s.inputs i) (past_input s next)
      unfolding running_input
      survey_input right = record {
        running = running_input v.running i next (survey_step q) (sym survey_told ∙ right);
        following = follow_input v.following e (survey_sound q);
        arrays = arrays_next;
        last = λ some. record { kind = (v.last some).kind; least = (v.last some).least };
      }

      -- the place of the gate's record
      pub survey_starved : fed ≡ true → Surveyed t (Err (Threshold (get_or places (s.gates - 1) 0)))
      survey_starved wrong =
          running_starved v.running i next (survey_step q) (sym survey_told ∙ wrong)
          ∙ ap (λ p. refuse (Threshold p)) (sym (place_in_lem v.running (survey_step q) v.arrays.places))

    module _ (q : Ok Close ≡ admit_of limits (s.at + width_of r) s r) where
      pub survey_ready : Ready sizes places inputs s
      survey_ready =
          let on = survey_sound q in
          let p = v.running.state in
          (v.running.book, survey_fronts, p, rw p at on.some_gate, rw p at on.none)

      -- what the search finds is the answer to the tree's bytes
      pub survey_close : {f : Option ℕ} (x : Result ℕ Refusal) → Seeks sizes places inputs s f → Sized f (s.at + 1) x → Surveyed t x
      survey_close {f} x seeks sized = go f (seeks b survey_fronts v.running.state) sized
        where
          b : Book
          b = v.running.book

          closed : outcome limits (bytes_of t) ≡ close_of b
          closed = running_close v.running (survey_step q)

          go : (f : Option ℕ) → f ≡ unused_by b → Sized f (s.at + 1) x → Surveyed t x
          go (Some p) found is = rw is (closed ∙ closes_at b found)
          go None found is = rw is (record {
            bytes = sym (end_length v.following e (survey_sound q).shape);
            accepted = (b, closed ∙ closes_none b found);
            few = omega (arith, is_end t s (ap tag (sym e ∙ (survey_sound q).shape)), running_bounded v.running);
          })

    pub survey_refused : (a : Refusal) {x : Result ℕ Refusal} → Err a ≡ admit_of limits (s.at + width_of r) s r → x ≡ Err a → Surveyed t x
    survey_refused a q d = rw d (running_refused v.running a (survey_step q))
