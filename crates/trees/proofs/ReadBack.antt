-- The bytes of a tree, where they are accepted, are read as the tree that they tell.
-- Assumes nothing.
use mathlib.Core.Path.{◌≡◌, refl, sym, ap, ◌∙◌}
use mathlib.Core.Bool.{Bool}
use mathlib.Core.List.{List}
use Prim.Native.Nat.{ℕ, ◌≤◌, ◌<◌}
use native.Mathlib.Omega.{arith}
use native.Mathlib.Nat.{le_antisymm}
use lib.ListN.{length, get_or, drop}
use lib.Dec.{ltb, eqb}
use Rattle.paper.specs.Limits.{limits, wide_from}
use Rattle.rules.specs.Format.{record_of}
use Rattle.paper.specs.Flat.{gates_from}
use Rattle.records.specs.Judge.{Book, start, counts, add_event, add_gate, add_input, accept, outcome}
use Rattle.records.specs.Memory.{memory}
use Rattle.judging.specs.Bytes.{bytes_of, told}
use Rattle.judging.specs.Inner.{Own}
use Rattle.records.specs.declared.Tree.{Tree}
use Rattle.rules.specs.declared.judge.State.{State}
use Rattle.rules.proofs.Cases.{if_elim}
use Rattle.judging.proofs.Coding.{own_unknown, own_end, own_in, own_and, own_or, own_least, own_event_input, own_wide_input, own_gate_input}
use Rattle.records.proofs.Pad.{length_▷}
use Rattle.rules.proofs.Steps.{OnEvent, OnGate, OnInput, code_of}
use Rattle.judging.proofs.Rest.{next_record, which, is_event_lem, is_end, tag, tag_in, gate_told}
use Rattle.trees.proofs.Telling.{Tells, tells_start, tells_event, tells_gate, tells_input, tells_all, event_told, input_told}
use Rattle.judging.proofs.Following.{Following, follow_start, follow_event, follow_gate, follow_input, at_event, at_gate, at_input, read_back}
use Rattle.records.proofs.Runs.{accepted_keeps}

-- each record of a tree is read as itself
pub own_next : (t : Tree) (s : State) → Own (next_record t s)
own_next t s =
    let kind : ℕ = get_or t.kinds s.gates 0 in
    let code : ℕ = get_or t.inputs s.inputs 0 in
    which t s Own
    (λ _. if_elim Own (ltb s.events limits.events) (λ _. own_in t.sited _ _) (λ _. own_in t.sited 0 0))
    (λ _ _. if_elim Own (ltb code wide_from) (λ _. own_event_input _)
    (λ _. if_elim Own (ltb code gates_from) (λ _. own_wide_input _) (λ _. own_gate_input _)))
    (λ _ _ _. if_elim Own (ltb s.gates limits.gates)
    (λ _. if_elim Own (eqb kind 2) (λ _. own_and _)
    (λ _. if_elim Own (eqb kind 3) (λ _. own_or _)
    (λ _. if_elim Own (eqb kind 4) (λ _. own_least _ _) (λ _. own_unknown))))
    (λ _. own_and 0))
    (λ _ _ _. own_end)

module _ (t : Tree) where
  abbrev pub bytes : List ℕ
  bytes = bytes_of t

  -- where the reading of the tree's bytes stands
  pub record Along (b : Book) : Type 0 where
    pub following : Following t bytes (counts b)
    pub tells : Tells t b
    pub some_events : length b.events ≤ t.event_count
    pub some_gates : length b.sizes ≤ t.gate_count

  pub along_start : Along start
  along_start = record { following = follow_start t; tells = tells_start t; some_events = omega arith; some_gates = omega arith }

  module _ (b : Book) (v : Along b) where
    pub there : record_of limits (drop b.at bytes) ≡ next_record t (counts b)
    there = read_back v.following refl (own_next t (counts b))

    pub along_event : (c site : ℕ) (sited : Bool) (next : ℕ) → OnEvent (length bytes) (counts b) (record_of limits (drop b.at bytes)) c site sited next → Along (add_event b c site sited next)
    along_event c site sited next on =
        let event = event_told t (length b.events) c site sited on.few on.plain (sym (at_event v.following there on) ∙ on.shape) in
        let less : length b.events < t.event_count = is_event_lem t (counts b) (ap tag (sym there ∙ on.shape) ∙ tag_in sited c site) in
        record {
          following = rw length_▷ (follow_event v.following there on);
          tells = tells_event v.tells c site sited next event;
          some_events = rw length_▷ (omega arith);
          some_gates = v.some_gates;
        }

    pub along_gate : (kind k n next : ℕ) → OnGate (length bytes) (counts b) (record_of limits (drop b.at bytes)) kind k n next → Along (add_gate b kind k n next)
    along_gate kind k n next on =
        let (h, more, is) = at_gate v.following there on in
        let (kinds, leasts, size) = gate_told t (length b.sizes) kind k n on.few (sym is ∙ on.shape) in
        record {
          following = rw length_▷ (follow_gate v.following there on);
          tells = tells_gate v.tells kind k n next kinds leasts size;
          some_events = v.some_events;
          some_gates = rw length_▷ (omega arith);
        }

    pub along_input : (i next : ℕ) → OnInput (length bytes) (counts b) (record_of limits (drop b.at bytes)) i next → Along (add_input b i next)
    along_input i next on =
        let (h, is) = at_input v.following there on in
        record {
          following = rw length_▷ (follow_input v.following there on);
          tells = tells_input v.tells i next (sym on.code ∙ ap code_of is ∙ input_told t (length b.inputs));
          some_events = v.some_events;
          some_gates = v.some_gates;
        }

  pub read_told : (b : Book) → outcome limits bytes ≡ accept b → memory b ≡ told t
  read_told b e =
      let v = accepted_keeps bytes Along (λ b c site sited next k p on. along_event b p c site sited next on) (λ b kind least n next k p on. along_gate b p kind least n next on) (λ b i next k p on. along_input b p i next on) b along_start e in
      let (allEvents, none, allGates) = is_end t (counts b) (ap tag (sym (there b v.holds) ∙ v.close.shape)) in
      tells_all v.holds.tells v.close.some_event (le_antisymm v.holds.some_events allEvents) (le_antisymm v.holds.some_gates allGates) (omega (arith, v.kept.wanted))
