-- The lines of chances, and the text of a tree.
-- Assumes nothing.
use mathlib.Core.Path.{◌≡◌, refl, sym, ap, ◌∙◌}
use mathlib.Core.List.{List, [], ◌∷◌, ◌++◌, map}
use Prim.Native.Nat.{ℕ, ◌+◌, ◌*◌, ◌≤◌, ◌<◌}
use native.Mathlib.Numerals.{add-one}
use native.Mathlib.Omega.{arith}
use lib.ListN.{length, get_or, take, drop, drop_of_length-le}
use lib.Seq.{slice-cons, length-take-le}
use Rattle.paper.specs.Limits.{limits}
use Rattle.paper.specs.Grammar.{blank}
use Rattle.paper.specs.Texts.{line_feed}
use Rattle.paper.specs.Flat.{gates_of}
use Rattle.paper.specs.Spelling.{chance_line}
use Rattle.paper.specs.Exporting.{decimal, event_name, gate_lines, chance_lines, text_of}
use Rattle.records.specs.Memory.{no_event}
use Rattle.records.specs.Trees.{tree_in}
use Rattle.records.specs.declared.Event.{Event}
use Rattle.records.specs.declared.Tree.{Tree}
use Rattle.exporting.specs.Laying.{Laid, chances_of}
use Rattle.exporting.proofs.Laying.{lay_then, Part, part_none, part_more, part_end}

-- ---- one line

pub chance_line_lem : (e c : ℕ) → chance_line (event_name e) (decimal c) ++ line_feed ≡ (112 ∷ 32 ∷ 101 ∷ []) ++ decimal e ++ (blank ++ decimal c) ++ line_feed
unfolding event_name
chance_line_lem e c = refl

-- ---- all of them

-- the lines from event e on
abbrev pub lines_from : Tree → ℕ → List ℕ
lines_from t e = chance_lines e (map (λ (x : Event). x.chance) (drop e (take t.event_count t.events)))

-- the line of event e
abbrev pub line_at : Tree → ℕ → List ℕ
line_at t e = chance_line (event_name e) (decimal (get_or t.events e no_event).chance) ++ line_feed

module _ (t : Tree) (e : ℕ) (l : t.event_count ≤ length t.events) where
  next_line : e < t.event_count → lines_from t e ≡ line_at t e ++ lines_from t (e + 1)
  unfolding chance_lines
  next_line h =
      ap (λ (x : List Event). chance_lines e (map (λ (y : Event). y.chance) x)) (slice-cons e t.event_count t.events no_event h l)
      ∙ ap (λ (i : ℕ). line_at t e ++ lines_from t i) (sym (add-one e))

  no_line : t.event_count ≤ e → lines_from t e ≡ []
  unfolding chance_lines
  no_line h =
      let m = length-take-le t.event_count t.events l in
      let k : length (take t.event_count t.events) ≤ e = omega arith in
      ap (λ (x : List Event). chance_lines e (map (λ (y : Event). y.chance) x)) (drop_of_length-le (take t.event_count t.events) k)

-- the lines of i chances are laid
pub record Chanced (room : List ℕ) (at : ℕ) (t : Tree) (room' : List ℕ) (end i : ℕ) : Type 0 where
  pub few : t.event_count ≤ limits.events
  pub long : length t.events ≡ limits.events
  pub start : at ≤ 2000000
  pub low : i ≤ t.event_count
  pub near : end ≤ at + 50 * i
  pub part : Part (chances_of t) room at (lines_from t i) room' end

pub chances_start : (room : List ℕ) (at : ℕ) (t : Tree) → (t.event_count ≤ limits.events) × (at ≤ 2000000) → length t.events ≡ limits.events → Chanced room at t room at 0
unfolding chances_of
chances_start room at t (few, start) long =
    record { few = few; long = long; start = start; low = omega arith; near = omega arith; part = part_none (chances_of t) room at }

module _ {room : List ℕ} {at : ℕ} {t : Tree} {room' : List ℕ} {end i : ℕ} (v : Chanced room at t room' end i) where
  enough : t.event_count ≤ length t.events
  enough = omega (arith, v.few, v.long)

  pub chances_low : end + 50 ≤ 1000000000
  chances_low = omega (arith, v.near, v.low, v.few, v.start)

  pub chances_more : i < t.event_count → {room'' : List ℕ} {end'' : ℕ} → Laid room' end (line_at t i) room'' end'' × (end'' ≤ end + 50) → Chanced room at t room'' end'' (i + 1)
  chances_more h (p, near) =
      record { few = v.few; long = v.long; start = v.start; low = omega arith; near = omega (arith, v.near); part = part_more v.part (next_line t i enough h) p }

  pub chances_end : t.event_count ≤ i → Laid room at (chances_of t) room' end
  chances_end h = part_end v.part (no_line t i enough h)

-- ---- the text

pub lay_text : {room : List ℕ} (t : Tree) {room' room'' : List ℕ} {at end : ℕ}
    → Laid room 0 (gate_lines 0 (gates_of t.kinds t.leasts 0 (take t.gate_count t.sizes) t.inputs)) room' at → Laid room' at (chances_of t) room'' end
    → Laid room 0 (text_of (tree_in t)) room'' end
unfolding text_of tree_in chances_of
lay_text t p q = lay_then p q
