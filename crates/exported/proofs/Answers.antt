-- From an answer of the product to the numbers in the answer's array, and to the arrays of a tree.
-- Assumes nothing.
use mathlib.Core.Path.{◌≡◌, refl, sym, ap, ◌∙◌, subst}
use mathlib.Core.Bool.{Bool, true, false, cond}
use mathlib.Core.List.{List, [], ◌∷◌, ◌++◌}
use Prim.Native.Nat.{ℕ}
use mir.Val.{bool_byte}
use Rattle.std.specs.Prelude.{Result, Ok, Err}
use Rattle.paper.specs.Limits.{limits}
use Rattle.writing.specs.Writes.{Wrote, wrote}
use Rattle.records.specs.Judge.{outcome}
use Rattle.records.specs.Memory.{in_memory}
use Rattle.rules.specs.Answers.{reason}
use Rattle.rules.specs.declared.Refusal.{Refusal as TreeRefusal}
use Rattle.records.specs.declared.Event.{Event}
use Rattle.records.specs.declared.Tree.{Tree}
use Rattle.trees.proofs.Promises.{done_is_good}
use Rattle.arrays.proofs.Chances.{blank_read}
use Rattle.arrays.specs.Chances.{events_of, Blank}
use Rattle.exported.specs.Arrays.{Arrays, arrays, tree_from, filled, after}
use Rattle.exported.specs.Numbers.{of_reading, of_writing}

-- ---- the arrays of a tree

pub taken_from : (events gates : ℕ) (sited : Bool) (C S K L N I : List ℕ) {E : List Event} → E ≡ events_of C S
    → record { events = E; event_count = events; sited = sited; kinds = K; leasts = L; sizes = N; gate_count = gates; inputs = I } ≡ tree_from events gates sited (arrays C S K L N I)
taken_from events gates sited C S K L N I e = ap (λ E. record { events = E; event_count = events; sited = sited; kinds = K; leasts = L; sizes = N; gate_count = gates; inputs = I }) e

-- ---- numbers

-- a flag as a number
pub flag : (b : Bool) → bool_byte b ≡ cond b 1 0
flag true = refl
flag false = refl

module _ (bytes : List ℕ) {t : Tree} (e : Ok t ≡ in_memory (outcome limits bytes)) where
  pub read_numbers : 0 ∷ 0 ∷ t.event_count ∷ t.gate_count ∷ bool_byte t.sited ∷ [] ≡ of_reading (in_memory (outcome limits bytes))
  read_numbers = rw (flag t.sited) (ap of_reading e)

  pub read_arrays : (A : Arrays) {A' : Arrays} → A' ≡ filled 0 t A → A' ≡ after (in_memory (outcome limits bytes)) A
  read_arrays A f = f ∙ ap (λ x. after x A) e

  -- what `fill` asks
  pub read_blank : Blank t.events t.event_count
  read_blank = let g = done_is_good bytes e in subst (λ (x : Tree). Blank x.events x.event_count) (sym g.tree) (blank_read g.book)

module _ (bytes : List ℕ) {a : TreeRefusal} (e : Err a ≡ in_memory (outcome limits bytes)) where
  pub refused_numbers : {n p : ℕ} → n ≡ (reason a).number → p ≡ (reason a).place → n ∷ p ∷ 0 ∷ 0 ∷ 0 ∷ [] ≡ of_reading (in_memory (outcome limits bytes))
  refused_numbers q s = rw (q, s) (ap of_reading e)

  pub refused_arrays : (A : Arrays) → A ≡ after (in_memory (outcome limits bytes)) A
  refused_arrays A = ap (λ x. after x A) e

-- of what was written
pub told : {w : Wrote} {a : Result ℕ TreeRefusal} {room : List ℕ} → wrote a room ≡ w
    → {A : List ℕ} → A ≡ of_writing (wrote a room) → (A ≡ of_writing w) × (room ≡ w.room)
told e q = (q ∙ ap of_writing e, ap (λ (x : Wrote). x.room) e)

-- of a tree that is written, in either form
pub written : (f : Tree → List ℕ → Wrote) (room : List ℕ) {t u : Tree} → t ≡ u → {a : Result ℕ TreeRefusal} {room' : List ℕ} → wrote a room' ≡ f t room
    → {A : List ℕ} → A ≡ of_writing (wrote a room') → (A ≡ of_writing (f u room)) × (room' ≡ (f u room).room)
written f room e w q = told (w ∙ ap (λ t. f t room) e) q
