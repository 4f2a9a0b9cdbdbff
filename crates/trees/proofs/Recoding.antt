-- What was read as a record is that record's bytes.
-- Assumes nothing.
use mathlib.Core.Path.{◌≡◌, refl, ap, ◌∙◌}
use mathlib.Core.Bool.{Bool, true, false}
use mathlib.Core.List.{List, [], ◌∷◌, ◌++◌}
use Prim.Native.Nat.{ℕ, ◌+◌, ◌-◌, ◌*◌, ◌/◌, ◌%◌, ◌≤◌, ◌<◌}
use native.Mathlib.Omega.{arith}
use lib.ListN.{length, get_or, drop}
use borrow.Author.Tests.{lt-ltb, le-ltb}
use Rattle.rules.specs.Format.{byte, event_in, record_of, width_of, encode}
use Rattle.paper.specs.Limits.{wide_from, limits}
use Rattle.paper.specs.Flat.{gates_from}
use Rattle.judging.specs.Bytes.{input_record, gate_record}
use Rattle.rules.specs.declared.format.Record.{Record}
use Rattle.rules.specs.declared.format.Record.TheVariants.{Missing, Unknown, Short, Event, SitedEvent, Gate, EventInput, GateInput, WideInput, End}
use Rattle.rules.proofs.Cases.{front, known}
use Rattle.rules.proofs.Steps.{code_of, IsInput}

split1 : (l : List ℕ) → 1 ≤ length l → l ≡ byte l 0 ∷ drop 1 l
split1 [] h = absurd (omega arith)
split1 (a ∷ l) h = refl

split2 : (l : List ℕ) → 2 ≤ length l → l ≡ byte l 0 ∷ byte l 1 ∷ drop 2 l
split2 [] h = absurd (omega arith)
split2 (a ∷ []) h = absurd (omega arith)
split2 (a ∷ b ∷ l) h = refl

split3 : (l : List ℕ) → 3 ≤ length l → l ≡ byte l 0 ∷ byte l 1 ∷ byte l 2 ∷ drop 3 l
split3 [] h = absurd (omega arith)
split3 (a ∷ []) h = absurd (omega arith)
split3 (a ∷ b ∷ []) h = absurd (omega arith)
split3 (a ∷ b ∷ c ∷ l) h = refl

split5 : (l : List ℕ) → 5 ≤ length l → l ≡ byte l 0 ∷ byte l 1 ∷ byte l 2 ∷ byte l 3 ∷ byte l 4 ∷ drop 5 l
split5 [] h = absurd (omega arith)
split5 (a ∷ []) h = absurd (omega arith)
split5 (a ∷ b ∷ []) h = absurd (omega arith)
split5 (a ∷ b ∷ c ∷ []) h = absurd (omega arith)
split5 (a ∷ b ∷ c ∷ d ∷ []) h = absurd (omega arith)
split5 (a ∷ b ∷ c ∷ d ∷ e ∷ l) h = refl

split7 : (l : List ℕ) → 7 ≤ length l → l ≡ byte l 0 ∷ byte l 1 ∷ byte l 2 ∷ byte l 3 ∷ byte l 4 ∷ byte l 5 ∷ byte l 6 ∷ drop 7 l
split7 [] h = absurd (omega arith)
split7 (a ∷ []) h = absurd (omega arith)
split7 (a ∷ b ∷ []) h = absurd (omega arith)
split7 (a ∷ b ∷ c ∷ []) h = absurd (omega arith)
split7 (a ∷ b ∷ c ∷ d ∷ []) h = absurd (omega arith)
split7 (a ∷ b ∷ c ∷ d ∷ e ∷ []) h = absurd (omega arith)
split7 (a ∷ b ∷ c ∷ d ∷ e ∷ f ∷ []) h = absurd (omega arith)
split7 (a ∷ b ∷ c ∷ d ∷ e ∷ f ∷ g ∷ l) h = refl

low : (a x : ℕ) → a < 256 → a ≡ (a + 256 * x) % 256
low a x h = omega arith

high1 : (a x : ℕ) → a < 256 → x ≡ (a + 256 * x) / 256
high1 a x h = omega arith

high2 : (a b x : ℕ) → a < 256 → b < 256 → x ≡ (a + 256 * (b + 256 * x)) / 65536
high2 a b x h k = omega arith

high3 : (a b d x : ℕ) → a < 256 → b < 256 → d < 256 → x ≡ (a + 256 * (b + 256 * (d + 256 * x))) / 16777216
high3 a b d x h k m = omega arith

-- l starts with the bytes of r
abbrev pub Starts : List ℕ → Record → Type 0
Starts l r = l ≡ encode r ++ drop (width_of r) l

-- what holds of a record that was read: its bytes stand there, a gate has its k only if it is an at-least gate, a short event's input is a byte
abbrev pub Recoded : List ℕ → Record → Type 0
Recoded l Missing = Unit {0}
Recoded l Unknown = Unit {0}
Recoded l Short = Unit {0}
Recoded l (Event c) = Starts l (Event c)
Recoded l (SitedEvent c site) = Starts l (SitedEvent c site)
Recoded l (Gate kind k n) = Starts l (Gate kind k n) × (gate_record kind k n ≡ Gate kind k n)
Recoded l (EventInput e) = Starts l (EventInput e) × (e < wide_from)
Recoded l (GateInput g) = Starts l (GateInput g)
Recoded l (WideInput e) = Starts l (WideInput e)
Recoded l End = Starts l End

module _ (l : List ℕ) (good : (i : ℕ) → get_or l i 0 < 256) where
  abbrev R : Record → Type 0
  R r = Recoded l r

  -- the four bytes of a chance
  abbrev chance : ℕ
  chance = byte l 1 + 256 * (byte l 2 + 256 * (byte l 3 + 256 * byte l 4))

  first_of_four : byte l 1 ≡ chance % 256
  first_of_four = low (byte l 1) _ (good 1)

  second_of_four : byte l 2 ≡ chance / 256 % 256
  second_of_four = low (byte l 2) _ (good 2) ∙ ap (λ (x : ℕ). x % 256) (high1 (byte l 1) _ (good 1))

  third_of_four : byte l 3 ≡ chance / 65536 % 256
  third_of_four = low (byte l 3) _ (good 3) ∙ ap (λ (x : ℕ). x % 256) (high2 (byte l 1) (byte l 2) _ (good 1) (good 2))

  last_of_four : byte l 4 ≡ chance / 16777216
  last_of_four = high3 (byte l 1) (byte l 2) (byte l 3) _ (good 1) (good 2) (good 3)

  recode_event : byte l 0 ≡ 1 → 5 ≤ length l → Starts l (Event chance)
  recode_event k h =
      let q : byte l 0 ∷ byte l 1 ∷ byte l 2 ∷ byte l 3 ∷ byte l 4 ∷ drop 5 l ≡ 1 ∷ chance % 256 ∷ chance / 256 % 256 ∷ chance / 65536 % 256 ∷ chance / 16777216 ∷ drop 5 l
      = λ i. k i ∷ first_of_four i ∷ second_of_four i ∷ third_of_four i ∷ last_of_four i ∷ drop 5 l in
      split5 l h ∙ q

  recode_sited : byte l 0 ≡ 0x11 → 7 ≤ length l → Starts l (SitedEvent chance (byte l 5 + 256 * byte l 6))
  recode_sited k h =
      let site : ℕ = byte l 5 + 256 * byte l 6 in
      let g5 : byte l 5 < 256 = good 5 in
      let p5 : byte l 5 ≡ site % 256 = omega arith in
      let p6 : byte l 6 ≡ site / 256 = omega arith in
      let q : byte l 0 ∷ byte l 1 ∷ byte l 2 ∷ byte l 3 ∷ byte l 4 ∷ byte l 5 ∷ byte l 6 ∷ drop 7 l
      ≡ 0x11 ∷ chance % 256 ∷ chance / 256 % 256 ∷ chance / 65536 % 256 ∷ chance / 16777216 ∷ site % 256 ∷ site / 256 ∷ drop 7 l
      = λ i. k i ∷ first_of_four i ∷ second_of_four i ∷ third_of_four i ∷ last_of_four i ∷ p5 i ∷ p6 i ∷ drop 7 l in
      split7 l h ∙ q

  -- a kind with a number of two bytes
  recode_two : (kind : ℕ) → byte l 0 ≡ kind → 3 ≤ length l
      → l ≡ kind ∷ (byte l 1 + 256 * byte l 2) % 256 ∷ (byte l 1 + 256 * byte l 2) / 256 ∷ drop 3 l
  recode_two kind k h =
      let g : ℕ = byte l 1 + 256 * byte l 2 in
      let g1 : byte l 1 < 256 = good 1 in
      let p1 : byte l 1 ≡ g % 256 = omega arith in
      let p2 : byte l 2 ≡ g / 256 = omega arith in
      let q : byte l 0 ∷ byte l 1 ∷ byte l 2 ∷ drop 3 l ≡ kind ∷ g % 256 ∷ g / 256 ∷ drop 3 l = λ i. k i ∷ p1 i ∷ p2 i ∷ drop 3 l in
      split3 l h ∙ q

  two_are : (x : ℕ) → byte l 0 ≡ x → 2 ≤ length l → l ≡ x ∷ byte l 1 ∷ drop 2 l
  two_are x k h = split2 l h ∙ ap (λ (y : ℕ). y ∷ byte l 1 ∷ drop 2 l) k

  three_are : (x : ℕ) → byte l 0 ≡ x → 3 ≤ length l → l ≡ x ∷ byte l 1 ∷ byte l 2 ∷ drop 3 l
  three_are x k h = split3 l h ∙ ap (λ (y : ℕ). y ∷ byte l 1 ∷ byte l 2 ∷ drop 3 l) k

  pub recode : Recoded l (record_of limits l)
  recode =
      front l R (λ _. tt) (λ _. tt) (λ _ _. tt)
      (λ one some h.
      known l (λ k n r. byte l 0 ≡ k → n ≤ length l → R r)
      recode_event
      (λ q m. (two_are 2 q m, refl))
      (λ q m. (two_are 3 q m, refl))
      (λ q m. (three_are 4 q m, refl))
      (λ q m. (two_are 5 q m, good 1))
      (recode_two 6)
      (λ q m. split1 l m ∙ ap (λ (y : ℕ). y ∷ drop 1 l) q)
      (recode_two 8)
      recode_sited
      (byte l 0) some refl h)

-- an event's bytes, with a site or without
pub event_starts : (l : List ℕ) (sited : Bool) (c site : ℕ) → Recoded l (event_in sited c site) → Starts l (event_in sited c site)
event_starts l true c site h = h
event_starts l false c site h = h

-- an input's record is that of its number
pub input_again : (l : List ℕ) (n : ℕ) → n ≤ gates_from → (r : Record) → IsInput n r → Recoded l r → (input_record (code_of r) ≡ r) × Starts l r
input_again l n few Missing h f = absurd h
input_again l n few Unknown h f = absurd h
input_again l n few Short h f = absurd h
input_again l n few (Event c) h f = absurd h
input_again l n few (SitedEvent c site) h f = absurd h
input_again l n few (Gate kind k m) h f = absurd h
input_again l n few (EventInput e) h f = (rw (lt-ltb e wide_from f.1), f.0)
input_again l n few (GateInput g) h f =
    let d : gates_from + g - gates_from ≡ g = omega arith in
    (rw (le-ltb (gates_from + g) wide_from (omega arith), le-ltb (gates_from + g) gates_from (omega arith), d), f)
input_again l n few (WideInput e) (wide, there) f = (rw (le-ltb e wide_from wide, lt-ltb e gates_from (omega arith)), f)
input_again l n few End h f = absurd h
