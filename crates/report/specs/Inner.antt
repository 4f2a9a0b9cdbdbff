-- What the parts of a report call say.
-- Assumes nothing.
use Rattle.std.specs.Prelude.{◌≡◌, Bool, true, false, List, ℕ, ◌<◌, replicate}
use Rattle.paper.specs.Answers.{Beyond}
use Rattle.paper.specs.Reports.{is_edition}
use Rattle.sets.specs.Words.{words, set_of}
use Rattle.tables.specs.Lent.{Lent}
use Rattle.bracket.specs.Bracketed.{Chances}
use Rattle.report.specs.Answers.{Enough}

-- the set that a call starts after: the empty one from the beginning
pub record Begun (begin : Bool) (ws base : List ℕ) : Type 0 where
  pub all : begin ≡ true → base ≡ replicate words 0
  pub after : begin ≡ false → base ≡ ws

-- no rule is broken, for a start after the set base
pub record Fine (r n : ℕ) (T : List ℕ) (c root : ℕ) (A F W base : List ℕ) : Type 0 where
  pub known : is_edition r ≡ true
  pub lent : Lent true n T c root
  pub enough : Enough n T A F W
  pub chances : Chances n A
  pub inside : Beyond n (set_of base) → ⊥

-- the number of the first rule that is broken
pub data Judged (r n : ℕ) (T : List ℕ) (c root : ℕ) (A F W base : List ℕ) (why : ℕ) : Type 0 where
  no_edition : is_edition r ≡ false → why ≡ 23 → Judged r n T c root A F W base why
  no_diagram : is_edition r ≡ true → (Lent true n T c root → ⊥) → why ≡ 12 → Judged r n T c root A F W base why
  too_short : is_edition r ≡ true → Lent true n T c root → (Enough n T A F W → ⊥) → why ≡ 9 → Judged r n T c root A F W base why
  no_chance : is_edition r ≡ true → Lent true n T c root → Enough n T A F W → (Chances n A → ⊥) → why ≡ 7 → Judged r n T c root A F W base why
  beyond : is_edition r ≡ true → Lent true n T c root → Enough n T A F W → Chances n A → Beyond n (set_of base) → why ≡ 13 → Judged r n T c root A F W base why
