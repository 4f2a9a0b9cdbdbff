-- What the functions inside ask of their callers and tell them.
use Rattle.std.specs.Prelude.{ℕ, ◌≤◌, ◌<◌, ◌≡◌, List, ◌++◌, length, Option, Some, None, Result, Ok, Err}
use Rattle.paper.specs.Limits.{limits}
use Rattle.rules.specs.Format.{record_of, encode}
use Rattle.records.specs.Judge.{Book, accept, refuse, outcome}
use Rattle.judging.specs.Bytes.{bytes_of}
use Rattle.rules.specs.declared.Refusal.{Refusal}
use Rattle.rules.specs.declared.Refusal.TheVariants.{Unused}
use Rattle.records.specs.declared.Tree.{Tree}
use Rattle.rules.specs.declared.format.Record.{Record}

-- n itself, where the array of the events has it
pub record Within (n r : ℕ) : Type 0 where
  pub inside : r < limits.events
  pub same : n < limits.events → r ≡ n

-- a record that is read as itself
abbrev pub Own : Record → Type 0
Own r = (rest : List ℕ) → record_of limits (encode r ++ rest) ≡ r

-- the bytes of t are accepted
abbrev pub Accepted : Tree → Type 0
Accepted t = (b : Book) × (outcome limits (bytes_of t) ≡ accept b)

-- what the end record leaves
abbrev pub Sized : Option ℕ → ℕ → Result ℕ Refusal → Type 0
Sized (Some place) n r = r ≡ Err (Unused place)
Sized None n r = r ≡ Ok n

-- t's bytes are accepted, and n of them
pub record Measured (t : Tree) (n : ℕ) : Type 0 where
  pub bytes : n ≡ length (bytes_of t)
  pub accepted : Accepted t
  pub few : t.event_count ≤ limits.events

-- what a survey of t says: how t's bytes are refused, or how many they are
abbrev pub Surveyed : Tree → Result ℕ Refusal → Type 0
Surveyed t (Ok n) = Measured t n
Surveyed t (Err a) = outcome limits (bytes_of t) ≡ refuse a
