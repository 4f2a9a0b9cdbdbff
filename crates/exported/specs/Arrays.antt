-- A tree as six arrays of numbers: chances; sites; each gate's kind, k and n; the inputs of all gates.
-- Assumes nothing.
use Rattle.std.specs.Prelude.{Bool, cond, List, ℕ, eqb, Result, Ok, Err}
use Rattle.rules.specs.declared.Refusal.{Refusal}
use Rattle.records.specs.declared.Tree.{Tree}
use Rattle.arrays.specs.Chances.{chances_of, sites_of, events_of}

pub record Arrays : Type 0 where
  pub chances : List ℕ
  pub sites : List ℕ
  pub kinds : List ℕ
  pub leasts : List ℕ
  pub sizes : List ℕ
  pub inputs : List ℕ

abbrev pub arrays : List ℕ → List ℕ → List ℕ → List ℕ → List ℕ → List ℕ → Arrays
arrays chances sites kinds leasts sizes inputs = record { chances = chances; sites = sites; kinds = kinds; leasts = leasts; sizes = sizes; inputs = inputs }

abbrev pub arrays_of : Tree → Arrays
arrays_of t = arrays (chances_of t.events) (sites_of t.events) t.kinds t.leasts t.sizes t.inputs

abbrev pub tree_from : ℕ → ℕ → Bool → Arrays → Tree
tree_from events gates sited a = record {
  events = events_of a.chances a.sites;
  event_count = events;
  sited = sited;
  kinds = a.kinds;
  leasts = a.leasts;
  sizes = a.sizes;
  gate_count = gates;
  inputs = a.inputs;
}

-- what the arrays hold after an answer of this number: its tree where the number is 0, else what they held
abbrev pub filled : ℕ → Tree → Arrays → Arrays
filled number t before = cond (eqb number 0) (arrays_of t) before

-- and after a reading
abbrev pub after : Result Tree Refusal → Arrays → Arrays
after (Ok t) before = arrays_of t
after (Err a) before = before
