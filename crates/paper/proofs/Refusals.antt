-- No reason of a refusal has the number 0.
-- Assumes nothing.
use Prim.Native.Nat.{◌<◌}
use native.Mathlib.Omega.{arith}
use Rattle.paper.specs.declared.refusal.Refusal.{Refusal}
use Rattle.paper.specs.declared.refusal.Refusal.TheVariants.{CutShort, UnknownKind, OutOfPlace, Count, Threshold, Reference, Chance, Unused, Length, NodesFull, CutsFull, NoDiagram, Beyond, Room, Line, LeftTwice, Ring, Roots, TooMany, BadListing, Narrow, Sited, Edition, Store}
use Rattle.paper.specs.Refusals.{number}

pub number_above : (why : Refusal) → 0 < number why
number_above CutShort = omega arith
number_above UnknownKind = omega arith
number_above OutOfPlace = omega arith
number_above Count = omega arith
number_above Threshold = omega arith
number_above Reference = omega arith
number_above Chance = omega arith
number_above Unused = omega arith
number_above Length = omega arith
number_above NodesFull = omega arith
number_above CutsFull = omega arith
number_above NoDiagram = omega arith
number_above Beyond = omega arith
number_above Room = omega arith
number_above Line = omega arith
number_above LeftTwice = omega arith
number_above Ring = omega arith
number_above Roots = omega arith
number_above TooMany = omega arith
number_above BadListing = omega arith
number_above Narrow = omega arith
number_above Sited = omega arith
number_above Edition = omega arith
number_above Store = omega arith
