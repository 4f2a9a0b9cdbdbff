-- A refusal is known by its number.
-- Assumes nothing.
use mathlib.Core.Path.{◌≡◌, refl, sym, ap, ◌∙◌}
use mathlib.Core.List.{List, [], ◌∷◌}
use lib.ListN.{get_or}
use Rattle.paper.specs.declared.refusal.Refusal.{Refusal}
use Rattle.paper.specs.declared.refusal.Refusal.TheVariants.{CutShort, UnknownKind, OutOfPlace, Count, Threshold, Reference, Chance, Unused, Length, NodesFull, CutsFull, NoDiagram, Beyond, Room, Line, LeftTwice, Ring, Roots, TooMany, BadListing, Narrow, Sited, Edition, Store}
use Rattle.paper.specs.Refusals.{number}

-- each at its number
all : List Refusal
all = CutShort ∷ CutShort ∷ UnknownKind ∷ OutOfPlace ∷ Count ∷ Threshold ∷ Reference ∷ Chance ∷ Unused ∷ Length ∷ NodesFull ∷ CutsFull ∷ NoDiagram ∷ Beyond ∷ Room ∷ Line ∷ LeftTwice ∷ Ring ∷ Roots ∷ TooMany ∷ BadListing ∷ Narrow ∷ Sited ∷ Edition ∷ Store ∷ []

at_number : (why : Refusal) → get_or all (number why) CutShort ≡ why
unfolding all
at_number CutShort = refl
at_number UnknownKind = refl
at_number OutOfPlace = refl
at_number Count = refl
at_number Threshold = refl
at_number Reference = refl
at_number Chance = refl
at_number Unused = refl
at_number Length = refl
at_number NodesFull = refl
at_number CutsFull = refl
at_number NoDiagram = refl
at_number Beyond = refl
at_number Room = refl
at_number Line = refl
at_number LeftTwice = refl
at_number Ring = refl
at_number Roots = refl
at_number TooMany = refl
at_number BadListing = refl
at_number Narrow = refl
at_number Sited = refl
at_number Edition = refl
at_number Store = refl

pub number_once : (v w : Refusal) → number v ≡ number w → v ≡ w
number_once v w q = sym (at_number v) ∙ ap (λ k. get_or all k CutShort) q ∙ at_number w
