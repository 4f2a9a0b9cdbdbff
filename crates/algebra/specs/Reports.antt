-- What a diagram says of the sets of its family: the fewest members, the likeliest set, and whether one is reportable with the members on the way.
-- Assumes nothing.
use Rattle.std.specs.Prelude.{Bool, true, cond, ◌&&◌, ◌||◌, List, [], ◌∷◌, ◌++◌, ℕ, suc, ◌+◌, ◌*◌, ◌^◌, min, leb, eqb}
use Rattle.paper.specs.Sets.{Set, put}
use Rattle.paper.specs.Diagrams.{Diagram, leaf, node}
use Rattle.paper.specs.Reports.{edge, reportable}

-- two sets put together
abbrev pub over : Set → Set → Set
over P T i = P i || T i

-- some members, and the product of their chances
pub record Way : Type 0 where
  pub members : ℕ
  pub chance : ℕ

-- no set has fewer members; three where there is no set, for more than two are as bad
unfoldable pub fewest : Diagram → ℕ
fewest (leaf b) = cond b 0 3
fewest (node e f s) = min (suc (fewest f)) (fewest s)

-- a i of D is the chance of event i
module _ (D : ℕ) (a : ℕ → ℕ) where
  -- the likelier of two: the first where they are as likely as each other
  abbrev pub better : Way → Way → Way
  better x y = cond (leb (y.chance * D ^ x.members) (x.chance * D ^ y.members)) x y

  -- one event more
  abbrev pub with : ℕ → Way → Way
  with e w = record { members = suc w.members; chance = a e * w.chance }

  -- THE LIKELIEST SET: its members and their product, 0 where there is no set
  unfoldable pub likeliest : Diagram → Way
  likeliest (leaf b) = record { members = 0; chance = cond b 1 0 }
  likeliest (node e f s) = better (with e (likeliest f)) (likeliest s)

  -- by both: some set below z is reportable under edition r, put together with the members w on the way
  abbrev pub hopeful : ℕ → Way → Diagram → Bool
  hopeful r w z = leb (w.members + fewest z) 2 || (eqb r 2 && leb (edge * D ^ (w.members + (likeliest z).members)) (w.chance * (likeliest z).chance * D))

  -- THE WALK that enters a node only where there is hope, and how many nodes it enters: P are the members on the way, w their product
  module _ (n : ℕ) (r : ℕ) where
    abbrev pub walk : Set → Way → Diagram → List Set
    walk P w (leaf b) = cond b (cond (reportable D a n r P) (P ∷ []) []) []
    walk P w (node e f s) = cond (hopeful r w (node e f s)) (walk (put e true P) (with e w) f ++ walk P w s) []

    abbrev pub visits : Way → Diagram → ℕ
    visits w (leaf b) = 0
    visits w (node e f s) = cond (hopeful r w (node e f s)) (suc (visits (with e w) f + visits w s)) 0
