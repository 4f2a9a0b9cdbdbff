-- THE FIRST CHANGE: what `first_difference` and `side` answer on the listings of two done analyses.
-- Assumes nothing.
use Rattle.std.specs.Prelude.{◌≡◌, ◌⊎◌, ◌↔◌, true, List, [], ℕ, Option, None, Some, Result, Ok, Err}
use Rattle.paper.specs.Limits.{limits}
use Rattle.paper.specs.Sets.{Set}
use Rattle.paper.specs.Functions.{Fun}
use Rattle.paper.specs.Trees.{Tree, root_fun}
use Rattle.paper.specs.Cuts.{MinimalCut}
use Rattle.paper.specs.Order.{Before}
use Rattle.paper.specs.Listing.{set_bytes}
use Rattle.listing.specs.Joined.{Joined}
use Rattle.sidebyside.specs.declared.Side.{Side}
use Rattle.sidebyside.specs.declared.Side.TheVariants.{Yesterday, Today}
use Rattle.changes.specs.Answers.{Sides, Part}
use Rattle.memory.specs.Memory.{Memory}
use Rattle.memory.specs.Analysis.{Analysis}

-- Event i of the one tree is event i of the other.

-- S is a minimal cut of F and not of G
abbrev pub CutOf : Fun → Fun → Set → Type 0
CutOf F G S = MinimalCut F S × (MinimalCut G S → ⊥)

-- and the first set that is a minimal cut of exactly one of them
pub record FirstChange (F G : Fun) (S : Set) : Type 0 where
  pub only : CutOf F G S
  pub first : (T : Set) → CutOf F G T ⊎ CutOf G F T → (T ≡ S) ⊎ Before S T

-- the part and the side, of yesterday's root F and today's G: neither listing is refused
abbrev pub Changed : Fun → Fun → List ℕ → Result (Option Side) Side → Type 0
Changed F G part (Ok None) = (part ≡ []) × ((S : Set) → MinimalCut F S ↔ MinimalCut G S)
Changed F G part (Ok (Some Yesterday)) = (S : Set) × FirstChange F G S × (part ≡ set_bytes limits.events S)
Changed F G part (Ok (Some Today)) = (S : Set) × FirstChange G F S × (part ≡ set_bytes limits.events S)
Changed F G part (Err s) = ⊥

-- the listings of two done analyses, for whatever number of events and in rooms of whatever sizes `list` answered 0, compared
pub record ShowsChange (t t' : Tree) (m m' : Memory) (a a' : Analysis) : Type 0 where
  pub shows : {n n' : ℕ} {ws ws' yesterday today : List ℕ} → Joined n m.cuts a.cut_nodes a.cut_root true ws yesterday
      → Joined n' m'.cuts a'.cut_nodes a'.cut_root true ws' today
      → (part : List ℕ) (w : Result (Option Side) Side) → Part yesterday today part → Sides yesterday today w → Changed (root_fun t.gates) (root_fun t'.gates) part w
