-- The numbers gone, new and kept of two listings.
-- Assumes nothing.
use Rattle.std.specs.Prelude.{◌≡◌, Bool, not, ℕ, ◌+◌, ◌≤◌, length, Result, Ok, Err}
use mathlib.Core.List.{List, ◌++◌, List-discrete}
use Rattle.std.proofs.Math.Decide.{ℕ_discrete}
use Rattle.paper.specs.Lists.{has, keep}
use Rattle.paper.specs.Changes.{Counts}
use Rattle.sidebyside.specs.Members.{Held}
use Rattle.sidebyside.specs.Walking.{Standing}
use Rattle.sidebyside.specs.Sided.{Fault}
use Rattle.sidebyside.specs.declared.Side.{Side}
use Rattle.sidebyside.specs.declared.Numbers.{Numbers}

unfoldable pub has_cut : List (List ℕ) → List ℕ → Bool
has_cut l c = has (List-discrete ℕ_discrete) c l

-- how many cuts of k do not stand in l, and how many do
unfoldable pub gone_of : List (List ℕ) → List (List ℕ) → ℕ
gone_of k l = length (keep (λ c. not (has_cut l c)) k)

unfoldable pub kept_of : List (List ℕ) → List (List ℕ) → ℕ
kept_of k l = length (keep (has_cut l) k)

-- the numbers of the lists ys and ts are these, and those of what is left of them, ls and ms
pub record Adds (ys ts ls ms : List (List ℕ)) (gone new kept : ℕ) : Type 0 where
  pub goes : gone_of ys ts ≡ gone + gone_of ls ms
  pub comes : gone_of ts ys ≡ new + gone_of ms ls
  pub stays : kept_of ys ts ≡ kept + kept_of ls ms

-- compared up to i and j: what is left adds to these numbers, if both are good
pub record Merging (y t : List ℕ) (i e j f gone new kept : ℕ) : Type 0 where
  pub ps : List (List ℕ)
  pub qs : List (List ℕ)
  pub mine : Standing y i e ps
  pub yours : Standing t j f qs
  pub adds : (ls ms : List (List ℕ)) → Held y (ps ++ ls) → Held t (qs ++ ms) → Adds (ps ++ ls) (qs ++ ms) ls ms gone new kept
  pub few : gone + kept ≤ i
  pub small : new + kept ≤ j

-- THE CONTRACT of `tally`
abbrev pub Tallies : List ℕ → List ℕ → Result Numbers Side → Type 0
Tallies y t (Ok n) = Counts y t n.gone n.new n.kept
Tallies y t (Err s) = Fault y t s
