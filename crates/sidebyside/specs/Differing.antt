-- What two listings are answered, as a test that computes: cut by cut, along both.
-- Assumes nothing.
use Rattle.std.specs.Prelude.{Bool, false, cond, not, ◌||◌, List, [], ◌∷◌, ℕ, ◌+◌, length, Option, None, Result, Ok, Err}
use Rattle.paper.specs.Lists.{keep}
use Rattle.paper.specs.Bytes.{same}
use Rattle.paper.specs.Listing.{cut_bytes}
use Rattle.sidebyside.specs.Judge.{cuts_of, before, judge}
use Rattle.sidebyside.specs.Finding.{shown}
use Rattle.sidebyside.specs.declared.Side.{Side}
use Rattle.sidebyside.specs.declared.Side.TheVariants.{Yesterday, Today}
use Rattle.sidebyside.specs.declared.Difference.{Difference}
use Rattle.sidebyside.specs.declared.Numbers.{Numbers}

-- the first difference of the cuts that stand at `at` in both
unfoldable pub differ : ℕ → List (List ℕ) → List (List ℕ) → Option Difference
differ at [] [] = None
differ at (c ∷ cs) [] = shown Yesterday at (at + length (cut_bytes c))
differ at [] (d ∷ ds) = shown Today at (at + length (cut_bytes d))
differ at (c ∷ cs) (d ∷ ds) =
    cond (before c d) (shown Yesterday at (at + length (cut_bytes c)))
    (cond (before d c) (shown Today at (at + length (cut_bytes d))) (differ (at + length (cut_bytes c)) cs ds))

unfoldable pub difference_of : List ℕ → List ℕ → Result (Option Difference) Side
difference_of y t = cond (judge y) (cond (judge t) (Ok (differ 0 (cuts_of y) (cuts_of t))) (Err Today)) (Err Yesterday)

-- whether the cut c is one of l, and how many cuts of k are not, and are
unfoldable pub among : List (List ℕ) → List ℕ → Bool
among [] c = false
among (d ∷ l) c = same c d || among l c

unfoldable pub gone_by : List (List ℕ) → List (List ℕ) → ℕ
gone_by k l = length (keep (λ c. not (among l c)) k)

unfoldable pub kept_by : List (List ℕ) → List (List ℕ) → ℕ
kept_by k l = length (keep (among l) k)

unfoldable pub numbers_of : List ℕ → List ℕ → Result Numbers Side
numbers_of y t = cond (judge y) (cond (judge t) (Ok numbers) (Err Today)) (Err Yesterday)
  where
    numbers : Numbers
    numbers = record { gone = gone_by (cuts_of y) (cuts_of t); new = gone_by (cuts_of t) (cuts_of y); kept = kept_by (cuts_of y) (cuts_of t) }
