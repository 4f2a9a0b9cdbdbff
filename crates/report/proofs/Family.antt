-- The reportable sets of a lent family: in order, of its events, and from a start on.
-- Assumes nothing.
use mathlib.Core.Path.{◌≡◌, sym}
use mathlib.Core.Bool.{Bool, true, false}
use mathlib.Core.List.{List}
use Prim.Native.Nat.{ℕ, ◌≤◌}
use Rattle.paper.specs.Limits.{billion}
use Rattle.paper.specs.Lists.{In, keep}
use Rattle.paper.specs.Sets.{Set}
use Rattle.paper.specs.Cuts.{sets_of}
use Rattle.paper.specs.Order.{Sorted, from_start}
use Rattle.algebra.proofs.Lists.{keep_in}
use Rattle.algebra.proofs.Without.{sets_beyond}
use Rattle.algebra.proofs.Order.{sets_sorted}
use Rattle.algebra.proofs.Listing.{sorted_keep}
use Rattle.algebra.proofs.Reports.{report_start}
use Rattle.sets.specs.Words.{set_of}
use Rattle.tables.specs.Table.{den}
use Rattle.tables.specs.Lent.{Lent}
use Rattle.tables.proofs.Lent.{root_ordered}
use Rattle.bracket.specs.Bracketed.{chance_in}
use Rattle.review.specs.Hopes.{worth}
use Rattle.report.specs.Answers.{to_report}

module _ {n : ℕ} {T : List ℕ} {c root : ℕ} (lent : Lent true n T c root) (r : ℕ) (A : List ℕ) where
  pub all_sorted : Sorted (keep (worth r A n) (sets_of (den T root)))
  all_sorted = sorted_keep (worth r A n) (sets_of (den T root)) (sets_sorted n 0 (den T root) (root_ordered lent))

  pub all_within : (S : Set) → In S (keep (worth r A n) (sets_of (den T root))) → (i : ℕ) → n ≤ i → S i ≡ false
  all_within S h = sets_beyond 0 n (den T root) S (root_ordered lent) (keep_in (worth r A n) S (sets_of (den T root)) h).0

-- a start in the listing is a start in the report
pub started : (T : List ℕ) (root n r : ℕ) (A : List ℕ) (begin : Bool) (ws : List ℕ) → to_report r A n (den T root) begin ws ≡ from_start begin n (set_of ws) (keep (worth r A n) (sets_of (den T root)))
started T root n r A begin ws = sym (report_start billion (chance_in A) n r begin (set_of ws) (sets_of (den T root)))
