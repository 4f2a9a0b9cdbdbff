-- From building to the answer: 10, or the cuts.
-- Assumes nothing.
use mathlib.Core.Path.{sym, subst}
use Prim.Native.Nat.{ℕ, ◌/◌}
use native.Mathlib.Omega.{arith}
use Rattle.paper.specs.Trees.{Tree, events}
use Rattle.paper.specs.Answers.{CutsFull}
use Rattle.build.specs.Finishing.{Whole, TooMany}
use Rattle.build.proofs.Needed.{needed_fits, filled_at}
use Rattle.memory.specs.Memory.{Memory, capacity, AllZero}
use Rattle.memory.specs.Outcome.{Refused, at}
use Rattle.memory.specs.Analysis.{Analysis}
use Rattle.memory.proofs.Before.{SameLengths, all_zero_from, done_from}
use Rattle.analysis.specs.Completing.{Sound, CutsFilled}
use Rattle.analysis.specs.Filling.{Filled}

module _ {m k : Memory} (s : SameLengths m k) where
  cuts_filled_from : {t : Tree} {m' : Memory} {a : Analysis} → CutsFilled t k m' a → CutsFilled t m m' a
  cuts_filled_from {t} (CutsFilled.cuts_full f r z) = CutsFilled.cuts_full (subst (λ n. CutsFull t (n / 3)) s.cuts f) r (all_zero_from s z)
  cuts_filled_from {t} (CutsFilled.done f d) = CutsFilled.done (λ h. f (subst (λ n. CutsFull t (n / 3)) (sym s.cuts) h)) (done_from s d)

module _ {t : Tree} {m k : Memory} (sound : Sound t) where
  pub nodes_are_full : {m' : Memory} {a : Analysis} {gate : ℕ} → AllZero k m' → SameLengths m k → TooMany t.gates (capacity m.nodes) gate → Refused (at 10 gate) a → Filled t m m' a
  nodes_are_full {gate = gate} z s h r = Filled.nodes_full gate (filled_at t sound.below h) r (all_zero_from s z)

  pub nodes_do_fit : {m' : Memory} {a : Analysis} {root c : ℕ} → SameLengths m k → Whole t.gates k.gates k.added k.nodes k.heads k.next root c → CutsFilled t k m' a → Filled t m m' a
  nodes_do_fit s w f = Filled.nodes_fit
      (λ h. let q = needed_fits (events t) t.gates sound.below w in let e = s.nodes in omega arith)
      (cuts_filled_from s f)
