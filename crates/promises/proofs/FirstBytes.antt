-- THE BYTES THAT THE PROGRAM READS DECIDE an analysis: what may come of them may come of all the bytes, and two such outcomes coincide.
-- Assumes nothing.
use mathlib.Core.Path.{◌≡◌, sym, ◌∙◌}
use mathlib.Core.List.{List}
use Prim.Native.Nat.{ℕ}
use native.Mathlib.Omega.{arith}
use lib.ListN.{take}
use Rattle.paper.specs.Limits.{limits, most_bytes}
use Rattle.records.specs.Judge.{outcome}
use Rattle.trees.proofs.Prefix.{first_bytes_decide}
use Rattle.memory.specs.Memory.{Memory}
use Rattle.analyser.specs.Analysed.{Analysed}
use Rattle.promises.specs.Coincide.{Coincide}
use Rattle.memory.specs.Analysis.{Analysis}
use Rattle.promises.proofs.Coincide.{coincide}

-- an analysis sees of the bytes only what reading them comes to
same_reading : {bytes bytes' : List ℕ} → outcome limits bytes' ≡ outcome limits bytes → {m m' : Memory} {a : Analysis} → Analysed bytes m m' a → Analysed bytes' m m' a
same_reading e (Analysed.bad_tree w p r k) = Analysed.bad_tree w (e ∙ p) r k
same_reading e (Analysed.bad_length b p n r k) = Analysed.bad_length b (e ∙ p) n r k
same_reading e (Analysed.nodes_full b g p n f r k) = Analysed.nodes_full b g (e ∙ p) n f r k
same_reading e (Analysed.cuts_full b p n f g r k) = Analysed.cuts_full b (e ∙ p) n f g r k
same_reading e (Analysed.done b p n f g d) = Analysed.done b (e ∙ p) n f g d

module _ {bytes : List ℕ} {m : Memory} where
  pub first_bytes_analysed : {m' : Memory} {a : Analysis} → Analysed (take most_bytes bytes) m m' a → Analysed bytes m m' a
  first_bytes_analysed = same_reading (sym (first_bytes_decide most_bytes (omega arith) bytes))

  pub first_bytes_coincide : {m₁ m₂ : Memory} {a₁ a₂ : Analysis} → Analysed (take most_bytes bytes) m m₁ a₁ → Analysed bytes m m₂ a₂ → Coincide m₁ m₂ a₁ a₂
  first_bytes_coincide x y = coincide (first_bytes_analysed x) y
