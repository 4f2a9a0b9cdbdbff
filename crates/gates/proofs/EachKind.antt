-- What the code makes of each kind.
-- Assumes nothing.
use mathlib.Core.Path.{◌≡◌}
use mathlib.Core.Logic.{◌≢◌}
use mathlib.Core.Bool.{true, false}
use mathlib.Core.List.{List}
use Rattle.std.specs.Prelude.{Result}
use Prim.Native.Nat.{ℕ}
use borrow.Author.Tests.{eq-eqb, ne_eqb}
use Rattle.paper.specs.Diagrams.{Diagram}
use Rattle.store.specs.declared.Built.{Built}
use Rattle.store.specs.declared.Full.{Full}
use Rattle.atleast.specs.Rules.{least_d, least_steps_d}
use Rattle.atleast.specs.Making.{Gains}
use Rattle.gates.specs.Kinds.{join_all_d, join_steps_d, kind_d, kind_steps_d}

module _ (kind k : ℕ) (ds : List Diagram) (T : List ℕ) (c : ℕ) (T' H' X' M' : List ℕ) (r : Result Built Full) where
  pub gains_and : kind ≡ 2 → Gains (join_steps_d false ds) (join_all_d false ds) T c T' H' X' M' r → Gains (kind_steps_d kind k ds) (kind_d kind k ds) T c T' H' X' M' r
  gains_and e g = rw (eq-eqb kind 2 e) g

  pub gains_or : kind ≢ 2 → kind ≡ 3 → Gains (join_steps_d true ds) (join_all_d true ds) T c T' H' X' M' r → Gains (kind_steps_d kind k ds) (kind_d kind k ds) T c T' H' X' M' r
  gains_or n e g = rw (ne_eqb kind 2 n, eq-eqb kind 3 e) g

  pub gains_least : kind ≢ 2 → kind ≢ 3 → Gains (least_steps_d k ds) (least_d k ds) T c T' H' X' M' r → Gains (kind_steps_d kind k ds) (kind_d kind k ds) T c T' H' X' M' r
  gains_least n m g = rw (ne_eqb kind 2 n, ne_eqb kind 3 m) g
