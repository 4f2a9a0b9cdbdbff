-- One diagram for each family.
-- Assumes nothing.
use mathlib.Core.Path.{◌≡◌, sym, ◌∙◌, fun_ext}
use mathlib.Core.Logic.{◌↔◌}
use mathlib.Core.Bool.{true}
use Prim.Native.Nat.{ℕ}
use native.Mathlib.Omega.{arith}
use Rattle.paper.specs.Sets.{Set}
use Rattle.paper.specs.Diagrams.{Diagram, Ordered}
use Rattle.paper.specs.Cuts.{Denotes, Suppressed}
use Rattle.algebra.specs.Families.{holds}
use Rattle.algebra.proofs.Lists.{bool_iff}
use Rattle.algebra.proofs.Trim.{trim}
use Rattle.algebra.proofs.Kind.{canonical_kind}
use Rattle.algebra.proofs.Without.{Tidy}
use Rattle.algebra.proofs.Order.{sets_complete}
use Rattle.algebra.proofs.Zero.{suppressed, sets_hold, hold_sets, local_z}

-- a set that stands in one of two families stands in the other
same_holds : (n : ℕ) (a b : Diagram) → Tidy 0 n a → Tidy 0 n b → ((S : Set) → Denotes a S → Denotes b S) → (S : Set) → holds n 0 a S ≡ true → holds n 0 b S ≡ true
same_holds n a b oa ob f S h =
    sym (local_z n b S) ∙ sets_hold n 0 n (omega arith) b ob.0 (trim n 0 S)
    ((sets_complete b (trim n 0 S)).1 (f (trim n 0 S) ((sets_complete a (trim n 0 S)).0 (hold_sets n 0 n (omega arith) a oa.0 S h))))

-- CANONICITY: two ordered diagrams with no failed branch 0 that denote the same sets are equal
pub canonical_family : (n : ℕ) (a b : Diagram) → Ordered 0 n a → Ordered 0 n b → Suppressed a → Suppressed b → ((S : Set) → Denotes a S ↔ Denotes b S) → a ≡ b
canonical_family n a b oa ob sa sb h = canonical_kind n (suppressed n) n 0 (omega arith) a b (oa, sa) (ob, sb)
    (fun_ext (λ S. bool_iff (holds n 0 a S) (holds n 0 b S) (same_holds n a b (oa, sa) (ob, sb) (λ T. (h T).0) S) (same_holds n b a (ob, sb) (oa, sa) (λ T. (h T).1) S)))
