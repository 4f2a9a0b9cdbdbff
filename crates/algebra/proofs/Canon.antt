-- The reduced diagram of a function: two diagrams of one function are one.
-- Assumes nothing.
use mathlib.Core.Path.{◌≡◌, sym, ap, ap₂, ◌∙◌, fun_ext}
use mathlib.Core.Bool.{Bool, true, false}
use Prim.Native.Nat.{ℕ, zero, suc, ◌+◌}
use native.Mathlib.Omega.{arith}
use Rattle.paper.specs.Sets.{none}
use Rattle.paper.specs.Functions.{Fun, fix_f}
use Rattle.paper.specs.Diagrams.{Diagram, leaf, eval, Ordered, Reduced, mk_d, diagram_of}
use Rattle.algebra.specs.Operations.{fix_d}
use Rattle.algebra.proofs.Fix.{ordered_fix, reduced_fix, eval_fix, mk_fix, at_end}

diagram_from : (k m n : ℕ) → m + k ≡ n → (d : Diagram) → Ordered m n d → Reduced d → diagram_of k m (eval d) ≡ d
diagram_from zero m n q d o r = let (c, e) = at_end m n d (omega arith) o in ap (λ x. leaf (eval x none)) e ∙ sym e
diagram_from (suc k) m n q d o r =
    let half : (b : Bool) → diagram_of k (suc m) (fix_f m b (eval d)) ≡ fix_d m b d = λ b.
    ap (diagram_of k (suc m)) (sym (fun_ext (λ v. eval_fix m n b d v o)))
    ∙ diagram_from k (suc m) n (omega arith) (fix_d m b d) (ordered_fix m n b d o) (reduced_fix m b d r) in
    ap₂ (mk_d m) (half true) (half false) ∙ mk_fix m n d o r

-- THE DIAGRAM OF A FUNCTION: an ordered reduced diagram that shows F is F's
pub diagram_of_lem : (n : ℕ) (d : Diagram) (F : Fun) → Ordered 0 n d → Reduced d → eval d ≡ F → diagram_of n 0 F ≡ d
diagram_of_lem n d F o r e = ap (diagram_of n 0) (sym e) ∙ diagram_from n 0 n (omega arith) d o r
