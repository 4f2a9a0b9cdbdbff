-- The kind and the k of a gate by the line that defines it, name by name.
-- Assumes nothing.
use mathlib.Core.Path.{◌≡◌, sym, subst}
use Rattle.std.specs.Prelude.{Option, Some, None}
use mathlib.Core.List.{List, [], ◌∷◌}
use Prim.Native.Nat.{ℕ, ◌+◌, ◌<◌, ◌≤◌}
use native.Mathlib.Decide.{dec_lt}
use native.Mathlib.Omega.{arith}
use lib.ListN.{get_or, length, set}
use lib.Seq.{get_or-set_same, get_or-set_other}
use Rattle.paper.specs.Trees.{and_g, or_g, least_g}
use Rattle.paper.specs.Grammar.{Line}
use Rattle.paper.specs.Texts.{lines_of}
use Rattle.paper.specs.Equations.{name_in, line_in}
use Rattle.paper.specs.Meaning.{gate_by}
use Rattle.lines.specs.Reading.{Reads}
use Rattle.lines.specs.declared.Kind.{Kind}
use Rattle.lines.specs.declared.Kind.TheVariants.{Chance, Or, And, AtLeast}
use Rattle.scanning.specs.Judged.{ReadsOf}
use Rattle.equations.specs.Kinds.{kind_number, least_number, CappedGate, same, least, KindOf, KindsOf}

kind_read : (s : List ℕ) (L : Line) (x : List ℕ) (at : ℕ) (k : Option Kind) → Reads s L x at k → KindOf L (kind_number k) (least_number k)
kind_read s L x at None r = record { known = (omega arith, omega arith); gate = λ is. subst (λ l. CappedGate (gate_by l is) (or_g is)) (sym r) (same (or_g is)) }
kind_read s L x at (Some (Chance v)) r = record { known = (omega arith, omega arith); gate = λ is. subst (λ l. CappedGate (gate_by l is) (or_g is)) (sym r.is) (same (or_g is)) }
kind_read s L x at (Some (Or i)) r = record { known = (omega arith, omega arith); gate = λ is. subst (λ l. CappedGate (gate_by l is) (or_g is)) (sym r.is) (same (or_g is)) }
kind_read s L x at (Some (And i)) r = record { known = (omega arith, omega arith); gate = λ is. subst (λ l. CappedGate (gate_by l is) (and_g is)) (sym r.is) (same (and_g is)) }
kind_read s L x at (Some (AtLeast k i)) r = record {
  known = (omega arith, omega arith);
  gate = λ is. subst (λ l. CappedGate (gate_by l is) (least_g k is)) (sym r.joined.is) (least r.number k is r.capped);
}

abbrev line_for : List ℕ → ℕ → Line
line_for text m = line_in (name_in (lines_of text) m) (lines_of text)

-- the first n names have them
pub kinds_none : (text K L : List ℕ) → KindsOf text 0 K L
kinds_none text K L = record { each = λ n h. absurd (omega arith) }

pub kinds_next : (F : List ℕ) {text K L : List ℕ} {n stop k l : ℕ} {kind : Option Kind} → KindsOf text n K L → n < length K → n < length L → ReadsOf text F n kind stop
    → k ≡ kind_number kind → l ≡ least_number kind → KindsOf text (n + 1) (set K n k) (set L n l)
kinds_next F {text} {K} {L} {n} {stop} {k} {l} {kind} a hk hl r ek el = record { each = λ m h. go m h (dec_lt m n) }
  where
    mine : KindOf (line_for text n) (get_or (set K n k) n 0) (get_or (set L n l) n 0)
    mine =
        subst (λ z. KindOf (line_for text n) z (get_or (set L n l) n 0)) (sym (get_or-set_same K n k 0 hk))
        (subst (λ z. KindOf (line_for text n) k z) (sym (get_or-set_same L n l 0 hl))
        (subst (λ z. KindOf (line_for text n) z l) (sym ek) (subst (λ z. KindOf (line_for text n) (kind_number kind) z) (sym el) (kind_read _ (line_for text n) _ _ kind r.reads))))

    go : (m : ℕ) → m < n + 1 → Dec (m < n) → KindOf (line_for text m) (get_or (set K n k) m 0) (get_or (set L n l) m 0)
    go m h (yes q) =
        subst (λ z. KindOf (line_for text m) z (get_or (set L n l) m 0)) (sym (get_or-set_other K n m k 0 (omega arith)))
        (subst (λ z. KindOf (line_for text m) (get_or K m 0) z) (sym (get_or-set_other L n m l 0 (omega arith))) (a.each m q))
    go m h (no q) = let e : n ≡ m = omega arith in subst (λ z. KindOf (line_for text z) (get_or (set K n k) z 0) (get_or (set L n l) z 0)) e mine

pub kinds_all : {text K L : List ℕ} {n c : ℕ} → KindsOf text n K L → c ≤ n → KindsOf text c K L
kinds_all a h = record { each = λ m l. a.each m (omega arith) }
