-- The answer in the paper's own definition: what `listed` gives of the sets after the start.
-- Assumes nothing.
use mathlib.Core.Path.{◌≡◌, refl, sym, ap, ◌∙◌, subst}
use mathlib.Core.Logic.{◌↔◌}
use mathlib.Core.Bool.{Bool, true, false, cond}
use mathlib.Core.List.{List, [], ◌∷◌, ◌++◌, append-nil}
use Prim.Native.Nat.{ℕ, ◌-◌}
use native.Mathlib.Omega.{arith}
use lib.Dec.{leb, eqb}
use lib.ListN.{length, length-append}
use borrow.Author.Tests.{lt-leb, leb-false, eq-eqb, eqb-true}
use Rattle.paper.specs.Sets.{Set}
use Rattle.paper.specs.Listing.{set_bytes, fitting, Listed, answered, listed}
use Rattle.algebra.proofs.Lists.{bool_iff}
use Rattle.tables.specs.Table.{den}
use Rattle.tables.specs.Lent.{Lent}
use Rattle.walk.specs.After.{to_list}
use Rattle.listing.specs.Answers.{GoodStart, Short, Answered}
use Rattle.listing.proofs.Join.{Part, part}

listed_short : (n size : ℕ) (l : List Set) → Short n size l → listed n size l ≡ record { number = 14; written = fitting n size l; finished = false }
unfolding listed fitting
listed_short n size [] h = elim h [ ]
listed_short n size (S ∷ l) h = rw (lt-leb (length (set_bytes n S)) size h)

listed_done : (n size : ℕ) (l : List Set) → (Short n size l → ⊥) → listed n size l ≡ record { number = 0; written = fitting n size l; finished = eqb (length (fitting n size l)) (length l) }
unfolding listed fitting
listed_done n size [] h = refl
listed_done n size (S ∷ l) h = go (fitting n (size - length (set_bytes n S)) l) (leb (length (set_bytes n S)) size) refl
  where
    go : (w : List Set) (b : Bool) → leb (length (set_bytes n S)) size ≡ b
        → answered (cond b (S ∷ w) []) (S ∷ l) ≡ record { number = 0; written = cond b (S ∷ w) []; finished = eqb (length (cond b (S ∷ w) [])) (length (S ∷ l)) }
    go w true e = refl
    go w false e = absurd (h (leb-false (length (set_bytes n S)) size e))

-- all are written exactly if none is left
all_written : (w q : List Set) (finished : Bool) → (finished ≡ true) ↔ (q ≡ []) → finished ≡ eqb (length w) (length (w ++ q))
all_written w q finished h =
    bool_iff finished (eqb (length w) (length (w ++ q)))
    (λ t. eq-eqb (length w) (length (w ++ q)) (sym (ap (λ (x : List Set). length (w ++ x)) (h.0 t) ∙ ap length (append-nil w))))
    (λ t. h.1 (none q (let e = eqb-true (length w) (length (w ++ q)) t in let a = length-append w q in omega arith)))
  where
    none : (q : List Set) → length q ≡ 0 → q ≡ []
    none [] e = refl
    none (S ∷ q) e = absurd (omega arith)

result : {a b : ℕ} {x y : Bool} {w : List Set} → a ≡ b → x ≡ y → ◌≡◌ {A = Listed} (record { number = a; written = w; finished = x }) (record { number = b; written = w; finished = y })
result {w = w} p q = λ i. record { number = p i; written = w; finished = q i }

module _ {n : ℕ} {T : List ℕ} {c root : ℕ} {begin : Bool} {ws room room' : List ℕ} {number place count used : ℕ} {last : List ℕ} {finished : Bool} where
  -- THE ANSWER after 12 and 13
  pub is_listed : Lent true n T c root → GoodStart n begin ws → Answered n T c root begin ws room room' number place count used last finished
      → listed n (length room) (to_list n (den T root) begin ws) ≡ record { number = number; written = fitting n (length room) (to_list n (den T root) begin ws); finished = finished }
  is_listed lent ok (Answered.no_diagram h x) = absurd (h lent)
  is_listed lent ok (Answered.beyond v e p x) = absurd (ok e p)
  is_listed lent ok (Answered.short v ok' s x) = listed_short n (length room) (to_list n (den T root) begin ws) s ∙ result (sym x.is) (sym x.unfinished)
  is_listed lent ok (Answered.done v ok' s x) =
      let w = fitting n (length room) (to_list n (den T root) begin ws) in
      let p : Part n (den T root) (to_list n (den T root) begin ws) w room' count used last finished = part (subst (λ (k : ℕ). Answered n T c root begin ws room room' k place count used last finished) x.is (Answered.done v ok' s x)) in
      listed_done n (length room) (to_list n (den T root) begin ws) s ∙ result (sym x.is) (sym (all_written w p.q finished p.end ∙ ap (λ (l : List Set). eqb (length w) (length l)) (sym p.whole)))
