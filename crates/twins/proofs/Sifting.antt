-- The search for the distinct ones.
-- Assumes nothing.
use mathlib.Core.Path.{◌≡◌, refl, sym, ap, ap₂, ◌∙◌, subst}
use mathlib.Core.Bool.{Bool, true, false, cond, ◌||◌}
use mathlib.Core.List.{List, [], ◌∷◌, ◌++◌}
use Prim.Native.Nat.{ℕ, ◌+◌, ◌≤◌, ◌<◌}
use native.Mathlib.Omega.{arith}
use native.Mathlib.Numerals.{add-one}
use lib.ListN.{length, take, get_or, set, length-set}
use lib.Seq.{take-suc, take_all, length-take-le, take-set-le, get_or-set_same}
use lib.Dec.{eqb}
use Rattle.std.specs.List.{list_any}
use Rattle.paper.specs.Limits.{limits}
use Rattle.twins.specs.Distinct.{stands_in, distinct_codes, Distinct}
use Rattle.twins.proofs.Firsts.{firsts_length, firsts_end}

-- the library's search
stands_is : {A : Type 0} (same : A → A → Bool) (y : A) (xs : List A) → stands_in same y xs ≡ list_any (λ x. same x y) xs
stands_is same y [] = refl
stands_is same y (x ∷ xs) = ap (λ r. same x y || r) (stands_is same y xs)

-- ---- the distinct ones of the first i

pub record Sifting (codes out : List ℕ) (i n : ℕ) : Type 0 where
  pub high : i ≤ length codes
  pub sifted : Distinct (take i codes) out n

pub sifting_start : (codes out : List ℕ) → length out ≡ limits.inputs → Sifting codes out 0 0
sifting_start codes out l = record { high = omega arith; sifted = record { count = refl; front = refl; long = l } }

module _ {codes out : List ℕ} {i n : ℕ} (s : Sifting codes out i n) where
  -- no more than were looked at
  pub sifting_few : n ≤ i
  sifting_few =
      let q = firsts_length eqb (take i codes) in
      let r = length-take-le i codes s.high in
      let c = s.sifted.count in
      omega arith

  pub sifting_done : length codes ≤ i → Distinct codes out n
  sifting_done h = subst (λ l. Distinct l out n) (take_all i codes h) s.sifted

  module _ (h : i < length codes) where
    next : distinct_codes (take (i + 1) codes) ≡ cond (stands_in eqb (get_or codes i 0) (take i codes)) (distinct_codes (take i codes)) (distinct_codes (take i codes) ++ (get_or codes i 0 ∷ []))
    next = rw (add-one i, take-suc codes i 0 h) (firsts_end eqb (take i codes) (get_or codes i 0))

    module _ (e : list_any (λ x. eqb x (get_or codes i 0)) (take i codes) ≡ true) where
      same : distinct_codes (take (i + 1) codes) ≡ distinct_codes (take i codes)
      same = rw next (rw (stands_is eqb (get_or codes i 0) (take i codes), e))

      pub sifting_twin : {out' : List ℕ} {n' : ℕ} → out' ≡ out → n' ≡ n → Sifting codes out' (i + 1) n'
      sifting_twin {out'} {n'} eo en = record {
        high = omega arith;
        sifted = record {
          count = en ∙ s.sifted.count ∙ ap length (sym same);
          front = ap₂ take en eo ∙ s.sifted.front ∙ sym same;
          long = ap length eo ∙ s.sifted.long;
        };
      }

    module _ (e : list_any (λ x. eqb x (get_or codes i 0)) (take i codes) ≡ false) where
      more : distinct_codes (take (i + 1) codes) ≡ distinct_codes (take i codes) ++ (get_or codes i 0 ∷ [])
      more = rw next (rw (stands_is eqb (get_or codes i 0) (take i codes), e))

      longer : (l : List ℕ) (y : ℕ) → length (l ++ (y ∷ [])) ≡ length l + 1
      longer [] y = refl
      longer (x ∷ l) y = let q = longer l y in omega arith

      pub sifting_new : length codes ≤ limits.inputs → {out' : List ℕ} {n' : ℕ} → out' ≡ set out n (get_or codes i 0) → n' ≡ n + 1 → Sifting codes out' (i + 1) n'
      sifting_new few {out'} {n'} eo en =
          let room : n < length out = let l = s.sifted.long in let q = sifting_few in omega arith in
          let set_room : n < length (set out n (get_or codes i 0)) = rw (length-set out n (get_or codes i 0)) room in
          record {
            high = omega arith;
            sifted = record {
              count = en ∙ ap (◌+ 1) s.sifted.count ∙ sym (longer (distinct_codes (take i codes)) (get_or codes i 0)) ∙ ap length (sym more);
              front = ap₂ take (en ∙ add-one n) eo ∙ take-suc (set out n (get_or codes i 0)) n 0 set_room
                  ∙ ap₂ (λ l y. l ++ (y ∷ [])) (take-set-le n out n (get_or codes i 0) (omega arith) ∙ s.sifted.front) (get_or-set_same out n (get_or codes i 0) 0 room)
                  ∙ sym more;
              long = ap length eo ∙ length-set out n (get_or codes i 0) ∙ s.sifted.long;
            };
          }
