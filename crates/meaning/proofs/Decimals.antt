-- Decimals: their value is the number, so names of events and gates differ where their numbers do.
-- Assumes nothing.
use mathlib.Core.Path.{◌≡◌, refl, sym, ap, ◌∙◌}
use mathlib.Core.Bool.{Bool, true, false, cond}
use mathlib.Core.List.{List, [], ◌∷◌, ◌++◌}
use Prim.Native.Nat.{ℕ, zero, suc, ◌+◌, ◌-◌, ◌*◌, ◌/◌, ◌%◌, ◌<◌}
use native.Mathlib.Omega.{arith}
use lib.Dec.{ltb}
use lib.ListN.{drop}
use Rattle.paper.specs.Grammar.{value_on, value}
use Rattle.paper.specs.Exporting.{digits_of, decimal, event_name, gate_name}

-- 10 to the k
abbrev pub tens : ℕ → ℕ
tens zero = 1
tens (suc k) = 10 * tens k

value_end : (m : ℕ) (l : List ℕ) (d : ℕ) → value_on m (l ++ (d ∷ [])) ≡ 10 * value_on m l + (d - 48)
value_end m [] d = refl
value_end m (b ∷ l) d = value_end (10 * m + (b - 48)) l d

value_digits : (k n : ℕ) → n < tens k → value_on 0 (digits_of k n) ≡ n
value_digits zero n h = omega arith
value_digits (suc k) n h = go (ltb n 10) refl (value_digits k (n / 10))
  where
    go : (t : Bool) → ltb n 10 ≡ t → (n / 10 < tens k → value_on 0 (digits_of k (n / 10)) ≡ n / 10)
        → value_on 0 (cond t ((48 + n) ∷ []) (digits_of k (n / 10) ++ ((48 + n % 10) ∷ []))) ≡ n
    go true e r = let z : 10 * 0 + (48 + n - 48) ≡ n = omega arith in z
    go false e r =
        let l : n / 10 < tens k = omega arith in
        let v = r l in
        value_end 0 (digits_of k (n / 10)) (48 + n % 10) ∙ (let z : 10 * value_on 0 (digits_of k (n / 10)) + (48 + n % 10 - 48) ≡ n = omega arith in z)

-- numbers that the limits allow, and far more
abbrev pub small : ℕ
small = 100000000000000000000

pub value_decimal : (n : ℕ) → n < small → value (decimal n) ≡ n
unfolding value decimal
value_decimal n h = value_digits 20 n h

-- ---- names of gates and events

-- one more than a gate's number; 0 for an event
abbrev pub rank : List ℕ → ℕ
rank [] = 0
rank (b ∷ l) = cond (ltb b 103) 0 (suc (value l))

-- the number behind the letter
abbrev pub numeral : List ℕ → ℕ
numeral w = value (drop 1 w)

pub rank_gate : (g : ℕ) → g < small → rank (gate_name g) ≡ suc g
unfolding gate_name
rank_gate g h = ap suc (value_decimal g h)

pub rank_event : (e : ℕ) → rank (event_name e) ≡ 0
unfolding event_name
rank_event e = refl

pub numeral_event : (e : ℕ) → e < small → numeral (event_name e) ≡ e
unfolding event_name
numeral_event e h = value_decimal e h

pub numeral_gate : (g : ℕ) → g < small → numeral (gate_name g) ≡ g
unfolding gate_name
numeral_gate g h = value_decimal g h

pub gate_inj : (g h : ℕ) → g < small → h < small → gate_name g ≡ gate_name h → g ≡ h
gate_inj g h a b e = let q : suc g ≡ suc h = sym (rank_gate g a) ∙ ap rank e ∙ rank_gate h b in omega arith

pub event_inj : (e f : ℕ) → e < small → f < small → event_name e ≡ event_name f → e ≡ f
event_inj e f a b q = sym (numeral_event e a) ∙ ap numeral q ∙ numeral_event f b

pub event_no_gate : (e g : ℕ) → g < small → event_name e ≡ gate_name g → ⊥
event_no_gate e g a q = let z : 0 ≡ suc g = sym (rank_event e) ∙ ap rank q ∙ rank_gate g a in omega arith
