-- The numbers that stand for a tree's inputs, changed: the tree that they are, and the loop that changes them.
-- Assumes nothing.
use mathlib.Core.Path.{◌≡◌, refl, sym, ap, ap₂, ◌∙◌, subst}
use mathlib.Core.Logic.{◌≢◌}
use mathlib.Core.Bool.{Bool, true, false, cond}
use mathlib.Core.List.{List, [], ◌∷◌, map}
use Prim.Native.Nat.{ℕ, zero, suc, ◌+◌, ◌-◌, ◌≤◌, ◌<◌}
use native.Mathlib.Omega.{arith}
use lib.Dec.{ltb, eqb}
use lib.ListN.{length, get_or, set, take, drop, length-set}
use lib.Seq.{ext_get_or, get_or-set_same, get_or-set_other}
use borrow.Author.Tests.{ltb-true, ltb-false, lt-ltb, le-ltb}
use Rattle.paper.specs.Trees.{Input, forced, and_g, or_g, least_g}
use Rattle.paper.specs.Flat.{gates_from, failed_from, sound_from, input_of, gate_of, gates_of}
use Rattle.paper.specs.Store.{State, free, failed, sound, Settings, state_of}
use Rattle.paper.specs.Forcing.{event_as, force_input, force_gate}
use Rattle.twins.proofs.Codes.{Stands, an_event, a_gate, failed_event, sound_event, stands, is_event_lem, is_failed, is_sound}
use Rattle.settings.specs.States.{states_in}
use Rattle.records.specs.declared.Tree.{Tree}
use Rattle.forcing.specs.Codes.{code_as, force_code, force_in}

module _ (s : Settings) where
  pub code_low : (code : ℕ) → code < gates_from → force_code s code ≡ code_as code (s code)
  unfolding force_code
  code_low code h = rw (lt-ltb code gates_from h)

  pub code_high : (code : ℕ) → gates_from ≤ code → force_code s code ≡ code
  unfolding force_code
  code_high code h = rw (le-ltb code gates_from h)

  as_code : (code : ℕ) → code < gates_from → (x : State) → input_of (code_as code x) ≡ event_as code x
  as_code code h free = is_event_lem code h
  as_code code h failed =
      let q : failed_from + code - failed_from ≡ code = omega arith in
      is_failed (failed_from + code) (omega arith) (omega arith) ∙ ap (λ e. forced e true) q
  as_code code h sound =
      let q : sound_from + code - sound_from ≡ code = omega arith in
      is_sound (sound_from + code) (omega arith) ∙ ap (λ e. forced e false) q

  -- THE INPUT that a changed number stands for
  code_input : (code : ℕ) → input_of (force_code s code) ≡ force_input s (input_of code)
  code_input code = go (stands code)
    where
      go : Stands code → input_of (force_code s code) ≡ force_input s (input_of code)
      go (an_event h p) = ap input_of (code_low code h) ∙ as_code code h (s code) ∙ sym (ap (force_input s) p)
      go (a_gate h l p) = ap input_of (code_high code h) ∙ p ∙ sym (ap (force_input s) p)
      go (failed_event h l p) = ap input_of (code_high code (omega arith)) ∙ p ∙ sym (ap (force_input s) p)
      go (sound_event h p) = ap input_of (code_high code (omega arith)) ∙ p ∙ sym (ap (force_input s) p)

  -- a number below those of forced events is the one that stood there
  pub code_kept : (code : ℕ) → force_code s code < failed_from → force_code s code ≡ code
  code_kept code l = go (ltb code gates_from) refl
    where
      pick : (x : State) → code_as code x < failed_from → code_as code x ≡ code
      pick free l = refl
      pick failed l = absurd (omega arith)
      pick sound l = absurd (omega arith)

      go : (b : Bool) → ltb code gates_from ≡ b → force_code s code ≡ code
      go true q = let h = ltb-true code gates_from q in code_low code h ∙ pick (s code) (subst (λ c. c < failed_from) (code_low code h) l)
      go false q = code_high code (ltb-false code gates_from q)

  -- ---- rows of numbers

  take_codes : (n : ℕ) (xs : List ℕ) → take n (map (force_code s) xs) ≡ map (force_code s) (take n xs)
  take_codes zero xs = refl
  take_codes (suc n) [] = refl
  take_codes (suc n) (x ∷ xs) = ap (force_code s x ∷◌) (take_codes n xs)

  drop_codes : (n : ℕ) (xs : List ℕ) → drop n (map (force_code s) xs) ≡ map (force_code s) (drop n xs)
  drop_codes zero xs = refl
  drop_codes (suc n) [] = refl
  drop_codes (suc n) (x ∷ xs) = drop_codes n xs

  codes_inputs : (xs : List ℕ) → map input_of (map (force_code s) xs) ≡ map (force_input s) (map input_of xs)
  codes_inputs [] = refl
  codes_inputs (x ∷ xs) = ap₂ ◌∷◌ (code_input x) (codes_inputs xs)

  gate_codes : (kind k : ℕ) (is : List Input) → gate_of kind k (map (force_input s) is) ≡ force_gate s (gate_of kind k is)
  gate_codes kind k is = go (eqb kind 2) (eqb kind 3)
    where
      go : (a b : Bool) → cond a (and_g (map (force_input s) is)) (cond b (or_g (map (force_input s) is)) (least_g k (map (force_input s) is)))
          ≡ force_gate s (cond a (and_g is) (cond b (or_g is) (least_g k is)))
      go true b = refl
      go false true = refl
      go false false = refl

  -- THE GATES of changed numbers
  pub gates_codes : (kinds leasts : List ℕ) (g : ℕ) (sizes inputs : List ℕ) → gates_of kinds leasts g sizes (map (force_code s) inputs) ≡ map (force_gate s) (gates_of kinds leasts g sizes inputs)
  unfolding gates_of
  gates_codes kinds leasts g [] inputs = refl
  gates_codes kinds leasts g (n ∷ sizes) inputs = ap₂ ◌∷◌
      (ap (λ xs. gate_of (get_or kinds g 0) (get_or leasts g 0) (map input_of xs)) (take_codes n inputs)
      ∙ ap (gate_of (get_or kinds g 0) (get_or leasts g 0)) (codes_inputs (take n inputs))
      ∙ gate_codes (get_or kinds g 0) (get_or leasts g 0) (map input_of (take n inputs)))
      (ap (gates_of kinds leasts (g + 1) sizes) (drop_codes n inputs) ∙ gates_codes kinds leasts (g + 1) sizes (drop n inputs))

  pub codes_long : (xs : List ℕ) → length (map (force_code s) xs) ≡ length xs
  codes_long [] = refl
  codes_long (x ∷ xs) = ap suc (codes_long xs)

-- ---- one number

module _ (states : List ℕ) (code : ℕ) where
  pub code_gate : gates_from ≤ code → code ≡ force_code (states_in states) code
  code_gate h = sym (code_high (states_in states) code h)

  pub code_free : code < gates_from → get_or states code 0 ≡ 0 → code ≡ force_code (states_in states) code
  code_free h e = sym (code_low (states_in states) code h ∙ ap (λ x. code_as code (state_of x)) e)

  pub code_failed : code < gates_from → get_or states code 0 ≡ 1 → failed_from + code ≡ force_code (states_in states) code
  code_failed h e = sym (code_low (states_in states) code h ∙ ap (λ x. code_as code (state_of x)) e)

  pub code_sound : code < gates_from → get_or states code 0 ≢ 0 → get_or states code 0 ≢ 1 → sound_from + code ≡ force_code (states_in states) code
  code_sound h p q = sym (code_low (states_in states) code h ∙ go (get_or states code 0) p q)
    where
      go : (x : ℕ) → x ≢ 0 → x ≢ 1 → code_as code (state_of x) ≡ sound_from + code
      go zero p q = absurd (p refl)
      go (suc zero) p q = absurd (q refl)
      go (suc (suc x)) p q = refl

-- ---- all numbers: the first i are changed

pub record Changing (s : Settings) (xs₀ xs : List ℕ) (i : ℕ) : Type 0 where
  pub long : length xs ≡ length xs₀
  pub high : i ≤ length xs
  pub made : (j : ℕ) → j < i → get_or xs j 0 ≡ force_code s (get_or xs₀ j 0)
  pub left : (j : ℕ) → i ≤ j → get_or xs j 0 ≡ get_or xs₀ j 0

pub changing_start : {s : Settings} {xs : List ℕ} → Changing s xs xs 0
changing_start = record { long = refl; high = omega arith; made = λ j l. absurd (omega arith); left = λ j l. refl }

pub changing_next : {s : Settings} {xs₀ xs : List ℕ} {i r : ℕ} → Changing s xs₀ xs i → i < length xs → r ≡ force_code s (get_or xs i 0) → Changing s xs₀ (set xs i r) (i + 1)
changing_next {s} {xs₀} {xs} {i} {r} w l e = record {
  long = length-set xs i r ∙ w.long;
  high = let q = length-set xs i r in omega arith;
  made = λ j h. go j h (ltb j i) refl;
  left = λ j h. get_or-set_other xs i j r 0 (omega arith) ∙ w.left j (omega arith);
}
  where
    go : (j : ℕ) → j < i + 1 → (b : Bool) → ltb j i ≡ b → get_or (set xs i r) j 0 ≡ force_code s (get_or xs₀ j 0)
    go j h true q = let m = ltb-true j i q in get_or-set_other xs i j r 0 (omega arith) ∙ w.made j m
    go j h false q =
        let k : i ≡ j = let m = ltb-false j i q in omega arith in
        subst (λ j. get_or (set xs i r) j 0 ≡ force_code s (get_or xs₀ j 0)) k (get_or-set_same xs i r 0 l ∙ e ∙ ap (force_code s) (w.left i (omega arith)))

pub changing_end : {s : Settings} {xs₀ xs : List ℕ} {i : ℕ} → Changing s xs₀ xs i → length xs ≤ i → xs ≡ map (force_code s) xs₀
changing_end {s} {xs₀} {xs} {i} w l = ext_get_or 0 xs (map (force_code s) xs₀) (w.long ∙ sym (codes_long s xs₀))
    (λ j h. w.made j (omega arith) ∙ sym (at xs₀ j (let q = w.long in omega arith)))
  where
    at : (ys : List ℕ) (j : ℕ) → j < length ys → get_or (map (force_code s) ys) j 0 ≡ force_code s (get_or ys j 0)
    at [] j h = absurd (omega arith)
    at (y ∷ ys) zero h = refl
    at (y ∷ ys) (suc j) h = at ys j (omega arith)

-- ---- the tree

pub force_made : (s : Settings) (t : Tree) {xs : List ℕ} → xs ≡ map (force_code s) t.inputs
    → record { events = t.events; event_count = t.event_count; sited = t.sited; kinds = t.kinds; leasts = t.leasts; sizes = t.sizes; gate_count = t.gate_count; inputs = xs } ≡ force_in s t
unfolding force_in
force_made s t e =
    ap (λ ys. record { events = t.events; event_count = t.event_count; sited = t.sited; kinds = t.kinds; leasts = t.leasts; sizes = t.sizes; gate_count = t.gate_count; inputs = ys }) e
