-- Number 5 of the last gate: which inputs are a gate's, in a book and in the arrays that hold it, and what a step past it tells.
-- Assumes nothing.
use mathlib.Core.Path.{◌≡◌, refl, sym, ap, ◌∙◌}
use mathlib.Core.Bool.{Bool, true, false, ◌&&◌}
use mathlib.Core.List.{List, ◌++◌}
use Prim.Native.Nat.{ℕ, ◌+◌, ◌-◌, ◌≤◌, ◌<◌}
use native.Mathlib.Omega.{arith}
use lib.Dec.{eqb}
use lib.ListN.{length, get_or, take, drop, length-take, length-drop, take-append-drop, get_or-append}
use lib.Seq.{take-append-le, drop-append-le}
use borrow.Author.Tests.{eqb-true, eqb-false, eq-eqb, ne_eqb}
use Rattle.std.specs.Prelude.{Result, Ok, Err}
use Rattle.paper.specs.Lists.{sum}
use Rattle.twins.specs.Distinct.{distinct_codes}
use Rattle.twins.proofs.Firsts.{firsts_length}
use Rattle.rules.specs.Rules.{wrong_k}
use Rattle.rules.specs.declared.Refusal.{Refusal}
use Rattle.rules.specs.declared.Refusal.TheVariants.{Threshold}
use Rattle.rules.specs.declared.judge.State.{State}
use Rattle.rules.specs.declared.judge.Step.{Step}
use Rattle.rules.specs.declared.judge.Step.TheVariants.{AddEvent, AddGate, AddInput, Close}
use Rattle.rules.proofs.Cases.{if_elim, either}
use Rattle.records.specs.Thresholds.{inputs_at, distinct_at, wrong_at, starved_by}
use Rattle.records.specs.Inner.{Counted}
use Rattle.records.specs.Judge.{Book, counts, add_input, starved, last_place, threshold_step}
use Rattle.records.proofs.Sums.{sum_next, sum_last}

-- ---- a gate's inputs are its own, whatever follows

pub inputs_more : (sizes inputs more : List ℕ) (g : ℕ) → sum (take g sizes) + get_or sizes g 0 ≤ length inputs → inputs_at sizes (inputs ++ more) g ≡ inputs_at sizes inputs g
inputs_more sizes inputs more g h =
    let from : ℕ = sum (take g sizes) in
    let n : ℕ = get_or sizes g 0 in
    ap (take n) (drop-append-le from inputs more (omega arith)) ∙ take-append-le n (drop from inputs) more (omega (arith, length-drop from inputs))

pub sizes_more : (sizes more inputs : List ℕ) (g : ℕ) → g < length sizes → inputs_at (sizes ++ more) inputs g ≡ inputs_at sizes inputs g
sizes_more sizes more inputs g h = rw (get_or-append sizes more 0 g h, take-append-le g sizes more (omega arith))

-- no more of them are distinct than there are
pub distinct_few : (sizes inputs : List ℕ) (g : ℕ) → distinct_at sizes inputs g ≤ get_or sizes g 0
distinct_few sizes inputs g =
    let n : ℕ = get_or sizes g 0 in
    let from : List ℕ = drop (sum (take g sizes)) inputs in
    omega (arith, firsts_length eqb (take n from), length-take n from)

-- ---- the last gate

module _ (kinds leasts sizes inputs : List ℕ) (s : State) where
  pub not_yet : 0 < s.left → starved_by kinds leasts sizes inputs s ≡ false
  unfolding starved_by
  not_yet h = rw (ne_eqb s.left 0 (λ z. omega arith))

  pub by_last : s.left ≡ 0 → starved_by kinds leasts sizes inputs s ≡ wrong_at kinds leasts sizes inputs (s.gates - 1)
  unfolding starved_by
  by_last h = rw (eq-eqb s.left 0 h)

  -- and, or have no k
  pub plain_last : (get_or kinds (s.gates - 1) 0 ≡ 4 → ⊥) → starved_by kinds leasts sizes inputs s ≡ false
  unfolding starved_by
  plain_last h = rw (ne_eqb (get_or kinds (s.gates - 1) 0) 4 h) (go (eqb s.left 0))
    where
      go : (b : Bool) → (b && false) ≡ false
      go true = refl
      go false = refl

-- its inputs are the last of those so far
module _ {sizes : List ℕ} {s : State} (h : Counted sizes s) (none : s.left ≤ 0) where
  abbrev size : ℕ
  size = get_or sizes (s.gates - 1) 0

  up_to_last : sum (take (s.gates - 1) sizes) + size ≡ s.inputs
  up_to_last =
      let all : s.gates - 1 + 1 ≡ s.gates = omega (arith, h.some) in
      sym (sum_next sizes (s.gates - 1)) ∙ ap (λ (n : ℕ). sum (take n sizes)) all ∙ omega (arith, h.wanted)

  pub last_there : size ≤ s.inputs
  last_there = omega (arith, up_to_last)

  pub found_last : (kinds leasts inputs : List ℕ) {n : ℕ} → n ≡ length (distinct_codes (take (s.inputs - (s.inputs - size)) (drop (s.inputs - size) inputs)))
      → {r : Bool} → r ≡ wrong_k (get_or kinds (s.gates - 1) 0) (get_or leasts (s.gates - 1) 0) n → r ≡ starved_by kinds leasts sizes inputs s
  found_last kinds leasts inputs e q =
      let long : s.inputs - (s.inputs - size) ≡ size = omega (arith, last_there) in
      let from : s.inputs - size ≡ sum (take (s.gates - 1) sizes) = omega (arith, up_to_last) in
      q ∙ (rw (e, long, from)) ∙ sym (by_last kinds leasts sizes inputs s (omega arith))

-- of and, or no k is asked
wrong_same : (kind k k' n : ℕ) → (kind ≡ 4 → k ≡ k') → wrong_k kind k n ≡ wrong_k kind k' n
wrong_same kind k k' n h = either (eqb kind 4) (λ e. ap (λ (x : ℕ). wrong_k kind x n) (h (eqb-true kind 4 e))) (λ e. rw e)

-- these arrays tell of the last gate what b does
pub record LastTold (b : Book) (ks ls ns is : List ℕ) : Type 0 where
  pub kind : get_or ks (length b.sizes - 1) 0 ≡ get_or b.kinds (length b.sizes - 1) 0
  pub least : get_or b.kinds (length b.sizes - 1) 0 ≡ 4 → get_or ls (length b.sizes - 1) 0 ≡ get_or b.leasts (length b.sizes - 1) 0
  pub sizes : take (length b.sizes) ns ≡ b.sizes
  pub inputs : take (length b.inputs) is ≡ b.inputs

module _ {b : Book} {kinds leasts sizes inputs : List ℕ} (told : LastTold b kinds leasts sizes inputs)
    (some : 1 ≤ length b.sizes) (wanted : sum b.sizes ≡ length b.inputs + b.left)
  where
    abbrev g : ℕ
    g = length b.sizes - 1

    split_sizes : sizes ≡ b.sizes ++ drop (length b.sizes) sizes
    split_sizes = sym (take-append-drop (length b.sizes) sizes) ∙ ap (λ l. l ++ drop (length b.sizes) sizes) told.sizes

    split_inputs : inputs ≡ b.inputs ++ drop (length b.inputs) inputs
    split_inputs = sym (take-append-drop (length b.inputs) inputs) ∙ ap (λ l. l ++ drop (length b.inputs) inputs) told.inputs

    same_inputs : b.left ≡ 0 → inputs_at sizes inputs g ≡ inputs_at b.sizes b.inputs g
    same_inputs none =
        ap (λ l. inputs_at l inputs g) split_sizes
        ∙ sizes_more b.sizes (drop (length b.sizes) sizes) inputs g (omega arith)
        ∙ ap (λ l. inputs_at b.sizes l g) split_inputs
        ∙ inputs_more b.sizes b.inputs (drop (length b.inputs) inputs) g (omega (arith, sum_last b.sizes some))

    -- what is found in the arrays is found in the book
    pub told_starved : starved_by kinds leasts sizes inputs (counts b) ≡ starved b
    told_starved =
        either (eqb b.left 0)
        (λ e.
        let none : b.left ≡ 0 = eqb-true b.left 0 e in
        let wrong : wrong_at kinds leasts sizes inputs g ≡ wrong_at b.kinds b.leasts b.sizes b.inputs g
        = rw (told.kind, same_inputs none) (wrong_same (get_or b.kinds g 0) (get_or leasts g 0) (get_or b.leasts g 0) _ told.least) in
        by_last kinds leasts sizes inputs (counts b) none ∙ wrong ∙ sym (by_last b.kinds b.leasts b.sizes b.inputs (counts b) none))
        (λ e.
        let yet : 0 < b.left = omega (arith, eqb-false b.left 0 e) in
        not_yet kinds leasts sizes inputs (counts b) yet ∙ sym (not_yet b.kinds b.leasts b.sizes b.inputs (counts b) yet))

-- ---- a step, with number 5 judged

-- what holds of a step, and of a refusal with 5, holds then
pub threshold_elim : (b : Book) (P : Result Step Refusal → Type 0) → ((p : ℕ) → P (Err (Threshold p))) → (x : Result Step Refusal) → P x → P (threshold_step b x)
threshold_elim b P five (Ok (AddEvent c site sited next)) h = h
threshold_elim b P five (Ok (AddGate kind k n next)) h = h
threshold_elim b P five (Ok (AddInput i next)) h = if_elim P (starved (add_input b i next)) (λ _. five (last_place b)) (λ _. h)
threshold_elim b P five (Ok Close) h = h
threshold_elim b P five (Err a) h = h

-- an input that is taken leaves its gate with a right k, or with inputs to come
pub threshold_fed : (b : Book) (x : Result Step Refusal) {i next : ℕ} → threshold_step b x ≡ Ok (AddInput i next) → starved (add_input b i next) ≡ false
threshold_fed b (Ok (AddEvent c site sited m)) e = let z : ◌≡◌ {A = ℕ} 0 1 = cc in absurd (omega arith)
threshold_fed b (Ok (AddGate kind k n m)) e = let z : ◌≡◌ {A = ℕ} 0 1 = cc in absurd (omega arith)
threshold_fed b (Ok (AddInput j m)) {i} {next} e = go (starved (add_input b j m)) refl
  where
    go : (t : Bool) → starved (add_input b j m) ≡ t → starved (add_input b i next) ≡ false
    go true q = let d : Err (Threshold (last_place b)) ≡ Ok (AddInput i next) = rw q at e in let z : ◌≡◌ {A = ℕ} 0 1 = cc in absurd (omega arith)
    go false q =
        let d : Ok (AddInput j m) ≡ Ok (AddInput i next) = rw q at e in
        let a : i ≡ j = cc in
        let n : next ≡ m = cc in
        rw (a, n) q
threshold_fed b (Ok Close) e = let z : ◌≡◌ {A = ℕ} 0 1 = cc in absurd (omega arith)
threshold_fed b (Err a) e = let z : ◌≡◌ {A = ℕ} 0 1 = cc in absurd (omega arith)
