-- Sums over numbers that stand once among others, and over the gates of a tree.
-- Assumes nothing.
use mathlib.Core.Path.{◌≡◌, refl, sym, ap, ap₂, ◌∙◌, subst}
use mathlib.Core.Logic.{inl, inr}
use mathlib.Core.Bool.{Bool, true, false, cond, true≢false}
use mathlib.Core.List.{List, [], ◌∷◌, ◌++◌, map, append_assoc}
use Prim.Native.Nat.{ℕ, suc, ◌+◌, ◌<◌, ◌≤◌}
use native.Mathlib.Omega.{arith}
use borrow.Author.Tests.{eq-eqb, eqb-true}
use lib.Dec.{eqb}
use lib.ListN.{get_or, length, length-append}
use lib.Seq.{get_or-append_seam}
use Rattle.paper.specs.Lists.{In, Once, up_to, sum}
use Rattle.paper.specs.Trees.{Gate}
use Rattle.paper.specs.Importing.{inputs_to}
use Rattle.algebra.proofs.Lists.{map_in}
use Rattle.meaning.specs.Within.{all_inputs}
use Rattle.meaning.proofs.Less.{without, in_without}
use Rattle.meaning.proofs.Few.{below_in}
use Rattle.meaning.proofs.Retold.{no_gate}

sum_without : (f : ℕ → ℕ) (x : ℕ) (l : List ℕ) → In x l → sum (map f l) ≡ f x + sum (map f (without x l))
sum_without f x [] h = absurd h
sum_without f x (y ∷ l) h = go (eqb x y) refl h (sum_without f x l)
  where
    go : (t : Bool) → eqb x y ≡ t → In x (y ∷ l) → (In x l → sum (map f l) ≡ f x + sum (map f (without x l)))
        → f y + sum (map f l) ≡ f x + sum (map f (cond t l (y ∷ without x l)))
    go true e q r = ap (λ z. f z + sum (map f l)) (sym (eqb-true x y e))
    go false e (inl p) r = absurd (true≢false (sym (eq-eqb x y p) ∙ e))
    go false e (inr k) r = let a = r k in omega arith

pub sum_part : (f : ℕ → ℕ) (l m : List ℕ) → Once l → ((z : ℕ) → In z l → In z m) → sum (map f l) ≤ sum (map f m)
sum_part f [] m o h = omega arith
sum_part f (x ∷ l) m o h =
    let a = sum_without f x m (h x (inl refl)) in
    let b = sum_part f l (without x m) o.1 (λ z k. in_without x z m (λ e. o.0 (subst (λ y. In y l) e k)) (h z (inr k))) in
    omega arith

-- ---- a map that keeps members apart

pub once_map : (f : ℕ → ℕ) (l : List ℕ) → Once l → ((x y : ℕ) → In x l → In y l → f x ≡ f y → x ≡ y) → Once (map f l)
once_map f [] o h = tt
once_map f (x ∷ l) o h = (λ k. go (map_in f (f x) l k), once_map f l o.1 (λ y z a b. h y z (inr a) (inr b)))
  where
    go : (y : ℕ) × In y l × (f x ≡ f y) → ⊥
    go (y, k, e) = o.0 (subst (λ z. In z l) (sym (h x y (inl refl) (inr k) e)) k)

-- ---- the inputs of all gates

unfoldable pub size_of : List Gate → ℕ → ℕ
size_of xs i = length (inputs_to (get_or xs i no_gate))

sizes_from : (all before rest : List Gate) → all ≡ before ++ rest → sum (map (size_of all) (up_to (length rest) (length before))) ≡ length (all_inputs rest)
unfolding size_of
sizes_from all before [] e = refl
sizes_from all before (x ∷ rest) e =
    let here : length (inputs_to (get_or all (length before) no_gate)) ≡ length (inputs_to x) = ap (λ g. length (inputs_to g)) (ap (λ l. get_or l (length before) no_gate) e ∙ get_or-append_seam before x rest no_gate) in
    let one : length (before ++ (x ∷ [])) ≡ suc (length before) = length-append before (x ∷ []) ∙ (let z : length before + 1 ≡ suc (length before) = omega arith in z) in
    let later = subst (λ m. sum (map (size_of all) (up_to (length rest) m)) ≡ length (all_inputs rest)) one (sizes_from all (before ++ (x ∷ [])) rest (e ∙ sym (append_assoc before (x ∷ []) rest))) in
    ap₂ ◌+◌ here later ∙ sym (length-append (inputs_to x) (all_inputs rest))

pub sizes_all : (xs : List Gate) → sum (map (size_of xs) (up_to (length xs) 0)) ≡ length (all_inputs xs)
sizes_all xs = sizes_from xs [] xs refl

-- numbers of gates, each once, have together no more inputs than all gates
pub sizes_part : (xs : List Gate) (l : List ℕ) → Once l → ((g : ℕ) → In g l → g < length xs) → sum (map (size_of xs) l) ≤ length (all_inputs xs)
sizes_part xs l o h =
    let a = sum_part (size_of xs) l (up_to (length xs) 0) o (λ g k. below_in (length xs) g (h g k)) in
    let b = sizes_all xs in
    omega arith
