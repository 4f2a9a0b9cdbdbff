-- The inputs of a gate, put into an array one by one.
-- Assumes nothing.
use mathlib.Core.Path.{◌≡◌, refl, sym, ap, ◌∙◌, subst}
use mathlib.Core.Logic.{inl}
use mathlib.Core.Bool.{Bool, true, false}
use mathlib.Core.List.{List, [], ◌∷◌, ◌++◌, map, append-nil, append_assoc}
use Prim.Native.Nat.{ℕ, ◌+◌, ◌≤◌, ◌<◌}
use native.Mathlib.Omega.{arith}
use lib.ListN.{length, get_or, set, length-append}
use lib.Seq.{slice}
use Rattle.paper.specs.Limits.{limits}
use Rattle.paper.specs.Lists.{In}
use Rattle.paper.specs.Flat.{gates_from}
use Rattle.paper.specs.Walks.{is_event}
use Rattle.records.specs.Memory.{pad}
use Rattle.records.specs.Flattened.{code_of}
use Rattle.records.proofs.Lists.{map_length, map_append, in_second}
use Rattle.records.proofs.Pad.{pad_fill}
use Rattle.depthfirst.specs.Inputs.{inputs_of}
use Rattle.depthfirst.proofs.Lists.{slice_none, slice_next}
use Rattle.planting.specs.Orders.{input_at}
use Rattle.planting.specs.Planting.{Putable, Puts}

-- ---- the input that stands for a name

module _ (S I N : List ℕ) (y : ℕ) where
  abbrev pub code_at : ℕ
  code_at = code_of (input_at S I N y)

  pub code_event : {b : Bool} → b ≡ is_event (inputs_of S I y) → b ≡ true → get_or N y 0 ≡ code_at
  code_event told e = rw (← told, e)

  pub code_gate : {b : Bool} → b ≡ is_event (inputs_of S I y) → b ≡ false → gates_from + get_or N y 0 ≡ code_at
  code_gate told e = rw (← told, e)

-- of the inputs of x those before place p stand in the array behind the first `used`, up to u
pub record Putting (S I N : List ℕ) (x used p u : ℕ) (out₀ out : List ℕ) : Type 0 where
  pub done : List ℕ
  pub split : inputs_of S I x ≡ done ++ slice p (get_or S (x + 1) 0) I
  pub upto : u ≡ used + length done
  pub is : Puts S I N done used out₀ out

module _ {S I : List ℕ} {n : ℕ} {N : List ℕ} {x used : ℕ} (a : Putable S I n N x used) where
  pub putting_none : (out : List ℕ) {p : ℕ} → p ≡ get_or S x 0 → Putting S I N x used p used out out
  unfolding inputs_of
  putting_none out e = record { done = []; split = rw e; upto = omega arith; is = λ cs l q. q ∙ ap (pad limits.in_all 0) (sym (append-nil cs)) }

  module _ {p u e : ℕ} {out₀ out : List ℕ} (w : Putting S I N x used p u out₀ out) (to : e ≡ get_or S (x + 1) 0) where
    module _ (more : p < e) where
      pub put_inside : p < length I
      put_inside = omega (arith, a.arrays.inside x a.low)

      module _ {y : ℕ} (ey : y ≡ get_or I p 0) where
        pub put_low : y < n
        put_low = rw ey (a.arrays.named p put_inside)

        next : slice p (get_or S (x + 1) 0) I ≡ y ∷ slice (p + 1) (get_or S (x + 1) 0) I
        next = slice_next p (get_or S (x + 1) 0) I (omega arith) (a.arrays.inside x a.low) ∙ ap (λ z. z ∷ slice (p + 1) (get_or S (x + 1) 0) I) (sym ey)

        split_next : inputs_of S I x ≡ w.done ++ (y ∷ slice (p + 1) (get_or S (x + 1) 0) I)
        split_next = w.split ∙ ap (λ m. w.done ++ m) next

        pub put_small : get_or N y 0 < limits.events
        put_small = a.small y (subst (λ m. In y m) (sym split_next) (in_second y w.done (y ∷ slice (p + 1) (get_or S (x + 1) 0) I) (inl refl)))

        pub put_room : u < limits.in_all
        put_room = omega (arith, a.room, w.upto, ap length split_next, length-append w.done (y ∷ slice (p + 1) (get_or S (x + 1) 0) I))

        pub put_more : {c : ℕ} → c ≡ code_of (input_at S I N y) → Putting S I N x used (p + 1) (u + 1) out₀ (set out u c)
        put_more {c} ec =
            let f : ℕ → ℕ = λ y. code_of (input_at S I N y) in
            record {
              done = w.done ++ (y ∷ []);
              split = split_next ∙ sym (append_assoc w.done (y ∷ []) (slice (p + 1) (get_or S (x + 1) 0) I));
              upto = omega (arith, w.upto, length-append w.done (y ∷ []));
              is = λ cs l q.
                  let long : length (cs ++ map f w.done) ≡ u = omega (arith, length-append cs (map f w.done), map_length f w.done, w.upto) in
                  let same : (cs ++ map f w.done) ++ (c ∷ []) ≡ cs ++ map f (w.done ++ (y ∷ []))
                  = append_assoc cs (map f w.done) (c ∷ []) ∙ ap (λ m. cs ++ m) (ap (λ z. map f w.done ++ (z ∷ [])) ec ∙ sym (map_append f w.done (y ∷ []))) in
                  pad_fill limits.in_all 0 (cs ++ map f w.done) c (w.is cs l q) long put_room ∙ ap (pad limits.in_all 0) same;
            }

    pub put_all : e ≤ p → Puts S I N (inputs_of S I x) used out₀ out
    put_all h =
        let none : slice p (get_or S (x + 1) 0) I ≡ [] = slice_none p (get_or S (x + 1) 0) I (omega arith) in
        let all : inputs_of S I x ≡ w.done = w.split ∙ ap (λ m. w.done ++ m) none ∙ append-nil w.done in
        rw all w.is
