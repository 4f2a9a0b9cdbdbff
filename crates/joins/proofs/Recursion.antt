-- The recursion: the failed halves, then the sound halves, then the node over both.
-- Assumes nothing.
use mathlib.Core.Path.{◌≡◌, refl, sym, ap₂, ◌∙◌, subst}
use mathlib.Core.List.{List}
use Rattle.std.specs.Prelude.{Result, Ok, Err}
use Prim.Native.Nat.{ℕ, ◌+◌, ◌-◌, ◌<◌, min, max}
use native.Mathlib.Omega.{arith}
use Rattle.paper.specs.Lists.{In}
use Rattle.paper.specs.Diagrams.{Diagram, Reduced, mk_d}
use Rattle.algebra.specs.Operations.{join_d, subs}
use Rattle.algebra.proofs.Base.{reduced_mk}
use Rattle.algebra.proofs.Subs.{mk_subs}
use Rattle.tables.specs.Table.{den}
use Rattle.tables.specs.Stored.{Lower}
use Rattle.store.specs.Store.{Grown}
use Rattle.store.specs.Building.{Is, Part, Found, Step, Stops, Finished, Finishes}
use Rattle.store.specs.Memo.{Memo}
use Rattle.store.specs.declared.Built.{Built}
use Rattle.store.specs.declared.Full.{Full}
use Rattle.store.proofs.Denotes.{den_grown}
use Rattle.store.proofs.Building.{makes_here, step_more, stops_more, step_seq, stops_seq, still, tidy_step, is_part, part_trans}
use Rattle.store.proofs.Memory.{memo_keep, memo_map}
use Rattle.pairs.specs.Pairs.{bit, Right, Parted, Answers}
use Rattle.store.specs.declared.Parts.{Parts}
use Rattle.pairs.proofs.Apart.{join_arranged}
use Rattle.joins.specs.Joins.{Ready, Joined, Joins}

-- what the memo keeps stays right
pub right_grown : {T T' : List ℕ} {c c' : ℕ} → Lower T c → Grown T c T' c' → (op f g r : ℕ) → Right T c op f g r → Right T' c' op f g r
right_grown w k op f g r x = let m = k.more in record {
  op_low = x.op_low;
  op_high = x.op_high;
  f_in = omega (arith, x.f_in);
  g_in = omega (arith, x.g_in);
  found = record {
    within = omega (arith, x.found.within);
    is = den_grown w k r x.found.within ∙ x.found.is ∙ sym (ap₂ (join_d (bit (op - 1))) (den_grown w k f x.f_in) (den_grown w k g x.g_in));
  };
}

pub memo_grown : {T T' M : List ℕ} {c c' : ℕ} → Lower T c → Grown T c T' c' → Memo (Right T c) M → Memo (Right T' c') M
memo_grown w k m = memo_map (right_grown w k) m

-- a known answer adds nothing
pub known : {T H X M : List ℕ} {c z f g r : ℕ} → Ready T H X M c z f g → Answers M z f g r → Joined T M c (join_d (bit z) (den T f) (den T g)) T H X M c r
known {T} {H} {X} {M} {c} rd a = record {
  makes = makes_here rd.store (a.right T c rd.tidy rd.memo rd.f_in rd.g_in);
  tidy = rd.tidy;
  memo = rd.memo;
  long = refl;
}

-- the same, said of what two ways of the code have come to
pub joined_is : {T M : List ℕ} {c : ℕ} {D : Diagram} {T₁ H₁ X₁ M₁ T₂ H₂ X₂ M₂ : List ℕ} {b₁ b₂ : Built} → T₂ ≡ T₁ → H₂ ≡ H₁ → X₂ ≡ X₁ → M₂ ≡ M₁ → b₂ ≡ b₁
    → Joined T M c D T₁ H₁ X₁ M₁ b₁.count b₁.node → Joined T M c D T₂ H₂ X₂ M₂ b₂.count b₂.node
joined_is t h x m b j = rw (t, h, x, m, b) j

module _ {T H X M : List ℕ} {c z f g : ℕ} {p : Parts} (rd : Ready T H X M c z f g) (pt : Parted T f g p) where
  -- the whole and its two halves
  abbrev whole : Diagram
  whole = join_d (bit z) (den T f) (den T g)

  abbrev pub half_1 : Diagram
  half_1 = join_d (bit z) (den T p.f1) (den T p.g1)

  abbrev half_0 : Diagram
  half_0 = join_d (bit z) (den T p.f0) (den T p.g0)

  inside_1 : In half_1 (subs whole)
  inside_1 = rw (pt.joins (bit z)) (mk_subs p.e half_1 half_0).0

  inside_0 : In half_0 (subs whole)
  inside_0 = rw (pt.joins (bit z)) (mk_subs p.e half_1 half_0).1

  pub ready_1 : Ready T H X M c z p.f1 p.g1
  ready_1 = let a = pt.in_1 in let b = pt.order_1 in let x = rd.f_in in let y = rd.g_in in record {
    store = rd.store;
    tidy = rd.tidy;
    memo = rd.memo;
    z_bit = rd.z_bit;
    f_in = omega arith;
    g_in = omega arith;
  }

  -- a full table in the first half
  pub short_1 : {T₁ H₁ X₁ : List ℕ} {c₁ : ℕ} → Stops (Part half_1) T c T₁ H₁ X₁ c₁ → Stops (Part whole) T c T₁ H₁ X₁ c₁
  short_1 x = stops_more (part_trans inside_1) x

  module _ {T₁ H₁ X₁ M₁ : List ℕ} {c₁ r₁ : ℕ} (a : Joined T M c half_1 T₁ H₁ X₁ M₁ c₁ r₁) where
    step_1 : Step (Part whole) T c T₁ H₁ X₁ c₁
    step_1 = step_more (part_trans inside_1) a.makes.step

    pub ready_0 : Ready T₁ H₁ X₁ M₁ c₁ z p.f0 p.g0
    ready_0 = let u = pt.in_0 in let v = pt.order_0 in let x = rd.f_in in let y = rd.g_in in let w = a.makes.step.grown.more in record {
      store = a.makes.step.store;
      tidy = a.tidy;
      memo = a.memo;
      z_bit = rd.z_bit;
      f_in = omega arith;
      g_in = omega arith;
    }

    -- the second half, said of the table as it is now
    abbrev pub half_now : Diagram
    half_now = join_d (bit z) (den T₁ p.f0) (den T₁ p.g0)

    now_is : half_now ≡ half_0
    now_is =
        let u = pt.in_0 in let v = pt.order_0 in let x = rd.f_in in let y = rd.g_in in
        ap₂ (join_d (bit z)) (den_grown rd.store.lower a.makes.step.grown p.f0 (omega arith)) (den_grown rd.store.lower a.makes.step.grown p.g0 (omega arith))

    inside_now : In half_now (subs whole)
    inside_now = subst (λ d. In d (subs whole)) (sym now_is) inside_0

    -- a full table in the second half
    pub short_0 : {T₂ H₂ X₂ : List ℕ} {c₂ : ℕ} → Stops (Part half_now) T₁ c₁ T₂ H₂ X₂ c₂ → Stops (Part whole) T c T₂ H₂ X₂ c₂
    short_0 x = stops_seq step_1 (stops_more (part_trans inside_now) x)

    module _ {T₂ H₂ X₂ M₂ : List ℕ} {c₂ r₀ : ℕ} (b : Joined T₁ M₁ c₁ half_now T₂ H₂ X₂ M₂ c₂ r₀) where
      step_2 : Step (Part whole) T c T₂ H₂ X₂ c₂
      step_2 = step_seq step_1 (step_more (part_trans inside_now) b.makes.step)

      found_1 : Found T₂ c₂ half_1 r₁
      found_1 = still a.makes b.makes.step

      pub in_1 : r₁ < c₂ + 2
      in_1 = found_1.within

      pub in_0 : r₀ < c₂ + 2
      in_0 = b.makes.found.within

      abbrev last : Diagram
      last = mk_d p.e (den T₂ r₁) (den T₂ r₀)

      last_is : last ≡ whole
      last_is = ap₂ (mk_d p.e) found_1.is (b.makes.found.is ∙ now_is) ∙ sym (pt.joins (bit z))

      last_part : (E : Diagram) → Is last E → Part whole E
      last_part E q = is_part E (record { is = q.is ∙ last_is; node = q.node })

      last_reduced : (E : Diagram) → Is last E → Reduced E
      last_reduced E q = subst Reduced (sym q.is) (reduced_mk p.e (den T₂ r₁) (den T₂ r₀) (b.tidy.reduced r₁ in_1) (b.tidy.reduced r₀ in_0))

      short_2 : {T₃ H₃ X₃ : List ℕ} {c₃ : ℕ} → Stops (Is last) T₂ c₂ T₃ H₃ X₃ c₃ → Stops (Part whole) T c T₃ H₃ X₃ c₃
      short_2 s = stops_seq step_2 (stops_more last_part s)

      done : {T₃ H₃ X₃ M₃ : List ℕ} {c₃ r : ℕ} → Finished T₂ M₂ c₂ last (z + 1) f g T₃ H₃ X₃ M₃ c₃ r → Joined T M c whole T₃ H₃ X₃ M₃ c₃ r
      done {T₃} {H₃} {X₃} {M₃} {c₃} {r} k =
          let s = step_seq step_2 (step_more last_part k.makes.step) in
          let found : Found T₃ c₃ whole r = record { within = k.makes.found.within; is = k.makes.found.is ∙ last_is } in
          let low = rd.store.lower in
          let m = s.grown.more in
          let q : z ≡ z + 1 - 1 = omega arith in
          let right : Right T₃ c₃ (z + 1) f g r = record {
            op_low = omega arith;
            op_high = omega (arith, rd.z_bit);
            f_in = omega (arith, rd.f_in);
            g_in = omega (arith, rd.g_in);
            found = subst (λ i. Found T₃ c₃ (join_d (bit i) (den T₃ f) (den T₃ g)) r) q (record {
              within = found.within;
              is = found.is ∙ sym (ap₂ (join_d (bit z)) (den_grown low s.grown f rd.f_in) (den_grown low s.grown g rd.g_in));
            });
          } in
          record {
            makes = record { step = s; found = found };
            tidy = tidy_step b.makes.step.store b.tidy last_reduced k.makes.step;
            memo = memo_keep (memo_grown b.makes.step.store.lower k.makes.step.grown b.memo) right k.keeps;
            long = k.keeps.long ∙ b.long ∙ a.long;
          }

      pub all : (T₃ H₃ X₃ M₃ : List ℕ) (r : Result Built Full) → Finishes T₂ M₂ c₂ last (z + 1) f g T₃ H₃ X₃ M₃ r → Joins T M c whole T₃ H₃ X₃ M₃ r
      all T₃ H₃ X₃ M₃ (Ok r) k = done k
      all T₃ H₃ X₃ M₃ (Err x) k = short_2 k

-- ---- the operands in the order of their numbers

module _ {T H X M : List ℕ} {c z x y f g : ℕ} (rd : Ready T H X M c z x y) (low : f ≡ min x y) (high : g ≡ max x y) where
  pub ready_arranged : Ready T H X M c z f g
  ready_arranged = let a = rd.f_in in let b = rd.g_in in record {
    store = rd.store;
    tidy = rd.tidy;
    memo = rd.memo;
    z_bit = rd.z_bit;
    f_in = omega arith;
    g_in = omega arith;
  }

  pub joins_arranged : (T' H' X' M' : List ℕ) (r : Result Built Full) → Joins T M c (join_d (bit z) (den T f) (den T g)) T' H' X' M' r → Joins T M c (join_d (bit z) (den T x) (den T y)) T' H' X' M' r
  joins_arranged T' H' X' M' r j = subst (λ D. Joins T M c D T' H' X' M' r) (join_arranged T (bit z) x y f g low high) j
