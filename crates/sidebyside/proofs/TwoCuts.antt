-- Two cuts that share their first members: which stands first, and the cut that follows another.
-- Assumes nothing.
use mathlib.Core.Path.{◌≡◌, refl, sym, ap, ◌∙◌, subst}
use mathlib.Core.Logic.{inl, inr}
use mathlib.Core.Bool.{Bool, true, false, cond}
use mathlib.Core.List.{List, [], ◌∷◌, ◌++◌, append_assoc}
use Prim.Native.Nat.{ℕ, suc, ◌+◌, ◌<◌}
use native.Mathlib.Numerals.{add-one}
use native.Mathlib.Omega.{arith}
use lib.Dec.{eqb, ltb}
use lib.ListN.{drop}
use borrow.Author.Tests.{eqb-true, eqb-false, ltb-true, ltb-false}
use Rattle.paper.specs.Limits.{limits}
use Rattle.paper.specs.Listing.{member_bytes, cut_bytes}
use Rattle.sidebyside.specs.Members.{Rising, RisingFrom, Lt}
use Rattle.sidebyside.specs.OneCut.{CutAt, NoCut, Ends, Ranks, Forks, Behind, Follows, Orders}
use Rattle.std.specs.declared.cmp.Ordering.{Ordering}
use Rattle.std.specs.declared.cmp.Ordering.TheVariants.{Less, Equal, Greater}
use Rattle.std.specs.Ordering.{nat_cmp}
use Rattle.sidebyside.proofs.Lt.{lt_front, lt_unfront}
use Rattle.sidebyside.proofs.Coding.{members_cut, peel}
use Rattle.sidebyside.proofs.OneCut.{rank_first, rank_end}

-- ---- THE ORDER is that of the ranks where two cuts differ

-- the first member, if there is one, is one of the events
abbrev Head : List ℕ → Type 0
Head [] = Unit {0}
Head (e ∷ es) = e < limits.events

head_low : (m : ℕ) (ps es : List ℕ) → RisingFrom m (ps ++ es) → Head es
head_low m [] [] r = tt
head_low m [] (e ∷ es) r = r.1
head_low m (p ∷ ps) es r = head_low (suc p) ps es r.2

module _ {a : List ℕ} {i : ℕ} {b : List ℕ} {j x y : ℕ} (r : Ranks a i x) (s : Ranks b j y) where
  lower : (es fs rest rest' : List ℕ) → Head es → Head fs → drop i a ≡ cut_bytes es ++ rest → drop j b ≡ cut_bytes fs ++ rest' → x < y → Lt es fs
  lower [] fs rest rest' u v p q h = let m = rank_end r rest p in let n = s.most in absurd (omega arith)
  lower (e ∷ es) [] rest rest' u v p q h = tt
  lower (e ∷ es) (f ∷ fs) rest rest' u v p q h = let m = rank_first r e es rest u p in let n = rank_first s f fs rest' v q in inl (omega arith)

  level : (es fs rest rest' : List ℕ) → Head es → Head fs → drop i a ≡ cut_bytes es ++ rest → drop j b ≡ cut_bytes fs ++ rest' → (x < limits.events → x ≡ y → ⊥) → x ≡ y → es ≡ fs
  level [] [] rest rest' u v p q d h = refl
  level [] (f ∷ fs) rest rest' u v p q d h = let m = rank_end r rest p in let n = rank_first s f fs rest' v q in absurd (omega arith)
  level (e ∷ es) [] rest rest' u v p q d h = let m = rank_first r e es rest u p in let n = rank_end s rest' q in absurd (omega arith)
  level (e ∷ es) (f ∷ fs) rest rest' u v p q d h = let m = rank_first r e es rest u p in absurd (d (omega (arith, m, u)) h)

module _ {a : List ℕ} {from : ℕ} {b : List ℕ} {start k x y : ℕ} (g : Forks a from b start k x y) where
  -- from what is behind the shared members to the whole cuts
  over : (R : List ℕ → List ℕ → Type 0) → ((es fs : List ℕ) → R es fs → R (g.members ++ es) (g.members ++ fs))
      → ((es fs rest rest' : List ℕ) → Head es → Head fs → drop (from + k) a ≡ cut_bytes es ++ rest → drop (start + k) b ≡ cut_bytes fs ++ rest' → R es fs)
      → (es fs rest rest' : List ℕ) → RisingFrom 0 es → RisingFrom 0 fs → drop from a ≡ cut_bytes es ++ rest → drop start b ≡ cut_bytes fs ++ rest' → R es fs
  over R up h es fs rest rest' re rf p q =
      let v = peel g.members es (drop (from + k) a) rest (sym g.first ∙ p) in
      let w = peel g.members fs (drop (start + k) b) rest' (sym g.second ∙ q) in
      let l = head_low 0 g.members v.others (subst (λ (z : List ℕ). RisingFrom 0 z) v.is re) in
      let m = head_low 0 g.members w.others (subst (λ (z : List ℕ). RisingFrom 0 z) w.is rf) in
      subst (λ (z : List ℕ). R z fs) (sym v.is) (subst (λ (z : List ℕ). R (g.members ++ v.others) z) (sym w.is)
      (up v.others w.others (h v.others w.others rest rest' l m v.bytes w.bytes)))

  order_first : x < y → Orders (drop from a) (drop start b) Less
  order_first h = over Lt (λ es fs l. lt_front g.members es fs l) (λ es fs rest rest' u v p q. lower g.mine g.yours es fs rest rest' u v p q h)

  order_second : y < x → Orders (drop from a) (drop start b) Greater
  order_second h = over (λ u v. Lt v u) (λ es fs l. lt_front g.members fs es l) (λ es fs rest rest' u v p q. lower g.yours g.mine fs es rest' rest v u q p h)

  order_same : x ≡ y → Orders (drop from a) (drop start b) Equal
  order_same h = over (λ u v. u ≡ v) (λ es fs l. ap (λ (z : List ℕ). g.members ++ z) l) (λ es fs rest rest' u v p q. level g.mine g.yours es fs rest rest' u v p q g.differ h)

  pub order_cmp : {o : Ordering} → o ≡ nat_cmp x y → Orders (drop from a) (drop start b) o
  order_cmp e = subst (λ (o : Ordering). Orders (drop from a) (drop start b) o) (sym e) (go (ltb x y) refl (eqb x y) refl)
    where
      go : (p : Bool) → ltb x y ≡ p → (q : Bool) → eqb x y ≡ q → Orders (drop from a) (drop start b) (cond p Less (cond q Equal Greater))
      go true p q r = order_first (ltb-true x y p)
      go false p true q = order_same (eqb-true x y q)
      go false p false q = order_second (omega (arith, ltb-false x y p, eqb-false x y q))

-- ---- the cut that follows

-- members that rise go on rising behind a lower one
rising_behind : (n m x : ℕ) (ps xs fs : List ℕ) → Rising n m (ps ++ (x ∷ xs)) → Rising n (suc x) fs → Rising n m (ps ++ fs)
rising_behind n m x [] xs [] r s = tt
rising_behind n m x [] xs (f ∷ fs) r s = let a = r.0 in let b = s.0 in (omega arith, s.1, s.2)
rising_behind n m x (p ∷ ps) xs fs r s = (r.0, r.1, rising_behind n (suc p) x ps xs fs r.2 s)

rising_above : (n m x : ℕ) (ps : List ℕ) (f : ℕ) (fs : List ℕ) → Rising n m (ps ++ (f ∷ fs)) → x < f → Rising n (suc x) (f ∷ fs)
rising_above n m x [] f fs r h = (omega arith, r.1, r.2)
rising_above n m x (p ∷ ps) f fs r h = rising_above n (suc p) x ps f fs r.2 h

module _ {s : List ℕ} {last at k low y : ℕ} (g : Forks s last s at k low y) where
  -- the cut before ends here: none that follows begins with the same members
  pub follow_none : low ≡ limits.events → Follows s last at 0
  follow_none h p rp q = record { bad = λ z. never; ends = λ z. absurd (omega arith) }
    where
      never : NoCut (Behind p) (drop at s)
      never es rest (re, lt) b =
          let v = peel g.members p (drop (last + k) s) (drop at s) (sym g.first ∙ q) in
          let w = peel g.members es (drop (at + k) s) rest (sym g.second ∙ b) in
          let l = subst (λ (z : List ℕ). Lt p z) w.is lt in
          go v.others (head_low 0 g.members v.others (subst (λ (z : List ℕ). RisingFrom 0 z) v.is rp)) v.bytes w.others
          (lt_unfront g.members v.others w.others (subst (λ (z : List ℕ). Lt z (g.members ++ w.others)) v.is l))
        where
          go : (xs : List ℕ) → Head xs → drop (last + k) s ≡ cut_bytes xs ++ drop at s → (fs : List ℕ) → Lt xs fs → ⊥
          go [] u c fs l = l
          go (x ∷ xs) u c fs l = let d = rank_first g.mine x xs (drop at s) u c in omega (arith, d, u, h)

  pub follow_some : (low ≡ limits.events → ⊥) → {e : ℕ} → Ends (RisingFrom (low + 1)) s (at + k) e → Follows s last at e
  follow_some n {e} w p rp q =
      let v = peel g.members p (drop (last + k) s) (drop at s) (sym g.first ∙ q) in
      subst (λ (z : List ℕ). Ends (Behind z) s at e) (sym v.is) (go v.others v.bytes (subst (λ (z : List ℕ). RisingFrom 0 z) v.is rp))
    where
      go : (xs : List ℕ) → drop (last + k) s ≡ cut_bytes xs ++ drop at s → RisingFrom 0 (g.members ++ xs) → Ends (Behind (g.members ++ xs)) s at e
      go [] c rx = absurd (n (rank_end g.mine (drop at s) c))
      go (x ∷ xs) c rx = record { bad = λ z. never (w.bad z); ends = λ z. on (w.ends z) }
        where
          few : x < limits.events
          few = head_low 0 g.members (x ∷ xs) rx

          up : low + 1 ≡ suc x
          up = add-one low ∙ ap suc (rank_first g.mine x xs (drop at s) few c)

          never : NoCut (RisingFrom (low + 1)) (drop (at + k) s) → NoCut (Behind (g.members ++ (x ∷ xs))) (drop at s)
          never no_cut es rest (re, lt) b =
              let t = peel g.members es (drop (at + k) s) rest (sym g.second ∙ b) in
              let l = lt_unfront g.members (x ∷ xs) t.others (subst (λ (z : List ℕ). Lt (g.members ++ (x ∷ xs)) z) t.is lt) in
              no_cut t.others rest (subst (λ (z : ℕ). RisingFrom z t.others) (sym up) (rises t.others (subst (λ (z : List ℕ). RisingFrom 0 z) t.is re) l t.bytes)) t.bytes
            where
              rises : (fs : List ℕ) → RisingFrom 0 (g.members ++ fs) → Lt (x ∷ xs) fs → drop (at + k) s ≡ cut_bytes fs ++ rest → RisingFrom (suc x) fs
              rises [] rf l b = tt
              rises (f ∷ fs) rf (inl l) b = rising_above limits.events 0 x g.members f fs rf l
              rises (f ∷ fs) rf (inr l) b =
                  let m = rank_first g.mine x xs (drop at s) few c in
                  let n = rank_first g.yours f fs rest (head_low 0 g.members (f ∷ fs) rf) b in
                  absurd (g.differ (omega (arith, m, few)) (m ∙ l.0 ∙ sym n))

          behind : (fs : List ℕ) → RisingFrom (suc x) fs → Lt (x ∷ xs) fs
          behind [] rf = tt
          behind (f ∷ fs) rf = inl rf.0

          on : CutAt (RisingFrom (low + 1)) s (at + k) e → CutAt (Behind (g.members ++ (x ∷ xs))) s at e
          on d =
              let rf = subst (λ (z : ℕ). RisingFrom z d.cut) up d.is in
              let o = d.on in
              record {
                cut = g.members ++ d.cut;
                is = (rising_behind limits.events 0 x g.members xs d.cut rx rf, lt_front g.members (x ∷ xs) d.cut (behind d.cut rf));
                bytes = g.second ∙ ap (λ (t : List ℕ). member_bytes g.members ++ t) d.bytes ∙ sym (append_assoc (member_bytes g.members) (cut_bytes d.cut) (drop e s))
                    ∙ ap (λ (t : List ℕ). t ++ drop e s) (sym (members_cut g.members d.cut));
                on = omega arith;
                inside = d.inside;
              }
