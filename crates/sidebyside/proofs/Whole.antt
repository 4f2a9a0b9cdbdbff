-- A whole cut, read without judging it, and what two cuts share.
-- Assumes nothing.
use mathlib.Core.Path.{◌≡◌, sym, ap, ◌∙◌, subst}
use mathlib.Core.List.{List, [], ◌∷◌, ◌++◌}
use Prim.Native.Nat.{ℕ, suc, ◌+◌, ◌-◌, ◌*◌, ◌≤◌, ◌<◌}
use native.Mathlib.Omega.{arith}
use lib.ListN.{length, get_or, drop, length-drop}
use Rattle.paper.specs.Limits.{limits}
use Rattle.paper.specs.Listing.{member_bytes, cut_bytes}
use Rattle.paper.proofs.Listing.{no_bytes}
use Rattle.sidebyside.specs.Members.{RisingFrom}
use Rattle.sidebyside.specs.OneCut.{RisesAt, Whole, MemberAt, Ranks, Forks}
use Rattle.sidebyside.proofs.Coding.{end_first, wide_three, member_some, wide_from_lem, member_front, members_more, cut_some}
use Rattle.sidebyside.proofs.OneCut.{front, member_room, is_number, rank_wide, rank_end, rank_behind}

pub whole_rises : {s : List ℕ} {i r : ℕ} → RisesAt s i r → Whole s i
whole_rises {s} {i} {r} c = record { cut = c.cut; rest = drop r s; low = 0; is = c.is; bytes = c.bytes }

module _ {s : List ℕ} {i : ℕ} (v : Whole s i) where
  pub whole_in : i < length s
  whole_in = let a = cut_some v.cut v.rest in let b = ap length v.bytes in let c = length-drop i s in omega (arith, a, b, c)

  -- what is not the cut's end is a member, and events are below the limit
  some : {A : Type 0} → (get_or s i 0 ≡ 0x22 → ⊥) → ((e : ℕ) (t : List ℕ) → e < limits.events → drop i s ≡ member_bytes (e ∷ []) ++ t → A) → A
  some {A} n k = go v.cut v.is v.bytes
    where
      go : (c : List ℕ) → RisingFrom v.low c → drop i s ≡ cut_bytes c ++ v.rest → A
      go [] r q = absurd (n (end_first (get_or s i 0) (drop (i + 1) s) v.rest (sym (front s i whole_in) ∙ q)))
      go (e ∷ es) r q = k e (cut_bytes es ++ v.rest) r.1 (q ∙ member_front e es v.rest)

  pub narrow_room : get_or s i 0 ≡ 0x21 → i + 1 < length s
  narrow_room k = some (λ n. omega (arith, k, n)) (λ e t _ q. let a = member_room s i e t q in let b = member_some e in omega (arith, a, b))

  module _ (k : get_or s i 0 ≡ 0x23) where
    pub wide_room : 3 ≤ length s - i
    wide_room = some (λ n. omega (arith, k, n)) (λ e t _ q.
        let a = member_room s i e t q in
        let b = wide_three e (wide_from_lem (get_or s i 0) (drop (i + 1) s) e t k (sym (front s i whole_in) ∙ q)) in
        omega (arith, a, b))

    pub whole_wide : {n : ℕ} → n ≡ get_or s (i + 1) 0 + 256 * get_or s (i + 2) 0 → get_or s (i + 1) 0 < 256 → Ranks s i n
    whole_wide {n} p low = some (λ m. omega (arith, k, m)) (λ e t u q.
        let a = is_number s i whole_in k wide_room p e t q in
        let b = wide_from_lem (get_or s i 0) (drop (i + 1) s) e t k (sym (front s i whole_in) ∙ q) in
        rank_wide s i whole_in k wide_room p low (omega (arith, a, b)) (omega (arith, a, u)))

  -- behind a member
  pub whole_step : {e : ℕ} → Ranks s i e → e < limits.events → {j : ℕ} → j ≡ i + length (member_bytes (e ∷ [])) → Whole s j
  whole_step {e} g h {j} p = go v.cut v.is v.bytes
    where
      go : (c : List ℕ) → RisingFrom v.low c → drop i s ≡ cut_bytes c ++ v.rest → Whole s j
      go [] r q = let a = rank_end g v.rest q in absurd (omega (arith, a, h))
      go (f ∷ es) r q = record { cut = es; rest = v.rest; low = suc f; is = r.2; bytes = ap (λ (x : ℕ). drop x s) p ∙ (rank_behind g f es v.rest h q).1 }

-- ---- what two cuts share

-- they agree in the members of k bytes, and the first is a whole cut
pub record Sharing (a : List ℕ) (from : ℕ) (b : List ℕ) (start k : ℕ) : Type 0 where
  pub members : List ℕ
  pub first : drop from a ≡ member_bytes members ++ drop (from + k) a
  pub second : drop start b ≡ member_bytes members ++ drop (start + k) b
  pub whole : Whole a (from + k)
  pub within : start + k ≤ length b

pub share_start : {a : List ℕ} {from : ℕ} {b : List ℕ} {start : ℕ} → Whole a from → start ≤ length b → Sharing a from b start 0
share_start {a} {from} {b} {start} h l =
    let p : from ≡ from + 0 = omega arith in
    let q : start ≡ start + 0 = omega arith in
    record {
      members = [];
      first = none (drop from a) ∙ ap (λ (i : ℕ). member_bytes [] ++ drop i a) p;
      second = none (drop start b) ∙ ap (λ (i : ℕ). member_bytes [] ++ drop i b) q;
      whole = subst (λ (i : ℕ). Whole a i) p h;
      within = omega arith;
    }
  where
    none : (t : List ℕ) → t ≡ member_bytes [] ++ t
    none t = ap (λ (l : List ℕ). l ++ t) (sym no_bytes)

-- the same of two whole cuts
pub share_both : {a : List ℕ} {from : ℕ} {b : List ℕ} {start : ℕ} → Whole a from → Whole b start → Sharing a from b start 0 × Whole b (start + 0)
share_both {b = b} {start = start} h v =
    let q : start ≡ start + 0 = omega arith in
    let l = whole_in v in
    (share_start h (omega (arith, l)), subst (λ (i : ℕ). Whole b i) q v)

module _ {a : List ℕ} {from : ℕ} {b : List ℕ} {start k : ℕ} (g : Sharing a from b start k) {e f : ℕ} (r : Ranks a (from + k) e) (u : Ranks b (start + k) f) where
  -- they have no member here, or not the same
  pub share_fork : (e < limits.events → e ≡ f → ⊥) → Forks a from b start k e f
  share_fork d = record { members = g.members; first = g.first; second = g.second; mine = r; yours = u; differ = d; inside = let h = whole_in g.whole in omega (arith, h); within = g.within }

  module _ (h : e < limits.events) (same : e ≡ f) {w : ℕ} (l : w ≡ length (member_bytes (e ∷ []))) where
    share_mine : MemberAt a (from + k) e
    share_mine = r.stands h

    share_yours : MemberAt b (start + k) e
    share_yours = subst (λ (x : ℕ). MemberAt b (start + k) x) (sym same) (u.stands (subst (λ (x : ℕ). x < limits.events) same h))

    pub share_room : (k < k + w) × (from + (k + w) ≤ length a)
    share_room = let m = share_mine.inside in let n = member_some e in (omega (arith, l, n), omega (arith, l, m))

    -- the second may be whole too
    pub share_whole : Whole b (start + k) → Whole b (start + (k + w))
    share_whole v =
        let q : start + (k + w) ≡ start + k + length (member_bytes (e ∷ [])) = omega arith in
        let p : start + (k + w) ≡ start + k + length (member_bytes (f ∷ [])) = q ∙ ap (λ (x : ℕ). start + k + length (member_bytes (x ∷ []))) same in
        whole_step v u (subst (λ (x : ℕ). x < limits.events) same h) p

    -- the same member in both
    pub share_step : Sharing a from b start (k + w)
    share_step =
        let p : from + k + length (member_bytes (e ∷ [])) ≡ from + (k + w) = omega arith in
        let q : start + k + length (member_bytes (e ∷ [])) ≡ start + (k + w) = omega arith in
        let n = share_yours.inside in
        record {
          members = g.members ++ (e ∷ []);
          first = g.first ∙ ap (λ (t : List ℕ). member_bytes g.members ++ t) (share_mine.bytes ∙ ap (λ (j : ℕ). member_bytes (e ∷ []) ++ drop j a) p) ∙ sym (members_more g.members e (drop (from + (k + w)) a));
          second = g.second ∙ ap (λ (t : List ℕ). member_bytes g.members ++ t) (share_yours.bytes ∙ ap (λ (j : ℕ). member_bytes (e ∷ []) ++ drop j b) q) ∙ sym (members_more g.members e (drop (start + (k + w)) b));
          whole = whole_step g.whole r h (sym p);
          within = omega (arith, n, q);
        }
