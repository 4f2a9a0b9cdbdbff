-- One cut, record by record: what stands at a place, and a cut's end.
-- Assumes nothing.
use mathlib.Core.Path.{◌≡◌, sym, ap, ◌∙◌, subst}
use mathlib.Core.List.{List, [], ◌∷◌, ◌++◌}
use Prim.Native.Nat.{ℕ, suc, ◌+◌, ◌-◌, ◌*◌, ◌≤◌, ◌<◌}
use native.Mathlib.Decide.{dec_lt}
use native.Mathlib.Numerals.{add-one}
use native.Mathlib.Omega.{arith}
use lib.ListN.{length, get_or, drop, length-append, length-drop}
use lib.Seq.{drop-cons}
use Rattle.paper.specs.Limits.{limits, wide_from}
use Rattle.paper.specs.Listing.{member_bytes, cut_bytes}
use Rattle.paper.proofs.Listing.{by_width}
use Rattle.sidebyside.specs.Members.{RisingFrom}
use Rattle.sidebyside.specs.OneCut.{CutAt, NoCut, Ends, Ranks}
use Rattle.sidebyside.proofs.Coding.{end_bytes, end_first, narrow_two, wide_three, member_some, narrow_at, wide_at, kind_narrow, kind_wide, wide_from_lem, wide_number, member_once, member_no_end, member_front, cut_some}

pub front : (s : List ℕ) (i : ℕ) → i < length s → drop i s ≡ get_or s i 0 ∷ drop (i + 1) s
front s i h = drop-cons s i 0 h ∙ ap (λ (k : ℕ). get_or s i 0 ∷ drop k s) (sym (add-one i))

front_two : (s : List ℕ) (i : ℕ) → i + 1 < length s → drop i s ≡ get_or s i 0 ∷ get_or s (i + 1) 0 ∷ drop (i + 2) s
front_two s i h =
    let e : i + 1 + 1 ≡ i + 2 = omega arith in
    front s i (omega arith) ∙ ap (λ (l : List ℕ). get_or s i 0 ∷ l) (front s (i + 1) h ∙ ap (λ (k : ℕ). get_or s (i + 1) 0 ∷ drop k s) e)

front_three : (s : List ℕ) (i : ℕ) → i + 2 < length s → drop i s ≡ get_or s i 0 ∷ get_or s (i + 1) 0 ∷ get_or s (i + 2) 0 ∷ drop (i + 3) s
front_three s i h =
    let e : i + 2 + 1 ≡ i + 3 = omega arith in
    front_two s i (omega arith) ∙ ap (λ (l : List ℕ). get_or s i 0 ∷ get_or s (i + 1) 0 ∷ l) (front s (i + 2) h ∙ ap (λ (k : ℕ). get_or s (i + 2) 0 ∷ drop k s) e)

-- ---- WHAT STANDS AT A PLACE: beside Coding, a member's bytes are known here and in Whole alone

-- no member stands there
none_at : (s : List ℕ) (i : ℕ) {r : ℕ} → r ≡ limits.events → ((e : ℕ) (rest : List ℕ) → e < limits.events → drop i s ≡ member_bytes (e ∷ []) ++ rest → ⊥) → Ranks s i r
none_at s i {r} z n = record { most = omega arith; stands = λ h. absurd (omega arith); only = λ e rest b q. absurd (n e rest b q) }

-- the member r stands there, in so many bytes
some_at : (s : List ℕ) (i : ℕ) {r w : ℕ} → r < limits.events → length (member_bytes (r ∷ [])) ≡ w → i + w ≤ length s → drop i s ≡ member_bytes (r ∷ []) ++ drop (i + w) s → Ranks s i r
some_at s i {r} b l h q = record {
  most = omega arith;
  stands = λ _. record { bytes = q ∙ ap (λ (k : ℕ). member_bytes (r ∷ []) ++ drop (i + k) s) (sym l); inside = omega arith };
  only = λ e rest _ p. (member_once r e _ rest (sym q ∙ p)).0;
}

-- the bytes that a member takes
pub member_room : (s : List ℕ) (i e : ℕ) (rest : List ℕ) → drop i s ≡ member_bytes (e ∷ []) ++ rest → length (member_bytes (e ∷ [])) ≤ length s - i
member_room s i e rest q =
    let a = ap length q ∙ length-append (member_bytes (e ∷ [])) rest in
    let b = length-drop i s in
    omega (arith, a, b)

module _ (s : List ℕ) (i : ℕ) where
  pub rank_short : {r : ℕ} → r ≡ limits.events → length s - i < 2 → Ranks s i r
  rank_short z h = none_at s i z (λ e rest _ q. let a = member_room s i e rest q in let b = member_some e in omega (arith, a, b, h))

  pub rank_other : {r : ℕ} → r ≡ limits.events → i < length s → (get_or s i 0 ≡ 0x21 → ⊥) → (get_or s i 0 ≡ 0x23 → ⊥) → Ranks s i r
  rank_other z h n m = none_at s i z (λ e rest _ q.
      let p = sym (front s i h) ∙ q in
      by_width e (λ k. n (kind_narrow (get_or s i 0) (drop (i + 1) s) e rest k p)) (λ k. m (kind_wide (get_or s i 0) (drop (i + 1) s) e rest k p)))

  pub rank_narrow : {r : ℕ} → i + 1 < length s → get_or s i 0 ≡ 0x21 → r ≡ get_or s (i + 1) 0 → r < wide_from → Ranks s i r
  rank_narrow {r} h k p b =
      some_at s i (omega arith) (narrow_two r b) (omega arith)
      (front_two s i h ∙ ap (λ (x : ℕ). get_or s i 0 ∷ x ∷ drop (i + 2) s) (sym p) ∙ narrow_at (get_or s i 0) r (drop (i + 2) s) b k)

  module _ (h : i < length s) (k : get_or s i 0 ≡ 0x23) where
    -- the record is cut off
    pub rank_cut : {r : ℕ} → r ≡ limits.events → length s - i < 3 → Ranks s i r
    rank_cut z l = none_at s i z (λ e rest _ q.
        let a = member_room s i e rest q in
        let b = wide_three e (wide_from_lem (get_or s i 0) (drop (i + 1) s) e rest k (sym (front s i h) ∙ q)) in
        omega (arith, a, b, l))

    module _ {e : ℕ} (l : 3 ≤ length s - i) (p : e ≡ get_or s (i + 1) 0 + 256 * get_or s (i + 2) 0) where
      pub is_number : (f : ℕ) (rest : List ℕ) → drop i s ≡ member_bytes (f ∷ []) ++ rest → f ≡ e
      is_number f rest q =
          wide_number (get_or s i 0) (get_or s (i + 1) 0) (get_or s (i + 2) 0) (drop (i + 3) s) f rest k (sym (front_three s i (omega arith)) ∙ q) ∙ sym p

      -- a number that one byte could tell, or one above all
      pub rank_small : {r : ℕ} → r ≡ limits.events → e < wide_from → Ranks s i r
      rank_small z b = none_at s i z (λ f rest _ q.
          let a = wide_from_lem (get_or s i 0) (drop (i + 1) s) f rest k (sym (front s i h) ∙ q) in
          let c = is_number f rest q in
          omega (arith, a, c, b))

      pub rank_far : {r : ℕ} → r ≡ limits.events → limits.events ≤ e → Ranks s i r
      rank_far z b = none_at s i z (λ f rest u q. let c = is_number f rest q in omega (arith, c, b, u))

      pub rank_wide : get_or s (i + 1) 0 < 256 → wide_from ≤ e → e < limits.events → Ranks s i e
      rank_wide low b u =
          some_at s i u (wide_three e b) (omega arith)
          (front_three s i (omega arith) ∙ wide_at (get_or s i 0) (get_or s (i + 1) 0) (get_or s (i + 2) 0) e (drop (i + 3) s) low b k p)

-- ---- what a rank says of a cut

module _ {s : List ℕ} {i r : ℕ} (g : Ranks s i r) where
  pub rank_first : (e : ℕ) (es rest : List ℕ) → e < limits.events → drop i s ≡ cut_bytes (e ∷ es) ++ rest → r ≡ e
  rank_first e es rest b q = g.only e (cut_bytes es ++ rest) b (q ∙ member_front e es rest)

  pub rank_end : (rest : List ℕ) → drop i s ≡ cut_bytes [] ++ rest → r ≡ limits.events
  rank_end rest q = go (dec_lt r limits.events)
    where
      go : Dec (r < limits.events) → r ≡ limits.events
      go (yes h) = absurd (member_no_end r (drop (i + length (member_bytes (r ∷ []))) s) rest (sym (g.stands h).bytes ∙ q))
      go (no h) = let m = g.most in omega arith

  -- the bytes behind a member's record
  pub rank_behind : (e : ℕ) (es rest : List ℕ) → r < limits.events → drop i s ≡ cut_bytes (e ∷ es) ++ rest → (r ≡ e) × (drop (i + length (member_bytes (r ∷ []))) s ≡ cut_bytes es ++ rest)
  rank_behind e es rest h q = member_once r e (drop (i + length (member_bytes (r ∷ []))) s) (cut_bytes es ++ rest) (sym (g.stands h).bytes ∙ q ∙ member_front e es rest)

-- ---- the end of a cut

-- the same end of cuts that are as P and as Q say
pub ends_as : {P Q : List ℕ → Type 0} {s : List ℕ} {i r : ℕ} → ((es rest : List ℕ) → drop i s ≡ cut_bytes es ++ rest → P es → Q es) → ((es rest : List ℕ) → drop i s ≡ cut_bytes es ++ rest → Q es → P es)
    → Ends P s i r → Ends Q s i r
ends_as {s = s} {r = r} to back e = record {
  bad = λ z es rest q b. e.bad z es rest (back es rest b q) b;
  ends = λ z. let c = e.ends z in record { cut = c.cut; is = to c.cut (drop r s) c.bytes c.is; bytes = c.bytes; on = c.on; inside = c.inside };
}

no_cut : {Q : List ℕ → Type 0} {s : List ℕ} {i : ℕ} → NoCut Q (drop i s) → Ends Q s i 0
no_cut n = record { bad = λ z. n; ends = λ z. absurd (omega arith) }

module _ {m : ℕ} {s : List ℕ} {i e : ℕ} (g : Ranks s i e) where
  -- no byte is left
  pub ends_out : i ≡ length s → Ends (RisingFrom m) s i 0
  ends_out h = no_cut (λ es rest r q. let a = cut_some es rest in let b = ap length q in let c = length-drop i s in omega (arith, a, b, c, h))

  -- the end, or neither it nor a member
  pub ends_here : i < length s → get_or s i 0 ≡ 0x22 → Ends (RisingFrom m) s i (i + 1)
  ends_here h q = record {
    bad = λ z. absurd (omega arith);
    ends = λ z. record {
      cut = [];
      is = tt;
      bytes = front s i h ∙ ap (λ (x : ℕ). x ∷ drop (i + 1) s) q ∙ sym (end_bytes (drop (i + 1) s));
      on = omega arith;
      inside = omega arith;
    };
  }

  pub ends_other : limits.events ≤ e → i < length s → (get_or s i 0 ≡ 0x22 → ⊥) → Ends (RisingFrom m) s i 0
  ends_other z h n = no_cut go
    where
      go : NoCut (RisingFrom m) (drop i s)
      go [] rest r q = n (end_first (get_or s i 0) (drop (i + 1) s) rest (sym (front s i h) ∙ q))
      go (f ∷ es) rest r q = let a = rank_first g f es rest r.1 q in let b = r.1 in omega (arith, a, b, z)

  module _ (h : e < limits.events) where
    -- a member that is too low
    pub ends_low : e < m → Ends (RisingFrom m) s i 0
    ends_low l = no_cut go
      where
        go : NoCut (RisingFrom m) (drop i s)
        go [] rest r q = let a = rank_end g rest q in omega (arith, a, h)
        go (f ∷ es) rest r q = let a = rank_first g f es rest r.1 q in let b = r.0 in omega (arith, a, b, l)

    -- a member more
    pub ends_step : m ≤ e → {r : ℕ} → Ends (RisingFrom (e + 1)) s (i + length (member_bytes (e ∷ []))) r → Ends (RisingFrom m) s i r
    ends_step l {r} w = record { bad = λ z. go (w.bad z); ends = λ z. on (w.ends z) }
      where
        go : NoCut (RisingFrom (e + 1)) (drop (i + length (member_bytes (e ∷ []))) s) → NoCut (RisingFrom m) (drop i s)
        go n [] rest r q = let a = rank_end g rest q in omega (arith, a, h)
        go n (f ∷ es) rest r q =
            let t = rank_behind g f es rest h q in
            let p : suc f ≡ e + 1 = let a = t.0 in omega arith in
            n es rest (subst (λ (x : ℕ). RisingFrom x es) p r.2) t.1

        on : CutAt (RisingFrom (e + 1)) s (i + length (member_bytes (e ∷ []))) r → CutAt (RisingFrom m) s i r
        on c =
            let o = c.on in
            record {
              cut = e ∷ c.cut;
              is = (l, h, subst (λ (x : ℕ). RisingFrom x c.cut) (add-one e) c.is);
              bytes = (g.stands h).bytes ∙ ap (λ (t : List ℕ). member_bytes (e ∷ []) ++ t) c.bytes ∙ sym (member_front e c.cut (drop r s));
              on = omega arith;
              inside = c.inside;
            }

-- the walk along a cut's members: the one at i has this rank, and what ends the cut from there on ends it as a whole
pub record Ending (s : List ℕ) (at low i least e : ℕ) : Type 0 where
  pub inside : i ≤ length s
  pub rank : Ranks s i e
  pub ends : (r : ℕ) → Ends (RisingFrom least) s i r → Ends (RisingFrom low) s at r

pub ending_start : {s : List ℕ} {at low e : ℕ} → at ≤ length s → Ranks s at e → Ending s at low at low e
ending_start h g = record { inside = h; rank = g; ends = λ r w. w }

module _ {s : List ℕ} {at low i least e : ℕ} (g : Ending s at low i least e) where
  pub ending_out : i ≡ length s → Ends (RisingFrom low) s at 0
  ending_out h = g.ends 0 (ends_out g.rank h)

  module _ (n : i ≡ length s → ⊥) where
    left : i < length s
    left = let h = g.inside in omega arith

    pub ending_here : get_or s i 0 ≡ 0x22 → Ends (RisingFrom low) s at (i + 1)
    ending_here q = g.ends (i + 1) (ends_here g.rank left q)

    pub ending_other : limits.events ≤ e → (get_or s i 0 ≡ 0x22 → ⊥) → Ends (RisingFrom low) s at 0
    ending_other z q = g.ends 0 (ends_other g.rank z left q)

  module _ (h : e < limits.events) where
    pub ending_low : e < least → Ends (RisingFrom low) s at 0
    ending_low l = g.ends 0 (ends_low g.rank h l)

    module _ {w : ℕ} (q : w ≡ length (member_bytes (e ∷ []))) where
      pub ending_room : (i < i + w) × (i + w ≤ length s)
      ending_room = let a = (g.rank.stands h).inside in let b = member_some e in (omega (arith, q, b), omega (arith, q, a))

      pub ending_step : least ≤ e → {x : ℕ} → Ranks s (i + w) x → Ending s at low (i + w) (e + 1) x
      ending_step l r = record {
        inside = ending_room.1;
        rank = r;
        ends = λ k v. g.ends k (ends_step g.rank h l (subst (λ (j : ℕ). Ends (RisingFrom (e + 1)) s (i + j) k) q v));
      }
