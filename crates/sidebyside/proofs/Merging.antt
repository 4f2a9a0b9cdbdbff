-- The comparison of two listings, cut by cut.
-- Assumes nothing.
use mathlib.Core.Path.{◌≡◌, sym, ap, ap₂, ◌∙◌, subst}
use mathlib.Core.Logic.{◌⊎◌, inl, inr}
use mathlib.Core.Bool.{not}
use mathlib.Core.List.{List, [], ◌∷◌, ◌++◌, map, append_assoc}
use Prim.Native.Nat.{ℕ, ◌+◌, ◌≤◌, ◌<◌}
use native.Mathlib.Decide.{dec_lt}
use native.Mathlib.Omega.{arith}
use lib.ListN.{length, drop, length-map}
use Rattle.paper.specs.Limits.{limits}
use Rattle.paper.specs.Lists.{In, keep}
use Rattle.paper.specs.Sets.{Set, members}
use Rattle.paper.specs.Changes.{stands, gone, kept, Counts}
use Rattle.algebra.proofs.Lists.{keep_map}
use Rattle.sidebyside.specs.Members.{RisingFrom, Lt, Rows, Held}
use Rattle.sidebyside.specs.OneCut.{Ends, Follows, Orders}
use Rattle.sidebyside.specs.Walking.{Standing, Walked, Ahead}
use Rattle.sidebyside.specs.Merging.{has_cut, gone_of, kept_of, Adds, Merging}
use Rattle.std.specs.declared.cmp.Ordering.TheVariants.{Less, Equal, Greater}
use Rattle.sidebyside.proofs.Lt.{leads_first, leads_out, rows_split}
use Rattle.sidebyside.proofs.Telling.{good_held, held_good, held_once}
use Rattle.sidebyside.proofs.Walking.{passed_once, walk_start, walk_over, here, walk_head, walk_next}
use Rattle.sidebyside.proofs.Finding.{orders_flip}
use Rattle.sidebyside.proofs.Counting.{gone_skip, gone_more, kept_more, gone_both, kept_both, gone_none, kept_none, gone_all, kept_no, kept_flip}

-- ---- the numbers of sets are those of their cuts

module _ (k l : List Set) where
  pub gone_cuts : gone k l ≡ gone_of (map (members limits.events) k) (map (members limits.events) l)
  unfolding gone stands gone_of has_cut
  gone_cuts = sym (ap length (keep_map (members limits.events) (λ c. not (has_cut (map (members limits.events) l) c)) k) ∙ length-map (keep (λ S. not (stands l S)) k) (members limits.events))

  pub kept_cuts : kept k l ≡ kept_of (map (members limits.events) k) (map (members limits.events) l)
  unfolding kept stands kept_of has_cut
  kept_cuts = sym (ap length (keep_map (members limits.events) (has_cut (map (members limits.events) l)) k) ∙ length-map (keep (stands l) k) (members limits.events))

pub held_counts : {y t : List ℕ} {ys ts : List (List ℕ)} {a b c : ℕ} → Held y ys → Held t ts → a ≡ gone_of ys ts → b ≡ gone_of ts ys → c ≡ kept_of ys ts → Counts y t a b c
held_counts {y} {t} h k p q r =
    let g = held_good h in
    let g' = held_good k in
    let e = held_once h (good_held g) in
    let d = held_once k (good_held g') in
    record {
      good = g;
      other = g';
      are_gone = p ∙ ap₂ gone_of e d ∙ sym (gone_cuts g.sets g'.sets);
      are_new = q ∙ ap₂ gone_of d e ∙ sym (gone_cuts g'.sets g.sets);
      are_kept = r ∙ ap₂ kept_of e d ∙ sym (kept_cuts g.sets g'.sets);
    }

-- ---- one cut more

module _ (c : List ℕ) (ls ms : List (List ℕ)) {ys ts : List (List ℕ)} {gone new kept : ℕ} where
  adds_first : Adds ys ts (c ∷ ls) ms gone new kept → (In c ms → ⊥) → Adds ys ts ls ms (gone + 1) new kept
  adds_first a out =
      let p = a.goes in
      let q = a.comes in
      let r = a.stays in
      let x = gone_more ms c ls out in
      let y = gone_skip ms c ls out in
      let z = kept_more ms c ls out in
      record { goes = omega (arith, p, x); comes = omega (arith, q, y); stays = omega (arith, r, z) }

  adds_both : Adds ys ts (c ∷ ls) (c ∷ ms) gone new kept → (In c ls → ⊥) → (In c ms → ⊥) → Adds ys ts ls ms gone new (kept + 1)
  adds_both a out out' =
      let p = a.goes in
      let q = a.comes in
      let r = a.stays in
      let x = gone_both c ls ms out in
      let y = gone_both c ms ls out' in
      let z = kept_both c ls ms out in
      record { goes = omega (arith, p, x); comes = omega (arith, q, y); stays = omega (arith, r, z) }

adds_flip : (ps qs ls ms : List (List ℕ)) {gone new kept : ℕ} → Rows (ps ++ ls) → Rows (qs ++ ms) → Adds (ps ++ ls) (qs ++ ms) ls ms gone new kept
    → Adds (qs ++ ms) (ps ++ ls) ms ls new gone kept
adds_flip ps qs ls ms r q a =
    let x = kept_flip (length (ps ++ ls) + length (qs ++ ms)) (ps ++ ls) (qs ++ ms) (omega arith) r q in
    let y = kept_flip (length ls + length ms) ls ms (omega arith) (rows_split ps ls r).0 (rows_split qs ms q).0 in
    let z = a.stays in
    record { goes = a.comes; comes = a.goes; stays = omega (arith, x, y, z) }

-- ---- both listings

pub merge_start : {y t : List ℕ} {e f : ℕ} → Ends (RisingFrom 0) y 0 e → Ends (RisingFrom 0) t 0 f → Merging y t 0 e 0 f 0 0 0
merge_start p q = record {
  ps = [];
  qs = [];
  mine = walk_start p;
  yours = walk_start q;
  adds = λ ls ms h k. record { goes = omega arith; comes = omega arith; stays = omega arith };
  few = omega arith;
  small = omega arith;
}

-- one of the two has nothing left
pub adds_end : {ys ts : List (List ℕ)} (ls ms : List (List ℕ)) {gone new kept : ℕ} → Adds ys ts ls ms gone new kept → (ls ≡ []) ⊎ (ms ≡ [])
    → (gone + length ls ≡ gone_of ys ts) × (new + length ms ≡ gone_of ts ys) × (kept ≡ kept_of ys ts)
adds_end ls ms a (inl e) =
    let x : gone_of ls ms ≡ 0 = ap (λ (z : List (List ℕ)). gone_of z ms) e ∙ gone_none ms in
    let y : gone_of ms ls ≡ length ms = ap (gone_of ms) e ∙ gone_all ms in
    let z : kept_of ls ms ≡ 0 = ap (λ (z : List (List ℕ)). kept_of z ms) e ∙ kept_none ms in
    let l = ap length e in
    let p = a.goes in
    let q = a.comes in
    let r = a.stays in
    (omega (arith, x, l, p), omega (arith, y, q), omega (arith, z, r))
adds_end ls ms a (inr e) =
    let x : gone_of ls ms ≡ length ls = ap (gone_of ls) e ∙ gone_all ls in
    let y : gone_of ms ls ≡ 0 = ap (λ (z : List (List ℕ)). gone_of z ls) e ∙ gone_none ls in
    let z : kept_of ls ms ≡ 0 = ap (kept_of ls) e ∙ kept_no ls in
    let l = ap length e in
    let p = a.goes in
    let q = a.comes in
    let r = a.stays in
    (omega (arith, x, p), omega (arith, y, l, q), omega (arith, z, r))

module _ {y t : List ℕ} {i e j f gone new kept : ℕ} (g : Merging y t i e j f gone new kept) where
  pub merge_mine : Walked y i e
  merge_mine = record { cuts = g.ps; standing = g.mine }

  pub merge_yours : Walked t j f
  merge_yours = record { cuts = g.qs; standing = g.yours }

  -- at the end of one of them
  pub merge_counts : (0 < e → f ≡ 0) → {n m : ℕ} → Ahead y i n → Ahead t j m → Counts y t (gone + n) (new + m) kept
  merge_counts z {n} {m} v w =
      let k = subst (λ (x : List (List ℕ)). Held y (x ++ v.rest)) (passed_once v.passed g.mine.passed) v.held in
      let l = subst (λ (x : List (List ℕ)). Held t (x ++ w.rest)) (passed_once w.passed g.yours.passed) w.held in
      let (a, b, c) = adds_end v.rest w.rest (g.adds v.rest w.rest k l) (over (dec_lt 0 e) k l) in
      let p = v.many in
      let q = w.many in
      held_counts k l (omega (arith, a, p)) (omega (arith, b, q)) c
    where
      over : Dec (0 < e) → Held y (g.ps ++ v.rest) → Held t (g.qs ++ w.rest) → (v.rest ≡ []) ⊎ (w.rest ≡ [])
      over (yes h) k l = inr (walk_over g.yours (z h) w.rest l)
      over (no h) k l = inl (walk_over g.mine (omega arith) v.rest k)

  module _ (h : 0 < e) (k : 0 < f) where
    abbrev c : List ℕ
    c = (here g.mine h).cut

    abbrev d : List ℕ
    d = (here g.yours k).cut

    pub merge_on : (i < e) × (e ≤ length y) × (j < f) × (f ≤ length t)
    merge_on = ((here g.mine h).on, (here g.mine h).inside, (here g.yours k).on, (here g.yours k).inside)

    -- the cut passed is the first of what was left
    behind : (ls : List (List ℕ)) → g.ps ++ (c ∷ ls) ≡ (g.ps ++ (c ∷ [])) ++ ls
    behind ls = sym (append_assoc g.ps (c ∷ []) ls)

    pub merge_first : Orders (drop i y) (drop j t) Less → {r : ℕ} → Follows y i e r → Merging y t e r j f (gone + 1) new kept
    merge_first o {r} n = record {
      ps = g.ps ++ (c ∷ []);
      qs = g.qs;
      mine = walk_next g.mine h n;
      yours = g.yours;
      adds = more;
      few = let a = g.few in let b = (here g.mine h).on in omega (arith, a, b);
      small = g.small;
    }
      where
        lt : Lt c d
        lt = o c d (drop e y) (drop f t) (here g.mine h).is.0 (here g.yours k).is.0 (here g.mine h).bytes (here g.yours k).bytes

        out : (ms : List (List ℕ)) → Held t (g.qs ++ ms) → In c ms → ⊥
        out ms v =
            let (ds, q) = walk_head g.yours k ms v in
            let rows = (rows_split g.qs (d ∷ ds) (subst (λ (x : List (List ℕ)). Rows (g.qs ++ x)) q v.rows)).0 in
            subst (λ (x : List (List ℕ)). In c x → ⊥) (sym q) (leads_out c (d ∷ ds) (leads_first c d ds lt rows.0))

        more : (ls ms : List (List ℕ)) → Held y ((g.ps ++ (c ∷ [])) ++ ls) → Held t (g.qs ++ ms) → Adds ((g.ps ++ (c ∷ [])) ++ ls) (g.qs ++ ms) ls ms (gone + 1) new kept
        more ls ms u v = subst (λ (x : List (List ℕ)). Adds x (g.qs ++ ms) ls ms (gone + 1) new kept) (behind ls)
            (adds_first c ls ms (g.adds (c ∷ ls) ms (subst (λ (x : List (List ℕ)). Held y x) (sym (behind ls)) u) v) (out ms v))

    pub merge_same : Orders (drop i y) (drop j t) Equal → {r q : ℕ} → Follows y i e r → Follows t j f q → Merging y t e r f q gone new (kept + 1)
    merge_same o {r} {q} n m = record {
      ps = g.ps ++ (c ∷ []);
      qs = g.qs ++ (c ∷ []);
      mine = walk_next g.mine h n;
      yours = subst (λ (x : List ℕ). Standing t f q (g.qs ++ (x ∷ []))) (sym p) (walk_next g.yours k m);
      adds = more;
      few = let a = g.few in let b = (here g.mine h).on in omega (arith, a, b);
      small = let a = g.small in let b = (here g.yours k).on in omega (arith, a, b);
    }
      where
        p : c ≡ d
        p = o c d (drop e y) (drop f t) (here g.mine h).is.0 (here g.yours k).is.0 (here g.mine h).bytes (here g.yours k).bytes

        theirs : (ms : List (List ℕ)) → g.qs ++ (c ∷ ms) ≡ (g.qs ++ (c ∷ [])) ++ ms
        theirs ms = sym (append_assoc g.qs (c ∷ []) ms)

        more : (ls ms : List (List ℕ)) → Held y ((g.ps ++ (c ∷ [])) ++ ls) → Held t ((g.qs ++ (c ∷ [])) ++ ms)
            → Adds ((g.ps ++ (c ∷ [])) ++ ls) ((g.qs ++ (c ∷ [])) ++ ms) ls ms gone new (kept + 1)
        more ls ms u v =
            let u' = subst (λ (x : List (List ℕ)). Held y x) (sym (behind ls)) u in
            let v' = subst (λ (x : List (List ℕ)). Held t x) (sym (theirs ms)) v in
            subst (λ (x : List (List ℕ)). Adds x ((g.qs ++ (c ∷ [])) ++ ms) ls ms gone new (kept + 1)) (behind ls)
            (subst (λ (x : List (List ℕ)). Adds (g.ps ++ (c ∷ ls)) x ls ms gone new (kept + 1)) (theirs ms)
            (adds_both c ls ms (g.adds (c ∷ ls) (c ∷ ms) u' v')
            (leads_out c ls (rows_split g.ps (c ∷ ls) u'.rows).0.0) (leads_out c ms (rows_split g.qs (c ∷ ms) v'.rows).0.0)))

-- seen from the other side
merge_flip : {y t : List ℕ} {i e j f gone new kept : ℕ} → Merging y t i e j f gone new kept → Merging t y j f i e new gone kept
merge_flip {y} {t} g = record {
  ps = g.qs;
  qs = g.ps;
  mine = g.yours;
  yours = g.mine;
  adds = λ ms ls v u. adds_flip g.ps g.qs ls ms u.rows v.rows (g.adds ls ms u v);
  few = g.small;
  small = g.few;
}

pub merge_second : {y t : List ℕ} {i e j f gone new kept : ℕ} (g : Merging y t i e j f gone new kept) → 0 < e → 0 < f → Orders (drop i y) (drop j t) Greater
    → {q : ℕ} → Follows t j f q → Merging y t i e f q gone (new + 1) kept
merge_second {y} {t} {i} {j = j} g h k o m = merge_flip (merge_first (merge_flip g) k h (orders_flip (drop i y) (drop j t) o) m)
