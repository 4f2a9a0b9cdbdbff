-- A walk along a listing, cut by cut: what is passed, what stands next, and what is left.
-- Assumes nothing.
use mathlib.Core.Path.{◌≡◌, refl, sym, ap, ap₂, ◌∙◌, subst}
use mathlib.Core.Logic.{◌⊎◌, inl, inr}
use mathlib.Core.List.{List, [], ◌∷◌, ◌++◌, append_assoc, append-nil}
use Prim.Native.Nat.{ℕ, ◌+◌, ◌-◌, ◌≤◌, ◌<◌}
use native.Mathlib.Omega.{arith}
use native.Mathlib.Decide.{dec_lt}
use lib.ListN.{length, drop, length-append, length-drop, drop_of_length-le}
use Rattle.paper.specs.Lists.{In}
use Rattle.paper.specs.Listing.{cut_bytes}
use Rattle.paper.specs.GoodListing.{Good}
use Rattle.algebra.proofs.Lists.{in_append, in_right}
use Rattle.sidebyside.specs.Members.{RisingFrom, Lt, Rows, AllRising, cuts_bytes, Held}
use Rattle.sidebyside.specs.OneCut.{CutAt, Ends, RisesAt, Behind, Follows}
use Rattle.sidebyside.specs.Walking.{Passed, After, Standing, Walked, Ahead}
use Rattle.sidebyside.proofs.Lt.{lt_trans, rows_append, rows_split}
use Rattle.sidebyside.proofs.Coding.{cut_once, cuts_nil, cuts_cons, cuts_append, none_held, onward, cuts_once}
use Rattle.sidebyside.proofs.OneCut.{ends_as}
use Rattle.sidebyside.proofs.Telling.{good_held}

-- ---- what is passed

pub passed_inside : {s : List ℕ} {i : ℕ} {ps : List (List ℕ)} → Passed s i ps → i ≤ length s
passed_inside {s} {i} {ps} p =
    let a = ap length p.bytes ∙ length-append (cuts_bytes ps) (drop i s) in
    let b = p.place in
    omega (arith, a, b)

same_front : (a b u v : List ℕ) → length a ≡ length b → a ++ u ≡ b ++ v → (a ≡ b) × (u ≡ v)
same_front [] [] u v l e = (refl, e)
same_front [] (y ∷ b) u v l e = absurd (omega arith)
same_front (x ∷ a) [] u v l e = absurd (omega arith)
same_front (x ∷ a) (y ∷ b) u v l e =
    let h : x ≡ y = cc in
    let t : a ++ u ≡ b ++ v = cc in
    let (p, q) = same_front a b u v (omega arith) t in
    (ap₂ (λ (z : ℕ) (w : List ℕ). z ∷ w) h p, q)

-- the cuts passed are told by the place
pub passed_once : {s : List ℕ} {i : ℕ} {ps qs : List (List ℕ)} → Passed s i ps → Passed s i qs → ps ≡ qs
passed_once {s} {i} {ps} {qs} p q = cuts_once ps qs (same_front (cuts_bytes ps) (cuts_bytes qs) (drop i s) (drop i s) (sym p.place ∙ q.place) (sym p.bytes ∙ q.bytes)).0

-- cuts that begin with those passed, and what is left of them
pub record Split (s : List ℕ) (i : ℕ) (ps cs : List (List ℕ)) : Type 0 where
  pub left : List (List ℕ)
  pub is : cs ≡ ps ++ left
  pub bytes : drop i s ≡ cuts_bytes left

pub held_split : {s : List ℕ} {i : ℕ} {ps cs : List (List ℕ)} → Passed s i ps → Held s cs → Split s i ps cs
held_split {s} {i} {ps} {cs} p h = let w = onward ps cs (drop i s) (sym p.bytes ∙ h.bytes) in record { left = w.others; is = w.is; bytes = w.bytes }

-- the cuts of a good listing begin with those passed
pub good_split : {s : List ℕ} {i : ℕ} {ps : List (List ℕ)} → Passed s i ps → Good s → (ls : List (List ℕ)) × Held s (ps ++ ls)
good_split {s} p g = let v = held_split p (good_held g) in (v.left, subst (λ (x : List (List ℕ)). Held s x) v.is (good_held g))

pub left_bytes : {s : List ℕ} {i : ℕ} {ps : List (List ℕ)} → Passed s i ps → (ls : List (List ℕ)) → Held s (ps ++ ls) → drop i s ≡ cuts_bytes ls
left_bytes {s} {i} {ps} p ls h = (same_front (cuts_bytes ps) (cuts_bytes ps) (drop i s) (cuts_bytes ls) refl (sym p.bytes ∙ h.bytes ∙ cuts_append ps ls)).1

-- ---- what stands next

module _ {s : List ℕ} {e : ℕ} where
  pub walk_start : Ends (RisingFrom 0) s 0 e → Standing s 0 e []
  walk_start w = record {
    passed = record { bytes = ap (λ (t : List ℕ). t ++ s) (sym cuts_nil); place = ap length (sym cuts_nil); rising = λ c k. absurd k; rows = tt };
    next = ends_as (λ es rest q r. (r, λ p k. absurd k)) (λ es rest q r. r.0) w;
  }

module _ {s : List ℕ} {i e : ℕ} {ps : List (List ℕ)} (w : Standing s i e ps) where
  pub walk_inside : i ≤ length s
  walk_inside = passed_inside w.passed

  -- nothing goes on in order, but bytes are left
  fault_held : e ≡ 0 → i < length s → (cs : List (List ℕ)) → Held s cs → ⊥
  fault_held z h cs k =
      let v = held_split w.passed k in
      go v.left v.bytes (subst (λ (x : List (List ℕ)). Rows x) v.is k.rows) (λ c m. k.rising c (subst (λ (x : List (List ℕ)). In c x) (sym v.is) m))
    where
      go : (ls : List (List ℕ)) → drop i s ≡ cuts_bytes ls → Rows (ps ++ ls) → AllRising (ps ++ ls) → ⊥
      go [] b r a = let x = ap length (b ∙ cuts_nil) in let y = length-drop i s in omega (arith, x, y)
      go (c ∷ ls) b r a =
          w.next.bad z c (cuts_bytes ls) (a c (in_right c ps (c ∷ ls) (inl refl)), λ p m. (rows_split ps (c ∷ ls) r).1 p c m (inl refl)) (b ∙ cuts_cons c ls)

  pub walk_fault : e ≡ 0 → i < length s → Good s → ⊥
  walk_fault z h g = fault_held z h _ (good_held g)

  -- so nothing is left of a good listing
  pub walk_over : e ≡ 0 → (ls : List (List ℕ)) → Held s (ps ++ ls) → ls ≡ []
  walk_over z ls k = go (dec_lt i (length s))
    where
      go : Dec (i < length s) → ls ≡ []
      go (yes h) = absurd (fault_held z h (ps ++ ls) k)
      go (no h) = let l : length s ≤ i = omega arith in none_held ls (sym (drop_of_length-le s l) ∙ left_bytes w.passed ls k)

  -- no byte is left
  pub walk_end : length s ≤ i → Held s ps
  walk_end h = record {
    bytes = w.passed.bytes ∙ ap (λ (t : List ℕ). cuts_bytes ps ++ t) (drop_of_length-le s h) ∙ append-nil (cuts_bytes ps);
    rising = w.passed.rising;
    rows = w.passed.rows;
  }

  module _ (h : 0 < e) where
    pub here : CutAt (After ps) s i e
    here = w.next.ends h

    pub walk_rises : RisesAt s i e
    walk_rises = record { cut = here.cut; is = here.is.0; bytes = here.bytes; on = here.on; inside = here.inside }

    -- a cut is as long as its bytes
    pub cut_long : length (cut_bytes here.cut) ≡ e - i
    cut_long =
        let a = ap length here.bytes ∙ length-append (cut_bytes here.cut) (drop e s) in
        let b = length-drop i s in
        let c = length-drop e s in
        let o = here.on in
        let l = here.inside in
        omega (arith, a, b, c, o, l)

    -- the first of what is left of a good listing
    pub walk_head : (ls : List (List ℕ)) → Held s (ps ++ ls) → (ms : List (List ℕ)) × (ls ≡ here.cut ∷ ms)
    walk_head ls k = go ls (left_bytes w.passed ls k)
      where
        go : (ls : List (List ℕ)) → drop i s ≡ cuts_bytes ls → (ms : List (List ℕ)) × (ls ≡ here.cut ∷ ms)
        go [] b = let x = ap length (b ∙ cuts_nil) in let y = length-drop i s in let o = here.on in let l = here.inside in absurd (omega (arith, x, y, o, l))
        go (c ∷ ms) b = (ms, ap (λ (x : List ℕ). x ∷ ms) (cut_once c here.cut (cuts_bytes ms) (drop e s) (sym (b ∙ cuts_cons c ms) ∙ here.bytes)).0)

    -- ONE CUT ON
    pub walk_next : {r : ℕ} → Follows s i e r → Standing s e r (ps ++ (here.cut ∷ []))
    walk_next {r} f = record {
      passed = record {
        bytes = w.passed.bytes ∙ ap (λ (t : List ℕ). cuts_bytes ps ++ t) here.bytes ∙ sym (append_assoc (cuts_bytes ps) (cut_bytes c) (drop e s)) ∙ ap (λ (t : List ℕ). t ++ drop e s) (sym more);
        place = let a = ap length more ∙ length-append (cuts_bytes ps) (cut_bytes c) in let b = w.passed.place in let d = cut_long in let o = here.on in omega (arith, a, b, d, o);
        rising = λ d k. rise d (in_append d ps (c ∷ []) k);
        rows = rows_append ps (c ∷ []) w.passed.rows ((λ d k. absurd k), tt) (λ p d a b. one p d a b);
      };
      next = ends_as to (λ es rest q x. (x.0, x.1 c (in_right c ps (c ∷ []) (inl refl)))) (f c here.is.0 here.bytes);
    }
      where
        c : List ℕ
        c = here.cut

        more : cuts_bytes (ps ++ (c ∷ [])) ≡ cuts_bytes ps ++ cut_bytes c
        more = cuts_append ps (c ∷ []) ∙ ap (λ (t : List ℕ). cuts_bytes ps ++ t) (cuts_cons c [] ∙ ap (λ (t : List ℕ). cut_bytes c ++ t) cuts_nil ∙ append-nil (cut_bytes c))

        rise : (d : List ℕ) → In d ps ⊎ In d (c ∷ []) → RisingFrom 0 d
        rise d (inl k) = w.passed.rising d k
        rise d (inr (inl q)) = subst (λ (x : List ℕ). RisingFrom 0 x) (sym q) here.is.0
        rise d (inr (inr k)) = absurd k

        one : (p d : List ℕ) → In p ps → In d (c ∷ []) → Lt p d
        one p d a (inl q) = subst (λ (x : List ℕ). Lt p x) (sym q) (here.is.1 p a)
        one p d a (inr k) = absurd k

        to : (es rest : List ℕ) → drop e s ≡ cut_bytes es ++ rest → Behind c es → After (ps ++ (c ∷ [])) es
        to es rest q (r, l) = (r, λ p k. behind p (in_append p ps (c ∷ []) k))
          where
            behind : (p : List ℕ) → In p ps ⊎ In p (c ∷ []) → Lt p es
            behind p (inl k) = lt_trans p c es (here.is.1 p k) l
            behind p (inr (inl q)) = subst (λ (x : List ℕ). Lt x es) (sym q) l
            behind p (inr (inr k)) = absurd k

-- ---- what is left, counted

-- n cuts are passed from `at` to i
pub record Resting (s : List ℕ) (at i e n : ℕ) : Type 0 where
  pub front : List (List ℕ)
  pub since : List (List ℕ)
  pub passed : Passed s at front
  pub standing : Standing s i e (front ++ since)
  pub many : n ≡ length since
  pub few : at + n ≤ i

pub rest_start : {s : List ℕ} {at e : ℕ} → Walked s at e → Resting s at at e 0
rest_start {s} {at} {e} w = record {
  front = w.cuts;
  since = [];
  passed = w.standing.passed;
  standing = subst (λ (x : List (List ℕ)). Standing s at e x) (sym (append-nil w.cuts)) w.standing;
  many = refl;
  few = omega arith;
}

module _ {s : List ℕ} {at i e n : ℕ} (g : Resting s at i e n) where
  pub rest_fault : e ≡ 0 → i < length s → Good s → ⊥
  rest_fault z h = walk_fault g.standing z h

  pub rest_left : length s ≤ i → Ahead s at n
  rest_left h = record {
    front = g.front;
    rest = g.since;
    passed = g.passed;
    held = walk_end g.standing h;
    many = g.many;
    few = let a = g.few in let b = walk_inside g.standing in omega (arith, a, b);
  }

  module _ (h : 0 < e) where
    pub rest_on : (i < e) × (e ≤ length s)
    rest_on = let c = here g.standing h in (c.on, c.inside)

    pub rest_next : {r : ℕ} → Follows s i e r → Resting s at e r (n + 1)
    rest_next {r} f =
        let c = here g.standing h in
        let o = c.on in
        let a = g.many in
        let b = g.few in
        let l = length-append g.since (c.cut ∷ []) in
        record {
          front = g.front;
          since = g.since ++ (c.cut ∷ []);
          passed = g.passed;
          standing = subst (λ (x : List (List ℕ)). Standing s e r x) (append_assoc g.front g.since (c.cut ∷ [])) (walk_next g.standing h f);
          many = omega (arith, a, l);
          few = omega (arith, b, o);
        }
