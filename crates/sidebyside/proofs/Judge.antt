-- THE JUDGE that computes is the definition, both ways.
-- Assumes nothing.
use mathlib.Core.Path.{◌≡◌, refl, sym, ap, ap₂, ◌∙◌}
use mathlib.Core.Logic.{◌⊎◌, inl, inr, ◌↔◌}
use mathlib.Core.Bool.{Bool, true, false, ◌&&◌, ◌||◌, not, true≢false, false≢true}
use mathlib.Core.List.{List, [], ◌∷◌, ◌++◌, map}
use Prim.Native.Nat.{ℕ, suc, ◌+◌, ◌*◌, ◌/◌, ◌%◌}
use native.Mathlib.Omega.{arith}
use lib.Dec.{eqb, leb, ltb}
use borrow.Author.Tests.{not-true, eqb-true, eq-eqb, ltb-true, lt-ltb, leb-true, le-leb}
use Rattle.paper.specs.Limits.{limits}
use Rattle.paper.specs.Lists.{In, every}
use Rattle.paper.specs.Bytes.{same}
use Rattle.paper.specs.Sets.{members}
use Rattle.paper.specs.Listing.{member_bytes, cut_bytes}
use Rattle.paper.specs.GoodListing.{Good}
use Rattle.paper.proofs.Listing.{by_width}
use Rattle.algebra.proofs.CutCount.{and_both}
use Rattle.sidebyside.specs.Members.{RisingFrom, Lt, Leads, Rows, AllRising, cuts_bytes, Held}
use Rattle.sidebyside.specs.Judge.{push, cuts_from, cuts_of, rising_from, before, in_row, judge}
use Rattle.sidebyside.specs.Examples.{goods, good_ones, bads, bad_ones}
use Rattle.sidebyside.proofs.Coding.{end_bytes, narrow_is, wide_is, member_front, cuts_nil, cuts_cons}
use Rattle.sidebyside.proofs.Telling.{held_good, good_held}

join : {a b : Bool} → a ≡ true → b ≡ true → (a && b) ≡ true
join p q = ap₂ ◌&&◌ p q

pub either : (a b : Bool) → (a || b) ≡ true → (a ≡ true) ⊎ (b ≡ true)
either true b h = inl refl
either false b h = inr h

pub or_left : (a b : Bool) → a ≡ true → (a || b) ≡ true
or_left a b h = ap (λ (x : Bool). x || b) h

pub or_right : (a b : Bool) → b ≡ true → (a || b) ≡ true
or_right true b h = refl
or_right false b h = h

every_in : {A : Type 0} (p : A → Bool) (l : List A) → every p l ≡ true → (x : A) → In x l → p x ≡ true
every_in p [] h x k = elim k [ ]
every_in p (y ∷ l) h x (inl e) = ap p e ∙ (and_both (p y) (every p l) h).0
every_in p (y ∷ l) h x (inr k) = every_in p l (and_both (p y) (every p l) h).1 x k

-- ---- each test

pub bytes_same : (s t : List ℕ) → same s t ≡ true → s ≡ t
unfolding same
bytes_same [] [] h = refl
bytes_same [] (y ∷ t) h = absurd (false≢true h)
bytes_same (x ∷ s) [] h = absurd (false≢true h)
bytes_same (x ∷ s) (y ∷ t) h = let (p, q) = and_both (eqb x y) (same s t) h in ap₂ (λ (z : ℕ) (l : List ℕ). z ∷ l) (eqb-true x y p) (bytes_same s t q)

pub same_self : (s : List ℕ) → same s s ≡ true
unfolding same
same_self [] = refl
same_self (x ∷ s) = join (eq-eqb x x refl) (same_self s)

rising_so : (m : ℕ) (es : List ℕ) → rising_from m es ≡ true → RisingFrom m es
unfolding rising_from
rising_so m [] h = tt
rising_so m (e ∷ es) h =
    let (p, u) = and_both (leb m e) (ltb e limits.events && rising_from (suc e) es) h in
    let (q, r) = and_both (ltb e limits.events) (rising_from (suc e) es) u in
    (leb-true m e p, ltb-true e limits.events q, rising_so (suc e) es r)

rising_is : (m : ℕ) (es : List ℕ) → RisingFrom m es → rising_from m es ≡ true
unfolding rising_from
rising_is m [] r = refl
rising_is m (e ∷ es) r = join (le-leb m e r.0) (join (lt-ltb e limits.events r.1) (rising_is (suc e) es r.2))

pub before_so : (es fs : List ℕ) → before es fs ≡ true → Lt es fs
unfolding before
before_so [] fs h = absurd (false≢true h)
before_so (e ∷ es) [] h = tt
before_so (e ∷ es) (f ∷ fs) h = go (either (ltb e f) (eqb e f && before es fs) h) (before_so es fs)
  where
    go : (ltb e f ≡ true) ⊎ ((eqb e f && before es fs) ≡ true) → (before es fs ≡ true → Lt es fs) → Lt (e ∷ es) (f ∷ fs)
    go (inl p) r = inl (ltb-true e f p)
    go (inr p) r = let (q, u) = and_both (eqb e f) (before es fs) p in inr (eqb-true e f q, r u)

pub before_is : (es fs : List ℕ) → Lt es fs → before es fs ≡ true
unfolding before
before_is [] fs h = absurd h
before_is (e ∷ es) [] h = refl
before_is (e ∷ es) (f ∷ fs) (inl h) = or_left (ltb e f) (eqb e f && before es fs) (lt-ltb e f h)
before_is (e ∷ es) (f ∷ fs) (inr h) = or_right (ltb e f) (eqb e f && before es fs) (join (eq-eqb e f h.0) (before_is es fs h.1))

leads_so : (c : List ℕ) (cs : List (List ℕ)) → every (before c) cs ≡ true → Leads c cs
leads_so c cs h d k = before_so c d (every_in (before c) cs h d k)

leads_is : (c : List ℕ) (cs : List (List ℕ)) → Leads c cs → every (before c) cs ≡ true
leads_is c [] l = refl
leads_is c (x ∷ cs) l = join (before_is c x (l x (inl refl))) (leads_is c cs (λ d k. l d (inr k)))

rows_so : (cs : List (List ℕ)) → in_row cs ≡ true → Rows cs
unfolding in_row
rows_so [] h = tt
rows_so (c ∷ cs) h = let (p, q) = and_both (every (before c) cs) (in_row cs) h in (leads_so c cs p, rows_so cs q)

rows_is : (cs : List (List ℕ)) → Rows cs → in_row cs ≡ true
unfolding in_row
rows_is [] r = refl
rows_is (c ∷ cs) r = join (leads_is c cs r.0) (rows_is cs r.1)

all_so : (cs : List (List ℕ)) → every (rising_from 0) cs ≡ true → AllRising cs
all_so cs h c k = rising_so 0 c (every_in (rising_from 0) cs h c k)

all_is : (cs : List (List ℕ)) → AllRising cs → every (rising_from 0) cs ≡ true
all_is [] r = refl
all_is (c ∷ cs) r = join (rising_is 0 c (r c (inl refl))) (all_is cs (λ d k. r d (inr k)))

-- ---- taken apart

-- a member, of either kind
cuts_member : (e : ℕ) (rest : List ℕ) → cuts_of (member_bytes (e ∷ []) ++ rest) ≡ push e (cuts_of rest)
unfolding cuts_from
cuts_member e rest =
    by_width e (λ h. ap cuts_of (narrow_is h rest))
    (λ h. let q : e % 256 + 256 * (e / 256) ≡ e = omega arith in ap cuts_of (wide_is h rest) ∙ ap (λ (x : ℕ). push x (cuts_of rest)) q)

cuts_cut : (c rest : List ℕ) → cuts_of (cut_bytes c ++ rest) ≡ c ∷ cuts_of rest
unfolding cuts_from push
cuts_cut [] rest = ap cuts_of (end_bytes rest)
cuts_cut (e ∷ es) rest = ap cuts_of (member_front e es rest) ∙ cuts_member e (cut_bytes es ++ rest) ∙ ap (push e) (cuts_cut es rest)

pub cuts_told : (cs : List (List ℕ)) → cuts_of (cuts_bytes cs) ≡ cs
unfolding cuts_from
cuts_told [] = ap cuts_of cuts_nil
cuts_told (c ∷ cs) = ap cuts_of (cuts_cons c cs) ∙ cuts_cut c (cuts_bytes cs) ∙ ap (λ (l : List (List ℕ)). c ∷ l) (cuts_told cs)

-- ---- the judge

pub judge_held : (s : List ℕ) → judge s ≡ true → Held s (cuts_of s)
unfolding judge
judge_held s h =
    let (p, u) = and_both (same s (cuts_bytes (cuts_of s))) (every (rising_from 0) (cuts_of s) && in_row (cuts_of s)) h in
    let (q, r) = and_both (every (rising_from 0) (cuts_of s)) (in_row (cuts_of s)) u in
    record { bytes = bytes_same s (cuts_bytes (cuts_of s)) p; rising = all_so (cuts_of s) q; rows = rows_so (cuts_of s) r }

pub judge_so : (s : List ℕ) → judge s ≡ true → Good s
judge_so s h = held_good (judge_held s h)

held_judged : (s : List ℕ) (cs : List (List ℕ)) → Held s cs → judge s ≡ true
unfolding judge
held_judged s cs h =
    let e : cuts_of s ≡ cs = ap cuts_of h.bytes ∙ cuts_told cs in
    let p : same s (cuts_bytes (cuts_of s)) ≡ true = ap (same s) (ap cuts_bytes e ∙ sym h.bytes) ∙ same_self s in
    let q : every (rising_from 0) (cuts_of s) ≡ true = ap (every (rising_from 0)) e ∙ all_is cs h.rising in
    let r : in_row (cuts_of s) ≡ true = ap in_row e ∙ rows_is cs h.rows in
    join p (join q r)

pub judge_is : (s : List ℕ) → Good s → judge s ≡ true
judge_is s g = held_judged s (map (members limits.events) g.sets) (good_held g)

pub judged : (s : List ℕ) → (judge s ≡ true) ↔ Good s
judged s = (judge_so s, judge_is s)

-- ---- THE EXAMPLES

pub goods_are : (s : List ℕ) → In s goods → Good s
goods_are s k = judge_so s (every_in judge goods good_ones s k)

pub bads_are : (s : List ℕ) → In s bads → Good s → ⊥
bads_are s k g = true≢false (sym (judge_is s g) ∙ not-true (judge s) (every_in (λ x. not (judge x)) bads bad_ones s k))
