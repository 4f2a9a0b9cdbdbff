-- The search for a name along a chain of falling numbers, and a name added at the head of its chain.
-- Assumes nothing.
use mathlib.Core.Path.{◌≡◌, refl, sym, ap, ◌∙◌, subst}
use mathlib.Core.Bool.{Bool, true, false}
use mathlib.Core.List.{List, []}
use Prim.Native.Nat.{ℕ, ◌+◌, ◌-◌, ◌*◌, ◌%◌, ◌<◌, ◌≤◌}
use native.Mathlib.Decide.{ℕ_discrete, dec_lt}
use native.Mathlib.Nat.{mod-lt, mod-add-mod}
use Rattle.std.proofs.Common.{add-zero, replicate}
use Rattle.std.proofs.lemmas.List.{get_or-replicate, length-replicate}
use native.Mathlib.Omega.{arith}
use lib.ListN.{get_or, length, take, drop, set, length-set}
use lib.Seq.{get_or-set_same, get_or-set_other}
use borrow.Author.Count.{below_more}
use Rattle.paper.specs.Bytes.{letter_or_digit, same}
use Rattle.paper.specs.Equations.{has, number_of}
use Rattle.lines.specs.Reading.{name_at, Ends}
use Rattle.names.specs.Interning.{dict_of, mix_on, slot_of, First, chain_at, Last, Interned, Zeros, Hit, Missed, Interns}
use Rattle.lines.proofs.Leads.{ends_front, ends_next, ends_none, slice_length, slice_inside, slice_byte}
use Rattle.names.proofs.Dicts.{same_yes, same_no, has_not, has_at, number_at, dict_long, dict_at, dict_more, with_old, with_new, spots_old, spots_new}

-- ---- the chain of a name

pub record Mixing (s : List ℕ) (i e j h : ℕ) : Type 0 where
  pub ends : Ends letter_or_digit s j e
  pub small : h < 4294967296
  pub same : mix_on 5381 (name_at s i) ≡ mix_on h (name_at s j)

pub mixing_start : {s : List ℕ} {i e : ℕ} → Ends letter_or_digit s i e → Mixing s i e (i + 0) 5381
mixing_start n = rw add-zero record { ends = n; small = omega arith; same = refl }

-- the name's bytes as a slice: its byte k
module _ {s : List ℕ} {i e k h : ℕ} (n : Ends letter_or_digit s i e) (m : Mixing s i e (i + k) h) where
  pub mixing_next : {x : ℕ} → k < length (take (e - i) (drop i s)) → x ≡ get_or (take (e - i) (drop i s)) k 0 → Mixing s i e (i + (k + 1)) ((h * 33 % 4294967296 + x) % 4294967296)
  mixing_next {x} l p =
      let place : i + k + 1 ≡ i + (k + 1) = omega arith in
      let byte : x ≡ get_or s (i + k) 0 = p ∙ slice_byte n l in
      subst (λ j. Mixing s i e j ((h * 33 % 4294967296 + x) % 4294967296)) place record {
        ends = ends_next m.ends (slice_inside n l);
        small = omega arith;
        same = m.same ∙ ap (mix_on h) (ends_front m.ends (slice_inside n l)) ∙ ap (λ v. mix_on v (name_at s (i + k + 1))) (ap (λ b. (h * 33 + b) % 4294967296) (sym byte) ∙ sym (mod-add-mod (h * 33) 4294967296 x));
      }

  pub mixing_end : {slots : ℕ} → length (take (e - i) (drop i s)) ≤ k → 1 ≤ slots → First (name_at s i) slots (h % slots)
  unfolding slot_of
  mixing_end {slots} l p = record { is = ap (λ k. k % slots) (sym (m.same ∙ ap (mix_on h) (ends_none m.ends (omega (arith, slice_length n))))); below = mod-lt h p }

-- ---- the search

pub record Seek (text N : List ℕ) (slots c : ℕ) (w : List ℕ) (i : ℕ) : Type 0 where
  pub to : i ≤ c
  pub own : 1 ≤ i → chain_at text N slots (i - 1) ≡ slot_of w slots
  pub none : (k : ℕ) → i ≤ k → k < c → name_at text (get_or N k 0) ≡ w → ⊥

module _ {text N H X : List ℕ} {c : ℕ} {w : List ℕ} (t : Interned text N H X c) where
  pub seek_start : {h : ℕ} → First w (length H) h → Seek text N (length H) c w (get_or H h 0)
  seek_start {h} q =
      let a = t.heads h q.below in record {
        to = a.to;
        own = λ p. a.own p ∙ q.is;
        none = λ k p m x. a.none k p m (ap (λ y. slot_of y (length H)) x ∙ sym q.is);
      }

  module _ {i : ℕ} (p : 0 < i) (q : Seek text N (length H) c w i) where
    pub seek_room : i - 1 < c
    seek_room = omega (arith, q.to)

    pub seek_less : get_or X (i - 1) 0 < i
    seek_less = let a = (t.links (i - 1) seek_room).to in omega arith

    pub seek_next : (name_at text (get_or N (i - 1) 0) ≡ w → ⊥) → Seek text N (length H) c w (get_or X (i - 1) 0)
    seek_next n =
        let a = t.links (i - 1) seek_room in record {
          to = let z = seek_less in omega (arith, q.to);
          own = λ r. a.own r ∙ q.own p;
          none = λ k r m x. go k r m x (dec_lt k (i - 1)) (ℕ_discrete k (i - 1)) a;
        }
      where
        go : (k : ℕ) → get_or X (i - 1) 0 ≤ k → k < c → name_at text (get_or N k 0) ≡ w → Dec (k < i - 1) → Dec (k ≡ i - 1) → Last text N (length H) (i - 1) (chain_at text N (length H) (i - 1)) (get_or X (i - 1) 0) → ⊥
        go k r m x (yes l) e a = a.none k r l (ap (λ y. slot_of y (length H)) x ∙ sym (q.own p))
        go k r m x (no l) (yes e) a = n (subst (λ y. name_at text (get_or N y 0) ≡ w) e x)
        go k r m x (no l) (no e) a = q.none k (omega arith) m x

pub seek_hit : {text N : List ℕ} {slots c : ℕ} {w : List ℕ} {i : ℕ} → 0 < i → Seek text N slots c w i → name_at text (get_or N (i - 1) 0) ≡ w → Hit text N c w (i - 1)
seek_hit p q x = record { below = omega (arith, q.to); name = x }

pub seek_miss : {text N : List ℕ} {slots c : ℕ} {w : List ℕ} {i : ℕ} → i ≤ 0 → Seek text N slots c w i → Missed text N c w
seek_miss p q = record { none = λ k l x. q.none k (omega arith) l x }

-- one turn of the search, with the code's numbers
module _ {text N H X : List ℕ} {c : ℕ} {w : List ℕ} {i : ℕ} (t : Interned text N H X c) (pos : 0 < i) (q : Seek text N (length H) c w i) {p : ℕ} (ep : p ≡ i) where
  pub turn_room : p - 1 < c
  turn_room = omega (arith, q.to)

  turn_at : i - 1 ≡ p - 1
  turn_at = omega arith

  pub turn_less : get_or X (p - 1) 0 < i
  turn_less = let z = seek_less t pos q in rw turn_at at z

  module _ {a : ℕ} (ea : a ≡ get_or N (p - 1) 0) where
    pub turn_inside : a ≤ length text
    turn_inside = let z = t.places (p - 1) turn_room in omega arith

    turn_name : name_at text a ≡ name_at text (get_or N (i - 1) 0)
    turn_name = ap (name_at text) (ea ∙ ap (λ k. get_or N k 0) (sym turn_at))

    pub turn_hit : {b : Bool} → b ≡ same (name_at text a) w → b ≡ true → Hit text N c w (i - 1)
    turn_hit e h = seek_hit pos q (sym turn_name ∙ same_yes (name_at text a) w (sym e ∙ h))

    pub turn_next : {b : Bool} → b ≡ same (name_at text a) w → b ≡ false → Seek text N (length H) c w (get_or X (p - 1) 0)
    turn_next e h = let z = seek_next t pos q (λ x. same_no (name_at text a) w (sym e ∙ h) (turn_name ∙ x)) in rw turn_at at z

-- ---- nothing interned yet

pub zeros_filled : {H : List ℕ} (n : ℕ) → H ≡ replicate n 0 → Zeros H (length H)
zeros_filled {H} n e = record { zero = λ k h. ap (λ l. get_or l k 0) e ∙ get_or-replicate n k 0 0 (let z = ap length e ∙ length-replicate n 0 in omega arith) }

-- with such heads no name has a number, whatever the other lists hold
pub interned_none : (text N H X : List ℕ) → Zeros H (length H) → length N ≤ length X → 1 ≤ length H → length N ≤ 4294967295 → length text ≤ 4294967295 → Interned text N H X 0
interned_none text N H X z a b d e = record {
  room = omega arith;
  linked = a;
  chains = b;
  small = d;
  short = e;
  places = λ k h. absurd (omega arith);
  unique = λ j k h. absurd (omega arith);
  heads = λ h l. rw (z.zero h l) (record { to = omega arith; own = λ p. absurd (omega arith); none = λ k p q. absurd (omega arith) });
  links = λ k h. absurd (omega arith);
}

-- ---- a name that has a number

module _ {text N H X : List ℕ} {c : ℕ} {w : List ℕ} {r : ℕ} (t : Interned text N H X c) (s : Hit text N c w r) where
  old_name : get_or (dict_of text N c) r [] ≡ w
  old_name = dict_at text N c t.room r s.below ∙ s.name

  old_known : has w (dict_of text N c) ≡ true
  old_known = let long = dict_long text N c t.room in has_at w (dict_of text N c) r (omega (arith, s.below)) old_name

  pub old_number : r ≡ number_of w (dict_of text N c)
  old_number =
      let long = dict_long text N c t.room in
      number_at w (dict_of text N c) r (omega (arith, s.below)) old_name (λ j m x. let y : j ≡ r = t.unique j r (omega (arith, s.below)) s.below (sym (dict_at text N c t.room j (omega (arith, s.below))) ∙ x ∙ sym (s.name)) in omega arith)

pub interns_old : {text N H X : List ℕ} {c at r : ℕ} → Interned text N H X c → Hit text N c (name_at text at) r → Interns text N c at N H X r c
interns_old {text} {N} {H} {X} {c} {at} {r} t s = record {
  store = t;
  more = omega arith;
  one = omega arith;
  long = refl;
  dict = sym (with_old (dict_of text N c) (name_at text at) (old_known t s));
  spots = spots_old (dict_of text N c) (name_at text at) N c at (old_known t s);
  within = s.below;
  number = old_number t s;
}

-- ---- a new name

module _ {text N H X : List ℕ} {c at : ℕ} (t : Interned text N H X c) (room : c < length N) (inside : at ≤ length text) where
  abbrev names' : List ℕ
  names' = set N c at

  old_place : (k : ℕ) → k < c → get_or names' k 0 ≡ get_or N k 0
  old_place k l = get_or-set_other N c k at 0 (omega arith)

  new_place : get_or names' c 0 ≡ at
  new_place = get_or-set_same N c at 0 room

  old_chain : (slots k : ℕ) → k < c → chain_at text names' slots k ≡ chain_at text N slots k
  old_chain slots k l = ap (λ p. slot_of (name_at text p) slots) (old_place k l)

  old_last : (slots b g v : ℕ) → b ≤ c → Last text N slots b g v → Last text names' slots b g v
  old_last slots b g v l a = record {
    to = a.to;
    own = λ q. old_chain slots (v - 1) (omega (arith, a.to)) ∙ a.own q;
    none = λ k q m x. a.none k q m (sym (old_chain slots k (omega arith)) ∙ x);
  }

  module _ {h : ℕ} (first : First (name_at text at) (length H) h) (absent : (k : ℕ) → k < c → name_at text (get_or N k 0) ≡ name_at text at → ⊥) where
    abbrev next' : List ℕ
    next' = set X c (get_or H h 0)

    abbrev heads' : List ℕ
    heads' = set H h (c + 1)

    new_chain : chain_at text names' (length H) c ≡ h
    new_chain = ap (λ p. slot_of (name_at text p) (length H)) new_place ∙ sym first.is

    new_unique : (j k : ℕ) → j < c + 1 → k < c + 1 → name_at text (get_or names' j 0) ≡ name_at text (get_or names' k 0) → j ≡ k
    new_unique j k a b x = go (dec_lt j c) (dec_lt k c)
      where
        fresh : (i m : ℕ) → i < c → m ≡ c → name_at text (get_or names' i 0) ≡ name_at text (get_or names' m 0) → ⊥
        fresh i m l q y = absent i l (ap (name_at text) (sym (old_place i l)) ∙ y ∙ ap (λ n. name_at text (get_or names' n 0)) q ∙ ap (name_at text) new_place)

        go : Dec (j < c) → Dec (k < c) → j ≡ k
        go (yes l) (yes m) = t.unique j k l m (ap (name_at text) (sym (old_place j l)) ∙ x ∙ ap (name_at text) (old_place k m))
        go (yes l) (no m) = absurd (fresh j k l (omega arith) x)
        go (no l) (yes m) = absurd (fresh k j m (omega arith) (sym x))
        go (no l) (no m) = omega arith

    new_heads : (g : ℕ) → g < length H → Last text names' (length H) (c + 1) g (get_or heads' g 0)
    new_heads g m = elim (ℕ_discrete g h) [
      | yes d ↦ subst (λ (y : ℕ). Last text names' (length H) (c + 1) y (get_or heads' y 0)) (sym d) (rw (get_or-set_same H h (c + 1) 0 first.below) (record {
        to = omega arith;
        own = λ _. let z : c ≡ (c + 1) - 1 = omega arith in subst (λ (y : ℕ). chain_at text names' (length H) y ≡ h) z new_chain;
        none = λ k x y _. omega arith;
      }))
      | no n ↦ rw (get_or-set_other H h g (c + 1) 0 n) (
          let a = old_last (length H) c g (get_or H g 0) (omega arith) (t.heads g m) in record {
            to = omega (arith, a.to);
            own = a.own;
            none = λ k x y. below_more (λ k. get_or H g 0 ≤ k → chain_at text names' (length H) k ≡ g → ⊥) c (λ k z w. a.none k w z) (λ _ w. n (sym w ∙ new_chain)) k y x;
          })
    ]

    new_links : (k : ℕ) → k < c + 1 → Last text names' (length H) k (chain_at text names' (length H) k) (get_or next' k 0)
    new_links = below_more (λ k. Last text names' (length H) k (chain_at text names' (length H) k) (get_or next' k 0)) c
        (λ k m. rw (get_or-set_other X c k (get_or H h 0) 0 (omega arith), old_chain (length H) k m) (old_last (length H) k (chain_at text N (length H) k) (get_or X k 0) (omega arith) (t.links k m)))
        (rw (get_or-set_same X c (get_or H h 0) 0 (omega (arith, t.linked)), new_chain) (old_last (length H) c h (get_or H h 0) (omega arith) (t.heads h first.below)))

    interned_more : Interned text names' heads' next' (c + 1)
    interned_more = record {
      room = simp length-set (omega arith);
      linked = simp length-set t.linked;
      chains = simp length-set t.chains;
      small = simp length-set t.small;
      short = t.short;
      places = below_more (λ k. get_or names' k 0 ≤ length text) c (λ k l. let x = t.places k l in let y = old_place k l in omega arith) (let y = new_place in omega arith);
      unique = new_unique;
      heads = subst (λ (n : ℕ). (g : ℕ) → g < n → Last text names' n (c + 1) g (get_or heads' g 0)) (sym (length-set H h (c + 1))) new_heads;
      links = subst (λ (n : ℕ). (k : ℕ) → k < c + 1 → Last text names' n k (chain_at text names' n k) (get_or next' k 0)) (sym (length-set H h (c + 1))) new_links;
    }

    pub interns_new : Interns text N c at names' heads' next' c (c + 1)
    interns_new =
        let w = name_at text at in
        let D = dict_of text N c in
        let long = dict_long text N c t.room in
        let fresh : has w D ≡ false = has_not w D (λ k l x. absent k (omega arith) (sym (dict_at text N c t.room k (omega arith)) ∙ x)) in
        let long' : length (dict_of text names' (c + 1)) ≡ c + 1 = dict_long text names' (c + 1) (simp length-set (omega arith)) in
        record {
          store = interned_more;
          more = omega arith;
          one = omega arith;
          long = length-set N c at;
          dict = dict_more text N c at room ∙ sym (with_new D w fresh);
          spots = spots_new D w N c at room fresh;
          within = omega arith;
          number = number_at w (dict_of text names' (c + 1)) c (omega arith) (dict_at text names' (c + 1) (simp length-set (omega arith)) c (omega arith) ∙ ap (name_at text) new_place) (λ j m x. absent j m (ap (name_at text) (sym (old_place j m)) ∙ sym (dict_at text names' (c + 1) (simp length-set (omega arith)) j (omega arith)) ∙ x));
        }

-- with the code's number
pub interns_added : {text N H X : List ℕ} {c at h k : ℕ} → Interned text N H X c → (at ≤ length text) × (c < length N) → First (name_at text at) (length H) h → Missed text N c (name_at text at) → k ≡ c → Interns text N c at (set N k at) (set H h (c + 1)) (set X k (get_or H h 0)) c (c + 1)
interns_added {text} {N} {H} {X} {c} {at} {h} {k} t p f s e = subst (λ y. Interns text N c at (set N y at) (set H h (c + 1)) (set X y (get_or H h 0)) c (c + 1)) (sym e) (interns_new t p.1 p.0 f s.none)
