-- The bytes of a set, word by word: each lowest member in turn.
-- Assumes nothing.
use mathlib.Core.Path.{◌≡◌, refl, sym, ap, ap₂, ◌∙◌}
use mathlib.Core.Bool.{Bool, true, false, cond}
use mathlib.Core.List.{List, [], ◌∷◌, ◌++◌, append_assoc, append-nil}
use Prim.Native.Nat.{ℕ, zero, suc, ◌+◌, ◌-◌, ◌*◌, ◌/◌, ◌%◌, ◌^◌, ◌≤◌, ◌<◌}
use native.Mathlib.Nat.{zero-add}
use native.Mathlib.Decide.{ℕ_discrete}
use native.Mathlib.Numerals.{add-one}
use native.Mathlib.Omega.{arith}
use lib.Dec.{eqb}
use lib.ListN.{length, get_or, take, drop, set, length-append, length-drop, take-append-drop}
use lib.Seq.{set_at, take_at, drop-cons, drop-drop, drop-append-add, length-take-le}
use lib.Bits.{bit_and}
use borrow.Author.Tests.{eq-eqb, ne_eqb}
use Rattle.std.proofs.Common.{Some, None}
use Rattle.paper.specs.Lists.{keep, up_to}
use Rattle.paper.specs.Sets.{Set, none, put, members}
use Rattle.paper.specs.Limits.{wide_from}
use Rattle.paper.specs.Listing.{member, member_bytes, cut_bytes, set_bytes}
use Rattle.paper.proofs.Listing.{narrow, wide, narrow_long, wide_long, no_bytes, bytes_cons_long, bytes_append, bytes_more, cut_long}
use Rattle.sets.specs.Words.{bit, set_of, room, Trail}
use Rattle.sets.specs.Bytes.{word_set, in_word, Put, Told, Spelled, Begun, Laid}
use Rattle.sets.proofs.Bit.{bit_none, drop_own, drop_other, from_bit, clear_below, clear_kept}
use Rattle.sets.proofs.Words.{set_in}
use Rattle.sets.proofs.Count.{keep_agree, keep_add, keep_no, fewer_bytes}

-- ---- the members among some events

-- the lowest comes first, and the others are those without it
keep_first : (S : Set) (k m t : ℕ) → m ≤ t → t < m + k → S t ≡ true → ((j : ℕ) → m ≤ j → j < t → S j ≡ false) → keep S (up_to k m) ≡ t ∷ keep (put t false S) (up_to k m)
keep_first S zero m t l h e c = absurd (omega arith)
keep_first S (suc k) m t l h e c = go (ℕ_discrete m t) (λ g. keep_first S k (suc m) t g (omega arith) e (λ j p q. c j (omega arith) q))
  where
    go : Dec (m ≡ t) → (suc m ≤ t → keep S (up_to k (suc m)) ≡ t ∷ keep (put t false S) (up_to k (suc m))) → keep S (up_to (suc k) m) ≡ t ∷ keep (put t false S) (up_to (suc k) m)
    go (yes q) on =
        let holds : S m ≡ true = ap S q ∙ e in
        let rest : keep S (up_to k (suc m)) ≡ keep (put t false S) (up_to k (suc m)) =
        keep_agree S (put t false S) k (suc m) (λ j p r. sym (ap (λ (b : Bool). cond b false (S j)) (ne_eqb j t (λ z. omega arith)))) in
        rw (holds, eq-eqb m t q) (ap₂ (λ (x : ℕ) (y : List ℕ). x ∷ y) q rest)
    go (no q) on = rw (c m (omega arith) (omega arith), ne_eqb m t q) (on (omega arith))

-- ---- the members of a word

pub word_none : (w m : ℕ) → w ≡ 0 → in_word w m ≡ []
unfolding word_set in_word
word_none w m z = keep_no (word_set w m) 64 m (λ j _. ap (λ (n : ℕ). eqb n 1) (ap (λ (n : ℕ). bit n (j - m)) z ∙ bit_none (j - m)))

-- the lowest set bit, and the word without it
pub word_more : (w m : ℕ) {t : ℕ} → Trail w 64 t → in_word w m ≡ (m + t) ∷ in_word (bit_and w (w - 1)) m
unfolding word_set in_word
word_more w m {t} r =
    let b = r.below in
    keep_first (word_set w m) 64 m (m + t) (omega arith) (omega arith) (at t 1 r.set) (λ j p q. ap (λ (n : ℕ). eqb n 1) (r.clear (j - m) (omega arith)))
    ∙ ap (λ (l : List ℕ). (m + t) ∷ l) (keep_agree (put (m + t) false (word_set w m)) (word_set (bit_and w (w - 1)) m) 64 m (λ j p q. same j p (ℕ_discrete j (m + t))))
  where
    at : (j v : ℕ) → bit w j ≡ v → word_set w m (m + j) ≡ eqb v 1
    at j v e = let q : m + j - m ≡ j = omega arith in ap (λ (n : ℕ). eqb (bit w n) 1) q ∙ ap (λ (n : ℕ). eqb n 1) e

    same : (j : ℕ) → m ≤ j → Dec (j ≡ m + t) → put (m + t) false (word_set w m) j ≡ word_set (bit_and w (w - 1)) m j
    same j p (yes q) =
        let d : j - m ≡ t = omega arith in
        rw (eq-eqb j (m + t) q) (sym (ap (λ (n : ℕ). eqb n 1) (ap (bit (bit_and w (w - 1))) d ∙ drop_own r)))
    same j p (no q) = rw (ne_eqb j (m + t) q) (sym (ap (λ (n : ℕ). eqb n 1) (drop_other r (j - m) (λ z. q (omega arith)))))

-- word k of some words
word_of : (ws : List ℕ) (k : ℕ) → in_word (get_or ws k 0) (k * 64) ≡ keep (set_of ws) (up_to 64 (k * 64))
unfolding word_set in_word
word_of ws k = keep_agree (word_set (get_or ws k 0) (k * 64)) (set_of ws) 64 (k * 64) (λ j p q.
    let at : k * 64 + (j - k * 64) ≡ j = omega arith in
    sym (ap (set_of ws) (sym at) ∙ set_in ws k (j - k * 64) (omega arith)))

pub members_word : (ws : List ℕ) (k : ℕ) → members ((k + 1) * 64) (set_of ws) ≡ members (k * 64) (set_of ws) ++ in_word (get_or ws k 0) (k * 64)
members_word ws k =
    let end : (k + 1) * 64 ≡ k * 64 + 64 = omega arith in
    ap (λ (n : ℕ). members n (set_of ws)) end ∙ keep_add (set_of ws) (k * 64) 64 0
    ∙ ap (λ (l : List ℕ). members (k * 64) (set_of ws) ++ l) (ap (λ (n : ℕ). keep (set_of ws) (up_to 64 n)) (zero-add (k * 64)) ∙ sym (word_of ws k))

-- those of event low's word from low on, behind those below low
module _ (ws : List ℕ) (low : ℕ) (f : get_or ws (low / 64) 0 < 2 ^ 64) where
  abbrev word : ℕ
  word = get_or ws (low / 64) 0

  abbrev part : ℕ
  part = from_bit word (low % 64)

  none_below : keep (word_set part (low / 64 * 64)) (up_to (low % 64) (low / 64 * 64)) ≡ []
  unfolding word_set
  none_below =
      keep_agree (word_set part (low / 64 * 64)) none (low % 64) (low / 64 * 64) (λ j p q. ap (λ (n : ℕ). eqb n 1) (clear_below word (low % 64) f (omega arith) (j - low / 64 * 64) (omega arith)))
      ∙ keep_no none (low % 64) (low / 64 * 64) (λ j _. refl)

  all_above : keep (word_set part (low / 64 * 64)) (up_to (64 - low % 64) (low / 64 * 64 + low % 64)) ≡ keep (set_of ws) (up_to (64 - low % 64) (0 + low))
  unfolding word_set
  all_above =
      let here : low / 64 * 64 + low % 64 ≡ 0 + low = omega arith in
      keep_agree (word_set part (low / 64 * 64)) (set_of ws) (64 - low % 64) (low / 64 * 64 + low % 64) (λ j p q.
      let at : low / 64 * 64 + (j - low / 64 * 64) ≡ j = omega arith in
      ap (λ (n : ℕ). eqb n 1) (clear_kept word (low % 64) f (omega arith) (j - low / 64 * 64) (omega arith)) ∙ sym (ap (set_of ws) (sym at) ∙ set_in ws (low / 64) (j - low / 64 * 64) (omega arith)))
      ∙ ap (λ (n : ℕ). keep (set_of ws) (up_to (64 - low % 64) n)) here

  pub members_on : members ((low / 64 + 1) * 64) (set_of ws) ≡ members low (set_of ws) ++ in_word (from_bit (get_or ws (low / 64) 0) (low % 64)) (low / 64 * 64)
  unfolding in_word
  members_on =
      let end : (low / 64 + 1) * 64 ≡ low + (64 - low % 64) = omega arith in
      let bits : 64 ≡ low % 64 + (64 - low % 64) = omega arith in
      ap (λ (n : ℕ). members n (set_of ws)) end ∙ keep_add (set_of ws) low (64 - low % 64) 0
      ∙ ap (λ (l : List ℕ). members low (set_of ws) ++ l)
      (sym (ap (λ (n : ℕ). keep (word_set part (low / 64 * 64)) (up_to n (low / 64 * 64))) bits ∙ keep_add (word_set part (low / 64 * 64)) (low % 64) (64 - low % 64) (low / 64 * 64) ∙ ap₂ ◌++◌ none_below all_above))

-- ---- written

-- a store at the seam of what is written and what is left
pub seam : (w r : List ℕ) (n v : ℕ) → length w ≡ n → n < length r → set (w ++ drop n r) n v ≡ (w ++ (v ∷ [])) ++ drop (n + 1) r
seam w r n v e h =
    ap (λ (x : List ℕ). set (w ++ x) n v) (drop-cons r n 0 h) ∙ set_at w (get_or r n 0) (drop (suc n) r) v n e
    ∙ ap (λ (k : ℕ). w ++ (v ∷ drop k r)) (sym (add-one n)) ∙ sym (append_assoc w (v ∷ []) (drop (n + 1) r))

-- the room after one part more
pub joined : (room w part room₀ : List ℕ) (used n : ℕ) → length w ≡ used → room ≡ w ++ drop used room₀ → take used room ++ (part ++ drop (used + n) room) ≡ (w ++ part) ++ drop (used + n) room₀
joined room w part room₀ used n e b =
    let front : take used room ≡ w = ap (take used) b ∙ take_at w (drop used room₀) used e in
    let back : drop (used + n) room ≡ drop (used + n) room₀ =
    ap₂ (λ (k : ℕ) (x : List ℕ). drop (k + n) x) (sym e) b ∙ drop-append-add w (drop used room₀) n ∙ drop-drop n used room₀ in
    ap₂ (λ (x y : List ℕ). x ++ (part ++ y)) front back ∙ sym (append_assoc w part (drop (used + n) room₀))

-- ---- one member

-- two stores, and three
stored_two : (r : List ℕ) (n x y : ℕ) → n + 2 ≤ length r → set (set r n x) (n + 1) y ≡ (take n r ++ (x ∷ y ∷ [])) ++ drop (n + 2) r
stored_two r n x y h =
    let front = length-take-le n r (omega arith) in
    let one = ap (λ (l : List ℕ). set l n x) (sym (take-append-drop n r)) ∙ seam (take n r) r n x front (omega arith) in
    let here : n + 1 + 1 ≡ n + 2 = omega arith in
    ap (λ (l : List ℕ). set l (n + 1) y) one ∙ seam (take n r ++ (x ∷ [])) r (n + 1) y (length-append (take n r) (x ∷ []) ∙ ap (λ (k : ℕ). k + 1) front) (omega arith)
    ∙ ap₂ (λ (l : List ℕ) (j : ℕ). l ++ drop j r) (append_assoc (take n r) (x ∷ []) (y ∷ [])) here

stored_three : (r : List ℕ) (n x y z : ℕ) → n + 3 ≤ length r → set (set (set r n x) (n + 1) y) (n + 2) z ≡ (take n r ++ (x ∷ y ∷ z ∷ [])) ++ drop (n + 3) r
stored_three r n x y z h =
    let front = length-take-le n r (omega arith) in
    let here : n + 2 + 1 ≡ n + 3 = omega arith in
    ap (λ (l : List ℕ). set l (n + 2) z) (stored_two r n x y (omega arith))
    ∙ seam (take n r ++ (x ∷ y ∷ [])) r (n + 2) z (length-append (take n r) (x ∷ y ∷ []) ∙ ap (λ (k : ℕ). k + 2) front) (omega arith)
    ∙ ap₂ (λ (l : List ℕ) (j : ℕ). l ++ drop j r) (append_assoc (take n r) (x ∷ y ∷ []) (z ∷ [])) here

pub put_narrow : {e at : ℕ} {r : List ℕ} → e < wide_from → at + length (member e) ≤ length r → Put e at r (set (set r at 0x21) (at + 1) (e % 256)) (at + 2)
put_narrow {e} {at} {r} l h =
    let n = narrow_long e l in
    let own : e % 256 ≡ e = omega arith in
    record {
      ends = omega arith;
      bytes = stored_two r at 0x21 (e % 256) (omega arith)
          ∙ ap (λ (x : List ℕ). (take at r ++ x) ++ drop (at + 2) r) (ap (λ (x : ℕ). 0x21 ∷ x ∷ []) own ∙ sym (narrow e l))
          ∙ append_assoc (take at r) (member e) (drop (at + 2) r);
    }

pub put_wide : {e at : ℕ} {r : List ℕ} → wide_from ≤ e → at + length (member e) ≤ length r → Put e at r (set (set (set r at 0x23) (at + 1) (e % 256)) (at + 2) (e / 256)) (at + 3)
put_wide {e} {at} {r} l h =
    let n = wide_long e l in
    record {
      ends = omega arith;
      bytes = stored_three r at 0x23 (e % 256) (e / 256) (omega arith)
          ∙ ap (λ (x : List ℕ). (take at r ++ x) ++ drop (at + 3) r) (sym (wide e l))
          ∙ append_assoc (take at r) (member e) (drop (at + 3) r);
    }

-- ---- the members of one word

-- some members of the word w are written behind `at` bytes of the room r; the word v has the others
pub record Telling (w m at : ℕ) (r room : List ℕ) (v end : ℕ) : Type 0 where
  pub told : List ℕ
  pub whole : in_word w m ≡ told ++ in_word v m
  pub fits : at + length (member_bytes (in_word w m)) ≤ length r
  pub ends : end ≡ at + length (member_bytes told)
  pub bytes : room ≡ (take at r ++ member_bytes told) ++ drop end r

pub tell_start : (w m at : ℕ) (r : List ℕ) → at + length (member_bytes (in_word w m)) ≤ length r → Telling w m at r r w at
tell_start w m at r h = record {
  told = [];
  whole = refl;
  fits = h;
  ends = let z = ap length no_bytes in omega arith;
  bytes = sym (ap (λ (x : List ℕ). (take at r ++ x) ++ drop at r) no_bytes ∙ ap (λ (x : List ℕ). x ++ drop at r) (append-nil (take at r)) ∙ take-append-drop at r);
}

module _ {w m at : ℕ} {r room : List ℕ} {v end : ℕ} (s : Telling w m at r room v end) where
  abbrev so_far : List ℕ
  so_far = take at r ++ member_bytes s.told

  front : length so_far ≡ end
  front =
      let f = s.fits in
      let e = s.ends in
      let a = length-append (take at r) (member_bytes s.told) in
      let b = length-take-le at r (omega arith) in
      omega arith

  all : length (member_bytes (in_word w m)) ≡ length (member_bytes s.told) + length (member_bytes (in_word v m))
  all = ap (λ (l : List ℕ). length (member_bytes l)) s.whole ∙ ap length (bytes_append s.told (in_word v m)) ∙ length-append (member_bytes s.told) (member_bytes (in_word v m))

  pub tell_long : length room ≡ length r
  tell_long =
      let f = s.fits in
      let e = s.ends in
      let a = all in
      let b = front in
      ap length s.bytes ∙ length-append so_far (drop end r) ∙ ap₂ ◌+◌ b (length-drop end r) ∙ omega arith

  module _ {t : ℕ} (tr : Trail v 64 t) where
    abbrev others : List ℕ
    others = in_word (bit_and v (v - 1)) m

    pub tell_less : length (in_word (bit_and v (v - 1)) m) < length (in_word v m)
    tell_less = let q = ap length (word_more v m tr) in omega arith

    pub tell_room : end + length (member (m + t)) ≤ length room
    tell_room =
        let q = ap (λ (l : List ℕ). length (member_bytes l)) (word_more v m tr) ∙ bytes_cons_long (m + t) others in
        let a = all in
        let f = s.fits in
        let e = s.ends in
        let l = tell_long in
        omega arith

    -- the next member's bytes behind the others
    pub tell_put : {room' : List ℕ} {n end' : ℕ} → Put (m + t) end room room' n → end' ≡ end + length (member (m + t)) → Telling w m at r room' (bit_and v (v - 1)) end'
    tell_put {end' = end'} p q =
        let e = s.ends in
        let part = member (m + t) in
        let la = ap length (bytes_more s.told (m + t)) ∙ length-append (member_bytes s.told) part in
        record {
          told = s.told ++ ((m + t) ∷ []);
          whole = s.whole ∙ ap (λ (l : List ℕ). s.told ++ l) (word_more v m tr) ∙ sym (append_assoc s.told ((m + t) ∷ []) others);
          fits = s.fits;
          ends = omega arith;
          bytes = p.bytes ∙ ap (λ (j : ℕ). take end room ++ (part ++ drop j room)) p.ends ∙ joined room so_far part r end (length part) front s.bytes
              ∙ ap₂ (λ (y : List ℕ) (j : ℕ). y ++ drop j r) (append_assoc (take at r) (member_bytes s.told) part ∙ ap (λ (y : List ℕ). take at r ++ y) (sym (bytes_more s.told (m + t)))) (sym q);
        }

  pub tell_end : v ≡ 0 → Told w m at r room end
  tell_end z =
      let whole : in_word w m ≡ s.told = s.whole ∙ ap (λ (l : List ℕ). s.told ++ l) (word_none v m z) ∙ append-nil s.told in
      record {
        ends = s.ends ∙ ap (λ (l : List ℕ). at + length (member_bytes l)) (sym whole);
        bytes = s.bytes ∙ append_assoc (take at r) (member_bytes s.told) (drop end r) ∙ ap (λ (l : List ℕ). take at r ++ (member_bytes l ++ drop end r)) (sym whole);
      }

-- ---- the members of all words

-- those below event b are written at the front of the room r, which is long enough for all
pub record Spelling (ws r R : List ℕ) (b end : ℕ) : Type 0 where
  pub within : b ≤ room ws
  pub fits : length (member_bytes (members (room ws) (set_of ws))) ≤ length r
  pub so_far_lem : Spelled ws r R b end

pub spell_start : {ws r : List ℕ} {b end : ℕ} → b ≤ room ws → Begun ws b r end → Spelling ws r r b end
spell_start h g = record { within = h; fits = g.fits; so_far_lem = g.begins }

module _ {ws r R : List ℕ} {b end : ℕ} (s : Spelling ws r R b end) where
  abbrev S : Set
  S = set_of ws

  written : {b' : ℕ} → b' ≤ room ws → length (member_bytes (members b' S)) ≤ length r
  written {b'} h =
      let f = s.fits in
      let z = fewer_bytes S b' (room ws) h in
      omega arith

  pub spell_long : length R ≡ length r
  spell_long =
      let i = written s.within in
      let e = s.so_far_lem.ends in
      ap length s.so_far_lem.bytes ∙ length-append (member_bytes (members b S)) (drop end r) ∙ ap₂ ◌+◌ (sym e) (length-drop end r) ∙ omega arith

  -- a word more, whose members come next
  module _ {b' : ℕ} (w m : ℕ) (h : b' ≤ room ws) (more : members b' S ≡ members b S ++ in_word w m) where
    longer : length (member_bytes (members b' S)) ≡ end + length (member_bytes (in_word w m))
    longer =
        ap (λ (l : List ℕ). length (member_bytes l)) more ∙ ap length (bytes_append (members b S) (in_word w m))
        ∙ length-append (member_bytes (members b S)) (member_bytes (in_word w m)) ∙ ap (λ (n : ℕ). n + length (member_bytes (in_word w m))) (sym s.so_far_lem.ends)

    pub spell_room : end + length (member_bytes (in_word w m)) ≤ length R
    spell_room =
        let f = written h in
        let l = longer in
        let g = spell_long in
        omega arith

    pub spell_more : {end' : ℕ} {R' : List ℕ} → Told w m end R R' end' → Spelling ws r R' b' end'
    spell_more t =
        let e = t.ends in
        let q = t.bytes in
        let word = member_bytes (in_word w m) in
        record {
          within = h;
          fits = s.fits;
          so_far_lem = record {
            ends = e ∙ sym longer;
            bytes = q ∙ ap (λ (j : ℕ). take end R ++ (word ++ drop j R)) e ∙ joined R (member_bytes (members b S)) word r end (length word) (sym s.so_far_lem.ends) s.so_far_lem.bytes
                ∙ ap₂ (λ (x : List ℕ) (j : ℕ). x ++ drop j r) (sym (ap member_bytes more ∙ bytes_append (members b S) (in_word w m))) (sym e);
          };
        }

  -- all of them, where no member is left
  pub spell_end : members (room ws) S ≡ members b S → Spelled ws r R (room ws) end
  spell_end q = record {
    ends = s.so_far_lem.ends ∙ ap (λ (l : List ℕ). length (member_bytes l)) (sym q);
    bytes = s.so_far_lem.bytes ∙ ap (λ (l : List ℕ). member_bytes l ++ drop end r) (sym q);
  }

-- ---- a cut

-- with the end of the cut behind its members
pub laid_cut : (ws r : List ℕ) {size end : ℕ} {R : List ℕ} → size ≡ length (set_bytes (room ws) (set_of ws)) → size ≤ length r → Spelled ws r R (room ws) end → Laid (set_bytes (room ws) (set_of ws)) r (Some (end + 1)) (set R end 0x22)
unfolding cut_bytes
laid_cut ws r {size} {end} {R} q h s =
    let l = members (room ws) (set_of ws) in
    let c = cut_long l in
    let e = s.ends in
    (omega arith, omega arith, ap (λ (x : List ℕ). set x end 0x22) s.bytes ∙ seam (member_bytes l) r end 0x22 (sym e) (omega arith))

pub laid_short : (cut r : List ℕ) {size : ℕ} → size ≡ length cut → length r < size → Laid cut r None r
laid_short cut r q h = (omega arith, refl)

-- where the whole cut fits, its members do
pub members_fit : (ws r : List ℕ) {size : ℕ} → size ≡ length (set_bytes (room ws) (set_of ws)) → size ≤ length r → length (member_bytes (members (room ws) (set_of ws))) < length r
members_fit ws r q h = let c = cut_long (members (room ws) (set_of ws)) in omega arith
