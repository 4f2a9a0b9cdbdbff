-- The line: it begins with the bytes of the members that stay, which are copied, and gets those of the new ones; and how many bytes members have, by two counts.
-- Assumes nothing.
use mathlib.Core.Path.{◌≡◌, refl, sym, ap, ap₂, ◌∙◌}
use mathlib.Core.Bool.{Bool, true, false, cond}
use mathlib.Core.List.{List, ◌++◌, append_assoc}
use Prim.Native.Nat.{ℕ, ◌+◌, ◌-◌, ◌*◌, ◌/◌, ◌%◌, ◌^◌, ◌≤◌, ◌<◌}
use native.Mathlib.Numerals.{add-one}
use native.Mathlib.Omega.{arith}
use lib.Dec.{leb}
use lib.ListN.{length, get_or, set, take, drop}
use lib.Seq.{take-suc, take_at, drop_at, drop-drop, drop-append-add, length-take-le}
use borrow.Author.Tests.{leb-true, leb-false}
use Rattle.std.proofs.Common.{Some}
use Rattle.paper.specs.Limits.{wide_from}
use Rattle.paper.specs.Sets.{Set, members}
use Rattle.paper.specs.Lists.{keep, up_to}
use Rattle.paper.specs.Listing.{member_bytes, set_bytes}
use Rattle.paper.proofs.Listing.{no_bytes, bytes_append, cut_long}
use Rattle.sets.specs.Words.{set_of, room, Few, size_of}
use Rattle.sets.specs.Bytes.{in_word, Told, Spelled, Begun, Laid}
use Rattle.sets.specs.Beside.{Between, Ahead, Line, Counted, bytes_by}
use Rattle.sets.proofs.Bit.{from_bit}
use Rattle.sets.proofs.Count.{keep_agree, two_parts, fewer, members_all, count_le, narrow_bytes, fewer_bytes, wide_members, bytes_most}
use Rattle.sets.proofs.Bytes.{members_word, members_on, seam, Spelling, spell_start, spell_long, spell_room, spell_more, spell_end, laid_cut, members_fit}
use Rattle.sets.proofs.Beside.{low_word, high_word, all_members}

-- ---- copied

pub copy_more : (line r : List ℕ) {R : List ℕ} {k : ℕ} → k < length line → k < length r → R ≡ take k line ++ drop k r → set R k (get_or line k 0) ≡ take (k + 1) line ++ drop (k + 1) r
copy_more line r {k = k} h l e =
    ap (λ (x : List ℕ). set x k (get_or line k 0)) e ∙ seam (take k line) r k (get_or line k 0) (length-take-le k line (omega arith)) l
    ∙ ap (λ (x : List ℕ). x ++ drop (k + 1) r) (sym (ap (λ (n : ℕ). take n line) (add-one k) ∙ take-suc line k 0 h))

-- ---- still right

module _ {ws : List ℕ} {b : ℕ} {line : List ℕ} (l : Line ws b line) where
  abbrev S : Set
  S = set_of ws

  pub line_fewer : {c : ℕ} → c ≤ b → Line ws c line
  line_fewer {c} h =
      let more = keep S (up_to (b - c) (0 + c)) in
      record {
        long = l.long;
        behind = member_bytes more ++ l.behind;
        begins = l.begins ∙ ap (λ (x : List ℕ). x ++ l.behind) (ap member_bytes (two_parts S c b h) ∙ bytes_append (members c S) more) ∙ append_assoc (member_bytes (members c S)) (member_bytes more) l.behind;
      }

  -- of words that agree up to event b
  pub line_same : {ws' : List ℕ} → length ws' ≡ length ws → ((j : ℕ) → j < b → set_of ws' j ≡ S j) → Line ws' b line
  line_same {ws'} q h =
      let lg = l.long in
      record {
        long = omega arith;
        behind = l.behind;
        begins = l.begins ∙ ap (λ (x : List ℕ). member_bytes x ++ l.behind) (sym (keep_agree (set_of ws') S b 0 (λ j p r. h j (omega arith))));
      }

  -- what it has room for
  pub line_begun : {size : ℕ} → size ≡ length (member_bytes (members b S)) → Begun ws b line size
  line_begun {size} q =
      let lg = l.long in
      let m = bytes_most S (room ws) in
      record {
        fits = omega arith;
        begins = record { ends = q; bytes = l.begins ∙ ap (λ (x : List ℕ). member_bytes (members b S) ++ x) (sym (ap (drop size) l.begins ∙ drop_at (member_bytes (members b S)) l.behind size (sym q))) };
      }

  -- copied to the front of a room
  pub line_copied : {size : ℕ} (r : List ℕ) {R : List ℕ} → size ≡ length (member_bytes (members b S)) → R ≡ take size line ++ drop size r → Spelled ws r R b size
  line_copied {size} r q e = record { ends = q; bytes = e ∙ ap (λ (x : List ℕ). x ++ drop size r) (ap (take size) l.begins ∙ take_at (member_bytes (members b S)) l.behind size (sym q)) }

-- at the start it begins with no byte
pub line_none : {ws line : List ℕ} → 3 * room ws ≤ length line → Line ws 0 line
line_none {line = line} h = record { long = h; behind = line; begins = sym (ap (λ (x : List ℕ). x ++ line) no_bytes) }

-- with all members in it
pub line_all : {ws r line : List ℕ} {b end : ℕ} → 3 * room ws ≤ length line → Spelled ws r line b end → Line ws b line
line_all {r = r} {end = end} h s = record { long = h; behind = drop end r; begins = s.bytes }

-- ---- one part behind the other

module _ {ws r R : List ℕ} {b end : ℕ} (s : Spelled ws r R b end) where
  pub spelled_again : Spelled ws R R b end
  spelled_again =
      let bytes = member_bytes (members b (set_of ws)) in
      record { ends = s.ends; bytes = s.bytes ∙ ap (λ (x : List ℕ). bytes ++ x) (sym (ap (drop end) s.bytes ∙ drop_at bytes (drop end r) end (sym s.ends))) }

  pub spelled_on : {R' : List ℕ} {b' end' : ℕ} → b ≤ b' → Spelled ws R R' b' end' → Spelled ws r R' b' end'
  spelled_on {b' = b'} {end'} h t =
      let bytes = member_bytes (members b (set_of ws)) in
      let f = fewer_bytes (set_of ws) b b' h in
      let e = s.ends in
      let e' = t.ends in
      let at : end' ≡ length bytes + (end' - end) = omega arith in
      let to : end + (end' - end) ≡ end' = omega arith in
      record {
        ends = t.ends;
        bytes = t.bytes ∙ ap (λ (z : List ℕ). member_bytes (members b' (set_of ws)) ++ z)
            (ap₂ drop at s.bytes ∙ drop-append-add bytes (drop end r) (end' - end) ∙ drop-drop (end' - end) end r ∙ ap (λ (n : ℕ). drop n r) to);
      }

-- the same room, from here on
pub spell_again : {ws r R : List ℕ} {b end : ℕ} → Spelling ws r R b end → Spelling ws R R b end
spell_again s = let l = spell_long s in let f = s.fits in record { within = s.within; fits = omega arith; so_far_lem = spelled_again s.so_far_lem }

-- ---- the members from an event on, word by word

-- the rest of the event's own word
module _ {ws r : List ℕ} {low high end : ℕ} (b : Between ws low high) (g : Begun ws low r end) (f : get_or ws (low / 64) 0 < 2 ^ 64) where
  abbrev w : ℕ
  w = from_bit (get_or ws (low / 64) 0) (low % 64)

  start : Spelling ws r r low end
  start = let a = b.rise in let i = b.inside in spell_start (omega arith) g

  inside : (low / 64 + 1) * 64 ≤ room ws
  inside = let i = low_word b in omega arith

  pub first_room : end + length (member_bytes (in_word (from_bit (get_or ws (low / 64) 0) (low % 64)) (low / 64 * 64))) ≤ length r
  first_room = spell_room start w (low / 64 * 64) inside (members_on ws low f)

  pub first_word : {end' : ℕ} {R : List ℕ} → Told (from_bit (get_or ws (low / 64) 0) (low % 64)) (low / 64 * 64) end r R end' → Spelling ws r R ((low / 64 + 1) * 64) end'
  first_word t = spell_more start w (low / 64 * 64) inside (members_on ws low f) t

module _ {ws r R : List ℕ} {low high k end : ℕ} (b : Between ws low high) (s : Spelling ws r R (k * 64) end) where
  -- a word more
  module _ (h : k < high / 64 + 1) where
    more : (k + 1) * 64 ≤ room ws
    more = let i = high_word b in omega arith

    pub next_room : end + length (member_bytes (in_word (get_or ws k 0) (k * 64))) ≤ length R
    next_room = spell_room s (get_or ws k 0) (k * 64) more (members_word ws k)

    pub next_word : {end' : ℕ} {R' : List ℕ} → Told (get_or ws k 0) (k * 64) end R R' end' → Spelling ws r R' ((k + 1) * 64) end'
    next_word t = spell_more s (get_or ws k 0) (k * 64) more (members_word ws k) t

  -- no word more, in a room that the word of event c was the first to be written to
  pub no_word : k ≤ high / 64 + 1 → high / 64 + 1 ≤ k → {r₀ : List ℕ} {c end₀ : ℕ} → Spelling ws r₀ r c end₀ → Spelled ws r₀ R (room ws) end
  no_word u h t = let i = high_word b in spelled_on t.so_far_lem t.within (spell_end s (all_members b {k = k} (omega arith) (omega arith)))

-- ---- the bytes of members by two counts

-- on plain numbers: f of c members are among the first, and all have m bytes
some_of : {x f c count : ℕ} → x ≡ f → f ≤ c → count ≡ c → x ≤ count
some_of e h q = omega arith

by_two : {x f c count m : ℕ} → x ≡ f → m + f ≡ 3 * c → count ≡ c → 3 * count - x ≡ m
by_two e h q = omega arith

-- of the members below event b, where what stands ahead is right for event a
module _ {ws : List ℕ} {a : ℕ} {ahead : List ℕ} (w : Ahead ws a ahead) {b count : ℕ} (h : b ≤ a + 1) (i : b ≤ room ws) (q : count ≡ length (members b (set_of ws))) where
  few : (x : ℕ) → x ≡ wide_from → wide_from < b → get_or ahead (x / 64) 0 ≡ length (members x (set_of ws))
  few x e l = let y : x / 64 * 64 ≡ x = omega arith in w.is (x / 64) (omega arith) ∙ ap (λ (n : ℕ). length (members n (set_of ws))) y

  among : (x : ℕ) → x ≡ wide_from → wide_from < b → get_or ahead (x / 64) 0 ≤ count
  among x e l = some_of (few x e l) (fewer (set_of ws) x b (omega arith)) q

  pub counted : Few ws → Counted ahead count b
  counted f =
      let c = count_le (set_of ws) b 0 in
      let g = w.long in
      record { small = omega arith; inside = λ l. omega arith; among = among wide_from refl }

  by_width : (x : ℕ) → x ≡ wide_from → (t : Bool) → leb b x ≡ t → cond t (2 * count) (3 * count - get_or ahead (x / 64) 0) ≡ length (member_bytes (members b (set_of ws)))
  by_width x e true g = let n = narrow_bytes (set_of ws) b 0 (omega (arith, leb-true b x g)) in omega arith
  by_width x e false g = let l = leb-false b x g in by_two (few x e (omega arith)) (wide_members (set_of ws) {w = x} {b = b} e (omega arith)) q

  pub bytes_by_lem : bytes_by ahead count b ≡ length (member_bytes (members b (set_of ws)))
  unfolding bytes_by
  bytes_by_lem = by_width wide_from refl (leb b wide_from) refl

-- of all: no member is above high
module _ {ws : List ℕ} {low high : ℕ} (b : Between ws low high) {n : ℕ} (q : n ≡ size_of ws) where
  pub size_is : n ≡ length (members (high + 1) (set_of ws))
  size_is = let i = b.inside in q ∙ ap length (members_all (set_of ws) (high + 1) (room ws) (omega arith) (λ j g. b.within j (omega arith)))

  module _ {ahead : List ℕ} (w : Ahead ws high ahead) where
    pub size_counted : Few ws → Counted ahead n (high + 1)
    size_counted f = let i = b.inside in counted w (omega arith) (omega arith) size_is f

    pub cut_small : Few ws → {r : ℕ} → r ≡ bytes_by ahead n (high + 1) → r ≤ 196608
    cut_small f e =
        let i = b.inside in
        let m = e ∙ bytes_by_lem w (omega arith) (omega arith) size_is in
        let c = bytes_most (set_of ws) (high + 1) in
        omega arith

    pub cut_size : {r : ℕ} → r ≡ bytes_by ahead n (high + 1) → r + 1 ≡ length (set_bytes (room ws) (set_of ws))
    cut_size e =
        let i = b.inside in
        let all = members_all (set_of ws) (high + 1) (room ws) (omega arith) (λ j g. b.within j (omega arith)) in
        let m = e ∙ bytes_by_lem w (omega arith) (omega arith) size_is in
        let c = cut_long (members (room ws) (set_of ws)) ∙ ap (λ (l : List ℕ). length (member_bytes l) + 1) all in
        omega arith

-- of those that stay
module _ {ws : List ℕ} {low high : ℕ} (b : Between ws low high) {ahead : List ℕ} (w : Ahead ws high ahead) {kept : ℕ} (q : kept ≡ length (members low (set_of ws))) where
  pub kept_counted : Few ws → Counted ahead kept low
  kept_counted f = let r = b.rise in let i = b.inside in counted w (omega arith) (omega arith) q f

  pub kept_bytes : {at : ℕ} → at ≡ bytes_by ahead kept low → at ≡ length (member_bytes (members low (set_of ws)))
  kept_bytes e = let r = b.rise in let i = b.inside in e ∙ bytes_by_lem w (omega arith) (omega arith) q

-- ---- a cut

-- the bytes of the members below low, `at` of them, are in the line
module _ {ws line : List ℕ} {at low high : ℕ} (b : Between ws low high) (l : Line ws low line) (q : at ≡ length (member_bytes (members low (set_of ws)))) where
  pub kept_line : at ≤ length line
  kept_line =
      let c = bytes_most (set_of ws) low in
      let g = l.long in
      let r = b.rise in
      let i = b.inside in
      omega arith

  pub line_ready : Begun ws low line at
  line_ready = line_begun l q

  -- and the room that is left has place for the whole cut
  module _ (left : List ℕ) {size : ℕ} (e : size ≡ length (set_bytes (room ws) (set_of ws))) (h : size ≤ length left) where
    pub kept_left : at ≤ length left
    kept_left =
        let f = members_fit ws left e h in
        let r = b.rise in
        let i = b.inside in
        let w = fewer_bytes (set_of ws) low (room ws) (omega arith) in
        omega arith

    module _ {left₁ : List ℕ} (c : left₁ ≡ take at line ++ drop at left) where
      pub copied : length left₁ ≡ length left → Begun ws low left₁ at
      copied m = let f = members_fit ws left e h in record { fits = omega arith; begins = spelled_again (line_copied l left q c) }

      pub cut_done : {left₂ : List ℕ} {end : ℕ} → Spelled ws left₁ left₂ (room ws) end → Laid (set_bytes (room ws) (set_of ws)) left (Some (end + 1)) (set left₂ end 0x22)
      cut_done s = let r = b.rise in let i = b.inside in laid_cut ws left e h (spelled_on (line_copied l left q c) (omega arith) s)

  pub line_next : {line' : List ℕ} {end : ℕ} → length line' ≡ length line → Spelled ws line line' (room ws) end → Line ws (room ws) line'
  line_next m s = let g = l.long in line_all (omega arith) s
