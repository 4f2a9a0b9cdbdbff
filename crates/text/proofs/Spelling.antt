-- The text of a listing's bytes: a line for each cut.
-- Assumes nothing.
use mathlib.Core.Path.{◌≡◌, refl, sym, ap, ap₂, ◌∙◌, subst}
use mathlib.Core.Bool.{Bool, true, false, cond}
use mathlib.Core.List.{List, [], ◌∷◌, ◌++◌, append_assoc, append-nil}
use Prim.Native.Nat.{ℕ, suc, ◌+◌, ◌*◌, ◌/◌, ◌%◌, ◌≤◌, ◌<◌}
use native.Mathlib.Numerals.{add-one}
use native.Mathlib.Omega.{arith}
use lib.Dec.{eqb}
use lib.ListN.{length, get_or, take, drop, drop_of_length-le}
use lib.Seq.{drop-cons, length-take-le}
use Rattle.paper.specs.Sets.{Set, members}
use Rattle.paper.specs.Exporting.{decimal}
use Rattle.paper.specs.Listing.{member, member_bytes, cut_bytes, sets_bytes}
use Rattle.paper.proofs.Listing.{narrow, wide, bytes_cons, by_width}
use Rattle.text.specs.Lines.{blank, line_end, behind, cut_line, cut_lines}
use Rattle.text.specs.Places.{Front, said, after, spelled}
use Rattle.text.specs.declared.cuts.Place.{Place}
use Rattle.text.specs.declared.cuts.Place.TheVariants.{Start, Event, Low, High, Behind}
use Rattle.decimals.specs.Places.{Put}
use Rattle.decimals.proofs.Putting.{put_none, put_then}
use Rattle.decimals.proofs.Decimals.{byte_long, two_long}
use Rattle.text.proofs.Putting.{put_counts}

-- ---- the loop

-- a number of two bytes says up to 5 digits at its second: the first leaves room for these
abbrev pub spare : Place → ℕ
spare Start = 0
spare Event = 0
spare Low = 0
spare (High low) = 2
spare Behind = 0

abbrev pub Byte : Place → Type 0
Byte Start = Unit {0}
Byte Event = Unit {0}
Byte Low = Unit {0}
Byte (High low) = low < 256
Byte Behind = Unit {0}

-- the text of the first i bytes of l stands at the front
pub record Spelt (l text text' : List ℕ) (place : Place) (at i : ℕ) : Type 0 where
  pub long : 3 * length l + 20 ≤ length text
  pub low : i ≤ length l
  pub byte : Byte place
  pub short : at + spare place ≤ 3 * i
  pub done : List ℕ
  pub put : Put text 0 done text' at
  pub is : spelled Start l ≡ done ++ spelled place (drop i l)

pub spell_none : (room : List ℕ) (used : ℕ) (text : List ℕ) → (used ≤ length room) × (3 * used + 20 ≤ length text) → Spelt (take used room) text text Start 0 0
spell_none room used text (h, k) = record { long = let z = length-take-le used room h in omega arith; low = omega arith; byte = tt; short = omega arith; done = []; put = put_none text 0 (omega arith); is = refl }

kind_long : (t u : Bool) (l r : List ℕ) → length l ≤ 1 → length r ≤ 1 → length (cond t l r) + spare (cond t Start (cond u Low Event)) ≤ 3
kind_long true u l r h k = omega arith
kind_long false true l r h k = omega arith
kind_long false false l r h k = omega arith

said_long : (p : Place) (b : ℕ) → Byte p → b < 256 → length (said p b) + spare (after p b) ≤ 3 + spare p
said_long Start b _ h = let a = kind_long (eqb b 0x22) (eqb b 0x23) line_end [] (omega arith) (omega arith) in omega (arith, a)
said_long Event b _ h = let a = byte_long b h in omega (arith, a)
said_long Low b _ h = omega arith
said_long (High l) b k h = let n : l + 256 * b < 65536 = omega arith in let a = two_long (l + 256 * b) n in omega (arith, a)
said_long Behind b _ h = let a = kind_long (eqb b 0x22) (eqb b 0x23) line_end blank (omega arith) (omega arith) in omega (arith, a)

kind_byte : (t u : Bool) → Byte (cond t Start (cond u Low Event))
kind_byte true u = tt
kind_byte false true = tt
kind_byte false false = tt

after_byte : (p : Place) (b : ℕ) → b < 256 → Byte (after p b)
after_byte Start b h = kind_byte (eqb b 0x22) (eqb b 0x23)
after_byte Event b h = tt
after_byte Low b h = h
after_byte (High l) b h = tt
after_byte Behind b h = kind_byte (eqb b 0x22) (eqb b 0x23)

module _ {l text text' : List ℕ} {place : Place} {at i : ℕ} (s : Spelt l text text' place at i) where
  pub spell_room : i < length l → at + 20 ≤ length text
  spell_room h = let l = s.long in let a = s.short in omega arith

  pub spell_more : i < length l → get_or l i 0 < 256 → {text'' : List ℕ} {at' : ℕ} {place' : Place} → Put text' at (said place (get_or l i 0)) text'' at' → place' ≡ after place (get_or l i 0)
      → Spelt l text text'' place' at' (i + 1)
  unfolding spelled
  spell_more h byte {text''} {at'} {place'} p e =
      let b = get_or l i 0 in
      let a = s.short in
      let k = said_long place b s.byte byte in
      let w = ap spare e in
      let t = p.to in
      let next : drop i l ≡ b ∷ drop (suc i) l = drop-cons l i 0 h in
      record {
        long = s.long;
        low = omega arith;
        byte = subst Byte (sym e) (after_byte place b byte);
        short = omega arith;
        done = s.done ++ said place b;
        put = put_then s.put p;
        is = s.is
            ∙ ap (λ (x : List ℕ). s.done ++ spelled place x) next
            ∙ sym (append_assoc s.done (said place b) (spelled (after place b) (drop (suc i) l)))
            ∙ ap₂ (λ (q : Place) (k : ℕ). s.done ++ said place b ++ spelled q (drop k l)) (sym e) (sym (add-one i));
      }

  pub spell_end : length l ≤ i → Front at text' (spelled Start l)
  unfolding spelled
  spell_end h =
      let z : spelled place (drop i l) ≡ [] = ap (spelled place) (drop_of_length-le l h) in
      let e : spelled Start l ≡ s.done = s.is ∙ ap (λ (x : List ℕ). s.done ++ x) z ∙ append-nil s.done in
      subst (λ (x : List ℕ). Front at text' x) (sym e) (put_counts s.put refl)

-- ---- the lines

-- a member's record says its number
module _ (e : ℕ) (t : List ℕ) where
  halves : e % 256 + 256 * (e / 256) ≡ e
  halves = omega arith

  first_is : spelled Start (member e ++ t) ≡ decimal e ++ spelled Behind t
  unfolding spelled
  first_is =
      by_width e (λ h. ap (λ (l : List ℕ). spelled Start (l ++ t)) (narrow e h))
      (λ h. ap (λ (l : List ℕ). spelled Start (l ++ t)) (wide e h) ∙ ap (λ (n : ℕ). decimal n ++ spelled Behind t) halves)

  next_is : spelled Behind (member e ++ t) ≡ blank ++ decimal e ++ spelled Behind t
  unfolding spelled
  next_is =
      by_width e (λ h. ap (λ (l : List ℕ). spelled Behind (l ++ t)) (narrow e h))
      (λ h. ap (λ (l : List ℕ). spelled Behind (l ++ t)) (wide e h) ∙ ap (λ (n : ℕ). blank ++ decimal n ++ spelled Behind t) halves)

cut_cons : (e : ℕ) (es l : List ℕ) → cut_bytes (e ∷ es) ++ l ≡ member e ++ (cut_bytes es ++ l)
unfolding cut_bytes
cut_cons e es l =
    ap (λ (t : List ℕ). t ++ (0x22 ∷ []) ++ l) (bytes_cons e es) ∙ ap (λ (t : List ℕ). t ++ l) (append_assoc (member e) (member_bytes es) (0x22 ∷ []))
    ∙ append_assoc (member e) (member_bytes es ++ (0x22 ∷ [])) l

-- the members behind the first, and the end of the cut
behind_is : (es l : List ℕ) → spelled Behind (cut_bytes es ++ l) ≡ behind es ++ spelled Start l
unfolding spelled member_bytes cut_bytes
behind_is [] l = refl
behind_is (e ∷ es) l =
    ap (spelled Behind) (cut_cons e es l) ∙ next_is e (cut_bytes es ++ l)
    ∙ ap (λ (x : List ℕ). blank ++ decimal e ++ x) (behind_is es l) ∙ sym (append_assoc (blank ++ decimal e) (behind es) (spelled Start l))

cut_is : (es l : List ℕ) → spelled Start (cut_bytes es ++ l) ≡ cut_line es ++ spelled Start l
unfolding spelled member_bytes cut_bytes cut_line
cut_is [] l = refl
cut_is (e ∷ es) l =
    ap (spelled Start) (cut_cons e es l) ∙ first_is e (cut_bytes es ++ l)
    ∙ ap (λ (x : List ℕ). decimal e ++ x) (behind_is es l) ∙ sym (append_assoc (decimal e) (behind es) (spelled Start l))

-- THE TEXT of the bytes of some sets: a line for each
pub spelled_lines : (n : ℕ) (l : List Set) → spelled Start (sets_bytes n l) ≡ cut_lines n l
unfolding spelled
spelled_lines n [] = refl
spelled_lines n (S ∷ l) = cut_is (members n S) (sets_bytes n l) ∙ ap (λ (x : List ℕ). cut_line (members n S) ++ x) (spelled_lines n l)
