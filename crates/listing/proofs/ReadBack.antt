-- The members of a cut read back from its bytes.
-- Assumes nothing.
use mathlib.Core.Path.{◌≡◌, refl, sym, ap, ap₂, ◌∙◌}
use mathlib.Core.Bool.{true}
use mathlib.Core.List.{List, [], ◌∷◌, ◌++◌, append_assoc, append-nil}
use Prim.Native.Nat.{ℕ, ◌+◌, ◌-◌, ◌*◌, ◌/◌, ◌%◌, ◌≤◌, ◌<◌}
use native.Mathlib.Nat.{add-zero}
use native.Mathlib.Decide.{dec_lt}
use native.Mathlib.Omega.{arith}
use lib.ListN.{length, get_or, drop, replicate, length-append, length-drop}
use lib.Seq.{drop-drop, drop_at, get_or-drop}
use Rattle.paper.specs.Limits.{limits, wide_from}
use Rattle.paper.specs.Sets.{Set, put, of_events}
use Rattle.paper.specs.Listing.{member, member_bytes}
use Rattle.paper.proofs.Listing.{narrow, wide, narrow_long, wide_long, some_bytes, no_bytes, bytes_cons, bytes_cons_long}
use Rattle.sets.specs.Words.{words, set_of}
use Rattle.sets.proofs.Words.{empty_none}
use Rattle.walk.proofs.Carry.{events_more}
use Rattle.listing.specs.Bytes.{Stand, MemberAt, SomeMember, Told}

-- ---- one record

module _ {R : List ℕ} {at e : ℕ} (m : MemberAt R at e) where
  byte : (j : ℕ) {l : List ℕ} → member e ≡ l → get_or R (at + j) 0 ≡ get_or (l ++ m.behind) j 0
  byte j q = sym (get_or-drop at R j 0) ∙ ap (λ (x : List ℕ). get_or x j 0) (m.bytes ∙ ap (λ (x : List ℕ). x ++ m.behind) q)

  kind : {l : List ℕ} → member e ≡ l → get_or R at 0 ≡ get_or (l ++ m.behind) 0 0
  kind q = ap (λ (j : ℕ). get_or R j 0) (sym (add-zero at)) ∙ byte 0 q

  long : length R - at ≡ length (member e) + length m.behind
  long = sym (length-drop at R) ∙ ap length m.bytes ∙ length-append (member e) m.behind

  pub two_bytes : at + 1 < length R
  two_bytes = let l = long in let s = some_bytes e in omega arith

  -- its kind tells how many bytes its number has
  is_narrow : get_or R at 0 ≡ 0x21 → e < wide_from
  is_narrow h = go (dec_lt e wide_from)
    where
      go : Dec (e < wide_from) → e < wide_from
      go (yes l) = l
      go (no l) = let k = kind (wide e (omega arith)) in absurd (omega (arith, h, k))

  is_wide : (get_or R at 0 ≡ 0x21 → ⊥) → wide_from ≤ e
  is_wide h = go (dec_lt e wide_from)
    where
      go : Dec (e < wide_from) → wide_from ≤ e
      go (yes l) = absurd (h (kind (narrow e l)))
      go (no l) = omega arith

  pub three_bytes : (get_or R at 0 ≡ 0x21 → ⊥) → at + 2 < length R
  three_bytes h = let l = long in let s = wide_long e (is_wide h) in omega arith

  pub told_narrow : get_or R at 0 ≡ 0x21 → (get_or R (at + 1) 0 ≡ e) × (2 ≡ length (member e))
  told_narrow h = (byte 1 (narrow e (is_narrow h)), sym (narrow_long e (is_narrow h)))

  pub told_wide : (get_or R at 0 ≡ 0x21 → ⊥) → (get_or R (at + 1) 0 + 256 * get_or R (at + 2) 0 ≡ e) × (3 ≡ length (member e))
  told_wide h =
      let w = wide e (is_wide h) in
      let a : get_or R (at + 1) 0 ≡ e % 256 = byte 1 w in
      let b : get_or R (at + 2) 0 ≡ e / 256 = byte 2 w in
      (omega (arith, a, b), sym (wide_long e (is_wide h)))

-- ---- the first of some members, and the others behind it

pub record First (R : List ℕ) (at to : ℕ) (es : List ℕ) : Type 0 where
  pub event : ℕ
  pub others : List ℕ
  pub is : es ≡ event ∷ others
  pub small : event < limits.events
  pub stands : MemberAt R at event
  pub next : Stand R (at + length (member event)) to others

pub first : (R : List ℕ) (at to : ℕ) (es : List ℕ) → Stand R at to es → at < to → First R at to es
first R at to [] s h = let e = s.ends in let z = ap length no_bytes in absurd (omega arith)
first R at to (e ∷ es) s h =
    let w = length (member e) in
    let here : drop at R ≡ member e ++ (member_bytes es ++ drop to R) =
    s.bytes ∙ ap (λ (l : List ℕ). l ++ drop to R) (bytes_cons e es) ∙ append_assoc (member e) (member_bytes es) (drop to R) in
    record {
      event = e;
      others = es;
      is = refl;
      small = s.below.0;
      stands = record { behind = member_bytes es ++ drop to R; bytes = here };
      next = record {
        bytes = sym (drop-drop w at R) ∙ ap (drop w) here ∙ drop_at (member e) (member_bytes es ++ drop to R) w refl;
        ends = let a = s.ends in let b = bytes_cons_long e es in omega arith;
        inside = s.inside;
        below = s.below.1;
      };
    }

-- ---- member by member

-- of the members es those up to `at` are in the set, and the others stand behind
pub record Reading (R : List ℕ) (to at : ℕ) (out es : List ℕ) : Type 0 where
  pub done : List ℕ
  pub rest : List ℕ
  pub whole : es ≡ done ++ rest
  pub is : set_of out ≡ of_events done
  pub stand : Stand R at to rest

pub read_start : {R : List ℕ} {from to : ℕ} {out : List ℕ} → out ≡ replicate words 0 → (es : List ℕ) → Stand R from to es → Reading R to from out es
unfolding of_events
read_start q es s = record { done = []; rest = es; whole = refl; is = ap set_of q ∙ empty_none words; stand = s }

module _ {R : List ℕ} {to at : ℕ} {out es : List ℕ} (g : Reading R to at out es) where
  module _ (h : at < to) where
    abbrev f : First R at to g.rest
    f = first R at to g.rest g.stand h

    pub read_member : SomeMember R at
    read_member = record { event = f.event; stands = f.stands }

    module _ {e w : ℕ} (tell : Told R at e w) where
      pub read_small : e < limits.events
      read_small = let a = f.small in let b = (tell f.event f.stands).0 in omega arith

      pub read_on : at < at + w
      read_on = let a = some_bytes f.event in let b = (tell f.event f.stands).1 in omega arith

      pub read_inside : at + w ≤ to
      read_inside = let a = f.next.ends in let b = (tell f.event f.stands).1 in omega arith

      pub read_more : {out' : List ℕ} → set_of out' ≡ put e true (set_of out) → Reading R to (at + w) out' es
      read_more add =
          let t = tell f.event f.stands in
          let x = f.event in
          record {
            done = g.done ++ (x ∷ []);
            rest = f.others;
            whole = g.whole ∙ ap (λ (l : List ℕ). g.done ++ l) f.is ∙ sym (append_assoc g.done (x ∷ []) f.others);
            is = add ∙ ap₂ (λ (y : ℕ) (S : Set). put y true S) t.0 g.is ∙ sym (events_more g.done x);
            stand = next_at t.1;
          }
        where
          next_at : w ≡ length (member f.event) → Stand R (at + w) to f.others
          next_at q = rw q f.next

  pub read_end : to ≤ at → set_of out ≡ of_events es
  read_end h = g.is ∙ ap of_events (sym (g.whole ∙ ap (λ (l : List ℕ). g.done ++ l) (none g.rest g.stand) ∙ append-nil g.done))
    where
      none : (l : List ℕ) → Stand R at to l → l ≡ []
      none [] s = refl
      none (e ∷ l) s = let a = s.ends in let b = bytes_cons_long e l in let c = some_bytes e in absurd (omega arith)
