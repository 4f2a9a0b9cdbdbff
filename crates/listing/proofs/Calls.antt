-- The listing call, cut by cut.
-- Assumes nothing.
use mathlib.Core.Path.{◌≡◌, refl, sym, ap, ap₂, ◌∙◌, subst}
use mathlib.Core.Bool.{Bool, true, false≢true}
use mathlib.Core.List.{List, [], ◌∷◌, ◌++◌, append_assoc, append-nil}
use Prim.Native.Nat.{ℕ, zero, suc, ◌+◌, ◌-◌, ◌≤◌, ◌<◌}
use native.Mathlib.Omega.{arith}
use lib.ListN.{length, take, drop, length-append, length-drop}
use lib.Seq.{length-take-le, drop-drop, drop_at}
use Rattle.paper.specs.Lists.{last_or}
use Rattle.std.proofs.Common.{Some, None}
use Rattle.paper.specs.Sets.{Set, of_events, members}
use Rattle.paper.specs.Listing.{member_bytes, cut_bytes, set_bytes, sets_bytes}
use Rattle.paper.proofs.Listing.{cut_long}
use Rattle.algebra.proofs.Lists.{flat_append}
use Rattle.sets.specs.Words.{set_of}
use Rattle.sets.proofs.Bytes.{joined}
use Rattle.walk.specs.Paths.{events_of, along, around, Open, Reached}
use Rattle.walk.proofs.Paths.{around_one}
use Rattle.listing.specs.Bytes.{Placed, Stand, SomeStand, LastRead}
use Rattle.listing.specs.Answers.{Short}
use Rattle.listing.specs.Calls.{Stopped, Listing, short, wrote}
use Rattle.listing.proofs.Bytes.{path_bytes, path_below}

-- ---- lists of sets

pub bytes_append : (n : ℕ) (p q : List Set) → sets_bytes n (p ++ q) ≡ sets_bytes n p ++ sets_bytes n q
bytes_append n p q = flat_append (set_bytes n) p q

bytes_more : (n : ℕ) (p : List Set) (S : Set) → sets_bytes n (p ++ (S ∷ [])) ≡ sets_bytes n p ++ set_bytes n S
bytes_more n p S = bytes_append n p (S ∷ []) ∙ ap (λ (x : List ℕ). sets_bytes n p ++ x) (append-nil (set_bytes n S))

last_more : (b : Set) (p : List Set) (S : Set) → last_or b (p ++ (S ∷ [])) ≡ S
last_more b [] S = refl
last_more b (U ∷ p) S = last_more U p S

pub nil_cons : {S : Set} {q : List Set} → [] ≡ S ∷ q → ⊥
nil_cons e = let z : ◌≡◌ {A = ℕ} 0 1 = cc in omega arith

same_head : {S U : Set} {p q : List Set} → (S ∷ p) ≡ (U ∷ q) → S ≡ U
same_head e = cc

len_zero : (l : List Set) → length l ≡ 0 → l ≡ []
len_zero [] e = refl
len_zero (S ∷ l) e = absurd (omega arith)

-- ---- the loop

-- the cut from byte `from` to byte `used` is that of the set S
pub record Last (room : List ℕ) (from used : ℕ) (S : Set) : Type 0 where
  pub events : List ℕ
  pub stand : Stand room from (used - 1) events
  pub is : of_events events ≡ S

-- the sets left at the path of a cut: its own is the first, and some stand behind it
pub next_of : {n : ℕ} {T : List ℕ} {c : ℕ} {P : List ℕ} {d : ℕ} {l : List Set} → Reached n T c P d l → l ≡ along T (take d P) ∷ around T (take d P) []
next_of {T = T} {P = P} {d = d} r = r.is ∙ around_one T (take d P) []

-- where the loop is: the cuts written, the last of them in the bytes from `from` on, and those left
pub record Run (n : ℕ) (l left : List Set) (base room₀ room : List ℕ) (from used k : ℕ) : Type 0 where
  pub written : List Set
  pub whole : l ≡ written ++ left
  pub count : k ≡ length written
  pub count_le : k ≤ used
  pub bytes_used : used ≡ length (sets_bytes n written)
  pub bytes : room ≡ sets_bytes n written ++ drop used room₀
  pub within : used ≤ length room₀
  pub from_le : from ≤ used
  pub none : k ≡ 0 → used ≤ from
  pub last : 0 < k → (from < used) × Last room from used (last_or (set_of base) written)

pub run_start : (n : ℕ) (l : List Set) (base room₀ : List ℕ) → Run n l l base room₀ room₀ 0 0 0
run_start n l base room₀ = record {
  written = [];
  whole = refl;
  count = refl;
  count_le = omega arith;
  bytes_used = refl;
  bytes = refl;
  within = omega arith;
  from_le = omega arith;
  none = λ h. omega arith;
  last = λ h. absurd (omega arith);
}

module _ {n : ℕ} {l left : List Set} {base room₀ room : List ℕ} {from used k : ℕ} (r : Run n l left base room₀ room from used k) where
  pub run_long : length room ≡ length room₀
  run_long = let h = r.within in let u = r.bytes_used in ap length r.bytes ∙ simp (length-append, length-drop) (omega arith)

  pub run_inside : (from ≤ used) × (from < used → SomeStand room from (used - 1))
  run_inside = (r.from_le, λ h. go k refl h)
    where
      go : (j : ℕ) → k ≡ j → from < used → SomeStand room from (used - 1)
      go zero e h = let n = r.none e in absurd (omega arith)
      go (suc j) e h = let l = (r.last (omega arith)).1 in record { events = l.events; stand = l.stand }

  -- the last set, as it was read back
  run_last : (last : List ℕ) → LastRead room from used base last → set_of last ≡ last_or (set_of base) r.written
  run_last last (z, s) = go k refl
    where
      go : (j : ℕ) → k ≡ j → set_of last ≡ last_or (set_of base) r.written
      go zero e = ap set_of (z (r.none e)) ∙ ap (last_or (set_of base)) (sym (len_zero r.written (sym r.count ∙ e)))
      go (suc j) e = let h = r.last (omega arith) in s h.0 h.1.events h.1.stand ∙ h.1.is

  -- the loop ends: no cut is left
  pub run_end : {last : List ℕ} {a b k' used' : ℕ} {last' : List ℕ} {fin : Bool} → left ≡ [] → LastRead room from used base last
      → (a ≡ 0) × (b ≡ 0) × (k' ≡ k) × (used' ≡ used) × (last' ≡ last) × (fin ≡ true) → Listing n l (set_of base) room₀ room a b k' used' last' fin
  run_end {last} z q y =
      let u = r.bytes_used in
      let w = r.within in
      wrote (record {
        written = r.written;
        left = left;
        whole = r.whole;
        within = omega arith;
        full = λ S y p. absurd (nil_cons (sym z ∙ p));
        some = λ _. z;
        is = y.0;
        no_place = y.1;
        cuts = y.2 ∙ r.count;
        long = y.3 ∙ r.bytes_used;
        bytes = r.bytes ∙ ap (λ (j : ℕ). sets_bytes n r.written ++ drop j room₀) (sym y.3);
        last_set = ap set_of y.4 ∙ run_last last q;
        end = (λ _. z, λ _. y.5);
      })

  module _ {U : Set} {behind : List Set} (first : left ≡ U ∷ behind) where
    -- the next cut does not fit
    module _ {room' : List ℕ} (pl : Placed room used (set_bytes n U) None room') where
      pub short_inside : (from ≤ used) × (from < used → SomeStand room' from (used - 1))
      short_inside = subst (λ (x : List ℕ). (from ≤ used) × (from < used → SomeStand x from (used - 1))) (sym pl.1) run_inside

      pub run_short : {last : List ℕ} {a b k' used' : ℕ} {last' : List ℕ} {fin : Bool} → LastRead room' from used base last
          → Stopped k used last a b k' used' last' fin → Listing n l (set_of base) room₀ room' a b k' used' last' fin
      run_short {last} {a} {b} {k'} {used'} {last'} {fin} q st = judge k refl
        where
          long : length room < used + length (set_bytes n U)
          long = pl.0

          judge : (j : ℕ) → k ≡ j → Listing n l (set_of base) room₀ room' a b k' used' last' fin
          judge zero e =
              let f = st.none_yet e in
              let none_written : r.written ≡ [] = len_zero r.written (sym r.count ∙ e) in
              let no_byte : used ≡ 0 = r.bytes_used ∙ ap (λ (p : List Set). length (sets_bytes n p)) none_written in
              let lr = run_long in
              let lg = long in
              let all : l ≡ U ∷ behind = r.whole ∙ ap (λ (p : List Set). p ++ left) none_written ∙ first in
              short (subst (Short n (length room₀)) (sym all) (omega arith)) (record {
                is = f.is;
                no_place = f.no_place;
                no_cut = f.no_cut;
                no_byte = f.no_byte;
                empty_set = f.empty_set;
                unfinished = f.unfinished;
                kept = pl.1 ∙ r.bytes ∙ ap₂ (λ (p : List Set) (j : ℕ). sets_bytes n p ++ drop j room₀) none_written no_byte;
              })
          judge (suc j) e =
              let h : 0 < k = omega arith in
              let y = st.some_yet h in
              let u = r.bytes_used in
              let wi = r.within in
              let lr = run_long in
              let lg = long in
              wrote (record {
                written = r.written;
                left = left;
                whole = r.whole;
                within = omega arith;
                full = λ S x p.
                    let same : length (set_bytes n U) ≡ length (set_bytes n S) = ap (λ (V : Set). length (set_bytes n V)) (same_head (sym first ∙ p)) in
                    omega arith;
                some = λ none. absurd (let a : length r.written ≡ 0 = ap length none in let b = r.count in omega arith);
                is = y.0;
                no_place = y.1;
                cuts = y.2 ∙ r.count;
                long = y.3 ∙ r.bytes_used;
                bytes = pl.1 ∙ r.bytes ∙ ap (λ (j : ℕ). sets_bytes n r.written ++ drop j room₀) (sym y.3);
                last_set = ap set_of y.4 ∙ run_last last (subst (λ (x : List ℕ). LastRead x from used base last) pl.1 q);
                end = (λ t. absurd (false≢true (sym y.5 ∙ t)), λ x. absurd (nil_cons (sym x ∙ first)));
              })

    -- it was written
    module _ {w : ℕ} {room' : List ℕ} (pl : Placed room used (set_bytes n U) (Some w) room') where
      some : 0 < w
      some = let c = cut_long (members n U) in let p = pl.0 in omega arith

      pub run_fits : used + w ≤ length room₀
      run_fits = let p = pl.1 in let l = run_long in omega arith

      pub run_less : length room₀ - (used + w) < length room₀ - used
      run_less = let p = run_fits in let more = some in omega arith

      -- the members of a path's cut stand where it was placed
      stands : {T : List ℕ} {c : ℕ} {P : List ℕ} {d : ℕ} → Open n T c P d 1 → U ≡ along T (take d P) → Last room' used (used + w) U
      unfolding cut_bytes
      stands {T} {P = P} {d} o own =
          let p = pl in let more = some in
          let w-is = p.0 in
          let fits = p.1 in
          let t = events_of T (take d P) in
          let back = (0x22 ∷ []) ++ drop (used + w) room in
          let cut = ap (set_bytes n) own ∙ path_bytes o n (omega arith) in
          let size : w ≡ length (member_bytes t) + 1 = w-is ∙ ap length cut ∙ cut_long t in
          let is : room' ≡ take used room ++ (member_bytes t ++ back) =
          p.2 ∙ ap (λ (x : List ℕ). take used room ++ (x ++ drop (used + w) room)) cut ∙ ap (λ (x : List ℕ). take used room ++ x) (append_assoc (member_bytes t) (0x22 ∷ []) (drop (used + w) room)) in
          let stand : drop used room' ≡ member_bytes t ++ back = ap (drop used) is ∙ drop_at (take used room) (member_bytes t ++ back) used (length-take-le used room (omega arith)) in
          let ends : used + w - 1 ≡ used + length (member_bytes t) = omega arith in
          let rest : drop (used + w - 1) room' ≡ back =
          ap (λ (j : ℕ). drop j room') ends ∙ sym (drop-drop (length (member_bytes t)) used room') ∙ ap (drop (length (member_bytes t))) stand ∙ drop_at (member_bytes t) back (length (member_bytes t)) refl in
          let long : length room' - used ≡ length (member_bytes t) + length back = sym (length-drop used room') ∙ ap length stand ∙ length-append (member_bytes t) back in
          record {
            events = t;
            stand = record { bytes = stand ∙ ap (λ (x : List ℕ). member_bytes t ++ x) (sym rest); ends = ends; inside = omega arith; below = path_below o };
            is = sym own;
          }

      pub run_more : {T : List ℕ} {c : ℕ} {P : List ℕ} {d : ℕ} → Open n T c P d 1 → U ≡ along T (take d P) → Run n l behind base room₀ room' used (used + w) (k + 1)
      run_more o is =
          let p = pl in let more = some in
          let cl = r.count_le in
          let used_is : length (sets_bytes n r.written) ≡ used = sym r.bytes_used in
          record {
            written = r.written ++ (U ∷ []);
            whole = r.whole ∙ ap (λ (x : List Set). r.written ++ x) first ∙ sym (append_assoc r.written (U ∷ []) behind);
            count = ap (λ (n : ℕ). n + 1) r.count ∙ sym (length-append r.written (U ∷ []));
            count_le = omega arith;
            bytes_used = ap₂ ◌+◌ r.bytes_used p.0 ∙ sym (ap length (bytes_more n r.written U) ∙ length-append (sets_bytes n r.written) (set_bytes n U));
            bytes = p.2 ∙ joined room (sets_bytes n r.written) (set_bytes n U) room₀ used w used_is r.bytes ∙ ap (λ (x : List ℕ). x ++ drop (used + w) room₀) (sym (bytes_more n r.written U));
            within = run_fits;
            from_le = omega arith;
            none = λ h. absurd (omega arith);
            last = λ _. (omega arith, subst (Last room' used (used + w)) (sym (last_more (set_of base) r.written U)) (stands o is));
          }
