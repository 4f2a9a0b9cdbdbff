-- Texts laid piece by piece, and in a loop.
-- Assumes nothing.
use mathlib.Core.Path.{◌≡◌, refl, sym, ap, ◌∙◌, subst}
use mathlib.Core.List.{List, [], ◌++◌, append_assoc, append-nil}
use Prim.Native.Nat.{ℕ, ◌+◌, ◌-◌, ◌≤◌, ◌<◌}
use native.Mathlib.Omega.{arith}
use lib.ListN.{length, take, drop, length-append}
use Rattle.paper.specs.Exporting.{decimal}
use Rattle.decimals.specs.Places.{Put, Ends}
use Rattle.decimals.proofs.Putting.{put_none, put_long, put_then, ends_part}
use Rattle.decimals.proofs.Decimals.{decimal_long}
use Rattle.exporting.specs.Laying.{Laid}

pub lay_put : {room : List ℕ} {at : ℕ} {s room' : List ℕ} {end : ℕ} → Put room at s room' end → Laid room at s room' end
lay_put p = record { to = p.to; long = put_long p; put = λ _. p }

-- what does not fit is counted
pub lay_past : (room : List ℕ) (at : ℕ) (s : List ℕ) → length room < at + length s → Laid room at s room (at + length s)
lay_past room at s h = record { to = refl; long = refl; put = λ l. absurd (omega arith) }

pub lay_none : (room : List ℕ) (at : ℕ) → Laid room at [] room at
lay_none room at = record { to = omega arith; long = refl; put = λ h. put_none room at h }

pub lay_then : {room : List ℕ} {at : ℕ} {s room' : List ℕ} {end : ℕ} {s' room'' : List ℕ} {end' : ℕ} → Laid room at s room' end → Laid room' end s' room'' end' → Laid room at (s ++ s') room'' end'
lay_then {s = s} {s' = s'} p q =
    let t = p.to in
    let u = q.to in
    let l = p.long in
    let a = length-append s s' in
    record { to = omega arith; long = q.long ∙ p.long; put = λ h. put_then (p.put (omega arith)) (q.put (omega arith)) }

pub lay_same : {room : List ℕ} {at : ℕ} {s s' room' : List ℕ} {end : ℕ} → s' ≡ s → Laid room at s room' end → Laid room at s' room' end
lay_same {room} {at} {room' = room'} {end} e p = subst (λ (x : List ℕ). Laid room at x room' end) (sym e) p

-- a word, and the digits at the end of a row of 20
pub lay_digits : {room : List ℕ} {at : ℕ} {word room' : List ℕ} {a : ℕ} (n : ℕ) {row : List ℕ} {from : ℕ} {room'' : List ℕ} {end : ℕ}
    → Laid room at word room' a → Ends from row (decimal n) → length row ≡ 20 → Laid room' a (take (20 - from) (drop from row)) room'' end
    → Laid room at (word ++ decimal n) room'' end × (end ≤ at + length word + 20)
lay_digits {word = word} n p d long q =
    let all = lay_then p (lay_same (sym (ends_part d long)) q) in
    let t = all.to in
    let m = decimal_long n in
    let w = length-append word (decimal n) in
    (all, omega arith)

-- ---- a text in a loop: its front is laid, and this is the rest

pub record Part (text room : List ℕ) (at : ℕ) (rest room' : List ℕ) (end : ℕ) : Type 0 where
  pub front : List ℕ
  pub laid : Laid room at front room' end
  pub is : text ≡ front ++ rest

pub part_none : (text room : List ℕ) (at : ℕ) → Part text room at text room at
part_none text room at = record { front = []; laid = lay_none room at; is = refl }

module _ {text room : List ℕ} {at : ℕ} {rest room' : List ℕ} {end : ℕ} (v : Part text room at rest room' end) where
  pub part_more : {s rest' room'' : List ℕ} {end' : ℕ} → rest ≡ s ++ rest' → Laid room' end s room'' end' → Part text room at rest' room'' end'
  part_more {s} {rest'} e p =
      record { front = v.front ++ s; laid = lay_then v.laid p; is = v.is ∙ ap (λ (x : List ℕ). v.front ++ x) e ∙ sym (append_assoc v.front s rest') }

  pub part_end : rest ≡ [] → Laid room at text room' end
  part_end e = lay_same (v.is ∙ ap (λ (x : List ℕ). v.front ++ x) e ∙ append-nil v.front) v.laid
