-- Cuts counted room by room.
-- Assumes nothing.
use Rattle.std.proofs.Common.{◌≡◌, ℕ, ◌+◌, ◌%◌, ◌^◌, Bool, true, false, List, length, ap, ◌∙◌, subst, true≢false, arith, length-append}
use Rattle.paper.specs.Diagrams.{Diagram}
use Rattle.paper.specs.Cuts.{sets_of}
use Rattle.walk.specs.After.{to_list}
use Rattle.listing.specs.Answers.{GoodStart}
use Rattle.followup.specs.Rooms.{Next}

abbrev M : ℕ
M = 18446744073709551616

-- a sum that wraps may wrap at each step
wrap : (t k l N : ℕ) → (t + (k + l)) % M ≡ N % M → ((t + k) % M + l) % M ≡ N % M
wrap t k l N h = omega arith

-- the cuts counted and those left are all, in a sum that wraps
pub record Counted (n : ℕ) (d : Diagram) (begin : Bool) (ws room : List ℕ) (total : ℕ) : Type 0 where
  pub within : GoodStart n begin ws
  pub long : length room ≡ 65536
  pub sum : (total + length (to_list n d begin ws)) % M ≡ length (sets_of d) % M

pub count_none : (n : ℕ) (d : Diagram) (ws room : List ℕ) → length room ≡ 65536 → Counted n d true ws room 0
count_none n d ws room l = record { within = λ z. absurd (true≢false z); long = l; sum = ap (λ (k : ℕ). k % M) (let e : 0 + length (sets_of d) ≡ length (sets_of d) = omega arith in e) }

module _ {n : ℕ} {d : Diagram} {begin : Bool} {ws room : List ℕ} {total : ℕ} (c : Counted n d begin ws room total) {room' : List ℕ} {number place count used : ℕ} {last : List ℕ} {finished : Bool}
    (x : Next n d begin ws room' number place count used last finished) {total' : ℕ} (e : total' ≡ (total + count) % 2 ^ 64) where
  counted : (total' + length x.left) % M ≡ length (sets_of d) % M
  counted =
      let w = ap length x.whole ∙ length-append x.written x.left in
      let k = x.cuts in
      let s = c.sum in
      let q : length (to_list n d begin ws) ≡ count + length x.left = omega arith in
      ap (λ (t : ℕ). (t + length x.left) % M) e ∙ wrap total count (length x.left) (length (sets_of d)) (subst (λ (k : ℕ). (total + k) % M ≡ length (sets_of d) % M) q s)

  pub count_more : length room' ≡ length room → Counted n d false last room' total'
  count_more l = record { within = x.within; long = l ∙ c.long; sum = ap (λ (k : ℕ). (total' + k) % M) (ap length x.after) ∙ counted }

  pub count_end : finished ≡ true → total' ≡ length (sets_of d) % 2 ^ 64
  count_end f =
      let z = ap length (x.end.0 f) in
      let h = counted in
      let b : total' ≡ (total + count) % M = e in
      omega arith
