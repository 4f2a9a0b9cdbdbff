-- Room after room: never refused, and fewer cuts are left after each that is not the last.
-- Assumes nothing.
use mathlib.Core.Path.{◌≡◌, refl, sym, ap, ◌∙◌, subst}
use mathlib.Core.Bool.{Bool, true, false}
use mathlib.Core.List.{List}
use Prim.Native.Nat.{ℕ, ◌≤◌, ◌<◌}
use native.Mathlib.Omega.{arith}
use lib.ListN.{length, drop, length-append}
use Rattle.paper.specs.Diagrams.{Diagram}
use Rattle.paper.specs.Listing.{sets_bytes, fitting}
use Rattle.tables.specs.Table.{den}
use Rattle.tables.specs.Lent.{Lent}
use Rattle.walk.specs.After.{to_list}
use Rattle.listing.specs.Answers.{start_of, GoodStart, Written, Answered}
use Rattle.listing.proofs.Join.{part, goes_on}
use Rattle.promises.proofs.Serving.{serves, hands_on}
use Rattle.followup.specs.Rooms.{longest, Next}

module _ {n : ℕ} {T : List ℕ} {c root : ℕ} {begin : Bool} {ws room room' : List ℕ} {place count used : ℕ} {last : List ℕ} {finished : Bool} where
  zero_next : Written n (den T root) (start_of begin ws) (fitting n (length room) (to_list n (den T root) begin ws)) room room' 0 place count used last finished
      → Answered n T c root begin ws room room' 0 place count used last finished → Next n (den T root) begin ws room' 0 place count used last finished
  zero_next d a =
      let p = part a in
      let w = fitting n (length room) (to_list n (den T root) begin ws) in
      let b = ap length d.bytes ∙ length-append (sets_bytes n w) (drop used room) in
      let l = d.long in
      record {
        is = refl;
        no_place = d.no_place;
        written = w;
        left = p.q;
        whole = p.whole;
        after = p.after.is;
        within = hands_on a;
        inside = omega arith;
        bytes = p.bytes;
        cuts = p.cuts;
        end = p.end;
        on = goes_on a;
      }

-- NEVER REFUSED
pub never_refused : {n : ℕ} {T : List ℕ} {c root : ℕ} {begin : Bool} {ws room room' : List ℕ} {number place count used : ℕ} {last : List ℕ} {finished : Bool}
    → Lent true n T c root → GoodStart n begin ws → longest ≤ length room
    → Answered n T c root begin ws room room' number place count used last finished → Next n (den T root) begin ws room' number place count used last finished
never_refused lent ok h (Answered.no_diagram e r) = absurd (e lent)
never_refused lent ok h (Answered.beyond v e b r) = absurd (ok e b)
never_refused lent ok h (Answered.short v w s r) =
    absurd (let few = lent.few_events in let z = serves (Answered.short v w s r) lent ok (omega arith) in let e = r.is in omega arith)
never_refused {n} {T} {c} {root} {begin} {ws} {room} {room'} {number} {place} {count} {used} {last} {finished} lent ok h (Answered.done v w s r) =
    subst (λ (k : ℕ). Next n (den T root) begin ws room' k place count used last finished) (sym r.is) (zero_next d (Answered.done v w s d))
  where
    d : Written n (den T root) (start_of begin ws) (fitting n (length room) (to_list n (den T root) begin ws)) room room' 0 place count used last finished
    d = subst (λ (k : ℕ). Written n (den T root) (start_of begin ws) (fitting n (length room) (to_list n (den T root) begin ws)) room room' k place count used last finished) r.is r

-- THE MEASURE of a listing room by room: the cuts that are left
pub fewer : {n : ℕ} {d : Diagram} {begin : Bool} {ws room' : List ℕ} {number place count used : ℕ} {last : List ℕ} {finished : Bool}
    → Next n d begin ws room' number place count used last finished → finished ≡ false → length (to_list n d false last) < length (to_list n d begin ws)
fewer x f =
    let w = ap length x.whole ∙ length-append x.written x.left in
    let a = ap length x.after in
    let k = x.cuts in
    let o = x.on f in
    omega arith
