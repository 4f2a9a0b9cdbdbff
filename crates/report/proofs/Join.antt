-- EXACTLY THE REPORTABLE CUTS, IN ORDER: answers 0 one after another, in rooms of any sizes, join to the bytes of the whole report.
-- Assumes nothing.
use mathlib.Core.Path.{◌≡◌, refl, sym, ap, ap₂, ◌∙◌, subst}
use mathlib.Core.Logic.{◌↔◌}
use mathlib.Core.Bool.{Bool, true, false, true≢false}
use mathlib.Core.List.{List, [], ◌∷◌, ◌++◌, append-nil}
use Prim.Native.Nat.{ℕ, ◌<◌}
use native.Mathlib.Omega.{arith}
use lib.ListN.{length, take, drop}
use lib.Seq.{take_at}
use Rattle.paper.specs.Limits.{billion}
use Rattle.paper.specs.Lists.{keep}
use Rattle.paper.specs.Sets.{Set}
use Rattle.paper.specs.Cuts.{sets_of}
use Rattle.paper.specs.Listing.{sets_bytes, fitting}
use Rattle.paper.specs.Reports.{report}
use Rattle.algebra.proofs.Lists.{in_keep, keep_in}
use Rattle.sets.specs.Words.{set_of}
use Rattle.tables.specs.Table.{den}
use Rattle.bracket.specs.Bracketed.{chance_in}
use Rattle.listing.proofs.Calls.{bytes_append}
use Rattle.listing.proofs.Join.{fitting_split, fitting_none}
use Rattle.review.specs.Hopes.{worth}
use Rattle.report.specs.Answers.{to_report, Answered}
use Rattle.report.specs.Joined.{Joined}
use Rattle.report.proofs.Family.{all_sorted, all_within, started}
use Rattle.report.proofs.Left.{Left, left_of, some_left, none_left}

-- a call's answer 0: the sets w that it wrote, those left, and that these come after its last set
pub record Part (n : ℕ) (all l w : List Set) (room' : List ℕ) (count used : ℕ) (last : List ℕ) (finished : Bool) : Type 0 where
  pub q : List Set
  pub whole : l ≡ w ++ q
  pub some : w ≡ [] → q ≡ []
  pub bytes : take used room' ≡ sets_bytes n w
  pub cuts : count ≡ length w
  pub after : Left n all (set_of last) q
  pub end : (finished ≡ true) ↔ (q ≡ [])

module _ {r n : ℕ} {T : List ℕ} {c root : ℕ} {A : List ℕ} {begin : Bool} {ws room room' F F' W W' : List ℕ} {edition place count used : ℕ} {last : List ℕ} {finished : Bool} where
  pub part : Answered r n T c root A begin ws room room' F F' W W' edition 0 place count used last finished
      → Part n (keep (worth r A n) (sets_of (den T root))) (to_report r A n (den T root) begin ws) (fitting n (length room) (to_report r A n (den T root) begin ws)) room' count used last finished
  part (Answered.no_edition k x z) = absurd (let e = x.is in omega arith)
  part (Answered.no_diagram k h x z) = absurd (let e = x.is in omega arith)
  part (Answered.too_short k v h x z) = absurd (let e = x.is in omega arith)
  part (Answered.no_chance k v e h x z) = absurd (let e = x.is in omega arith)
  part (Answered.beyond k v e p b i x z) = absurd (let e = x.is in omega arith)
  part (Answered.short k v e p ok s x z) = absurd (let e = x.is in omega arith)
  part (Answered.done k v en p ok s x z) =
      let all = keep (worth r A n) (sets_of (den T root)) in
      let l = to_report r A n (den T root) begin ws in
      let fit = fitting n (length room) l in
      let (q, e) = fitting_split n (length room) l in
      let some : fit ≡ [] → q ≡ [] = λ z. sym (ap (λ (y : List Set). y ++ q) z) ∙ sym e ∙ fitting_none n (length room) l s z in
      let a : Left n all (set_of last) q = subst (λ (S : Set). Left n all S q) (sym x.last_set) (left_of n all (all_sorted v r A) (all_within v r A) begin ws ok fit q (sym (started T root n r A begin ws) ∙ e) some) in
      record {
        q = q;
        whole = e;
        some = some;
        bytes = ap (take used) x.bytes ∙ take_at (sets_bytes n fit) (drop used room) used (sym x.long);
        cuts = x.cuts;
        after = a;
        end = (
          (λ t. none_left a (λ U i b. let k = keep_in (worth r A n) U (sets_of (den T root)) i in x.end.0 t U k.0 k.1 b)),
          λ z. x.end.1 (λ U i g b. some_left a z U (in_keep (worth r A n) U (sets_of (den T root)) i g) b),
        );
      }

  -- a call that did not finish wrote some cut
  pub goes_on : Answered r n T c root A begin ws room room' F F' W W' edition 0 place count used last finished → finished ≡ false → 0 < count
  goes_on a f = let p = part a in go (fitting n (length room) (to_report r A n (den T root) begin ws)) p.cuts (λ z. p.end.1 (p.some z))
    where
      go : (w : List Set) → count ≡ length w → (w ≡ [] → finished ≡ true) → 0 < count
      go [] e h = absurd (true≢false (sym (h refl) ∙ f))
      go (S ∷ w) e h = omega arith

-- ---- calls one after another

join_last : {n : ℕ} {all l w : List Set} {room' : List ℕ} {count used : ℕ} {last : List ℕ} → Part n all l w room' count used last true → take used room' ≡ sets_bytes n l
join_last {n} {w = w} p = p.bytes ∙ ap (sets_bytes n) (sym (p.whole ∙ ap (λ (y : List Set). w ++ y) (p.end.0 refl) ∙ append-nil w))

join_more : {n : ℕ} {all l w x : List Set} {room' : List ℕ} {count used : ℕ} {last : List ℕ} {finished : Bool} {bytes : List ℕ} → (p : Part n all l w room' count used last finished) → x ≡ p.q → bytes ≡ sets_bytes n x → take used room' ++ bytes ≡ sets_bytes n l
join_more {n} {w = w} p q e = ap₂ (λ (x y : List ℕ). x ++ y) p.bytes (e ∙ ap (sets_bytes n) q) ∙ sym (bytes_append n w p.q) ∙ ap (sets_bytes n) (sym p.whole)

pub join : {r n : ℕ} {T : List ℕ} {c root : ℕ} {A : List ℕ} {begin : Bool} {ws bytes : List ℕ} → Joined r n T c root A begin ws bytes → bytes ≡ sets_bytes n (to_report r A n (den T root) begin ws)
join (Joined.ends a) = join_last (part a)
join {r} {n} {T} {c} {root} {A} (Joined.goes {last = last} a j) = join_more (part a) (started T root n r A false last ∙ (part a).after.is) (join j)

-- THE WHOLE REPORT, from the beginning
pub join_all : {r n : ℕ} {T : List ℕ} {c root : ℕ} {A ws bytes : List ℕ} → Joined r n T c root A true ws bytes → bytes ≡ sets_bytes n (report billion (chance_in A) n r (sets_of (den T root)))
join_all j = join j
