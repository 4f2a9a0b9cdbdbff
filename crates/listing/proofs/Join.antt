-- EVERY SET ONCE, IN ORDER: answers 0 one after another, in rooms of any sizes, join to the bytes of the whole listing.
-- Assumes nothing.
use mathlib.Core.Path.{◌≡◌, refl, sym, ap, ap₂, ◌∙◌, subst}
use mathlib.Core.Logic.{◌↔◌}
use mathlib.Core.Bool.{Bool, true, false, cond}
use mathlib.Core.List.{List, [], ◌∷◌, ◌++◌, append-nil}
use Prim.Native.Nat.{ℕ, ◌+◌, ◌-◌, ◌<◌}
use native.Mathlib.Omega.{arith}
use lib.Dec.{leb}
use lib.ListN.{length, take, drop, length-append}
use lib.Seq.{take_at}
use borrow.Author.Tests.{leb-false}
use Rattle.paper.specs.Sets.{Set}
use Rattle.paper.specs.Diagrams.{Diagram}
use Rattle.paper.specs.Cuts.{sets_of}
use Rattle.paper.specs.Order.{rest}
use Rattle.paper.specs.Listing.{set_bytes, sets_bytes, fitting}
use Rattle.sets.specs.Words.{set_of}
use Rattle.tables.specs.Table.{den}
use Rattle.tables.proofs.Lent.{root_ordered}
use Rattle.walk.specs.After.{to_list}
use Rattle.listing.specs.Answers.{Short, Answered}
use Rattle.listing.specs.Joined.{Joined}
use Rattle.listing.proofs.Calls.{bytes_append}
use Rattle.listing.proofs.Answers.{Left, left_of, none_left, some_left}

-- ---- what fits stands first

pub fitting_split : (n size : ℕ) (l : List Set) → (q : List Set) × (l ≡ fitting n size l ++ q)
unfolding fitting
fitting_split n size [] = ([], refl)
fitting_split n size (S ∷ l) = go (fitting n (size - length (set_bytes n S)) l) (leb (length (set_bytes n S)) size) (fitting_split n (size - length (set_bytes n S)) l)
  where
    go : (w : List Set) (b : Bool) → (q : List Set) × (l ≡ w ++ q) → (q : List Set) × ((S ∷ l) ≡ cond b (S ∷ w) [] ++ q)
    go w true (q, e) = (q, ap (λ (x : List Set). S ∷ x) e)
    go w false r = (S ∷ l, refl)

-- nothing fits where there is nothing, or where the first set does not
pub fitting_none : (n size : ℕ) (l : List Set) → (Short n size l → ⊥) → fitting n size l ≡ [] → l ≡ []
unfolding fitting
fitting_none n size [] h e = refl
fitting_none n size (S ∷ l) h e = go (fitting n (size - length (set_bytes n S)) l) (leb (length (set_bytes n S)) size) refl e
  where
    go : (w : List Set) (b : Bool) → leb (length (set_bytes n S)) size ≡ b → cond b (S ∷ w) [] ≡ [] → (S ∷ l) ≡ []
    go w true q z = absurd (let x : ◌≡◌ {A = ℕ} 0 1 = cc in omega arith)
    go w false q z = absurd (h (leb-false (length (set_bytes n S)) size q))

-- ---- one call

-- a call's answer 0: the sets w that it wrote, those left, and that these come after its last set
pub record Part (n : ℕ) (d : Diagram) (l w : List Set) (room' : List ℕ) (count used : ℕ) (last : List ℕ) (finished : Bool) : Type 0 where
  pub q : List Set
  pub whole : l ≡ w ++ q
  pub some : w ≡ [] → q ≡ []
  pub bytes : take used room' ≡ sets_bytes n w
  pub cuts : count ≡ length w
  pub after : Left n d (set_of last) q
  pub end : (finished ≡ true) ↔ (q ≡ [])

module _ {n : ℕ} {T : List ℕ} {c root : ℕ} {begin : Bool} {ws room room' : List ℕ} {place count used : ℕ} {last : List ℕ} {finished : Bool} where
  pub part : Answered n T c root begin ws room room' 0 place count used last finished → Part n (den T root) (to_list n (den T root) begin ws) (fitting n (length room) (to_list n (den T root) begin ws)) room' count used last finished
  part (Answered.no_diagram h x) = absurd (let e = x.is in omega arith)
  part (Answered.beyond v e p x) = absurd (let e = x.is in omega arith)
  part (Answered.short v ok s x) = absurd (let e = x.is in omega arith)
  part (Answered.done v ok s x) =
      let l = to_list n (den T root) begin ws in
      let fit = fitting n (length room) l in
      let (q, e) = fitting_split n (length room) l in
      let some : fit ≡ [] → q ≡ [] = λ z. sym (ap (λ (y : List Set). y ++ q) z) ∙ sym e ∙ fitting_none n (length room) l s z in
      let a : Left n (den T root) (set_of last) q = subst (λ (S : Set). Left n (den T root) S q) (sym x.last_set) (left_of n (den T root) (root_ordered v) begin ws ok fit q e some) in
      record {
        q = q;
        whole = e;
        some = some;
        bytes = ap (take used) x.bytes ∙ take_at (sets_bytes n fit) (drop used room) used (sym x.long);
        cuts = x.cuts;
        after = a;
        end = ((λ t. none_left a (x.end.0 t)), λ z. x.end.1 (some_left a z));
      }

  -- ON: a call that is not the last writes a set, so fewer are left after it
  pub goes_on : Answered n T c root begin ws room room' 0 place count used last finished → finished ≡ false → 0 < count
  goes_on a f = let p = part a in go (fitting n (length room) (to_list n (den T root) begin ws)) p.cuts (λ z. p.end.1 (p.some z))
    where
      go : (w : List Set) → count ≡ length w → (w ≡ [] → finished ≡ true) → 0 < count
      go [] e h = absurd (let x : ◌≡◌ {A = ℕ} 0 1 = let t = h refl in cc in omega arith)
      go (S ∷ w) e h = omega arith

  pub falls : Answered n T c root begin ws room room' 0 place count used last finished → length (to_list n (den T root) false last) + count ≡ length (to_list n (den T root) begin ws)
  falls a =
      let p = part a in
      let e = ap length p.after.is in
      let w = ap length p.whole ∙ length-append (fitting n (length room) (to_list n (den T root) begin ws)) p.q in
      let k = p.cuts in
      omega arith

-- ---- calls one after another

module _ {n : ℕ} {d : Diagram} {l w : List Set} {room' : List ℕ} {count used : ℕ} {last : List ℕ} where
  join_last : Part n d l w room' count used last true → take used room' ≡ sets_bytes n l
  join_last p = p.bytes ∙ ap (sets_bytes n) (sym (p.whole ∙ ap (λ (y : List Set). w ++ y) (p.end.0 refl) ∙ append-nil w))

  join_more : {finished : Bool} {bytes : List ℕ} → Part n d l w room' count used last finished → bytes ≡ sets_bytes n (rest n (set_of last) (sets_of d)) → take used room' ++ bytes ≡ sets_bytes n l
  join_more p e = ap₂ (λ (x y : List ℕ). x ++ y) p.bytes (e ∙ ap (sets_bytes n) p.after.is) ∙ sym (bytes_append n w p.q) ∙ ap (sets_bytes n) (sym p.whole)

pub join : {n : ℕ} {T : List ℕ} {c root : ℕ} {begin : Bool} {ws bytes : List ℕ} → Joined n T c root begin ws bytes → bytes ≡ sets_bytes n (to_list n (den T root) begin ws)
join (Joined.ends a) = join_last (part a)
join (Joined.goes a j) = join_more (part a) (join j)

-- THE WHOLE LISTING, from the beginning
pub join_all : {n : ℕ} {T : List ℕ} {c root : ℕ} {ws bytes : List ℕ} → Joined n T c root true ws bytes → bytes ≡ sets_bytes n (sets_of (den T root))
join_all j = join j
