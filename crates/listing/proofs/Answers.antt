-- The answer of a listing call: what is written is what fits, and what is left is what comes after the last set.
-- Assumes nothing.
use mathlib.Core.Path.{◌≡◌, refl, sym, ap, ◌∙◌, subst}
use mathlib.Core.Logic.{inl, ◌↔◌}
use mathlib.Core.Bool.{Bool, true, false, true≢false}
use mathlib.Core.List.{List, [], ◌∷◌, ◌++◌, append_assoc}
use Prim.Native.Nat.{ℕ, ◌+◌, ◌-◌, ◌*◌, ◌≤◌, ◌<◌}
use native.Mathlib.Decide.{dec_lt}
use native.Mathlib.Omega.{arith}
use lib.ListN.{length, drop, replicate, length-append}
use borrow.Author.Tests.{le-leb, lt-leb}
use Rattle.paper.specs.Lists.{In, last_or}
use Rattle.paper.specs.Sets.{Set, none}
use Rattle.paper.specs.Diagrams.{Diagram, Ordered}
use Rattle.paper.specs.Cuts.{sets_of}
use Rattle.paper.specs.Order.{Sorted, behind, rest}
use Rattle.paper.specs.Listing.{set_bytes, sets_bytes, fitting}
use Rattle.paper.specs.Answers.{Beyond}
use Rattle.algebra.proofs.Lists.{in_right, in_keep, keep_in}
use Rattle.algebra.proofs.Without.{sets_beyond}
use Rattle.algebra.proofs.Order.{sets_sorted}
use Rattle.algebra.proofs.Listing.{behind_law, rest_suffix, rest_after}
use Rattle.sets.specs.Words.{words, set_of, room, Lowest}
use Rattle.sets.proofs.Words.{empty_none, beyond_room}
use Rattle.tables.specs.Table.{den}
use Rattle.tables.specs.Lent.{Lent}
use Rattle.tables.proofs.Lent.{root_ordered}
use Rattle.walk.specs.After.{to_list}
use Rattle.listing.specs.Answers.{start_of, GoodStart, Short, NoneAfter, Refused, Answered}
use Rattle.listing.specs.Calls.{Refusal, Listing}

-- ---- what fits

pub fitting_all : (n size : ℕ) (w q : List Set) → length (sets_bytes n w) ≤ size
    → ((T : Set) (r : List Set) → q ≡ T ∷ r → size < length (sets_bytes n w) + length (set_bytes n T)) → fitting n size (w ++ q) ≡ w
unfolding fitting
fitting_all n size [] [] h f = refl
fitting_all n size [] (T ∷ q) h f = let g = f T q refl in rw (lt-leb (length (set_bytes n T)) size (omega arith))
fitting_all n size (S ∷ w) q h f =
    let a = length-append (set_bytes n S) (sets_bytes n w) in
    rw (le-leb (length (set_bytes n S)) size (omega arith))
    (ap (λ (x : List Set). S ∷ x) (fitting_all n (size - length (set_bytes n S)) w q (omega arith) (λ T r e. let g = f T r e in omega arith)))

-- the first of the sets that fit is the first of all
pub not_short : (n size : ℕ) (l w q : List Set) → l ≡ w ++ q → length (sets_bytes n w) ≤ size → (w ≡ [] → q ≡ []) → Short n size l → ⊥
not_short n size l [] q e h some s = subst (Short n size) (e ∙ some refl) s
not_short n size l (S ∷ w) q e h some s =
    let a = length-append (set_bytes n S) (sets_bytes n w) in
    let b : size < length (set_bytes n S) = subst (Short n size) e s in
    omega arith

-- ---- what comes after a set

module _ (n : ℕ) (d : Diagram) (L : Set) (hi : (i : ℕ) → n ≤ i → L i ≡ false) where
  none_after : rest n L (sets_of d) ≡ [] → NoneAfter d L
  none_after e T k b = subst (In T) e (in_keep (behind n 0 L) T (sets_of d) k ((behind_law n L T hi).1 b))

  some_after : {T : Set} {r : List Set} → rest n L (sets_of d) ≡ T ∷ r → NoneAfter d L → ⊥
  some_after {T} e none =
      let k = keep_in (behind n 0 L) T (sets_of d) (subst (In T) (sym e) (inl refl)) in
      none T k.0 ((behind_law n L T hi).0 k.1)

-- the last of some sets stands at their end
last_split : (b S : Set) (p : List Set) → (q : List Set) × ((S ∷ p) ≡ q ++ (last_or b (S ∷ p) ∷ []))
last_split b S [] = ([], refl)
last_split b S (U ∷ p) = let ih = last_split S U p in (S ∷ ih.0, ap (λ (x : List Set). S ∷ x) ih.1)

-- WHAT IS LEFT after the sets w of a call comes after the last of them, or after the start where there is none
pub record Left (n : ℕ) (d : Diagram) (L : Set) (q : List Set) : Type 0 where
  pub hi : (i : ℕ) → n ≤ i → L i ≡ false
  pub is : rest n L (sets_of d) ≡ q

within_set : (n : ℕ) (ws : List ℕ) → (Beyond n (set_of ws) → ⊥) → (i : ℕ) → n ≤ i → set_of ws i ≡ false
within_set n ws h i l = go (set_of ws i) refl
  where
    go : (b : Bool) → set_of ws i ≡ b → set_of ws i ≡ false
    go true e = absurd (h (record { event = i; above = l; is = e }))
    go false e = e

module _ (n : ℕ) (d : Diagram) (o : Ordered 0 n d) (begin : Bool) (ws : List ℕ) (ok : GoodStart n begin ws) where
  before : (b : Bool) → begin ≡ b → (p : List Set) × (sets_of d ≡ p ++ to_list n d b ws)
  before true e = ([], refl)
  before false e = rest_suffix n (set_of ws) (within_set n ws (ok e)) (sets_of d) (sets_sorted n 0 d o)

  left_start : (b : Bool) → begin ≡ b → (q : List Set) → to_list n d b ws ≡ q → q ≡ [] → Left n d (start_of b ws) q
  left_start true e q l z = record { hi = λ i _. refl; is = ap (rest n none) (l ∙ z) ∙ sym z }
  left_start false e q l z = record { hi = within_set n ws (ok e); is = l }

  pub left_of : (w q : List Set) → to_list n d begin ws ≡ w ++ q → (w ≡ [] → q ≡ []) → Left n d (last_or (start_of begin ws) w) q
  left_of [] q e some = left_start begin refl q e (some refl)
  left_of (S ∷ w) q e some =
      let p = before begin refl in
      let s = last_split (start_of begin ws) S w in
      let L = last_or (start_of begin ws) (S ∷ w) in
      let there : sets_of d ≡ (p.0 ++ s.0) ++ (L ∷ q) =
      p.1 ∙ ap (λ (x : List Set). p.0 ++ x) (e ∙ ap (λ (x : List Set). x ++ q) s.1 ∙ append_assoc s.0 (L ∷ []) q) ∙ sym (append_assoc p.0 s.0 (L ∷ q)) in
      let in_it : In L (sets_of d) = subst (In L) (sym there) (in_right L (p.0 ++ s.0) (L ∷ q) (inl refl)) in
      let hi : (i : ℕ) → n ≤ i → L i ≡ false = sets_beyond 0 n d L o in_it in
      record { hi = hi; is = ap (rest n L) there ∙ rest_after n L hi (p.0 ++ s.0) q (subst Sorted there (sets_sorted n 0 d o)) }

-- nothing is left exactly if no set comes after
module _ {n : ℕ} {d : Diagram} {L : Set} {q : List Set} (l : Left n d L q) where
  pub some_left : q ≡ [] → NoneAfter d L
  some_left z = none_after n d L l.hi (l.is ∙ z)

  pub none_left : NoneAfter d L → q ≡ []
  none_left none = go q refl
    where
      go : (x : List Set) → q ≡ x → q ≡ []
      go [] z = z
      go (T ∷ r) z = absurd (some_after n d L l.hi (l.is ∙ z) none)

-- ---- the answers

module _ {n : ℕ} {T : List ℕ} {c root : ℕ} (lent : Lent true n T c root) (begin : Bool) (ws : List ℕ) (ok : GoodStart n begin ws) where
  pub done_of : {S : Set} {rm rm' : List ℕ} {number place count used : ℕ} {last : List ℕ} {finished : Bool} → S ≡ start_of begin ws
      → Listing n (to_list n (den T root) begin ws) S rm rm' number place count used last finished → Answered n T c root begin ws rm rm' number place count used last finished
  done_of s (Listing.short h r) = Answered.short lent ok h r
  done_of {S} {rm} {used = used} {last} {finished} s (Listing.wrote w) =
      let fit : w.written ≡ fitting n (length rm) (to_list n (den T root) begin ws) = sym (ap (fitting n (length rm)) w.whole ∙ fitting_all n (length rm) w.written w.left w.within w.full) in
      let l : Left n (den T root) (last_or (start_of begin ws) w.written) w.left = left_of n (den T root) (root_ordered lent) begin ws ok w.written w.left w.whole w.some in
      let last_is : set_of last ≡ last_or (start_of begin ws) w.written = w.last_set ∙ ap (λ (U : Set). last_or U w.written) s in
      Answered.done lent ok (not_short n (length rm) (to_list n (den T root) begin ws) w.written w.left w.whole w.within w.some) (record {
        is = w.is;
        no_place = w.no_place;
        cuts = w.cuts ∙ ap length fit;
        long = w.long ∙ ap (λ (x : List Set). length (sets_bytes n x)) fit;
        bytes = w.bytes ∙ ap (λ (x : List Set). sets_bytes n x ++ drop used rm) fit;
        last_set = last_is ∙ ap (last_or (start_of begin ws)) fit;
        end = subst (λ (U : Set). (finished ≡ true) ↔ NoneAfter (den T root) U) (sym last_is) ((λ t. some_left l (w.end.0 t)), λ none. w.end.1 (none_left l none));
      })

-- a refusal's parts
pub turned_down : (m : ℕ) → Refusal m m 0 0 0 (replicate words 0) false
turned_down m = record { is = refl; no_place = refl; no_cut = refl; no_byte = refl; empty_set = refl; unfinished = refl }

-- a refusal, as the code makes it
refuse : {m : ℕ} (rm : List ℕ) {number place count used : ℕ} {last : List ℕ} {finished : Bool} → Refusal m number place count used last finished → Refused m rm rm number place count used last finished
refuse rm r = record { is = r.is; no_place = r.no_place; no_cut = r.no_cut; no_byte = r.no_byte; empty_set = r.empty_set; unfinished = r.unfinished; kept = refl }

module _ {n : ℕ} {T : List ℕ} {c root : ℕ} (begin : Bool) (ws rm : List ℕ) {number place count used : ℕ} {last : List ℕ} {finished : Bool} where
  pub answer_12 : (Lent true n T c root → ⊥) → Refusal 12 number place count used last finished → Answered n T c root begin ws rm rm number place count used last finished
  answer_12 h r = Answered.no_diagram h (refuse rm r)

  module _ (lent : Lent true n T c root) where
    -- the lowest event of the set from n on is one
    pub answer_13 : {x : ℕ} → begin ≡ false → length ws ≡ words → Lowest (set_of ws) (room ws) n x → x < words * 64
        → Refusal 13 number place count used last finished → Answered n T c root begin ws rm rm number place count used last finished
    answer_13 {x} e four lo h r = Answered.beyond lent e (record { event = x; above = lo.above (omega arith); is = lo.is (omega arith) }) (refuse rm r)

    pub answer_all : {base rm' : List ℕ} → begin ≡ true → base ≡ replicate words 0 → Listing n (sets_of (den T root)) (set_of base) rm rm' number place count used last finished
        → Answered n T c root begin ws rm rm' number place count used last finished
    answer_all {rm' = rm'} e q l =
        subst (λ (b : Bool). Answered n T c root b ws rm rm' number place count used last finished) (sym e)
        (done_of lent true ws (λ z. absurd (true≢false z)) (ap set_of q ∙ empty_none words) l)

    -- there is none, so the set is within the events
    pub answer_after : {x : ℕ} {rm' : List ℕ} → begin ≡ false → length ws ≡ words → Lowest (set_of ws) (room ws) n x → words * 64 ≤ x
        → Listing n (rest n (set_of ws) (sets_of (den T root))) (set_of ws) rm rm' number place count used last finished → Answered n T c root begin ws rm rm' number place count used last finished
    answer_after {x} {rm'} e four lo h l =
        subst (λ (b : Bool). Answered n T c root b ws rm rm' number place count used last finished) (sym e)
        (done_of lent false ws (λ _. outside) refl l)
      where
        outside : Beyond n (set_of ws) → ⊥
        outside b = go (dec_lt b.event (room ws))
          where
            go : Dec (b.event < room ws) → ⊥
            go (yes k) = true≢false (sym b.is ∙ lo.clear b.event b.above (omega arith))
            go (no k) = true≢false (sym b.is ∙ beyond_room ws b.event (omega arith))
