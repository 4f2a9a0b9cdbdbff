-- The answer of a report call.
-- Assumes nothing.
use mathlib.Core.Path.{◌≡◌, refl, sym, ap, ◌∙◌, subst}
use mathlib.Core.Logic.{◌↔◌}
use mathlib.Core.Bool.{Bool, true, false, ◌||◌, true≢false, false≢true}
use mathlib.Core.List.{List, ◌++◌}
use Prim.Native.Nat.{ℕ, ◌≤◌, ◌<◌, ◌*◌}
use native.Mathlib.Decide.{dec_lt}
use native.Mathlib.Omega.{arith}
use lib.Dec.{eqb}
use lib.ListN.{length, drop}
use borrow.Author.Tests.{eq-eqb, ne_eqb}
use Rattle.paper.specs.Lists.{keep, last_or}
use Rattle.paper.specs.Sets.{Set}
use Rattle.paper.specs.Diagrams.{Diagram}
use Rattle.paper.specs.Cuts.{sets_of}
use Rattle.paper.specs.Listing.{sets_bytes, fitting}
use Rattle.paper.specs.Answers.{Beyond}
use Rattle.paper.specs.Reports.{is_edition}
use Rattle.algebra.proofs.Lists.{in_keep, keep_in}
use Rattle.sets.specs.Words.{words, set_of, room, Lowest}
use Rattle.sets.proofs.Words.{empty_none, beyond_room}
use Rattle.tables.specs.Table.{den}
use Rattle.tables.specs.Lent.{Lent}
use Rattle.bracket.specs.Bracketed.{Chances}
use Rattle.listing.specs.Answers.{start_of, GoodStart}
use Rattle.listing.specs.Calls.{Refusal, Listing}
use Rattle.listing.proofs.Answers.{fitting_all, not_short}
use Rattle.walk.specs.After.{to_list}
use Rattle.review.specs.Hopes.{worth}
use Rattle.report.specs.Answers.{to_report, NoneAfter, Enough, Refused, Untouched, Cleared, Answered}
use Rattle.report.specs.Inner.{Begun, Fine, Judged}
use Rattle.report.proofs.Family.{all_sorted, all_within, started}
use Rattle.report.proofs.Left.{Left, left_of, some_left, none_left}

pub edition_one : (e : ℕ) → e ≡ 1 → true ≡ is_edition e
edition_one e q = sym (ap (λ b. b || eqb e 2) (eq-eqb e 1 q))

pub edition_other : (e : ℕ) → (e ≡ 1 → ⊥) → eqb e 2 ≡ is_edition e
edition_other e q = sym (ap (λ b. b || eqb e 2) (ne_eqb e 1 q))

-- ---- where a call starts

module _ {begin : Bool} {ws base : List ℕ} (g : Begun begin ws base) where
  begun_set : set_of base ≡ start_of begin ws
  begun_set = go begin refl
    where
      go : (b : Bool) → begin ≡ b → set_of base ≡ start_of b ws
      go true e = ap set_of (g.all e) ∙ empty_none words
      go false e = ap set_of (g.after e)

  pub begun_long : length ws ≡ words → length base ≡ words
  begun_long q = go begin refl
    where
      go : (b : Bool) → begin ≡ b → length base ≡ words
      go true e = ap length (g.all e)
      go false e = ap length (g.after e) ∙ q

  begun_list : (n : ℕ) (d : Diagram) → to_list n d begin base ≡ to_list n d begin ws
  begun_list n d = go begin refl
    where
      go : (b : Bool) → begin ≡ b → to_list n d b base ≡ to_list n d b ws
      go true e = refl
      go false e = ap (to_list n d false) (g.after e)

  begun_good : {n : ℕ} → (Beyond n (set_of base) → ⊥) → GoodStart n begin ws
  begun_good {n} h e b = h (subst (λ (x : List ℕ). Beyond n (set_of x)) (sym (g.after e)) b)

  -- 13 is due after a set only
  begun_after : {n : ℕ} → Beyond n (set_of base) → (begin ≡ false) × Beyond n (set_of ws)
  begun_after {n} x = go begin refl
    where
      go : (b : Bool) → begin ≡ b → (begin ≡ false) × Beyond n (set_of ws)
      go true e = absurd (false≢true (sym (ap (λ (S : Set). S x.event) (ap set_of (g.all e) ∙ empty_none words)) ∙ x.is))
      go false e = (e, subst (λ (y : List ℕ). Beyond n (set_of y)) (g.after e) x)

-- the lowest event of the set from n on is one, or there is none
pub some_beyond : {n x : ℕ} (base : List ℕ) → length base ≡ words → Lowest (set_of base) (room base) n x → x < words * 64 → Beyond n (set_of base)
some_beyond {x = x} base four lo h = record { event = x; above = lo.above (omega arith); is = lo.is (omega arith) }

pub none_beyond : {n x : ℕ} (base : List ℕ) → length base ≡ words → Lowest (set_of base) (room base) n x → words * 64 ≤ x → Beyond n (set_of base) → ⊥
none_beyond base four lo h b = go (dec_lt b.event (room base))
  where
    go : Dec (b.event < room base) → ⊥
    go (yes k) = true≢false (sym b.is ∙ lo.clear b.event b.above (omega arith))
    go (no k) = true≢false (sym b.is ∙ beyond_room base b.event (omega arith))

-- ---- refused

module _ {r n : ℕ} {T : List ℕ} {c root : ℕ} {A : List ℕ} {begin : Bool} {ws base : List ℕ} (g : Begun begin ws base) (rm F W : List ℕ) {why edition number place count used : ℕ} {last : List ℕ} {finished : Bool} where
  pub answer_refused : Judged r n T c root A F W base why → (edition ≡ 0) × Refusal why number place count used last finished
      → Answered r n T c root A begin ws rm rm F F W W edition number place count used last finished
  answer_refused j x = go j
    where
      refuse : {m : ℕ} → why ≡ m → Refused m rm rm edition number place count used last finished
      refuse q = record { no_edition = x.0; is = x.1.is ∙ q; no_place = x.1.no_place; no_cut = x.1.no_cut; no_byte = x.1.no_byte; empty_set = x.1.empty_set; unfinished = x.1.unfinished; kept = refl }

      same : Untouched F F W W
      same = record { few = refl; picks = refl }

      go : Judged r n T c root A F W base why → Answered r n T c root A begin ws rm rm F F W W edition number place count used last finished
      go (Judged.no_edition k q) = Answered.no_edition k (refuse q) same
      go (Judged.no_diagram k h q) = Answered.no_diagram k h (refuse q) same
      go (Judged.too_short k l h q) = Answered.too_short k l h (refuse q) same
      go (Judged.no_chance k l e h q) = Answered.no_chance k l e h (refuse q) same
      go (Judged.beyond k l e p b q) = let (f, b') = begun_after g b in Answered.beyond k l e p f b' (refuse q) same

-- ---- not refused

module _ {r n : ℕ} {T : List ℕ} {c root : ℕ} {A : List ℕ} (known : is_edition r ≡ true) (lent : Lent true n T c root) {F W : List ℕ} (enough : Enough n T A F W) (chances : Chances n A)
    (begin : Bool) (ws : List ℕ) (ok : GoodStart n begin ws) where
  pub done_of : {S : Set} {rm rm' F' W' : List ℕ} {edition number place count used : ℕ} {last : List ℕ} {finished : Bool} → S ≡ start_of begin ws
      → Listing n (to_report r A n (den T root) begin ws) S rm rm' number place count used last finished → Cleared F F' W W' → (number ≡ 0 → edition ≡ r) → (0 < number → edition ≡ 0)
      → Answered r n T c root A begin ws rm rm' F F' W W' edition number place count used last finished
  done_of s (Listing.short h x) z e0 e1 =
      Answered.short known lent enough chances ok h (record {
        no_edition = let q = x.is in e1 (omega arith);
        is = x.is;
        no_place = x.no_place;
        no_cut = x.no_cut;
        no_byte = x.no_byte;
        empty_set = x.empty_set;
        unfinished = x.unfinished;
        kept = x.kept;
      }) z
  done_of {S} {rm} {used = used} {last} {finished} s (Listing.wrote w) z e0 e1 =
      let l₀ : List Set = to_report r A n (den T root) begin ws in
      let fit : w.written ≡ fitting n (length rm) l₀ = sym (ap (fitting n (length rm)) w.whole ∙ fitting_all n (length rm) w.written w.left w.within w.full) in
      let l : Left n (keep (worth r A n) (sets_of (den T root))) (last_or (start_of begin ws) w.written) w.left =
      left_of n (keep (worth r A n) (sets_of (den T root))) (all_sorted lent r A) (all_within lent r A) begin ws ok w.written w.left (sym (started T root n r A begin ws) ∙ w.whole) w.some in
      let last_is : set_of last ≡ last_or (start_of begin ws) w.written = w.last_set ∙ ap (λ (U : Set). last_or U w.written) s in
      Answered.done known lent enough chances ok (not_short n (length rm) l₀ w.written w.left w.whole w.within w.some) (record {
        names = e0 w.is;
        is = w.is;
        no_place = w.no_place;
        cuts = w.cuts ∙ ap length fit;
        long = w.long ∙ ap (λ (x : List Set). length (sets_bytes n x)) fit;
        bytes = w.bytes ∙ ap (λ (x : List Set). sets_bytes n x ++ drop used rm) fit;
        last_set = last_is ∙ ap (last_or (start_of begin ws)) fit;
        end = subst (λ (U : Set). (finished ≡ true) ↔ NoneAfter r A n (den T root) U) (sym last_is) (
          (λ t T' i g b. some_left l (w.end.0 t) T' (in_keep (worth r A n) T' (sets_of (den T root)) i g) b),
          λ none. w.end.1 (none_left l (λ T' i b. let k = keep_in (worth r A n) T' (sets_of (den T root)) i in none T' k.0 k.1 b)),
        );
      }) z

-- what a report wrote, of the start's own set
pub answer_done : {r n : ℕ} {T : List ℕ} {c root : ℕ} {A F W : List ℕ} {begin : Bool} {ws base : List ℕ} → Begun begin ws base → Fine r n T c root A F W base
    → {rm rm' F' W' : List ℕ} {edition number place count used : ℕ} {last : List ℕ} {finished : Bool}
    → (Listing n (to_report r A n (den T root) begin base) (set_of base) rm rm' number place count used last finished × Cleared F F' W W' × (number ≡ 0 → edition ≡ r) × (0 < number → edition ≡ 0))
    → Answered r n T c root A begin ws rm rm' F F' W W' edition number place count used last finished
answer_done {r} {n} {T} {root = root} {A} {begin = begin} {ws} {base} g f {rm} {rm'} {number = number} {place} {count} {used} {last} {finished} (l, z, e0, e1) =
    done_of f.known f.lent f.enough f.chances begin ws (begun_good g f.inside) (begun_set g)
    (subst (λ (x : List Set). Listing n (keep (worth r A n) x) (set_of base) rm rm' number place count used last finished) (begun_list g n (den T root)) l) z e0 e1
