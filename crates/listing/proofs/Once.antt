-- TWO OUTCOMES COINCIDE: the contract of `list` allows one answer and one room.
-- Assumes nothing.
use mathlib.Core.Path.{◌≡◌, sym, ap, ◌∙◌, subst}
use mathlib.Core.Bool.{Bool}
use mathlib.Core.List.{List, ◌++◌}
use Prim.Native.Nat.{ℕ}
use lib.ListN.{drop}
use Rattle.paper.specs.Sets.{Set}
use Rattle.paper.specs.Diagrams.{Diagram}
use Rattle.paper.specs.Listing.{sets_bytes}
use Rattle.algebra.proofs.Lists.{bool_iff}
use Rattle.sets.specs.Words.{words, set_of, Array}
use Rattle.sets.proofs.Words.{words_same}
use Rattle.listing.specs.Answers.{NoneAfter, Refused, Written, Answered}

-- all that a call answers and leaves
pub record Outcome : Type 0 where
  pub number : ℕ
  pub place : ℕ
  pub count : ℕ
  pub used : ℕ
  pub last : List ℕ
  pub finished : Bool
  pub room : List ℕ

-- an outcome that the contract allows, of an array of words
pub record Allowed (n : ℕ) (T : List ℕ) (c root : ℕ) (begin : Bool) (ws room : List ℕ) (x : Outcome) : Type 0 where
  pub array : Array words x.last
  pub answer : Answered n T c root begin ws room x.room x.number x.place x.count x.used x.last x.finished

module _ (x y : Outcome) where
  equal : x.number ≡ y.number → x.place ≡ y.place → x.count ≡ y.count → x.used ≡ y.used → x.last ≡ y.last → x.finished ≡ y.finished → x.room ≡ y.room → x ≡ y
  equal p w q r s t u = λ i. record { number = p i; place = w i; count = q i; used = r i; last = s i; finished = t i; room = u i }

  abbrev Refuses : ℕ → List ℕ → Outcome → Type 0
  Refuses m room z = Refused m room z.room z.number z.place z.count z.used z.last z.finished

  refused_once : (m : ℕ) (room : List ℕ) → Refuses m room x → Refuses m room y → x ≡ y
  refused_once m room p q =
      equal (p.is ∙ sym q.is) (p.no_place ∙ sym q.no_place) (p.no_cut ∙ sym q.no_cut) (p.no_byte ∙ sym q.no_byte) (p.empty_set ∙ sym q.empty_set) (p.unfinished ∙ sym q.unfinished) (p.kept ∙ sym q.kept)

  done_once : {n : ℕ} {d : Diagram} {S : Set} {w : List Set} {room : List ℕ} → Array words x.last → Array words y.last → Written n d S w room x.room x.number x.place x.count x.used x.last x.finished
      → Written n d S w room y.room y.number y.place y.count y.used y.last y.finished → x ≡ y
  done_once {n} {d} {w = w} {room} a b p q =
      let u : x.used ≡ y.used = p.long ∙ sym q.long in
      let l : set_of x.last ≡ set_of y.last = p.last_set ∙ sym q.last_set in
      let f : x.finished ≡ y.finished =
      bool_iff x.finished y.finished (λ t. q.end.1 (subst (NoneAfter d) l (p.end.0 t))) (λ t. p.end.1 (subst (NoneAfter d) (sym l) (q.end.0 t))) in
      equal (p.is ∙ sym q.is) (p.no_place ∙ sym q.no_place) (p.cuts ∙ sym q.cuts) u (words_same a b l) f (p.bytes ∙ ap (λ (k : ℕ). sets_bytes n w ++ drop k room) u ∙ sym q.bytes)

  module _ {n : ℕ} {T : List ℕ} {c root : ℕ} {begin : Bool} {ws room : List ℕ} (a : Array words x.last) (b : Array words y.last) where
    go : Answered n T c root begin ws room x.room x.number x.place x.count x.used x.last x.finished → Answered n T c root begin ws room y.room y.number y.place y.count y.used y.last y.finished → x ≡ y
    go (Answered.no_diagram h p) (Answered.no_diagram k q) = refused_once 12 room p q
    go (Answered.no_diagram h p) (Answered.beyond v e i q) = absurd (h v)
    go (Answered.no_diagram h p) (Answered.short v ok s q) = absurd (h v)
    go (Answered.no_diagram h p) (Answered.done v ok s q) = absurd (h v)
    go (Answered.beyond v e i p) (Answered.no_diagram k q) = absurd (k v)
    go (Answered.beyond v e i p) (Answered.beyond w f j q) = refused_once 13 room p q
    go (Answered.beyond v e i p) (Answered.short w ok s q) = absurd (ok e i)
    go (Answered.beyond v e i p) (Answered.done w ok s q) = absurd (ok e i)
    go (Answered.short v ok s p) (Answered.no_diagram k q) = absurd (k v)
    go (Answered.short v ok s p) (Answered.beyond w f j q) = absurd (ok f j)
    go (Answered.short v ok s p) (Answered.short w ok' t q) = refused_once 14 room p q
    go (Answered.short v ok s p) (Answered.done w ok' t q) = absurd (t s)
    go (Answered.done v ok s p) (Answered.no_diagram k q) = absurd (k v)
    go (Answered.done v ok s p) (Answered.beyond w f j q) = absurd (ok f j)
    go (Answered.done v ok s p) (Answered.short w ok' t q) = absurd (s t)
    go (Answered.done v ok s p) (Answered.done w ok' t q) = done_once a b p q

pub answer_once : {n : ℕ} {T : List ℕ} {c root : ℕ} {begin : Bool} {ws room : List ℕ} {x y : Outcome} → Allowed n T c root begin ws room x → Allowed n T c root begin ws room y → x ≡ y
answer_once {x = x} {y} p q = go x y p.array q.array p.answer q.answer
