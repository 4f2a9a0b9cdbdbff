-- TWO OUTCOMES COINCIDE: the contract of `report` allows one answer, one room and one pair of work areas.
-- Assumes nothing.
use mathlib.Core.Path.{◌≡◌, sym, ap, ◌∙◌, subst}
use mathlib.Core.Bool.{Bool, false≢true}
use mathlib.Core.List.{List, ◌++◌}
use Prim.Native.Nat.{ℕ}
use lib.ListN.{drop}
use Rattle.paper.specs.Sets.{Set}
use Rattle.paper.specs.Diagrams.{Diagram}
use Rattle.paper.specs.Listing.{sets_bytes}
use Rattle.algebra.proofs.Lists.{bool_iff}
use Rattle.sets.specs.Words.{words, set_of, Array}
use Rattle.sets.proofs.Words.{words_same}
use Rattle.report.specs.Answers.{NoneAfter, Refused, Written, Untouched, Cleared, Answered}

-- all that a call answers and leaves
pub record Outcome : Type 0 where
  pub edition : ℕ
  pub number : ℕ
  pub place : ℕ
  pub count : ℕ
  pub used : ℕ
  pub last : List ℕ
  pub finished : Bool
  pub room : List ℕ
  pub few : List ℕ
  pub picks : List ℕ

-- what the contract says of an outcome
abbrev pub Told : ℕ → ℕ → List ℕ → ℕ → ℕ → List ℕ → Bool → List ℕ → List ℕ → List ℕ → List ℕ → Outcome → Type 0
Told r n T c root A begin ws room F W x = Answered r n T c root A begin ws room x.room F x.few W x.picks x.edition x.number x.place x.count x.used x.last x.finished

module _ (x y : Outcome) where
  -- the work areas
  abbrev Areas : Type 0
  Areas = (x.few ≡ y.few) × (x.picks ≡ y.picks)

  untouched_once : {F W : List ℕ} → Untouched F x.few W x.picks → Untouched F y.few W y.picks → Areas
  untouched_once p q = (p.few ∙ sym q.few, p.picks ∙ sym q.picks)

  cleared_once : {F W : List ℕ} → Cleared F x.few W x.picks → Cleared F y.few W y.picks → Areas
  cleared_once p q = (p.few ∙ sym q.few, p.picks ∙ sym q.picks)

  equal : x.edition ≡ y.edition → x.number ≡ y.number → x.place ≡ y.place → x.count ≡ y.count → x.used ≡ y.used → x.last ≡ y.last → x.finished ≡ y.finished → x.room ≡ y.room → Areas → x ≡ y
  equal o p w q r s t u v = λ i. record { edition = o i; number = p i; place = w i; count = q i; used = r i; last = s i; finished = t i; room = u i; few = v.0 i; picks = v.1 i }

  abbrev Refuses : ℕ → List ℕ → Outcome → Type 0
  Refuses m room z = Refused m room z.room z.edition z.number z.place z.count z.used z.last z.finished

  refused_once : (m : ℕ) (room : List ℕ) → Refuses m room x → Refuses m room y → Areas → x ≡ y
  refused_once m room p q z =
      equal (p.no_edition ∙ sym q.no_edition) (p.is ∙ sym q.is) (p.no_place ∙ sym q.no_place) (p.no_cut ∙ sym q.no_cut) (p.no_byte ∙ sym q.no_byte) (p.empty_set ∙ sym q.empty_set) (p.unfinished ∙ sym q.unfinished) (p.kept ∙ sym q.kept) z

  done_once : {r n : ℕ} {A : List ℕ} {d : Diagram} {S : Set} {w : List Set} {room : List ℕ} → Array words x.last → Array words y.last
      → Written r A n d S w room x.room x.edition x.number x.place x.count x.used x.last x.finished
      → Written r A n d S w room y.room y.edition y.number y.place y.count y.used y.last y.finished → Areas → x ≡ y
  done_once {r} {n} {A} {d} {w = w} {room} a b p q z =
      let u : x.used ≡ y.used = p.long ∙ sym q.long in
      let l : set_of x.last ≡ set_of y.last = p.last_set ∙ sym q.last_set in
      let f : x.finished ≡ y.finished =
      bool_iff x.finished y.finished (λ t. q.end.1 (subst (NoneAfter r A n d) l (p.end.0 t))) (λ t. p.end.1 (subst (NoneAfter r A n d) (sym l) (q.end.0 t))) in
      equal (p.names ∙ sym q.names) (p.is ∙ sym q.is) (p.no_place ∙ sym q.no_place) (p.cuts ∙ sym q.cuts) u (words_same a b l) f (p.bytes ∙ ap (λ (k : ℕ). sets_bytes n w ++ drop k room) u ∙ sym q.bytes) z

  module _ {r n : ℕ} {T : List ℕ} {c root : ℕ} {A : List ℕ} {begin : Bool} {ws room F W : List ℕ} (a : Array words x.last) (b : Array words y.last) where
    go : Told r n T c root A begin ws room F W x → Told r n T c root A begin ws room F W y → x ≡ y
    go (Answered.no_edition k₁ p₁ z₁) (Answered.no_edition k₂ p₂ z₂) = refused_once 23 room p₁ p₂ (untouched_once z₁ z₂)
    go (Answered.no_edition k₁ p₁ z₁) (Answered.no_diagram k₂ h₂ p₂ z₂) = absurd (false≢true (sym k₁ ∙ k₂))
    go (Answered.no_edition k₁ p₁ z₁) (Answered.too_short k₂ v₂ h₂ p₂ z₂) = absurd (false≢true (sym k₁ ∙ k₂))
    go (Answered.no_edition k₁ p₁ z₁) (Answered.no_chance k₂ v₂ e₂ h₂ p₂ z₂) = absurd (false≢true (sym k₁ ∙ k₂))
    go (Answered.no_edition k₁ p₁ z₁) (Answered.beyond k₂ v₂ e₂ c₂ b₂ i₂ p₂ z₂) = absurd (false≢true (sym k₁ ∙ k₂))
    go (Answered.no_edition k₁ p₁ z₁) (Answered.short k₂ v₂ e₂ c₂ ok₂ s₂ p₂ z₂) = absurd (false≢true (sym k₁ ∙ k₂))
    go (Answered.no_edition k₁ p₁ z₁) (Answered.done k₂ v₂ e₂ c₂ ok₂ s₂ p₂ z₂) = absurd (false≢true (sym k₁ ∙ k₂))
    go (Answered.no_diagram k₁ h₁ p₁ z₁) (Answered.no_edition k₂ p₂ z₂) = absurd (false≢true (sym k₂ ∙ k₁))
    go (Answered.no_diagram k₁ h₁ p₁ z₁) (Answered.no_diagram k₂ h₂ p₂ z₂) = refused_once 12 room p₁ p₂ (untouched_once z₁ z₂)
    go (Answered.no_diagram k₁ h₁ p₁ z₁) (Answered.too_short k₂ v₂ h₂ p₂ z₂) = absurd (h₁ v₂)
    go (Answered.no_diagram k₁ h₁ p₁ z₁) (Answered.no_chance k₂ v₂ e₂ h₂ p₂ z₂) = absurd (h₁ v₂)
    go (Answered.no_diagram k₁ h₁ p₁ z₁) (Answered.beyond k₂ v₂ e₂ c₂ b₂ i₂ p₂ z₂) = absurd (h₁ v₂)
    go (Answered.no_diagram k₁ h₁ p₁ z₁) (Answered.short k₂ v₂ e₂ c₂ ok₂ s₂ p₂ z₂) = absurd (h₁ v₂)
    go (Answered.no_diagram k₁ h₁ p₁ z₁) (Answered.done k₂ v₂ e₂ c₂ ok₂ s₂ p₂ z₂) = absurd (h₁ v₂)
    go (Answered.too_short k₁ v₁ h₁ p₁ z₁) (Answered.no_edition k₂ p₂ z₂) = absurd (false≢true (sym k₂ ∙ k₁))
    go (Answered.too_short k₁ v₁ h₁ p₁ z₁) (Answered.no_diagram k₂ h₂ p₂ z₂) = absurd (h₂ v₁)
    go (Answered.too_short k₁ v₁ h₁ p₁ z₁) (Answered.too_short k₂ v₂ h₂ p₂ z₂) = refused_once 9 room p₁ p₂ (untouched_once z₁ z₂)
    go (Answered.too_short k₁ v₁ h₁ p₁ z₁) (Answered.no_chance k₂ v₂ e₂ h₂ p₂ z₂) = absurd (h₁ e₂)
    go (Answered.too_short k₁ v₁ h₁ p₁ z₁) (Answered.beyond k₂ v₂ e₂ c₂ b₂ i₂ p₂ z₂) = absurd (h₁ e₂)
    go (Answered.too_short k₁ v₁ h₁ p₁ z₁) (Answered.short k₂ v₂ e₂ c₂ ok₂ s₂ p₂ z₂) = absurd (h₁ e₂)
    go (Answered.too_short k₁ v₁ h₁ p₁ z₁) (Answered.done k₂ v₂ e₂ c₂ ok₂ s₂ p₂ z₂) = absurd (h₁ e₂)
    go (Answered.no_chance k₁ v₁ e₁ h₁ p₁ z₁) (Answered.no_edition k₂ p₂ z₂) = absurd (false≢true (sym k₂ ∙ k₁))
    go (Answered.no_chance k₁ v₁ e₁ h₁ p₁ z₁) (Answered.no_diagram k₂ h₂ p₂ z₂) = absurd (h₂ v₁)
    go (Answered.no_chance k₁ v₁ e₁ h₁ p₁ z₁) (Answered.too_short k₂ v₂ h₂ p₂ z₂) = absurd (h₂ e₁)
    go (Answered.no_chance k₁ v₁ e₁ h₁ p₁ z₁) (Answered.no_chance k₂ v₂ e₂ h₂ p₂ z₂) = refused_once 7 room p₁ p₂ (untouched_once z₁ z₂)
    go (Answered.no_chance k₁ v₁ e₁ h₁ p₁ z₁) (Answered.beyond k₂ v₂ e₂ c₂ b₂ i₂ p₂ z₂) = absurd (h₁ c₂)
    go (Answered.no_chance k₁ v₁ e₁ h₁ p₁ z₁) (Answered.short k₂ v₂ e₂ c₂ ok₂ s₂ p₂ z₂) = absurd (h₁ c₂)
    go (Answered.no_chance k₁ v₁ e₁ h₁ p₁ z₁) (Answered.done k₂ v₂ e₂ c₂ ok₂ s₂ p₂ z₂) = absurd (h₁ c₂)
    go (Answered.beyond k₁ v₁ e₁ c₁ b₁ i₁ p₁ z₁) (Answered.no_edition k₂ p₂ z₂) = absurd (false≢true (sym k₂ ∙ k₁))
    go (Answered.beyond k₁ v₁ e₁ c₁ b₁ i₁ p₁ z₁) (Answered.no_diagram k₂ h₂ p₂ z₂) = absurd (h₂ v₁)
    go (Answered.beyond k₁ v₁ e₁ c₁ b₁ i₁ p₁ z₁) (Answered.too_short k₂ v₂ h₂ p₂ z₂) = absurd (h₂ e₁)
    go (Answered.beyond k₁ v₁ e₁ c₁ b₁ i₁ p₁ z₁) (Answered.no_chance k₂ v₂ e₂ h₂ p₂ z₂) = absurd (h₂ c₁)
    go (Answered.beyond k₁ v₁ e₁ c₁ b₁ i₁ p₁ z₁) (Answered.beyond k₂ v₂ e₂ c₂ b₂ i₂ p₂ z₂) = refused_once 13 room p₁ p₂ (untouched_once z₁ z₂)
    go (Answered.beyond k₁ v₁ e₁ c₁ b₁ i₁ p₁ z₁) (Answered.short k₂ v₂ e₂ c₂ ok₂ s₂ p₂ z₂) = absurd (ok₂ b₁ i₁)
    go (Answered.beyond k₁ v₁ e₁ c₁ b₁ i₁ p₁ z₁) (Answered.done k₂ v₂ e₂ c₂ ok₂ s₂ p₂ z₂) = absurd (ok₂ b₁ i₁)
    go (Answered.short k₁ v₁ e₁ c₁ ok₁ s₁ p₁ z₁) (Answered.no_edition k₂ p₂ z₂) = absurd (false≢true (sym k₂ ∙ k₁))
    go (Answered.short k₁ v₁ e₁ c₁ ok₁ s₁ p₁ z₁) (Answered.no_diagram k₂ h₂ p₂ z₂) = absurd (h₂ v₁)
    go (Answered.short k₁ v₁ e₁ c₁ ok₁ s₁ p₁ z₁) (Answered.too_short k₂ v₂ h₂ p₂ z₂) = absurd (h₂ e₁)
    go (Answered.short k₁ v₁ e₁ c₁ ok₁ s₁ p₁ z₁) (Answered.no_chance k₂ v₂ e₂ h₂ p₂ z₂) = absurd (h₂ c₁)
    go (Answered.short k₁ v₁ e₁ c₁ ok₁ s₁ p₁ z₁) (Answered.beyond k₂ v₂ e₂ c₂ b₂ i₂ p₂ z₂) = absurd (ok₁ b₂ i₂)
    go (Answered.short k₁ v₁ e₁ c₁ ok₁ s₁ p₁ z₁) (Answered.short k₂ v₂ e₂ c₂ ok₂ s₂ p₂ z₂) = refused_once 14 room p₁ p₂ (cleared_once z₁ z₂)
    go (Answered.short k₁ v₁ e₁ c₁ ok₁ s₁ p₁ z₁) (Answered.done k₂ v₂ e₂ c₂ ok₂ s₂ p₂ z₂) = absurd (s₂ s₁)
    go (Answered.done k₁ v₁ e₁ c₁ ok₁ s₁ p₁ z₁) (Answered.no_edition k₂ p₂ z₂) = absurd (false≢true (sym k₂ ∙ k₁))
    go (Answered.done k₁ v₁ e₁ c₁ ok₁ s₁ p₁ z₁) (Answered.no_diagram k₂ h₂ p₂ z₂) = absurd (h₂ v₁)
    go (Answered.done k₁ v₁ e₁ c₁ ok₁ s₁ p₁ z₁) (Answered.too_short k₂ v₂ h₂ p₂ z₂) = absurd (h₂ e₁)
    go (Answered.done k₁ v₁ e₁ c₁ ok₁ s₁ p₁ z₁) (Answered.no_chance k₂ v₂ e₂ h₂ p₂ z₂) = absurd (h₂ c₁)
    go (Answered.done k₁ v₁ e₁ c₁ ok₁ s₁ p₁ z₁) (Answered.beyond k₂ v₂ e₂ c₂ b₂ i₂ p₂ z₂) = absurd (ok₁ b₂ i₂)
    go (Answered.done k₁ v₁ e₁ c₁ ok₁ s₁ p₁ z₁) (Answered.short k₂ v₂ e₂ c₂ ok₂ s₂ p₂ z₂) = absurd (s₁ s₂)
    go (Answered.done k₁ v₁ e₁ c₁ ok₁ s₁ p₁ z₁) (Answered.done k₂ v₂ e₂ c₂ ok₂ s₂ p₂ z₂) = done_once a b p₁ p₂ (cleared_once z₁ z₂)

pub answer_once : {r n : ℕ} {T : List ℕ} {c root : ℕ} {A : List ℕ} {begin : Bool} {ws room F W : List ℕ} (x y : Outcome) → Array words x.last → Array words y.last
    → Told r n T c root A begin ws room F W x → Told r n T c root A begin ws room F W y → x ≡ y
answer_once x y a b p q = go x y a b p q
