-- The chances of events in their states, one after the other; and what becomes of the chances is one.
-- Assumes nothing.
use mathlib.Core.Path.{◌≡◌, refl, sym, ap, ◌∙◌, subst}
use mathlib.Core.Logic.{◌≢◌}
use mathlib.Core.Bool.{Bool, true, false}
use mathlib.Core.List.{List, [], ◌∷◌}
use Prim.Native.Nat.{ℕ, zero, suc, ◌+◌, ◌≤◌, ◌<◌}
use native.Mathlib.Omega.{arith}
use lib.Dec.{ltb}
use lib.ListN.{length, get_or, set, length-set}
use lib.Seq.{ext_get_or, get_or-set_same, get_or-set_other}
use borrow.Author.Tests.{ltb-true, ltb-false}
use Rattle.paper.specs.Limits.{limits, billion}
use Rattle.paper.specs.Answers.{Verdict}
use Rattle.paper.specs.Refusals.{number}
use Rattle.paper.specs.declared.refusal.Refused.{Refused}
use Rattle.paper.proofs.Refusals.{number_above}
use Rattle.paper.specs.Store.{Settings, state_of, accepted, refused_at, judge_store, settings_of}
use Rattle.paper.specs.Forcing.{chance_as, chances_from, chances_under}
use Rattle.settings.specs.States.{Gives, ChancesForced, bad_store, too_many, done}
use Rattle.settings.proofs.Judged.{number_zero}
use Rattle.settings.proofs.Reading.{gives}

-- ---- one chance

pub chance_free : (a x : ℕ) → x ≡ 0 → a ≡ chance_as billion a (state_of x)
chance_free a x e = sym (ap (λ y. chance_as billion a (state_of y)) e)

pub chance_failed : (a x : ℕ) → x ≡ 1 → billion ≡ chance_as billion a (state_of x)
chance_failed a x e = sym (ap (λ y. chance_as billion a (state_of y)) e)

pub chance_sound : (a x : ℕ) → x ≢ 0 → x ≢ 1 → 0 ≡ chance_as billion a (state_of x)
chance_sound a zero p q = absurd (p refl)
chance_sound a (suc zero) p q = absurd (q refl)
chance_sound a (suc (suc x)) p q = refl

-- ---- all chances

from_long : (s : Settings) (e : ℕ) (cs : List ℕ) → length (chances_from s e cs) ≡ length cs
from_long s e [] = refl
from_long s e (c ∷ cs) = ap suc (from_long s (suc e) cs)

pub chances_long : (s : Settings) (cs : List ℕ) → length (chances_under s cs) ≡ length cs
chances_long s cs = from_long s 0 cs

from_at : (s : Settings) (e : ℕ) (cs : List ℕ) (j : ℕ) → j < length cs → get_or (chances_from s e cs) j 0 ≡ chance_as billion (get_or cs j 0) (s (e + j))
from_at s e [] j h = absurd (omega arith)
from_at s e (c ∷ cs) zero h = ap (λ i. chance_as billion c (s i)) (omega arith)
from_at s e (c ∷ cs) (suc j) h = from_at s (suc e) cs j (omega arith) ∙ ap (λ i. chance_as billion (get_or cs j 0) (s i)) (omega arith)

pub chances_at : (s : Settings) (cs : List ℕ) (j : ℕ) → j < length cs → get_or (chances_under s cs) j 0 ≡ chance_as billion (get_or cs j 0) (s j)
chances_at s cs j h = from_at s 0 cs j h ∙ ap (λ i. chance_as billion (get_or cs j 0) (s i)) (omega arith)

-- the first e of them are made
pub record Changing (s : Settings) (C C' : List ℕ) (e : ℕ) : Type 0 where
  pub long : length C' ≡ length C
  pub high : e ≤ length C
  pub made : (j : ℕ) → j < e → get_or C' j 0 ≡ chance_as billion (get_or C j 0) (s j)
  pub left : (j : ℕ) → e ≤ j → get_or C' j 0 ≡ get_or C j 0

pub changing_start : {s : Settings} {C : List ℕ} → Changing s C C 0
changing_start = record { long = refl; high = omega arith; made = λ j l. absurd (omega arith); left = λ j l. refl }

pub changing_next : {s : Settings} {C C' : List ℕ} {e c : ℕ} → Changing s C C' e → e < length C' → c ≡ chance_as billion (get_or C' e 0) (s e) → Changing s C (set C' e c) (e + 1)
changing_next {s} {C} {C'} {e} {c} w l q = record {
  long = length-set C' e c ∙ w.long;
  high = let k = w.long in omega arith;
  made = λ j h. go j h (ltb j e) refl;
  left = λ j h. get_or-set_other C' e j c 0 (omega arith) ∙ w.left j (omega arith);
}
  where
    go : (j : ℕ) → j < e + 1 → (b : Bool) → ltb j e ≡ b → get_or (set C' e c) j 0 ≡ chance_as billion (get_or C j 0) (s j)
    go j h true t = let m = ltb-true j e t in get_or-set_other C' e j c 0 (omega arith) ∙ w.made j m
    go j h false t =
        let k : e ≡ j = let m = ltb-false j e t in omega arith in
        subst (λ j. get_or (set C' e c) j 0 ≡ chance_as billion (get_or C j 0) (s j)) k
        (get_or-set_same C' e c 0 l ∙ q ∙ ap (λ a. chance_as billion a (s e)) (w.left e (omega arith)))

pub changing_end : {s : Settings} {C C' : List ℕ} {e : ℕ} → Changing s C C' e → length C' ≤ e → C' ≡ chances_under s C
changing_end {s} {C} {C'} {e} w l = ext_get_or 0 C' (chances_under s C) (w.long ∙ sym (chances_long s C))
    (λ j h. w.made j (omega arith) ∙ sym (chances_at s C j (let k = w.long in omega arith)))

-- ---- the call

pub judged_good : (n : ℕ) (store : List ℕ) → accepted ≡ judge_store n store → judge_store n store ≡ accepted
judged_good n store g = number_zero n store (ap (λ v. v.number) (sym g))

module _ {store : List ℕ} {asked : ℕ} {C : List ℕ} where
  pub forced_bad : (w : Refused) → refused_at (number w.why) w.place ≡ judge_store (length C) store → ChancesForced store asked C C (number w.why) w.place
  forced_bad w g =
      let h = number_above w.why in
      bad_store (λ e. let z = ap (λ v. v.number) g ∙ e in absurd (omega arith)) (gives g) refl

  pub forced_many : accepted ≡ judge_store (length C) store → limits.events < length C → ChancesForced store asked C C 9 0
  forced_many g l = too_many (judged_good (length C) store g) l (record { number_is = refl; place_is = refl }) refl

  pub forced_done : accepted ≡ judge_store (length C) store → length C ≤ limits.events
      → {s : Settings} {C' : List ℕ} → s ≡ settings_of asked store → C' ≡ chances_under s C → ChancesForced store asked C C' 0 0
  forced_done g l q e = done (judged_good (length C) store g) l (gives refl) (e ∙ ap (λ x. chances_under x C) q)

-- ONE OUTCOME
pub record SameChances (C₁ C₂ : List ℕ) (n₁ n₂ p₁ p₂ : ℕ) : Type 0 where
  pub chances : C₂ ≡ C₁
  pub number : n₂ ≡ n₁
  pub place : p₂ ≡ p₁

same_gives : {v : Verdict} {C C₁ C₂ : List ℕ} {n₁ n₂ p₁ p₂ : ℕ} → Gives v n₁ p₁ → Gives v n₂ p₂ → C₁ ≡ C → C₂ ≡ C → SameChances C₁ C₂ n₁ n₂ p₁ p₂
same_gives g h e f = record { chances = f ∙ sym e; number = h.number_is ∙ sym g.number_is; place = h.place_is ∙ sym g.place_is }

number_of : (n : ℕ) (store : List ℕ) → judge_store n store ≡ accepted → (judge_store n store).number ≡ 0
number_of n store q = ap (λ v. v.number) q

module _ {store : List ℕ} {asked : ℕ} {C C₁ C₂ : List ℕ} {n₁ n₂ p₁ p₂ : ℕ} where
  pub chances_once : ChancesForced store asked C C₁ n₁ p₁ → ChancesForced store asked C C₂ n₂ p₂ → SameChances C₁ C₂ n₁ n₂ p₁ p₂
  chances_once (bad_store z g e) (bad_store y h f) = same_gives g h e f
  chances_once (bad_store z g e) (too_many q l h f) = absurd (z (number_of (length C) store q))
  chances_once (bad_store z g e) (done q l h f) = absurd (z (number_of (length C) store q))
  chances_once (too_many q l g e) (bad_store y h f) = absurd (y (number_of (length C) store q))
  chances_once (too_many q l g e) (too_many r k h f) = same_gives g h e f
  chances_once (too_many q l g e) (done r k h f) = absurd (omega arith)
  chances_once (done q l g e) (bad_store y h f) = absurd (y (number_of (length C) store q))
  chances_once (done q l g e) (too_many r k h f) = absurd (omega arith)
  chances_once (done q l g e) (done r k h f) = same_gives g h e f
