-- The contract of `decides` tells the answer: each number when it is due, and one outcome.
-- Assumes nothing.
use mathlib.Core.Path.{◌≡◌, sym, ◌∙◌, subst}
use mathlib.Core.Logic.{◌↔◌}
use mathlib.Core.Bool.{Bool, true}
use mathlib.Core.List.{List}
use Prim.Native.Nat.{ℕ}
use native.Mathlib.Omega.{arith}
use Rattle.paper.specs.Sets.{Set}
use Rattle.paper.specs.GoodListing.{Tells, Good}
use Rattle.paper.specs.Answers.{Beyond}
use Rattle.algebra.proofs.Lists.{bool_iff}
use Rattle.sets.specs.Words.{set_of}
use Rattle.sidebyside.proofs.Telling.{tells_once}
use Rattle.decision.specs.Answers.{ContainsOne, Decided, Refused, Said, Decides}

good : {bytes : List ℕ} {sets : List Set} → Tells bytes sets → Good bytes
good {sets = sets} t = record { sets = sets; tells = t }

module _ {bytes : List ℕ} {n : ℕ} {ws : List ℕ} {number place : ℕ} {fails : Bool} where
  -- 20 exactly if the bytes are no good listing
  pub twenty : Decides bytes n ws number place fails → (number ≡ 20) ↔ (Good bytes → ⊥)
  twenty (Decides.bad_listing h r) = ((λ q. h), λ _. r.is)
  twenty (Decides.beyond g b r) = let w = r.is in ((λ q. absurd (omega (arith, w, q))), λ h. absurd (h g))
  twenty (Decides.decided l t b s) = let w = s.is in ((λ q. absurd (omega (arith, w, q))), λ h. absurd (h (good t)))

  -- 13 exactly if they are one, and the set has a member at or beyond the events
  pub thirteen : Decides bytes n ws number place fails → (number ≡ 13) ↔ (Good bytes × Beyond n (set_of ws))
  thirteen (Decides.bad_listing h r) = let w = r.is in ((λ q. absurd (omega (arith, w, q))), λ p. absurd (h p.0))
  thirteen (Decides.beyond g b r) = ((λ q. (g, b)), λ _. r.is)
  thirteen (Decides.decided l t b s) = let w = s.is in ((λ q. absurd (omega (arith, w, q))), λ p. absurd (b p.1))

  -- of a good listing and a set of the events 0, and `fails` exactly if the set contains one of the cuts that the bytes tell
  pub decided_by : Decides bytes n ws number place fails → (l : List Set) → Tells bytes l → (Beyond n (set_of ws) → ⊥) → (number ≡ 0) × ((fails ≡ true) ↔ ContainsOne l (set_of ws))
  decided_by (Decides.bad_listing h r) l t b = absurd (h (good t))
  decided_by (Decides.beyond g k r) l t b = absurd (b k)
  decided_by (Decides.decided k u _ s) l t b = (s.is, subst (λ (x : List Set). (fails ≡ true) ↔ ContainsOne x (set_of ws)) (tells_once u t) s.says)

  pub no_place : Decides bytes n ws number place fails → place ≡ 0
  no_place (Decides.bad_listing h r) = r.no_place
  no_place (Decides.beyond g b r) = r.no_place
  no_place (Decides.decided l t b s) = s.no_place

-- an answer that the contract allows
abbrev pub Allowed : List ℕ → ℕ → List ℕ → Decided → Type 0
Allowed bytes n ws x = Decides bytes n ws x.number x.place x.fails

module _ (x y : Decided) where
  same : x.number ≡ y.number → x.place ≡ y.place → x.fails ≡ y.fails → x ≡ y
  same p q r = λ i. record { number = p i; place = q i; fails = r i }

  refused : (m : ℕ) → Refused m x.number x.place x.fails → Refused m y.number y.place y.fails → x ≡ y
  refused m p q = same (p.is ∙ sym q.is) (p.no_place ∙ sym q.no_place) (p.unsaid ∙ sym q.unsaid)

  said : (l : List Set) (S : Set) → Said l S x.number x.place x.fails → Said l S y.number y.place y.fails → x ≡ y
  said l S p q = same (p.is ∙ sym q.is) (p.no_place ∙ sym q.no_place) (bool_iff x.fails y.fails (λ h. q.says.1 (p.says.0 h)) (λ h. p.says.1 (q.says.0 h)))

  -- ONE OUTCOME
  pub decides_once : {bytes : List ℕ} {n : ℕ} {ws : List ℕ} → Allowed bytes n ws x → Allowed bytes n ws y → x ≡ y
  decides_once (Decides.bad_listing h p) (Decides.bad_listing k q) = refused 20 p q
  decides_once (Decides.bad_listing h p) (Decides.beyond g b q) = absurd (h g)
  decides_once (Decides.bad_listing h p) (Decides.decided l t b q) = absurd (h (good t))
  decides_once (Decides.beyond g b p) (Decides.bad_listing k q) = absurd (k g)
  decides_once (Decides.beyond g b p) (Decides.beyond _ _ q) = refused 13 p q
  decides_once (Decides.beyond g b p) (Decides.decided l t c q) = absurd (c b)
  decides_once (Decides.decided l t b p) (Decides.bad_listing k q) = absurd (k (good t))
  decides_once (Decides.decided l t b p) (Decides.beyond g c q) = absurd (b c)
  decides_once {ws = ws} (Decides.decided l t b p) (Decides.decided k u c q) =
      said l (set_of ws) p (subst (λ (z : List Set). Said z (set_of ws) y.number y.place y.fails) (tells_once u t) q)
