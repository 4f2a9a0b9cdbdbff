-- Steps in a row: what was made stays, and a table that is full for one step is full for all.
-- Assumes nothing.
use mathlib.Core.Path.{◌≡◌, refl, sym, ap, ◌∙◌, subst}
use mathlib.Core.Logic.{◌⊎◌, inl, inr}
use mathlib.Core.Bool.{true, false}
use mathlib.Core.List.{List, [], ◌∷◌, ◌++◌, map}
use Prim.Native.Nat.{ℕ, zero, suc, ◌<◌}
use native.Mathlib.Omega.{arith}
use lib.ListN.{length, get_or}
use lib.Seq.{ext_get_or}
use Rattle.paper.specs.Lists.{In}
use Rattle.paper.specs.Diagrams.{Diagram, leaf}
use Rattle.algebra.proofs.Lists.{in_left, in_right, in_append}
use Rattle.tables.specs.Table.{den}
use Rattle.tables.specs.Stored.{Lower}
use Rattle.tables.proofs.Den.{den_0, den_1}
use Rattle.store.specs.Store.{Store, Grown}
use Rattle.store.specs.Building.{Part, PartOf, Found, Step, Makes, Stops}
use Rattle.store.proofs.Denotes.{found_grown}
use Rattle.store.proofs.Building.{step_here, step_more, stops_more, step_seq, stops_seq}
use Rattle.atleast.specs.Making.{All, Row, Within, Made}

-- ---- the leaves

pub found_0 : (T : List ℕ) (c : ℕ) → Found T c (leaf false) 0
found_0 T c = record { within = omega arith; is = den_0 T }

pub found_1 : (T : List ℕ) (c : ℕ) → Found T c (leaf true) 1
found_1 T c = record { within = omega arith; is = den_1 T }

-- ---- diagrams that have numbers

pub all_none : {T : List ℕ} {c : ℕ} → All T c []
all_none = record { each = λ d h. absurd h }

pub all_one : {T : List ℕ} {c : ℕ} {D : Diagram} {r : ℕ} → Found T c D r → All T c (D ∷ [])
all_one {T} {c} {D} {r} f = record { each = λ d h. go d h }
  where
    go : (d : Diagram) → In d (D ∷ []) → (r : ℕ) × Found T c d r
    go d (inl e) = (r, subst (λ x. Found T c x r) (sym e) f)
    go d (inr h) = absurd h

pub all_append : {T : List ℕ} {c : ℕ} {ds es : List Diagram} → All T c ds → All T c es → All T c (ds ++ es)
all_append {T} {c} {ds} {es} a b = record { each = λ d h. go d (in_append d ds es h) }
  where
    go : (d : Diagram) → In d ds ⊎ In d es → (r : ℕ) × Found T c d r
    go d (inl h) = a.each d h
    go d (inr h) = b.each d h

module _ {T T' : List ℕ} {c c' : ℕ} (low : Lower T c) (grown : Grown T c T' c') where
  pub all_grown : {ds : List Diagram} → All T c ds → All T' c' ds
  all_grown a = record { each = λ d h. let (r, f) = a.each d h in (r, found_grown low grown f) }

  pub row_grown : {ds : List Diagram} {R : List ℕ} → Row T c ds R → Row T' c' ds R
  row_grown w = record { each = λ j l. found_grown low grown (w.each j l) }

-- ---- numbers in a row

module _ (T : List ℕ) where
  pub at_map : (R : List ℕ) (j : ℕ) → j < length R → get_or (map (den T) R) j (leaf false) ≡ den T (get_or R j 0)
  at_map [] j h = absurd (omega arith)
  at_map (r ∷ R) zero h = refl
  at_map (r ∷ R) (suc j) h = at_map R j (omega arith)

  pub map_long : (R : List ℕ) → length (map (den T) R) ≡ length R
  map_long [] = refl
  map_long (r ∷ R) = ap suc (map_long R)

pub row_here : {T : List ℕ} {c : ℕ} {R : List ℕ} → Within c R → Row T c (map (den T) R) R
row_here {T} {c} {R} w = record {
  each = λ j l. let h : j < length R = let e = map_long T R in omega arith in record { within = w.each j h; is = sym (at_map T R j h) };
}

pub row_map : {T : List ℕ} {c : ℕ} {ds : List Diagram} {R : List ℕ} → length R ≡ length ds → Row T c ds R → map (den T) R ≡ ds
row_map {T} {c} {ds} {R} e w = ext_get_or (leaf false) (map (den T) R) ds (map_long T R ∙ e)
    (λ j l. let h : j < length R = let m = map_long T R in omega arith in at_map T R j h ∙ (w.each j (omega arith)).is)

-- ---- steps made

pub part_more : {ds es : List Diagram} → ((d : Diagram) → In d ds → In d es) → (E : Diagram) → PartOf ds E → PartOf es E
part_more u E p = record { whole = p.whole; member = u p.whole p.member; part = p.part }

pub made_here : {ds : List Diagram} {T H X : List ℕ} {c : ℕ} → Store T H X c → All T c ds → Made ds T c T H X c
made_here s a = record { step = step_here s; all = a }

pub made_one : {D : Diagram} {T : List ℕ} {c : ℕ} {T' H' X' : List ℕ} {c' r : ℕ} → Makes (Part D) T c D T' H' X' c' r → Made (D ∷ []) T c T' H' X' c'
made_one {D} m = record { step = step_more (λ E p. record { whole = D; member = inl refl; part = p }) m.step; all = all_one m.found }

pub stops_one : {D : Diagram} {T : List ℕ} {c : ℕ} {T' H' X' : List ℕ} {c' : ℕ} → Stops (Part D) T c T' H' X' c' → Stops (PartOf (D ∷ [])) T c T' H' X' c'
stops_one {D} s = stops_more (λ E p. record { whole = D; member = inl refl; part = p }) s

module _ {ds : List Diagram} (es : List Diagram) {T : List ℕ} {c : ℕ} {T₁ H₁ X₁ : List ℕ} {c₁ : ℕ} (a : Made ds T c T₁ H₁ X₁ c₁) where
  first : Step (PartOf (ds ++ es)) T c T₁ H₁ X₁ c₁
  first = step_more (part_more (λ d h. in_left d ds es h)) a.step

  second : (E : Diagram) → PartOf es E → PartOf (ds ++ es) E
  second = part_more (λ d h. in_right d ds es h)

  pub made_seq : {T₂ H₂ X₂ : List ℕ} {c₂ : ℕ} → Made es T₁ c₁ T₂ H₂ X₂ c₂ → Made (ds ++ es) T c T₂ H₂ X₂ c₂
  made_seq b = record {
    step = step_seq first (step_more second b.step);
    all = all_append (all_grown a.step.store.lower b.step.grown a.all) b.all;
  }

  pub made_stops : {T₂ H₂ X₂ : List ℕ} {c₂ : ℕ} → Stops (PartOf es) T₁ c₁ T₂ H₂ X₂ c₂ → Stops (PartOf (ds ++ es)) T c T₂ H₂ X₂ c₂
  made_stops b = stops_seq first (stops_more second b)
