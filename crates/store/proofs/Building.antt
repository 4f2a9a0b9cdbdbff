-- Steps in a row: what was made stays, what was wanted stays wanted, and a full table stays full.
-- Assumes nothing.
use mathlib.Core.Path.{◌≡◌, refl, sym, ap, ◌∙◌, subst}
use mathlib.Core.Logic.{◌≢◌, ◌⊎◌, inl, inr}
use mathlib.Core.Bool.{true, false≢true}
use mathlib.Core.List.{List}
use Rattle.std.specs.Prelude.{Result, Ok, Err}
use Prim.Native.Nat.{ℕ, zero, suc, ◌+◌, ◌-◌, ◌*◌, ◌/◌, ◌<◌, ◌≤◌}
use native.Mathlib.Omega.{arith}
use lib.ListN.{get_or, length, set}
use Rattle.paper.specs.Lists.{In}
use Rattle.paper.specs.Diagrams.{Diagram, node, Reduced, mk_d}
use Rattle.algebra.specs.Operations.{subs, is_node}
use Rattle.algebra.specs.Families.{mk_z}
use Rattle.algebra.proofs.Base.{mk_same, mk_node, same_node}
use Rattle.algebra.proofs.Subs.{subs_self, subs_trans}
use Rattle.algebra.proofs.Without.{mkz_none, mkz_node}
use Rattle.tables.specs.Table.{den}
use Rattle.tables.proofs.Den.{den_0, den_1, den_node}
use Rattle.tables.proofs.Once.{den_inj}
use Rattle.store.specs.Store.{First, Absent, Store, Put, Stored}
use Rattle.store.specs.Building.{Is, Part, Found, Step, Makes, Lacks, Stops, Builds, Only, Tidy}
use Rattle.store.specs.Placing.{Unchanged, Lacking, Was, Grew, NoRoom, Puts}
use Rattle.store.specs.declared.Built.{Built}
use Rattle.store.specs.declared.Full.{Full}
use Rattle.store.proofs.Denotes.{below_or_not, grown_refl, grown_trans, den_grown, found_grown, den_no_node}
use Rattle.store.proofs.Adding.{put_grown, store_more, den_more}

-- ---- nothing is added

pub step_here : {W : Diagram → Type 0} {T H X : List ℕ} {c : ℕ} → Store T H X c → Step W T c T H X c
step_here {T = T} {c = c} s = record { store = s; grown = grown_refl T c; wanted = λ i a b. absurd (omega arith) }

pub makes_here : {W : Diagram → Type 0} {T H X : List ℕ} {c : ℕ} {D : Diagram} {r : ℕ} → Store T H X c → Found T c D r → Makes W T c D T H X c r
makes_here s f = record { step = step_here s; found = f }

-- ---- more is wanted

pub step_more : {W Y : Diagram → Type 0} {T : List ℕ} {c : ℕ} {T' H' X' : List ℕ} {c' : ℕ} → ((E : Diagram) → W E → Y E) → Step W T c T' H' X' c' → Step Y T c T' H' X' c'
step_more {T' = T'} u s = record { store = s.store; grown = s.grown; wanted = λ i a b. u (den T' i) (s.wanted i a b) }

pub makes_more : {W Y : Diagram → Type 0} {T : List ℕ} {c : ℕ} {D : Diagram} {T' H' X' : List ℕ} {c' r : ℕ} → ((E : Diagram) → W E → Y E) → Makes W T c D T' H' X' c' r → Makes Y T c D T' H' X' c' r
makes_more u m = record { step = step_more u m.step; found = m.found }

pub lacks_more : {W Y : Diagram → Type 0} {T : List ℕ} {c : ℕ} → ((E : Diagram) → W E → Y E) → Lacks W T c → Lacks Y T c
lacks_more u l = record { full = l.full; part = l.part; wanted = u l.part l.wanted; absent = l.absent }

pub stops_more : {W Y : Diagram → Type 0} {T : List ℕ} {c : ℕ} {T' H' X' : List ℕ} {c' : ℕ} → ((E : Diagram) → W E → Y E) → Stops W T c T' H' X' c' → Stops Y T c T' H' X' c'
stops_more u s = record { step = step_more u s.step; lacks = lacks_more u s.lacks }

-- ---- one after the other

module _ {W : Diagram → Type 0} {T : List ℕ} {c : ℕ} {T₁ H₁ X₁ : List ℕ} {c₁ : ℕ} (a : Step W T c T₁ H₁ X₁ c₁) where
  module _ {T₂ H₂ X₂ : List ℕ} {c₂ : ℕ} where
    pub step_seq : Step W T₁ c₁ T₂ H₂ X₂ c₂ → Step W T c T₂ H₂ X₂ c₂
    step_seq b = record {
      store = b.store;
      grown = grown_trans a.grown b.grown;
      wanted = λ i l h. go i l h (below_or_not i (c₁ + 2));
    }
      where
        go : (i : ℕ) → c + 2 ≤ i → i < c₂ + 2 → (i < c₁ + 2) ⊎ (c₁ + 2 ≤ i) → W (den T₂ i)
        go i l h (inl k) = subst W (sym (den_grown a.store.lower b.grown i k)) (a.wanted i l k)
        go i l h (inr k) = b.wanted i k h

    pub makes_seq : {D : Diagram} {r : ℕ} → Makes W T₁ c₁ D T₂ H₂ X₂ c₂ r → Makes W T c D T₂ H₂ X₂ c₂ r
    makes_seq b = record { step = step_seq b.step; found = b.found }

    pub stops_seq : Stops W T₁ c₁ T₂ H₂ X₂ c₂ → Stops W T c T₂ H₂ X₂ c₂
    stops_seq b = record { step = step_seq b.step; lacks = b.lacks }

-- the number still denotes what it did
pub still : {Y W : Diagram → Type 0} {T : List ℕ} {c : ℕ} {D : Diagram} {T₁ H₁ X₁ : List ℕ} {c₁ r : ℕ} {T₂ H₂ X₂ : List ℕ} {c₂ : ℕ}
    → Makes W T c D T₁ H₁ X₁ c₁ r → Step Y T₁ c₁ T₂ H₂ X₂ c₂ → Found T₂ c₂ D r
still a b = found_grown a.step.store.lower b.grown a.found

-- ---- what holds of every stored node

pub only_none : {W : Diagram → Type 0} {T : List ℕ} → Only W T 0
only_none = record { each = λ i a b. absurd (omega arith) }

pub only_step : {W : Diagram → Type 0} {T H X : List ℕ} {c : ℕ} {T' H' X' : List ℕ} {c' : ℕ} → Store T H X c → Only W T c → Step W T c T' H' X' c' → Only W T' c'
only_step {W} {T} {H} {X} {c} {T'} {H'} {X'} {c'} s o t = record { each = λ i a b. go i a b (below_or_not i (c + 2)) }
  where
    go : (i : ℕ) → 2 ≤ i → i < c' + 2 → (i < c + 2) ⊎ (c + 2 ≤ i) → W (den T' i)
    go i a b (inl k) = subst W (sym (den_grown s.lower t.grown i k)) (o.each i a k)
    go i a b (inr k) = t.wanted i k b

pub only_more : {W Y : Diagram → Type 0} {T : List ℕ} {c : ℕ} → ((E : Diagram) → W E → Y E) → Only W T c → Only Y T c
only_more {T = T} u o = record { each = λ i a b. u (den T i) (o.each i a b) }

-- ---- every number denotes a reduced diagram

pub tidy_none : (T : List ℕ) → Tidy T 0
tidy_none T = record { reduced = λ i b. go i b }
  where
    go : (i : ℕ) → i < 0 + 2 → Reduced (den T i)
    go zero b = subst Reduced (sym (den_0 T)) tt
    go (suc zero) b = subst Reduced (sym (den_1 T)) tt
    go (suc (suc i)) b = absurd (omega arith)

pub tidy_step : {W : Diagram → Type 0} {T H X : List ℕ} {c : ℕ} {T' H' X' : List ℕ} {c' : ℕ} → Store T H X c → Tidy T c → ((E : Diagram) → W E → Reduced E) → Step W T c T' H' X' c' → Tidy T' c'
tidy_step {W} {T} {H} {X} {c} {T'} {H'} {X'} {c'} s t u p = record { reduced = λ i b. go i b (below_or_not i (c + 2)) }
  where
    go : (i : ℕ) → i < c' + 2 → (i < c + 2) ⊎ (c + 2 ≤ i) → Reduced (den T' i)
    go i b (inl k) = subst Reduced (sym (den_grown s.lower p.grown i k)) (t.reduced i k)
    go i b (inr k) = u (den T' i) (p.wanted i k b)

-- ---- parts

pub is_part : {D : Diagram} (E : Diagram) → Is D E → Part D E
is_part {D} E q = record { inside = subst (λ d. In d (subs D)) (sym q.is) (subs_self D); node = q.node }

pub part_trans : {C D : Diagram} → In C (subs D) → (E : Diagram) → Part C E → Part D E
part_trans {C} {D} h E p = record { inside = subs_trans E C D p.inside h; node = p.node }

-- ---- one node is sought, and added where it is not there

-- what a triple denotes
abbrev target : List ℕ → ℕ → ℕ → ℕ → Diagram
target T e f s = node e (den T f) (den T s)

unchanged : (T H X : List ℕ) → Unchanged T H X T H X
unchanged T H X = record { nodes = refl; heads = refl; links = refl }

module _ {T H X : List ℕ} {c e f s : ℕ} (t : Store T H X c) where
  -- it is there
  pub placed_old : {r : ℕ} → Stored T c e f s r → Was T H X c (target T e f s) T H X c r
  placed_old {r} q =
      let x = q.hit in
      record {
        same = unchanged T H X;
        count = refl;
        found = record {
          within = q.to;
          is = den_node t.lower r q.low q.to ∙ (λ j. node (x.event j) (den T (x.failed j)) (den T (x.sound j)));
        };
      }

  module _ (lf : f < c + 2) (ls : s < c + 2) (miss : Absent T c e f s) where
    -- no number denotes it
    absent : Lacking T c (target T e f s)
    absent i l d = go (below_or_not i 2)
      where
        go : (i < 2) ⊎ (2 ≤ i) → ⊥
        go (inl k) = false≢true (sym (den_no_node t.lower i k) ∙ ap is_node d)
        go (inr k) =
            let (x, y, z) = same_node (sym (den_node t.lower i k l) ∙ d) in
            let u = t.lower.failed (i - 2) (omega arith) in
            let v = t.lower.sound (i - 2) (omega arith) in
            miss (i - 2) (omega arith) (record {
              event = x;
              failed = den_inj t.lower t.unique (omega arith) lf y;
              sound = den_inj t.lower t.unique (omega arith) ls z;
            })

    -- and there is no room
    pub placed_none : length T < 3 * c + 3 → NoRoom T H X c (target T e f s) T H X c
    placed_none h = record { same = unchanged T H X; count = refl; lacking = absent; full = let z = t.room in omega arith }

    -- or it is added
    pub placed_new : {h : ℕ} {T' : List ℕ} → First e f s (length H) h → 3 * c + 3 ≤ length T → Put T c e f s T'
        → Grew T c (target T e f s) T' (set H h (c + 2)) (set X c (get_or H h 0)) (c + 1) (c + 2)
    placed_new {h} {T'} first room p = record {
      lacking = absent;
      next = refl;
      count = refl;
      store = store_more t p first miss room lf ls;
      grown = put_grown t p;
      is = den_more t p first miss room lf ls;
    }

-- ---- what was placed is what was to be built

module _ {T H X : List ℕ} {c : ℕ} (t : Store T H X c) (D : Diagram) (n : is_node D ≡ true) (T' H' X' : List ℕ) where
  kept : Unchanged T H X T' H' X' → Step (Is D) T c T' H' X' c
  kept u = subst (λ T'. Step (Is D) T c T' H' X' c) (sym u.nodes) (subst (λ H'. Step (Is D) T c T H' X' c) (sym u.heads) (subst (λ X'. Step (Is D) T c T H X' c) (sym u.links) (step_here t)))

  pub placed_built : (r : Result Built Full) → Puts T H X c D T' H' X' r → Builds (Is D) T c D T' H' X' r
  placed_built (Ok b) (inl w) = record {
    step = subst (Step (Is D) T c T' H' X') (sym w.count) (kept w.same);
    found = record { within = let f = w.found.within in let q = w.count in omega arith; is = subst (λ T'. den T' b.node ≡ D) (sym w.same.nodes) w.found.is };
  }
  placed_built (Ok b) (inr w) = subst (λ k. Makes (Is D) T c D T' H' X' k b.node) (sym w.count) (record {
    step = record {
      store = w.store;
      grown = w.grown;
      wanted = λ i l h. let z : i ≡ b.node = let q = w.next in omega arith in let d = ap (den T') z ∙ w.is in record { is = d; node = ap is_node d ∙ n };
    };
    found = record { within = let q = w.next in omega arith; is = w.is };
  })
  placed_built (Err x) w = subst (Stops (Is D) T c T' H' X') (sym w.count) (record {
    step = kept w.same;
    lacks = record {
      full = w.full ∙ ap (λ T. length T / 3) (sym w.same.nodes);
      part = D;
      wanted = record { is = refl; node = n };
      absent = subst (λ T'. Lacking T' c D) (sym w.same.nodes) w.lacking;
    };
  })

-- ---- a node with a rule for what is dropped

module _ {T H X : List ℕ} {c : ℕ} (t : Store T H X c) (e : ℕ) {f s : ℕ} (lf : f < c + 2) (ls : s < c + 2) where
  pub made_same : f ≡ s → Makes (Is (mk_d e (den T f) (den T s))) T c (mk_d e (den T f) (den T s)) T H X c s
  made_same q = makes_here t (record { within = ls; is = sym (mk_same e (den T f) (den T s) (ap (den T) q) ∙ ap (den T) q) })

  pub made_none : f ≡ 0 → Makes (Is (mk_z e (den T f) (den T s))) T c (mk_z e (den T f) (den T s)) T H X c s
  made_none q = makes_here t (record { within = ls; is = sym (mkz_none e (den T f) (den T s) (ap (den T) q ∙ den_0 T)) })

  module _ (T' H' X' : List ℕ) (r : Result Built Full) (w : Puts T H X c (target T e f s) T' H' X' r) where
    b : Builds (Is (target T e f s)) T c (target T e f s) T' H' X' r
    b = placed_built t (target T e f s) refl T' H' X' r w

    pub made_node : f ≢ s → Builds (Is (mk_d e (den T f) (den T s))) T c (mk_d e (den T f) (den T s)) T' H' X' r
    made_node n = subst (λ D. Builds (Is D) T c D T' H' X' r) (sym (mk_node e (den T f) (den T s) (λ q. n (den_inj t.lower t.unique lf ls q)))) b

    pub made_cut : f ≢ 0 → Builds (Is (mk_z e (den T f) (den T s))) T c (mk_z e (den T f) (den T s)) T' H' X' r
    made_cut n = subst (λ D. Builds (Is D) T c D T' H' X' r) (sym (mkz_node e (den T f) (den T s) (λ q. n (den_inj t.lower t.unique lf (omega arith) (q ∙ sym (den_0 T)))))) b
