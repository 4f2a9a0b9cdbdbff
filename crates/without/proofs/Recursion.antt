-- The recursion of without: one section for each call, one law for each need.
-- Assumes nothing.
use mathlib.Core.Path.{◌≡◌, sym, ap, ap₂, ◌∙◌, subst}
use mathlib.Core.Logic.{◌⊎◌, inl, inr}
use mathlib.Core.Bool.{true, false, true≢false}
use mathlib.Core.List.{List}
use Rattle.std.specs.Prelude.{Result, Ok, Err}
use Prim.Native.Nat.{ℕ, suc, ◌+◌, ◌<◌, ◌≤◌, min}
use native.Mathlib.Omega.{arith}
use Rattle.paper.specs.Limits.{limits}
use Rattle.paper.specs.Lists.{In}
use Rattle.paper.specs.Diagrams.{Diagram, leaf, node, Ordered}
use Rattle.algebra.specs.Operations.{subs, is_node}
use Rattle.algebra.specs.Families.{mk_z, without_d}
use Rattle.algebra.proofs.Base.{widen}
use Rattle.algebra.proofs.Subs.{subs_self, subs_trans, mkz_subs}
use Rattle.tables.specs.Table.{den}
use Rattle.store.specs.Store.{Store, Grown}
use Rattle.store.specs.Building.{Is, Part, Found, Step, Makes, Stops, Finishes}
use Rattle.store.specs.Memo.{Memo}
use Rattle.store.specs.declared.Built.{Built}
use Rattle.store.specs.declared.Full.{Full}
use Rattle.store.proofs.Denotes.{den_grown, found_grown}
use Rattle.store.proofs.Building.{makes_here, makes_seq, stops_more, stops_seq, step_more, step_seq, still}
use Rattle.store.proofs.Memory.{memo_keep, memo_map}
use Rattle.without.specs.Reading.{Readable, top, remain}
use Rattle.without.specs.Without.{Right, Ready, Answered, Parted, Taken, Takes}
use Rattle.store.specs.declared.Parts.{Parts}

-- ---- parts of a node made for families

pub part_failed : (e : ℕ) (A B E : Diagram) → Part A E → Part (mk_z e A B) E
part_failed e A B E p = record { inside = go (mkz_subs e A B).0; node = p.node }
  where
    go : (A ≡ leaf false) ⊎ In A (subs (mk_z e A B)) → In E (subs (mk_z e A B))
    go (inl q) = absurd (no_leaf (subst (λ D. In E (subs D)) q p.inside))
      where
        no_leaf : In E (subs (leaf false)) → ⊥
        no_leaf (inl r) = true≢false (sym p.node ∙ ap is_node r)
        no_leaf (inr k) = k
    go (inr k) = subs_trans E A (mk_z e A B) p.inside k

pub part_sound : (e : ℕ) (A B E : Diagram) → Part B E → Part (mk_z e A B) E
part_sound e A B E p = record { inside = subs_trans E B (mk_z e A B) p.inside (mkz_subs e A B).1; node = p.node }

pub part_self : {D E : Diagram} → Is D E → Part D E
part_self {D} {E} p = record { inside = subst (λ x. In x (subs D)) (sym p.is) (subs_self D); node = p.node }

-- ---- the memo stays right where the cut table grows

pub right_grown : {C C' : List ℕ} {d d' : ℕ} {T M : List ℕ} {H X : List ℕ} → Store C H X d → Grown C d C' d' → Memo (Right C d T) M → Memo (Right C' d' T) M
right_grown {C} {C'} {d} {d'} {T} s g m = memo_map (λ op f k r p. record {
  within = λ o. let a = p.within o in let b = g.more in omega arith;
  found = λ o. let v = found_grown s.lower g (p.found o) in
      record { within = v.within; is = v.is ∙ ap (λ D. without_d D (den T k)) (sym (den_grown s.lower g f (p.within o))) };
}) m

-- ---- numbers that can be read

pub readable_low : {T : List ℕ} {g k : ℕ} (m : ℕ) → Readable T g → k ≤ g → Ordered m limits.events (den T k) → Readable T k
readable_low {T} {g} {k} m r l o =
    let w = r.held.within in record {
      held = record { count = r.held.count; fits = r.held.fits; lower = r.held.lower; within = omega arith };
      ordered = widen m 0 limits.events (den T k) (omega arith) o;
    }

-- the events below later top nodes are fewer
top_later : (e : ℕ) (D : Diagram) → e < limits.events → Ordered (suc e) limits.events D → e < top D
top_later e (leaf b) l o = l
top_later e (node x f s) l o = o.0

pub remain_less : (F G F' G' : Diagram) (e : ℕ) {t : ℕ} → e < limits.events → min (top F) (top G) ≤ e → Ordered (suc e) limits.events F' → Ordered (suc e) limits.events G'
    → remain F G ≡ t → remain F' G' < t
remain_less F G F' G' e l q a b r =
    let x = top_later e F' l a in
    let y = top_later e G' l b in omega arith

-- ---- nothing is added

pub taken_here : {C H X : List ℕ} {d : ℕ} {M T : List ℕ} {f g r : ℕ} → Ready C H X d M T f g → Answered M f g r → Taken C d T (without_d (den C f) (den T g)) C H X M d r
taken_here {C} {H} {X} {d} {M} {T} rd a = record { made = makes_here rd.store (a.found C H X d T rd); memo = rd.memo }

-- the same, said of what two ways of the code have come to
pub taken_is : {C : List ℕ} {d : ℕ} {T : List ℕ} {D : Diagram} {C₁ H₁ X₁ M₁ C₂ H₂ X₂ M₂ : List ℕ} {b₁ b₂ : Built} → C₂ ≡ C₁ → H₂ ≡ H₁ → X₂ ≡ X₁ → M₂ ≡ M₁ → b₂ ≡ b₁
    → Taken C d T D C₁ H₁ X₁ M₁ b₁.count b₁.node → Taken C d T D C₂ H₂ X₂ M₂ b₂.count b₂.node
taken_is c h x m b t = rw (c, h, x, m, b) t

-- ---- the recursion

module _ {C H X : List ℕ} {d : ℕ} {M T : List ℕ} {f g : ℕ} {p : Parts} (rd : Ready C H X d M T f g) (k : Parted C T f g p) where
  abbrev D : Diagram
  D = without_d (den C f) (den T g)

  abbrev pub A : Diagram
  A = without_d (den C p.f1) (den T p.g1)

  abbrev B : Diagram
  B = without_d (den C p.f0) (den T p.g0)

  left_in : (E : Diagram) → Part A E → Part D E
  left_in E q = subst (λ x. Part x E) (sym k.splits) (part_failed p.e A B E q)

  right_in : (E : Diagram) → Part B E → Part D E
  right_in E q = subst (λ x. Part x E) (sym k.splits) (part_sound p.e A B E q)

  pub ready_1 : Ready C H X d M T p.f1 p.g1
  ready_1 = record {
    store = rd.store;
    memo = rd.memo;
    family = record {
      within = let a = rd.family.within in let b = k.f1_low in omega arith;
      ordered = widen (suc p.e) 0 limits.events (den C p.f1) (omega arith) k.f1_later;
    };
    function = readable_low (suc p.e) rd.function k.g1_low k.g1_later;
  }

  pub less_1 : {t : ℕ} → remain (den C f) (den T g) ≡ t → remain (den C p.f1) (den T p.g1) < t
  less_1 = remain_less (den C f) (den T g) (den C p.f1) (den T p.g1) p.e k.event k.first k.f1_later k.g1_later

  pub short_1 : {C₁ H₁ X₁ : List ℕ} {d₁ : ℕ} → Stops (Part A) C d C₁ H₁ X₁ d₁ → Stops (Part D) C d C₁ H₁ X₁ d₁
  short_1 s = stops_more left_in s

  module _ {C₁ H₁ X₁ M₁ : List ℕ} {d₁ hi : ℕ} (a : Taken C d T A C₁ H₁ X₁ M₁ d₁ hi) where
    -- the second operand denotes what it did
    same_0 : den C₁ p.f0 ≡ den C p.f0
    same_0 = let u = rd.family.within in let v = k.f0_low in den_grown rd.store.lower a.made.step.grown p.f0 (omega arith)

    later_0 : Ordered (suc p.e) limits.events (den C₁ p.f0)
    later_0 = subst (Ordered (suc p.e) limits.events) (sym same_0) k.f0_later

    abbrev pub B₁ : Diagram
    B₁ = without_d (den C₁ p.f0) (den T p.g0)

    same_B : B₁ ≡ B
    same_B = ap (λ x. without_d x (den T p.g0)) same_0

    pub ready_2 : Ready C₁ H₁ X₁ d₁ M₁ T p.f0 p.g0
    ready_2 = record {
      store = a.made.step.store;
      memo = a.memo;
      family = record {
        within = let u = rd.family.within in let v = k.f0_low in let w = a.made.step.grown.more in omega arith;
        ordered = widen (suc p.e) 0 limits.events (den C₁ p.f0) (omega arith) later_0;
      };
      function = readable_low (suc p.e) rd.function k.g0_low k.g0_later;
    }

    pub less_2 : {t : ℕ} → remain (den C f) (den T g) ≡ t → remain (den C₁ p.f0) (den T p.g0) < t
    less_2 = remain_less (den C f) (den T g) (den C₁ p.f0) (den T p.g0) p.e k.event k.first later_0 k.g0_later

    step_1 : Step (Part D) C d C₁ H₁ X₁ d₁
    step_1 = step_more left_in a.made.step

    right_in_1 : (E : Diagram) → Part B₁ E → Part D E
    right_in_1 E q = right_in E (subst (λ x. Part x E) same_B q)

    pub short_2 : {C₂ H₂ X₂ : List ℕ} {d₂ : ℕ} → Stops (Part B₁) C₁ d₁ C₂ H₂ X₂ d₂ → Stops (Part D) C d C₂ H₂ X₂ d₂
    short_2 s = stops_seq step_1 (stops_more right_in_1 s)

    module _ {C₂ H₂ X₂ M₂ : List ℕ} {d₂ lo : ℕ} (b : Taken C₁ d₁ T B₁ C₂ H₂ X₂ M₂ d₂ lo) where
      pub store_2 : Store C₂ H₂ X₂ d₂
      store_2 = b.made.step.store

      hi_found : Found C₂ d₂ A hi
      hi_found = still a.made b.made.step

      pub hi_in : hi < d₂ + 2
      hi_in = hi_found.within

      pub lo_in : lo < d₂ + 2
      lo_in = b.made.found.within

      step_2 : Step (Part D) C d C₂ H₂ X₂ d₂
      step_2 = step_seq step_1 (step_more right_in_1 b.made.step)

      abbrev made : Diagram
      made = mk_z p.e (den C₂ hi) (den C₂ lo)

      whole : made ≡ D
      whole = ap₂ (mk_z p.e) hi_found.is (b.made.found.is ∙ same_B) ∙ sym k.splits

      self_in : (E : Diagram) → Is made E → Part D E
      self_in E q = part_self (record { is = q.is ∙ whole; node = q.node })

      module _ {C₃ H₃ X₃ : List ℕ} {d₃ : ℕ} where
        right_kept : {r : ℕ} → Makes (Is made) C₂ d₂ made C₃ H₃ X₃ d₃ r → Makes (Part D) C d D C₃ H₃ X₃ d₃ r
        right_kept m = makes_seq step_2 (record { step = step_more self_in m.step; found = record { within = m.found.within; is = m.found.is ∙ whole } })

      -- the node over both results is f without g
      pub finished : (C₃ H₃ X₃ M₃ : List ℕ) (r : Result Built Full) → Finishes C₂ M₂ d₂ made 3 f g C₃ H₃ X₃ M₃ r → Takes C d T D C₃ H₃ X₃ M₃ r
      finished C₃ H₃ X₃ M₃ (Ok r) q =
          let m = right_kept q.makes in record {
            made = m;
            memo = memo_keep (right_grown store_2 q.makes.step.grown b.memo)
                (record {
                  within = λ _. let u = rd.family.within in let w = m.step.grown.more in omega arith;
                  found = λ _. record {
                    within = m.found.within;
                    is = m.found.is ∙ ap (λ x. without_d x (den T g)) (sym (den_grown rd.store.lower m.step.grown f rd.family.within));
                  };
                })
                q.keeps;
          }
      finished C₃ H₃ X₃ M₃ (Err x) q = stops_seq step_2 (stops_more self_in q)
