-- One node on the way up: the cuts of its failed branch without its sound branch, under its event, over the cuts of its sound branch.
-- Assumes nothing.
use mathlib.Core.Path.{◌≡◌, sym, ap, ap₂, ◌∙◌, subst}
use mathlib.Core.List.{List}
use Prim.Native.Nat.{ℕ, suc, ◌+◌, ◌-◌, ◌<◌}
use native.Mathlib.Omega.{arith}
use lib.ListN.{length, get_or}
use Rattle.paper.specs.Limits.{limits}
use Rattle.paper.specs.Diagrams.{Diagram, node, Ordered}
use Rattle.algebra.specs.Families.{mk_z, without_d, cuts_d}
use Rattle.algebra.proofs.Base.{widen}
use Rattle.algebra.proofs.Without.{tidy_cuts}
use Rattle.tables.specs.Table.{event_of, failed_of, sound_of, den}
use Rattle.tables.proofs.Den.{den_node}
use Rattle.store.specs.Store.{Store}
use Rattle.store.specs.Building.{Is, Part, Found, Step, Stops, Builds}
use Rattle.store.specs.declared.Built.{Built}
use Rattle.store.specs.declared.Full.{Full}
use Rattle.std.specs.Prelude.{Result, Ok, Err}
use Rattle.store.proofs.Denotes.{found_grown}
use Rattle.store.proofs.Building.{makes_seq, stops_more, stops_seq, step_more}
use Rattle.without.specs.Without.{Ready, Taken, Takes}
use Rattle.cuts.specs.Cutting.{Turn}
use Rattle.without.proofs.Recursion.{part_failed, part_self, right_grown, readable_low}

module _ {C H X : List ℕ} {d : ℕ} {M T O : List ℕ} {i : ℕ} (t : Turn C H X d M T O i) where
  abbrev e : ℕ
  e = event_of T i

  abbrev F : Diagram
  F = den T (failed_of T i)

  abbrev S : Diagram
  S = den T (sound_of T i)

  -- the cut numbers of the branches
  abbrev a : ℕ
  a = get_or O (failed_of T i) 0

  abbrev b : ℕ
  b = get_or O (sound_of T i) 0

  is_node_lem : den T i ≡ node e F S
  is_node_lem = den_node t.function.held.lower i t.node t.function.held.within

  ordered : Ordered 0 limits.events (node e F S)
  ordered = subst (Ordered 0 limits.events) is_node_lem t.function.ordered

  pub failed_low : failed_of T i < i
  failed_low = let w = t.function.held.within in let n = t.node in let q = t.function.held.lower.failed (i - 2) (omega arith) in omega arith

  pub sound_low : sound_of T i < i
  sound_low = let w = t.function.held.within in let n = t.node in let q = t.function.held.lower.sound (i - 2) (omega arith) in omega arith

  pub failed_own : failed_of T i < length O
  failed_own = let l = t.long in let q = failed_low in omega arith

  pub sound_own : sound_of T i < length O
  sound_own = let l = t.long in let q = sound_low in omega arith

  -- the rule for cuts
  cuts_is : cuts_d (den T i) ≡ mk_z e (without_d (cuts_d F) S) (cuts_d S)
  cuts_is = ap cuts_d is_node_lem

  pub node_ready : Ready C H X d M T a (sound_of T i)
  node_ready = record {
    store = t.store;
    memo = t.memo;
    family = record {
      within = t.failed.within;
      ordered = subst (Ordered 0 limits.events) (sym t.failed.is)
          (tidy_cuts limits.events 0 F (widen (suc e) 0 limits.events F (omega arith) ordered.2)).0;
    };
    function = readable_low (suc e) t.function (let q = sound_low in omega arith) ordered.3;
  }

  abbrev U : Diagram
  U = without_d (den C a) S

  same_U : U ≡ without_d (cuts_d F) S
  same_U = ap (λ x. without_d x S) t.failed.is

  without_in : (E : Diagram) → Part U E → Part (cuts_d (den T i)) E
  without_in E p = subst (λ x. Part x E) (sym cuts_is) (part_failed e (without_d (cuts_d F) S) (cuts_d S) E (subst (λ x. Part x E) same_U p))

  pub node_short : {C₁ H₁ X₁ : List ℕ} {d₁ : ℕ} → Stops (Part U) C d C₁ H₁ X₁ d₁ → Stops (Part (cuts_d (den T i))) C d C₁ H₁ X₁ d₁
  node_short s = stops_more without_in s

  module _ {C₁ H₁ X₁ M₁ : List ℕ} {d₁ r : ℕ} (w : Taken C d T U C₁ H₁ X₁ M₁ d₁ r) where
    sound_found : Found C₁ d₁ (cuts_d S) b
    sound_found = found_grown t.store.lower w.made.step.grown t.sound

    pub made_ready : Store C₁ H₁ X₁ d₁ × ((r < d₁ + 2) × (b < d₁ + 2))
    made_ready = (w.made.step.store, (w.made.found.within, sound_found.within))

    step_1 : Step (Part (cuts_d (den T i))) C d C₁ H₁ X₁ d₁
    step_1 = step_more without_in w.made.step

    abbrev made : Diagram
    made = mk_z e (den C₁ r) (den C₁ b)

    whole : made ≡ cuts_d (den T i)
    whole = ap₂ (mk_z e) (w.made.found.is ∙ same_U) sound_found.is ∙ sym cuts_is

    self_in : (E : Diagram) → Is made E → Part (cuts_d (den T i)) E
    self_in E q = part_self (record { is = q.is ∙ whole; node = q.node })

    pub node_made : (C₂ H₂ X₂ : List ℕ) (R : Result Built Full) → Builds (Is made) C₁ d₁ made C₂ H₂ X₂ R → Takes C d T (cuts_d (den T i)) C₂ H₂ X₂ M₁ R
    node_made C₂ H₂ X₂ (Ok R) m = record {
      made = makes_seq step_1 (record { step = step_more self_in m.step; found = record { within = m.found.within; is = m.found.is ∙ whole } });
      memo = right_grown w.made.step.store m.step.grown w.memo;
    }
    node_made C₂ H₂ X₂ (Err x) m = stops_seq step_1 (stops_more self_in m)
