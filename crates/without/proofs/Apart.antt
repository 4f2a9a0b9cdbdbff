-- F without G, taken apart at the earlier of the two top events.
-- Assumes nothing.
use mathlib.Core.Path.{◌≡◌, refl, sym, ap, ◌∙◌, subst}
use mathlib.Core.Bool.{Bool, true, false}
use mathlib.Core.List.{List}
use Prim.Native.Nat.{ℕ, zero, suc, ◌-◌, ◌<◌, ◌≤◌, min}
use native.Mathlib.Omega.{arith}
use borrow.Author.Tests.{lt-ltb, le-ltb}
use Rattle.paper.specs.Limits.{limits}
use Rattle.paper.specs.Diagrams.{Diagram, leaf, node, Ordered}
use Rattle.algebra.specs.Families.{mk_z, without_d}
use Rattle.algebra.proofs.Base.{widen}
use Rattle.tables.specs.Table.{event_of, failed_of, sound_of, den}
use Rattle.tables.proofs.Den.{den_0, den_1, den_node}
use Rattle.store.specs.Store.{Store}
use Rattle.store.specs.Memo.{Recalls}
use Rattle.store.specs.declared.Known.{Known}
use Rattle.store.specs.declared.Known.TheVariants.{Node, Unknown}
use Rattle.store.proofs.Memory.{memo_hit}
use Rattle.without.specs.Reading.{Readable, top}
use Rattle.without.specs.Without.{Family, Answered, Asked, Passed, Parted}
use Rattle.store.specs.declared.Parts.{Parts}

-- ---- a leaf

pub without_one : (F : Diagram) → without_d F (leaf true) ≡ leaf false
without_one (leaf b) = refl
without_one (node e f s) = refl

pub without_none : (F : Diagram) → without_d F (leaf false) ≡ F
without_none (leaf b) = refl
without_none (node e f s) = refl

-- a number below 2 is a leaf
den_leaf : (T : List ℕ) (i : ℕ) → i < 2 → (b : Bool) × (den T i ≡ leaf b)
den_leaf T zero l = (false, den_0 T)
den_leaf T (suc zero) l = (true, den_1 T)
den_leaf T (suc (suc i)) l = absurd (omega arith)

module _ (M : List ℕ) (f g : ℕ) where
  pub ask_one : g ≡ 1 → Answered M f g 0
  ask_one q = record {
    found = λ C H X d T rd. record {
      within = omega arith;
      is = den_0 C ∙ sym (without_one (den C f)) ∙ ap (without_d (den C f)) (sym (ap (den T) q ∙ den_1 T));
    };
  }

  pub ask_none : g ≡ 0 → Answered M f g f
  ask_none q = record {
    found = λ C H X d T rd. record {
      within = rd.family.within;
      is = sym (without_none (den C f)) ∙ ap (without_d (den C f)) (sym (ap (den T) q ∙ den_0 T));
    };
  }

  pub ask_leaf : 2 ≤ g → f < 2 → Answered M f g f
  ask_leaf h l = record {
    found = λ C H X d T rd.
        let (b, e) = den_leaf C f l in
        let held = rd.function.held in record {
          within = omega arith;
          is = rw (e, den_node held.lower g h held.within) refl;
        };
  }

  -- neither is a leaf: what the memo says
  pub ask_memo : 2 ≤ f → 2 ≤ g → (r : Known) → Recalls M 3 f g r → Asked M f g r
  ask_memo a b (Node r) h = record { found = λ C H X d T rd. (memo_hit rd.memo (omega arith) h).found refl }
  ask_memo a b (Unknown at) h = record { f_node = a; g_node = b; place = h }

-- ---- two nodes

module _ (e : ℕ) (f s : Diagram) (x : ℕ) (g h : Diagram) where
  pub without_earlier : e < x → without_d (node e f s) (node x g h) ≡ mk_z e (without_d f (node x g h)) (without_d s (node x g h))
  without_earlier l = rw (lt-ltb e x l)

  -- G's event stands in no set of F, so that F's failed branch there is 0
  pub without_later : x < e → without_d (node e f s) (node x g h) ≡ mk_z x (without_d (leaf false) (leaf false)) (without_d (node e f s) h)
  without_later l = rw (le-ltb e x (omega arith), lt-ltb x e l) refl

  pub without_past : x < e → without_d (node e f s) (node x g h) ≡ without_d (node e f s) h
  without_past l = rw (le-ltb e x (omega arith), lt-ltb x e l) refl

  pub without_equal : e ≤ x → x ≤ e → without_d (node e f s) (node x g h) ≡ mk_z e (without_d f g) (without_d s h)
  without_equal l m = rw (le-ltb e x m, le-ltb x e l)

-- ---- past the events that no set has

pub past_none : {T : List ℕ} {e g : ℕ} → Readable T g → 2 ≤ g → Passed T e g g
past_none r l = record { node_h = l; low = omega arith; function = r; rise = omega arith; same = λ f s. refl }

-- one node further
pub past_more : {T : List ℕ} {e g h : ℕ} → Passed T e g h → event_of T h < e → 2 ≤ sound_of T h → Passed T e g (sound_of T h)
past_more {T} {e} {g} {h} p l n =
    let held = p.function.held in
    let w = held.within in
    let two = p.node_h in
    let low = held.lower.sound (h - 2) (omega arith) in
    let small = p.low in
    let up = p.rise in
    let d : den T h ≡ node (event_of T h) (den T (failed_of T h)) (den T (sound_of T h)) = den_node held.lower h two w in
    let o : Ordered 0 limits.events (node (event_of T h) (den T (failed_of T h)) (den T (sound_of T h))) = subst (Ordered 0 limits.events) d p.function.ordered in
    let s : den T (sound_of T h) ≡ node (event_of T (sound_of T h)) (den T (failed_of T (sound_of T h))) (den T (sound_of T (sound_of T h))) = den_node held.lower (sound_of T h) n (omega arith) in
    let os : Ordered (suc (event_of T h)) limits.events (node (event_of T (sound_of T h)) (den T (failed_of T (sound_of T h))) (den T (sound_of T (sound_of T h)))) = subst (Ordered (suc (event_of T h)) limits.events) s o.3 in
    let top_h : top (den T h) ≡ event_of T h = ap top d in
    let top_s : top (den T (sound_of T h)) ≡ event_of T (sound_of T h) = ap top s in
    let later : event_of T h < event_of T (sound_of T h) = os.0 in
    record {
      node_h = n;
      low = omega arith;
      function = record {
        held = record { count = held.count; fits = held.fits; lower = held.lower; within = omega arith };
        ordered = widen (suc (event_of T h)) 0 limits.events (den T (sound_of T h)) (omega arith) o.3;
      };
      rise = omega arith;
      same = λ a b. p.same a b ∙ ap (without_d (node e a b)) d ∙ without_past e a b (event_of T h) (den T (failed_of T h)) (den T (sound_of T h)) l;
    }

pub past_less : {T : List ℕ} {e g h : ℕ} → Passed T e g h → sound_of T h < h
past_less {h = h} p =
    let w = p.function.held.within in
    let two = p.node_h in
    let low = p.function.held.lower.sound (h - 2) (omega arith) in omega arith

-- ---- of two tables

module _ {C H X : List ℕ} {d : ℕ} {T : List ℕ} {f g : ℕ} (s : Store C H X d) (F : Family C d f) (G : Readable T g) (f2 : 2 ≤ f) (g2 : 2 ≤ g) where
  df : den C f ≡ node (event_of C f) (den C (failed_of C f)) (den C (sound_of C f))
  df = den_node s.lower f f2 F.within

  dg : den T g ≡ node (event_of T g) (den T (failed_of T g)) (den T (sound_of T g))
  dg = den_node G.held.lower g g2 G.held.within

  of : Ordered 0 limits.events (node (event_of C f) (den C (failed_of C f)) (den C (sound_of C f)))
  of = subst (Ordered 0 limits.events) df F.ordered

  og : Ordered 0 limits.events (node (event_of T g) (den T (failed_of T g)) (den T (sound_of T g)))
  og = subst (Ordered 0 limits.events) dg G.ordered

  -- the branches are lower
  f_low : (failed_of C f < f) × (sound_of C f < f)
  f_low =
      let w = F.within in
      let a = s.lower.failed (f - 2) (omega arith) in
      let b = s.lower.sound (f - 2) (omega arith) in (omega arith, omega arith)

  g_low : (failed_of T g < g) × (sound_of T g < g)
  g_low =
      let w = G.held.within in
      let a = G.held.lower.failed (g - 2) (omega arith) in
      let b = G.held.lower.sound (g - 2) (omega arith) in (omega arith, omega arith)

  tops : min (top (den C f)) (top (den T g)) ≡ min (event_of C f) (event_of T g)
  tops = rw (df, dg) refl

  -- all of f above an earlier event, and all of g
  f_above : (e : ℕ) → e < event_of C f → Ordered (suc e) limits.events (den C f)
  f_above e l = subst (Ordered (suc e) limits.events) (sym df) (l, of.1, of.2, of.3)

  g_above : (e : ℕ) → e < event_of T g → Ordered (suc e) limits.events (den T g)
  g_above e l = subst (Ordered (suc e) limits.events) (sym dg) (l, og.1, og.2, og.3)

  pub part_earlier : event_of C f < event_of T g → Parted C T f g (record { e = event_of C f; f1 = failed_of C f; g1 = g; f0 = sound_of C f; g0 = g })
  part_earlier l =
      let low = f_low in
      let t = tops in record {
        event = of.1;
        first = omega arith;
        f1_low = omega arith;
        g1_low = omega arith;
        f0_low = omega arith;
        g0_low = omega arith;
        f1_later = of.2;
        g1_later = g_above (event_of C f) l;
        f0_later = of.3;
        g0_later = g_above (event_of C f) l;
        splits = rw (df, dg) (without_earlier (event_of C f) (den C (failed_of C f)) (den C (sound_of C f)) (event_of T g) (den T (failed_of T g)) (den T (sound_of T g)) l);
      }

  pub part_later : event_of T g < event_of C f → Parted C T f g (record { e = event_of T g; f1 = 0; g1 = 0; f0 = f; g0 = sound_of T g })
  part_later l =
      let low = g_low in
      let t = tops in record {
        event = og.1;
        first = omega arith;
        f1_low = omega arith;
        g1_low = omega arith;
        f0_low = omega arith;
        g0_low = omega arith;
        f1_later = rw (den_0 C) tt;
        g1_later = rw (den_0 T) tt;
        f0_later = f_above (event_of T g) l;
        g0_later = og.3;
        splits = rw (den_0 C, den_0 T, df, dg) (without_later (event_of C f) (den C (failed_of C f)) (den C (sound_of C f)) (event_of T g) (den T (failed_of T g)) (den T (sound_of T g)) l);
      }

  pub part_equal : event_of C f ≤ event_of T g → event_of T g ≤ event_of C f
      → Parted C T f g (record { e = event_of C f; f1 = failed_of C f; g1 = failed_of T g; f0 = sound_of C f; g0 = sound_of T g })
  part_equal l m =
      let lowf = f_low in
      let lowg = g_low in
      let t = tops in
      let q : event_of T g ≡ event_of C f = omega arith in record {
        event = of.1;
        first = omega arith;
        f1_low = omega arith;
        g1_low = omega arith;
        f0_low = omega arith;
        g0_low = omega arith;
        f1_later = of.2;
        g1_later = subst (λ x. Ordered (suc x) limits.events (den T (failed_of T g))) q og.2;
        f0_later = of.3;
        g0_later = subst (λ x. Ordered (suc x) limits.events (den T (sound_of T g))) q og.3;
        splits = rw (df, dg) (without_equal (event_of C f) (den C (failed_of C f)) (den C (sound_of C f)) (event_of T g) (den T (failed_of T g)) (den T (sound_of T g)) l m);
      }

-- what is taken apart at h is g taken apart
pub part_past : {C H X : List ℕ} {d : ℕ} {T : List ℕ} {f g h : ℕ} {p : Parts} → Store C H X d → Family C d f → 2 ≤ f → Passed T (event_of C f) g h → Parted C T f h p → Parted C T f g p
part_past {C} {T = T} {f = f} {g = g} {h = h} {p = p} s F f2 q k =
    let low = q.low in
    let up = q.rise in
    let a = k.first in
    let g1 = k.g1_low in
    let g0 = k.g0_low in
    let df = den_node s.lower f f2 F.within in
    record {
      event = k.event;
      first = omega arith;
      f1_low = k.f1_low;
      g1_low = omega arith;
      f0_low = k.f0_low;
      g0_low = omega arith;
      f1_later = k.f1_later;
      g1_later = k.g1_later;
      f0_later = k.f0_later;
      g0_later = k.g0_later;
      splits = ap (λ D. without_d D (den T g)) df ∙ q.same (den C (failed_of C f)) (den C (sound_of C f)) ∙ ap (λ D. without_d D (den T h)) (sym df) ∙ k.splits;
    }
