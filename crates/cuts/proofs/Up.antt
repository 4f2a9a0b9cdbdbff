-- The way up: the cuts of each number that the root reaches, from the leaves to the root.
-- Assumes nothing.
use mathlib.Core.Path.{◌≡◌, sym, ap, ◌∙◌, subst}
use mathlib.Core.Logic.{◌≢◌}
use mathlib.Core.List.{List}
use Prim.Native.Nat.{ℕ, zero, suc, ◌+◌, ◌/◌, ◌<◌, ◌≤◌}
use native.Mathlib.Decide.{ℕ_discrete}
use native.Mathlib.Omega.{arith}
use lib.ListN.{length, get_or, set, replicate, length-set}
use lib.Seq.{get_or-set_same, get_or-set_other}
use Rattle.paper.specs.Limits.{limits}
use Rattle.paper.specs.Lists.{In, keep}
use Rattle.paper.specs.Diagrams.{Diagram, node}
use Rattle.algebra.specs.Operations.{subs, is_node}
use Rattle.algebra.specs.Families.{cuts_d}
use Rattle.algebra.proofs.Subs.{part_ordered}
use Rattle.algebra.proofs.Lists.{in_keep, keep_in, in_map, map_in}
use Rattle.tables.specs.Table.{failed_of, sound_of, den}
use Rattle.tables.proofs.Den.{den_0, den_1}
use Rattle.store.specs.Store.{Store}
use Rattle.store.specs.Building.{Part, PartOf, Found, Step, Stops, Only}
use Rattle.store.specs.Memo.{Memo, Places}
use Rattle.store.proofs.Denotes.{found_grown, found_whole, den_is_node}
use Rattle.store.proofs.Building.{step_more, lacks_more, only_none, only_step}
use Rattle.store.proofs.Zeros.{store_cleared, memo_cleared}
use Rattle.store.proofs.Counting.{nodes_done, nodes_full}
use Rattle.without.specs.Reading.{Held}
use Rattle.without.specs.Without.{Right, Taken}
use Rattle.cuts.specs.Reach.{Reached, here, failed, sound}
use Rattle.cuts.specs.Cutting.{families, cut_nodes, CutTable, Room, Turn, Halfway, Base}
use Rattle.cuts.proofs.Marks.{held_low, failed_below, sound_below, reached_low, reached_sub, sub_reached}

pub room_marks : {C H X K K' O : List ℕ} {root : ℕ} → length K' ≡ length K → Room C H X K O root → Room C H X K' O root
room_marks q r = record { small = r.small; linked = r.linked; chains = r.chains; marks = omega (arith, r.marks); own = r.own; leaves = r.leaves }

-- ---- the first two numbers are the leaves

module _ {T K : List ℕ} {root : ℕ} {C₀ H₀ X C H M O₀ : List ℕ} where
  pub up_start : (M₀ : List ℕ) → Room C₀ H₀ X K O₀ root → C ≡ replicate (length C₀) 0 → H ≡ replicate (length H₀) 0 → M ≡ replicate (length M₀) 0 → Places M₀
      → Halfway T K root C H X 0 M (set (set O₀ 0 0) 1 1) 2
  up_start M₀ room c h e l = record {
    store = subst (λ C. Store C H X 0) (sym c) (subst (λ H. Store (replicate (length C₀) 0) H X 0) (sym h)
        (store_cleared (length C₀) (length H₀) X room.small room.linked room.chains));
    memo = subst (Memo (Right C 0 T)) (sym e) (memo_cleared M₀ l);
    only = only_none;
    own = λ j l _. leaves j l;
  }
    where
      leaves : (j : ℕ) → j < 2 → Found C 0 (cuts_d (den T j)) (get_or (set (set O₀ 0 0) 1 1) j 0)
      leaves zero l =
          let two = room.leaves in
          let q : get_or (set (set O₀ 0 0) 1 1) 0 0 ≡ 0 = get_or-set_other (set O₀ 0 0) 1 0 1 0 (omega arith) ∙ get_or-set_same O₀ 0 0 0 (omega arith) in
          record { within = omega arith; is = ap (den C) q ∙ den_0 C ∙ sym (ap cuts_d (den_0 T)) }
      leaves (suc zero) l =
          let two = room.leaves in
          let q : get_or (set (set O₀ 0 0) 1 1) 1 0 ≡ 1 = get_or-set_same (set O₀ 0 0) 1 1 0 (simp length-set (omega arith)) in
          record { within = omega arith; is = ap (den C) q ∙ den_1 C ∙ sym (ap cuts_d (den_1 T)) }
      leaves (suc (suc j)) l = absurd (omega arith)

-- ---- one number further

module _ {T K : List ℕ} {root : ℕ} (base : Base T K root) where
  abbrev D : Diagram
  D = den T root

  module _ {C H X : List ℕ} {d : ℕ} {M O : List ℕ} {i : ℕ} (h : Halfway T K root C H X d M O i) where
    -- a number that the root does not reach
    pub up_skip : get_or K i 0 ≡ 0 → Halfway T K root C H X d M O (i + 1)
    up_skip z = record { store = h.store; memo = h.memo; only = h.only; own = λ j l q. go j l q (ℕ_discrete j i) }
      where
        go : (j : ℕ) → j < i + 1 → get_or K j 0 ≡ 1 → Dec (j ≡ i) → Found C d (cuts_d (den T j)) (get_or O j 0)
        go j l q (yes e) = let one = subst (λ x. get_or K x 0 ≡ 1) e q in absurd (omega arith)
        go j l q (no m) = h.own j (omega arith) q

    module _ (two : 2 ≤ i) (to : i ≤ root) (marked : get_or K i 0 ≢ 0) where
      reached : Reached T root i
      reached = base.marked.reached i (let b = base.marked.bit i in omega (arith, marked))

      held : Held T i
      held = held_low base.function.held to

      stands : In (den T i) (subs D)
      stands = reached_sub base.function.held reached

      pub up_turn : root < length O → Turn C H X d M T O i
      up_turn l = record {
        store = h.store;
        memo = h.memo;
        function = record { held = held; ordered = part_ordered limits.events D (den T i) base.function.ordered stands };
        node = two;
        long = omega arith;
        failed = h.own (failed_of T i) (failed_below held two) (base.marked.all (failed_of T i) (failed i reached two));
        sound = h.own (sound_of T i) (sound_below held two) (base.marked.all (sound_of T i) (sound i reached two));
      }

      wanted : (E : Diagram) → Part (cuts_d (den T i)) E → PartOf (families D) E
      wanted E p =
          let w = held.within in
          record { whole = cuts_d (den T i); member = in_map cuts_d (den T i) (keep is_node (subs D)) (in_keep is_node (den T i) (subs D) stands (den_is_node held.lower i two w)); part = p }

      only_up : {C' H' X' : List ℕ} {d' : ℕ} → Step (Part (cuts_d (den T i))) C d C' H' X' d' → Only (PartOf (families D)) C' d'
      only_up s = only_step h.store h.only (step_more wanted s)

      -- a wanted node finds no room
      pub up_short : {C' H' X' : List ℕ} {d' : ℕ} → Stops (Part (cuts_d (den T i))) C d C' H' X' d' → length C' / 3 < cut_nodes D
      up_short s = nodes_full s.step.store (families D) (only_up s.step) (lacks_more wanted s.lacks)

      pub up_done : {C' H' X' M' : List ℕ} {d' r : ℕ} → root < length O → Taken C d T (cuts_d (den T i)) C' H' X' M' d' r → Halfway T K root C' H' X' d' M' (set O i r) (i + 1)
      up_done {C'} {H'} {X'} {M'} {d'} {r} l t = record {
        store = t.made.step.store;
        memo = t.memo;
        only = only_up t.made.step;
        own = λ j m q. go j m q (ℕ_discrete j i);
      }
        where
          go : (j : ℕ) → j < i + 1 → get_or K j 0 ≡ 1 → Dec (j ≡ i) → Found C' d' (cuts_d (den T j)) (get_or (set O i r) j 0)
          go j m q (yes e) =
              let same : get_or (set O i r) i 0 ≡ r = get_or-set_same O i r 0 (omega arith) in
              subst (λ x. Found C' d' (cuts_d (den T x)) (get_or (set O i r) x 0)) (sym e) (subst (Found C' d' (cuts_d (den T i))) (sym same) t.made.found)
          go j m q (no n) =
              subst (Found C' d' (cuts_d (den T j))) (sym (get_or-set_other O i j r 0 n))
              (found_grown h.store.lower t.made.step.grown (h.own j (omega arith) q))

  -- ---- the root has its cuts, and so has all that it reaches

  module _ {C H X : List ℕ} {d : ℕ} {M O : List ℕ} {i : ℕ} (h : Halfway T K root C H X d M O i) (past : root < i) where
    stored : (z : Diagram) → In z (families D) → (r : ℕ) × Found C d z r
    stored z k =
        let (x, m, e) = map_in cuts_d z (keep is_node (subs D)) k in
        let (j, r, q) = sub_reached base.function.held x (keep_in is_node x (subs D) m).0 in
        let l = reached_low base.function.held r in
        (get_or O j 0, subst (λ y. Found C d y (get_or O j 0)) (ap cuts_d q ∙ sym e) (h.own j (omega arith) (base.marked.all j r)))

    pub up_end : CutTable D C H X d (get_or O root 0)
    up_end = record {
      store = h.store;
      root = h.own root past (base.marked.all root here);
      only = h.only;
      all = λ E w. let (r, f) = stored w.whole w.member in found_whole h.store.lower f E w.part;
      count = nodes_done h.store (families D) h.only stored;
    }
