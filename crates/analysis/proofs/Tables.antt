-- What the finished tables come to: from the builders' promises to the analysis' own.
-- Assumes nothing.
use mathlib.Core.Path.{◌≡◌, refl, sym, ap, ◌∙◌, subst}
use mathlib.Core.Bool.{false}
use mathlib.Core.List.{List}
use Prim.Native.Nat.{ℕ, ◌-◌, ◌/◌, ◌%◌, ◌<◌}
use native.Mathlib.Omega.{arith}
use lib.ListN.{length, get_or}
use Rattle.paper.specs.Trees.{events, root_fun}
use Rattle.paper.specs.Trees as paper
use Rattle.paper.specs.Diagrams.{eval}
use Rattle.paper.specs.Answers.{CutsFull, cut_nodes_of}
use Rattle.algebra.proofs.Without.{Fit}
use Rattle.tables.specs.Table.{den}
use Rattle.tables.specs.Lent.{Lent}
use Rattle.build.proofs.Needed.{count_needed, added_needed}
use Rattle.build.proofs.Meaning.{gate_shows, root_number, whole_lent}
use Rattle.without.specs.Reading.{Readable}
use Rattle.cuts.specs.Cutting.{cut_nodes, CutTable, Room}
use Rattle.cuts.proofs.Promises.{lent_readable, short_needs, done_needs, done_fits, done_list, done_lent}
use Rattle.memory.specs.Memory.{Memory, memory, capacity, Zero, AllZero, Settled}
use Rattle.memory.specs.Outcome.{Refused, at, Done}
use Rattle.memory.specs.Analysis.{Analysis}
use Rattle.memory.proofs.Before.{SameLengths, zero_from, all_zero_from}
use Rattle.analysis.specs.Completing.{Ground, CutsFilled}
use Rattle.analysis.proofs.Holding.{whole_holds, table_holds}

-- ---- the node table is finished

module _ {t : paper.Tree} {m : Memory} {root c : ℕ} (g : Ground t m root c) where
  fits : Fit (events t) 0 (den m.nodes root)
  fits = (root_number (events t) t.gates g.sound.below g.whole).0

  shows : eval (den m.nodes root) ≡ root_fun t.gates
  shows = (root_number (events t) t.gates g.sound.below g.whole).1

  lent : Lent false (events t) m.nodes c root
  lent = whole_lent (events t) t.gates g.sound.below g.whole g.sound.some_event g.sound.few_events g.lengths.node_table.threes

  pub ground_readable : Readable m.nodes root
  ground_readable = lent_readable lent lent.root_in

  pub ground_room : Room m.cuts m.heads m.next m.marks m.own root
  ground_room =
      let s = lent.fits in
      let r = lent.root_in in
      let a = g.lengths.areas in
      record {
        small = g.lengths.cut_table.short;
        linked = omega (arith, a.next);
        chains = omega (arith, a.heads);
        marks = omega (arith, a.marks);
        own = omega (arith, a.own);
        leaves = omega (arith, a.own);
      }

  -- 11: more cut nodes are needed than there is room for
  pub ground_short : {k : ℕ} → k < cut_nodes (den m.nodes root) → k < cut_nodes_of t
  ground_short l = short_needs (events t) (den m.nodes root) (root_fun t.gates) fits shows l

  -- done
  module _ {C H X : List ℕ} {d r : ℕ} (cut : CutTable (den m.nodes root) C H X d r) (long : length C ≡ length m.cuts) where
    pub ground_enough : CutsFull t (capacity m.cuts) → ⊥
    ground_enough h = let q = done_fits (events t) (den m.nodes root) (root_fun t.gates) fits shows cut in omega arith

    pub ground_done : (m' : Memory) (a : Analysis) → m'.nodes ≡ m.nodes → m'.gates ≡ m.gates → m'.added ≡ m.added → m'.cuts ≡ C
        → Zero m.memo m'.memo → Zero m.heads m'.heads → Zero m.next m'.next → Zero m.marks m'.marks → Zero m.own m'.own
        → a.number ≡ 0 → a.place ≡ 0 → a.nodes ≡ c → a.cut_nodes ≡ d → a.root ≡ root → a.cut_root ≡ r → Done t m m' a
    ground_done m' a en eg ea ec zm zh zx zk zo an ap' ac ad ar aq = record {
      number = an;
      place = ap';
      node_count = ac ∙ count_needed (events t) t.gates g.sound.below g.whole;
      cut_count = ad ∙ done_needs (events t) (den m.nodes root) (root_fun t.gates) fits shows cut;
      node_table = rw (en, ac, ar) (record { lent = lent; unique = g.whole.store.unique; behind = g.whole.store.behind });
      cut_table = rw (ec, ad, aq) (record {
        lent = done_lent cut (events t) fits.ordered g.sound.some_event g.sound.few_events (subst (λ k. k % 3 ≡ 0) (sym long) g.lengths.cut_table.threes);
        unique = cut.store.unique;
        behind = cut.store.behind;
      });
      nodes_needed = rw (en, ac) (whole_holds (events t) t.gates g.sound.below g.whole);
      cuts_needed = rw (ec, ad) (table_holds (events t) (den m.nodes root) (root_fun t.gates) fits shows cut);
      nodes_long = ap length en;
      cuts_long = ap length ec ∙ long;
      gates_long = ap length eg;
      added_long = ap length ea;
      gate_list = rw (en, eg, ac) (record {
        stored = λ i h. (g.whole.gates i).within;
        shows = λ i h. (gate_shows (events t) t.gates g.sound.below g.whole i).1;
        behind = g.whole.zeros;
      });
      added_list = rw ea (record { each = added_needed t g.sound.below g.whole.added; behind = g.whole.added.behind });
      root_is = ar ∙ g.whole.last ∙ ap (λ G. get_or G (length t.gates - 1) 0) (sym eg);
      cuts_are = rw (ec, aq) (done_list (events t) (den m.nodes root) (root_fun t.gates) fits shows cut);
      memo = zm;
      heads = zh;
      next = zx;
      marks = zk;
      own = zo;
    }

-- ---- 11, or done

module _ {t : paper.Tree} {m : Memory} {root c : ℕ} (g : Ground t m root c) where
  pub cuts_are_full : {k m' : Memory} {a : Analysis} → AllZero k m' → SameLengths m k → length k.cuts / 3 < cut_nodes (den m.nodes root) → Refused (at 11 0) a → CutsFilled t m m' a
  cuts_are_full z s h r = CutsFilled.cuts_full (subst (λ n. n / 3 < cut_nodes_of t) s.cuts (ground_short g h)) r (all_zero_from s z)

  pub cuts_are_done : {C H X M₁ H₁ X₁ K₁ O₁ : List ℕ} {d r : ℕ} {a : Analysis} {M' H' X' K' O' : List ℕ} → Settled M₁ H₁ X₁ K₁ O₁ M' H' X' K' O'
      → SameLengths m (memory m.nodes C m.gates m.added M₁ H₁ X₁ K₁ O₁) → CutTable (den m.nodes root) C H X d r
      → a.number ≡ 0 → a.place ≡ 0 → a.nodes ≡ c → a.cut_nodes ≡ d → a.root ≡ root → a.cut_root ≡ r
      → CutsFilled t m (memory m.nodes C m.gates m.added M' H' X' K' O') a
  cuts_are_done {C} {H} {X} {M₁} {H₁} {X₁} {K₁} {O₁} {d} {r} {a} {M'} {H'} {X'} {K'} {O'} z s cut an al ac ad ar aq = CutsFilled.done (ground_enough g cut s.cuts)
      (ground_done g cut s.cuts (memory m.nodes C m.gates m.added M' H' X' K' O') a refl refl refl refl
      (zero_from s m.memo M₁ M' s.memo z.memo) (zero_from s m.heads H₁ H' s.heads z.heads) (zero_from s m.next X₁ X' s.next z.next)
      (zero_from s m.marks K₁ K' s.marks z.marks) (zero_from s m.own O₁ O' s.own z.own) an al ac ad ar aq)
