-- AN ANALYSIS UNDER SETTINGS DELIVERS, for every accepted tree and every accepted store; and two outcomes coincide.
-- Assumes nothing.
use mathlib.Core.Path.{◌≡◌, refl, sym, ap, ap₂, ◌∙◌, subst}
use mathlib.Core.Logic.{◌↔◌}
use mathlib.Core.Bool.{Bool, true, false, cond}
use mathlib.Core.List.{List, [], ◌∷◌}
use Prim.Native.Nat.{ℕ, zero, suc, ◌+◌, ◌-◌, ◌≤◌, ◌<◌}
use native.Mathlib.Omega.{arith}
use lib.ListN.{length, get_or}
use Rattle.paper.specs.Limits.{limits, billion}
use Rattle.paper.specs.Lists.{In}
use Rattle.paper.specs.Sets.{none}
use Rattle.paper.specs.Functions.{Fun, table, depends_on}
use Rattle.paper.specs.Trees.{Tree, events, const_f, gate_funs, root_fun}
use Rattle.paper.specs.Diagrams.{eval}
use Rattle.paper.specs.Cuts.{MinimalCut, sets_of, cut_list, cut_nodes_needed}
use Rattle.paper.specs.Chance.{total, Brackets}
use Rattle.paper.specs.Store.{State, free, failed, sound, Settings, entries, torn, accepted, judge_store, settings_of}
use Rattle.paper.specs.Forcing.{force_f, chance_as, chances_under, force_tree}
use Rattle.algebra.proofs.Prefixes.{filled_full, filled_once}
use Rattle.tables.specs.Table.{den}
use Rattle.tables.proofs.Den.{den_0, den_1}
use Rattle.rules.specs.Answers.{reason}
use Rattle.records.specs.Judge.{Book, accept, outcome}
use Rattle.records.specs.Trees.{Lawful, tree_of, TreeLower}
use Rattle.trees.proofs.Lawful.{lawful, tree_below}
use Rattle.bracket.specs.Bracketed.{chance_in, Bracketed}
use Rattle.memory.specs.Memory.{Memory, capacity}
use Rattle.memory.specs.Outcome.{Refused, at, Done}
use Rattle.memory.specs.Analysis.{Analysis}
use Rattle.analysis.specs.Completing.{Sound}
use Rattle.analysis.proofs.Reading.{read_sound}
use Rattle.settings.specs.States.{ChancesForced, Added}
use Rattle.settings.proofs.Chances.{chances_long, chances_at}
use Rattle.settings.proofs.Editions.{forced_below}
use Rattle.forcing.proofs.Functions.{forced_at, forced_gates, forced_root}
use Rattle.forcing.proofs.Trees.{gates_long, events_same, forced_nodes, forced_nodes_to, forced_cut_nodes}
use Rattle.forcing.proofs.Chance.{chance_forced}
use Rattle.forcing.proofs.Constant.{constant_cuts, constant_cut_nodes, constant_depends}
use Rattle.seasons.specs.Seasons.{AnalysedTree, tree_under, AnalysedUnder}
use Rattle.seasons.proofs.InMemory.{sound_forced}
use Rattle.seasons.proofs.Editions.{answer_stays}
use Rattle.promises.specs.Coincide.{Coincide}
use Rattle.promises.specs.Delivers.{cuts_in, Own, Delivers}
use Rattle.promises.specs.Reasons.{Accepted}
use Rattle.promises.specs.Season.{Season, Priced}
use Rattle.promises.proofs.Refusals.{reading_one, reading_some, refusal_range}
use Rattle.promises.proofs.Promises.{root_function}
use Rattle.promises.proofs.OnTables.{own_chances, bracket_encloses}
use Rattle.promises.proofs.AnyTree.{tree_delivers}
use Rattle.promises.proofs.Coincide.{done_renumbered, same_zero, same_answer, same_book, not_both, refusing}

chance_low : (x : ℕ) (y : State) → x ≤ billion → chance_as billion x y ≤ billion
chance_low x free h = h
chance_low x failed h = omega arith
chance_low x sound h = omega arith

-- ---- the numbers of the leaves

leaf_low : (b : Bool) (c : ℕ) → cond b 1 0 < c + 2
leaf_low true c = omega arith
leaf_low false c = omega arith

leaf_says : (T : List ℕ) (b : Bool) → eval (den T (cond b 1 0)) ≡ const_f b
leaf_says T true = ap eval (den_1 T)
leaf_says T false = ap eval (den_0 T)

leaf_sets : (T : List ℕ) (i : ℕ) (b : Bool) → i < 2 → sets_of (den T i) ≡ cond b (none ∷ []) [] → i ≡ cond b 1 0
leaf_sets T zero true h q = absurd (let z : ◌≡◌ {A = ℕ} 0 1 = ap length (ap sets_of (sym (den_0 T)) ∙ q) in omega arith)
leaf_sets T zero false h q = refl
leaf_sets T (suc zero) true h q = refl
leaf_sets T (suc zero) false h q = absurd (let z : ◌≡◌ {A = ℕ} 1 0 = ap length (ap sets_of (sym (den_1 T)) ∙ q) in omega arith)
leaf_sets T (suc (suc i)) b h q = absurd (omega arith)

-- ---- the promise of a tree under settings

module _ (s : Settings) (b : Book) (l : Lawful limits b) (in-range : (e : ℕ) → events (tree_of b) ≤ e → s e ≡ free) {m m' : Memory} {a : Analysis} (d : Done (force_tree s (tree_of b)) m m' a) where
  abbrev t : Tree
  t = tree_of b

  abbrev F : Fun
  F = root_fun (tree_of b).gates

  low : TreeLower 0 (tree_of b).gates
  low = (tree_below l).1

  sound_tree : Sound (force_tree s t)
  sound_tree = sound_forced s t (read_sound b l)

  delivered : Delivers (force_tree s t) m' a
  delivered = tree_delivers (force_tree s t) sound_tree
      (λ e h. let k : e < events t = omega (arith, events_same s t) in subst (λ x. x ≤ billion) (sym (chances_at s t.chances e k)) (chance_low (chance_in t.chances e) (s e) (own_chances b l e k))) d

  gate_there : (i : ℕ) → i < length t.gates → i < length (force_tree s t).gates
  gate_there i h = omega (arith, gates_long s t.gates)

  root_is : root_fun (force_tree s t).gates ≡ force_f s F
  root_is = forced_root s t.gates low

  exact_chance : {A : List ℕ} → Own (force_tree s t) A → total billion (chance_in A) (events t) 0 F ≡ total billion (chance_in A) (events t) 0 (force_f s F)
  exact_chance {A} o = chance_forced s (events t) (chance_in t.chances) (chance_in A) in-range
      (λ e h. o.each e (omega (arith, events_same s t)) ∙ chances_at s t.chances e h) F

  near : {A L H L' H' : List ℕ} {number place lo hi : ℕ} → Bracketed (events t) m'.nodes a.nodes a.root A number place lo hi L H L' H' → number ≡ 0 → Own (force_tree s t) A
      → Brackets billion (events t - 1) (total billion (chance_in A) (events t) 0 F) (depends_on (events t) (force_f s F)) lo hi
  near {A} {L} {H} {L'} {H'} {number} {place} {lo} {hi} x q o =
      let y = bracket_encloses d sound_tree.some_gate (subst (λ n. Bracketed n m'.nodes a.nodes a.root A number place lo hi L H L' H') (sym (events_same s t)) x) q in
      let z = subst (λ G. Brackets billion (events (force_tree s t) - 1) (total billion (chance_in A) (events (force_tree s t)) 0 G) (depends_on (events (force_tree s t)) G) lo hi) root_is y in
      let w = subst (λ n. Brackets billion (n - 1) (total billion (chance_in A) n 0 (force_f s F)) (depends_on n (force_f s F)) lo hi) (events_same s t) z in
      subst (λ S. Brackets billion (events t - 1) S (depends_on (events t) (force_f s F)) lo hi) (sym (exact_chance o)) w

  leaf_number : {i : ℕ} (c : Bool) → i < a.nodes + 2 → eval (den m'.nodes i) ≡ const_f c → i ≡ cond c 1 0
  leaf_number {i} c h q = delivered.exact.functions_apart i (cond c 1 0) h (leaf_low c a.nodes) (ap (table (events (force_tree s t))) (q ∙ sym (leaf_says m'.nodes c)))

  gate_says : (i : ℕ) → i < length t.gates → eval (den m'.nodes (get_or m'.gates i 0)) ≡ force_f s (get_or (gate_funs t.gates) i (const_f false))
  gate_says i h = d.gate_list.shows i (gate_there i h) ∙ ap (λ Fs. get_or Fs i (const_f false)) (forced_gates s t.gates low) ∙ forced_at s (gate_funs t.gates) i

  root_says : eval (den m'.nodes a.root) ≡ force_f s F
  root_says = root_function d sound_tree.some_gate ∙ root_is

  family_constant : (c : Bool) → force_f s F ≡ const_f c → cuts_in m' a ≡ cond c (none ∷ []) []
  family_constant c q = d.cuts_are ∙ ap₂ cut_list (events_same s t) (root_is ∙ q) ∙ constant_cuts (events t) c

  no_cut_nodes : (c : Bool) → force_f s F ≡ const_f c → a.cut_nodes ≡ 0
  no_cut_nodes c q = d.cut_count ∙ forced_cut_nodes s t low ∙ ap (cut_nodes_needed (events t)) q ∙ constant_cut_nodes (events t) c

  season : Season s t m' a
  season = record {
    delivers = delivered;
    gates = λ i h. gate_says i h;
    root = root_says;
    nodes = d.node_count ∙ forced_nodes s t low;
    added = λ g h. d.added_list.each g (gate_there g h) ∙ ap₂ ◌-◌ (forced_nodes_to s t low (g + 1)) (forced_nodes_to s t low g);
    cut_nodes = d.cut_count ∙ forced_cut_nodes s t low;
    cuts = λ S. subst (λ G. In S (cuts_in m' a) ↔ MinimalCut G S) root_is (delivered.faithful.cuts S);
    near = λ x q o. near x q o;
    chance = λ o. exact_chance o;
    constant_gates = λ i c h q. leaf_number c (d.gate_list.stored i (gate_there i h)) (gate_says i h ∙ q);
    constant_root = λ c q. leaf_number c d.node_table.lent.root_in (root_says ∙ q);
    constant_cut_root = λ c q. leaf_sets m'.cuts a.cut_root c (omega (arith, d.cut_table.lent.root_in, no_cut_nodes c q)) (family_constant c q);
    constant_cuts = λ c q. family_constant c q;
    constant_cut_nodes = λ c q. no_cut_nodes c q;
    constant_depends = λ c q. ap (depends_on (events t)) q ∙ constant_depends (events t) c;
  }

-- ---- the chances that `chances_under` leaves

module _ {store : List ℕ} {asked : ℕ} {C C' : List ℕ} {number place : ℕ} where
  chances_made : ChancesForced store asked C C' number place → number ≡ 0 → C' ≡ chances_under (settings_of asked store) C
  chances_made (ChancesForced.bad_store z g e) q = absurd (z (sym g.number_is ∙ q))
  chances_made (ChancesForced.too_many j l g e) q = absurd (let w = g.number_is in omega arith)
  chances_made (ChancesForced.done j l g e) q = e

  chances_answer : judge_store (length C) store ≡ accepted → length C ≤ limits.events → ChancesForced store asked C C' number place → number ≡ 0
  chances_answer j h (ChancesForced.bad_store z g e) = absurd (z (ap (λ v. v.number) j))
  chances_answer j h (ChancesForced.too_many i l g e) = absurd (omega arith)
  chances_answer j h (ChancesForced.done i l g e) = g.number_is

own_under : (s : Settings) (t : Tree) {C : List ℕ} → Own t C → Own (force_tree s t) (chances_under s C)
own_under s t {C} o = record {
  enough = omega (arith, o.enough, events_same s t, chances_long s C);
  each = λ e h.
      let k : e < events t = omega (arith, events_same s t) in
      chances_at s C e (omega (arith, o.enough)) ∙ ap (λ x. chance_as billion x (s e)) (o.each e k) ∙ sym (chances_at s t.chances e k);
}

priced : {store : List ℕ} {asked : ℕ} {t : Tree} {m : Memory} {a : Analysis} → judge_store (events t) store ≡ accepted → events t ≤ limits.events → Season (settings_of asked store) t m a
    → Priced store asked t m a
priced {store} {asked} {t} {m} {a} j few d = record {
  answers = λ x q. chances_answer (subst (λ n. judge_store n store ≡ accepted) (sym q) j) (omega (arith, q, few)) x;
  own = λ x q o. made x q o;
  encloses = λ {C} {C'} {L} {H} {L'} {H'} {k} {p} {number} {place} {lo} {hi} x q o y z.
      subst (λ S. Brackets billion (events t - 1) S (depends_on (events t) (force_f (settings_of asked store) (root_fun t.gates))) lo hi) (d.chance (made x q o)) (d.near y z (made x q o));
}
  where
    made : {C C' : List ℕ} {k p : ℕ} → ChancesForced store asked C C' k p → k ≡ 0 → Own t C → Own (force_tree (settings_of asked store) t) C'
    made x q o = subst (Own (force_tree (settings_of asked store) t)) (sym (chances_made x q)) (own_under (settings_of asked store) t o)

-- ---- THE PROMISE under settings

-- a done analysis is one of an accepted tree under an accepted store
record Finished (bytes store : List ℕ) (asked : ℕ) (m m' : Memory) (a : Analysis) : Type 0 where
  tree : Accepted bytes
  judged : judge_store (events (tree_of tree.book)) store ≡ accepted
  finished : Done (tree_under asked store tree.book) m m' a

finished_under : {bytes store : List ℕ} {asked : ℕ} {m m' : Memory} {a : Analysis} → AnalysedUnder bytes store asked m m' a → a.number ≡ 0 → Finished bytes store asked m m' a
finished_under {bytes} (AnalysedUnder.bad_tree w p r k) q = absurd (reading_some (reason w).number (refusal_range bytes w p) (sym r.number ∙ q))
finished_under (AnalysedUnder.bad_store b p z r k) q = absurd (z (sym r.number ∙ q))
finished_under {bytes} {store} {asked} {m} {m'} {a} (AnalysedUnder.analysed b p j x) q = record { tree = record { book = b; is = p }; judged = j; finished = go x }
  where
    go : AnalysedTree (tree_under asked store b) m m' a → Done (tree_under asked store b) m m' a
    go (AnalysedTree.bad_length n r k) = absurd (let e = r.number in omega arith)
    go (AnalysedTree.nodes_full g n f r k) = absurd (let e = r.number in omega arith)
    go (AnalysedTree.cuts_full n f g r k) = absurd (let e = r.number in omega arith)
    go (AnalysedTree.done n f g d) = d

module _ {bytes store : List ℕ} {asked : ℕ} {m m' : Memory} {a : Analysis} (x : AnalysedUnder bytes store asked m m' a) (q : a.number ≡ 0) where
  of : Finished bytes store asked m m' a
  of = finished_under x q

  delivered_season : Season (settings_of asked store) (tree_of of.tree.book) m' a
  delivered_season = season (settings_of asked store) of.tree.book (lawful bytes of.tree.book of.tree.is)
      (λ e h. forced_below (events (tree_of of.tree.book)) asked store e of.judged h) of.finished

  pub season_delivers : (t : Accepted bytes) × Season (settings_of asked store) (tree_of t.book) m' a
  season_delivers = (of.tree, delivered_season)

  -- and with the chances under the settings
  pub season_priced : (t : Accepted bytes) × Priced store asked (tree_of t.book) m' a
  season_priced = (of.tree, priced of.judged (read_sound of.tree.book (lawful bytes of.tree.book of.tree.is)).few_events delivered_season)

-- ---- ONE OUTCOME, up to the numbering of nodes

module _ {t : Tree} {m m₁ m₂ : Memory} {a₁ a₂ : Analysis} where
  tree_coincide : AnalysedTree t m m₁ a₁ → AnalysedTree t m m₂ a₂ → Coincide m₁ m₂ a₁ a₂
  tree_coincide (AnalysedTree.bad_length n r k) (AnalysedTree.bad_length n' s l) = refusing (omega arith) r s (l ∙ sym k)
  tree_coincide (AnalysedTree.bad_length n r k) (AnalysedTree.nodes_full i n' f s l) = absurd (n n')
  tree_coincide (AnalysedTree.bad_length n r k) (AnalysedTree.cuts_full n' f g s l) = absurd (n n')
  tree_coincide (AnalysedTree.bad_length n r k) (AnalysedTree.done n' f g s) = absurd (n n')
  tree_coincide (AnalysedTree.nodes_full h n f r k) (AnalysedTree.bad_length n' s l) = absurd (n' n)
  tree_coincide (AnalysedTree.nodes_full h n f r k) (AnalysedTree.nodes_full i n' f' s l) =
      refusing (omega arith) r (subst (λ g. Refused (at 10 g) a₂) (filled_once t (capacity m.nodes) f' f) s) (same_zero k l)
  tree_coincide (AnalysedTree.nodes_full h n f r k) (AnalysedTree.cuts_full n' f' g' s l) = absurd (f' (filled_full t (capacity m.nodes) f))
  tree_coincide (AnalysedTree.nodes_full h n f r k) (AnalysedTree.done n' f' g' s) = absurd (f' (filled_full t (capacity m.nodes) f))
  tree_coincide (AnalysedTree.cuts_full n f g r k) (AnalysedTree.bad_length n' s l) = absurd (n' n)
  tree_coincide (AnalysedTree.cuts_full n f g r k) (AnalysedTree.nodes_full i n' f' s l) = absurd (f (filled_full t (capacity m.nodes) f'))
  tree_coincide (AnalysedTree.cuts_full n f g r k) (AnalysedTree.cuts_full n' f' g' s l) = refusing (omega arith) r s (same_zero k l)
  tree_coincide (AnalysedTree.cuts_full n f g r k) (AnalysedTree.done n' f' g' s) = absurd (g' g)
  tree_coincide (AnalysedTree.done n f g r) (AnalysedTree.bad_length n' s l) = absurd (n' n)
  tree_coincide (AnalysedTree.done n f g r) (AnalysedTree.nodes_full i n' f' s l) = absurd (f (filled_full t (capacity m.nodes) f'))
  tree_coincide (AnalysedTree.done n f g r) (AnalysedTree.cuts_full n' f' g' s l) = absurd (g g')
  tree_coincide (AnalysedTree.done n f g r) (AnalysedTree.done n' f' g' s) = Coincide.done r.number (done_renumbered r s)

some_number : (k : ℕ) → (k ≡ 0 → ⊥) → 1 ≤ k
some_number k h = omega arith

same_judged : (store : List ℕ) {b c : Book} → c ≡ b → judge_store (events (tree_of c)) store ≡ judge_store (events (tree_of b)) store
same_judged store e = ap (λ x. judge_store (events (tree_of x)) store) e

module _ {bytes store : List ℕ} {asked : ℕ} {m m₁ m₂ : Memory} {a₁ a₂ : Analysis} where
  pub season_coincide : AnalysedUnder bytes store asked m m₁ a₁ → AnalysedUnder bytes store asked m m₂ a₂ → Coincide m₁ m₂ a₁ a₂
  season_coincide (AnalysedUnder.bad_tree w p r k) (AnalysedUnder.bad_tree v q s l) =
      refusing (reading_one (reason w).number (refusal_range bytes w p)) r (subst (λ x. Refused (reason x) a₂) (same_answer bytes p q) s) (l ∙ sym k)
  season_coincide (AnalysedUnder.bad_tree w p r k) (AnalysedUnder.bad_store c q z s l) = absurd (not_both bytes p q)
  season_coincide (AnalysedUnder.bad_tree w p r k) (AnalysedUnder.analysed c q j x) = absurd (not_both bytes p q)
  season_coincide (AnalysedUnder.bad_store b p y r k) (AnalysedUnder.bad_tree v q s l) = absurd (not_both bytes q p)
  season_coincide (AnalysedUnder.bad_store b p y r k) (AnalysedUnder.bad_store c q z s l) =
      refusing (some_number (judge_store (events (tree_of b)) store).number y) r (subst (λ v. Refused v a₂) (same_judged store (same_book bytes p q)) s) (l ∙ sym k)
  season_coincide (AnalysedUnder.bad_store b p y r k) (AnalysedUnder.analysed c q j x) = absurd (y (ap (λ v. v.number) (sym (same_judged store (same_book bytes p q)) ∙ j)))
  season_coincide (AnalysedUnder.analysed b p i x) (AnalysedUnder.bad_tree v q s l) = absurd (not_both bytes q p)
  season_coincide (AnalysedUnder.analysed b p i x) (AnalysedUnder.bad_store c q z s l) = absurd (z (ap (λ v. v.number) (same_judged store (same_book bytes p q) ∙ i)))
  season_coincide (AnalysedUnder.analysed b p i x) (AnalysedUnder.analysed c q j y) =
      tree_coincide x (subst (λ e. AnalysedTree (tree_under asked store e) m m₂ a₂) (same_book bytes p q) y)

-- also where records of editions above the asked one were added in between
pub season_stays : {bytes old new : List ℕ} {asked : ℕ} → torn old ≡ false → Added asked (entries old) (entries new)
    → ((b : Book) → outcome limits bytes ≡ accept b → judge_store (events (tree_of b)) new ≡ accepted) → {m m₁ m₂ : Memory} {a₁ a₂ : Analysis}
    → AnalysedUnder bytes old asked m m₁ a₁ → AnalysedUnder bytes new asked m m₂ a₂ → Coincide m₁ m₂ a₁ a₂
season_stays {bytes} {old} {new} {asked} whole added fine x y = season_coincide ((answer_stays bytes old new asked whole added fine).0 x) y
