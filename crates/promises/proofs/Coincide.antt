-- TWO OUTCOMES COINCIDE: what the contract of `analyse` allows for some bytes and some memory is one answer and one memory after, up to the numbering of nodes.
-- Assumes nothing.
use mathlib.Core.Path.{◌≡◌, sym, ap, ◌∙◌, subst}
use mathlib.Core.Logic.{◌⊎◌, inl, inr}
use mathlib.Core.List.{List}
use Prim.Native.Nat.{ℕ, ◌-◌, ◌≤◌, ◌<◌}
use native.Mathlib.Omega.{arith}
use lib.ListN.{length, get_or}
use lib.Seq.{ext_get_or}
use Rattle.paper.specs.Answers.{Verdict, NodesFull, FilledAt, CutsFull}
use Rattle.paper.specs.Limits.{limits}
use Rattle.paper.specs.Lists.{In}
use Rattle.paper.specs.Trees.{Tree, events}
use Rattle.paper.specs.Diagrams.{Diagram, Ordered}
use Rattle.paper.specs.Cuts.{sets_of, Suppressed}
use Rattle.algebra.proofs.Prefixes.{filled_full, filled_once}
use Rattle.algebra.proofs.Plain.{Good, canonical}
use Rattle.algebra.proofs.Order.{sets_complete}
use Rattle.algebra.proofs.Families.{canonical_family}
use Rattle.tables.specs.Table.{den}
use Rattle.tables.proofs.Lent.{lent_lower, root_ordered, root_suppressed}
use Rattle.tables.proofs.Once.{den_inj, lent_good}
use Rattle.store.proofs.Denotes.{below_or_not}
use Rattle.rules.specs.Answers.{reason}
use Rattle.records.specs.Judge.{Book, accept, refuse, outcome}
use Rattle.records.specs.Trees.{tree_of}
use Rattle.rules.specs.declared.Refusal.{Refusal}
use Rattle.memory.specs.Memory.{Memory, Lengths, AllZero, capacity}
use Rattle.memory.specs.Outcome.{Refused, at, Done}
use Rattle.analyser.specs.Analysed.{Analysed}
use Rattle.promises.specs.Coincide.{Renumbering, Renumbered, Coincide}
use Rattle.memory.specs.Analysis.{Analysis}
use Rattle.promises.proofs.Refusals.{reading_one, refusal_range}
use Rattle.promises.proofs.Renumbering.{renumbering, match_functions, match_families}

-- ---- two done analyses

-- two ordered diagrams of one list of sets, with no failed branch 0, are equal
same_sets : (n : ℕ) (a b : Diagram) → Ordered 0 n a → Ordered 0 n b → Suppressed a → Suppressed b → sets_of a ≡ sets_of b → a ≡ b
same_sets n a b oa ob sa sb e = canonical_family n a b oa ob sa sb (λ S. (
  (λ x. (sets_complete b S).0 (subst (In S) e ((sets_complete a S).1 x))),
  (λ x. (sets_complete a S).0 (subst (In S) (sym e) ((sets_complete b S).1 x))),
))

module _ {t : Tree} {m m₁ m₂ : Memory} {a₁ a₂ : Analysis} (d : Done t m m₁ a₁) (e : Done t m m₂ a₂) where
  nodes_same : a₂.nodes ≡ a₁.nodes
  nodes_same = e.node_count ∙ sym d.node_count

  cuts_same : a₂.cut_nodes ≡ a₁.cut_nodes
  cuts_same = e.cut_count ∙ sym d.cut_count

  abbrev nodes : Renumbering m₁.nodes m₂.nodes a₁.nodes a₂.nodes
  nodes = renumbering d.node_table e.node_table nodes_same (e.nodes_long ∙ sym d.nodes_long)
      (match_functions d.node_table e.node_table d.nodes_needed e.nodes_needed) (match_functions e.node_table d.node_table e.nodes_needed d.nodes_needed)

  abbrev cuts : Renumbering m₁.cuts m₂.cuts a₁.cut_nodes a₂.cut_nodes
  cuts = renumbering d.cut_table e.cut_table cuts_same (e.cuts_long ∙ sym d.cuts_long)
      (match_families d.cut_table e.cut_table d.cuts_needed e.cuts_needed) (match_families e.cut_table d.cut_table e.cuts_needed d.cuts_needed)

  good₁ : (i : ℕ) → i < length t.gates → Good (events t) 0 (den m₁.nodes (get_or m₁.gates i 0))
  good₁ i h = lent_good d.node_table.lent d.node_table.unique (get_or m₁.gates i 0) (d.gate_list.stored i h)

  good₂ : (i : ℕ) → i < length t.gates → Good (events t) 0 (den m₂.nodes (get_or m₂.gates i 0))
  good₂ i h = lent_good e.node_table.lent e.node_table.unique (get_or m₂.gates i 0) (e.gate_list.stored i h)

  gate_in : (i : ℕ) → i < length t.gates → den m₂.nodes (get_or m₂.gates i 0) ≡ den m₁.nodes (get_or m₁.gates i 0)
  gate_in i h = canonical (events t) (den m₂.nodes (get_or m₂.gates i 0)) (den m₁.nodes (get_or m₁.gates i 0)) (good₂ i h).0 (good₁ i h).0 (good₂ i h).1 (good₁ i h).1
      (λ v. ap (λ F. F v) (e.gate_list.shows i h ∙ sym (d.gate_list.shows i h)))

  gate : (i : ℕ) → get_or m₂.gates i 0 ≡ nodes.to (get_or m₁.gates i 0)
  gate i = go (below_or_not i (length t.gates))
    where
      go : (i < length t.gates) ⊎ (length t.gates ≤ i) → get_or m₂.gates i 0 ≡ nodes.to (get_or m₁.gates i 0)
      go (inl h) = den_inj (lent_lower e.node_table.lent) e.node_table.unique (e.gate_list.stored i h) (nodes.to_in (get_or m₁.gates i 0) (d.gate_list.stored i h))
          (gate_in i h ∙ sym (nodes.denotes (get_or m₁.gates i 0) (d.gate_list.stored i h)))
      go (inr h) = e.gate_list.behind i h ∙ sym nodes.leaf_0 ∙ ap (λ x. nodes.to x) (sym (d.gate_list.behind i h))

  -- what each gate adds is a fact of the tree
  same_added : m₂.added ≡ m₁.added
  same_added = ext_get_or 0 m₂.added m₁.added (e.added_long ∙ sym d.added_long) (λ i _. go i (below_or_not i (length t.gates)))
    where
      go : (i : ℕ) → (i < length t.gates) ⊎ (length t.gates ≤ i) → get_or m₂.added i 0 ≡ get_or m₁.added i 0
      go i (inl h) = e.added_list.each i h ∙ sym (d.added_list.each i h)
      go i (inr h) = e.added_list.behind i h ∙ sym (d.added_list.behind i h)

  same_family : den m₂.cuts a₂.cut_root ≡ den m₁.cuts a₁.cut_root
  same_family = same_sets (events t) (den m₂.cuts a₂.cut_root) (den m₁.cuts a₁.cut_root)
      (root_ordered e.cut_table.lent) (root_ordered d.cut_table.lent) (root_suppressed e.cut_table.lent) (root_suppressed d.cut_table.lent) (e.cuts_are ∙ sym d.cuts_are)

  pub done_renumbered : Renumbered m₁ m₂ a₁ a₂
  done_renumbered = record {
    number = e.number ∙ sym d.number;
    place = e.place ∙ sym d.place;
    node_count = nodes_same;
    cut_count = cuts_same;
    node_table = nodes;
    cut_table = cuts;
    gates = gate;
    gates_long = e.gates_long ∙ sym d.gates_long;
    added = same_added;
    root = e.root_is ∙ gate (length t.gates - 1) ∙ ap (λ x. nodes.to x) (sym d.root_is);
    cut_root = den_inj (lent_lower e.cut_table.lent) e.cut_table.unique e.cut_table.lent.root_in (cuts.to_in a₁.cut_root d.cut_table.lent.root_in)
        (same_family ∙ sym (cuts.denotes a₁.cut_root d.cut_table.lent.root_in));
    memo = e.memo ∙ sym d.memo;
    heads = e.heads ∙ sym d.heads;
    next = e.next ∙ sym d.next;
    marks = e.marks ∙ sym d.marks;
    own = e.own ∙ sym d.own;
  }

-- ---- two refusals

same_refused : {v : Verdict} {a b : Analysis} → Refused v a → Refused v b → b ≡ a
same_refused {v} {a} {b} r s = λ i. record {
  number = (s.number ∙ sym r.number) i;
  place = (s.place ∙ sym r.place) i;
  nodes = (s.no_nodes ∙ sym r.no_nodes) i;
  cut_nodes = (s.no_cut_nodes ∙ sym r.no_cut_nodes) i;
  root = (s.no_root ∙ sym r.no_root) i;
  cut_root = (s.no_cut_root ∙ sym r.no_cut_root) i;
}

pub same_zero : {m m₁ m₂ : Memory} → AllZero m m₁ → AllZero m m₂ → m₂ ≡ m₁
same_zero {m} {m₁} {m₂} r s = λ i. record {
  nodes = (s.nodes ∙ sym r.nodes) i;
  cuts = (s.cuts ∙ sym r.cuts) i;
  gates = (s.gates ∙ sym r.gates) i;
  added = (s.added ∙ sym r.added) i;
  memo = (s.memo ∙ sym r.memo) i;
  heads = (s.heads ∙ sym r.heads) i;
  next = (s.next ∙ sym r.next) i;
  marks = (s.marks ∙ sym r.marks) i;
  own = (s.own ∙ sym r.own) i;
}

-- ---- any two outcomes

-- bytes are refused in one way, or accepted as one tree
pub same_answer : (bytes : List ℕ) {w v : Refusal} → outcome limits bytes ≡ refuse w → outcome limits bytes ≡ refuse v → v ≡ w
same_answer bytes {w} {v} p q = let x : refuse v ≡ refuse w = sym q ∙ p in cc

pub same_book : (bytes : List ℕ) {b c : Book} → outcome limits bytes ≡ accept b → outcome limits bytes ≡ accept c → c ≡ b
same_book bytes {b} {c} p q = let x : accept c ≡ accept b = sym q ∙ p in cc

pub not_both : (bytes : List ℕ) {w : Refusal} {b : Book} → outcome limits bytes ≡ refuse w → outcome limits bytes ≡ accept b → ⊥
not_both bytes {w} {b} p q = let x : refuse w ≡ accept b = sym p ∙ q in let z : ◌≡◌ {A = ℕ} 0 1 = cc in omega arith

-- what is said of one tree that was read is said of the other
module _ {b c : Book} (same : c ≡ b) (m : Memory) where
  long : Lengths (length (tree_of c).gates) m → Lengths (length (tree_of b).gates) m
  long = subst (λ x. Lengths (length (tree_of x).gates) m) same

  full_at : {g : ℕ} → FilledAt (tree_of c) (capacity m.nodes) g → FilledAt (tree_of b) (capacity m.nodes) g
  full_at {g} = subst (λ x. FilledAt (tree_of x) (capacity m.nodes) g) same

  full : {g : ℕ} → FilledAt (tree_of c) (capacity m.nodes) g → NodesFull (tree_of b) (capacity m.nodes)
  full f = filled_full (tree_of b) (capacity m.nodes) (full_at f)

  cuts_full : CutsFull (tree_of c) (capacity m.cuts) → CutsFull (tree_of b) (capacity m.cuts)
  cuts_full = subst (λ x. CutsFull (tree_of x) (capacity m.cuts)) same

  finished : {m' : Memory} {a : Analysis} → Done (tree_of c) m m' a → Done (tree_of b) m m' a
  finished {m'} {a} = subst (λ x. Done (tree_of x) m m' a) same

pub refusing : {v : Verdict} {m₁ m₂ : Memory} {a₁ a₂ : Analysis} → 1 ≤ v.number → Refused v a₁ → Refused v a₂ → m₂ ≡ m₁ → Coincide m₁ m₂ a₁ a₂
refusing l r s e = Coincide.refused (λ z. let w = r.number in omega arith) (same_refused r s) e

-- THE LAW
module _ {bytes : List ℕ} {m m₁ m₂ : Memory} {a₁ a₂ : Analysis} where
  pub coincide : Analysed bytes m m₁ a₁ → Analysed bytes m m₂ a₂ → Coincide m₁ m₂ a₁ a₂
  coincide (Analysed.bad_tree w p r k) (Analysed.bad_tree v q s l) =
      refusing (reading_one (reason w).number (refusal_range bytes w p)) r (subst (λ x. Refused (reason x) a₂) (same_answer bytes p q) s) (l ∙ sym k)
  coincide (Analysed.bad_tree w p r k) (Analysed.bad_length c q n s l) = absurd (not_both bytes p q)
  coincide (Analysed.bad_tree w p r k) (Analysed.nodes_full c i q n f s l) = absurd (not_both bytes p q)
  coincide (Analysed.bad_tree w p r k) (Analysed.cuts_full c q n f g s l) = absurd (not_both bytes p q)
  coincide (Analysed.bad_tree w p r k) (Analysed.done c q n f g s) = absurd (not_both bytes p q)
  coincide (Analysed.bad_length b p n r k) (Analysed.bad_tree v q s l) = absurd (not_both bytes q p)
  coincide (Analysed.bad_length b p n r k) (Analysed.bad_length c q n' s l) = refusing (omega arith) r s (l ∙ sym k)
  coincide (Analysed.bad_length b p n r k) (Analysed.nodes_full c i q n' f s l) = absurd (n (long (same_book bytes p q) m n'))
  coincide (Analysed.bad_length b p n r k) (Analysed.cuts_full c q n' f g s l) = absurd (n (long (same_book bytes p q) m n'))
  coincide (Analysed.bad_length b p n r k) (Analysed.done c q n' f g s) = absurd (n (long (same_book bytes p q) m n'))
  coincide (Analysed.nodes_full b h p n f r k) (Analysed.bad_tree v q s l) = absurd (not_both bytes q p)
  coincide (Analysed.nodes_full b h p n f r k) (Analysed.bad_length c q n' s l) = absurd (n' (long (same_book bytes q p) m n))
  coincide (Analysed.nodes_full b h p n f r k) (Analysed.nodes_full c i q n' f' s l) =
      refusing (omega arith) r (subst (λ g. Refused (at 10 g) a₂) (filled_once (tree_of b) (capacity m.nodes) (full_at (same_book bytes p q) m f') f) s) (same_zero k l)
  coincide (Analysed.nodes_full b h p n f r k) (Analysed.cuts_full c q n' f' g' s l) = absurd (f' (full (same_book bytes q p) m f))
  coincide (Analysed.nodes_full b h p n f r k) (Analysed.done c q n' f' g' s) = absurd (f' (full (same_book bytes q p) m f))
  coincide (Analysed.cuts_full b p n f g r k) (Analysed.bad_tree v q s l) = absurd (not_both bytes q p)
  coincide (Analysed.cuts_full b p n f g r k) (Analysed.bad_length c q n' s l) = absurd (n' (long (same_book bytes q p) m n))
  coincide (Analysed.cuts_full b p n f g r k) (Analysed.nodes_full c i q n' f' s l) = absurd (f (full (same_book bytes p q) m f'))
  coincide (Analysed.cuts_full b p n f g r k) (Analysed.cuts_full c q n' f' g' s l) = refusing (omega arith) r s (same_zero k l)
  coincide (Analysed.cuts_full b p n f g r k) (Analysed.done c q n' f' g' s) = absurd (g' (cuts_full (same_book bytes q p) m g))
  coincide (Analysed.done b p n f g r) (Analysed.bad_tree v q s l) = absurd (not_both bytes q p)
  coincide (Analysed.done b p n f g r) (Analysed.bad_length c q n' s l) = absurd (n' (long (same_book bytes q p) m n))
  coincide (Analysed.done b p n f g r) (Analysed.nodes_full c i q n' f' s l) = absurd (f (full (same_book bytes p q) m f'))
  coincide (Analysed.done b p n f g r) (Analysed.cuts_full c q n' f' g' s l) = absurd (g (cuts_full (same_book bytes p q) m g'))
  coincide (Analysed.done b p n f g r) (Analysed.done c q n' f' g' s) = Coincide.done r.number (done_renumbered r (finished (same_book bytes p q) m s))

pub same_number : {m m' : Memory} {a a' : Analysis} → Coincide m m' a a' → a'.number ≡ a.number
same_number (Coincide.refused n e k) = ap (λ (x : Analysis). x.number) e
same_number (Coincide.done n r) = r.number

pub same_place : {m m' : Memory} {a a' : Analysis} → Coincide m m' a a' → a'.place ≡ a.place
same_place (Coincide.refused n e k) = ap (λ (x : Analysis). x.place) e
same_place (Coincide.done n r) = r.place
