-- What a done analysis of a tree's bytes leaves can be bracketed and listed.
-- Assumes nothing.
use mathlib.Core.Path.{◌≡◌, sym, ap, ◌∙◌, subst}
use mathlib.Core.Bool.{true, false}
use mathlib.Core.List.{List}
use Prim.Native.Nat.{ℕ}
use native.Mathlib.Omega.{arith}
use Rattle.std.specs.Prelude.{Result, Ok, Err}
use Rattle.paper.specs.Limits.{limits}
use Rattle.paper.specs.Trees.{events}
use Rattle.tables.specs.Lent.{Lent}
use Rattle.rules.specs.Answers.{reason}
use Rattle.records.specs.Judge.{Book, accept, refuse, outcome}
use Rattle.records.specs.Memory.{no_event, memory, in_memory}
use Rattle.records.specs.Trees.{Lawful, tree_of}
use Rattle.rules.specs.declared.Refusal.{Refusal}
use Rattle.records.specs.declared.Event.{Event}
use Rattle.records.specs.declared.Tree.{Tree}
use Rattle.records.proofs.Pad.{pad_get_d}
use Rattle.trees.proofs.Lawful.{lawful, tree_events}
use Rattle.trees.proofs.Promises.{refused_is_so}
use Rattle.bracket.specs.Bracketed.{Chances}
use Rattle.memory.specs.Memory.{Memory}
use Rattle.memory.specs.Outcome.{Done}
use Rattle.analyser.specs.Analysed.{Analysed}
use Rattle.memory.specs.Analysis.{Analysis}
use Rattle.analyser.proofs.Outcomes.{reason_above}
use Rattle.arrays.specs.Chances.{chances_of}
use Rattle.arrays.proofs.Chances.{chance_at}
use Rattle.followup.specs.Tops.{Held}

-- ---- the tree in memory

module _ {b : Book} (l : Lawful limits b) where
  count_is : (memory b).event_count ≡ events (tree_of b)
  unfolding memory
  count_is = sym (tree_events b)

  chances_ok : Chances (memory b).event_count (chances_of (memory b).events)
  unfolding memory
  chances_ok = record {
    each = λ e h.
        let few = l.few_events in
        let m = chance_at (memory b).events e (omega arith) in
        let p = ap (λ (x : Event). x.chance) (pad_get_d limits.events no_event b.events e no_event h) in
        let c = l.chances e h in
        omega arith;
  }

  book_held : {m m' : Memory} {a : Analysis} → Done (tree_of b) m m' a → Held (memory b) m'.nodes m'.cuts a
  book_held {m' = m'} {a} d = record {
    nodes = record {
      lent = subst (λ (n : ℕ). Lent false n m'.nodes a.nodes a.root) (sym count_is) d.node_table.lent;
      chances = chances_ok;
    };
    cuts = subst (λ (n : ℕ). Lent true n m'.cuts a.cut_nodes a.cut_root) (sym count_is) d.cut_table.lent;
  }

-- ---- from the two calls

module _ (bytes : List ℕ) where
  refused_not_0 : (k : ℕ) (w : Refusal) → k ≡ (reason w).number → k ≡ 0 → ⊥
  refused_not_0 k w q z = let h = reason_above w in omega arith

  apart : {w : Refusal} {b : Book} → outcome limits bytes ≡ refuse w → outcome limits bytes ≡ accept b → ⊥
  apart {w} {b} p q = let x : refuse w ≡ accept b = sym p ∙ q in let y : ◌≡◌ {A = ℕ} 0 1 = cc in omega arith

  -- the bytes of an analysis that answers 0 are read
  pub readable : {w : Refusal} → Err w ≡ in_memory (outcome limits bytes) → {m m' : Memory} {a : Analysis} → Analysed bytes m m' a → a.number ≡ 0 → ⊥
  readable e (Analysed.bad_tree w q f k) z = refused_not_0 _ w f.number z
  readable e (Analysed.bad_length b q l f k) z = apart (refused_is_so bytes e) q
  readable e (Analysed.nodes_full b g q l h f k) z = apart (refused_is_so bytes e) q
  readable e (Analysed.cuts_full b q l h i f k) z = apart (refused_is_so bytes e) q
  readable e (Analysed.done b q l h i d) z = apart (refused_is_so bytes e) q

  module _ {t : Tree} (e : Ok t ≡ in_memory (outcome limits bytes)) where
    tree_is : (b : Book) → outcome limits bytes ≡ accept b → t ≡ memory b
    unfolding in_memory
    tree_is b q = let x : ◌≡◌ {A = Result Tree Refusal} (Ok t) (Ok (memory b)) = e ∙ ap in_memory q in cc

    -- THE TABLES of an analysis that answers 0
    pub held : {m m' : Memory} {a : Analysis} → Analysed bytes m m' a → a.number ≡ 0 → Held t m'.nodes m'.cuts a
    held (Analysed.bad_tree w q f k) z = absurd (refused_not_0 _ w f.number z)
    held (Analysed.bad_length b q l f k) z = absurd (let x = f.number in omega arith)
    held (Analysed.nodes_full b g q l h f k) z = absurd (let x = f.number in omega arith)
    held (Analysed.cuts_full b q l h i f k) z = absurd (let x = f.number in omega arith)
    held {m} {m'} {a} (Analysed.done b q l h i d) z = subst (λ (t : Tree). Held t m'.nodes m'.cuts a) (sym (tree_is b q)) (book_held (lawful bytes b q) d)
