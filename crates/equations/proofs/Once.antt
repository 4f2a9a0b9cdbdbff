-- THEOREMS ON THE CONTRACT ALONE: two outcomes coincide but for the ring; done exactly when no rule is broken; the tree means what the text means.
-- Assumes nothing.
use mathlib.Core.Path.{◌≡◌, sym, ap, ◌∙◌}
use mathlib.Core.Logic.{◌↔◌}
use mathlib.Core.List.{List}
use Prim.Native.Nat.{ℕ, ◌≤◌}
use native.Mathlib.Omega.{arith}
use lib.ListN.{length, replicate}
use Rattle.paper.specs.Limits.{limits}
use Rattle.paper.specs.Trees.{Tree, events}
use Rattle.paper.specs.Flat.{gates_from}
use Rattle.paper.specs.Texts.{lines_of}
use Rattle.paper.specs.Equations.{dict_in}
use Rattle.paper.specs.Meaning.{tree_said}
use Rattle.paper.specs.Importing.{Rooted, broken, all_right}
use Rattle.records.specs.Memory.{pad, memory}
use Rattle.records.specs.Flattened.{book_of, LawfulTree}
use Rattle.records.proofs.Breaks.{broken_events, broken_gates, events_few, gates_few}
use Rattle.records.proofs.Flattened.{tree_again, tree_lawful}
use Rattle.meaning.proofs.Once.{one_root, says_once}
use Rattle.meaning.proofs.Chances.{chance_said}
use Rattle.meaning.proofs.OfTexts.{text_means, text_lawful}
use Rattle.equations.specs.Lists.{Lists, Long, Zeroed, Worked}
use Rattle.equations.specs.Contract.{ShowsRing, spots_of, Imports, short, refused, back, done}
use Rattle.equations.specs.Promises.{SameRoom, SameLists, Alike, Means}
use Rattle.equations.specs.Imported.{Imported}

-- ---- the statements

-- TWO OUTCOMES for one text, in lists of the same lengths, are one but for the ring
abbrev pub ImportsOnce : Type 0
ImportsOnce = (text : List ℕ) (l k l' k' : Lists) (a b : Imported) → SameRoom l k → Imports text l l' a → Imports text k k' b → Alike a b l' k'

-- DONE exactly when the lists are long enough and no rule is broken: every line right, no ring, one root, and a lawful tree
abbrev pub ImportsDone : Type 0
ImportsDone = (text : List ℕ) (l l' : Lists) (a : Imported) → Imports text l l' a
    → (a.number ≡ 0) ↔ (Long (length text) l × ((root : ℕ) × Rooted (lines_of text) root × LawfulTree limits (tree_said (lines_of text) root)))

-- WITH 17 a ring is shown, its length in the answer: the places of its equations' lines, and zeros behind them
pub record RingShown (text : List ℕ) (l l' : Lists) (a : Imported) : Type 0 where
  pub places : List ℕ
  pub ring : ShowsRing (lines_of text) places
  pub size : a.ring ≡ length places
  pub is : l'.ring ≡ pad (length l.ring) 0 places

abbrev pub ImportsRing : Type 0
ImportsRing = (text : List ℕ) (l l' : Lists) (a : Imported) → Imports text l l' a → a.number ≡ 17 → RingShown text l l' a

-- THE TREE of an import that is done means what the text means
abbrev pub ImportsMeans : Type 0
ImportsMeans = (text : List ℕ) (l l' : Lists) (a : Imported) → Imports text l l' a → a.number ≡ 0 → Means text a.tree

-- ---- lists that are long enough, and zero

long_same : {size : ℕ} {l k : Lists} → SameRoom l k → Long size l → Long size k
long_same s g = record {
  small = g.small;
  heads = omega (arith, s.heads, g.heads);
  next = omega (arith, s.next, g.next);
  names = omega (arith, s.names, g.names);
  defs = omega (arith, s.defs, g.defs);
  marks = omega (arith, s.marks, g.marks);
  amounts = omega (arith, s.amounts, g.amounts);
  starts = omega (arith, s.starts, g.starts);
  rights = omega (arith, s.rights, g.rights);
  order = omega (arith, s.order, g.order);
  ring = omega (arith, s.ring, g.ring);
  shown = omega (arith, s.shown, g.shown);
}

room_back : {l k : Lists} → SameRoom l k → SameRoom k l
room_back s = record {
  heads = sym s.heads;
  next = sym s.next;
  names = sym s.names;
  defs = sym s.defs;
  marks = sym s.marks;
  amounts = sym s.amounts;
  starts = sym s.starts;
  rights = sym s.rights;
  order = sym s.order;
  ring = sym s.ring;
  shown = sym s.shown;
}

zeros_same : (l k l' k' : List ℕ) → length l ≡ length k → Zeroed l l' → Zeroed k k' → l' ≡ k'
zeros_same l k l' k' e z y = z ∙ ap (λ n. replicate n 0) e ∙ sym y

module _ {l k l' k' : Lists} (s : SameRoom l k) (w : Worked l l') (v : Worked k k') where
  work_same : l'.shown ≡ k'.shown → SameLists l' k'
  work_same shown = record {
    heads = zeros_same l.heads k.heads l'.heads k'.heads s.heads w.heads v.heads;
    next = zeros_same l.next k.next l'.next k'.next s.next w.next v.next;
    names = zeros_same l.names k.names l'.names k'.names s.names w.names v.names;
    defs = zeros_same l.defs k.defs l'.defs k'.defs s.defs w.defs v.defs;
    marks = zeros_same l.marks k.marks l'.marks k'.marks s.marks w.marks v.marks;
    amounts = zeros_same l.amounts k.amounts l'.amounts k'.amounts s.amounts w.amounts v.amounts;
    starts = zeros_same l.starts k.starts l'.starts k'.starts s.starts w.starts v.starts;
    rights = zeros_same l.rights k.rights l'.rights k'.rights s.rights w.rights v.rights;
    order = zeros_same l.order k.order l'.order k'.order s.order w.order v.order;
    shown = shown;
  }

-- ---- two outcomes

module _ (text : List ℕ) (l k l' k' : Lists) (a b : Imported) (s : SameRoom l k) where
  once : Imports text l l' a → Imports text k k' b → Alike a b l' k'
  once (short low h e) (short few' h' e') = record {
    number = h.is ∙ sym h'.is;
    place = h.nowhere ∙ sym h'.nowhere;
    line = h.at ∙ sym h'.at;
    tree = h.tells ∙ sym h'.tells;
    lists = λ n. absurd (n h.is);
    ring = λ n _. absurd (n h.is);
  }
  once (short low h e) (refused m ln g x some ne h' w zr zw) = absurd (low (long_same (room_back s) g))
  once (short low h e) (back places g x h' sh er w zw) = absurd (low (long_same (room_back s) g))
  once (short low h e) (done root g r z h' sh w zr) = absurd (low (long_same (room_back s) g))
  once (refused m ln g x some ne h w zr zw) (short low h' e) = absurd (low (long_same s g))
  once (back places g x h sh er w zw) (short low h' e) = absurd (low (long_same s g))
  once (done root g r z h sh w zr) (short low h' e) = absurd (low (long_same s g))
  once (refused m ln g x some ne h w zr zw) (refused m' ln' g' x' some' ne' h' w' zr' zw') =
      let e = says_once x x' in record {
        number = h.is ∙ e.0 ∙ sym h'.is;
        place = h.nowhere ∙ sym h'.nowhere;
        line = h.at ∙ e.1 ∙ sym h'.at;
        tree = h.tells ∙ sym h'.tells;
        lists = λ _. work_same s w w' (zeros_same l.shown k.shown l'.shown k'.shown s.shown zw zw');
        ring = λ _ _. (h.round ∙ sym h'.round, zeros_same l.ring k.ring l'.ring k'.ring s.ring zr zr');
      }
  once (refused m ln g x some ne h w zr zw) (back places g' x' h' sh er w' zw') = absurd (ne (says_once x x').0)
  once (refused m ln g x some ne h w zr zw) (done root g' r z h' sh w' zr') = let e = (says_once x (all_right root r z)).0 in absurd (omega arith)
  once (back places g x h sh er w zw) (refused m ln g' x' some ne h' w' zr zw') = absurd (ne (says_once x' x).0)
  once (back places g x h sh er w zw) (back places' g' x' h' sh' er' w' zw') = record {
    number = h.is ∙ sym h'.is;
    place = h.nowhere ∙ sym h'.nowhere;
    line = h.at ∙ sym h'.at;
    tree = h.tells ∙ sym h'.tells;
    lists = λ _. work_same s w w' (zeros_same l.shown k.shown l'.shown k'.shown s.shown zw zw');
    ring = λ _ n. absurd (n h.is);
  }
  once (back places g x h sh er w zw) (done root g' r z h' sh' w' zr') = let e = (says_once x (all_right root r z)).0 in absurd (omega arith)
  once (done root g r z h sh w zr) (refused m ln g' x' some ne h' w' zr' zw') = let e = (says_once x' (all_right root r z)).0 in absurd (omega arith)
  once (done root g r z h sh w zr) (back places g' x' h' sh' er w' zw') = let e = (says_once x' (all_right root r z)).0 in absurd (omega arith)
  once (done root g r z h sh w zr) (done root' g' r' z' h' sh' w' zr') =
      let e : root ≡ root' = one_root r.one r'.one in record {
        number = h.is ∙ sym h'.is;
        place = h.nowhere ∙ sym h'.nowhere;
        line = h.at ∙ sym h'.at;
        tree = h.tells ∙ ap (λ n. memory (book_of (tree_said (lines_of text) n))) e ∙ sym h'.tells;
        lists = λ _. work_same s w w' (sh ∙ ap (λ n. pad n 0 (spots_of text root)) s.shown ∙ ap (λ n. pad (length k.shown) 0 (spots_of text n)) e ∙ sym sh');
        ring = λ _ _. (h.round ∙ sym h'.round, zeros_same l.ring k.ring l'.ring k'.ring s.ring zr zr');
      }

pub imports_once : ImportsOnce
imports_once text l k l' k' a b s p q = once text l k l' k' a b s p q

-- ---- done

pub imports_done : ImportsDone
imports_done text l l' a p = (to p, from p)
  where
    to : Imports text l l' a → a.number ≡ 0 → Long (length text) l × ((root : ℕ) × Rooted (lines_of text) root × LawfulTree limits (tree_said (lines_of text) root))
    to (short low h e) n = absurd (omega (arith, h.is))
    to (refused m ln g x some ne h w zr zw) n = absurd (omega (arith, h.is))
    to (back places g x h sh er w zw) n = absurd (omega (arith, h.is))
    to (done root g r z h sh w zr) n = (g, (root, r, text_lawful text root r z))

    from : Imports text l l' a → Long (length text) l × ((root : ℕ) × Rooted (lines_of text) root × LawfulTree limits (tree_said (lines_of text) root)) → a.number ≡ 0
    from (short low h e) (g, x) = absurd (low g)
    from (refused m ln g x some ne h w zr zw) (_, (root, r, t)) = let e = (says_once x (all_right root r t.within)).0 in absurd (omega arith)
    from (back places g x h sh er w zw) (_, (root, r, t)) = let e = (says_once x (all_right root r t.within)).0 in absurd (omega arith)
    from (done root g r z h sh w zr) _ = h.is

-- ---- a ring

pub imports_ring : ImportsRing
imports_ring text l l' a p n = go p
  where
    go : Imports text l l' a → RingShown text l l' a
    go (short low h e) = absurd (omega (arith, h.is))
    go (refused m ln g x some ne h w zr zw) = absurd (ne (sym h.is ∙ n))
    go (back places g x h sh er w zw) = record { places = places; ring = sh; size = h.round; is = er }
    go (done root g r z h sh w zr) = absurd (omega (arith, h.is))

-- ---- the tree

few : (t : Tree) → broken limits t ≡ 0 → events t ≤ gates_from
few t z = omega (arith, events_few limits t.chances 0 (broken_events limits t z) (omega arith))

few_gates : (t : Tree) → broken limits t ≡ 0 → length t.gates ≤ limits.gates
few_gates t z = omega (arith, gates_few limits t.gates 0 0 (broken_gates limits t z) (omega arith))

pub imports_means : ImportsMeans
imports_means text l l' a p n = go p
  where
    go : Imports text l l' a → Means text a.tree
    go (short low h e) = absurd (omega (arith, h.is))
    go (refused m ln g x some ne h w zr zw) = absurd (omega (arith, h.is))
    go (back places g x h sh er w zw) = absurd (omega (arith, h.is))
    go (done root g r z h sh w zr) =
        let t = text_lawful text root r z in record {
          root = root;
          rooted = r;
          is = h.tells;
          lawful = tree_lawful (tree_said (lines_of text) root) t;
          same = tree_again (tree_said (lines_of text) root) (few (tree_said (lines_of text) root) z) (few_gates (tree_said (lines_of text) root) z) t.below t.lower;
          fails = λ v. text_means text root r v (length (dict_in (lines_of text))) (omega arith);
          chances = chance_said (lines_of text) root;
        }
