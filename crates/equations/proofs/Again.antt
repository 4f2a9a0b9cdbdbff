-- EXPORTED, THEN IMPORTED, on the contracts alone: any tree in memory that is exported is imported again, answered 0, and says the same.
-- Assumes nothing.
use mathlib.Core.Path.{◌≡◌, refl, sym, ap, ◌∙◌, subst}
use mathlib.Core.List.{List, ◌++◌}
use Prim.Native.Nat.{ℕ}
use native.Mathlib.Omega.{arith}
use lib.Dec.{ltb}
use lib.ListN.{length, take, drop}
use lib.Seq.{take_at}
use Rattle.std.specs.Prelude.{Result, Ok, Err}
use Rattle.paper.specs.Limits.{limits}
use Rattle.paper.specs.Texts.{lines_of}
use Rattle.paper.specs.Meaning.{tree_said}
use Rattle.paper.specs.Exporting.{text_of}
use Rattle.rules.specs.declared.Refusal.{Refusal}
use Rattle.rules.specs.declared.Refusal.TheVariants.{Room}
use Rattle.rules.proofs.Cases.{either}
use Rattle.records.specs.Judge.{Book, Outcome, accept, refuse, outcome}
use Rattle.records.specs.Memory.{memory}
use Rattle.records.specs.Trees.{Lawful, tree_of, tree_in}
use Rattle.records.specs.Flattened.{book_of, LawfulTree}
use Rattle.records.specs.declared.Tree.{Tree}
use Rattle.judging.specs.Bytes.{bytes_of}
use Rattle.writing.specs.Writes.{Wrote, wrote, laid_of}
use Rattle.trees.proofs.Lawful.{lawful}
use Rattle.trees.proofs.Promises.{Good}
use Rattle.meaning.specs.Exported.{root_in, tree_again, SaysAgain}
use Rattle.meaning.proofs.Once.{one_root, says_once}
use Rattle.meaning.proofs.Export.{export_says_again}
use Rattle.exporting.specs.Exports.{export_of}
use Rattle.exporting.proofs.Exports.{Exports}
use Rattle.equations.specs.Lists.{Lists, Long}
use Rattle.equations.specs.Contract.{Imports, short, refused, back, done}
use Rattle.equations.specs.Promises.{Means}
use Rattle.equations.specs.Imported.{Imported}
use Rattle.equations.proofs.Once.{imports_means}
use Rattle.equations.proofs.AsTree.{lawful_tree}
use Rattle.equations.proofs.Told.{Sized, accepted_tree, sized_memory, tree_in_memory}

-- an accepted tree's own text says it again
pub accepted_says_again : (b : Book) → Lawful limits b → SaysAgain (tree_of b) (lines_of (text_of (tree_of b)))
accepted_says_again b v = export_says_again (tree_of b) (lawful_tree b v)

-- ---- a done export

laid_accepts : (o : Outcome) (s room : List ℕ) {n : ℕ} → (laid_of o s room).answer ≡ Ok n → (b : Book) × (o ≡ accept b)
laid_accepts (accept b) s room d = (b, refl)
laid_accepts (refuse a) s room {n} d = let x : ◌≡◌ {A = Result ℕ Refusal} (Err a) (Ok n) = d in let z : ◌≡◌ {A = ℕ} 0 1 = cc in absurd (omega arith)

laid_is : (b : Book) (s room : List ℕ) {n : ℕ} → (laid_of (accept b) s room).answer ≡ Ok n → laid_of (accept b) s room ≡ wrote (Ok (length s)) (s ++ drop (length s) room)
laid_is b s room {n} d =
    either (ltb (length room) (length s))
    (λ q. let x : ◌≡◌ {A = Result ℕ Refusal} (Err Room) (Ok n) = rw q at d in let z : ◌≡◌ {A = ℕ} 0 1 = cc in absurd (omega arith))
    (λ q. rw q refl)

module _ (t : Tree) (room : List ℕ) {w : Wrote} (p : Exports t room w) {n : ℕ} (d : w.answer ≡ Ok n) where
  laid : w ≡ laid_of (outcome limits (bytes_of t)) (text_of (tree_in t)) room
  unfolding export_of
  laid = p

  read : (b : Book) × (outcome limits (bytes_of t) ≡ accept b)
  read = laid_accepts (outcome limits (bytes_of t)) (text_of (tree_in t)) room (sym (ap (λ (x : Wrote). x.answer) laid) ∙ d)

  good : Good (bytes_of t) (memory read.0)
  good = record { book = read.0; accepted = read.1; tree = refl; lawful = lawful (bytes_of t) read.0 read.1 }

  -- THE TEXT is the tree's
  pub text_is : take n w.room ≡ text_of (tree_in t)
  text_is =
      let s = text_of (tree_in t) in
      let q : w ≡ laid_of (accept good.book) s room = laid ∙ ap (λ (o : Outcome). laid_of o s room) good.accepted in
      let is : w ≡ wrote (Ok (length s)) (s ++ drop (length s) room) = q ∙ laid_is good.book s room (sym (ap (λ (x : Wrote). x.answer) q) ∙ d) in
      let y : ◌≡◌ {A = Result ℕ Refusal} (Ok n) (Ok (length s)) = sym d ∙ ap (λ (x : Wrote). x.answer) is in
      let k : n ≡ length s = cc in
      ap (λ (x : Wrote). take n x.room) is ∙ ap (λ (m : ℕ). take m (s ++ drop (length s) room)) k ∙ take_at s (drop (length s) room) (length s) refl

  module _ (z : Sized t) where
    lawful_in : LawfulTree limits (tree_in t)
    lawful_in = subst (LawfulTree limits) (sym (accepted_tree t good.book good.accepted z)) (lawful_tree good.book good.lawful)

    pub text_says_again : SaysAgain (tree_in t) (lines_of (take n w.room))
    text_says_again = subst (λ (x : List ℕ). SaysAgain (tree_in t) (lines_of x)) (sym text_is) (export_says_again (tree_in t) lawful_in)

-- ---- its import

-- WHAT IT COMES TO: done; the imported tree is the one that the text says; and that is the tree again, its events renumbered: the same function of
-- the root, minimal cuts, chances and exact chance
pub record BackAgain (t : Tree) (text : List ℕ) (a : Imported) : Type 0 where
  pub typed : text ≡ text_of (tree_in t)
  pub number : a.number ≡ 0
  pub tree : tree_in a.tree ≡ tree_again (lines_of text) (tree_in t)
  pub says : SaysAgain (tree_in t) (lines_of text)

-- a text that says t again
module _ (t : Tree) (text : List ℕ) (s : SaysAgain (tree_in t) (lines_of text)) (l l' : Lists) (a : Imported) where
  import_done : Long (length text) l → Imports text l l' a → a.number ≡ 0
  import_done g (short low h e) = absurd (low g)
  import_done g (refused m ln _ x some ne h w zr zw) = let e = (says_once x s.answer).0 in absurd (omega arith)
  import_done g (back places _ x h sh er w zw) = let e = (says_once x s.answer).0 in absurd (omega arith)
  import_done g (done root _ r z h sh w zr) = h.is

  import_tree : Imports text l l' a → a.number ≡ 0 → tree_in a.tree ≡ tree_again (lines_of text) (tree_in t)
  import_tree i n =
      let m = imports_means text l l' a i n in
      let root : m.root ≡ root_in (lines_of text) (tree_in t) = one_root m.rooted.one s.rooted.one in
      ap tree_in m.is ∙ tree_in_memory (book_of (tree_said (lines_of text) m.root)) m.lawful ∙ m.same ∙ ap (tree_said (lines_of text)) root

-- EXPORTED, THEN IMPORTED: for any tree in memory and any room in which its export is done, and any lists that are long enough for its text
pub export_then_import : (t : Tree) → Sized t → (room : List ℕ) {w : Wrote} → Exports t room w → {n : ℕ} → w.answer ≡ Ok n
    → (l l' : Lists) (a : Imported) → Imports (take n w.room) l l' a → Long (length (take n w.room)) l
    → BackAgain t (take n w.room) a
export_then_import t z room {w} p {n} d l l' a i g =
    let text = take n w.room in
    let s = text_says_again t room p d z in
    let n = import_done t text s l l' a g i in
    record { typed = text_is t room p d; number = n; tree = import_tree t text s l l' a i n; says = s }

-- the trees of a done reading and of a done import have arrays of these lengths
pub read_sized : {bytes : List ℕ} {t : Tree} → Good bytes t → Sized t
read_sized g = subst Sized (sym g.tree) (sized_memory g.book g.lawful)

pub imported_sized : {text : List ℕ} {t : Tree} → Means text t → Sized t
imported_sized m = subst Sized (sym m.is) (sized_memory _ m.lawful)
