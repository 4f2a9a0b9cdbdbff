-- THE FIRST DIFFERENCE of the listings of two done analyses is the first set that is a minimal cut of exactly one root.
-- Assumes nothing.
use mathlib.Core.Path.{◌≡◌, sym, ◌∙◌, subst}
use mathlib.Core.Logic.{◌⊎◌, inl, inr, ◌↔◌}
use mathlib.Core.Bool.{Bool, true}
use mathlib.Core.List.{List}
use Prim.Native.Nat.{ℕ}
use native.Mathlib.Omega.{arith}
use Rattle.paper.specs.Lists.{In}
use Rattle.paper.specs.Sets.{Set}
use Rattle.paper.specs.Functions.{Fun}
use Rattle.paper.specs.Trees.{Tree}
use Rattle.paper.specs.Cuts.{MinimalCut, sets_of}
use Rattle.paper.specs.GoodListing.{Tells}
use Rattle.paper.specs.Changes.{Only, FirstSet}
use Rattle.algebra.proofs.Without.{sets_beyond}
use Rattle.tables.specs.Table.{den}
use Rattle.tables.specs.Lent.{Lent}
use Rattle.tables.proofs.Lent.{root_ordered}
use Rattle.records.specs.Trees.{tree_of}
use Rattle.trees.proofs.Lawful.{lawful}
use Rattle.listing.specs.Answers.{Answered}
use Rattle.listing.specs.Joined.{Joined}
use Rattle.listing.proofs.Join.{join_all}
use Rattle.std.specs.Prelude.{Option, None, Some, Result, Ok, Err}
use Rattle.sidebyside.specs.declared.Side.{Side}
use Rattle.sidebyside.specs.declared.Side.TheVariants.{Yesterday, Today}
use Rattle.sidebyside.proofs.Telling.{listing_tells, tells_once}
use Rattle.changes.specs.Answers.{Sides, Parted}
use Rattle.changes.proofs.Stretches.{shows_bytes}
use Rattle.changes.proofs.Once.{align, fault_bad, part_of_lem}
use Rattle.memory.specs.Memory.{Memory}
use Rattle.memory.specs.Outcome.{Done}
use Rattle.memory.specs.Analysis.{Analysis}
use Rattle.analysis.specs.Completing.{Sound}
use Rattle.analysis.proofs.Reading.{read_sound}
use Rattle.analyser.specs.Analysed.{Analysed}
use Rattle.promises.specs.Reasons.{Accepted}
use Rattle.promises.specs.Changed.{CutOf, FirstChange, Changed, ShowsChange}
use Rattle.promises.proofs.OnTables.{cuts_exactly, cuts_sorted}
use Rattle.promises.proofs.Which.{finished_tree}

-- lists that are the minimal cuts of two functions
first_change : (F G : Fun) (k l : List Set) → ((S : Set) → In S k ↔ MinimalCut F S) → ((S : Set) → In S l ↔ MinimalCut G S) → (S : Set) → FirstSet S k l → FirstChange F G S
first_change F G k l f g S w = record { only = ((f S).0 w.only.0, λ c. w.only.1 ((g S).1 c)); first = λ T o. w.first T (back T o) }
  where
    back : (T : Set) → CutOf F G T ⊎ CutOf G F T → Only T k l ⊎ Only T l k
    back T (inl o) = inl ((f T).1 o.0, λ i. o.1 ((g T).0 i))
    back T (inr o) = inr ((g T).1 o.0, λ i. o.1 ((f T).0 i))

-- what `list` answered 0 for is a diagram
module _ {n : ℕ} {T : List ℕ} {c root : ℕ} {begin : Bool} {ws : List ℕ} where
  answered_lent : {room room' : List ℕ} {place count used : ℕ} {last : List ℕ} {finished : Bool} → Answered n T c root begin ws room room' 0 place count used last finished → Lent true n T c root
  answered_lent (Answered.no_diagram h x) = absurd (let e = x.is in omega arith)
  answered_lent (Answered.beyond v e p x) = v
  answered_lent (Answered.short v ok s x) = v
  answered_lent (Answered.done v ok s x) = v

  pub joined_lent : {bytes : List ℕ} → Joined n T c root begin ws bytes → Lent true n T c root
  joined_lent (Joined.ends x) = answered_lent x
  joined_lent (Joined.goes x j) = answered_lent x

-- what the product lists is a good listing of the minimal cuts
module _ {t : Tree} {m m' : Memory} {a : Analysis} (d : Done t m m' a) (s : Sound t) where
  abbrev cuts : List Set
  cuts = sets_of (den m'.cuts a.cut_root)

  pub listing_good : {n : ℕ} {ws bytes : List ℕ} → Joined n m'.cuts a.cut_nodes a.cut_root true ws bytes → Tells bytes cuts
  listing_good {n} j =
      let v = joined_lent j in
      subst (λ (x : List ℕ). Tells x cuts) (sym (join_all j))
      (listing_tells n cuts v.few_events (cuts_sorted d s) (λ S h. sets_beyond 0 n (den m'.cuts a.cut_root) S (root_ordered v) h))

module _ (F G : Fun) (k l : List Set) (f : (S : Set) → In S k ↔ MinimalCut F S) (g : (S : Set) → In S l ↔ MinimalCut G S) {y z : List ℕ} (p : Tells y k) (q : Tells z l) (part : List ℕ) where
  same : y ≡ z → (S : Set) → MinimalCut F S ↔ MinimalCut G S
  same e S =
      let h = tells_once p (subst (λ (x : List ℕ). Tells x l) (sym e) q) in
      ((λ c. (g S).0 (subst (λ (x : List Set). In S x) h ((f S).1 c))), λ c. (f S).0 (subst (λ (x : List Set). In S x) (sym h) ((g S).1 c)))

  changed : (w : Result (Option Side) Side) → Parted y z part w → Sides y z w → Changed F G part w
  changed (Ok None) u s = (u, same s.1)
  changed (Ok (Some Yesterday)) u s = (u.shows.set, first_change F G k l f g u.shows.set (align u.shows k l p q), u.is ∙ shows_bytes u.shows)
  changed (Ok (Some Today)) u s = (u.shows.set, first_change G F l k g f u.shows.set (align u.shows l k q p), u.is ∙ shows_bytes u.shows)
  changed (Err v) u s = fault_bad y z v s (record { sets = k; tells = p }) (record { sets = l; tells = q })

-- OVER THE CONTRACTS ALONE: of `analyse`, `list`, `first_difference` and `side`
pub first_changed : {b b' : List ℕ} {m₀ m m₀' m' : Memory} {a a' : Analysis} → Analysed b m₀ m a → a.number ≡ 0 → Analysed b' m₀' m' a' → a'.number ≡ 0
    → (t : Accepted b) × (t' : Accepted b') × ShowsChange (tree_of t.book) (tree_of t'.book) m m' a a'
first_changed {b} {b'} x p y q =
    let (t, d) = finished_tree x p in
    let (t', d') = finished_tree y q in
    let s = read_sound t.book (lawful b t.book t.is) in
    let s' = read_sound t'.book (lawful b' t'.book t'.is) in (
      t,
      t',
      record {
        shows = λ {yesterday} {today} j j' part w c o. changed _ _ _ _ (cuts_exactly d s) (cuts_exactly d' s') (listing_good d s j) (listing_good d' s' j') part w (part_of_lem yesterday today part w c o) o;
      },
    )
