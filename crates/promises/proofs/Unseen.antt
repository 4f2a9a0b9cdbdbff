-- THE NUMBERING IS NOT SEEN: `list`, `bracket` and `sizes` answer the same on the tables of any two done analyses of one tree.
-- Assumes nothing.
use mathlib.Core.Path.{◌≡◌, sym, ap, ◌∙◌, subst}
use mathlib.Core.Bool.{Bool}
use mathlib.Core.List.{List}
use Prim.Native.Nat.{ℕ, ◌/◌, ◌≤◌}
use lib.ListN.{length}
use Rattle.paper.specs.Limits.{billion}
use Rattle.paper.specs.Trees.{Tree, events}
use Rattle.paper.specs.Listing.{fitting}
use Rattle.paper.specs.Chance.{low, high}
use Rattle.paper.specs.Sizes.{sizes_area}
use Rattle.tables.specs.Table.{den}
use Rattle.records.specs.Trees.{tree_of}
use Rattle.walk.specs.After.{to_list}
use Rattle.listing.specs.Answers.{start_of, Short, Written, Answered}
use Rattle.listing.proofs.Once.{Outcome, Allowed, answer_once}
use Rattle.bracket.specs.Bracketed.{chance_in, Enough, Bracketed}
use Rattle.bracket.proofs.Outcome.{Same, one_outcome}
use Rattle.sizes.specs.Counted.{Enough as Areas, Fits, TooMany, Done as Counts, Counted}
use Rattle.sizes.proofs.Outcome.{Same as SameCounts, one_outcome as one-count}
use Rattle.memory.specs.Memory.{Memory}
use Rattle.memory.specs.Outcome.{Done}
use Rattle.analyser.specs.Analysed.{Analysed}
use Rattle.promises.specs.Reasons.{Accepted}
use Rattle.memory.specs.Analysis.{Analysis}
use Rattle.promises.proofs.Coincide.{same_book, coincide, same_number, done_renumbered}
use Rattle.promises.proofs.Which.{finished_tree}

module _ {t : Tree} {m m₁ m₂ : Memory} {a₁ a₂ : Analysis} (d : Done t m m₁ a₁) (e : Done t m m₂ a₂) where
  root_same : den m₂.nodes a₂.root ≡ den m₁.nodes a₁.root
  root_same = let r = done_renumbered d e in ap (den m₂.nodes) r.root ∙ r.node_table.denotes a₁.root d.node_table.lent.root_in

  cut_root_same : den m₂.cuts a₂.cut_root ≡ den m₁.cuts a₁.cut_root
  cut_root_same = let r = done_renumbered d e in ap (den m₂.cuts) r.cut_root ∙ r.cut_table.denotes a₁.cut_root d.cut_table.lent.root_in

  module _ {begin : Bool} {ws room : List ℕ} where
    -- what `list` may answer on the second table it may answer on the first
    pub moved : {room' : List ℕ} {number place count used : ℕ} {last : List ℕ} {finished : Bool}
        → Answered (events t) m₂.cuts a₂.cut_nodes a₂.cut_root begin ws room room' number place count used last finished
        → Answered (events t) m₁.cuts a₁.cut_nodes a₁.cut_root begin ws room room' number place count used last finished
    moved (Answered.no_diagram h r) = absurd (h e.cut_table.lent)
    moved (Answered.beyond v q b r) = Answered.beyond d.cut_table.lent q b r
    moved (Answered.short v w s r) = Answered.short d.cut_table.lent w (subst (λ z. Short (events t) (length room) (to_list (events t) z begin ws)) cut_root_same s) r
    moved {room'} {number} {place} {count} {used} {last} {finished} (Answered.done v w s r) =
        Answered.done d.cut_table.lent w (λ h. s (subst (λ z. Short (events t) (length room) (to_list (events t) z begin ws)) (sym cut_root_same) h))
        (subst (λ z. Written (events t) z (start_of begin ws) (fitting (events t) (length room) (to_list (events t) z begin ws)) room room' number place count used last finished) cut_root_same r)

    -- one listing call, one outcome
    pub list_same : {x y : Outcome} → Allowed (events t) m₁.cuts a₁.cut_nodes a₁.cut_root begin ws room x
        → Allowed (events t) m₂.cuts a₂.cut_nodes a₂.cut_root begin ws room y → x ≡ y
    list_same p q = answer_once p (record { array = q.array; answer = moved q.answer })

  module _ {A L H : List ℕ} where
    enough : Enough (events t) m₁.nodes A L H → Enough (events t) m₂.nodes A L H
    enough x = let l = d.nodes_long ∙ sym e.nodes_long in
        record { chances = x.chances; lows = subst (λ k. k / 3 ≤ length L) l x.lows; highs = subst (λ k. k / 3 ≤ length H) l x.highs }

    enough_back : Enough (events t) m₂.nodes A L H → Enough (events t) m₁.nodes A L H
    enough_back x = let l = e.nodes_long ∙ sym d.nodes_long in
        record { chances = x.chances; lows = subst (λ k. k / 3 ≤ length L) l x.lows; highs = subst (λ k. k / 3 ≤ length H) l x.highs }

    -- likewise `bracket`
    pub carried : {number place lo hi : ℕ} {L' H' : List ℕ} → Bracketed (events t) m₂.nodes a₂.nodes a₂.root A number place lo hi L H L' H'
        → Bracketed (events t) m₁.nodes a₁.nodes a₁.root A number place lo hi L H L' H'
    carried (Bracketed.no_diagram h r) = absurd (h e.node_table.lent)
    carried (Bracketed.too_short v h r) = Bracketed.too_short d.node_table.lent (λ x. h (enough x)) r
    carried (Bracketed.no_chance v x h r) = Bracketed.no_chance d.node_table.lent (enough_back x) h r
    carried (Bracketed.done v x p r) = Bracketed.done d.node_table.lent (enough_back x) p (record {
      number_is = r.number_is;
      no_place = r.no_place;
      low_is = r.low_is ∙ ap (λ z. low billion (chance_in A) z) root_same;
      high_is = r.high_is ∙ ap (λ z. high billion (chance_in A) z) root_same;
      lows = r.lows;
      highs = r.highs;
    })

    -- one bracket, one outcome
    pub bracket_same : {number place lo hi number' place' lo' hi' : ℕ} {L₁ H₁ L₂ H₂ : List ℕ} → Bracketed (events t) m₁.nodes a₁.nodes a₁.root A number place lo hi L H L₁ H₁
        → Bracketed (events t) m₂.nodes a₂.nodes a₂.root A number' place' lo' hi' L H L₂ H₂ → Same number place lo hi number' place' lo' hi' L₁ H₁ L₂ H₂
    bracket_same p q = one_outcome p (carried q)

  module _ {C B W R : List ℕ} where
    areas : Areas m₁.cuts C B W R → Areas m₂.cuts C B W R
    areas x = let l = d.cuts_long ∙ sym e.cuts_long in
        record {
          counts = x.counts;
          less = subst (λ k. sizes_area (k / 3) ≤ length B) l x.less;
          work = subst (λ k. sizes_area (k / 3) ≤ length W) l x.work;
          reached = subst (λ k. sizes_area (k / 3) ≤ length R) l x.reached;
        }

    areas_back : Areas m₂.cuts C B W R → Areas m₁.cuts C B W R
    areas_back x = let l = e.cuts_long ∙ sym d.cuts_long in
        record {
          counts = x.counts;
          less = subst (λ k. sizes_area (k / 3) ≤ length B) l x.less;
          work = subst (λ k. sizes_area (k / 3) ≤ length W) l x.work;
          reached = subst (λ k. sizes_area (k / 3) ≤ length R) l x.reached;
        }

    -- and `sizes`
    pub counted : {number place : ℕ} {C' B' W' R' : List ℕ} → Counted (events t) m₂.cuts a₂.cut_nodes a₂.cut_root number place C B W R C' B' W' R'
        → Counted (events t) m₁.cuts a₁.cut_nodes a₁.cut_root number place C B W R C' B' W' R'
    counted (Counted.no_diagram h r) = absurd (h e.cut_table.lent)
    counted (Counted.too_short v h r) = Counted.too_short d.cut_table.lent (λ x. h (areas x)) r
    counted (Counted.too_many v x y r z) = Counted.too_many d.cut_table.lent (areas_back x) (subst (λ k. TooMany (events t) k) cut_root_same y) r z
    counted {number} {place} {C'} (Counted.done v x f r z) =
        Counted.done d.cut_table.lent (areas_back x) (subst (λ k. Fits (events t) k) cut_root_same f) (subst (λ k. Counts (events t) k number place C C') cut_root_same r) z

    -- one count by size, one outcome
    pub sizes_same : {number place number' place' : ℕ} {C₁ B₁ W₁ R₁ C₂ B₂ W₂ R₂ : List ℕ}
        → Counted (events t) m₁.cuts a₁.cut_nodes a₁.cut_root number place C B W R C₁ B₁ W₁ R₁
        → Counted (events t) m₂.cuts a₂.cut_nodes a₂.cut_root number' place' C B W R C₂ B₂ W₂ R₂
        → SameCounts number place number' place' C₁ B₁ W₁ R₁ C₂ B₂ W₂ R₂
    sizes_same p q = one-count p (counted q)

-- two outcomes of one analysis, the first with number 0: both are done, of one tree
pub both_done : {bytes : List ℕ} {m m₁ m₂ : Memory} {a₁ a₂ : Analysis} → Analysed bytes m m₁ a₁ → Analysed bytes m m₂ a₂ → a₁.number ≡ 0
    → (t : Accepted bytes) × Done (tree_of t.book) m m₁ a₁ × Done (tree_of t.book) m m₂ a₂
both_done {bytes} {m} {m₁} {m₂} {a₁} {a₂} x y q =
    let (t, d) = finished_tree x q in
    let (u, e) = finished_tree y (same_number (coincide x y) ∙ q) in
    (t, d, subst (λ b. Done (tree_of b) m m₂ a₂) (same_book bytes t.is u.is) e)
