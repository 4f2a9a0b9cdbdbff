-- THE PLANNER ON A DONE ANALYSIS: what `check` and `plan` answer on the cut table of a done analysis of the tree t is right of the tree's root.
-- Assumes nothing.
use Rattle.std.specs.Prelude.{◌≡◌, ◌≢◌, ◌↔◌, Bool, true, false, List, ℕ, ◌<◌, get_or, Result, Ok}
use Rattle.paper.specs.Sets.{Set, none}
use Rattle.paper.specs.Functions.{Fun}
use Rattle.paper.specs.Trees.{Tree, events, root_fun}
use Rattle.paper.specs.Cuts.{cut_list}
use Rattle.paper.specs.Sizes.{largest}
use Rattle.paper.specs.Answers.{Beyond}
use Rattle.paper.specs.declared.refusal.Refusal.{Refusal}
use Rattle.paper.specs.Planner.{Safe, Accepted, holding, plan_of}
use Rattle.sets.specs.Words.{set_of}
use Rattle.remaining.specs.FirstCut.{Room, Finds, Missing}
use Rattle.remaining.specs.Tallies.{Holding}
use Rattle.planner.specs.Saying.{says}
use Rattle.planner.specs.Checking.{Checks}
use Rattle.planner.specs.Judged.{Tells}
use Rattle.planner.specs.Proposing.{Areas, Proposes}
use Rattle.planner.specs.declared.Judgement.{Judgement}
use Rattle.planner.specs.declared.Judgement.TheVariants.{Accepts}
use Rattle.memory.specs.Memory.{Memory}
use Rattle.memory.specs.Analysis.{Analysis}

-- the root's function, and its minimal cuts in the order of the listing
abbrev pub root_of : Tree → Fun
root_of t = root_fun t.gates

abbrev pub cuts_of : Tree → List Set
cuts_of t = cut_list (events t) (root_of t)

-- some event is in more minimal cuts than can be answered
pub record Uncounted (t : Tree) : Type 0 where
  pub event : ℕ
  pub inside : event < events t
  pub above : largest < holding (events t) none (cuts_of t) event

-- the checker takes the table; what it says is so of the root, and nothing else that it could say is; it accepts a set exactly if the root can't fail while
-- its members are sound, whatever else fails, and dropping any one of them loses that; it accepts no set if the root always fails, and the empty set
-- exactly if the root can't fail. The planner takes the table; where it answers 0 its set is the plan, which keeps the root from
-- failing exactly if the root does not always fail; it answers 19 exactly if some count is above 2^64 - 1. Of the two calls under it the one finds the
-- first minimal cut that misses the set, and the other counts the minimal cuts that miss it.
pub record Maintained (t : Tree) (m : Memory) (a : Analysis) : Type 0 where
  pub takes : (ws cut W W' : List ℕ) (j : Result Judgement Refusal) → Checks (events t) m.cuts a.cut_nodes a.cut_root ws j cut W W' → (says j).number ≢ 12
  pub right : (ws cut W W' : List ℕ) (j : Result Judgement Refusal) → Checks (events t) m.cuts a.cut_nodes a.cut_root ws j cut W W'
      → Tells (root_of t) (events t) (set_of ws) (cuts_of t) j (set_of cut)
  pub accepts : (ws cut W W' : List ℕ) (j : Result Judgement Refusal) → Checks (events t) m.cuts a.cut_nodes a.cut_root ws j cut W W'
      → Room m.cuts W → (Beyond (events t) (set_of ws) → ⊥) → (j ≡ (Ok Accepts)) ↔ Accepted (root_of t) (set_of ws)
  pub one_right : (K S T : Set) (j k : Result Judgement Refusal) → (says j).number ≡ 0 → (says k).number ≡ 0 → Tells (root_of t) (events t) K (cuts_of t) j S → Tells (root_of t) (events t) K (cuts_of t) k T → j ≡ k
  pub always_fails : (ws cut W W' : List ℕ) (j : Result Judgement Refusal) → Checks (events t) m.cuts a.cut_nodes a.cut_root ws j cut W W' → root_of t none ≡ true → j ≢ (Ok Accepts)
  pub empty_set : (ws cut W W' : List ℕ) (j : Result Judgement Refusal) → Checks (events t) m.cuts a.cut_nodes a.cut_root ws j cut W W'
      → Room m.cuts W → set_of ws ≡ none → (j ≡ (Ok Accepts)) ↔ ((S : Set) → root_of t S ≡ false)
  pub plan_takes : {number place : ℕ} {set B W B' W' : List ℕ} → Proposes (events t) m.cuts a.cut_nodes a.cut_root number place set B W B' W' → number ≢ 12
  pub plans : {number place : ℕ} {set B W B' W' : List ℕ} → Proposes (events t) m.cuts a.cut_nodes a.cut_root number place set B W B' W' → number ≡ 0
      → set_of set ≡ plan_of (events t) (cuts_of t)
  pub keeps : {number place : ℕ} {set B W B' W' : List ℕ} → Proposes (events t) m.cuts a.cut_nodes a.cut_root number place set B W B' W' → number ≡ 0
      → Safe (root_of t) (set_of set) ↔ (root_of t none ≡ false)
  pub nineteen : {number place : ℕ} {set B W B' W' : List ℕ} → Proposes (events t) m.cuts a.cut_nodes a.cut_root number place set B W B' W' → Areas m.cuts B W
      → (number ≡ 19) ↔ Uncounted t
  pub finds : {ws : List ℕ} {number place : ℕ} {found : Bool} {cut W W' : List ℕ} → Missing (events t) m.cuts a.cut_nodes a.cut_root ws number place found cut W W' → number ≡ 0
      → Finds (events t) (set_of ws) (cuts_of t) found cut
  pub counts : {ws : List ℕ} {number place : ℕ} {C B W C' B' W' : List ℕ} → Holding (events t) m.cuts a.cut_nodes a.cut_root ws number place C B W C' B' W' → number ≡ 0
      → (e : ℕ) → e < events t → get_or C' e 0 ≡ holding (events t) (set_of ws) (cuts_of t) e
