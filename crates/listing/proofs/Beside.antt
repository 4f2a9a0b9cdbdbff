-- What stands beside the room is still right for the next cut: below the lowest event that changed.
-- Assumes nothing.
use mathlib.Core.Path.{◌≡◌, sym, ap, ◌∙◌, subst}
use mathlib.Core.Bool.{false≢true}
use mathlib.Core.List.{List}
use Prim.Native.Nat.{ℕ, ◌*◌, ◌≤◌, ◌<◌}
use native.Mathlib.Decide.{dec_lt}
use native.Mathlib.Omega.{arith}
use lib.ListN.{length, get_or}
use Rattle.paper.specs.Sets.{members}
use Rattle.sets.specs.Words.{words, set_of, room}
use Rattle.sets.specs.Beside.{Between, Ahead, Line}
use Rattle.sets.proofs.Beside.{ahead_fewer, ahead_same, ahead_none}
use Rattle.sets.proofs.Line.{line_fewer, line_same, line_none}
use Rattle.walk.specs.Paths.{Open, Carries}
use Rattle.walk.specs.Follows.{Follows, Starts}
use Rattle.walk.proofs.Paths.{wide_enough}

-- ready to write the set of the cut that was found
pub record Ready (ws : List ℕ) (kept low high : ℕ) (ahead line : List ℕ) : Type 0 where
  pub between : Between ws low high
  pub many : kept ≡ length (members low (set_of ws))
  pub counted : Ahead ws low ahead
  pub spelled : Line ws low line

-- the words of a path to a cut
module _ {n : ℕ} {T : List ℕ} {c : ℕ} {P : List ℕ} {d at : ℕ} (o : Open n T c P d at) {ws : List ℕ} (k : Carries T P d ws) where
  -- the first
  pub ready_start : {kept low high : ℕ} {ahead line : List ℕ} → Starts n (set_of ws) kept low high → length ahead ≡ words → get_or ahead 0 0 ≡ 0 → 3 * (words * 64) ≤ length line → Ready ws kept low high ahead line
  ready_start {low = low} {ahead = ahead} {line} s l z m =
      let wide = wide_enough o ws k.long in
      let i = s.inside in
      let a = s.no_event in
      let q = k.long in
      record {
        between = record { rise = omega arith; inside = omega arith; within = s.within };
        many = s.no_member ∙ sym (ap (λ (b : ℕ). length (members b (set_of ws))) a);
        counted = subst (λ (b : ℕ). Ahead ws b ahead) (sym a) (ahead_none (l ∙ sym q) z);
        spelled = subst (λ (b : ℕ). Line ws b line) (sym a) (line_none (omega arith));
      }

  -- the next, after the words of a cut that was written
  module _ {ws₀ : List ℕ} {low₀ high₀ : ℕ} {ahead line : List ℕ} (b : Between ws₀ low₀ high₀) (a : Ahead ws₀ high₀ ahead) (s : Line ws₀ (room ws₀) line) {kept low high : ℕ} (f : Follows n (set_of ws₀) (set_of ws) kept low high) where
    -- the lowest event that changed was a member
    in_reach : low ≤ high₀
    in_reach = go (dec_lt high₀ low)
      where
        go : Dec (high₀ < low) → low ≤ high₀
        go (yes h) = absurd (false≢true (sym (b.within low h) ∙ f.held))
        go (no h) = omega arith

    pub ready_next : length ws₀ ≡ words → Ready ws kept low high ahead line
    ready_next l =
        let wide = wide_enough o ws k.long in
        let i = f.inside in
        let same = k.long ∙ sym l in
        record {
          between = record { rise = f.rise; inside = omega arith; within = f.within };
          many = f.many;
          counted = ahead_same (ahead_fewer a in_reach) same f.same;
          spelled = let r = in_reach in let e = b.inside in line_same (line_fewer s (omega arith)) same f.same;
        }
