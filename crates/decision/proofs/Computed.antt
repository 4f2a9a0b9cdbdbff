-- THE ANSWER that computes is the one that the contract promises.
-- Assumes nothing.
use mathlib.Core.Path.{◌≡◌, refl, sym, ◌∙◌, subst}
use mathlib.Core.Logic.{◌⊎◌, inl, inr}
use mathlib.Core.Bool.{Bool, true, false, cond, ◌||◌, true≢false, false≢true}
use mathlib.Core.List.{List}
use Prim.Native.Nat.{ℕ, zero, suc, ◌+◌, ◌-◌, ◌≤◌, ◌<◌}
use native.Mathlib.Decide.{dec_lt, ℕ_discrete}
use native.Mathlib.Omega.{arith}
use Rattle.paper.specs.Sets.{Set, some_event}
use Rattle.paper.specs.Answers.{Beyond}
use Rattle.sets.specs.Words.{set_of, room}
use Rattle.sets.proofs.Words.{beyond_room}
use Rattle.sidebyside.specs.Judge.{cuts_of, judge}
use Rattle.sidebyside.proofs.Judge.{either, or_left, or_right, judge_held, judge_so, judge_is}
use Rattle.decision.specs.Answers.{Decided, Decides}
use Rattle.decision.specs.Searching.{any_in}
use Rattle.decision.specs.Deciding.{answer, decision_of}
use Rattle.decision.proofs.Contains.{refused_now, decided_now}
use Rattle.decision.proofs.Once.{decides_once}

-- ---- an event beyond, as a test

some_beyond : (S : Set) (k m : ℕ) → some_event k m S ≡ true → Beyond m S
some_beyond S zero m h = absurd (false≢true h)
some_beyond S (suc k) m h = go (either (S m) (some_event k (suc m) S) h) (some_beyond S k (suc m))
  where
    go : (S m ≡ true) ⊎ (some_event k (suc m) S ≡ true) → (some_event k (suc m) S ≡ true → Beyond (suc m) S) → Beyond m S
    go (inl p) r = record { event = m; above = omega arith; is = p }
    go (inr p) r = let b = r p in let a = b.above in record { event = b.event; above = omega arith; is = b.is }

beyond_some : (S : Set) (k m i : ℕ) → m ≤ i → i < m + k → S i ≡ true → some_event k m S ≡ true
beyond_some S zero m i l h e = absurd (omega arith)
beyond_some S (suc k) m i l h e = go (ℕ_discrete i m) (λ p. beyond_some S k (suc m) i (omega arith) (omega arith) e)
  where
    go : Dec (i ≡ m) → ((i ≡ m → ⊥) → some_event k (suc m) S ≡ true) → (S m || some_event k (suc m) S) ≡ true
    go (yes p) r = or_left (S m) (some_event k (suc m) S) (subst (λ (x : ℕ). S x ≡ true) p e)
    go (no p) r = or_right (S m) (some_event k (suc m) S) (r p)

none_beyond : (ws : List ℕ) (n : ℕ) → some_event (room ws - n) n (set_of ws) ≡ false → Beyond n (set_of ws) → ⊥
none_beyond ws n h b = go (dec_lt b.event (room ws))
  where
    go : Dec (b.event < room ws) → ⊥
    go (yes l) = let a = b.above in true≢false (sym (beyond_some (set_of ws) (room ws - n) n b.event a (omega (arith, a, l)) b.is) ∙ h)
    go (no l) = true≢false (sym b.is ∙ beyond_room ws b.event (omega (arith, l)))

-- ---- THE ANSWER

pub decides_computed : (bytes : List ℕ) (n : ℕ) (ws : List ℕ) → let d = decision_of bytes n ws in Decides bytes n ws d.number d.place d.fails
unfolding decision_of
decides_computed bytes n ws = go (judge bytes) refl (some_event (room ws - n) n (set_of ws)) refl
  where
    Meets : Decided → Type 0
    Meets d = Decides bytes n ws d.number d.place d.fails

    go : (a : Bool) → judge bytes ≡ a → (b : Bool) → some_event (room ws - n) n (set_of ws) ≡ b
        → Meets (cond a (cond b (answer 13 false) (answer 0 (any_in (cuts_of bytes) (set_of ws)))) (answer 20 false))
    go false p b q = Decides.bad_listing (λ g. true≢false (sym (judge_is bytes g) ∙ p)) (refused_now 20)
    go true p true q = Decides.beyond (judge_so bytes p) (some_beyond (set_of ws) (room ws - n) n q) (refused_now 13)
    go true p false q = decided_now (record { cuts = cuts_of bytes; held = judge_held bytes p; is = refl }) (none_beyond ws n q)

-- so every answer is this one
pub as_computed : {bytes : List ℕ} {n : ℕ} {ws : List ℕ} (d : Decided) → Decides bytes n ws d.number d.place d.fails → d ≡ decision_of bytes n ws
as_computed {bytes} {n} {ws} d x = decides_once d (decision_of bytes n ws) x (decides_computed bytes n ws)
