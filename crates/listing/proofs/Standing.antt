-- Where the loop over the cuts stands: at the path of a cut, ready to write it, or where none is left.
-- Assumes nothing.
use mathlib.Core.Path.{◌≡◌, sym, subst}
use mathlib.Core.List.{List, [], ◌∷◌}
use Prim.Native.Nat.{ℕ, ◌*◌, ◌≤◌}
use lib.ListN.{length, get_or, take}
use Rattle.std.proofs.Common.{Option, Some, None}
use Rattle.std.specs.Prelude.{MatchOption}
use Rattle.paper.specs.Sets.{Set}
use Rattle.sets.specs.Words.{words, set_of, room}
use Rattle.sets.specs.Beside.{Between, Ahead, Line}
use Rattle.walk.specs.declared.Step.{Step}
use Rattle.walk.specs.Paths.{along, around, Open, Carries, Reached, Ended}
use Rattle.walk.specs.Follows.{Follows, Starts}
use Rattle.listing.proofs.Beside.{Ready, ready_start, ready_next}
use Rattle.listing.proofs.Calls.{next_of}

-- the first of the sets left is that of the path; F tells which of those behind it are listed too
pub record Found (F : List Set → List Set) (n : ℕ) (T : List ℕ) (c : ℕ) (P ws ahead line : List ℕ) (s : Step) (left : List Set) : Type 0 where
  pub path : Open n T c P s.depth 1
  pub carries : Carries T P s.depth ws
  pub first : left ≡ along T (take s.depth P) ∷ F (around T (take s.depth P) [])
  pub ready : Ready ws s.kept s.low s.high ahead line

-- by what the last step answered
pub record Standing (F : List Set → List Set) (n : ℕ) (T : List ℕ) (c : ℕ) (P ws ahead line : List ℕ) (o : Option Step) (left : List Set) : Type 0 where
  pub none : o ≡ None → left ≡ []
  pub some : (s : Step) → o ≡ Some s → Found F n T c P ws ahead line s left

none_some : {s : Step} → ◌≡◌ {A = Option Step} None (Some s) → ⊥
none_some e = cc

some_same : {s t : Step} → ◌≡◌ {A = Option Step} (Some s) (Some t) → s ≡ t
some_same e = cc

module _ {F : List Set → List Set} {n : ℕ} {T : List ℕ} {c : ℕ} {P ws ahead line : List ℕ} {left : List Set} where
  pub stand_none : left ≡ [] → Standing F n T c P ws ahead line None left
  stand_none e = record { none = λ _. e; some = λ s q. absurd (none_some q) }

  pub stand_some : {s : Step} → Found F n T c P ws ahead line s left → Standing F n T c P ws ahead line (Some s) left
  stand_some f = record { none = λ q. absurd (none_some (sym q)); some = λ t q. subst (λ (x : Step). Found F n T c P ws ahead line x left) (some_same q) f }

-- all of them, at the start
pub standing_start : (n : ℕ) (T : List ℕ) (c : ℕ) (P ws ahead line : List ℕ) (l : List Set) (o : Option Step)
    → MatchOption o (Ended n T c P ws l) (λ s. Reached n T c P s.depth l × Carries T P s.depth ws × Starts n (set_of ws) s.kept s.low s.high)
    → length ahead ≡ words → get_or ahead 0 0 ≡ 0 → 3 * (words * 64) ≤ length line → Standing (λ x. x) n T c P ws ahead line o l
standing_start n T c P ws ahead line l None e q z m = stand_none e.none_left
standing_start n T c P ws ahead line l (Some s) h q z m = stand_some (record { path = h.0.path; carries = h.1; first = next_of h.0; ready = ready_start h.0.path h.1 h.2 q z m })

-- after a cut that was written
pub standing_next : (n : ℕ) (T : List ℕ) (c : ℕ) (P ws ahead line : List ℕ) (l : List Set) (o : Option Step) {ws₀ : List ℕ} {low₀ high₀ : ℕ}
    → MatchOption o (Ended n T c P ws l) (λ s. Reached n T c P s.depth l × Carries T P s.depth ws × Follows n (set_of ws₀) (set_of ws) s.kept s.low s.high)
    → Between ws₀ low₀ high₀ → Ahead ws₀ high₀ ahead → Line ws₀ (room ws₀) line → length ws₀ ≡ words → Standing (λ x. x) n T c P ws ahead line o l
standing_next n T c P ws ahead line l None e b a s m = stand_none e.none_left
standing_next n T c P ws ahead line l (Some s) h b a q m = stand_some (record { path = h.0.path; carries = h.1; first = next_of h.0; ready = ready_next h.0.path h.1 b a q h.2 m })
