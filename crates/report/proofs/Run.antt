-- From a reportable cut to the next, as the loop of a listing wants it.
-- Assumes nothing.
use mathlib.Core.Path.{◌≡◌, ap, ◌∙◌}
use mathlib.Core.Bool.{Bool, cond}
use mathlib.Core.List.{List, [], ◌∷◌}
use Prim.Native.Nat.{ℕ, ◌*◌, ◌≤◌}
use lib.ListN.{length, get_or, take}
use Rattle.std.proofs.Common.{Option, Some, None}
use Rattle.std.specs.Prelude.{MatchOption}
use Rattle.paper.specs.Lists.{keep}
use Rattle.paper.specs.Sets.{Set}
use Rattle.sets.specs.Words.{words, set_of, room}
use Rattle.sets.specs.Beside.{Between, Ahead, Line}
use Rattle.walk.specs.declared.Step.{Step}
use Rattle.walk.specs.Paths.{along, around, Carries, Ended}
use Rattle.walk.specs.Follows.{Follows, Starts}
use Rattle.walk.proofs.Paths.{around_one}
use Rattle.listing.proofs.Beside.{ready_start, ready_next}
use Rattle.listing.proofs.Standing.{Standing, stand_none, stand_some}
use Rattle.review.specs.Hopes.{Landed}

-- the first that passes is that of the path
next_landed : {R : Set → Bool} {n : ℕ} {T : List ℕ} {c : ℕ} {P : List ℕ} {d : ℕ} {l : List Set} → Landed R n T c P d l
    → keep R l ≡ along T (take d P) ∷ keep R (around T (take d P) [])
next_landed {R} {T = T} {P = P} {d = d} r =
    r.is ∙ ap (keep R) (around_one T (take d P) []) ∙ ap (λ b. cond b (along T (take d P) ∷ keep R (around T (take d P) [])) (keep R (around T (take d P) []))) r.good

-- at the start
pub landed_start : (R : Set → Bool) (n : ℕ) (T : List ℕ) (c : ℕ) (P ws ahead line : List ℕ) (l : List Set) (o : Option Step)
    → MatchOption o (Ended n T c P ws (keep R l)) (λ s. Landed R n T c P s.depth l × Carries T P s.depth ws × Starts n (set_of ws) s.kept s.low s.high)
    → length ahead ≡ words → get_or ahead 0 0 ≡ 0 → 3 * (words * 64) ≤ length line → Standing (keep R) n T c P ws ahead line o (keep R l)
landed_start R n T c P ws ahead line l None e q z m = stand_none e.none_left
landed_start R n T c P ws ahead line l (Some s) h q z m = stand_some (record { path = h.0.path; carries = h.1; first = next_landed h.0; ready = ready_start h.0.path h.1 h.2 q z m })

-- after a cut that was written
pub landed_next : (R : Set → Bool) (n : ℕ) (T : List ℕ) (c : ℕ) (P ws ahead line : List ℕ) (l : List Set) (o : Option Step) {ws₀ : List ℕ} {low₀ high₀ : ℕ}
    → MatchOption o (Ended n T c P ws (keep R l)) (λ s. Landed R n T c P s.depth l × Carries T P s.depth ws × Follows n (set_of ws₀) (set_of ws) s.kept s.low s.high)
    → Between ws₀ low₀ high₀ → Ahead ws₀ high₀ ahead → Line ws₀ (room ws₀) line → length ws₀ ≡ words → Standing (keep R) n T c P ws ahead line o (keep R l)
landed_next R n T c P ws ahead line l None e b a s m = stand_none e.none_left
landed_next R n T c P ws ahead line l (Some s) h b a q m = stand_some (record { path = h.0.path; carries = h.1; first = next_landed h.0; ready = ready_next h.0.path h.1 b a q h.2 m })
