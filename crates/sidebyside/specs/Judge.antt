-- The same as a test that computes: the bytes are taken apart, and put together again.
-- Assumes nothing.
use Rattle.std.specs.Prelude.{Bool, true, false, cond, ◌&&◌, ◌||◌, List, [], ◌∷◌, ℕ, suc, ◌+◌, ◌*◌, eqb, leb, ltb}
use Rattle.paper.specs.Limits.{limits}
use Rattle.paper.specs.Lists.{every}
use Rattle.paper.specs.Bytes.{same}
use Rattle.sidebyside.specs.Members.{cuts_bytes}

-- one member more of the first cut
unfoldable pub push : ℕ → List (List ℕ) → List (List ℕ)
push e [] = (e ∷ []) ∷ []
push e (c ∷ cs) = (e ∷ c) ∷ cs

-- where a byte stands: it is a kind, a member's one byte, the low one of two, or the high one behind this low one
pub data Place : Type 0 where
  kind : Place
  one : Place
  low : Place
  high : ℕ → Place

abbrev pub after : Place → ℕ → Place
after kind x = cond (eqb x 0x22) kind (cond (eqb x 0x23) low one)
after one x = kind
after low x = high x
after (high l) x = kind

-- what a byte adds to the cuts of the bytes behind it: an end, a member, or nothing
abbrev pub added : Place → ℕ → List (List ℕ) → List (List ℕ)
added kind x cs = cond (eqb x 0x22) ([] ∷ cs) cs
added one x cs = push x cs
added low x cs = cs
added (high l) x cs = push (l + 256 * x) cs

unfoldable pub cuts_from : Place → List ℕ → List (List ℕ)
cuts_from p [] = []
cuts_from p (x ∷ s) = added p x (cuts_from (after p x) s)

-- the cuts that bytes tell, where they are those of a listing
abbrev pub cuts_of : List ℕ → List (List ℕ)
cuts_of s = cuts_from kind s

unfoldable pub rising_from : ℕ → List ℕ → Bool
rising_from m [] = true
rising_from m (e ∷ es) = leb m e && (ltb e limits.events && rising_from (suc e) es)

unfoldable pub before : List ℕ → List ℕ → Bool
before [] fs = false
before (e ∷ es) [] = true
before (e ∷ es) (f ∷ fs) = ltb e f || (eqb e f && before es fs)

unfoldable pub in_row : List (List ℕ) → Bool
in_row [] = true
in_row (c ∷ cs) = every (before c) cs && in_row cs

-- the judge of a listing
unfoldable pub judge : List ℕ → Bool
judge s = same s (cuts_bytes (cuts_of s)) && (every (rising_from 0) (cuts_of s) && in_row (cuts_of s))
