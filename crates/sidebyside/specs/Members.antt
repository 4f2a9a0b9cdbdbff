-- A cut as the list of its members, as its bytes tell them.
-- Assumes nothing.
use Rattle.std.specs.Prelude.{◌≡◌, ◌⊎◌, List, [], ◌∷◌, ℕ, suc, ◌≤◌, ◌<◌}
use Rattle.paper.specs.Limits.{limits}
use Rattle.paper.specs.Lists.{In, flat}
use Rattle.paper.specs.Listing.{cut_bytes}

-- each member is m or more, one of n events, and below the next
abbrev pub Rising : ℕ → ℕ → List ℕ → Type 0
Rising n m [] = Unit {0}
Rising n m (e ∷ es) = (m ≤ e) × (e < n) × Rising n (suc e) es

-- the same of as many events as there may be
abbrev pub RisingFrom : ℕ → List ℕ → Type 0
RisingFrom m es = Rising limits.events m es

-- THE ORDER: the first cut stands before the second if the first member in which they differ is lower, or the second ends there
abbrev pub Lt : List ℕ → List ℕ → Type 0
Lt [] fs = ⊥
Lt (e ∷ es) [] = Unit {0}
Lt (e ∷ es) (f ∷ fs) = (e < f) ⊎ ((e ≡ f) × Lt es fs)

-- p stands before each of these cuts
abbrev pub Leads : List ℕ → List (List ℕ) → Type 0
Leads p cs = (d : List ℕ) → In d cs → Lt p d

-- each cut stands before all behind it
abbrev pub Rows : List (List ℕ) → Type 0
Rows [] = Unit {0}
Rows (c ∷ cs) = Leads c cs × Rows cs

abbrev pub AllRising : List (List ℕ) → Type 0
AllRising cs = (c : List ℕ) → In c cs → RisingFrom 0 c

-- the bytes of these cuts
unfoldable pub cuts_bytes : List (List ℕ) → List ℕ
cuts_bytes cs = flat cut_bytes cs

-- the bytes t are those of the cuts cs, all in order
pub record Held (t : List ℕ) (cs : List (List ℕ)) : Type 0 where
  pub bytes : t ≡ cuts_bytes cs
  pub rising : AllRising cs
  pub rows : Rows cs
