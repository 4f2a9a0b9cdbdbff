-- What is read of one cut, and of two beside each other.
-- Assumes nothing.
use Rattle.std.specs.Prelude.{◌≡◌, List, [], ◌∷◌, ◌++◌, ℕ, ◌+◌, ◌≤◌, ◌<◌, length, drop}
use Rattle.paper.specs.Limits.{limits}
use Rattle.paper.specs.Listing.{member_bytes, cut_bytes}
use Rattle.sidebyside.specs.Members.{RisingFrom, Lt}
use Rattle.std.specs.declared.cmp.Ordering.{Ordering}
use Rattle.std.specs.declared.cmp.Ordering.TheVariants.{Less, Equal, Greater}

-- a cut that is as Q says stands at i, and r is its end
pub record CutAt (Q : List ℕ → Type 0) (s : List ℕ) (i r : ℕ) : Type 0 where
  pub cut : List ℕ
  pub is : Q cut
  pub bytes : drop i s ≡ cut_bytes cut ++ drop r s
  pub on : i < r
  pub inside : r ≤ length s

-- no such cut stands at the front of t
abbrev pub NoCut : (List ℕ → Type 0) → List ℕ → Type 0
NoCut Q t = (es rest : List ℕ) → Q es → t ≡ cut_bytes es ++ rest → ⊥

-- r is the end of the cut at i that is as Q says, or 0 where none such stands there
pub record Ends (Q : List ℕ → Type 0) (s : List ℕ) (i r : ℕ) : Type 0 where
  pub bad : r ≡ 0 → NoCut Q (drop i s)
  pub ends : 0 < r → CutAt Q s i r

abbrev pub RisesAt : List ℕ → ℕ → ℕ → Type 0
RisesAt s i r = CutAt (RisingFrom 0) s i r

-- a cut stands at i
pub record Whole (s : List ℕ) (i : ℕ) : Type 0 where
  pub cut : List ℕ
  pub rest : List ℕ
  pub low : ℕ
  pub is : RisingFrom low cut
  pub bytes : drop i s ≡ cut_bytes cut ++ rest

-- the record of member e stands at i, whole
pub record MemberAt (s : List ℕ) (i e : ℕ) : Type 0 where
  pub bytes : drop i s ≡ member_bytes (e ∷ []) ++ drop (i + length (member_bytes (e ∷ []))) s
  pub inside : i + length (member_bytes (e ∷ [])) ≤ length s

-- the rank of what stands at i: the number of the member that stands there; where none does, a number above all
pub record Ranks (s : List ℕ) (i r : ℕ) : Type 0 where
  pub most : r ≤ limits.events
  pub stands : r < limits.events → MemberAt s i r
  pub only : (e : ℕ) (rest : List ℕ) → e < limits.events → drop i s ≡ member_bytes (e ∷ []) ++ rest → r ≡ e

-- what stands at `from` and at `start` agrees in the members of k bytes, and not in the one behind them; there the ranks are x and y
pub record Forks (a : List ℕ) (from : ℕ) (b : List ℕ) (start k x y : ℕ) : Type 0 where
  pub members : List ℕ
  pub first : drop from a ≡ member_bytes members ++ drop (from + k) a
  pub second : drop start b ≡ member_bytes members ++ drop (start + k) b
  pub mine : Ranks a (from + k) x
  pub yours : Ranks b (start + k) y
  pub differ : x < limits.events → x ≡ y → ⊥
  pub inside : from + k ≤ length a
  pub within : start + k ≤ length b

-- members that rise, of a cut that stands behind p
abbrev pub Behind : List ℕ → List ℕ → Type 0
Behind p es = RisingFrom 0 es × Lt p es

-- r is the end of the cut at `at` that stands behind the one from `last` to `at`
abbrev pub Follows : List ℕ → ℕ → ℕ → ℕ → Type 0
Follows s last at r = (p : List ℕ) → RisingFrom 0 p → drop last s ≡ cut_bytes p ++ drop at s → Ends (Behind p) s at r

abbrev pub Ordered : List ℕ → List ℕ → Ordering → Type 0
Ordered es fs Less = Lt es fs
Ordered es fs Equal = es ≡ fs
Ordered es fs Greater = Lt fs es

-- the order of the cuts at the front of t and of u
abbrev pub Orders : List ℕ → List ℕ → Ordering → Type 0
Orders t u r = (es fs rest rest' : List ℕ) → RisingFrom 0 es → RisingFrom 0 fs → t ≡ cut_bytes es ++ rest → u ≡ cut_bytes fs ++ rest' → Ordered es fs r
