-- What the numbers of a store denote: growth changes nothing, no two numbers denote the same, each node of a stored diagram is stored.
-- Assumes nothing.
use mathlib.Core.Path.{◌≡◌, refl, sym, ap, ◌∙◌, subst}
use mathlib.Core.Logic.{◌⊎◌, inl, inr}
use mathlib.Core.Bool.{true, false}
use mathlib.Core.List.{List}
use Prim.Native.Nat.{ℕ, zero, suc, ◌+◌, ◌<◌, ◌≤◌}
use native.Mathlib.Decide.{dec_lt}
use native.Mathlib.Omega.{arith}
use Rattle.paper.specs.Lists.{In}
use Rattle.paper.specs.Diagrams.{Diagram}
use Rattle.algebra.specs.Operations.{subs, is_node}
use Rattle.tables.specs.Table.{den}
use Rattle.tables.specs.Stored.{Lower}
use Rattle.tables.proofs.Den.{den_0, den_1, den_node, den_kept}
use Rattle.tables.proofs.Growth.{kept_same, kept_then}
use Rattle.tables.proofs.Once.{den_subs}
use Rattle.store.specs.Store.{Grown}
use Rattle.store.specs.Building.{Part, Found, Has}

pub below_or_not : (i j : ℕ) → (i < j) ⊎ (j ≤ i)
below_or_not i j = elim (dec_lt i j) [ yes l ↦ inl l | no n ↦ inr (omega arith) ]

-- ---- growth

pub grown_refl : (T : List ℕ) (c : ℕ) → Grown T c T c
grown_refl T c = record { more = omega arith; long = refl; kept = kept_same T c }

pub grown_trans : {T T' T'' : List ℕ} {c c' c'' : ℕ} → Grown T c T' c' → Grown T' c' T'' c'' → Grown T c T'' c''
grown_trans g h = record { more = omega arith; long = h.long ∙ g.long; kept = kept_then g.more g.kept h.kept }

-- what a number denotes stays
pub den_grown : {T T' : List ℕ} {c c' : ℕ} → Lower T c → Grown T c T' c' → (i : ℕ) → i < c + 2 → den T' i ≡ den T i
den_grown w g i l = sym (den_kept w g.kept i l)

pub found_grown : {T T' : List ℕ} {c c' : ℕ} {D : Diagram} {r : ℕ} → Lower T c → Grown T c T' c' → Found T c D r → Found T' c' D r
found_grown {r = r} w g f = let m = g.more in record { within = omega (arith, f.within); is = den_grown w g r f.within ∙ f.is }

-- ---- the stored nodes

module _ {T : List ℕ} {c : ℕ} (low : Lower T c) where
  -- a stored number denotes a node, another a leaf
  pub den_is_node : (i : ℕ) → 2 ≤ i → i < c + 2 → is_node (den T i) ≡ true
  den_is_node i a b = ap is_node (den_node low i a b)

  pub den_no_node : (i : ℕ) → i < 2 → is_node (den T i) ≡ false
  den_no_node zero l = ap is_node (den_0 T)
  den_no_node (suc zero) l = ap is_node (den_1 T)
  den_no_node (suc (suc i)) l = absurd (omega arith)

  -- each node of a stored diagram is stored
  pub found_whole : {D : Diagram} {r : ℕ} → Found T c D r → (E : Diagram) → Part D E → Has T c E
  found_whole {r = r} f E p =
      let (k, l, e) = den_subs low r f.within E p.node (subst (λ d. In E (subs d)) (sym f.is) p.inside) in
      record { at = k + 2; low = omega arith; high = omega arith; is = sym e }
