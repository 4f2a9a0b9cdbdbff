-- Sub-diagrams, and what fixing an event leaves of them.
-- Assumes nothing.
use mathlib.Core.Path.{◌≡◌, refl, sym, subst}
use mathlib.Core.Logic.{◌⊎◌, inl, inr, ite}
use mathlib.Core.Bool.{Bool, true, false, cond}
use mathlib.Core.List.{◌++◌}
use Prim.Native.Nat.{ℕ, suc}
use native.Mathlib.Omega.{arith}
use lib.Dec.{eqb}
use Rattle.paper.specs.Lists.{In}
use Rattle.paper.specs.Diagrams.{Diagram, leaf, node, Ordered, Reduced, mk_d, Diagram-discrete}
use Rattle.algebra.specs.Operations.{fix_d, subs}
use Rattle.algebra.specs.Families.{mk_z}
use Rattle.algebra.proofs.Base.{cond_all, mk_cases, widen}
use Rattle.algebra.proofs.Lists.{in_left, in_right, in_append}
use Rattle.algebra.proofs.Fix.{Top, at, above, top, fix_at, fix_above}

pub subs_self : (d : Diagram) → In d (subs d)
subs_self (leaf b) = inl refl
subs_self (node e f s) = inl refl

pub subs_trans : (x y z : Diagram) → In x (subs y) → In y (subs z) → In x (subs z)
subs_trans x y (leaf b) h (inl e) = subst (λ d. In x (subs d)) e h
subs_trans x y (leaf b) h (inr k) = absurd k
subs_trans x y (node e f s) h (inl q) = subst (λ d. In x (subs d)) q h
subs_trans x y (node e f s) h (inr k) = inr (go (in_append y (subs f) (subs s) k) (subs_trans x y f h) (subs_trans x y s h))
  where
    go : In y (subs f) ⊎ In y (subs s) → (In y (subs f) → In x (subs f)) → (In y (subs s) → In x (subs s)) → In x (subs f ++ subs s)
    go (inl k) a b = in_left x (subs f) (subs s) (a k)
    go (inr k) a b = in_right x (subs f) (subs s) (b k)

-- what both branches inherit from a node, every part inherits
pub part_inherits : (P : Diagram → Type 0) → ((e : ℕ) (f s : Diagram) → P (node e f s) → P f × P s) → (D x : Diagram) → P D → In x (subs D) → P x
part_inherits P down (leaf b) x p (inl e) = subst P (sym e) p
part_inherits P down (leaf b) x p (inr k) = absurd k
part_inherits P down (node e f s) x p (inl q) = subst P (sym q) p
part_inherits P down (node e f s) x p (inr k) =
    go (in_append x (subs f) (subs s) k) (part_inherits P down f x (down e f s p).0) (part_inherits P down s x (down e f s p).1)
  where
    go : In x (subs f) ⊎ In x (subs s) → (In x (subs f) → P x) → (In x (subs s) → P x) → P x
    go (inl k) a b = a k
    go (inr k) a b = b k

pub part_reduced : (D x : Diagram) → Reduced D → In x (subs D) → Reduced x
part_reduced = part_inherits Reduced (λ e f s r. (r.1, r.2))

pub part_ordered : (n : ℕ) (D x : Diagram) → Ordered 0 n D → In x (subs D) → Ordered 0 n x
part_ordered n = part_inherits (Ordered 0 n) (λ e f s o. (widen (suc e) 0 n f (omega arith) o.2, widen (suc e) 0 n s (omega arith) o.3))

pub fix_sub : (m : ℕ) (b : Bool) (d : Diagram) → In (fix_d m b d) (subs d)
fix_sub m b (leaf c) = inl refl
fix_sub m b (node e f s) = cond_all (λ x. In x (subs (node e f s))) (eqb e m) (cond b f s) (node e f s)
    (cond_all (λ x. In x (subs (node e f s))) b f s (inr (in_left f (subs f) (subs s) (subs_self f))) (inr (in_right s (subs f) (subs s) (subs_self s))))
    (inl refl)

pub sub_fix : (m n : ℕ) (d x : Diagram) → Ordered m n d → In x (subs d) → (x ≡ d) ⊎ (In x (subs (fix_d m true d)) ⊎ In x (subs (fix_d m false d)))
sub_fix m n d x o h = go d (top m n d o) h
  where
    go : (d : Diagram) → Top m n d → In x (subs d) → (x ≡ d) ⊎ (In x (subs (fix_d m true d)) ⊎ In x (subs (fix_d m false d)))
    go d (at f s p a b) (inl e) = inl e
    go d (at f s p a b) (inr h) = rw (fix_at m true f s, fix_at m false f s) (inr (in_append x (subs f) (subs s) h))
    go d (above d' a) h = rw (fix_above m n true d' a) (inr (inl h))

-- the branches handed to mk_d stand in what it makes; of those handed to mk_z, leaf 0 may not
pub mk_subs : (e : ℕ) (f s : Diagram) → In f (subs (mk_d e f s)) × In s (subs (mk_d e f s))
mk_subs e f s = mk_cases (λ d. In f (subs d) × In s (subs d)) e f s
    (λ h. (subs_self f, subst (λ x. In x (subs f)) h (subs_self f)))
    (λ h. (inr (in_left f (subs f) (subs s) (subs_self f)), inr (in_right s (subs f) (subs s) (subs_self s))))

pub mkz_subs : (e : ℕ) (f s : Diagram) → ((f ≡ leaf false) ⊎ In f (subs (mk_z e f s))) × In s (subs (mk_z e f s))
mkz_subs e f s = go (Diagram-discrete f (leaf false))
  where
    go : (d : Dec (f ≡ leaf false)) → ((f ≡ leaf false) ⊎ In f (subs (ite d s (node e f s)))) × In s (subs (ite d s (node e f s)))
    go (yes h) = (inl h, subs_self s)
    go (no h) = (inr (inr (in_left f (subs f) (subs s) (subs_self f))), inr (in_right s (subs f) (subs s) (subs_self s)))
