-- Joining commutes, a reduced diagram joined with itself is itself, and a leaf decides or is passed over.
-- Assumes nothing.
use mathlib.Core.Path.{◌≡◌, refl, sym, ap₂, ◌∙◌}
use mathlib.Core.Bool.{Bool, true, false, not}
use Prim.Native.Nat.{ℕ, ◌≤◌, ◌<◌}
use native.Mathlib.Omega.{arith}
use borrow.Author.Tests.{lt-ltb, le-ltb}
use Rattle.paper.specs.Diagrams.{Diagram, leaf, node, Reduced, mk_d}
use Rattle.algebra.specs.Operations.{join_d}
use Rattle.algebra.proofs.Base.{Three, below, beyond, equal, three, mk_node}
use Rattle.algebra.proofs.Join.{join_leaf}

-- ---- a leaf

pub join_decides : (z : Bool) (g : Diagram) → join_d z (leaf z) g ≡ leaf z
join_decides true g = refl
join_decides false g = refl

pub join_passes : (z : Bool) (g : Diagram) → join_d z (leaf (not z)) g ≡ g
join_passes true g = refl
join_passes false g = refl

-- ---- two nodes

module _ (z : Bool) (e : ℕ) (f s : Diagram) (x : ℕ) (g h : Diagram) where
  pub join_first : e < x → join_d z (node e f s) (node x g h) ≡ mk_d e (join_d z f (node x g h)) (join_d z s (node x g h))
  join_first l = rw (lt-ltb e x l)

  pub join_second : x < e → join_d z (node e f s) (node x g h) ≡ mk_d x (join_d z (node e f s) g) (join_d z (node e f s) h)
  join_second l = rw (le-ltb e x (omega arith), lt-ltb x e l)

  pub join_both : x ≤ e → e ≤ x → join_d z (node e f s) (node x g h) ≡ mk_d e (join_d z f g) (join_d z s h)
  join_both l m = rw (le-ltb e x l, le-ltb x e m)

pub join_same : (z : Bool) (d : Diagram) → Reduced d → join_d z d d ≡ d
join_same true (leaf true) r = refl
join_same true (leaf false) r = refl
join_same false (leaf true) r = refl
join_same false (leaf false) r = refl
join_same z (node e f s) (n, rf, rs) =
    join_both z e f s e f s (omega arith) (omega arith) ∙ ap₂ (mk_d e) (join_same z f rf) (join_same z s rs) ∙ mk_node e f s n

pub join_comm : (z : Bool) (a b : Diagram) → join_d z a b ≡ join_d z b a
join_comm z (leaf c) b = sym (join_leaf z c b)
join_comm z (node e f s) (leaf c) = refl
join_comm z (node e f s) (node x g h) =
    go (three e x) (join_comm z f (node x g h)) (join_comm z s (node x g h)) (join_comm z (node e f s) g) (join_comm z (node e f s) h) (join_comm z f g) (join_comm z s h)
  where
    a : Diagram
    a = node e f s

    b : Diagram
    b = node x g h

    go : Three e x → join_d z f b ≡ join_d z b f → join_d z s b ≡ join_d z b s → join_d z a g ≡ join_d z g a → join_d z a h ≡ join_d z h a → join_d z f g ≡ join_d z g f → join_d z s h ≡ join_d z h s
        → join_d z a b ≡ join_d z b a
    go (below l _) fb sb ag ah fg sh = join_first z e f s x g h l ∙ ap₂ (mk_d e) fb sb ∙ sym (join_second z x g h e f s l)
    go (beyond l _ _) fb sb ag ah fg sh = join_second z e f s x g h l ∙ ap₂ (mk_d x) ag ah ∙ sym (join_first z x g h e f s l)
    go (equal q _ _) fb sb ag ah fg sh =
        join_both z e f s x g h (omega arith) (omega arith) ∙ (λ j. mk_d (q j) (fg j) (sh j)) ∙ sym (join_both z x g h e f s (omega arith) (omega arith))
