-- Zero-suppressed diagrams: the family as a function of sets, canonicity, and as many distinct nodes as families.
-- Assumes nothing.
use mathlib.Core.Path.{◌≡◌, refl, sym, ap, ◌∙◌, subst, fun_ext}
use mathlib.Core.Logic.{◌≢◌, ◌⊎◌, inl, inr, if_pos, if_neg}
use mathlib.Core.Bool.{Bool, true, false, cond, ◌||◌, Bool-discrete, true≢false, false≢true}
use mathlib.Core.List.{map}
use Prim.Native.Nat.{ℕ, zero, suc, ◌+◌, ◌≤◌, ◌<◌}
use native.Mathlib.Omega.{arith}
use lib.Dec.{eqb}
use borrow.Author.Tests.{ne_eqb}
use Rattle.paper.specs.Lists.{In, keep}
use Rattle.paper.specs.Sets.{Set, none, put, all_sets, some_event}
use Rattle.paper.specs.Diagrams.{Diagram, leaf, node, Ordered, Diagram-discrete}
use Rattle.paper.specs.Cuts.{sets_of, Suppressed, fix_fam, proper}
use Rattle.algebra.specs.Operations.{subs, is_node}
use Rattle.algebra.specs.Families.{mk_z, fix_z, holds}
use Rattle.algebra.proofs.Base.{widen, eqb_same, put_same, put_other, cond_same, cond_all, Three, below, beyond, equal, three}
use Rattle.algebra.proofs.Lists.{in_left, in_right, in_append, in_map, map_in, in_keep, keep_in, in_has, has_in}
use Rattle.algebra.proofs.Fix.{Top, at, above, top, at_end}
use Rattle.algebra.proofs.Sets.{put_id}
use Rattle.algebra.proofs.Subs.{subs_self, subs_trans}
use Rattle.algebra.proofs.Trim.{trim, trim_all, trim_at, trim_below}
use Rattle.algebra.proofs.Kind.{Kind}
use Rattle.algebra.proofs.Without.{Tidy, sets_above}

fixz_at : (m : ℕ) (b : Bool) (f s : Diagram) → fix_z m b (node m f s) ≡ cond b f s
fixz_at m b f s = rw (eqb_same m)

fixz_above : (m n : ℕ) (b : Bool) (z : Diagram) → Ordered (suc m) n z → fix_z m b z ≡ cond b (leaf false) z
fixz_above m n b (leaf c) o = refl
fixz_above m n b (node e f s) o = rw (ne_eqb e m (λ q. omega (arith, o.0, q)))

pub tidy_fixz : (m n : ℕ) (b : Bool) (z : Diagram) → Tidy m n z → Tidy (suc m) n (fix_z m b z)
tidy_fixz m n b z (o, p) = go z (top m n z o) p
  where
    go : (z : Diagram) → Top m n z → Suppressed z → Tidy (suc m) n (fix_z m b z)
    go z (at f s h x y) p = rw (fixz_at m b f s) (cond_all (Tidy (suc m) n) b f s (x, p.1) (y, p.2))
    go z (above z' x) p = rw (fixz_above m n b z' x) (cond_all (Tidy (suc m) n) b (leaf false) z' (tt, tt) (x, p))

pub mk_fixz : (m n : ℕ) (z : Diagram) → Tidy m n z → mk_z m (fix_z m true z) (fix_z m false z) ≡ z
mk_fixz m n z (o, p) = go z (top m n z o) p
  where
    go : (z : Diagram) → Top m n z → Suppressed z → mk_z m (fix_z m true z) (fix_z m false z) ≡ z
    go z (at f s h x y) p = rw (fixz_at m true f s, fixz_at m false f s) (if_neg (Diagram-discrete f (leaf false)) p.0 s (node m f s))
    go z (above z' x) p = rw (fixz_above m n true z' x, fixz_above m n false z' x) (if_pos (Diagram-discrete (leaf false) (leaf false)) refl z' (node m (leaf false) z'))

-- ---- the family as a function

holds_zero : (k m : ℕ) (S : Set) → holds k m (leaf false) S ≡ false
holds_zero zero m S = refl
holds_zero (suc k) m S = rw (cond_same (S m) (leaf false)) (holds_zero k (suc m) S)

pub holds_none : (k m : ℕ) (b : Bool) → holds k m (leaf b) none ≡ b
holds_none zero m b = refl
holds_none (suc k) m b = holds_none k (suc m) b

pub holds_agree : (k m : ℕ) (z : Diagram) (v w : Set) → ((i : ℕ) → m ≤ i → i < m + k → v i ≡ w i) → holds k m z v ≡ holds k m z w
holds_agree zero m z v w h = refl
holds_agree (suc k) m z v w h =
    ap (λ b. holds k (suc m) (fix_z m b z) v) (h m (omega arith) (omega arith))
    ∙ holds_agree k (suc m) (fix_z m (w m) z) v w (λ i a b. h i (omega arith) (omega arith))

holds_put : (k m j : ℕ) (z : Diagram) (b : Bool) (S : Set) → m < j → holds k j z (put m b S) ≡ holds k j z S
holds_put k m j z b S l = holds_agree k j z (put m b S) S (λ i a c. put_other m b S i (λ q. omega arith))

-- fixing event m goes over to the function
pub holds_fix : (k j n m : ℕ) → j + k ≡ n → j ≤ m → m < n → (b : Bool) (z : Diagram) (S : Set) → Tidy m n z
    → holds k j (fix_z m b z) S ≡ cond (S m) false (holds k j z (put m b S))
holds_fix zero j n m q jm mn b z S t = absurd (omega arith)
holds_fix (suc k) j n m q jm mn b z S t = go (three j m) (holds_fix k (suc j) n m (omega arith))
  where
    pick : (c : Bool) → holds k (suc m) (cond c (leaf false) (fix_z m b z)) S ≡ cond c false (holds k (suc m) (fix_z m b z) S)
    pick true = holds_zero k (suc m) S
    pick false = refl

    early : (c : Bool) → (holds k (suc j) (fix_z m b z) S ≡ cond (S m) false (holds k (suc j) z (put m b S)))
        → holds k (suc j) (cond c (leaf false) (fix_z m b z)) S ≡ cond (S m) false (holds k (suc j) (cond c (leaf false) z) (put m b S))
    early true r = rw (holds_zero k (suc j) S, holds_zero k (suc j) (put m b S)) (sym (cond_same (S m) false))
    early false r = r

    go : Three j m → (suc j ≤ m → m < n → (b : Bool) (z : Diagram) (S : Set) → Tidy m n z → holds k (suc j) (fix_z m b z) S ≡ cond (S m) false (holds k (suc j) z (put m b S)))
        → holds (suc k) j (fix_z m b z) S ≡ cond (S m) false (holds (suc k) j z (put m b S))
    go (below l u) r =
        rw (
          fixz_above j n (S j) (fix_z m b z) (widen (suc m) (suc j) n (fix_z m b z) (omega arith) (tidy_fixz m n b z t).0),
          put_other m b S j (λ w. omega arith),
          fixz_above j n (S j) z (widen m (suc j) n z (omega arith) t.0),
        )
        (early (S j) (r l mn b z S t))
    go (beyond l u w) r = absurd (omega arith)
    go (equal l u w) r = rw (l, put_same m b S, fixz_above m n (S m) (fix_z m b z) (tidy_fixz m n b z t).0, holds_put k m (suc m) (fix_z m b z) b S (omega arith)) (pick (S m))

-- ---- the function and the list of sets

pub sets_hold : (k m n : ℕ) → m + k ≡ n → (z : Diagram) → Ordered m n z → (S : Set) → In S (sets_of z) → holds k m z S ≡ true
sets_hold zero m n q z o S h =
    let (c, e) = at_end m n z (omega arith) o in
    rw e (go c (rw e at h))
  where
    go : (c : Bool) → In S (sets_of (leaf c)) → c ≡ true
    go true h = refl
    go false h = absurd h
sets_hold (suc k) m n q z o S h = go z (top m n z o) h (λ y p T. sets_hold k (suc m) n (omega arith) y p T)
  where
    go : (z : Diagram) → Top m n z → In S (sets_of z) → ((y : Diagram) → Ordered (suc m) n y → (T : Set) → In T (sets_of y) → holds k (suc m) y T ≡ true) → holds (suc k) m z S ≡ true
    go z (at f s l x y) h r = pick (in_append S (map (put m true) (sets_of f)) (sets_of s) h)
      where
        pick : In S (map (put m true) (sets_of f)) ⊎ In S (sets_of s) → holds (suc k) m (node m f s) S ≡ true
        pick (inl j) =
            let (T, i, e) = map_in (put m true) S (sets_of f) j in
            rw (e, put_same m true T, fixz_at m true f s, holds_put k m (suc m) f true T (omega arith)) (r f x T i)
        pick (inr j) = rw (sets_above (suc m) n s S y j m (omega arith), fixz_at m false f s) (r s y S j)
    go z (above z' x) h r = rw (sets_above (suc m) n z' S x h m (omega arith), fixz_above m n false z' x) (r z' x S h)

pub hold_sets : (k m n : ℕ) → m + k ≡ n → (z : Diagram) → Ordered m n z → (S : Set) → holds k m z S ≡ true → In (trim k m S) (sets_of z)
hold_sets zero m n q z o S h =
    let (c, e) = at_end m n z (omega arith) o in
    rw e (go c (rw e at h))
  where
    go : (c : Bool) → c ≡ true → In none (sets_of (leaf c))
    go true h = inl refl
    go false h = absurd (false≢true h)
hold_sets (suc k) m n q z o S h = go z (top m n z o) (S m) refl h (λ y p. hold_sets k (suc m) n (omega arith) y p S)
  where
    T : Set
    T = trim k (suc m) S

    go : (z : Diagram) → Top m n z → (b : Bool) → S m ≡ b → holds (suc k) m z S ≡ true
        → ((y : Diagram) → Ordered (suc m) n y → holds k (suc m) y S ≡ true → In T (sets_of y)) → In (put m (S m) T) (sets_of z)
    go z (at f s l x y) true e h r =
        rw e (in_left (put m true T) (map (put m true) (sets_of f)) (sets_of s) (in_map (put m true) T (sets_of f) (r f x (rw (e, fixz_at m true f s) at h))))
    go z (at f s l x y) false e h r =
        rw (e, put_id m false T (trim_below k (suc m) S m (omega arith)))
        (in_right T (map (put m true) (sets_of f)) (sets_of s) (r s y (rw (e, fixz_at m false f s) at h)))
    go z (above z' x) true e h r = absurd (false≢true (sym (holds_zero k (suc m) S) ∙ (rw (e, fixz_above m n true z' x) at h)))
    go z (above z' x) false e h r = rw (e, put_id m false T (trim_below k (suc m) S m (omega arith))) (r z' x (rw (e, fixz_above m n false z' x) at h))

-- ---- the kind

pub down_z : (m n : ℕ) (z x : Diagram) → Ordered m n z → In x (subs z) → (x ≡ z) ⊎ (In x (subs (fix_z m true z)) ⊎ In x (subs (fix_z m false z)))
down_z m n z x o h = go z (top m n z o) h
  where
    go : (z : Diagram) → Top m n z → In x (subs z) → (x ≡ z) ⊎ (In x (subs (fix_z m true z)) ⊎ In x (subs (fix_z m false z)))
    go z (at f s p a b) (inl e) = inl e
    go z (at f s p a b) (inr h) = rw (fixz_at m true f s, fixz_at m false f s) (inr (in_append x (subs f) (subs s) h))
    go z (above z' a) h = rw (fixz_above m n false z' a) (inr (inr h))

-- a node below what fixing leaves is a node of the diagram: leaf 0 may be new
pub up_z : (m : ℕ) (b : Bool) (z x : Diagram) → is_node x ≡ true → In x (subs (fix_z m b z)) → In x (subs z)
up_z m b z x t h = go (fix_part z) h
  where
    leafless : (c : Bool) → In x (subs (leaf c)) → ⊥
    leafless c (inl e) = true≢false (sym t ∙ ap is_node e)
    leafless c (inr h) = h

    fix_part : (z : Diagram) → In (fix_z m b z) (subs z) ⊎ (fix_z m b z ≡ leaf false)
    fix_part (leaf c) = cond_all (λ y. In y (subs (leaf c)) ⊎ (y ≡ leaf false)) b (leaf false) (leaf c) (inr refl) (inl (inl refl))
    fix_part (node e f s) = cond_all (λ y. In y (subs (node e f s)) ⊎ (y ≡ leaf false)) (eqb e m) (cond b f s) (cond b (leaf false) (node e f s))
        (cond_all (λ y. In y (subs (node e f s)) ⊎ (y ≡ leaf false)) b f s (inl (inr (in_left f (subs f) (subs s) (subs_self f)))) (inl (inr (in_right s (subs f) (subs s) (subs_self s)))))
        (cond_all (λ y. In y (subs (node e f s)) ⊎ (y ≡ leaf false)) b (leaf false) (node e f s) (inr refl) (inl (inl refl)))

    go : In (fix_z m b z) (subs z) ⊎ (fix_z m b z ≡ leaf false) → In x (subs (fix_z m b z)) → In x (subs z)
    go (inl i) h = subs_trans x (fix_z m b z) z h i
    go (inr e) h = absurd (leafless false (rw e at h))

pub local_z : (n : ℕ) (z : Diagram) (v : Set) → holds n 0 z (trim n 0 v) ≡ holds n 0 z v
local_z n z v = holds_agree n 0 z (trim n 0 v) v (λ i a b. trim_at n 0 v i a (omega arith))

abbrev pub suppressed : (n : ℕ) → Kind n
suppressed n = record {
  OK = λ m z. Tidy m n z;
  fix = fix_z;
  make = mk_z;
  fun = holds n 0;
  fix_fun = fix_fam;
  step = λ m b z l t. tidy_fixz m n b z t;
  back = λ m z t. (widen m 0 n z (omega arith) t.0, t.1);
  again = λ m z t. mk_fixz m n z t;
  end = λ z t. at_end n n z (omega arith) t.0;
  leaves = λ b c h. sym (holds_none n 0 b) ∙ ap (λ F. F none) h ∙ holds_none n 0 c;
  over = λ m b z l t. fun_ext (λ S. holds_fix n 0 n m (omega arith) (omega arith) l b z S t);
  local = λ z v t. local_z n z v;
  down = λ m z x t h. down_z m n z x t.0 h;
  up = λ m b z x t h. up_z m b z x t h;
}

-- ---- nodes are the families with a set that has an event

some_at : (k m : ℕ) (S : Set) (i : ℕ) → m ≤ i → i < m + k → S i ≡ true → some_event k m S ≡ true
some_at zero m S i a b h = absurd (omega arith)
some_at (suc k) m S i a b h = go (three m i) (S m) refl (some_at k (suc m) S i)
  where
    go : Three m i → (c : Bool) → S m ≡ c → (suc m ≤ i → i < suc m + k → S i ≡ true → some_event k (suc m) S ≡ true) → (S m || some_event k (suc m) S) ≡ true
    go t true e r = rw e
    go (below l u) false e r = rw e (r l (omega arith) h)
    go (beyond l u w) false e r = absurd (omega arith)
    go (equal l u w) false e r = absurd (true≢false (sym h ∙ ap S (sym l) ∙ e))

leaf_some : (k m : ℕ) (c : Bool) (S : Set) → some_event k m S ≡ true → holds k m (leaf c) S ≡ false
leaf_some zero m c S h = absurd (false≢true h)
leaf_some (suc k) m c S h = go (S m) h (leaf_some k (suc m) c S)
  where
    go : (b : Bool) → (b || some_event k (suc m) S) ≡ true → (some_event k (suc m) S ≡ true → holds k (suc m) (leaf c) S ≡ false) → holds k (suc m) (cond b (leaf false) (leaf c)) S ≡ false
    go true h r = holds_zero k (suc m) S
    go false h r = r h

pub some_set : (z : Diagram) → Suppressed z → z ≢ leaf false → (S : Set) × In S (sets_of z)
some_set (leaf true) p h = (none, inl refl)
some_set (leaf false) p h = absurd (h refl)
some_set (node e f s) p h =
    let (T, i) = some_set f p.1 p.0 in
    (put e true T, in_left (put e true T) (map (put e true) (sets_of f)) (sets_of s) (in_map (put e true) T (sets_of f) i))

pub proper_node : (n : ℕ) (z : Diagram) → Tidy 0 n z → proper n (holds n 0 z) ≡ is_node z
proper_node n (leaf c) t = go (proper n (holds n 0 (leaf c))) refl
  where
    go : (b : Bool) → proper n (holds n 0 (leaf c)) ≡ b → proper n (holds n 0 (leaf c)) ≡ false
    go true h =
        let (S, i, e) = map_in (holds n 0 (leaf c)) true (keep (some_event n 0) (all_sets n 0)) (has_in Bool-discrete true (map (holds n 0 (leaf c)) (keep (some_event n 0) (all_sets n 0))) h) in
        absurd (true≢false (e ∙ leaf_some n 0 c S (keep_in (some_event n 0) S (all_sets n 0) i).1))
    go false h = h
proper_node n (node e f s) (o, p) =
    let (T, i) = some_set f p.1 p.0 in
    let S = put e true T in
    let z = node e f s in
    let inside = in_left S (map (put e true) (sets_of f)) (sets_of s) (in_map (put e true) T (sets_of f) i) in
    let yes' : holds n 0 z (trim n 0 S) ≡ true = local_z n z S ∙ sets_hold n 0 n (omega arith) z o S inside in
    let some : some_event n 0 (trim n 0 S) ≡ true = some_at n 0 (trim n 0 S) e (omega arith) (omega (arith, o.1)) (trim_at n 0 S e (omega arith) (omega (arith, o.1)) ∙ put_same e true T) in
    in_has Bool-discrete true (map (holds n 0 z) (keep (some_event n 0) (all_sets n 0)))
    (subst (λ b. In b (map (holds n 0 z) (keep (some_event n 0) (all_sets n 0)))) yes'
    (in_map (holds n 0 z) (trim n 0 S) (keep (some_event n 0) (all_sets n 0)) (in_keep (some_event n 0) (trim n 0 S) (all_sets n 0) (trim_all n 0 S) some)))
