-- The pass upwards that weighs the nodes, and the likeliest set below a node followed down.
-- Assumes nothing.
use mathlib.Core.Path.{◌≡◌, refl, sym, ap, ap₂, ◌∙◌, subst}
use mathlib.Core.Bool.{Bool, true, false, cond}
use mathlib.Core.List.{List}
use Prim.Native.Nat.{ℕ, zero, suc, min, ◌+◌, ◌-◌, ◌*◌, ◌^◌, ◌≤◌, ◌<◌}
use native.Mathlib.Nat.{pow-zero}
use native.Mathlib.Decide.{ℕ_discrete}
use native.Mathlib.Numerals.{add-one}
use native.Mathlib.Omega.{arith}
use lib.Dec.{leb}
use lib.ListN.{length, get_or, set, length-set}
use lib.Seq.{get_or-set_same, get_or-set_other}
use borrow.Author.Tests.{le-leb, lt-leb}
use Rattle.paper.specs.Limits.{billion}
use Rattle.algebra.specs.Reports.{Way, fewest, likeliest}
use Rattle.algebra.proofs.Products.{fewest_0, fewest_1, fewest_node, fewest_small, likeliest_0, likeliest_1, likeliest_node}
use Rattle.digits.specs.Digits.{number, Number}
use Rattle.tables.specs.Table.{den, event_of, failed_of, sound_of}
use Rattle.tables.specs.Flags.{Says}
use Rattle.tables.specs.Lent.{Lent}
use Rattle.tables.proofs.Den.{den_0, den_1, den_node}
use Rattle.tables.proofs.Lent.{lent_lower, lent_node}
use Rattle.bracket.specs.Bracketed.{chance_in, Chances}
use Rattle.review.specs.Weights.{likeliest_at, with_event, few_in, Fews, Picked, Picks, Weighed}

-- ---- reading a work area

pub few_0 : (F : List ℕ) (i : ℕ) → i ≡ 0 → 3 ≡ few_in F i
unfolding few_in
few_0 F i e = sym (ap (few_in F) e)

pub few_1 : (F : List ℕ) (i : ℕ) → i ≡ 1 → 0 ≡ few_in F i
unfolding few_in
few_1 F i e = sym (ap (few_in F) e)

pub few_slot : (F : List ℕ) (i : ℕ) → 2 ≤ i → few_in F i ≡ get_or F (i - 2) 0
unfolding few_in
few_slot F zero h = absurd (omega arith)
few_slot F (suc zero) h = absurd (omega arith)
few_slot F (suc (suc k)) h = let q : k ≡ suc (suc k) - 2 = omega arith in ap (λ j. get_or F j 0) q

stored_there : (F : List ℕ) (i j v : ℕ) → 2 ≤ i → (j ≡ i → ⊥) → few_in (set F (i - 2) v) j ≡ few_in F j
unfolding few_in
stored_there F i zero v h d = refl
stored_there F i (suc zero) v h d = refl
stored_there F i (suc (suc k)) v h d = get_or-set_other F (i - 2) k v 0 (omega arith)

-- ---- nothing is stored of the leaves

pub fews_start : (T : List ℕ) {F : List ℕ} {c : ℕ} → c ≤ length F → Fews T F c 2
unfolding few_in
fews_start T {F} h = record { room = h; each = go }
  where
    go : (j : ℕ) → j < 2 → few_in F j ≡ fewest (den T j)
    go zero l = sym (ap fewest (den_0 T) ∙ fewest_0)
    go (suc zero) l = sym (ap fewest (den_1 T) ∙ fewest_1)
    go (suc (suc j)) l = absurd (omega arith)

pub picks_start : {n : ℕ} {A : List ℕ} (T : List ℕ) {W : List ℕ} {c : ℕ} → n ≤ length A → Chances n A → c ≤ length W → Picks n A T W c 2
picks_start T e p h = record { enough = e; chances = p; room = h; each = λ j g l. absurd (omega arith) }

-- fewer nodes
pub picks_fewer : {n : ℕ} {A T W : List ℕ} {c i j : ℕ} → Picks n A T W c i → j ≤ i → Picks n A T W c j
picks_fewer p h = record { enough = p.enough; chances = p.chances; room = p.room; each = λ k g l. p.each k g (omega arith) }

pub few_small : {T F : List ℕ} {c i : ℕ} → Fews T F c i → (j : ℕ) → j < i → few_in F j ≤ 3
few_small {T} w j h = let e = w.each j h in let s = fewest_small (den T j) in omega arith

pub weighed_of : {n : ℕ} {A T F W : List ℕ} {c i : ℕ} → Fews T F c i → Picks n A T W c i → c + 2 ≤ i → Weighed n A T F W c
weighed_of f p h = record { fews = record { room = f.room; each = λ j g. f.each j (omega arith) }; picks = picks_fewer p h }

-- ---- one node

module _ {n : ℕ} {T : List ℕ} {c root : ℕ} (lent : Lent true n T c root) {i : ℕ} (h : 2 ≤ i) (l : i < c + 2) where
  is_node_lem : den T i ≡ Rattle.paper.specs.Diagrams.node (event_of T i) (den T (failed_of T i)) (den T (sound_of T i))
  is_node_lem = den_node (lent_lower lent) i h l

  pub fews_next : {F F' : List ℕ} {f s : ℕ} → f ≡ failed_of T i → s ≡ sound_of T i → Fews T F c i → F' ≡ set F (i - 2) (min (few_in F f + 1) (few_in F s)) → Fews T F' c (i + 1)
  fews_next {F} {F'} {f} {s} qf qs w q = subst (λ X. Fews T X c (i + 1)) (sym q) (record { room = w_room; each = λ j g. go j g (ℕ_discrete j i) })
    where
      v : ℕ
      v = min (few_in F f + 1) (few_in F s)

      w_room : c ≤ length (set F (i - 2) v)
      w_room = let r = w.room in let e = length-set F (i - 2) v in omega arith

      below_f : f < i
      below_f = let d = (lent_node lent h l).failed in omega arith

      below_s : s < i
      below_s = let d = (lent_node lent h l).sound in omega arith

      right : v ≡ fewest (den T i)
      right =
          let x : few_in F f + 1 ≡ suc (fewest (den T (failed_of T i))) = add-one (few_in F f) ∙ ap suc (w.each f below_f ∙ ap (λ k. fewest (den T k)) qf) in
          let y : few_in F s ≡ fewest (den T (sound_of T i)) = w.each s below_s ∙ ap (λ k. fewest (den T k)) qs in
          ap₂ min x y ∙ sym (ap fewest is_node_lem ∙ fewest_node (event_of T i) (den T (failed_of T i)) (den T (sound_of T i)))

      go : (j : ℕ) → j < i + 1 → Dec (j ≡ i) → few_in (set F (i - 2) v) j ≡ fewest (den T j)
      go j g (yes e) =
          let r = w.room in
          ap (few_in (set F (i - 2) v)) e ∙ few_slot (set F (i - 2) v) i h ∙ get_or-set_same F (i - 2) v 0 (omega arith) ∙ right ∙ ap (λ k. fewest (den T k)) (sym e)
      go j g (no e) = stored_there F i j v h e ∙ w.each j (omega arith)

  module _ (A : List ℕ) where
    -- the two branches' likeliest sets
    abbrev under : Way
    under = with_event A (event_of T i) (likeliest_at A T (failed_of T i))

    abbrev beside : Way
    beside = likeliest_at A T (sound_of T i)

    at_node : likeliest_at A T i ≡ cond (leb (beside.chance * billion ^ under.members) (under.chance * billion ^ beside.members)) under beside
    unfolding likeliest_at
    at_node = ap (likeliest billion (chance_in A)) is_node_lem ∙ likeliest_node billion (chance_in A) (event_of T i) (den T (failed_of T i)) (den T (sound_of T i))

    pick_failed : beside.chance * billion ^ under.members ≤ under.chance * billion ^ beside.members → likeliest_at A T i ≡ under
    pick_failed g = at_node ∙ ap (λ b. cond b under beside) (le-leb (beside.chance * billion ^ under.members) (under.chance * billion ^ beside.members) g)

    pick_sound : under.chance * billion ^ beside.members < beside.chance * billion ^ under.members → likeliest_at A T i ≡ beside
    pick_sound g = at_node ∙ ap (λ b. cond b under beside) (lt-leb (beside.chance * billion ^ under.members) (under.chance * billion ^ beside.members) g)

    -- what the test says of the branches that the code read
    abbrev pub Test : ℕ → ℕ → ℕ → Type 0
    Test e f s = (likeliest_at A T s).chance * billion ^ (with_event A e (likeliest_at A T f)).members ≤ (with_event A e (likeliest_at A T f)).chance * billion ^ (likeliest_at A T s).members

    pub picks_next : {W W' : List ℕ} {e f s p : ℕ} (b : Bool) → e ≡ event_of T i → f ≡ failed_of T i → s ≡ sound_of T i → Picks n A T W c i
        → Says b (Test e f s) → p ≡ cond b 1 0 → W' ≡ set W (i - 2) p → Picks n A T W' c (i + 1)
    picks_next {W} {W'} {e} {f} {s} {p} b qe qf qs w t qp q = subst (λ X. Picks n A T X c (i + 1)) (sym q) (record {
      enough = w.enough;
      chances = w.chances;
      room = let r = w.room in let k = length-set W (i - 2) p in omega arith;
      each = λ j g k. go j g k (ℕ_discrete j i);
    })
      where
        same : Test e f s ≡ Test (event_of T i) (failed_of T i) (sound_of T i)
        same = ap (λ x. Test x f s) qe ∙ ap₂ (λ y z. Test (event_of T i) y z) qf qs

        told : (b : Bool) → Says b (Test e f s) → p ≡ cond b 1 0 → Picked A T i p
        told true t q = record { failed = λ _. pick_failed (subst (λ X. X) same t); sound = λ z. absurd (omega arith) }
        told false t q = record { failed = λ z. absurd (omega arith); sound = λ _. pick_sound (below (λ g. t (subst (λ X. X) (sym same) g))) }
          where
            below : {x y : ℕ} → (x ≤ y → ⊥) → y < x
            below h = omega arith

        go : (j : ℕ) → 2 ≤ j → j < i + 1 → Dec (j ≡ i) → Picked A T j (get_or (set W (i - 2) p) (j - 2) 0)
        go j g k (yes z) =
            let r = w.room in
            let x : get_or (set W (i - 2) p) (j - 2) 0 ≡ p = ap (λ m. get_or (set W (i - 2) p) (m - 2) 0) z ∙ get_or-set_same W (i - 2) p 0 (omega arith) in
            subst (λ v. Picked A T j v) (sym x) (subst (λ m. Picked A T m p) (sym z) (told b t qp))
        go j g k (no z) =
            let x : get_or (set W (i - 2) p) (j - 2) 0 ≡ get_or W (j - 2) 0 = get_or-set_other W (i - 2) (j - 2) p 0 (λ y. z (omega arith)) in
            subst (λ v. Picked A T j v) (sym x) (w.each j g (omega arith))

-- ---- the likeliest set, followed down

-- where the walk down is: at node i, with u digits used, u - used members met
pub record Along (n : ℕ) (A T : List ℕ) (c : ℕ) (ds₀ ds : List ℕ) (at used i u : ℕ) : Type 0 where
  pub inside : i < c + 2
  pub down : i ≤ at
  pub met : (likeliest_at A T at).members + used ≡ u + (likeliest_at A T i).members
  pub is : number ds * (likeliest_at A T i).chance ≡ number ds₀ * (likeliest_at A T at).chance
  pub digits : Number ds u
  pub long : length ds ≡ length ds₀
  pub more : used ≤ u
  pub low : 2 ≤ i → u ≤ used + event_of T i
  pub high : u ≤ used + n

pub along_start : {n : ℕ} {A T : List ℕ} {c : ℕ} {ds : List ℕ} {at used : ℕ} → at < c + 2 → Number ds used → Along n A T c ds ds at used at used
along_start h nb = record { inside = h; down = omega arith; met = omega arith; is = refl; digits = nb; long = refl; more = omega arith; low = λ _. omega arith; high = omega arith }

module _ {n : ℕ} {A T : List ℕ} {c root : ℕ} (lent : Lent true n T c root) {ds₀ ds : List ℕ} {at used i u : ℕ} (w : Along n A T c ds₀ ds at used i u) where
  -- down the sound branch
  pub along_sound : 2 ≤ i → {p s : ℕ} → s ≡ sound_of T i → Picked A T i p → p ≡ 0 → (Along n A T c ds₀ ds at used s u) × (s < i)
  along_sound two {p} {s} qs k z =
      let nd = lent_node lent two w.inside in
      let lo = nd.sound in
      let dn = w.down in
      let ins = w.inside in
      let e : likeliest_at A T i ≡ likeliest_at A T s = k.sound z ∙ ap (likeliest_at A T) (sym qs) in
      let a = w.low two in
      let up : 2 ≤ s → event_of T i < event_of T s = subst (λ y. 2 ≤ y → event_of T i < event_of T y) (sym qs) nd.sound_above in (
        record {
          inside = omega arith;
          down = omega arith;
          met = w.met ∙ ap (λ v. u + v.members) e;
          is = ap (λ v. number ds * v.chance) (sym e) ∙ w.is;
          digits = w.digits;
          long = w.long;
          more = w.more;
          low = λ g. let r = up g in omega arith;
          high = w.high;
        },
        omega arith,
      )

  -- down the failed branch, with its event
  pub along_failed : 2 ≤ i → {p e f a : ℕ} {ds' : List ℕ} → e ≡ event_of T i → f ≡ failed_of T i → a ≡ chance_in A e → Picked A T i p → (p ≡ 0 → ⊥)
      → length ds' ≡ length ds → number ds' ≡ number ds * a → Number ds' (u + 1) → (Along n A T c ds₀ ds' at used f (u + 1)) × (f < i)
  along_failed two {p} {e} {f} {a} {ds'} qe qf qa k z ln m nb =
      let nd = lent_node lent two w.inside in
      let lo = nd.failed in
      let dn = w.down in
      let ins = w.inside in
      let ev = nd.event in
      let b = w.low two in
      let mo = w.more in
      let up : 2 ≤ f → event_of T i < event_of T f = subst (λ y. 2 ≤ y → event_of T i < event_of T y) (sym qf) nd.failed_above in
      let g : likeliest_at A T i ≡ with_event A (event_of T i) (likeliest_at A T f) = k.failed (positive p z) ∙ ap (λ y. with_event A (event_of T i) (likeliest_at A T y)) (sym qf) in
      let q : a ≡ chance_in A (event_of T i) = qa ∙ ap (chance_in A) qe in
      let mm : (likeliest_at A T i).members ≡ suc (likeliest_at A T f).members = ap (λ v. v.members) g in
      let mt = w.met in (
        record {
          inside = omega arith;
          down = omega arith;
          met = omega arith;
          is = ap (λ v. v * (likeliest_at A T f).chance) m ∙ assoc (number ds) a (likeliest_at A T f).chance
              ∙ ap (λ v. number ds * v) (ap (λ v. v * (likeliest_at A T f).chance) q ∙ sym (ap (λ v. v.chance) g)) ∙ w.is;
          digits = nb;
          long = ln ∙ w.long;
          more = omega arith;
          low = λ h. let r = up h in omega arith;
          high = omega arith;
        },
        omega arith,
      )
    where
      positive : (x : ℕ) → (x ≡ 0 → ⊥) → 0 < x
      positive x h = omega arith

      assoc : (x y z : ℕ) → x * y * z ≡ x * (y * z)
      assoc x y z = omega arith

  -- at the leaf 1
  pub along_end : {r : ℕ} → i ≡ 1 → r ≡ u - used → (r ≡ (likeliest_at A T at).members) × (number ds ≡ number ds₀ * (likeliest_at A T at).chance) × Number ds (used + r + 1) × (r ≤ n)
  unfolding likeliest_at
  along_end {r} q z =
      let e : likeliest_at A T i ≡ record { members = 0; chance = 1 } = ap (likeliest_at A T) q ∙ ap (likeliest billion (chance_in A)) (den_1 T) ∙ likeliest_1 billion (chance_in A) in
      let m : (likeliest_at A T i).members ≡ 0 = ap (λ v. v.members) e in
      let k : (likeliest_at A T i).chance ≡ 1 = ap (λ v. v.chance) e in
      let mt = w.met in
      let mo = w.more in
      let hi = w.high in
      (omega arith, times_one (number ds) k ∙ w.is, record { small = w.digits.small; behind = λ j h. w.digits.behind j (omega arith) }, omega arith)
    where
      times_one : (x : ℕ) {y : ℕ} → y ≡ 1 → x ≡ x * y
      times_one x h = rw h (omega arith)

  -- at the leaf 0: there is no set
  pub along_none : {r : ℕ} {ds' : List ℕ} → i ≡ 0 → r ≡ u - used → number ds' ≡ number ds * 0 → Number ds' (u + 1)
      → (r ≡ (likeliest_at A T at).members) × (number ds' ≡ number ds₀ * (likeliest_at A T at).chance) × Number ds' (used + r + 1) × (r ≤ n)
  unfolding likeliest_at
  along_none {r} {ds'} q z x nb =
      let e : likeliest_at A T i ≡ record { members = 0; chance = 0 } = ap (likeliest_at A T) q ∙ ap (likeliest billion (chance_in A)) (den_0 T) ∙ likeliest_0 billion (chance_in A) in
      let m : (likeliest_at A T i).members ≡ 0 = ap (λ v. v.members) e in
      let k : (likeliest_at A T i).chance ≡ 0 = ap (λ v. v.chance) e in
      let mt = w.met in
      let mo = w.more in
      let hi = w.high in
      (omega arith, x ∙ ap (λ v. number ds * v) (sym k) ∙ w.is, record { small = nb.small; behind = λ j h. nb.behind j (omega arith) }, omega arith)

-- ---- two likeliest sets compared, in whole numbers: the failed one with its event, p0 to p3, and the sound one, q0 to q2

pub likelier_law : (A T : List ℕ) (e f s : ℕ) {a x y p0 p1 p2 p3 q0 q1 q2 : ℕ} (r : Bool) → p0 ≡ 1 * billion ^ 0 → a ≡ chance_in A e → p1 ≡ p0 * a
    → (x ≡ (likeliest_at A T f).members) → p2 ≡ p1 * (likeliest_at A T f).chance → q0 ≡ 1 * billion ^ 0 → (y ≡ (likeliest_at A T s).members) → q1 ≡ q0 * (likeliest_at A T s).chance
    → p3 ≡ p2 * billion ^ y → q2 ≡ q1 * billion ^ (x + 1) → (r ≡ true → q2 ≤ p3) × (r ≡ false → p3 < q2)
    → Says r ((likeliest_at A T s).chance * billion ^ (with_event A e (likeliest_at A T f)).members ≤ (with_event A e (likeliest_at A T f)).chance * billion ^ (likeliest_at A T s).members)
likelier_law A T e f s {a} {x} {y} {p0} {p1} {p2} {p3} {q0} {q1} {q2} r e0 ea e1 ex e2 f0 ey f1 e3 f2 (t, u) = go r refl
  where
    one : (v : ℕ) → v ≡ 1 * billion ^ 0 → v ≡ 1
    one v h = h ∙ rw (pow-zero billion) (omega arith)

    px : p3 ≡ chance_in A e * (likeliest_at A T f).chance * billion ^ (likeliest_at A T s).members
    px = e3 ∙ ap₂ (λ v k. v * billion ^ k) (e2 ∙ ap (λ v. v * (likeliest_at A T f).chance) (e1 ∙ ap₂ ◌*◌ (one p0 e0) ea ∙ unit (chance_in A e))) ey
      where
        unit : (v : ℕ) → 1 * v ≡ v
        unit v = omega arith

    qx : q2 ≡ (likeliest_at A T s).chance * billion ^ suc (likeliest_at A T f).members
    qx = f2 ∙ ap₂ (λ v k. v * billion ^ k) (f1 ∙ ap (λ v. v * (likeliest_at A T s).chance) (one q0 f0) ∙ unit (likeliest_at A T s).chance) (add-one x ∙ ap suc ex)
      where
        unit : (v : ℕ) → 1 * v ≡ v
        unit v = omega arith

    go : (b : Bool) → r ≡ b → Says r ((likeliest_at A T s).chance * billion ^ suc (likeliest_at A T f).members ≤ chance_in A e * (likeliest_at A T f).chance * billion ^ (likeliest_at A T s).members)
    go true z = subst (λ b. Says b ((likeliest_at A T s).chance * billion ^ suc (likeliest_at A T f).members ≤ chance_in A e * (likeliest_at A T f).chance * billion ^ (likeliest_at A T s).members)) (sym z) (within_le (t z))
      where
        within_le : q2 ≤ p3 → (likeliest_at A T s).chance * billion ^ suc (likeliest_at A T f).members ≤ chance_in A e * (likeliest_at A T f).chance * billion ^ (likeliest_at A T s).members
        within_le h = subst (λ v. v ≤ chance_in A e * (likeliest_at A T f).chance * billion ^ (likeliest_at A T s).members) qx (subst (λ v. q2 ≤ v) px h)
    go false z = subst (λ b. Says b ((likeliest_at A T s).chance * billion ^ suc (likeliest_at A T f).members ≤ chance_in A e * (likeliest_at A T f).chance * billion ^ (likeliest_at A T s).members)) (sym z) (λ h. apart (u z) (subst (λ v. q2 ≤ v) (sym px) (subst (λ v. v ≤ chance_in A e * (likeliest_at A T f).chance * billion ^ (likeliest_at A T s).members) (sym qx) h)))
      where
        apart : p3 < q2 → q2 ≤ p3 → ⊥
        apart g h = omega arith
