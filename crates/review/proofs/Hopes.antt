-- When some set below a node is worth reporting with the path's events: by the fewest members, or by the likeliest set.
-- Assumes nothing.
use mathlib.Core.Path.{◌≡◌, refl, sym, ap, ap₂, ◌∙◌, subst}
use mathlib.Core.Logic.{◌⊎◌, inl, inr}
use mathlib.Core.Bool.{Bool, true, false, ◌&&◌, ◌||◌, false≢true}
use mathlib.Core.List.{List, [], ◌∷◌, ◌++◌, map-append}
use Prim.Native.Nat.{ℕ, zero, suc, ◌+◌, ◌-◌, ◌*◌, ◌^◌, ◌≤◌, ◌<◌}
use native.Mathlib.Nat.{pow-zero}
use native.Mathlib.Numerals.{add-one}
use native.Mathlib.Omega.{arith}
use lib.Dec.{leb, eqb}
use lib.ListN.{length, get_or, take}
use lib.Seq.{take-suc, get_or-take}
use borrow.Author.Tests.{le-leb, leb-true, eq-eqb, eqb-true}
use Rattle.paper.specs.Limits.{billion}
use Rattle.paper.specs.Sets.{Set, of_events}
use Rattle.paper.specs.Diagrams.{Ordered}
use Rattle.paper.specs.Reports.{size, product, edge}
use Rattle.algebra.specs.Reports.{Way, fewest, likeliest, hopeful}
use Rattle.algebra.proofs.Base.{put_other}
use Rattle.algebra.proofs.CutCount.{and_both}
use Rattle.algebra.proofs.Products.{way_of}
use Rattle.algebra.proofs.Reports.{product_of, size_members, product_members, hopeful_law}
use Rattle.digits.specs.Digits.{number, Number}
use Rattle.tables.specs.Table.{den, event_of}
use Rattle.tables.specs.Flags.{Says}
use Rattle.tables.proofs.Den.{den_0, den_1, den_node}
use Rattle.tables.proofs.Lent.{lent_lower}
use Rattle.bracket.specs.Bracketed.{chance_in}
use Rattle.walk.specs.Paths.{events_of, along, Climbs, Open}
use Rattle.walk.proofs.Paths.{climbs_length, path_length, here, branches}
use Rattle.walk.proofs.Members.{path_members, events_length}
use Rattle.review.specs.Weights.{likeliest_at, few_in, Weighed}
use Rattle.review.specs.Hopes.{worth, Hope}

some : (a b : Bool) → (a || b) ≡ true → (a ≡ true) ⊎ (b ≡ true)
some true b h = inl refl
some false b h = inr h

or_left : (a b : Bool) → a ≡ true → (a || b) ≡ true
or_left true b h = refl
or_left false b h = absurd (false≢true h)

or_right : (a b : Bool) → b ≡ true → (a || b) ≡ true
or_right true b h = refl
or_right false b h = h

both : (a b : Bool) → a ≡ true → b ≡ true → (a && b) ≡ true
both true b p q = q
both false b p q = absurd (false≢true p)

-- ---- the events of a path

climbs_event : (T : List ℕ) (c : ℕ) (p : List ℕ) (m e : ℕ) → Climbs T c m p e → (k : ℕ) → k < length p → (2 ≤ get_or p k 0) × (get_or p k 0 < c + 2) × (event_of T (get_or p k 0) < e)
climbs_event T c [] m e w k h = absurd (omega arith)
climbs_event T c (i ∷ p) m e w zero h = let l = climbs_length T c p (suc (event_of T i)) e w.3 in (w.0, w.1, omega arith)
climbs_event T c (i ∷ p) m e w (suc k) h = climbs_event T c p (suc (event_of T i)) e w.3 k (omega arith)

along_above : (T : List ℕ) (c : ℕ) (p : List ℕ) (m e : ℕ) → Climbs T c m p e → (j : ℕ) → e ≤ j → along T p j ≡ false
unfolding of_events
along_above T c [] m e w j h = refl
along_above T c (i ∷ p) m e w j h =
    let l = climbs_length T c p (suc (event_of T i)) e w.3 in
    put_other (event_of T i) true (along T p) j (λ q. omega arith) ∙ along_above T c p (suc (event_of T i)) e w.3 j h

module _ {n : ℕ} {T : List ℕ} {c : ℕ} {P : List ℕ} {d at : ℕ} (o : Open n T c P d at) where
  pub entry_low : (k : ℕ) {i e : ℕ} → k < d → i ≡ get_or P k 0 → e ≡ event_of T i → (3 * (i - 2) + 2 < length T) × (2 ≤ i) × (e < n)
  entry_low k {i} {e} h q qe =
      let l = path_length o in
      let (a, b, x) = climbs_event T c (take d P) 0 o.end o.climbs k (omega arith) in
      let z : i ≡ get_or (take d P) k 0 = q ∙ sym (get_or-take d P k 0 h) in
      let y : e ≡ event_of T (get_or (take d P) k 0) = qe ∙ ap (event_of T) z in
      let f = o.lent.fits in
      let lo = o.low in
      (omega arith, omega arith, omega arith)

  ordered_from : Ordered o.end n (den T at)
  ordered_from = go at refl
    where
      go : (x : ℕ) → at ≡ x → Ordered o.end n (den T at)
      go zero e = subst (Ordered o.end n) (sym (ap (den T) e ∙ den_0 T)) tt
      go (suc zero) e = subst (Ordered o.end n) (sym (ap (den T) e ∙ den_1 T)) tt
      go (suc (suc x)) e =
          let two : 2 ≤ at = omega arith in
          let b = branches o.lent two in
          subst (Ordered o.end n) (sym (den_node (lent_lower o.lent) at two o.lent.root_in)) (o.above two, (here o two).event, b.0, b.1)

  abbrev on_path : Set
  on_path = along T (take d P)

  low_from : (i : ℕ) → o.end ≤ i → on_path i ≡ false
  low_from i h = along_above T c (take d P) 0 o.end o.climbs i h

  size_path : size n 0 on_path ≡ d
  size_path = size_members n 0 on_path ∙ ap length (path_members o n (omega arith)) ∙ events_length o

  product_path : (a : ℕ → ℕ) → product a n 0 on_path ≡ product_of a (events_of T (take d P))
  product_path a = product_members a n 0 on_path ∙ ap (product_of a) (path_members o n (omega arith))

-- ---- their product, in digits

product_snoc : (a : ℕ → ℕ) (l : List ℕ) (e : ℕ) → product_of a (l ++ (e ∷ [])) ≡ product_of a l * a e
product_snoc a [] e = omega arith
product_snoc a (x ∷ l) e = rw (product_snoc a l e) (omega arith)

-- where the loop is: the chances of the first k events are multiplied
pub record Multiplied (A T P ds₀ ds : List ℕ) (d k : ℕ) : Type 0 where
  pub within : k ≤ d
  pub is : number ds ≡ product_of (chance_in A) (events_of T (take k P))
  pub digits : Number ds (k + 1)
  pub long : length ds ≡ length ds₀

pub multiplied_start : {A T P ds : List ℕ} {d : ℕ} → number ds ≡ 1 * billion ^ 0 → Number ds 1 → Multiplied A T P ds ds d 0
multiplied_start e nb = record { within = omega arith; is = e ∙ rw (pow-zero billion) (omega arith); digits = record { small = nb.small; behind = λ j h. nb.behind j (omega arith) }; long = refl }

pub multiplied_more : {A T P ds₀ ds ds' : List ℕ} {d k i e a : ℕ} → Multiplied A T P ds₀ ds d k → k < d → d ≤ length P → i ≡ get_or P k 0 → e ≡ event_of T i → a ≡ chance_in A e
    → number ds' ≡ number ds * a → Number ds' (k + 1 + 1) → length ds' ≡ length ds → Multiplied A T P ds₀ ds' d (k + 1)
multiplied_more {A} {T} {P} {k = k} w h deep qi qe qa m nb l =
    let q : k + 1 ≡ suc k = add-one k in
    let t : events_of T (take (suc k) P) ≡ events_of T (take k P) ++ (event_of T (get_or P k 0) ∷ []) = ap (events_of T) (take-suc P k 0 (omega arith)) ∙ map-append (event_of T) (take k P) (get_or P k 0 ∷ []) in
    record {
      within = omega arith;
      is = m ∙ ap₂ ◌*◌ w.is (qa ∙ ap (chance_in A) (qe ∙ ap (event_of T) qi)) ∙ sym (product_snoc (chance_in A) (events_of T (take k P)) (event_of T (get_or P k 0)))
          ∙ ap (product_of (chance_in A)) (sym (ap (λ j. events_of T (take j P)) q ∙ t));
      digits = nb;
      long = l ∙ w.long;
    }

pub multiplied_end : {A T P ds₀ ds : List ℕ} {d k : ℕ} → Multiplied A T P ds₀ ds d k → d ≤ k → (number ds ≡ product_of (chance_in A) (events_of T (take d P))) × Number ds (d + 1)
multiplied_end {A} {T} {P} {d = d} {k} w h =
    let g = w.within in
    let nb = w.digits in
    let q : k ≡ d = omega arith in
    (w.is ∙ ap (λ j. product_of (chance_in A) (events_of T (take j P))) q, record { small = nb.small; behind = λ j h. nb.behind j (omega arith) })

-- ---- hope

module _ {n : ℕ} {T : List ℕ} {c : ℕ} {P : List ℕ} {d at : ℕ} (o : Open n T c P d at) {A F W : List ℕ} (w : Weighed n A T F W c) (r : ℕ) where
  abbrev Hoped : Type 0
  Hoped = Hope (worth r A n) T (along T (take d P)) at

  abbrev way : Way
  way = way_of billion (chance_in A) n (omega arith) (along T (take d P))

  to_hope : hopeful billion (chance_in A) r way (den T at) ≡ true → Hoped
  to_hope h =
      let (U, i, t) = (hopeful_law billion (chance_in A) n (omega arith) o.end (den T at) (ordered_from o) (along T (take d P)) (low_from o) r).0 h in
      record { found = U; below = i; is = t }

  from_hope : Hoped → hopeful billion (chance_in A) r way (den T at) ≡ true
  from_hope h = (hopeful_law billion (chance_in A) n (omega arith) o.end (den T at) (ordered_from o) (along T (take d P)) (low_from o) r).1 (h.found, h.below, h.is)

  abbrev few_ways : Bool
  few_ways = leb (size n 0 (along T (take d P)) + fewest (den T at)) 2

  abbrev reaches : Bool
  reaches = leb (edge * billion ^ (size n 0 (along T (take d P)) + (likeliest billion (chance_in A) (den T at)).members)) (product (chance_in A) n 0 (along T (take d P)) * (likeliest billion (chance_in A) (den T at)).chance * billion)

  pub few_at : few_in F at ≡ fewest (den T at)
  few_at = w.fews.each at o.lent.root_in

  pub hope_short : {x : ℕ} → x ≡ few_in F at → d + x ≤ 2 → Hoped
  hope_short e h = to_hope (or_left few_ways (eqb r 2 && reaches) (le-leb (size n 0 (along T (take d P)) + fewest (den T at)) 2 (omega (arith, size_path o, few_at))))

  not_few : {x : ℕ} → x ≡ few_in F at → 2 < d + x → few_ways ≡ true → ⊥
  not_few e h t = let l = leb-true (size n 0 (along T (take d P)) + fewest (den T at)) 2 t in omega (arith, size_path o, few_at)

  pub hope_long : {x : ℕ} → x ≡ few_in F at → 2 < d + x → (r ≡ 2 → ⊥) → Hoped → ⊥
  hope_long e h z k = go (some few_ways (eqb r 2 && reaches) (from_hope k))
    where
      go : (few_ways ≡ true) ⊎ ((eqb r 2 && reaches) ≡ true) → ⊥
      go (inl t) = not_few e h t
      go (inr t) = z (eqb-true r 2 (and_both (eqb r 2) reaches t).0)

  -- exactly: p is the path's product, v that of the likeliest set too, u that times D, y the edge as high
  pub hope_exact : {x m p v u y : ℕ} (b : Bool) → x ≡ few_in F at → 2 < d + x → r ≡ 2 → p ≡ product_of (chance_in A) (events_of T (take d P)) → m ≡ (likeliest_at A T at).members
      → v ≡ p * (likeliest_at A T at).chance → u ≡ v * billion → y ≡ edge * billion ^ (d + m) → (b ≡ true → y ≤ u) × (b ≡ false → u < y) → Says b Hoped
  unfolding likeliest_at
  hope_exact {x} {m} {p} {v} {u} {y} b e h two qp qm qv qu qy (t, f) = go b t f
    where
      high : y ≡ edge * billion ^ (size n 0 (along T (take d P)) + (likeliest billion (chance_in A) (den T at)).members)
      high = qy ∙ ap₂ (λ i j. edge * billion ^ (i + j)) (sym (size_path o)) qm

      got : u ≡ product (chance_in A) n 0 (along T (take d P)) * (likeliest billion (chance_in A) (den T at)).chance * billion
      got = qu ∙ ap (λ i. i * billion) (qv ∙ ap (λ i. i * (likeliest billion (chance_in A) (den T at)).chance) (qp ∙ sym (product_path o (chance_in A))))

      reached : y ≤ u → reaches ≡ true
      reached g = le-leb (edge * billion ^ (size n 0 (along T (take d P)) + (likeliest billion (chance_in A) (den T at)).members)) (product (chance_in A) n 0 (along T (take d P)) * (likeliest billion (chance_in A) (den T at)).chance * billion)
          (subst (λ i. i ≤ product (chance_in A) n 0 (along T (take d P)) * (likeliest billion (chance_in A) (den T at)).chance * billion) high (subst (λ i. y ≤ i) got g))

      over_edge : reaches ≡ true → y ≤ u
      over_edge g = subst (λ i. y ≤ i) (sym got) (subst (λ i. i ≤ product (chance_in A) n 0 (along T (take d P)) * (likeliest billion (chance_in A) (den T at)).chance * billion) (sym high) (leb-true (edge * billion ^ (size n 0 (along T (take d P)) + (likeliest billion (chance_in A) (den T at)).members)) (product (chance_in A) n 0 (along T (take d P)) * (likeliest billion (chance_in A) (den T at)).chance * billion) g))

      apart : u < y → y ≤ u → ⊥
      apart g k = omega arith

      none : u < y → Hoped → ⊥
      none g k = either (some few_ways (eqb r 2 && reaches) (from_hope k))
        where
          either : (few_ways ≡ true) ⊎ ((eqb r 2 && reaches) ≡ true) → ⊥
          either (inl t) = not_few e h t
          either (inr t) = apart g (over_edge (and_both (eqb r 2) reaches t).1)

      go : (b : Bool) → (b ≡ true → y ≤ u) → (b ≡ false → u < y) → Says b Hoped
      go true t f = to_hope (or_right few_ways (eqb r 2 && reaches) (both (eqb r 2) reaches (eq-eqb r 2 two) (reached (t refl))))
      go false t f = none (f refl)
