-- The set of a path in words, one node longer or shorter.
-- Assumes nothing.
use mathlib.Core.Path.{◌≡◌, refl, sym, ap, ap₂, ◌∙◌, fun_ext}
use mathlib.Core.Bool.{true, false}
use mathlib.Core.List.{List, [], ◌∷◌, ◌++◌, map-append}
use Prim.Native.Nat.{ℕ, suc, ◌+◌, ◌-◌, ◌≤◌, ◌<◌}
use native.Mathlib.Decide.{ℕ_discrete}
use native.Mathlib.Numerals.{add-one}
use native.Mathlib.Omega.{arith}
use lib.ListN.{length, get_or, take, set, replicate}
use lib.Seq.{take-suc-set}
use borrow.Author.Tests.{eq-eqb, ne_eqb}
use Rattle.paper.specs.Sets.{Set, Within, put, of_events}
use Rattle.algebra.proofs.Base.{put_same, put_other}
use Rattle.sets.specs.Words.{words, set_of, room}
use Rattle.sets.proofs.Words.{empty_none}
use Rattle.tables.specs.Table.{event_of}
use Rattle.walk.specs.Paths.{events_of, along, Climbs, Open, Carries}
use Rattle.walk.proofs.Paths.{climbs_length, room_for, here, shorter, top}

-- ---- the last event of a path

-- the order of two members does not matter
swap : (a b : ℕ) (S : Set) → put a true (put b true S) ≡ put b true (put a true S)
swap a b S = fun_ext (λ i. go i (ℕ_discrete i a) (ℕ_discrete i b))
  where
    go : (i : ℕ) → Dec (i ≡ a) → Dec (i ≡ b) → put a true (put b true S) i ≡ put b true (put a true S) i
    go i (yes p) (yes q) = rw (eq-eqb i a p, eq-eqb i b q) refl
    go i (yes p) (no q) = rw (eq-eqb i a p, ne_eqb i b q) refl
    go i (no p) (yes q) = rw (ne_eqb i a p, eq-eqb i b q) refl
    go i (no p) (no q) = rw (ne_eqb i a p, ne_eqb i b q) refl

-- an event more, at the end
pub events_more : (l : List ℕ) (e : ℕ) → of_events (l ++ (e ∷ [])) ≡ put e true (of_events l)
unfolding of_events
events_more [] e = refl
events_more (x ∷ l) e = ap (put x true) (events_more l e) ∙ swap x e (of_events l)

along_snoc : (T p : List ℕ) (i : ℕ) → along T (p ++ (i ∷ [])) ≡ put (event_of T i) true (along T p)
along_snoc T p i = ap of_events (map-append (event_of T) p (i ∷ [])) ∙ events_more (events_of T p) (event_of T i)

-- a path that ends below an event does not hold it
above : (T : List ℕ) (c : ℕ) (p : List ℕ) (m e : ℕ) → Climbs T c m p e → (j : ℕ) → e ≤ j → along T p j ≡ false
unfolding of_events
above T c [] m e w j h = refl
above T c (i ∷ p) m e w j h =
    let l = climbs_length T c p (suc (event_of T i)) e w.3 in
    put_other (event_of T i) true (along T p) j (λ q. omega arith) ∙ above T c p (suc (event_of T i)) e w.3 j h

-- put in and taken out again
undone : (e : ℕ) (S : Set) → S e ≡ false → put e false (put e true S) ≡ S
undone e S h = fun_ext (λ i. go i (ℕ_discrete i e))
  where
    go : (i : ℕ) → Dec (i ≡ e) → put e false (put e true S) i ≡ S i
    go i (yes q) = rw (eq-eqb i e q) (sym (ap S q ∙ h))
    go i (no q) = rw (ne_eqb i e q) refl

-- ---- the words

pub carries_none : (T P : List ℕ) {ws : List ℕ} → ws ≡ replicate words 0 → Carries T P 0 ws
unfolding of_events
carries_none T P e = record { long = ap length e; is = ap set_of e ∙ empty_none words }

module _ {n : ℕ} {T : List ℕ} {c : ℕ} {P : List ℕ} {d at : ℕ} (o : Open n T c P d at) {ws : List ℕ} (k : Carries T P d ws) where
  -- no path
  pub carries_zero : {z : ℕ} → d ≡ 0 → z ≡ 0 → Carries T P z ws
  carries_zero e z = record { long = k.long; is = k.is ∙ ap (λ (x : ℕ). along T (take x P)) (e ∙ sym z) }

  -- events up to the path's end alone
  pub carries_within : Within o.end (set_of ws)
  carries_within j h = ap (λ (S : Set). S j) k.is ∙ above T c (take d P) 0 o.end o.climbs j h

  pub carries_empty : d ≡ 0 → Within 0 (set_of ws)
  unfolding of_events
  carries_empty z j h = ap (λ (S : Set). S j) (k.is ∙ ap (λ (x : ℕ). along T (take x P)) z)

  -- the node put on the path
  module _ (two : 2 ≤ at) {e : ℕ} (qe : e ≡ event_of T at) where
    pub carries_room : e < room ws
    carries_room =
        let l = k.long in
        let f = o.lent.few_events in
        let h = (here o two).event in
        omega arith

    pub carries_push : {ws' : List ℕ} → length ws' ≡ length ws → set_of ws' ≡ put e true (set_of ws) → Carries T (set P d at) (d + 1) ws'
    carries_push l q = record {
      long = l ∙ k.long;
      is = q ∙ ap₂ (λ (x : ℕ) (S : Set). put x true S) qe k.is ∙ sym (along_snoc T (take d P) at)
          ∙ ap (along T) (sym (ap (λ (x : ℕ). take x (set P d at)) (add-one d) ∙ take-suc-set P d at (room_for o two)));
    }

  -- the node on top taken off
  module _ (some : 0 < d) {i e : ℕ} (qi : i ≡ get_or P (d - 1) 0) (qe : e ≡ event_of T i) where
    whole : set_of ws ≡ put e true (along T (take (d - 1) P))
    whole = k.is ∙ ap (along T) (shorter o some qi) ∙ along_snoc T (take (d - 1) P) i ∙ ap (λ (x : ℕ). put x true (along T (take (d - 1) P))) (sym qe)

    pub carries_holds : (e < room ws) × (set_of ws e ≡ true)
    carries_holds =
        let l = k.long in
        let f = o.lent.few_events in
        let t = (top o some qi).3 in
        let low = o.low in
        (omega arith, ap (λ (S : Set). S e) whole ∙ put_same e true (along T (take (d - 1) P)))

    lower : (j : ℕ) → e ≤ j → along T (take (d - 1) P) j ≡ false
    lower j h = above T c (take (d - 1) P) 0 (event_of T i) (top o some qi).0 j (omega arith)

    popped : {S' : Set} → S' ≡ put e false (set_of ws) → S' ≡ along T (take (d - 1) P)
    popped q = q ∙ ap (put e false) whole ∙ undone e (along T (take (d - 1) P)) (lower e (omega arith))

    pub carries_pop : {ws' : List ℕ} → length ws' ≡ length ws → set_of ws' ≡ put e false (set_of ws) → Carries T P (d - 1) ws'
    carries_pop l q = record { long = l ∙ k.long; is = popped q }

    -- its event was the highest
    pub carries_lower : {S' : Set} → S' ≡ put e false (set_of ws) → Within e S'
    carries_lower q j h = ap (λ (S : Set). S j) (popped q) ∙ lower j h
