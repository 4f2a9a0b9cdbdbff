-- What stays of a set on the way up and down: the events below the lowest that changed.
-- Assumes nothing.
use mathlib.Core.Path.{◌≡◌, refl, sym, ap, ◌∙◌, subst, subst₂}
use mathlib.Core.Bool.{true, false, false≢true}
use mathlib.Core.List.{List}
use Prim.Native.Nat.{ℕ, ◌+◌, ◌-◌, ◌≤◌, ◌<◌}
use native.Mathlib.Decide.{dec_lt}
use native.Mathlib.Omega.{arith}
use lib.ListN.{length, get_or}
use Rattle.paper.specs.Sets.{Set, Within, put, members}
use Rattle.algebra.proofs.Base.{put_other}
use Rattle.sets.specs.Words.{set_of, Lowest}
use Rattle.sets.proofs.Count.{keep_agree}
use Rattle.tables.specs.Table.{event_of, failed_of, sound_of}
use Rattle.tables.proofs.Lent.{lent_node}
use Rattle.walk.specs.Paths.{Open, Carries}
use Rattle.walk.specs.Follows.{Parts, Shorter, Longer, Follows, Starts}
use Rattle.walk.proofs.Paths.{here, top}
use Rattle.walk.proofs.Carry.{carries_within, carries_empty, carries_holds, carries_lower}

-- ---- up

-- S' has the events of S below some event, and no others
pub record Trimmed (S S' : Set) : Type 0 where
  pub bound : ℕ
  pub same : (j : ℕ) → j < bound → S' j ≡ S j
  pub within : Within bound S'

module _ {n : ℕ} {T : List ℕ} {c : ℕ} {P : List ℕ} {d at : ℕ} (o : Open n T c P d at) {ws : List ℕ} (k : Carries T P d ws) where
  pub trim_start : Trimmed (set_of ws) (set_of ws)
  trim_start = record { bound = o.end; same = λ j h. refl; within = carries_within o k }

  -- no path, so no event
  pub parts_none : (b : ℕ) → d ≡ 0 → Parts n T (set_of ws) b 0
  parts_none b z = record { inside = o.lent.some_event; below = carries_empty o k z; above = λ h. omega arith }

  -- the node on top taken off: its event is the highest
  module _ (some : 0 < d) {i e : ℕ} (qi : i ≡ get_or P (d - 1) 0) (qe : e ≡ event_of T i) {S : Set} (t : Trimmed S (set_of ws)) {S' : Set} (q : S' ≡ put e false (set_of ws)) where
    low : e < t.bound
    low = go (dec_lt e t.bound)
      where
        go : Dec (e < t.bound) → e < t.bound
        go (yes h) = h
        go (no h) = absurd (false≢true (sym (t.within e (omega arith)) ∙ (carries_holds o k some qi qe).1))

    same : (j : ℕ) → j < e → S' j ≡ S j
    same j h = let l = low in ap (λ (U : Set). U j) q ∙ put_other e false (set_of ws) j (λ z. omega arith) ∙ t.same j (omega arith)

    pub trim_pop : Trimmed S (S')
    trim_pop = record { bound = e; same = same; within = carries_lower o k some qi qe q }

    module _ {b : ℕ} (qb : b ≡ sound_of T i) where
      pub parts_pop : Parts n T (S') b e
      parts_pop =
          let up = top o some qi in
          let nd = lent_node o.lent up.1 up.2 in
          let v = nd.event in
          let rise : 2 ≤ sound_of T i → event_of T i < event_of T (sound_of T i) = nd.sound_above in
          record { inside = omega arith; below = carries_lower o k some qi qe q; above = subst (λ (y : ℕ). 2 ≤ y → e ≤ event_of T y) (sym qb) (λ h. let r = rise h in omega arith) }

      pub shorter_pop : Shorter S (S') e
      shorter_pop = record { held = sym (t.same e low) ∙ (carries_holds o k some qi qe).1; same = same }

-- ---- down

module _ {n : ℕ} {T : List ℕ} {S : Set} {at low : ℕ} (p : Parts n T S at low) where
  pub longer_start : Longer n S S low low
  longer_start = record { same = λ j h. refl; rise = omega arith; inside = p.inside; within = λ j h. p.below j (omega arith) }

-- a node put on the path, whose event is not below the highest
module _ {n : ℕ} {T : List ℕ} {c : ℕ} {P : List ℕ} {d at : ℕ} (o : Open n T c P d at) (two : 2 ≤ at) {S S' : Set} {low high : ℕ} (g : Longer n S S' low high) (up : 2 ≤ at → high ≤ event_of T at) where
  pub longer_push : {e : ℕ} → e ≡ event_of T at → {S'' : Set} → S'' ≡ put e true S' → Longer n S S'' low e
  longer_push {e} qe q =
      let a = up two in
      let r = g.rise in
      let v = (here o two).event in
      record {
        same = λ j h. ap (λ (U : Set). U j) q ∙ put_other e true S' j (λ z. omega arith) ∙ g.same j h;
        rise = omega arith;
        inside = omega arith;
        within = λ j h. ap (λ (U : Set). U j) q ∙ put_other e true S' j (λ z. omega arith) ∙ g.within j (omega arith);
      }

  pub longer_up : {e f : ℕ} → e ≡ event_of T at → f ≡ failed_of T at → 2 ≤ f → e ≤ event_of T f
  longer_up {e} qe qf = subst (λ (y : ℕ). 2 ≤ y → e ≤ event_of T y) (sym qf) (λ h. let r = rise h in omega arith)
    where
      rise : 2 ≤ failed_of T at → event_of T at < event_of T (failed_of T at)
      rise = (here o two).failed_above

-- ---- both

pub follows : {n : ℕ} {S S' S'' : Set} {kept low high kept' low' : ℕ} → Shorter S S' low → length (members low S') ≡ kept → Longer n S' S'' low high → kept' ≡ kept → low' ≡ low → Follows n S S'' kept' low' high
follows {n} {S} {S'} {S''} {low = low} {high} a m b qk ql = subst₂ (λ (k l : ℕ). Follows n S S'' k l high) (sym qk) (sym ql) (record {
  held = a.held;
  same = λ j l. b.same j l ∙ a.same j l;
  many = sym (ap length (keep_agree S'' S' low 0 (λ j p q. b.same j (omega arith))) ∙ m);
  rise = b.rise;
  inside = b.inside;
  within = b.within;
})

-- from the empty path all is new
pub starts : {n : ℕ} {S S' : Set} {low high kept' low' : ℕ} → Longer n S S' low high → kept' ≡ 0 → low' ≡ 0 → Starts n S' kept' low' high
starts b qk ql = record { no_member = qk; no_event = ql; inside = b.inside; within = b.within }

-- ---- along a set: events below i are dealt with

pub within_on : {S : Set} {i e : ℕ} → Within i S → i ≤ e → Within (e + 1) S
within_on w h j l = w j (omega arith)

pub within_put : {S S' : Set} {i e : ℕ} → Within i S → i ≤ e → S' ≡ put e true S → Within (e + 1) S'
within_put {S} {e = e} w h q j l = ap (λ (U : Set). U j) q ∙ put_other e true S j (λ z. omega arith) ∙ w j (omega arith)

-- where the set that is followed has x as its lowest member from i on
pub parts_stop : {n : ℕ} {T : List ℕ} {U S : Set} {m i x at : ℕ} → Lowest U m i x → n ≤ m → x < n → Within i S → (2 ≤ at → x ≤ event_of T at) → Parts n T S at x
parts_stop lo wide h w a = let up = lo.above (omega arith) in record { inside = h; below = λ j l. w j (omega arith); above = a }
