-- The members of a path's set are its events, and those below an event above them all are as many as its nodes.
-- Assumes nothing.
use mathlib.Core.Path.{◌≡◌, refl, sym, ap, ap₂, ◌∙◌, subst}
use mathlib.Core.Bool.{true, false}
use mathlib.Core.List.{List, [], ◌∷◌}
use Prim.Native.Nat.{ℕ, zero, suc, ◌+◌, ◌≤◌, ◌<◌}
use native.Mathlib.Decide.{ℕ_discrete}
use native.Mathlib.Omega.{arith}
use lib.ListN.{length, take, length-map}
use Rattle.paper.specs.Lists.{keep, up_to}
use Rattle.paper.specs.Sets.{Within, members, of_events}
use Rattle.algebra.proofs.Base.{put_same as put-own, put_other}
use Rattle.sets.specs.Words.{set_of}
use Rattle.sets.proofs.Count.{keep_agree, members_all}
use Rattle.tables.specs.Table.{event_of}
use Rattle.walk.specs.Paths.{events_of, along, Climbs, Open, Carries}
use Rattle.walk.proofs.Paths.{climbs_weak, climbs_length, path_length}

-- below its first event a path's set has no member
under : (T : List ℕ) (c : ℕ) (p : List ℕ) (m e : ℕ) → Climbs T c m p e → (j : ℕ) → j < m → along T p j ≡ false
unfolding of_events
under T c [] m e w j h = refl
under T c (i ∷ p) m e w j h =
    let a = w.2 in
    put_other (event_of T i) true (along T p) j (λ q. omega arith) ∙ under T c p (suc (event_of T i)) e w.3 j (omega arith)

members_from : (T : List ℕ) (c : ℕ) (k m : ℕ) (p : List ℕ) → Climbs T c m p (m + k) → keep (along T p) (up_to k m) ≡ events_of T p
unfolding of_events
members_from T c zero m [] w = refl
members_from T c zero m (i ∷ p) w = let l = climbs_length T c (i ∷ p) m (m + 0) w in absurd (omega arith)
members_from T c (suc k) m [] w = members_from T c k (suc m) [] (omega arith)
members_from T c (suc k) m (i ∷ p) w = go (ℕ_discrete (event_of T i) m) (λ v. members_from T c k (suc m) p v) (λ v. members_from T c k (suc m) (i ∷ p) v)
  where
    end : m + suc k ≡ suc m + k
    end = omega arith

    rise : Climbs T c (suc (event_of T i)) p (suc m + k)
    rise = subst (λ (e : ℕ). Climbs T c (suc (event_of T i)) p e) end w.3

    go : Dec (event_of T i ≡ m) → (Climbs T c (suc m) p (suc m + k) → keep (along T p) (up_to k (suc m)) ≡ events_of T p)
        → (Climbs T c (suc m) (i ∷ p) (suc m + k) → keep (along T (i ∷ p)) (up_to k (suc m)) ≡ events_of T (i ∷ p)) → keep (along T (i ∷ p)) (up_to (suc k) m) ≡ events_of T (i ∷ p)
    go (yes q) here on =
        let holds : along T (i ∷ p) m ≡ true = ap (along T (i ∷ p)) (sym q) ∙ put-own (event_of T i) true (along T p) in
        let rest : keep (along T (i ∷ p)) (up_to k (suc m)) ≡ keep (along T p) (up_to k (suc m)) =
        keep_agree (along T (i ∷ p)) (along T p) k (suc m) (λ j h _. put_other (event_of T i) true (along T p) j (λ z. omega arith)) in
        rw holds (ap₂ (λ (x : ℕ) (l : List ℕ). x ∷ l) (sym q) (rest ∙ here (subst (λ (x : ℕ). Climbs T c (suc x) p (suc m + k)) q rise)))
    go (no q) here on =
        let a = w.2 in
        let above : Climbs T c (suc m) (i ∷ p) (suc m + k) = (w.0, w.1, omega arith, rise) in
        rw (under T c (i ∷ p) (suc m) (suc m + k) above m (omega arith)) (on above)

-- THE MEMBERS of the set of a path, among the events of the diagram and more
module _ {n : ℕ} {T : List ℕ} {c : ℕ} {P : List ℕ} {d at : ℕ} (o : Open n T c P d at) where
  pub path_members : (k : ℕ) → n ≤ k → members k (along T (take d P)) ≡ events_of T (take d P)
  path_members k h =
      let l = o.low in
      let e : k ≡ 0 + k = omega arith in
      members_from T c k 0 (take d P) (subst (λ (x : ℕ). Climbs T c 0 (take d P) x) e (climbs_weak T c (take d P) 0 o.end k (omega arith) o.climbs))

  pub events_length : length (events_of T (take d P)) ≡ d
  events_length = length-map (take d P) (event_of T) ∙ path_length o

  -- so many are below an event from which on there is none
  pub path_count : {ws : List ℕ} → Carries T P d ws → {low : ℕ} → Within low (set_of ws) → length (members low (set_of ws)) ≡ d
  path_count {ws} k {low} w =
      ap length (sym (members_all (set_of ws) low (n + low) (omega arith) w) ∙ ap (members (n + low)) k.is ∙ path_members (n + low) (omega arith)) ∙ events_length
