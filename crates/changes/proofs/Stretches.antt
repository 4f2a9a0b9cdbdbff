-- The stretch that shows a first difference stands in its listing, and is the cut's bytes.
-- Assumes nothing.
use mathlib.Core.Path.{◌≡◌, sym, ap, ◌∙◌, subst}
use mathlib.Core.List.{List, [], ◌∷◌, ◌++◌, append-nil}
use Prim.Native.Nat.{ℕ, ◌+◌, ◌-◌, ◌≤◌, ◌<◌}
use native.Mathlib.Omega.{arith}
use lib.ListN.{length, take, drop, length-append}
use lib.Seq.{take_at, drop_at}
use Rattle.paper.specs.Limits.{limits}
use Rattle.paper.specs.Sets.{Set, members}
use Rattle.paper.specs.Listing.{set_bytes, sets_bytes}
use Rattle.paper.specs.Changes.{Shows}
use Rattle.algebra.proofs.Lists.{flat_append}
use Rattle.sidebyside.proofs.Coding.{cut_some}
use Rattle.std.specs.Prelude.{Option, Some, Ok}
use Rattle.sidebyside.specs.Sided.{ShowsIn}
use Rattle.sidebyside.specs.Finding.{Finds}
use Rattle.sidebyside.specs.declared.Side.{Side}
use Rattle.sidebyside.specs.declared.Side.TheVariants.{Yesterday, Today}
use Rattle.sidebyside.specs.declared.Difference.{Difference}
use Rattle.changes.specs.Answers.{Stretch}

-- s is what stands before it, the cut, and what stands behind it
shows_parts : {s u : List ℕ} {a e : ℕ} (w : Shows s u a e)
    → s ≡ sets_bytes limits.events w.front ++ (set_bytes limits.events w.set ++ sets_bytes limits.events w.behind)
shows_parts w = w.good.tells.bytes ∙ ap (sets_bytes limits.events) w.parts ∙ flat_append (set_bytes limits.events) w.front (w.set ∷ w.behind)

-- a cut has its end kind at least
set_some : (S : Set) → 0 < length (set_bytes limits.events S)
set_some S = subst (λ (t : List ℕ). 0 < length t) (append-nil (set_bytes limits.events S)) (cut_some (members limits.events S) [])

pub shows_some : {s u : List ℕ} {a e : ℕ} → Shows s u a e → a < e
shows_some w = let q = w.end in let p = set_some w.set in omega (arith, p, q)

pub shows_low : {s u : List ℕ} {a e : ℕ} → Shows s u a e → a ≤ e
shows_low w = let p = shows_some w in omega (arith, p)

part_at : (s f m b : List ℕ) (a e : ℕ) → s ≡ f ++ (m ++ b) → a ≡ length f → e ≡ a + length m → (e ≤ length s) × (take (e - a) (drop a s) ≡ m)
part_at s f m b a e p q r =
    let x = ap length p ∙ length-append f (m ++ b) in
    let y = length-append m b in
    let z : length m ≡ e - a = omega arith in
    (omega (arith, x, y, q, r), ap (λ (t : List ℕ). take (e - a) (drop a t)) p ∙ ap (take (e - a)) (drop_at f (m ++ b) a (sym q)) ∙ take_at m b (e - a) z)

pub shows_inside : {s u : List ℕ} {a e : ℕ} → Shows s u a e → e ≤ length s
shows_inside {s} {a = a} {e} w =
    (part_at s (sets_bytes limits.events w.front) (set_bytes limits.events w.set) (sets_bytes limits.events w.behind) a e (shows_parts w) w.start w.end).0

-- THE PART IS THE BYTES of the set's cut, its end kind with it
pub shows_bytes : {s u : List ℕ} {a e : ℕ} (w : Shows s u a e) → take (e - a) (drop a s) ≡ set_bytes limits.events w.set
shows_bytes {s} {a = a} {e} w =
    (part_at s (sets_bytes limits.events w.front) (set_bytes limits.events w.set) (sets_bytes limits.events w.behind) a e (shows_parts w) w.start w.end).1

-- so a part that shows a difference is never empty
pub stretch_some : {s u part : List ℕ} → Stretch s u part → 0 < length part
stretch_some v = subst (λ (t : List ℕ). 0 < length t) (sym (v.is ∙ shows_bytes v.shows)) (set_some v.shows.set)

-- what was found, by its side
pub shows_in : (y t : List ℕ) {f : Option Difference} {d : Difference} {s : Side} → Finds y t (Ok f) → f ≡ Some d → d.side ≡ s → ShowsIn y t s d.start d.end
shows_in y t {f} {d} h q e = subst (λ (s : Side). ShowsIn y t s d.start d.end) e (subst (λ (x : Option Difference). Finds y t (Ok x)) q h)

-- it is no less than its start, whose it may be
pub shows_in_low : (y t : List ℕ) (s : Side) {a e : ℕ} → ShowsIn y t s a e → a ≤ e
shows_in_low y t Yesterday w = shows_low w
shows_in_low y t Today w = shows_low w
