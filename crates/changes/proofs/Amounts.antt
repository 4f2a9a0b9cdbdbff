-- What the numbers of a comparison mean; one answer; and what it has to do with the side.
-- Assumes nothing.
use mathlib.Core.Path.{◌≡◌, refl, sym, ap, ap₂, ◌∙◌, subst}
use mathlib.Core.Logic.{◌↔◌}
use mathlib.Core.Bool.{true}
use mathlib.Core.List.{List, map, List-discrete}
use Prim.Native.Nat.{ℕ, ◌+◌}
use native.Mathlib.Decide.{ℕ_discrete}
use native.Mathlib.Omega.{arith}
use lib.ListN.{length, length-map}
use Rattle.paper.specs.Limits.{limits}
use Rattle.paper.specs.Lists.{In}
use Rattle.paper.specs.Sets.{Set, of_events, members, Within}
use Rattle.paper.specs.GoodListing.{Tells, Good}
use Rattle.paper.specs.Changes.{stands, gone, kept, Counts}
use Rattle.algebra.proofs.Lists.{in_map, map_in, in_has, has_in}
use Rattle.sidebyside.specs.Members.{cuts_bytes}
use Rattle.sidebyside.specs.Merging.{gone_of, kept_of, Tallies}
use Rattle.sidebyside.specs.Sided.{side_answer}
use Rattle.std.specs.Prelude.{Option, None, Some, Result, Ok, Err}
use Rattle.sidebyside.specs.declared.Side.{Side}
use Rattle.sidebyside.specs.declared.Numbers.{Numbers}
use Rattle.sidebyside.specs.declared.Side.TheVariants.{Yesterday, Today}
use Rattle.sidebyside.proofs.Sets.{of_members}
use Rattle.sidebyside.proofs.Telling.{tells_once, good_once, good_held}
use Rattle.sidebyside.proofs.Counting.{gone_kept, kept_flip, none_changed, gone_self}
use Rattle.sidebyside.proofs.Merging.{gone_cuts, kept_cuts}
use Rattle.changes.specs.Answers.{Compared, Sides, Compares, refused_of, compared_of, refused, counted}
use Rattle.changes.proofs.Once.{fault_once, fault_bad}

-- the test says whether the set stands there
pub stands_so : (S : Set) (l : List Set) → Within limits.events S → ((T : Set) → In T l → Within limits.events T) → (stands l S ≡ true) ↔ In S l
unfolding stands
stands_so S l w v = (
  (λ h. let (T, k, e) = map_in (members limits.events) (members limits.events S) l (has_in (List-discrete ℕ_discrete) (members limits.events S) (map (members limits.events) l) h) in
      let same : T ≡ S = sym (of_members limits.events T (v T k)) ∙ ap of_events (sym e) ∙ of_members limits.events S w in
      subst (λ (x : Set). In x l) same k),
  λ k. in_has (List-discrete ℕ_discrete) (members limits.events S) (map (members limits.events) l) (in_map (members limits.events) S l k),
)

module _ {y t : List ℕ} {g n k : ℕ} (w : Counts y t g n k) where
  abbrev ys : List (List ℕ)
  ys = map (members limits.events) w.good.sets

  abbrev ts : List (List ℕ)
  ts = map (members limits.events) w.other.sets

  goes : g ≡ gone_of ys ts
  goes = w.are_gone ∙ gone_cuts w.good.sets w.other.sets

  comes : n ≡ gone_of ts ys
  comes = w.are_new ∙ gone_cuts w.other.sets w.good.sets

  stays : k ≡ kept_of ys ts
  stays = w.are_kept ∙ kept_cuts w.good.sets w.other.sets

  -- YESTERDAY'S CUTS ARE GONE OR KEPT, today's new or kept
  pub count_yesterday : g + k ≡ length w.good.sets
  count_yesterday = let a = gone_kept ys ts in let d = length-map w.good.sets (members limits.events) in let p = goes in let q = stays in omega (arith, a, d, p, q)

  pub count_today : n + k ≡ length w.other.sets
  count_today =
      let a = gone_kept ts ys in
      let d = length-map w.other.sets (members limits.events) in
      let e = kept_flip (length ys + length ts) ys ts (omega arith) (good_held w.good).rows (good_held w.other).rows in
      let p = comes in
      let q = stays in
      omega (arith, a, d, e, p, q)

  -- EQUAL EXACTLY IF NONE IS GONE AND NONE NEW
  unchanged : (g ≡ 0) × (n ≡ 0) → y ≡ t
  unchanged (p, q) =
      let e = none_changed ys ts (good_held w.good).rows (good_held w.other).rows (sym goes ∙ p) (sym comes ∙ q) in
      (good_held w.good).bytes ∙ ap cuts_bytes e ∙ sym (good_held w.other).bytes

  none : y ≡ t → (g ≡ 0) × (n ≡ 0)
  none e =
      let same : ys ≡ ts = ap (map (members limits.events)) (tells_once w.good.tells (subst (λ (x : List ℕ). Tells x w.other.sets) (sym e) w.other.tells)) in (
        goes ∙ ap (λ (x : List (List ℕ)). gone_of x ts) same ∙ gone_self ts (good_held w.other).rows,
        comes ∙ ap (gone_of ts) same ∙ gone_self ts (good_held w.other).rows,
      )

  pub equal_exactly : Sides y t (Ok None) ↔ ((g ≡ 0) × (n ≡ 0))
  equal_exactly = ((λ s. none s.1), λ z. (w.good, unchanged z))

pub counts_once : {y t : List ℕ} {g n k g' n' k' : ℕ} → Counts y t g n k → Counts y t g' n' k' → (g ≡ g') × (n ≡ n') × (k ≡ k')
counts_once v w =
    let e = good_once v.good w.good in
    let d = good_once v.other w.other in
    (v.are_gone ∙ ap₂ gone e d ∙ sym w.are_gone, v.are_new ∙ ap₂ gone d e ∙ sym w.are_new, v.are_kept ∙ ap₂ kept e d ∙ sym w.are_kept)

pub compared_now : {y t : List ℕ} (r : Result Numbers Side) → Tallies y t r → Compares y t (compared_of r)
compared_now (Ok n) c = counted c refl refl refl
compared_now (Err s) f = refused s f refl

made : ℕ → ℕ → ℕ → ℕ → ℕ → ℕ → Compared
made number place side gone new kept = record { number = number; place = place; side = side; gone = gone; new = new; kept = kept }

-- ONE ANSWER
pub compares_once : {y t : List ℕ} {r s : Compared} → Compares y t r → Compares y t s → r ≡ s
unfolding made
compares_once {y} {t} (refused v a p) (refused w b q) = p ∙ ap refused_of (fault_once y t v w a b) ∙ sym q
compares_once {y} {t} (refused v a p) (counted c q u w) = absurd (fault_bad y t v a c.good c.other)
compares_once {y} {t} (counted c p u v) (refused w b q) = absurd (fault_bad y t w b c.good c.other)
compares_once {r = r} {s = s} (counted c p u v) (counted d q m n) = let (x, y, z) = counts_once c d in same r s (p ∙ sym q) (u ∙ sym m) (v ∙ sym n) x y z
  where
    same : (r s : Compared) → r.number ≡ s.number → r.place ≡ s.place → r.side ≡ s.side → r.gone ≡ s.gone → r.new ≡ s.new → r.kept ≡ s.kept → r ≡ s
    same r s a b c d e f = let q : made r.number r.place r.side r.gone r.new r.kept ≡ made s.number s.place s.side s.gone s.new s.kept = cc in q

-- THE NUMBER is the one that the side says, and in a refusal so is the side of the fault
pub compared_side : {y t : List ℕ} {r : Compared} (v : Result (Option Side) Side) → Compares y t r → Sides y t v → (r.number ≡ (side_answer v).number) × (r.place ≡ (side_answer v).place)
    × (r.number ≡ 20 → r.side ≡ (side_answer v).side)
compared_side {y} {t} (Ok None) (refused w a p) s = absurd (fault_bad y t w a s.0 (subst Good s.1 s.0))
compared_side {y} {t} (Ok (Some Yesterday)) (refused w a p) (b, e, s) = absurd (fault_bad y t w a s.good s.other)
compared_side {y} {t} (Ok (Some Today)) (refused w a p) (b, e, s) = absurd (fault_bad y t w a s.other s.good)
compared_side {y} {t} (Err v) (refused w a p) s =
    let q = p ∙ ap refused_of (fault_once y t w v a s) in
    (ap (λ (x : Compared). x.number) q, ap (λ (x : Compared). x.place) q, λ _. ap (λ (x : Compared). x.side) q)
compared_side (Ok None) (counted c p u q) s = (p, u, λ z. absurd (omega (arith, p, z)))
compared_side (Ok (Some v)) (counted c p u q) s = (p, u, λ z. absurd (omega (arith, p, z)))
compared_side {y} {t} (Err v) (counted c p u q) s = absurd (fault_bad y t v s c.good c.other)
