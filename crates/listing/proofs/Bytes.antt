-- The bytes of a path's cut, placed in a room.
-- Assumes nothing.
use mathlib.Core.Path.{◌≡◌, sym, ap, ap₂, ◌∙◌, subst}
use mathlib.Core.Bool.{Bool, true, false, cond}
use mathlib.Core.List.{List, [], ◌∷◌, ◌++◌, append-nil}
use Prim.Native.Nat.{ℕ, zero, suc, ◌+◌, ◌-◌, ◌≤◌}
use native.Mathlib.Nat.{le_of_eq}
use native.Mathlib.Omega.{arith}
use lib.ListN.{length, take, drop, length-drop, length-take, drop_of_length-le}
use lib.Seq.{take_all, drop-drop}
use borrow.Rule.Slice.PartMut.{put_mid, mid_of, post_of, put_same}
use Rattle.std.proofs.Common.{Option, Some, None}
use Rattle.paper.specs.Limits.{limits}
use Rattle.paper.specs.Lists.{keep, up_to}
use Rattle.paper.specs.Sets.{Set}
use Rattle.paper.specs.Listing.{cut_bytes, set_bytes}
use Rattle.sets.specs.Words.{set_of, room}
use Rattle.sets.specs.Bytes.{Laid}
use Rattle.walk.specs.Paths.{events_of, along, Open, Carries}
use Rattle.walk.proofs.Members.{path_members}
use Rattle.listing.specs.Bytes.{Placed, Below}

-- ---- the bytes of a path's set

keep_below : (S : Set) (k m n : ℕ) → m + k ≤ n → Below n (keep S (up_to k m))
keep_below S zero m n h = tt
keep_below S (suc k) m n h = go (S m) (keep S (up_to k (suc m))) (keep_below S k (suc m) n (omega arith))
  where
    go : (b : Bool) (l : List ℕ) → Below n l → Below n (cond b (m ∷ l) l)
    go true l w = (omega arith, w)
    go false l w = w

module _ {n : ℕ} {T : List ℕ} {c : ℕ} {P : List ℕ} {d at : ℕ} (o : Open n T c P d at) where
  -- they are those of the path's events, whatever the width
  pub path_bytes : (k : ℕ) → n ≤ k → set_bytes k (along T (take d P)) ≡ cut_bytes (events_of T (take d P))
  path_bytes k h = ap cut_bytes (path_members o k h)

  -- and these are among the events that there may be
  pub path_below : Below limits.events (events_of T (take d P))
  path_below = let f = o.lent.few_events in subst (Below limits.events) (path_members o n (omega arith)) (keep_below (along T (take d P)) n 0 limits.events (omega arith))

-- the bytes of words that go with the path are those of the path
module _ {n : ℕ} {T : List ℕ} {c : ℕ} {P : List ℕ} {d at : ℕ} (o : Open n T c P d at) {ws : List ℕ} (k : Carries T P d ws) where
  carries_bytes : set_bytes (room ws) (set_of ws) ≡ set_bytes n (along T (take d P))
  carries_bytes =
      let l = k.long in
      let f = o.lent.few_events in
      ap (set_bytes (room ws)) k.is ∙ path_bytes o (room ws) (omega arith) ∙ sym (path_bytes o n (omega arith))

  pub carries_placed : (R : List ℕ) (used : ℕ) (r : Option ℕ) (R' : List ℕ) → Placed R used (set_bytes (room ws) (set_of ws)) r R' → Placed R used (set_bytes n (along T (take d P))) r R'
  carries_placed R used r R' p = subst (λ (cut : List ℕ). Placed R used cut r R') carries_bytes p

-- ---- placed behind the bytes already used

-- the part that was lent runs to the end, so nothing stands behind it
shape : (room : List ℕ) (used r : ℕ) (cut part : List ℕ) → part ≡ cut ++ drop r (mid_of used (length room - used) room) → put_mid used (length room - used) room part ≡ take used room ++ (cut ++ drop (used + r) room)
shape room used r cut part e =
    let mid : mid_of used (length room - used) room ≡ drop used room = take_all (length room - used) (drop used room) (le_of_eq (length-drop used room)) in
    let post : post_of used (length room - used) room ≡ [] = drop_of_length-le (drop used room) (le_of_eq (length-drop used room)) in
    let part' : part ≡ cut ++ drop (used + r) room = e ∙ ap (λ (x : List ℕ). cut ++ drop r x) mid ∙ ap (λ (x : List ℕ). cut ++ x) (drop-drop r used room) in
    ap₂ (λ (x y : List ℕ). take used room ++ (x ++ y)) part' post ∙ ap (λ (x : List ℕ). take used room ++ x) (append-nil (cut ++ drop (used + r) room))

-- what was laid at the front of that part is placed behind the bytes before it
pub place : (room : List ℕ) (used : ℕ) (cut : List ℕ) (r : Option ℕ) (part : List ℕ) → used ≤ length room → Laid cut (mid_of used (length room - used) room) r part
    → Placed room used cut r (put_mid used (length room - used) room part)
place room used cut None part u l =
    let long : length (mid_of used (length room - used) room) ≡ length room - used = simp (length-take, length-drop) (omega arith) in
    let h = l.0 in
    (omega arith, ap (put_mid used (length room - used) room) l.1 ∙ put_same used (length room - used) room)
place room used cut (Some r) part u l =
    let long : length (mid_of used (length room - used) room) ≡ length room - used = simp (length-take, length-drop) (omega arith) in
    let h = l.1 in
    (l.0, omega arith, shape room used r cut part l.2)
