-- `listing::member_at` meets its contract. Assumes nothing.
use native.Mathlib.Omega.{arith}
use mathlib.Core.Path.{ap₂, ◌∙◌}
use Prim.Native.Nat.{ℕ, ◌+◌, ◌*◌}
use Rattle.listing.proofs.ReadBack.{two_bytes, three_bytes, told_narrow, told_wide}
use Rattle.listing.proofs.member_at.Goals as goal

pub overflow_add-at : goal.overflow_add-at
overflow_add-at c = omega (arith, two_bytes c.requires.stands)

pub bounds-room-at : goal.bounds-room-at
bounds-room-at c = two_bytes c.requires.stands

pub bounds-room-at-2 : goal.bounds-room-at-2
bounds-room-at-2 c = omega (arith, two_bytes c.requires.stands)

pub returns-then-room-at-eq33 : goal.returns-then-room-at-eq33
returns-then-room-at-eq33 c = λ e m. let t = told_narrow m c.if-room-at-eq33.true in (c.from-low.ensures ∙ t.0, t.1)

pub overflow_add-at-2 : goal.overflow_add-at-2
overflow_add-at-2 c = omega (arith, three_bytes c.requires.stands c.if-room-at-eq33.false)

pub bounds-room-at-3 : goal.bounds-room-at-3
bounds-room-at-3 c = three_bytes c.requires.stands c.if-room-at-eq33.false

pub returns : goal.returns
returns c = λ e m. let t = told_wide m c.if-room-at-eq33.false in (ap₂ (λ (x y : ℕ). x + 256 * y) c.from-low.ensures c.from-high.ensures ∙ t.0, t.1)
