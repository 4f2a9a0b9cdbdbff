-- Cases of a test, and of the kind of a record.
-- Assumes nothing.
use mathlib.Core.Path.{◌≡◌, refl}
use mathlib.Core.Logic.{◌⊎◌, inl, inr}
use mathlib.Core.Bool.{Bool, true, false}
use mathlib.Core.List.{List}
use Prim.Native.Nat.{ℕ, ◌+◌, ◌*◌, ◌≤◌, ◌<◌}
use native.Mathlib.Omega.{arith}
use lib.ListN.{length}
use lib.Dec.{ltb, eqb}
use borrow.Author.Tests.{ltb-true, ltb-false, eqb-true, eqb-false, lt-ltb, le-ltb, eq-eqb, ne_eqb}
use Rattle.paper.specs.Limits.{limits, old_limits}
use Rattle.std.specs.Prelude.{if◌then◌else◌}
use Rattle.rules.specs.Format.{byte, length_of, hidden, event_in, event_length, body_of, record_of, width_of}
use Rattle.rules.specs.declared.format.Record.{Record}
use Rattle.rules.specs.declared.format.Record.TheVariants.{Missing, Unknown, Short, Event, SitedEvent, Gate, EventInput, GateInput, WideInput, End}

-- a choice, by its two cases
pub if_elim : {A : Type 0} (P : A → Type 0) (b : Bool) {x y : A} → (b ≡ true → P x) → (b ≡ false → P y) → P (if b then x else y)
if_elim P true f g = f refl
if_elim P false f g = g refl

pub either : {X : Type 0} (b : Bool) → (b ≡ true → X) → (b ≡ false → X) → X
either true f g = f refl
either false f g = g refl

-- an order by refuting its opposite
pub ≤_or : {m n : ℕ} → (n < m → ⊥) → m ≤ n
≤_or {m} {n} never = either (ltb n m) (λ e. absurd (never (ltb-true n m e))) (ltb-false n m)

-- a record of a known kind: its kind, its length and what it is
pub known : (b : List ℕ) (P : ℕ → ℕ → Record → Type 0)
    → P 1 5 (Event (byte b 1 + 256 * (byte b 2 + 256 * (byte b 3 + 256 * byte b 4))))
    → P 2 2 (Gate 2 0 (byte b 1))
    → P 3 2 (Gate 3 0 (byte b 1))
    → P 4 3 (Gate 4 (byte b 1) (byte b 2))
    → P 5 2 (EventInput (byte b 1))
    → P 6 3 (GateInput (byte b 1 + 256 * byte b 2))
    → P 7 1 End
    → P 8 3 (WideInput (byte b 1 + 256 * byte b 2))
    → P 0x11 7 (SitedEvent (byte b 1 + 256 * (byte b 2 + 256 * (byte b 3 + 256 * byte b 4))) (byte b 5 + 256 * byte b 6))
    → (k : ℕ) → (length_of k ≡ 0 → ⊥) → P k (length_of k) (body_of k b)
unfolding body_of
known b P p1 p2 p3 p4 p5 p6 p7 p8 p17 k some =
    either (eqb k 1) (λ e. rw (eqb-true k 1 e) p1)
    (λ e1. either (eqb k 2) (λ e. rw (eqb-true k 2 e) p2)
    (λ e2. either (eqb k 3) (λ e. rw (eqb-true k 3 e) p3)
    (λ e3. either (eqb k 4) (λ e. rw (eqb-true k 4 e) p4)
    (λ e4. either (eqb k 5) (λ e. rw (eqb-true k 5 e) p5)
    (λ e5. either (eqb k 6) (λ e. rw (eqb-true k 6 e) p6)
    (λ e6. either (eqb k 7) (λ e. rw (eqb-true k 7 e) p7)
    (λ e7. either (eqb k 8) (λ e. rw (eqb-true k 8 e) p8)
    (λ e8. either (eqb k 0x11) (λ e. rw (eqb-true k 0x11 e) p17)
    (λ e17. absurd (some (rw (e1, e2, e3, e4, e5, e6, e7, e8, e17))))))))))))

-- the record at the front of some bytes, by its four cases
pub front : (b : List ℕ) (P : Record → Type 0)
    → (length b ≡ 0 → P Missing)
    → (1 ≤ length b → P Unknown)
    → (1 ≤ length b → length b < length_of (byte b 0) → P Short)
    → (1 ≤ length b → (length_of (byte b 0) ≡ 0 → ⊥) → length_of (byte b 0) ≤ length b → P (body_of (byte b 0) b))
    → P (record_of limits b)
unfolding record_of
front b P missing unknown short whole =
    if_elim P (eqb (length b) 0) (λ e. missing (eqb-true (length b) 0 e))
    (λ some.
    let one : 1 ≤ length b = omega (arith, eqb-false (length b) 0 some) in
    if_elim P (eqb (length_of (byte b 0)) 0) (λ _. unknown one)
    (λ kind. if_elim P (ltb (length b) (length_of (byte b 0))) (λ e. short one (ltb-true (length b) (length_of (byte b 0)) e))
    (λ e. whole one (eqb-false (length_of (byte b 0)) 0 kind) (ltb-false (length b) (length_of (byte b 0)) e))))

module _ (b : List ℕ) where
  pub is_missing : length b ≡ 0 → Missing ≡ record_of limits b
  unfolding record_of
  is_missing e = rw (eq-eqb _ _ e)

  pub is_unknown : (length b ≡ 0 → ⊥) → length_of (byte b 0) ≡ 0 → Unknown ≡ record_of limits b
  unfolding record_of
  is_unknown some e = rw (ne_eqb _ _ some, e)

  pub is_short : (length b ≡ 0 → ⊥) → (length_of (byte b 0) ≡ 0 → ⊥) → length b < length_of (byte b 0) → Short ≡ record_of limits b
  unfolding record_of
  is_short some kind e = rw (ne_eqb _ _ some, ne_eqb _ _ kind, lt-ltb _ _ e)

  -- the record of kind k, whose bytes are there
  pub is_whole : (k : ℕ) → byte b 0 ≡ k → (length b ≡ 0 → ⊥) → (length_of k ≡ 0 → ⊥) → length_of k ≤ length b → body_of k b ≡ record_of limits b
  unfolding record_of
  is_whole k q some kind e = rw (q, ne_eqb (length b) 0 some, ne_eqb (length_of k) 0 kind, le-ltb (length b) (length_of k) e)

  pub width_le : width_of (record_of limits b) ≤ length b
  width_le =
      front b (λ r. width_of r ≤ length b) (λ _. omega arith) (λ h. h) (λ _ _. omega arith)
      (λ one some h.
      known b (λ k n r. n ≤ length b → width_of r ≤ length b) (λ m. m) (λ m. m) (λ m. m) (λ m. m) (λ m. m) (λ m. m) (λ m. m) (λ m. m) (λ m. m) (byte b 0) some h)

pub width_small : (r : Record) → width_of r ≤ 7
width_small Missing = omega arith
width_small Unknown = omega arith
width_small Short = omega arith
width_small (Event c) = omega arith
width_small (SitedEvent c site) = omega arith
width_small (Gate kind k n) = if_elim (λ (w : ℕ). w ≤ 7) (eqb kind 4) (λ _. omega arith) (λ _. omega arith)
width_small (EventInput e) = omega arith
width_small (GateInput g) = omega arith
width_small (WideInput e) = omega arith
width_small End = omega arith

pub gate_small : (kind k n : ℕ) → (1 ≤ width_of (Gate kind k n)) × (width_of (Gate kind k n) ≤ 3)
gate_small kind k n = if_elim (λ (w : ℕ). (1 ≤ w) × (w ≤ 3)) (eqb kind 4) (λ _. (omega arith, omega arith)) (λ _. (omega arith, omega arith))

-- a record of none of the other known kinds is an end
pub body_end : (b : List ℕ) (k : ℕ) → (k ≡ 1 → ⊥) → (k ≡ 2 → ⊥) → (k ≡ 3 → ⊥) → (k ≡ 4 → ⊥) → (k ≡ 5 → ⊥) → (k ≡ 6 → ⊥) → (k ≡ 8 → ⊥) → (k ≡ 0x11 → ⊥) → End ≡ body_of k b
unfolding body_of
body_end b k n1 n2 n3 n4 n5 n6 n8 n17 = rw (ne_eqb k 1 n1, ne_eqb k 2 n2, ne_eqb k 3 n3, ne_eqb k 4 n4, ne_eqb k 5 n5, ne_eqb k 6 n6, ne_eqb k 8 n8, ne_eqb k 0x11 n17)

pub length_small : (k : ℕ) → length_of k ≤ 7
length_small k =
    let P : ℕ → Type 0 = λ n. n ≤ 7 in
    if_elim P (eqb k 1) (λ _. omega arith)
    (λ _. if_elim P (eqb k 2) (λ _. omega arith)
    (λ _. if_elim P (eqb k 3) (λ _. omega arith)
    (λ _. if_elim P (eqb k 4) (λ _. omega arith)
    (λ _. if_elim P (eqb k 5) (λ _. omega arith)
    (λ _. if_elim P (eqb k 6) (λ _. omega arith)
    (λ _. if_elim P (eqb k 7) (λ _. omega arith)
    (λ _. if_elim P (eqb k 8) (λ _. omega arith)
    (λ _. if_elim P (eqb k 0x11) (λ _. omega arith) (λ _. omega arith)))))))))

-- an event's record, with a site or without
pub event_width : (sited : Bool) (c site : ℕ) → width_of (event_in sited c site) ≡ event_length sited
event_width true c site = refl
event_width false c site = refl

pub event_small : (sited : Bool) → (5 ≤ event_length sited) × (event_length sited ≤ 7)
event_small true = (omega arith, omega arith)
event_small false = (omega arith, omega arith)

-- ---- a reading without kinds 8 and 11

-- a record of one of them, or one that ends too early
abbrev pub Newer : Record → Type 0
Newer Missing = ⊥
Newer Unknown = ⊥
Newer Short = Unit {0}
Newer (Event c) = ⊥
Newer (SitedEvent c site) = Unit {0}
Newer (Gate kind k n) = ⊥
Newer (EventInput e) = ⊥
Newer (GateInput g) = ⊥
Newer (WideInput e) = Unit {0}
Newer End = ⊥

module _ (b : List ℕ) where
  other_kind : hidden old_limits (byte b 0) ≡ false → record_of old_limits b ≡ record_of limits b
  unfolding record_of
  other_kind e = rw e

  new_kind : (k : ℕ) → hidden old_limits k ≡ true → (k ≡ 8) ⊎ (k ≡ 0x11)
  new_kind k e = either (eqb k 8) (λ q. inl (eqb-true k 8 q)) (λ q. inr (eqb-true k 0x11 (rw q at e)))

  newer_kind : eqb (length b) 0 ≡ false → (byte b 0 ≡ 8) ⊎ (byte b 0 ≡ 0x11) → (record_of old_limits b ≡ Unknown) × Newer (record_of limits b)
  unfolding record_of body_of
  newer_kind some (inl is) = (rw (some, is), rw (some, is) (if_elim Newer (ltb (length b) 3) (λ _. tt) (λ _. tt)))
  newer_kind some (inr is) = (rw (some, is), rw (some, is) (if_elim Newer (ltb (length b) 7) (λ _. tt) (λ _. tt)))

  sited_kind : {c site : ℕ} → record_of limits b ≡ SitedEvent c site → (1 ≤ length b) × (byte b 0 ≡ 0x11)
  sited_kind {c} {site} =
      let Q : Type 0 = (1 ≤ length b) × (byte b 0 ≡ 0x11) in
      let P : Record → Type 0 = λ r. r ≡ SitedEvent c site → Q in
      let never : ◌≡◌ {A = ℕ} 0 1 → Q = λ z. absurd (omega arith) in
      front b P (λ _ p. never (cc)) (λ _ p. never (cc)) (λ _ _ p. never (cc))
      (λ one some _. known b (λ k _ r. byte b 0 ≡ k → P r)
      (λ _ p. never (cc)) (λ _ p. never (cc)) (λ _ p. never (cc)) (λ _ p. never (cc)) (λ _ p. never (cc)) (λ _ p. never (cc)) (λ _ p. never (cc)) (λ _ p. never (cc))
      (λ q p. (one, q)) (byte b 0) some refl)

  -- where the reading with these kinds finds an event with a site
  pub old_sited : {c site : ℕ} → record_of limits b ≡ SitedEvent c site → record_of old_limits b ≡ Unknown
  old_sited e = let (one, kind) = sited_kind e in (newer_kind (ne_eqb (length b) 0 (λ z. omega arith)) (inr kind)).0

  no_bytes : eqb (length b) 0 ≡ true → record_of old_limits b ≡ record_of limits b
  unfolding record_of
  no_bytes none = rw none

  -- it finds what the reading with these kinds finds, and an unknown kind where that is one of them
  pub old_record : (record_of old_limits b ≡ record_of limits b) ⊎ ((record_of old_limits b ≡ Unknown) × Newer (record_of limits b))
  old_record =
      either (eqb (length b) 0)
      (λ none. inl (no_bytes none))
      (λ some. either (hidden old_limits (byte b 0)) (λ e. inr (newer_kind some (new_kind (byte b 0) e))) (λ e. inl (other_kind e)))
