-- THE CHECKER'S ANSWER IS RIGHT of every function that the family decides, and it is the only one; the planner's too.
-- Assumes nothing.
use mathlib.Core.Path.{◌≡◌, refl, sym, ap, ◌∙◌, subst}
use mathlib.Core.Logic.{◌↔◌}
use mathlib.Core.Bool.{false, true≢false}
use mathlib.Core.List.{List}
use Prim.Native.Nat.{ℕ}
use native.Mathlib.Omega.{arith}
use Rattle.std.specs.Prelude.{Result, Ok, Err}
use Rattle.paper.specs.Lists.{In}
use Rattle.paper.specs.Sets.{Set, none, put, Within}
use Rattle.paper.specs.Functions.{Fun}
use Rattle.paper.specs.Planner.{Safe, Accepted, LowestDroppable, FirstMissing, Decides, fails_by, plan_of}
use Rattle.algebra.proofs.Base.{three, Three, below, beyond, equal}
use Rattle.sets.specs.Words.{words, set_of, Array}
use Rattle.sets.proofs.Words.{words_same}
use Rattle.remaining.specs.Families.{CutDiagram, family}
use Rattle.remaining.proofs.Answering.{family_within}
use Rattle.remaining.proofs.Once.{first_once, both_sides}
use Rattle.paper.specs.declared.refusal.Refusal.{Refusal}
use Rattle.paper.proofs.Refusals.{number_above}
use Rattle.planner.specs.Saying.{says}
use Rattle.planner.specs.Checking.{Refusing, Passed, Checks}
use Rattle.planner.specs.Judged.{Missed, Tells}
use Rattle.planner.specs.Proposing.{Refused, Stopped, Planned, Proposes}
use Rattle.planner.specs.declared.Judgement.{Judgement}
use Rattle.planner.specs.declared.Judgement.TheVariants.{Accepts, Misses, Drops}
use Rattle.planner.proofs.Safety.{first_fails, first_unsafe, safe_both, family_decides}
use Rattle.planner.proofs.Planning.{plan_is, plans_once, plan_safe}

-- ---- of two functions that one family decides

module _ (n : ℕ) (l : List Set) (F G : Fun) (within : (T : Set) → In T l → Within n T) (df : Decides l F) (dg : Decides l G) where
  to : (K : Set) → Safe F K → Safe G K
  to = safe_both n l F G within df dg

  from : (K : Set) → Safe G K → Safe F K
  from = safe_both n l G F within dg df

  accepted_both : {K : Set} → Accepted F K → Accepted G K
  accepted_both {K} a = record { safe = to K a.safe; needed = λ e k s. a.needed e k (from (put e false K) s) }

  dropped_both : {K : Set} {e : ℕ} → LowestDroppable F K e → LowestDroppable G K e
  dropped_both {K} {e} a = record {
    safe = to K a.safe;
    member = a.member;
    droppable = to (put e false K) a.droppable;
    lowest = λ i h k s. a.lowest i h k (from (put i false K) s);
  }

-- ---- RIGHT

module _ (n : ℕ) (T : List ℕ) (c root : ℕ) (ws cut W W' : List ℕ) (F : Fun) (decides : Decides (family T root) F) where
  own : CutDiagram n T c root → Decides (family T root) (fails_by n (family T root))
  own d = family_decides n (family T root) (family_within d)

  -- what is said is so
  pub check_right : (j : Result Judgement Refusal) → Checks n T c root ws j cut W W' → Tells F n (set_of ws) (family T root) j (set_of cut)
  check_right (Err why) x = tt
  check_right (Ok Accepts) x = let d = x.passed.diagram in accepted_both n (family T root) (fails_by n (family T root)) F (family_within d) (own d) decides x.because.0
  check_right (Ok Misses) x =
      let d = x.passed.diagram in
      let (t, a) = first_fails n (family T root) F (family_within d) decides x.because in
      record { first = x.because; sound = a; fails = t }
  check_right (Ok (Drops e)) x = let d = x.passed.diagram in dropped_both n (family T root) (fails_by n (family T root)) F (family_within d) (own d) decides x.because.0

  -- ACCEPTED EXACTLY IF the root can't fail while the set is sound, whatever else fails, and dropping any one member loses that
  accepts_if : Passed n T c root ws W → Accepted F (set_of ws) → (j : Result Judgement Refusal) → Checks n T c root ws j cut W W' → j ≡ (Ok Accepts)
  accepts_if p a (Err why) (Refusing.no_diagram q x) = absurd (x.because p.diagram)
  accepts_if p a (Err why) (Refusing.too_short q x) = absurd (x.because.1 p.room)
  accepts_if p a (Err why) (Refusing.beyond q x) = absurd (p.within x.because.2)
  accepts_if p a (Ok Accepts) x = refl
  accepts_if p a (Ok Misses) x = absurd (first_unsafe n (family T root) F (family_within p.diagram) decides x.because a.safe)
  accepts_if p a (Ok (Drops e)) x = let y = check_right (Ok (Drops e)) x in absurd (a.needed e y.member y.droppable)

  pub accepts_exactly : Passed n T c root ws W → (j : Result Judgement Refusal) → Checks n T c root ws j cut W W' → (j ≡ (Ok Accepts)) ↔ Accepted F (set_of ws)
  accepts_exactly p j x = (
    (λ q. check_right (Ok Accepts) (subst (λ v. Checks n T c root ws v cut W W') q x)),
    (λ a. accepts_if p a j x),
  )

-- ---- ONE ANSWER IS RIGHT: two judgements that are no refusals and both hold of F are one

same_drop : {F : Fun} {K : Set} {e i : ℕ} → LowestDroppable F K e → LowestDroppable F K i → e ≡ i
same_drop {F} {K} {e} {i} p q = go (three e i)
  where
    go : Three e i → e ≡ i
    go (below h _) = absurd (q.lowest e h p.member p.droppable)
    go (beyond h _ _) = absurd (p.lowest i h q.member q.droppable)
    go (equal h _ _) = h

module _ (F : Fun) (n : ℕ) (K : Set) (l : List Set) where
  missed_unsafe : {S : Set} → Missed F n K l S → Safe F K → ⊥
  missed_unsafe {S} m s = true≢false (sym m.fails ∙ s S m.sound)

  by_accepted : (S : Set) → Accepted F K → (k : Result Judgement Refusal) → (says k).number ≡ 0 → Tells F n K l k S → (Ok Accepts) ≡ k
  by_accepted S a (Err why) z x = let a = number_above why in absurd (omega (arith, a, z))
  by_accepted S a (Ok Accepts) z x = refl
  by_accepted S a (Ok Misses) z x = absurd (missed_unsafe x a.safe)
  by_accepted S a (Ok (Drops e)) z x = absurd (a.needed e x.member x.droppable)

  by_missed : (R S : Set) → Missed F n K l R → (k : Result Judgement Refusal) → (says k).number ≡ 0 → Tells F n K l k S → (Ok Misses) ≡ k
  by_missed R S m (Err why) z x = let a = number_above why in absurd (omega (arith, a, z))
  by_missed R S m (Ok Accepts) z x = absurd (missed_unsafe m x.safe)
  by_missed R S m (Ok Misses) z x = refl
  by_missed R S m (Ok (Drops e)) z x = absurd (missed_unsafe m x.safe)

  by_dropped : (e : ℕ) (S : Set) → LowestDroppable F K e → (k : Result Judgement Refusal) → (says k).number ≡ 0 → Tells F n K l k S → Ok (Drops e) ≡ k
  by_dropped e S d (Err why) z x = let a = number_above why in absurd (omega (arith, a, z))
  by_dropped e S d (Ok Accepts) z x = absurd (x.needed e d.member d.droppable)
  by_dropped e S d (Ok Misses) z x = absurd (missed_unsafe x d.safe)
  by_dropped e S d (Ok (Drops i)) z x = ap (λ i. Ok (Drops i)) (same_drop d x)

  pub right_once : (R S : Set) (j k : Result Judgement Refusal) → (says j).number ≡ 0 → (says k).number ≡ 0 → Tells F n K l j R → Tells F n K l k S → j ≡ k
  right_once R S (Err why) k y z r s = let a = number_above why in absurd (omega (arith, a, y))
  right_once R S (Ok Accepts) k y z r s = by_accepted S r k z s
  right_once R S (Ok Misses) k y z r s = by_missed R S r k z s
  right_once R S (Ok (Drops e)) k y z r s = by_dropped e S r k z s

-- ---- ONE OUTCOME

-- all that a check answers and leaves
pub record Outcome : Type 0 where
  pub judgement : Result Judgement Refusal
  pub cut : List ℕ
  pub area : List ℕ

-- an outcome that the contract allows, of an array of words
pub record Allowed (n : ℕ) (T : List ℕ) (c root : ℕ) (ws W : List ℕ) (x : Outcome) : Type 0 where
  pub array : Array words x.cut
  pub answer : Checks n T c root ws x.judgement x.cut W x.area

module _ (n : ℕ) (T : List ℕ) (c root : ℕ) (ws W p q x y : List ℕ) (a : Array words p) (b : Array words q) where
  abbrev Same : Result Judgement Refusal → Result Judgement Refusal → Type 0
  Same j k = (j ≡ k) × (p ≡ q) × (x ≡ y)

  unsafe : CutDiagram n T c root → FirstMissing n (set_of ws) (family T root) (set_of p) → Safe (fails_by n (family T root)) (set_of ws) → ⊥
  unsafe d f s = first_unsafe n (family T root) (fails_by n (family T root)) (family_within d) (family_decides n (family T root) (family_within d)) f s

  unsafe' : CutDiagram n T c root → FirstMissing n (set_of ws) (family T root) (set_of q) → Safe (fails_by n (family T root)) (set_of ws) → ⊥
  unsafe' d f s = first_unsafe n (family T root) (fails_by n (family T root)) (family_within d) (family_decides n (family T root) (family_within d)) f s

  -- no refusal is due where another judgement is passed
  refused_passed : {why : Refusal} {cut V : List ℕ} → Refusing n T c root ws why cut W V → Passed n T c root ws W → ⊥
  refused_passed (Refusing.no_diagram _ x) p = x.because p.diagram
  refused_passed (Refusing.too_short _ x) p = x.because.1 p.room
  refused_passed (Refusing.beyond _ x) p = p.within x.because.2

  refuses_once : (v w : Refusal) → Refusing n T c root ws v p W x → Refusing n T c root ws w q W y → Same (Err v) (Err w)
  refuses_once v w (Refusing.no_diagram d u) (Refusing.no_diagram e r) = (ap Err (d ∙ sym e), u.no_cut ∙ sym r.no_cut, u.area ∙ sym r.area)
  refuses_once v w (Refusing.no_diagram d u) (Refusing.too_short e r) = absurd (u.because r.because.0)
  refuses_once v w (Refusing.no_diagram d u) (Refusing.beyond e r) = absurd (u.because r.because.0)
  refuses_once v w (Refusing.too_short d u) (Refusing.no_diagram e r) = absurd (r.because u.because.0)
  refuses_once v w (Refusing.too_short d u) (Refusing.too_short e r) = (ap Err (d ∙ sym e), u.no_cut ∙ sym r.no_cut, u.area ∙ sym r.area)
  refuses_once v w (Refusing.too_short d u) (Refusing.beyond e r) = absurd (u.because.1 r.because.1)
  refuses_once v w (Refusing.beyond d u) (Refusing.no_diagram e r) = absurd (r.because u.because.0)
  refuses_once v w (Refusing.beyond d u) (Refusing.too_short e r) = absurd (r.because.1 u.because.1)
  refuses_once v w (Refusing.beyond d u) (Refusing.beyond e r) = (ap Err (d ∙ sym e), u.no_cut ∙ sym r.no_cut, u.area ∙ sym r.area)

  once : (j k : Result Judgement Refusal) → Checks n T c root ws j p W x → Checks n T c root ws k q W y → Same j k
  once (Err v) (Err w) u r = refuses_once v w u r
  once (Err v) (Ok Accepts) u r = absurd (refused_passed u r.passed)
  once (Err v) (Ok Misses) u r = absurd (refused_passed u r.passed)
  once (Err v) (Ok (Drops i)) u r = absurd (refused_passed u r.passed)
  once (Ok Accepts) (Err w) u r = absurd (refused_passed r u.passed)
  once (Ok Misses) (Err w) u r = absurd (refused_passed r u.passed)
  once (Ok (Drops i)) (Err w) u r = absurd (refused_passed r u.passed)
  once (Ok Accepts) (Ok Accepts) u v = (refl, u.because.1 ∙ sym v.because.1, u.area ∙ sym v.area)
  once (Ok Accepts) (Ok Misses) u v = absurd (unsafe' v.passed.diagram v.because u.because.0.safe)
  once (Ok Accepts) (Ok (Drops i)) u v = absurd (u.because.0.needed i v.because.0.member v.because.0.droppable)
  once (Ok Misses) (Ok Accepts) u v = absurd (unsafe u.passed.diagram u.because v.because.0.safe)
  once (Ok Misses) (Ok Misses) u v = (refl, words_same a b (first_once u.because v.because), u.area ∙ sym v.area)
  once (Ok Misses) (Ok (Drops i)) u v = absurd (unsafe u.passed.diagram u.because v.because.0.safe)
  once (Ok (Drops e)) (Ok Accepts) u v = absurd (v.because.0.needed e u.because.0.member u.because.0.droppable)
  once (Ok (Drops e)) (Ok Misses) u v = absurd (unsafe' v.passed.diagram v.because u.because.0.safe)
  once (Ok (Drops e)) (Ok (Drops i)) u v = (ap (λ i. Ok (Drops i)) (same_drop u.because.0 v.because.0), u.because.1 ∙ sym v.because.1, u.area ∙ sym v.area)

pub check_once : {n : ℕ} {T : List ℕ} {c root : ℕ} {ws W : List ℕ} {x y : Outcome} → Allowed n T c root ws W x → Allowed n T c root ws W y → x ≡ y
check_once {n} {T} {c} {root} {ws} {W} {x} {y} p q =
    let (j, k, w) = once n T c root ws W x.cut y.cut x.area y.area p.array q.array x.judgement y.judgement p.answer q.answer in
    λ i. record { judgement = j i; cut = k i; area = w i }

-- ---- THE PLANNER: one proposal, the plan as it is computed; it is safe exactly if the root does not always fail

pub record Proposed : Type 0 where
  pub number : ℕ
  pub place : ℕ
  pub set : List ℕ
  pub below : List ℕ
  pub ways : List ℕ

pub record AllowedPlan (n : ℕ) (T : List ℕ) (c root : ℕ) (B W : List ℕ) (x : Proposed) : Type 0 where
  pub array : Array words x.set
  pub answer : Proposes n T c root x.number x.place x.set B W x.below x.ways

module _ (x y : Proposed) where
  same : x.number ≡ y.number → x.place ≡ y.place → x.set ≡ y.set → x.below ≡ y.below → x.ways ≡ y.ways → x ≡ y
  same p q r s t = λ i. record { number = p i; place = q i; set = r i; below = s i; ways = t i }

  refused_once : (why : ℕ) (B W : List ℕ) → Refused why x.number x.place x.set B W x.below x.ways → Refused why y.number y.place y.set B W y.below y.ways → x ≡ y
  refused_once why B W p q = same (p.number_is ∙ sym q.number_is) (p.no_place ∙ sym q.no_place) (p.empty_set ∙ sym q.empty_set) (p.below ∙ sym q.below) (p.ways ∙ sym q.ways)

  stopped_once : (B W : List ℕ) → Stopped x.number x.place x.set B W x.below x.ways → Stopped y.number y.place y.set B W y.below y.ways → x ≡ y
  stopped_once B W p q = same (p.number_is ∙ sym q.number_is) (p.no_place ∙ sym q.no_place) (p.empty_set ∙ sym q.empty_set) (p.below ∙ sym q.below) (p.ways ∙ sym q.ways)

  module _ {n : ℕ} {T : List ℕ} {root : ℕ} {B W : List ℕ} (a : Array words x.set) (b : Array words y.set) where
    planned_once : Planned n T root x.number x.place x.set B W x.below x.ways → Planned n T root y.number y.place y.set B W y.below y.ways → x ≡ y
    planned_once p q =
        same (p.number_is ∙ sym q.number_is) (p.no_place ∙ sym q.no_place) (words_same a b (plans_once p.plan q.plan)) (p.below ∙ sym q.below) (p.ways ∙ sym q.ways)

  module _ {n : ℕ} {T : List ℕ} {c root : ℕ} {B W : List ℕ} (a : Array words x.set) (b : Array words y.set) where
    go : Proposes n T c root x.number x.place x.set B W x.below x.ways → Proposes n T c root y.number y.place y.set B W y.below y.ways → x ≡ y
    go (Proposes.no_diagram h p) (Proposes.no_diagram k q) = refused_once 12 B W p q
    go (Proposes.no_diagram h p) (Proposes.too_short v k q) = absurd (h v)
    go (Proposes.no_diagram h p) (Proposes.too_many v r k q) = absurd (h v)
    go (Proposes.no_diagram h p) (Proposes.planned v r k q) = absurd (h v)
    go (Proposes.too_short v h p) (Proposes.no_diagram k q) = absurd (k v)
    go (Proposes.too_short v h p) (Proposes.too_short w k q) = refused_once 9 B W p q
    go (Proposes.too_short v h p) (Proposes.too_many w r k q) = absurd (h r)
    go (Proposes.too_short v h p) (Proposes.planned w r k q) = absurd (h r)
    go (Proposes.too_many v r h p) (Proposes.no_diagram k q) = absurd (k v)
    go (Proposes.too_many v r h p) (Proposes.too_short w k q) = absurd (k r)
    go (Proposes.too_many v r h p) (Proposes.too_many w s k q) = stopped_once B W p q
    go (Proposes.too_many v r h p) (Proposes.planned w s k q) = absurd (both_sides (family T root) k h)
    go (Proposes.planned v r h p) (Proposes.no_diagram k q) = absurd (k v)
    go (Proposes.planned v r h p) (Proposes.too_short w k q) = absurd (k r)
    go (Proposes.planned v r h p) (Proposes.too_many w s k q) = absurd (both_sides (family T root) h k)
    go (Proposes.planned v r h p) (Proposes.planned w s k q) = planned_once a b p q

pub plan_once : {n : ℕ} {T : List ℕ} {c root : ℕ} {B W : List ℕ} {x y : Proposed} → AllowedPlan n T c root B W x → AllowedPlan n T c root B W y → x ≡ y
plan_once {x = x} {y} p q = go x y p.array q.array p.answer q.answer

module _ {n : ℕ} {T : List ℕ} {c root number place : ℕ} {set B W B' W' : List ℕ} where
  -- the set that is proposed is the plan
  pub plan_computed : Proposes n T c root number place set B W B' W' → number ≡ 0 → set_of set ≡ plan_of n (family T root)
  plan_computed (Proposes.no_diagram h p) q = let w = p.number_is in absurd (omega (arith, w, q))
  plan_computed (Proposes.too_short v h p) q = let w = p.number_is in absurd (omega (arith, w, q))
  plan_computed (Proposes.too_many v r h p) q = let w = p.number_is in absurd (omega (arith, w, q))
  plan_computed (Proposes.planned v r h p) q = plans_once p.plan (plan_is n (family T root))

  -- while it is sound the root can't fail, unless it always fails
  pub plan_keeps : (F : Fun) → Decides (family T root) F → Proposes n T c root number place set B W B' W' → number ≡ 0 → Safe F (set_of set) ↔ (F none ≡ false)
  plan_keeps F d (Proposes.no_diagram h p) q = let w = p.number_is in absurd (omega (arith, w, q))
  plan_keeps F d (Proposes.too_short v h p) q = let w = p.number_is in absurd (omega (arith, w, q))
  plan_keeps F d (Proposes.too_many v r h p) q = let w = p.number_is in absurd (omega (arith, w, q))
  plan_keeps F d (Proposes.planned v r h p) q = (
    (λ s. s none (λ i k. refl)),
    (λ z. (plan_safe n (family T root) (family_within v) F d p.plan).1 (λ i. true≢false (sym ((d none).1 (none, i, λ j w. w)) ∙ z))),
  )
