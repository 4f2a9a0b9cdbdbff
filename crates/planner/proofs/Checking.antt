-- The checker's answer, from what the search for a cut answered.
-- Assumes nothing.
use mathlib.Core.Path.{◌≡◌, refl, sym, ap, ◌∙◌, subst}
use mathlib.Core.Bool.{Bool, true, false, true≢false}
use mathlib.Core.List.{List, []}
use Prim.Native.Nat.{ℕ, ◌+◌, ◌≤◌, ◌<◌}
use native.Mathlib.Omega.{arith}
use lib.ListN.{length, replicate, length-replicate}
use Rattle.std.specs.Prelude.{Ok, Err}
use Rattle.paper.specs.Sets.{Set, put, Within}
use Rattle.paper.specs.Planner.{Accepted, LowestDroppable, remaining, FirstMissing, fails_by}
use Rattle.paper.specs.Answers.{Beyond}
use Rattle.paper.specs.Refusals.{number}
use Rattle.paper.specs.declared.refusal.Refusal.{Refusal}
use Rattle.paper.specs.declared.refusal.Refusal.TheVariants.{NoDiagram, Length, Beyond as BeyondEvents}
use Rattle.paper.proofs.Refusals.{number_above}
use Rattle.algebra.proofs.Base.{three, Three, below, beyond, equal, put_same, put_other}
use Rattle.sets.specs.Words.{words, set_of, Lowest}
use Rattle.remaining.specs.Families.{CutDiagram, family, Cleared}
use Rattle.remaining.specs.FirstCut.{Room, Finds, Searched, Missing}
use Rattle.remaining.proofs.Answering.{family_within}
use Rattle.remaining.proofs.Once.{first_none}
use Rattle.planner.specs.Checking.{Refusing, Passed, Checks, Trial}
use Rattle.planner.specs.declared.Judgement.TheVariants.{Accepts, Misses, Drops}
use Rattle.planner.proofs.Reasons.{number_once}
use Rattle.planner.proofs.Safety.{safe_law, accepted_law, family_decides}

-- ---- what the search found

pub found_first : {n : ℕ} {K : Set} {l : List Set} {number place : ℕ} {found : Bool} {cut W W' : List ℕ} → Searched n K l number place found cut W W' → found ≡ true → FirstMissing n K l (set_of cut)
found_first {n} {K} {l} {cut = cut} s q = subst (λ b. Finds n K l b cut) q s.finds

pub found_none : {n : ℕ} {K : Set} {l : List Set} {number place : ℕ} {found : Bool} {cut W W' : List ℕ} → Searched n K l number place found cut W W' → found ≡ false
    → (remaining n K l ≡ []) × (cut ≡ replicate words 0)
found_none {n} {K} {l} {cut = cut} s q = subst (λ b. Finds n K l b cut) q s.finds

-- why it refused is why `check` does
pub check_refused : {n : ℕ} {T : List ℕ} {c root : ℕ} {ws : List ℕ} (why : Refusal) {cut W W' : List ℕ} → Missing n T c root ws (number why) 0 false cut W W' → Checks n T c root ws (Err why) cut W W'
check_refused why (Missing.no_diagram x r) = Refusing.no_diagram (number_once why NoDiagram r.number_is) (record { because = x; no_cut = r.empty_set; area = r.area })
check_refused why (Missing.too_short v x r) = Refusing.too_short (number_once why Length r.number_is) (record { because = (v, x); no_cut = r.empty_set; area = r.area })
check_refused why (Missing.beyond v g x r) = Refusing.beyond (number_once why BeyondEvents r.number_is) (record { because = (v, g, x); no_cut = r.empty_set; area = r.area })
check_refused why (Missing.searched v g x s) = let a = s.number_is in let b = number_above why in absurd (omega (arith, a, b))

module _ {n : ℕ} {T : List ℕ} {c root : ℕ} {ws : List ℕ} {number place : ℕ} {found : Bool} {cut W W' : List ℕ} where
  -- no refusal is due: then it searched
  pub searched_of : Missing n T c root ws number place found cut W W' → CutDiagram n T c root → Room T W → (Beyond n (set_of ws) → ⊥) → Searched n (set_of ws) (family T root) number place found cut W W'
  searched_of (Missing.no_diagram x r) d h b = absurd (x d)
  searched_of (Missing.too_short v x r) d h b = absurd (x h)
  searched_of (Missing.beyond v g x r) d h b = absurd (b x)
  searched_of (Missing.searched v g x s) d h b = s

  -- and number 0 says so
  pub passed_of : Missing n T c root ws number place found cut W W' → number ≡ 0 → Passed n T c root ws W × Searched n (set_of ws) (family T root) number place found cut W W'
  passed_of (Missing.no_diagram x r) q = let w = r.number_is in absurd (omega (arith, w, q))
  passed_of (Missing.too_short v x r) q = let w = r.number_is in absurd (omega (arith, w, q))
  passed_of (Missing.beyond v g x r) q = let w = r.number_is in absurd (omega (arith, w, q))
  passed_of (Missing.searched v g x s) q = (record { diagram = v; room = g; within = x }, s)

  -- ---- the answers of `check`

  pub check_misses : Missing n T c root ws number place found cut W W' → number ≡ 0 → found ≡ true → Checks n T c root ws (Ok Misses) cut W W'
  check_misses m q f = let (p, s) = passed_of m q in record { passed = p; because = found_first s f; long = s.long; area = s.area }

  pub check_trial : Missing n T c root ws number place found cut W W' → number ≡ 0 → found ≡ false → Trial n T c root ws W'
  check_trial m q f =
      let (p, s) = passed_of m q in
      let long : length W' ≡ length W = ap length s.area ∙ length-replicate {A = ℕ} (length W) 0 in
      let g = p.room in
      record {
        passed = record { diagram = p.diagram; room = omega (arith, g, long); within = p.within };
        none_left = (found_none s f).0;
        zero = s.area ∙ ap (λ k. replicate k 0) (sym long);
      }

  pub check_accepts : {W'' : List ℕ} → Missing n T c root ws number place found cut W W' → number ≡ 0 → found ≡ false → Accepted (fails_by n (family T root)) (set_of ws) → W'' ≡ W'
      → Checks n T c root ws (Ok Accepts) cut W W''
  check_accepts m q f h e = let (p, s) = passed_of m q in record { passed = p; because = (h, (found_none s f).1); long = s.long; area = e ∙ s.area }

  pub check_drops : {W'' : List ℕ} {i : ℕ} → Missing n T c root ws number place found cut W W' → number ≡ 0 → found ≡ false → LowestDroppable (fails_by n (family T root)) (set_of ws) i → W'' ≡ W'
      → Checks n T c root ws (Ok (Drops i)) cut W W''
  check_drops m q f h e = let (p, s) = passed_of m q in record { passed = p; because = (h, (found_none s f).1); long = s.long; area = e ∙ s.area }

-- ---- member after member

-- e is a member, or all are behind; no member below e could be dropped
pub record Trying (n : ℕ) (K : Set) (l : List Set) (e : ℕ) : Type 0 where
  pub member : e < n → K e ≡ true
  pub needed : (i : ℕ) → i < e → K i ≡ true → remaining n (put i false K) l ≡ [] → ⊥

pub try_start : {n : ℕ} {K : Set} {l : List Set} {m e : ℕ} → Lowest K m 0 e → n ≤ m → Trying n K l e
try_start low h = record {
  member = λ x. low.is (omega (arith, h, x));
  needed = λ i x k q. absurd (true≢false (sym k ∙ low.clear i (omega arith) x));
}

pub try_next : {n : ℕ} {K M : Set} {l : List Set} {m e r : ℕ} {S : Set} → Trying n K l e → FirstMissing n M l S → M ≡ put e false K → Lowest K m (e + 1) r → n ≤ m → Trying n K l r
try_next {n} {K} {M} {l} {m} {e} {r} t f q low h = record {
  member = λ x. low.is (omega (arith, h, x));
  needed = λ i x k z. go i x k z (three i e);
}
  where
    go : (i : ℕ) → i < r → K i ≡ true → remaining n (put i false K) l ≡ [] → Three i e → ⊥
    go i x k z (below y _) = t.needed i y k z
    go i x k z (beyond y _ _) = true≢false (sym k ∙ low.clear i (omega (arith, y)) x)
    go i x k z (equal y _ _) = first_none f (ap (λ A. remaining n A l) (q ∙ ap (λ a. put a false K) (sym y)) ∙ z)

module _ {n : ℕ} {T : List ℕ} {c root : ℕ} {K : Set} {e : ℕ} (d : CutDiagram n T c root) (t : Trying n K (family T root) e) (none_left : remaining n K (family T root) ≡ []) where
  pub try_drop : {M : Set} → e < n → remaining n M (family T root) ≡ [] → M ≡ put e false K → LowestDroppable (fails_by n (family T root)) K e
  try_drop {M} h z q =
      let l = family T root in
      let w = family_within d in
      let safe = safe_law n l (fails_by n l) w (family_decides n l w) in
      record {
        safe = (safe K).1 none_left;
        member = t.member h;
        droppable = (safe (put e false K)).1 (ap (λ A. remaining n A l) (sym q) ∙ z);
        lowest = λ i x k s. t.needed i x k ((safe (put i false K)).0 s);
      }

  pub try_end : Within n K → n ≤ e → Accepted (fails_by n (family T root)) K
  try_end inside h =
      let l = family T root in
      let w = family_within d in
      (accepted_law n l (fails_by n l) w (family_decides n l w) K).1 (none_left, λ i k z. go i k z (three i e))
    where
      go : (i : ℕ) → K i ≡ true → remaining n (put i false K) (family T root) ≡ [] → Three i e → ⊥
      go i k z (below y _) = t.needed i y k z
      go i k z (beyond y _ _) = true≢false (sym k ∙ inside i (omega (arith, h, y)))
      go i k z (equal y _ _) = true≢false (sym k ∙ inside i (omega (arith, h, y)))

-- a set that is not beyond the events lies within them
pub within_set : {n : ℕ} (S : Set) → (Beyond n S → ⊥) → Within n S
within_set {n} S h i l = go (S i) refl
  where
    go : (b : Bool) → S i ≡ b → S i ≡ false
    go true e = absurd (h (record { event = i; above = l; is = e }))
    go false e = e

-- and neither does it without a member
pub less_beyond : {n : ℕ} (e : ℕ) {K M : Set} → M ≡ put e false K → (Beyond n K → ⊥) → Beyond n M → ⊥
less_beyond {n} e {K} {M} q h b = h (record { event = b.event; above = b.above; is = go (three b.event e) })
  where
    there : put e false K b.event ≡ true
    there = sym (ap (λ A. A b.event) q) ∙ b.is

    go : Three b.event e → K b.event ≡ true
    go (below y _) = sym (put_other e false K b.event (λ w. omega (arith, w, y))) ∙ there
    go (beyond y _ _) = sym (put_other e false K b.event (λ w. omega (arith, w, y))) ∙ there
    go (equal y _ _) = absurd (true≢false (sym there ∙ ap (put e false K) y ∙ put_same e false K))

-- an area of zeros is left as it was
pub area_kept : {W₀ W W' : List ℕ} → Cleared W₀ W₀ → W ≡ W₀ → Cleared W W' → W' ≡ W₀
area_kept {W₀} {W} {W'} z q c = c ∙ ap (λ A. replicate (length A) 0) q ∙ sym z
