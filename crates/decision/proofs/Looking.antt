-- The walk along one cut's members, and along a listing's cuts: what is said of a set.
-- Assumes nothing.
use mathlib.Core.Path.{◌≡◌, refl, sym, ap, ap₂, ◌∙◌, subst}
use mathlib.Core.Bool.{Bool, true, false, ◌&&◌, ◌||◌, true≢false}
use mathlib.Core.List.{List, [], ◌∷◌, ◌++◌}
use Prim.Native.Nat.{ℕ, ◌+◌, ◌≤◌, ◌<◌}
use native.Mathlib.Decide.{ℕ_discrete, dec_lt}
use native.Mathlib.Omega.{arith}
use lib.Dec.{eqb}
use lib.ListN.{length, drop}
use borrow.Author.Tests.{eq-eqb, ne_eqb}
use Rattle.paper.specs.Limits.{limits}
use Rattle.paper.specs.Lists.{every}
use Rattle.paper.specs.Sets.{Set}
use Rattle.paper.specs.Listing.{member_bytes}
use Rattle.paper.specs.GoodListing.{Good}
use Rattle.paper.specs.Answers.{Beyond}
use Rattle.sets.specs.Words.{set_of, room, Lowest}
use Rattle.sets.proofs.Words.{beyond_room}
use Rattle.sidebyside.specs.Members.{RisingFrom}
use Rattle.sidebyside.specs.OneCut.{Ends, RisesAt, Whole, Ranks, Follows}
use Rattle.sidebyside.specs.Walking.{Standing}
use Rattle.sidebyside.proofs.Coding.{member_some, cut_once}
use Rattle.sidebyside.proofs.OneCut.{rank_first, rank_end, rank_behind}
use Rattle.sidebyside.proofs.Whole.{whole_rises, whole_step}
use Rattle.sidebyside.proofs.Walking.{walk_start, walk_fault, walk_end, here, walk_rises, walk_next}
use Rattle.decision.specs.Searching.{any_in, Covers, Looked}

-- ---- one event of a set

-- the search from e on finds e itself exactly if it is a member
pub holds_lowest : {S : Set} {n e r : ℕ} → Lowest S n e r → e < n → eqb r e ≡ S e
holds_lowest {S} {n} {e} {r} l h = go (ℕ_discrete r e) (dec_lt r n)
  where
    go : Dec (r ≡ e) → Dec (r < n) → eqb r e ≡ S e
    go (yes q) d = eq-eqb r e q ∙ sym (ap S (sym q) ∙ l.is (omega arith))
    go (no q) (yes d) = let a = l.above d in ne_eqb r e q ∙ sym (l.clear e (omega arith) (omega arith))
    go (no q) (no d) = ne_eqb r e q ∙ sym (l.clear e (omega arith) (omega arith))

-- a member at n or beyond, or none
pub beyond_low : (ws : List ℕ) {n m r : ℕ} → Lowest (set_of ws) m n r → r < m → Beyond n (set_of ws)
beyond_low ws {r = r} l h = record { event = r; above = l.above h; is = l.is h }

pub not_beyond : (ws : List ℕ) {n r : ℕ} → Lowest (set_of ws) (room ws) n r → room ws ≤ r → Beyond n (set_of ws) → ⊥
not_beyond ws {n} {r} l h b = true≢false (sym b.is ∙ go (dec_lt b.event r))
  where
    go : Dec (b.event < r) → set_of ws b.event ≡ false
    go (yes x) = l.clear b.event b.above x
    go (no x) = beyond_room ws b.event (omega (arith, h, x))

-- ---- one cut

-- the walk along a cut's members: the one at i has this rank, and what is said of those from there on is said of all
pub record Looking (s : List ℕ) (at : ℕ) (S : Set) (i e : ℕ) : Type 0 where
  pub whole : Whole s i
  pub rank : Ranks s i e
  pub back : (b : Bool) → Covers (drop i s) S b → Covers (drop at s) S b

pub look_start : {s : List ℕ} {at : ℕ} {S : Set} {e : ℕ} → Whole s at → Ranks s at e → Looking s at S at e
look_start w r = record { whole = w; rank = r; back = λ b c. c }

module _ {s : List ℕ} {at : ℕ} {S : Set} {i e : ℕ} (g : Looking s at S i e) where
  -- no member is left
  pub look_end : limits.events ≤ e → Covers (drop at s) S true
  look_end h = g.back true go
    where
      go : Covers (drop i s) S true
      go [] rest q = refl
      go (f ∷ es) rest q =
          let same = (cut_once (f ∷ es) g.whole.cut rest g.whole.rest (sym q ∙ g.whole.bytes)).0 in
          let rises : RisingFrom g.whole.low (f ∷ es) = subst (λ (x : List ℕ). RisingFrom g.whole.low x) (sym same) g.whole.is in
          let a = rank_first g.rank f es rest rises.1 q in
          let b = rises.1 in
          absurd (omega (arith, a, b, h))

  module _ (h : e < limits.events) where
    -- a member that is not in the set
    pub look_out : S e ≡ false → Covers (drop at s) S false
    look_out n = g.back false go
      where
        go : Covers (drop i s) S false
        go [] rest q = let a = rank_end g.rank rest q in absurd (omega (arith, a, h))
        go (f ∷ es) rest q = let p = (rank_behind g.rank f es rest h q).0 in sym (ap (λ (b : Bool). b && every S es) (ap S (sym p) ∙ n))

    module _ {w : ℕ} (l : w ≡ length (member_bytes (e ∷ []))) where
      pub look_room : (i < i + w) × (i + w ≤ length s)
      look_room = let a = (g.rank.stands h).inside in let b = member_some e in (omega (arith, l, b), omega (arith, l, a))

      pub look_whole : Whole s (i + w)
      look_whole = whole_step g.whole g.rank h (ap (λ (k : ℕ). i + k) l)

      -- a member more
      pub look_step : S e ≡ true → {x : ℕ} → Ranks s (i + w) x → Looking s at S (i + w) x
      look_step y r = record { whole = look_whole; rank = r; back = λ b c. g.back b (on b c) }
        where
          on : (b : Bool) → Covers (drop (i + w) s) S b → Covers (drop i s) S b
          on b c [] rest q = let a = rank_end g.rank rest q in absurd (omega (arith, a, h))
          on b c (f ∷ es) rest q =
              let (p, t) = rank_behind g.rank f es rest h q in
              c es rest (ap (λ (k : ℕ). drop (i + k) s) l ∙ t) ∙ sym (ap (λ (x : Bool). x && every S es) (ap S (sym p) ∙ y))

-- ---- all cuts

or_nil : (b : Bool) → (b || false) ≡ b
or_nil true = refl
or_nil false = refl

or_assoc : (a b c : Bool) → (a || (b || c)) ≡ ((a || b) || c)
or_assoc true b c = refl
or_assoc false b c = refl

any_more : (ps : List (List ℕ)) (c : List ℕ) (S : Set) → any_in (ps ++ (c ∷ [])) S ≡ (any_in ps S || every S c)
unfolding any_in
any_more [] c S = or_nil (every S c)
any_more (p ∷ ps) c S = ap (λ (b : Bool). every S p || b) (any_more ps c S) ∙ or_assoc (every S p) (any_in ps S) (every S c)

any_none : (S : Set) → any_in [] S ≡ false
unfolding any_in
any_none S = refl

-- some cuts are passed, and `found` says whether one of them is in the set
pub record Searching (s : List ℕ) (S : Set) (i e : ℕ) (found : Bool) : Type 0 where
  pub cuts : List (List ℕ)
  pub standing : Standing s i e cuts
  pub is : found ≡ any_in cuts S

pub search_start : {s : List ℕ} {S : Set} {e : ℕ} → Ends (RisingFrom 0) s 0 e → Searching s S 0 e false
search_start {S = S} w = record { cuts = []; standing = walk_start w; is = sym (any_none S) }

module _ {s : List ℕ} {S : Set} {i e : ℕ} {found : Bool} (g : Searching s S i e found) where
  -- nothing goes on in order, but bytes are left
  pub search_fault : e ≡ 0 → i < length s → Good s → ⊥
  search_fault z h = walk_fault g.standing z h

  pub search_end : length s ≤ i → Looked s S found
  search_end h = record { cuts = g.cuts; held = walk_end g.standing h; is = g.is }

  module _ (h : 0 < e) where
    pub search_on : (i < e) × (e ≤ length s)
    search_on = let c = here g.standing h in (c.on, c.inside)

    pub search_rises : RisesAt s i e
    search_rises = walk_rises g.standing h

    pub search_whole : Whole s i
    search_whole = whole_rises search_rises

    -- one cut on
    pub search_next : {b : Bool} {r : ℕ} → Covers (drop i s) S b → Follows s i e r → Searching s S e r (found || b)
    search_next {b} v f =
        let c = here g.standing h in
        record {
          cuts = g.cuts ++ (c.cut ∷ []);
          standing = walk_next g.standing h f;
          is = ap₂ (λ (x y : Bool). x || y) g.is (v c.cut (drop e s) c.bytes) ∙ sym (any_more g.cuts c.cut S);
        }
