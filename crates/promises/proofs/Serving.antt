-- A LISTING IN CALLS comes to its end: from the beginning, each call from the last set before, in rooms with enough bytes for any set.
-- Assumes nothing.
use mathlib.Core.Path.{◌≡◌, refl, sym, ◌∙◌, subst}
use mathlib.Core.Logic.{◌⊎◌, inl, inr}
use mathlib.Core.Bool.{Bool, true, false, false≢true}
use mathlib.Core.List.{List, [], ◌∷◌}
use Prim.Native.Nat.{ℕ, ◌≤◌}
use native.Mathlib.Omega.{arith}
use lib.ListN.{length}
use Rattle.paper.specs.Lists.{In, last_or}
use Rattle.paper.specs.Sets.{Set, Within, none}
use Rattle.paper.specs.Diagrams.{Diagram}
use Rattle.paper.specs.Cuts.{sets_of}
use Rattle.paper.specs.Order.{behind}
use Rattle.paper.specs.Listing.{fitting, longest_cut}
use Rattle.paper.specs.Answers.{Beyond}
use Rattle.paper.proofs.Longest.{set_long}
use Rattle.algebra.proofs.Lists.{in_left, keep_in}
use Rattle.algebra.proofs.Without.{sets_beyond}
use Rattle.sets.specs.Words.{set_of}
use Rattle.tables.specs.Table.{den}
use Rattle.tables.specs.Lent.{Lent}
use Rattle.tables.proofs.Lent.{root_ordered}
use Rattle.walk.specs.After.{to_list}
use Rattle.listing.specs.Answers.{start_of, GoodStart, Short, Answered}
use Rattle.listing.proofs.Join.{fitting_split}

-- ---- rooms that any set fits into are never too small

pub never_short : (n size : ℕ) (l : List Set) → longest_cut n ≤ size → Short n size l → ⊥
never_short n size [] h s = s
never_short n size (S ∷ l) h s = let b = set_long n S in omega arith

pub serves : {n : ℕ} {T : List ℕ} {c root : ℕ} {begin : Bool} {ws room room' : List ℕ} {number place count used : ℕ} {last : List ℕ} {finished : Bool}
    → Answered n T c root begin ws room room' number place count used last finished → Lent true n T c root → GoodStart n begin ws → longest_cut n ≤ length room → number ≡ 0
serves (Answered.no_diagram h x) v ok r = absurd (h v)
serves (Answered.beyond w e p x) v ok r = absurd (ok e p)
serves {n} {T} {c} {root} {begin} {ws} {room} (Answered.short w k s x) v ok r = absurd (never_short n (length room) (to_list n (den T root) begin ws) r s)
serves (Answered.done w k s x) v ok r = x.is

-- ---- the last set of a call is a start that the next one takes

last_of : (S : Set) (w : List Set) → (last_or S w ≡ S) ⊎ In (last_or S w) w
last_of S [] = inl refl
last_of S (T ∷ w) = go (last_of T w)
  where
    go : (last_or T w ≡ T) ⊎ In (last_or T w) w → (last_or T w ≡ S) ⊎ In (last_or T w) (T ∷ w)
    go (inl e) = inr (inl e)
    go (inr h) = inr (inr h)

pub of_family : (n : ℕ) (d : Diagram) (begin : Bool) (ws : List ℕ) (S : Set) → In S (to_list n d begin ws) → In S (sets_of d)
of_family n d true ws S h = h
of_family n d false ws S h = (keep_in (behind n 0 (set_of ws)) S (sets_of d) h).0

not_beyond : (n : ℕ) (S : Set) → Within n S → Beyond n S → ⊥
not_beyond n S w b = false≢true (sym (w b.event b.above) ∙ b.is)

start_good : (n : ℕ) (begin : Bool) (ws : List ℕ) → GoodStart n begin ws → Beyond n (start_of begin ws) → ⊥
start_good n true ws ok b = not_beyond n none (λ i h. refl) b
start_good n false ws ok b = ok refl b

-- of the sets l, as many as fit were written
pub last_good : (n : ℕ) (begin : Bool) (ws last : List ℕ) (size : ℕ) (l : List Set) → ((S : Set) → In S l → Within n S) → GoodStart n begin ws
    → set_of last ≡ last_or (start_of begin ws) (fitting n size l) → GoodStart n false last
last_good n begin ws last size l within ok e q b = go (last_of (start_of begin ws) (fitting n size l)) (subst (Beyond n) e b)
  where
    go : (last_or (start_of begin ws) (fitting n size l) ≡ start_of begin ws) ⊎ In (last_or (start_of begin ws) (fitting n size l)) (fitting n size l) → Beyond n (last_or (start_of begin ws) (fitting n size l)) → ⊥
    go (inl q) b = start_good n begin ws ok (subst (Beyond n) q b)
    go (inr h) b =
        let (q, p) = fitting_split n size l in
        let S = last_or (start_of begin ws) (fitting n size l) in
        not_beyond n S (within S (subst (In S) (sym p) (in_left S (fitting n size l) q h))) b

pub hands_on : {n : ℕ} {T : List ℕ} {c root : ℕ} {begin : Bool} {ws room room' : List ℕ} {place count used : ℕ} {last : List ℕ} {finished : Bool}
    → Answered n T c root begin ws room room' 0 place count used last finished → GoodStart n false last
hands_on (Answered.no_diagram h x) = absurd (let e = x.is in omega arith)
hands_on (Answered.beyond w e p x) = absurd (let e = x.is in omega arith)
hands_on (Answered.short w k s x) = absurd (let e = x.is in omega arith)
hands_on {n} {T} {c} {root} {begin} {ws} {room} {last = last} (Answered.done v ok s x) =
    last_good n begin ws last (length room) (to_list n (den T root) begin ws) (λ S h. sets_beyond 0 n (den T root) S (root_ordered v) (of_family n (den T root) begin ws S h)) ok x.last_set
