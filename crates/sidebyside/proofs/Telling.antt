-- Good bytes are those of cuts as lists of members, all in order; and they tell their sets.
-- Assumes nothing.
use mathlib.Core.Path.{◌≡◌, refl, sym, ap, ap₂, ◌∙◌, subst}
use mathlib.Core.Logic.{inl, inr}
use mathlib.Core.List.{List, [], ◌∷◌, ◌++◌, map}
use Prim.Native.Nat.{ℕ, ◌≤◌}
use native.Mathlib.Omega.{arith}
use Rattle.paper.specs.Limits.{limits}
use Rattle.paper.specs.Lists.{In}
use Rattle.paper.specs.Sets.{Set, of_events, members, Within}
use Rattle.paper.specs.Order.{Before, Sorted}
use Rattle.paper.specs.Listing.{cut_bytes, sets_bytes}
use Rattle.paper.specs.GoodListing.{Tells, Good}
use Rattle.algebra.proofs.Lists.{map_in}
use Rattle.sidebyside.specs.Members.{Rising, Lt, Rows, AllRising, cuts_bytes, Held}
use Rattle.sidebyside.proofs.Coding.{cuts_once}
use Rattle.sidebyside.proofs.Sets.{members_of, members_rising, of_members, of_within, members_fewer, lt_before, before_members}

-- ---- THE BYTES TELL THE SETS, of any number of events

pub bytes_map : (n : ℕ) (l : List Set) → sets_bytes n l ≡ cuts_bytes (map (members n) l)
unfolding cuts_bytes
bytes_map n [] = refl
bytes_map n (S ∷ l) = ap (λ (t : List ℕ). cut_bytes (members n S) ++ t) (bytes_map n l)

sets_map : (n : ℕ) (l : List Set) → ((S : Set) → In S l → Within n S) → map of_events (map (members n) l) ≡ l
sets_map n [] w = refl
sets_map n (S ∷ l) w = ap₂ (λ (x : Set) (y : List Set). x ∷ y) (of_members n S (w S (inl refl))) (sets_map n l (λ T k. w T (inr k)))

pub bytes_tell : (n : ℕ) (k l : List Set) → ((S : Set) → In S k → Within n S) → ((S : Set) → In S l → Within n S) → sets_bytes n k ≡ sets_bytes n l → k ≡ l
bytes_tell n k l a b e =
    sym (sets_map n k a) ∙ ap (map of_events) (cuts_once (map (members n) k) (map (members n) l) (sym (bytes_map n k) ∙ e ∙ bytes_map n l)) ∙ sets_map n l b

-- two lists that bytes tell are one
pub tells_once : {s : List ℕ} {k l : List Set} → Tells s k → Tells s l → k ≡ l
tells_once {s} {k} {l} p q = bytes_tell limits.events k l p.within q.within (sym p.bytes ∙ q.bytes)

pub good_once : {s : List ℕ} (a b : Good s) → a.sets ≡ b.sets
good_once a b = tells_once a.tells b.tells

-- ---- from sets to members, and back

module _ (n : ℕ) where
  rising_map : (l : List Set) (c : List ℕ) → In c (map (members n) l) → Rising n 0 c
  rising_map l c k = let (S, j, e) = map_in (members n) c l k in subst (λ (x : List ℕ). Rising n 0 x) (sym e) (members_rising n S n (omega arith))

  rows_map : (l : List Set) → ((S : Set) → In S l → Within n S) → Sorted l → Rows (map (members n) l)
  rows_map [] w o = tt
  rows_map (S ∷ l) w o = (
    (λ d k. let (T, j, e) = map_in (members n) d l k in
        subst (λ (x : List ℕ). Lt (members n S) x) (sym e) (before_members n S T (w S (inl refl)) (w T (inr j)) (o.0 T j))),
    rows_map l (λ T k. w T (inr k)) o.1,
  )

  members_map : (cs : List (List ℕ)) → ((c : List ℕ) → In c cs → Rising n 0 c) → map (members n) (map of_events cs) ≡ cs
  members_map [] r = refl
  members_map (c ∷ cs) r = ap₂ (λ (x : List ℕ) (l : List (List ℕ)). x ∷ l) (members_of n c (r c (inl refl))) (members_map cs (λ d k. r d (inr k)))

  sorted_map : (cs : List (List ℕ)) → ((c : List ℕ) → In c cs → Rising n 0 c) → Rows cs → Sorted (map of_events cs)
  sorted_map [] r o = tt
  sorted_map (c ∷ cs) r o = (
    (λ T k. let (d, j, e) = map_in of_events T cs k in
        subst (λ (x : Set). Before (of_events c) x) (sym e) (lt_before n 0 c d (r c (inl refl)) (r d (inr j)) (o.0 d j))),
    sorted_map cs (λ d k. r d (inr k)) o.1,
  )

  within_map : (cs : List (List ℕ)) → ((c : List ℕ) → In c cs → Rising n 0 c) → (T : Set) → In T (map of_events cs) → Within n T
  within_map cs r T k = let (d, j, e) = map_in of_events T cs k in subst (λ (x : Set). Within n x) (sym e) (of_within n 0 d (r d j))

  bytes_back : (cs : List (List ℕ)) → ((c : List ℕ) → In c cs → Rising n 0 c) → cuts_bytes cs ≡ sets_bytes n (map of_events cs)
  bytes_back cs r = sym (bytes_map n (map of_events cs) ∙ ap cuts_bytes (members_map cs r))

-- the cuts of good bytes, as lists of members
pub good_held : {s : List ℕ} (g : Good s) → Held s (map (members limits.events) g.sets)
good_held g = record {
  bytes = g.tells.bytes ∙ bytes_map limits.events g.sets;
  rising = rising_map limits.events g.sets;
  rows = rows_map limits.events g.sets g.tells.within g.tells.sorted;
}

pub held_tells : {s : List ℕ} {cs : List (List ℕ)} → Held s cs → Tells s (map of_events cs)
held_tells {s} {cs} h = record {
  bytes = h.bytes ∙ bytes_back limits.events cs h.rising;
  sorted = sorted_map limits.events cs h.rising h.rows;
  within = within_map limits.events cs h.rising;
}

abbrev pub held_good : {s : List ℕ} {cs : List (List ℕ)} → Held s cs → Good s
held_good {s} {cs} h = record { sets = map of_events cs; tells = held_tells h }

pub held_once : {s : List ℕ} {cs ds : List (List ℕ)} → Held s cs → Held s ds → cs ≡ ds
held_once {cs = cs} {ds = ds} h k = cuts_once cs ds (sym h.bytes ∙ k.bytes)

-- cuts in front, as sets
pub front_bytes : (cs : List (List ℕ)) → AllRising cs → cuts_bytes cs ≡ sets_bytes limits.events (map of_events cs)
front_bytes cs r = bytes_back limits.events cs r

-- ---- A LISTING of sets of n events, as many as there may be or fewer, in order is good, and tells these sets

as_bytes : (n k : ℕ) (l : List Set) → ((S : Set) → In S l → members n S ≡ members k S) → sets_bytes n l ≡ sets_bytes k l
as_bytes n k [] h = refl
as_bytes n k (S ∷ l) h = ap₂ (λ (x : List ℕ) (y : List ℕ). cut_bytes x ++ y) (h S (inl refl)) (as_bytes n k l (λ T j. h T (inr j)))

listed_tells : (n k : ℕ) (l : List Set) → n ≤ k → ((S : Set) → In S l → Within n S) → (sets_bytes n l ≡ sets_bytes k l) × ((S : Set) → In S l → Within k S)
listed_tells n k l b w = (as_bytes n k l (λ S j. members_fewer k n S b (w S j)), λ S j i h. w S j i (omega arith))

pub listing_tells : (n : ℕ) (l : List Set) → n ≤ limits.events → Sorted l → ((S : Set) → In S l → Within n S) → Tells (sets_bytes n l) l
listing_tells n l b o w = let (p, q) = listed_tells n limits.events l b w in record { bytes = p; sorted = o; within = q }
