-- The first cut that stands in one of two listings only.
-- Assumes nothing.
use mathlib.Core.Path.{◌≡◌, refl, sym, ap, ◌∙◌, subst}
use mathlib.Core.Logic.{◌⊎◌, inl, inr}
use mathlib.Core.List.{List, [], ◌∷◌, ◌++◌, map}
use Prim.Native.Nat.{ℕ, ◌+◌, ◌<◌}
use Rattle.std.specs.Prelude.{Option, Ok}
use native.Mathlib.Omega.{arith}
use lib.ListN.{length, drop}
use Rattle.paper.specs.Limits.{limits}
use Rattle.paper.specs.Lists.{In}
use Rattle.paper.specs.Sets.{Set, of_events, members}
use Rattle.paper.specs.Order.{Before}
use Rattle.paper.specs.Listing.{cut_bytes, set_bytes}
use Rattle.paper.specs.GoodListing.{Good}
use Rattle.paper.specs.Changes.{Only, FirstSet, Shows}
use Rattle.algebra.proofs.Lists.{in_append, in_left, in_right, in_map, map_in, map_append}
use Rattle.sidebyside.specs.Members.{RisingFrom, Lt, Leads, Rows, AllRising, cuts_bytes, Held}
use Rattle.sidebyside.specs.OneCut.{Ends, Follows, Orders}
use Rattle.sidebyside.specs.Walking.{Standing, Walked}
use Rattle.sidebyside.specs.Finding.{Finds, Parted, FirstCut}
use Rattle.sidebyside.specs.declared.Difference.{Difference}
use Rattle.std.specs.declared.cmp.Ordering.TheVariants.{Less, Equal, Greater}
use Rattle.sidebyside.proofs.Lt.{lt_irrefl, leads_first, leads_out, rows_split}
use Rattle.sidebyside.proofs.Sets.{members_of, lt_before}
use Rattle.sidebyside.proofs.Telling.{held_good, front_bytes}
use Rattle.sidebyside.proofs.Walking.{good_split, walk_start, walk_over, here, cut_long, walk_head, walk_next}

-- ---- two lists in order

-- the first of the one, where the other has nothing
pub first_alone : (c : List ℕ) (cs : List (List ℕ)) → Leads c cs → FirstCut c (c ∷ cs) []
first_alone c cs l = record { only = (inl refl, λ k. absurd k); first = go }
  where
    go : (d : List ℕ) → Only d (c ∷ cs) [] ⊎ Only d [] (c ∷ cs) → (d ≡ c) ⊎ Lt c d
    go d (inl (inl e, n)) = inl e
    go d (inl (inr k, n)) = inr (l d k)
    go d (inr (k, n)) = absurd k

-- or begins with a later cut
pub first_lower : (c d : List ℕ) (cs ds : List (List ℕ)) → Leads c cs → Leads d ds → Lt c d → FirstCut c (c ∷ cs) (d ∷ ds)
first_lower c d cs ds l m h = record { only = (inl refl, leads_out c (d ∷ ds) all); first = go }
  where
    all : Leads c (d ∷ ds)
    all = leads_first c d ds h m

    go : (x : List ℕ) → Only x (c ∷ cs) (d ∷ ds) ⊎ Only x (d ∷ ds) (c ∷ cs) → (x ≡ c) ⊎ Lt c x
    go x (inl (inl e, n)) = inl e
    go x (inl (inr k, n)) = inr (l x k)
    go x (inr (k, n)) = inr (all x k)

-- the same cuts in front do not matter
first_behind : (x : List ℕ) (ps ls ms : List (List ℕ)) → Rows (ps ++ ls) → FirstCut x ls ms → FirstCut x (ps ++ ls) (ps ++ ms)
first_behind x ps ls ms r f = record { only = (in_right x ps ls f.only.0, λ k. out (in_append x ps ms k)); first = go }
  where
    out : In x ps ⊎ In x ms → ⊥
    out (inl k) = lt_irrefl x ((rows_split ps ls r).1 x x k f.only.0)
    out (inr k) = f.only.1 k

    behind : (d : List ℕ) (us vs : List (List ℕ)) → Only d (ps ++ us) (ps ++ vs) → In d ps ⊎ In d us → Only d us vs
    behind d us vs (k, n) (inl j) = absurd (n (in_left d ps vs j))
    behind d us vs (k, n) (inr j) = (j, λ i. n (in_right d ps vs i))

    go : (d : List ℕ) → Only d (ps ++ ls) (ps ++ ms) ⊎ Only d (ps ++ ms) (ps ++ ls) → (d ≡ x) ⊎ Lt x d
    go d (inl o) = f.first d (inl (behind d ls ms o (in_append d ps ls o.0)))
    go d (inr o) = f.first d (inr (behind d ms ls o (in_append d ps ms o.0)))

-- ---- the same of their sets

of_once : (c d : List ℕ) → RisingFrom 0 c → RisingFrom 0 d → of_events c ≡ of_events d → c ≡ d
of_once c d r q e = sym (members_of limits.events c r) ∙ ap (members limits.events) e ∙ members_of limits.events d q

only_cut : (ls ms : List (List ℕ)) (T : Set) → Only T (map of_events ls) (map of_events ms) → (d : List ℕ) × (T ≡ of_events d) × In d ls × Only d ls ms
only_cut ls ms T (k, n) =
    let (d, j, e) = map_in of_events T ls k in
    (d, e, j, (j, λ z. n (subst (λ (x : Set). In x (map of_events ms)) (sym e) (in_map of_events d ms z))))

first_set : (c : List ℕ) (ls ms : List (List ℕ)) → AllRising ls → AllRising ms → FirstCut c ls ms → FirstSet (of_events c) (map of_events ls) (map of_events ms)
first_set c ls ms r q f = record { only = (in_map of_events c ls f.only.0, out); first = go }
  where
    rc : RisingFrom 0 c
    rc = r c f.only.0

    out : In (of_events c) (map of_events ms) → ⊥
    out k = let (d, j, e) = map_in of_events (of_events c) ms k in f.only.1 (subst (λ (x : List ℕ). In x ms) (sym (of_once c d rc (q d j) e)) j)

    told : (T : Set) (d : List ℕ) → T ≡ of_events d → RisingFrom 0 d → (d ≡ c) ⊎ Lt c d → (T ≡ of_events c) ⊎ Before (of_events c) T
    told T d e rd (inl p) = inl (e ∙ ap of_events p)
    told T d e rd (inr p) = inr (subst (λ (x : Set). Before (of_events c) x) (sym e) (lt_before limits.events 0 c d rc rd p))

    go : (T : Set) → Only T (map of_events ls) (map of_events ms) ⊎ Only T (map of_events ms) (map of_events ls) → (T ≡ of_events c) ⊎ Before (of_events c) T
    go T (inl o) = let (d, e, k, w) = only_cut ls ms T o in told T d e (r d k) (f.first d (inl w))
    go T (inr o) = let (d, e, k, w) = only_cut ms ls T o in told T d e (q d k) (f.first d (inr w))

-- THE STRETCH: behind the same cuts in both, the first cut of what is left of y stands in y only, and no other such cut stands before it
pub shows_at : (c : List ℕ) (ps ls ms : List (List ℕ)) {y t : List ℕ} {at end : ℕ} → at ≡ length (cuts_bytes ps) → end ≡ at + length (cut_bytes c)
    → Held y (ps ++ (c ∷ ls)) → Held t (ps ++ ms) → FirstCut c (c ∷ ls) ms → Shows y t at end
shows_at c ps ls ms p e k j w = record {
  good = held_good k;
  other = held_good j;
  front = map of_events ps;
  set = of_events c;
  behind = map of_events ls;
  parts = map_append of_events ps (c ∷ ls);
  start = p ∙ ap length (front_bytes ps (λ d i. k.rising d (in_left d ps (c ∷ ls) i)));
  end =
      let a : length (set_bytes limits.events (of_events c)) ≡ length (cut_bytes c) = ap (λ (x : List ℕ). length (cut_bytes x)) (members_of limits.events c (k.rising c (in_right c ps (c ∷ ls) (inl refl)))) in
      omega (arith, a, e);
  first = first_set c (ps ++ (c ∷ ls)) (ps ++ ms) k.rising j.rising (first_behind c ps (c ∷ ls) ms k.rows w);
}

-- ---- the walk along both

-- the same cuts are passed up to `at` in both
pub record Along (y t : List ℕ) (at end stop : ℕ) : Type 0 where
  pub cuts : List (List ℕ)
  pub mine : Standing y at end cuts
  pub yours : Standing t at stop cuts

pub along_start : {y t : List ℕ} {end stop : ℕ} → Ends (RisingFrom 0) y 0 end → Ends (RisingFrom 0) t 0 stop → Along y t 0 end stop
along_start p q = record { cuts = []; mine = walk_start p; yours = walk_start q }

pub along_flip : {y t : List ℕ} {at end stop : ℕ} → Along y t at end stop → Along t y at stop end
along_flip f = record { cuts = f.cuts; mine = f.yours; yours = f.mine }

module _ {y t : List ℕ} {at end stop : ℕ} (f : Along y t at end stop) where
  pub along_mine : Walked y at end
  along_mine = record { cuts = f.cuts; standing = f.mine }

  pub along_yours : Walked t at stop
  along_yours = record { cuts = f.cuts; standing = f.yours }

  pub parted : {found found' : Option Difference} → (Good y → Good t → Finds y t (Ok found)) → found' ≡ found → Parted y t at end stop found'
  parted g e = rw e (record { mine = along_mine; yours = along_yours; shows = g })

  pub along_equal : end ≡ 0 → stop ≡ 0 → Good y → Good t → Good y × (y ≡ t)
  along_equal p q g h =
      let (ls, k) = good_split f.mine.passed g in
      let (ms, j) = good_split f.yours.passed h in
      (g, k.bytes ∙ ap (λ (x : List (List ℕ)). cuts_bytes (f.cuts ++ x)) (walk_over f.mine p ls k ∙ sym (walk_over f.yours q ms j)) ∙ sym j.bytes)

  module _ (h : 0 < end) where
    abbrev c : List ℕ
    c = (here f.mine h).cut

    -- the first cut of what is left decides
    shows : (ls ms : List (List ℕ)) → Held y (f.cuts ++ (c ∷ ls)) → Held t (f.cuts ++ ms) → FirstCut c (c ∷ ls) ms → Shows y t at end
    shows ls ms k j w = let b = cut_long f.mine h in let o = (here f.mine h).on in shows_at c f.cuts ls ms f.mine.passed.place (omega (arith, b, o)) k j w

    -- what is left of yesterday's good listing
    mine_left : Good y → (ls : List (List ℕ)) × Held y (f.cuts ++ (c ∷ ls)) × Leads c ls
    mine_left g =
        let (ls, k) = good_split f.mine.passed g in
        let (cs, e) = walk_head f.mine h ls k in
        let k' = subst (λ (x : List (List ℕ)). Held y (f.cuts ++ x)) e k in
        (cs, k', (rows_split f.cuts (c ∷ cs) k'.rows).0.0)

    pub along_alone : stop ≡ 0 → Good y → Good t → Shows y t at end
    along_alone z g u =
        let (ls, k, l) = mine_left g in
        let (ms, j) = good_split f.yours.passed u in
        shows ls [] k (subst (λ (x : List (List ℕ)). Held t (f.cuts ++ x)) (walk_over f.yours z ms j) j) (first_alone c ls l)

    module _ (q : 0 < stop) where
      abbrev d : List ℕ
      d = (here f.yours q).cut

      pub along_lower : Orders (drop at y) (drop at t) Less → Good y → Good t → Shows y t at end
      along_lower o g u =
          let (ls, k, l) = mine_left g in
          let (ms, j) = good_split f.yours.passed u in
          let (ds, e) = walk_head f.yours q ms j in
          let j' = subst (λ (x : List (List ℕ)). Held t (f.cuts ++ x)) e j in
          shows ls (d ∷ ds) k j' (first_lower c d ls ds l (rows_split f.cuts (d ∷ ds) j'.rows).0.0
          (o c d (drop end y) (drop stop t) (here f.mine h).is.0 (here f.yours q).is.0 (here f.mine h).bytes (here f.yours q).bytes))

      pub along_same : Orders (drop at y) (drop at t) Equal → {e r : ℕ} → Follows y at end e → Follows t at stop r → Along y t end e r
      along_same o {e} {r} v w =
          let p : c ≡ d = o c d (drop end y) (drop stop t) (here f.mine h).is.0 (here f.yours q).is.0 (here f.mine h).bytes (here f.yours q).bytes in
          let a = cut_long f.mine h in
          let b = cut_long f.yours q in
          let m = (here f.mine h).on in
          let n = (here f.yours q).on in
          let z : length (cut_bytes c) ≡ length (cut_bytes d) = ap (λ (x : List ℕ). length (cut_bytes x)) p in
          let same : stop ≡ end = omega (arith, a, b, m, n, z) in
          record {
            cuts = f.cuts ++ (c ∷ []);
            mine = walk_next f.mine h v;
            yours = subst (λ (x : ℕ). Standing t x r (f.cuts ++ (c ∷ []))) same (subst (λ (x : List ℕ). Standing t stop r (f.cuts ++ (x ∷ []))) (sym p) (walk_next f.yours q w));
          }

-- the second stands first: the first of the two seen from the other side
pub orders_flip : (t u : List ℕ) → Orders t u Greater → Orders u t Less
orders_flip t u o es fs rest rest' r s p q = o fs es rest' rest s r q p
