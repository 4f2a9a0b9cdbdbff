-- A triple is written into the first free slot and put at the head of its chain: the store's invariant holds again.
-- Assumes nothing.
use mathlib.Core.Path.{◌≡◌, sym, ap, ◌∙◌, subst}
use mathlib.Core.Logic.{◌≢◌, ◌⊎◌, inl, inr}
use mathlib.Core.List.{List}
use Prim.Native.Nat.{ℕ, ◌+◌, ◌-◌, ◌*◌, ◌<◌, ◌≤◌}
use native.Mathlib.Decide.{ℕ_discrete}
use native.Mathlib.Omega.{arith}
use lib.ListN.{get_or, length, set, length-set}
use lib.Seq.{get_or-set_same, get_or-set_other}
use borrow.Author.Count.{below_more}
use Rattle.paper.specs.Diagrams.{node}
use Rattle.tables.specs.Table.{event_at, failed_at, sound_at, den}
use Rattle.tables.specs.Stored.{Lower, Unique}
use Rattle.tables.proofs.Den.{den_slot}
use Rattle.tables.proofs.Growth.{kept_numbers}
use Rattle.store.specs.Store.{first_slot, First, chain_at, Absent, Last, Store, Grown, Put}
use Rattle.store.proofs.Slots.{same_chain}
use Rattle.store.proofs.Denotes.{den_grown, below_or_not}

-- ---- three numbers are written

module _ (T : List ℕ) (c e f s : ℕ) (room : 3 * c + 3 ≤ length T) where
  abbrev one : List ℕ
  one = set T (3 * c) e

  abbrev two : List ℕ
  two = set one (3 * c + 1) f

  abbrev written : List ℕ
  written = set two (3 * c + 2) s

  elsewhere : (p : ℕ) → p ≢ 3 * c → p ≢ 3 * c + 1 → p ≢ 3 * c + 2 → get_or written p 0 ≡ get_or T p 0
  elsewhere p x y z =
      get_or-set_other two (3 * c + 2) p s 0 z ∙ get_or-set_other one (3 * c + 1) p f 0 y ∙ get_or-set_other T (3 * c) p e 0 x

  pub put_written : Put T c e f s written
  put_written = record {
    long = simp length-set;
    same = λ p l. elsewhere p (omega arith) (omega arith) (omega arith);
    is = record {
      event = get_or-set_other two (3 * c + 2) (3 * c) s 0 (omega arith) ∙ get_or-set_other one (3 * c + 1) (3 * c) f 0 (omega arith) ∙ get_or-set_same T (3 * c) e 0 (omega arith);
      failed = get_or-set_other two (3 * c + 2) (3 * c + 1) s 0 (omega arith) ∙ get_or-set_same one (3 * c + 1) f 0 (simp length-set (omega arith));
      sound = get_or-set_same two (3 * c + 2) s 0 (simp length-set (omega arith));
    };
    rest = λ p l. elsewhere p (omega arith) (omega arith) (omega arith);
  }

-- ---- the store with one triple more

module _ {T H X : List ℕ} {c e f s : ℕ} {T' : List ℕ} (t : Store T H X c) (p : Put T c e f s T') where
  pub put_grown : Grown T c T' (c + 1)
  put_grown = record {
    more = omega arith;
    long = p.long;
    kept = kept_numbers (λ q l. sym (p.same q l));
  }

  old_chain : (slots k : ℕ) → k < c → chain_at T' slots k ≡ chain_at T slots k
  old_chain slots k l =
      let x = p.same (3 * k) (omega arith) in
      let y = p.same (3 * k + 1) (omega arith) in
      let z = p.same (3 * k + 2) (omega arith) in
      λ j. first_slot (x j) (y j) (z j) slots

  old_last : (slots b h v : ℕ) → b ≤ c → Last T slots b h v → Last T' slots b h v
  old_last slots b h v l a = record {
    to = a.to;
    own = λ q. old_chain slots (v - 2) (omega (arith, a.to)) ∙ a.own q;
    none = λ k q m x. a.none k q m (sym (old_chain slots k (omega arith)) ∙ x);
  }

  module _ {h : ℕ} (first : First e f s (length H) h) (absent : Absent T c e f s) (room : 3 * c + 3 ≤ length T) (lf : f < c + 2) (ls : s < c + 2) where
    abbrev heads' : List ℕ
    heads' = set H h (c + 2)

    abbrev next' : List ℕ
    next' = set X c (get_or H h 0)

    new_lower : Lower T' (c + 1)
    new_lower = record {
      failed = below_more (λ k. failed_at T' k < k + 2) c
          (λ k l. let x = t.lower.failed k l in let y = p.same (3 * k + 1) (omega arith) in omega arith)
          (let y = p.is.failed in omega arith);
      sound = below_more (λ k. sound_at T' k < k + 2) c
          (λ k l. let x = t.lower.sound k l in let y = p.same (3 * k + 2) (omega arith) in omega arith)
          (let y = p.is.sound in omega arith);
    }

    -- an old slot does not hold the new triple
    not_new : (j k : ℕ) → j < c → k ≡ c → event_at T' j ≡ event_at T' k → failed_at T' j ≡ failed_at T' k → sound_at T' j ≡ sound_at T' k → ⊥
    not_new j k l q x y z = absent j l (record {
      event = sym (p.same (3 * j) (omega arith)) ∙ x ∙ ap (event_at T') q ∙ p.is.event;
      failed = sym (p.same (3 * j + 1) (omega arith)) ∙ y ∙ ap (failed_at T') q ∙ p.is.failed;
      sound = sym (p.same (3 * j + 2) (omega arith)) ∙ z ∙ ap (sound_at T') q ∙ p.is.sound;
    })

    new_unique : Unique T' (c + 1)
    new_unique = record { same = λ j k a b x y z. go j k a b x y z (below_or_not j c) (below_or_not k c) }
      where
        go : (j k : ℕ) → j < c + 1 → k < c + 1 → event_at T' j ≡ event_at T' k → failed_at T' j ≡ failed_at T' k → sound_at T' j ≡ sound_at T' k → (j < c) ⊎ (c ≤ j) → (k < c) ⊎ (c ≤ k) → j ≡ k
        go j k a b x y z (inl l) (inl m) = t.unique.same j k l m
            (sym (p.same (3 * j) (omega arith)) ∙ x ∙ p.same (3 * k) (omega arith))
            (sym (p.same (3 * j + 1) (omega arith)) ∙ y ∙ p.same (3 * k + 1) (omega arith))
            (sym (p.same (3 * j + 2) (omega arith)) ∙ z ∙ p.same (3 * k + 2) (omega arith))
        go j k a b x y z (inl l) (inr m) = absurd (not_new j k l (omega arith) x y z)
        go j k a b x y z (inr l) (inl m) = absurd (not_new k j m (omega arith) (sym x) (sym y) (sym z))
        go j k a b x y z (inr l) (inr m) = omega arith

    new_chain : chain_at T' (length H) c ≡ h
    new_chain = same_chain p.is (length H) ∙ sym first.is

    new_heads : (g : ℕ) → g < length H → Last T' (length H) (c + 1) g (get_or heads' g 0)
    new_heads g m = elim (ℕ_discrete g h) [
      | yes d ↦ subst (λ (y : ℕ). Last T' (length H) (c + 1) y (get_or heads' y 0)) (sym d) (rw (get_or-set_same H h (c + 2) 0 first.below) (record {
        to = omega arith;
        own = λ _. let z : c ≡ (c + 2) - 2 = omega arith in subst (λ (y : ℕ). chain_at T' (length H) y ≡ h) z new_chain;
        none = λ k x y _. omega arith;
      }))
      | no n ↦ rw (get_or-set_other H h g (c + 2) 0 n) (
          let a = old_last (length H) c g (get_or H g 0) (omega arith) (t.heads g m) in record {
            to = omega (arith, a.to);
            own = a.own;
            none = λ k x y. below_more (λ k. get_or H g 0 ≤ k + 1 → chain_at T' (length H) k ≡ g → ⊥) c (λ k z w. a.none k w z) (λ _ w. n (sym w ∙ new_chain)) k y x;
          })
    ]

    new_links : (k : ℕ) → k < c + 1 → Last T' (length H) k (chain_at T' (length H) k) (get_or next' k 0)
    new_links = below_more (λ k. Last T' (length H) k (chain_at T' (length H) k) (get_or next' k 0)) c
        (λ k m. rw (get_or-set_other X c k (get_or H h 0) 0 (omega arith), old_chain (length H) k m) (old_last (length H) k (chain_at T (length H) k) (get_or X k 0) (omega arith) (t.links k m)))
        (rw (get_or-set_same X c (get_or H h 0) 0 (omega arith), new_chain) (old_last (length H) c h (get_or H h 0) (omega arith) (t.heads h first.below)))

    pub store_more : Store T' heads' next' (c + 1)
    store_more = record {
      room = omega arith;
      small = omega arith;
      linked = simp length-set (omega arith);
      chains = simp length-set (omega arith);
      lower = new_lower;
      unique = new_unique;
      behind = record { zero = λ i m. p.rest i (omega arith) ∙ t.behind.zero i (omega arith) };
      heads = subst (λ (n : ℕ). (g : ℕ) → g < n → Last T' n (c + 1) g (get_or heads' g 0)) (sym (length-set H h (c + 2))) new_heads;
      links = subst (λ (n : ℕ). (k : ℕ) → k < c + 1 → Last T' n k (chain_at T' n k) (get_or next' k 0)) (sym (length-set H h (c + 2))) new_links;
    }

    -- the new number denotes the triple
    pub den_more : den T' (c + 2) ≡ node e (den T f) (den T s)
    den_more =
        let x = den_grown t.lower put_grown f lf in
        let y = den_grown t.lower put_grown s ls in
        den_slot new_lower c (omega arith) ∙ (λ j. node (p.is.event j) (den T' (p.is.failed j)) (den T' (p.is.sound j))) ∙ (λ j. node e (x j) (y j))
