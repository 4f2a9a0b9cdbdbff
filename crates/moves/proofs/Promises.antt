-- What the moves come to: a tree already so keeps its bytes; there and back gives the bytes that went in, both ways round; the tree is the same; and the way
-- back is refused with 22 exactly at the first site that is not 0.
-- Assumes nothing.
use mathlib.Core.Path.{◌≡◌, refl, sym, ap, ◌∙◌}
use mathlib.Core.Logic.{◌↔◌}
use mathlib.Core.Bool.{Bool, true, false}
use mathlib.Core.List.{List, ◌++◌}
use Prim.Native.Nat.{ℕ, ◌*◌, ◌≤◌}
use native.Mathlib.Omega.{arith}
use lib.ListN.{length, take, drop}
use lib.Seq.{take_at}
use lib.Dec.{ltb}
use borrow.Author.Tests.{ltb-true, ltb-false, le-ltb}
use Rattle.std.specs.Prelude.{Option, Some, None, Result, Ok, Err}
use Rattle.paper.specs.Limits.{limits}
use Rattle.rules.specs.Format.{length_of}
use Rattle.rules.proofs.Cases.{either}
use Rattle.records.specs.Judge.{Book, accept, outcome}
use Rattle.records.specs.Memory.{memory}
use Rattle.records.specs.Trees.{Lawful, tree_of}
use Rattle.judging.specs.Bytes.{bytes_of}
use Rattle.writing.specs.Sites.{lowest_sited}
use Rattle.writing.specs.Writes.{Wrote, wrote, laid_of}
use Rattle.writing.proofs.Seeking.{none_sited}
use Rattle.rules.specs.declared.Refusal.{Refusal}
use Rattle.rules.specs.declared.Refusal.TheVariants.{Room, Sited}
use Rattle.trees.specs.Exactly.{AreBytes, SameTree}
use Rattle.trees.proofs.Exactly.{same_tree_of}
use Rattle.trees.proofs.Lawful.{lawful}
use Rattle.trees.proofs.RoundTrip.{round_trip}
use Rattle.moves.specs.Moves.{in_form, to_sites, from_sites}
use Rattle.moves.proofs.Forms.{Siteless, First, found_none, found_first, form_accepted, plain_siteless}

-- a text that was laid into a room stands at its front
laid_front : (b : Book) (s room : List ℕ) {w : Wrote} {n : ℕ} → w ≡ laid_of (accept b) s room → w.answer ≡ Ok n → take n w.room ≡ s
laid_front b s room {w} {n} q d =
    either (ltb (length room) (length s))
    (λ short.
    let x : w ≡ wrote (Err Room) room = q ∙ rw short in
    let y : ◌≡◌ {A = Result ℕ Refusal} (Ok n) (Err Room) = sym d ∙ ap (λ (v : Wrote). v.answer) x in
    let z : ◌≡◌ {A = ℕ} 0 1 = cc in absurd (omega arith))
    (λ fits.
    let x : w ≡ wrote (Ok (length s)) (s ++ drop (length s) room) = q ∙ rw fits in
    let y : ◌≡◌ {A = Result ℕ Refusal} (Ok n) (Ok (length s)) = sym d ∙ ap (λ (v : Wrote). v.answer) x in
    let k : n ≡ length s = cc in
    ap (λ (v : Wrote). take n v.room) x ∙ ap (λ (m : ℕ). take m (s ++ drop (length s) room)) k ∙ take_at s (drop (length s) room) (length s) refl)

-- two books that tell the same tree tell it in any form
same_form : (sited : Bool) {b c : Book} → SameTree b c → memory (in_form sited c) ≡ memory (in_form sited b)
unfolding memory
same_form sited s = rw (s.events, s.kinds, s.leasts, s.sizes, s.inputs)

module _ (bytes : List ℕ) (good : AreBytes bytes) (b : Book) (e : outcome limits bytes ≡ accept b) where
  law : Lawful limits b
  law = lawful bytes b e

  -- in its own form a tree has its own bytes
  own_bytes : (sited : Bool) → b.sited ≡ sited → bytes_of (memory (in_form sited b)) ≡ bytes
  own_bytes sited q = ap (λ (x : Bool). bytes_of (memory (in_form x b))) (sym q) ∙ round_trip bytes good b e

  no_sites : Siteless b.events 0 (length b.events) → lowest_sited (length b.events) 0 b.events ≡ None
  no_sites free = none_sited (length b.events) 0 b.events free

  -- A TREE ALREADY SO stays as it is
  pub stays_sited : b.sited ≡ true → (room : List ℕ) → length bytes ≤ length room → to_sites limits bytes room ≡ wrote (Ok (length bytes)) (bytes ++ drop (length bytes) room)
  unfolding to_sites
  stays_sited q room h = rw (e, own_bytes true q, le-ltb (length room) (length bytes) h)

  pub stays_plain : b.sited ≡ false → (room : List ℕ) → length bytes ≤ length room → from_sites limits bytes room ≡ wrote (Ok (length bytes)) (bytes ++ drop (length bytes) room)
  unfolding from_sites
  stays_plain q room h = rw (e, no_sites (plain_siteless law q), own_bytes false q, le-ltb (length room) (length bytes) h)

  -- the bytes that a move gives are the tree's in the other form
  pub to_front : (room : List ℕ) {w : Wrote} {n : ℕ} → w ≡ to_sites limits bytes room → w.answer ≡ Ok n → take n w.room ≡ bytes_of (memory (in_form true b))
  unfolding to_sites
  to_front room q d = laid_front b (bytes_of (memory (in_form true b))) room (q ∙ rw e) d

  module _ (free : Siteless b.events 0 (length b.events)) where
    pub from_front : (room : List ℕ) {w : Wrote} {n : ℕ} → w ≡ from_sites limits bytes room → w.answer ≡ Ok n → take n w.room ≡ bytes_of (memory (in_form false b))
    unfolding from_sites
    from_front room q d = laid_front b (bytes_of (memory (in_form false b))) room (q ∙ rw (e, no_sites free)) d

  never : true ≡ false → Siteless b.events 0 (length b.events)
  never z = let y : ◌≡◌ {A = ℕ} 0 1 = cc in absurd (omega arith)

  -- THE SAME TREE: what is read of these bytes has the gates, the chances and the sites
  pub record Same (sited : Bool) (new : List ℕ) : Type 0 where
    pub book : Book
    pub accepted : outcome limits new ≡ accept book
    pub tree : tree_of book ≡ tree_of b
    pub events : book.events ≡ b.events
    pub form : book.sited ≡ sited

  same_in : (sited : Bool) → (sited ≡ false → Siteless b.events 0 (length b.events)) → {new : List ℕ} → new ≡ bytes_of (memory (in_form sited b)) → Same sited new
  unfolding tree_of
  same_in sited free q =
      let (c, is, s) = form_accepted sited law free in
      record { book = c; accepted = ap (outcome limits) q ∙ is; tree = same_tree_of s; events = s.events; form = s.sited }

  pub to_keeps : (room : List ℕ) {w : Wrote} {n : ℕ} → w ≡ to_sites limits bytes room → w.answer ≡ Ok n → Same true (take n w.room)
  to_keeps room q d = same_in true never (to_front room q d)

  pub from_keeps : Siteless b.events 0 (length b.events) → (room : List ℕ) {w : Wrote} {n : ℕ} → w ≡ from_sites limits bytes room → w.answer ≡ Ok n → Same false (take n w.room)
  from_keeps free room q d = same_in false (λ _. free) (from_front free room q d)

  -- OLD TO NEW TO OLD gives the same bytes
  pub there_and_back : b.sited ≡ false → (room last : List ℕ) {w : Wrote} {n : ℕ} → w ≡ to_sites limits bytes room → w.answer ≡ Ok n → length bytes ≤ length last
      → from_sites limits (take n w.room) last ≡ wrote (Ok (length bytes)) (bytes ++ drop (length bytes) last)
  unfolding from_sites
  there_and_back plain room last {w} {n} q d h =
      let (c, is, s) = form_accepted true law never in
      let accepted : outcome limits (take n w.room) ≡ accept c = ap (outcome limits) (to_front room q d) ∙ is in
      let none : lowest_sited (length c.events) 0 c.events ≡ None = rw s.events (no_sites (plain_siteless law plain)) in
      let again : bytes_of (memory (in_form false c)) ≡ bytes = ap bytes_of (same_form false s) ∙ own_bytes false plain in
      rw (accepted, none, again, le-ltb (length last) (length bytes) h)

  -- AND NEW TO OLD TO NEW, where each site is 0
  pub back_and_there : b.sited ≡ true → Siteless b.events 0 (length b.events) → (room last : List ℕ) {w : Wrote} {n : ℕ} → w ≡ from_sites limits bytes room → w.answer ≡ Ok n
      → length bytes ≤ length last → to_sites limits (take n w.room) last ≡ wrote (Ok (length bytes)) (bytes ++ drop (length bytes) last)
  unfolding to_sites
  back_and_there sited free room last {w} {n} q d h =
      let (c, is, s) = form_accepted false law (λ _. free) in
      let accepted : outcome limits (take n w.room) ≡ accept c = ap (outcome limits) (from_front free room q d) ∙ is in
      let again : bytes_of (memory (in_form true c)) ≡ bytes = ap bytes_of (same_form true s) ∙ own_bytes true sited in
      rw (accepted, again, le-ltb (length last) (length bytes) h)

  -- 22 EXACTLY where a site is not 0, at the first such record
  first_found : (i : ℕ) → First b.events 0 (length b.events) i → lowest_sited (length b.events) 0 b.events ≡ Some i
  first_found i f = go (lowest_sited (length b.events) 0 b.events) refl
    where
      go : (x : Option ℕ) → lowest_sited (length b.events) 0 b.events ≡ x → lowest_sited (length b.events) 0 b.events ≡ Some i
      go None q = absurd (f.sited (found_none b.events (length b.events) 0 q i f.low f.high))
      go (Some j) q =
          let g = found_first b.events (length b.events) 0 j q in
          either (ltb i j)
          (λ p. absurd (f.sited (g.before i f.low (ltb-true i j p))))
          (λ p. either (ltb j i)
          (λ r. absurd (g.sited (f.before j g.low (ltb-true j i r))))
          (λ r. let same : j ≡ i = omega (arith, ltb-false i j p, ltb-false j i r) in q ∙ ap Some same))

  pub sited_exactly : (room : List ℕ) (i : ℕ) → ((from_sites limits bytes room).answer ≡ Err (Sited (length_of 0x11 * i))) ↔ First b.events 0 (length b.events) i
  unfolding from_sites
  sited_exactly room i = ((λ q. go (lowest_sited (length b.events) 0 b.events) refl q), (λ f. rw (e, first_found i f)))
    where
      go : (x : Option ℕ) → lowest_sited (length b.events) 0 b.events ≡ x → (from_sites limits bytes room).answer ≡ Err (Sited (length_of 0x11 * i))
          → First b.events 0 (length b.events) i
      go (Some j) q a =
          let d : ◌≡◌ {A = Result ℕ Refusal} (Err (Sited (length_of 0x11 * j))) (Err (Sited (length_of 0x11 * i))) = rw (e, q) at a in
          let n : length_of 0x11 * j ≡ length_of 0x11 * i = cc in
          let same : j ≡ i = omega arith in
          found_first b.events (length b.events) 0 i (q ∙ ap Some same)
      go None q a = absurd (fits (ltb (length room) (length (bytes_of (memory (in_form false b))))) refl)
        where
          fits : (t : Bool) → ltb (length room) (length (bytes_of (memory (in_form false b)))) ≡ t → ⊥
          fits true p = let d : ◌≡◌ {A = Result ℕ Refusal} (Err Room) (Err (Sited (length_of 0x11 * i))) = rw (e, q, p) at a in let z : ◌≡◌ {A = ℕ} 0 1 = cc in omega arith
          fits false p = let d : ◌≡◌ {A = Result ℕ Refusal} (Ok (length (bytes_of (memory (in_form false b))))) (Err (Sited (length_of 0x11 * i))) = rw (e, q, p) at a in let z : ◌≡◌ {A = ℕ} 0 1 = cc in omega arith

  -- with the room as it was
  pub sited_writes_nothing : (room : List ℕ) (i : ℕ) → First b.events 0 (length b.events) i → from_sites limits bytes room ≡ wrote (Err (Sited (length_of 0x11 * i))) room
  unfolding from_sites
  sited_writes_nothing room i f = rw (e, first_found i f)
