-- The walk's loop: the invariant over the work lists, and one law for each way through a turn.
-- Assumes nothing.
use mathlib.Core.Path.{◌≡◌, refl, sym, ap, ◌∙◌, subst}
use mathlib.Core.List.{List, [], ◌∷◌, ◌++◌}
use Prim.Native.Nat.{ℕ, zero, suc, ◌+◌, ◌-◌, ◌<◌, ◌≤◌}
use native.Mathlib.Omega.{arith}
use lib.ListN.{get_or, length, take, set, length-set}
use lib.Seq.{slice, take-suc-set}
use Rattle.paper.specs.Walks.{Leads, visit}
use Rattle.depthfirst.specs.Inputs.{inputs_of, Arrays}
use Rattle.depthfirst.specs.Marking.{marked, Rooms, Idle, Listed, Passes, Stands, Opened, Closed}
use Rattle.depthfirst.specs.Answers.{Shown, Ended}
use Rattle.depthfirst.proofs.Lists.{slice_none, slice_next}
use Rattle.depthfirst.proofs.Marks.{all_le, all_lt, one_more, same_many, marks_open, top_low, top_one}
use Rattle.depthfirst.proofs.Visits.{none, over, finish, finish_pass, finish_open, finish_root, finish_leave, finish_none, visit_seen}
use Rattle.depthfirst.proofs.Frames.{frames, frames_placed, frames_opened, spot_of, ring_of}
use Rattle.depthfirst.proofs.Standing.{Standing, passed_done, stand_leave, stand_open, top_leads, not_done_new}

-- THE INVARIANT: d names are open, `left` names are left, and from where this walk stands the recursive one leaves `target` in the end,
-- to whatever depth, of n or more, it goes
pub record Going (S I : List ℕ) (n : ℕ) (M K A Q : List ℕ) (d left : ℕ) (target : ℕ → List ℕ) : Type 0 where
  pub rooms : Rooms n M K A Q
  pub full : marked (take n M) ≡ d + left
  pub stand : Standing (inputs_of S I) n M (frames S I K A d) (take left Q)
  pub goes : (k : ℕ) → n ≤ k + d → finish (inputs_of S I) k (frames S I K A d) (take left Q) ≡ target (k + d)

-- ---- the beginning and the end

module _ {S I : List ℕ} {n : ℕ} {M K A Q : List ℕ} {left root : ℕ}
    (room : Rooms n M K A Q) (idle : Idle S I n M Q left) (low : root < n) where
  pub seen_before : 2 ≤ get_or M root 0 → Ended S I n M Q left (λ k. visit (inputs_of S I) k (take left Q) root)
  seen_before seen = record {
    idle = idle;
    is = λ k h. sym (visit_seen (inputs_of S I) k (take left Q) root (idle.marks.two_done root low seen));
  }

  root_new : get_or M root 0 < 2 → get_or M root 0 ≡ 0
  root_new h = go (get_or M root 0) refl h
    where
      go : (v : ℕ) → get_or M root 0 ≡ v → v < 2 → v ≡ 0
      go zero e l = refl
      go (suc zero) e l = absurd (idle.marks.one_way root low e)
      go (suc (suc v)) e l = omega arith

  module _ {M' K' A' : List ℕ} (new : get_or M root 0 < 2) (o : Opened S M K A 0 root M' K' A') where
    first_frame : frames S I K' A' 1 ≡ over root (inputs_of S I root) none
    first_frame = frames_opened S I o (omega (arith, room.stack)) (omega (arith, room.places))

    first_stand : Standing (inputs_of S I) n (set M root 1) (over root (inputs_of S I root) none) (take left Q)
    first_stand = record {
      marks = marks_open idle.marks low (root_new new);
      ordered = idle.ordered;
      framed = (record { passed = []; whole = refl; behind = λ w h. absurd h }, tt);
    }

    first_goes : (k : ℕ) → finish (inputs_of S I) k (over root (inputs_of S I root) none) (take left Q) ≡ visit (inputs_of S I) (k + 1) (take left Q) root
    first_goes k =
        let e : suc k ≡ k + 1 = omega arith in
        finish_root (inputs_of S I) k root (take left Q) (λ h. let z = idle.marks.done_two root h in let b : ⊥ = omega (arith, new) in b)
        ∙ ap (λ j. visit (inputs_of S I) j (take left Q) root) e

    pub going_start : Going S I n M' K' A' Q 1 left (λ k. visit (inputs_of S I) k (take left Q) root)
    going_start = record {
      rooms = rw (o.mark, o.stack, o.place) (record { marks = simp length-set room.marks; stack = simp length-set room.stack; places = simp length-set room.places; order = room.order });
      full = rw o.mark (let a = one_more n M room.marks root 0 low (root_new new) in let b = idle.full in omega arith);
      stand = rw (first_frame, o.mark) first_stand;
      goes = λ k h. rw first_frame (first_goes k);
    }

pub going_end : {S I : List ℕ} {n : ℕ} {M K A Q : List ℕ} {d left : ℕ} {target : ℕ → List ℕ} → Going S I n M K A Q d left target → d ≡ 0 → Ended S I n M Q left target
going_end {S} {I} {n} {M} {K} {A} {Q} {d} {left} {target} go0 e = go (subst (λ k. Going S I n M K A Q k left target) e go0)
  where
    go : Going S I n M K A Q 0 left target → Ended S I n M Q left target
    go w = record {
      idle = record { marks = w.stand.marks; full = let f = w.full in omega arith; ordered = w.stand.ordered };
      is = λ k h. let q : k + 0 ≡ k = omega arith in sym (finish_none (inputs_of S I) k (take left Q)) ∙ w.goes k (omega arith) ∙ ap target q;
    }

-- ---- a turn, with t + 1 names open

module _ {S I : List ℕ} {n : ℕ} {M K A Q : List ℕ} {t left : ℕ} {target : ℕ → List ℕ}
    (ar : Arrays S I n) (w : Going S I n M K A Q (suc t) left target) where
  pub turn_low : get_or K t 0 < n
  turn_low = top_low w.stand.marks

  pub turn_room : suc t + left ≤ n
  turn_room = let a = all_le n M w.rooms.marks in let b = w.full in omega arith

  pub turn_new_room : (y : ℕ) → y < n → get_or M y 0 ≡ 0 → suc t + left < n
  turn_new_room y l z = let a = all_lt n M w.rooms.marks y l z in let b = w.full in omega arith

  pub turn_listed : Listed n I M (get_or S (get_or K t 0 + 1) 0)
  turn_listed = record { inside = ar.inside (get_or K t 0) turn_low; named = ar.named; long = w.rooms.marks }

  module _ {q : ℕ} (p : Passes n I M (get_or A t 0) (get_or S (get_or K t 0 + 1) 0) q) where
    -- ---- all inputs are left

    module _ {M' Q' : List ℕ} (end : get_or S (get_or K t 0 + 1) 0 ≤ q) (c : Closed M Q left (get_or K t 0) M' Q') where
      none_left : slice q (get_or S (get_or K t 0 + 1) 0) I ≡ []
      none_left = slice_none q (get_or S (get_or K t 0 + 1) 0) I end

      order_more : take (suc left) Q' ≡ take left Q ++ (get_or K t 0 ∷ [])
      order_more = let r = turn_room in rw c.order (take-suc-set Q left (get_or K t 0) (omega (arith, w.rooms.order)))

      leave_goes : (k : ℕ) → n ≤ k + suc t → finish (inputs_of S I) (suc k) (frames S I K A t) (take left Q ++ (get_or K t 0 ∷ [])) ≡ target (k + suc t)
      leave_goes k h =
          sym (finish_leave (inputs_of S I) k (get_or K t 0) (frames S I K A t) (take left Q))
          ∙ ap (λ r. finish (inputs_of S I) k (over (get_or K t 0) r (frames S I K A t)) (take left Q)) (sym none_left)
          ∙ sym (finish_pass (inputs_of S I) k (get_or K t 0) p.passed (slice q (get_or S (get_or K t 0 + 1) 0) I) (frames S I K A t) (take left Q)
          (passed_done w.stand p.passed (slice q (get_or S (get_or K t 0 + 1) 0) I) p.split p.low p.left))
          ∙ ap (λ r. finish (inputs_of S I) k (over (get_or K t 0) r (frames S I K A t)) (take left Q)) (sym p.split)
          ∙ w.goes k h

      left_goes : (k : ℕ) → n ≤ k + t → finish (inputs_of S I) k (frames S I K A t) (take left Q ++ (get_or K t 0 ∷ [])) ≡ target (k + t)
      left_goes k h =
          let r = turn_room in
          let e : k ≡ suc (k - 1) = omega arith in
          let f : k - 1 + suc t ≡ k + t = omega arith in
          ap (λ j. finish (inputs_of S I) j (frames S I K A t) (take left Q ++ (get_or K t 0 ∷ []))) e ∙ leave_goes (k - 1) (omega arith) ∙ ap target f

      pub going_leave : Going S I n M' K A Q' t (suc left) target
      going_leave = record {
        rooms = rw (c.mark, c.order) (record { marks = simp length-set w.rooms.marks; stack = w.rooms.stack; places = w.rooms.places; order = simp length-set w.rooms.order });
        full = rw c.mark (let a = same_many n M w.rooms.marks (get_or K t 0) 1 turn_low (let o = top_one w.stand.marks in omega arith) in let b = w.full in omega arith);
        stand = rw (order_more, c.mark) (stand_leave w.stand p.passed (slice q (get_or S (get_or K t 0 + 1) 0) I) p.split p.low p.left none_left);
        goes = λ k h. rw order_more (left_goes k h);
      }

    -- ---- the next input is not left

    module _ (more : q < get_or S (get_or K t 0 + 1) 0) where
      abbrev Rest-of : List ℕ
      Rest-of = slice (q + 1) (get_or S (get_or K t 0 + 1) 0) I

      next_first : slice q (get_or S (get_or K t 0 + 1) 0) I ≡ get_or I q 0 ∷ Rest-of
      next_first = slice_next q (get_or S (get_or K t 0 + 1) 0) I more (ar.inside (get_or K t 0) turn_low)

      pub next_low : get_or I q 0 < n
      next_low = ar.named q (omega (arith, ar.inside (get_or K t 0) turn_low))

      next_leads : Leads (inputs_of S I) (get_or K t 0) (get_or I q 0)
      next_leads = top_leads w.stand p.passed (slice q (get_or S (get_or K t 0 + 1) 0) I) p.split p.low p.left (get_or I q 0) Rest-of next_first

      pub next_new : (get_or M (get_or I q 0) 0 ≡ 1 → ⊥) → get_or M (get_or I q 0) 0 ≡ 0
      next_new h = go (get_or M (get_or I q 0) 0) (p.stop more) h
        where
          go : (v : ℕ) → v < 2 → (v ≡ 1 → ⊥) → v ≡ 0
          go v l k = omega arith

      -- ---- and is opened

      module _ {M' K' A' : List ℕ} (new : get_or M (get_or I q 0) 0 ≡ 0) (o : Opened S M K (set A t q) (suc t) (get_or I q 0) M' K' A') where
        wide_stack : suc t < length K
        wide_stack = let r = turn_new_room (get_or I q 0) next_low new in omega (arith, w.rooms.stack)

        wide_places : suc t < length A
        wide_places = let r = turn_new_room (get_or I q 0) next_low new in omega (arith, w.rooms.places)

        next_frames : frames S I K' A' (suc (suc t)) ≡ over (get_or I q 0) (inputs_of S I (get_or I q 0)) (over (get_or K t 0) (get_or I q 0 ∷ Rest-of) (frames S I K A t))
        next_frames =
            frames_opened S I o wide_stack (simp length-set wide_places)
            ∙ ap (over (get_or I q 0) (inputs_of S I (get_or I q 0))) (frames_placed S I K A t q (let l = wide_places in omega arith) ∙ ap (λ r. over (get_or K t 0) r (frames S I K A t)) next_first)

        open_goes : (k : ℕ) → n ≤ k + suc (suc t)
            → finish (inputs_of S I) k (over (get_or I q 0) (inputs_of S I (get_or I q 0)) (over (get_or K t 0) (get_or I q 0 ∷ Rest-of) (frames S I K A t))) (take left Q) ≡ target (k + suc (suc t))
        open_goes k h =
            let e : suc k + suc t ≡ k + suc (suc t) = omega arith in
            sym (finish_open (inputs_of S I) k (get_or K t 0) (get_or I q 0) Rest-of (frames S I K A t) (take left Q) (not_done_new w.stand (get_or I q 0) new))
            ∙ ap (λ r. finish (inputs_of S I) (suc k) (over (get_or K t 0) r (frames S I K A t)) (take left Q)) (sym next_first)
            ∙ sym (finish_pass (inputs_of S I) (suc k) (get_or K t 0) p.passed (slice q (get_or S (get_or K t 0 + 1) 0) I) (frames S I K A t) (take left Q)
            (passed_done w.stand p.passed (slice q (get_or S (get_or K t 0 + 1) 0) I) p.split p.low p.left))
            ∙ ap (λ r. finish (inputs_of S I) (suc k) (over (get_or K t 0) r (frames S I K A t)) (take left Q)) (sym p.split)
            ∙ w.goes (suc k) (omega arith)
            ∙ ap target e

        pub going_open : Going S I n M' K' A' Q (suc (suc t)) left target
        going_open = record {
          rooms = rw (o.mark, o.stack, o.place) (record { marks = simp length-set w.rooms.marks; stack = simp length-set w.rooms.stack; places = simp length-set w.rooms.places; order = w.rooms.order });
          full = rw o.mark (let a = one_more n M w.rooms.marks (get_or I q 0) 0 next_low new in let b = w.full in omega arith);
          stand = rw (next_frames, o.mark) (stand_open w.stand p.passed (slice q (get_or S (get_or K t 0 + 1) 0) I) p.split p.low p.left (get_or I q 0) Rest-of next_first next_low new);
          goes = λ k h. rw next_frames (open_goes k h);
        }

      -- ---- and is open: a ring

      pub next_stands : get_or M (get_or I q 0) 0 ≡ 1 → Stands K (suc t) (get_or I q 0)
      next_stands e = spot_of S I K A (get_or I q 0) (suc t) (w.stand.marks.one_way (get_or I q 0) next_low e)

      pub next_ring : {r : ℕ} → r < suc t → get_or K r 0 ≡ get_or I q 0 → Shown S I K r (suc t)
      next_ring {r} l e = record {
        some = l;
        inside = deep;
        ring = ring_of S I K A (take left Q) t r (get_or I q 0) w.stand.framed.1 next_leads deep l e;
      }
        where
          deep : suc t ≤ length K
          deep = let a = turn_room in omega (arith, w.rooms.stack)
