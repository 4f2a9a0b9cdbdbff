-- A lawful tree in the other form is lawful, and its bytes are accepted.
-- Assumes nothing.
use mathlib.Core.Path.{◌≡◌, refl}
use mathlib.Core.Bool.{Bool, true, false}
use mathlib.Core.List.{List}
use Prim.Native.Nat.{ℕ, zero, suc, ◌+◌, ◌≤◌, ◌<◌}
use native.Mathlib.Omega.{arith}
use lib.ListN.{length, get_or}
use lib.Dec.{ltb, eqb}
use borrow.Author.Tests.{ltb-true, ltb-false, eqb-true, eqb-false}
use Rattle.std.specs.Prelude.{Some, None}
use Rattle.paper.specs.Limits.{limits}
use Rattle.rules.proofs.Cases.{either}
use Rattle.records.specs.Judge.{Book, accept, outcome}
use Rattle.records.specs.Memory.{pad, no_event, memory}
use Rattle.records.specs.Trees.{Lawful}
use Rattle.records.specs.declared.Event.{Event}
use Rattle.records.proofs.Pad.{pad_get_d}
use Rattle.judging.specs.Bytes.{bytes_of}
use Rattle.writing.specs.Sites.{lowest_sited}
use Rattle.writing.specs.Writes.{laid_of, written_as, write_of}
use Rattle.writing.proofs.Writing.{written_is}
use Rattle.trees.specs.Exactly.{SameTree}
use Rattle.trees.proofs.Exactly.{lawful_accepted}
use Rattle.trees.proofs.RoundTrip.{keeps_sites}
use Rattle.moves.specs.Moves.{in_form}

-- ---- the search for a site

-- no event of a row has one
abbrev pub Siteless : List Event → ℕ → ℕ → Type 0
Siteless events i n = (e : ℕ) → i ≤ e → e < i + n → (get_or events e no_event).site ≡ 0

module _ (events : List Event) where
  none_step : (n i : ℕ) → lowest_sited (suc n) i events ≡ None → ((get_or events i no_event).site ≡ 0) × (lowest_sited n (i + 1) events ≡ None)
  unfolding lowest_sited
  none_step n i e = go (eqb (get_or events i no_event).site 0) refl
    where
      go : (t : Bool) → eqb (get_or events i no_event).site 0 ≡ t → ((get_or events i no_event).site ≡ 0) × (lowest_sited n (i + 1) events ≡ None)
      go true q = (eqb-true (get_or events i no_event).site 0 q, rw (q, lowest_sited) at e)
      go false q = let d : Some i ≡ None = rw (q, lowest_sited) at e in let z : ◌≡◌ {A = ℕ} 0 1 = cc in absurd (omega arith)

  -- where none is found, none is there
  pub found_none : (n i : ℕ) → lowest_sited n i events ≡ None → Siteless events i n
  found_none zero i e x low high = absurd (omega arith)
  found_none (suc n) i e x low high =
      let (here, on) = none_step n i e in
      either (ltb i x)
      (λ q. found_none n (i + 1) on x (omega (arith, ltb-true i x q)) (omega arith))
      (λ q. let same : x ≡ i = omega (arith, ltb-false i x q) in rw same here)

  -- what is found has a site, and none before it has
  pub record First (i n e : ℕ) : Type 0 where
    pub low : i ≤ e
    pub high : e < i + n
    pub sited : (get_or events e no_event).site ≡ 0 → ⊥
    pub before : (x : ℕ) → i ≤ x → x < e → (get_or events x no_event).site ≡ 0

  pub found_first : (n i e : ℕ) → lowest_sited n i events ≡ Some e → First i n e
  unfolding lowest_sited
  found_first zero i e q = let z : ◌≡◌ {A = ℕ} 0 1 = cc in absurd (omega arith)
  found_first (suc n) i e q = go (eqb (get_or events i no_event).site 0) refl (found_first n (i + 1) e)
    where
      go : (t : Bool) → eqb (get_or events i no_event).site 0 ≡ t → (lowest_sited n (i + 1) events ≡ Some e → First (i + 1) n e) → First i (suc n) e
      go true h on =
          let f = on (rw (h, lowest_sited) at q) in
          record {
            low = omega (arith, f.low);
            high = omega (arith, f.high);
            sited = f.sited;
            before = λ x l u. either (ltb i x)
                (λ p. f.before x (omega (arith, ltb-true i x p)) u)
                (λ p. let same : x ≡ i = omega (arith, ltb-false i x p) in rw same (eqb-true (get_or events i no_event).site 0 h));
          }
      go false h on =
          let d : Some i ≡ Some e = rw (h, lowest_sited) at q in
          let same : e ≡ i = cc in
          record {
            low = omega arith;
            high = omega arith;
            sited = rw same (eqb-false (get_or events i no_event).site 0 h);
            before = λ x l u. absurd (omega arith);
          }

-- events that are the same give the same
pub same_sited : (n i : ℕ) (xs ys : List Event) → ((e : ℕ) → i ≤ e → e < i + n → get_or xs e no_event ≡ get_or ys e no_event) → lowest_sited n i xs ≡ lowest_sited n i ys
unfolding lowest_sited
same_sited zero i xs ys h = refl
same_sited (suc n) i xs ys h =
    let on : lowest_sited n (i + 1) xs ≡ lowest_sited n (i + 1) ys = same_sited n (i + 1) xs ys (λ e low high. h e (omega arith) (omega arith)) in
    let here : get_or xs i no_event ≡ get_or ys i no_event = h i (omega arith) (omega arith) in
    either (eqb (get_or ys i no_event).site 0) (λ t. rw (lowest_sited, here, t) on) (λ t. rw (lowest_sited, here, t))

-- so a tree in memory is searched as the tree
pub memory_sited : (b : Book) → lowest_sited (memory b).event_count 0 (memory b).events ≡ lowest_sited (length b.events) 0 b.events
unfolding memory
memory_sited b =
    same_sited (length b.events) 0 (pad limits.events no_event b.events) b.events (λ e low high. pad_get_d limits.events no_event b.events e no_event (omega arith))

-- ---- the other form

-- a lawful tree, and where its records are to have no sites, each site is 0
module _ (sited : Bool) {b : Book} (l : Lawful limits b) (free : sited ≡ false → Siteless b.events 0 (length b.events)) where
  pub form_lawful : Lawful limits (in_form sited b)
  form_lawful = record {
    some_event = l.some_event;
    some_gate = l.some_gate;
    few_events = l.few_events;
    few_gates = l.few_gates;
    same_kinds = l.same_kinds;
    same_leasts = l.same_leasts;
    all_inputs = l.all_inputs;
    few_inputs = l.few_inputs;
    chances = l.chances;
    sites = λ q e h. free q e (omega arith) (omega arith);
    kinds = l.kinds;
    sizes = l.sizes;
    leasts = l.leasts;
    plain = l.plain;
    inputs = l.inputs;
    events_used = l.events_used;
    gates_used = l.gates_used;
  }

  pub form_accepted : (c : Book) × (outcome limits (bytes_of (memory (in_form sited b))) ≡ accept c) × SameTree (in_form sited b) c
  form_accepted = lawful_accepted (in_form sited b) form_lawful

  -- so that writing it asks for the room alone
  pub form_writes : (room : List ℕ) → write_of limits (memory (in_form sited b)) room ≡ laid_of (accept b) (bytes_of (memory (in_form sited b))) room
  unfolding write_of
  form_writes room =
      let (c, e, s) = form_accepted in
      let is : written_as limits (memory (in_form sited b)) ≡ accept c = written_is (memory (in_form sited b)) c e (keeps_sites (in_form sited b) form_lawful) in
      rw is

-- a tree without sites has site 0 everywhere
pub plain_siteless : {b : Book} → Lawful limits b → b.sited ≡ false → Siteless b.events 0 (length b.events)
plain_siteless l q e low high = l.sites q e (omega arith)
