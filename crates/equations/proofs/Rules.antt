-- The answers, rule by rule: what each function of the way to the tree owes.
-- Assumes nothing.
use mathlib.Core.Path.{◌≡◌, refl, sym, ap, ◌∙◌, subst}
use mathlib.Core.Logic.{◌⊎◌, inl, inr}
use mathlib.Core.List.{List, ◌++◌, map}
use Prim.Native.Nat.{ℕ, suc, ◌-◌, ◌<◌}
use native.Mathlib.Omega.{arith}
use lib.ListN.{get_or, length, take}
use Rattle.std.specs.Prelude.{Ok, Err}
use lib.Seq.{slice, get_or-take}
use Rattle.paper.specs.Limits.{limits}
use Rattle.paper.specs.Lists.{In}
use Rattle.paper.specs.Refusals.{number}
use Rattle.paper.specs.declared.refusal.Refusal.{Refusal}
use Rattle.paper.specs.declared.refusal.Refusal.TheVariants.{Line, LeftTwice, Roots}
use Rattle.paper.specs.declared.refusal.Refusal.TheVariants.{Ring as ring_why}
use Rattle.paper.proofs.Refusals.{number_above}
use Rattle.paper.specs.Texts.{lines_of}
use Rattle.paper.specs.Equations.{inputs_in, wrong_in, twice_in}
use Rattle.paper.specs.Walks.{LeadsBack, OneRoot, events_of, gates_of}
use Rattle.paper.specs.Meaning.{event_names, tree_said}
use Rattle.paper.specs.Importing.{broken, Says, wrong_line, name_twice, not_one_root, beyond_limits}
use Rattle.paper.specs.Spots.{spots_in}
use Rattle.records.specs.Memory.{pad, memory}
use Rattle.records.specs.Flattened.{book_of}
use Rattle.depthfirst.specs.Inputs.{inputs_of}
use Rattle.depthfirst.specs.Answers.{Shown, AllInOrder, Numbers, Numberable}
use Rattle.depthfirst.proofs.Lists.{in_append}
use Rattle.depthfirst.proofs.Answers.{none_back, no_root_said}
use Rattle.meaning.proofs.Gates.{gates_in, events_in}
use Rattle.planting.specs.Orders.{tree_among, Plantable}
use Rattle.records.specs.declared.Tree.{Tree}
use Rattle.equations.specs.Contract.{spots_of}
use Rattle.equations.specs.Knowing.{Known, Room, Climbed}
use Rattle.equations.specs.Kinds.{KindsOf}
use Rattle.equations.specs.Showing.{lines_at, spots_at, ShowsNames}
use Rattle.equations.specs.Judging.{Ends, refused, done, Judged, ends, back}
use Rattle.equations.specs.Imported.{imported_of}
use Rattle.equations.proofs.Rings.{map_same, ring_shown, ring_size, ring_says}
use Rattle.equations.proofs.Knowing.{room_kept}
use Rattle.equations.proofs.Capped.{broken_low}
use Rattle.equations.proofs.Trees.{climbed_rooted, events_are, gates_are, planted_number, planted_tree}

-- ---- 15 and 16

module _ {text R W : List ℕ} {at : ℕ} where
  pub fifteen : wrong_in (lines_of text) ≡ suc at → Judged text R W R W (imported_of (Err (record { why = Line; line = at; ring = 0 })))
  fifteen e = ends (refused 15 at (wrong_line at e) (omega arith) (λ q. omega arith) (record { is = refl; nowhere = refl; at = refl; round = refl; tells = refl }) refl) refl

  pub sixteen : (wrong_in (lines_of text) ≡ 0) × (twice_in (lines_of text) ≡ suc at) → Judged text R W R W (imported_of (Err (record { why = LeftTwice; line = at; ring = 0 })))
  sixteen e = ends (refused 16 at (name_twice at e.0 e.1) (omega arith) (λ q. omega arith) (record { is = refl; nowhere = refl; at = refl; round = refl; tells = refl }) refl) refl

module _ {text : List ℕ} {c : ℕ} {N F G S I : List ℕ} (k : Known text c N F G S I) where
  -- ---- 17

  pub ring_judged : {K : List ℕ} {a e : ℕ} {R R' W : List ℕ} → Shown S I K a e → R' ≡ pad (length R) 0 (lines_at F (slice a e K)) → Judged text R W R' W (imported_of (Err (record { why = ring_why; line = 0; ring = e - a })))
  ring_judged {K} {a} {e} s p =
      back (lines_at F (slice a e K)) (ring_says k s) (record { is = refl; nowhere = refl; at = refl; round = sym (ring_size k s); tells = refl }) (ring_shown k s) p refl

  -- ---- 18

  pub no_root : {Q W : List ℕ} → AllInOrder S I c Q c → ((root : ℕ) → OneRoot (inputs_of S I) c root → ⊥) → Ends text W W (imported_of (Err (record { why = Roots; line = 0; ring = 0 })))
  no_root o h =
      refused 18 0
      (not_one_root k.lines (λ b. none_back k.arrays k.same o (subst (λ m. LeadsBack (inputs_in (lines_of text)) m) (sym k.count) b))
      (λ root b. no_root_said k.arrays k.same h root (subst (λ m. OneRoot (inputs_in (lines_of text)) m root) (sym k.count) b)))
      (omega arith) (λ q. omega arith) (record { is = refl; nowhere = refl; at = refl; round = refl; tells = refl }) refl

  -- ---- the tree

  module _ {Q : List ℕ} {left : ℕ} (w : Climbed S I c Q left) where
    pub climbed_numberable : {A U M W : List ℕ} → Room c N G M U A Q W → Numberable S I c Q left U
    climbed_numberable r = record {
      arrays = k.arrays;
      few = w.way.inside;
      inside = omega (arith, w.way.inside, r.rooms.order);
      low = w.way.low;
      ordered = w.way.ordered;
      long = r.rooms.stack;
    }

    pub climbed_shows : {A U M W : List ℕ} → Room c N G M U A Q W → ShowsNames S I c Q left N W
    climbed_shows r = record {
      arrays = k.arrays;
      inside = omega (arith, w.way.inside, r.rooms.order);
      low = w.way.low;
      names = r.names;
      room = omega (arith, w.way.inside, r.shown);
      blank = r.blank;
    }

    gate_low : (x : ℕ) → In x (gates_of (inputs_of S I) (take left Q)) → x < c
    gate_low x h = w.way.low x (gates_in (inputs_of S I) x (take left Q) h).0

    name_low : (x : ℕ) → In x (events_of (inputs_of S I) (take left Q) ++ gates_of (inputs_of S I) (take left Q)) → x < c
    name_low x h = go (in_append x (events_of (inputs_of S I) (take left Q)) (gates_of (inputs_of S I) (take left Q)) h)
      where
        go : In x (events_of (inputs_of S I) (take left Q)) ⊎ In x (gates_of (inputs_of S I) (take left Q)) → x < c
        go (inl i) = w.way.low x (events_in (inputs_of S I) x (take left Q) i).0
        go (inr i) = gate_low x i

    spots_are : spots_at N (events_of (inputs_of S I) (take left Q) ++ gates_of (inputs_of S I) (take left Q)) ≡ spots_of text w.root
    unfolding spots_at spots_of
    spots_are =
        map_same (events_of (inputs_of S I) (take left Q) ++ gates_of (inputs_of S I) (take left Q)) (λ x h. sym (get_or-take c N x 0 (name_low x h)) ∙ ap (λ m. get_or m x 0) k.spots)
        ∙ ap (λ m. map (λ n. get_or (spots_in text) n 0) (m ++ gates_of (inputs_of S I) (take left Q))) (events_are k w)
        ∙ ap (λ m. map (λ n. get_or (spots_in text) n 0) (event_names (lines_of text) w.root ++ m)) (gates_are k w)

    module _ {U : List ℕ} {e h : ℕ} (n : Numbers (inputs_of S I) (take left Q) U e h) {K L : List ℕ} (q : KindsOf text c K L) where
      pub climbed_plantable : {M U₀ A W : List ℕ} → Room c N G M U₀ A Q W → length U ≡ length U₀ → length K ≡ length M → length L ≡ length A → Plantable S I c Q left U K L
      climbed_plantable {W = W} r eu ek el = record {
        numbered = let m : Room c N G K U L Q W = room_kept r ek eu el refl in climbed_numberable m;
        event_turn = n.event_turn;
        gate_turn = n.gate_turn;
        kinds = omega (arith, r.rooms.marks);
        leasts = omega (arith, r.rooms.places);
        known = λ x i. (q.each x (gate_low x i)).known;
      }

      pub tree_refused : (why : Refusal) → number why ≡ broken limits (tree_among S I G U K L (take left Q)) → {W : List ℕ} → Ends text W W (imported_of (Err (record { why = why; line = 0; ring = 0 })))
      tree_refused why t =
          let number_is = t ∙ planted_number k w n q in
          let low = broken_low (tree_said (lines_of text) w.root) in
          let e : suc (number why - 1) ≡ number why = omega (arith, number_above why) in
          refused (number why) 0 (subst (λ m. Says (lines_of text) m 0) e (beyond_limits w.root (number why - 1) (climbed_rooted k w) (sym number_is ∙ sym e))) (number_above why) (λ z. omega (arith, number_is)) (record { is = refl; nowhere = refl; at = refl; round = refl; tells = refl }) refl

      module _ {p : Tree} (t : (broken limits (tree_among S I G U K L (take left Q)) ≡ 0) × (p ≡ memory (book_of (tree_among S I G U K L (take left Q))))) where
        pub tree_done : {W W' : List ℕ} → W' ≡ pad (length W) 0 (spots_at N (events_of (inputs_of S I) (take left Q) ++ gates_of (inputs_of S I) (take left Q))) → Ends text W W' (imported_of (Ok p))
        tree_done {W} shown =
            let tree = t.1 ∙ ap (λ x. memory (book_of x)) (planted_tree k w n q t.0) in
            done w.root (climbed_rooted k w) (sym (planted_number k w n q) ∙ t.0) (record { is = refl; nowhere = refl; at = refl; round = refl; tells = tree }) (shown ∙ ap (pad (length W) 0) spots_are)
