-- The lines of a text.
-- Assumes nothing.
use mathlib.Core.Path.{◌≡◌, refl, sym, ap, ◌∙◌}
use mathlib.Core.Bool.{Bool, true, false, cond, true≢false}
use mathlib.Core.List.{List, [], ◌∷◌, ◌++◌}
use Prim.Native.Nat.{ℕ, ◌+◌, ◌<◌, ◌≤◌}
use native.Mathlib.Omega.{arith}
use borrow.Author.Tests.{eqb-true, eq-eqb}
use lib.Dec.{eqb}
use lib.ListN.{get_or, length, take, drop}
use lib.Seq.{drop_at, take_at, take-add, length-take-le}
use Rattle.paper.specs.Bytes.{in_line, lead, past, starts, before, parts_on, parts}
use Rattle.paper.specs.Grammar.{bad, line_of}
use Rattle.paper.specs.Texts.{says, line_feed, placed, lines_from}
use Rattle.paper.specs.Spots.{places_of, places_in}
use Rattle.lines.specs.Reading.{name_at, Ends, Divides, Reads, ReadsAt}
use Rattle.lines.specs.declared.Kind.{Kind}
use Rattle.std.specs.Prelude.{Option, None}
use Rattle.lines.proofs.Leads.{lead_past, past_first, drop_next, drop_at_end}
use Rattle.lines.proofs.Parts.{parts_none, parts_cut, rest_of, parts_first}

pub feed_divides : Divides in_line line_feed
unfolding in_line
feed_divides = record { first = 10; others = []; is = refl; out = refl }

pub feed_only : (b : ℕ) → in_line b ≡ false → b ≡ 10
unfolding in_line
feed_only b h = eqb-true b 10 (go (eqb b 10) h)
  where
    go : (t : Bool) → cond t false true ≡ false → t ≡ true
    go true e = refl
    go false e = absurd (true≢false e)

feed_starts : (b : ℕ) (l : List ℕ) → b ≡ 10 → starts line_feed (b ∷ l) ≡ true
unfolding starts
feed_starts b l h = rw (eq-eqb 10 b (sym h)) refl

-- the front that ends at e, as a part of the list
pub front_take : {p : ℕ → Bool} {s : List ℕ} {i e : ℕ} → Ends p s i e → drop i (take e s) ≡ lead p (drop i s)
front_take {p} {s} {i} {e} n =
    let z : e ≡ i + length (lead p (drop i s)) = n.size in
    let y : i ≤ length s = omega (arith, n.from, n.inside) in
    ap (λ k. drop i (take k s)) z ∙ ap (drop i) (take-add i (length (lead p (drop i s))) s) ∙ drop_at (take i s) (take (length (lead p (drop i s))) (drop i s)) i (length-take-le i s y) ∙ ap (take (length (lead p (drop i s)))) (sym (lead_past p (drop i s))) ∙ take_at (lead p (drop i s)) (past p (drop i s)) (length (lead p (drop i s))) refl

module _ {text : List ℕ} {at stop : ℕ} (n : Ends in_line text at stop) where
  placed_open : (at : ℕ) (l : List ℕ) → 0 < length l → placed at (l ∷ []) ≡ says at bad ∷ []
  placed_open at [] h = absurd (omega arith)
  placed_open at (b ∷ l) h = refl

  pub line_open : at < length text → length text ≤ stop → ReadsAt text at None stop stop
  unfolding lines_from parts_on
  line_open h k =
      let y : past in_line (drop at text) ≡ [] = sym n.rest ∙ drop_at_end text stop k in
      record {
        line = bad;
        after = omega arith;
        inside = n.inside;
        stops = omega arith;
        ends = n;
        says = ap (placed at) (parts_none feed_divides (drop at text) y) ∙ placed_open at (lead in_line (drop at text)) (omega (arith, n.size)) ∙ ap (λ l. says at bad ∷ placed stop (parts line_feed l)) (sym (drop_at_end text stop k));
        places = ap (places_in at) (parts_none feed_divides (drop at text) y) ∙ ap (λ l. places_in stop (parts line_feed l)) (sym (drop_at_end text stop k));
        reads = refl;
      }

  -- the line, and the parts behind it
  line_cut : stop < length text → parts line_feed (drop at text) ≡ lead in_line (drop at text) ∷ before line_feed (drop (stop + 1) text) ∷ rest_of feed_divides (drop (stop + 1) text)
  line_cut h =
      let k : past in_line (drop at text) ≡ get_or text stop 0 ∷ drop (stop + 1) text = sym n.rest ∙ drop_next text stop h in
      let y : starts line_feed (past in_line (drop at text)) ≡ true = rw k (feed_starts (get_or text stop 0) (drop (stop + 1) text) (feed_only (get_or text stop 0) (past_first in_line (drop at text) (get_or text stop 0) (drop (stop + 1) text) k))) in
      let w : drop 1 (past in_line (drop at text)) ≡ drop (stop + 1) text = ap (drop 1) k in
      parts_cut feed_divides (drop at text) y ∙ ap (λ l. lead in_line (drop at text) ∷ parts line_feed l) w ∙ ap (λ m. lead in_line (drop at text) ∷ m) (parts_first feed_divides (drop (stop + 1) text))

  line_says : stop < length text → lines_from at (drop at text) ≡ says at (line_of (lead in_line (drop at text))) ∷ lines_from (stop + 1) (drop (stop + 1) text)
  unfolding lines_from
  line_says h =
      ap (placed at) (line_cut h)
      ∙ ap (λ k. says at (line_of (lead in_line (drop at text))) ∷ placed (k + 1) (before line_feed (drop (stop + 1) text) ∷ rest_of feed_divides (drop (stop + 1) text))) (sym n.size)
      ∙ ap (λ m. says at (line_of (lead in_line (drop at text))) ∷ placed (stop + 1) m) (sym (parts_first feed_divides (drop (stop + 1) text)))

  line_places : stop < length text → places_in at (parts line_feed (drop at text)) ≡ places_of at stop (line_of (lead in_line (drop at text))) ++ places_in (stop + 1) (parts line_feed (drop (stop + 1) text))
  line_places h =
      ap (places_in at) (line_cut h)
      ∙ ap (λ k. places_of at k (line_of (lead in_line (drop at text))) ++ places_in (k + 1) (before line_feed (drop (stop + 1) text) ∷ rest_of feed_divides (drop (stop + 1) text))) (sym n.size)
      ∙ ap (λ m. places_of at stop (line_of (lead in_line (drop at text))) ++ places_in (stop + 1) m) (sym (parts_first feed_divides (drop (stop + 1) text)))

  pub line_closed : (k : Option Kind) → stop < length text → Reads (take stop text) (line_of (drop at (take stop text))) (name_at (take stop text) at) at k → ReadsAt text at k stop (stop + 1)
  line_closed k h r = record {
    line = line_of (drop at (take stop text));
    after = omega (arith, n.from);
    inside = omega arith;
    stops = omega arith;
    ends = n;
    says = line_says h ∙ ap (λ l. says at (line_of l) ∷ lines_from (stop + 1) (drop (stop + 1) text)) (sym (front_take n));
    places = line_places h ∙ ap (λ l. places_of at stop (line_of l) ++ places_in (stop + 1) (parts line_feed (drop (stop + 1) text))) (sym (front_take n));
    reads = r;
  }
