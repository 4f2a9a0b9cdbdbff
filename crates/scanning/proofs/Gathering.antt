-- The names of a text's equations are interned: by rows, lines, and all.
-- Assumes nothing.
use mathlib.Core.Path.{◌≡◌, refl, sym, ap, ◌∙◌}
use Rattle.std.specs.Prelude.{Option, Some, None}
use mathlib.Core.List.{List, [], ◌∷◌, ◌++◌}
use Prim.Native.Nat.{ℕ, ◌<◌, ◌≤◌}
use native.Mathlib.Omega.{arith}
use lib.ListN.{length, take, drop}
use Rattle.paper.specs.Bytes.{parts_on, parts}
use Rattle.paper.specs.Texts.{line_feed, lines_from, lines_of}
use Rattle.paper.specs.Equations.{with, names_of, names_in, collect, dict_in}
use Rattle.paper.specs.Spots.{places_from, places_of, places_in, firsts, spots_in}
use Rattle.lines.specs.Reading.{name_at, Steps, ReadsAt}
use Rattle.lines.specs.declared.Kind.{Kind}
use Rattle.lines.specs.declared.Kind.TheVariants.{Chance, Or, And, AtLeast}
use Rattle.names.specs.Interning.{dict_of, Interned, Interns, Zeros}
use Rattle.scanning.specs.Scanning.{RowAt, Room, Gathers, GathersLine, Lists, Gathered}
use Rattle.lines.proofs.Leads.{drop_at_end}
use Rattle.lines.proofs.Parts.{append_none}
use Rattle.names.proofs.Interning.{interned_none}
use Rattle.scanning.proofs.Rows.{RowLeft, left_start, left_row, left_turn, Equates, names_is}
use Rattle.scanning.proofs.Spots.{places_long, firsts_on, places_row}

-- ---- rows

-- where the row's loop stands: the names `left` are still to come
pub record GatheringRow (text N₀ : List ℕ) (c₀ stop : ℕ) (sep : List ℕ) (i : ℕ) (N H X : List ℕ) (c j : ℕ) : Type 0 where
  pub store : Interned text N H X c
  pub long : length N ≡ length N₀
  pub low : c ≤ j
  pub left : List (List ℕ)
  pub state : RowLeft text stop sep j left
  pub dict : collect (dict_of text N c) left ≡ collect (dict_of text N₀ c₀) (parts sep (drop i (take stop text)))
  pub spots : take c N ++ firsts (dict_of text N c) left (places_from sep j left) ≡ take c₀ N₀ ++ firsts (dict_of text N₀ c₀) (parts sep (drop i (take stop text))) (places_from sep i (parts sep (drop i (take stop text))))

pub row_start : {text N H X : List ℕ} {c stop : ℕ} {sep : List ℕ} {i : ℕ} → Interned text N H X c → RowAt text stop sep i → Room text N c i → GatheringRow text N c stop sep i N H X c i
row_start {text} {N} {H} {X} {c} {stop} {sep} {i} t r m = record {
  store = t;
  long = refl;
  low = m.low;
  left = parts sep (drop i (take stop text));
  state = left_start r;
  dict = refl;
  spots = refl;
}

module _ {text N₀ : List ℕ} {c₀ stop : ℕ} {sep : List ℕ} {i : ℕ} {N H X : List ℕ} {c j : ℕ} (r : RowAt text stop sep i) (g : GatheringRow text N₀ c₀ stop sep i N H X c j) where
  pub row_room : Room text N₀ c₀ i → j < stop → (j ≤ length text) × (c < length N)
  row_room m h = (omega (arith, r.inside), omega (arith, r.inside, m.long, g.long, g.low))

  pub row_here : j < stop → RowAt text stop sep j
  row_here h = left_row r g.state h

  pub row_turn : {N' H' X' : List ℕ} {n c' j' : ℕ} → j < stop → Interns text N c j N' H' X' n c' → Steps sep (take stop text) j j' → GatheringRow text N₀ c₀ stop sep i N' H' X' c' j'
  row_turn {N'} {H'} {X'} {n} {c'} {j'} h a b =
      let t = left_turn r g.state h b in record {
        store = a.store;
        long = a.long ∙ g.long;
        low = omega (arith, a.one, g.low, b.after);
        left = t.rest;
        state = t.state;
        dict = ap (λ D. collect D t.rest) a.dict ∙ ap (collect (dict_of text N c)) (sym t.is) ∙ g.dict;
        spots = firsts_on (take c N) (dict_of text N c) (name_at text j ∷ []) t.rest (j ∷ []) (places_from sep j' t.rest) refl a.spots a.dict ∙ ap (λ l. take c N ++ firsts (dict_of text N c) (name_at text j ∷ t.rest) l) (sym t.places) ∙ ap (λ ws. take c N ++ firsts (dict_of text N c) ws (places_from sep j g.left)) (sym t.is) ∙ g.spots;
      }

  pub row_end : stop ≤ j → Gathers text N₀ c₀ (parts sep (drop i (take stop text))) (places_from sep i (parts sep (drop i (take stop text)))) N H X c stop
  row_end h = record {
    store = g.store;
    dict = sym (ap (collect (dict_of text N c)) (g.state.done h)) ∙ g.dict;
    spots = sym (ap (λ ws. take c N ++ firsts (dict_of text N c) ws (places_from sep j ws)) (g.state.done h) ∙ append_none (take c N)) ∙ g.spots;
    long = g.long;
    low = omega (arith, g.low, g.state.upto);
  }

-- ---- equations and lines

module _ {text N : List ℕ} {c at : ℕ} {N' H' X' : List ℕ} {n c' : ℕ} (a : Interns text N c at N' H' X' n c') where
  pub room_behind : {i : ℕ} → Room text N c at → at < i → Room text N' c' i
  room_behind m h = record { long = omega (arith, a.long, m.long); low = omega (arith, a.one, m.low) }

  pub gathers_equation : {ws : List (List ℕ)} {ps N'' H'' X'' : List ℕ} {c'' stop : ℕ} → Gathers text N' c' ws ps N'' H'' X'' c'' stop → Gathers text N c (name_at text at ∷ ws) (at ∷ ps) N'' H'' X'' c'' stop
  gathers_equation {ws} {ps} b = record {
    store = b.store;
    dict = b.dict ∙ ap (λ D. collect D ws) a.dict;
    spots = b.spots ∙ firsts_on (take c N) (dict_of text N c) (name_at text at ∷ []) ws (at ∷ []) ps refl a.spots a.dict;
    long = b.long ∙ a.long;
    low = b.low;
  }

module _ {text : List ℕ} {at : ℕ} {kind : Option Kind} {stop next : ℕ} (r : ReadsAt text at kind stop next) where
  gathers_line : {N : List ℕ} {k : ℕ} {ws : List (List ℕ)} {ps N' H' X' : List ℕ} {k' : ℕ} → names_of r.line ≡ ws → places_of at stop r.line ≡ ps → Gathers text N k ws ps N' H' X' k' stop → GathersLine text at N k N' H' X' k' next
  gathers_line {N} {k} {ws} {ps} {N'} {H'} {X'} {k'} e p g = record {
    line = r.line;
    stop = stop;
    after = r.after;
    inside = r.inside;
    says = r.says;
    places = r.places;
    gathers = record {
      store = g.store;
      dict = g.dict ∙ ap (collect (dict_of text N k)) (sym e);
      spots = g.spots ∙ ap (λ ws. take k N ++ firsts (dict_of text N k) ws ps) (sym e) ∙ ap (λ l. take k N ++ firsts (dict_of text N k) (names_of r.line) l) (sym p);
      long = g.long;
      low = omega (arith, g.low, r.stops);
    };
  }

  line_none : {N H X : List ℕ} {k : ℕ} → names_of r.line ≡ [] → places_of at stop r.line ≡ [] → Interned text N H X k → Room text N k at → GathersLine text at N k N H X k next
  line_none {N} {H} {X} {k} e p t m = gathers_line e p (record { store = t; dict = refl; spots = sym (append_none (take k N)); long = refl; low = omega (arith, m.low, r.ends.from) })

  pub bad_line : {N H X : List ℕ} {k : ℕ} → kind ≡ None → Interned text N H X k → Room text N k at → GathersLine text at N k N H X k next
  bad_line e t m = line_none (ap names_of (rw e at r.reads)) (ap (places_of at stop) (rw e at r.reads)) t m

  pub chance_line_lem : {v : ℕ} {N H X : List ℕ} {k : ℕ} → kind ≡ Some (Chance v) → Interned text N H X k → Room text N k at → GathersLine text at N k N H X k next
  chance_line_lem e t m = line_none (ap names_of (rw e at r.reads).is) (ap (places_of at stop) (rw e at r.reads).is) t m

  pub or_after : {i : ℕ} → kind ≡ Some (Or i) → at < i
  or_after e = (rw e at r.reads).after

  pub and_after : {i : ℕ} → kind ≡ Some (And i) → at < i
  and_after e = (rw e at r.reads).after

  pub least_after : {m i : ℕ} → kind ≡ Some (AtLeast m i) → at < i
  least_after e = (rw e at r.reads).joined.after

  pub equation_line : {sep : List ℕ} {i : ℕ} {N : List ℕ} {k : ℕ} {N' H' X' : List ℕ} {k' : ℕ} → RowAt text stop sep i → Equates r.line (name_at text at) sep (parts sep (drop i (take stop text))) → Gathers text N k (name_at text at ∷ parts sep (drop i (take stop text))) (at ∷ places_from sep i (parts sep (drop i (take stop text)))) N' H' X' k' stop → GathersLine text at N k N' H' X' k' next
  equation_line w e g = gathers_line (names_is e) (places_row w e) g

-- ---- the text

collect_append : (D a b : List (List ℕ)) → collect D (a ++ b) ≡ collect (collect D a) b
collect_append D [] b = refl
collect_append D (w ∷ a) b = collect_append (with D w) a b

pub lines_end : (at : ℕ) → lines_from at [] ≡ []
unfolding lines_from parts_on
lines_end at = refl

pub record GatheringAll (text N H X : List ℕ) (c at : ℕ) : Type 0 where
  pub store : Interned text N H X c
  pub room : Room text N c at
  pub upto : at ≤ length text
  pub dict : collect (dict_of text N c) (names_in (lines_from at (drop at text))) ≡ dict_in (lines_of text)
  pub spots : take c N ++ firsts (dict_of text N c) (names_in (lines_from at (drop at text))) (places_in at (parts line_feed (drop at text))) ≡ spots_in text

pub all_start : {text N H X : List ℕ} → Lists text N H X → {H' : List ℕ} → length H' ≡ length H → Zeros H' (length H') → GatheringAll text N H' X 0 0
unfolding dict_in lines_of dict_of spots_in
all_start {text} {N} {H} {X} l {H'} e z = record {
  store = interned_none text N H' X z l.linked (omega (arith, l.chains)) l.small (omega (arith, l.long, l.small));
  room = record { long = l.long; low = omega arith };
  upto = omega arith;
  dict = refl;
  spots = refl;
}

module _ {text N H X : List ℕ} {c at : ℕ} (g : GatheringAll text N H X c at) where
  pub all_turn : {N' H' X' : List ℕ} {c' next : ℕ} → GathersLine text at N c N' H' X' c' next → GatheringAll text N' H' X' c' next
  all_turn {N'} {H'} {X'} {c'} {next} w = record {
    store = w.gathers.store;
    room = record { long = omega (arith, g.room.long, w.gathers.long); low = w.gathers.low };
    upto = w.inside;
    dict = ap (λ D. collect D (names_in (lines_from next (drop next text)))) w.gathers.dict ∙ sym (collect_append (dict_of text N c) (names_of w.line) (names_in (lines_from next (drop next text)))) ∙ ap (λ m. collect (dict_of text N c) (names_in m)) (sym w.says) ∙ g.dict;
    spots = firsts_on (take c N) (dict_of text N c) (names_of w.line) (names_in (lines_from next (drop next text))) (places_of at w.stop w.line) (places_in next (parts line_feed (drop next text))) (places_long at w.stop w.line) w.gathers.spots w.gathers.dict ∙ ap (λ m. take c N ++ firsts (dict_of text N c) (names_in m) (places_of at w.stop w.line ++ places_in next (parts line_feed (drop next text)))) (sym w.says) ∙ ap (λ l. take c N ++ firsts (dict_of text N c) (names_in (lines_from at (drop at text))) l) (sym w.places) ∙ g.spots;
  }

  pub all_end : length text ≤ at → Gathered text N H X c
  all_end h =
      let none : lines_from at (drop at text) ≡ [] = ap (lines_from at) (drop_at_end text at h) ∙ lines_end at in record {
        store = g.store;
        low = omega (arith, g.room.low, g.upto);
        dict = sym (ap (λ m. collect (dict_of text N c) (names_in m)) none) ∙ g.dict;
        spots = sym (ap (λ m. take c N ++ firsts (dict_of text N c) (names_in m) (places_in at (parts line_feed (drop at text)))) none ∙ append_none (take c N)) ∙ g.spots;
      }
