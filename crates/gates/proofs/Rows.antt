-- The nodes of a gate's inputs, one after the other.
-- Assumes nothing.
use mathlib.Core.Path.{◌≡◌, refl, sym, ap, ap₂, ◌∙◌, subst}
use mathlib.Core.Logic.{◌⊎◌, inl, inr}
use mathlib.Core.Bool.{Bool, true, false, true≢false}
use mathlib.Core.List.{List, [], ◌∷◌, ◌++◌, map}
use Rattle.std.specs.Prelude.{Result, Ok, Err}
use Prim.Native.Nat.{ℕ, zero, suc, ◌+◌, ◌-◌, ◌≤◌, ◌<◌}
use native.Mathlib.Omega.{arith}
use native.Mathlib.Numerals.{add-one}
use lib.ListN.{length, take, get_or, set, length-set}
use lib.Seq.{take-suc, take_all, get_or-set_same, get_or-set_other}
use Rattle.paper.specs.Lists.{In}
use Rattle.paper.specs.Trees.{Input, event, gate, forced}
use Rattle.paper.specs.Sets.{none}
use Rattle.paper.specs.Limits.{limits}
use Rattle.paper.specs.Flat.{gates_from, failed_from, sound_from, input_of}
use Rattle.paper.specs.Diagrams.{Diagram, leaf, node, eval, Reduced}
use Rattle.twins.proofs.Codes.{is_event_lem, is_gate, is_failed, is_sound}
use Rattle.algebra.specs.Operations.{event_d}
use Rattle.algebra.proofs.Lists.{map_append}
use Rattle.tables.specs.Table.{den}
use Rattle.tables.proofs.Den.{den_0, den_1}
use Rattle.store.specs.Store.{Store}
use Rattle.store.specs.Building.{Is, PartOf, Found, Stops, Builds, Tidy}
use Rattle.store.specs.Placing.{Puts}
use Rattle.store.specs.declared.Built.{Built}
use Rattle.store.specs.declared.Full.{Full}
use Rattle.store.proofs.Denotes.{below_or_not}
use Rattle.algebra.proofs.Subs.{part_reduced}
use Rattle.store.proofs.Building.{makes_more, stops_more, is_part, tidy_step, placed_built}
use Rattle.atleast.specs.Making.{Row, Within, Made}
use Rattle.atleast.proofs.Making.{all_none, all_one, row_here, row_map, row_grown, at_map, map_long, made_here, made_one, made_seq, made_stops, stops_one, part_more}
use Rattle.gates.specs.Rules.{input_d, event_steps_d}
use Rattle.gates.specs.Rows.{Named, Names, Lined}

-- ---- one input

-- the triple of an event
pub event_made : (e : ℕ) {T H X : List ℕ} {c : ℕ} → Store T H X c → (T' H' X' : List ℕ) (r : Result Built Full) → Puts T H X c (node e (den T 1) (den T 0)) T' H' X' r
    → Builds (Is (event_d e)) T c (event_d e) T' H' X' r
event_made e {T} {H} {X} {c} s T' H' X' r w = subst (λ d. Builds (Is d) T c d T' H' X' r) (ap₂ (node e) (den_1 T) (den_0 T)) (placed_built s (node e (den T 1) (den T 0)) refl T' H' X' r w)

-- an event's node is made
pub names_event : (gs : List Diagram) (code : ℕ) (T : List ℕ) (c : ℕ) (T' H' X' : List ℕ) (r : Result Built Full) → code < gates_from
    → Builds (Is (event_d code)) T c (event_d code) T' H' X' r → Names (input_of code ∷ []) (input_d gs (input_of code)) T c T' H' X' r
names_event gs code T c T' H' X' r h b = subst (λ i. Names (i ∷ []) (input_d gs i) T c T' H' X' r) (sym (is_event_lem code h)) (go r b)
  where
    go : (r : Result Built Full) → Builds (Is (event_d code)) T c (event_d code) T' H' X' r → Names (event code ∷ []) (event_d code) T c T' H' X' r
    go (Ok r) b = record { made = made_one (makes_more is_part b); found = b.found }
    go (Err x) b = stops_one (stops_more is_part b)

-- a gate's node stands in the list
pub names_gate : {T H X G : List ℕ} {c code : ℕ} → Store T H X c → Within c G → gates_from ≤ code → code < failed_from → code < gates_from + length G
    → Named (input_of code ∷ []) (input_d (map (den T) G) (input_of code)) T c T H X c (get_or G (code - gates_from) 0)
names_gate {T} {H} {X} {G} {c} {code} s w h f l =
    let k : code - gates_from < length G = omega arith in
    subst (λ i. Named (i ∷ []) (input_d (map (den T) G) i) T c T H X c (get_or G (code - gates_from) 0)) (sym (is_gate code h f)) (record {
      made = made_here s all_none;
      found = record { within = w.each (code - gates_from) k; is = sym (at_map T G (code - gates_from) k) };
    })

-- a forced event is a leaf
forced_named : (gs : List Diagram) {T H X : List ℕ} {c e r : ℕ} {b : Bool} → Store T H X c → Found T c (leaf b) r → Named (forced e b ∷ []) (input_d gs (forced e b)) T c T H X c r
forced_named gs s f = record { made = made_here s (all_one f); found = f }

pub names_failed : (gs : List Diagram) {T H X : List ℕ} {c : ℕ} (code : ℕ) → Store T H X c → failed_from ≤ code → code < sound_from
    → Named (input_of code ∷ []) (input_d gs (input_of code)) T c T H X c 1
names_failed gs {T} {H} {X} {c} code s h l = subst (λ i. Named (i ∷ []) (input_d gs i) T c T H X c 1) (sym (is_failed code h l))
    (forced_named gs s (record { within = omega arith; is = den_1 T }))

pub names_sound : (gs : List Diagram) {T H X : List ℕ} {c : ℕ} (code : ℕ) → Store T H X c → sound_from ≤ code
    → Named (input_of code ∷ []) (input_d gs (input_of code)) T c T H X c 0
names_sound gs {T} {H} {X} {c} code s h = subst (λ i. Named (i ∷ []) (input_d gs i) T c T H X c 0) (sym (is_sound code h))
    (forced_named gs s (record { within = omega arith; is = den_0 T }))

-- ---- all inputs

events_append : (is js : List Input) → event_steps_d (is ++ js) ≡ event_steps_d is ++ event_steps_d js
events_append [] js = refl
events_append (event e ∷ is) js = ap (event_d e ∷◌) (events_append is js)
events_append (gate g ∷ is) js = events_append is js
events_append (forced e b ∷ is) js = ap (leaf b ∷◌) (events_append is js)

events_front : (d : Diagram) (i : ℕ) (is : List Input) → In d (event_steps_d (take i is)) → In d (event_steps_d is)
events_front d zero is h = absurd h
events_front d (suc i) [] h = h
events_front d (suc i) (event e ∷ is) (inl q) = inl q
events_front d (suc i) (event e ∷ is) (inr h) = inr (events_front d i is h)
events_front d (suc i) (gate g ∷ is) h = events_front d i is h
events_front d (suc i) (forced e b ∷ is) (inl q) = inl q
events_front d (suc i) (forced e b ∷ is) (inr h) = inr (events_front d i is h)

-- a row with one number more
row_add : {T : List ℕ} {c : ℕ} (ds : List Diagram) {R : List ℕ} (D : Diagram) {r : ℕ} → length ds < length R → Row T c ds R → Found T c D r → Row T c (ds ++ (D ∷ [])) (set R (length ds) r)
row_add {T} {c} ds {R} D {r} room w f = record { each = λ j l. go j l (below_or_not j (length ds)) }
  where
    at_front : (ds : List Diagram) (j : ℕ) → j < length ds → get_or (ds ++ (D ∷ [])) j (leaf false) ≡ get_or ds j (leaf false)
    at_front [] j h = absurd (omega arith)
    at_front (d ∷ ds) zero h = refl
    at_front (d ∷ ds) (suc j) h = at_front ds j (omega arith)

    at_end : (ds : List Diagram) → get_or (ds ++ (D ∷ [])) (length ds) (leaf false) ≡ D
    at_end [] = refl
    at_end (d ∷ ds) = at_end ds

    longer : (ds : List Diagram) → length (ds ++ (D ∷ [])) ≡ length ds + 1
    longer [] = omega arith
    longer (d ∷ ds) = let q = longer ds in omega arith

    go : (j : ℕ) → j < length (ds ++ (D ∷ [])) → (j < length ds) ⊎ (length ds ≤ j) → Found T c (get_or (ds ++ (D ∷ [])) j (leaf false)) (get_or (set R (length ds) r) j 0)
    go j l (inl k) = rw (at_front ds j k, get_or-set_other R (length ds) j r 0 (omega arith)) (w.each j k)
    go j l (inr k) =
        let e : length ds ≡ j = let q = longer ds in omega arith in
        subst (λ j. Found T c (get_or (ds ++ (D ∷ [])) j (leaf false)) (get_or (set R (length ds) r) j 0)) e (rw (at_end ds, get_or-set_same R (length ds) r 0 room) f)

-- the first i inputs are in the row
pub record Lining (G own : List ℕ) (T : List ℕ) (c : ℕ) (i : ℕ) (T₁ H₁ X₁ R : List ℕ) (c₁ : ℕ) : Type 0 where
  pub high : i ≤ length own
  pub long : length R ≡ limits.inputs
  pub made : Made (event_steps_d (take i (map input_of own))) T c T₁ H₁ X₁ c₁
  pub row : Row T₁ c₁ (map (input_d (map (den T) G)) (take i (map input_of own))) R
  pub gates : Row T₁ c₁ (map (den T) G) G

pub lining_start : {G own : List ℕ} {T H X R : List ℕ} {c : ℕ} → Store T H X c → Within c G → length R ≡ limits.inputs → Lining G own T c 0 T H X R c
lining_start s w l = record { high = omega arith; long = l; made = made_here s all_none; row = record { each = λ j l. absurd (omega arith) }; gates = row_here w }

pub codes_long : (own : List ℕ) → length (map input_of own) ≡ length own
codes_long [] = refl
codes_long (x ∷ own) = ap suc (codes_long own)

codes_at : (own : List ℕ) (i : ℕ) (d : Input) → i < length own → get_or (map input_of own) i d ≡ input_of (get_or own i 0)
codes_at [] i d h = absurd (omega arith)
codes_at (x ∷ own) zero d h = refl
codes_at (x ∷ own) (suc i) d h = codes_at own i d (omega arith)

inputs_long : (gs : List Diagram) (i : ℕ) (is : List Input) → i ≤ length is → length (map (input_d gs) (take i is)) ≡ i
inputs_long gs zero is h = refl
inputs_long gs (suc i) [] h = absurd (omega arith)
inputs_long gs (suc i) (x ∷ is) h = ap suc (inputs_long gs i is (omega arith))

module _ {G own : List ℕ} {T : List ℕ} {c i : ℕ} {T₁ H₁ X₁ R : List ℕ} {c₁ : ℕ} (a : Lining G own T c i T₁ H₁ X₁ R c₁) where
  abbrev gs : List Diagram
  gs = map (den T) G

  pub lining_within : Within c₁ G
  lining_within = record { each = λ j l. (a.gates.each j (let e = map_long T G in omega arith)).within }

  same_gates : map (den T₁) G ≡ gs
  same_gates = row_map (sym (map_long T G)) a.gates

  module _ (l : i < length own) where
    longer : take (i + 1) (map input_of own) ≡ take i (map input_of own) ++ (input_of (get_or own i 0) ∷ [])
    longer = ap (λ k. take k (map input_of own)) (add-one i)
        ∙ take-suc (map input_of own) i (event 0) (let e = codes_long own in omega arith)
        ∙ ap (λ x. take i (map input_of own) ++ (x ∷ [])) (codes_at own i (event 0) l)

    steps_longer : event_steps_d (take (i + 1) (map input_of own)) ≡ event_steps_d (take i (map input_of own)) ++ event_steps_d (input_of (get_or own i 0) ∷ [])
    steps_longer = ap event_steps_d longer ∙ events_append (take i (map input_of own)) (input_of (get_or own i 0) ∷ [])

    pub lining_next : {T₂ H₂ X₂ : List ℕ} {c₂ r : ℕ} → length own ≤ limits.inputs → Named (input_of (get_or own i 0) ∷ []) (input_d (map (den T₁) G) (input_of (get_or own i 0))) T₁ c₁ T₂ H₂ X₂ c₂ r
        → Lining G own T c (i + 1) T₂ H₂ X₂ (set R i r) c₂
    lining_next {T₂} {H₂} {X₂} {c₂} {r} room b =
        let long : length (map (input_d gs) (take i (map input_of own))) ≡ i = inputs_long gs i (map input_of own) (let e = codes_long own in let q = a.high in omega arith) in
        let low = a.made.step.store.lower in
        let g = b.made.step.grown in
        let f = subst (λ hs. Found T₂ c₂ (input_d hs (input_of (get_or own i 0))) r) same_gates b.found in
        let rows = row_add (map (input_d gs) (take i (map input_of own))) (input_d gs (input_of (get_or own i 0))) (let q = a.long in omega arith) (row_grown low g a.row) f in
        record {
          high = omega arith;
          long = length-set R i r ∙ a.long;
          made = subst (λ es. Made es T c T₂ H₂ X₂ c₂) (sym steps_longer) (made_seq (event_steps_d (input_of (get_or own i 0) ∷ [])) a.made b.made);
          row = rw (longer, map_append (input_d gs) (take i (map input_of own)) (input_of (get_or own i 0) ∷ [])) (subst (λ k. Row T₂ c₂ (map (input_d gs) (take i (map input_of own)) ++ (input_d gs (input_of (get_or own i 0)) ∷ [])) (set R k r)) long rows);
          gates = row_grown low g a.gates;
        }

    pub lining_short : {T₂ H₂ X₂ : List ℕ} {c₂ : ℕ} → Stops (PartOf (event_steps_d (input_of (get_or own i 0) ∷ []))) T₁ c₁ T₂ H₂ X₂ c₂
        → Stops (PartOf (event_steps_d (map input_of own))) T c T₂ H₂ X₂ c₂
    lining_short b = stops_more (part_more (λ d h. events_front d (i + 1) (map input_of own) (subst (λ es. In d es) (sym steps_longer) h)))
        (made_stops (event_steps_d (input_of (get_or own i 0) ∷ [])) a.made b)

  pub lining_end : length own ≤ i → Lined gs (map input_of own) T c T₁ H₁ X₁ R c₁
  lining_end l =
      let e : take i (map input_of own) ≡ map input_of own = take_all i (map input_of own) (let q = codes_long own in omega arith) in
      subst (λ js. Made (event_steps_d js) T c T₁ H₁ X₁ c₁ → Row T₁ c₁ (map (input_d gs) js) R → Lined gs (map input_of own) T c T₁ H₁ X₁ R c₁) (sym e) (λ m w. record { made = m; long = a.long; row = w }) a.made a.row

-- ---- events are reduced

event_reduced : (e : ℕ) → Reduced (event_d e)
event_reduced e = ((λ q. true≢false (ap (λ d. eval d none) q)), tt, tt)

pub steps_reduced : (is : List Input) (d : Diagram) → In d (event_steps_d is) → Reduced d
steps_reduced [] d h = absurd h
steps_reduced (event e ∷ is) d (inl q) = subst Reduced (sym q) (event_reduced e)
steps_reduced (event e ∷ is) d (inr h) = steps_reduced is d h
steps_reduced (gate g ∷ is) d h = steps_reduced is d h
steps_reduced (forced e b ∷ is) d (inl q) = subst Reduced (sym q) tt
steps_reduced (forced e b ∷ is) d (inr h) = steps_reduced is d h

pub events_tidy : (is : List Input) {T H X : List ℕ} {c : ℕ} {T' H' X' : List ℕ} {c' : ℕ} → Store T H X c → Tidy T c → Made (event_steps_d is) T c T' H' X' c' → Tidy T' c'
events_tidy is s t m = tidy_step s t (λ E p. part_reduced p.whole E (steps_reduced is p.whole p.member) p.part.inside) m.step
