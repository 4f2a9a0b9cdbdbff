-- The loops of at-least: pair by pair, and input by input.
-- Assumes nothing.
use mathlib.Core.Path.{◌≡◌, refl, sym, ap₂, ◌∙◌, subst}
use mathlib.Core.Logic.{◌⊎◌, inl, inr}
use mathlib.Core.Bool.{true, false}
use mathlib.Core.List.{List, [], ◌∷◌, map}
use Rattle.std.specs.Prelude.{Result, Ok, Err}
use Prim.Native.Nat.{ℕ, suc, ◌+◌, ◌-◌, ◌≤◌, ◌<◌}
use native.Mathlib.Omega.{arith}
use lib.ListN.{length, get_or, set, drop, replicate, length-set, length-replicate}
use lib.Seq.{get_or-set_same, get_or-set_other}
use Rattle.paper.specs.Lists.{In}
use Rattle.paper.specs.Limits.{limits}
use Rattle.paper.specs.Diagrams.{Diagram, leaf}
use Rattle.algebra.specs.Operations.{join_d}
use Rattle.tables.specs.Table.{den}
use Rattle.store.specs.Building.{Part, PartOf, Found, Step, Stops}
use Rattle.store.specs.declared.Built.{Built}
use Rattle.store.specs.declared.Full.{Full}
use Rattle.store.proofs.Denotes.{den_grown}
use Rattle.store.proofs.Zeros.{zero_at}
use Rattle.store.proofs.Building.{step_here, step_more, stops_more, step_seq, stops_seq}
use Rattle.joins.specs.Joins.{Ready, Joined, Joins}
use Rattle.atleast.specs.Rules.{least_d, least_steps_d}
use Rattle.atleast.specs.Making.{Row, Within, Held, Gained, Gains}
use Rattle.atleast.specs.AtLeast.{Pair, Reached, Highest, Lowest, Taken}
use Rattle.atleast.proofs.Making.{row_here, row_grown, row_map, map_long, made_one, made_seq, made_stops, stops_one, part_more}
use Rattle.atleast.proofs.Stages.{Taking, taking_start, taking_end, Due, both, whole, due_steps, less_here, more_here, taking_next, reached_none}

-- ---- (x and less) or more

module _ {T H X M : List ℕ} {c x l m : ℕ} (h : Held T H X M c) (x-in : x < c + 2) (l-in : l < c + 2) (m-in : m < c + 2) where
  pub first_ready : Ready T H X M c 0 x l
  first_ready = record { store = h.store; tidy = h.tidy; memo = h.memo; z_bit = omega arith; f_in = x-in; g_in = l-in }

  abbrev C : Diagram
  C = join_d false (den T x) (den T l)

  abbrev P : Diagram
  P = join_d true C (den T m)

  -- the conjunction does not fit
  pub pair_first : {T₁ H₁ X₁ : List ℕ} {c₁ : ℕ} → Stops (Part (join_d false (den T x) (den T l))) T c T₁ H₁ X₁ c₁ → Stops (PartOf (C ∷ (P ∷ []))) T c T₁ H₁ X₁ c₁
  pair_first s = stops_more (λ E p. record { whole = C; member = inl refl; part = p }) s

  module _ {T₁ H₁ X₁ M₁ : List ℕ} {c₁ b : ℕ} (a : Joined T M c (join_d false (den T x) (den T l)) T₁ H₁ X₁ M₁ c₁ b) where
    pub second_ready : Ready T₁ H₁ X₁ M₁ c₁ 1 b m
    second_ready = let g = a.makes.step.grown.more in record {
      store = a.makes.step.store;
      tidy = a.tidy;
      memo = a.memo;
      z_bit = omega arith;
      f_in = a.makes.found.within;
      g_in = omega arith;
    }

    is_pair : join_d true (den T₁ b) (den T₁ m) ≡ P
    is_pair = ap₂ (join_d true) a.makes.found.is (den_grown h.store.lower a.makes.step.grown m m-in)

    pub pair_second : (T₂ H₂ X₂ M₂ : List ℕ) (r : Result Built Full) → Joins T₁ M₁ c₁ (join_d true (den T₁ b) (den T₁ m)) T₂ H₂ X₂ M₂ r → Gains (C ∷ (P ∷ [])) P T c T₂ H₂ X₂ M₂ r
    pair_second T₂ H₂ X₂ M₂ r j = go r (subst (λ d. Joins T₁ M₁ c₁ d T₂ H₂ X₂ M₂ r) is_pair j)
      where
        go : (r : Result Built Full) → Joins T₁ M₁ c₁ P T₂ H₂ X₂ M₂ r → Gains (C ∷ (P ∷ [])) P T c T₂ H₂ X₂ M₂ r
        go (Ok r) j = record {
          made = made_seq (P ∷ []) (made_one a.makes) (made_one j.makes);
          held = record { store = j.makes.step.store; tidy = j.tidy; memo = j.memo };
          found = j.makes.found;
        }
        go (Err x) j = made_stops (P ∷ []) (made_one a.makes) (stops_one j)

-- ---- pair by pair

-- while input i is taken, j still to be done
pub record Pairing (k : ℕ) (xs : List ℕ) (i : ℕ) (T : List ℕ) (c j : ℕ) (T₁ H₁ X₁ M₁ R : List ℕ) (c₁ : ℕ) : Type 0 where
  pub high : j ≤ k
  pub fits : j + i ≤ length xs
  pub step : Step (PartOf (least_steps_d k (map (den T) xs))) T c T₁ H₁ X₁ c₁
  pub held : Held T₁ H₁ X₁ M₁ c₁
  pub row : Row T₁ c₁ (map (den T) xs) xs
  pub taking : Taking T₁ c₁ k (map (den T) xs) i j R

pub pairing_start : {k : ℕ} {xs : List ℕ} {i : ℕ} {T H X M R : List ℕ} {c j : ℕ} → Held T H X M c → Within c xs → Reached T c k (map (den T) xs) (i + 1) R → Highest k (length xs) i j
    → Pairing k xs i T c j T H X M R c
pairing_start {k} {xs} {i} {T} {j = j} h w a t = record {
  high = t.low;
  fits = t.fits;
  step = step_here h.store;
  held = h;
  row = row_here w;
  taking = taking_start (go t.top) a;
}
  where
    go : (k ≤ j) ⊎ (length xs ≤ j + i) → (k ≤ j) ⊎ (length (map (den T) xs) ≤ j + i)
    go (inl q) = inl q
    go (inr q) = inr (let e = map_long T xs in omega arith)

module _ {k : ℕ} {xs : List ℕ} {i : ℕ} {T : List ℕ} {c j : ℕ} {T₁ H₁ X₁ M₁ R : List ℕ} {c₁ : ℕ} (a : Pairing k xs i T c j T₁ H₁ X₁ M₁ R c₁) where
  abbrev ds : List Diagram
  ds = map (den T) xs

  pub pairing_end : {low : ℕ} → Lowest k i low → j < low → Taken k ds i T c T₁ H₁ X₁ M₁ R c₁
  pairing_end w l = record { step = a.step; held = a.held; reached = taking_end l w.bottom a.taking }

  module _ {low : ℕ} (w : Lowest k i low) (l : low ≤ j) where
    due : Due k (length ds) i j
    due = let e = map_long T xs in let s = w.some in let h = w.high in let f = a.fits in record { some = omega arith; high = a.high; fits = omega arith; low = omega arith }

    inside : i < length ds
    inside = let q = due.some in let f = due.fits in omega arith

    pub x_here : Found T₁ c₁ (get_or ds i (leaf false)) (get_or xs i 0)
    x_here = a.row.each i inside

    pub less_in : get_or R (j - 1) 0 < c₁ + 2
    less_in = (less_here ds due a.taking).within

    pub more_in : get_or R j 0 < c₁ + 2
    more_in = (more_here ds due a.taking).within

    -- what the code makes, in the rule's words
    abbrev C₁ : Diagram
    C₁ = join_d false (den T₁ (get_or xs i 0)) (den T₁ (get_or R (j - 1) 0))

    abbrev P₁ : Diagram
    P₁ = join_d true C₁ (den T₁ (get_or R j 0))

    is_both : C₁ ≡ both ds due
    is_both = ap₂ (join_d false) x_here.is (less_here ds due a.taking).is

    is_whole : P₁ ≡ whole ds due
    is_whole = ap₂ (join_d true) is_both (more_here ds due a.taking).is

    wanted : (d : Diagram) → In d (both ds due ∷ (whole ds due ∷ [])) → In d (least_steps_d k ds)
    wanted = due_steps ds due

    fit : (T₂ H₂ X₂ M₂ : List ℕ) (r : Result Built Full) → Gains (C₁ ∷ (P₁ ∷ [])) P₁ T₁ c₁ T₂ H₂ X₂ M₂ r → Gains (both ds due ∷ (whole ds due ∷ [])) (whole ds due) T₁ c₁ T₂ H₂ X₂ M₂ r
    fit T₂ H₂ X₂ M₂ r g =
        subst (λ p. Gains (both ds due ∷ (p ∷ [])) p T₁ c₁ T₂ H₂ X₂ M₂ r) is_whole (subst (λ b. Gains (b ∷ (P₁ ∷ [])) P₁ T₁ c₁ T₂ H₂ X₂ M₂ r) is_both g)

    pub pairing_next : {T₂ H₂ X₂ M₂ : List ℕ} {c₂ r : ℕ} → k ≤ limits.inputs
        → Gained (join_d false (den T₁ (get_or xs i 0)) (den T₁ (get_or R (j - 1) 0)) ∷ (join_d true (join_d false (den T₁ (get_or xs i 0)) (den T₁ (get_or R (j - 1) 0))) (den T₁ (get_or R j 0)) ∷ []))
        (join_d true (join_d false (den T₁ (get_or xs i 0)) (den T₁ (get_or R (j - 1) 0))) (den T₁ (get_or R j 0))) T₁ c₁ T₂ H₂ X₂ M₂ c₂ r
        → Pairing k xs i T c (j - 1) T₂ H₂ X₂ M₂ (set R j r) c₂
    pairing_next {T₂} {H₂} {X₂} {M₂} {c₂} {r} room b =
        let g = fit T₂ H₂ X₂ M₂ (Ok (record { node = r; count = c₂ })) b in
        let s = g.made.step in
        let low = a.held.store.lower in
        record {
          high = let q = a.high in omega arith;
          fits = let q = a.fits in omega arith;
          step = step_seq a.step (step_more (part_more wanted) s);
          held = g.held;
          row = row_grown low s.grown a.row;
          taking = taking_next ds due a.taking low s.grown (let q = a.high in omega arith) g.found g.made.all;
        }

    pub pairing_short : {T₂ H₂ X₂ : List ℕ} {c₂ : ℕ}
        → Stops (PartOf (join_d false (den T₁ (get_or xs i 0)) (den T₁ (get_or R (j - 1) 0)) ∷ (join_d true (join_d false (den T₁ (get_or xs i 0)) (den T₁ (get_or R (j - 1) 0))) (den T₁ (get_or R j 0)) ∷ []))) T₁ c₁ T₂ H₂ X₂ c₂
        → Stops (PartOf (least_steps_d k ds)) T c T₂ H₂ X₂ c₂
    pairing_short {T₂} {H₂} {X₂} {c₂} b = stops_seq a.step (stops_more (part_more wanted) (fit T₂ H₂ X₂ M₁ (Err (record { count = c₂ })) b))

-- ---- input by input

pub record Stage (k : ℕ) (xs : List ℕ) (T : List ℕ) (c i : ℕ) (T₁ H₁ X₁ M₁ R : List ℕ) (c₁ : ℕ) : Type 0 where
  pub high : i ≤ length xs
  pub taken : Taken k (map (den T) xs) i T c T₁ H₁ X₁ M₁ R c₁
  pub row : Row T₁ c₁ (map (den T) xs) xs

pub stage_start : {k : ℕ} {xs : List ℕ} {T H X M R : List ℕ} {c : ℕ} → Held T H X M c → Within c xs → length R ≡ limits.inputs + 1 → get_or R 0 0 ≡ 1 → ((j : ℕ) → get_or R (suc j) 0 ≡ 0)
    → Stage k xs T c (length xs) T H X M R c
stage_start {k} {xs} {T} {H} {X} {M} {R} {c} h w long one zeros = record {
  high = omega arith;
  taken = record { step = step_here h.store; held = h; reached = subst (λ n. Reached T c k (map (den T) xs) n R) (map_long T xs) (reached_none (map (den T) xs) long one zeros) };
  row = row_here w;
}

-- a row of zeros with at-least 0 in front
pub stage_first : {k : ℕ} {xs : List ℕ} {T H X M : List ℕ} {c : ℕ} → Held T H X M c → Within c xs → Stage k xs T c (length xs) T H X M (set (replicate 65 0) 0 1) c
stage_first h w =
    let R : List ℕ = replicate 65 0 in
    let e : length R ≡ 65 = length-replicate {A = ℕ} 65 0 in
    stage_start h w (length-set R 0 1 ∙ e) (get_or-set_same R 0 1 0 (omega arith)) (λ j. get_or-set_other R 0 (suc j) 1 0 (omega arith) ∙ zero_at 65 (suc j))

module _ {k : ℕ} {xs : List ℕ} {T : List ℕ} {c i : ℕ} {T₁ H₁ X₁ M₁ R : List ℕ} {c₁ : ℕ} (a : Stage k xs T c i T₁ H₁ X₁ M₁ R c₁) where
  pub stage_within : Within c₁ xs
  stage_within = record { each = λ j l. (a.row.each j (let e = map_long T xs in omega arith)).within }

  now_same : map (den T₁) xs ≡ map (den T) xs
  now_same = row_map (sym (map_long T xs)) a.row

  module _ (l : 0 < i) where
    pub stage_ready : Reached T₁ c₁ k (map (den T₁) xs) (i - 1 + 1) R
    stage_ready = let e : i ≡ i - 1 + 1 = omega arith in
        subst (λ n. Reached T₁ c₁ k (map (den T₁) xs) n R) e (subst (λ es. Reached T₁ c₁ k es i R) (sym now_same) a.taken.reached)

    pub stage_next : {T₂ H₂ X₂ M₂ R₂ : List ℕ} {c₂ : ℕ} → Taken k (map (den T₁) xs) (i - 1) T₁ c₁ T₂ H₂ X₂ M₂ R₂ c₂ → Stage k xs T c (i - 1) T₂ H₂ X₂ M₂ R₂ c₂
    stage_next {T₂} {H₂} {X₂} {M₂} {R₂} {c₂} b =
        let t = subst (λ es. Taken k es (i - 1) T₁ c₁ T₂ H₂ X₂ M₂ R₂ c₂) now_same b in
        record {
          high = let q = a.high in omega arith;
          taken = record { step = step_seq a.taken.step t.step; held = t.held; reached = t.reached };
          row = row_grown a.taken.held.store.lower t.step.grown a.row;
        }

    pub stage_short : {T₂ H₂ X₂ : List ℕ} {c₂ : ℕ} → Stops (PartOf (least_steps_d k (map (den T₁) xs))) T₁ c₁ T₂ H₂ X₂ c₂ → Stops (PartOf (least_steps_d k (map (den T) xs))) T c T₂ H₂ X₂ c₂
    stage_short {T₂} {H₂} {X₂} {c₂} b = stops_seq a.taken.step (subst (λ es. Stops (PartOf (least_steps_d k es)) T₁ c₁ T₂ H₂ X₂ c₂) now_same b)

  -- the first input is taken
  pub stage_end : i ≤ 0 → Gained (least_steps_d k (map (den T) xs)) (least_d k (map (den T) xs)) T c T₁ H₁ X₁ M₁ c₁ (get_or R k 0)
  stage_end l =
      let e : i ≡ 0 = omega arith in
      let p = subst (λ n. Pair T₁ c₁ (drop n (map (den T) xs)) k (get_or R k 0)) e (a.taken.reached.pair k (omega arith) (omega arith)) in
      record { made = record { step = a.taken.step; all = p.all }; held = a.taken.held; found = p.here }
