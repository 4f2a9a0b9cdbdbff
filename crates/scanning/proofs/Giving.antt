-- Chance lines, and the first wrong line.
-- Assumes nothing.
use mathlib.Core.Path.{◌≡◌, refl, sym, ap, ◌∙◌, subst}
use mathlib.Core.Logic.{inl}
use mathlib.Core.Bool.{Bool, true, false, cond, not, ◌||◌, true≢false, false≢true}
use Rattle.std.specs.Prelude.{Option, Some, None}
use mathlib.Core.List.{List, [], ◌∷◌, ◌++◌}
use Prim.Native.Nat.{ℕ, suc, ◌+◌, ◌<◌, ◌≤◌}
use native.Mathlib.Decide.{ℕ_discrete}
use native.Mathlib.Omega.{arith}
use lib.ListN.{get_or, length, drop, set, length-set}
use lib.Seq.{get_or-set_same, get_or-set_other, length-take-le}
use Rattle.paper.specs.Bytes.{same}
use Rattle.paper.specs.Grammar.{Line, chance}
use Rattle.paper.specs.Texts.{Placed, says, lines_from, lines_of}
use Rattle.paper.specs.Equations.{has, dict_in, name_in, given_of, defined_in, twice_in, positive, wrong, wrong_from, wrong_in, chance_in}
use Rattle.lines.specs.Reading.{name_at, Capped, ReadsAt}
use Rattle.lines.specs.declared.Kind.{Kind}
use Rattle.lines.specs.declared.Kind.TheVariants.{Chance, Or, And, AtLeast}
use Rattle.names.specs.Interning.{Zeros, Hit, Missed}
use Rattle.scanning.specs.Scanning.{Gathered}
use Rattle.scanning.specs.Judged.{is_equation, place_code, IsEquation, Defined, Places, Giving, Refused, unknown, left, again, Kept, Right, Names}
use Rattle.lines.proofs.Leads.{drop_at_end}
use Rattle.names.proofs.Dicts.{same_self}
use Rattle.scanning.proofs.Known.{sought_none, sought_name, sought_has, sought_only}
use Rattle.scanning.proofs.Rows.{name_line, line_closed_name, line_at, equation_read}
use Rattle.scanning.proofs.Equations.{has_front, has_none, different, not_positive, is_positive}
use Rattle.scanning.proofs.Gathering.{lines_end}

-- ---- one chance

pub tells_unknown : {text N H X : List ℕ} {c : ℕ} {w M : List ℕ} → Gathered text N H X c → Missed text N c w → Refused text c M w
tells_unknown g s = unknown (sought_none g s)

module _ {text N H X : List ℕ} {c : ℕ} {F w : List ℕ} {f : ℕ} (g : Gathered text N H X c) (l : Places text c F) (s : Hit text N c w f) {p : ℕ} (ep : p ≡ f) where
  pub found_room : p < c
  found_room = omega (arith, s.below)

  found_name : name_in (lines_of text) p ≡ w
  found_name = ap (name_in (lines_of text)) ep ∙ sought_name g s

  its_place : get_or F p 0 ≡ defined_in w (lines_of text)
  its_place = (l.site p found_room).each ∙ ap (λ x. defined_in x (lines_of text)) found_name

  pub found_place : p < length F
  found_place = (l.site p found_room).room

  pub tells_left : {M : List ℕ} → 0 < get_or F p 0 → Refused text c M w
  tells_left h = left (ap positive (sym its_place) ∙ is_positive (get_or F p 0) h)

  pub tells_again : {M : List ℕ} → 0 < get_or M p 0 → Refused text c M w
  tells_again {M} h = again p found_room found_name (is_positive (get_or M p 0) h)

  pub tells_kept : {M G : List ℕ} {v : ℕ} → get_or F p 0 ≤ 0 → get_or M p 0 ≤ 0 → Kept text c M G w v (set M p 1) (set G p v)
  tells_kept {M} {G} h k = record {
    known = sought_has g s;
    event = ap positive (sym its_place) ∙ not_positive (get_or F p 0) h;
    number = p;
    within = found_room;
    name = found_name;
    only = λ j m e. sought_only g s j m e ∙ sym ep;
    fresh = not_positive (get_or M p 0) k;
    marks = refl;
    chances = refl;
  }

-- ---- lines

module _ {text : List ℕ} {c : ℕ} {M G : List ℕ} {at : ℕ} {kind : Option Kind} {stop next : ℕ} (d : Giving text c M G at) (r : ReadsAt text at kind stop next) where
  abbrev behind_it : List Placed
  behind_it = lines_from next (drop next text)

  abbrev all : List Placed
  all = lines_of text

  told : wrong_from all d.given (lines_from at (drop at text)) ≡ cond (wrong all d.given r.line) (suc at) (wrong_from all (given_of r.line ++ d.given) behind_it)
  told = ap (wrong_from all d.given) r.says

  wrong_here : wrong all d.given r.line ≡ true → wrong_in all ≡ suc at
  wrong_here h = sym d.right ∙ told ∙ ap (λ u. cond u (suc at) (wrong_from all (given_of r.line ++ d.given) behind_it)) h

  pub bad_wrong : kind ≡ None → wrong_in all ≡ suc at
  bad_wrong e = wrong_here (ap (wrong all d.given) (rw e at r.reads))

  equation_chance : (w : List ℕ) (l : Line) (x : List ℕ) → IsEquation l x → chance_in w (says at l ∷ behind_it) ≡ chance_in w behind_it
  equation_chance w l x e = ap (λ k. chance_in w (says at k ∷ behind_it)) e.is

  equation_on : is_equation kind ≡ true → Giving text c M G next
  equation_on h =
      let e = equation_read (line_at r) h in
      record {
        upto = r.inside;
        marked = d.marked;
        room = d.room;
        given = d.given;
        marks = d.marks;
        right = sym (told ∙ ap (λ l. cond (wrong all d.given l) (suc at) (wrong_from all (given_of l ++ d.given) behind_it)) e.is) ∙ d.right;
        is = d.is;
        none = d.none;
        still = λ n l m. sym (ap (chance_in (name_in (lines_of text) n)) r.says ∙ equation_chance (name_in (lines_of text) n) r.line (name_at text at) e) ∙ d.still n l m;
      }

  -- what is no chance is an equation
  pub equation_right : {k : Kind} → kind ≡ Some k → ((v : ℕ) → k ≡ Chance v → ⊥) → (at < next) × Giving text c M G next
  equation_right {k} e n = (r.after, equation_on (ap is_equation e ∙ go k n))
    where
      go : (k : Kind) → ((v : ℕ) → k ≡ Chance v → ⊥) → is_equation (Some k) ≡ true
      go (Chance v) n = absurd (n v refl)
      go (Or i) n = refl
      go (And i) n = refl
      go (AtLeast m i) n = refl

  module _ {v : ℕ} (k : kind ≡ Some (Chance v)) where
    pub chance_room : at + 2 ≤ length text
    chance_room =
        let w = (rw k at r.reads).inside in
        let z = length-take-le stop text r.ends.inside in
        omega (arith, r.ends.inside)

    chance_value : ℕ
    chance_value = (rw k at r.reads).number

    chance_capped : Capped chance_value v
    unfolding chance_value
    chance_capped = (rw k at r.reads).capped

    chance_is : r.line ≡ chance (name_at text (at + 2)) chance_value
    unfolding chance_value
    chance_is =
        let w = (rw k at r.reads).inside in
        let z = length-take-le stop text r.ends.inside in
        (rw k at r.reads).is ∙ ap (λ x. chance x (rw k at r.reads).number) (name_line text stop (at + 2) (line_closed_name r.ends) (omega arith))

    is_wrong : wrong all d.given r.line ≡ (not (has (name_at text (at + 2)) (dict_in all)) || (positive (defined_in (name_at text (at + 2)) all) || has (name_at text (at + 2)) d.given))
    is_wrong = ap (wrong all d.given) chance_is

    or_last : (t u : Bool) → (t || (u || true)) ≡ true
    or_last true u = refl
    or_last false true = refl
    or_last false false = refl

    or_middle : (t u : Bool) → (t || (true || u)) ≡ true
    or_middle true u = refl
    or_middle false u = refl

    refused : Refused text c M (name_at text (at + 2)) → wrong all d.given r.line ≡ true
    refused (unknown h) = is_wrong ∙ ap (λ u. not u || (positive (defined_in (name_at text (at + 2)) all) || has (name_at text (at + 2)) d.given)) h
    refused (left h) = is_wrong ∙ ap (λ u. not (has (name_at text (at + 2)) (dict_in all)) || (u || has (name_at text (at + 2)) d.given)) h ∙ or_middle (not (has (name_at text (at + 2)) (dict_in all))) (has (name_at text (at + 2)) d.given)
    refused (again n l e h) = is_wrong ∙ ap (λ u. not (has (name_at text (at + 2)) (dict_in all)) || (positive (defined_in (name_at text (at + 2)) all) || u)) (ap (λ w. has w d.given) (sym e) ∙ d.marks n l ∙ h) ∙ or_last (not (has (name_at text (at + 2)) (dict_in all))) (positive (defined_in (name_at text (at + 2)) all))

    module _ {M' G' : List ℕ} (q : Kept text c M G (name_at text (at + 2)) v M' G') where
      abbrev w : List ℕ
      w = name_at text (at + 2)

      abbrev m : ℕ
      m = q.number

      is_right : wrong all d.given r.line ≡ false
      is_right = is_wrong ∙ ap (λ u. not u || (positive (defined_in w all) || has w d.given)) q.known ∙ ap (λ u. u || has w d.given) q.event ∙ ap (λ x. has x d.given) (sym q.name) ∙ d.marks m q.within ∙ q.fresh

      other_name : (n : ℕ) → n < c → (n ≡ m → ⊥) → same (name_in (lines_of text) n) w ≡ false
      other_name n l z = different (name_in (lines_of text) n) w (λ e. z (q.only n l e))

      told_chance : (x : List ℕ) → chance_in x (lines_from at (drop at text)) ≡ cond (same x w) chance_value (chance_in x behind_it)
      told_chance x = ap (chance_in x) r.says ∙ ap (λ l. chance_in x (says at l ∷ behind_it)) chance_is

      old_mark : (n : ℕ) → (n ≡ m → ⊥) → get_or M' n 0 ≡ get_or M n 0
      old_mark n z = ap (λ l. get_or l n 0) q.marks ∙ get_or-set_other M m n 1 0 z

      new_mark : get_or M' m 0 ≡ 1
      new_mark = ap (λ l. get_or l m 0) q.marks ∙ get_or-set_same M m 1 0 (let y = q.within in omega (arith, d.marked))

      old_chance : (n : ℕ) → (n ≡ m → ⊥) → get_or G' n 0 ≡ get_or G n 0
      old_chance n z = ap (λ l. get_or l n 0) q.chances ∙ get_or-set_other G m n v 0 z

      new_chance : get_or G' m 0 ≡ v
      new_chance = ap (λ l. get_or l m 0) q.chances ∙ get_or-set_same G m v 0 (let y = q.within in omega (arith, d.room))

      own_chance : chance_value ≡ chance_in (name_in (lines_of text) m) all
      own_chance = sym (told_chance (name_in (lines_of text) m) ∙ ap (λ x. cond (same x w) chance_value (chance_in (name_in (lines_of text) m) behind_it)) q.name ∙ ap (λ u. cond u chance_value (chance_in (name_in (lines_of text) m) behind_it)) (same_self w)) ∙ d.still m q.within q.fresh

      marks' : (n : ℕ) → n < c → Dec (n ≡ m) → has (name_in (lines_of text) n) (w ∷ d.given) ≡ positive (get_or M' n 0)
      marks' n l (yes e) = subst (λ i. has (name_in (lines_of text) i) (w ∷ d.given) ≡ positive (get_or M' i 0)) (sym e) (ap (λ x. has x (w ∷ d.given)) q.name ∙ has_front w w d.given ∙ ap (λ u. u || has w d.given) (same_self w) ∙ sym (ap positive new_mark))
      marks' n l (no z) = has_front (name_in (lines_of text) n) w d.given ∙ ap (λ u. u || has (name_in (lines_of text) n) d.given) (other_name n l z) ∙ d.marks n l ∙ ap positive (sym (old_mark n z))

      is' : (n : ℕ) → n < c → Dec (n ≡ m) → positive (get_or M' n 0) ≡ true → Capped (chance_in (name_in (lines_of text) n) all) (get_or G' n 0)
      is' n l (yes e) h = subst (λ i. Capped (chance_in (name_in (lines_of text) i) all) (get_or G' i 0)) (sym e) (subst (λ x. Capped (chance_in (name_in (lines_of text) m) all) x) (sym new_chance) (subst (λ x. Capped x v) own_chance chance_capped))
      is' n l (no z) h = subst (λ x. Capped (chance_in (name_in (lines_of text) n) all) x) (sym (old_chance n z)) (d.is n l (ap positive (sym (old_mark n z)) ∙ h))

      none' : (n : ℕ) → n < c → Dec (n ≡ m) → positive (get_or M' n 0) ≡ false → get_or G' n 0 ≡ 0
      none' n l (yes e) h = absurd (true≢false (sym (ap (λ i. positive (get_or M' i 0)) e ∙ ap positive new_mark) ∙ h))
      none' n l (no z) h = old_chance n z ∙ d.none n l (ap positive (sym (old_mark n z)) ∙ h)

      still' : (n : ℕ) → n < c → Dec (n ≡ m) → positive (get_or M' n 0) ≡ false → chance_in (name_in (lines_of text) n) behind_it ≡ chance_in (name_in (lines_of text) n) all
      still' n l (yes e) h = absurd (true≢false (sym (ap (λ i. positive (get_or M' i 0)) e ∙ ap positive new_mark) ∙ h))
      still' n l (no z) h = sym (told_chance (name_in (lines_of text) n) ∙ ap (λ u. cond u chance_value (chance_in (name_in (lines_of text) n) behind_it)) (other_name n l z)) ∙ d.still n l (ap positive (sym (old_mark n z)) ∙ h)

      kept_on : Giving text c M' G' next
      kept_on = record {
        upto = r.inside;
        marked = let y = ap length q.marks ∙ length-set M m 1 in omega (arith, d.marked);
        room = let y = ap length q.chances ∙ length-set G m v in omega (arith, d.room);
        given = w ∷ d.given;
        marks = λ n l. marks' n l (ℕ_discrete n m);
        right = sym (told ∙ ap (λ u. cond u (suc at) (wrong_from all (given_of r.line ++ d.given) behind_it)) is_right ∙ ap (λ l. wrong_from all (given_of l ++ d.given) behind_it) chance_is) ∙ d.right;
        is = λ n l. is' n l (ℕ_discrete n m);
        none = λ n l. none' n l (ℕ_discrete n m);
        still = λ n l. still' n l (ℕ_discrete n m);
      }

    pub chance_wrong : Refused text c M (name_at text (at + 2)) → wrong_in all ≡ suc at
    chance_wrong t = wrong_here (refused t)

    pub chance_right : {M' G' : List ℕ} → Kept text c M G (name_at text (at + 2)) v M' G' → (at < next) × Giving text c M' G' next
    chance_right t = (r.after, kept_on t)

-- ---- the text

pub giving_start : {text : List ℕ} {c : ℕ} {M G : List ℕ} → c ≤ length M → c ≤ length G → Zeros M (length M) → Zeros G (length G) → Giving text c M G 0
unfolding lines_of wrong_in
giving_start {text} {c} {M} {G} l k y z = record {
  upto = omega arith;
  marked = l;
  room = k;
  given = [];
  marks = λ n h. has_none (name_in (lines_of text) n) ∙ sym (ap positive (y.zero n (omega arith)));
  right = refl;
  is = λ n h q. absurd (false≢true (sym (ap positive (y.zero n (omega arith))) ∙ q));
  none = λ n h _. z.zero n (omega arith);
  still = λ n h _. refl;
}

pub giving_end : {text : List ℕ} {c : ℕ} {M G : List ℕ} {at : ℕ} → Giving text c M G at → length text ≤ at → Right text c G
giving_end {text} {c} {M} {G} {at} d h =
    let e : lines_from at (drop at text) ≡ [] = ap (lines_from at) (drop_at_end text at h) ∙ lines_end at in
    record {
      none = sym d.right ∙ ap (wrong_from (lines_of text) d.given) e;
      each = λ n l. go n l e (positive (get_or M n 0)) refl;
    }
  where
    go : (n : ℕ) → n < c → lines_from at (drop at text) ≡ [] → (t : Bool) → positive (get_or M n 0) ≡ t → Capped (chance_in (name_in (lines_of text) n) (lines_of text)) (get_or G n 0)
    go n l e true q = d.is n l q
    go n l e false q = record {
      low = let y = d.none n l q in omega arith;
      is = inl (d.none n l q ∙ sym (ap (chance_in (name_in (lines_of text) n)) e) ∙ d.still n l q);
    }

-- ---- the scan

module _ {text N H X : List ℕ} {c : ℕ} {F G : List ℕ} {o : Option ℕ} (g : Gathered text N H X c) (d : Defined text c F (place_code o)) (r : Right text c G) where
  pub scan_twice : {at : ℕ} → o ≡ Some at → (wrong_in (lines_of text) ≡ 0) × (twice_in (lines_of text) ≡ suc at)
  scan_twice e = (r.none, sym d.twice ∙ ap place_code e)

  pub scan_done : o ≡ None → Names text N H X c F G
  scan_done e = record { lines = record { right = r.none; once = sym d.twice ∙ ap place_code e }; gathered = g; places = d.places; chances = r.each }
