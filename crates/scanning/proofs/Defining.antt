-- Where the left names are defined, line by line.
-- Assumes nothing.
use mathlib.Core.Path.{◌≡◌, refl, sym, ap, ◌∙◌, subst}
use mathlib.Core.Bool.{true, false, cond, ◌||◌}
use Rattle.std.specs.Prelude.{Option, Some, None, IsSome}
use Rattle.std.specs.Option.{option_or}
use mathlib.Core.List.{List, [], ◌∷◌, ◌++◌}
use Prim.Native.Nat.{ℕ, suc, ◌+◌, ◌<◌, ◌≤◌}
use native.Mathlib.Decide.{ℕ_discrete}
use native.Mathlib.Omega.{arith}
use lib.ListN.{get_or, length, drop, set, length-set}
use lib.Seq.{get_or-set_same, get_or-set_other}
use Rattle.paper.specs.Lists.{every}
use Rattle.paper.specs.Bytes.{same}
use Rattle.paper.specs.Texts.{Placed, lines_from, lines_of}
use Rattle.paper.specs.Equations.{has, names_of, names_in, dict_in, name_in, left_of, meets, defined_in, line_in, twice_from, twice_in, positive}
use Rattle.paper.specs.Importing.{or_else}
use Rattle.lines.specs.Reading.{name_at, ReadsAt}
use Rattle.lines.specs.declared.Kind.{Kind}
use Rattle.names.specs.Interning.{Zeros, Hit, Sought}
use Rattle.scanning.specs.Scanning.{Gathered}
use Rattle.scanning.specs.Judged.{is_equation, place_code, IsEquation, Home, Defining, Defined}
use Rattle.lines.proofs.Leads.{drop_at_end}
use Rattle.lines.proofs.Tests.{and_first}
use Rattle.names.proofs.Dicts.{same_self}
use Rattle.scanning.proofs.Known.{collect_has, every_left, every_right, sought_some, sought_name, sought_only}
use Rattle.scanning.proofs.Rows.{line_at, equation_read, other_read}
use Rattle.scanning.proofs.Equations.{or_else_more, or_else_some, or_else_none, positive_more, positive_not, has_one, has_front, has_none, meets_one, different}
use Rattle.scanning.proofs.Gathering.{lines_end}

pub defining_start : {text : List ℕ} {c : ℕ} {F : List ℕ} → c ≤ length F → Zeros F (length F) → Defining text c F 0 0
unfolding lines_of twice_in dict_in
defining_start {text} {c} {F} l z = record {
  upto = omega arith;
  room = l;
  small = omega arith;
  low = λ n h. let y = z.zero n (omega arith) in omega arith;
  each = λ n h. ap (λ k. or_else k (defined_in (name_in (lines_of text) n) (lines_from 0 text))) (z.zero n (omega arith));
  seen = [];
  marks = λ n h. has_none (name_in (lines_of text) n) ∙ sym (ap positive (z.zero n (omega arith)));
  twice = refl;
  known = collect_has [] (names_in (lines_from 0 text));
  later = λ n h e. refl;
  homes = λ n a h e. let y = z.zero n (omega arith) in absurd (omega arith);
}

module _ {text : List ℕ} {c : ℕ} {F : List ℕ} {t at : ℕ} {kind : Option Kind} {stop next : ℕ} (d : Defining text c F t at) (r : ReadsAt text at kind stop next) where
  abbrev behind_it : List Placed
  behind_it = lines_from next (drop next text)

  told : (w : List ℕ) → defined_in w (lines_from at (drop at text)) ≡ cond (has w (left_of r.line)) (suc at) (defined_in w behind_it)
  told w = ap (defined_in w) r.says

  told_twice : twice_from d.seen (lines_from at (drop at text)) ≡ cond (meets (left_of r.line) d.seen) (suc at) (twice_from (left_of r.line ++ d.seen) behind_it)
  told_twice = ap (twice_from d.seen) r.says

  told_names : every (λ w. has w (dict_in (lines_of text))) (names_of r.line ++ names_in behind_it) ≡ true
  told_names = rw r.says at d.known

  still_known : every (λ w. has w (dict_in (lines_of text))) (names_in behind_it) ≡ true
  still_known = every_right (λ w. has w (dict_in (lines_of text))) (names_of r.line) (names_in behind_it) told_names

  told_line : (w : List ℕ) → line_in w (lines_from at (drop at text)) ≡ cond (has w (left_of r.line)) r.line (line_in w behind_it)
  told_line w = ap (line_in w) r.says

  pub defining_other : is_equation kind ≡ false → (at < next) × Defining text c F t next
  defining_other h =
      let e = other_read (line_at r) h in (
        r.after,
        record {
          upto = r.inside;
          room = d.room;
          small = omega (arith, d.small, r.after);
          low = λ n l. let y = d.low n l in omega (arith, r.after);
          each = λ n l. ap (or_else (get_or F n 0)) (sym (told (name_in (lines_of text) n) ∙ ap (λ m. cond (has (name_in (lines_of text) n) m) (suc at) (defined_in (name_in (lines_of text) n) behind_it)) e ∙ ap (λ u. cond u (suc at) (defined_in (name_in (lines_of text) n) behind_it)) (has_none (name_in (lines_of text) n)))) ∙ d.each n l;
          seen = d.seen;
          marks = d.marks;
          twice = ap (or_else t) (sym (told_twice ∙ ap (λ m. cond (meets m d.seen) (suc at) (twice_from (m ++ d.seen) behind_it)) e)) ∙ d.twice;
          known = still_known;
          later = λ n l z. sym (told_line (name_in (lines_of text) n) ∙ ap (λ m. cond (has (name_in (lines_of text) n) m) r.line (line_in (name_in (lines_of text) n) behind_it)) e ∙ ap (λ u. cond u r.line (line_in (name_in (lines_of text) n) behind_it)) (has_none (name_in (lines_of text) n))) ∙ d.later n l z;
          homes = d.homes;
        },
      )

  -- an equation whose left name has the number f
  module _ (h : is_equation kind ≡ true) {N H X : List ℕ} (s : Gathered text N H X c) where
    the_left : left_of r.line ≡ name_at text at ∷ []
    the_left = ap left_of (equation_read (line_at r) h).is

    its_known : has (name_at text at) (dict_in (lines_of text)) ≡ true
    its_known =
        let e = equation_read (line_at r) h in
        and_first (has (name_at text at) (dict_in (lines_of text))) (every (λ w. has w (dict_in (lines_of text))) (e.first ∷ e.others)) (rw e.is at (every_left (λ w. has w (dict_in (lines_of text))) (names_of r.line) (names_in behind_it) told_names))

    pub left_some : (o : Option ℕ) → Sought text N c (name_at text at) o → IsSome o
    left_some o q = sought_some s (name_at text at) o q its_known

    module _ {f : ℕ} (q : Hit text N c (name_at text at) f) {p : ℕ} (ep : p ≡ f) where
      pub left_room : p < c
      left_room = omega (arith, q.below)

      left_is : name_in (lines_of text) p ≡ name_at text at
      left_is = ap (name_in (lines_of text)) ep ∙ sought_name s q

      left_only : (n : ℕ) → n < c → name_in (lines_of text) n ≡ name_at text at → n ≡ p
      left_only n l e = sought_only s q n l e ∙ sym ep

      told_own : (w : List ℕ) → defined_in w (lines_from at (drop at text)) ≡ cond (same w (name_at text at)) (suc at) (defined_in w behind_it)
      told_own w = told w ∙ ap (λ m. cond (has w m) (suc at) (defined_in w behind_it)) the_left ∙ ap (λ u. cond u (suc at) (defined_in w behind_it)) (has_one w (name_at text at))

      told_other : (n : ℕ) → n < c → (n ≡ p → ⊥) → defined_in (name_in (lines_of text) n) (lines_from at (drop at text)) ≡ defined_in (name_in (lines_of text) n) behind_it
      told_other n l k = told_own (name_in (lines_of text) n) ∙ ap (λ u. cond u (suc at) (defined_in (name_in (lines_of text) n) behind_it)) (different (name_in (lines_of text) n) (name_at text at) (λ e. k (left_only n l e)))

      told_left : defined_in (name_in (lines_of text) p) (lines_from at (drop at text)) ≡ suc at
      told_left = told_own (name_in (lines_of text) p) ∙ ap (λ w. cond (same w (name_at text at)) (suc at) (defined_in (name_in (lines_of text) p) behind_it)) left_is ∙ ap (λ u. cond u (suc at) (defined_in (name_in (lines_of text) p) behind_it)) (same_self (name_at text at))

      line_own : (w : List ℕ) → line_in w (lines_from at (drop at text)) ≡ cond (same w (name_at text at)) r.line (line_in w behind_it)
      line_own w = told_line w ∙ ap (λ m. cond (has w m) r.line (line_in w behind_it)) the_left ∙ ap (λ u. cond u r.line (line_in w behind_it)) (has_one w (name_at text at))

      line_other : (n : ℕ) → n < c → (n ≡ p → ⊥) → line_in (name_in (lines_of text) n) (lines_from at (drop at text)) ≡ line_in (name_in (lines_of text) n) behind_it
      line_other n l k = line_own (name_in (lines_of text) n) ∙ ap (λ u. cond u r.line (line_in (name_in (lines_of text) n) behind_it)) (different (name_in (lines_of text) n) (name_at text at) (λ e. k (left_only n l e)))

      line_left : line_in (name_in (lines_of text) p) (lines_from at (drop at text)) ≡ r.line
      line_left = line_own (name_in (lines_of text) p) ∙ ap (λ w. cond (same w (name_at text at)) r.line (line_in (name_in (lines_of text) p) behind_it)) left_is ∙ ap (λ u. cond u r.line (line_in (name_in (lines_of text) p) behind_it)) (same_self (name_at text at))

      meets_marks : meets (left_of r.line) d.seen ≡ positive (get_or F p 0)
      meets_marks = ap (λ m. meets m d.seen) the_left ∙ meets_one (name_at text at) d.seen ∙ ap (λ w. has w d.seen) (sym left_is) ∙ d.marks p left_room

      told_more : twice_from (left_of r.line ++ d.seen) behind_it ≡ twice_from (name_at text at ∷ d.seen) behind_it
      told_more = ap (λ m. twice_from (m ++ d.seen) behind_it) the_left

      -- the seen names with this one
      marks_other : (n : ℕ) → n < c → (n ≡ p → ⊥) → has (name_in (lines_of text) n) (name_at text at ∷ d.seen) ≡ positive (get_or F n 0)
      marks_other n l k = has_front (name_in (lines_of text) n) (name_at text at) d.seen ∙ ap (λ u. u || has (name_in (lines_of text) n) d.seen) (different (name_in (lines_of text) n) (name_at text at) (λ e. k (left_only n l e))) ∙ d.marks n l

      marks_own : has (name_in (lines_of text) p) (name_at text at ∷ d.seen) ≡ true
      marks_own = ap (λ w. has w (name_at text at ∷ d.seen)) left_is ∙ has_front (name_at text at) (name_at text at) d.seen ∙ ap (λ u. u || has (name_at text at) d.seen) (same_self (name_at text at))

      pub defining_new : get_or F p 0 ≡ 0 → (at < next) × Defining text c (set F p (at + 1)) t next
      defining_new z = (
        r.after,
        record {
          upto = r.inside;
          room = simp length-set d.room;
          small = omega (arith, d.small, r.after);
          low = λ n l. low' n l (ℕ_discrete n p);
          each = λ n l. each' n l (ℕ_discrete n p);
          seen = name_at text at ∷ d.seen;
          marks = λ n l. marks' n l (ℕ_discrete n p);
          twice = ap (or_else t) (sym (told_twice ∙ ap (λ u. cond u (suc at) (twice_from (left_of r.line ++ d.seen) behind_it)) (meets_marks ∙ ap positive z) ∙ told_more)) ∙ d.twice;
          known = still_known;
          later = λ n l y. later' n l y (ℕ_discrete n p);
          homes = λ n a l y. homes' n a l y (ℕ_discrete n p);
        },
      )
        where
          room' : p < length F
          room' = let y = left_room in omega (arith, d.room)

          same' : get_or (set F p (at + 1)) p 0 ≡ at + 1
          same' = get_or-set_same F p (at + 1) 0 room'

          other' : (n : ℕ) → (n ≡ p → ⊥) → get_or (set F p (at + 1)) n 0 ≡ get_or F n 0
          other' n k = get_or-set_other F p n (at + 1) 0 k

          later' : (n : ℕ) → n < c → get_or (set F p (at + 1)) n 0 ≡ 0 → Dec (n ≡ p) → line_in (name_in (lines_of text) n) behind_it ≡ line_in (name_in (lines_of text) n) (lines_of text)
          later' n l y (yes e) = let x = ap (λ k. get_or (set F p (at + 1)) k 0) e ∙ same' in absurd (omega arith)
          later' n l y (no k) = sym (line_other n l k) ∙ d.later n l (sym (other' n k) ∙ y)

          own_home : Home text (name_in (lines_of text) p) at
          own_home = record {
            inside = omega (arith, r.after, r.inside);
            line = r.line;
            rest = behind_it;
            says = r.says;
            whose = subst (λ x. IsEquation r.line x) (sym left_is) (equation_read (line_at r) h);
            is = sym (d.later p left_room z) ∙ line_left;
            known = every_left (λ w. has w (dict_in (lines_of text))) (names_of r.line) (names_in behind_it) told_names;
          }

          homes' : (n a : ℕ) → n < c → get_or (set F p (at + 1)) n 0 ≡ suc a → Dec (n ≡ p) → Home text (name_in (lines_of text) n) a
          homes' n a l y (yes e) =
              let x = ap (λ k. get_or (set F p (at + 1)) k 0) e ∙ same' in
              let q : at ≡ a = omega arith in
              subst (λ k. Home text (name_in (lines_of text) k) a) (sym e) (subst (λ k. Home text (name_in (lines_of text) p) k) q own_home)
          homes' n a l y (no k) = d.homes n a l (sym (other' n k) ∙ y)

          low' : (n : ℕ) → n < c → Dec (n ≡ p) → get_or (set F p (at + 1)) n 0 ≤ next
          low' n l (yes e) = let y = ap (λ k. get_or (set F p (at + 1)) k 0) e ∙ same' in omega (arith, r.after)
          low' n l (no k) = let y = other' n k in let x = d.low n l in omega (arith, r.after)

          each_own : or_else (get_or (set F p (at + 1)) p 0) (defined_in (name_in (lines_of text) p) behind_it) ≡ defined_in (name_in (lines_of text) p) (lines_of text)
          each_own = ap (λ k. or_else k (defined_in (name_in (lines_of text) p) behind_it)) same' ∙ or_else_more at (defined_in (name_in (lines_of text) p) behind_it) ∙ sym (ap (λ k. or_else k (defined_in (name_in (lines_of text) p) (lines_from at (drop at text)))) z ∙ told_left) ∙ d.each p left_room

          each' : (n : ℕ) → n < c → Dec (n ≡ p) → or_else (get_or (set F p (at + 1)) n 0) (defined_in (name_in (lines_of text) n) behind_it) ≡ defined_in (name_in (lines_of text) n) (lines_of text)
          each' n l (yes e) = subst (λ k. or_else (get_or (set F p (at + 1)) k 0) (defined_in (name_in (lines_of text) k) behind_it) ≡ defined_in (name_in (lines_of text) k) (lines_of text)) (sym e) each_own
          each' n l (no k) = ap (λ v. or_else v (defined_in (name_in (lines_of text) n) behind_it)) (other' n k) ∙ ap (or_else (get_or F n 0)) (sym (told_other n l k)) ∙ d.each n l

          marks' : (n : ℕ) → n < c → Dec (n ≡ p) → has (name_in (lines_of text) n) (name_at text at ∷ d.seen) ≡ positive (get_or (set F p (at + 1)) n 0)
          marks' n l (yes e) = subst (λ k. has (name_in (lines_of text) k) (name_at text at ∷ d.seen) ≡ positive (get_or (set F p (at + 1)) k 0)) (sym e) (marks_own ∙ sym (ap positive same' ∙ positive_more at))
          marks' n l (no k) = marks_other n l k ∙ ap positive (sym (other' n k))

      -- the left name stands twice
      module _ (z : get_or F p 0 ≡ 0 → ⊥) where
        taken : positive (get_or F p 0) ≡ true
        taken = positive_not (get_or F p 0) z

        told_here : twice_from d.seen (lines_from at (drop at text)) ≡ suc at
        told_here = told_twice ∙ ap (λ u. cond u (suc at) (twice_from (left_of r.line ++ d.seen) behind_it)) (meets_marks ∙ taken)

        again : (t' : ℕ) → t' ≤ next → or_else t' (twice_from (name_at text at ∷ d.seen) behind_it) ≡ twice_in (lines_of text) → (at < next) × Defining text c F t' next
        again t' low' y = (
          r.after,
          record {
            upto = r.inside;
            room = d.room;
            small = low';
            low = λ n l. let x = d.low n l in omega (arith, r.after);
            each = λ n l. each' n l (ℕ_discrete n p);
            seen = name_at text at ∷ d.seen;
            marks = λ n l. marks' n l (ℕ_discrete n p);
            twice = y;
            known = still_known;
            later = λ n l x. later' n l x (ℕ_discrete n p);
            homes = d.homes;
          },
        )
          where
            later' : (n : ℕ) → n < c → get_or F n 0 ≡ 0 → Dec (n ≡ p) → line_in (name_in (lines_of text) n) behind_it ≡ line_in (name_in (lines_of text) n) (lines_of text)
            later' n l x (yes e) = absurd (z (ap (λ k. get_or F k 0) (sym e) ∙ x))
            later' n l x (no k) = sym (line_other n l k) ∙ d.later n l x

            each' : (n : ℕ) → n < c → Dec (n ≡ p) → or_else (get_or F n 0) (defined_in (name_in (lines_of text) n) behind_it) ≡ defined_in (name_in (lines_of text) n) (lines_of text)
            each' n l (yes e) = or_else_some (get_or F n 0) (defined_in (name_in (lines_of text) n) behind_it) (defined_in (name_in (lines_of text) n) (lines_from at (drop at text))) (ap (λ k. positive (get_or F k 0)) e ∙ taken) ∙ d.each n l
            each' n l (no k) = ap (or_else (get_or F n 0)) (sym (told_other n l k)) ∙ d.each n l

            marks' : (n : ℕ) → n < c → Dec (n ≡ p) → has (name_in (lines_of text) n) (name_at text at ∷ d.seen) ≡ positive (get_or F n 0)
            marks' n l (yes e) = subst (λ k. has (name_in (lines_of text) k) (name_at text at ∷ d.seen) ≡ positive (get_or F k 0)) (sym e) (marks_own ∙ sym taken)
            marks' n l (no k) = marks_other n l k

        defining_first : t ≡ 0 → (at < next) × Defining text c F (suc at) next
        defining_first y = again (suc at) (omega (arith, r.after)) (sym (ap (λ k. or_else k (twice_from d.seen (lines_from at (drop at text)))) y ∙ told_here) ∙ d.twice)

        defining_again : (t ≡ 0 → ⊥) → (at < next) × Defining text c F t next
        defining_again y = again t (omega (arith, d.small, r.after)) (or_else_some t (twice_from (name_at text at ∷ d.seen) behind_it) (twice_from d.seen (lines_from at (drop at text))) (positive_not t y) ∙ d.twice)

        pub defining_twice : (o : Option ℕ) → t ≡ place_code o → (at < next) × Defining text c F (place_code (option_or o (Some at))) next
        defining_twice None e = defining_first e
        defining_twice (Some b) e = subst (λ k. (at < next) × Defining text c F k next) e (defining_again (λ z. let y : suc b ≡ 0 = sym e ∙ z in omega arith))

pub defining_end : {text : List ℕ} {c : ℕ} {F : List ℕ} {t at : ℕ} → Defining text c F t at → length text ≤ at → Defined text c F t
defining_end {text} {c} {F} {t} {at} d h =
    let e : lines_from at (drop at text) ≡ [] = ap (lines_from at) (drop_at_end text at h) ∙ lines_end at in
    record {
      places = record {
        site = λ n l. record {
          room = omega (arith, d.room);
          low = let x = d.low n l in omega (arith, d.upto);
          each = sym (or_else_none (get_or F n 0)) ∙ sym (ap (λ m. or_else (get_or F n 0) (defined_in (name_in (lines_of text) n) m)) e) ∙ d.each n l;
          none = λ z. sym (d.later n l z) ∙ ap (line_in (name_in (lines_of text) n)) e;
          home = λ k. d.homes n k l;
        };
      };
      twice = sym (or_else_none t) ∙ sym (ap (λ m. or_else t (twice_from d.seen m)) e) ∙ d.twice;
    }
