-- Every equation of a typed text has an input: no line of the grammar is without one.
-- Assumes nothing.
use mathlib.Core.Bool.{Bool, true, false, cond, ◌&&◌}
use mathlib.Core.List.{List, [], ◌∷◌}
use Prim.Native.Nat.{ℕ, ◌+◌}
use lib.ListN.{length, drop}
use Rattle.paper.specs.Bytes.{starts, before, behind, parts}
use Rattle.paper.specs.Grammar.{Line, bad, chance, Connective, by_and, at_least, is_name, is_number, value, row, equation_of, joined_of, counted_of, right_of, chance_of, line_of, and_word, or_word, comma, equals, at_least_word, in_word, blank, chance_word}
use Rattle.paper.specs.Texts.{line_feed, placed, lines_from, lines_of}
use Rattle.meaning.specs.Said.{Filled, AllFilled}

filled_cond : (t : Bool) (l m : Line) → Filled l → Filled m → Filled (cond t l m)
filled_cond true l m f h = f
filled_cond false l m f h = h

filled_equation : (x : List ℕ) (c : Connective) (ys : List (List ℕ)) → Filled (equation_of x c ys)
filled_equation x c [] = tt
filled_equation x c (y ∷ ys) = tt

filled_joined : (x : List ℕ) (ors ands : List (List ℕ)) → Filled (joined_of x ors ands)
filled_joined x [] ands = filled_equation x by_and ands
filled_joined x (y ∷ ors) ands = tt

filled_right : (x r : List ℕ) → Filled (right_of x r)
unfolding right_of counted_of
filled_right x r =
    filled_cond (starts at_least_word r) (counted_of x (drop 9 r)) (joined_of x (row or_word r) (row and_word r))
    (filled_cond (is_number (before in_word (drop 9 r))) (equation_of x (at_least (value (before in_word (drop 9 r)))) (row comma (behind in_word (drop 9 r)))) bad
    (filled_equation x (at_least (value (before in_word (drop 9 r)))) (row comma (behind in_word (drop 9 r)))) tt)
    (filled_joined x (row or_word r) (row and_word r))

filled_chance : (r : List ℕ) → Filled (chance_of r)
unfolding chance_of
filled_chance r = filled_cond (is_name (before blank r) && is_number (behind blank r)) (chance (before blank r) (value (behind blank r))) bad tt tt

pub line_is_filled : (l : List ℕ) → Filled (line_of l)
unfolding line_of
line_is_filled l =
    filled_cond (starts chance_word l) (chance_of (drop 2 l)) (cond (is_name (before equals l)) (right_of (before equals l) (behind equals l)) bad) (filled_chance (drop 2 l))
    (filled_cond (is_name (before equals l)) (right_of (before equals l) (behind equals l)) bad (filled_right (before equals l) (behind equals l)) tt)

placed_filled : (at : ℕ) (ps : List (List ℕ)) → AllFilled (placed at ps)
placed_filled at [] = tt
placed_filled at (l ∷ m ∷ ms) = (line_is_filled l, placed_filled (at + length l + 1) (m ∷ ms))
placed_filled at ((b ∷ l) ∷ []) = (tt, tt)
placed_filled at ([] ∷ []) = tt

pub typed_filled : (t : List ℕ) → AllFilled (lines_of t)
unfolding lines_of lines_from
typed_filled t = placed_filled 0 (parts line_feed t)
