-- THE GRAMMAR IS EXACTLY THIS: a line that is not bad is typed as the exporter would type it (the other way round: Spelling).
-- Assumes nothing.
use mathlib.Core.Path.{◌≡◌, refl, sym, ap, ◌∙◌, subst}
use mathlib.Core.Logic.{◌⊎◌, inl, inr}
use mathlib.Core.Bool.{Bool, true, false, cond, ◌&&◌, true≢false, false≢true}
use mathlib.Core.List.{List, [], ◌∷◌, ◌++◌}
use Prim.Native.Nat.{ℕ, zero, suc, ◌-◌}
use borrow.Author.Tests.{eqb-true}
use lib.Dec.{eqb}
use lib.ListN.{length, drop}
use Rattle.paper.specs.Bytes.{letter_or_digit, starts, before, behind, onto, parts_on, parts}
use Rattle.paper.specs.Grammar.{bad, chance, by_and, at_least, is_name, is_number, value, is_row, row, equation_of, joined_of, counted_of, right_of, chance_of, line_of, and_word, or_word, comma, equals, at_least_word, in_word, blank, chance_word}
use Rattle.paper.specs.Spelling.{join, join_all, TypedRow, TypedLeast, Typed}
use Rattle.lines.specs.Reading.{Divides}
use Rattle.lines.proofs.Parts.{skip, drop_sep, parts_first}
use Rattle.lines.proofs.Names.{row_empty}
use Rattle.lines.proofs.Numbers.{number_none}
use Rattle.lines.proofs.Tests.{and_first, and_second}
use Rattle.lines.proofs.Judging.{and_divides, or_divides, comma_divides}

starts_split : (w l : List ℕ) → starts w l ≡ true → w ++ drop (length w) l ≡ l
unfolding starts
starts_split [] l h = refl
starts_split (a ∷ w) [] h = absurd (false≢true h)
starts_split (a ∷ w) (b ∷ l) h =
    let x = eqb-true a b (and_first (eqb a b) (starts w l) h) in
    let y = starts_split w l (and_second (eqb a b) (starts w l) h) in
    λ j. x j ∷ y j

-- ---- what stands before and behind a separator

cut_or_none : (sep l : List ℕ) → (behind sep l ≡ []) ⊎ (before sep l ++ (sep ++ behind sep l) ≡ l)
unfolding before behind
cut_or_none sep [] = inl refl
cut_or_none sep (b ∷ l) = go (starts sep (b ∷ l)) refl (cut_or_none sep l)
  where
    go : (t : Bool) → starts sep (b ∷ l) ≡ t → (behind sep l ≡ []) ⊎ (before sep l ++ (sep ++ behind sep l) ≡ l) → (cond t (drop (length sep) (b ∷ l)) (behind sep l) ≡ []) ⊎ (cond t [] (b ∷ before sep l) ++ (sep ++ cond t (drop (length sep) (b ∷ l)) (behind sep l)) ≡ b ∷ l)
    go true e w = inr (starts_split sep (b ∷ l) e)
    go false e (inl w) = inl w
    go false e (inr w) = inr (ap (λ m. b ∷ m) w)

-- ---- the parts, joined

join_onto : (sep : List ℕ) (b : ℕ) (ps : List (List ℕ)) → join_all sep (onto b ps) ≡ b ∷ join_all sep ps
unfolding join
join_onto sep b [] = refl
join_onto sep b (w ∷ []) = refl
join_onto sep b (w ∷ z ∷ zs) = refl

module _ {p : ℕ → Bool} {sep : List ℕ} (d : Divides p sep) where
  join_none : (k : ℕ) (l : List ℕ) → join_all sep ([] ∷ parts_on sep k l) ≡ sep ++ join_all sep (parts_on sep k l)
  unfolding join
  join_none k l = let e = skip d k l ∙ parts_first d (drop k l) in rw e refl

  pub parts_joined : (k : ℕ) (l : List ℕ) → join_all sep (parts_on sep k l) ≡ drop k l
  unfolding parts_on join
  parts_joined zero [] = refl
  parts_joined (suc k) [] = refl
  parts_joined zero (b ∷ l) = go (starts sep (b ∷ l)) refl (parts_joined (length sep - 1) l) (parts_joined zero l) (join_none (length sep - 1) l)
    where
      go : (t : Bool) → starts sep (b ∷ l) ≡ t → join_all sep (parts_on sep (length sep - 1) l) ≡ drop (length sep - 1) l → join_all sep (parts_on sep 0 l) ≡ l → join_all sep ([] ∷ parts_on sep (length sep - 1) l) ≡ sep ++ join_all sep (parts_on sep (length sep - 1) l) → join_all sep (cond t ([] ∷ parts_on sep (length sep - 1) l) (onto b (parts_on sep 0 l))) ≡ b ∷ l
      go true e x y z = z ∙ ap (λ m. sep ++ m) (x ∙ sym (drop_sep d b l)) ∙ starts_split sep (b ∷ l) e
      go false e x y z = join_onto sep b (parts_on sep 0 l) ∙ ap (λ m. b ∷ m) y
  parts_joined (suc k) (b ∷ l) = parts_joined k l

-- ---- lines

module _ (l : List ℕ) where
  chance_typed : (r : List ℕ) → chance_word ++ r ≡ l → Typed l (chance_of r)
  unfolding chance_of
  chance_typed r e = go (is_name (before blank r)) refl (is_number (behind blank r)) refl (cut_or_none blank r)
    where
      go : (t : Bool) → is_name (before blank r) ≡ t → (u : Bool) → is_number (behind blank r) ≡ u → (behind blank r ≡ []) ⊎ (before blank r ++ (blank ++ behind blank r) ≡ r) → Typed l (cond (t && u) (chance (before blank r) (value (behind blank r))) bad)
      go true x true y (inl z) = absurd (true≢false (sym y ∙ ap is_number z ∙ number_none))
      go true x true y (inr z) = record { digits = behind blank r; name = x; number = y; value_is = refl; is = sym e ∙ ap (λ m. chance_word ++ m) (sym z) }
      go true x false y z = tt
      go false x u y z = tt

  module _ (x : List ℕ) (n : is_name x ≡ true) (r : List ℕ) (whole : x ++ (equals ++ r) ≡ l) where
    row_typed : {sep : List ℕ} → Divides letter_or_digit sep → is_row sep r ≡ true → TypedRow l x sep (parts sep r)
    unfolding is_row
    row_typed {sep} d h = record { left = n; rights = h; is = sym whole ∙ ap (λ m. x ++ (equals ++ m)) (sym (parts_joined d 0 r)) }

    joined_typed : (t : Bool) → is_row or_word r ≡ t → (u : Bool) → is_row and_word r ≡ u → Typed l (joined_of x (cond t (parts or_word r) []) (cond u (parts and_word r) []))
    joined_typed true a u b = rw (parts_first or_divides r) (rw (parts_first or_divides r) at (row_typed or_divides a))
    joined_typed false a true b = rw (parts_first and_divides r) (rw (parts_first and_divides r) at (row_typed and_divides b))
    joined_typed false a false b = tt

    least_typed : (m : List ℕ) → at_least_word ++ m ≡ r → Typed l (counted_of x m)
    unfolding counted_of is_row
    least_typed m e = go (is_number (before in_word m)) refl (is_row comma (behind in_word m)) refl (cut_or_none in_word m)
      where
        go : (t : Bool) → is_number (before in_word m) ≡ t → (u : Bool) → is_row comma (behind in_word m) ≡ u → (behind in_word m ≡ []) ⊎ (before in_word m ++ (in_word ++ behind in_word m) ≡ m) → Typed l (cond t (equation_of x (at_least (value (before in_word m))) (cond u (parts comma (behind in_word m)) [])) bad)
        go true a true b (inl z) = absurd (true≢false (sym b ∙ ap (is_row comma) z ∙ row_empty comma))
        go true a true b (inr z) = rw (parts_first comma_divides (behind in_word m)) (rw (parts_first comma_divides (behind in_word m)) at (found a b z))
          where
            found : is_number (before in_word m) ≡ true → is_row comma (behind in_word m) ≡ true → before in_word m ++ (in_word ++ behind in_word m) ≡ m → TypedLeast l x (value (before in_word m)) (parts comma (behind in_word m))
            found a b z = record { digits = before in_word m; left = n; number = a; value_is = refl; rights = b; is = sym whole ∙ ap (λ k. x ++ (equals ++ k)) (sym e ∙ ap (λ k. at_least_word ++ k) (sym z ∙ ap (λ k. before in_word m ++ (in_word ++ k)) (sym (parts_joined comma_divides 0 (behind in_word m))))) }
        go true a false b z = tt
        go false a u b z = tt

    right_typed : Typed l (right_of x r)
    unfolding right_of
    right_typed = go (starts at_least_word r) refl
      where
        go : (t : Bool) → starts at_least_word r ≡ t → Typed l (cond t (counted_of x (drop 9 r)) (joined_of x (row or_word r) (row and_word r)))
        go true e = least_typed (drop 9 r) (starts_split at_least_word r e)
        go false e = joined_typed (is_row or_word r) refl (is_row and_word r) refl

  right_of_none : (x : List ℕ) → right_of x [] ≡ bad
  unfolding right_of starts
  right_of_none x = ap (λ u. joined_of x (cond u (parts or_word []) []) (row and_word [])) (row_empty or_word) ∙ ap (λ u. equation_of x by_and (cond u (parts and_word []) [])) (row_empty and_word)

  pub typed_line : Typed l (line_of l)
  unfolding line_of
  typed_line = go (starts chance_word l) refl (is_name (before equals l)) refl (cut_or_none equals l)
    where
      go : (t : Bool) → starts chance_word l ≡ t → (u : Bool) → is_name (before equals l) ≡ u → (behind equals l ≡ []) ⊎ (before equals l ++ (equals ++ behind equals l) ≡ l) → Typed l (cond t (chance_of (drop 2 l)) (cond u (right_of (before equals l) (behind equals l)) bad))
      go true e u a z = chance_typed (drop 2 l) (starts_split chance_word l e)
      go false e true a (inl z) = subst (Typed l) (sym (ap (right_of (before equals l)) z ∙ right_of_none (before equals l))) tt
      go false e true a (inr z) = right_typed (before equals l) a (behind equals l) z
      go false e false a z = tt
