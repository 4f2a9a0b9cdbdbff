-- ONE ANSWER TO EACH TEXT: at most one root, and two answers that a text allows are one.
-- Assumes nothing.
use mathlib.Core.Path.{◌≡◌, refl, sym, ap, ◌∙◌}
use mathlib.Core.Logic.{◌⊎◌, inl, inr, ◌↔◌}
use mathlib.Core.List.{List}
use Prim.Native.Nat.{ℕ, suc, ◌<◌}
use native.Mathlib.Omega.{arith}
use lib.ListN.{length}
use Rattle.paper.specs.Limits.{limits}
use Rattle.paper.specs.Lists.{In}
use Rattle.paper.specs.Texts.{Placed}
use Rattle.paper.specs.Equations.{dict_in, inputs_in, wrong_in, twice_in}
use Rattle.paper.specs.Walks.{LeadsBack, OneRoot}
use Rattle.paper.specs.Meaning.{tree_said}
use Rattle.paper.specs.Importing.{broken, Rooted, Says, wrong_line, name_twice, a_ring, not_one_root, beyond_limits, all_right}
use Rattle.meaning.specs.Said.{AllFilled}
use Rattle.records.specs.Flattened.{LawfulTree}
use Rattle.meaning.proofs.Whole.{said_lawful}

pub one_root : {g : ℕ → List ℕ} {n root other : ℕ} → OneRoot g n root → OneRoot g n other → root ≡ other
one_root {g} {n} {root} {other} a b = go (b.others root a.low)
  where
    go : (root ≡ other) ⊎ ((w : ℕ) × (w < n) × In root (g w)) → root ≡ other
    go (inl e) = e
    go (inr (w, l, h)) = absurd (a.top w l h)

module _ (ls : List Placed) where
  abbrev Ring : Type 0
  Ring = LeadsBack (inputs_in ls) (length (dict_in ls))

  abbrev Root : ℕ → Type 0
  Root = OneRoot (inputs_in ls) (length (dict_in ls))

  -- ---- an answer, one question after the other

  abbrev Rest : ℕ → ℕ → Type 0
  Rest a l = (l ≡ 0) × (((a ≡ 18) × ((root : ℕ) → Root root → ⊥)) ⊎ ((root : ℕ) × Root root × (a ≡ broken limits (tree_said ls root))))

  abbrev Placed-right : ℕ → ℕ → Type 0
  Placed-right a l = ((a ≡ 17) × (l ≡ 0) × Ring) ⊎ ((Ring → ⊥) × Rest a l)

  abbrev In-grammar : ℕ → ℕ → Type 0
  In-grammar a l = ((a ≡ 16) × (twice_in ls ≡ suc l)) ⊎ ((twice_in ls ≡ 0) × Placed-right a l)

  asked : (a l : ℕ) → Says ls a l → ((a ≡ 15) × (wrong_in ls ≡ suc l)) ⊎ ((wrong_in ls ≡ 0) × In-grammar a l)
  asked a l (wrong_line at e) = inl (refl, e)
  asked a l (name_twice at w e) = inr (w, inl (refl, e))
  asked a l (a_ring h b) = inr (h.right, inr (h.once, inl (refl, refl, b)))
  asked a l (not_one_root h b n) = inr (h.right, inr (h.once, inr (b, (refl, inl (refl, n)))))
  asked a l (beyond_limits root m h e) = inr (h.lines.right, inr (h.lines.once, inr (h.ringless, (refl, inr (root, h.one, sym e)))))
  asked a l (all_right root h e) = inr (h.lines.right, inr (h.lines.once, inr (h.ringless, (refl, inr (root, h.one, sym e)))))

  -- ---- two answers

  module _ (a l b m : ℕ) where
    abbrev Same : Type 0
    Same = (a ≡ b) × (l ≡ m)

    same_rest : Rest a l → Rest b m → Same
    same_rest (p, inl (e, n)) (q, inl (f, o)) = (e ∙ sym f, p ∙ sym q)
    same_rest (p, inl (e, n)) (q, inr (root, h, f)) = absurd (n root h)
    same_rest (p, inr (root, h, e)) (q, inl (f, n)) = absurd (n root h)
    same_rest (p, inr (root, h, e)) (q, inr (other, k, f)) = (e ∙ ap (λ z. broken limits (tree_said ls z)) (one_root h k) ∙ sym f, p ∙ sym q)

    same_placed : Placed-right a l → Placed-right b m → Same
    same_placed (inl (e, p, h)) (inl (f, q, k)) = (e ∙ sym f, p ∙ sym q)
    same_placed (inl (e, p, h)) (inr (n, s)) = absurd (n h)
    same_placed (inr (n, s)) (inl (f, q, k)) = absurd (n k)
    same_placed (inr (n, s)) (inr (o, t)) = same_rest s t

    same_grammar : In-grammar a l → In-grammar b m → Same
    same_grammar (inl (e, p)) (inl (f, q)) = let z : suc l ≡ suc m = sym p ∙ q in (e ∙ sym f, omega arith)
    same_grammar (inl (e, p)) (inr (q, s)) = let z : suc l ≡ 0 = sym p ∙ q in absurd (omega arith)
    same_grammar (inr (p, s)) (inl (f, q)) = let z : suc m ≡ 0 = sym q ∙ p in absurd (omega arith)
    same_grammar (inr (p, s)) (inr (q, t)) = same_placed s t

    same_asked : ((a ≡ 15) × (wrong_in ls ≡ suc l)) ⊎ ((wrong_in ls ≡ 0) × In-grammar a l) → ((b ≡ 15) × (wrong_in ls ≡ suc m)) ⊎ ((wrong_in ls ≡ 0) × In-grammar b m) → Same
    same_asked (inl (e, p)) (inl (f, q)) = let z : suc l ≡ suc m = sym p ∙ q in (e ∙ sym f, omega arith)
    same_asked (inl (e, p)) (inr (q, s)) = let z : suc l ≡ 0 = sym p ∙ q in absurd (omega arith)
    same_asked (inr (p, s)) (inl (f, q)) = let z : suc m ≡ 0 = sym q ∙ p in absurd (omega arith)
    same_asked (inr (p, s)) (inr (q, t)) = same_grammar s t

    same_says : Says ls a l → Says ls b m → Same
    same_says s t = same_asked (asked a l s) (asked b m t)

  -- ---- done

  -- DONE EXACTLY WHEN the text has one root, no ring, no wrong line and no left name twice, and its tree is lawful
  pub done_exactly : AllFilled ls → Says ls 0 0 ↔ ((root : ℕ) × Rooted ls root × LawfulTree limits (tree_said ls root))
  done_exactly f = (to, λ (root, r, t). all_right root r t.within)
    where
      rooted : (wrong_in ls ≡ 0) × In-grammar 0 0 → (root : ℕ) × Rooted ls root × LawfulTree limits (tree_said ls root)
      rooted (w, inl (e, p)) = absurd (omega arith)
      rooted (w, inr (o, inl (e, p, h))) = absurd (omega arith)
      rooted (w, inr (o, inr (n, (p, inl (e, q))))) = absurd (omega arith)
      rooted (w, inr (o, inr (n, (p, inr (root, h, e))))) =
          let r : Rooted ls root = record { lines = record { right = w; once = o }; ringless = n; one = h } in
          (root, r, said_lawful r f (sym e))

      first : (◌≡◌ {A = ℕ} 0 15 × (wrong_in ls ≡ suc 0)) ⊎ ((wrong_in ls ≡ 0) × In-grammar 0 0) → (root : ℕ) × Rooted ls root × LawfulTree limits (tree_said ls root)
      first (inl (e, p)) = absurd (omega arith)
      first (inr s) = rooted s

      to : Says ls 0 0 → (root : ℕ) × Rooted ls root × LawfulTree limits (tree_said ls root)
      to s = first (asked 0 0 s)

-- TWO ANSWERS that a text allows are one, in number and in line
pub says_once : {ls : List Placed} {a l b m : ℕ} → Says ls a l → Says ls b m → (a ≡ b) × (l ≡ m)
says_once {ls} {a} {l} {b} {m} s t = same_says ls a l b m s t
