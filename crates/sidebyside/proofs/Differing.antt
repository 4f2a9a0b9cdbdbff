-- THE COMPARISON that computes is the one that the contracts promise.
-- Assumes nothing.
use mathlib.Core.Path.{◌≡◌, refl, sym, ap, ◌∙◌, subst, fun_ext}
use mathlib.Core.Logic.{◌⊎◌, inl, inr}
use mathlib.Core.Bool.{Bool, true, false, cond, not, true≢false, false≢true}
use mathlib.Core.List.{List, [], ◌∷◌, ◌++◌, append_assoc, append-nil, List-discrete}
use Prim.Native.Nat.{ℕ, ◌+◌}
use native.Mathlib.Decide.{ℕ_discrete}
use Rattle.std.specs.Prelude.{Ok, Err}
use native.Mathlib.Omega.{arith}
use lib.ListN.{length, length-append}
use Rattle.paper.specs.Lists.{In, keep}
use Rattle.paper.specs.Bytes.{same}
use Rattle.paper.specs.Listing.{cut_bytes}
use Rattle.paper.specs.GoodListing.{Good}
use Rattle.algebra.proofs.Lists.{bool_iff, in_has, has_in}
use Rattle.sidebyside.specs.Members.{Lt, Leads, cuts_bytes, Held}
use Rattle.sidebyside.specs.Finding.{Finds, shown}
use Rattle.sidebyside.specs.Merging.{Tallies, has_cut, gone_of, kept_of}
use Rattle.sidebyside.specs.Judge.{cuts_of, before, judge}
use Rattle.sidebyside.specs.Differing.{differ, difference_of, among, gone_by, kept_by, numbers_of}
use Rattle.sidebyside.specs.declared.Side.TheVariants.{Yesterday, Today}
use Rattle.sidebyside.proofs.Lt.{lt_total, rows_split}
use Rattle.sidebyside.proofs.Coding.{cuts_nil, cuts_cons, cuts_append}
use Rattle.sidebyside.proofs.Telling.{held_good}
use Rattle.sidebyside.proofs.Finding.{first_alone, first_lower, shows_at}
use Rattle.sidebyside.proofs.Merging.{held_counts}
use Rattle.sidebyside.proofs.Judge.{either, or_left, or_right, bytes_same, same_self, before_so, before_is, judge_held, judge_so, judge_is}

-- neither stands before the other
same_cut : (c d : List ℕ) → before c d ≡ false → before d c ≡ false → c ≡ d
same_cut c d p q = go (lt_total c d)
  where
    go : Lt c d ⊎ ((c ≡ d) ⊎ Lt d c) → c ≡ d
    go (inl l) = absurd (true≢false (sym (before_is c d l) ∙ p))
    go (inr (inl e)) = e
    go (inr (inr l)) = absurd (true≢false (sym (before_is d c l) ∙ q))

first_leads : (c : List ℕ) (ps ls : List (List ℕ)) {s : List ℕ} → Held s (ps ++ (c ∷ ls)) → Leads c ls
first_leads c ps ls h = (rows_split ps (c ∷ ls) h.rows).0.0

one_more : (c : List ℕ) (ps : List (List ℕ)) {at : ℕ} → at ≡ length (cuts_bytes ps) → at + length (cut_bytes c) ≡ length (cuts_bytes (ps ++ (c ∷ [])))
one_more c ps e =
    let a = ap length (cuts_append ps (c ∷ [])) ∙ length-append (cuts_bytes ps) (cuts_bytes (c ∷ [])) in
    let b = ap length (cuts_cons c [] ∙ ap (λ (t : List ℕ). cut_bytes c ++ t) cuts_nil ∙ append-nil (cut_bytes c)) in
    omega (arith, a, b, e)

-- behind the same cuts
differs : (ps ls ms : List (List ℕ)) {y t : List ℕ} {at : ℕ} → at ≡ length (cuts_bytes ps) → Held y (ps ++ ls) → Held t (ps ++ ms) → Finds y t (Ok (differ at ls ms))
unfolding differ
differs ps [] [] e h k = (held_good h, h.bytes ∙ sym k.bytes)
differs ps (c ∷ ls) [] e h k = shows_at c ps ls [] e refl h k (first_alone c ls (first_leads c ps ls h))
differs ps [] (d ∷ ms) e h k = shows_at d ps ms [] e refl k h (first_alone d ms (first_leads d ps ms k))
differs ps (c ∷ ls) (d ∷ ms) {y} {t} {at} e h k = go (before c d) refl (before d c) refl
    (λ same. differs (ps ++ (c ∷ [])) ls ms (one_more c ps e) (subst (λ (x : List (List ℕ)). Held y x) (sym (append_assoc ps (c ∷ []) ls)) h)
    (subst (λ (x : List (List ℕ)). Held t x) (sym (append_assoc ps (c ∷ []) ms)) (subst (λ (x : List ℕ). Held t (ps ++ (x ∷ ms))) (sym same) k)))
  where
    go : (b : Bool) → before c d ≡ b → (a : Bool) → before d c ≡ a → (c ≡ d → Finds y t (Ok (differ (at + length (cut_bytes c)) ls ms)))
        → Finds y t (Ok (cond b (shown Yesterday at (at + length (cut_bytes c))) (cond a (shown Today at (at + length (cut_bytes d))) (differ (at + length (cut_bytes c)) ls ms))))
    go true p a q r = shows_at c ps ls (d ∷ ms) e refl h k (first_lower c d ls ms (first_leads c ps ls h) (first_leads d ps ms k) (before_so c d p))
    go false p true q r = shows_at d ps ms (c ∷ ls) e refl k h (first_lower d c ms ls (first_leads d ps ms k) (first_leads c ps ls h) (before_so d c q))
    go false p false q r = r (same_cut c d p q)

-- a listing that the judge refuses is bad
judge_bad : (s : List ℕ) → judge s ≡ false → Good s → ⊥
judge_bad s q g = true≢false (sym (judge_is s g) ∙ q)

pub finds_computed : (y t : List ℕ) → Finds y t (difference_of y t)
unfolding difference_of
finds_computed y t = go (judge y) refl (judge t) refl
  where
    go : (a : Bool) → judge y ≡ a → (b : Bool) → judge t ≡ b → Finds y t (cond a (cond b (Ok (differ 0 (cuts_of y) (cuts_of t))) (Err Today)) (Err Yesterday))
    go false p b q = judge_bad y p
    go true p false q = (judge_so y p, judge_bad t q)
    go true p true q = differs [] (cuts_of y) (cuts_of t) (ap length (sym cuts_nil)) (judge_held y p) (judge_held t q)

-- ---- the numbers

among_in : (l : List (List ℕ)) (c : List ℕ) → among l c ≡ true → In c l
unfolding among
among_in [] c h = absurd (false≢true h)
among_in (d ∷ l) c h = go (either (same c d) (among l c) h) (among_in l c)
  where
    go : (same c d ≡ true) ⊎ (among l c ≡ true) → (among l c ≡ true → In c l) → In c (d ∷ l)
    go (inl p) r = inl (bytes_same c d p)
    go (inr p) r = inr (r p)

in_among : (l : List (List ℕ)) (c : List ℕ) → In c l → among l c ≡ true
unfolding among
in_among [] c k = elim k [ ]
in_among (d ∷ l) c (inl e) = or_left (same c d) (among l c) (subst (λ (x : List ℕ). same c x ≡ true) e (same_self c))
in_among (d ∷ l) c (inr k) = or_right (same c d) (among l c) (in_among l c k)

among_has : (l : List (List ℕ)) → among l ≡ has_cut l
unfolding has_cut
among_has l = fun_ext (λ c. bool_iff (among l c) (has_cut l c) (λ h. in_has (List-discrete ℕ_discrete) c l (among_in l c h)) (λ h. in_among l c (has_in (List-discrete ℕ_discrete) c l h)))

gone_by_lem : (k l : List (List ℕ)) → gone_by k l ≡ gone_of k l
unfolding gone_by gone_of
gone_by_lem k l = ap (λ (p : List ℕ → Bool). length (keep (λ c. not (p c)) k)) (among_has l)

kept_by_lem : (k l : List (List ℕ)) → kept_by k l ≡ kept_of k l
unfolding kept_by kept_of
kept_by_lem k l = ap (λ (p : List ℕ → Bool). length (keep p k)) (among_has l)

pub tallies_computed : (y t : List ℕ) → Tallies y t (numbers_of y t)
unfolding numbers_of
tallies_computed y t = go (judge y) refl (judge t) refl
  where
    go : (a : Bool) → judge y ≡ a → (b : Bool) → judge t ≡ b
        → Tallies y t (cond a (cond b (Ok (record { gone = gone_by (cuts_of y) (cuts_of t); new = gone_by (cuts_of t) (cuts_of y); kept = kept_by (cuts_of y) (cuts_of t) })) (Err Today)) (Err Yesterday))
    go false p b q = judge_bad y p
    go true p false q = (judge_so y p, judge_bad t q)
    go true p true q = held_counts (judge_held y p) (judge_held t q) (gone_by_lem (cuts_of y) (cuts_of t)) (gone_by_lem (cuts_of t) (cuts_of y)) (kept_by_lem (cuts_of y) (cuts_of t))
