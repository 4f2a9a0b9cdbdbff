-- The numbers gone and kept of two lists of cuts, cut by cut.
-- Assumes nothing.
use mathlib.Core.Path.{◌≡◌, refl, sym, ap, ap₂, ◌∙◌, subst}
use mathlib.Core.Logic.{◌⊎◌, inl, inr, if_neg}
use mathlib.Core.Bool.{Bool, true, false, not, cond}
use mathlib.Core.List.{List, [], ◌∷◌, List-discrete}
use Prim.Native.Nat.{ℕ, zero, suc, ◌+◌, ◌≤◌}
use native.Mathlib.Decide.{ℕ_discrete}
use native.Mathlib.Omega.{arith}
use lib.ListN.{length}
use Rattle.paper.specs.Lists.{In, keep}
use Rattle.algebra.proofs.Lists.{keep_same, in_has, has_in}
use Rattle.sidebyside.specs.Members.{Lt, Rows}
use Rattle.sidebyside.specs.Merging.{has_cut, gone_of, kept_of}
use Rattle.sidebyside.proofs.Lt.{lt_total, lt_irrefl, lt_trans, lt_not_eq, leads_first, leads_out}

-- ---- whether a cut stands in a list

pub cut_in : (c : List ℕ) (ms : List (List ℕ)) → In c ms → has_cut ms c ≡ true
unfolding has_cut
cut_in c ms k = in_has (List-discrete ℕ_discrete) c ms k

pub cut_found : (c : List ℕ) (ms : List (List ℕ)) → has_cut ms c ≡ true → In c ms
unfolding has_cut
cut_found c ms h = has_in (List-discrete ℕ_discrete) c ms h

cut_out : (c : List ℕ) (ms : List (List ℕ)) → (In c ms → ⊥) → has_cut ms c ≡ false
cut_out c ms n = go (has_cut ms c) refl
  where
    go : (b : Bool) → has_cut ms c ≡ b → has_cut ms c ≡ false
    go true e = absurd (n (cut_found c ms e))
    go false e = e

cut_skip : (c d : List ℕ) (ms : List (List ℕ)) → (c ≡ d → ⊥) → has_cut (d ∷ ms) c ≡ has_cut ms c
unfolding has_cut
cut_skip c d ms n = if_neg (List-discrete ℕ_discrete c d) n true (has_cut ms c)

keep_one : (p : List ℕ → Bool) (c : List ℕ) (l : List (List ℕ)) → p c ≡ true → length (keep p (c ∷ l)) ≡ suc (length (keep p l))
keep_one p c l e = ap (λ (b : Bool). length (cond b (c ∷ keep p l) (keep p l))) e

keep_no : (p : List ℕ → Bool) (c : List ℕ) (l : List (List ℕ)) → p c ≡ false → length (keep p (c ∷ l)) ≡ length (keep p l)
keep_no p c l e = ap (λ (b : Bool). length (cond b (c ∷ keep p l) (keep p l))) e

-- ---- a cut more on one side

module _ (ls : List (List ℕ)) (d : List ℕ) (ms : List (List ℕ)) (n : In d ls → ⊥) where
  apart : (c : List ℕ) → In c ls → c ≡ d → ⊥
  apart c k e = n (subst (λ (x : List ℕ). In x ls) e k)

  pub gone_skip : gone_of ls (d ∷ ms) ≡ gone_of ls ms
  unfolding gone_of
  gone_skip = ap length (keep_same (λ c. not (has_cut (d ∷ ms) c)) (λ c. not (has_cut ms c)) ls (λ c k. ap not (cut_skip c d ms (apart c k))))

  pub kept_skip : kept_of ls (d ∷ ms) ≡ kept_of ls ms
  unfolding kept_of
  kept_skip = ap length (keep_same (has_cut (d ∷ ms)) (has_cut ms) ls (λ c k. cut_skip c d ms (apart c k)))

  -- seen from the other list
  pub gone_more : gone_of (d ∷ ms) ls ≡ suc (gone_of ms ls)
  unfolding gone_of
  gone_more = keep_one (λ c. not (has_cut ls c)) d ms (ap not (cut_out d ls n))

  pub kept_more : kept_of (d ∷ ms) ls ≡ kept_of ms ls
  unfolding kept_of
  kept_more = keep_no (has_cut ls) d ms (cut_out d ls n)

-- ---- the same cut on both sides

module _ (c : List ℕ) (ls ms : List (List ℕ)) (n : In c ls → ⊥) where
  pub gone_both : gone_of (c ∷ ls) (c ∷ ms) ≡ gone_of ls ms
  unfolding gone_of
  gone_both = keep_no (λ x. not (has_cut (c ∷ ms) x)) c ls (ap not (cut_in c (c ∷ ms) (inl refl))) ∙ gone_skip ls c ms n

  pub kept_both : kept_of (c ∷ ls) (c ∷ ms) ≡ suc (kept_of ls ms)
  unfolding kept_of
  kept_both = keep_one (has_cut (c ∷ ms)) c ls (cut_in c (c ∷ ms) (inl refl)) ∙ ap suc (kept_skip ls c ms n)

-- ---- nothing on one side

pub gone_none : (ms : List (List ℕ)) → gone_of [] ms ≡ 0
unfolding gone_of
gone_none ms = refl

pub kept_none : (ms : List (List ℕ)) → kept_of [] ms ≡ 0
unfolding kept_of
kept_none ms = refl

pub gone_all : (ls : List (List ℕ)) → gone_of ls [] ≡ length ls
gone_all [] = gone_none []
gone_all (c ∷ ls) = gone_more [] c ls (λ k. absurd k) ∙ ap suc (gone_all ls)

pub kept_no : (ls : List (List ℕ)) → kept_of ls [] ≡ 0
kept_no [] = kept_none []
kept_no (c ∷ ls) = kept_more [] c ls (λ k. absurd k) ∙ kept_no ls

-- ---- GONE AND KEPT ARE ALL; what is kept of the one is kept of the other; equal exactly if none is gone and none new

pub gone_kept : (ls ms : List (List ℕ)) → gone_of ls ms + kept_of ls ms ≡ length ls
unfolding gone_of kept_of
gone_kept [] ms = refl
gone_kept (c ∷ ls) ms = go (has_cut ms c) refl (gone_kept ls ms)
  where
    go : (b : Bool) → has_cut ms c ≡ b → gone_of ls ms + kept_of ls ms ≡ length ls → gone_of (c ∷ ls) ms + kept_of (c ∷ ls) ms ≡ length (c ∷ ls)
    go true e h =
        let p = keep_no (λ x. not (has_cut ms x)) c ls (ap not e) in
        let q = keep_one (has_cut ms) c ls e in
        omega (arith, h, p, q)
    go false e h =
        let p = keep_one (λ x. not (has_cut ms x)) c ls (ap not e) in
        let q = keep_no (has_cut ms) c ls e in
        omega (arith, h, p, q)

-- none gone: each stands in the other
gone_in : (ls ms : List (List ℕ)) → gone_of ls ms ≡ 0 → (d : List ℕ) → In d ls → In d ms
unfolding gone_of
gone_in [] ms z d k = elim k [ ]
gone_in (c ∷ ls) ms z d k = go (has_cut ms c) refl k (λ q. gone_in ls ms q d)
  where
    go : (b : Bool) → has_cut ms c ≡ b → In d (c ∷ ls) → (gone_of ls ms ≡ 0 → In d ls → In d ms) → In d ms
    go true e (inl p) on = subst (λ (x : List ℕ). In x ms) (sym p) (cut_found c ms e)
    go true e (inr p) on = on (sym (keep_no (λ x. not (has_cut ms x)) c ls (ap not e)) ∙ z) p
    go false e p on = let q = keep_one (λ x. not (has_cut ms x)) c ls (ap not e) in absurd (omega (arith, q, z))

-- two lists in order with the same members are equal
same_rows : (ls ms : List (List ℕ)) → Rows ls → Rows ms → ((d : List ℕ) → In d ls → In d ms) → ((d : List ℕ) → In d ms → In d ls) → ls ≡ ms
same_rows [] [] r q f g = refl
same_rows [] (m ∷ ms) r q f g = absurd (g m (inl refl))
same_rows (l ∷ ls) [] r q f g = absurd (f l (inl refl))
same_rows (l ∷ ls) (m ∷ ms) r q f g =
    let e = heads (f l (inl refl)) (g m (inl refl)) in
    ap₂ (λ (x : List ℕ) (y : List (List ℕ)). x ∷ y) e (same_rows ls ms r.1 q.1 (λ d k. onward e d k (f d (inr k))) (λ d k. back e d k (g d (inr k))))
  where
    heads : In l (m ∷ ms) → In m (l ∷ ls) → l ≡ m
    heads (inl e) k = e
    heads (inr j) (inl e) = sym e
    heads (inr j) (inr k) = absurd (lt_irrefl l (lt_trans l m l (r.0 m k) (q.0 l j)))

    onward : l ≡ m → (d : List ℕ) → In d ls → In d (m ∷ ms) → In d ms
    onward e d k (inl p) = absurd (lt_not_eq l d (r.0 d k) (e ∙ sym p))
    onward e d k (inr p) = p

    back : l ≡ m → (d : List ℕ) → In d ms → In d (l ∷ ls) → In d ls
    back e d k (inl p) = absurd (lt_not_eq m d (q.0 d k) (sym e ∙ sym p))
    back e d k (inr p) = p

pub none_changed : (ls ms : List (List ℕ)) → Rows ls → Rows ms → gone_of ls ms ≡ 0 → gone_of ms ls ≡ 0 → ls ≡ ms
none_changed ls ms r q a b = same_rows ls ms r q (gone_in ls ms a) (gone_in ms ls b)

pub gone_self : (ls : List (List ℕ)) → Rows ls → gone_of ls ls ≡ 0
gone_self [] r = gone_none []
gone_self (c ∷ ls) r = gone_both c ls ls (leads_out c ls r.0) ∙ gone_self ls r.1

-- what is kept of the one is kept of the other
pub kept_flip : (n : ℕ) (ls ms : List (List ℕ)) → length ls + length ms ≤ n → Rows ls → Rows ms → kept_of ls ms ≡ kept_of ms ls
kept_flip n [] ms h r q = kept_none ms ∙ sym (kept_no ms)
kept_flip n (c ∷ ls) [] h r q = kept_no (c ∷ ls) ∙ sym (kept_none (c ∷ ls))
kept_flip zero (c ∷ ls) (d ∷ ms) h r q = absurd (omega arith)
kept_flip (suc n) (c ∷ ls) (d ∷ ms) h r q =
    go (lt_total c d) (kept_flip n ls (d ∷ ms) (omega arith) r.1 q) (kept_flip n (c ∷ ls) ms (omega arith) r q.1) (kept_flip n ls ms (omega arith) r.1 q.1)
  where
    go : Lt c d ⊎ ((c ≡ d) ⊎ Lt d c) → kept_of ls (d ∷ ms) ≡ kept_of (d ∷ ms) ls → kept_of (c ∷ ls) ms ≡ kept_of ms (c ∷ ls) → kept_of ls ms ≡ kept_of ms ls
        → kept_of (c ∷ ls) (d ∷ ms) ≡ kept_of (d ∷ ms) (c ∷ ls)
    go (inl e) a b x =
        let out = leads_out c (d ∷ ms) (leads_first c d ms e q.0) in
        kept_more (d ∷ ms) c ls out ∙ a ∙ sym (kept_skip (d ∷ ms) c ls out)
    go (inr (inr e)) a b x =
        let out = leads_out d (c ∷ ls) (leads_first d c ls e r.0) in
        kept_skip (c ∷ ls) d ms out ∙ b ∙ sym (kept_more (c ∷ ls) d ms out)
    go (inr (inl e)) a b x =
        let out : In c ms → ⊥ = subst (λ (z : List ℕ). In z ms → ⊥) (sym e) (leads_out d ms q.0) in
        ap (λ (z : List ℕ). kept_of (c ∷ ls) (z ∷ ms)) (sym e) ∙ kept_both c ls ms (leads_out c ls r.0) ∙ ap suc x
        ∙ sym (ap (λ (z : List ℕ). kept_of (z ∷ ms) (c ∷ ls)) (sym e) ∙ kept_both c ms ls out)
