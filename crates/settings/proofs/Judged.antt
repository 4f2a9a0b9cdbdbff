-- The judgement of a store is what the words say, and only that.
-- Assumes nothing.
use mathlib.Core.Path.{◌≡◌, refl, sym, ap, ap₂, ◌∙◌, subst}
use mathlib.Core.Logic.{◌⊎◌, inl, inr, ◌↔◌}
use mathlib.Core.Bool.{Bool, true, false, cond, ◌&&◌, true≢false, false≢true}
use mathlib.Core.List.{List, [], ◌∷◌, ◌++◌, nil≢cons, tail-eq_of_cons-eq}
use Prim.Native.Nat.{ℕ, zero, suc, ◌+◌, ◌*◌, ◌≤◌}
use native.Mathlib.Omega.{arith}
use lib.Dec.{leb, ltb, eqb}
use lib.ListN.{length, drop}
use borrow.Author.Tests.{ltb-true, ltb-false, leb-true, eqb-true, le-leb, lt-ltb, le-ltb, eq-eqb}
use Rattle.paper.specs.Answers.{Verdict}
use Rattle.paper.specs.Store.{Entry, entry_long, entry_of, entries, torn, well_formed, fault_of, accepted, refused_at, decide_on, judge_from, judge_store}
use Rattle.settings.specs.Judged.{Misformed, Right, Valid, edition_after, Faulty, misformed, out_of_range, FirstFault, faulty, ends_inside, Judged, fine, refused}

-- ---- one record

and_three : (a b c : Bool) → (a && (b && c)) ≡ true → (a ≡ true) × (b ≡ true) × (c ≡ true)
and_three true true c h = (refl, refl, h)
and_three true false c h = absurd (false≢true h)
and_three false b c h = absurd (false≢true h)

formed : (before : ℕ) (r : Entry) → well_formed before r ≡ true → (r.kind ≡ 0x31) × (r.state ≤ 2) × (before ≤ r.edition)
formed before r h =
    let (a, b, c) = and_three (eqb r.kind 0x31) (leb r.state 2) (leb before r.edition) h in
    (eqb-true r.kind 0x31 a, leb-true r.state 2 b, leb-true before r.edition c)

well : (before : ℕ) (r : Entry) → r.kind ≡ 0x31 → r.state ≤ 2 → before ≤ r.edition → well_formed before r ≡ true
well before r a b c = rw (eq-eqb r.kind 0x31 a, le-leb r.state 2 b, le-leb before r.edition c)

ill : (before : ℕ) (r : Entry) → Misformed before r → well_formed before r ≡ false
ill before r m = go (well_formed before r) refl
  where
    go : (b : Bool) → well_formed before r ≡ b → well_formed before r ≡ false
    go true h = let (x, y, z) = formed before r h in absurd (m x y z)
    go false h = h

ill_formed : (before : ℕ) (r : Entry) → well_formed before r ≡ false → Misformed before r
ill_formed before r h a b c = true≢false (sym (well before r a b c) ∙ h)

not_ill : (before : ℕ) (r : Entry) → (Misformed before r → ⊥) → well_formed before r ≡ true
not_ill before r m = go (well_formed before r) refl
  where
    go : (b : Bool) → well_formed before r ≡ b → well_formed before r ≡ true
    go true h = h
    go false h = absurd (m (ill_formed before r h))

right_none : (n before : ℕ) (r : Entry) → Right n before r → fault_of n before r ≡ 0
right_none n before r h = rw (well before r h.kind h.state h.rising, lt-ltb r.event n h.event)

faulty_is : (n before : ℕ) (r : Entry) (number : ℕ) → Faulty n before r number → fault_of n before r ≡ number
faulty_is n before r number (misformed m e) = rw (ill before r m) (sym e)
faulty_is n before r number (out_of_range m l e) = rw (not_ill before r m, le-ltb r.event n l) (sym e)

-- a record is right, or faulty with a number other than 0
pub entry_cases : (n before : ℕ) (r : Entry) → Right n before r ⊎ ((k : ℕ) × Faulty n before r (suc k))
entry_cases n before r = go (well_formed before r) refl (ltb r.event n) refl
  where
    go : (w : Bool) → well_formed before r ≡ w → (l : Bool) → ltb r.event n ≡ l → Right n before r ⊎ ((k : ℕ) × Faulty n before r (suc k))
    go false h l q = inr (23, misformed (ill_formed before r h) refl)
    go true h true q = let (a, b, c) = formed before r h in inl (record { kind = a; state = b; rising = c; event = ltb-true r.event n q })
    go true h false q = let (a, b, c) = formed before r h in inr (12, out_of_range (λ m. m a b c) (ltb-false r.event n q) refl)

-- ---- the judgement

-- right records before do not decide
pub judge_fore : (n at before : ℕ) (cut : Bool) (fore rs : List Entry) → Valid n before fore
    → judge_from n at before cut (fore ++ rs) ≡ judge_from n (at + entry_long * length fore) (edition_after before fore) cut rs
unfolding judge_from
judge_fore n at before cut [] rs h = ap (λ a. judge_from n a before cut rs) (omega arith)
judge_fore n at before cut (r ∷ fore) rs h =
    ap (λ k. decide_on k at (judge_from n (at + entry_long) r.edition cut (fore ++ rs))) (right_none n before r h.0)
    ∙ judge_fore n (at + entry_long) r.edition cut fore rs h.1
    ∙ ap (λ a. judge_from n a (edition_after r.edition fore) cut rs) (omega arith)

append_none : (rs : List Entry) → rs ++ [] ≡ rs
append_none [] = refl
append_none (r ∷ rs) = ap (r ∷◌) (append_none rs)

judge_all : (n at before : ℕ) (cut : Bool) (rs : List Entry) → Valid n before rs → judge_from n at before cut rs ≡ cond cut (refused_at 24 (at + entry_long * length rs)) accepted
unfolding judge_from
judge_all n at before cut rs h = ap (judge_from n at before cut) (sym (append_none rs)) ∙ judge_fore n at before cut rs [] h

-- what the words say is what is judged
pub judge_only : (n at before : ℕ) (cut : Bool) (rs : List Entry) (v : Verdict) → Judged n at before cut rs v → v ≡ judge_from n at before cut rs
unfolding judge_from
judge_only n at before cut rs v (fine c h e) = e ∙ sym (judge_all n at before cut rs h ∙ ap (λ b. cond b (refused_at 24 (at + entry_long * length rs)) accepted) c)
judge_only n at before cut rs v (refused number place f e) = e ∙ sym (go f)
  where
    decided : (k a : ℕ) (w : Verdict) (r : Entry) (b : ℕ) → fault_of n b r ≡ k → Faulty n b r k → decide_on k a w ≡ refused_at k a
    decided zero a w r b q (misformed m u) = absurd (let z : ◌≡◌ {A = ℕ} 0 24 = u in omega arith)
    decided zero a w r b q (out_of_range m l u) = absurd (let z : ◌≡◌ {A = ℕ} 0 13 = u in omega arith)
    decided (suc k) a w r b q f = refl

    first : (fore : List Entry) (r : Entry) (after : List Entry) → Valid n before fore → Faulty n (edition_after before fore) r number
        → judge_from n at before cut (fore ++ (r ∷ after)) ≡ refused_at number (at + entry_long * length fore)
    first fore r after h q =
        let p = at + entry_long * length fore in
        let b = edition_after before fore in
        let w = judge_from n (p + entry_long) r.edition cut after in
        judge_fore n at before cut fore (r ∷ after) h
        ∙ ap (λ k. decide_on k p w) (faulty_is n b r number q)
        ∙ decided number p w r b (faulty_is n b r number q) q

    go : FirstFault n at before cut rs number place → judge_from n at before cut rs ≡ refused_at number place
    go (faulty fore r after s h q p) = ap (judge_from n at before cut) s ∙ first fore r after h q ∙ ap (refused_at number) (sym p)
    go (ends_inside c h q p) = judge_all n at before cut rs h ∙ ap (λ b. cond b (refused_at 24 (at + entry_long * length rs)) accepted) c ∙ ap₂ refused_at (sym q) (sym p)

-- and what is judged is what the words say
pub judge_is : (n at before : ℕ) (cut : Bool) (rs : List Entry) → Judged n at before cut rs (judge_from n at before cut rs)
unfolding judge_from
judge_is n at before true [] = refused 24 at (ends_inside refl tt refl (omega arith)) refl
judge_is n at before false [] = fine refl tt refl
judge_is n at before cut (r ∷ rs) = one (entry_cases n before r) (judge_is n (at + entry_long) r.edition cut rs)
  where
    later : Verdict
    later = judge_from n (at + entry_long) r.edition cut rs

    behind : Right n before r → (number place : ℕ) → FirstFault n (at + entry_long) r.edition cut rs number place → FirstFault n at before cut (r ∷ rs) number place
    behind h number place (faulty fore x after s w q p) = faulty (r ∷ fore) x after (ap (r ∷◌) s) (h, w) q (omega (arith, p))
    behind h number place (ends_inside c w q p) = ends_inside c (h, w) q (omega (arith, p))

    with_right : Right n before r → Judged n (at + entry_long) r.edition cut rs later → Judged n at before cut (r ∷ rs) later
    with_right h (fine c w e) = fine c (h, w) e
    with_right h (refused number place f e) = refused number place (behind h number place f) e

    one : Right n before r ⊎ ((k : ℕ) × Faulty n before r (suc k)) → Judged n (at + entry_long) r.edition cut rs later
        → Judged n at before cut (r ∷ rs) (decide_on (fault_of n before r) at later)
    one (inl h) j = subst (λ k. Judged n at before cut (r ∷ rs) (decide_on k at later)) (sym (right_none n before r h)) (with_right h j)
    one (inr (k, f)) j = subst (λ i. Judged n at before cut (r ∷ rs) (decide_on i at later)) (sym (faulty_is n before r (suc k) f))
        (refused (suc k) at (faulty [] r rs refl tt f (omega arith)) refl)

-- THE JUDGEMENT: 0 for a store of right records; else the first faulty record's number and offset
pub store_judged : (n : ℕ) (bytes : List ℕ) → Judged n 0 0 (torn bytes) (entries bytes) (judge_store n bytes)
unfolding judge_store
store_judged n bytes = judge_is n 0 0 (torn bytes) (entries bytes)

pub store_only : (n : ℕ) (bytes : List ℕ) (v : Verdict) → Judged n 0 0 (torn bytes) (entries bytes) v → v ≡ judge_store n bytes
unfolding judge_store
store_only n bytes v j = judge_only n 0 0 (torn bytes) (entries bytes) v j

fault_number : (n at before : ℕ) (cut : Bool) (rs : List Entry) (number place : ℕ) → FirstFault n at before cut rs number place → (number ≡ 24) ⊎ (number ≡ 13)
fault_number n at before cut rs number place (faulty fore r after s h (misformed m e) p) = inl e
fault_number n at before cut rs number place (faulty fore r after s h (out_of_range m l e) p) = inr e
fault_number n at before cut rs number place (ends_inside c h q p) = inl q

-- no other number is given
pub store_numbers : (n : ℕ) (bytes : List ℕ) → (judge_store n bytes ≡ accepted) ⊎ (((judge_store n bytes).number ≡ 24) ⊎ ((judge_store n bytes).number ≡ 13))
store_numbers n bytes = go (store_judged n bytes)
  where
    go : Judged n 0 0 (torn bytes) (entries bytes) (judge_store n bytes) → (judge_store n bytes ≡ accepted) ⊎ (((judge_store n bytes).number ≡ 24) ⊎ ((judge_store n bytes).number ≡ 13))
    go (fine c h e) = inl e
    go (refused number place f e) = inr (pick (fault_number n 0 0 (torn bytes) (entries bytes) number place f))
      where
        pick : (number ≡ 24) ⊎ (number ≡ 13) → ((judge_store n bytes).number ≡ 24) ⊎ ((judge_store n bytes).number ≡ 13)
        pick (inl q) = inl (ap (λ v. v.number) e ∙ q)
        pick (inr q) = inr (ap (λ v. v.number) e ∙ q)

-- number 0 is all of an acceptance
pub number_zero : (n : ℕ) (bytes : List ℕ) → (judge_store n bytes).number ≡ 0 → judge_store n bytes ≡ accepted
number_zero n bytes z = go (store_numbers n bytes)
  where
    go : (judge_store n bytes ≡ accepted) ⊎ (((judge_store n bytes).number ≡ 24) ⊎ ((judge_store n bytes).number ≡ 13)) → judge_store n bytes ≡ accepted
    go (inl e) = e
    go (inr (inl e)) = absurd (omega arith)
    go (inr (inr e)) = absurd (omega arith)

-- accepted: exactly a store of whole right records
pub accepted_valid : (n : ℕ) (bytes : List ℕ) → (judge_store n bytes ≡ accepted) ↔ ((torn bytes ≡ false) × Valid n 0 (entries bytes))
accepted_valid n bytes = ((λ q. go q (store_judged n bytes)), (λ w. sym (store_only n bytes accepted (fine w.0 w.1 refl))))
  where
    never : (number : ℕ) → (number ≡ 24) ⊎ (number ≡ 13) → number ≡ 0 → ⊥
    never number (inl a) b = omega arith
    never number (inr a) b = omega arith

    go : judge_store n bytes ≡ accepted → Judged n 0 0 (torn bytes) (entries bytes) (judge_store n bytes) → (torn bytes ≡ false) × Valid n 0 (entries bytes)
    go q (fine c h e) = (c, h)
    go q (refused number place f e) = absurd (never number (fault_number n 0 0 (torn bytes) (entries bytes) number place f) (ap (λ v. v.number) (sym e ∙ q)))

-- ---- offsets

-- the place of a record is where its bytes begin
pub place_begins : (bytes : List ℕ) (fore rs : List Entry) → entries bytes ≡ fore ++ rs → entries (drop (entry_long * length fore) bytes) ≡ rs
unfolding entries
place_begins bytes [] rs h = ap (λ k. entries (drop k bytes)) (let e : entry_long * 0 ≡ 0 = omega arith in e) ∙ h
place_begins [] (r ∷ fore) rs h = absurd (nil≢cons h)
place_begins (k ∷ []) (r ∷ fore) rs h = absurd (nil≢cons h)
place_begins (k ∷ a ∷ []) (r ∷ fore) rs h = absurd (nil≢cons h)
place_begins (k ∷ a ∷ b ∷ []) (r ∷ fore) rs h = absurd (nil≢cons h)
place_begins (k ∷ a ∷ b ∷ c ∷ []) (r ∷ fore) rs h = absurd (nil≢cons h)
place_begins (k ∷ a ∷ b ∷ c ∷ d ∷ []) (r ∷ fore) rs h = absurd (nil≢cons h)
place_begins (k ∷ a ∷ b ∷ c ∷ d ∷ s ∷ bytes) (r ∷ fore) rs h =
    ap (λ m. entries (drop m (k ∷ a ∷ b ∷ c ∷ d ∷ s ∷ bytes))) (let e : entry_long * suc (length fore) ≡ suc (suc (suc (suc (suc (suc (entry_long * length fore)))))) = omega arith in e)
    ∙ place_begins bytes fore rs (tail-eq_of_cons-eq h)

-- whole records, and then others
pub entries_append : (x y : List ℕ) → torn x ≡ false → entries (x ++ y) ≡ entries x ++ entries y
unfolding entries torn
entries_append [] y h = refl
entries_append (k ∷ []) y h = absurd (true≢false h)
entries_append (k ∷ a ∷ []) y h = absurd (true≢false h)
entries_append (k ∷ a ∷ b ∷ []) y h = absurd (true≢false h)
entries_append (k ∷ a ∷ b ∷ c ∷ []) y h = absurd (true≢false h)
entries_append (k ∷ a ∷ b ∷ c ∷ d ∷ []) y h = absurd (true≢false h)
entries_append (k ∷ a ∷ b ∷ c ∷ d ∷ s ∷ x) y h = ap (entry_of k a b c d s ∷◌) (entries_append x y h)

pub torn_append : (x y : List ℕ) → torn x ≡ false → torn (x ++ y) ≡ torn y
unfolding torn
torn_append [] y h = refl
torn_append (k ∷ []) y h = absurd (true≢false h)
torn_append (k ∷ a ∷ []) y h = absurd (true≢false h)
torn_append (k ∷ a ∷ b ∷ []) y h = absurd (true≢false h)
torn_append (k ∷ a ∷ b ∷ c ∷ []) y h = absurd (true≢false h)
torn_append (k ∷ a ∷ b ∷ c ∷ d ∷ []) y h = absurd (true≢false h)
torn_append (k ∷ a ∷ b ∷ c ∷ d ∷ s ∷ x) y h = torn_append x y h
