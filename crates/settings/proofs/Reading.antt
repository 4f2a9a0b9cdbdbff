-- Reading a store record by record: what the judge and the settings keep on the way.
-- Assumes nothing.
use mathlib.Core.Path.{◌≡◌, refl, sym, ap, ap₂, ◌∙◌, subst, fun_ext}
use mathlib.Core.Logic.{◌≢◌, ◌⊎◌, inl, inr}
use mathlib.Core.Bool.{Bool, true, false, cond, ◌&&◌, true≢false}
use mathlib.Core.List.{List, [], ◌∷◌}
use Prim.Native.Nat.{ℕ, zero, suc, ◌+◌, ◌-◌, ◌≤◌, ◌<◌}
use native.Mathlib.Omega.{arith}
use native.Mathlib.Numerals.{add-one}
use lib.Dec.{leb, eqb}
use lib.ListN.{length, get_or, drop, set, replicate, length-drop, length-set}
use lib.Seq.{drop-cons, get_or-set_same, get_or-set_other}
use borrow.Author.Tests.{leb-true, leb-false, le-leb, lt-leb, le-ltb, lt-ltb, eq-eqb, ne_eqb, eqb-true, eqb-false}
use Rattle.paper.specs.Limits.{limits}
use Rattle.paper.specs.Answers.{Verdict}
use Rattle.paper.specs.Store.{state_of, Entry, entry_long, entry_at, entries, torn, fault_of, accepted, refused_at, decide_on, judge_from, judge_store, speaks, setting_from, settings_of}
use Rattle.settings.specs.Judged.{Valid}
use Rattle.settings.specs.States.{states_in, states_after, Gives}
use Rattle.settings.proofs.Judged.{accepted_valid}

-- ---- the records of what is left

module _ (b : List ℕ) where
  one : (i : ℕ) → i < length b → drop i b ≡ get_or b i 0 ∷ drop (i + 1) b
  one i h = drop-cons b i 0 h ∙ ap (λ k. get_or b i 0 ∷ drop k b) (sym (add-one i))

  from : (at i j : ℕ) → at + i < length b → i + 1 ≡ j → drop (at + i) b ≡ get_or b (at + i) 0 ∷ drop (at + j) b
  from at i j h q = one (at + i) h ∙ ap (λ k. get_or b (at + i) 0 ∷ drop k b) (let e : at + i + 1 ≡ at + j = omega arith in e)

  module _ (at : ℕ) (fits : at + entry_long ≤ length b) where
    six : drop at b ≡ get_or b at 0 ∷ get_or b (at + 1) 0 ∷ get_or b (at + 2) 0 ∷ get_or b (at + 3) 0 ∷ get_or b (at + 4) 0 ∷ get_or b (at + 5) 0 ∷ drop (at + 6) b
    six = one at (omega arith)
        ∙ ap (get_or b at 0 ∷◌) (from at 1 2 (omega arith) refl
        ∙ ap (get_or b (at + 1) 0 ∷◌) (from at 2 3 (omega arith) refl
        ∙ ap (get_or b (at + 2) 0 ∷◌) (from at 3 4 (omega arith) refl
        ∙ ap (get_or b (at + 3) 0 ∷◌) (from at 4 5 (omega arith) refl
        ∙ ap (get_or b (at + 4) 0 ∷◌) (from at 5 6 (omega arith) refl)))))

    entries_next : entries (drop at b) ≡ entry_at b at ∷ entries (drop (at + 6) b)
    unfolding entries
    entries_next = ap entries six

    torn_next : torn (drop at b) ≡ torn (drop (at + 6) b)
    unfolding torn
    torn_next = ap torn six

short_list : (xs : List ℕ) → 0 < length xs → length xs < entry_long → (entries xs ≡ []) × (torn xs ≡ true)
unfolding entries torn
short_list [] p h = absurd (omega arith)
short_list (k ∷ []) p h = (refl, refl)
short_list (k ∷ a ∷ []) p h = (refl, refl)
short_list (k ∷ a ∷ b ∷ []) p h = (refl, refl)
short_list (k ∷ a ∷ b ∷ c ∷ []) p h = (refl, refl)
short_list (k ∷ a ∷ b ∷ c ∷ d ∷ []) p h = (refl, refl)
short_list (k ∷ a ∷ b ∷ c ∷ d ∷ s ∷ xs) p h = absurd (omega arith)

no_list : (xs : List ℕ) → length xs ≡ 0 → xs ≡ []
no_list [] h = refl
no_list (x ∷ xs) h = absurd (omega arith)

short_drop : (b : List ℕ) (at : ℕ) → at < length b → length b - at < entry_long → (entries (drop at b) ≡ []) × (torn (drop at b) ≡ true)
short_drop b at l h = short_list (drop at b) (omega (arith, length-drop at b)) (omega (arith, length-drop at b))

end_drop : (b : List ℕ) (at : ℕ) → length b ≤ at → drop at b ≡ []
end_drop b at l = no_list (drop at b) (omega (arith, length-drop at b))

-- ---- a record's number

module _ (n before : ℕ) (r : Entry) where
  pub fault_kind : r.kind ≢ 0x31 → 24 ≡ fault_of n before r
  fault_kind h = rw (ne_eqb r.kind 0x31 h)

  pub fault_state : r.kind ≡ 0x31 → 2 < r.state → 24 ≡ fault_of n before r
  fault_state k h = rw (eq-eqb r.kind 0x31 k, lt-leb r.state 2 h)

  pub fault_falls : r.kind ≡ 0x31 → r.state ≤ 2 → r.edition < before → 24 ≡ fault_of n before r
  fault_falls k s h = rw (eq-eqb r.kind 0x31 k, le-leb r.state 2 s, lt-leb before r.edition h)

  pub fault_none : r.kind ≡ 0x31 → r.state ≤ 2 → before ≤ r.edition → r.event < n → 0 ≡ fault_of n before r
  fault_none k s h e = rw (eq-eqb r.kind 0x31 k, le-leb r.state 2 s, le-leb before r.edition h, lt-ltb r.event n e)

  pub fault_range : r.kind ≡ 0x31 → r.state ≤ 2 → before ≤ r.edition → n ≤ r.event → 13 ≡ fault_of n before r
  fault_range k s h e = rw (eq-eqb r.kind 0x31 k, le-leb r.state 2 s, le-leb before r.edition h, le-ltb r.event n e)

-- ---- judging

-- the records before `at` are right, the last of edition `before`
pub record Judging (n : ℕ) (b : List ℕ) (at before : ℕ) : Type 0 where
  pub same : judge_from n at before (torn (drop at b)) (entries (drop at b)) ≡ judge_store n b

pub judging_start : (n : ℕ) (b : List ℕ) → Judging n b 0 0
unfolding judge_store
judging_start n b = record { same = refl }

module _ {n : ℕ} {b : List ℕ} {at before : ℕ} (j : Judging n b at before) where
  pub judging_short : at < length b → length b - at < entry_long → refused_at 24 at ≡ judge_store n b
  unfolding judge_from
  judging_short l h =
      let (e, t) = short_drop b at l h in
      sym (ap₂ (judge_from n at before) t e) ∙ j.same

  pub judging_end : length b ≤ at → accepted ≡ judge_store n b
  unfolding judge_from torn entries
  judging_end l = sym (ap (λ xs. judge_from n at before (torn xs) (entries xs)) (end_drop b at l)) ∙ j.same

  step : at + entry_long ≤ length b
      → decide_on (fault_of n before (entry_at b at)) at (judge_from n (at + entry_long) (entry_at b at).edition (torn (drop (at + 6) b)) (entries (drop (at + 6) b))) ≡ judge_store n b
  unfolding judge_from
  step h = sym (ap₂ (judge_from n at before) (torn_next b at h) (entries_next b at h)) ∙ j.same

  pub judging_fault : {f : ℕ} → at + entry_long ≤ length b → f ≡ fault_of n before (entry_at b at) → f ≢ 0 → refused_at f at ≡ judge_store n b
  judging_fault {f} h q z = go f q z ∙ step h
    where
      go : (f : ℕ) → f ≡ fault_of n before (entry_at b at) → f ≢ 0
          → refused_at f at ≡ decide_on (fault_of n before (entry_at b at)) at (judge_from n (at + entry_long) (entry_at b at).edition (torn (drop (at + 6) b)) (entries (drop (at + 6) b)))
      go zero q z = absurd (z refl)
      go (suc f) q z = ap (λ k. decide_on k at (judge_from n (at + entry_long) (entry_at b at).edition (torn (drop (at + 6) b)) (entries (drop (at + 6) b)))) q

  pub judging_next : {f e : ℕ} → at + entry_long ≤ length b → f ≡ fault_of n before (entry_at b at) → f ≡ 0 → e ≡ (entry_at b at).edition → Judging n b (at + entry_long) e
  judging_next {f} {e} h q z r = record {
    same = ap (λ x. judge_from n (at + entry_long) x (torn (drop (at + 6) b)) (entries (drop (at + 6) b))) r
        ∙ ap (λ k. decide_on k at (judge_from n (at + entry_long) (entry_at b at).edition (torn (drop (at + 6) b)) (entries (drop (at + 6) b)))) (sym z ∙ q)
        ∙ step h;
  }

pub gives : {f p : ℕ} {v : Verdict} → refused_at f p ≡ v → Gives v f p
gives e = record { number_is = ap (λ v. v.number) e; place_is = ap (λ v. v.place) e }

-- ---- the settings

eqb_or : (a b : ℕ) → (a ≡ b) ⊎ (eqb a b ≡ false)
eqb_or a b = go (eqb a b) refl
  where
    go : (t : Bool) → eqb a b ≡ t → (a ≡ b) ⊎ (eqb a b ≡ false)
    go true q = inl (eqb-true a b q)
    go false q = inr q

-- the states so far, for what the records before `at` say
pub record Setting (n : ℕ) (b : List ℕ) (asked at : ℕ) (states : List ℕ) : Type 0 where
  pub long : length states ≡ limits.events
  pub whole : torn (drop at b) ≡ false
  pub before : ℕ
  pub valid : Valid n before (entries (drop at b))
  pub same : (e : ℕ) → setting_from (state_of (get_or states e 0)) asked e (entries (drop at b)) ≡ settings_of asked b e

zeros : (k e : ℕ) → get_or {A = ℕ} (replicate k 0) e 0 ≡ 0
zeros zero e = refl
zeros (suc k) zero = refl
zeros (suc k) (suc e) = zeros k e

pub setting_start : {n : ℕ} (b : List ℕ) (asked : ℕ) {states : List ℕ} → judge_store n b ≡ accepted → states ≡ replicate limits.events 0 → length states ≡ limits.events → Setting n b asked 0 states
unfolding settings_of
setting_start {n} b asked {states} q z l =
    let (t, v) = (accepted_valid n b).0 q in
    record { long = l; whole = t; before = 0; valid = v; same = λ e. ap (λ x. setting_from (state_of x) asked e (entries b)) (ap (λ xs. get_or xs e 0) z ∙ zeros limits.events e) }

module _ {n : ℕ} {b : List ℕ} {asked at : ℕ} {states : List ℕ} (w : Setting n b asked at states) where
  -- a whole record stands there
  pub setting_fits : at < length b → at + entry_long ≤ length b
  setting_fits l = go (leb (at + entry_long) (length b)) refl
    where
      go : (x : Bool) → leb (at + entry_long) (length b) ≡ x → at + entry_long ≤ length b
      go true q = leb-true (at + entry_long) (length b) q
      go false q = absurd (true≢false (sym (short_drop b at l (omega (arith, leb-false (at + entry_long) (length b) q))).1 ∙ w.whole))

  module _ (l : at < length b) where
    fits : at + entry_long ≤ length b
    fits = setting_fits l

    valid_next : Valid n w.before (entry_at b at ∷ entries (drop (at + 6) b))
    valid_next = subst (Valid n w.before) (entries_next b at fits) w.valid

    pub setting_event : n ≤ limits.events → (entry_at b at).event < limits.events
    setting_event k = omega (arith, valid_next.0.event)

    here : (e : ℕ) → setting_from (cond (speaks asked e (entry_at b at)) (state_of (entry_at b at).state) (state_of (get_or states e 0))) asked e (entries (drop (at + 6) b)) ≡ settings_of asked b e
    here e = sym (ap (setting_from (state_of (get_or states e 0)) asked e) (entries_next b at fits)) ∙ w.same e

    -- a record above the asked edition
    pub setting_above : asked < (entry_at b at).edition → Setting n b asked (at + entry_long) states
    setting_above h = record {
      long = w.long;
      whole = sym (torn_next b at fits) ∙ w.whole;
      before = (entry_at b at).edition;
      valid = valid_next.1;
      same = λ e. sym (ap (λ x. setting_from (cond x (state_of (entry_at b at).state) (state_of (get_or states e 0))) asked e (entries (drop (at + 6) b)))
          (ap (λ x. x && eqb (entry_at b at).event e) (lt-leb (entry_at b at).edition asked h))) ∙ here e;
    }

    -- one that speaks
    pub setting_at : (entry_at b at).edition ≤ asked → {i x : ℕ} → i ≡ (entry_at b at).event → x ≡ (entry_at b at).state → i < length states → Setting n b asked (at + entry_long) (set states i x)
    setting_at h {i} {x} p q r = record {
      long = length-set states i x ∙ w.long;
      whole = sym (torn_next b at fits) ∙ w.whole;
      before = (entry_at b at).edition;
      valid = valid_next.1;
      same = λ e. ap (λ y. setting_from y asked e (entries (drop (at + 6) b))) (go e (eqb_or (entry_at b at).event e)) ∙ here e;
    }
      where
        go : (e : ℕ) → ((entry_at b at).event ≡ e) ⊎ (eqb (entry_at b at).event e ≡ false)
            → state_of (get_or (set states i x) e 0) ≡ cond (speaks asked e (entry_at b at)) (state_of (entry_at b at).state) (state_of (get_or states e 0))
        go e (inl s) = rw (le-leb (entry_at b at).edition asked h, eq-eqb (entry_at b at).event e s)
            (ap state_of (ap (λ k. get_or (set states i x) k 0) (sym (p ∙ s)) ∙ get_or-set_same states i x 0 r ∙ q))
        go e (inr s) = rw (le-leb (entry_at b at).edition asked h, s)
            (ap state_of (get_or-set_other states i e x 0 (λ k. eqb-false (entry_at b at).event e s (sym p ∙ sym k))))

    -- either
    pub setting_next : n ≤ limits.events → {states' : List ℕ} → states' ≡ states_after asked (entry_at b at) states → Setting n b asked (at + entry_long) states'
    setting_next k {states'} q = go (leb (entry_at b at).edition asked) refl
      where
        go : (x : Bool) → leb (entry_at b at).edition asked ≡ x → Setting n b asked (at + entry_long) states'
        go true h = subst (Setting n b asked (at + entry_long)) (sym (q ∙ ap (λ y. cond y (set states (entry_at b at).event (entry_at b at).state) states) h))
            (setting_at (leb-true (entry_at b at).edition asked h) refl refl (let l = w.long in omega (arith, setting_event k)))
        go false h = subst (Setting n b asked (at + entry_long)) (sym (q ∙ ap (λ y. cond y (set states (entry_at b at).event (entry_at b at).state) states) h))
            (setting_above (leb-false (entry_at b at).edition asked h))

  pub setting_end : length b ≤ at → states_in states ≡ settings_of asked b
  unfolding entries
  setting_end l = fun_ext (λ e. sym (ap (λ xs. setting_from (state_of (get_or states e 0)) asked e (entries xs)) (end_drop b at l)) ∙ w.same e)

-- ---- one record taken

pub taken_above : {asked : ℕ} (r : Entry) {xs : List ℕ} → asked < r.edition → xs ≡ states_after asked r xs
taken_above {asked} r h = rw (lt-leb r.edition asked h)

pub taken_at : {asked : ℕ} (r : Entry) (xs : List ℕ) {i x : ℕ} → r.edition ≤ asked → i ≡ r.event → x ≡ r.state → set xs i x ≡ states_after asked r xs
taken_at {asked} r xs h p q = rw (le-leb r.edition asked h) (ap₂ (set xs) p q)
