-- The setting of an event: which record decides, and what later editions can't change.
-- Assumes nothing.
use mathlib.Core.Path.{◌≡◌, refl, sym, ap, ◌∙◌, subst, fun_ext}
use mathlib.Core.Logic.{inl, inr, ◌↔◌}
use mathlib.Core.Bool.{Bool, true, false, cond, ◌&&◌, false≢true}
use mathlib.Core.List.{List, [], ◌∷◌, ◌++◌}
use Prim.Native.Nat.{ℕ, ◌≤◌, ◌<◌}
use native.Mathlib.Omega.{arith}
use lib.Dec.{leb, eqb}
use borrow.Author.Tests.{leb-true, eqb-true, le-leb, lt-leb, eq-eqb}
use Rattle.paper.specs.Lists.{In}
use Rattle.paper.specs.Store.{State, free, state_of, Entry, entries, torn, accepted, judge_from, judge_store, speaks, setting_from, settings_of}
use Rattle.settings.specs.Judged.{Valid, edition_after}
use Rattle.settings.specs.States.{all_free, Added, none, same, above}
use Rattle.settings.proofs.Judged.{accepted_valid, entries_append, torn_append}

-- ---- the setting of an event

settings_append : (s : State) (asked e : ℕ) (rs more : List Entry) → setting_from s asked e (rs ++ more) ≡ setting_from (setting_from s asked e rs) asked e more
settings_append s asked e [] more = refl
settings_append s asked e (r ∷ rs) more = settings_append (cond (speaks asked e r) (state_of r.state) s) asked e rs more

settings_silent : (s : State) (asked e : ℕ) (rs : List Entry) → ((r : Entry) → In r rs → speaks asked e r ≡ false) → setting_from s asked e rs ≡ s
settings_silent s asked e [] h = refl
settings_silent s asked e (r ∷ rs) h =
    ap (λ b. setting_from (cond b (state_of r.state) s) asked e rs) (h r (inl refl)) ∙ settings_silent s asked e rs (λ x k. h x (inr k))

-- the test in words
pub speaks_law : (asked e : ℕ) (r : Entry) → (speaks asked e r ≡ true) ↔ ((r.edition ≤ asked) × (r.event ≡ e))
speaks_law asked e r = (
  (λ h. let (a, b) = both (leb r.edition asked) (eqb r.event e) h in (leb-true r.edition asked a, eqb-true r.event e b)),
  (λ w. rw (le-leb r.edition asked w.0, eq-eqb r.event e w.1)),
)
  where
    both : (a b : Bool) → (a && b) ≡ true → (a ≡ true) × (b ≡ true)
    both true b h = (refl, h)
    both false b h = absurd (false≢true h)

silent_above : (asked e : ℕ) (r : Entry) → asked < r.edition → speaks asked e r ≡ false
silent_above asked e r h = rw (lt-leb r.edition asked h)

-- THE LAST RECORD for the event at or before the asked edition decides
pub last_decides : (asked : ℕ) (bytes : List ℕ) (e : ℕ) (fore : List Entry) (r : Entry) (after : List Entry) → entries bytes ≡ fore ++ (r ∷ after)
    → r.edition ≤ asked → r.event ≡ e → ((x : Entry) → In x after → x.edition ≤ asked → x.event ≡ e → ⊥) → settings_of asked bytes e ≡ state_of r.state
unfolding settings_of
last_decides asked bytes e fore r after s h q no-later =
    ap (setting_from free asked e) s
    ∙ settings_append free asked e fore (r ∷ after)
    ∙ ap (λ b. setting_from (cond b (state_of r.state) (setting_from free asked e fore)) asked e after) ((speaks_law asked e r).1 (h, q))
    ∙ settings_silent (state_of r.state) asked e after (λ x k. go x k (speaks asked e x) refl)
  where
    go : (x : Entry) → In x after → (b : Bool) → speaks asked e x ≡ b → speaks asked e x ≡ false
    go x k true t = let (a, b) = (speaks_law asked e x).0 t in absurd (no-later x k a b)
    go x k false t = t

-- WITHOUT ONE the event is free
pub none_free : (asked : ℕ) (bytes : List ℕ) (e : ℕ) → ((x : Entry) → In x (entries bytes) → x.edition ≤ asked → x.event ≡ e → ⊥) → settings_of asked bytes e ≡ free
unfolding settings_of
none_free asked bytes e silent = settings_silent free asked e (entries bytes) (λ x k. go x k (speaks asked e x) refl)
  where
    go : (x : Entry) → In x (entries bytes) → (b : Bool) → speaks asked e x ≡ b → speaks asked e x ≡ false
    go x k true t = let (a, b) = (speaks_law asked e x).0 t in absurd (silent x k a b)
    go x k false t = t

-- THE EMPTY STORE is accepted, and all events are free
pub empty_accepted : (n : ℕ) → judge_store n [] ≡ accepted
unfolding judge_store judge_from torn entries
empty_accepted n = refl

pub empty_free : (asked : ℕ) → settings_of asked [] ≡ all_free
unfolding settings_of entries
empty_free asked = refl

-- an event of an accepted store that is forced is one of the tree's
pub forced_below : (n asked : ℕ) (bytes : List ℕ) (e : ℕ) → judge_store n bytes ≡ accepted → n ≤ e → settings_of asked bytes e ≡ free
forced_below n asked bytes e q l = none_free asked bytes e (λ x k a b. omega (arith, range (entries bytes) 0 ((accepted_valid n bytes).0 q).1 x k))
  where
    range : (rs : List Entry) (before : ℕ) → Valid n before rs → (x : Entry) → In x rs → x.event < n
    range [] before w x k = absurd k
    range (r ∷ rs) before w x (inl i) = subst (λ y. y.event < n) (sym i) w.0.event
    range (r ∷ rs) before w x (inr k) = range rs r.edition w.1 x k

-- ---- later editions

added_same : (asked : ℕ) (s : State) (e : ℕ) (rs more : List Entry) → Added asked rs more → setting_from s asked e rs ≡ setting_from s asked e more
added_same asked s e rs more none = refl
added_same asked s e rs more (same r {rs = xs} {more = ys} a) = added_same asked (cond (speaks asked e r) (state_of r.state) s) e xs ys a
added_same asked s e rs more (above r {rs = xs} {more = ys} l a) =
    added_same asked s e xs ys a ∙ ap (λ b. setting_from (cond b (state_of r.state) s) asked e ys) (sym (silent_above asked e r l))

earlier : (n before least : ℕ) (rs : List Entry) → least ≤ before → Valid n before rs → Valid n least rs
earlier n before least [] h w = tt
earlier n before least (r ∷ rs) h w = (record { kind = w.0.kind; state = w.0.state; rising = omega (arith, w.0.rising); event = w.0.event }, w.1)

-- where the store with more records is right, it is without them
pub added_valid : (n asked before : ℕ) (rs more : List Entry) → Added asked rs more → Valid n before more → Valid n before rs
added_valid n asked before rs more none w = tt
added_valid n asked before rs more (same r {rs = xs} {more = ys} a) w = (w.0, added_valid n asked r.edition xs ys a w.1)
added_valid n asked before rs more (above r {rs = xs} {more = ys} l a) w = earlier n r.edition before xs w.0.rising (added_valid n asked r.edition xs ys a w.1)

-- AN EDITION'S SETTINGS stay when records of editions above it are added, wherever they stand
pub settings_stay : (asked : ℕ) (old new : List ℕ) → Added asked (entries old) (entries new) → settings_of asked old ≡ settings_of asked new
unfolding settings_of
settings_stay asked old new a = fun_ext (λ e. added_same asked free e (entries old) (entries new) a)

-- so does the judgement: the larger store was accepted, and so is the smaller
pub judgement_stays : (n asked : ℕ) (old new : List ℕ) → torn old ≡ false → Added asked (entries old) (entries new) → judge_store n new ≡ accepted → judge_store n old ≡ accepted
judgement_stays n asked old new c a q = (accepted_valid n old).1 (c, added_valid n asked 0 (entries old) (entries new) a ((accepted_valid n new).0 q).1)

-- AT THE END: bytes of right records of editions above the asked one
kept_and_more : (asked : ℕ) (rs more : List Entry) → ((x : Entry) → In x more → asked < x.edition) → Added asked rs (rs ++ more)
kept_and_more asked [] [] h = none
kept_and_more asked [] (r ∷ more) h = above r (h r (inl refl)) (kept_and_more asked [] more (λ x k. h x (inr k)))
kept_and_more asked (r ∷ rs) more h = same r (kept_and_more asked rs more h)

valid_append : (n before : ℕ) (rs more : List Entry) → Valid n before rs → Valid n (edition_after before rs) more → Valid n before (rs ++ more)
valid_append n before [] more v w = w
valid_append n before (r ∷ rs) more v w = (v.0, valid_append n r.edition rs more v.1 w)

pub appended : (n asked : ℕ) (old more : List ℕ) → judge_store n old ≡ accepted → torn more ≡ false → Valid n (edition_after 0 (entries old)) (entries more)
    → ((x : Entry) → In x (entries more) → asked < x.edition) → (judge_store n (old ++ more) ≡ accepted) × (settings_of asked (old ++ more) ≡ settings_of asked old)
appended n asked old more q c w h =
    let (u, v) = (accepted_valid n old).0 q in
    let e : entries (old ++ more) ≡ entries old ++ entries more = entries_append old more u in (
      (accepted_valid n (old ++ more)).1 (torn_append old more u ∙ c, subst (Valid n 0) (sym e) (valid_append n 0 (entries old) (entries more) v w)),
      sym (settings_stay asked old (old ++ more) (subst (Added asked (entries old)) (sym e) (kept_and_more asked (entries old) (entries more) h))),
    )
