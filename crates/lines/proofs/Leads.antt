-- The longest front of bytes that pass a test, by places of a list.
-- Assumes nothing.
use mathlib.Core.Path.{◌≡◌, refl, sym, ap, ◌∙◌}
use mathlib.Core.Bool.{Bool, true, false, cond}
use mathlib.Core.List.{List, [], ◌∷◌, ◌++◌}
use Prim.Native.Nat.{ℕ, suc, ◌+◌, ◌-◌, ◌<◌, ◌≤◌}
use native.Mathlib.Numerals.{add-one}
use native.Mathlib.Omega.{arith}
use lib.ListN.{get_or, length, take, drop, length-append, length-drop, drop_of_length-le}
use lib.Seq.{drop-cons, drop-drop, drop_at, take_at, length-take-le, get_or-take, get_or-drop}
use Rattle.std.specs.List.{prefix_len}
use Rattle.std.proofs.lemmas.List.{take_rest}
use Rattle.paper.specs.Lists.{every}
use Rattle.paper.specs.Bytes.{lead, past}
use Rattle.lines.specs.Reading.{Ends}

module _ (p : ℕ → Bool) where
  pub lead_yes : (b : ℕ) (l : List ℕ) → p b ≡ true → lead p (b ∷ l) ≡ b ∷ lead p l
  unfolding lead
  lead_yes b l h = rw h refl

  pub lead_no : (b : ℕ) (l : List ℕ) → p b ≡ false → lead p (b ∷ l) ≡ []
  unfolding lead
  lead_no b l h = rw h refl

  pub lead_none : lead p [] ≡ []
  unfolding lead
  lead_none = refl

  pub past_yes : (b : ℕ) (l : List ℕ) → p b ≡ true → past p (b ∷ l) ≡ past p l
  unfolding past
  past_yes b l h = rw h refl

  pub past_no : (b : ℕ) (l : List ℕ) → p b ≡ false → past p (b ∷ l) ≡ b ∷ l
  unfolding past
  past_no b l h = rw h refl

  pub past_none : past p [] ≡ []
  unfolding past
  past_none = refl

  -- a list is its front and what is behind
  pub lead_past : (l : List ℕ) → lead p l ++ past p l ≡ l
  unfolding lead past
  lead_past [] = refl
  lead_past (b ∷ l) = go (p b) (lead_past l)
    where
      go : (t : Bool) → lead p l ++ past p l ≡ l → cond t (b ∷ lead p l) [] ++ cond t (past p l) (b ∷ l) ≡ b ∷ l
      go true e = ap (λ m. b ∷ m) e
      go false e = refl

  pub lead_every : (l : List ℕ) → every p (lead p l) ≡ true
  unfolding lead
  lead_every [] = refl
  lead_every (b ∷ l) = go (p b) refl (lead_every l)
    where
      go : (t : Bool) → p b ≡ t → every p (lead p l) ≡ true → every p (cond t (b ∷ lead p l) []) ≡ true
      go true e h = rw e h
      go false e h = refl

  -- what is behind begins with a byte that does not pass
  pub past_first : (l : List ℕ) (b : ℕ) (m : List ℕ) → past p l ≡ b ∷ m → p b ≡ false
  unfolding past
  past_first [] b m e = let z : ◌≡◌ {A = ℕ} 0 1 = cc in absurd (omega arith)
  past_first (a ∷ l) b m e = go (p a) refl e (past_first l b m)
    where
      go : (t : Bool) → p a ≡ t → cond t (past p l) (a ∷ l) ≡ b ∷ m → (past p l ≡ b ∷ m → p b ≡ false) → p b ≡ false
      go true q h f = f h
      go false q h f = let z : a ≡ b = cc in rw z at q

  pub past_whole : (l : List ℕ) → past p l ≡ [] → lead p l ≡ l
  past_whole l h = sym (append_nil (lead p l)) ∙ ap (λ m. lead p l ++ m) (sym h) ∙ lead_past l
    where
      append_nil : (m : List ℕ) → m ++ [] ≡ m
      append_nil [] = refl
      append_nil (b ∷ m) = ap (λ r. b ∷ r) (append_nil m)

pub drop_at_end : (s : List ℕ) (e : ℕ) → length s ≤ e → drop e s ≡ []
drop_at_end s e h = drop_of_length-le s h

pub drop_next : (s : List ℕ) (e : ℕ) → e < length s → drop e s ≡ get_or s e 0 ∷ drop (e + 1) s
drop_next s e h = rw add-one (drop-cons s e 0 h)

-- the bytes that pass the library's test, counted
module _ {p q : ℕ → Bool} (tests : (b : ℕ) → p b ≡ q b) where
  lead_size : (l : List ℕ) → length (lead p l) ≡ prefix_len q l
  unfolding lead
  lead_size [] = refl
  lead_size (b ∷ l) = rw (tests b) (go (q b) (lead_size l))
    where
      go : (t : Bool) → length (lead p l) ≡ prefix_len q l → length (cond t (b ∷ lead p l) []) ≡ cond t (1 + prefix_len q l) 0
      go true e = omega (arith, e)
      go false e = refl

  pub ends_taken : (s : List ℕ) (i n : ℕ) → i ≤ length s → n ≡ prefix_len q (take (length s - i) (drop i s)) → Ends p s i (i + n)
  ends_taken s i n h k =
      let size : n ≡ length (lead p (drop i s)) = k ∙ ap (prefix_len q) (take_rest s i) ∙ sym (lead_size (drop i s)) in
      let rest : drop n (drop i s) ≡ past p (drop i s) = ap (λ k. drop k (drop i s)) size ∙ ap (drop (length (lead p (drop i s)))) (sym (lead_past p (drop i s))) ∙ drop_at (lead p (drop i s)) (past p (drop i s)) (length (lead p (drop i s))) refl in
      record {
        from = omega arith;
        inside = omega (arith, lead_room (drop i s), length-drop {A = ℕ});
        size = ap (λ k. i + k) size;
        rest = sym (drop-drop n i s) ∙ rest;
      }
    where
      lead_room : (l : List ℕ) → length (lead p l) ≤ length l
      lead_room l = omega (arith, ap length (lead_past p l), length-append (lead p l) (past p l))

module _ {p : ℕ → Bool} {s : List ℕ} where
  -- the front from i on, one byte after the other
  pub ends_here : {i e : ℕ} → Ends p s i e → i < e → p (get_or s i 0) ≡ true
  ends_here {i} {e} w h = go (p (get_or s i 0)) refl
    where
      go : (t : Bool) → p (get_or s i 0) ≡ t → p (get_or s i 0) ≡ true
      go true q = q
      go false q =
          let k = drop_next s i (omega (arith, w.inside)) in
          let z : length (lead p (drop i s)) ≡ 0 = rw (k, lead_no p (get_or s i 0) (drop (i + 1) s) q) refl in
          absurd (omega (arith, w.size))

  pub ends_front : {i e : ℕ} → Ends p s i e → i < e → lead p (drop i s) ≡ get_or s i 0 ∷ lead p (drop (i + 1) s)
  ends_front {i} {e} w h = rw (drop_next s i (omega (arith, w.inside))) (lead_yes p (get_or s i 0) (drop (i + 1) s) (ends_here w h))

  pub ends_next : {i e : ℕ} → Ends p s i e → i < e → Ends p s (i + 1) e
  ends_next {i} {e} w h = record {
    from = omega arith;
    inside = w.inside;
    size = let z : length (lead p (drop i s)) ≡ suc (length (lead p (drop (i + 1) s))) = ap length (ends_front w h) in omega (arith, w.size);
    rest = w.rest ∙ rw (drop_next s i (omega (arith, w.inside))) (past_yes p (get_or s i 0) (drop (i + 1) s) (ends_here w h));
  }

  pub ends_none : {i e : ℕ} → Ends p s i e → e ≤ i → lead p (drop i s) ≡ []
  ends_none {i} {e} w h = go (lead p (drop i s)) refl
    where
      go : (m : List ℕ) → lead p (drop i s) ≡ m → m ≡ []
      go [] q = refl
      go (b ∷ m) q = let z : length (lead p (drop i s)) ≡ suc (length m) = ap length q in absurd (omega (arith, w.size))

  -- it goes to the end of s
  pub ends_whole : {i e : ℕ} → Ends p s i e → length s ≤ e → lead p (drop i s) ≡ drop i s
  ends_whole {i} {e} w h = past_whole p (drop i s) (sym w.rest ∙ drop_at_end s e h)

  -- as a part of s
  pub ends_part : {i e : ℕ} → Ends p s i e → take (e - i) (drop i s) ≡ lead p (drop i s)
  ends_part {i} {e} w =
      let z : e - i ≡ length (lead p (drop i s)) = omega (arith, w.size) in
      ap (λ k. take k (drop i s)) z ∙ ap (take (length (lead p (drop i s)))) (sym (lead_past p (drop i s))) ∙ take_at (lead p (drop i s)) (past p (drop i s)) (length (lead p (drop i s))) refl

  -- and its bytes there
  module _ {i e : ℕ} (w : Ends p s i e) where
    pub slice_length : length (take (e - i) (drop i s)) ≡ e - i
    slice_length = length-take-le (e - i) (drop i s) (omega (arith, w.from, w.inside, length-drop i s))

    pub slice_inside : {k : ℕ} → k < length (take (e - i) (drop i s)) → i + k < e
    slice_inside h = omega (arith, slice_length)

    pub slice_byte : {k : ℕ} → k < length (take (e - i) (drop i s)) → get_or (take (e - i) (drop i s)) k 0 ≡ get_or s (i + k) 0
    slice_byte {k} h = get_or-take (e - i) (drop i s) k 0 (omega (arith, slice_length)) ∙ get_or-drop i s k 0
