-- A TEXT HAS ROOM FOR ITS INPUTS: all names together have at most as many inputs as the text has bytes.
-- Assumes nothing.
use mathlib.Core.Path.{◌≡◌, refl, sym, ap, ◌∙◌}
use mathlib.Core.Logic.{◌⊎◌, inl, inr}
use mathlib.Core.Bool.{Bool, true, false, cond, true≢false}
use mathlib.Core.List.{List, [], ◌∷◌, ◌++◌}
use Prim.Native.Nat.{ℕ, zero, suc, ◌+◌, ◌-◌, ◌<◌, ◌≤◌}
use native.Mathlib.Omega.{arith}
use lib.ListN.{length, length-append}
use Rattle.paper.specs.Lists.{every}
use Rattle.paper.specs.Bytes.{starts, onto, parts_on, parts}
use Rattle.paper.specs.Grammar.{Line, bad, chance, equation, by_or, by_and, at_least, is_name, line_of, equals, at_least_word, in_word, comma, or_word, and_word}
use Rattle.paper.specs.Spelling.{join, join_all, Typed}
use Rattle.paper.specs.Texts.{Placed, says, line_feed, placed, lines_from, lines_of}
use Rattle.paper.specs.Equations.{has, dict_in, name_in, left_of, rights_of, line_in, inputs_in}
use Rattle.scanning.specs.Scanning.{Gathered}
use Rattle.scanning.specs.Filling.{up_to}
use Rattle.lines.proofs.Tests.{and_first, and_second}
use Rattle.lines.proofs.Names.{name_none}
use Rattle.lines.proofs.Only.{typed_line}
use Rattle.names.proofs.Dicts.{same_yes}
use Rattle.scanning.proofs.Known.{name_in_lem}
use Rattle.scanning.proofs.Equations.{has_one, has_none}
use Rattle.scanning.proofs.Filling.{length_numbers}

-- ---- a line has more bytes than right names

name_some : (w : List ℕ) → is_name w ≡ true → 1 ≤ length w
name_some [] h = absurd (true≢false (sym h ∙ name_none))
name_some (b ∷ w) h = omega arith

join_long : (sep y : List ℕ) (ys : List (List ℕ)) → every is_name (y ∷ ys) ≡ true → length (y ∷ ys) ≤ length (join sep y ys)
unfolding join
join_long sep y [] h = name_some y (and_first (is_name y) true h)
join_long sep y (z ∷ ys) h =
    let a = name_some y (and_first (is_name y) (every is_name (z ∷ ys)) h) in
    let b = join_long sep z ys (and_second (is_name y) (every is_name (z ∷ ys)) h) in
    let e = length-append y (sep ++ join sep z ys) in
    let f = length-append sep (join sep z ys) in
    omega arith

all_long : (sep : List ℕ) (ys : List (List ℕ)) → every is_name ys ≡ true → length ys ≤ length (join_all sep ys)
all_long sep [] h = omega arith
all_long sep (y ∷ ys) h = join_long sep y ys h

-- what stands behind something is no longer than the whole
behind_long : (a b c : List ℕ) → length c ≤ length (a ++ (b ++ c))
behind_long a b c = let e = length-append a (b ++ c) in let f = length-append b c in omega arith

row_long : (l x sep : List ℕ) (ys : List (List ℕ)) → every is_name ys ≡ true → l ≡ x ++ (equals ++ join_all sep ys) → length ys ≤ length l
row_long l x sep ys h e = let a = all_long sep ys h in let b = behind_long x equals (join_all sep ys) in let c = ap length e in omega arith

rights_long : (l : List ℕ) (L : Line) → Typed l L → length (rights_of L) ≤ length l
rights_long l bad t = omega arith
rights_long l (chance x n) t = omega arith
rights_long l (equation x by_or ys) t = row_long l x or_word ys t.rights t.is
rights_long l (equation x by_and ys) t = row_long l x and_word ys t.rights t.is
rights_long l (equation x (at_least n) ys) t =
    let a = all_long comma ys t.rights in
    let b = behind_long t.digits in_word (join_all comma ys) in
    let c = behind_long equals at_least_word (t.digits ++ (in_word ++ join_all comma ys)) in
    let d = length-append x (equals ++ (at_least_word ++ (t.digits ++ (in_word ++ join_all comma ys)))) in
    let e = ap length t.is in
    omega arith

-- ---- so has a text

-- the right names of all lines
abbrev rights_in : List Placed → ℕ
rights_in [] = 0
rights_in (says at l ∷ ls) = length (rights_of l) + rights_in ls

abbrev bytes_in : List (List ℕ) → ℕ
bytes_in [] = 0
bytes_in (l ∷ ms) = length l + bytes_in ms

placed_long : (at : ℕ) (ps : List (List ℕ)) → rights_in (placed at ps) ≤ bytes_in ps
placed_long at [] = omega arith
placed_long at (l ∷ m ∷ ms) = let a = rights_long l (line_of l) (typed_line l) in let b = placed_long (at + length l + 1) (m ∷ ms) in omega arith
placed_long at ((b ∷ l) ∷ []) = omega arith
placed_long at ([] ∷ []) = omega arith

onto_bytes : (b : ℕ) (ps : List (List ℕ)) → bytes_in (onto b ps) ≤ suc (bytes_in ps)
onto_bytes b [] = omega arith
onto_bytes b (w ∷ ws) = omega arith

parts_bytes : (sep : List ℕ) (k : ℕ) (l : List ℕ) → bytes_in (parts_on sep k l) ≤ length l
unfolding parts_on
parts_bytes sep k [] = omega arith
parts_bytes sep zero (b ∷ l) = go (starts sep (b ∷ l)) (parts_bytes sep (length sep - 1) l) (parts_bytes sep zero l)
  where
    go : (t : Bool) → bytes_in (parts_on sep (length sep - 1) l) ≤ length l → bytes_in (parts_on sep zero l) ≤ length l → bytes_in (cond t ([] ∷ parts_on sep (length sep - 1) l) (onto b (parts_on sep zero l))) ≤ suc (length l)
    go true x y = omega arith
    go false x y = let z = onto_bytes b (parts_on sep zero l) in omega arith
parts_bytes sep (suc k) (b ∷ l) = let z = parts_bytes sep k l in omega arith

text_long : (text : List ℕ) → rights_in (lines_of text) ≤ length text
unfolding lines_of lines_from
text_long text = let a = placed_long 0 (parts line_feed text) in let b = parts_bytes line_feed 0 text in omega arith

-- ---- each line is the first one of at most one name

left_one : (l : Line) (v w : List ℕ) → has v (left_of l) ≡ true → has w (left_of l) ≡ true → v ≡ w
left_one bad v w a b = absurd (true≢false (sym a ∙ has_none v))
left_one (chance x n) v w a b = absurd (true≢false (sym a ∙ has_none v))
left_one (equation x c ys) v w a b = same_yes v x (sym (has_one v x) ∙ a) ∙ sym (same_yes w x (sym (has_one w x) ∙ b))

module _ (name : ℕ → List ℕ) (c : ℕ) (once : (j k : ℕ) → j < c → k < c → name j ≡ name k → j ≡ k) where
  -- the right names of the first x names' lines
  rights : List Placed → ℕ → ℕ
  rights ls zero = 0
  rights ls (suc x) = rights ls x + length (rights_of (line_in (name x) ls))

  -- the line is the first of none of the first x names, or of one
  hits : Line → ℕ → ℕ
  hits l zero = 0
  hits l (suc x) = hits l x + cond (has (name x) (left_of l)) (length (rights_of l)) 0

  Hit : Line → ℕ → Type 0
  Hit l x = (k : ℕ) × (k < x) × (has (name k) (left_of l) ≡ true)

  hits_one : (l : Line) (x : ℕ) → x ≤ c → (hits l x ≡ 0) ⊎ (Hit l x × (hits l x ≤ length (rights_of l)))
  unfolding hits Hit
  hits_one l zero h = inl refl
  hits_one l (suc x) h = go (has (name x) (left_of l)) refl (hits_one l x (omega arith))
    where
      go : (t : Bool) → has (name x) (left_of l) ≡ t → (hits l x ≡ 0) ⊎ (Hit l x × (hits l x ≤ length (rights_of l))) → (hits l x + cond t (length (rights_of l)) 0 ≡ 0) ⊎ (Hit l (suc x) × (hits l x + cond t (length (rights_of l)) 0 ≤ length (rights_of l)))
      go false e (inl z) = inl (omega arith)
      go false e (inr z) = inr ((z.0.0, (let y = z.0.1 in omega arith), z.0.2), let y = z.1 in omega arith)
      go true e (inl z) = inr ((x, omega arith, e), omega arith)
      go true e (inr z) = let y : z.0.0 < x = z.0.1 in let w = once z.0.0 x (omega arith) (omega arith) (left_one l (name z.0.0) (name x) z.0.2 e) in absurd (omega arith)

  hits_low : (l : Line) → hits l c ≤ length (rights_of l)
  hits_low l = go (hits_one l c (omega arith))
    where
      go : (hits l c ≡ 0) ⊎ (Hit l c × (hits l c ≤ length (rights_of l))) → hits l c ≤ length (rights_of l)
      go (inl z) = omega arith
      go (inr z) = z.1

  rights_split : (at : ℕ) (l : Line) (ls : List Placed) (x : ℕ) → rights (says at l ∷ ls) x ≤ hits l x + rights ls x
  unfolding rights hits
  rights_split at l ls zero = omega arith
  rights_split at l ls (suc x) = go (has (name x) (left_of l)) (rights_split at l ls x)
    where
      go : (t : Bool) → rights (says at l ∷ ls) x ≤ hits l x + rights ls x → rights (says at l ∷ ls) x + length (rights_of (cond t l (line_in (name x) ls))) ≤ (hits l x + cond t (length (rights_of l)) 0) + (rights ls x + length (rights_of (line_in (name x) ls)))
      go true h = omega arith
      go false h = omega arith

  rights_none : (x : ℕ) → rights [] x ≡ 0
  unfolding rights
  rights_none zero = refl
  rights_none (suc x) = let z = rights_none x in omega arith

  rights_low : (ls : List Placed) → rights ls c ≤ rights_in ls
  rights_low [] = let z = rights_none c in omega arith
  rights_low (says at l ∷ ls) = let a = rights_split at l ls c in let b = hits_low l in let d = rights_low ls in omega arith

  rights_are : (ls : List Placed) (g : ℕ → List ℕ) → ((x : ℕ) → length (g x) ≡ length (rights_of (line_in (name x) ls))) → (x : ℕ) → length (up_to g x) ≡ rights ls x
  unfolding rights
  rights_are ls g h zero = refl
  rights_are ls g h (suc x) = let a = length-append (up_to g x) (g x) in let b = rights_are ls g h x in let e = h x in omega arith

inputs_long : (ls : List Placed) (n : ℕ) → length (inputs_in ls n) ≡ length (rights_of (line_in (name_in ls n) ls))
unfolding inputs_in
inputs_long ls n = length_numbers (dict_in ls) (rights_of (line_in (name_in ls n) ls))

-- THE BOUND
pub inputs_fit : {text N H X : List ℕ} {c : ℕ} → Gathered text N H X c → length (up_to (inputs_in (lines_of text)) c) ≤ length text
inputs_fit {text} {N} {H} {X} {c} g =
    let once : (j k : ℕ) → j < c → k < c → name_in (lines_of text) j ≡ name_in (lines_of text) k → j ≡ k = λ j k h m e. g.store.unique j k h m (name_in_lem g j h ∙ e ∙ sym (name_in_lem g k m)) in
    let a = rights_are (name_in (lines_of text)) c once (lines_of text) (inputs_in (lines_of text)) (inputs_long (lines_of text)) c in
    let b = rights_low (name_in (lines_of text)) c once (lines_of text) in
    let d = text_long text in
    omega arith
