-- The inputs as flat arrays: rows, names, and all.
-- Assumes nothing.
use mathlib.Core.Path.{◌≡◌, refl, sym, ap, ◌∙◌, subst}
use mathlib.Core.Bool.{Bool, true, false, cond, ◌||◌, false≢true}
use Rattle.std.specs.Prelude.{Option, Some, None, IsSome}
use mathlib.Core.List.{List, [], ◌∷◌, ◌++◌, append_assoc}
use Prim.Native.Nat.{ℕ, zero, suc, ◌+◌, ◌<◌, ◌≤◌}
use native.Mathlib.Decide.{dec_lt}
use native.Mathlib.Numerals.{add-one}
use native.Mathlib.Omega.{arith}
use lib.ListN.{get_or, length, take, drop, set, length-set, length-append}
use lib.Seq.{slice, get_or-set_same, get_or-set_other, take-suc-set, length-take-le, take-append_seam, drop_at, get_or-take}
use Rattle.paper.specs.Lists.{every}
use Rattle.paper.specs.Bytes.{same, parts}
use Rattle.paper.specs.Texts.{lines_of}
use Rattle.paper.specs.Equations.{has, number_of, numbers, dict_in, name_in, rights_of, line_in, inputs_in}
use Rattle.lines.specs.Reading.{name_at, Steps}
use Rattle.lines.specs.declared.Kind.{Kind}
use Rattle.lines.specs.declared.Kind.TheVariants.{Chance}
use Rattle.names.specs.Interning.{Hit, Sought}
use Rattle.scanning.specs.Scanning.{RowAt, Gathered}
use Rattle.scanning.specs.Judged.{Site, Places, ReadsOf}
use Rattle.scanning.specs.Filling.{up_to, Put, Flat}
use Rattle.lines.proofs.Parts.{append_none}
use Rattle.lines.proofs.Tests.{and_first, and_second}
use Rattle.scanning.proofs.Known.{count_in, sought_some, sought_number}
use Rattle.scanning.proofs.Rows.{RowLeft, left_start, left_row, RowNext, left_turn, Equates, rights_is}
use Rattle.scanning.proofs.Sites.{rights_known}

-- ---- a row

pub length_numbers : (D ys : List (List ℕ)) → length (numbers D ys) ≡ length ys
length_numbers D [] = refl
length_numbers D (y ∷ ys) = ap suc (length_numbers D ys)

pub record FillingRow (text : List ℕ) (D : List (List ℕ)) (stop : ℕ) (sep : List ℕ) (i : ℕ) (I₀ : List ℕ) (used : ℕ) (I : List ℕ) (u j : ℕ) : Type 0 where
  pub left : List (List ℕ)
  pub state : RowLeft text stop sep j left
  pub known : every (λ y. has y D) left ≡ true
  pub inside : u ≤ length I
  pub long : length I ≡ length I₀
  pub flat : take u I ++ numbers D left ≡ take used I₀ ++ numbers D (parts sep (drop i (take stop text)))

pub fill_start : {text : List ℕ} {D : List (List ℕ)} {stop : ℕ} {sep : List ℕ} {i : ℕ} {I : List ℕ} {used : ℕ} → RowAt text stop sep i → every (λ y. has y D) (parts sep (drop i (take stop text))) ≡ true → used + length (parts sep (drop i (take stop text))) ≤ length I → FillingRow text D stop sep i I used I used i
fill_start {text} {D} {stop} {sep} {i} r k l = record {
  left = parts sep (drop i (take stop text));
  state = left_start r;
  known = k;
  inside = omega arith;
  long = refl;
  flat = refl;
}

module _ {text N H X : List ℕ} {c stop : ℕ} {sep : List ℕ} {i : ℕ} {I₀ : List ℕ} {used : ℕ} {I : List ℕ} {u j : ℕ} (t : Gathered text N H X c) (r : RowAt text stop sep i) (g : FillingRow text (dict_in (lines_of text)) stop sep i I₀ used I u j) where
  abbrev D : List (List ℕ)
  D = dict_in (lines_of text)

  pub fill_here : j < stop → RowAt text stop sep j
  fill_here h = left_row r g.state h

  module _ {j' : ℕ} (h : j < stop) (s : Steps sep (take stop text) j j') where
    the_next : RowNext text stop sep j j' g.left
    the_next = left_turn r g.state h s

    its_known : has (name_at text j) D ≡ true
    its_known = and_first (has (name_at text j) D) (every (λ y. has y D) the_next.rest) (rw the_next.is at g.known)

    pub fill_room : used + length (parts sep (drop i (take stop text))) ≤ length I₀ → u < length I
    fill_room k =
        let a : length (take u I ++ numbers D g.left) ≡ length (take u I) + length (numbers D g.left) = length-append (take u I) (numbers D g.left) in
        let b : length (take used I₀ ++ numbers D (parts sep (drop i (take stop text)))) ≡ length (take used I₀) + length (numbers D (parts sep (drop i (take stop text)))) = length-append (take used I₀) (numbers D (parts sep (drop i (take stop text)))) in
        let e = ap length g.flat in
        let x = length-take-le u I g.inside in
        let y = length-take-le used I₀ (omega arith) in
        let z : length (numbers D g.left) ≡ suc (length (numbers D the_next.rest)) = ap (λ m. length (numbers D m)) the_next.is in
        let w = length_numbers D (parts sep (drop i (take stop text))) in
        omega (arith, g.long)

    pub fill_some : (o : Option ℕ) → Sought text N c (name_at text j) o → IsSome o
    fill_some o q = sought_some t (name_at text j) o q its_known

    module _ {f : ℕ} (q : Hit text N c (name_at text j) f) where
      pub fill_turn : u < length I → FillingRow text D stop sep i I₀ used (set I u f) (u + 1) j'
      fill_turn room = record {
        left = the_next.rest;
        state = the_next.state;
        known = and_second (has (name_at text j) D) (every (λ y. has y D) the_next.rest) (rw the_next.is at g.known);
        inside = simp length-set (omega arith);
        long = length-set I u f ∙ g.long;
        flat = ap (λ m. m ++ numbers D the_next.rest) (ap (λ k. take k (set I u f)) (add-one u) ∙ take-suc-set I u f room) ∙ append_assoc (take u I) (f ∷ []) (numbers D the_next.rest) ∙ ap (λ v. take u I ++ (v ∷ numbers D the_next.rest)) (sought_number t q) ∙ ap (λ m. take u I ++ numbers D m) (sym the_next.is) ∙ g.flat;
      }

  pub fill_end : stop ≤ j → Put (numbers D (parts sep (drop i (take stop text)))) I₀ used I u
  fill_end h = record {
    inside = g.inside;
    is = sym (append_none (take u I)) ∙ ap (λ m. take u I ++ numbers D m) (sym (g.state.done h)) ∙ g.flat;
  }

-- ---- a name

module _ {text F : List ℕ} {n : ℕ} (s : Site text F n) where
  inputs_are : {ys : List (List ℕ)} → rights_of (line_in (name_in (lines_of text) n) (lines_of text)) ≡ ys → inputs_in (lines_of text) n ≡ numbers (dict_in (lines_of text)) ys
  unfolding inputs_in
  inputs_are e = ap (numbers (dict_in (lines_of text))) e

  module _ {I : List ℕ} {used : ℕ} (room : used + length (inputs_in (lines_of text) n) ≤ length I) where
    put_none : rights_of (line_in (name_in (lines_of text) n) (lines_of text)) ≡ [] → Put (inputs_in (lines_of text) n) I used I used
    put_none e = record { inside = omega arith; is = sym (ap (λ m. take used I ++ m) (inputs_are e) ∙ append_none (take used I)) }

    module _ {kind : Option Kind} {stop : ℕ} (r : ReadsOf text F n kind stop) where
      pub bad_put : kind ≡ None → Put (inputs_in (lines_of text) n) I used I used
      bad_put e = put_none (ap rights_of (rw e at r.reads))

      pub chance_put : {v : ℕ} → kind ≡ Some (Chance v) → Put (inputs_in (lines_of text) n) I used I used
      chance_put e = put_none (ap rights_of (rw e at r.reads).is)

  -- the equation over the names ys
  module _ {sep : List ℕ} {ys : List (List ℕ)} (q : Equates (line_in (name_in (lines_of text) n) (lines_of text)) (name_in (lines_of text) n) sep ys) where
    pub inputs_of : inputs_in (lines_of text) n ≡ numbers (dict_in (lines_of text)) ys
    inputs_of = inputs_are (rights_is q)

    pub size_of : length (inputs_in (lines_of text) n) ≡ length ys
    size_of = ap length inputs_of ∙ length_numbers (dict_in (lines_of text)) ys

    pub known_of : every (λ y. has y (dict_in (lines_of text))) ys ≡ true
    known_of = sym (ap (every (λ y. has y (dict_in (lines_of text)))) (rights_is q)) ∙ rights_known s

-- ---- all names

pub record FillingAll (g : ℕ → List ℕ) (c : ℕ) (S I : List ℕ) (used n : ℕ) : Type 0 where
  pub long : c < length S
  pub upto : n ≤ c
  pub inside : used ≤ length I
  pub starts : (x : ℕ) → x ≤ n → get_or S x 0 ≡ length (up_to g x)
  pub is : take used I ≡ up_to g n

pub filling_start : {g : ℕ → List ℕ} {c : ℕ} {I : List ℕ} (S : List ℕ) → c < length S → FillingAll g c (set S 0 0) I 0 0
filling_start {g} {c} {I} S h = record {
  long = simp length-set h;
  upto = omega arith;
  inside = omega arith;
  starts = λ x l. let e : x ≡ 0 = omega arith in subst (λ k. get_or (set S 0 0) k 0 ≡ length (up_to g k)) (sym e) (get_or-set_same S 0 0 0 (omega arith));
  is = refl;
}

upto_mono : (g : ℕ → List ℕ) (n c : ℕ) → n ≤ c → length (up_to g n) ≤ length (up_to g c)
upto_mono g n zero h = let e : n ≡ 0 = omega arith in subst (λ k. length (up_to g k) ≤ 0) (sym e) (omega arith)
upto_mono g n (suc c) h = go (dec_lt c n) (upto_mono g n c) (length-append (up_to g c) (g c))
  where
    go : Dec (c < n) → (n ≤ c → length (up_to g n) ≤ length (up_to g c)) → length (up_to g c ++ g c) ≡ length (up_to g c) + length (g c) → length (up_to g n) ≤ length (up_to g c ++ g c)
    go (yes q) f e = let z : n ≡ suc c = omega arith in subst (λ k. length (up_to g k) ≤ length (up_to g (suc c))) (sym z) (omega arith)
    go (no q) f e = let z = f (omega arith) in omega arith

module _ {g : ℕ → List ℕ} {c : ℕ} {S I : List ℕ} {used n : ℕ} (a : FillingAll g c S I used n) (h : n < c) where
  so_far : used ≡ length (up_to g n)
  so_far = sym (length-take-le used I a.inside) ∙ ap length a.is

  pub filling_turn : {I' : List ℕ} {u : ℕ} → Put (g n) I used I' u → FillingAll g c (set S (n + 1) u) I' u (n + 1)
  filling_turn {I'} {u} p =
      let e : take u I' ≡ up_to g (n + 1) = p.is ∙ ap (λ m. m ++ g n) a.is ∙ ap (up_to g) (sym (add-one n)) in
      let size : u ≡ length (up_to g (n + 1)) = sym (length-take-le u I' p.inside) ∙ ap length e in
      record {
        long = simp length-set a.long;
        upto = omega arith;
        inside = p.inside;
        starts = λ x l. go x l size (dec_lt n x);
        is = e;
      }
    where
      go : (x : ℕ) → x ≤ n + 1 → u ≡ length (up_to g (n + 1)) → Dec (n < x) → get_or (set S (n + 1) u) x 0 ≡ length (up_to g x)
      go x l size (yes q) = let z : x ≡ n + 1 = omega arith in subst (λ k. get_or (set S (n + 1) u) k 0 ≡ length (up_to g k)) (sym z) (get_or-set_same S (n + 1) u 0 (omega (arith, a.long)) ∙ size)
      go x l size (no q) = get_or-set_other S (n + 1) x u 0 (omega arith) ∙ a.starts x (omega arith)

  next_size : used + length (g n) ≤ length (up_to g c)
  next_size =
      let x = so_far in
      let y = upto_mono g (suc n) c h in
      let z = length-append (up_to g n) (g n) in
      omega arith

  pub filling_room : length (up_to g c) ≤ length I → used + length (g n) ≤ length I
  filling_room k = let x = next_size in omega arith

  pub filling_small : {I' : List ℕ} {u : ℕ} → Put (g n) I used I' u → u ≤ length (up_to g c)
  filling_small {I'} {u} p =
      let x = next_size in
      let y = length-take-le u I' p.inside in
      let z = length-take-le used I a.inside in
      let e = ap length p.is ∙ length-append (take used I) (g n) in
      omega arith

pub filling_end : {g : ℕ → List ℕ} {c : ℕ} {S I : List ℕ} {used n : ℕ} → FillingAll g c S I used n → c ≤ n → Flat g c S I used
filling_end {g} {c} {S} {I} {used} {n} a h =
    let e : n ≡ c = omega (arith, a.upto) in record {
      long = a.long;
      inside = a.inside;
      starts = λ x l. a.starts x (omega arith);
      is = a.is ∙ ap (up_to g) e;
    }

-- THE INPUTS of each name, as the walk reads them
upto_split : (g : ℕ → List ℕ) (n c : ℕ) → n ≤ c → (m : List ℕ) × (up_to g c ≡ up_to g n ++ m)
upto_split g n zero h = let e : n ≡ 0 = omega arith in subst (λ k. (m : List ℕ) × ([] ≡ up_to g k ++ m)) (sym e) ([], refl)
upto_split g n (suc c) h = go (dec_lt c n) (upto_split g n c)
  where
    go : Dec (c < n) → (n ≤ c → (m : List ℕ) × (up_to g c ≡ up_to g n ++ m)) → (m : List ℕ) × (up_to g c ++ g c ≡ up_to g n ++ m)
    go (yes q) f = let z : n ≡ suc c = omega arith in subst (λ k. (m : List ℕ) × (up_to g (suc c) ≡ up_to g k ++ m)) (sym z) ([], sym (append_none (up_to g (suc c))))
    go (no q) f = let w = f (omega arith) in (w.0 ++ g c, ap (λ m. m ++ g c) w.1 ∙ append_assoc (up_to g n) w.0 (g c))

pub flat_inputs : {g : ℕ → List ℕ} {c : ℕ} {S I : List ℕ} {used : ℕ} → Flat g c S I used → (n : ℕ) → n < c → slice (get_or S n 0) (get_or S (n + 1) 0) (take used I) ≡ g n
flat_inputs {g} {c} {S} {I} {used} f n h =
    let w = upto_split g (suc n) c h in
    let a : get_or S n 0 ≡ length (up_to g n) = f.starts n (omega arith) in
    let b : get_or S (n + 1) 0 ≡ length (up_to g (suc n)) = f.starts (n + 1) (omega arith) ∙ ap (λ k. length (up_to g k)) (add-one n) in
    ap (λ k. drop k (take (get_or S (n + 1) 0) (take used I))) a ∙ ap (λ k. drop (length (up_to g n)) (take k (take used I))) b ∙ ap (λ m. drop (length (up_to g n)) (take (length (up_to g (suc n))) m)) (f.is ∙ w.1) ∙ ap (drop (length (up_to g n))) (take-append_seam (up_to g (suc n)) w.0) ∙ drop_at (up_to g n) (g n) (length (up_to g n)) refl

-- each name's inputs end within the array
pub flat_inside : {g : ℕ → List ℕ} {c : ℕ} {S I : List ℕ} {used : ℕ} → Flat g c S I used → (n : ℕ) → n < c → get_or S (n + 1) 0 ≤ used
flat_inside {g} {c} {S} {I} {used} f n h =
    let b = f.starts (n + 1) (omega arith) in
    let y = upto_mono g (n + 1) c (omega arith) in
    let z = length-take-le used I f.inside in
    let e = ap length f.is in
    omega arith

-- ---- each input is one of the names

abbrev Below : ℕ → List ℕ → Type 0
Below c l = (q : ℕ) → q < length l → get_or l q 0 < c

below_append : (c : ℕ) (l m : List ℕ) → Below c l → Below c m → Below c (l ++ m)
below_append c [] m a b = b
below_append c (x ∷ l) m a b = go (below_append c l m (λ q h. a (suc q) (omega arith)) b)
  where
    go : Below c (l ++ m) → Below c (x ∷ (l ++ m))
    go f zero h = a zero (omega arith)
    go f (suc q) h = f q (omega arith)

number_low : (w : List ℕ) (D : List (List ℕ)) → has w D ≡ true → number_of w D < length D
unfolding has number_of
number_low w [] h = absurd (false≢true h)
number_low w (v ∷ D) h = go (same w v) h (number_low w D)
  where
    go : (t : Bool) → (t || has w D) ≡ true → (has w D ≡ true → number_of w D < length D) → cond t 0 (suc (number_of w D)) < suc (length D)
    go true q f = omega arith
    go false q f = let z = f q in omega arith

numbers_low : (D ys : List (List ℕ)) → every (λ y. has y D) ys ≡ true → Below (length D) (numbers D ys)
numbers_low D [] h q l = absurd (omega arith)
numbers_low D (y ∷ ys) h zero l = number_low y D (and_first (has y D) (every (λ z. has z D) ys) h)
numbers_low D (y ∷ ys) h (suc q) l = numbers_low D ys (and_second (has y D) (every (λ z. has z D) ys) h) q (omega arith)

module _ {text N H X : List ℕ} {c : ℕ} {F : List ℕ} (t : Gathered text N H X c) (l : Places text c F) where
  abbrev g : ℕ → List ℕ
  g = inputs_in (lines_of text)

  inputs_low : (n : ℕ) → n < c → Below c (g n)
  unfolding inputs_in
  inputs_low n h = subst (λ k. Below k (numbers (dict_in (lines_of text)) (rights_of (line_in (name_in (lines_of text) n) (lines_of text))))) (count_in t) (numbers_low (dict_in (lines_of text)) (rights_of (line_in (name_in (lines_of text) n) (lines_of text))) (rights_known (l.site n h)))

  upto_low : (x : ℕ) → x ≤ c → Below c (up_to g x)
  upto_low zero h = λ q k. absurd (omega arith)
  upto_low (suc x) h = below_append c (up_to g x) (g x) (upto_low x (omega arith)) (inputs_low x h)

  pub flat_named : {S I : List ℕ} {used : ℕ} → Flat g c S I used → (q : ℕ) → q < used → get_or I q 0 < c
  flat_named {S} {I} {used} f q h =
      let a : get_or (take used I) q 0 ≡ get_or I q 0 = get_or-take used I q 0 h in
      let b : length (up_to g c) ≡ used = ap length (sym f.is) ∙ length-take-le used I f.inside in
      let e : get_or (up_to g c) q 0 ≡ get_or (take used I) q 0 = ap (λ m. get_or m q 0) (sym f.is) in
      let z = upto_low c (omega arith) q (omega arith) in
      omega arith
