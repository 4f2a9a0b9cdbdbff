-- The bytes tell the cuts: no cut's bytes are the front of another's.
-- Assumes nothing.
use mathlib.Core.Path.{◌≡◌, refl, sym, ap, ap₂, ◌∙◌}
use mathlib.Core.List.{List, [], ◌∷◌, ◌++◌, append_assoc, append-nil}
use Prim.Native.Nat.{ℕ, ◌+◌, ◌*◌, ◌/◌, ◌%◌, ◌≤◌, ◌<◌}
use native.Mathlib.Omega.{arith}
use lib.ListN.{length, length-append}
use Rattle.paper.specs.Limits.{wide_from}
use Rattle.paper.specs.Listing.{member_bytes, cut_bytes}
use Rattle.paper.proofs.Listing.{narrow, wide, narrow_long, wide_long, bytes_one, bytes_append, by_width}
use Rattle.algebra.proofs.Lists.{flat_append}
use Rattle.sidebyside.specs.Members.{cuts_bytes}

pub end_bytes : (rest : List ℕ) → cut_bytes [] ++ rest ≡ 0x22 ∷ rest
unfolding cut_bytes member_bytes
end_bytes rest = refl

-- ---- one record: what it is below event 256, and from there on

pub narrow_is : {e : ℕ} → e < wide_from → (t : List ℕ) → member_bytes (e ∷ []) ++ t ≡ 0x21 ∷ e ∷ t
narrow_is {e} h t = ap (λ (l : List ℕ). l ++ t) (bytes_one e ∙ narrow e h)

pub wide_is : {e : ℕ} → wide_from ≤ e → (t : List ℕ) → member_bytes (e ∷ []) ++ t ≡ 0x23 ∷ e % 256 ∷ e / 256 ∷ t
wide_is {e} h t = ap (λ (l : List ℕ). l ++ t) (bytes_one e ∙ wide e h)

pub narrow_two : (e : ℕ) → e < wide_from → length (member_bytes (e ∷ [])) ≡ 2
narrow_two e h = ap length (bytes_one e) ∙ narrow_long e h

pub wide_three : (e : ℕ) → wide_from ≤ e → length (member_bytes (e ∷ [])) ≡ 3
wide_three e h = ap length (bytes_one e) ∙ wide_long e h

pub member_some : (e : ℕ) → 2 ≤ length (member_bytes (e ∷ []))
member_some e = by_width e (λ h. let a = narrow_two e h in omega (arith, a)) (λ h. let a = wide_three e h in omega (arith, a))

-- where a member stands, and what its kind says of it
pub narrow_at : (x e : ℕ) (t : List ℕ) → e < wide_from → x ≡ 0x21 → x ∷ e ∷ t ≡ member_bytes (e ∷ []) ++ t
narrow_at x e t h k = ap (λ (z : ℕ). z ∷ e ∷ t) k ∙ sym (narrow_is h t)

pub wide_at : (x low high e : ℕ) (t : List ℕ) → low < 256 → wide_from ≤ e → x ≡ 0x23 → e ≡ low + 256 * high → x ∷ low ∷ high ∷ t ≡ member_bytes (e ∷ []) ++ t
wide_at x low high e t b h k q =
    let l : low ≡ e % 256 = omega arith in
    let u : high ≡ e / 256 = omega arith in
    (λ i. k i ∷ l i ∷ u i ∷ t) ∙ sym (wide_is h t)

pub kind_narrow : (x : ℕ) (u : List ℕ) (e : ℕ) (t : List ℕ) → e < wide_from → x ∷ u ≡ member_bytes (e ∷ []) ++ t → x ≡ 0x21
kind_narrow x u e t h q = let w : x ∷ u ≡ 0x21 ∷ e ∷ t = q ∙ narrow_is h t in cc

pub kind_wide : (x : ℕ) (u : List ℕ) (e : ℕ) (t : List ℕ) → wide_from ≤ e → x ∷ u ≡ member_bytes (e ∷ []) ++ t → x ≡ 0x23
kind_wide x u e t h q = let w : x ∷ u ≡ 0x23 ∷ e % 256 ∷ e / 256 ∷ t = q ∙ wide_is h t in cc

-- kind 23 is that of a member from event 256 on, and its bytes tell which
pub wide_from_lem : (x : ℕ) (u : List ℕ) (e : ℕ) (t : List ℕ) → x ≡ 0x23 → x ∷ u ≡ member_bytes (e ∷ []) ++ t → wide_from ≤ e
wide_from_lem x u e t k q = by_width e (λ h. let z = kind_narrow x u e t h q in absurd (omega (arith, k, z))) (λ h. h)

pub wide_number : (x low high : ℕ) (u : List ℕ) (e : ℕ) (t : List ℕ) → x ≡ 0x23 → x ∷ low ∷ high ∷ u ≡ member_bytes (e ∷ []) ++ t → e ≡ low + 256 * high
wide_number x low high u e t k q =
    let w : x ∷ low ∷ high ∷ u ≡ 0x23 ∷ e % 256 ∷ e / 256 ∷ t = q ∙ wide_is (wide_from_lem x (low ∷ high ∷ u) e t k q) t in
    let a : low ≡ e % 256 = cc in
    let b : high ≡ e / 256 = cc in
    omega (arith, a, b)

-- a record tells its member, and is no end
pub member_once : (e f : ℕ) (t u : List ℕ) → member_bytes (e ∷ []) ++ t ≡ member_bytes (f ∷ []) ++ u → (e ≡ f) × (t ≡ u)
member_once e f t u q =
    by_width e
    (λ h. by_width f (λ k. let w : 0x21 ∷ e ∷ t ≡ 0x21 ∷ f ∷ u = sym (narrow_is h t) ∙ q ∙ narrow_is k u in (cc, cc))
    (λ k. let z = kind_wide 0x21 (e ∷ t) f u k (sym (narrow_is h t) ∙ q) in absurd (omega (arith, z))))
    (λ h. by_width f (λ k. let z = kind_wide 0x21 (f ∷ u) e t h (sym (narrow_is k u) ∙ sym q) in absurd (omega (arith, z)))
    (λ k.
    let w : 0x23 ∷ e % 256 ∷ e / 256 ∷ t ≡ 0x23 ∷ f % 256 ∷ f / 256 ∷ u = sym (wide_is h t) ∙ q ∙ wide_is k u in
    let a : e % 256 ≡ f % 256 = cc in
    let b : e / 256 ≡ f / 256 = cc in
    (omega (arith, a, b), cc)))

pub member_no_end : (e : ℕ) (t rest : List ℕ) → member_bytes (e ∷ []) ++ t ≡ cut_bytes [] ++ rest → ⊥
member_no_end e t rest q =
    let w = sym (end_bytes rest) ∙ sym q in
    by_width e (λ h. let z = kind_narrow 0x22 rest e t h w in absurd (omega (arith, z))) (λ h. let z = kind_wide 0x22 rest e t h w in absurd (omega (arith, z)))

pub end_first : (x : ℕ) (u rest : List ℕ) → x ∷ u ≡ cut_bytes [] ++ rest → x ≡ 0x22
end_first x u rest h = let w : x ∷ u ≡ 0x22 ∷ rest = h ∙ end_bytes rest in cc

-- ---- members in front

pub members_cut : (ps es : List ℕ) → cut_bytes (ps ++ es) ≡ member_bytes ps ++ cut_bytes es
unfolding cut_bytes
members_cut ps es = ap (λ (t : List ℕ). t ++ (0x22 ∷ [])) (bytes_append ps es) ∙ append_assoc (member_bytes ps) (member_bytes es) (0x22 ∷ [])

-- a member's record, and the rest of its cut
pub member_front : (e : ℕ) (es rest : List ℕ) → cut_bytes (e ∷ es) ++ rest ≡ member_bytes (e ∷ []) ++ (cut_bytes es ++ rest)
member_front e es rest = ap (λ (t : List ℕ). t ++ rest) (members_cut (e ∷ []) es) ∙ append_assoc (member_bytes (e ∷ [])) (cut_bytes es) rest

-- the first member's record, and one behind the last
members_front : (p : ℕ) (ps u : List ℕ) → member_bytes (p ∷ ps) ++ u ≡ member_bytes (p ∷ []) ++ (member_bytes ps ++ u)
members_front p ps u = ap (λ (t : List ℕ). t ++ u) (bytes_append (p ∷ []) ps) ∙ append_assoc (member_bytes (p ∷ [])) (member_bytes ps) u

pub members_more : (ps : List ℕ) (e : ℕ) (t : List ℕ) → member_bytes (ps ++ (e ∷ [])) ++ t ≡ member_bytes ps ++ (member_bytes (e ∷ []) ++ t)
members_more ps e t = ap (λ (u : List ℕ). u ++ t) (bytes_append ps (e ∷ [])) ∙ append_assoc (member_bytes ps) (member_bytes (e ∷ [])) t

-- ---- one cut

pub cut_once : (es fs rest rest' : List ℕ) → cut_bytes es ++ rest ≡ cut_bytes fs ++ rest' → (es ≡ fs) × (rest ≡ rest')
cut_once [] [] rest rest' h =
    let w : 0x22 ∷ rest ≡ 0x22 ∷ rest' = sym (end_bytes rest) ∙ h ∙ end_bytes rest' in (refl, cc)
cut_once [] (f ∷ fs) rest rest' h = absurd (member_no_end f (cut_bytes fs ++ rest') rest (sym (member_front f fs rest') ∙ sym h))
cut_once (e ∷ es) [] rest rest' h = absurd (member_no_end e (cut_bytes es ++ rest) rest' (sym (member_front e es rest) ∙ h))
cut_once (e ∷ es) (f ∷ fs) rest rest' h =
    let (a, b) = member_once e f (cut_bytes es ++ rest) (cut_bytes fs ++ rest') (sym (member_front e es rest) ∙ h ∙ member_front f fs rest') in
    let (q, r) = cut_once es fs rest rest' b in
    (ap₂ (λ (x : ℕ) (l : List ℕ). x ∷ l) a q, r)

pub cut_some : (c rest : List ℕ) → 0 < length (cut_bytes c ++ rest)
cut_some [] rest = rw (end_bytes rest) (omega arith)
cut_some (e ∷ es) rest =
    let a = ap length (member_front e es rest) ∙ length-append (member_bytes (e ∷ [])) (cut_bytes es ++ rest) in
    let b = member_some e in
    omega (arith, a, b)

-- a cut whose bytes begin with these members has them, and the bytes behind are those of its others
pub record Behind (ps es u rest : List ℕ) : Type 0 where
  pub others : List ℕ
  pub is : es ≡ ps ++ others
  pub bytes : u ≡ cut_bytes others ++ rest

pub peel : (ps es u rest : List ℕ) → member_bytes ps ++ u ≡ cut_bytes es ++ rest → Behind ps es u rest
unfolding member_bytes
peel [] es u rest h = record { others = es; is = refl; bytes = h }
peel (p ∷ ps) [] u rest h = absurd (member_no_end p (member_bytes ps ++ u) rest (sym (members_front p ps u) ∙ h))
peel (p ∷ ps) (e ∷ es) u rest h =
    let (a, b) = member_once p e (member_bytes ps ++ u) (cut_bytes es ++ rest) (sym (members_front p ps u) ∙ h ∙ member_front e es rest) in
    let w = peel ps es u rest b in
    record { others = w.others; is = ap₂ (λ (x : ℕ) (l : List ℕ). x ∷ l) (sym a) w.is; bytes = w.bytes }

-- ---- cuts one after the other

pub cuts_nil : cuts_bytes [] ≡ []
unfolding cuts_bytes
cuts_nil = refl

pub cuts_cons : (c : List ℕ) (cs : List (List ℕ)) → cuts_bytes (c ∷ cs) ≡ cut_bytes c ++ cuts_bytes cs
unfolding cuts_bytes
cuts_cons c cs = refl

pub cuts_append : (ps cs : List (List ℕ)) → cuts_bytes (ps ++ cs) ≡ cuts_bytes ps ++ cuts_bytes cs
unfolding cuts_bytes
cuts_append ps cs = flat_append cut_bytes ps cs

-- no bytes, no cuts
pub none_held : (cs : List (List ℕ)) → [] ≡ cuts_bytes cs → cs ≡ []
none_held [] h = refl
none_held (c ∷ cs) h =
    let l = cut_some c (cuts_bytes cs) in
    let q : 0 ≡ length (cut_bytes c ++ cuts_bytes cs) = ap length (h ∙ cuts_cons c cs) in
    absurd (omega arith)

-- a list whose bytes begin with these cuts has them, and the bytes behind are those of its others
pub record Onward (ps cs : List (List ℕ)) (u : List ℕ) : Type 0 where
  pub others : List (List ℕ)
  pub is : cs ≡ ps ++ others
  pub bytes : u ≡ cuts_bytes others

pub onward : (ps cs : List (List ℕ)) (u : List ℕ) → cuts_bytes ps ++ u ≡ cuts_bytes cs → Onward ps cs u
onward [] cs u h = record { others = cs; is = refl; bytes = ap (λ (t : List ℕ). t ++ u) (sym cuts_nil) ∙ h }
onward (p ∷ ps) [] u h =
    let l = cut_some p (cuts_bytes ps ++ u) in
    let q = ap length (sym (append_assoc (cut_bytes p) (cuts_bytes ps) u) ∙ ap (λ (t : List ℕ). t ++ u) (sym (cuts_cons p ps)) ∙ h ∙ cuts_nil) in
    absurd (omega (arith, l, q))
onward (p ∷ ps) (c ∷ cs) u h =
    let w = sym (append_assoc (cut_bytes p) (cuts_bytes ps) u) ∙ ap (λ (t : List ℕ). t ++ u) (sym (cuts_cons p ps)) ∙ h ∙ cuts_cons c cs in
    let (a, b) = cut_once p c (cuts_bytes ps ++ u) (cuts_bytes cs) w in
    let v = onward ps cs u b in
    record { others = v.others; is = ap₂ (λ (x : List ℕ) (l : List (List ℕ)). x ∷ l) (sym a) v.is; bytes = v.bytes }

-- THE BYTES TELL THE LIST
pub cuts_once : (cs ds : List (List ℕ)) → cuts_bytes cs ≡ cuts_bytes ds → cs ≡ ds
cuts_once cs ds h =
    let w = onward cs ds [] (append-nil (cuts_bytes cs) ∙ h) in
    sym (w.is ∙ ap (λ (l : List (List ℕ)). cs ++ l) (none_held w.others w.bytes) ∙ append-nil cs)
