-- An accepted tree is within the limits; and what `export` answers, by its three cases.
-- Assumes nothing.
use mathlib.Core.Path.{◌≡◌, refl, sym, ap, ◌∙◌, subst}
use mathlib.Core.List.{List, [], ◌∷◌, ◌++◌}
use Prim.Native.Nat.{ℕ, zero, suc, ◌≤◌, ◌<◌}
use native.Mathlib.Omega.{arith}
use lib.ListN.{length, get_or, take, drop, length-append}
use lib.Seq.{take-suc, get_or-take}
use Rattle.std.specs.Prelude.{Ok, Err}
use Rattle.paper.specs.Limits.{limits}
use Rattle.paper.specs.Lists.{sum}
use Rattle.paper.specs.Exporting.{text_of}
use Rattle.rules.specs.declared.Refusal.{Refusal}
use Rattle.rules.specs.declared.Refusal.TheVariants.{Room}
use Rattle.records.specs.Judge.{Book, accept, refuse, outcome}
use Rattle.records.specs.Memory.{pad, memory, tabulate}
use Rattle.records.specs.Trees.{tree_in}
use Rattle.records.specs.declared.Tree.{Tree}
use Rattle.records.proofs.Pad.{pad_take}
use Rattle.judging.specs.Bytes.{bytes_of, told}
use Rattle.judging.specs.Inner.{Measured}
use Rattle.writing.specs.Writes.{Wrote, wrote}
use Rattle.writing.proofs.Writing.{laid_short, laid_done, laid_refused}
use Rattle.trees.proofs.Lawful.{lawful}
use Rattle.trees.proofs.ReadBack.{read_told}
use Rattle.exporting.specs.Laying.{Laid, Planned, Typable}
use Rattle.exporting.specs.Exports.{export_of}

-- ---- an accepted tree

table_long : (n : ℕ) (l : List ℕ) → length (tabulate n (λ i. get_or l i 0)) ≡ n
unfolding tabulate
table_long zero l = refl
table_long (suc n) l = let h = table_long n l in let a = length-append (tabulate n (λ i. get_or l i 0)) (get_or l n 0 ∷ []) in omega arith

table_is : (n : ℕ) (l : List ℕ) → n ≤ length l → tabulate n (λ i. get_or l i 0) ≡ take n l
unfolding tabulate
table_is zero l h = refl
table_is (suc n) l h = ap (λ (x : List ℕ). x ++ (get_or l n 0 ∷ [])) (table_is n l (omega arith)) ∙ sym (take-suc l n 0 (omega arith))

module _ (t : Tree) (b : Book) (e : outcome limits (bytes_of t) ≡ accept b) where
  events_told : length b.events ≡ t.event_count
  unfolding memory told
  events_told = ap (λ (x : Tree). x.event_count) (read_told t b e)

  gates_told : length b.sizes ≡ t.gate_count
  unfolding memory told
  gates_told = ap (λ (x : Tree). x.gate_count) (read_told t b e)

  sizes_told : t.gate_count ≤ length t.sizes → b.sizes ≡ take t.gate_count t.sizes
  unfolding memory told
  sizes_told h =
      let f : ℕ → ℕ = λ g. get_or t.sizes g 0 in
      let n : length b.sizes ≡ length (tabulate t.gate_count f) = gates_told ∙ sym (table_long t.gate_count t.sizes) in
      sym (pad_take limits.gates 0 b.sizes)
      ∙ ap (take (length b.sizes)) (ap (λ (x : Tree). x.sizes) (read_told t b e))
      ∙ ap (λ (k : ℕ). take k (pad limits.gates 0 (tabulate t.gate_count f))) n
      ∙ pad_take limits.gates 0 (tabulate t.gate_count f)
      ∙ table_is t.gate_count t.sizes h

  plan : length t.sizes ≡ 512 → length t.inputs ≡ 4096 → Planned t.sizes t.inputs t.gate_count
  plan long wide =
      let l = lawful (bytes_of t) b e in
      let few = l.few_gates in
      let same = gates_told in
      let s = sizes_told (omega arith) in
      let a = l.all_inputs in
      let i = l.few_inputs in
      let total = ap sum s in
      let at : (g : ℕ) → g < t.gate_count → get_or b.sizes g 0 ≡ get_or t.sizes g 0 = λ g h. ap (λ (x : List ℕ). get_or x g 0) s ∙ get_or-take t.gate_count t.sizes g 0 h in
      record {
        long = long;
        wide = wide;
        few = omega arith;
        all = omega arith;
        each = λ g h. subst (λ (x : ℕ). (1 ≤ x) × (x ≤ limits.inputs)) (at g h) (l.sizes g (omega arith));
      }

  pub typable : length t.sizes ≡ 512 → length t.inputs ≡ 4096 → Typable t
  typable long wide = record { events = let l = lawful (bytes_of t) b e in let f = l.few_events in let s = events_told in omega arith; gates = plan long wide }

-- ---- the three cases

pub export_refused : (t : Tree) (room : List ℕ) (a : Refusal) → outcome limits (bytes_of t) ≡ refuse a → wrote (Err a) room ≡ export_of limits t room
unfolding export_of
export_refused t room a e = laid_refused (outcome limits (bytes_of t)) (text_of (tree_in t)) room a e

module _ {t : Tree} {n : ℕ} (v : Measured t n) where
  pub done_typable : length t.sizes ≡ 512 → length t.inputs ≡ 4096 → Typable t
  done_typable long wide = let (b, e) = v.accepted in typable t b e long wide

  -- the text was counted in a room of its own
  module _ {spare spare' : List ℕ} {k : ℕ} (count : Laid spare 0 (text_of (tree_in t)) spare' k) (room : List ℕ) where
    pub done_short : length room < k → wrote (Err Room) room ≡ export_of limits t room
    unfolding export_of
    done_short h = let (b, e) = v.accepted in let c = count.to in laid_short (outcome limits (bytes_of t)) (text_of (tree_in t)) room b e (omega arith)

    pub done_exports : k ≤ length room → {room' : List ℕ} {end : ℕ} → Laid room 0 (text_of (tree_in t)) room' end → wrote (Ok end) room' ≡ export_of limits t room
    unfolding export_of
    done_exports h {room'} {end} p =
        let (b, e) = v.accepted in
        let c = count.to in
        let q = p.to in
        let l : end ≡ length (text_of (tree_in t)) = omega arith in
        let fits : length (text_of (tree_in t)) ≤ length room = omega arith in
        let is : room' ≡ text_of (tree_in t) ++ drop (length (text_of (tree_in t))) room = (p.put (omega arith)).is ∙ ap (λ (j : ℕ). text_of (tree_in t) ++ drop j room) l in
        laid_done (outcome limits (bytes_of t)) (text_of (tree_in t)) room b e fits l is

-- THE ONE OUTCOME of an export
abbrev pub Exports : Tree → List ℕ → Wrote → Type 0
Exports t room w = w ≡ export_of limits t room

pub one_export : (t : Tree) (room : List ℕ) {w v : Wrote} → Exports t room w → Exports t room v → w ≡ v
one_export t room p q = p ∙ sym q
