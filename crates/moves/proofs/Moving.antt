-- What the moves answer, by their cases: what each call tells of the tree that was read.
-- Assumes nothing.
use mathlib.Core.Path.{◌≡◌, refl, sym, ap, ◌∙◌}
use mathlib.Core.Bool.{Bool, true, false}
use mathlib.Core.List.{List}
use Prim.Native.Nat.{ℕ, ◌*◌, ◌≤◌}
use native.Mathlib.Omega.{arith}
use lib.ListN.{length}
use Rattle.std.specs.Prelude.{Some, None, Ok, Err}
use Rattle.paper.specs.Limits.{limits}
use Rattle.rules.specs.Format.{length_of}
use Rattle.records.specs.Judge.{Book, outcome}
use Rattle.records.specs.Memory.{memory, in_memory}
use Rattle.writing.specs.Sites.{lowest_sited}
use Rattle.writing.specs.Writes.{Wrote, wrote, write_of}
use Rattle.rules.specs.declared.Refusal.{Refusal}
use Rattle.rules.specs.declared.Refusal.TheVariants.{Sited}
use Rattle.records.specs.declared.Tree.{Tree}
use Rattle.trees.proofs.Promises.{Good, done_is_good, refused_is_so}
use Rattle.moves.specs.Moves.{in_form, to_sites, from_sites}
use Rattle.moves.proofs.Forms.{found_none, memory_sited, form_writes}

-- a tree in memory in that form
abbrev pub formed : Bool → Tree → Tree
formed sited t = record {
  events = t.events;
  event_count = t.event_count;
  sited = sited;
  kinds = t.kinds;
  leasts = t.leasts;
  sizes = t.sizes;
  gate_count = t.gate_count;
  inputs = t.inputs;
}

formed_memory : (sited : Bool) (b : Book) → formed sited (memory b) ≡ memory (in_form sited b)
unfolding memory
formed_memory sited b = refl

memory_count : (b : Book) → (memory b).event_count ≡ length b.events
unfolding memory
memory_count b = refl

-- a refused reading
module _ (bytes : List ℕ) {a : Refusal} (e : Err a ≡ in_memory (outcome limits bytes)) where
  pub to_refused : (room : List ℕ) → wrote (Err a) room ≡ to_sites limits bytes room
  unfolding to_sites
  to_refused room = rw (refused_is_so bytes e, to_sites)

  pub from_refused : (room : List ℕ) → wrote (Err a) room ≡ from_sites limits bytes room
  unfolding from_sites
  from_refused room = rw (refused_is_so bytes e, from_sites)

-- one that is not
module _ (bytes : List ℕ) {t : Tree} (e : Ok t ≡ in_memory (outcome limits bytes)) where
  good : Good bytes t
  good = done_is_good bytes e

  pub few_events : t.event_count ≤ limits.events
  few_events = rw good.tree (omega (arith, memory_count good.book, good.lawful.few_events))

  pub to_done : (room : List ℕ) {w : Wrote} → w ≡ write_of limits (formed true t) room → w ≡ to_sites limits bytes room
  unfolding to_sites
  to_done room q =
      q ∙ ap (λ (t : Tree). write_of limits (formed true t) room) good.tree
      ∙ ap (λ (t : Tree). write_of limits t room) (formed_memory true good.book)
      ∙ form_writes true good.lawful (λ z. let y : ◌≡◌ {A = ℕ} 0 1 = cc in absurd (omega arith)) room
      ∙ rw good.accepted

  sought : lowest_sited t.event_count 0 t.events ≡ lowest_sited (length good.book.events) 0 good.book.events
  sought = ap (λ (t : Tree). lowest_sited t.event_count 0 t.events) good.tree ∙ memory_sited good.book

  pub from_done : (room : List ℕ) → None ≡ lowest_sited t.event_count 0 t.events → {w : Wrote} → w ≡ write_of limits (formed false t) room
      → w ≡ from_sites limits bytes room
  unfolding from_sites
  from_done room none q =
      let free : lowest_sited (length good.book.events) 0 good.book.events ≡ None = sym (none ∙ sought) in
      q ∙ ap (λ (t : Tree). write_of limits (formed false t) room) good.tree
      ∙ ap (λ (t : Tree). write_of limits t room) (formed_memory false good.book)
      ∙ form_writes false good.lawful (λ _. found_none good.book.events (length good.book.events) 0 free) room
      ∙ rw (good.accepted, free)

  pub from_sited : (room : List ℕ) {i k : ℕ} → Some i ≡ lowest_sited t.event_count 0 t.events → k ≡ length_of 0x11
      → {a : Refusal} → a ≡ Sited (k * i) → wrote (Err a) room ≡ from_sites limits bytes room
  unfolding from_sites
  from_sited room {i} {k} found seven {a} is =
      let first : lowest_sited (length good.book.events) 0 good.book.events ≡ Some i = sym (found ∙ sought) in
      rw (is, seven, good.accepted, first)
