-- What the contracts of `read` and `write` come to: each outcome is the only one, a done reading is a lawful tree, both ways round give back
-- what went in, no accepted tree is longer than 20,737 bytes, and the program's 24,576 bytes decide.
-- Assumes nothing.
use mathlib.Core.Path.{◌≡◌, refl, sym, ap, ◌∙◌}
use mathlib.Core.List.{List, ◌++◌}
use Prim.Native.Nat.{ℕ, ◌*◌, ◌≤◌, ◌<◌}
use native.Mathlib.Omega.{arith}
use lib.ListN.{length, get_or, take, drop}
use lib.Seq.{take_at}
use lib.Dec.{ltb}
use borrow.Author.Tests.{ltb-true, ltb-false}
use Rattle.std.specs.Prelude.{Option, Some, None, Result, Ok, Err}
use Rattle.paper.specs.Limits.{limits, most_bytes}
use Rattle.rules.specs.Format.{length_of}
use Rattle.rules.specs.Longest.{longest_tree}
use Rattle.records.specs.Judge.{Book, Outcome, accept, refuse, outcome}
use Rattle.records.specs.Memory.{memory, in_memory}
use Rattle.judging.specs.Bytes.{bytes_of, told}
use Rattle.writing.specs.Sites.{lost_site}
use Rattle.writing.specs.Writes.{Wrote, wrote, write_of}
use Rattle.records.specs.Trees.{Lawful}
use Rattle.rules.specs.declared.Refusal.TheVariants.{Room, Sited}
use Rattle.rules.specs.declared.Refusal.{Refusal}
use Rattle.records.specs.declared.Tree.{Tree}
use Rattle.rules.proofs.Cases.{either}
use Rattle.trees.proofs.Lawful.{lawful}
use Rattle.trees.proofs.Longest.{longest}
use Rattle.trees.proofs.Prefix.{first_bytes_decide}
use Rattle.trees.proofs.ReadBack.{read_told}
use Rattle.writing.proofs.Writing.{writes_short, writes_done}
use Rattle.trees.proofs.RoundTrip.{round_trip, write_gives_back}

-- r is what `read` answers to some bytes; w is what `write` answers to a tree and a room, with the room as it leaves it
abbrev pub Reads : List ℕ → Result Tree Refusal → Type 0
Reads bytes r = r ≡ in_memory (outcome limits bytes)

abbrev pub Writes : Tree → List ℕ → Wrote → Type 0
Writes t room w = w ≡ write_of limits t room

-- ---- each outcome is the only one

pub one_reading : (bytes : List ℕ) {r s : Result Tree Refusal} → Reads bytes r → Reads bytes s → r ≡ s
one_reading bytes p q = p ∙ sym q

pub one_writing : (t : Tree) (room : List ℕ) {w v : Wrote} → Writes t room w → Writes t room v → w ≡ v
one_writing t room p q = p ∙ sym q

-- ---- a reading that is not refused is an accepted tree

-- a done reading: the bytes are accepted, the tree in memory is theirs, and it is lawful
pub record Good (bytes : List ℕ) (t : Tree) : Type 0 where
  pub book : Book
  pub accepted : outcome limits bytes ≡ accept book
  pub tree : t ≡ memory book
  pub lawful : Lawful limits book

pub done_is_good : (bytes : List ℕ) {t : Tree} → Reads bytes (Ok t) → Good bytes t
unfolding in_memory
done_is_good bytes {t} e = go (outcome limits bytes) refl
  where
    go : (o : Outcome) → outcome limits bytes ≡ o → Good bytes t
    go (accept b) q = let same : ◌≡◌ {A = Result Tree Refusal} (Ok t) (Ok (memory b)) = e ∙ ap in_memory q in record { book = b; accepted = q; tree = cc; lawful = lawful bytes b q }
    go (refuse a) q = let d : ◌≡◌ {A = Result Tree Refusal} (Ok t) (Err a) = e ∙ ap in_memory q in let z : ◌≡◌ {A = ℕ} 0 1 = cc in absurd (omega arith)

pub refused_is_so : (bytes : List ℕ) {a : Refusal} → Reads bytes (Err a) → outcome limits bytes ≡ refuse a
unfolding in_memory
refused_is_so bytes {a} e = go (outcome limits bytes) refl
  where
    go : (o : Outcome) → outcome limits bytes ≡ o → outcome limits bytes ≡ refuse a
    go (accept b) q = let d : ◌≡◌ {A = Result Tree Refusal} (Err a) (Ok (memory b)) = e ∙ ap in_memory q in let z : ◌≡◌ {A = ℕ} 0 1 = cc in absurd (omega arith)
    go (refuse x) q = let d : ◌≡◌ {A = Result Tree Refusal} (Err a) (Err x) = e ∙ ap in_memory q in let s : x ≡ a = cc in q ∙ ap refuse s

-- ---- both ways round

-- read, then written: the bytes that were read, and the room behind them stays
pub read_then_write : (bytes room : List ℕ) {t : Tree} {w : Wrote} → ((i : ℕ) → get_or bytes i 0 < 256)
    → Reads bytes (Ok t) → Writes t room w → length bytes ≤ length room → w ≡ wrote (Ok (length bytes)) (bytes ++ drop (length bytes) room)
read_then_write bytes room good e q h =
    let g = done_is_good bytes e in
    q ∙ ap (λ (t : Tree). write_of limits t room) g.tree ∙ write_gives_back bytes room good g.book g.accepted h

-- written, then read: the tree that the bytes tell
pub write_then_read : (t : Tree) (room : List ℕ) {n : ℕ} {new : List ℕ} {r : Result Tree Refusal} → Writes t room (wrote (Ok n) new) → Reads (take n new) r → r ≡ Ok (told t)
unfolding write_of in_memory
write_then_read t room {n} {new} {r} q e = go (outcome limits (bytes_of t)) refl
  where
    back : (b : Book) → outcome limits (bytes_of t) ≡ accept b → wrote (Ok n) new ≡ wrote (Ok (length (bytes_of t))) (bytes_of t ++ drop (length (bytes_of t)) room)
        → r ≡ Ok (told t)
    back b p x =
        let many : ◌≡◌ {A = Result ℕ Refusal} (Ok n) (Ok (length (bytes_of t))) = ap (λ (w : Wrote). w.answer) x in
        let long : n ≡ length (bytes_of t) = cc in
        let put : new ≡ bytes_of t ++ drop (length (bytes_of t)) room = ap (λ (w : Wrote). w.room) x in
        let front : take n new ≡ bytes_of t = rw (long, put) (take_at (bytes_of t) (drop (length (bytes_of t)) room) (length (bytes_of t)) refl) in
        e ∙ ap (λ (l : List ℕ). in_memory (outcome limits l)) front ∙ ap in_memory p ∙ ap (λ (x : Tree). Ok x) (read_told t b p)

    never : (a : Refusal) → wrote (Ok n) new ≡ wrote (Err a) room → r ≡ Ok (told t)
    never a x = let y : ◌≡◌ {A = Result ℕ Refusal} (Ok n) (Err a) = ap (λ (w : Wrote). w.answer) x in let z : ◌≡◌ {A = ℕ} 0 1 = cc in absurd (omega arith)

    kept : (b : Book) → outcome limits (bytes_of t) ≡ accept b → (f : Option ℕ) → lost_site t ≡ f → r ≡ Ok (told t)
    kept b p (Some i) k = never (Sited (length_of 1 * i)) (q ∙ rw (p, k, write_of))
    kept b p None k =
        either (ltb (length room) (length (bytes_of t)))
        (λ s. never Room (q ∙ sym (writes_short t room (b, p) k (ltb-true (length room) (length (bytes_of t)) s))))
        (λ s. back b p (q ∙ sym (writes_done t room (b, p) k (ltb-false (length room) (length (bytes_of t)) s) refl refl)))

    go : (o : Outcome) → outcome limits (bytes_of t) ≡ o → r ≡ Ok (told t)
    go (accept b) p = kept b p (lost_site t) refl
    go (refuse a) p = never a (q ∙ rw (p, write_of))

-- a tree that was read tells all of itself
pub read_tells_all : (bytes : List ℕ) {t : Tree} → ((i : ℕ) → get_or bytes i 0 < 256) → Reads bytes (Ok t) → told t ≡ t
read_tells_all bytes good e =
    let g = done_is_good bytes e in
    let same : bytes_of (memory g.book) ≡ bytes = round_trip bytes good g.book g.accepted in
    ap told g.tree ∙ sym (read_told (memory g.book) g.book (ap (outcome limits) same ∙ g.accepted)) ∙ sym g.tree

-- ---- lengths

pub done_is_short : (bytes : List ℕ) {t : Tree} → Reads bytes (Ok t) → length bytes ≤ longest_tree
done_is_short bytes e = let g = done_is_good bytes e in longest bytes g.book g.accepted

-- the program's first bytes are read as all of them
pub first_bytes_read : (bytes : List ℕ) {r s : Result Tree Refusal} → Reads (take most_bytes bytes) r → Reads bytes s → r ≡ s
first_bytes_read bytes p q = p ∙ ap in_memory (first_bytes_decide most_bytes (omega arith) bytes) ∙ sym q
