-- What `write` answers, by its three cases.
-- Assumes nothing.
use mathlib.Core.Path.{◌≡◌, sym}
use mathlib.Core.List.{List, ◌++◌}
use Prim.Native.Nat.{ℕ, ◌*◌, ◌≤◌, ◌<◌}
use lib.ListN.{length, drop}
use native.Mathlib.Omega.{arith}
use borrow.Author.Tests.{lt-ltb, le-ltb}
use Rattle.std.specs.Prelude.{Some, None, Ok, Err}
use Rattle.paper.specs.Limits.{limits}
use Rattle.rules.specs.Format.{length_of}
use Rattle.records.specs.Judge.{Book, Outcome, accept, refuse, outcome}
use Rattle.judging.specs.Bytes.{bytes_of}
use Rattle.writing.specs.Writes.{laid_of, written_as, write_of, wrote}
use Rattle.writing.specs.Sites.{lost_site}
use Rattle.writing.specs.Inner.{Writable}
use Rattle.judging.specs.Inner.{Accepted, Measured}
use Rattle.rules.specs.declared.Refusal.{Refusal}
use Rattle.rules.specs.declared.Refusal.TheVariants.{Room, Sited}
use Rattle.records.specs.declared.Tree.{Tree}

-- a text for a room, by an outcome
module _ (o : Outcome) (s room : List ℕ) where
  pub laid_short : (b : Book) → o ≡ accept b → length room < length s → wrote (Err Room) room ≡ laid_of o s room
  laid_short b p h = rw (p, lt-ltb _ _ h)

  pub laid_done : (b : Book) → o ≡ accept b → length s ≤ length room → {n : ℕ} → n ≡ length s → {new : List ℕ} → new ≡ s ++ drop (length s) room → wrote (Ok n) new ≡ laid_of o s room
  laid_done b p h e d = rw (p, le-ltb _ _ h, e, d)

  pub laid_refused : (a : Refusal) → o ≡ refuse a → wrote (Err a) room ≡ laid_of o s room
  laid_refused a p = rw p

-- a tree whose bytes are accepted, and whose records lose no site
module _ (t : Tree) where
  pub written_is : (b : Book) → outcome limits (bytes_of t) ≡ accept b → lost_site t ≡ None → written_as limits t ≡ accept b
  written_is b p q = rw (p, q)

  module _ (room : List ℕ) where
    pub writes_short : Accepted t → lost_site t ≡ None → length room < length (bytes_of t) → wrote (Err Room) room ≡ write_of limits t room
    unfolding write_of
    writes_short (b, p) kept h = laid_short (written_as limits t) (bytes_of t) room b (written_is b p kept) h

    pub writes_done : Accepted t → lost_site t ≡ None → length (bytes_of t) ≤ length room → {n : ℕ} → n ≡ length (bytes_of t) → {new : List ℕ}
        → new ≡ bytes_of t ++ drop (length (bytes_of t)) room → wrote (Ok n) new ≡ write_of limits t room
    unfolding write_of
    writes_done (b, p) kept h e d = laid_done (written_as limits t) (bytes_of t) room b (written_is b p kept) h e d

    pub writes_refused : (a : Refusal) → written_as limits t ≡ refuse a → wrote (Err a) room ≡ write_of limits t room
    unfolding write_of
    writes_refused a p = laid_refused (written_as limits t) (bytes_of t) room a p

-- what a survey, and the search for a site, tell of a tree
pub judged_refused : (t : Tree) {a : Refusal} → outcome limits (bytes_of t) ≡ refuse a → written_as limits t ≡ refuse a
judged_refused t e = rw e

module _ {t : Tree} {n : ℕ} (v : Measured t n) where
  pub judged_done : None ≡ lost_site t → Writable t n
  judged_done q = record { bytes = v.bytes; accepted = v.accepted; kept = sym q }

  pub judged_sited : {e k : ℕ} → Some e ≡ lost_site t → k ≡ length_of 1 → written_as limits t ≡ refuse (Sited (k * e))
  judged_sited {e} {k} q five = let (b, p) = v.accepted in rw (p, ← q, five)

-- the same of a tree that is judged and has no fault
module _ {t : Tree} {n : ℕ} (v : Writable t n) where
  pub done_fits : {m : ℕ} → n ≤ m → Accepted t × (length (bytes_of t) ≤ m)
  done_fits h = (v.accepted, omega (arith, v.bytes))

  module _ (room : List ℕ) where
    pub done_short : length room < n → wrote (Err Room) room ≡ write_of limits t room
    done_short h = writes_short t room v.accepted v.kept (omega (arith, v.bytes))

    pub done_writes : n ≤ length room → {new : List ℕ} → new ≡ bytes_of t ++ drop (length (bytes_of t)) room → wrote (Ok n) new ≡ write_of limits t room
    done_writes h d = let (ok, fits) = done_fits h in writes_done t room ok v.kept fits v.bytes d
