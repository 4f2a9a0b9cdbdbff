-- What the functions inside tell their callers.
use Rattle.std.specs.Prelude.{ℕ, ◌≡◌, length, None, Result, Ok, Err}
use Rattle.paper.specs.Limits.{limits}
use Rattle.records.specs.Judge.{refuse}
use Rattle.judging.specs.Bytes.{bytes_of}
use Rattle.judging.specs.Inner.{Accepted}
use Rattle.writing.specs.Sites.{lost_site}
use Rattle.writing.specs.Writes.{written_as}
use Rattle.rules.specs.declared.Refusal.{Refusal}
use Rattle.records.specs.declared.Tree.{Tree}

-- t can be written, in n bytes
pub record Writable (t : Tree) (n : ℕ) : Type 0 where
  pub bytes : n ≡ length (bytes_of t)
  pub accepted : Accepted t
  pub kept : lost_site t ≡ None

-- what is said of t before it is written: how it is refused but for the room, or how many bytes it takes
abbrev pub Judged : Tree → Result ℕ Refusal → Type 0
Judged t (Ok n) = Writable t n
Judged t (Err a) = written_as limits t ≡ refuse a
