-- What the cursor of a line keeps.
use Rattle.std.specs.Prelude.{ℕ, ◌≤◌, ◌<◌, List, length}
use Rattle.reading.specs.declared.hexadecimal.Cursor.{Cursor}

-- a cursor whose bytes are among these
pub record Inside (c : Cursor) (bytes : List ℕ) : Type 0 where
  pub group : c.group ≤ c.bytes
  pub room : c.bytes ≤ length bytes

-- d is further on than c
pub record Moved (c d : Cursor) : Type 0 where
  pub on : c.at < d.at
