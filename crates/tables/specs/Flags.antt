-- What a yes or no says of a statement.
-- Assumes nothing.
use Rattle.std.specs.Prelude.{Bool, true, false}

-- yes: it holds; no: it does not
abbrev pub Says : Bool → Type 0 → Type 0
Says true P = P
Says false P = P → ⊥
