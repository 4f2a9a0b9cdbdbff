-- Text at the front of a lent array, and the text of a listing's bytes.
-- Assumes nothing.
use Rattle.std.specs.Prelude.{◌≡◌, cond, List, [], ◌∷◌, ◌++◌, ℕ, ◌+◌, ◌*◌, ◌≤◌, eqb, length, take}
use Rattle.paper.specs.Exporting.{decimal}
use Rattle.text.specs.Lines.{blank, line_end}
use Rattle.text.specs.declared.cuts.Place.{Place}
use Rattle.text.specs.declared.cuts.Place.TheVariants.{Start, Event, Low, High, Behind}

-- a text has r bytes and more: its part before r is within it, and has r bytes
abbrev pub IsPrefixLen : ℕ → List ℕ → Type 0
IsPrefixLen r text = (r ≤ length text) × (r ≡ length (take r text))

-- the first r bytes of a text are s
abbrev pub Front : ℕ → List ℕ → List ℕ → Type 0
Front r text s = IsPrefixLen r text × (take r text ≡ s)

-- what a byte of a listing adds to the text, by the place where it stands, and the place behind it: a number is said by its last byte
abbrev pub said : Place → ℕ → List ℕ
said Start b = cond (eqb b 0x22) line_end []
said Event b = decimal b
said Low b = []
said (High low) b = decimal (low + 256 * b)
said Behind b = cond (eqb b 0x22) line_end blank

abbrev pub from_kind : ℕ → Place
from_kind b = cond (eqb b 0x22) Start (cond (eqb b 0x23) Low Event)

abbrev pub after : Place → ℕ → Place
after Start b = from_kind b
after Event b = Behind
after Low b = High b
after (High low) b = Behind
after Behind b = from_kind b

unfoldable pub spelled : Place → List ℕ → List ℕ
spelled p [] = []
spelled p (b ∷ l) = said p b ++ spelled (after p b) l
