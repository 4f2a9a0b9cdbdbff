-- The records of a tree: what record stands at the front of some bytes, and a record's bytes.
use Rattle.std.specs.Prelude.{ℕ, ◌+◌, ◌*◌, ◌/◌, ◌%◌, List, [], ◌∷◌, Bool, true, false, ◌||◌, length, get_or, ltb, eqb}
use Rattle.paper.specs.Limits.{Limits}
use Rattle.std.specs.Prelude.{if◌then◌else◌}
use Rattle.rules.specs.declared.format.Record.{Record}
use Rattle.rules.specs.declared.format.Record.TheVariants.{Missing, Unknown, Short, Event, SitedEvent, Gate, EventInput, GateInput, WideInput, End}

-- byte i of b
abbrev pub byte : List ℕ → ℕ → ℕ
byte b i = get_or b i 0

-- how many bytes a record of a kind takes, the kind's among them; 0 for a kind that no record has
abbrev pub length_of : ℕ → ℕ
length_of kind =
    if eqb kind 1 then 5 else
    if eqb kind 2 then 2 else
    if eqb kind 3 then 2 else
    if eqb kind 4 then 3 else
    if eqb kind 5 then 2 else
    if eqb kind 6 then 3 else
    if eqb kind 7 then 1 else
    if eqb kind 8 then 3 else
    if eqb kind 0x11 then 7 else
    0

-- a kind that a reading at these limits does not know
abbrev pub hidden : Limits → ℕ → Bool
hidden L kind = (if L.wide then false else eqb kind 8) || (if L.sites then false else eqb kind 0x11)

-- the same in a reading at these limits
abbrev pub length_in : Limits → ℕ → ℕ
length_in L kind = if hidden L kind then 0 else length_of kind

-- an event's record, with a site or without, and how many bytes it takes
abbrev pub event_in : Bool → ℕ → ℕ → Record
event_in true c site = SitedEvent c site
event_in false c site = Event c

abbrev pub event_length : Bool → ℕ
event_length sited = if sited then length_of 0x11 else length_of 1

-- the record of a kind, from its bytes
unfoldable pub body_of : ℕ → List ℕ → Record
body_of kind b =
    if eqb kind 1 then Event (byte b 1 + 256 * (byte b 2 + 256 * (byte b 3 + 256 * byte b 4))) else
    if eqb kind 2 then Gate 2 0 (byte b 1) else
    if eqb kind 3 then Gate 3 0 (byte b 1) else
    if eqb kind 4 then Gate 4 (byte b 1) (byte b 2) else
    if eqb kind 5 then EventInput (byte b 1) else
    if eqb kind 6 then GateInput (byte b 1 + 256 * byte b 2) else
    if eqb kind 8 then WideInput (byte b 1 + 256 * byte b 2) else
    if eqb kind 0x11 then SitedEvent (byte b 1 + 256 * (byte b 2 + 256 * (byte b 3 + 256 * byte b 4))) (byte b 5 + 256 * byte b 6) else
    End

-- the record at the front of b, at these limits: an unknown kind (2) comes before bytes that end inside the record (1)
unfoldable pub record_of : Limits → List ℕ → Record
record_of L b =
    if eqb (length b) 0 then Missing else
    if eqb (length_in L (byte b 0)) 0 then Unknown else
    if ltb (length b) (length_of (byte b 0)) then Short else
    body_of (byte b 0) b

-- how many bytes a record takes
abbrev pub width_of : Record → ℕ
width_of Missing = 0
width_of Unknown = 1
width_of Short = 0
width_of (Event c) = length_of 1
width_of (SitedEvent c site) = length_of 0x11
width_of (Gate kind k n) = if eqb kind 4 then length_of 4 else length_of 2
width_of (EventInput e) = length_of 5
width_of (GateInput g) = length_of 6
width_of (WideInput e) = length_of 8
width_of End = length_of 7

-- the bytes of a record; of a gate of no kind, a byte of no kind
abbrev pub encode : Record → List ℕ
encode Missing = []
encode Short = []
encode Unknown = 0 ∷ []
encode (Event c) = 1 ∷ c % 256 ∷ c / 256 % 256 ∷ c / 65536 % 256 ∷ c / 16777216 ∷ []
encode (SitedEvent c site) = 0x11 ∷ c % 256 ∷ c / 256 % 256 ∷ c / 65536 % 256 ∷ c / 16777216 ∷ site % 256 ∷ site / 256 ∷ []
encode (Gate kind k n) = if eqb kind 4 then (4 ∷ k ∷ n ∷ []) else (kind ∷ n ∷ [])
encode (EventInput e) = 5 ∷ e ∷ []
encode (GateInput g) = 6 ∷ g % 256 ∷ g / 256 ∷ []
encode (WideInput e) = 8 ∷ e % 256 ∷ e / 256 ∷ []
encode End = 7 ∷ []
