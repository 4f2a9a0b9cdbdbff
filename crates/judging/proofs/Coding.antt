-- A record's bytes are read as that record, whatever follows them.
-- Assumes nothing.
use mathlib.Core.Path.{◌≡◌, refl, sym, ap, ap₂, ◌∙◌}
use Rattle.paper.specs.Limits.{limits}
use mathlib.Core.Bool.{Bool, true, false}
use mathlib.Core.List.{List, [], ◌∷◌, ◌++◌}
use Prim.Native.Nat.{ℕ, ◌+◌, ◌*◌, ◌/◌, ◌%◌, ◌≤◌}
use native.Mathlib.Omega.{arith}
use lib.ListN.{length}
use lib.Dec.{eqb}
use lib.Seq.{drop-drop, drop_at}
use lib.ListN.{drop}
use Rattle.std.specs.Prelude.{if◌then◌else◌}
use Rattle.rules.specs.Format.{length_of, event_in, body_of, record_of, width_of, encode}
use Rattle.judging.specs.Inner.{Own}
use Rattle.rules.specs.declared.format.Record.{Record}
use Rattle.rules.specs.declared.format.Record.TheVariants.{Missing, Unknown, Short, Event, SitedEvent, Gate, EventInput, GateInput, WideInput, End}
use Rattle.rules.proofs.Cases.{is_unknown, is_whole}

-- the record of kind k, which is known and whose bytes are there
whole : (b : List ℕ) (k : ℕ) → 1 ≤ length_of k → length_of k ≤ length (k ∷ b) → record_of limits (k ∷ b) ≡ body_of k (k ∷ b)
whole b k some h = sym (is_whole (k ∷ b) k refl (λ z. omega arith) (λ z. omega arith) h)

pub own_unknown : Own Unknown
own_unknown rest = sym (is_unknown (0 ∷ rest) (λ z. omega arith) refl)

pub own_end : Own End
unfolding body_of
own_end rest = whole rest 7 (omega arith) (omega arith)

pub own_event : (c : ℕ) → Own (Event c)
unfolding body_of
own_event c rest =
    let e : c % 256 + 256 * (c / 256 % 256 + 256 * (c / 65536 % 256 + 256 * (c / 16777216))) ≡ c = omega arith in
    whole (c % 256 ∷ c / 256 % 256 ∷ c / 65536 % 256 ∷ c / 16777216 ∷ rest) 1 (omega arith) (omega arith) ∙ ap Event e

pub own_sited : (c site : ℕ) → Own (SitedEvent c site)
unfolding body_of
own_sited c site rest =
    let e : c % 256 + 256 * (c / 256 % 256 + 256 * (c / 65536 % 256 + 256 * (c / 16777216))) ≡ c = omega arith in
    let q : site % 256 + 256 * (site / 256) ≡ site = omega arith in
    whole (c % 256 ∷ c / 256 % 256 ∷ c / 65536 % 256 ∷ c / 16777216 ∷ site % 256 ∷ site / 256 ∷ rest) 0x11 (omega arith) (omega arith) ∙ ap₂ SitedEvent e q

pub own_in : (sited : Bool) (c site : ℕ) → Own (event_in sited c site)
own_in true c site = own_sited c site
own_in false c site = own_event c

pub own_and : (n : ℕ) → Own (Gate 2 0 n)
unfolding body_of
own_and n rest = whole (n ∷ rest) 2 (omega arith) (omega arith)

pub own_or : (n : ℕ) → Own (Gate 3 0 n)
unfolding body_of
own_or n rest = whole (n ∷ rest) 3 (omega arith) (omega arith)

pub own_least : (k n : ℕ) → Own (Gate 4 k n)
unfolding body_of
own_least k n rest = whole (k ∷ n ∷ rest) 4 (omega arith) (omega arith)

pub own_event_input : (e : ℕ) → Own (EventInput e)
unfolding body_of
own_event_input e rest = whole (e ∷ rest) 5 (omega arith) (omega arith)

pub own_gate_input : (g : ℕ) → Own (GateInput g)
unfolding body_of
own_gate_input g rest =
    let e : g % 256 + 256 * (g / 256) ≡ g = omega arith in
    whole (g % 256 ∷ g / 256 ∷ rest) 6 (omega arith) (omega arith) ∙ ap GateInput e

pub own_wide_input : (e : ℕ) → Own (WideInput e)
unfolding body_of
own_wide_input e rest =
    let q : e % 256 + 256 * (e / 256) ≡ e = omega arith in
    whole (e % 256 ∷ e / 256 ∷ rest) 8 (omega arith) (omega arith) ∙ ap WideInput q

pub encode_width : (r : Record) → length (encode r) ≡ width_of r
encode_width Missing = refl
encode_width Short = refl
encode_width Unknown = refl
encode_width (Event c) = refl
encode_width (SitedEvent c site) = refl
encode_width (Gate kind k n) = go (eqb kind 4)
  where
    go : (b : Bool) → length (if b then (4 ∷ k ∷ n ∷ []) else (kind ∷ n ∷ [])) ≡ (if b then 3 else 2)
    go true = refl
    go false = refl
encode_width (EventInput e) = refl
encode_width (GateInput g) = refl
encode_width (WideInput e) = refl
encode_width End = refl

-- behind a record
pub cut : (bytes : List ℕ) (at : ℕ) (r : Record) (xs : List ℕ) → drop at bytes ≡ encode r ++ xs → drop (at + width_of r) bytes ≡ xs
cut bytes at r xs h = sym (drop-drop (width_of r) at bytes) ∙ ap (drop (width_of r)) h ∙ drop_at (encode r) xs (width_of r) (encode_width r)
