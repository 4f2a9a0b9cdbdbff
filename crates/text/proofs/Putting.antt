-- Text put from the beginning, and numbers put in decimal.
-- Assumes nothing.
use mathlib.Core.Path.{◌≡◌, sym, subst}
use mathlib.Core.List.{List, ◌++◌}
use Prim.Native.Nat.{ℕ, ◌+◌, ◌-◌, ◌≤◌}
use native.Mathlib.Omega.{arith}
use lib.ListN.{length, take, drop, length-append}
use lib.Seq.{length-take-le}
use Rattle.paper.specs.Exporting.{decimal}
use Rattle.decimals.specs.Places.{Put, Ends}
use Rattle.decimals.proofs.Putting.{put_long, put_front, ends_part}
use Rattle.decimals.proofs.Decimals.{decimal_long}
use Rattle.text.specs.Lines.{line_end, line_of}
use Rattle.text.specs.Places.{Front}

pub put_counts : {text : List ℕ} {at : ℕ} {s text' : List ℕ} {end : ℕ} → Put text at s text' end → at ≡ 0 → Front end text' s
put_counts {text' = text'} {end} p z =
    let l = put_long p in
    let i = p.inside in
    let h : end ≤ length text' = omega arith in
    ((h, sym (length-take-le end text' h)), put_front p z)

pub put_same : {text : List ℕ} {at : ℕ} {s s' text' : List ℕ} {end : ℕ} → s' ≡ s → Put text at s text' end → Put text at s' text' end
put_same {text} {at} {text' = text'} {end} e p = subst (λ (x : List ℕ). Put text at x text' end) (sym e) p

-- the digits at the end of a row of 20, put into a text
pub put_digits : {text : List ℕ} {at : ℕ} (n : ℕ) {row : List ℕ} {from : ℕ} {text' : List ℕ} {end : ℕ}
    → Ends from row (decimal n) → length row ≡ 20 → Put text at (take (20 - from) (drop from row)) text' end → Put text at (decimal n) text' end
put_digits n d long p = put_same (sym (ends_part d long)) p

pub line_long : (word : List ℕ) (n : ℕ) → length (line_of word n) ≤ length word + 21
line_long word n =
    let d = decimal_long n in
    let a = length-append (word ++ decimal n) line_end in
    let b = length-append word (decimal n) in
    omega arith
