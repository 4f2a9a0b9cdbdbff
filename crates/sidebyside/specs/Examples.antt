-- Listings, good and bad, judged by computing, and pairs of them compared.
-- Assumes nothing.
use Rattle.std.specs.Prelude.{◌≡◌, refl, true, not, List, [], ◌∷◌, map, ℕ, Option, None, Result, Ok, Err}
use Rattle.paper.specs.Lists.{every}
use Rattle.paper.specs.Bytes.{same}
use Rattle.paper.specs.Listing.{member, member_bytes, cut_bytes}
use Rattle.sidebyside.specs.Members.{cuts_bytes}
use Rattle.sidebyside.specs.Judge.{push, cuts_from, rising_from, before, in_row, judge}
use Rattle.sidebyside.specs.Differing.{differ, difference_of, among, gone_by, kept_by, numbers_of}
use Rattle.sidebyside.specs.Finding.{shown}
use Rattle.sidebyside.specs.declared.Side.{Side}
use Rattle.sidebyside.specs.declared.Side.TheVariants.{Yesterday, Today}
use Rattle.sidebyside.specs.declared.Difference.{Difference}
use Rattle.sidebyside.specs.declared.Numbers.{Numbers}

-- no cut; the empty set alone; one member, the highest of one byte too; a member and its subset, the longer first; members 0x21 and 0x22; the empty set last;
-- members 256 and 1023; members 255, 256 and 257 of one cut; those of three cuts; bytes 21, 22 and 23 of a number
abbrev pub goods : List (List ℕ)
goods =
    []
    ∷ (0x22 ∷ [])
    ∷ (0x21 ∷ 0 ∷ 0x22 ∷ [])
    ∷ (0x21 ∷ 255 ∷ 0x22 ∷ [])
    ∷ (0x21 ∷ 5 ∷ 0x21 ∷ 6 ∷ 0x22 ∷ 0x21 ∷ 5 ∷ 0x22 ∷ [])
    ∷ (0x21 ∷ 0x21 ∷ 0x21 ∷ 0x22 ∷ 0x22 ∷ 0x21 ∷ 0x22 ∷ 0x22 ∷ [])
    ∷ (0x21 ∷ 0 ∷ 0x22 ∷ 0x21 ∷ 1 ∷ 0x22 ∷ 0x22 ∷ [])
    ∷ (0x23 ∷ 0 ∷ 1 ∷ 0x22 ∷ [])
    ∷ (0x23 ∷ 255 ∷ 3 ∷ 0x22 ∷ [])
    ∷ (0x21 ∷ 255 ∷ 0x23 ∷ 0 ∷ 1 ∷ 0x23 ∷ 1 ∷ 1 ∷ 0x22 ∷ [])
    ∷ (0x21 ∷ 255 ∷ 0x22 ∷ 0x23 ∷ 0 ∷ 1 ∷ 0x22 ∷ 0x23 ∷ 1 ∷ 1 ∷ 0x22 ∷ [])
    ∷ (0x23 ∷ 0x21 ∷ 1 ∷ 0x23 ∷ 0x22 ∷ 1 ∷ 0x23 ∷ 0x23 ∷ 1 ∷ 0x22 ∷ [])
    ∷ []

pub good_ones : every judge goods ≡ true
unfolding judge same cuts_from push rising_from before in_row cuts_bytes cut_bytes member_bytes member
good_ones = refl

-- ends inside a cut, three ways; a cut twice, two ways; a cut behind the empty set; members fall, or stand twice; the subset first; out of order;
-- kind 24; another byte, and one behind a listing;
-- kind 23: with 0, 255, 1024 and 65535; ends inside it, three ways; members fall from 256 to 255, or from 512 to 257; out of order; a cut twice
abbrev pub bads : List (List ℕ)
bads =
    (0x21 ∷ [])
    ∷ (0x21 ∷ 0 ∷ [])
    ∷ (0x21 ∷ 0 ∷ 0x21 ∷ [])
    ∷ (0x22 ∷ 0x22 ∷ [])
    ∷ (0x21 ∷ 0 ∷ 0x22 ∷ 0x21 ∷ 0 ∷ 0x22 ∷ [])
    ∷ (0x22 ∷ 0x21 ∷ 0 ∷ 0x22 ∷ [])
    ∷ (0x21 ∷ 1 ∷ 0x21 ∷ 0 ∷ 0x22 ∷ [])
    ∷ (0x21 ∷ 1 ∷ 0x21 ∷ 1 ∷ 0x22 ∷ [])
    ∷ (0x21 ∷ 5 ∷ 0x22 ∷ 0x21 ∷ 5 ∷ 0x21 ∷ 6 ∷ 0x22 ∷ [])
    ∷ (0x21 ∷ 1 ∷ 0x22 ∷ 0x21 ∷ 0 ∷ 0x22 ∷ [])
    ∷ (0x24 ∷ 0 ∷ 1 ∷ 0x22 ∷ [])
    ∷ (0 ∷ [])
    ∷ (0x21 ∷ 0 ∷ 0x22 ∷ 0 ∷ [])
    ∷ (0x23 ∷ 0 ∷ 0 ∷ 0x22 ∷ [])
    ∷ (0x23 ∷ 255 ∷ 0 ∷ 0x22 ∷ [])
    ∷ (0x23 ∷ 0 ∷ 4 ∷ 0x22 ∷ [])
    ∷ (0x23 ∷ 255 ∷ 255 ∷ 0x22 ∷ [])
    ∷ (0x23 ∷ [])
    ∷ (0x23 ∷ 0 ∷ [])
    ∷ (0x23 ∷ 0 ∷ 1 ∷ [])
    ∷ (0x23 ∷ 0 ∷ 1 ∷ 0x21 ∷ 255 ∷ 0x22 ∷ [])
    ∷ (0x23 ∷ 0 ∷ 2 ∷ 0x23 ∷ 1 ∷ 1 ∷ 0x22 ∷ [])
    ∷ (0x23 ∷ 0 ∷ 1 ∷ 0x22 ∷ 0x21 ∷ 255 ∷ 0x22 ∷ [])
    ∷ (0x23 ∷ 0 ∷ 1 ∷ 0x22 ∷ 0x23 ∷ 0 ∷ 1 ∷ 0x22 ∷ [])
    ∷ []

pub bad_ones : every (λ s. not (judge s)) bads ≡ true
unfolding judge same cuts_from push rising_from before in_row cuts_bytes cut_bytes member_bytes member
bad_ones = refl

-- ---- two listings

-- the listings of the paper's cases 1 and 6, and the first with its last byte lost
abbrev case1 : List ℕ
case1 = 0x21 ∷ 0 ∷ 0x21 ∷ 1 ∷ 0x22 ∷ 0x21 ∷ 1 ∷ 0x21 ∷ 2 ∷ 0x22 ∷ []

abbrev case6 : List ℕ
case6 = 0x21 ∷ 0 ∷ 0x21 ∷ 1 ∷ 0x22 ∷ 0x21 ∷ 0 ∷ 0x21 ∷ 2 ∷ 0x22 ∷ 0x21 ∷ 1 ∷ 0x21 ∷ 2 ∷ 0x22 ∷ []

abbrev broken : List ℕ
broken = 0x21 ∷ 0 ∷ 0x21 ∷ 1 ∷ 0x22 ∷ 0x21 ∷ 1 ∷ 0x21 ∷ 2 ∷ []

-- one cut: {0, 1}, which begins both, and {0}
abbrev pair : List ℕ
pair = 0x21 ∷ 0 ∷ 0x21 ∷ 1 ∷ 0x22 ∷ []

abbrev single : List ℕ
single = 0x21 ∷ 0 ∷ 0x22 ∷ []

-- {255} and {256}, and {255, 256}
abbrev apart : List ℕ
apart = 0x21 ∷ 255 ∷ 0x22 ∷ 0x23 ∷ 0 ∷ 1 ∷ 0x22 ∷ []

abbrev across : List ℕ
across = 0x21 ∷ 255 ∷ 0x23 ∷ 0 ∷ 1 ∷ 0x22 ∷ []

record Row : Type 0 where
  yesterday : List ℕ
  today : List ℕ
  found : Result (Option Difference) Side
  counted : Result Numbers Side

row : List ℕ → List ℕ → Result (Option Difference) Side → Result Numbers Side → Row
row y t d n = record { yesterday = y; today = t; found = d; counted = n }

abbrev counted : ℕ → ℕ → ℕ → Result Numbers Side
counted g n k = Ok (record { gone = g; new = n; kept = k })

-- case 1 against case 6, and the other way; one day twice; a prefix, and the other way; the empty cut against no cut, and the other way;
-- by the order and not by the place; a fault behind the first difference; both bad; a member from 256 on in one of them, both ways
table : List Row
table =
    row case1 case6 (Ok (shown Today 5 10)) (counted 0 1 2)
    ∷ row case6 case1 (Ok (shown Yesterday 5 10)) (counted 1 0 2)
    ∷ row case6 case6 (Ok None) (counted 0 0 3)
    ∷ row pair case1 (Ok (shown Today 5 10)) (counted 0 1 1)
    ∷ row case1 pair (Ok (shown Yesterday 5 10)) (counted 1 0 1)
    ∷ row (0x22 ∷ []) [] (Ok (shown Yesterday 0 1)) (counted 1 0 0)
    ∷ row [] (0x22 ∷ []) (Ok (shown Today 0 1)) (counted 0 1 0)
    ∷ row [] [] (Ok None) (counted 0 0 0)
    ∷ row single pair (Ok (shown Today 0 5)) (counted 1 1 0)
    ∷ row single broken (Err Today) (Err Today)
    ∷ row broken single (Err Yesterday) (Err Yesterday)
    ∷ row broken (0 ∷ []) (Err Yesterday) (Err Yesterday)
    ∷ row apart across (Ok (shown Today 0 6)) (counted 2 1 0)
    ∷ row across apart (Ok (shown Yesterday 0 6)) (counted 1 2 0)
    ∷ []

as_they_differ : map (λ r. difference_of r.yesterday r.today) table ≡ map (λ r. r.found) table
unfolding row table difference_of differ judge same cuts_from push rising_from before in_row cuts_bytes cut_bytes member_bytes member
as_they_differ = refl

as_they_count : map (λ r. numbers_of r.yesterday r.today) table ≡ map (λ r. r.counted) table
unfolding row table numbers_of gone_by kept_by among judge same cuts_from push rising_from before in_row cuts_bytes cut_bytes member_bytes member
as_they_count = refl
