-- How long an accepted tree can be, and how long records without a fault and without an end can.
use Rattle.std.specs.Prelude.{ℕ, ◌+◌, ◌-◌, ◌*◌}
use Rattle.paper.specs.Limits.{limits, wide_from}
use Rattle.rules.specs.Format.{length_of}

-- the most events, each with a site; the most gates, each with a k; the most inputs, each of three bytes
abbrev pub longest_run : ℕ
longest_run = length_of 0x11 * limits.events + length_of 4 * limits.gates + length_of 8 * limits.in_all

-- in a tree each event stands in an input, and a byte names those below `wide_from`; and there is an end
abbrev pub longest_tree : ℕ
longest_tree = longest_run - (length_of 8 - length_of 5) * wide_from + length_of 7
