-- Two stores of 1, or none. Assumes nothing.
use native.Mathlib.Omega.{arith}
use lib.ListN.{length-set}
use Rattle.cuts.proofs.Marks.{failed_below, sound_below, spread_none, spread_both}
use Rattle.sizes.proofs.mark_branches.Goals as goal

pub returns-then-marks-i-ne1 : goal.returns-then-marks-i-ne1
returns-then-marks-i-ne1 c =
    let marks = c.args.marks.now in
    spread_none marks c.if-marks-i-ne1.true

pub bounds-marks-f : goal.bounds-marks-f
bounds-marks-f c =
    let held = c.requires.held in
    let two = c.requires.le_i in
    let low-failed = failed_below held two in
    omega (arith, c.failed_of-f.ensures, low-failed)

pub bounds-marks-s : goal.bounds-marks-s
bounds-marks-s c =
    let held = c.requires.held in
    let two = c.requires.le_i in
    let low-sound = sound_below held two in
    simp length-set (omega (arith, c.sound_of-s.ensures, low-sound))

pub returns : goal.returns
returns c =
    let held = c.requires.held in
    let two = c.requires.le_i in
    let marks = c.args.marks.now in
    let low-failed = failed_below held two in
    let low-sound = sound_below held two in
    spread_both marks c.if-marks-i-ne1.false c.failed_of-f.ensures c.sound_of-s.ensures (omega (arith, c.failed_of-f.ensures, low-failed)) (omega (arith, c.sound_of-s.ensures, low-sound))
