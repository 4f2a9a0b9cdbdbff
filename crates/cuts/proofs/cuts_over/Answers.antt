-- Cleared memory, marks, and the way up. Assumes nothing.
use mathlib.Core.Path.{◌∙◌}
use native.Mathlib.Omega.{arith}
use lib.ListN.{length-set}
use Rattle.cuts.proofs.Up.{up_start, room_marks}
use Rattle.cuts.proofs.cuts_over.Goals as goal

pub cut_all-requires : goal.cut_all-requires
cut_all-requires c =
    let function = c.requires.readable in
    let room = c.requires.room in
    let same = c.mark.auto.marks in
    let memo = c.args.memo.now in
    record {
      base = record { function = function; marked = c.mark.ensures; long = omega (arith, same, room.marks) };
      halfway = up_start memo (room_marks same room) (c.fill.ensures.after (λ _ e. e)) (c.fill-2.ensures.after (λ _ e. e)) (c.fill-3.ensures.after (λ _ e. e)) c.requires.places;
      root_in_bounds = simp length-set room.own;
    }
