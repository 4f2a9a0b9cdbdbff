-- `sets::write_from` meets its contract. Assumes nothing.
use mathlib.Core.Path.{◌∙◌}
use Prim.Native.Nat.{◌/◌}
use Rattle.sets.proofs.Bytes.{spell_long}
use Rattle.sets.proofs.Beside.{low_word, high_word}
use Rattle.sets.proofs.Line.{spell_again, first_room, first_word, next_room, next_word, no_word}
use native.Mathlib.Omega.{arith}
use Rattle.sets.proofs.write_from.Goals as goal

pub write_word-end-requires : goal.write_word-end-requires
write_word-end-requires c = let f = (c.type_inv.ws (c.args.low / 64)).fits in (omega (arith, low_word c.requires.1, c.requires.0), first_room c.requires.1 c.requires.2 f, first_room c.requires.1 c.requires.3 f)

pub loop-k-init : goal.loop-k-init
loop-k-init c = let f = (c.type_inv.ws (c.args.low / 64)).fits in (spell_again (first_word c.requires.1 c.requires.2 f c.write_word-end.ensures.0), spell_again (first_word c.requires.1 c.requires.3 f c.write_word-end.ensures.1))

pub write_word-end-requires-in-loop-k : goal.write_word-end-requires-in-loop-k
write_word-end-requires-in-loop-k c = (omega (arith, high_word c.requires.1, c.requires.0), next_room c.requires.1 c.loop-k.invariant.0 c.loop-k-test.true, next_room c.requires.1 c.loop-k.invariant.1 c.loop-k-test.true)

pub loop-k-preserved : goal.loop-k-preserved
loop-k-preserved c = (next_word c.requires.1 c.loop-k.invariant.0 c.loop-k-test.true c.write_word-end-in-loop-k.ensures.0, next_word c.requires.1 c.loop-k.invariant.1 c.loop-k-test.true c.write_word-end-in-loop-k.ensures.1)

pub returns : goal.returns
returns c =
    let f = (c.type_inv.ws (c.args.low / 64)).fits in (
      no_word c.requires.1 c.loop-k.invariant.0 (omega (arith, c.requires.1.rise)) c.loop-k-test.false (first_word c.requires.1 c.requires.2 f c.write_word-end.ensures.0),
      no_word c.requires.1 c.loop-k.invariant.1 (omega (arith, c.requires.1.rise)) c.loop-k-test.false (first_word c.requires.1 c.requires.3 f c.write_word-end.ensures.1),
    )
