-- `text::cuts::spell` meets its contract. Assumes nothing.
use Rattle.std.proofs.Common.{arith}
use Rattle.std.proofs.lemmas.Grind.{common_steps}
use Rattle.decimals.proofs.Putting.{put_long}
use Rattle.text.proofs.Spelling.{spell_none, spell_room, spell_more, spell_end}
use Rattle.text.proofs.cuts.spell.Goals as goal

pub loop-b-init : goal.loop-b-init
loop-b-init c = spell_none c.args.room.now c.args.used c.args.text.now c.requires

pub put_byte-at-requires : goal.put_byte-at-requires
put_byte-at-requires c = omega (arith, spell_room c.loop-b.invariant c.loop-b-test.true, put_long c.loop-b.invariant.put)

pub loop-b-preserved : goal.loop-b-preserved
loop-b-preserved c = spell_more c.loop-b.invariant c.loop-b-test.true (grind (arith, common_steps)) c.put_byte-at.ensures c.behind-place.ensures

pub shape_of-text : goal.shape_of-text
shape_of-text c = put_long c.loop-b.invariant.put

pub returns : goal.returns
returns c = spell_end c.loop-b.invariant c.loop-b-test.false
