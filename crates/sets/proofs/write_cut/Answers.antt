-- `sets::write_cut` meets its contract. Assumes nothing.
use mathlib.Core.Path.{◌∙◌}
use lib.ListN.{length-set}
use Rattle.paper.specs.Listing.{set_bytes}
use Rattle.sets.specs.Words.{set_of, room}
use Rattle.sets.proofs.Count.{bytes_most}
use Rattle.sets.proofs.Bytes.{laid_short, members_fit}
use Rattle.sets.proofs.Line.{size_counted, cut_small, cut_size, kept_counted, kept_bytes, kept_line, line_ready, kept_left, copied, cut_done, line_next}
use native.Mathlib.Omega.{arith}
use Rattle.sets.proofs.write_cut.Goals as goal

pub bytes_of-bytes-requires : goal.bytes_of-bytes-requires
bytes_of-bytes-requires c = size_counted c.requires.1 c.recount-size.ensures.0 c.recount-size.ensures.1 c.requires.0

pub overflow_add-bytes : goal.overflow_add-bytes
overflow_add-bytes c = omega (arith, cut_small c.requires.1 c.recount-size.ensures.0 c.recount-size.ensures.1 c.requires.0 c.bytes_of-bytes.ensures)

pub returns-then-left-bytes : goal.returns-then-left-bytes
returns-then-left-bytes c = let ws = c.args.ws.now in (laid_short (set_bytes (room ws) (set_of ws)) c.args.left.now (cut_size c.requires.1 c.recount-size.ensures.0 c.recount-size.ensures.1 c.bytes_of-bytes.ensures) c.if-left-bytes.true, c.recount-size.ensures.1, tt)

pub bytes_of-at-requires : goal.bytes_of-at-requires
bytes_of-at-requires c = kept_counted c.requires.1 c.recount-size.ensures.1 c.requires.4 c.requires.0

pub copy-requires : goal.copy-requires
copy-requires c = (kept_line c.requires.1 c.requires.3 (kept_bytes c.requires.1 c.recount-size.ensures.1 c.requires.4 c.bytes_of-at.ensures), kept_left c.requires.1 c.requires.3 (kept_bytes c.requires.1 c.recount-size.ensures.1 c.requires.4 c.bytes_of-at.ensures) c.args.left.now (cut_size c.requires.1 c.recount-size.ensures.0 c.recount-size.ensures.1 c.bytes_of-bytes.ensures) c.if-left-bytes.false)

pub write_from-end-requires : goal.write_from-end-requires
write_from-end-requires c = (c.requires.0, c.requires.1, line_ready c.requires.1 c.requires.3 (kept_bytes c.requires.1 c.recount-size.ensures.1 c.requires.4 c.bytes_of-at.ensures), copied c.requires.1 c.requires.3 (kept_bytes c.requires.1 c.recount-size.ensures.1 c.requires.4 c.bytes_of-at.ensures) c.args.left.now (cut_size c.requires.1 c.recount-size.ensures.0 c.recount-size.ensures.1 c.bytes_of-bytes.ensures) c.if-left-bytes.false c.copy.ensures c.copy.auto.left)

pub bounds-left-end : goal.bounds-left-end
bounds-left-end c = omega (arith, members_fit c.args.ws.now c.args.left.now (cut_size c.requires.1 c.recount-size.ensures.0 c.recount-size.ensures.1 c.bytes_of-bytes.ensures) c.if-left-bytes.false, c.write_from-end.ensures.1.ends, c.write_from-end.auto.left, c.copy.auto.left)

pub returns : goal.returns
returns c = (cut_done c.requires.1 c.requires.3 (kept_bytes c.requires.1 c.recount-size.ensures.1 c.requires.4 c.bytes_of-at.ensures) c.args.left.now (cut_size c.requires.1 c.recount-size.ensures.0 c.recount-size.ensures.1 c.bytes_of-bytes.ensures) c.if-left-bytes.false c.copy.ensures c.write_from-end.ensures.1, c.recount-size.ensures.1, line_next c.requires.1 c.requires.3 (kept_bytes c.requires.1 c.recount-size.ensures.1 c.requires.4 c.bytes_of-at.ensures) c.write_from-end.auto.line c.write_from-end.ensures.0)
