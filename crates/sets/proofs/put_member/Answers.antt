-- `sets::put_member` meets its contract. Assumes nothing.
use native.Mathlib.Omega.{arith}
use lib.ListN.{length-set}
use Rattle.paper.proofs.Listing.{narrow_long, wide_long}
use Rattle.sets.proofs.Bytes.{put_narrow, put_wide}
use Rattle.sets.proofs.put_member.Goals as goal

pub bounds-room-at : goal.bounds-room-at
bounds-room-at c = let n = narrow_long c.args.e (omega arith) in omega arith

pub bounds-room-at-then-e : goal.bounds-room-at-then-e
bounds-room-at-then-e c = let n = narrow_long c.args.e (omega arith) in simp length-set (omega arith)

pub returns-then-e : goal.returns-then-e
returns-then-e c = put_narrow (omega arith) c.requires.1

pub bounds-room-at-2 : goal.bounds-room-at-2
bounds-room-at-2 c = let n = wide_long c.args.e (omega arith) in omega arith

pub bounds-room-at-3 : goal.bounds-room-at-3
bounds-room-at-3 c = let n = wide_long c.args.e (omega arith) in simp length-set (omega arith)

pub bounds-room-at-4 : goal.bounds-room-at-4
bounds-room-at-4 c = let n = wide_long c.args.e (omega arith) in simp length-set (omega arith)

pub returns : goal.returns
returns c = put_wide (omega arith) c.requires.1
