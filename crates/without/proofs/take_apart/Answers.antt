-- The three ways in which two top events can stand are three laws. Assumes nothing.
use Rattle.without.proofs.Apart.{part_earlier, part_later, part_equal, part_past}
use Rattle.without.proofs.take_apart.Goals as goal

pub returns-then-x-y : goal.returns-then-x-y
returns-then-x-y c =
    let store = c.requires.store in
    let family = c.requires.family in
    let f_node = c.requires.le_f in
    rw c.branches.ensures (part_past store family f_node c.past-h.ensures (part_earlier store family c.past-h.ensures.function f_node c.past-h.ensures.node_h c.if-x-y.true))

pub returns-then-y-x : goal.returns-then-y-x
returns-then-y-x c =
    let store = c.requires.store in
    let family = c.requires.family in
    let f_node = c.requires.le_f in
    rw c.branches-then-y-x.ensures (part_past store family f_node c.past-h.ensures (part_later store family c.past-h.ensures.function f_node c.past-h.ensures.node_h c.if-y-x.true))

pub returns : goal.returns
returns c =
    let store = c.requires.store in
    let family = c.requires.family in
    let f_node = c.requires.le_f in
    rw c.branches-2.ensures (part_past store family f_node c.past-h.ensures (part_equal store family c.past-h.ensures.function f_node c.past-h.ensures.node_h c.if-y-x.false c.if-x-y.false))
