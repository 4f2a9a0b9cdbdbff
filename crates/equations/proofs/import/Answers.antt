-- `equations::import` meets its contract. Assumes nothing.
use native.Mathlib.Omega.{arith}
use mathlib.Core.Path.{refl, sym, ◌∙◌}
use Prim.Native.Nat.{◌+◌}
use lib.ListN.{length}
use lib.Seq.{length-take-le, length_front}
use borrow.Author.Tests.{not-true, not-false}
use Rattle.tables.proofs.Flags.{says_true, says_false}
use Rattle.equations.specs.Contract.{short}
use Rattle.equations.proofs.Zeros.{heads_part, next_part, names_part, lent_ready, lent_cut, worked_from, imported}
use Rattle.equations.proofs.import.Goals as goal

pub returns-then-not-long_enough : goal.returns-then-not-long_enough
returns-then-not-long_enough c = rw c.from.ensures (short (says_false c.long_enough.result (not-true c.long_enough.result c.if-not-long_enough.true-raw) c.long_enough.ensures) (record { is = refl; nowhere = refl; at = refl; round = refl; tells = refl }) refl)

pub overflow_add-n : goal.overflow_add-n
overflow_add-n c = omega (arith, (says_true c.long_enough.result (not-false c.long_enough.result c.if-not-long_enough.false-raw) c.long_enough.ensures).small)

pub slice_bounds-judged-end : goal.slice_bounds-judged-end
slice_bounds-judged-end c = heads_part (says_true c.long_enough.result (not-false c.long_enough.result c.if-not-long_enough.false-raw) c.long_enough.ensures) refl

pub slice_bounds-judged-end-2 : goal.slice_bounds-judged-end-2
slice_bounds-judged-end-2 c = sym (length-take-le _ _ (heads_part (says_true c.long_enough.result (not-false c.long_enough.result c.if-not-long_enough.false-raw) c.long_enough.ensures) refl))

pub slice_bounds-judged-end-3 : goal.slice_bounds-judged-end-3
slice_bounds-judged-end-3 c = next_part (says_true c.long_enough.result (not-false c.long_enough.result c.if-not-long_enough.false-raw) c.long_enough.ensures) refl

pub slice_bounds-judged-end-4 : goal.slice_bounds-judged-end-4
slice_bounds-judged-end-4 c = sym (length-take-le _ _ (next_part (says_true c.long_enough.result (not-false c.long_enough.result c.if-not-long_enough.false-raw) c.long_enough.ensures) refl))

pub slice_bounds-judged-end-5 : goal.slice_bounds-judged-end-5
slice_bounds-judged-end-5 c = names_part (says_true c.long_enough.result (not-false c.long_enough.result c.if-not-long_enough.false-raw) c.long_enough.ensures) refl

pub slice_bounds-judged-end-6 : goal.slice_bounds-judged-end-6
slice_bounds-judged-end-6 c = sym (length-take-le _ _ (names_part (says_true c.long_enough.result (not-false c.long_enough.result c.if-not-long_enough.false-raw) c.long_enough.ensures) refl))

pub judged-a-requires : goal.judged-a-requires
judged-a-requires c =
    record {
      ready = lent_ready (says_true c.long_enough.result (not-false c.long_enough.result c.if-not-long_enough.false-raw) c.long_enough.ensures) refl (c.fill.ensures.after (λ y e. e)) (c.fill-2.ensures.after (λ y e. e));
      cut = lent_cut (says_true c.long_enough.result (not-false c.long_enough.result c.if-not-long_enough.false-raw) c.long_enough.ensures) refl;
    }

pub shape_of-heads : goal.shape_of-heads
shape_of-heads c = c.clear_work.auto.heads ∙ length_front c.args.heads.now c.judged-a.new.heads (length c.args.text.now + 1) c.judged-a.auto.heads

pub shape_of-next : goal.shape_of-next
shape_of-next c = c.clear_work.auto.next ∙ length_front c.args.next.now c.judged-a.new.next (length c.args.text.now + 1) c.judged-a.auto.next

pub shape_of-names : goal.shape_of-names
shape_of-names c = c.clear_work.auto.names ∙ length_front c.args.names.now c.judged-a.new.names (length c.args.text.now + 1) c.judged-a.auto.names

pub shape_of-defs : goal.shape_of-defs
shape_of-defs c = c.clear_work.auto.defs ∙ c.judged-a.auto.defs

pub shape_of-marks : goal.shape_of-marks
shape_of-marks c = c.clear_work.auto.marks ∙ c.judged-a.auto.marks

pub shape_of-amounts : goal.shape_of-amounts
shape_of-amounts c = c.clear_work.auto.amounts ∙ c.judged-a.auto.amounts

pub shape_of-starts : goal.shape_of-starts
shape_of-starts c = c.clear_work.auto.starts ∙ c.judged-a.auto.starts

pub shape_of-rights : goal.shape_of-rights
shape_of-rights c = c.clear_work.auto.rights ∙ c.judged-a.auto.rights

pub shape_of-order : goal.shape_of-order
shape_of-order c = c.clear_work.auto.order ∙ c.judged-a.auto.order

pub shape_of-ring : goal.shape_of-ring
shape_of-ring c = c.judged-a.auto.ring ∙ c.fill.auto.self

pub shape_of-shown : goal.shape_of-shown
shape_of-shown c = c.judged-a.auto.shown ∙ c.fill-2.auto.self

pub returns : goal.returns
returns c = imported (says_true c.long_enough.result (not-false c.long_enough.result c.if-not-long_enough.false-raw) c.long_enough.ensures) (c.fill.ensures.after (λ y e. e)) (c.fill-2.ensures.after (λ y e. e)) (worked_from (c.clear_work.ensures _ _ _ _) (length_front c.args.heads.now c.judged-a.new.heads (length c.args.text.now + 1) c.judged-a.auto.heads) (length_front c.args.next.now c.judged-a.new.next (length c.args.text.now + 1) c.judged-a.auto.next) (length_front c.args.names.now c.judged-a.new.names (length c.args.text.now + 1) c.judged-a.auto.names) c.judged-a.auto.defs c.judged-a.auto.marks c.judged-a.auto.amounts c.judged-a.auto.starts c.judged-a.auto.rights c.judged-a.auto.order) c.judged-a.ensures
