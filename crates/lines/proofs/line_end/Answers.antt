-- `lines::line_end` meets its contract. Assumes nothing.
use Rattle.std.proofs.Common.{◌-◌, length, take, drop, ◌∙◌, rules, tests}
use Rattle.std.proofs.Common.{not, eqb}
use Rattle.std.proofs.lemmas.Iterator.{YieldsList-from_slice}
use Rattle.std.proofs.lemmas.Iterator.Consumers.{count_from_yields_List}
use Rattle.std.proofs.lemmas.Iterator.Search.{YieldsList-from_take_while}
use Rattle.std.proofs.lemmas.List.Folds.{length-prefix_len}
use Rattle.lines.proofs.Tests.{in_line_is}
use Rattle.lines.proofs.Leads.{ends_taken}
use Rattle.lines.proofs.line_end.Goals as goal

pub returns : goal.returns
returns c =
    let rest = take (length c.args.s.now - c.args.i) (drop c.args.i c.args.s.now) in
    ends_taken in_line_is c.args.s.now c.args.i c.count.result c.requires
    (count_from_yields_List c.take_while.result _ c.count.ensures.ran (YieldsList-from_take_while _ (λ b. not (eqb b 10)) (YieldsList-from_slice rest (cc)) c.take_while.ensures.closure c.take_while.ensures.done (λ x b q k. search (rules, tests))) ∙ length-prefix_len (λ b. not (eqb b 10)) rest)
