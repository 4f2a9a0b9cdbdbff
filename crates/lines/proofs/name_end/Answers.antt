-- `lines::name_end` meets its contract. Assumes nothing.
use Rattle.std.proofs.Common.{◌-◌, length, take, drop, ◌∙◌, rules, tests}
use Rattle.std.proofs.lemmas.Iterator.{YieldsList-from_slice}
use Rattle.std.proofs.lemmas.Iterator.Consumers.{count_from_yields_List}
use Rattle.std.proofs.lemmas.Iterator.Search.{YieldsList-from_take_while}
use Rattle.std.proofs.lemmas.List.Folds.{length-prefix_len}
use Rattle.std.specs.Char.{is_ascii_alphanumeric}
use Rattle.lines.proofs.Tests.{letter_or_digit_is}
use Rattle.lines.proofs.Leads.{ends_taken}
use Rattle.lines.proofs.name_end.Goals as goal

pub returns : goal.returns
returns c =
    let rest = take (length c.args.s.now - c.args.i) (drop c.args.i c.args.s.now) in
    ends_taken letter_or_digit_is c.args.s.now c.args.i c.count.result c.requires
    (count_from_yields_List c.take_while.result _ c.count.ensures.ran (YieldsList-from_take_while _ is_ascii_alphanumeric (YieldsList-from_slice rest (cc)) c.take_while.ensures.closure c.take_while.ensures.done (λ x b q k. search (rules, tests))) ∙ length-prefix_len is_ascii_alphanumeric rest)
