-- `atleast::pair`
use Rattle.std.proofs.lemmas.Result.{err_from_is_err_and}
use Rattle.atleast.proofs.Taking.{first_ready, second_ready, pair_first, pair_second}
use Rattle.atleast.proofs.pair.Goals as goal

pub returns-in_err-both : goal.returns-in_err-both
returns-in_err-both c =
    let e = err_from_is_err_and c.from_residual.result c.from_residual.ensures.1 in
    rw (e.1, e.2) (pair_first c.requires.held c.requires.x_bound c.requires.less_bound c.requires.more_bound c.in_err-both.ensures)

pub returns : goal.returns
returns c = pair_second c.requires.held c.requires.x_bound c.requires.less_bound c.requires.more_bound c.in_ok-both.ensures c.join-2.new.nodes c.join-2.new.heads c.join-2.new.next c.join-2.new.memo c.join-2.result c.join-2.ensures
