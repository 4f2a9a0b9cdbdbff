-- `analyser::write` meets its contract. Assumes nothing.
use Rattle.analyser.proofs.Verdicts.{with_verdict}
use borrow.Author.Rules.{rules}
use Rattle.analyser.proofs.write.Goals as goal

pub returns : goal.returns
returns c =
    let both = with_verdict _ _ c.write.ensures in
    record { whole = both.0; numbered = both.1 }
