-- `store::make`
use mathlib.Core.Path.{sym, ◌∙◌}
use Rattle.store.proofs.Building.{made_same, made_none, made_node, made_cut}
use Rattle.store.proofs.make.Goals as goal

pub returns-then-failed-dropped : goal.returns-then-failed-dropped
returns-then-failed-dropped c =
    let r = c.requires in
    record {
      function = λ q. made_same r.store c.args.e r.failed_bound r.sound_bound (c.if-failed-dropped.true ∙ q);
      family = λ q. made_none r.store c.args.e r.failed_bound r.sound_bound (c.if-failed-dropped.true ∙ q);
    }

pub returns : goal.returns
returns c =
    let r = c.requires in
    let f = c.find_or_add in
    record {
      function = λ q. made_node r.store c.args.e r.failed_bound r.sound_bound f.new.nodes f.new.heads f.new.next f.result f.ensures (λ p. c.if-failed-dropped.false (p ∙ sym q));
      family = λ q. made_cut r.store c.args.e r.failed_bound r.sound_bound f.new.nodes f.new.heads f.new.next f.result f.ensures (λ p. c.if-failed-dropped.false (p ∙ sym q));
    }
