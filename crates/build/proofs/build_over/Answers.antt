-- `build::build_over`
use native.Mathlib.Omega.{arith}
use Rattle.paper.specs.Flat.{gates_of}
use Rattle.build.proofs.Sofar.{sofar_cleared, same_room}
use Rattle.build.proofs.build_over.Goals as goal

pub build_gates-requires : goal.build_gates-requires
build_gates-requires c =
    record {
      plan = c.requires.plan;
      sizes_in_bounds = omega (arith, c.requires.sizes_in_bounds, c.fill-4.auto.self);
      sizes_in_bounds_2 = omega (arith, c.requires.sizes_in_bounds_2, c.fill-5.auto.self);
      sofar = sofar_cleared _ c.args.memo.now c.args.gates.now c.args.added.now c.requires.areas (c.fill.ensures.after (λ _ e. e)) (c.fill-2.ensures.after (λ _ e. e)) (c.fill-3.ensures.after (λ _ e. e)) (c.fill-4.ensures.after (λ _ e. e)) (c.fill-5.ensures.after (λ _ e. e)) c.requires.places;
    }
