use Prim.Native.Nat.{◌-◌}
use mathlib.Core.Path.{refl}
use native.Mathlib.Omega.{arith}
use Rattle.shapes.specs.Shown.{shown}
use Rattle.shaping.proofs.Axes.{shown_ranked}
use Rattle.shaping.proofs.Alignment.{aligned_front}
use Rattle.shaping.proofs.aligned.Goals as goal

pub returns-then-n-m : goal.returns-then-n-m
returns-then-n-m c =
    let s = c.args.s in
    let t = c.args.t in
    record {
      rank = omega arith;
      left = aligned_front _ 0 (shown s) refl (omega arith);
      right = aligned_front _ 0 (shown t) refl (omega arith);
    }

pub ones_in_front-left-requires : goal.ones_in_front-left-requires
ones_in_front-left-requires c = omega (arith, shown_ranked c.args.t)

pub returns-then-n-m-2 : goal.returns-then-n-m-2
returns-then-n-m-2 c =
    let s = c.args.s in
    let t = c.args.t in
    record {
      rank = omega arith;
      left = aligned_front _ (c.rank-m.result - c.rank-n.result) (shown s) c.ones_in_front-left.ensures (omega arith);
      right = aligned_front _ 0 (shown t) refl (omega arith);
    }

pub ones_in_front-right-requires : goal.ones_in_front-right-requires
ones_in_front-right-requires c = omega (arith, shown_ranked c.args.s)

pub returns : goal.returns
returns c =
    let s = c.args.s in
    let t = c.args.t in
    record {
      rank = omega arith;
      left = aligned_front _ 0 (shown s) refl (omega arith);
      right = aligned_front _ (c.rank-n.result - c.rank-m.result) (shown t) c.ones_in_front-right.ensures (omega arith);
    }
