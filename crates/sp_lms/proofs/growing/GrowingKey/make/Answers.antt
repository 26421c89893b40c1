use Rattle.std.proofs.Common.{◌≡◌, ℕ, ◌+◌, ◌^◌, ◌≤◌, length, ap, arith}
use Rattle.std.proofs.Math.Pow.{pow_mono}
use Rattle.sp_lms.specs.Parameters.{height}
use Rattle.sp_lms.specs.Keys.{seed_leaf}
use Rattle.sp_lms.proofs.Levels.{doubled}
use Rattle.sp_lms.proofs.Growth.{nothing_grown}
use Rattle.sp_lms.proofs.growing.GrowingKey.make.Goals as goal

pub invariant_of-result : goal.invariant_of-result
invariant_of-result c =
    let small : 2 ^ c.height.result ≤ 2 ^ 15 = pow_mono c.height.ensures.most in
    let leaves : 2 ^ c.height.result ≡ 2 ^ height c.args.lms = ap (λ (k : ℕ). 2 ^ k) c.height.ensures.value in
    let long : length c.in_ok-nodes.nodes.items ≡ 2 ^ (height c.args.lms + 1) =
    omega (arith, c.in_ok-nodes.nodes.ok, c.in_ok-nodes.ensures.len, small, leaves, doubled (height c.args.lms)) in
    record {
      within = omega arith;
      tree = nothing_grown (height c.args.lms) c.args.id (seed_leaf c.args.lms c.args.ots c.args.id c.args.seed) c.in_ok-nodes.nodes.items long;
    }
