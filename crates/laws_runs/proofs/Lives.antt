-- What stays as it is in a node's life.
use Rattle.std.proofs.Common.{◌≡◌, ap}
use Rattle.sp_rules.specs.Arts.{Arts}
use Rattle.sp_rules.specs.Node.{NodeState}
use Rattle.sp_rules.specs.Steps.{Input, NodeStep, Output}
use Rattle.laws_node.specs.Shapes.{Shape}
use Rattle.laws_node.proofs.Shapes.{shapes_stay}

pub record SameLife (old new : NodeState) : Type 0 where
  pub fixed : new.fixed ≡ old.fixed
  pub seed : new.signer.seed ≡ old.signer.seed
  pub bound : new.signer.bound ≡ old.signer.bound
  pub total : new.signer.total ≡ old.signer.total

-- a step stays within its node's life
pub step_stays : (arts : Arts) (n : NodeState) (input : Input) (output : Output) (new : NodeState) → NodeStep arts n input output new → SameLife n new
step_stays arts n input output new s =
    let shape = shapes_stay arts n input output new s in
    record {
      fixed = ap (λ (x : Shape). x.fixed) shape;
      seed = ap (λ (x : Shape). x.seed) shape;
      bound = ap (λ (x : Shape). x.bound) shape;
      total = ap (λ (x : Shape). x.total) shape;
    }
