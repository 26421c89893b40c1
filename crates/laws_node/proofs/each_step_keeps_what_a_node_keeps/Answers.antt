use Rattle.laws_node.proofs.Boot.{boot_keeps}
use Rattle.laws_node.proofs.Frames.{frames_fit}
use Rattle.laws_node.proofs.Starts.{start_keeps}
use Rattle.laws_node.proofs.Steps.{each_step_keeps, extend_keeps}
use Rattle.laws_node.proofs.each_step_keeps_what_a_node_keeps.Goals as goal

pub returns-clause-boot : goal.returns-clause-boot
returns-clause-boot c = boot_keeps

pub returns-clause-start : goal.returns-clause-start
returns-clause-start c = start_keeps

pub returns-clause-step : goal.returns-clause-step
returns-clause-step c = each_step_keeps

pub returns-clause-extend : goal.returns-clause-extend
returns-clause-extend c = extend_keeps

pub returns-clause-frames : goal.returns-clause-frames
returns-clause-frames c = frames_fit
