use Rattle.laws_node.proofs.FreshLemmas.{fresh_frames_rise}
use Rattle.laws_node.proofs.link_laws.no_frame_is_fresh_twice.Goals as goal

pub returns : goal.returns
returns c = fresh_frames_rise
