use Rattle.laws_node.proofs.WindowMarks.{window_sees}
use Rattle.laws_node.proofs.priority_laws.a_window_sees_its_marks_and_all_numbers_far_below.Goals as goal

pub returns : goal.returns
returns c = window_sees
