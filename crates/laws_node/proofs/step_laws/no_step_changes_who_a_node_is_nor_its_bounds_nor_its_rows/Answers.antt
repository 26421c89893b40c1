use Rattle.laws_node.proofs.Shapes.{shapes_begin, shapes_start, shapes_stay}
use Rattle.laws_node.proofs.step_laws.no_step_changes_who_a_node_is_nor_its_bounds_nor_its_rows.Goals as goal

pub returns-clause-begin : goal.returns-clause-begin
returns-clause-begin c = shapes_begin

pub returns-clause-start : goal.returns-clause-start
returns-clause-start c = shapes_start

pub returns-clause-stay : goal.returns-clause-stay
returns-clause-stay c = shapes_stay
