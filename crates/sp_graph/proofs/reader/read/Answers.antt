use Rattle.sp_graph.proofs.Texts.{is_of_none, is_of_text}
use Rattle.sp_graph.proofs.reader.read.Goals as goal

pub returns-clause-graph : goal.returns-clause-graph
returns-clause-graph c = is_of_text c.args.text.now c.read_lines-read.result c.read_lines-read.ensures

pub returns-clause-none : goal.returns-clause-none
returns-clause-none c = is_of_none c.args.text.now c.read_lines-read.result c.read_lines-read.ensures
