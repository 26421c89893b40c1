use Rattle.sp_graph.proofs.Texts.{formats_are_said, texts_are_read}
use Rattle.sp_graph.proofs.laws.graphs_are_read_from_their_texts.Goals as goal

pub returns-clause-read : goal.returns-clause-read
returns-clause-read c = texts_are_read

pub returns-clause-format : goal.returns-clause-format
returns-clause-format c = formats_are_said
