use Rattle.laws_node.proofs.LifeWindows.{windows_of_lives}
use Rattle.laws_node.proofs.life_laws.a_window_holds_what_a_life_marked.Goals as goal

pub returns : goal.returns
returns c = windows_of_lives
