use Rattle.run_graph.proofs.Reached.{has_each_world}
use Rattle.run_graph.proofs.laws.each_world_has_a_node.Goals as goal

pub returns : goal.returns
returns g c = λ plan paths targets graph. has_each_world plan paths targets graph
