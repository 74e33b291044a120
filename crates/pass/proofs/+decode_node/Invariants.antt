use Rattle.pass.proofs.+decode_node.Given as goal

abbrev pub decreases-decode_node : goal.decreases-decode_node
decreases-decode_node l = l.layer
