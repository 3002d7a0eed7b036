use Rattle.bits.proofs.Operations.{cleared-fits}
use Rattle.parts.proofs.Nodes.{nodes-cleared}
use borrow.Author.Rules.{rules}
use Rattle.parts.proofs.without_node.Goals as goal

pub returns : goal.returns
returns c =
    let a = c.args in
    nodes-cleared c.without.result a.nodes a.v c.without.ensures

pub overflow_cast-result : goal.overflow_cast-result
overflow_cast-result c =
    let a = c.args in
    record { fits = cleared-fits c.without.result a.nodes a.v (search rules) (search rules) c.without.ensures }
