use Rattle.grammar.proofs.Completing.{completed, begun}
use Rattle.grammar.proofs.laws.begins.Goals as goal

pub returns-clause-completed : goal.returns-clause-completed
returns-clause-completed g c = λ lists p ts b. completed g.G.Grammar.is g.G.Grammar.choice lists b

pub returns-clause-begun : goal.returns-clause-begun
returns-clause-begun g c = λ p ts h. begun g.G.Grammar.is g.G.Grammar.choice h
