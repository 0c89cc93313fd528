use Rattle.uni_script.proofs.grammar.reshape_of.Goals as goal

pub returns-in-One : goal.returns-in-One
returns-in-One g c = rw c.in-One.is

pub returns-in-Two : goal.returns-in-Two
returns-in-Two g c = rw c.in-Two.is
