use Rattle.uni_script.proofs.Vocabulary.{session_of, ◌≡◌}
use Rattle.uni_script.proofs.Stepping.{IsOnTheWay}
use Rattle.uni_script.proofs.commands.step_on.Given as goal

abbrev pub invariant-loop : goal.invariant-loop
invariant-loop g l =
    (l.session.world.object ≡ l.initial.session.world.object)
    × IsOnTheWay (record { object = g.O.SeqObject.sequential l.initial.session.world.object; language = g.O.Spoken.language }) l.process (session_of l.initial.session) l.most l.counter (session_of l.session)
