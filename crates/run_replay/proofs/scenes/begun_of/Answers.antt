use Rattle.run_replay.proofs.Vocabulary.{Some, alone, ap, codes, field_name, world_of, ◌∙◌}
use Rattle.run_replay.proofs.Telling.{begun_is}
use Rattle.run_replay.proofs.scenes.begun_of.Goals as goal

pub returns-clause-begun : goal.returns-clause-begun
returns-clause-begun g c =
    let named = alone (field_name (Some c.in-Ok.call) (codes "inv")) in
    begun_is (g.O.SeqObject.sequential c.args.replay.now.object) g.O.Spoken.language g.O.Spoken.state_text (world_of c.args.replay.now) c.shape.ensures.sound c.args.process c.args.inv.now _
    (λ i. record { process = c.in-Ok.ensures.id.0 i; nth = c.in-Ok.ensures.id.1 i }) c.in_ok-words.ensures (c.in_ok-before.ensures ∙ ap named c.in_ok-unmade.ensures.items) (c.in_ok-after.ensures ∙ ap named c.in_ok-asked.ensures)
