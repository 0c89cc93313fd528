use Rattle.uni_any.proofs.Placing.{place_kept}
use Rattle.uni_any.proofs.Starting.{starts}
use Rattle.uni_any.proofs.steps.start.Goals as goal

pub load-requires-clause-rule : goal.load-requires-clause-rule
load-requires-clause-rule g c =
    let key = c.args.buffers.now.setup.about in
    let place = c.requires.place in
    starts g.O.SeqObject.sequential key.object key.processes c.args.party.now.seat.id c.args.party.now.seat.me.0.client place.alone c.requires.pending.0 c.requires.pending.1.0 c.requires.pending.1.1 place.processes

pub returns-clause-place : goal.returns-clause-place
returns-clause-place g c =
    let w = c.load.ensures.told c.requires.pending.0 c.requires.pending.1.0 c.requires.pending.1.1 in
    (place_kept c.args.buffers.now c.args.party.now c.load.new.party c.requires.place c.load.ensures.kept.0 c.load.ensures.kept.1 _ w.2, c.load.ensures.kept.1)
