use Rattle.small_objects.proofs.Reached.{reached_further}
use Rattle.small_objects.proofs.order.RemadeReplaying.make.Goals as goal

pub returns-clause-ready : goal.returns-clause-ready
returns-clause-ready g c = (
  c.make_call.ensures.room,
  reached_further (g.O.SmallObject.meaning c.args.self.now.object.now).object c.args.self.now.room.state.items c.make_call.new.room.state.items
      (g.C.Words.encode c.args.call.now) c.requires.1 c.make_call.ensures.state,
  c.requires.2,
  c.requires.3,
)
