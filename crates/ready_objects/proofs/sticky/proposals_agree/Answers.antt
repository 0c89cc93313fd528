use Rattle.ready_objects.proofs.StickyReplies.{stick_replies-start}
use Rattle.ready_objects.proofs.sticky.proposals_agree.Goals as goal

pub returns : goal.returns
returns c = stick_replies-start
