use Rattle.std.proofs.Common.{refl}
use Rattle.uni_record.proofs.Opened.{opened_kept}
use Rattle.uni_record.proofs.recorded.Recorded.open_at.Goals as goal

pub invariant_of-result : goal.invariant_of-result
invariant_of-result g c = opened_kept g.O.SeqObject.sequential c.args.object c.args.n c.args.seq c.args.h _ _ _ _ c.requires (c.if-not-is_history.ensures.0 refl).1
    c.in_ok-world.ensures.fixed.0 c.in_ok-world.ensures.opened refl refl refl c.new.ensures c.new-2.ensures.items c.new-3.ensures.items c.new-4.ensures.items
