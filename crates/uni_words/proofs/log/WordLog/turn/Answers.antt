use Rattle.std.proofs.Common.{rules}
use Rattle.uni_words.proofs.log.WordLog.turn.Goals as goal

pub decide_after-found-requires-clause-stands : goal.decide_after-found-requires-clause-stands
decide_after-found-requires-clause-stands g c = search rules
