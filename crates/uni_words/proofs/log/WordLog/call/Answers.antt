use Rattle.std.proofs.Common.{rules}
use Rattle.uni_words.proofs.log.WordLog.call.Goals as goal

pub finish-requires-clause-read : goal.finish-requires-clause-read
finish-requires-clause-read g c = search rules

pub returns-clause-own : goal.returns-clause-own
returns-clause-own g c = search rules

pub load_reply-word-requires-clause-stands : goal.load_reply-word-requires-clause-stands
load_reply-word-requires-clause-stands g c = search rules
