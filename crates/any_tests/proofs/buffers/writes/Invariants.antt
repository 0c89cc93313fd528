use Rattle.triple_buffers.specs.Parties.{IsPartyOf, parties_of}
use Rattle.any_tests.proofs.buffers.writes.Given as goal
use Rattle.std.specs.Prelude.{◌≡◌}

abbrev pub invariant-loop-number : goal.invariant-loop-number
invariant-loop-number l = IsPartyOf l.numbers l.party × (parties_of l.numbers ≡ 2)
