use Rattle.triple_buffers.specs.Parties.{IsPartyOf, parties_of}
use Rattle.any_tests.proofs.buffers.takes.Given as goal
use Rattle.std.specs.Prelude.{◌≡◌}

abbrev pub invariant-loop : goal.invariant-loop
invariant-loop l = IsPartyOf l.numbers l.party × (parties_of l.numbers ≡ 2)
