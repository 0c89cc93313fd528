use Rattle.std.proofs.Common.{◌+◌, ◌≤◌, OnOk, length, rules, subst}
use Rattle.uni_record.proofs.Packed.{length-unpacked}
use Rattle.uni_record.proofs.events.PackedEvents.reserve.Goals as goal

pub returns-clause-fits : goal.returns-clause-fits
returns-clause-fits g c = subst (λ k. OnOk c.try_reserve.result (length k.events + c.args.more ≤ c.try_reserve.new.self.cap)) c.self.view_is
    (let all = length-unpacked c.self.inside.codes.items c.self.inside.invocations.items c.self.invariant in let len = c.self.inside.codes.ok.0 in search rules)
