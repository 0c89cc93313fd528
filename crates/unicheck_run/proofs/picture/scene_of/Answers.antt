use Rattle.std.proofs.Common.{ap, arith}
use Rattle.unicheck_run.specs.Judged.{calls_of}
use Rattle.unicheck_run.proofs.picture.scene_of.Goals as goal
use Rattle.unicheck_run.proofs.picture.scene_of.Goals.{in-Linearizable+in_ok-order-in-Linearizable, in-NotLinearizable-Some+in_ok-first_bad_text-in-NotLinearizable-Some+in_ok-notes-in-NotLinearizable-Some+in_ok-order-in-NotLinearizable-Some, in_default}

-- the events that are drawn are all, or the first ones
pub returns-clause-calls : goal.returns-clause-calls
returns-clause-calls g c =
    let all = ap calls_of c.as_slice-all.ensures.value in
    let bars = c.in_ok-bars.ensures in
    elim c.match-finding.branch [
      | in-Linearizable+in_ok-order-in-Linearizable w ↦
          let same = ap (λ e. calls_of e.now) w.events-is in omega (arith, all, bars, same)
      | in-NotLinearizable-Some+in_ok-first_bad_text-in-NotLinearizable-Some+in_ok-notes-in-NotLinearizable-Some+in_ok-order-in-NotLinearizable-Some w ↦
          let same = ap (λ e. calls_of e.now) w.events-is in
          let few = w.up_to-events.ensures in omega (arith, all, bars, same, few)
      | in_default w ↦
          let same = ap (λ e. calls_of e.now) w.events-is in omega (arith, all, bars, same)
    ]
