use Rattle.uni_shared.proofs.Vocabulary.{Receipt, [], ap, refl, rules, ◌++◌, ◌∙◌, ◌∷◌}
use Rattle.uni_shared.proofs.seat.Seat.go.Goals as goal

pub returns-in-Ok-clause-ended : goal.returns-in-Ok-clause-ended
returns-in-Ok-clause-ended g c =
    let was = c.in-Some.ensures.value ∙ ap (λ v. v.pending) c.self.view_is in
    let receipt : Receipt g.row.O-Inv.Denot g.row.O-Resp.Denot = record { call = c.in-Some.asked.call; inv = c.in-Some.asked.inv; reply = c.in-Ok.end.reply; steps = c.in-Ok.end.steps; turns = c.in-Ok.end.turns } in (
      receipt,
      record { call = rw (← was) refl; asks = rw (← was) refl },
      record {
        process = ap (λ v. v.process) c.self.view_is;
        processes = ap (λ v. v.processes) c.self.view_is;
        pending = c.in-Some.ensures.after;
        receipts = c.push_reserved.ensures.items ∙ ap (λ v. v.receipts ++ receipt ∷ []) c.self.view_is;
      },
    )

pub returns-in-Err-clause-stopped : goal.returns-in-Err-clause-stopped
returns-in-Err-clause-stopped g c = search rules
