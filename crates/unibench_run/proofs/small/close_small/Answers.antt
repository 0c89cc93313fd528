use Rattle.unibench_run.proofs.Vocabulary.{All-same, Global, InPlace, HasHistory, IsReplayed, IsSmallRun, List, Vec, drop, flat_map, known_calls, map, placed, subst, sym, ◌∙◌}
use Rattle.uni_small.specs.Belongs.{IsSeatOf}
use Rattle.unibench_run.proofs.ToldSmall.{few_told, small_run, small_seats}
use Rattle.unibench_run.proofs.small.close_small.Goals as goal

pub close_and_replay-requires-clause-seats : goal.close_and_replay-requires-clause-seats
close_and_replay-requires-clause-seats g c =
    All-same (IsSeatOf c.args.shared) _ _ c.in_ok-seats.ensures.seats
    (small_seats c.args.shared g.O.Call.Words.encode g.O.Reply.Words.decode g.O.DrawnCalls.call_of_word _ _ _ c.args.done.items c.requires.done)

pub close_and_replay-requires-clause-few : goal.close_and_replay-requires-clause-few
close_and_replay-requires-clause-few g c =
    let few = few_told c.args.shared g.O.Call.Words.encode g.O.Reply.Words.decode g.O.DrawnCalls.call_of_word _ _ _ c.args.done.items c.requires.done c.requires.plan.0.1 c.requires.plan.0.3 in
    rw (c.deref.ensures.value ∙ c.in_ok-seats.ensures.told) few

pub returns-clause-told : goal.returns-clause-told
returns-clause-told g c =
    let C : Type 0 = g.row.O-Call.Denot in
    let R : Type 0 = g.row.O-Reply.Denot in
    let plan = c.args.plan.now in
    let shared = c.args.shared in
    let meaning = g.O.SmallObject.meaning c.args.object.now in
    let asks = g.O.Call.Words.encode in
    let tells = g.O.Reply.Words.encode in
    let reads = g.O.Reply.Words.decode in
    let closed = c.in_ok-close_and_replay.ensures.closed in
    let final = subst (λ seats. HasHistory (placed meaning).object plan.processes (flat_map known_calls seats) closed.0) c.in_ok-seats.ensures.seats
    (subst (λ n. HasHistory (placed meaning).object n (flat_map known_calls c.in_ok-seats.seats.items) closed.0) c.requires.plan.1 closed.1) in
    let replayed = subst (λ (lists : List (Vec (C × InPlace R) Global)). IsReplayed meaning.object asks tells (map (λ own. own.items) lists) (drop 1 closed.0))
    (c.deref.ensures.value ∙ c.in_ok-seats.ensures.told) closed.2 in
    subst (λ (lists : List (Vec (C × InPlace R) Global)). IsSmallRun meaning asks tells reads g.O.DrawnCalls.call_of_word plan.processes plan.calls plan.seed (map (λ own. own.items) lists))
    (sym c.in_ok-seats.ensures.told) (small_run shared asks reads g.O.DrawnCalls.call_of_word _ _ _ c.args.done.items c.requires.done meaning tells closed.0 final replayed)
