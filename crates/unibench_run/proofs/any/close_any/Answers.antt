use Rattle.unibench_run.proofs.Vocabulary.{Global, InPlace, List, Vec, ap, arith, length, map, slice_index_or, subst, sym, ◌*◌, ◌∙◌}
use Rattle.uni_any.specs.Seats.{known_calls, processes_of}
use Rattle.unibench_run.specs.Any.{HasClosed, IsAnyRun}
use Rattle.unibench_run.proofs.ToldAny.{any_few_told, any_first_seat, any_long, any_run}
use Rattle.unibench_run.proofs.any.close_any.Goals as goal

pub swap_remove-first-requires : goal.swap_remove-first-requires
swap_remove-first-requires g c =
    let plan = c.args.plan.now in
    let done = c.args.done.items in
    let read = g.O.Spoken.language.inv_of_word in
    let are = c.requires.done in
    let long = any_long c.args.shared read _ _ _ done are in
    let same = ap length c.in-Ok.ensures.seats in
    let room = c.in-Ok.seats.ok.0 in
    let some = c.requires.plan.0.0 in
    omega (arith, long, same, room, some)

pub close_and_replay-requires-clause-seat : goal.close_and_replay-requires-clause-seat
close_and_replay-requires-clause-seat g c =
    let plan = c.args.plan.now in
    let done = c.args.done.items in
    let read = g.O.Spoken.language.inv_of_word in
    let are = c.requires.done in
    let first = c.swap_remove-first.result in
    let some = c.requires.plan.0.0 in
    any_first_seat c.args.shared read _ _ _ done are first some
    (c.swap_remove-first.ensures.value ∙ ap (λ l. slice_index_or l 0 first) c.in-Ok.ensures.seats)

pub close_and_replay-requires-clause-few : goal.close_and_replay-requires-clause-few
close_and_replay-requires-clause-few g c =
    let plan = c.args.plan.now in
    let done = c.args.done.items in
    let read = g.O.Spoken.language.inv_of_word in
    let are = c.requires.done in
    let few = any_few_told c.args.shared read _ _ _ done are c.requires.plan.0.1 c.requires.plan.0.3 in
    rw (c.deref.ensures.value ∙ c.in-Ok.ensures.told) few

pub returns-clause-told : goal.returns-clause-told
returns-clause-told g c =
    let I : Type 0 = g.row.O-Inv.Denot in
    let R : Type 0 = g.row.O-Resp.Denot in
    let plan = c.args.plan.now in
    let done = c.args.done.items in
    let read = g.O.Spoken.language.inv_of_word in
    let are = c.requires.done in
    let shared = c.args.shared in
    let object = g.O.SeqObject.sequential c.args.object.now in
    let text = g.O.Spoken.state_text in
    let first = c.swap_remove-first.result in
    let closed = subst (λ (lists : List (Vec (I × InPlace R) Global)). HasClosed object text (processes_of shared) (plan.processes * plan.calls) (known_calls first) (map (λ own. own.items) lists))
    (c.deref.ensures.value ∙ c.in-Ok.ensures.told) c.in_ok-close_and_replay.ensures.closed in
    let lists : List (List (I × InPlace R)) = map (λ (own : Vec (I × InPlace R) Global). own.items) (map (λ one. one.told) done) in
    let its = subst (λ n. HasClosed object text n (plan.processes * plan.calls) (known_calls first) lists) c.requires.plan.1 closed in
    let run = any_run shared read _ _ _ done are object text first c.requires.plan.0.0
    (c.swap_remove-first.ensures.value ∙ ap (λ l. slice_index_or l 0 first) c.in-Ok.ensures.seats) its in
    subst (λ (given : List (Vec (I × InPlace R) Global)). IsAnyRun object read text plan.processes plan.calls plan.seed (map (λ own. own.items) given)) (sym c.in-Ok.ensures.told) run
