use Rattle.unibench_run.proofs.Vocabulary.{[], ap, arith, length, length-map, sym, ◌++◌, ◌∙◌, ◌∷◌, ◌≡◌}
use Rattle.uni_any.specs.Seats.{own_calls, version_of}
use Rattle.unibench_run.proofs.ToldAny.{any_told_more}
use Rattle.unibench_run.proofs.any.AnySharedCountedSeated.make_call.Goals as goal

pub make_any_call-requires-clause-seat : goal.make_any_call-requires-clause-seat
make_any_call-requires-clause-seat g c = (c.requires.more.4.is_seat, c.requires.more.4.idle)

pub make_any_call-requires-clause-few : goal.make_any_call-requires-clause-few
make_any_call-requires-clause-few g c =
    let less = c.requires.more.5 in
    let fit = c.requires.more.3 in
    let same : length c.requires.more.2 ≡ length (own_calls c.args.seat.now) = ap length c.requires.more.4.own ∙ length-map (own_calls c.args.seat.now) _ in
    omega arith

pub returns-clause-made : goal.returns-clause-made
returns-clause-made g c = λ p told made.
    let its = c.in_ok-answer.ensures in
    let again : c.drawn.result ≡ c.drawn-2.result = c.drawn.ensures ∙ sym c.drawn-2.ensures in
    let own = its.own
    ∙ ap (λ i. own_calls c.args.seat.now ++ record { inv = i; reply = c.in_ok-answer.answer.reply; after = version_of c.args.seat.now; version = c.in_ok-answer.answer.version } ∷ []) again in
    record {
      is_seat = its.kept.0;
      process = its.process ∙ made.process;
      idle = its.kept.1;
      own = any_told_more told (c.drawn-2.result, c.in_ok-answer.answer.reply) (own_calls c.args.seat.now) _ (version_of c.args.seat.now) c.in_ok-answer.answer.version made.own own;
    }
