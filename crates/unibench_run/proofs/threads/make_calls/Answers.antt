use Rattle.unibench_run.proofs.Vocabulary.{ap, arith, drawn_by, subst, sym, xoshiro_word, ◌<◌, ◌∙◌, ◌≡◌}
use Rattle.unibench_run.proofs.DrawnBy.{drawn-next, words-after}
use Rattle.unibench_run.proofs.threads.make_calls.Goals as goal

pub make_call-requires-clause-more : goal.make_call-requires-clause-more
make_call-requires-clause-more g c =
    let less : c.loop.counter < c.args.calls = c.loop-test.true in
    let told = c.loop.invariant.told in
    (c.requires.fresh.0, c.args.calls, c.loop.told.items, c.requires.fit, c.loop.invariant.made c.requires.fresh.0 c.requires.fresh.1, omega arith)

pub returns : goal.returns
returns g c = λ p fresh.
    let at = c.loop.invariant in
    let all : c.loop.counter ≡ c.args.calls = (let end = c.loop.auto.counter-end in let over = c.loop-test.false in omega arith) in
    record { many = at.told ∙ all; made = at.made p fresh; asked = at.asked ∙ ap (drawn_by g.C.Seated.call_of_word c.args.job.seed) all }

pub loop-preserved : goal.loop-preserved
loop-preserved g c =
    let at = c.loop.invariant in
    let made = c.in_ok-call.ensures in
    let pushed = c.in_ok-push.ensures.items in
    record {
      room = made.room;
      made = λ p fresh. subst (λ told. g.C.Seated.has_made c.args.shared.now p told c.make_call.new.seat) (sym pushed) (made.made p c.loop.told.items (at.made p fresh));
      told = (let longer = c.in_ok-push.ensures.len in let before = at.told in omega arith);
      asked = drawn-next g.C.Seated.call_of_word g.C.Seated.call_in c.args.job.seed c.loop.counter c.draw.result c.loop.told.items c.push.new.self.items c.in_ok-call.call at.asked pushed
          made.drawn (c.draw.ensures.next ∙ at.words 0);
      words = words-after (xoshiro_word c.loop.words) (xoshiro_word c.draw.new.self) c.args.job.seed c.loop.counter at.words c.draw.ensures.rest;
    }
