use Rattle.unibench_run.proofs.Vocabulary.{HasEnded, [], ap, arith, drawn_by, length, length-append, sym, xoshiro_word, ◌+◌, ◌∙◌, ◌∷◌}
use Rattle.uni_shared.specs.declared.receipt.Receipt.{Receipt}
use Rattle.unibench_run.proofs.DrawnBy.{drawn-next, words-after}
use Rattle.unibench_run.proofs.lock.make_locked_calls.Goals as goal

pub loop-preserved : goal.loop-preserved
loop-preserved g c =
    let at = c.loop.invariant in
    let old = c.loop.seat in
    let new = c.apply.follows.lender-at-none in
    let receipt = c.in-Ok.field-0.now in
    let ended : HasEnded old receipt new = rw c.in-Ok.is at c.apply.follows.holds-at-none in
    record {
      process = ended.process ∙ at.process;
      made = ap length ended.receipts ∙ length-append old.receipts (receipt ∷ []) ∙ ap (λ n. n + 1) at.made;
      asked = drawn-next g.O.Spoken.language.inv_of_word (λ (r : Receipt g.row.O-Inv.Denot g.row.O-Resp.Denot). r.inv) c.args.job.seed c.loop.counter c.draw.result
          old.receipts new.receipts receipt at.asked ended.receipts (c.in-Ok.ensures.inv ∙ c.drawn-inv.ensures) (c.draw.ensures.next ∙ at.words 0);
      words = words-after (xoshiro_word c.loop.words) (xoshiro_word c.draw.new.self) c.args.job.seed c.loop.counter at.words c.draw.ensures.rest;
    }

pub returns : goal.returns
returns g c =
    let at = c.loop.invariant in
    record {
      process = at.process;
      few = (let made = at.made in let end = c.loop.auto.counter-end in omega arith);
      asked = at.asked ∙ ap (drawn_by g.O.Spoken.language.inv_of_word c.args.job.seed) (sym at.made);
    }
