use Rattle.std.proofs.Common.{◌∙◌, ◌+◌, arith, map}
use Rattle.history_text.proofs.Telling.{line_added, line_passed}
use Rattle.history_text.proofs.own.tolds_of.Goals as goal

pub loop-line-preserved : goal.loop-line-preserved
loop-line-preserved g c =
    let wording = g.O.Worded.wording in
    let old = map (λ placed. placed.told) c.loop-line.tolds.items in
    let new = map (λ placed. placed.told) c.add_line.new.tolds.items in
    let i = c.loop-line.line-index in
    let adds = c.in_ok-add_line.ensures.added in
    record {
      told = line_added wording c.args.lines.now i _ c.loop-line-test.true old new adds ∙ c.loop-line.invariant.told;
      first = line_passed wording c.args.lines.now i _ c.loop-line-test.true (c.loop-line.number + 1) old new adds ∙ c.loop-line.invariant.first;
      counted = omega arith;
    }
