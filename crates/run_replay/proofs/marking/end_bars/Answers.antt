use Rattle.run_replay.proofs.Vocabulary.{ap, arith, bar_ended, bar_shown, end_shown, length, map, ◌<◌, ◌∙◌, ◌≡◌, ◌≤◌}
use Rattle.run_replay.proofs.Replayed.{changed-more, changed-end, written_back}
use Rattle.run_replay.proofs.marking.end_bars.Goals as goal

pub loop-bar-preserved : goal.loop-bar-preserved
loop-bar-preserved c =
    let same = c.loop-bar.auto.bar-items in
    let test = c.loop-bar-test.true in
    let within : c.loop-bar.bar-index < length c.loop-bar.bar-items = omega arith in
    changed-more bar_shown (bar_ended c.args.process (end_shown c.in-Some.end)) c.loop-bar.bar-items c.loop-bar.bar-index c.bar-item.result c.end_bar.new.bar _ within c.in_ok-end_bar.ensures c.loop-bar.invariant

pub returns : goal.returns
returns c =
    let same = c.loop-bar.auto.bar-items in
    let value = ap length c.deref_mut-bar-items.ensures.value in
    let long : length c.loop-bar.bar-items ≡ length c.args.bars.now.items = same ∙ value in
    let test = c.loop-bar-test.false in
    let past : length c.loop-bar.bar-items ≤ c.loop-bar.bar-index = omega arith in
    rw c.in-Some.is (ap (map bar_shown) (written_back c.loop-bar.bar-items c.args.bars.now.items c.args.bars.now.len long c.args.bars.now.ok.0)
    ∙ changed-end bar_shown (bar_ended c.args.process (end_shown c.in-Some.end)) c.loop-bar.bar-items c.loop-bar.bar-index _ past c.loop-bar.invariant)
