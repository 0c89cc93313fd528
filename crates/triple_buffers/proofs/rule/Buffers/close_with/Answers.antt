use Rattle.std.specs.Mem.Slots.{slots_items}
use Rattle.triple_buffers.proofs.Vocabulary.{ShowsContents, subst}
use Rattle.triple_buffers.proofs.Closing.{closed_known, closed_value, closed_word}
use Rattle.triple_buffers.proofs.rule.Buffers.close_with.Goals as goal

pub returns-clause-last : goal.returns-clause-last
returns-clause-last g c =
    let self = c.args.self in
    let seat = c.args.party.seat in
    let layout = self.setup.layout in
    let holds = g.P.BufferRule.holds self.setup.about in
    let final = c.close_with.ensures.values.2 in
    let shown = subst (λ key. ShowsContents key.layout (g.P.BufferRule.holds key.about) final.0) self.same final.1.0 in
    let words = slots_items c.close_with.result.words in
    let slots = slots_items c.close_with.result.slots in
    record {
      contents = shown.0;
      kept = shown.1;
      known = closed_known layout holds final.0 shown words final.2 slots final.4 seat.id seat.me.0 final.1.1;
      words = closed_word layout holds final.0 shown words final.2 slots final.4;
      values = λ from inside. closed_value layout holds final.0 shown words final.2 slots final.4 from c.args.party.number inside c.requires.party.inside;
    }
