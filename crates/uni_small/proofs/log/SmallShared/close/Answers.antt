use Rattle.uni_small.proofs.Vocabulary.{Rule, slots_items, subst, ◌∙◌}
use Rattle.uni_small.proofs.Closing.{closes_alone, named_inside, ran_alone}
use Rattle.uni_small.proofs.log.SmallShared.close.Goals as goal

pub write_state-requires : goal.write_state-requires
write_state-requires g c =
    let self = c.args.self in
    let closed = c.close.ensures in
    let final = closed.values.2 in
    let holds = subst (λ key. Rule g.O.SmallObject.meaning key final.0) self.same final.1 in
    record {
      full = (closed.values.0, closed.counts.0 ∙ self.sized);
      slotless = closed.counts.1 ∙ self.slotless;
      few = self.few;
      named = named_inside g.O.SmallObject.meaning self.setup self.few.1 final.0 holds (slots_items c.close.result.words) final.2;
      wide = c.requires.wide;
    }

pub returns-clause-told : goal.returns-clause-told
returns-clause-told g c =
    let self = c.args.self in
    let final = c.close.ensures.values.2 in
    let holds = subst (λ key. Rule g.O.SmallObject.meaning key final.0) self.same final.1 in
    closes_alone g.O.SmallObject.meaning self.setup self.few.1 final.0 holds (slots_items c.close.result.words) final.2 c.write_state.new.state c.write_state.ensures.read

pub returns-clause-ran : goal.returns-clause-ran
returns-clause-ran g c =
    let self = c.args.self in
    let final = c.close.ensures.values.2 in
    let holds = subst (λ key. Rule g.O.SmallObject.meaning key final.0) self.same final.1 in
    ran_alone g.O.SmallObject.meaning self.setup self.few.1 final.0 holds (slots_items c.close.result.words) final.2 c.write_state.new.state c.write_state.ensures.read
