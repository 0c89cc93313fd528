use Rattle.uni_small.proofs.Vocabulary.{HasHistory, Rule, slots_items, subst, ◌∙◌, ◌∷◌}
use Rattle.uni_small.specs.Ended.{HasRunTo}
use Rattle.uni_small.proofs.Closing.{closes_with, named_inside, ran_with}
use Rattle.uni_small.proofs.log.SmallShared.close_with.Goals as goal

pub write_state-requires : goal.write_state-requires
write_state-requires g c =
    let self = c.args.self in
    let closed = c.close_with.ensures in
    let final = closed.values.2 in
    let holds = subst (λ key. Rule g.O.SmallObject.meaning key final.0) self.same final.1.0 in
    record {
      full = (closed.values.0, closed.counts.0 ∙ self.sized);
      slotless = closed.counts.1 ∙ self.slotless;
      few = self.few;
      named = named_inside g.O.SmallObject.meaning self.setup self.few.1 final.0 holds (slots_items c.close_with.result.words) final.2;
      wide = c.requires.wide;
    }

pub returns-clause-told : goal.returns-clause-told
returns-clause-told g c =
    let self = c.args.self in
    let seat = c.args.seat in
    let final = c.close_with.ensures.values.2 in
    let holds = subst (λ key. Rule g.O.SmallObject.meaning key final.0) self.same final.1.0 in
    subst (λ p. HasHistory (g.O.SmallObject.meaning self.setup.object).object self.setup.sizes.processes (record { process = p; calls = seat.seat.me.0.known.local.own } ∷ seat.seat.me.0.known.taken) c.write_state.new.state) seat.stands.0
    (closes_with g.O.SmallObject.meaning self.setup self.few.1 final.0 holds (slots_items c.close_with.result.words) final.2 seat.seat.id seat.seat.me.0 final.1.1 seat.stands.1 seat.idle c.write_state.new.state c.write_state.ensures.read)

pub returns-clause-ran : goal.returns-clause-ran
returns-clause-ran g c =
    let self = c.args.self in
    let seat = c.args.seat in
    let final = c.close_with.ensures.values.2 in
    let holds = subst (λ key. Rule g.O.SmallObject.meaning key final.0) self.same final.1.0 in
    subst (λ p. HasRunTo (g.O.SmallObject.meaning self.setup.object).object self.setup.sizes (record { process = p; calls = seat.seat.me.0.known.local.own } ∷ seat.seat.me.0.known.taken) c.write_state.new.state) seat.stands.0
    (ran_with g.O.SmallObject.meaning self.setup self.few.1 final.0 holds (slots_items c.close_with.result.words) final.2 seat.seat.id seat.seat.me.0 final.1.1 seat.stands.1 seat.idle c.write_state.new.state c.write_state.ensures.read)
