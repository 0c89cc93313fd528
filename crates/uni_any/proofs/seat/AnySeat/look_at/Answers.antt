use Rattle.uni_any.proofs.Vocabulary.{ap, length-set, slice_set, subst, sym, told_by, with_seen, ◌<◌, ◌∙◌}
use Rattle.std.proofs.lemmas.List.{map-set}
use Rattle.uni_any.proofs.Looks.{learned_keeps}
use Rattle.uni_any.proofs.seat.AnySeat.look_at.Goals as goal

pub returns-in-Some-clause-kept : goal.returns-in-Some-clause-kept
returns-in-Some-clause-kept g c =
    let was = c.requires.kept in
    let v = c.args.self.now.party.seat.me.0.client in
    let reading = c.requires.reading in
    let keeps = learned_keeps g.O.SeqObject.sequential v c.learn.new.party.seat.me.0.client c.args.r (subst (λ k. c.args.r < k) (sym was.place.processes) c.requires.inside) reading.0 reading.1.0 reading.1.1 c.learn.result c.learn.ensures.told in
    record {
      place = c.learn.ensures.place.0;
      number = c.learn.ensures.place.1 ∙ was.number;
      inside = was.inside;
      last = keeps.1 ∙ was.last;
      seen = keeps.0 ∙ ap (λ f. (with_seen v.known.local c.args.r f).seen) c.in-Some.is ∙ ap (λ xs. slice_set xs c.args.r (told_by c.in-Some.news)) was.seen ∙ sym (map-set told_by c.args.self.now.seen.items c.args.r c.in-Some.news);
      long = length-set c.args.self.now.seen.items c.args.r c.in-Some.news ∙ was.long;
      named = was.named;
    }
