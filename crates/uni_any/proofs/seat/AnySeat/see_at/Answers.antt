use Rattle.uni_any.proofs.Vocabulary.{View, ap, length-set, slice_set, sym, told_by, with_seen, ◌∙◌}
use Rattle.std.proofs.lemmas.List.{map-set}
use Rattle.uni_any.proofs.Looks.{seen_fields}
use Rattle.uni_any.proofs.seat.AnySeat.see_at.Goals as goal

pub returns-in-Some-clause-kept : goal.returns-in-Some-clause-kept
returns-in-Some-clause-kept g c =
    let was = c.requires.kept in
    let l = c.args.self.now.party.seat.me.0.client.known.local in
    let w = c.see.ensures.told c.requires.idle (sym c.requires.named) c.requires.follows in
    record {
      place = c.see.ensures.place.0;
      number = c.see.ensures.place.1 ∙ was.number;
      inside = was.inside;
      last = ap (λ (z : View _ _ _ _). z.known.local.last) w.2 ∙ (seen_fields l c.args.from c.see.result).2 ∙ was.last;
      seen = ap (λ (z : View _ _ _ _). z.known.local.seen) w.2 ∙ ap (λ f. (with_seen l c.args.from f).seen) c.in-Some.is ∙ ap (λ xs. slice_set xs c.args.from (told_by c.in-Some.news)) was.seen ∙ sym (map-set told_by c.args.self.now.seen.items c.args.from c.in-Some.news);
      long = length-set c.args.self.now.seen.items c.args.from c.in-Some.news ∙ was.long;
      named = was.named;
    }
