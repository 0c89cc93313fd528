use Rattle.uni_any.proofs.Vocabulary.{View, Posting, ap, goes, slice_index_or, told_by, ◌∙◌, ◌≡◌}
use Rattle.std.specs.Arc.{arc_value}
use Rattle.uni_any.specs.Seats.{processes_of, view_in}
use Rattle.uni_any.proofs.Attempts.{told_call}
use Rattle.uni_any.proofs.seat.AnySeat.announce.Goals as goal

pub returns-clause-announced : goal.returns-clause-announced
returns-clause-announced g c =
    let seat = c.requires.seat in
    c.post_all.ensures.left c.args.inv (λ k d inside. told_call c.args.shared.now c.args.self.now seat.kept seat.made (arc_value c.in-Ok.asked) c.args.inv c.in-Ok.ensures.ok (told_by (slice_index_or c.in_ok-owners.owners.items k d)) (c.in_ok-owners.ensures.each k d inside))

pub returns-clause-kept : goal.returns-clause-kept
returns-clause-kept g c =
    let seat = c.requires.seat in
    let was = seat.kept in
    let left : c.post_all.new.party.seat.me.0.client ≡ goes (view_in c.args.self.now) (Posting c.args.inv (processes_of c.args.shared.now)) =
    c.post_all.ensures.left c.args.inv (λ k d inside. told_call c.args.shared.now c.args.self.now was seat.made (arc_value c.in-Ok.asked) c.args.inv c.in-Ok.ensures.ok (told_by (slice_index_or c.in_ok-owners.owners.items k d)) (c.in_ok-owners.ensures.each k d inside)) in
    record {
      place = c.post_all.ensures.place.0;
      number = c.post_all.ensures.place.1 ∙ was.number;
      inside = was.inside;
      last = ap (λ (z : View _ _ _ _). z.known.local.last) left ∙ was.last;
      seen = ap (λ (z : View _ _ _ _). z.known.local.seen) left ∙ was.seen;
      long = was.long;
      named = was.named;
    }
