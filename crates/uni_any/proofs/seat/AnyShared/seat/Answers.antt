use Rattle.uni_any.proofs.Vocabulary.{View, ap, arith, first_alone, refl, slice_index_or, subst, sym, ◌∙◌, ◌≤◌}
use Rattle.triple_buffers.specs.Parties.{seat_of_all, view_of_all}
use Rattle.uni_any.specs.News.{version_as}
use Rattle.uni_any.specs.Seats.{object_of, processes_of}
use Rattle.uni_any.proofs.Opening.{splits}
use Rattle.uni_any.proofs.Seating.{first_seat, told_alike}
use Rattle.uni_any.proofs.seat.AnyShared.seat.Goals as goal

pub next_party-requires-clause-rule : goal.next_party-requires-clause-rule
next_party-requires-clause-rule g c =
    let shared = c.args.self.now in
    let some : 1 ≤ (view_of_all c.args.parties.now).known.count = subst (λ (z : View _ _ _ _). 1 ≤ z.known.count) (sym c.requires.view) (let n = c.requires.next in omega arith) in
    splits g.O.SeqObject.sequential (object_of shared) (processes_of shared) (seat_of_all c.args.parties.now) (view_of_all c.args.parties.now) some

pub returns-clause-seat : goal.returns-clause-seat
returns-clause-seat g c =
    let party = c.in_ok-party.ensures.party in
    first_seat g.O.SeqObject.sequential c.args.self.now c.args.p _ party.0 (party.1 ∙ c.requires.next.0) (party.2 ∙ ap (λ (z : View _ _ _ _). first_alone z) c.requires.view) party.3 refl refl refl refl c.requires.next.2
    (ap version_as c.in_ok-last.ensures ∙ c.requires.start)
    (c.in_ok-seen.ensures.long ∙ ap (λ k. k.processes) c.key.ensures)
    (λ k d inside. told_alike (slice_index_or c.in_ok-seen.seen.items k d) c.args.news.now (c.in_ok-seen.ensures.each k d inside) ∙ c.requires.news)
