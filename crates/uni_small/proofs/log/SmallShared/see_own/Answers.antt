use Rattle.uni_small.proofs.Vocabulary.{Seen, Some, ap, map, get_or-set_same, refl, seen_in, slice_set, true, ◌∙◌}
use Rattle.uni_small.proofs.Rooms.{map_set, seen_due}
use Rattle.uni_small.proofs.log.SmallShared.see_own.Goals as goal

pub returns-clause-seen : goal.returns-clause-seen
returns-clause-seen g c =
    let now : Seen = record { due = true; invocation = c.copy_from_slice.new.self } in
    map_set seen_in c.args.seen.now c.args.p now ∙ ap (slice_set (map seen_in c.args.seen.now) c.args.p) (seen_due now refl ∙ ap Some c.copy_from_slice.ensures.items)

pub returns-clause-own : goal.returns-clause-own
returns-clause-own g c x =
    let now : Seen = record { due = true; invocation = c.copy_from_slice.new.self } in
    ap (λ (y : Seen). y.invocation.items) (get_or-set_same c.args.seen.now c.args.p now x c.requires.inside) ∙ c.copy_from_slice.ensures.items
