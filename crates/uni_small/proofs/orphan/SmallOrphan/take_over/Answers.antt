use Rattle.std.proofs.Common.{rules}
use Rattle.uni_small.proofs.Vocabulary.{Buffers, IsKept, Room, ap, refl, subst, sym, ◌∙◌, None, Some, ◌≡◌}
use Rattle.uni_small.proofs.Kept.{kept_afresh}
use Rattle.uni_small.proofs.orphan.SmallOrphan.take_over.Goals.{else-told-made, then-told-made}
use Rattle.uni_small.proofs.orphan.SmallOrphan.take_over.Goals as goal

pub returns-clause-seat : goal.returns-clause-seat
returns-clause-seat g c = (
  record {
    table = search rules;
    object = search rules;
    sizes = search rules;
    inside = search rules;
    keeps = record {
      room = search rules;
      buffers = search rules;
      kept = elim c.if-told-made.branch [
        | then-told-made w ↦
            kept_afresh c.args.shared.now.setup.sizes c.if-told-made.own c.if-told-made.room (ap (λ (r : Room). r.of) w.room-is ∙ c.in-Ok.ensures.of)
            (ap (λ (o : Buffers). o.apart) w.own-is ∙ w.rejoin.ensures.apart ∙ c.all.ensures) c.args.shared.now.few
        | else-told-made w ↦ subst (λ (x : Buffers × Room). IsKept c.args.shared.now.setup.sizes x.0 x.1) (λ k. (sym w.own-is k, sym w.room-is k)) w.resume-version.ensures.kept
      ];
      read = λ version e. absurd (let none : None ≡ Some version = e in cc);
    };
  },
  refl,
)
