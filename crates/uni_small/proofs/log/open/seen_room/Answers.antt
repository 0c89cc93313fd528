use Rattle.std.proofs.Common.{rules}
use Rattle.uni_small.proofs.Vocabulary.{Seen, ap, due_at, false, map, map_push, seen_in, ◌∙◌}
use Rattle.uni_small.proofs.Lists.{due-none}
use Rattle.uni_small.proofs.log.open.seen_room.Goals as goal

pub loop-init : goal.loop-init
loop-init c = (search rules, search rules, (λ q. ap (λ (xs : _). due_at (map seen_in xs) q) c.new-seen.ensures.items))

pub loop-preserved : goal.loop-preserved
loop-preserved c =
    let new : Seen = record { due = false; invocation = c.in_ok-invocation.invocation } in (
      search rules,
      search rules,
      (λ q. ap (λ (xs : _). due_at (map seen_in xs) q) c.in_ok-push.ensures.items
          ∙ ap (λ (xs : _). due_at xs q) (map_push seen_in c.loop.seen.items new) ∙ due-none (map seen_in c.loop.seen.items) q ∙ c.loop.invariant.2 q),
    )

pub returns-clause-none : goal.returns-clause-none
returns-clause-none c = c.loop.invariant.2
