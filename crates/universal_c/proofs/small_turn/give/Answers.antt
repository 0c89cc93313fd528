use Rattle.universal_c.proofs.Vocabulary.{SmallShared, option_to_list, subst, sym}
use Rattle.std.proofs.Common.{rules}
use Rattle.uni_small.specs.Belongs.{IsSeatOf}
use Rattle.universal_c.specs.declared.small_kind.SmallKind.{SmallKind}
use Rattle.universal_c.proofs.Seats.{at_last, before, each_before}
use Rattle.universal_c.proofs.small_turn.give.Goals as goal

pub invariant_of-opened : goal.invariant_of-opened
invariant_of-opened c =
    let are = c.args.opened.now.fit in let left = c.pop.new.self.items in let more = option_to_list c.pop.result in let popped = c.pop.ensures in
    record { fit = record { many = before left more popped.items are.many popped.len; each = each_before left more popped.items are.each } }

pub invariant_of-given : goal.invariant_of-given
invariant_of-given c = let are = c.args.opened.now.fit in let popped = c.in-Some.ensures in
    let last = at_last c.pop.new.self.items c.in-Some.next popped.items are.each are.many popped.len in
    record { fits = subst (λ (l : SmallShared SmallKind). IsSeatOf l c.in-Some.next) (sym c.in-Ok-try_clone.ensures) last.own }

pub returns-clause-first : goal.returns-clause-first
returns-clause-first c = let are = c.args.opened.now.fit in let popped = c.in-Some.ensures in
    let last = at_last c.pop.new.self.items c.in-Some.next popped.items are.each are.many popped.len in search rules
