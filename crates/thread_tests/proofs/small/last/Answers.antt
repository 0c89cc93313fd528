use Rattle.std.proofs.Common.{[], sym, ◌∷◌}
use Rattle.std.proofs.lemmas.List.Elements.{All-contains, All-same, Contains-append_left, Contains-push}
use Rattle.uni_small.specs.Belongs.{IsSeatOf}
use Rattle.uni_small.proofs.Seating.{All-each}
use Rattle.thread_tests.proofs.small.last.Goals as goal

pub returns-clause-rest : goal.returns-clause-rest
returns-clause-rest g c =
    let P = IsSeatOf c.args.shared.now in
    let rest = c.pop.new.self.items in
    let each = All-same P _ _ (sym c.in-Some.ensures.items) c.requires in
    All-each P rest (λ x has. All-contains P _ x each (Contains-append_left rest _ x has))

pub returns-clause-last : goal.returns-clause-last
returns-clause-last g c =
    let P = IsSeatOf c.args.shared.now in
    All-contains P _ c.in-Some.seat (All-same P _ _ (sym c.in-Some.ensures.items) c.requires) (Contains-push c.pop.new.self.items c.in-Some.seat)
