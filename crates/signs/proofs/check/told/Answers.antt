use Rattle.signs.proofs.Vocabulary.{AreShown, List, Part, Shows, map, meaning, places_shown, plain, rules, shown, sym, ◌∷◌}
use Rattle.signs.proofs.Rest.{more}
use Rattle.signs.proofs.check.told.Goals as goal

pub returns-then-shows : goal.returns-then-shows
returns-then-shows g c =
    let seen = g.S.Seen.seen c.args.shape.now in
    let here : Shows (places_shown c.args.layout.now) (meaning c.index-parts-next.result) seen = search rules in
    λ rest all. more (λ (l : List Part). AreShown (places_shown c.args.layout.now) (map meaning l) (seen ∷ rest))
    c.args.parts.now c.args.next c.index-parts-next.result c.if-next-parts.true c.index-parts-next.is (shown _ _ here all)

pub returns-in-None : goal.returns-in-None
returns-in-None g c = λ rest all. plain (g.S.Seen.seen c.args.shape.now) (sym c.in-None.ensures) all
