use Rattle.uni_script.proofs.Vocabulary.{HasBounds, Open, false, line_of, position, rest_of, ◌+◌, ◌-◌, ◌<◌, ◌==◌, ◌≡◌, ◌⊎◌}
use Rattle.uni_script.specs.declared.lines.Place.TheVariants.{Apart}
use Rattle.uni_script.proofs.Taking.{IsTaking}
use Rattle.uni_script.proofs.lines.Lines.take.Given as goal

abbrev pub invariant-loop-self : goal.invariant-loop-self
invariant-loop-self g l =
    HasBounds l.self × (l.self.source ≡ Open) × (l.initial.self.source ≡ Open) × (l.self.count ≡ l.initial.self.count) × ((l.self.width ≡ 0) ⊎ (l.self.count < 100000))
    × (g.I.TextIn.has_failed l.reader ≡ false)
    × IsTaking (g.I.TextIn.remaining l.initial.reader) (g.I.TextIn.remaining l.reader) (rest_of l.initial.self) (line_of l.self) (rest_of l.self)
    × (l.self.next ≡ position (λ b. b == 10) (rest_of l.self)) × (l.self.place ≡ Apart)

abbrev pub decreases-loop-self : goal.decreases-loop-self
decreases-loop-self g l = 4297 - (l.self.width + (l.self.end - l.self.start))
