use Rattle.run_layout.proofs.Vocabulary.{era_in, era_shown, filter, map, meets, ◌++◌, ◌≡◌}
use Rattle.run_layout.proofs.choice.eras_in.Given as goal

-- the eras so far, and those of the rest
abbrev pub invariant-loop-era : goal.invariant-loop-era
invariant-loop-era l = map era_shown l.part.items ++ map (era_in l.range l.dots) (filter (λ era. meets l.range era.from era.last) (map era_shown l.era-iterator.rest.items)) ≡ map (era_in l.range l.dots) (filter (λ era. meets l.range era.from era.last) (map era_shown l.fn.eras.items))
