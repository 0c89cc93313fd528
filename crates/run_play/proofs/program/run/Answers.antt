use Rattle.run_play.proofs.program.run.Goals as goal

pub returns-in-Ok-write_all-clause-played : goal.returns-in-Ok-write_all-clause-played
returns-in-Ok-write_all-clause-played g c = λ _. (c.in-Ok.page.items, c.in-Ok.ensures.page, rw (← c.as_slice.ensures.value) c.in-Ok-write_all.ensures.ok)
