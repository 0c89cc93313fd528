use Rattle.uni_script.proofs.Vocabulary.{concat, entry_text, length, log, map, take, text_of_words, world_of, ◌++◌, ◌-◌, ◌≡◌}
use Rattle.uni_script.proofs.commands.push_log.Given as goal

abbrev pub invariant-loop-entry : goal.invariant-loop-entry
invariant-loop-entry g l = record {
  world : l.cursor.world ≡ l.world;
  whole : l.text.items ≡ l.initial.text.items ++ concat (map (entry_text (λ inv. text_of_words (g.O.Spoken.language.inv_words inv)) g.O.Spoken.language.resp_text) (take l.cursor.passed (log (world_of l.world))));
}

abbrev pub decreases-loop-entry : goal.decreases-loop-entry
decreases-loop-entry g l = length (log (world_of l.world)) - l.cursor.passed
