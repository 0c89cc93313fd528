use Rattle.uni_script.proofs.Vocabulary.{None, Some, all-taken, ap, arith, concat, entry_text, log, map, slice_get, sym, text_of_words, within-at, world_of, ◌++◌, ◌+◌, ◌∙◌, ◌≡◌}
use Rattle.std.proofs.lemmas.List.{append-nil}
use Rattle.uni_log.specs.Entry.{entry_shown}
use Rattle.uni_script.proofs.LogLines.{lines-one_more}
use Rattle.uni_script.proofs.commands.push_log.Goals as goal

pub loop-entry-init : goal.loop-entry-init
loop-entry-init g c = record {
  world = c.cursor-cursor.ensures.world ∙ c.of.ensures;
  whole = rw c.cursor-cursor.ensures.first (sym (append-nil c.args.text.now.items));
}

pub loop-entry-smaller : goal.loop-entry-smaller
loop-entry-smaller g c =
    let at : slice_get (log (world_of c.args.world.now)) c.loop-entry.cursor.passed ≡ Some (entry_shown c.in-Some.entry) =
    sym (rw (c.in-Some.is, c.loop-entry.invariant.world) at c.in_ok-entry.ensures.entry) in
    let passed : c.next_entry.new.self.passed ≡ c.loop-entry.cursor.passed + 1 = rw c.in-Some.is at c.in_ok-entry.ensures.passed in
    let within = within-at (log (world_of c.args.world.now)) c.loop-entry.cursor.passed (entry_shown c.in-Some.entry) at in
    omega arith

pub loop-entry-preserved : goal.loop-entry-preserved
loop-entry-preserved g c =
    let at : slice_get (log (world_of c.args.world.now)) c.loop-entry.cursor.passed ≡ Some (entry_shown c.in-Some.entry) =
    sym (rw (c.in-Some.is, c.loop-entry.invariant.world) at c.in_ok-entry.ensures.entry) in
    let passed : c.next_entry.new.self.passed ≡ c.loop-entry.cursor.passed + 1 = rw c.in-Some.is at c.in_ok-entry.ensures.passed in
    record {
      world = c.next_entry.ensures.world ∙ c.loop-entry.invariant.world;
      whole = rw passed (lines-one_more (entry_text (λ inv. text_of_words (g.O.Spoken.language.inv_words inv)) g.O.Spoken.language.resp_text) c.args.text.now.items c.loop-entry.text.items c.push_entry.new.text.items (log (world_of c.args.world.now))
          c.loop-entry.cursor.passed (entry_shown c.in-Some.entry) at c.loop-entry.invariant.whole c.in_ok-push_entry.ensures);
    }

pub returns : goal.returns
returns g c =
    let none : slice_get (log (world_of c.args.world.now)) c.loop-entry.cursor.passed ≡ None =
    sym (rw (c.in_default.is, c.loop-entry.invariant.world) at c.in_ok-entry.ensures.entry) in
    c.loop-entry.invariant.whole
    ∙ ap (λ l. c.args.text.now.items ++ concat (map (entry_text (λ inv. text_of_words (g.O.Spoken.language.inv_words inv)) g.O.Spoken.language.resp_text) l)) (all-taken (log (world_of c.args.world.now)) c.loop-entry.cursor.passed none)
