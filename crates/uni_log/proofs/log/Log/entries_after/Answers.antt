use Rattle.uni_log.proofs.Vocabulary.{None, Some, [], ap, append-nil, append_assoc, arith, entry_shown, log, map, map-append, slice_get, sym, take, world_of, ◌++◌, ◌+◌, ◌∙◌, ◌∷◌, ◌≡◌}
use Rattle.uni_log.proofs.Along.{within-at, taken-more, all-taken}
use Rattle.uni_log.proofs.log.Log.entries_after.Goals as goal

pub loop-entries-init : goal.loop-entries-init
loop-entries-init g c = record {
  world = c.cursor-cursor.ensures.world;
  whole = rw c.cursor-cursor.ensures.first (sym (append-nil (map entry_shown c.args.earlier.items)));
}

pub loop-entries-smaller : goal.loop-entries-smaller
loop-entries-smaller g c =
    let at : slice_get (log (world_of c.args.self.now)) c.loop-entries.cursor.passed ≡ Some (entry_shown c.in-Some.entry) =
    sym (rw (c.in-Some.is, c.loop-entries.invariant.world) at c.in_ok-entry.ensures.entry) in
    let passed : c.next_entry.new.self.passed ≡ c.loop-entries.cursor.passed + 1 = rw c.in-Some.is at c.in_ok-entry.ensures.passed in
    let within = within-at (log (world_of c.args.self.now)) c.loop-entries.cursor.passed (entry_shown c.in-Some.entry) at in
    omega arith

pub loop-entries-preserved : goal.loop-entries-preserved
loop-entries-preserved g c =
    let at : slice_get (log (world_of c.args.self.now)) c.loop-entries.cursor.passed ≡ Some (entry_shown c.in-Some.entry) =
    sym (rw (c.in-Some.is, c.loop-entries.invariant.world) at c.in_ok-entry.ensures.entry) in
    let passed : c.next_entry.new.self.passed ≡ c.loop-entries.cursor.passed + 1 = rw c.in-Some.is at c.in_ok-entry.ensures.passed in
    record {
      world = c.next_entry.ensures.world ∙ c.loop-entries.invariant.world;
      whole = rw (c.in_ok-push.ensures.items, map-append, c.loop-entries.invariant.whole, passed, taken-more (log (world_of c.args.self.now)) c.loop-entries.cursor.passed (entry_shown c.in-Some.entry) at)
          (append_assoc (map entry_shown c.args.earlier.items) (take c.loop-entries.cursor.passed (log (world_of c.args.self.now))) (entry_shown c.in-Some.entry ∷ []));
    }

pub returns : goal.returns
returns g c =
    let none : slice_get (log (world_of c.args.self.now)) c.loop-entries.cursor.passed ≡ None =
    sym (rw (c.in_default.is, c.loop-entries.invariant.world) at c.in_ok-entry.ensures.entry) in
    c.loop-entries.invariant.whole ∙ ap (λ xs. map entry_shown c.args.earlier.items ++ xs) (all-taken (log (world_of c.args.self.now)) c.loop-entries.cursor.passed none)
