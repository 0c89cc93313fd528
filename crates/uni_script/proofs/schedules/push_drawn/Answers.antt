use Rattle.uni_script.proofs.Vocabulary.{OnOk, event_lines, spoken_of, subst, sym, ◌++◌, ◌≡◌}
use Rattle.uni_script.proofs.schedules.push_drawn.Goals as goal

pub returns-in-Queue-clause-text : goal.returns-in-Queue-clause-text
returns-in-Queue-clause-text g c =
    subst (λ name. OnOk c.push_events.result (c.push_events.new.text.items ≡ c.args.text.now.items ++ event_lines (spoken_of name).language c.args.plan.now.processes (g.D.Drawn.word c.args.source.now) 0 c.args.plan.now.events))
    (sym c.in-Queue.is) c.push_events.ensures.text

pub returns-in-Directory-clause-text : goal.returns-in-Directory-clause-text
returns-in-Directory-clause-text g c =
    subst (λ name. OnOk c.push_events-in-Directory.result (c.push_events-in-Directory.new.text.items ≡ c.args.text.now.items ++ event_lines (spoken_of name).language c.args.plan.now.processes (g.D.Drawn.word c.args.source.now) 0 c.args.plan.now.events))
    (sym c.in-Directory.is) c.push_events-in-Directory.ensures.text

pub returns-in-Book-clause-text : goal.returns-in-Book-clause-text
returns-in-Book-clause-text g c =
    subst (λ name. OnOk c.push_events-in-Book.result (c.push_events-in-Book.new.text.items ≡ c.args.text.now.items ++ event_lines (spoken_of name).language c.args.plan.now.processes (g.D.Drawn.word c.args.source.now) 0 c.args.plan.now.events))
    (sym c.in-Book.is) c.push_events-in-Book.ensures.text

pub returns-in-Sticky-clause-text : goal.returns-in-Sticky-clause-text
returns-in-Sticky-clause-text g c =
    subst (λ name. OnOk c.push_events-in-Sticky.result (c.push_events-in-Sticky.new.text.items ≡ c.args.text.now.items ++ event_lines (spoken_of name).language c.args.plan.now.processes (g.D.Drawn.word c.args.source.now) 0 c.args.plan.now.events))
    (sym c.in-Sticky.is) c.push_events-in-Sticky.ensures.text
