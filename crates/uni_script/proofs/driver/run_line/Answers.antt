use Rattle.uni_script.proofs.Vocabulary.{HeardGrows, Outcome, Refused, Some, SpokenObject, ap, append-nil, bytes_of, command_of_words, event_shown, heard_events, heard_remarks, inr, length, length-map, option_map, refl, remarks_after, remarks_of_note, replicate, result_of_command, session_after, session_of, spoken, subst, sym, words_of_text, ◌++◌, ◌-◌, ◌∙◌, ◌≡◌}
use Rattle.uni_script.proofs.Running.{outcome_of_short_line-made, outcome_of_short_line-bad}
use Rattle.uni_script.proofs.RunningOn.{HeardGrows-trans}
use Rattle.uni_script.proofs.Sharing.{answered-some, answered-none, refusal_of_words-some}
use Rattle.uni_script.proofs.Remarked.{heard_events-remarks, heard_of_line-note_after, heard_of_line-command}
use Rattle.uni_script.proofs.driver.run_line.Goals as goal

pub returns-clause-outcome : goal.returns-clause-outcome
returns-clause-outcome g c = λ kind inside about.
    let o : SpokenObject _ _ _ = spoken g.O.SeqObject.sequential g.O.Spoken.language c.args.session.now.world.object in
    let b = session_of c.args.session.now in
    let version = c.args.dialect.version in
    let line_words = words_of_text c.args.line.now in
    let words = ap (λ w. command_of_words version o.language.inv_of_words w) (sym c.in_ok-words.ensures ∙ ap bytes_of (sym c.as_slice.ensures)) ∙ sym c.command_of.ensures in
    let command = c.in-Some.command in
    let result = result_of_command o b command in
    let same = outcome_of_short_line-made kind c.args.number (inside b) c.args.line.now (record { session = inside (session_after o b result.events); text = result.text }) (sym c.if-not-is_plain.ensures) (sym c.if-is_note.ensures) (about.made b line_words ∙ answered-some o version inside b line_words command (words ∙ c.in-Some.is)) in
    (ap (λ (x : Outcome _). x.fault) same, c.in_ok-refusal.ensures.text ∙ ap (λ t. c.args.text.now.items ++ t) (sym (ap (λ (x : Outcome _). x.text) same)))

pub returns-clause-session : goal.returns-clause-session
returns-clause-session g c = λ kind inside about.
    let o : SpokenObject _ _ _ = spoken g.O.SeqObject.sequential g.O.Spoken.language c.args.session.now.world.object in
    let b = session_of c.args.session.now in
    let version = c.args.dialect.version in
    let line_words = words_of_text c.args.line.now in
    let words = ap (λ w. command_of_words version o.language.inv_of_words w) (sym c.in_ok-words.ensures ∙ ap bytes_of (sym c.as_slice.ensures)) ∙ sym c.command_of.ensures in
    let command = c.in-Some.command in
    let result = result_of_command o b command in
    let same = outcome_of_short_line-made kind c.args.number (inside b) c.args.line.now (record { session = inside (session_after o b result.events); text = result.text }) (sym c.if-not-is_plain.ensures) (sym c.if-is_note.ensures) (about.made b line_words ∙ answered-some o version inside b line_words command (words ∙ c.in-Some.is)) in
    ap (λ s. Some (inside s)) c.in_ok-refusal.ensures.session ∙ sym (ap (λ (x : Outcome _). x.session) same)

pub returns-in-Some-refusal-clause-outcome : goal.returns-in-Some-refusal-clause-outcome
returns-in-Some-refusal-clause-outcome g c = λ kind inside about.
    let o : SpokenObject _ _ _ = spoken g.O.SeqObject.sequential g.O.Spoken.language c.args.session.now.world.object in
    let b = session_of c.args.session.now in
    let version = c.args.dialect.version in
    let line_words = words_of_text c.args.line.now in
    let words = ap (λ w. command_of_words version o.language.inv_of_words w) (sym c.in_ok-words.ensures ∙ ap bytes_of (sym c.as_slice.ensures)) ∙ sym c.command_of.ensures in
    let command = c.in-Some.command in
    let result = result_of_command o b command in
    let same = outcome_of_short_line-made kind c.args.number (inside b) c.args.line.now (record { session = inside (session_after o b result.events); text = result.text }) (sym c.if-not-is_plain.ensures) (sym c.if-is_note.ensures) (about.made b line_words ∙ answered-some o version inside b line_words command (words ∙ c.in-Some.is)) in
    (ap (λ (x : Outcome _). x.fault) same, c.in_ok-refusal.ensures.text ∙ ap (λ t. c.args.text.now.items ++ t) (sym (ap (λ (x : Outcome _). x.text) same)))

pub returns-in-Some-refusal-clause-session : goal.returns-in-Some-refusal-clause-session
returns-in-Some-refusal-clause-session g c = λ kind inside about.
    let o : SpokenObject _ _ _ = spoken g.O.SeqObject.sequential g.O.Spoken.language c.args.session.now.world.object in
    let b = session_of c.args.session.now in
    let version = c.args.dialect.version in
    let line_words = words_of_text c.args.line.now in
    let words = ap (λ w. command_of_words version o.language.inv_of_words w) (sym c.in_ok-words.ensures ∙ ap bytes_of (sym c.as_slice.ensures)) ∙ sym c.command_of.ensures in
    let command = c.in-Some.command in
    let result = result_of_command o b command in
    let same = outcome_of_short_line-made kind c.args.number (inside b) c.args.line.now (record { session = inside (session_after o b result.events); text = result.text }) (sym c.if-not-is_plain.ensures) (sym c.if-is_note.ensures) (about.made b line_words ∙ answered-some o version inside b line_words command (words ∙ c.in-Some.is)) in
    ap (λ s. Some (inside s)) c.in_ok-refusal.ensures.session ∙ sym (ap (λ (x : Outcome _). x.session) same)

pub returns-in_default-clause-outcome : goal.returns-in_default-clause-outcome
returns-in_default-clause-outcome g c = λ kind inside about.
    let o : SpokenObject _ _ _ = spoken g.O.SeqObject.sequential g.O.Spoken.language c.args.session.now.world.object in
    let b = session_of c.args.session.now in
    let version = c.args.dialect.version in
    let line_words = words_of_text c.args.line.now in
    let words = ap (λ w. command_of_words version o.language.inv_of_words w) (sym c.in_ok-words.ensures ∙ ap bytes_of (sym c.as_slice.ensures)) ∙ sym c.command_of.ensures in
    let same = outcome_of_short_line-bad kind c.args.number (inside b) c.args.line.now (sym c.if-not-is_plain.ensures) (sym c.if-is_note.ensures) (about.made b line_words ∙ answered-none o version inside b line_words (words ∙ c.in_default.is)) in
    inr (ap (λ (x : Outcome _). x.fault) same, sym (append-nil c.args.text.now.items) ∙ ap (λ t. c.args.text.now.items ++ t) (sym (ap (λ (x : Outcome _). x.text) same)))

pub returns-clause-heard : goal.returns-clause-heard
returns-clause-heard g c = λ kind inside about.
    let o : SpokenObject _ _ _ = spoken g.O.SeqObject.sequential g.O.Spoken.language c.args.session.now.world.object in
    let b = session_of c.args.session.now in
    let after = session_of c.make.new.session in
    let version = c.args.dialect.version in
    let line_words = words_of_text c.args.line.now in
    let words = ap (λ w. command_of_words version o.language.inv_of_words w) (sym c.in_ok-words.ensures ∙ ap bytes_of (sym c.as_slice.ensures)) ∙ sym c.command_of.ensures in
    let many : c.len-before.result ≡ kind.events (inside b) = c.len-before.ensures.value ∙ ap length c.events.ensures ∙ sym (length-map c.args.session.now.events event_shown) ∙ sym (about.events b) in
    let more : c.len.result ≡ kind.events (inside after) = c.len.ensures.value ∙ ap length c.events-2.ensures ∙ sym (length-map c.make.new.session.events event_shown) ∙ sym (about.events after) in
    let count = c.saturating_sub.ensures ∙ rw (many, more) refl in
    let refusal = about.refusal b line_words ∙ refusal_of_words-some o version inside b line_words c.in-Some.command (words ∙ c.in-Some.is) in
    let quiet = refusal ∙ sym c.in_ok-refusal.ensures.refusal ∙ c.in-None.is in
    let heard = ap (λ k. heard_events c.args.number k) count
    ∙ ap (λ r. record { remarks = remarks_after c.args.number (kind.events (inside b)) (option_map (Refused c.args.line.now) r); lines = replicate (kind.events (inside after) - kind.events (inside b)) c.args.number }) (sym quiet)
    ∙ heard_of_line-command kind c.args.number (inside b) (inside after) c.args.line.now (sym c.if-is_note.ensures) in
    subst (HeardGrows (g.L.Listener.heard c.args.listener.now) (g.L.Listener.heard c.events-3.new.self)) heard c.in_ok-events.ensures

pub returns-in-Some-refusal-clause-heard : goal.returns-in-Some-refusal-clause-heard
returns-in-Some-refusal-clause-heard g c = λ kind inside about.
    let o : SpokenObject _ _ _ = spoken g.O.SeqObject.sequential g.O.Spoken.language c.args.session.now.world.object in
    let b = session_of c.args.session.now in
    let after = session_of c.make.new.session in
    let version = c.args.dialect.version in
    let line_words = words_of_text c.args.line.now in
    let words = ap (λ w. command_of_words version o.language.inv_of_words w) (sym c.in_ok-words.ensures ∙ ap bytes_of (sym c.as_slice.ensures)) ∙ sym c.command_of.ensures in
    let many : c.len-before.result ≡ kind.events (inside b) = c.len-before.ensures.value ∙ ap length c.events.ensures ∙ sym (length-map c.args.session.now.events event_shown) ∙ sym (about.events b) in
    let more : c.len.result ≡ kind.events (inside after) = c.len.ensures.value ∙ ap length c.events-2.ensures ∙ sym (length-map c.make.new.session.events event_shown) ∙ sym (about.events after) in
    let count = c.saturating_sub.ensures ∙ rw (many, more) refl in
    let refusal = about.refusal b line_words ∙ refusal_of_words-some o version inside b line_words c.in-Some.command (words ∙ c.in-Some.is) in
    let refused = refusal ∙ sym c.in_ok-refusal.ensures.refusal ∙ c.in-Some-refusal.is in
    let told = remarks_after c.args.number c.len-before.result (Some (Refused c.args.line.now c.in-Some-refusal.refusal)) in
    let heard = heard_events-remarks c.args.number c.saturating_sub.result told
    ∙ ap (λ k. record { remarks = told; lines = replicate k c.args.number }) count
    ∙ ap (λ n. record { remarks = remarks_after c.args.number n (Some (Refused c.args.line.now c.in-Some-refusal.refusal)); lines = replicate (kind.events (inside after) - kind.events (inside b)) c.args.number }) many
    ∙ ap (λ r. record { remarks = remarks_after c.args.number (kind.events (inside b)) (option_map (Refused c.args.line.now) r); lines = replicate (kind.events (inside after) - kind.events (inside b)) c.args.number }) (sym refused)
    ∙ heard_of_line-command kind c.args.number (inside b) (inside after) c.args.line.now (sym c.if-is_note.ensures) in
    subst (HeardGrows (g.L.Listener.heard c.args.listener.now) (g.L.Listener.heard c.refusal.new.self)) heard
    (HeardGrows-trans (g.L.Listener.heard c.args.listener.now) (g.L.Listener.heard c.events-3.new.self) (g.L.Listener.heard c.refusal.new.self) (heard_events c.args.number c.saturating_sub.result) (heard_remarks told) c.in_ok-events.ensures c.in_ok-refusal-in-Some-refusal.ensures)

pub returns-then-is_note-clause-heard : goal.returns-then-is_note-clause-heard
returns-then-is_note-clause-heard g c = λ kind inside about.
    let b = session_of c.args.session.now in
    let many : c.len-before.result ≡ kind.events (inside b) = c.len-before.ensures.value ∙ ap length c.events.ensures ∙ sym (length-map c.args.session.now.events event_shown) ∙ sym (about.events b) in
    let heard = ap (λ n. heard_remarks (remarks_of_note c.args.number (Some n) c.args.line.now)) many ∙ heard_of_line-note_after kind c.args.number (inside b) c.args.line.now (sym c.if-is_note.ensures) in
    subst (HeardGrows (g.L.Listener.heard c.args.listener.now) (g.L.Listener.heard c.note.new.self)) heard c.in_ok-note.ensures
