use Rattle.unibench_run.proofs.Vocabulary.{Agrees, All-same, AreAllSeats, Global, IsOk, IsRunOfThreads, IsSeatOf, Vec, ap, false, log_in, map, own_calls, subst, sym, told_to, true, vec_len, ℕ, ◌∙◌, ◌≡◌}
use Rattle.uni_words.specs.Belongs.{calls_of}
use Rattle.uni_words.specs.Run.{IsLogOfRun}
use Rattle.uni_words.specs.Log.{entry_shown}
use Rattle.unibench_run.proofs.Told.{all_seats, done_seats, lists_are, lists_whole, run_of_threads, told_lists}
use Rattle.unibench_run.proofs.threads.close_words.Goals as goal

pub close_all-words-requires-clause-seats : goal.close_all-words-requires-clause-seats
close_all-words-requires-clause-seats g c = All-same (IsSeatOf c.args.log) _ _ c.in_ok-seats.ensures.seats (done_seats c.args.log _ _ _ c.args.done.items c.requires.done)

pub count_agreed-requires-clause-whole : goal.count_agreed-requires-clause-whole
count_agreed-requires-clause-whole g c =
    All-same (λ (told : Vec (ℕ × ℕ) Global). vec_len told ≡ c.args.plan.now.calls) c.deref-2.result.now _ (c.deref-2.ensures.value ∙ c.in_ok-seats.ensures.told)
    (lists_whole c.args.log _ _ _ c.args.done.items c.requires.done)

pub returns-clause-told : goal.returns-clause-told
returns-clause-told g c =
    let object = g.O.WordObject.sequential in
    let plan = c.args.plan.now in
    let done = c.args.done.items in
    let all : AreAllSeats c.args.log c.in_ok-seats.seats.items = subst (AreAllSeats c.args.log) (sym c.in_ok-seats.ensures.seats) (all_seats c.args.log _ _ _ done c.requires.done c.requires.processes) in
    let log = subst (λ n. IsLogOfRun (object c.args.log.setup.object) n (log_in c.close_all-words.result) (map calls_of c.in_ok-seats.seats.items)) c.requires.processes c.close_all-words.ensures.run in
    let run = subst (λ o. IsRunOfThreads (object o) plan.processes plan.calls plan.seed (map told_to done)) (sym c.requires.object)
    (run_of_threads c.args.log _ _ _ done c.requires.done (object c.args.log.setup.object) _ c.in_ok-seats.seats.items c.in_ok-seats.ensures.seats log (c.close_all-words.ensures.agrees all)) in
    (map told_to done, told_lists c.args.log _ _ _ done c.requires.done ∙ ap (map (λ (own : Vec (ℕ × ℕ) Global). own.items)) (sym c.in_ok-seats.ensures.told), run)

pub returns-in_err-replies-clause-faults : goal.returns-in_err-replies-clause-faults
returns-in_err-replies-clause-faults g c = λ fault is.
    let object = g.O.WordObject.sequential in
    let all : AreAllSeats c.args.log c.in_ok-seats.seats.items = subst (AreAllSeats c.args.log) (sym c.in_ok-seats.ensures.seats) (all_seats c.args.log _ _ _ c.args.done.items c.requires.done c.requires.processes) in
    let lists : map own_calls c.in_ok-seats.seats.items ≡ map (λ (own : Vec (ℕ × ℕ) Global). own.items) c.deref-2.result.now
    = ap (map own_calls) c.in_ok-seats.ensures.seats ∙ lists_are c.args.log _ _ _ c.args.done.items c.requires.done
    ∙ ap (map (λ (own : Vec (ℕ × ℕ) Global). own.items)) (sym c.in_ok-seats.ensures.told ∙ sym c.deref-2.ensures.value) in
    let entries : log_in c.close_all-words.result ≡ map entry_shown c.deref.result.now = sym c.in_ok-entries.ensures.log ∙ ap (map entry_shown) (sym c.deref.ensures.value) in
    let agreed : Agrees (object c.args.object.now) (map entry_shown c.deref.result.now) (map (λ (own : Vec (ℕ × ℕ) Global). own.items) c.deref-2.result.now)
    = subst (λ o. Agrees (object o) (map entry_shown c.deref.result.now) (map (λ (own : Vec (ℕ × ℕ) Global). own.items) c.deref-2.result.now)) (sym c.requires.object)
    (subst (λ ls. Agrees (object c.args.log.setup.object) (map entry_shown c.deref.result.now) ls) lists
    (subst (λ es. Agrees (object c.args.log.setup.object) es (map own_calls c.in_ok-seats.seats.items)) entries (c.close_all-words.ensures.agrees all))) in
    let ok = c.count_agreed.ensures.agrees.1 agreed in
    let bad : false ≡ true = subst IsOk c.in_err-replies.was ok in cc
