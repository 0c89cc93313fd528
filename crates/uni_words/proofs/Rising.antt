-- The calls of one process stand in the chain in their order.
use Rattle.uni_words.proofs.Vocabulary.{IsShown, LastHasNumber, Of, Sequential, Some, State, View, WorldOf, ap, arith, entry_at, get_elem?, last_number, length, log, log_of, number_of_entry, own_of, seq_of, slice_get, some, suc, sym, ℕ, ◌<◌, ◌∙◌, ◌≡◌, ◌≤◌}
use Rattle.uni_words.proofs.Closing.{log_of_world}
use Rattle.uni_words.proofs.Underway.{there_below}

-- a seat's own calls have rising numbers
pub own_rises : (object : Sequential ℕ ℕ ℕ) (row : ℕ) (w : WorldOf ℕ ℕ ℕ) (s : State ℕ View) (is : IsShown object row w s) (id : ℕ) (v : View) → get_elem? s.views id ≡ some v → 1 ≤ v.known.count
    → (j k : ℕ) (a b : ℕ × ℕ) → j < k → slice_get v.known.its.own j ≡ Some a → slice_get v.known.its.own k ≡ Some b
    → seq_of w.memory (Of v.known.first j) < seq_of w.memory (Of v.known.first k)
own_rises object row w s is id v at some_left j k a b less first second =
    let local = ((is.seats.each id v at).each v.known.first (omega arith) (omega (arith, some_left))).1 in
    let early = (local.own j a first).threaded in
    let late = (local.own k b second).threaded in
    let early_num = is.sound.2.numbered.seq (Of v.known.first j) early in
    let late_num = is.sound.2.numbered.seq (Of v.known.first k) late in
    let order = is.sound.2.calls.order v.known.first j k less (omega arith) (omega arith) in
    omega arith

-- the last call that a seat made has its number in the log
pub last_numbered : (object : Sequential ℕ ℕ ℕ) (row : ℕ) (w : WorldOf ℕ ℕ ℕ) (s : State ℕ View) (is : IsShown object row w s) (id : ℕ) (v : View) → get_elem? s.views id ≡ some v → v.known.count ≡ 1
    → LastHasNumber (log_of w.n row s.words) (own_of v.known) v.known.its.number
last_numbered object row w s is id v at single place e there mine last =
    let local = ((is.seats.each id v at).each v.known.first (omega arith) (let one = single in omega arith)).1 in
    let logged : slice_get (log w) place ≡ Some e = ap (λ l. slice_get l place) (log_of_world object row w s is) ∙ there in
    let entry = (entry_at object w is.sound.0 is.sound.1 is.sound.2 place e logged).number in
    let number = number_of_entry object w is.sound.0 is.sound.1 is.sound.2 place e logged in
    let c = there_below v.known.its.own e.call.nth (omega (arith, last)) in
    let cell : Of v.known.first e.call.nth ≡ Of e.call.process e.call.nth = ap (λ p. Of p e.call.nth) (sym mine) in
    let seq = is.sound.2.numbered.seq (Of v.known.first e.call.nth) (local.own e.call.nth c.0 c.1).threaded in
    let same : is.sound.0 (Of v.known.first e.call.nth) ≡ is.sound.0 (Of e.call.process e.call.nth) = ap is.sound.0 cell in
    let next : suc e.call.nth ≡ length v.known.its.own = omega (arith, last) in
    let known : v.known.its.number ≡ seq_of w.memory (Of v.known.first e.call.nth) = local.number ∙ ap (last_number w.memory v.known.first) (sym next) in
    let anchor = is.sound.2.numbered.anchor in
    omega arith
