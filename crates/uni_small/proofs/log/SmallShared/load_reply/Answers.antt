use Rattle.uni_small.proofs.Vocabulary.{GoesBy, IsLeft, Last, List, Me, ReplyEnds, Seen, View, [], ap, arith, length, length-set, length-take-le, local_of, refl, returns, set, subst, sym, take, take_all, take_more_set, version_in, went, with_local, ℕ, ◌++◌, ◌+◌, ◌-◌, ◌<◌, ◌∙◌, ◌∷◌, ◌≡◌}
use Rattle.uni_small.proofs.Ending.{left_more}
use Rattle.uni_small.proofs.Going.{goes_zero, stage_after, of_after, goes_on}
use Rattle.uni_small.proofs.log.SmallShared.load_reply.Goals as goal

pub loop-k-init : goal.loop-k-init
loop-k-init g c = (refl, refl, goes_zero c.args.seat.now.me (Last c.args.s []) c.requires.stage)

pub load_word-requires-clause-table : goal.load_word-requires-clause-table
load_word-requires-clause-table g c = c.loop-k.invariant.0 ∙ c.requires.table

pub load_word-requires-clause-of : goal.load_word-requires-clause-of
load_word-requires-clause-of g c = of_after c.args.seat.now.me c.loop-k.seat.me c.loop-k.k (Last c.args.s (take c.loop-k.k c.loop-k.reply)) c.loop-k.invariant.2 c.requires.of

pub load_word-requires-clause-stage : goal.load_word-requires-clause-stage
load_word-requires-clause-stage g c = (
  take c.loop-k.k c.loop-k.reply,
  stage_after c.args.seat.now.me c.loop-k.seat.me c.loop-k.k (Last c.args.s (take c.loop-k.k c.loop-k.reply)) c.loop-k.invariant.2,
  length-take-le c.loop-k.k c.loop-k.reply (omega arith),
)

pub loop-k-preserved : goal.loop-k-preserved
loop-k-preserved g c =
    let k = c.loop-k.k in
    let words = c.loop-k.reply in
    let at = stage_after c.args.seat.now.me c.loop-k.seat.me k (Last c.args.s (take k words)) c.loop-k.invariant.2 in
    let more : take (k + 1) (set words k c.load_word.result) ≡ take k words ++ c.load_word.result ∷ [] = take_more_set words k c.load_word.result (omega arith) in (
      c.load_word.ensures.same.0 ∙ c.loop-k.invariant.0,
      c.load_word.ensures.same.1 ∙ c.loop-k.invariant.1,
      subst (λ xs. GoesBy c.args.seat.now.me (k + 1) (Last c.args.s xs) c.load_word.new.seat.me) (sym more)
          (goes_on c.args.seat.now.me c.loop-k.seat.me k (Last c.args.s (take k words)) c.loop-k.invariant.2 c.load_word.new.seat.me (Last c.args.s (take k words ++ c.load_word.result ∷ [])) (c.load_word.ensures.left (take k words) at)),
    )

pub load_last-requires-clause-table : goal.load_last-requires-clause-table
load_last-requires-clause-table g c = c.loop-k.invariant.0 ∙ c.requires.table

pub load_last-requires-clause-of : goal.load_last-requires-clause-of
load_last-requires-clause-of g c = of_after c.args.seat.now.me c.loop-k.seat.me c.loop-k.k (Last c.args.s (take c.loop-k.k c.loop-k.reply)) c.loop-k.invariant.2 c.requires.of

pub load_last-requires-clause-stage : goal.load_last-requires-clause-stage
load_last-requires-clause-stage g c = (
  take c.loop-k.k c.loop-k.reply,
  stage_after c.args.seat.now.me c.loop-k.seat.me c.loop-k.k (Last c.args.s (take c.loop-k.k c.loop-k.reply)) c.loop-k.invariant.2,
  length-take-le c.loop-k.k c.loop-k.reply (omega arith) ∙ (let t = c.loop-k-test.false in let e = c.loop-k.auto.k-end in omega arith),
)

-- the last word
ended : {O : Type 0} (me me1 me2 : Me Seen (View O)) (s k wide x : ℕ) (words : List ℕ) → k + 1 ≡ wide → length words ≡ wide → GoesBy me k (Last s (take k words)) me1
    → IsLeft me1 (returns (local_of me1) s (take k words ++ x ∷ [])) me2 → ReplyEnds me s (set words k x) wide me2
ended me me1 me2 s k wide x words last long first next =
    let all : take k words ++ x ∷ [] ≡ set words k x = sym (take_more_set words k x (omega arith)) ∙ take_all (k + 1) (set words k x) (let l = length-set words k x in omega arith) in
    let whole = left_more me me1 me2 (λ l. returns l s (take k words ++ x ∷ [])) (went (local_of me) k (Last s (take k words))) first next in
    let count : (local_of me).steps + k + 1 ≡ (local_of me).steps + wide = omega arith in
    whole ∙ (λ i. (with_local me.0 (record (returns (local_of me) s (all i)) { steps = count i }), me.1))

pub returns-clause-left : goal.returns-clause-left
returns-clause-left g c =
    let at = stage_after c.args.seat.now.me c.loop-k.seat.me c.loop-k.k (Last c.args.s (take c.loop-k.k c.loop-k.reply)) c.loop-k.invariant.2 in
    let end : c.loop-k.k ≡ length c.args.reply.now - 1 = (let t = c.loop-k-test.false in let e = c.loop-k.auto.k-end in omega arith) in
    let wide = c.requires.inside.1 in
    let some = c.args.self.now.few.4 in
    subst (λ j. ReplyEnds c.args.seat.now.me c.args.s (set c.loop-k.reply j c.load_last.result) c.args.self.now.setup.sizes.reply c.load_last.new.seat.me) end
    (ended c.args.seat.now.me c.loop-k.seat.me c.load_last.new.seat.me c.args.s c.loop-k.k c.args.self.now.setup.sizes.reply c.load_last.result c.loop-k.reply (omega arith) (c.loop-k.auto.reply ∙ wide) c.loop-k.invariant.2
    (c.load_last.ensures.left (take c.loop-k.k c.loop-k.reply) at))

pub returns-clause-later : goal.returns-clause-later
returns-clause-later g c =
    let same : (local_of c.loop-k.seat.me).after ≡ (local_of c.args.seat.now.me).after = ap (λ (m : Me Seen (View _)). (local_of m).after) c.loop-k.invariant.2 in
    subst (λ v. v < version_in c.args.s) same c.load_last.ensures.later
