use Rattle.uni_small.proofs.Vocabulary.{GoesBy, Idle, List, Returned, [], ap, arith, length, length-take-le, refl, slice_index, subst, sym, take, take-length, take_more, ◌++◌, ◌+◌, ◌∙◌, ◌∷◌, ◌≡◌}
use Rattle.uni_small.proofs.Going.{goes_zero, own_after, stage_after, of_after, goes_on}
use Rattle.uni_small.proofs.log.SmallShared.store_argument.Goals as goal

pub loop-k-init : goal.loop-k-init
loop-k-init g c = (refl, refl, goes_zero c.args.seat.now.me (Idle []) c.requires.stage)

pub store_word-requires-clause-table : goal.store_word-requires-clause-table
store_word-requires-clause-table g c = c.loop-k.invariant.0 ∙ c.requires.table

pub store_word-requires-clause-of : goal.store_word-requires-clause-of
store_word-requires-clause-of g c = of_after c.args.seat.now.me c.loop-k.seat.me c.loop-k.k (Idle (take c.loop-k.k c.args.invocation.now)) c.loop-k.invariant.2 c.requires.of

pub store_word-requires-clause-stage : goal.store_word-requires-clause-stage
store_word-requires-clause-stage g c = (
  take c.loop-k.k c.args.invocation.now,
  stage_after c.args.seat.now.me c.loop-k.seat.me c.loop-k.k (Idle (take c.loop-k.k c.args.invocation.now)) c.loop-k.invariant.2,
  length-take-le c.loop-k.k c.args.invocation.now (omega arith),
)

pub store_word-requires-clause-room : goal.store_word-requires-clause-room
store_word-requires-clause-room g c =
    let same = ap (λ (xs : List Returned). length xs) (own_after c.args.seat.now.me c.loop-k.seat.me c.loop-k.k (Idle (take c.loop-k.k c.args.invocation.now)) c.loop-k.invariant.2) in
    let few = c.requires.calls in omega arith

pub loop-k-preserved : goal.loop-k-preserved
loop-k-preserved g c =
    let k = c.loop-k.k in
    let words = c.args.invocation.now in
    let at = stage_after c.args.seat.now.me c.loop-k.seat.me k (Idle (take k words)) c.loop-k.invariant.2 in
    let more : take (k + 1) words ≡ take k words ++ slice_index words k ∷ [] = take_more words k 0 (omega arith) in (
      c.store_word.ensures.same.0 ∙ c.loop-k.invariant.0,
      c.store_word.ensures.same.1 ∙ c.loop-k.invariant.1,
      subst (λ xs. GoesBy c.args.seat.now.me (k + 1) (Idle xs) c.store_word.new.seat.me) (sym more)
          (goes_on c.args.seat.now.me c.loop-k.seat.me k (Idle (take k words)) c.loop-k.invariant.2 c.store_word.new.seat.me (Idle (take k words ++ slice_index words k ∷ [])) (c.store_word.ensures.left (take k words) at)),
    )

pub returns-clause-goes : goal.returns-clause-goes
returns-clause-goes g c =
    let words = c.args.invocation.now in
    let end : c.loop-k.k ≡ length words = (let t = c.loop-k-test.false in let e = c.loop-k.auto.k-end in omega arith) in
    subst (λ k. GoesBy c.args.seat.now.me k (Idle words) c.loop-k.seat.me) end
    (subst (λ xs. GoesBy c.args.seat.now.me c.loop-k.k (Idle xs) c.loop-k.seat.me) (ap (λ k. take k words) end ∙ take-length words) c.loop-k.invariant.2)
