use Rattle.uni_small.proofs.Vocabulary.{GoesBy, List, Option, Reading, Some, Stage, [], ap, arith, length, length-take-le, nil_from_length, refl, set, subst, sym, take, take-length, take_more_set, ℕ, ◌++◌, ◌+◌, ◌∙◌, ◌∷◌, ◌≡◌}
use Rattle.uni_small.proofs.Going.{goes_zero, stage_after, of_after, goes_on}
use Rattle.uni_small.proofs.log.SmallShared.ask_all.Goals as goal

-- the words of the last invocation so far
abbrev asking : (tries s : ℕ) → (copy : List ℕ) → (seen : List (Option (List ℕ))) → (part : List ℕ) → Stage
asking tries s copy seen part = Reading tries s copy (seen ++ Some part ∷ [])

pub loop-k-init : goal.loop-k-init
loop-k-init g c = (refl, refl, (λ copy seen stage. goes_zero c.args.seat.now.me (asking c.args.tries c.args.s copy seen []) stage))

pub ask-requires-clause-table : goal.ask-requires-clause-table
ask-requires-clause-table g c = c.loop-k.invariant.0 ∙ c.requires.table

-- where no word of an invocation is loaded, its part is empty
started : (tries s r : ℕ) (copy : List ℕ) (seen : List (Option (List ℕ))) (part : List ℕ) (stage : Stage) → stage ≡ asking tries s copy seen part → length part ≡ 0 → stage ≡ asking tries s copy seen []
started tries s r copy seen part stage at none = at ∙ ap (asking tries s copy seen) (nil_from_length part none)

pub ask-requires-clause-of : goal.ask-requires-clause-of
ask-requires-clause-of g c =
    let copy = c.requires.stage.0 in
    let seen = c.requires.stage.1.0 in
    let start = started c.args.tries c.args.s c.args.r copy seen c.requires.stage.1.1.0 c.args.seat.now.me.0.known.local.stage c.requires.stage.1.1.1 c.requires.stage.1.1.3 in
    of_after c.args.seat.now.me c.loop-k.seat.me c.loop-k.k (asking c.args.tries c.args.s copy seen (take c.loop-k.k c.loop-k.invocation)) (c.loop-k.invariant.2 copy seen start) c.requires.of

pub ask-requires-clause-stage : goal.ask-requires-clause-stage
ask-requires-clause-stage g c =
    let copy = c.requires.stage.0 in
    let seen = c.requires.stage.1.0 in
    let start = started c.args.tries c.args.s c.args.r copy seen c.requires.stage.1.1.0 c.args.seat.now.me.0.known.local.stage c.requires.stage.1.1.1 c.requires.stage.1.1.3 in (
      copy,
      (
        seen,
        (
          take c.loop-k.k c.loop-k.invocation,
          stage_after c.args.seat.now.me c.loop-k.seat.me c.loop-k.k (asking c.args.tries c.args.s copy seen (take c.loop-k.k c.loop-k.invocation)) (c.loop-k.invariant.2 copy seen start),
          c.requires.stage.1.1.2,
          length-take-le c.loop-k.k c.loop-k.invocation (omega arith),
        ),
      ),
    )

pub loop-k-preserved : goal.loop-k-preserved
loop-k-preserved g c = (
  c.ask.ensures.same.0 ∙ c.loop-k.invariant.0,
  c.ask.ensures.same.1 ∙ c.loop-k.invariant.1,
  (λ copy seen stage.
      let k = c.loop-k.k in
      let words = c.loop-k.invocation in
      let was = c.loop-k.invariant.2 copy seen stage in
      let at = stage_after c.args.seat.now.me c.loop-k.seat.me k (asking c.args.tries c.args.s copy seen (take k words)) was in
      let more : take (k + 1) (set words k c.ask.result) ≡ take k words ++ c.ask.result ∷ [] = take_more_set words k c.ask.result (omega arith) in
      subst (λ xs. GoesBy c.args.seat.now.me (k + 1) (asking c.args.tries c.args.s copy seen xs) c.ask.new.seat.me) (sym more)
      (goes_on c.args.seat.now.me c.loop-k.seat.me k (asking c.args.tries c.args.s copy seen (take k words)) was c.ask.new.seat.me (asking c.args.tries c.args.s copy seen (take k words ++ c.ask.result ∷ [])) (c.ask.ensures.left copy seen (take k words) at))),
)

pub returns-clause-goes : goal.returns-clause-goes
returns-clause-goes g c copy seen stage =
    let words = c.loop-k.invocation in
    let end : c.loop-k.k ≡ length words = (let t = c.loop-k-test.false in let e = c.loop-k.auto.k-end in omega arith) in
    let whole : take c.loop-k.k words ≡ words = ap (λ k. take k words) end ∙ take-length words in
    subst (λ k. GoesBy c.args.seat.now.me k (asking c.args.tries c.args.s copy seen words) c.loop-k.seat.me) end
    (subst (λ xs. GoesBy c.args.seat.now.me c.loop-k.k (asking c.args.tries c.args.s copy seen xs) c.loop-k.seat.me) whole (c.loop-k.invariant.2 copy seen stage))
