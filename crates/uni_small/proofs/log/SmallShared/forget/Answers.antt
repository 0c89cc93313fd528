use Rattle.uni_small.proofs.Vocabulary.{All-set, HasInvocation, None, Seen, ap, arith, due_at, false, inl, inr, lt_cases, map, number_cases, refl, seen_in, slice_index_or, slice_set, ◌∙◌, ◌≡◌}
use Rattle.uni_small.proofs.Lists.{due-cleared, due-set}
use Rattle.uni_small.proofs.Rooms.{map_set, seen_none}
use Rattle.uni_small.proofs.log.SmallShared.forget.Goals as goal

pub loop-r-init : goal.loop-r-init
loop-r-init g c = ((λ q beside. c.requires.quiet q (elim beside [ inl sooner ↦ inl sooner | inr out ↦ out ])), c.requires.room)

pub loop-r-preserved : goal.loop-r-preserved
loop-r-preserved g c =
    let seen = c.loop-r.seen in
    let r = c.loop-r.r in
    let new : Seen = record { due = false; invocation = (slice_index_or seen r c.index-seen-r.result).invocation } in
    let cleared : map seen_in (slice_set seen r new) ≡ slice_set (map seen_in seen) r None = map_set seen_in seen r new ∙ ap (slice_set (map seen_in seen) r) (seen_none new refl) in (
      (λ q beside. ap (λ xs. due_at xs q) cleared ∙ elim (number_cases q r) [
        | inl here ↦ ap (due_at (slice_set (map seen_in seen) r None)) here.0 ∙ due-cleared (map seen_in seen) r
        | inr other ↦ due-set (map seen_in seen) r q None other.0 ∙ c.loop-r.invariant.0 q (elim beside [ inl sooner ↦ inl (let o = other.0 in omega (arith, sooner, o)) | inr out ↦ inr out ])
      ]),
      All-set (HasInvocation c.args.self.now.setup.sizes) seen r new (c.loop-r.invariant.1 r c.index-seen-r.result (omega arith)) c.loop-r.invariant.1,
    )

pub returns-clause-none : goal.returns-clause-none
returns-clause-none g c q = c.loop-r.invariant.0 q (elim (lt_cases q c.loop-r.r) [ inl less ↦ inl less.0 | inr more ↦ inr (inr (let m = more.0 in let t = c.loop-r-test.false in omega (arith, m, t))) ])
