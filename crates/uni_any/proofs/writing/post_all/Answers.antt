use Rattle.uni_any.proofs.Vocabulary.{Posting, Some, ap, arith, call_news, goes, inl, local_of, refl, sym, told_by, ◌∙◌, ◌≡◌}
use Rattle.std.proofs.lemmas.List.Elements.{All-pop}
use Rattle.triple_buffers.specs.Parties.{view_of}
use Rattle.uni_any.proofs.Goings.{gone_call, gone_made, gone_on, gone_posting, gone_whole}
use Rattle.uni_any.proofs.writing.post_all.Goals as goal

pub loop-r-init : goal.loop-r-init
loop-r-init g c = record {
  place = c.requires.place;
  number = refl;
  end = ap (λ k. k.processes) c.key.ensures;
  long = (let a = c.requires.owners.0 in omega arith);
  each = λ inv all. (all, inl (refl, refl));
  steps = omega arith;
}

pub post-requires-clause-place : goal.post-requires-clause-place
post-requires-clause-place g c = c.loop-r.invariant.place

pub post-requires-clause-few : goal.post-requires-clause-few
post-requires-clause-few g c =
    let o = c.requires.owners.1 in
    let gone = (c.loop-r.invariant.each o.0 o.1).1 in
    (let a = gone_made (view_of c.args.party.now) (view_of c.loop-r.party) (Posting o.0) c.loop-r.r gone in let b = c.requires.few in omega arith)

pub post-requires-clause-news : goal.post-requires-clause-news
post-requires-clause-news g c =
    let o = c.requires.owners.1 in
    let each = c.loop-r.invariant.each o.0 o.1 in
    let v = view_of c.args.party.now in
    let popped = All-pop (λ x. told_by x ≡ call_news (local_of v) o.0) c.loop-r.owners.items c.pop.new.self.items (Some c.in-Some.owner) c.in-Some.ensures.items each.0 in
    (o.0, gone_posting v (view_of c.loop-r.party) o.0 c.loop-r.r c.requires.stage each.1, popped.1 ∙ sym (gone_call v (view_of c.loop-r.party) (Posting o.0) c.loop-r.r each.1 o.0))

pub loop-r-preserved : goal.loop-r-preserved
loop-r-preserved g c =
    let i = c.loop-r.invariant in
    let v = view_of c.args.party.now in
    record {
      place = c.post.ensures.place.0;
      number = c.post.ensures.place.1 ∙ i.number;
      end = i.end;
      long = (let a = i.long in let b = c.in-Some.ensures.len in omega arith);
      each = λ inv all.
          let each = i.each inv all in
          let popped = All-pop (λ x. told_by x ≡ call_news (local_of v) inv) c.loop-r.owners.items c.pop.new.self.items (Some c.in-Some.owner) c.in-Some.ensures.items each.0 in
          let news = popped.1 ∙ sym (gone_call v (view_of c.loop-r.party) (Posting inv) c.loop-r.r each.1 inv) in
          (popped.0, gone_on v (view_of c.loop-r.party) (Posting inv) c.loop-r.r each.1 (view_of c.post.new.party) (c.post.ensures.told inv (gone_posting v (view_of c.loop-r.party) inv c.loop-r.r c.requires.stage each.1) news));
      steps = (let a = c.post.ensures.two_steps in let b = i.steps in omega arith);
    }

pub returns-clause-place : goal.returns-clause-place
returns-clause-place g c = (c.loop-r.invariant.place, c.loop-r.invariant.number)

pub returns-clause-left : goal.returns-clause-left
returns-clause-left g c inv all =
    let i = c.loop-r.invariant in
    let v = view_of c.args.party.now in
    let last : c.loop-r.r ≡ c.args.buffers.now.setup.about.processes = (let a = c.loop-r-test.false in let b = i.end in let d = i.long in omega arith) in
    gone_whole v (view_of c.loop-r.party) (Posting inv) c.loop-r.r (i.each inv all).1 (let a = c.requires.some in omega (arith, last)) ∙ (λ k. goes v (Posting inv (last k)))

pub returns-clause-steps : goal.returns-clause-steps
returns-clause-steps g c =
    let i = c.loop-r.invariant in
    (let a = c.loop-r-test.false in let b = i.end in let d = i.long in let e = i.steps in omega arith)
