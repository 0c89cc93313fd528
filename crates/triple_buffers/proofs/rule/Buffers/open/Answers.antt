use Rattle.triple_buffers.proofs.Vocabulary.{None, ShowsContents, first_sight, replicate, subst, sym, ◌*◌, ◌+◌, ◌∙◌, ◌≡◌}
use Rattle.atomic_table.specs.Table.{opening as starting}
use Rattle.triple_buffers.proofs.Opening.{opens_so}
use Rattle.triple_buffers.proofs.rule.Buffers.open.Goals as goal

pub vacant-requires : goal.vacant-requires
vacant-requires g c =
    let layout = c.args.layout in
    let n = layout.parties * layout.parties in
    let words : c.deref.result.now ≡ replicate (layout.words + n) 0 = c.deref.ensures.value ∙ c.in_ok-words.ensures.items_if_clones_equal (λ y same. same) in
    subst (λ ws. ShowsContents layout (g.P.BufferRule.holds c.args.about) (starting ws (replicate (3 * n) None) (first_sight layout (g.P.BufferRule.first c.args.about)))) (sym words)
    (opens_so layout (g.P.BufferRule.holds c.args.about) (g.P.BufferRule.first c.args.about) c.requires.small c.requires.rule)
