use Rattle.std.proofs.Common.{arith}
use Rattle.unicheck_run.proofs.Saying.{ok_then}
use Rattle.unicheck_run.proofs.answer.picture_of.Goals as goal

pub returns-in-Html-clause-page : goal.returns-in-Html-clause-page
returns-in-Html-clause-page g c = ok_then c.page_of_scene.result c.page_of_scene.ensures.page (λ page is form. (c.in_ok-scene.scene, c.in_ok-scene.ensures.title, is))

pub returns : goal.returns
returns g c = record {
  picture = ok_then c.svg_of_scene.result c.svg_of_scene.ensures.picture (λ svg is form. (c.in_ok-scene.scene, c.in_ok-scene.ensures.title, is));
  page = ok_then c.svg_of_scene.result c.svg_of_scene.ensures.picture (λ svg is form. absurd (c.in_default.not-Html form));
  many = λ refused. omega (arith, c.svg_of_scene.ensures.many refused, c.in_ok-scene.ensures.calls);
}
