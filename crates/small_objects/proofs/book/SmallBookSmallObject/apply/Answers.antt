use Rattle.small_objects.proofs.Books.{is_book, sum_fits}
use Rattle.small_objects.proofs.book.SmallBookSmallObject.apply.Goals as goal

pub total-requires : goal.total-requires
total-requires c = sum_fits c.args.state.now (is_book c.args.state.now c.requires.reached)
