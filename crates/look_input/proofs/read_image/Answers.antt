-- `look_input::read_image` meets its contract: the first block stays where the others are read. Assumes nothing.
use borrow.Author.Rules.{rules}
use Rattle.look_input.proofs.Reading.{image_read}
use Rattle.look_input.proofs.read_image.Goals as goal

pub returns : goal.returns
returns c =
    let b = c.in_ok-size.ensures in
    image_read _ _ _ _ _ b.got b.within.0 b.within.1 (search rules) c.image_got.ensures
