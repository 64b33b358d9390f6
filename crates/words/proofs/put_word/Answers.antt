-- `words::put_word` meets its contract. Assumes nothing.
use Rattle.std.proofs.Common.{ap, ◌∙◌, List, ℕ}
use Rattle.area.specs.Areas.{put}
use Rattle.words.proofs.WordBytes.{bytes_of_word}
use Rattle.words.proofs.put_word.Goals as goal

pub returns : goal.returns
returns c =
    c.put.ensures.output
    ∙ ap (λ (l : List ℕ). put c.args.at l c.args.bytes.now) (c.to_le_bytes.ensures ∙ bytes_of_word c.args.value)
