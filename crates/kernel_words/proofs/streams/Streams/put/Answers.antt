use Rattle.std.proofs.Common.{refl}
use Rattle.kernel_words.proofs.Cells.{written}
use Rattle.kernel_words.proofs.streams.Streams.put.Goals as goal

pub returns : goal.returns
returns c =
    written _ _ _ _ _ _ c.index-index.ensures.at c.index-index.ensures.within c.requires.tick refl refl refl c.cell_of.ensures
