-- `rows::area::word_at` meets its contract: the four bytes make the word, whether it lies whole in the area or not.
use borrow.Author.Rules.{rules}
use Rattle.rows.specs.Area.{word_at}
use Rattle.rows.proofs.area.word_at.Goals as goal

pub returns-then-i-area : goal.returns-then-i-area
unfolding word_at
returns-then-i-area c = search rules

pub returns : goal.returns
unfolding word_at
returns c = search rules
