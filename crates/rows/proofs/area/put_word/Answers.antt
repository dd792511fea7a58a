-- The four bytes are stored one behind the other. Assumes nothing.
use Rattle.rows.proofs.Told.{stored_told}
use Rattle.rows.proofs.area.put_word.Goals as goal

pub returns : goal.returns
returns c =
    let given = c.args in
    stored_told given.area.now given.row given.word given.x c.place_of-i.ensures c.to_be_bytes.ensures
    c.put.ensures c.put-2.ensures c.put-3.ensures c.put-4.ensures
