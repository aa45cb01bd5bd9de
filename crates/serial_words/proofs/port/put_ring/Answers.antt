-- Two parts, one behind the other.
use Rattle.words.proofs.Saying.{both, instead}
use Rattle.serial_words.proofs.Saying.{in_two_parts}
use Rattle.serial_words.proofs.port.put_ring.Goals as goal

pub returns-clause-says : goal.returns-clause-says
returns-clause-says c =
    let a = c.args in
    let r = c.requires in
    instead _ (in_two_parts a.ring.now a.start a.count c.told-ring r.start_lt_places r.count_le_places c.min-first.ensures)
    (both _ _ _ c.put_bytes.ensures.says c.put_bytes-2.ensures.says)
