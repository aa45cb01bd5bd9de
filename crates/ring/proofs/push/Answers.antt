-- Each answer is a law of `Laws`.
use Rattle.ring.specs.Ring.{places_here}
use Rattle.ring.proofs.Laws.{put_none, put_more}
use Rattle.ring.proofs.push.Goals as goal

pub returns : goal.returns
returns c = rw c.place.ensures (put_more places_here _ (put_none places_here _ _ _) c.requires c.told-ring)
