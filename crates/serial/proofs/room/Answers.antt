-- The answer is a law of `Receiving`.
use native.Mathlib.Omega.{arith}
use Rattle.serial.proofs.Receiving.{room_is}
use Rattle.serial.proofs.room.Goals as goal

pub returns : goal.returns
returns c = room_is _ _ _ (omega (arith, c.saturating_sub.ensures, c.size.ensures))
