-- `put_version` meets its contract. Two stores leave the bytes of the version.
use mathlib.Core.Path.{refl}
use Rattle.common.specs.Bytes.{bytes_of}
use Rattle.clock_form.proofs.put_version.Goals as goal

pub returns : goal.returns
unfolding bytes_of
returns c = rw c.to_le_bytes-bytes.ensures refl
