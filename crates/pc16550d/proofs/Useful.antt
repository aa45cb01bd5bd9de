-- Runs that drivers make, from the fresh device: none of their calls is in a row, so all of them look alike.
use mathlib.Core.Path.{refl}
use Rattle.sidebyside.specs.Runs.{RowFree}
use Rattle.pc16550d.specs.Compare.{pair}
use Rattle.pc16550d.specs.Runs.{begins}
use Rattle.pc16550d.specs.Drivers.{linux_receives, linux_leaves_bytes, linux_prints, linux_prints_typed_at, linux_prints_sending, looks_twice}
use Rattle.pc16550d.specs.Drivers.{both_kinds, disables_and_enables, seabios_detects, loader_polls, empties_at_start, loop_test}
use Rattle.pc16550d.proofs.Computing.{computing}
use Rattle.pc16550d.proofs.RunTest.{testing, passes}

-- Linux's receive interrupt is served without meeting a row.
pub linux_receives_lem : RowFree pair begins linux_receives
unfolding computing testing
linux_receives_lem = passes linux_receives refl

-- Nor does it meet one where its handler leaves bytes.
pub linux_leaves_bytes_lem : RowFree pair begins linux_leaves_bytes
unfolding computing testing
linux_leaves_bytes_lem = passes linux_leaves_bytes refl

-- Linux's console prints without meeting a row.
pub linux_prints_lem : RowFree pair begins linux_prints
unfolding computing testing
linux_prints_lem = passes linux_prints refl

-- Nor does it while a key is pressed, nor while its transmitter's interrupt is in use.
pub linux_prints_typed_at_lem : RowFree pair begins linux_prints_typed_at
unfolding computing testing
linux_prints_typed_at_lem = passes linux_prints_typed_at refl

pub linux_prints_sending_lem : RowFree pair begins linux_prints_sending
unfolding computing testing
linux_prints_sending_lem = passes linux_prints_sending refl

-- IIR read twice, two kinds at once, a kind disabled and enabled again: no row is met.
pub looks_twice_lem : RowFree pair begins looks_twice
unfolding computing testing
looks_twice_lem = passes looks_twice refl

pub both_kinds_lem : RowFree pair begins both_kinds
unfolding computing testing
both_kinds_lem = passes both_kinds refl

pub disables_and_enables_lem : RowFree pair begins disables_and_enables
unfolding computing testing
disables_and_enables_lem = passes disables_and_enables refl

-- SeaBIOS finds the port without meeting a row.
pub seabios_detects_lem : RowFree pair begins seabios_detects
unfolding computing testing
seabios_detects_lem = passes seabios_detects refl

-- A boot loader sets up, writes and reads without meeting a row.
pub loader_polls_lem : RowFree pair begins loader_polls
unfolding computing testing
loader_polls_lem = passes loader_polls refl

-- A driver empties the FIFOs without meeting a row.
pub empties_at_start_lem : RowFree pair begins empties_at_start
unfolding computing testing
empties_at_start_lem = passes empties_at_start refl

-- A test in the loop meets no row.
pub loop_test_lem : RowFree pair begins loop_test
unfolding computing testing
loop_test_lem = passes loop_test refl
