-- Each row by a run from the fresh pair: the operations before it, the call that is in it, and the answers of both. Three rows no run from
-- there meets: they are shown from a restored state.
use mathlib.Core.Path.{refl}
use mathlib.Core.List.{List, [], ◌∷◌}
use Prim.Native.Nat.{ℕ}
use Rattle.serial.specs.Port.{Port, no_events, fresh}
use Rattle.runs.specs.Run.{Op, read, write, input, Answer, replied, sent, took}
use Rattle.vm_superio.specs.Original as original
use Rattle.vm_superio.specs.Beside.{restored, Shown, ShownWaiting, original_strange_iir, original_two_kinds, original_forgotten_data}
use Rattle.vm_superio.specs.Beside.{original_stale_data}
use Rattle.vm_superio.specs.Beside.{original_stale_transmitter, original_forgotten_transmitter, original_sends_again}
use Rattle.vm_superio.specs.Beside.{original_loop_transmitter}
use Rattle.vm_superio.specs.Beside.{original_loop_data_again, original_loop_data_quiet, original_data_again, original_data_quiet}
use Rattle.vm_superio.specs.Beside.{original_quiet_data, original_enables_data_again, original_quiet_transmitter}
use Rattle.vm_superio.specs.Beside.{original_enables_transmitter_again, original_keeps_fifo}
use Rattle.vm_superio.proofs.Computing.{computing}

abbrev FromFresh : List Op → Op → Answer → Answer → Type 0
FromFresh before call ours theirs = Shown (fresh 64) (original.fresh 64) before call ours theirs

-- A restored port: IER, MCR and IIR.
abbrev holding : ℕ → ℕ → ℕ → Port
holding ier mcr iir = record {
  settings = record { ier = ier; lcr = 0x03; mcr = mcr; scr = 0; dll = 0x0c; dlm = 0; fcr = 0 };
  iir = iir;
  lsr = 0x60;
  msr = 0xb0;
  waiting = [];
  size = 64;
}

abbrev Restoring : Port → Op → Answer → Answer → Type 0
Restoring p call ours theirs = Shown p (restored p) [] call ours theirs

abbrev byte : List ℕ
byte = 0x41 ∷ []

-- ---- IIR is read

pub shows_original_strange_iir : Restoring (holding 0x00 0x08 0x08) (read 2) (replied 0xc1 no_events 0) (replied 0xc8 no_events 0)
unfolding computing
shows_original_strange_iir = record { row = original_strange_iir refl; our = refl; their = refl }

pub shows_original_two_kinds : FromFresh (write 1 0x03 ∷ input byte ∷ []) (read 2) (replied 0xc4 no_events 0) (replied 0xc6 no_events 0)
unfolding computing
shows_original_two_kinds = record { row = original_two_kinds refl refl; our = refl; their = refl }

pub shows_original_forgotten_data : FromFresh (write 1 0x01 ∷ input byte ∷ read 2 ∷ []) (read 2) (replied 0xc4 no_events 0) (replied 0xc1 no_events 0)
unfolding computing
shows_original_forgotten_data = record { row = original_forgotten_data refl refl; our = refl; their = refl }

pub shows_original_stale_data : FromFresh (write 1 0x01 ∷ input byte ∷ write 1 0x00 ∷ []) (read 2) (replied 0xc1 no_events 0) (replied 0xc4 no_events 0)
unfolding computing
shows_original_stale_data = record { row = original_stale_data refl refl refl; our = refl; their = refl }

pub shows_original_stale_transmitter : FromFresh (write 1 0x02 ∷ write 1 0x00 ∷ []) (read 2) (replied 0xc1 no_events 0) (replied 0xc2 no_events 0)
unfolding computing
shows_original_stale_transmitter = record { row = original_stale_transmitter refl refl refl; our = refl; their = refl }

pub shows_original_forgotten_transmitter : FromFresh (write 1 0x03 ∷ input byte ∷ read 2 ∷ read 0 ∷ []) (read 2) (replied 0xc2 no_events 0) (replied 0xc1 no_events 0)
unfolding computing
shows_original_forgotten_transmitter = record { row = original_forgotten_transmitter refl refl refl; our = refl; their = refl }

-- ---- THR is written

pub shows_original_sends_again : FromFresh (write 1 0x03 ∷ input byte ∷ read 2 ∷ []) (write 0 0x42) (sent (0x42 ∷ []) no_events 0) (sent (0x42 ∷ []) no_events 1)
unfolding computing
shows_original_sends_again = record { row = original_sends_again refl refl refl; our = refl; their = refl }

pub shows_original_loop_transmitter : FromFresh (write 1 0x02 ∷ read 2 ∷ write 4 0x18 ∷ []) (write 0 0x42) (sent [] no_events 1) (sent [] no_events 0)
unfolding computing
shows_original_loop_transmitter = record { row = original_loop_transmitter refl refl refl; our = refl; their = refl }

pub shows_original_loop_data_again : FromFresh (write 1 0x01 ∷ write 4 0x18 ∷ write 0 0x41 ∷ read 2 ∷ []) (write 0 0x42) (sent [] no_events 0) (sent [] no_events 1)
unfolding computing
shows_original_loop_data_again = record { row = original_loop_data_again refl refl refl refl; our = refl; their = refl }

pub shows_original_loop_data_quiet : Restoring (holding 0x01 0x18 0x04) (write 0 0x42) (sent [] no_events 1) (sent [] no_events 0)
unfolding computing
shows_original_loop_data_quiet = record { row = original_loop_data_quiet refl refl refl; our = refl; their = refl }

-- ---- Bytes come over the line

pub shows_original_data_again : FromFresh (write 1 0x01 ∷ input byte ∷ read 2 ∷ []) (input byte) (took 1 0) (took 1 1)
unfolding computing
shows_original_data_again = record { row = original_data_again refl refl refl refl; our = refl; their = refl }

pub shows_original_data_quiet : Restoring (holding 0x01 0x08 0x04) (input byte) (took 1 1) (took 1 0)
unfolding computing
shows_original_data_quiet = record { row = original_data_quiet refl refl refl refl; our = refl; their = refl }

-- ---- IER is written

pub shows_original_quiet_data : FromFresh (write 1 0x01 ∷ input byte ∷ write 1 0x00 ∷ []) (write 1 0x01) (sent [] no_events 1) (sent [] no_events 0)
unfolding computing
shows_original_quiet_data = record { row = original_quiet_data refl refl; our = refl; their = refl }

pub shows_original_enables_data_again : FromFresh (write 1 0x01 ∷ input byte ∷ read 2 ∷ []) (write 1 0x01) (sent [] no_events 0) (sent [] no_events 1)
unfolding computing
shows_original_enables_data_again = record { row = original_enables_data_again refl refl; our = refl; their = refl }

pub shows_original_quiet_transmitter : FromFresh (write 1 0x02 ∷ write 1 0x00 ∷ []) (write 1 0x02) (sent [] no_events 1) (sent [] no_events 0)
unfolding computing
shows_original_quiet_transmitter = record { row = original_quiet_transmitter refl refl; our = refl; their = refl }

pub shows_original_enables_transmitter_again : FromFresh (write 1 0x03 ∷ input byte ∷ read 2 ∷ []) (write 1 0x02) (sent [] no_events 0) (sent [] no_events 1)
unfolding computing
shows_original_enables_transmitter_again = record { row = original_enables_transmitter_again refl refl; our = refl; their = refl }

-- ---- FCR is written

-- One byte waits, and ours throws it away; the original keeps it.
pub shows_original_keeps_fifo : ShownWaiting (fresh 64) (original.fresh 64) (input byte ∷ []) (write 2 0x02) [] byte
unfolding computing
shows_original_keeps_fifo = record { row = original_keeps_fifo refl refl; our = refl; their = refl }
