-- A port that one of the two saved and the other restores: what the new one tells the guest.
use Rattle.std.specs.Prelude.{◌≡◌, true, false, ℕ, ◌≤◌}
use Rattle.common.specs.Lists.{some}
use Rattle.interrupts.specs.Interrupts.{received_data, transmitter_empty, raised_again}
use Rattle.serial.specs.Port.{Port, IER, active}
use Rattle.vm_superio.specs.Original.{Original, is_told}
use Rattle.vm_superio.specs.Original as original
use Rattle.vm_superio.specs.Beside.{restored, enables, marks_data, marks_transmitter, Row, writes}

-- What the original saved, as our port; FCR, which it does not keep, is 0. The other way it is `restored`.
abbrev pub ported : Original → Port
ported q =
    let s = q.settings in
    record {
      settings = record { ier = s.ier; lcr = s.lcr; mcr = s.mcr; scr = s.scr; dll = s.dll; dlm = s.dlm; fcr = 0 };
      iir = q.iir;
      lsr = q.lsr;
      msr = q.msr;
      waiting = q.waiting;
      size = q.size;
    }

-- How often ours raises when it restores.
abbrev pub raises : Port → ℕ
raises p = raised_again p.settings.ier p.iir (some p.waiting)

-- To ours: what the original would raise when it restores its own port, ours raises too.
pub record NoneLost (q : Original) : Type 0 where
  pub received : is_told q original.received_data ≡ true → active (ported q) received_data ≡ true
  pub transmitter : is_told q original.transmitter_empty ≡ true → active (ported q) transmitter_empty ≡ true
  pub raises : original.raised_again q ≤ raises (ported q)

-- Back: what is active in ours the original raises when it restores. What is disabled is not marked, and a write of IER raises as in ours.
pub record NoneLostBack (p : Port) : Type 0 where
  pub received : active p received_data ≡ true → is_told (restored p) original.received_data ≡ true
  pub transmitter : active p transmitter_empty ≡ true → is_told (restored p) original.transmitter_empty ≡ true
  pub raises : original.raised_again (restored p) ≡ raises p
  pub received_disabled : enables p received_data ≡ false → marks_data (restored p) ≡ false
  pub transmitter_disabled : enables p transmitter_empty ≡ false → marks_transmitter (restored p) ≡ false
  pub enabling : (v : ℕ) → Row p (restored p) (writes IER v) → ⊥
