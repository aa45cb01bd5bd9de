-- The list of differences is exact: every call on a sound port agrees with the chip or is in a row, and no call in a row agrees.
use mathlib.Core.Path.{refl}
use mathlib.Core.Logic.{◌⊎◌, inl}
use Prim.Native.Nat.{ℕ}
use native.Mathlib.Decide.{dec_lt, ℕ_discrete}
use lib.ListN.{length}
use Rattle.serial.specs.Port.{Port, Register, write_register, addressed, is_open, RBR_THR, IER, IIR_FCR, LCR, MCR, LSR, MSR, SCR, DLL, DLM}
use Rattle.serial.specs.Port.{reserved}
use Rattle.pc16550d.specs.Chip.{Op, read, write, input, trigger_level, write_mcr, chip_does}
use Rattle.pc16550d.specs.Chip as chip
use Rattle.pc16550d.specs.Compare.{device_does, chip_of, Sound, AgreesAt, Row, writes, RowAt}
use Rattle.pc16550d.proofs.Agreement.{same_map, quietly}
use Rattle.pc16550d.proofs.Reading.{read_complete, read_real}
use Rattle.pc16550d.proofs.Transmitting.{thr_write, thr_real}
use Rattle.pc16550d.proofs.Writing.{WriteAgrees, fcr_write, fcr_real, mcr_write, mcr_real}
use Rattle.pc16550d.proofs.Enabling.{ier_write, ier_real}
use Rattle.pc16550d.proofs.OnLine.{input_complete, input_real}

write_complete : (p : Port) → Sound p → (r : Register) (v : ℕ) → WriteAgrees p r v ⊎ Row p (writes r v)
unfolding chip_of write_register chip.write_register
write_complete p k RBR_THR v = thr_write p v k _ refl (dec_lt (length p.waiting) 16)
write_complete p k IER v = ier_write p v
write_complete p k IIR_FCR v = fcr_write p v _ _ refl refl (ℕ_discrete (trigger_level v) 1)
write_complete p k LCR v = inl (quietly p tt refl refl)
write_complete p k MCR v = mcr_write p v (ℕ_discrete (write_mcr (chip_of p).modem v).changes 0)
write_complete p k LSR v = inl (quietly p tt refl refl)
write_complete p k MSR v = inl (quietly p tt refl refl)
write_complete p k SCR v = inl (quietly p tt refl refl)
write_complete p k DLL v = inl (quietly p tt refl refl)
write_complete p k DLM v = inl (quietly p tt refl refl)
write_complete p k reserved v = inl (quietly p tt refl refl)

-- Complete: a call agrees or is in a row.
pub complete : (p : Port) → Sound p → (o : Op) → AgreesAt p o ⊎ RowAt p o
unfolding device_does chip_does chip_of
complete p k (read offset) = rw same_map (read_complete p k (addressed (is_open p) offset))
complete p k (write offset v) = rw same_map (write_complete p k (addressed (is_open p) offset) v)
complete p k (input bytes) = input_complete p k bytes

write_real : (p : Port) (r : Register) (v : ℕ) → Row p (writes r v) → WriteAgrees p r v → ⊥
write_real p RBR_THR v row = thr_real p v row
write_real p IER v row = ier_real p v row
write_real p IIR_FCR v row = fcr_real p v row
write_real p MCR v row = mcr_real p v row
write_real p LCR v row = elim row [ ]
write_real p LSR v row = elim row [ ]
write_real p MSR v row = elim row [ ]
write_real p SCR v row = elim row [ ]
write_real p DLL v row = elim row [ ]
write_real p DLM v row = elim row [ ]
write_real p reserved v row = elim row [ ]

-- Real: a call in a row does not agree.
pub real : (p : Port) (o : Op) → RowAt p o → AgreesAt p o → ⊥
unfolding device_does chip_does chip_of
real p (read offset) row a = read_real p (addressed (is_open p) offset) row (rw same_map at a)
real p (write offset v) row a = write_real p (addressed (is_open p) offset) v row (rw same_map at a)
real p (input bytes) row a = input_real p bytes row a
