-- The ports that runs from a fresh one reach, by what they look like. That these are exactly the ones is a theorem over runs.
use Rattle.std.specs.Prelude.{ℕ, ◌<◌, ◌≤◌, ◌≡◌, cond, length}
use Rattle.common.specs.Bytes.{Bytes}
use Rattle.common.specs.Lists.{some}
use Rattle.interrupts.specs.Interrupts.{settled}
use Rattle.serial.specs.Port.{Settings, Port, fcr_stored}

-- IER keeps four bits, FCR those that are remembered, the others eight.
pub record Written (s : Settings) : Type 0 where
  pub ier : s.ier < 16
  pub lcr : s.lcr < 256
  pub mcr : s.mcr < 256
  pub scr : s.scr < 256
  pub dll : s.dll < 256
  pub dlm : s.dlm < 256
  pub fcr : fcr_stored s.fcr ≡ s.fcr

-- IIR has a bit for each active kind, or says that there is none.
abbrev pub Settled : Port → Type 0
Settled p = p.iir ≡ settled p.settings.ier p.iir (some p.waiting)

-- LSR says whether a byte waits and that the transmitter is empty; MSR is never changed; no more bytes wait than there is room for.
pub record Reachable (size : ℕ) (p : Port) : Type 0 where
  pub settings : Written p.settings
  pub iir : Settled p
  pub lsr : p.lsr ≡ cond (some p.waiting) 0x61 0x60
  pub msr : p.msr ≡ 0xb0
  pub bytes : Bytes p.waiting
  pub fits : length p.waiting ≤ size
  pub sized : p.size ≡ size
