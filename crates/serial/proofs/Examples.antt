-- Runs of a fresh port of 64 bytes, worked out by hand and computed by antt.
use mathlib.Core.Path.{◌≡◌, refl}
use mathlib.Core.Bool.{cond}
use mathlib.Core.List.{List, [], ◌∷◌}
use Prim.Native.Nat.{ℕ, zero, suc}
use Rattle.interrupts.specs.Interrupts.{ier_stored, code, settled}
use Rattle.line_status.specs.LineStatus.{lsr_ready, lsr_after_read}
use Rattle.modem.specs.Modem.{is_loop, msr_read}
use Rattle.serial.specs.Port.{Port, Input, fresh, addressed, read_register, read_of, receives, write_ier, write_line, write_loop}
use Rattle.serial.specs.Port.{write_register, write_of, input_of}

-- read an offset; write a value at an offset; input from the line
data Access : Type 0 where
  r : ℕ → Access
  w : ℕ → ℕ → Access
  b : List ℕ → Access

-- the reply, the bytes sent, how many are taken, "full"; and how often the interrupt is raised
data Answer : Type 0 where
  reply taken : ℕ → ℕ → Answer
  sent : List ℕ → ℕ → Answer
  full : ℕ → Answer

answer_of : Input → Answer
answer_of i = cond i.full (full i.raises) (taken i.taken i.raises)

answers_of : Port → List Access → List Answer
answers_of p [] = []
answers_of p (r offset ∷ rest) = let o = read_of p offset in reply o.reply o.raises ∷ answers_of o.port rest
answers_of p (w offset value ∷ rest) = let o = write_of p offset value in sent o.sent o.raises ∷ answers_of o.port rest
answers_of p (b bytes ∷ rest) = let i = input_of p bytes in answer_of i ∷ answers_of i.port rest

abbrev F : List Access → List Answer
F = answers_of (fresh 64)

-- n bytes, n - 1 down to 0
countdown : ℕ → List ℕ
countdown zero = []
countdown (suc n) = n ∷ countdown n

record Worked : Type 0 where
  -- nothing is pending
  fresh : F (r 2 ∷ []) ≡ reply 0xc1 0 ∷ []
  -- three bytes come from the line, with one interrupt, and are read
  fetched :
      F (w 1 0x01 ∷ b (0x61 ∷ 0x62 ∷ 0x63 ∷ []) ∷ r 5 ∷ r 2 ∷ r 0 ∷ r 0 ∷ r 0 ∷ r 5 ∷ [])
      ≡ sent [] 0 ∷ taken 3 1 ∷ reply 0x61 0 ∷ reply 0xc4 0 ∷ reply 0x61 0 ∷ reply 0x62 0 ∷ reply 0x63 0 ∷ reply 0x60 0 ∷ []
  -- 64 bytes wait at most; an input of none is never refused
  filled :
      F (b (countdown 65) ∷ b [] ∷ b (1 ∷ []) ∷ r 0 ∷ b (1 ∷ 2 ∷ []) ∷ [])
      ≡ taken 64 0 ∷ taken 0 0 ∷ full 0 ∷ reply 64 0 ∷ taken 1 0 ∷ []
  -- in the loop the modem's inputs follow its outputs
  looped :
      F (w 4 0x10 ∷ r 6 ∷ w 4 0x18 ∷ r 6 ∷ w 4 0x13 ∷ r 6 ∷ [])
      ≡ sent [] 0 ∷ reply 0x00 0 ∷ sent [] 0 ∷ reply 0x80 0 ∷ sent [] 0 ∷ reply 0x30 0 ∷ []
  -- with DLAB offsets 0 and 1 are the divisor
  divided : F (w 3 0x80 ∷ w 1 0x12 ∷ r 0 ∷ r 1 ∷ []) ≡ sent [] 0 ∷ sent [] 0 ∷ reply 0x0c 0 ∷ reply 0x12 0 ∷ []
  -- in the loop two bytes come back in order, with one interrupt, and then none is left
  returned :
      F (w 1 0x01 ∷ w 4 0x10 ∷ w 0 7 ∷ w 0 8 ∷ r 0 ∷ r 0 ∷ r 0 ∷ [])
      ≡ sent [] 0 ∷ sent [] 0 ∷ sent [] 1 ∷ sent [] 0 ∷ reply 7 0 ∷ reply 8 0 ∷ reply 0 0 ∷ []
  -- the transmitter is empty as it is enabled; a byte goes out, with one interrupt
  sends : F (w 1 0x02 ∷ r 2 ∷ w 0 0x41 ∷ w 0 0x42 ∷ r 2 ∷ []) ≡ sent [] 1 ∷ reply 0xc2 0 ∷ sent (0x41 ∷ []) 1 ∷ sent (0x42 ∷ []) 0 ∷ reply 0xc2 0 ∷ []
  -- both are enabled while a byte waits, with two interrupts; then off and on again, with two more. Received data comes first, and goes
  -- with the byte
  enabled :
      F (b (0x61 ∷ []) ∷ w 1 0x03 ∷ w 1 0x00 ∷ r 2 ∷ w 1 0x03 ∷ r 2 ∷ r 2 ∷ r 0 ∷ r 2 ∷ r 2 ∷ [])
      ≡ taken 1 0 ∷ sent [] 2 ∷ sent [] 0 ∷ reply 0xc1 0 ∷ sent [] 2 ∷ reply 0xc4 0 ∷ reply 0xc4 0 ∷ reply 0x61 0 ∷ reply 0xc2 0 ∷ reply 0xc1 0 ∷ []
  -- one of two bytes is read: received data stays pending
  remembered : F (w 1 0x01 ∷ b (1 ∷ 2 ∷ []) ∷ r 0 ∷ r 2 ∷ b (3 ∷ []) ∷ []) ≡ sent [] 0 ∷ taken 2 1 ∷ reply 1 0 ∷ reply 0xc4 0 ∷ taken 1 0 ∷ []

worked : Worked
unfolding answers_of answer_of countdown addressed read_register write_register receives write_ier write_line write_loop input_of ier_stored code settled lsr_ready lsr_after_read is_loop msr_read
worked = record { fresh = refl; fetched = refl; filled = refl; looped = refl; divided = refl; returned = refl; sends = refl; enabled = refl; remembered = refl }
